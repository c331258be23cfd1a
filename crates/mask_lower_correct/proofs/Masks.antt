-- Tests on masks, and tasks by masks.
use Rattle.std.proofs.Common.{◌≡◌, ℕ, zero, suc, ◌<◌, List, length, refl, sym, ap, ap₂, ◌∙◌, ⊎_elim, arith, cond}
use Rattle.std.specs.Prelude.{slice_index_or, ◌&&◌, ◌||◌, not}
use Rattle.std.specs.Prelude.{Bool as Test, true, false}
use Rattle.std.proofs.lemmas.Bool.{cases_eq, cases_Bool, true≢false, or_left, or_right}
use Rattle.kir.specs.Places.{Tasks}
use Rattle.lane_code.specs.Registers.{is_some_set}
use Rattle.lane_laws.proofs.Reading.{some_set_is, none_set_is}
use Rattle.group_moves.specs.Lanes.{some_below}

-- ---- tests on masks

-- some lane below n is set where one is
pub some_there : (n : ℕ) (m : ℕ → Test) (l : ℕ) → l < n → m l ≡ true → some_below n m ≡ true
some_there zero m l lt e = absurd (omega arith)
some_there (suc n) m l lt e = ⊎_elim (λ same. or_right (some_below n m) (m n) (ap m (sym same) ∙ e))
    (λ ne. or_left (some_below n m) (m n) (some_there n m l (omega arith) e)) (cases_eq l n)

pub none_there : (n : ℕ) (m : ℕ → Test) → ((l : ℕ) → l < n → m l ≡ false) → some_below n m ≡ false
none_there zero m none = refl
none_there (suc n) m none = ap₂ (λ x y. x || y) (none_there n m (λ l lt. none l (omega arith))) (none n (omega arith))

pub none_below : (n : ℕ) (m : ℕ → Test) → some_below n m ≡ false → (l : ℕ) → l < n → m l ≡ false
none_below n m e l lt = ⊎_elim (λ t. absurd (true≢false (sym (some_there n m l lt t) ∙ e))) (λ f. f) (cases_Bool (m l))

-- what a step asks of a mask is asked of its lanes
pub some_is : (n : ℕ) (mask : List Test) (m : ℕ → Test) → length mask ≡ n →
    ((l : ℕ) → l < n → slice_index_or mask l false ≡ m l) → is_some_set mask ≡ some_below n m
some_is n mask m len same = go (is_some_set mask) refl
  where
    go : (b : Test) → is_some_set mask ≡ b → is_some_set mask ≡ some_below n m
    go true e = let one = some_set_is mask e in
        e ∙ sym (some_there n m one.0 (let w = one.1 in
        omega arith) (sym (same one.0 (let w = one.1 in omega arith)) ∙ one.2))
    go false e = e ∙ sym (none_there n m (λ l lt. sym (same l lt) ∙ none_set_is mask e l))

-- a lane of `no` has answered 0, and is none of `yes`
pub no_lane : (a y : Test) → (a && not (a && y)) ≡ true → (a ≡ true) × (y ≡ false)
no_lane true true e = absurd (true≢false (sym e))
no_lane true false e = (refl, refl)
no_lane false y e = absurd (true≢false (sym e))

pub and_false : (a y : Test) → y ≡ false → (a && y) ≡ false
and_false true y e = e
and_false false y e = refl

-- where the lanes stand behind both branches
pub branch_done : (a y : Test) (x z : Tasks) → a ≡ true → cond (a && not (a && y)) x (cond (a && y) x z) ≡ x
branch_done true true x z e = refl
branch_done true false x z e = refl
branch_done false y x z e = absurd (true≢false (sym e))

pub branch_idle : (a y : Test) (x z u : Tasks) → a ≡ false →
    cond (a && not (a && y)) x (cond (a && y) x (cond a z u)) ≡ u
branch_idle true y x z u e = absurd (true≢false e)
branch_idle false y x z u e = refl

pub and_same : (b : Test) → (b && b) ≡ b
and_same true = refl
and_same false = refl

pub flip_cond : {A : Type 0} → (b : Test) (x y : A) → cond b x y ≡ cond (not b) y x
flip_cond true x y = refl
flip_cond false x y = refl

pub standing : (b : Test) (x task : Tasks) → (b ≡ true → task ≡ x) → task ≡ cond b x task
standing true x task h = h refl
standing false x task h = refl
