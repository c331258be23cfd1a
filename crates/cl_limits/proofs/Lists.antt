-- Lists of counts, by the number of a function.
use Rattle.std.proofs.Common.{◌≡◌, ℕ, zero, suc, ◌≤◌, ◌<◌, min, Bool, true, false, List, [], ◌∷◌, length, map, get_or}
use Rattle.std.proofs.Common.{set, replicate, refl, ap, sym, ◌∙◌, arith, if◌then◌else◌, length-set, get_or-set_same}
use Rattle.std.proofs.Common.{get_or-set_other}

pub chosen : {A : Type 0} (b : Bool) (x y : A) → b ≡ true → (if b then x else y) ≡ x
chosen true x y h = refl
chosen false x y h = absurd cc

pub not_chosen : {A : Type 0} (b : Bool) (x y : A) → b ≡ false → (if b then x else y) ≡ y
not_chosen true x y h = absurd cc
not_chosen false x y h = refl

abbrev zeros : ℕ → List ℕ
zeros n = replicate n 0

pub zeros_at : (n f : ℕ) → get_or (zeros n) f 0 ≡ 0
zeros_at zero f = refl
zeros_at (suc n) zero = refl
zeros_at (suc n) (suc f) = zeros_at n f

pub zeros_length : (n : ℕ) → length (zeros n) ≡ n
zeros_length zero = refl
zeros_length (suc n) = ap suc (zeros_length n)

pub beyond : (xs : List ℕ) (f : ℕ) → length xs ≤ f → get_or xs f 0 ≡ 0
beyond [] f h = refl
beyond (x ∷ xs) zero h = absurd (omega arith)
beyond (x ∷ xs) (suc f) h = beyond xs f (omega arith)

pub capped_at : (cap : ℕ) (xs : List ℕ) (f : ℕ) → get_or (map (λ n. min n cap) xs) f 0 ≡ min (get_or xs f 0) cap
capped_at cap [] f = omega arith
capped_at cap (x ∷ xs) zero = refl
capped_at cap (x ∷ xs) (suc f) = capped_at cap xs f

pub capped_length : (cap : ℕ) (xs : List ℕ) → length (map (λ n. min n cap) xs) ≡ length xs
capped_length cap [] = refl
capped_length cap (x ∷ xs) = ap suc (capped_length cap xs)

pub set_length : (b : Bool) (xs : List ℕ) (i v : ℕ) → length (if b then set xs i v else xs) ≡ length xs
set_length true xs i v = length-set xs i v
set_length false xs i v = refl

pub set_here : (b : Bool) (xs : List ℕ) (i v f : ℕ) → b ≡ true → i ≡ f → f < length xs →
    get_or (if b then set xs i v else xs) f 0 ≡ v
set_here true xs i v f t e h = ap (λ k. get_or (set xs i v) k 0) (sym e) ∙ get_or-set_same xs i v 0 (omega arith)
set_here false xs i v f t e h = absurd cc

pub set_elsewhere : (b : Bool) (xs : List ℕ) (i v f : ℕ) → (i ≡ f → ⊥) →
    get_or (if b then set xs i v else xs) f 0 ≡ get_or xs f 0
set_elsewhere true xs i v f e = get_or-set_other xs i f v 0 (λ k. e (sym k))
set_elsewhere false xs i v f e = refl

pub capped_zero : (n cap : ℕ) → n ≡ 0 → n ≡ min 0 cap
capped_zero n cap h = omega arith
