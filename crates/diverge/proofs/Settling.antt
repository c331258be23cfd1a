-- Rounds until one adds nothing.
use Rattle.std.proofs.Common.{◌≡◌, ℕ, zero, suc, ◌+◌, ◌<◌, ◌≤◌, Bool, true, false, if◌then◌else◌, refl, ap, sym, ◌∙◌}
use Rattle.std.proofs.Common.{arith, subst}
use Rattle.cl_model.specs.Tree.{Program}
use Rattle.diverge.specs.Known.{State}
use Rattle.diverge.specs.Rounds.{start, round, rounds, round_limit, known_of}
use Rattle.diverge.proofs.Ending.{all_lacking, counts, fewer, start_lacking}

same_or : (program : Program) (k n : ℕ) (t : State) (b : Bool) → t.grew ≡ b → all_lacking t.rows + counts b ≤ k →
    all_lacking t.rows + counts b ≤ n →
    (all_lacking t.rows < k → all_lacking t.rows < n → rounds program k t ≡ rounds program n t)
    → (if b then rounds program k t else t) ≡ (if b then rounds program n t else t)
same_or program k n t true h le le' more = more (omega (arith, le)) (omega (arith, le'))
same_or program k n t false h le le' more = refl

-- so many rounds come to the same as so many others, where both suffice
rounds_same : (program : Program) (k n : ℕ) (s : State) → all_lacking s.rows < k → all_lacking s.rows < n →
    rounds program k s ≡ rounds program n s
rounds_same program zero n s lt lt' = absurd (omega (arith, lt))
rounds_same program (suc k) zero s lt lt' = absurd (omega (arith, lt'))
rounds_same program (suc k) (suc n) s lt lt' =
    let t = round program s in
    let less = fewer program s in
    same_or program k n t t.grew refl (omega (arith, lt, less)) (omega (arith, lt', less)) (rounds_same program k n t)

-- as many as suffice for a state
abbrev pub enough : State → ℕ
enough s = suc (all_lacking s.rows)

pub enough_first : (program : Program) (s : State) → s ≡ start program → rounds program (enough s) s ≡ known_of program
enough_first program s e =
    ap (λ (u : State). rounds program (enough u) u) e ∙
    (let few = start_lacking program.functions in rounds_same program (enough (start program)) (round_limit program)
    (start program) (omega arith) (omega (arith, few)))

split : (program : Program) (k : ℕ) (s t : State) (b : Bool) → t ≡ round program s → t.grew ≡ b →
    rounds program (suc k) s ≡ (if b then rounds program k t else t)
split program k s t b h g =
    ap (λ (u : State). if u.grew then rounds program k u else u) (sym h) ∙
    ap (λ c. if c then rounds program k t else t) g

less_after : (program : Program) (s t : State) (b : Bool) → t ≡ round program s → t.grew ≡ b →
    all_lacking t.rows + counts b ≤ all_lacking s.rows
less_after program s t b h g =
    let P : Bool → Type 0 = λ c. all_lacking t.rows + counts c ≤ all_lacking s.rows in
    let Q : State → Type 0 = λ u. all_lacking u.rows + counts u.grew ≤ all_lacking s.rows in
    subst P g (subst Q (sym h) (fewer program s))

-- a round that adds something leaves fewer
pub less_left : (program : Program) (s t : State) → t ≡ round program s → t.grew ≡ true →
    all_lacking t.rows < all_lacking s.rows
less_left program s t h g = let less = less_after program s t true h g in omega (arith, less)

-- a round that adds something, with the rounds behind it
pub enough_after : (program : Program) (s t r : State) → t ≡ round program s → t.grew ≡ true →
    rounds program (enough s) s ≡ r → rounds program (enough t) t ≡ r
enough_after program s t r h g k =
    let less = less_left program s t h g in
    rounds_same program (enough t) (all_lacking s.rows) t (omega arith) less ∙
    (sym (split program (all_lacking s.rows) s t true h g) ∙ k)

-- one that adds nothing
pub enough_last : (program : Program) (s t r : State) → t ≡ round program s → t.grew ≡ false →
    rounds program (enough s) s ≡ r → t ≡ r
enough_last program s t r h g k = sym (split program (all_lacking s.rows) s t false h g) ∙ k
