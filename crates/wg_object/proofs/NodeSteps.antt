-- A node by its number.
use Rattle.std.proofs.Common.{◌≡◌, ℕ, zero, suc, ◌-◌, ◌<◌, List, Option, Some, refl, ap, ◌∙◌, arith, eqb}
use Rattle.std.proofs.Common.{false}
use Rattle.lane_code.specs.Program.{work_of, Work, Works}
use Rattle.lane_code.specs.Program as work
use Rattle.wg_object.specs.Reading.{byte_at, eight_at, works_at, seq_at, vote_at, loop_at, items_work_at, work_with}
use Rattle.wg_object.specs.Reading.{work_at}
use Rattle.std.proofs.lemmas.Bool.{ne_eqb}

-- one deeper
deeper : (d n : ℕ) (bytes rest : List ℕ) → 0 < d → (n, rest) ≡ byte_at bytes →
    work_at d bytes ≡ work_with (work_at (d - 1)) (bytes)
unfolding work_at
deeper zero n bytes rest lt e = absurd (omega arith)
deeper (suc k) n bytes rest lt e =
    let k1 : suc k - 1 ≡ k = omega arith in rw k1 refl

pub at_seq : (d n : ℕ) (bytes rest : List ℕ) → 0 < d → (n, rest) ≡ byte_at bytes → n ≡ 1 →
    work_at d bytes ≡ seq_at (work_at (d - 1)) rest
unfolding work_with
at_seq d n bytes rest lt e is = deeper d n bytes rest lt e ∙ rw (← e, is) refl

pub at_vote : (d n : ℕ) (bytes rest : List ℕ) → 0 < d → (n, rest) ≡ byte_at bytes → n ≡ 2 →
    work_at d bytes ≡ vote_at (work_at (d - 1)) rest
unfolding work_with
at_vote d n bytes rest lt e is = deeper d n bytes rest lt e ∙ rw (← e, is) refl

pub at_loop : (d n : ℕ) (bytes rest : List ℕ) → 0 < d → (n, rest) ≡ byte_at bytes → n ≡ 3 →
    work_at d bytes ≡ loop_at (work_at (d - 1)) rest
unfolding work_with
at_loop d n bytes rest lt e is = deeper d n bytes rest lt e ∙ rw (← e, is) refl

pub at_items : (d n : ℕ) (bytes rest : List ℕ) → 0 < d → (n, rest) ≡ byte_at bytes → (n ≡ 1 → ⊥) → (n ≡ 2 → ⊥) →
    (n ≡ 3 → ⊥) → work_at d bytes ≡ items_work_at rest
unfolding work_with
at_items d n bytes rest lt e one two three =
    let a : eqb n 1 ≡ false = ne_eqb n 1 one in
    let b : eqb n 2 ≡ false = ne_eqb n 2 two in
    let c : eqb n 3 ≡ false = ne_eqb n 3 three in
    deeper d n bytes rest lt e ∙ rw (← e, a, b, c) refl

pub seq_read : (made : Work) (works : Works) (read : List ℕ → Option (Work × List ℕ)) (bytes behind rest : List ℕ)
    (count : ℕ) → (count, behind) ≡ eight_at bytes → Some (works, rest) ≡ works_at read count behind →
    made ≡ work.Seq works → Some (made, rest) ≡ seq_at read bytes
unfolding seq_at
seq_read made works read bytes behind rest count e w is =
    ap (λ (x : Work). Some (x, rest)) is ∙ rw (← e, ← w) refl
