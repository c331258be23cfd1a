-- Numbers in a row have room where the one behind the last has.
use Rattle.std.proofs.Common.{◌≡◌, ℕ, zero, suc, ◌+◌, ◌*◌, ◌-◌, ◌≤◌, List, [], ◌∷◌, ◌++◌, ap, ◌∙◌, append_assoc, arith}
use Rattle.std.proofs.Math.Nat.{mul-suc}
use Rattle.cl_short_vec.specs.Types.{numbers}

pub step_more : (next by left all : ℕ) → next + by * left ≡ all → 1 ≤ left → next + by + by * (left - 1) ≡ all
step_more next by zero all e h = absurd (omega arith)
step_more next by (suc n) all e h =
    let m = mul-suc by n in
    let d : suc n - 1 ≡ n = omega arith in
    let rest : next + by + by * n ≡ all = omega arith in
    ap (λ k. next + by + by * k) d ∙ rest

-- one number more
pub numbers_more : (xs ys : List ℕ) (next by left : ℕ) (all : List ℕ) → xs ++ numbers next by left ≡ all → 1 ≤ left →
    ys ≡ xs ++ next ∷ [] → ys ++ numbers (next + by) by (left - 1) ≡ all
numbers_more xs ys next by zero all e h k = absurd (omega arith)
numbers_more xs ys next by (suc n) all e h k =
    let d : suc n - 1 ≡ n = omega arith in
    ap (λ m. ys ++ numbers (next + by) by m) d ∙ (ap (λ zs. zs ++ numbers (next + by) by n) k ∙
    (append_assoc xs (next ∷ []) (numbers (next + by) by n) ∙ e))
