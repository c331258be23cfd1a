-- A kernel that is even is even where regions end.
use Rattle.std.proofs.Common.{◌≡◌, ℕ, ◌<◌, sym, ◌∙◌, arith, mul_comm}
use Rattle.std.specs.Prelude.{true}
use Rattle.std.proofs.lemmas.Nat.{mul-add-lt}
use Rattle.cl_model.specs.Sizes.{Launch, group_count, group_size, item_count}
use Rattle.kir.specs.Tree.{Kernel}
use Rattle.kir.specs.Fits.{lines_fit}
use Rattle.kir.specs.Uniformity.{IsEven}
use Rattle.ctx_plan.specs.Homes.{IsOnce}
use Rattle.ctx_plan.specs.Planned.{Planned}
use Rattle.group_moves.proofs.Teams.{in_row}
use Rattle.mask_lower.proofs.Ends.{ends_even}
use Rattle.item_loops.specs.Regions.{item_at}
use Rattle.item_loops.proofs.Whole.{EvenAtEnds}

inside : (launch : Launch) (group i : ℕ) → group < group_count launch → i < group_size launch →
    item_at launch group i < item_count launch
inside launch group i within lt = let m = mul-add-lt group (group_size launch) i (group_count launch) within lt in
    let c = mul_comm (group_size launch) (group_count launch) in omega (arith, m, c)

-- all ends of regions are even
pub even_at_ends : (kernel : Kernel) (plan : Planned) → lines_fit kernel kernel.body ≡ true →
    IsEven kernel (IsOnce plan.homes) → EvenAtEnds kernel plan
even_at_ends kernel plan valid even launch fits buffers fit group within e is_end v lead i j lt lt' =
    ends_even kernel plan valid even launch fits buffers fit e is_end v lead (item_at launch group i)
    (item_at launch group j) (inside launch group i within lt) (inside launch group j within lt')
    (in_row (group_size launch) group i lt ∙ sym (in_row (group_size launch) group j lt'))
