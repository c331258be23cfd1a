use Rattle.std.proofs.Common.{◌≡◌, ℕ, drop}
use Rattle.kir.specs.Listed.{lines_of}
use Rattle.mask_lower.specs.Homes.{sets_first}
use Rattle.mask_lower.specs.Uses.{use_at, is_set_first}
use Rattle.mask_lower.proofs.setting.first_uses.Given as goal

abbrev pub invariant-loop-line : goal.invariant-loop-line
invariant-loop-line l = (c : ℕ) →
    is_set_first (use_at l.uses.items c) (sets_first c (lines_of (drop l.line-index l.line-items))) ≡
    sets_first c (lines_of l.line-items)
