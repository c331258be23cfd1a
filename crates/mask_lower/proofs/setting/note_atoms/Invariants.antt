use Rattle.std.proofs.Common.{◌≡◌, ℕ, drop}
use Rattle.std.specs.Prelude.{◌&&◌, not}
use Rattle.std.specs.Prelude.{Bool as Test}
use Rattle.kir.specs.Live.{some_reads}
use Rattle.mask_lower.specs.Uses.{use_at, is_set_first}
use Rattle.mask_lower.proofs.setting.note_atoms.Given as goal

abbrev pub invariant-loop-atom : goal.invariant-loop-atom
invariant-loop-atom l = (c : ℕ) (behind : Test) →
    is_set_first (use_at l.fn.uses.items c) (not (some_reads c l.atom-items) && behind) ≡
    is_set_first (use_at l.uses.items c) (not (some_reads c (drop l.atom-index l.atom-items)) && behind)
