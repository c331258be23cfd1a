use Rattle.std.proofs.Common.{◌≡◌, ℕ, get_or, drop}
use Rattle.std.specs.Prelude.{◌||◌, false}
use Rattle.kir.specs.Listed.{lines_of}
use Rattle.kir_uniform.specs.Uniform.{sets_in}
use Rattle.mask_lower.proofs.setting.+set.Given as goal

abbrev pub invariant-mark_lines-loop-line : goal.invariant-mark_lines-loop-line
invariant-mark_lines-loop-line l =
    (c : ℕ) → (sets_in c (lines_of l.line-items) || get_or l.fn.set.items c false) ≡
    (sets_in c (lines_of (drop l.line-index l.line-items)) || get_or l.set.items c false)
