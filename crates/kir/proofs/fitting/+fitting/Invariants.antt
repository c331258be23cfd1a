use Rattle.std.proofs.Common.{◌≡◌, drop}
use Rattle.kir.specs.Listed.{lines_of}
use Rattle.kir.specs.Parts.{parts_of}
use Rattle.kir.specs.Fits.{lines_fit}
use Rattle.kir.proofs.fitting.+fitting.Given as goal

abbrev pub invariant-lines_fit-loop-line : goal.invariant-lines_fit-loop-line
invariant-lines_fit-loop-line l =
    lines_fit (parts_of l.parts) (lines_of l.lines) ≡
    lines_fit (parts_of l.parts) (lines_of (drop l.line-index l.lines))
