use Rattle.std.proofs.Common.{◌≡◌, drop}
use Rattle.kir.specs.Listed.{lines_of}
use Rattle.kir.specs.Cuts.{holds_barrier}
use Rattle.kir.proofs.holding.+hold.Given as goal

abbrev pub invariant-lines_hold-loop-line : goal.invariant-lines_hold-loop-line
invariant-lines_hold-loop-line l =
    holds_barrier (lines_of (drop l.line-index l.lines)) ≡ holds_barrier (lines_of l.lines)
