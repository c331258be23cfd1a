use Rattle.std.proofs.Common.{drop}
use Rattle.ctx_plan.proofs.Names.{LedThrough}
use Rattle.kir.specs.Listed.{lines_of}
use Rattle.kir.specs.Keeps.{pieces_of}
use Rattle.ctx_plan.proofs.keeping.+naming.Given as goal

abbrev pub invariant-name_lines-loop-line : goal.invariant-name_lines-loop-line
invariant-name_lines-loop-line l =
    LedThrough l.fn.naming l.naming (pieces_of (lines_of l.lines)) (pieces_of (lines_of (drop l.line-index l.lines)))
