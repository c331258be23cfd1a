use Rattle.std.proofs.Common.{◌≡◌, drop}
use Rattle.cl_model.specs.View.{listed_statements}
use Rattle.ctx_plan.specs.Outline.{Outline, pieces_then, outlines_then, outlines_of_arms}
use Rattle.cl_model.specs.Listed.{listed_arms}
use Rattle.ctx_plan.specs.Points.{entry}
use Rattle.ctx_plan.proofs.outline.+statements.Given as goal

abbrev pub invariant-put_statements-loop-s : goal.invariant-put_statements-loop-s
invariant-put_statements-loop-s l = (rest : Outline) →
    pieces_then l.pieces.items (outlines_then (entry l.inside) (listed_statements (drop l.s-index l.list)) rest) ≡
    pieces_then l.fn.pieces.items (outlines_then (entry l.inside) (listed_statements l.list) rest)

abbrev pub invariant-put_arms-loop-arm : goal.invariant-put_arms-loop-arm
invariant-put_arms-loop-arm l = (rest : Outline) →
    pieces_then l.pieces.items (outlines_of_arms (entry l.inside) (listed_arms (drop l.arm-index l.arms)) rest) ≡
    pieces_then l.fn.pieces.items (outlines_of_arms (entry l.inside) (listed_arms l.arms) rest)
