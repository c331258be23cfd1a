use Rattle.std.proofs.Common.{◌≡◌, drop}
use Rattle.cl_model.specs.Calls.{calls_among}
use Rattle.cl_model.specs.View.{listed_expressions}
use Rattle.cl_model.specs.Listed.{listed_arguments}
use Rattle.ctx_plan.specs.Points.{calls_onto}
use Rattle.ctx_plan.proofs.outline.+calls.Given as goal

abbrev pub invariant-put_expressions-loop-e : goal.invariant-put_expressions-loop-e
invariant-put_expressions-loop-e l =
    calls_onto (calls_among (listed_expressions (drop l.e-index l.list))) l.pieces.items ≡
    calls_onto (calls_among (listed_expressions l.list)) l.fn.pieces.items

abbrev pub invariant-put_arguments-loop-argument : goal.invariant-put_arguments-loop-argument
invariant-put_arguments-loop-argument l =
    calls_onto (calls_among (listed_arguments (drop l.argument-index l.list))) l.pieces.items ≡
    calls_onto (calls_among (listed_arguments l.list)) l.fn.pieces.items
