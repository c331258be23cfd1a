use Rattle.std.proofs.Common.{◌≡◌, drop, false}
use Rattle.cl_model.specs.View.{listed_expressions, function_of}
use Rattle.diverge.specs.Known.{state_of}
use Rattle.cl_model.specs.Listed.{listed_arguments}
use Rattle.diverge.specs.Rounds.{seen_among, seen_arguments, unseen}
use Rattle.diverge.proofs.expressions.+expressions.Given as goal

abbrev pub invariant-operands-loop-e : goal.invariant-operands-loop-e
invariant-operands-loop-e l =
    seen_among (function_of l.own) l.at false (listed_expressions (drop l.e-index l.list))
    (record { varies = l.varies; state = state_of l.known }) ≡ seen_among (function_of l.own) l.at false
    (listed_expressions l.list) (unseen (state_of l.fn.known))

abbrev pub invariant-arguments-loop-parameter : goal.invariant-arguments-loop-parameter
invariant-arguments-loop-parameter l =
    seen_arguments (function_of l.own) l.at l.function l.parameter (listed_arguments (drop l.parameter l.list))
    (state_of l.known) ≡ seen_arguments (function_of l.own) l.at l.function 0 (listed_arguments l.list)
    (state_of l.fn.known)
