use Rattle.std.proofs.Common.{◌≡◌, ◌++◌, length}
use Rattle.kir_lower.specs.Made.{argument_roots}
use Rattle.kir_lower.specs.View.{instance_of}
use Rattle.cl_model.specs.Listed.{listed_roots}
use Rattle.kir_lower.proofs.entering.roots_in.Given as goal

abbrev pub invariant-loop-argument : goal.invariant-loop-argument
invariant-loop-argument l =
    argument_roots (instance_of l.here) (listed_roots l.args) ≡ l.roots.items ++ argument_roots (instance_of l.here)
    (listed_roots l.rest)

abbrev pub decreases-loop-argument : goal.decreases-loop-argument
decreases-loop-argument l = length l.rest
