use Rattle.std.proofs.Common.{◌≡◌, None, map, drop, length, ◌≤◌}
use Rattle.cl_meaning.specs.Environment.{found_in}
use Rattle.cl_scope.specs.View.{scope_of}
use Rattle.cl_scope.proofs.lookup.found_in.Given as goal

abbrev pub invariant-loop-index : goal.invariant-loop-index
invariant-loop-index l =
    record { within : l.index ≤ length l.scopes; inner : found_in (map scope_of (drop l.index l.scopes)) l.name ≡ None }

abbrev pub decreases-loop-index : goal.decreases-loop-index
decreases-loop-index l = l.index
