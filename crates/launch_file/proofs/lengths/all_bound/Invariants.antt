use Rattle.std.proofs.Common.{◌≡◌, ◌++◌, drop, map}
use Rattle.launch_file.specs.Binding as spec
use Rattle.launch_file.proofs.lengths.all_bound.Given as goal

abbrev pub invariant-loop-arg : goal.invariant-loop-arg
invariant-loop-arg l =
    map (spec.bound_of l.buffers) l.args ≡ l.list.items ++ map (spec.bound_of l.buffers) (drop l.arg-index l.args)
