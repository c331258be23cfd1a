use Rattle.std.proofs.Common.{◌≡◌, drop}
use Rattle.launch_file.specs.Binding as spec
use Rattle.launch_file.proofs.arguments.some_global_named.Given as goal

abbrev pub invariant-loop-i : goal.invariant-loop-i
invariant-loop-i l = spec.some_pair (spec.is_global_named l.name) l.kinds l.args ≡
    spec.some_pair (spec.is_global_named l.name) (drop l.i l.kinds) (drop l.i l.args)
