use Rattle.std.proofs.Common.{◌≡◌, drop}
use Rattle.launch_file.specs.Binding as spec
use Rattle.launch_file.proofs.arguments.some_kind_wrong.Given as goal

abbrev pub invariant-loop-i : goal.invariant-loop-i
invariant-loop-i l =
    spec.some_pair spec.kind_wrong l.kinds l.args ≡ spec.some_pair spec.kind_wrong (drop l.i l.kinds) (drop l.i l.args)
