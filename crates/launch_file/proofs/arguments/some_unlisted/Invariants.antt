use Rattle.std.proofs.Common.{◌≡◌, drop}
use Rattle.std.specs.List.{list_any}
use Rattle.launch_file.specs.Binding as spec
use Rattle.launch_file.proofs.arguments.some_unlisted.Given as goal

abbrev pub invariant-loop-arg : goal.invariant-loop-arg
invariant-loop-arg l =
    list_any (spec.is_unlisted l.buffers) l.args ≡ list_any (spec.is_unlisted l.buffers) (drop l.arg-index l.args)
