use Rattle.std.proofs.Common.{◌≡◌, drop}
use Rattle.std.specs.List.{list_any}
use Rattle.launch_file.specs.Binding as spec
use Rattle.launch_file.proofs.arguments.some_local_negative.Given as goal

abbrev pub invariant-loop-arg : goal.invariant-loop-arg
invariant-loop-arg l = list_any (λ a. spec.is_below_zero (spec.local_bytes_of a)) l.args ≡
    list_any (λ a. spec.is_below_zero (spec.local_bytes_of a)) (drop l.arg-index l.args)
