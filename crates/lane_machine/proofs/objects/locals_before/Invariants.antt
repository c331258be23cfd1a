use Rattle.std.proofs.Common.{◌≡◌, ◌≤◌, length, take}
use Rattle.cl_model.specs.Objects.{local_arguments}
use Rattle.lane_machine.proofs.objects.locals_before.Given as goal

abbrev pub invariant-loop-i : goal.invariant-loop-i
invariant-loop-i l = record {
  value : l.count ≡ length (local_arguments (take l.i l.args));
  few : l.count ≤ l.i;
}
