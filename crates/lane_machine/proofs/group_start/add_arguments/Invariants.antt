use Rattle.std.proofs.Common.{◌≡◌, ◌++◌, ℕ, map, take, Vec, Global}
use Rattle.cl_model.specs.Objects.{zeros, local_arguments}
use Rattle.lane_machine.proofs.group_start.add_arguments.Given as goal

abbrev pub invariant-loop-i : goal.invariant-loop-i
invariant-loop-i l = record {
  made : map (λ (v : Vec ℕ Global). v.items) l.list.items ≡
      map (λ (v : Vec ℕ Global). v.items) l.fn.list.items ++ map zeros (local_arguments (take l.i l.args));
}
