use Rattle.std.proofs.Common.{◌≡◌, ℕ, map, take, Vec, Global}
use Rattle.cl_model.specs.Objects.{zeros}
use Rattle.lane_machine.proofs.group_start.zero_objects.Given as goal

abbrev pub invariant-loop-i : goal.invariant-loop-i
invariant-loop-i l = record { made : map (λ (v : Vec ℕ Global). v.items) l.list.items ≡ map zeros (take l.i l.sizes) }
