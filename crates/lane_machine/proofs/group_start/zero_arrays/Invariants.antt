use Rattle.std.proofs.Common.{◌≡◌, ℕ, map, take, replicate}
use Rattle.cl_model.specs.Objects.{zeros}
use Rattle.lane_machine.proofs.NestedLaws.{objects_in}
use Rattle.lane_machine.proofs.group_start.zero_arrays.Given as goal

abbrev pub invariant-loop-i : goal.invariant-loop-i
invariant-loop-i l =
    record { made : map objects_in l.list.items ≡ map (λ (n : ℕ). replicate l.items (zeros n)) (take l.i l.sizes) }
