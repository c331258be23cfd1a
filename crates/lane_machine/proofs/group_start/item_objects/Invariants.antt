use Rattle.std.proofs.Common.{◌≡◌, ℕ, map, replicate, Vec, Global}
use Rattle.cl_model.specs.Objects.{zeros}
use Rattle.lane_machine.proofs.group_start.item_objects.Given as goal

abbrev pub invariant-loop : goal.invariant-loop
invariant-loop l =
    record { made : map (λ (v : Vec ℕ Global). v.items) l.list.items ≡ replicate l.counter (zeros l.bytes) }
