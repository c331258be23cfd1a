use Rattle.std.proofs.Common.{◌≡◌, ℕ, map, replicate, Vec, Global}
use Rattle.lane_machine.proofs.group_start.zero_columns.Given as goal

abbrev pub invariant-loop : goal.invariant-loop
invariant-loop l =
    record { made : map (λ (v : Vec ℕ Global). v.items) l.list.items ≡ replicate l.counter (replicate l.items 0) }
