use Rattle.std.proofs.Common.{◌≡◌, map, not, nat_eq, length, take}
use Rattle.lane_kernels.proofs.masks.truths_of.Given as goal

abbrev pub invariant-loop-i : goal.invariant-loop-i
invariant-loop-i g l =
    (length l.set ≡ g.row.W) × (take l.i l.set ≡ take l.i (map (λ x. not (nat_eq x 0)) l.fn.numbers))
