use Rattle.std.proofs.Common.{◌≡◌, ℕ, take, map, Vec, Global}
use Rattle.lane_machine.proofs.OwnLaws.{changed, clears}
use Rattle.lane_machine.proofs.own.clear_own.Given as goal

abbrev pub invariant-loop-i : goal.invariant-loop-i
invariant-loop-i g l = record {
  written : map (λ (v : Vec ℕ Global). v.items) l.objects.items ≡
      changed (map (λ (v : Vec ℕ Global). v.items) l.fn.objects.items) l.fn.first (take l.i (map clears l.fn.mask));
}
