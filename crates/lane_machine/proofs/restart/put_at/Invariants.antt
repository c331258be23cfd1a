use Rattle.std.proofs.Common.{◌≡◌, ◌<◌, length, get_or}
use Rattle.std.specs.Prelude.{ℕ, slice_get, slice_index_or, Some}
use Rattle.std.specs.Vec.{vec_capacity}
use Rattle.lane_machine.proofs.restart.put_at.Given as goal

-- the value stands at the places that were looked at
abbrev pub invariant-loop-place : goal.invariant-loop-place
invariant-loop-place g l = record {
  long : length l.list.items ≡ length l.fn.list.items;
  capacity : vec_capacity l.list ≡ vec_capacity l.fn.list;
  put : (k : ℕ) → k < l.place-index → slice_index_or l.places k 0 < length l.list.items →
      slice_get l.list.items (slice_index_or l.places k 0) ≡ Some l.x;
}
