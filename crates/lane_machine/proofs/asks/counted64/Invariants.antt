use Rattle.std.proofs.Common.{◌≡◌, ◌<◌, ◌+◌, ℕ, length, get_or, replicate}
use Rattle.cl_model.specs.View.{launch_of}
use Rattle.cl_model.specs.Sizes.{local_id, size_at}
use Rattle.lane_code.specs.Acts.{answers}
use Rattle.lane_machine.proofs.asks.counted64.Given as goal

abbrev pub invariant-loop-i : goal.invariant-loop-i
invariant-loop-i g l = record {
  long : length l.lanes ≡ g.row.W;
  written : (k : ℕ) → k < l.i →
      local_id (launch_of l.fn.launch) l.fn.item.number 0 + k < size_at (launch_of l.fn.launch).local 0 →
      get_or l.lanes k 0 ≡
      get_or (answers 64 (launch_of l.fn.launch) l.fn.item.number l.fn.what (replicate g.row.W l.fn.d)) k 0;
}
