use Rattle.std.proofs.Common.{◌≡◌, length, take}
use Rattle.lane_machine.specs.Zeroed.{blanks}
use Rattle.lane_machine.proofs.NestedLaws.{bytes_in}
use Rattle.lane_machine.proofs.clearing.clear_columns.Given as goal

abbrev pub invariant-loop-i : goal.invariant-loop-i
invariant-loop-i l = record {
  long : length l.columns.items ≡ length l.fn.columns.items;
  same : blanks (bytes_in l.columns.items) ≡ blanks (bytes_in l.fn.columns.items);
  done : take l.i (bytes_in l.columns.items) ≡ take l.i (blanks (bytes_in l.fn.columns.items));
}
