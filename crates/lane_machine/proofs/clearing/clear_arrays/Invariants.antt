use Rattle.std.proofs.Common.{◌≡◌, length, map, take}
use Rattle.lane_machine.specs.Zeroed.{blanks}
use Rattle.lane_machine.proofs.NestedLaws.{objects_in}
use Rattle.lane_machine.proofs.clearing.clear_arrays.Given as goal

abbrev pub invariant-loop-i : goal.invariant-loop-i
invariant-loop-i l = record {
  long : length l.arrays.items ≡ length l.fn.arrays.items;
  same : map blanks (map objects_in l.arrays.items) ≡ map blanks (map objects_in l.fn.arrays.items);
  done : take l.i (map objects_in l.arrays.items) ≡ take l.i (map blanks (map objects_in l.fn.arrays.items));
}
