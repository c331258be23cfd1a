use Rattle.std.proofs.Common.{◌≡◌, ◌++◌, ◌-◌}
use Rattle.std.specs.Simd.Lanes.{digits_l}
use Rattle.wg_num.specs.Bytes.{bytes_of, size_of}
use Rattle.cl_scope.proofs.table.push_value.Given as goal

abbrev pub invariant-loop-place : goal.invariant-loop-place
invariant-loop-place l =
    l.fn.bytes.items ++ bytes_of l.fn.of l.fn.value ≡ l.bytes.items ++ digits_l 256 (size_of l.fn.of - l._place) l.rest
