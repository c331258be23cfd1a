use Rattle.std.proofs.Common.{slice_index_or, arith}
use Rattle.lane_machine.proofs.SizeLaws.{size_le, next_small}
use Rattle.lane_machine.proofs.queries.has_group.Goals as goal

pub overflow_mul-result : goal.overflow_mul-result
overflow_mul-result c =
    let l = c.args.launch.now.local in
    let small = size_le (slice_index_or l 0 0) (slice_index_or l 1 0) (slice_index_or l 2 0) c.args.d
    c.requires.sizes.local in
    record {
      fits = next_small c.args.number c.size_in.result (omega arith) (rw c.size_in.ensures.value small);
    }
