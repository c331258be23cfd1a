use Rattle.std.proofs.Common.{arith}
use Rattle.wg_num.proofs.WrapLaws.{half-below}
use Rattle.lane_kernels.proofs.sums64.highest_of.Goals as goal

pub overflow_sub-result : goal.overflow_sub-result
overflow_sub-result c = omega (arith, half-below c.args.t, c.low_bits.ensures, c.half_of.ensures)
