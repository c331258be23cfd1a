use Rattle.std.proofs.Common.{ap, slice_index_or}
use Rattle.wg_num.specs.Wrap.{bits_of}
use Rattle.lane_values.specs.Lanes.{lane}
use Rattle.lane_kernels.proofs.lanes64.pattern64.Goals as goal

pub returns : goal.returns
unfolding lane bits_of
returns c = ap (λ l. slice_index_or l 0 0) c.extend64.ensures
