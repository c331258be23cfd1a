use Rattle.std.proofs.Common.{◌∙◌}
use Rattle.lane_kernels.proofs.ListLaws.{map_id}
use Rattle.lane_kernels.proofs.masks.numbers_of64.Goals as goal

pub returns : goal.returns
returns g c = map_id _ ∙ map_id _ ∙ c.bytes_of.ensures
