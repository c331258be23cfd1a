use Rattle.std.proofs.Common.{length}
use Rattle.wg_num.specs.Bytes.{size_of}
use Rattle.lane_values.specs.Access.{faults}
use Rattle.lane_machine.proofs.MaskLaws.{lowest_none, lowest_some}
use Rattle.lane_machine.proofs.shared.scatter_wide.Goals as goal

pub returns-in-Ok : goal.returns-in-Ok
returns-in-Ok g c = (
  lowest_none (faults (size_of c.args.t) (length c.args.bytes.now) c.args.mask c.args.index)
      c.in-Ok.ensures.cases,
  c.in-Ok.ensures.stored,
)

pub returns-in-Err : goal.returns-in-Err
returns-in-Err g c = (
  lowest_some (faults (size_of c.args.t) (length c.args.bytes.now) c.args.mask c.args.index)
      c.in-Err.lane c.in-Err.ensures.cases,
  c.in-Err.ensures.below,
)
