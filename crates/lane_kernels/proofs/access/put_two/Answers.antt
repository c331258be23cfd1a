use Rattle.std.proofs.Common.{sym}
use Rattle.lane_kernels.proofs.AccessLaws.{put_2}
use Rattle.lane_kernels.proofs.access.put_two.Goals as goal

pub returns : goal.returns
returns c = sym (put_2 c.args.from c.args.x c.args.bytes.now)
