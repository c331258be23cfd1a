use Rattle.std.proofs.Common.{sym}
use Rattle.lane_kernels.proofs.AccessLaws.{put_4}
use Rattle.lane_kernels.proofs.access.put_four.Goals as goal

pub returns : goal.returns
returns c = sym (put_4 c.args.from c.args.x c.args.bytes.now)
