use Rattle.std.proofs.Common.{arith}
use Rattle.lane_kernels.proofs.ProductLaws.{narrow_width}
use Rattle.lane_kernels.proofs.products64.high_halves64.Goals as goal

pub high_narrow-requires : goal.high_narrow-requires
high_narrow-requires g c =
    (omega arith, (narrow_width c.args.t c.in_default.not-Long c.in_default.not-Ulong, c.requires.lanes))
