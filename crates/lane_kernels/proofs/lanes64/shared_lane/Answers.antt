use Rattle.std.proofs.Common.{refl}
use Rattle.lane_kernels.proofs.ListLaws as L
use Rattle.lane_kernels.proofs.lanes64.shared_lane.Goals as goal

pub returns-then-b-first-eq0 : goal.returns-then-b-first-eq0
returns-then-b-first-eq0 g c =
    L.all_alike 64 63 18446744073709551615 refl refl c.match-first.first g.row.W c.args.b c.fits-b.0 c.if-this-le64.true
    c.if-b-first-eq0.true
