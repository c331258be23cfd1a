use Rattle.std.proofs.Common.{refl, arith, sym, ◌<◌, ◌^◌, w64}
use Rattle.std.proofs.lemmas.Simd.{below_from_Fits}
use Rattle.lane_values.specs.Lanes.{IsLane, extended}
use Rattle.lane_kernels.proofs.LaneLaws as K
use Rattle.lane_kernels.proofs.ListLaws.{map_stays}
use Rattle.lane_kernels.proofs.plain64.kept64.Goals as goal

pub returns : goal.returns
returns g c =
    let t = c.args.t in
    map_stays (λ x. x < 2 ^ 64) (extended 64 t)
    (λ p h. let held : IsLane 64 t p = K.whole_lane 64 (2 ^ 63) refl refl (omega arith) (omega arith) t p c.requires
    (omega arith) h in sym held.same) c.args.a (below_from_Fits w64 c.args.a c.fits-a.1)
