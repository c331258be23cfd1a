use Rattle.std.proofs.Common.{refl, arith, sym, ◌<◌, ◌^◌, w32}
use Rattle.std.proofs.lemmas.Simd.{below_from_Fits}
use Rattle.lane_values.specs.Lanes.{IsLane, extended}
use Rattle.lane_kernels.proofs.LaneLaws as K
use Rattle.lane_kernels.proofs.ListLaws.{map_stays}
use Rattle.lane_kernels.proofs.plain32.kept32.Goals as goal

pub returns : goal.returns
returns g c =
    let t = c.args.t in
    map_stays (λ x. x < 2 ^ 32) (extended 32 t)
    (λ p h. let held : IsLane 32 t p = K.whole_lane 32 (2 ^ 31) refl refl (omega arith) (omega arith) t p c.requires
    (omega arith) h in sym held.same) c.args.a (below_from_Fits w32 c.args.a c.fits-a.1)
