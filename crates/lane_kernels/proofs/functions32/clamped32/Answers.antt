use Rattle.std.proofs.Common.{◌^◌, ◌∙◌, ap, ap₂, map, refl, arith}
use Rattle.std.specs.Simd.Lanes.{zip2}
use Rattle.lane_values.specs.Lanes.{extended}
use Rattle.lane_kernels.specs.Vectors.{greater_lane, lesser_lane}
use Rattle.lane_kernels.proofs.FunctionLaws as F
use Rattle.lane_kernels.proofs.functions32.clamped32.Goals as goal

pub returns : goal.returns
returns g c =
    let t = c.args.t in
    c.lesser.ensures
    ∙ ap₂ (zip2 (lesser_lane 32 c.bias-lift.result)) (c.greater-raised.ensures ∙
    ap₂ (zip2 (greater_lane 32 c.bias-lift.result)) c.extend32.ensures c.extend32-2.ensures) c.extend32-3.ensures
    ∙ ap (λ k. zip2 (lesser_lane 32 k) (zip2 (greater_lane 32 k) (map (extended 32 t) c.args.a)
    (map (extended 32 t) c.args.b)) (map (extended 32 t) c.args.c)) c.bias-lift.ensures
    ∙ F.clamp_lanes 32 (2 ^ 31) refl refl (omega arith) (omega arith) t c.requires g.row.W c.args.a c.args.b c.args.c
    c.fits-a.0 c.fits-b.0 c.fits-c.0
