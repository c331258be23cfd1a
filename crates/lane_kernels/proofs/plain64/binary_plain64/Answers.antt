use Rattle.std.proofs.Common.{ℕ, ◌∙◌, ◌^◌, ◌<◌, ap, arith, map, refl, sym, w64}
use Rattle.std.proofs.lemmas.Simd.{below_from_Fits}
use Rattle.wg_num.specs.Wrap.{value_of}
use Rattle.lane_values.specs.Lanes.{IsLane, lane, binary_value}
use Rattle.lane_kernels.proofs.LaneLaws as K
use Rattle.lane_kernels.proofs.ListLaws as L
use Rattle.lane_kernels.proofs.ListLaws.{each_then}
use Rattle.lane_kernels.proofs.plain64.binary_plain64.Goals as goal

pub numbers64-requires : goal.numbers64-requires
numbers64-requires g c =
    let t = c.args.t in
    let whole : (x : ℕ) → x < 2 ^ 64 → IsLane 64 t x =
    (λ x h. K.whole_lane 64 (2 ^ 63) refl refl (omega arith) (omega arith) t x c.requires (omega arith) h) in (
      omega arith,
      (
        omega (arith, c.requires),
        (
          each_then (λ x. x < 2 ^ 64) (IsLane 64 t) whole c.args.a (below_from_Fits w64 c.args.a c.fits-a.1),
          λ e. each_then (λ x. x < 2 ^ 64) (IsLane 64 t) whole c.args.b (below_from_Fits w64 c.args.b c.fits-b.1),
        ),
      ),
    )

pub returns : goal.returns
returns g c =
    c.kept64.ensures ∙
    sym (L.map-map 64 63 18446744073709551615 refl refl (lane 64) (value_of c.args.t) c.numbers64.result) ∙
    ap (map (lane 64)) c.numbers64.ensures
    ∙ L.map-zip2 64 63 18446744073709551615 refl refl (lane 64) (binary_value c.args.op c.args.t) c.args.a c.args.b
