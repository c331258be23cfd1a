use Rattle.std.proofs.Common.{ℕ, ◌∙◌, ◌^◌, ◌<◌, ap, arith, map, refl, sym, w32}
use Rattle.std.proofs.lemmas.Simd.{below_from_Fits}
use Rattle.wg_num.specs.Wrap.{value_of}
use Rattle.lane_values.specs.Lanes.{IsLane, lane, binary_value}
use Rattle.lane_kernels.proofs.LaneLaws as K
use Rattle.lane_kernels.proofs.ListLaws as L
use Rattle.lane_kernels.proofs.ListLaws.{each_then}
use Rattle.lane_kernels.proofs.plain32.binary_plain32.Goals as goal

pub numbers32-requires : goal.numbers32-requires
numbers32-requires g c =
    let t = c.args.t in
    let whole : (x : ℕ) → x < 2 ^ 32 → IsLane 32 t x =
    (λ x h. K.whole_lane 32 (2 ^ 31) refl refl (omega arith) (omega arith) t x c.requires (omega arith) h) in (
      omega arith,
      (
        omega (arith, c.requires),
        (
          each_then (λ x. x < 2 ^ 32) (IsLane 32 t) whole c.args.a (below_from_Fits w32 c.args.a c.fits-a.1),
          λ e. each_then (λ x. x < 2 ^ 32) (IsLane 32 t) whole c.args.b (below_from_Fits w32 c.args.b c.fits-b.1),
        ),
      ),
    )

pub returns : goal.returns
returns g c =
    c.kept32.ensures ∙
    sym (L.map-map 32 31 4294967295 refl refl (lane 32) (value_of c.args.t) c.numbers32.result) ∙
    ap (map (lane 32)) c.numbers32.ensures
    ∙ L.map-zip2 32 31 4294967295 refl refl (lane 32) (binary_value c.args.op c.args.t) c.args.a c.args.b
