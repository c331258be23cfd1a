use Rattle.std.proofs.Common.{◌∙◌, ◌^◌, ap, sym, map, subst, refl, arith}
use Rattle.std.specs.Simd.Lanes.{Each1}
use Rattle.wg_num.specs.Wrap.{value_of}
use Rattle.lane_values.specs.Lanes.{IsLane, lane, extended, unary_value, unary_lane}
use Rattle.lane_kernels.proofs.LaneLaws as K
use Rattle.lane_kernels.proofs.ListLaws.{each_map, map_of_map, same_map}
use Rattle.lane_kernels.proofs.lanes64.unary64.Goals as goal

pub unary_numbers64-requires : goal.unary_numbers64-requires
unary_numbers64-requires g c =
    let t = c.args.t in
    let n = c.requires.fits in (
      omega (arith, c.requires.lanes),
      (
        n,
        subst (Each1 (IsLane 64 t)) (sym c.extend64.ensures)
            (each_map (IsLane 64 t) (extended 64 t) (λ p. K.IsLane-extended 64 (2 ^ 63) refl refl (omega arith)
            (omega arith) t p n) c.args.a),
      ),
    )

pub returns-clause-lanes : goal.returns-clause-lanes
returns-clause-lanes g c =
    let t = c.args.t in
    let op = c.args.op in
    let n = c.requires.fits in
    c.extend64-2.ensures ∙ sym (map_of_map (lane 64) (value_of t) c.unary_numbers64.result) ∙
    ap (map (lane 64)) c.unary_numbers64.ensures
    ∙ map_of_map (lane 64) (unary_value op t) c.extend64.result
    ∙ ap (map (unary_lane 64 op t)) c.extend64.ensures ∙ map_of_map (unary_lane 64 op t) (extended 64 t) c.args.a
    ∙ same_map (λ p. unary_lane 64 op t (extended 64 t p)) (unary_lane 64 op t)
    (λ p. ap (lane 64) (K.unary_extended 64 (2 ^ 63) refl refl (omega arith) (omega arith) op t p n)) c.args.a
