use Rattle.std.proofs.Common.{◌∙◌, ◌^◌, ap, sym, map, subst, refl, arith}
use Rattle.std.specs.Simd.Lanes.{Each1}
use Rattle.wg_num.specs.Wrap.{value_of}
use Rattle.lane_values.specs.Lanes.{IsLane, lane, extended, unary_value, unary_lane}
use Rattle.lane_kernels.proofs.LaneLaws as K
use Rattle.lane_kernels.proofs.ListLaws.{each_map, map_of_map, same_map}
use Rattle.lane_kernels.proofs.lanes32.unary32.Goals as goal

pub unary_numbers32-requires : goal.unary_numbers32-requires
unary_numbers32-requires g c =
    let t = c.args.t in
    let n = c.requires.fits in (
      omega (arith, c.requires.lanes),
      (
        n,
        subst (Each1 (IsLane 32 t)) (sym c.extend32.ensures)
            (each_map (IsLane 32 t) (extended 32 t) (λ p. K.IsLane-extended 32 (2 ^ 31) refl refl (omega arith)
            (omega arith) t p n) c.args.a),
      ),
    )

pub returns-clause-lanes : goal.returns-clause-lanes
returns-clause-lanes g c =
    let t = c.args.t in
    let op = c.args.op in
    let n = c.requires.fits in
    c.extend32-2.ensures ∙ sym (map_of_map (lane 32) (value_of t) c.unary_numbers32.result) ∙
    ap (map (lane 32)) c.unary_numbers32.ensures
    ∙ map_of_map (lane 32) (unary_value op t) c.extend32.result
    ∙ ap (map (unary_lane 32 op t)) c.extend32.ensures ∙ map_of_map (unary_lane 32 op t) (extended 32 t) c.args.a
    ∙ same_map (λ p. unary_lane 32 op t (extended 32 t p)) (unary_lane 32 op t)
    (λ p. ap (lane 32) (K.unary_extended 32 (2 ^ 31) refl refl (omega arith) (omega arith) op t p n)) c.args.a
