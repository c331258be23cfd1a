use Rattle.std.proofs.Common.{ℕ, ◌∙◌, ◌^◌, ◌<◌, sym, ap, ap₂, subst, arith, refl, w32}
use Rattle.std.proofs.lemmas.Simd.{below_from_Fits}
use Rattle.std.specs.Simd.Lanes.{zip2, Each1}
use Rattle.lane_values.specs.Lanes.{IsLane, lane, extended, binary_lane}
use Rattle.lane_kernels.proofs.LaneLaws as K
use Rattle.lane_kernels.proofs.LaneLaws.{is_no_shift, shift_is}
use Rattle.lane_kernels.proofs.ListLaws.{each_map, each_then, zip2-maps, zip2-map_left, zip2_same}
use Rattle.lane_kernels.proofs.lanes32.binary32.Goals as goal
use Rattle.lane_kernels.proofs.lanes32.binary32.Goals.{in-Shl, in_default}

pub values32-requires : goal.values32-requires
values32-requires g c =
    let t = c.args.t in
    let n = c.requires.fits in
    let whole : (x : ℕ) → x < 2 ^ 32 → IsLane 32 t x =
    (λ x h. K.whole_lane 32 (2 ^ 31) refl refl (omega arith) (omega arith) t x c.if-is_whole.ensures (omega arith) h)
    in (
      omega (arith, c.requires.lanes),
      (
        n,
        (
          each_then (λ x. x < 2 ^ 32) (IsLane 32 t) whole c.args.a (below_from_Fits w32 c.args.a c.fits-a.1),
          λ e. each_then (λ x. x < 2 ^ 32) (IsLane 32 t) whole c.args.b (below_from_Fits w32 c.args.b c.fits-b.1),
        ),
      ),
    )

pub values32-requires-in-Shl : goal.values32-requires-in-Shl
values32-requires-in-Shl g c =
    let t = c.args.t in
    let n = c.requires.fits in (
      omega (arith, c.requires.lanes),
      (
        n,
        (
          subst (Each1 (IsLane 32 t)) (sym c.extend32-left.ensures)
              (each_map (IsLane 32 t) (extended 32 t) (λ p. K.IsLane-extended 32 (2 ^ 31) refl refl (omega arith)
              (omega arith) t p n) c.args.a),
          λ e. shift_is c.args.op c.in-Shl.is e,
        ),
      ),
    )

pub values32-requires-in_default : goal.values32-requires-in_default
values32-requires-in_default g c =
    let t = c.args.t in
    let n = c.requires.fits in (
      omega (arith, c.requires.lanes),
      (
        n,
        (
          subst (Each1 (IsLane 32 t)) (sym c.extend32-left.ensures)
              (each_map (IsLane 32 t) (extended 32 t) (λ p. K.IsLane-extended 32 (2 ^ 31) refl refl (omega arith)
              (omega arith) t p n) c.args.a),
          λ e. subst (Each1 (IsLane 32 t)) (sym c.extend32.ensures)
              (each_map (IsLane 32 t) (extended 32 t) (λ p. K.IsLane-extended 32 (2 ^ 31) refl refl (omega arith)
              (omega arith) t p n) c.args.b),
        ),
      ),
    )

pub returns-clause-lanes : goal.returns-clause-lanes
returns-clause-lanes g c =
    let t = c.args.t in
    let op = c.args.op in
    let a = c.args.a in
    let b = c.args.b in
    let n = c.requires.fits in
    elim c.match-op.branch [
      | in-Shl w ↦ w.result-is ∙ w.values32-in-Shl.ensures ∙ ap (λ x. zip2 (binary_lane 32 op t) x b)
          c.extend32-left.ensures
          ∙ zip2-map_left (binary_lane 32 op t) (extended 32 t) a b ∙
          zip2_same _ (binary_lane 32 op t)
          (λ p q. ap (lane 32) (K.shift_extended 32 (2 ^ 31) refl refl (omega arith) (omega arith) op t p q n)) a b
      | in_default w ↦ w.result-is ∙ w.values32-in_default.ensures ∙
          ap₂ (λ x y. zip2 (binary_lane 32 op t) x y) c.extend32-left.ensures w.extend32.ensures
          ∙ zip2-maps (binary_lane 32 op t) (extended 32 t) (extended 32 t) a b
          ∙ zip2_same _ (binary_lane 32 op t)
          (λ p q. ap (lane 32) (K.binary_extended 32 (2 ^ 31) refl refl (omega arith) (omega arith) op t p q n
          (is_no_shift op w.in_default.not-Shl w.in_default.not-Shr))) a b
    ]
