use Rattle.std.proofs.Common.{◌-◌, ◌^◌, ap, ◌∙◌, sym, map, cond, nat_eq, refl, arith}
use Rattle.std.proofs.lemmas.Simd.{zip2_splat_left}
use Rattle.wg_num.specs.declared.types.Un.TheVariants.{Plus, Minus, Flip, Not}
use Rattle.wg_num.specs.Wrap.{value_of}
use Rattle.lane_values.specs.Lanes.{FitsLane, IsLane, unary_value}
use Rattle.lane_kernels.proofs.LaneLaws as K
use Rattle.lane_kernels.proofs.ListLaws as L
use Rattle.lane_kernels.proofs.ListLaws.{map_each, map_of_map, sub_in}
use Rattle.lane_kernels.proofs.lanes32.unary_numbers32.Goals as goal
use Rattle.lane_kernels.proofs.lanes32.unary_numbers32.Goals.{in-Plus, in-Minus, in-Flip, in-Not}

pub returns : goal.returns
returns g c =
    let t = c.args.t in
    let a = c.args.a in
    let n : FitsLane 32 c.args.t = c.requires.narrow in
    elim c.match-op.branch [
      | in-Plus w ↦ ap (map (value_of t)) w.result-is ∙
          map_each (IsLane 32 t) (value_of t) (unary_value Plus t) (K.lane_plus 32 (2 ^ 31) refl refl (omega arith)
          (omega arith) t n) a c.requires.lanes ∙ ap (λ o. map (unary_value o t) a) (sym w.in-Plus.is)
      | in-Minus w ↦ ap (map (value_of t)) (w.result-is ∙ zip2_splat_left (sub_in 32) 0 g.row.W a c.fits-a.0) ∙
          map_of_map (value_of t) (sub_in 32 0) a ∙
          map_each (IsLane 32 t) (λ p. value_of t (sub_in 32 0 p)) (unary_value Minus t)
          (K.lane_minus 32 (2 ^ 31) refl refl (omega arith) (omega arith) t n) a c.requires.lanes ∙
          ap (λ o. map (unary_value o t) a) (sym w.in-Minus.is)
      | in-Flip w ↦ ap (map (value_of t)) w.result-is ∙ map_of_map (value_of t) (λ p. 2 ^ 32 - 1 - p) a ∙
          map_each (IsLane 32 t) (λ p. value_of t (2 ^ 32 - 1 - p)) (unary_value Flip t)
          (K.lane_flip 32 (2 ^ 31) refl refl (omega arith) (omega arith) t n) a c.requires.lanes ∙
          ap (λ o. map (unary_value o t) a) (sym w.in-Flip.is)
      | in-Not w ↦ ap (map (value_of t)) (w.result-is ∙
          L.chosen_by 32 31 4294967295 refl refl nat_eq 0 1 0 g.row.W a c.fits-a.0) ∙
          map_of_map (value_of t) (λ p. cond (nat_eq p 0) 1 0) a ∙
          map_each (IsLane 32 t) (λ p. value_of t (cond (nat_eq p 0) 1 0)) (unary_value Not t)
          (K.lane_not 32 (2 ^ 31) refl refl (omega arith) (omega arith) t n) a c.requires.lanes ∙
          ap (λ o. map (unary_value o t) a) (sym w.in-Not.is)
    ]
