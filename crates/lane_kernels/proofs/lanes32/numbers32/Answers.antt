use Rattle.std.proofs.Common.{refl, arith}
use Rattle.std.proofs.Common.{◌*◌, ◌^◌, ◌%◌, ap, ◌∙◌, sym, map, not, nat_eq, bit_and, bit_or, bit_xor}
use Rattle.std.specs.Int.{from_bool}
use Rattle.std.specs.Simd.Lanes.{zip2}
use Rattle.wg_num.specs.declared.types.Bin.TheVariants.{Add, Sub, Mul, Div, Rem, Shl, Shr, And, Or, Xor, Eq, Ne, Lt}
use Rattle.wg_num.specs.declared.types.Bin.TheVariants.{Le, Gt, Ge}
use Rattle.wg_num.specs.Wrap.{value_of, width_bits}
use Rattle.wg_num.specs.Operators.{is_shift}
use Rattle.lane_values.specs.Lanes.{FitsLane, IsLane, binary_value}
use Rattle.lane_kernels.specs.Vectors.{bias_of, quotient_lane, rest_lane, shl_lane, shr_lane, less_lane}
use Rattle.lane_kernels.specs.Vectors.{at_most_lane}
use Rattle.lane_kernels.proofs.DivisionLaws.{lane_div, lane_rem}
use Rattle.lane_kernels.proofs.LaneLaws as K
use Rattle.lane_kernels.proofs.ListLaws as L
use Rattle.lane_kernels.proofs.ListLaws.{add_in, sub_in}
use Rattle.lane_kernels.proofs.lanes32.numbers32.Goals as goal
use Rattle.lane_kernels.proofs.lanes32.numbers32.Goals.{in-Add, in-Sub, in-Mul, in-Div, in-Rem, in-Shl, in-Shr}
use Rattle.lane_kernels.proofs.lanes32.numbers32.Goals.{in-And, in-Or, in-Xor, in-Eq, in-Ne, in-Lt, in-Le, in-Gt}
use Rattle.lane_kernels.proofs.lanes32.numbers32.Goals.{in-Ge}

pub returns : goal.returns
returns g c =
    let t = c.args.t in
    let a = c.args.a in
    let b = c.args.b in
    let n : FitsLane 32 c.args.t = c.requires.narrow in
    let left = c.requires.left in
    elim c.match-op.branch [
      | in-Add w ↦ ap (map (value_of t)) w.result-is ∙
          L.lanes_same 32 31 4294967295 refl refl (IsLane 32 t) (IsLane 32 t) (value_of t) (add_in 32)
          (binary_value Add t) (K.lane_add 32 (2 ^ 31) refl refl (omega arith) (omega arith) t n) a b left
          (c.requires.right (ap is_shift w.in-Add.is)) ∙ ap (λ o. zip2 (binary_value o t) a b) (sym w.in-Add.is)
      | in-Sub w ↦ ap (map (value_of t)) w.result-is ∙
          L.lanes_same 32 31 4294967295 refl refl (IsLane 32 t) (IsLane 32 t) (value_of t) (sub_in 32)
          (binary_value Sub t) (K.lane_sub 32 (2 ^ 31) refl refl (omega arith) (omega arith) t n) a b left
          (c.requires.right (ap is_shift w.in-Sub.is)) ∙ ap (λ o. zip2 (binary_value o t) a b) (sym w.in-Sub.is)
      | in-Mul w ↦ ap (map (value_of t)) w.result-is ∙
          L.lanes_same 32 31 4294967295 refl refl (IsLane 32 t) (IsLane 32 t) (value_of t) (λ x y. x * y % 2 ^ 32)
          (binary_value Mul t) (K.lane_mul 32 (2 ^ 31) refl refl (omega arith) (omega arith) t n) a b left
          (c.requires.right (ap is_shift w.in-Mul.is)) ∙ ap (λ o. zip2 (binary_value o t) a b) (sym w.in-Mul.is)
      | in-Div w ↦ ap (map (value_of t)) (w.result-is ∙ w.quotients.ensures ∙
          ap (λ m. zip2 ((quotient_lane 32) m) a b) w.bias.ensures) ∙
          L.lanes_same 32 31 4294967295 refl refl (IsLane 32 t) (IsLane 32 t) (value_of t)
          ((quotient_lane 32) ((bias_of 32) t)) (binary_value Div t) (lane_div 32 (2 ^ 31) refl refl (omega arith)
          (omega arith) t n) a b left (c.requires.right (ap is_shift w.in-Div.is)) ∙
          ap (λ o. zip2 (binary_value o t) a b) (sym w.in-Div.is)
      | in-Rem w ↦ ap (map (value_of t)) (w.result-is ∙ w.rests.ensures ∙
          ap (λ m. zip2 ((rest_lane 32) m) a b) w.bias-in-Rem.ensures) ∙
          L.lanes_same 32 31 4294967295 refl refl (IsLane 32 t) (IsLane 32 t) (value_of t)
          ((rest_lane 32) ((bias_of 32) t)) (binary_value Rem t) (lane_rem 32 (2 ^ 31) refl refl (omega arith)
          (omega arith) t n) a b left (c.requires.right (ap is_shift w.in-Rem.is)) ∙
          ap (λ o. zip2 (binary_value o t) a b) (sym w.in-Rem.is)
      | in-Shl w ↦ ap (map (value_of t)) (w.result-is ∙ w.shifted_left.ensures) ∙
          L.lanes_same 32 31 4294967295 refl refl (IsLane 32 t) (λ _. Unit {0}) (value_of t)
          ((shl_lane 32) (width_bits t)) (binary_value Shl t)
          (λ p q l r. K.lane_shl 32 (2 ^ 31) refl refl (omega arith) (omega arith) t n p q l) a b left
          (L.any_lane 32 31 4294967295 refl refl b) ∙ ap (λ o. zip2 (binary_value o t) a b) (sym w.in-Shl.is)
      | in-Shr w ↦ ap (map (value_of t)) (w.result-is ∙ w.shifted_right.ensures) ∙
          L.lanes_same 32 31 4294967295 refl refl (IsLane 32 t) (λ _. Unit {0}) (value_of t)
          ((shr_lane 32) ((bias_of 32) t) (width_bits t)) (binary_value Shr t)
          (λ p q l r. K.lane_shr 32 (2 ^ 31) refl refl (omega arith) (omega arith) t n p q l) a b left
          (L.any_lane 32 31 4294967295 refl refl b) ∙ ap (λ o. zip2 (binary_value o t) a b) (sym w.in-Shr.is)
      | in-And w ↦ ap (map (value_of t)) w.result-is ∙
          L.lanes_same 32 31 4294967295 refl refl (IsLane 32 t) (IsLane 32 t) (value_of t) bit_and
          (binary_value And t) (K.lane_and 32 (2 ^ 31) refl refl (omega arith) (omega arith) t n) a b left
          (c.requires.right (ap is_shift w.in-And.is)) ∙ ap (λ o. zip2 (binary_value o t) a b) (sym w.in-And.is)
      | in-Or w ↦ ap (map (value_of t)) w.result-is ∙
          L.lanes_same 32 31 4294967295 refl refl (IsLane 32 t) (IsLane 32 t) (value_of t) bit_or (binary_value Or t)
          (K.lane_or 32 (2 ^ 31) refl refl (omega arith) (omega arith) t n) a b left
          (c.requires.right (ap is_shift w.in-Or.is)) ∙ ap (λ o. zip2 (binary_value o t) a b) (sym w.in-Or.is)
      | in-Xor w ↦ ap (map (value_of t)) w.result-is ∙
          L.lanes_same 32 31 4294967295 refl refl (IsLane 32 t) (IsLane 32 t) (value_of t) bit_xor
          (binary_value Xor t) (K.lane_xor 32 (2 ^ 31) refl refl (omega arith) (omega arith) t n) a b left
          (c.requires.right (ap is_shift w.in-Xor.is)) ∙ ap (λ o. zip2 (binary_value o t) a b) (sym w.in-Xor.is)
      | in-Eq w ↦ ap (map (value_of t)) (w.result-is ∙
          L.told 32 31 4294967295 refl refl (λ x y. nat_eq x y) g.row.W a b c.fits-a.0 c.fits-b.0) ∙
          L.lanes_same 32 31 4294967295 refl refl (IsLane 32 t) (IsLane 32 t) (value_of t)
          (λ x y. from_bool (nat_eq x y)) (binary_value Eq t)
          (K.lane_eq 32 (2 ^ 31) refl refl (omega arith) (omega arith) t n) a b left
          (c.requires.right (ap is_shift w.in-Eq.is)) ∙ ap (λ o. zip2 (binary_value o t) a b) (sym w.in-Eq.is)
      | in-Ne w ↦ ap (map (value_of t)) (w.result-is ∙
          L.told 32 31 4294967295 refl refl (λ x y. not (nat_eq x y)) g.row.W a b c.fits-a.0 c.fits-b.0) ∙
          L.lanes_same 32 31 4294967295 refl refl (IsLane 32 t) (IsLane 32 t) (value_of t)
          (λ x y. from_bool (not (nat_eq x y))) (binary_value Ne t)
          (K.lane_ne 32 (2 ^ 31) refl refl (omega arith) (omega arith) t n) a b left
          (c.requires.right (ap is_shift w.in-Ne.is)) ∙ ap (λ o. zip2 (binary_value o t) a b) (sym w.in-Ne.is)
      | in-Lt w ↦ ap (map (value_of t)) (w.result-is ∙ w.are_less.ensures ∙
          ap (λ m. zip2 (less_lane 32 m) a b) w.bias-in-Lt.ensures) ∙
          L.lanes_same 32 31 4294967295 refl refl (IsLane 32 t) (IsLane 32 t) (value_of t)
          (less_lane 32 (bias_of 32 t)) (binary_value Lt t)
          (K.lane_lt 32 (2 ^ 31) refl refl (omega arith) (omega arith) t n) a b left
          (c.requires.right (ap is_shift w.in-Lt.is)) ∙ ap (λ o. zip2 (binary_value o t) a b) (sym w.in-Lt.is)
      | in-Le w ↦ ap (map (value_of t)) (w.result-is ∙ w.are_at_most.ensures ∙
          ap (λ m. zip2 (at_most_lane 32 m) a b) w.bias-in-Le.ensures) ∙
          L.lanes_same 32 31 4294967295 refl refl (IsLane 32 t) (IsLane 32 t) (value_of t)
          (at_most_lane 32 (bias_of 32 t)) (binary_value Le t)
          (K.lane_le 32 (2 ^ 31) refl refl (omega arith) (omega arith) t n) a b left
          (c.requires.right (ap is_shift w.in-Le.is)) ∙ ap (λ o. zip2 (binary_value o t) a b) (sym w.in-Le.is)
      | in-Gt w ↦ ap (map (value_of t)) (w.result-is ∙ w.are_less-in-Gt.ensures ∙
          ap (λ m. zip2 (less_lane 32 m) b a) w.bias-in-Gt.ensures ∙
          L.zip2_swap 32 31 4294967295 refl refl (less_lane 32 (bias_of 32 t)) b a) ∙
          L.lanes_same 32 31 4294967295 refl refl (IsLane 32 t) (IsLane 32 t) (value_of t)
          (λ x y. less_lane 32 (bias_of 32 t) y x) (binary_value Gt t)
          (K.lane_gt 32 (2 ^ 31) refl refl (omega arith) (omega arith) t n) a b left
          (c.requires.right (ap is_shift w.in-Gt.is)) ∙ ap (λ o. zip2 (binary_value o t) a b) (sym w.in-Gt.is)
      | in-Ge w ↦ ap (map (value_of t)) (w.result-is ∙ w.are_at_most-in-Ge.ensures ∙
          ap (λ m. zip2 (at_most_lane 32 m) b a) w.bias-in-Ge.ensures ∙
          L.zip2_swap 32 31 4294967295 refl refl (at_most_lane 32 (bias_of 32 t)) b a) ∙
          L.lanes_same 32 31 4294967295 refl refl (IsLane 32 t) (IsLane 32 t) (value_of t)
          (λ x y. at_most_lane 32 (bias_of 32 t) y x) (binary_value Ge t)
          (K.lane_ge 32 (2 ^ 31) refl refl (omega arith) (omega arith) t n) a b left
          (c.requires.right (ap is_shift w.in-Ge.is)) ∙ ap (λ o. zip2 (binary_value o t) a b) (sym w.in-Ge.is)
    ]
