-- The built-in functions, as functions of three lanes.
use Rattle.std.proofs.Common.{◌≡◌, ℕ, zero, suc, ◌+◌, ◌-◌, ◌^◌, ◌≤◌, refl, sym, ap, ap₂, ◌∙◌, arith, List, [], ◌∷◌}
use Rattle.std.proofs.Common.{length, map}
use Rattle.std.specs.Int.{int_max, int_min}
use Rattle.std.proofs.lemmas.Int.{ints, clamps}
use Rattle.std.specs.Simd.Lanes.{zip2}
use Rattle.wg_num.specs.declared.types.IntType.{IntType}
use Rattle.wg_num.specs.declared.types.Fun.TheVariants.{Abs, AbsDiff, AddSat, Clamp, Clz, Hadd, Max, Min, Popcount}
use Rattle.wg_num.specs.declared.types.Fun.TheVariants.{MulHi, Rhadd, Rotate, SubSat}
use Rattle.wg_num.specs.Wrap.{IsValue, value_of, wrap_of}
use Rattle.wg_num.specs.Builtins.{builtin_of}
use Rattle.wg_num.proofs.WrapLaws.{IsValue-value, wrap_value}
use Rattle.lane_values.specs.Lanes.{FitsLane, builtin_lane, extended, lane, zip3}
use Rattle.lane_kernels.specs.Vectors.{bias_of, greater_lane, lesser_lane, one_lane, pair_lane}
use Rattle.lane_kernels.proofs.LaneLaws as K

-- what a function does not take
pub abs_takes_one : (W : ℕ) (t : IntType) (p q r : ℕ) → one_lane W Abs t p ≡ builtin_lane W Abs t p q r
unfolding builtin_of
abs_takes_one W t p q r = refl

pub clz_takes_one : (W : ℕ) (t : IntType) (p q r : ℕ) → one_lane W Clz t p ≡ builtin_lane W Clz t p q r
unfolding builtin_of
clz_takes_one W t p q r = refl

pub popcount_takes_one : (W : ℕ) (t : IntType) (p q r : ℕ) → one_lane W Popcount t p ≡ builtin_lane W Popcount t p q r
unfolding builtin_of
popcount_takes_one W t p q r = refl

pub rotate_takes_two : (W : ℕ) (t : IntType) (p q r : ℕ) → pair_lane W Rotate t p q ≡ builtin_lane W Rotate t p q r
unfolding builtin_of
rotate_takes_two W t p q r = refl

pub abs_diff_takes_two : (W : ℕ) (t : IntType) (p q r : ℕ) → pair_lane W AbsDiff t p q ≡ builtin_lane W AbsDiff t p q r
unfolding builtin_of
abs_diff_takes_two W t p q r = refl

pub add_sat_takes_two : (W : ℕ) (t : IntType) (p q r : ℕ) → pair_lane W AddSat t p q ≡ builtin_lane W AddSat t p q r
unfolding builtin_of
add_sat_takes_two W t p q r = refl

pub sub_sat_takes_two : (W : ℕ) (t : IntType) (p q r : ℕ) → pair_lane W SubSat t p q ≡ builtin_lane W SubSat t p q r
unfolding builtin_of
sub_sat_takes_two W t p q r = refl

pub hadd_takes_two : (W : ℕ) (t : IntType) (p q r : ℕ) → pair_lane W Hadd t p q ≡ builtin_lane W Hadd t p q r
unfolding builtin_of
hadd_takes_two W t p q r = refl

pub rhadd_takes_two : (W : ℕ) (t : IntType) (p q r : ℕ) → pair_lane W Rhadd t p q ≡ builtin_lane W Rhadd t p q r
unfolding builtin_of
rhadd_takes_two W t p q r = refl

pub mul_hi_takes_two : (W : ℕ) (t : IntType) (p q r : ℕ) → pair_lane W MulHi t p q ≡ builtin_lane W MulHi t p q r
unfolding builtin_of
mul_hi_takes_two W t p q r = refl

pub min_takes_two : (W : ℕ) (t : IntType) (p q r : ℕ) → pair_lane W Min t p q ≡ builtin_lane W Min t p q r
unfolding builtin_of
min_takes_two W t p q r = refl

pub max_takes_two : (W : ℕ) (t : IntType) (p q r : ℕ) → pair_lane W Max t p q ≡ builtin_lane W Max t p q r
unfolding builtin_of
max_takes_two W t p q r = refl

pub map_as_zip3 : (f : ℕ → ℕ) (h : ℕ → ℕ → ℕ → ℕ) → ((p q r : ℕ) → f p ≡ h p q r) → (n : ℕ) (a b c : List ℕ) →
    length a ≡ n → length b ≡ n → length c ≡ n → map f a ≡ zip3 h a b c
map_as_zip3 f h e n [] b c i j k = refl
map_as_zip3 f h e zero (p ∷ a) b c i j k = absurd (omega arith)
map_as_zip3 f h e (suc n) (p ∷ a) [] c i j k = absurd (omega arith)
map_as_zip3 f h e (suc n) (p ∷ a) (q ∷ b) [] i j k = absurd (omega arith)
map_as_zip3 f h e (suc n) (p ∷ a) (q ∷ b) (r ∷ c) i j k =
    ap₂ (λ v vs. v ∷ vs) (e p q r) (map_as_zip3 f h e n a b c (omega arith) (omega arith) (omega arith))

module _ (W H : ℕ) (twice : 2 ^ W ≡ H + H) (high : H ≡ 2 ^ (W - 1)) (big : 128 ≤ H) (most : W ≤ 64) where
  -- the greater of two values is a value
  max_value : (t : IntType) (p q : ℕ) → IsValue t (int_max (value_of t p) (value_of t q))
  max_value t p q =
      let i = IsValue-value t p in
      let j = IsValue-value t q in
      record { low = omega (arith, ints, clamps, i.low); high = omega (arith, ints, clamps, i.high, j.high) }

  held_again : (t : IntType) → FitsLane W t → (p q : ℕ) →
      value_of t (builtin_lane W Max t p q 0) ≡ int_max (value_of t p) (value_of t q)
  unfolding builtin_of
  held_again t n p q =
      let v = value_of t p in
      let w = value_of t q in
      let h = max_value t p q in
      ap (λ z. value_of t (lane W z)) (wrap_value t (int_max v w) h) ∙
      K.lane_back W H twice high big most t (int_max v w) n h

  max_lane : (t : IntType) → FitsLane W t → (p q : ℕ) →
      builtin_lane W Max t p q 0 ≡ lane W (int_max (value_of t p) (value_of t q))
  unfolding builtin_of
  max_lane t n p q = ap (lane W) (wrap_value t (int_max (value_of t p) (value_of t q)) (max_value t p q))

  pub lane_clamp : (t : IntType) → FitsLane W t → (p q r : ℕ)
      → lesser_lane W (bias_of W t) (greater_lane W (bias_of W t) (extended W t p) (extended W t q)) (extended W t r) ≡
      builtin_lane W Clamp t p q r
  unfolding builtin_of
  lane_clamp t n p q r =
      let m = builtin_lane W Max t p q 0 in
      let v = value_of t m in
      let again : extended W t m ≡ m = ap (lane W) (held_again t n p q) ∙ sym (max_lane t n p q) in
      ap (λ x. lesser_lane W (bias_of W t) x (extended W t r)) (K.lane_greater W H twice high big most t n p q 0 ∙
      sym again)
      ∙ K.lane_lesser W H twice high big most t n m r 0
      ∙ ap (λ z. lane W (wrap_of t (int_min z (value_of t r)))) (held_again t n p q)

  pub clamp_lanes : (t : IntType) → FitsLane W t → (n : ℕ) (a b c : List ℕ) → length a ≡ n → length b ≡ n →
      length c ≡ n
      → zip2 (lesser_lane W (bias_of W t)) (zip2 (greater_lane W (bias_of W t)) (map (extended W t) a)
      (map (extended W t) b)) (map (extended W t) c) ≡ zip3 (builtin_lane W Clamp t) a b c
  clamp_lanes t fits n [] b c i j k = refl
  clamp_lanes t fits zero (p ∷ a) b c i j k = absurd (omega arith)
  clamp_lanes t fits (suc n) (p ∷ a) [] c i j k = absurd (omega arith)
  clamp_lanes t fits (suc n) (p ∷ a) (q ∷ b) [] i j k = absurd (omega arith)
  clamp_lanes t fits (suc n) (p ∷ a) (q ∷ b) (r ∷ c) i j k =
      ap₂ (λ v vs. v ∷ vs) (lane_clamp t fits p q r) (clamp_lanes t fits n a b c (omega arith) (omega arith) (omega
      arith))
