-- Built-in functions on numbers, in lanes of W bits: each lane is raised, so that its number is not negative.
use Rattle.std.proofs.Common.{◌≡◌, ℕ, ◌+◌, ◌-◌, ◌*◌, ◌/◌, ◌%◌, ◌^◌, ◌<◌, ◌≤◌, refl, sym, ap, subst, ◌∙◌, arith}
use Rattle.std.proofs.Common.{mod-lt, mod-eq_of_lt, min, max}
use Rattle.std.proofs.Common.{ℤ, pos, ◌+ℤ◌, ◌-ℤ◌, neg_ℤ, ◌≤ℤ◌, unsigned_abs}
use Rattle.std.specs.Int.{int_shr, int_max, int_min}
use Rattle.std.proofs.lemmas.Int.{ints, clamps}
use Rattle.wg_num.specs.declared.types.IntType.{IntType}
use Rattle.wg_num.specs.declared.types.IntType.TheVariants.{Bool as BoolType, Char, Uchar, Short, Ushort, Int, Uint}
use Rattle.wg_num.specs.declared.types.IntType.TheVariants.{Long, Ulong}
use Rattle.wg_num.specs.declared.types.Fun.TheVariants.{Abs, AbsDiff, AddSat, SubSat, Hadd, Rhadd}
use Rattle.wg_num.specs.Wrap.{IsValue, value_of, wrap_of, half, modulus, highest, lowest, width_bits}
use Rattle.wg_num.specs.Builtins.{builtin_of, held_in, unsigned_of}
use Rattle.wg_num.proofs.WrapLaws.{congruent_trans, IsValue-value, wrap_value}
use Rattle.lane_values.specs.Lanes.{FitsLane, lane}
use Rattle.lane_kernels.specs.Vectors.{apart, bias_of, held_raised, lowered_lane, one_lane, pair_lane}
use Rattle.lane_kernels.specs.Vectors.{raised_rest, raised_sum, raised_value}
use Rattle.lane_kernels.proofs.LaneLaws as K
use Rattle.lane_kernels.proofs.NumberLaws.{rest_of}

-- ---- over plain numbers

apart_is : (x y b : ℕ) (v w : ℤ) → pos x ≡ v +ℤ pos b → pos y ≡ w +ℤ pos b → pos (apart x y) ≡ pos (unsigned_abs (v
    -ℤ w))
apart_is x y b v w e f = omega (arith, ints, e, f)

half_down : (x y : ℕ) → min x y + apart x y / 2 ≡ (x + y) / 2
half_down x y = omega arith

half_up : (x y : ℕ) → max x y - apart x y / 2 ≡ (x + y + 1) / 2
half_up x y = omega arith

sum_held : (x y b h top m : ℕ) (v w : ℤ) → pos x ≡ v +ℤ pos b → pos y ≡ w +ℤ pos b → h ≤ b → b + top ≤ m → x ≤ m
    → pos (max (min (min (x + (y - b)) m - (b - y)) (b + top)) (b - h)) ≡
    int_max (int_min (v +ℤ w) (pos top)) (neg_ℤ (pos h)) +ℤ pos b
sum_held x y b h top m v w e f k l i = omega (arith, ints, clamps, e, f)

rest_held : (x y b h top m : ℕ) (v w : ℤ) → pos x ≡ v +ℤ pos b → pos y ≡ w +ℤ pos b → h ≤ b → b + top ≤ m → x ≤ m
    → pos (max (min (min (x + (b - y)) m - (y - b)) (b + top)) (b - h)) ≡
    int_max (int_min (v -ℤ w) (pos top)) (neg_ℤ (pos h)) +ℤ pos b
rest_held x y b h top m v w e f k l i = omega (arith, ints, clamps, e, f)

-- ---- the unsigned type of the same width

unsigned_width : (t : IntType) → width_bits (unsigned_of t) ≡ width_bits t
unsigned_width BoolType = refl
unsigned_width Char = refl
unsigned_width Uchar = refl
unsigned_width Short = refl
unsigned_width Ushort = refl
unsigned_width Int = refl
unsigned_width Uint = refl
unsigned_width Long = refl
unsigned_width Ulong = refl

-- it has all distances of values
unsigned_value : (t : IntType) (d : ℕ) → pos d ≤ℤ (highest t -ℤ lowest t) → IsValue (unsigned_of t) (pos d)
unfolding half modulus
unsigned_value BoolType d h = record { low = omega (arith, ints, h); high = omega (arith, ints, h) }
unsigned_value Char d h = record { low = omega (arith, ints, h); high = omega (arith, ints, h) }
unsigned_value Uchar d h = record { low = omega (arith, ints, h); high = omega (arith, ints, h) }
unsigned_value Short d h = record { low = omega (arith, ints, h); high = omega (arith, ints, h) }
unsigned_value Ushort d h = record { low = omega (arith, ints, h); high = omega (arith, ints, h) }
unsigned_value Int d h = record { low = omega (arith, ints, h); high = omega (arith, ints, h) }
unsigned_value Uint d h = record { low = omega (arith, ints, h); high = omega (arith, ints, h) }
unsigned_value Long d h = record { low = omega (arith, ints, h); high = omega (arith, ints, h) }
unsigned_value Ulong d h = record { low = omega (arith, ints, h); high = omega (arith, ints, h) }

module _ (W H : ℕ) (twice : 2 ^ W ≡ H + H) (high : H ≡ 2 ^ (W - 1)) (big : 128 ≤ H) (most : W ≤ 64) where
  raise_of : (t : IntType) (p : ℕ) → FitsLane W t → pos (raised_value W t p) ≡ value_of t p +ℤ pos (bias_of W t)
  raise_of t p n =
      K.raise_is W H twice high big most t _ n (K.IsLane-extended W H twice high big most t p n)
      ∙ ap (λ v. v +ℤ pos (bias_of W t)) (K.value-extended W H twice high big most t p n)

  pub raised-lt : (t : IntType) (p : ℕ) → raised_value W t p < 2 ^ W
  raised-lt t p = mod-lt _ (K.some_lane W H twice high big most)

  lane_range : (t : IntType) → FitsLane W t
      → (half t ≤ bias_of W t) × (modulus t - 1 - half t + bias_of W t < 2 ^ W) × (1 + bias_of W t < 2 ^ W)
  lane_range = K.lane_range W H twice high big most

  value_range : (t : IntType) (z : ℤ) → FitsLane W t → IsValue t z
      → (neg_ℤ (pos (bias_of W t)) ≤ℤ z) × ((z +ℤ pos (bias_of W t)) ≤ℤ pos (2 ^ W - 1))
  value_range = K.value_range W H twice high big most

  -- a raised number, lowered, is the lane of what it stands for
  lower : (t : IntType) (m : ℕ) (z : ℤ) → FitsLane W t → IsValue t z → pos m ≡ z +ℤ pos (bias_of W t)
      → lowered_lane W t m ≡ lane W (wrap_of t z)
  lower t m z n v e =
      let top = lane_range t n in
      sym (K.lane_unique W H twice high big most _ z (mod-lt _ (K.some_lane W H twice high big most))
      (congruent_trans (K.mod_congruent W H twice high big most (m + (2 ^ W - bias_of W t)))
      (record { more = 0; less = 1; same = omega (arith, ints, e, top.2) })))
      ∙ ap (lane W) (sym (wrap_value t z v))

  unsigned_lane : (t : IntType) (d : ℕ) → FitsLane W t → pos d ≤ℤ (highest t -ℤ lowest t)
      → d ≡ lane W (wrap_of (unsigned_of t) (pos d))
  unfolding lane
  unsigned_lane t d n h =
      let v = unsigned_value t d h in
      let r = value_range (unsigned_of t) (pos d) (omega (arith, unsigned_width t, n)) v in
      let small : d < 2 ^ W = omega (arith, ints, r.1, K.some_lane W H twice high big most) in
      sym (ap (lane W) (wrap_value (unsigned_of t) (pos d) v) ∙ mod-eq_of_lt small)

  zero_value : (t : IntType) → IsValue t (pos 0)
  zero_value t = subst (IsValue t) (K.value_of_zero W H twice high big most t) (IsValue-value t 0)

  -- ---- abs_diff and abs

  pub lane_distance : (t : IntType) → FitsLane W t → (p q : ℕ)
      → apart (raised_value W t p) (raised_value W t q) ≡ pair_lane W AbsDiff t p q
  unfolding builtin_of
  lane_distance t n p q =
      let v = value_of t p in
      let w = value_of t q in
      let i = IsValue-value t p in
      let j = IsValue-value t q in
      let e = apart_is _ _ (bias_of W t) v w (raise_of t p n) (raise_of t q n) in
      unsigned_lane t (apart (raised_value W t p) (raised_value W t q)) n
      (subst (λ z. z ≤ℤ (highest t -ℤ lowest t)) (sym e) (omega (arith, ints, i.low, i.high, j.low, j.high)))
      ∙ ap (λ z. lane W (wrap_of (unsigned_of t) z)) e

  pub lane_size : (t : IntType) → FitsLane W t → (p : ℕ) → apart (raised_value W t p) (bias_of W t) ≡ one_lane W Abs t p
  unfolding builtin_of
  lane_size t n p =
      let v = value_of t p in
      let i = IsValue-value t p in
      let j = zero_value t in
      let b : pos (bias_of W t) ≡ pos 0 +ℤ pos (bias_of W t) = omega (arith, ints) in
      let e = apart_is _ _ (bias_of W t) v (pos 0) (raise_of t p n) b in
      let f : v -ℤ pos 0 ≡ v = omega (arith, ints) in
      unsigned_lane t (apart (raised_value W t p) (bias_of W t)) n
      (subst (λ z. z ≤ℤ (highest t -ℤ lowest t)) (sym e) (omega (arith, ints, i.low, i.high, j.low, j.high)))
      ∙ ap (λ z. lane W (wrap_of (unsigned_of t) z)) (e ∙ ap (λ z. pos (unsigned_abs z)) f)

  -- ---- hadd and rhadd

  -- half of a raised sum, lowered
  half_lane : (t : IntType) → FitsLane W t → (x : ℕ) (a b v : ℤ) → IsValue t a → IsValue t b
      → (pos x ≡ v +ℤ pos (bias_of W t * 2)) → ((a +ℤ b) ≤ℤ v) → (v ≤ℤ (a +ℤ b +ℤ pos 1))
      → lowered_lane W t (x / 2) ≡ lane W (wrap_of t (int_shr v 1))
  half_lane t n x a b v i j e lo hi =
      let q : pos (x / 2) -ℤ pos (bias_of W t) ≡ int_shr v 1 =
      K.shr_raised W H twice high big most x (bias_of W t) 2 v (omega arith) e in
      let is : pos (x / 2) ≡ int_shr v 1 +ℤ pos (bias_of W t) = omega (arith, ints, q) in
      lower t (x / 2) (int_shr v 1) n (record {
        low = omega (arith, ints, is, e, lo, hi, i.low, j.low);
        high = omega (arith, ints, is, e, lo, hi, i.high, j.high);
      }) is

  pub lane_half_down : (t : IntType) → FitsLane W t → (p q : ℕ)
      → lowered_lane W t ((min (raised_value W t p) (raised_value W t q) +
      apart (raised_value W t p) (raised_value W t q) / 2) % 2 ^ W) ≡ pair_lane W Hadd t p q
  unfolding builtin_of
  lane_half_down t n p q =
      let x = raised_value W t p in
      let y = raised_value W t q in
      let v = value_of t p in
      let w = value_of t q in
      let i = raised-lt t p in
      let j = raised-lt t q in
      let h = half_down x y in
      let e = raise_of t p n in
      let f = raise_of t q n in
      ap (lowered_lane W t) (ap (λ m. m % 2 ^ W) h ∙ mod-eq_of_lt (omega arith))
      ∙ half_lane t n (x + y) v w (v +ℤ w) (IsValue-value t p) (IsValue-value t q) (omega (arith, ints, e, f))
      (omega (arith, ints)) (omega (arith, ints))

  pub lane_half_up : (t : IntType) → FitsLane W t → (p q : ℕ)
      → lowered_lane W t ((max (raised_value W t p) (raised_value W t q) +
      (2 ^ W - apart (raised_value W t p) (raised_value W t q) / 2)) % 2 ^ W) ≡ pair_lane W Rhadd t p q
  unfolding builtin_of
  lane_half_up t n p q =
      let x = raised_value W t p in
      let y = raised_value W t q in
      let v = value_of t p in
      let w = value_of t q in
      let i = raised-lt t p in
      let j = raised-lt t q in
      let h = half_up x y in
      let e = raise_of t p n in
      let f = raise_of t q n in
      ap (lowered_lane W t) (rest_of W (max x y) (apart x y / 2) (omega arith) (omega arith) ∙ h)
      ∙ half_lane t n (x + y + 1) v w (v +ℤ w +ℤ pos 1) (IsValue-value t p) (IsValue-value t q)
      (omega (arith, ints, e, f)) (omega (arith, ints)) (omega (arith, ints))

  -- ---- add_sat and sub_sat

  -- the ends of the type have room when they are raised
  pub high_room : (t : IntType) (top : ℕ) → FitsLane W t → pos top ≡ highest t → bias_of W t + top < 2 ^ W
  high_room t top n e =
      let z = zero_value t in
      let v : IsValue t (highest t) = record { low = omega (arith, ints, z.low, z.high); high = omega (arith, ints) } in
      let r = value_range t (highest t) n v in
      omega (arith, ints, e, r.1, K.some_lane W H twice high big most)

  pub low_room : (t : IntType) → FitsLane W t → half t ≤ bias_of W t
  low_room t n = (lane_range t n).0

  held_value : (t : IntType) (z : ℤ) → IsValue t (held_in t z)
  held_value t z =
      let o = zero_value t in
      record { low = omega (arith, ints, clamps); high = omega (arith, ints, clamps, o.low, o.high) }

  pub lane_sum : (t : IntType) → FitsLane W t → (top : ℕ) → pos top ≡ highest t → (p q : ℕ)
      → lowered_lane W t (held_raised W t top (raised_sum W (bias_of W t) (raised_value W t p) (raised_value W t q))) ≡
      pair_lane W AddSat t p q
  unfolding builtin_of
  lane_sum t n top h p q =
      let v = value_of t p in
      let w = value_of t q in
      let i = raised-lt t p in
      let room = high_room t top n h in
      lower t _ (held_in t (v +ℤ w)) n (held_value t (v +ℤ w))
      (sum_held (raised_value W t p) (raised_value W t q) (bias_of W t) (half t) top (2 ^ W - 1) v w (raise_of t p n)
      (raise_of t q n) (low_room t n) (omega arith) (omega arith)
      ∙ ap (λ z. int_max (int_min (v +ℤ w) z) (neg_ℤ (pos (half t))) +ℤ pos (bias_of W t)) h)

  pub lane_rest : (t : IntType) → FitsLane W t → (top : ℕ) → pos top ≡ highest t → (p q : ℕ)
      → lowered_lane W t (held_raised W t top (raised_rest W (bias_of W t) (raised_value W t p) (raised_value W t q))) ≡
      pair_lane W SubSat t p q
  unfolding builtin_of
  lane_rest t n top h p q =
      let v = value_of t p in
      let w = value_of t q in
      let i = raised-lt t p in
      let room = high_room t top n h in
      lower t _ (held_in t (v -ℤ w)) n (held_value t (v -ℤ w))
      (rest_held (raised_value W t p) (raised_value W t q) (bias_of W t) (half t) top (2 ^ W - 1) v w (raise_of t p n)
      (raise_of t q n) (low_room t n) (omega arith) (omega arith)
      ∙ ap (λ z. int_max (int_min (v -ℤ w) z) (neg_ℤ (pos (half t))) +ℤ pos (bias_of W t)) h)
