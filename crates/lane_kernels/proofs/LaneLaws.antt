-- What a lane of W bits stands for: W is 32 in narrow lanes and 64 in wide ones.
use Rattle.std.proofs.Common.{◌≡◌, ℕ, zero, suc, ◌+◌, ◌-◌, ◌*◌, ◌/◌, ◌%◌, ◌^◌, ◌<◌, ◌≤◌, refl, sym, ap, ap₂, subst}
use Rattle.std.proofs.Common.{subst₂, ◌∙◌, arith, Bool, true, false, cond, inl, inr, ◌⊎◌, ⊎_elim, mod-lt}
use Rattle.std.proofs.Common.{mod-eq_of_lt, mul-le-mul, div-add-mod', pow_pos, pow_mono, not}
use Rattle.std.proofs.Common.{ℤ, pos, negsuc, ◌+ℤ◌, ◌-ℤ◌, ◌*ℤ◌, neg_ℤ, ◌≤ℤ◌, bit_and, bit_or, bit_xor, int_lt, int_le}
use Rattle.std.proofs.Common.{nat_eq, nat_lt, nat_le, ltb, eqb-true, eq-eqb, zero-mul}
use Rattle.std.proofs.Common.{true≢false}
use Rattle.std.specs.Int.{int_shr, from_bool}
use Rattle.std.specs.Ordering.{int_eq}
use Rattle.std.specs.Bool.{one_answer}
use Rattle.std.proofs.lemmas.Bool.Decides.{Decides-int_eq}
use borrow.Author.Differences.{up, down}
use Rattle.std.proofs.lemmas.Int.{ints}
use Rattle.std.proofs.lemmas.Nat.{and_mask, and_mod, or_mod, xor_mod, one_shl, div_below, div-mul-add, pow-add}
use Rattle.std.proofs.lemmas.Nat.{and_le_l, or_lt, xor_lt}
use Rattle.std.proofs.Math.Nat.{add-mul-div_right, mul-div_cancel, div-le_self, mod-le}
use Rattle.std.specs.Int.Signed.{shr_z}
use Rattle.wg_num.specs.declared.types.IntType.{IntType}
use Rattle.wg_num.specs.declared.types.IntType.TheVariants.{Bool as BoolType, Char, Uchar, Short, Ushort, Int, Uint}
use Rattle.wg_num.specs.declared.types.IntType.TheVariants.{Long, Ulong}
use Rattle.wg_num.specs.declared.types.Un.{Un}
use Rattle.wg_num.specs.declared.types.Un.TheVariants.{Plus, Minus, Flip, Not}
use Rattle.wg_num.specs.declared.types.Bin.{Bin}
use Rattle.wg_num.specs.declared.types.Bin.TheVariants.{Add, Sub, Mul, Div, Rem, Shl, Shr, And, Or, Xor, Eq, Ne, Lt}
use Rattle.wg_num.specs.declared.types.Bin.TheVariants.{Le, Gt, Ge}
use Rattle.wg_num.specs.Wrap.{IsCongruent, IsValue, residue, truth_of, wrap_of, value_of, bits_of, modulus, half}
use Rattle.wg_num.specs.Wrap.{is_bool, is_signed, width_bits}
use Rattle.wg_num.specs.Operators.{unary_of, unary_exact, binary_of, binary_exact, is_shift, number_of}
use Rattle.wg_num.proofs.WrapLaws.{residue-lt, residue_congruent, residue_unique, congruent_refl, congruent_sym}
use Rattle.wg_num.proofs.WrapLaws.{congruent_trans, congruent-add, congruent-sub, congruent-mul, congruent_divides}
use Rattle.wg_num.proofs.WrapLaws.{wrap_same, wrap_bool, wrap_whole, wrap_value, wrap_congruent, either_type}
use Rattle.wg_num.proofs.WrapLaws.{some_modulus, half-below, IsValue-value, bits_congruent, value_whole, value_bool}
use Rattle.wg_num.specs.declared.types.Fun.TheVariants.{Min, Max}
use Rattle.wg_num.specs.Builtins.{builtin_of}
use Rattle.lane_values.specs.Lanes.{builtin_lane, FitsLane, IsLane, lane, right_value, binary_value, extended}
use Rattle.lane_values.specs.Lanes.{unary_value, convert_lane}
use Rattle.lane_kernels.specs.Vectors.{lesser_lane, greater_lane, bias_of, raised, shl_lane, shr_lane, moved_lane}

module _ (W H : ℕ) (twice : 2 ^ W ≡ H + H) (high : H ≡ 2 ^ (W - 1)) (big : 128 ≤ H) (most : W ≤ 64) where
  pub some_width : (t : IntType) → 0 < width_bits t
  some_width BoolType = omega arith
  some_width Char = omega arith
  some_width Uchar = omega arith
  some_width Short = omega arith
  some_width Ushort = omega arith
  some_width Int = omega arith
  some_width Uint = omega arith
  some_width Long = omega arith
  some_width Ulong = omega arith

  pub lane_bound : (z : ℤ) → lane W z < 2 ^ W
  unfolding lane
  lane_bound z = residue-lt z (2 ^ W) (omega arith)

  pub lane_is : (z : ℤ) → IsCongruent (2 ^ W) (pos (lane W z)) z
  unfolding lane
  lane_is z = residue_congruent z (2 ^ W) (omega arith)

  pub lane_unique : (r : ℕ) (z : ℤ) → r < 2 ^ W → IsCongruent (2 ^ W) (pos r) z → lane W z ≡ r
  unfolding lane
  lane_unique r z h e = residue_unique r z (2 ^ W) h e

  pub mod_congruent : (n : ℕ) → IsCongruent (2 ^ W) (pos (n % 2 ^ W)) (pos n)
  mod_congruent n = residue_congruent (pos n) (2 ^ W) (omega arith)

  -- how often the modulus of a type goes into 2 ^ W
  pub narrow_divides : (t : IntType) → FitsLane W t → (q : ℕ) × (2 ^ W ≡ q * modulus t)
  unfolding modulus
  narrow_divides t h =
      let split : (W - width_bits t) + width_bits t ≡ W = omega (arith, h) in
      (2 ^ (W - width_bits t), ap (λ n. 2 ^ n) (sym split) ∙ pow-add 2 (W - width_bits t) (width_bits t))

  wide_divides : 2 ^ 64 ≡ 2 ^ (64 - W) * 2 ^ W
  wide_divides = let split : (64 - W) + W ≡ 64 = omega arith in ap (λ n. 2 ^ n) (sym split) ∙ pow-add 2 (64 - W) W

  nothing : 0 % 2 ^ W ≡ 0
  nothing = mod-eq_of_lt (omega arith)

  one_stays : 1 % 2 ^ W ≡ 1
  one_stays = mod-eq_of_lt (omega arith)

  pub wrap_same_lane : (t : IntType) (a b : ℤ) → FitsLane W t → is_bool t ≡ false → IsCongruent (2 ^ W) a b →
      wrap_of t a ≡ wrap_of t b
  wrap_same_lane t a b n e h = let d = narrow_divides t n in wrap_same t a b e (congruent_divides (modulus t) d.0 d.1 h)

  pub lane_congruent : (t : IntType) (p : ℕ) → IsLane W t p → IsCongruent (2 ^ W) (pos p) (value_of t p)
  lane_congruent t p l = subst (λ x. IsCongruent (2 ^ W) (pos x) (value_of t p)) l.same (lane_is (value_of t p))

  pub lane-lt : (t : IntType) (p : ℕ) → IsLane W t p → p < 2 ^ W
  lane-lt t p l = subst (λ x. x < 2 ^ W) l.same (lane_bound (value_of t p))

  -- a lane of a bool is 0 or 1, and so is its value
  pub lane_bool : (t : IntType) (p : ℕ) → is_bool t ≡ true → IsLane W t p → (p ≡ 0) ⊎ (p ≡ 1)
  unfolding value_of lane
  lane_bool t zero e l = inl refl
  lane_bool t (suc n) e l = inr (sym l.same ∙ ap (λ z. residue z (2 ^ W)) (wrap_bool t (pos (suc n)) e) ∙ one_stays)

  pub value_zero : (t : IntType) → is_bool t ≡ true → value_of t 0 ≡ pos 0
  unfolding value_of
  value_zero t e = wrap_bool t (pos 0) e

  pub value_one : (t : IntType) → is_bool t ≡ true → value_of t 1 ≡ pos 1
  unfolding value_of
  value_one t e = wrap_bool t (pos 1) e

  pub value_lane_bool : (t : IntType) (p : ℕ) → is_bool t ≡ true → IsLane W t p → value_of t p ≡ pos p
  value_lane_bool t p e l = ⊎_elim (λ i. subst (λ x. value_of t x ≡ pos x) (sym i) (value_zero t e))
      (λ i. subst (λ x. value_of t x ≡ pos x) (sym i) (value_one t e)) (lane_bool t p e l)

  -- a number stands for an exact result: the lane's value is the result, wrapped
  pub stands : (t : IntType) (r : ℕ) (z : ℤ) → FitsLane W t → (is_bool t ≡ false → IsCongruent (2 ^ W) (pos r) z) →
      (is_bool t ≡ true → truth_of (pos r) ≡ truth_of z) → value_of t r ≡ wrap_of t z
  unfolding value_of
  stands t r z n c b = ⊎_elim
      (λ e. wrap_bool t (pos r) e ∙ b e ∙ sym (wrap_bool t z e))
      (λ e. wrap_same_lane t (pos r) z n e (c e))
      (either_type t)

  pub right_is_value : (op : Bin) (t : IntType) (q : ℕ) → is_shift op ≡ false → right_value op t q ≡ value_of t q
  unfolding right_value
  right_is_value op t q e = ap (λ b. cond b (pos q) (value_of t q)) e

  -- the four cases of two lanes of bools
  four : (P : ℕ → ℕ → Type 0) (p q : ℕ) → P 0 0 → P 0 1 → P 1 0 → P 1 1 → (p ≡ 0) ⊎ (p ≡ 1) → (q ≡ 0) ⊎ (q ≡ 1) → P p q
  four P p q a b c d u v = ⊎_elim
      (λ i. ⊎_elim (λ j. subst₂ P (sym i) (sym j) a) (λ j. subst₂ P (sym i) (sym j) b) v)
      (λ i. ⊎_elim (λ j. subst₂ P (sym i) (sym j) c) (λ j. subst₂ P (sym i) (sym j) d) v)
      u

  truth_some : (n : ℕ) → 0 < n → truth_of (pos n) ≡ pos 1
  truth_some zero h = absurd (omega arith)
  truth_some (suc n) h = refl

  -- a small number is 0 where its lane is
  truth_small : (r : ℕ) (z : ℤ) → r < 2 ^ W → IsCongruent (2 ^ W) (pos r) z → neg_ℤ (pos 2) ≤ℤ z → z ≤ℤ pos 2 →
      truth_of (pos r) ≡ truth_of z
  truth_small r (pos a) h e lo hi = ap (λ n. truth_of (pos n)) (sym (residue_unique r (pos a) (2 ^ W) h e) ∙
      residue_unique a (pos a) (2 ^ W) (omega (arith, ints)) (congruent_refl (2 ^ W) (pos a)))
  truth_small r (negsuc a) h e lo hi =
      let is = residue_unique r (negsuc a) (2 ^ W) h e in
      let few : a % 2 ^ W ≤ a = mod-le a (2 ^ W) in
      truth_some r (omega (arith, ints, is, few))

  -- an operator without a shift: the lane r stands for its result
  pub lane_by : (op : Bin) (t : IntType) (r p q : ℕ) → is_shift op ≡ false → FitsLane W t → IsLane W t p →
      IsLane W t q → r < 2 ^ W
      → IsCongruent (2 ^ W) (pos r) (binary_exact op t (value_of t p) (value_of t q))
      → ((x y : ℕ) → x ≤ 1 → y ≤ 1 → (neg_ℤ (pos 2) ≤ℤ binary_exact op t (pos x) (pos y)) ×
      (binary_exact op t (pos x) (pos y) ≤ℤ pos 2))
      → value_of t r ≡ binary_value op t p q
  unfolding binary_of
  lane_by op t r p q s n l m h c few =
      stands t r (binary_exact op t (value_of t p) (value_of t q)) n (λ e. c)
      (λ e.
      let at = ap₂ (binary_exact op t) (value_lane_bool t p e l) (value_lane_bool t q e m) in
      let f = few p q (⊎_elim (λ i. omega arith) (λ i. omega arith) (lane_bool t p e l))
      (⊎_elim (λ i. omega arith) (λ i. omega arith) (lane_bool t q e m)) in
      truth_small r (binary_exact op t (value_of t p) (value_of t q)) h c (subst (λ z. neg_ℤ (pos 2) ≤ℤ z) (sym at) f.0)
      (subst (λ z. z ≤ℤ pos 2) (sym at) f.1))
      ∙ ap (λ y. wrap_of t (binary_exact op t (value_of t p) y)) (sym (right_is_value op t q s))

  pub some_lane : 0 < 2 ^ W
  some_lane = pow_pos W

  pub lane_add : (t : IntType) → FitsLane W t → (p q : ℕ) → IsLane W t p → IsLane W t q → value_of t ((p + q) % 2 ^ W) ≡
      binary_value Add t p q
  lane_add t n p q l r = lane_by Add t ((p + q) % 2 ^ W) p q refl n l r (mod-lt (p + q) some_lane)
      (congruent_trans (mod_congruent (p + q)) (congruent-add (lane_congruent t p l) (lane_congruent t q r)))
      (λ x y u v. (omega (arith, ints), omega (arith, ints)))

  pub lane_sub : (t : IntType) → FitsLane W t → (p q : ℕ) → IsLane W t p → IsLane W t q →
      value_of t ((p + (2 ^ W - q)) % 2 ^ W) ≡ binary_value Sub t p q
  lane_sub t n p q l r = lane_by Sub t ((p + (2 ^ W - q)) % 2 ^ W) p q refl n l r (mod-lt (p + (2 ^ W - q)) some_lane)
      (congruent_trans (mod_congruent (p + (2 ^ W - q))) (congruent_trans (let h = lane-lt t q r in
      record { more = 0; less = 1; same = omega (arith, ints) })
      (congruent-sub (lane_congruent t p l) (lane_congruent t q r))))
      (λ x y u v. (omega (arith, ints), omega (arith, ints)))

  pub lane_mul : (t : IntType) → FitsLane W t → (p q : ℕ) → IsLane W t p → IsLane W t q → value_of t ((p * q) % 2 ^ W) ≡
      binary_value Mul t p q
  lane_mul t n p q l r = lane_by Mul t ((p * q) % 2 ^ W) p q refl n l r (mod-lt (p * q) some_lane)
      (congruent_trans (mod_congruent (p * q)) (congruent-mul (lane_congruent t p l) (lane_congruent t q r)))
      (λ x y u v. let few = mul-le-mul u v in (omega (arith, ints), omega (arith, ints, few)))

  -- ---- to extend a lane

  pub modulus_narrow : (t : IntType) → FitsLane W t → modulus t ≤ 2 ^ W
  modulus_narrow t n = let d = narrow_divides t n in by d.0 d.1
    where
      by : (q : ℕ) → 2 ^ W ≡ q * modulus t → modulus t ≤ 2 ^ W
      by zero e = absurd (omega arith)
      by (suc q) e = omega arith

  mod-mod_narrow : (t : IntType) (n : ℕ) → FitsLane W t → n % 2 ^ W % modulus t ≡ n % modulus t
  mod-mod_narrow t n h =
      let d = narrow_divides t h in
      residue_unique (n % modulus t) (pos (n % 2 ^ W)) (modulus t) (mod-lt n (some_modulus t))
      (congruent_trans (residue_congruent (pos n) (modulus t) (some_modulus t))
      (congruent_sym (congruent_divides (modulus t) d.0 d.1 (mod_congruent n))))

  pub masked : (t : IntType) (n : ℕ) → bit_and n (modulus t - 1) ≡ n % modulus t
  unfolding modulus
  masked t n = and_mask n (width_bits t)

  pub extend_whole : (t : IntType) (p : ℕ) → FitsLane W t → is_bool t ≡ false →
      (bit_and ((p + half t) % 2 ^ W) (modulus t - 1) + (2 ^ W - half t)) % 2 ^ W ≡ extended W t p
  unfolding value_of
  extend_whole t p n e =
      let h = half t in
      let x = (p + h) % modulus t in
      let same : bit_and ((p + h) % 2 ^ W) (modulus t - 1) ≡ x = masked t ((p + h) % 2 ^ W) ∙
      mod-mod_narrow t (p + h) n in
      let below = half-below t in
      let most = modulus_narrow t n in
      ap (λ y. (y + (2 ^ W - h)) % 2 ^ W) same
      ∙ sym (ap (lane W) (wrap_whole t (pos p) e)
      ∙ lane_unique ((x + (2 ^ W - h)) % 2 ^ W) (pos x -ℤ pos h) (mod-lt (x + (2 ^ W - h)) (omega arith))
      (congruent_trans (mod_congruent (x + (2 ^ W - h))) (record { more = 0; less = 1; same = omega (arith, ints) })))

  pub extend_bool : (t : IntType) (p : ℕ) → is_bool t ≡ true → cond (not (nat_eq p 0)) 1 0 ≡ extended W t p
  unfolding value_of lane
  extend_bool t p e = by (nat_eq p 0) refl
    where
      by : (b : Bool) → nat_eq p 0 ≡ b → cond (not (nat_eq p 0)) 1 0 ≡ extended W t p
      by true h = ap (λ b. cond (not b) 1 0) h ∙ sym
          (ap (λ x. residue (value_of t x) (2 ^ W)) (eqb-true p 0 h) ∙ ap (λ z. residue z (2 ^ W)) (value_zero t e) ∙
          nothing)
      by false h = ap (λ b. cond (not b) 1 0) h ∙ sym
          (ap (λ z. residue z (2 ^ W)) (wrap_bool t (pos p) e ∙ other p h) ∙ one_stays)
        where
          other : (q : ℕ) → nat_eq q 0 ≡ false → truth_of (pos q) ≡ pos 1
          other zero h = cc
          other (suc n) h = refl

  -- ---- shifts

  pub amount_masked : (t : IntType) (q : ℕ) → FitsLane W t → bit_and q (width_bits t - 1) ≡ q % width_bits t
  amount_masked BoolType q n = and_mask q 3
  amount_masked Char q n = and_mask q 3
  amount_masked Uchar q n = and_mask q 3
  amount_masked Short q n = and_mask q 4
  amount_masked Ushort q n = and_mask q 4
  amount_masked Int q n = and_mask q 5
  amount_masked Uint q n = and_mask q 5
  amount_masked Long q n = and_mask q 6
  amount_masked Ulong q n = and_mask q 6

  -- ---- bit by bit

  bits_low : (t : IntType) (p : ℕ) → IsLane W t p → bits_of (value_of t p) % 2 ^ W ≡ p
  bits_low t p l =
      residue_unique p (pos (bits_of (value_of t p))) (2 ^ W) (lane-lt t p l)
      (congruent_trans (lane_congruent t p l) (congruent_sym
      (congruent_divides (2 ^ W) (2 ^ (64 - W)) wide_divides (bits_congruent (value_of t p)))))

  same_low : (n r : ℕ) → n % 2 ^ W ≡ r → IsCongruent (2 ^ W) (pos r) (pos n)
  same_low n r e = subst (λ x. IsCongruent (2 ^ W) (pos x) (pos n)) e (mod_congruent n)

  bit_small : (x : ℕ) → x ≤ 1 → bits_of (pos x) ≡ x
  unfolding bits_of
  bit_small x h = mod-eq_of_lt (omega arith)

  pub lane_and : (t : IntType) → FitsLane W t → (p q : ℕ) → IsLane W t p → IsLane W t q → value_of t (bit_and p q) ≡
      binary_value And t p q
  lane_and t n p q l r = lane_by And t (bit_and p q) p q refl n l r
      (let h = lane-lt t p l in omega (arith, and_le_l p q))
      (same_low (bit_and (bits_of (value_of t p)) (bits_of (value_of t q))) (bit_and p q)
      (and_mod (bits_of (value_of t p)) (bits_of (value_of t q)) W ∙
      ap₂ bit_and (bits_low t p l) (bits_low t q r)))
      (λ x y u v. (
        omega (arith, ints),
        omega (
          arith,
          ints,
          and_le_l (bits_of (pos x))
              (bits_of (pos y)),
          bit_small x u,
        ),
      ))

  pub lane_or : (t : IntType) → FitsLane W t → (p q : ℕ) → IsLane W t p → IsLane W t q → value_of t (bit_or p q) ≡
      binary_value Or t p q
  lane_or t n p q l r = lane_by Or t (bit_or p q) p q refl n l r (or_lt W p q (lane-lt t p l) (lane-lt t q r))
      (same_low (bit_or (bits_of (value_of t p)) (bits_of (value_of t q))) (bit_or p q)
      (or_mod (bits_of (value_of t p)) (bits_of (value_of t q)) W ∙ ap₂ bit_or (bits_low t p l) (bits_low t q r)))
      (λ x y u v. let few = or_lt 1 (bits_of (pos x)) (bits_of (pos y)) (omega (arith, bit_small x u)) (omega (
        arith,
        bit_small y v,
      )) in (omega (arith, ints), omega (arith, ints, few)))

  pub lane_xor : (t : IntType) → FitsLane W t → (p q : ℕ) → IsLane W t p → IsLane W t q → value_of t (bit_xor p q) ≡
      binary_value Xor t p q
  lane_xor t n p q l r = lane_by Xor t (bit_xor p q) p q refl n l r (xor_lt W p q (lane-lt t p l) (lane-lt t q r))
      (same_low (bit_xor (bits_of (value_of t p)) (bits_of (value_of t q))) (bit_xor p q)
      (xor_mod (bits_of (value_of t p)) (bits_of (value_of t q)) W ∙
      ap₂ bit_xor (bits_low t p l) (bits_low t q r)))
      (λ x y u v. let few = xor_lt 1 (bits_of (pos x)) (bits_of (pos y)) (omega (arith, bit_small x u)) (omega (
        arith,
        bit_small y v,
      )) in (omega (arith, ints), omega (arith, ints, few)))

  -- ---- the order of values is that of raised lanes

  half_is : (t : IntType) → is_signed t ≡ true → half t ≡ 2 ^ (width_bits t - 1)
  unfolding half
  half_is t e = ap (λ b. cond b (2 ^ (width_bits t - 1)) 0) e

  half_none : (t : IntType) → is_signed t ≡ false → half t ≡ 0
  unfolding half
  half_none t e = ap (λ b. cond b (2 ^ (width_bits t - 1)) 0) e

  pub lane_range : (t : IntType) → FitsLane W t → (half t ≤ bias_of W t) ×
      (modulus t - 1 - half t + bias_of W t < 2 ^ W) × (1 + bias_of W t < 2 ^ W)
  unfolding modulus
  lane_range t n = by (is_signed t) refl
    where
      by : (b : Bool) → is_signed t ≡ b → (half t ≤ bias_of W t) ×
          (2 ^ width_bits t - 1 - half t + bias_of W t < 2 ^ W) × (1 + bias_of W t < 2 ^ W)
      by true e =
          let bias : bias_of W t ≡ H = ap (λ b. cond b (2 ^ (W - 1)) 0) e ∙ sym high in
          let h = half_is t e in
          let some = some_width t in
          let less : width_bits t - 1 ≤ W - 1 = omega (arith, n) in
          let small = pow_mono less in
          let split : width_bits t ≡ 1 + (width_bits t - 1) = omega (arith, some) in
          let double : 2 ^ width_bits t ≡ 2 * 2 ^ (width_bits t - 1) = ap (λ k. 2 ^ k) split ∙
          pow-add 2 1 (width_bits t - 1) in
          (omega (arith, bias, h, small, high), omega (arith, bias, h, small, high, double), omega (arith, bias))
      by false e =
          let bias : bias_of W t ≡ 0 = ap (λ b. cond b (2 ^ (W - 1)) 0) e in
          let h = half_none t e in
          let small = pow_mono n in
          (omega (arith, bias, h), omega (arith, bias, h, small, pow_pos (width_bits t)), omega (arith, bias))

  -- a value of a narrow type, raised, is a number of 32 bits
  pub value_range : (t : IntType) (z : ℤ) → FitsLane W t → IsValue t z → (neg_ℤ (pos (bias_of W t)) ≤ℤ z) ×
      ((z +ℤ pos (bias_of W t)) ≤ℤ pos (2 ^ W - 1))
  value_range t z n v =
      let r = lane_range t n in (
        omega (arith, ints, r.0, v.low),
        ⊎_elim (λ e. let b = value_bool t z e v in omega (arith, ints, r.2, b.1))
            (λ e. let b = value_whole t z e v in omega (arith, ints, r.1, b)) (either_type t),
      )

  pub raise_is : (t : IntType) (p : ℕ) → FitsLane W t → IsLane W t p → pos (raised W (bias_of W t) p) ≡
      value_of t p +ℤ pos (bias_of W t)
  raise_is t p n l =
      let b = bias_of W t in
      let v = value_of t p in
      let r = value_range t v n (IsValue-value t p) in
      let m = up v + b - down v in
      let is : pos m ≡ v +ℤ pos b = omega (arith, ints, r.0) in
      let first : residue (v +ℤ pos b) (2 ^ W) ≡ m =
      residue_unique m (v +ℤ pos b) (2 ^ W) (omega (arith, ints, r.1, is))
      (subst (λ z. IsCongruent (2 ^ W) (pos m) z) is (congruent_refl (2 ^ W) (pos m))) in
      let second : residue (v +ℤ pos b) (2 ^ W) ≡ raised W b p =
      residue_unique (raised W b p) (v +ℤ pos b) (2 ^ W) (mod-lt (p + b) (omega arith))
      (congruent_trans (mod_congruent (p + b))
      (congruent-add (lane_congruent t p l) (congruent_refl (2 ^ W) (pos b)))) in
      ap pos (sym second ∙ first) ∙ is

  -- tests of numbers that are raised alike
  pub lt_raised : (x y b : ℕ) (v w : ℤ) → pos x ≡ v +ℤ pos b → pos y ≡ w +ℤ pos b → ltb x y ≡ int_lt v w
  lt_raised x y b v w e f = by (ltb x y) refl
    where
      by : (t : Bool) → ltb x y ≡ t → ltb x y ≡ int_lt v w
      by true h = h ∙ sym (grind (arith, ints))
      by false h = h ∙ sym (grind (arith, ints))

  le_raised : (x y b : ℕ) (v w : ℤ) → pos x ≡ v +ℤ pos b → pos y ≡ w +ℤ pos b → nat_le x y ≡ int_le v w
  le_raised x y b v w e f = by (nat_le x y) refl
    where
      by : (t : Bool) → nat_le x y ≡ t → nat_le x y ≡ int_le v w
      by true h = h ∙ sym (grind (arith, ints))
      by false h = h ∙ sym (grind (arith, ints))

  -- lanes that hold values are equal exactly where the values are
  same_lane : (t : IntType) (p q : ℕ) → IsLane W t p → IsLane W t q → nat_eq p q ≡ int_eq (value_of t p) (value_of t q)
  same_lane t p q l r = one_answer _ _ (
    (λ h. ap (value_of t) (eqb-true p q h)),
    (λ h. eq-eqb p q (sym l.same ∙ ap (lane W) h ∙ r.same)),
  ) (Decides-int_eq (value_of t p) (value_of t q))

  -- a test, as 1 or 0
  lane_test : (op : Bin) (t : IntType) (b : Bool) (p q : ℕ) → is_shift op ≡ false →
      number_of b ≡ binary_exact op t (value_of t p) (value_of t q) → value_of t (from_bool b) ≡ binary_value op t p q
  unfolding binary_of value_of
  lane_test op t b p q s e = ap (wrap_of t) e ∙ ap (λ y. wrap_of t (binary_exact op t (value_of t p) y))
      (sym (right_is_value op t q s))

  module _ (t : IntType) (n : FitsLane W t) (p q : ℕ) (l : IsLane W t p) (r : IsLane W t q) where
    pub lane_eq : value_of t (from_bool (nat_eq p q)) ≡ binary_value Eq t p q
    lane_eq = lane_test Eq t _ p q refl (ap number_of (same_lane t p q l r))

    pub lane_ne : value_of t (from_bool (not (nat_eq p q))) ≡ binary_value Ne t p q
    lane_ne = lane_test Ne t _ p q refl (ap (λ b. number_of (not b)) (same_lane t p q l r))

    pub lane_lt : value_of t (from_bool (nat_lt (raised W (bias_of W t) p) (raised W (bias_of W t) q))) ≡
        binary_value Lt t p q
    lane_lt = lane_test Lt t _ p q refl (ap number_of
        (lt_raised _ _ (bias_of W t) (value_of t p) (value_of t q) (raise_is t p n l) (raise_is t q n r)))

    pub lane_le : value_of t (from_bool (nat_le (raised W (bias_of W t) p) (raised W (bias_of W t) q))) ≡
        binary_value Le t p q
    lane_le = lane_test Le t _ p q refl (ap number_of
        (le_raised _ _ (bias_of W t) (value_of t p) (value_of t q) (raise_is t p n l) (raise_is t q n r)))

    pub lane_gt : value_of t (from_bool (nat_lt (raised W (bias_of W t) q) (raised W (bias_of W t) p))) ≡
        binary_value Gt t p q
    lane_gt = lane_test Gt t _ p q refl (ap number_of
        (lt_raised _ _ (bias_of W t) (value_of t q) (value_of t p) (raise_is t q n r) (raise_is t p n l)))

    pub lane_ge : value_of t (from_bool (nat_le (raised W (bias_of W t) q) (raised W (bias_of W t) p))) ≡
        binary_value Ge t p q
    lane_ge = lane_test Ge t _ p q refl (ap number_of
        (le_raised _ _ (bias_of W t) (value_of t q) (value_of t p) (raise_is t q n r) (raise_is t p n l)))

  -- ---- shifts, by any amount

  bias_bool : (t : IntType) → is_bool t ≡ true → bias_of W t ≡ 0
  bias_bool BoolType e = refl
  bias_bool Char e = cc
  bias_bool Uchar e = cc
  bias_bool Short e = cc
  bias_bool Ushort e = cc
  bias_bool Int e = cc
  bias_bool Uint e = cc
  bias_bool Long e = cc
  bias_bool Ulong e = cc

  pub amount_below : (t : IntType) (q : ℕ) → FitsLane W t → q % width_bits t < W
  amount_below t q n = omega (arith, mod-lt q (some_width t), n)

  pub lane_shl : (t : IntType) → FitsLane W t → (p q : ℕ) → IsLane W t p → value_of t (shl_lane W (width_bits t) p q) ≡
      binary_value Shl t p q
  unfolding binary_of right_value
  lane_shl t n p q l =
      let k = q % width_bits t in
      stands t (shl_lane W (width_bits t) p q) (value_of t p *ℤ pos (2 ^ k)) n
      (λ e. congruent_trans (mod_congruent (p * 2 ^ k))
      (congruent-mul (lane_congruent t p l) (congruent_refl (2 ^ W) (pos (2 ^ k)))))
      (λ e. ⊎_elim
      (λ i. ap (λ x. truth_of (pos (x * 2 ^ k % 2 ^ W))) i ∙ ap (λ x. truth_of (pos (x % 2 ^ W))) (zero-mul (2 ^ k)) ∙
      ap (λ x. truth_of (pos x)) nothing
      ∙ sym (ap (λ z. truth_of (z *ℤ pos (2 ^ k))) (value_lane_bool t p e l ∙ ap pos i) ∙
      ap (λ x. truth_of (pos x)) (zero-mul (2 ^ k))))
      (λ i. ap (λ x. truth_of (pos (x * 2 ^ k % 2 ^ W))) i ∙
      ap (λ x. truth_of (pos x)) (one_shl k W (amount_below t q n)) ∙ truth_some (2 ^ k) (pow_pos k)
      ∙ sym (ap (λ z. truth_of (z *ℤ pos (2 ^ k))) (value_lane_bool t p e l ∙ ap pos i) ∙
      truth_some (1 * 2 ^ k) (omega (arith, pow_pos k))))
      (lane_bool t p e l))

  -- the bias is a multiple of the shift's power
  bias_divides : (t : IntType) (k : ℕ) → k < W → (c : ℕ) × (bias_of W t ≡ c * 2 ^ k)
  bias_divides t k h = by (is_signed t) refl
    where
      by : (b : Bool) → is_signed t ≡ b → (c : ℕ) × (bias_of W t ≡ c * 2 ^ k)
      by true e = let s : (W - 1) ≡ (W - 1 - k) + k =
          omega arith in (
            2 ^ (W - 1 - k),
            ap (λ b. cond b (2 ^ (W - 1)) 0) e ∙ ap (λ x. 2 ^ x) s ∙
                pow-add 2 (W - 1 - k) k,
          )
      by false e = (0, ap (λ b. cond b (2 ^ (W - 1)) 0) e ∙ sym (zero-mul (2 ^ k)))

  -- a raised number shifted, and the bias shifted, differ by the shifted value
  pub shr_raised : (x c m : ℕ) (v : ℤ) → 0 < m → pos x ≡ v +ℤ pos (c * m) → pos (x / m) -ℤ pos c ≡ shr_z v m
  shr_raised x c m (pos a) h e =
      let is : x ≡ a + c * m = omega (arith, ints, e) in
      let q : x / m ≡ a / m + c = ap (λ y. y / m) is ∙ add-mul-div_right a c h in
      omega (arith, ints, q)
  shr_raised x c m (negsuc n) h e =
      let s = div-add-mod' n m in
      let r = mod-lt n h in
      let below : n < c * m = omega (arith, ints, e) in
      let few : n / m < c = div_below n m c h below in
      let d = c - suc (n / m) in
      let sum : c ≡ suc (n / m) + d = omega arith in
      let times = ap (λ y. y * m) sum in
      let is : x ≡ d * m + (m - 1 - n % m) = omega (arith, ints, e, s, r, times) in
      let q : x / m ≡ d = ap (λ y. y / m) is ∙ div-mul-add d m (m - 1 - n % m) (omega (arith, r)) in
      omega (arith, ints, q, sum)

  pub shr_small : (v : ℤ) (m : ℕ) → pos 0 ≤ℤ v → v ≤ℤ pos 1 → (pos 0 ≤ℤ shr_z v m) × (shr_z v m ≤ℤ pos 1)
  shr_small (pos a) m lo hi = (omega (arith, ints), omega (arith, ints, div-le_self a m))
  shr_small (negsuc a) m lo hi = absurd (omega (arith, ints))

  -- a number of 32 bits that is congruent to 0 or 1 is that number
  pub small_same : (r : ℕ) (z : ℤ) → r < 2 ^ W → IsCongruent (2 ^ W) (pos r) z → pos 0 ≤ℤ z → z ≤ℤ pos 1 → pos r ≡ z
  small_same r (pos a) h e lo hi =
      ap pos (sym (residue_unique r (pos a) (2 ^ W) h e) ∙
      residue_unique a (pos a) (2 ^ W) (omega (arith, ints)) (congruent_refl (2 ^ W) (pos a)))
  small_same r (negsuc a) h e lo hi = absurd (omega (arith, ints))

  shr_congruent : (t : IntType) (p q : ℕ) → FitsLane W t → IsLane W t p →
      IsCongruent (2 ^ W) (pos (shr_lane W (bias_of W t) (width_bits t) p q))
      (int_shr (value_of t p) (q % width_bits t))
  shr_congruent t p q n l =
      let k = q % width_bits t in
      let m = 2 ^ k in
      let b = bias_of W t in
      let d = bias_divides t k (amount_below t q n) in
      let c = b / m in
      let is : c ≡ d.0 = ap (λ y. y / m) d.1 ∙ mul-div_cancel d.0 (pow_pos k) in
      let whole : b ≡ c * m = d.1 ∙ ap (λ y. y * m) (sym is) in
      let x = raised W b p / m in
      let e : pos x -ℤ pos c ≡ shr_z (value_of t p) m =
      shr_raised (raised W b p) c m (value_of t p) (pow_pos k)
      (raise_is t p n l ∙ ap (λ y. value_of t p +ℤ pos y) whole) in
      let low : c ≤ b = div-le_self b m in
      let top = lane_range t n in
      congruent_trans (mod_congruent (x + (2 ^ W - c)))
      (record { more = 0; less = 1; same = omega (arith, ints, e, low, top.2) })

  pub lane_shr : (t : IntType) → FitsLane W t → (p q : ℕ) → IsLane W t p →
      value_of t (shr_lane W (bias_of W t) (width_bits t) p q) ≡ binary_value Shr t p q
  unfolding binary_of right_value
  lane_shr t n p q l =
      let k = q % width_bits t in
      let c = shr_congruent t p q n l in
      stands t (shr_lane W (bias_of W t) (width_bits t) p q) (int_shr (value_of t p) k) n
      (λ e. c)
      (λ e. let b = value_bool t (value_of t p) e (IsValue-value t p) in
      let s = shr_small (value_of t p) (2 ^ k) b.0 b.1 in
      ap truth_of (small_same (shr_lane W (bias_of W t) (width_bits t) p q) (int_shr (value_of t p) k)
      (mod-lt _ (omega arith)) c s.0 s.1))

  -- with no bias a shifted number is only divided
  pub moved_plain : (p k : ℕ) → p < 2 ^ W → p / 2 ^ k ≡ moved_lane W 0 p k
  moved_plain p k h =
      let bare : p + 0 ≡ p = omega arith in
      let same : (p + 0) % 2 ^ W ≡ p = ap (λ x. x % 2 ^ W) bare ∙ mod-eq_of_lt h in
      let none : 0 / 2 ^ k ≡ 0 = omega (arith, div-le_self 0 (2 ^ k)) in
      let few = div-le_self p (2 ^ k) in
      sym (ap₂ (λ x y. (x / 2 ^ k + (2 ^ W - y)) % 2 ^ W) same none
      ∙ residue_unique (p / 2 ^ k) (pos (p / 2 ^ k + (2 ^ W - 0))) (2 ^ W) (omega (arith, few))
      (record { more = 1; less = 0; same = omega (arith, ints) }))

  -- ---- zero

  not_under_zero : (b : Bool) (m n : ℕ) → pos 0 ≤ℤ cond b (pos m) (pos n)
  not_under_zero true m n = omega (arith, ints)
  not_under_zero false m n = omega (arith, ints)

  pub value_of_zero : (t : IntType) → value_of t 0 ≡ pos 0
  unfolding value_of
  value_of_zero t = wrap_value t (pos 0) (record {
    low = omega (arith, ints);
    high = not_under_zero (is_bool t) 1
        (modulus t - 1 - half t);
  })

  -- a lane is 0 where its value is
  pub zero_lane : (t : IntType) (q : ℕ) → IsLane W t q → nat_eq q 0 ≡ int_eq (value_of t q) (pos 0)
  unfolding lane
  zero_lane t q l = one_answer _ _ (
    (λ h. ap (value_of t) (eqb-true q 0 h) ∙ value_of_zero t),
    (λ h. eq-eqb q 0 (sym l.same ∙ ap (λ z. residue z (2 ^ W)) h ∙ nothing)),
  ) (Decides-int_eq (value_of t q) (pos 0))

  -- ---- one operand

  pub congruent-neg : {m : ℕ} {a b : ℤ} → IsCongruent m a b → IsCongruent m (neg_ℤ a) (neg_ℤ b)
  congruent-neg {m} {a} {b} e = record { more = e.less; less = e.more; same = omega (arith, ints, e.same) }

  unary_by : (op : Un) (t : IntType) (r p : ℕ) → FitsLane W t →
      IsCongruent (2 ^ W) (pos r) (unary_exact op (value_of t p)) →
      (is_bool t ≡ true → truth_of (pos r) ≡ truth_of (unary_exact op (value_of t p))) →
      value_of t r ≡ unary_value op t p
  unfolding unary_of
  unary_by op t r p n c b = stands t r (unary_exact op (value_of t p)) n (λ e. c) b

  module _ (t : IntType) (n : FitsLane W t) (p : ℕ) (l : IsLane W t p) where
    pub lane_plus : value_of t p ≡ unary_value Plus t p
    unfolding unary_of
    lane_plus = sym (wrap_value t (value_of t p) (IsValue-value t p))

    pub lane_minus : value_of t ((0 + (2 ^ W - p)) % 2 ^ W) ≡ unary_value Minus t p
    lane_minus =
        let small = lane-lt t p l in
        let c : IsCongruent (2 ^ W) (pos ((0 + (2 ^ W - p)) % 2 ^ W)) (neg_ℤ (value_of t p)) =
        congruent_trans (mod_congruent (0 + (2 ^ W - p))) (congruent_trans (record {
          more = 0;
          less = 1;
          same = omega (arith, ints);
        }) (congruent-neg (lane_congruent t p l))) in
        unary_by Minus t ((0 + (2 ^ W - p)) % 2 ^ W) p n c
        (λ e. let v = value_bool t (value_of t p) e (IsValue-value t p) in
        truth_small _ (neg_ℤ (value_of t p)) (mod-lt _ some_lane) c (omega (arith, ints, v.1)) (omega (
          arith,
          ints,
          v.0,
        )))

    pub lane_flip : value_of t (2 ^ W - 1 - p) ≡ unary_value Flip t p
    lane_flip =
        let small = lane-lt t p l in
        let k = lane_congruent t p l in
        let c : IsCongruent (2 ^ W) (pos (2 ^ W - 1 - p)) (neg_ℤ (value_of t p) -ℤ pos 1) =
        record { more = k.less; less = k.more + 1; same = omega (arith, ints, k.same) } in
        unary_by Flip t (2 ^ W - 1 - p) p n c
        (λ e. let v = value_bool t (value_of t p) e (IsValue-value t p) in
        truth_small _ (neg_ℤ (value_of t p) -ℤ pos 1) (omega arith) c (omega (arith, ints, v.1)) (omega (
          arith,
          ints,
          v.0,
        )))

    pub lane_not : value_of t (cond (nat_eq p 0) 1 0) ≡ unary_value Not t p
    unfolding unary_of value_of
    lane_not = ap (λ b. wrap_of t (pos (cond b 1 0))) (zero_lane t p l) ∙
        ap (wrap_of t) (one (int_eq (value_of t p) (pos 0)))
      where
        one : (b : Bool) → pos (cond b 1 0) ≡ number_of b
        one true = refl
        one false = refl

  -- ---- conversions

  pub truth_nonzero : (z : ℤ) → ¬ (z ≡ pos 0) → truth_of z ≡ pos 1
  truth_nonzero (pos zero) n = absurd (n refl)
  truth_nonzero (pos (suc k)) n = refl
  truth_nonzero (negsuc k) n = refl

  truth_lane : (t : IntType) (p : ℕ) → IsLane W t p → truth_of (pos p) ≡ truth_of (value_of t p)
  unfolding lane
  truth_lane t zero l = ap truth_of (sym (value_of_zero t))
  truth_lane t (suc k) l = sym (truth_nonzero (value_of t (suc k))
      (λ e. let z : suc k ≡ 0 = sym l.same ∙ ap (λ x. residue x (2 ^ W)) e ∙ nothing in omega arith))

  pub lane_convert : (to from : IntType) → FitsLane W to → (p : ℕ) → IsLane W from p → extended W to p ≡
      convert_lane W to from p
  lane_convert to from n p l = ap (lane W) (stands to p (value_of from p) n (λ e. lane_congruent from p l)
      (λ e. truth_lane from p l))

  -- ---- lanes of any bits

  pub lane_back : (t : IntType) (z : ℤ) → FitsLane W t → IsValue t z → value_of t (lane W z) ≡ z
  unfolding value_of
  lane_back t z n v = ⊎_elim
      (λ e. let r = value_bool t z e v in ap (wrap_of t) (small_same (lane W z) z (lane_bound z) (lane_is z) r.0 r.1) ∙
      wrap_value t z v)
      (λ e. wrap_same_lane t (pos (lane W z)) z n e (lane_is z) ∙ wrap_value t z v)
      (either_type t)

  pub value-extended : (t : IntType) (p : ℕ) → FitsLane W t → value_of t (extended W t p) ≡ value_of t p
  value-extended t p n = lane_back t (value_of t p) n (IsValue-value t p)

  pub IsLane-extended : (t : IntType) (p : ℕ) → FitsLane W t → IsLane W t (extended W t p)
  IsLane-extended t p n = record { same = ap (lane W) (value-extended t p n) }

  pub binary_extended : (op : Bin) (t : IntType) (p q : ℕ) → FitsLane W t → is_shift op ≡ false →
      binary_value op t (extended W t p) (extended W t q) ≡ binary_value op t p q
  binary_extended op t p q n s =
      ap₂ (binary_of op t) (value-extended t p n) (right_is_value op t (extended W t q) s ∙ value-extended t q n ∙
      sym (right_is_value op t q s))

  pub shift_extended : (op : Bin) (t : IntType) (p q : ℕ) → FitsLane W t → binary_value op t (extended W t p) q ≡
      binary_value op t p q
  shift_extended op t p q n = ap (λ v. binary_of op t v (right_value op t q)) (value-extended t p n)

  pub unary_extended : (op : Un) (t : IntType) (p : ℕ) → FitsLane W t → unary_value op t (extended W t p) ≡
      unary_value op t p
  unary_extended op t p n = ap (unary_of op t) (value-extended t p n)

  -- a lane is read as a value of one type, and converted to another
  pub convert_extended : (to from : IntType) (p : ℕ) → FitsLane W to → FitsLane W from →
      extended W to (extended W from p) ≡ convert_lane W to from p
  convert_extended to from p n m =
      lane_convert to from n (extended W from p) (IsLane-extended from p m) ∙
      ap (λ v. lane W (wrap_of to v)) (value-extended from p m)

  -- a type that fills the lane leaves its lanes as they are
  pub extend_full : (t : IntType) (p : ℕ) → width_bits t ≡ W → is_bool t ≡ false → p < 2 ^ W → p ≡ extended W t p
  unfolding value_of modulus
  extend_full t p n b h = sym (lane_unique p (value_of t p) h
      (congruent_sym (subst (λ w. IsCongruent (2 ^ w) (value_of t p) (pos p)) n (wrap_congruent t (pos p) b))))

  -- in such a type every lane is that of a value
  pub whole_lane : (t : IntType) (p : ℕ) → width_bits t ≡ W → 8 < W → p < 2 ^ W → IsLane W t p
  whole_lane t p n wide h = record { same = sym (extend_full t p n (no_bool t n) h) }
    where
      no_bool : (t : IntType) → width_bits t ≡ W → is_bool t ≡ false
      no_bool BoolType e = absurd (omega arith)
      no_bool Char e = refl
      no_bool Uchar e = refl
      no_bool Short e = refl
      no_bool Ushort e = refl
      no_bool Int e = refl
      no_bool Uint e = refl
      no_bool Long e = refl
      no_bool Ulong e = refl

  pub extended_zero : (t : IntType) → extended W t 0 ≡ 0
  unfolding lane
  extended_zero t = ap (λ z. residue z (2 ^ W)) (value_of_zero t) ∙ nothing

  -- ---- the lesser and the greater

  module _ (t : IntType) (n : FitsLane W t) (p q r : ℕ) where
    below_as : nat_lt (raised W (bias_of W t) (extended W t q)) (raised W (bias_of W t) (extended W t p)) ≡
        int_lt (value_of t q) (value_of t p)
    below_as =
        lt_raised _ _ (bias_of W t) (value_of t q) (value_of t p)
        (raise_is t (extended W t q) n (IsLane-extended t q n) ∙
        ap (λ v. v +ℤ pos (bias_of W t)) (value-extended t q n))
        (raise_is t (extended W t p) n (IsLane-extended t p n) ∙
        ap (λ v. v +ℤ pos (bias_of W t)) (value-extended t p n))

    one_of : (b : Bool) (v w : ℤ) → IsValue t v → IsValue t w → cond b (lane W v) (lane W w) ≡
        lane W (wrap_of t (cond b v w))
    one_of true v w i j = ap (lane W) (sym (wrap_value t v i))
    one_of false v w i j = ap (lane W) (sym (wrap_value t w j))

    pub lane_lesser : lesser_lane W (bias_of W t) (extended W t p) (extended W t q) ≡ builtin_lane W Min t p q r
    unfolding builtin_of
    lane_lesser = ap (λ b. cond b (extended W t q) (extended W t p)) below_as ∙
        one_of (int_lt (value_of t q) (value_of t p)) (value_of t q) (value_of t p) (IsValue-value t q)
        (IsValue-value t p)

    pub lane_greater : greater_lane W (bias_of W t) (extended W t p) (extended W t q) ≡ builtin_lane W Max t p q r
    unfolding builtin_of
    lane_greater = ap (λ b. cond b (extended W t p) (extended W t q)) below_as ∙
        one_of (int_lt (value_of t q) (value_of t p)) (value_of t p) (value_of t q) (IsValue-value t p)
        (IsValue-value t q)

pub is_no_shift : (op : Bin) → ¬ (op ≡ Shl) → ¬ (op ≡ Shr) → is_shift op ≡ false
is_no_shift Add a b = refl
is_no_shift Sub a b = refl
is_no_shift Mul a b = refl
is_no_shift Div a b = refl
is_no_shift Rem a b = refl
is_no_shift Shl a b = absurd (a refl)
is_no_shift Shr a b = absurd (b refl)
is_no_shift And a b = refl
is_no_shift Or a b = refl
is_no_shift Xor a b = refl
is_no_shift Eq a b = refl
is_no_shift Ne a b = refl
is_no_shift Lt a b = refl
is_no_shift Le a b = refl
is_no_shift Gt a b = refl
is_no_shift Ge a b = refl

pub shift_is : {X : Type 0} (op : Bin) → (op ≡ Shl) ⊎ (op ≡ Shr) → is_shift op ≡ false → X
shift_is op (inl i) e = absurd (true≢false (sym (ap is_shift i) ∙ e))
shift_is op (inr i) e = absurd (true≢false (sym (ap is_shift i) ∙ e))
