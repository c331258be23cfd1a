-- Divisions by a power of two as shifts, in lanes of W bits.
use Rattle.std.proofs.Common.{◌≡◌, ℕ, zero, suc, ◌+◌, ◌-◌, ◌*◌, ◌/◌, ◌%◌, ◌^◌, ◌<◌, ◌≤◌, refl, sym, ap, ap₂, ◌∙◌}
use Rattle.std.proofs.Common.{arith, Bool, true, false, cond, mod-lt, mod-eq_of_lt, div-add-mod', pow_pos}
use Rattle.std.proofs.Common.{nat_eq, nat_lt, ltb, ltb-true, ltb-false}
use Rattle.std.proofs.lemmas.Nat.{mod-mul-add, same_from_place, pow-add, mul-mod_first, pow_below}
use Rattle.std.proofs.Math.Nat.{div-le_self, add-mul-div_right, mul-div_cancel}
use Rattle.lane_kernels.specs.Vectors.{raised, signed_by, divisor_of, quotient_lane, rest_lane, moved_lane}
use Rattle.lane_kernels.proofs.DivisionLaws.{plain, not_zero, plain_divisor, plain_quotient}

mod_is : (m c r n : ℕ) → r < m → n ≡ c * m + r → n % m ≡ r
mod_is m c r n h e = ap (λ x. x % m) e ∙ mod-mul-add c m r h

is_below : (x y : ℕ) → x < y → nat_lt x y ≡ true
is_below x y h = by (nat_lt x y) refl
  where
    by : (b : Bool) → nat_lt x y ≡ b → nat_lt x y ≡ true
    by true e = e
    by false e = let k = ltb-false x y e in absurd (omega arith)

not_below : (x y : ℕ) → y ≤ x → nat_lt x y ≡ false
not_below x y h = by (nat_lt x y) refl
  where
    by : (b : Bool) → nat_lt x y ≡ b → nat_lt x y ≡ false
    by true e = let k = ltb-true x y e in absurd (omega arith)
    by false e = e

-- of c * d, what x has in whole parts, the last one begun, and what is left
parts : (x c d : ℕ) → 0 < d → x ≤ c * d → (x + (d - 1)) / d + (c * d - x) / d ≡ c
parts x c d h k = by (ltb r d) refl
  where
    u : ℕ
    u = (x + (d - 1)) / d

    q : ℕ
    q = (c * d - x) / d

    r : ℕ
    r = (x + (d - 1)) % d + (c * d - x) % d

    all : (u + q) * d + r ≡ c * d + (d - 1)
    all =
        let a = div-add-mod' (x + (d - 1)) d in
        let b = div-add-mod' (c * d - x) d in
        omega arith

    one : suc (u + q) * d ≡ (u + q) * d + d
    one = omega arith

    by : (b : Bool) → ltb r d ≡ b → u + q ≡ c
    by true e = (same_from_place (u + q) r c (d - 1) d (ltb-true r d e) (omega arith) all).0
    by false e =
        let low = ltb-false r d e in
        let a = mod-lt (x + (d - 1)) h in
        let b = mod-lt (c * d - x) h in
        let s = same_from_place (suc (u + q)) (r - d) c (d - 1) d (omega arith) (omega arith)
        (omega (arith, all, one)) in absurd (omega (arith, s.1))

one_less : (m d : ℕ) → 0 < d → m * d ≡ (d - 1) * m + m
one_less m d h = let split : d ≡ (d - 1) + 1 = omega arith in omega (arith, ap (λ y. m * y) split)

-- what a whole quotient leaves of a number
left_of : (W p d : ℕ) → p < 2 ^ W → (p + (2 ^ W - p / d * d % 2 ^ W)) % 2 ^ W ≡ p % d
left_of W p d h =
    let whole = div-add-mod' p d in
    let small : p / d * d % 2 ^ W ≡ p / d * d = mod-eq_of_lt (omega arith) in
    ap (λ y. (p + (2 ^ W - y)) % 2 ^ W) small ∙
    mod_is (2 ^ W) 1 (p % d) (p + (2 ^ W - p / d * d)) (omega arith) (omega arith)

power_parts : (j k : ℕ) → k < j → 2 ^ j ≡ 2 ^ (j - k) * 2 ^ k
power_parts j k h = let split : j ≡ (j - k) + k = omega arith in ap (λ x. 2 ^ x) split ∙ pow-add 2 (j - k) k

plain_rest : (W p d : ℕ) → 0 < d → rest_lane W 0 p d ≡ p % d
plain_rest W p d h =
    let size = signed_by W 0 p p % divisor_of W 0 d in
    ap (λ t. cond t p (signed_by W 0 p size)) (not_zero d h) ∙ plain W p size ∙
    ap₂ (λ x y. x % y) (plain W p p) (plain_divisor W d h)

module _ (W H : ℕ) (twice : 2 ^ W ≡ H + H) where
  raised_up : (p : ℕ) → p < H → raised W H p ≡ p + H
  raised_up p h = mod-eq_of_lt (omega arith)

  raised_down : (p : ℕ) → H ≤ p → p < 2 ^ W → raised W H p ≡ p - H
  raised_down p h k = mod_is (2 ^ W) 1 (p - H) (p + H) (omega arith) (omega arith)

  as_it_is : (s x : ℕ) → s < H → signed_by W H s x ≡ x
  as_it_is s x h = ap (λ b. cond b ((0 + (2 ^ W - x)) % 2 ^ W) x)
      (ap (λ y. nat_lt y H) (raised_up s h) ∙ not_below (s + H) H (omega arith))

  negative : (p : ℕ) → H ≤ p → p < 2 ^ W → nat_lt (raised W H p) H ≡ true
  negative p h k = ap (λ y. nat_lt y H) (raised_down p h k) ∙ is_below (p - H) H (omega arith)

  turned : (s x : ℕ) → H ≤ s → s < 2 ^ W → signed_by W H s x ≡ (0 + (2 ^ W - x)) % 2 ^ W
  turned s x h k = ap (λ b. cond b ((0 + (2 ^ W - x)) % 2 ^ W) x) (negative s h k)

  size_turned : (p : ℕ) → H ≤ p → p < 2 ^ W → 0 < H → signed_by W H p p ≡ 2 ^ W - p
  size_turned p h k some = turned p p h k ∙
      mod_is (2 ^ W) 0 (2 ^ W - p) (0 + (2 ^ W - p)) (omega arith) (omega arith)

  its_divisor : (d : ℕ) → 0 < d → d < H → divisor_of W H d ≡ d
  its_divisor d h k = ap (λ y. cond (nat_eq y 0) 1 y) (as_it_is d d k) ∙ ap (λ t. cond t 1 d) (not_zero d h)

  quotient_up : (p d : ℕ) → p < H → 0 < d → d < H → quotient_lane W H p d ≡ p / d
  quotient_up p d h some k =
      let size = signed_by W H p p / divisor_of W H d in
      ap (λ t. cond t 0 (signed_by W H d (signed_by W H p size))) (not_zero d some) ∙
      as_it_is d (signed_by W H p size) k ∙ as_it_is p size h ∙
      ap₂ (λ x y. x / y) (as_it_is p p h) (its_divisor d some k)

  quotient_down : (p d : ℕ) → H ≤ p → p < 2 ^ W → 0 < d → d < H →
      quotient_lane W H p d ≡ (0 + (2 ^ W - (2 ^ W - p) / d)) % 2 ^ W
  quotient_down p d h l some k =
      let size = signed_by W H p p / divisor_of W H d in
      ap (λ t. cond t 0 (signed_by W H d (signed_by W H p size))) (not_zero d some) ∙
      as_it_is d (signed_by W H p size) k ∙ turned p size h l ∙
      ap₂ (λ x y. (0 + (2 ^ W - x / y)) % 2 ^ W) (size_turned p h l (omega arith)) (its_divisor d some k)

  -- a number that is first raised by one less than the divisor where it is negative, and then shifted
  shifted : (p c d : ℕ) → p < 2 ^ W → 0 < d → d < H → H ≡ c * d →
      (raised W H ((p + cond (nat_lt (raised W H p) H) (d - 1) 0) % 2 ^ W) / d + (2 ^ W - H / d)) % 2 ^ W ≡
      quotient_lane W H p d
  shifted p c d l some k e = by (ltb p H) refl
    where
      whole : H / d ≡ c
      whole = ap (λ y. y / d) e ∙ mul-div_cancel c some

      few : c ≤ H
      few = omega (arith, whole, div-le_self H d)

      by : (b : Bool) → ltb p H ≡ b →
          (raised W H ((p + cond (nat_lt (raised W H p) H) (d - 1) 0) % 2 ^ W) / d + (2 ^ W - H / d)) % 2 ^ W ≡
          quotient_lane W H p d
      by true i =
          let h = ltb-true p H i in
          let plus : nat_lt (raised W H p) H ≡ false = ap (λ y. nat_lt y H) (raised_up p h) ∙
          not_below (p + H) H (omega arith) in
          let same : (p + 0) % 2 ^ W ≡ p = mod_is (2 ^ W) 0 p (p + 0) l (omega arith) in
          let high : (p + H) / d ≡ p / d + c = ap (λ y. (p + y) / d) e ∙ add-mul-div_right p c some in
          let small = div-le_self p d in
          ap (λ b. (raised W H ((p + cond b (d - 1) 0) % 2 ^ W) / d + (2 ^ W - H / d)) % 2 ^ W) plus ∙
          ap₂ (λ x y. (x / d + (2 ^ W - y)) % 2 ^ W) (ap (raised W H) same ∙ raised_up p h) whole ∙
          mod_is (2 ^ W) 1 (p / d) ((p + H) / d + (2 ^ W - c)) (omega arith) (omega (arith, high)) ∙
          sym (quotient_up p d h some k)
      by false i =
          let h = ltb-false p H i in
          let x = p - H in
          let up : raised W H ((p + (d - 1)) % 2 ^ W) ≡ x + (d - 1) = raised_more p (d - 1) h l (omega arith) in
          let left : (2 ^ W - p) ≡ c * d - x = omega arith in
          let sum = parts x c d some (omega arith) in
          let is : (x + (d - 1)) / d + (2 ^ W - c) ≡ 0 + (2 ^ W - (2 ^ W - p) / d) =
          omega (arith, sum, few, ap (λ y. y / d) left) in
          ap (λ b. (raised W H ((p + cond b (d - 1) 0) % 2 ^ W) / d + (2 ^ W - H / d)) % 2 ^ W) (negative p h l) ∙
          ap₂ (λ x y. (x / d + (2 ^ W - y)) % 2 ^ W) up whole ∙
          ap (λ y. y % 2 ^ W) is ∙ sym (quotient_down p d h l some k)
        where
          raised_more : (p m : ℕ) → H ≤ p → p < 2 ^ W → m < H → raised W H ((p + m) % 2 ^ W) ≡ (p - H) + m
          raised_more p m h l k = over (ltb (p + m) (2 ^ W)) refl
            where
              over : (b : Bool) → ltb (p + m) (2 ^ W) ≡ b → raised W H ((p + m) % 2 ^ W) ≡ (p - H) + m
              over true i =
                  let j = ltb-true (p + m) (2 ^ W) i in
                  ap (raised W H) (mod-eq_of_lt j) ∙ raised_down (p + m) (omega arith) j ∙ omega arith
              over false i =
                  let j = ltb-false (p + m) (2 ^ W) i in
                  let rest : (p + m) % 2 ^ W ≡ p + m - 2 ^ W =
                  mod_is (2 ^ W) 1 (p + m - 2 ^ W) (p + m) (omega arith) (omega arith) in
                  ap (raised W H) rest ∙ raised_up (p + m - 2 ^ W) (omega arith) ∙ omega arith

  rest_up : (p d : ℕ) → p < H → 0 < d → d < H → rest_lane W H p d ≡ p % d
  rest_up p d h some k =
      let size = signed_by W H p p % divisor_of W H d in
      ap (λ t. cond t p (signed_by W H p size)) (not_zero d some) ∙ as_it_is p size h ∙
      ap₂ (λ x y. x % y) (as_it_is p p h) (its_divisor d some k)

  rest_down : (p d : ℕ) → H ≤ p → p < 2 ^ W → 0 < d → d < H →
      rest_lane W H p d ≡ (0 + (2 ^ W - (2 ^ W - p) % d)) % 2 ^ W
  rest_down p d h l some k =
      let size = signed_by W H p p % divisor_of W H d in
      ap (λ t. cond t p (signed_by W H p size)) (not_zero d some) ∙ turned p size h l ∙
      ap₂ (λ x y. (0 + (2 ^ W - x % y)) % 2 ^ W) (size_turned p h l (omega arith)) (its_divisor d some k)

  rested : (p d : ℕ) → p < 2 ^ W → 0 < d → d < H →
      (p + (2 ^ W - quotient_lane W H p d * d % 2 ^ W)) % 2 ^ W ≡ rest_lane W H p d
  rested p d l some k = by (ltb p H) refl
    where
      by : (b : Bool) → ltb p H ≡ b → (p + (2 ^ W - quotient_lane W H p d * d % 2 ^ W)) % 2 ^ W ≡ rest_lane W H p d
      by true i =
          let h = ltb-true p H i in
          ap (λ y. (p + (2 ^ W - y * d % 2 ^ W)) % 2 ^ W) (quotient_up p d h some k) ∙ left_of W p d l ∙
          sym (rest_up p d h some k)
      by false i =
          let h = ltb-false p H i in
          ap (λ y. (p + (2 ^ W - y * d % 2 ^ W)) % 2 ^ W) (quotient_down p d h l some k) ∙
          ap (λ y. (p + (2 ^ W - y)) % 2 ^ W) (mul-mod_first n d (2 ^ W)) ∙ whole (ltb 0 t) refl ∙
          sym (rest_down p d h l some k)
        where
          q : ℕ
          q = (2 ^ W - p) / d

          n : ℕ
          n = 0 + (2 ^ W - q)

          t : ℕ
          t = q * d

          size : t + (2 ^ W - p) % d ≡ 2 ^ W - p
          size = div-add-mod' (2 ^ W - p) d

          few : q ≤ 2 ^ W - p
          few = div-le_self (2 ^ W - p) d

          all : n * d + t ≡ 2 ^ W * d
          all = let sum : n + q ≡ 2 ^ W = omega (arith, few) in omega (arith, ap (λ y. y * d) sum)

          whole : (b : Bool) → ltb 0 t ≡ b →
              (p + (2 ^ W - n * d % 2 ^ W)) % 2 ^ W ≡ (0 + (2 ^ W - (2 ^ W - p) % d)) % 2 ^ W
          whole true e =
              let taken = ltb-true 0 t e in
              let front = one_less (2 ^ W) d some in
              let is : n * d % 2 ^ W ≡ 2 ^ W - t =
              mod_is (2 ^ W) (d - 1) (2 ^ W - t) (n * d) (omega arith) (omega (arith, all, front, size)) in
              let same : p + (2 ^ W - n * d % 2 ^ W) ≡ 0 + (2 ^ W - (2 ^ W - p) % d) =
              omega (arith, is, size) in
              ap (λ y. y % 2 ^ W) same
          whole false e =
              let none = ltb-false 0 t e in
              let is : n * d % 2 ^ W ≡ 0 = mod_is (2 ^ W) d 0 (n * d) (omega arith) (omega (arith, all)) in
              let high : p + (2 ^ W - n * d % 2 ^ W) ≡ 1 * 2 ^ W + p = omega (arith, is) in
              let low : p ≡ 0 + (2 ^ W - (2 ^ W - p) % d) = omega (arith, size) in
              mod_is (2 ^ W) 1 p (p + (2 ^ W - n * d % 2 ^ W)) l high ∙ sym (mod-eq_of_lt l) ∙ ap (λ y. y % 2 ^ W) low

  -- the same for a bias
  pub halved_lane : (j k bias m p : ℕ) → H ≡ 2 ^ j → bias ≡ H → k < j → m ≡ 2 ^ k - 1 → p < 2 ^ W →
      moved_lane W bias ((p + cond (nat_lt (raised W bias p) bias) m 0) % 2 ^ W) k ≡ quotient_lane W bias p (2 ^ k)
  halved_lane j k bias m p e b l i h =
      ap₂ (λ y z. moved_lane W y ((p + cond (nat_lt (raised W y p) y) z 0) % 2 ^ W) k) b i ∙
      shifted p (2 ^ (j - k)) (2 ^ k) h (pow_pos k) (omega (arith, e, pow_below k j l)) (e ∙ power_parts j k l) ∙
      ap (λ y. quotient_lane W y p (2 ^ k)) (sym b)

  pub rested_lane : (j k bias p : ℕ) → H ≡ 2 ^ j → (¬ (bias ≡ 0) → bias ≡ H) → (¬ (bias ≡ 0) → k < j) → p < 2 ^ W →
      (p + (2 ^ W - quotient_lane W bias p (2 ^ k) * 2 ^ k % 2 ^ W)) % 2 ^ W ≡ rest_lane W bias p (2 ^ k)
  rested_lane j k zero p e b l h =
      ap (λ y. (p + (2 ^ W - y * 2 ^ k % 2 ^ W)) % 2 ^ W) (sym (plain_quotient W p (2 ^ k) (pow_pos k))) ∙
      left_of W p (2 ^ k) h ∙ sym (plain_rest W p (2 ^ k) (pow_pos k))
  rested_lane j k (suc n) p e b l h =
      let some : ¬ (suc n ≡ 0) = λ z. absurd (omega (arith, z)) in
      let is = b some in
      ap (λ y. (p + (2 ^ W - quotient_lane W y p (2 ^ k) * 2 ^ k % 2 ^ W)) % 2 ^ W) is ∙
      rested p (2 ^ k) h (pow_pos k) (omega (arith, e, pow_below k j (l some))) ∙
      ap (λ y. rest_lane W y p (2 ^ k)) (sym is)
