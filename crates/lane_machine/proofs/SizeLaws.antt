-- Sizes in three dimensions.
use Rattle.std.proofs.Common.{◌≡◌, ℕ, zero, suc, ◌+◌, ◌-◌, ◌*◌, ◌/◌, ◌%◌, ◌<◌, ◌≤◌, ◌^◌, refl, sym, ap, subst, arith}
use Rattle.std.proofs.Common.{List, [], ◌∷◌, mul_assoc, mul-one, mul-le-mul_right, mul-le-mul, div-add-mod', le_trans}
use Rattle.std.proofs.Math.Nat.{div-le_self, div-mul-le_self, mul-pos}
use Rattle.cl_model.specs.Sizes.{product, size_at, offset_at}
use Rattle.cl_model.specs.View.{launch_of}
use Rattle.cl_model.specs.declared.launch.Launch.{Launch}
use Rattle.cl_model.specs.declared.program.VarKind.{VarKind}
use Rattle.lane_code.specs.Fits.{LaunchFits}
use Rattle.lane_machine.specs.Sizes.{AreSizes, HasSizes}

-- a factor of at least 1 makes nothing less
pub factor_right : (a m : ℕ) → 1 ≤ a → m ≤ a * m
factor_right a m h = let g = mul-le-mul_right m h in omega (arith, g)

pub product_three : (a b c : ℕ) → a * (b * c) ≡ product (a ∷ b ∷ c ∷ [])
product_three a b c = ap (λ n. a * (b * n)) (sym (mul-one c))

pub two_le : (a b c : ℕ) → AreSizes (a ∷ b ∷ c ∷ []) → b * c ≤ 2 ^ 24
two_le a b c s = let g = factor_right a (b * c) (s.some 0) in let e = product_three a b c in omega (arith, g, e, s.few)

pub first_two_le : (a b c : ℕ) → AreSizes (a ∷ b ∷ c ∷ []) → a * b ≤ 2 ^ 24
first_two_le a b c s =
    let g = factor_right c (a * b) (s.some 2) in
    let e : a * b * c ≡ a * (b * c) = mul_assoc a b c in
    let f = product_three a b c in
    let h : c * (a * b) ≡ a * b * c = omega arith in
    omega (arith, g, e, f, h, s.few)

-- a number of groups: at least 1, and no more than the items
pub some_groups : (g l : ℕ) → 1 ≤ g → 1 ≤ l → g % l ≡ 0 → 1 ≤ g / l
some_groups g l some h e = by (g / l) (div-add-mod' g l)
  where
    by : (q : ℕ) → q * l + g % l ≡ g → 1 ≤ q
    by zero f = absurd (omega (arith, f, e))
    by (suc q) f = omega arith

pub few_three : (a b c x y z : ℕ) → a ≤ x → b ≤ y → c ≤ z → product (a ∷ b ∷ c ∷ []) ≤ product (x ∷ y ∷ z ∷ [])
few_three a b c x y z h k l = mul-le-mul h (mul-le-mul k (mul-le-mul l (omega arith)))

pub groups_are_sizes : (a b c x y z : ℕ) → AreSizes (a ∷ b ∷ c ∷ []) → AreSizes (x ∷ y ∷ z ∷ []) →
    ((d : ℕ) → size_at (a ∷ b ∷ c ∷ []) d % size_at (x ∷ y ∷ z ∷ []) d ≡ 0)
    → AreSizes (a / x ∷ b / y ∷ c / z ∷ [])
groups_are_sizes a b c x y z g l e = record {
  some = each;
  few = le_trans (few_three (a / x) (b / y) (c / z) a b c (div-le_self a x) (div-le_self b y) (div-le_self c z)) g.few;
}
  where
    each : (d : ℕ) → 1 ≤ size_at (a / x ∷ b / y ∷ c / z ∷ []) d
    each zero = some_groups a x (g.some 0) (l.some 0) (e 0)
    each (suc zero) = some_groups b y (g.some 1) (l.some 1) (e 1)
    each (suc (suc zero)) = some_groups c z (g.some 2) (l.some 2) (e 2)
    each (suc (suc (suc d))) = omega arith

-- the next number times a size does not wrap
pub next_small : (number l : ℕ) → number < 2 ^ 28 → l ≤ 2 ^ 24 → (number + 1) * l < 2 ^ 64
next_small number l h k =
    let few : number + 1 ≤ 268435456 = omega (arith, h) in
    let most : (number + 1) * l ≤ 268435456 * 16777216 = mul-le-mul few k in
    omega (arith, most)

pub product_some : (a b c : ℕ) → AreSizes (a ∷ b ∷ c ∷ []) → 0 < a * (b * c)
product_some a b c s = mul-pos (s.some 0) (mul-pos (s.some 1) (s.some 2))

-- each size is no more than the product
pub size_le : (a b c d : ℕ) → AreSizes (a ∷ b ∷ c ∷ []) → size_at (a ∷ b ∷ c ∷ []) d ≤ 2 ^ 24
size_le a b c zero s =
    let g = factor_right b a (s.some 1) in
    let t = first_two_le a b c s in
    let e : b * a ≡ a * b = omega arith in
    omega (arith, g, t, e)
size_le a b c (suc zero) s =
    let g = factor_right a b (s.some 0) in
    let t = first_two_le a b c s in
    omega (arith, g, t)
size_le a b c (suc (suc zero)) s =
    let g = factor_right b c (s.some 1) in
    let t = two_le a b c s in
    omega (arith, g, t)
size_le a b c (suc (suc (suc d))) s = omega arith

-- the number of an item in a dimension is below its size there
pub number_le : (g l group item : ℕ) → g ≤ 2 ^ 24 → group < g / l → item < l → group * l + item < 2 ^ 24
number_le g l group item h k m =
    let most : suc group * l ≤ g / l * l = mul-le-mul_right l k in
    let few : g / l * l ≤ g = div-mul-le_self g l in
    let split : suc group * l ≡ group * l + l = omega arith in
    omega (arith, most, few, split)

-- the items of all groups together are no more than the launch has
pub all_items : (a b c x y z : ℕ) → product (a / x ∷ b / y ∷ c / z ∷ []) * product (x ∷ y ∷ z ∷ []) ≤
    product (a ∷ b ∷ c ∷ [])
all_items a b c x y z =
    let p = a / x in
    let q = b / y in
    let r = c / z in
    let e : product (p ∷ q ∷ r ∷ []) * product (x ∷ y ∷ z ∷ []) ≡ p * x * (q * y * (r * z * 1)) = omega arith in
    subst (λ n. n ≤ product (a ∷ b ∷ c ∷ [])) (sym e)
    (mul-le-mul (div-mul-le_self a x)
    (mul-le-mul (div-mul-le_self b y) (mul-le-mul (div-mul-le_self c z) (omega arith))))

-- the first item of a chunk that a group has is one of its items
pub chunk_starts : (size width chunk : ℕ) → 1 ≤ width → chunk < (size + (width - 1)) / width → chunk * width < size
chunk_starts size width chunk h k =
    let most : suc chunk * width ≤ (size + (width - 1)) / width * width = mul-le-mul_right width k in
    let few = div-mul-le_self (size + (width - 1)) width in
    let split : suc chunk * width ≡ chunk * width + width = omega arith in
    omega (arith, most, few, split, h)

-- and the number in the launch of any item of a group is small
pub item_small : (groups size number item : ℕ) → groups * size ≤ 2 ^ 24 → number < groups → item < size →
    number * size + item < 2 ^ 24
item_small groups size number item h k m =
    let most : suc number * size ≤ groups * size = mul-le-mul_right size k in
    let split : suc number * size ≡ number * size + size = omega arith in
    omega (arith, most, split, h, m)

-- the sizes of a launch that fits a program
module _ (kinds : List VarKind) (bytes : ℕ) (l : Launch) (f : LaunchFits kinds bytes (launch_of l)) where
  local_some : (d : ℕ) → 1 ≤ size_at (launch_of l).local d
  local_some zero = (f.dimensions 0 (omega arith)).some_local
  local_some (suc zero) = (f.dimensions 1 (omega arith)).some_local
  local_some (suc (suc zero)) = (f.dimensions 2 (omega arith)).some_local
  local_some (suc (suc (suc d))) = omega arith

  global_some : (d : ℕ) → 1 ≤ size_at (launch_of l).global d
  global_some zero = (f.dimensions 0 (omega arith)).some_global
  global_some (suc zero) = (f.dimensions 1 (omega arith)).some_global
  global_some (suc (suc zero)) = (f.dimensions 2 (omega arith)).some_global
  global_some (suc (suc (suc d))) = omega arith

  each_divides : (d : ℕ) → size_at (launch_of l).global d % size_at (launch_of l).local d ≡ 0
  each_divides zero = (f.dimensions 0 (omega arith)).divides
  each_divides (suc zero) = (f.dimensions 1 (omega arith)).divides
  each_divides (suc (suc zero)) = (f.dimensions 2 (omega arith)).divides
  each_divides (suc (suc (suc d))) = refl

  small_offset : (n : ℕ) → n ≤ 9223372036854775807 → n < 2 ^ 63
  small_offset n h = omega (arith, h)

  each_offset : (d : ℕ) → offset_at (launch_of l).offset d < 2 ^ 63
  each_offset zero = small_offset (offset_at (launch_of l).offset 0) (f.dimensions 0 (omega arith)).offset
  each_offset (suc zero) = small_offset (offset_at (launch_of l).offset 1) (f.dimensions 1 (omega arith)).offset
  each_offset (suc (suc zero)) = small_offset (offset_at (launch_of l).offset 2) (f.dimensions 2 (omega arith)).offset
  each_offset (suc (suc (suc d))) = omega arith

  pub sizes_fit : HasSizes (launch_of l)
  sizes_fit = record {
    local = record { some = local_some; few = omega (arith, f.group_limit) };
    global = record { some = global_some; few = f.item_limit };
    divides = each_divides;
    offset = each_offset;
  }
