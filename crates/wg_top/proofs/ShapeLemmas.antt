-- The counts of a launch are within their limits.
use Rattle.std.proofs.Common.{◌≡◌, ℕ, zero, suc, ◌+◌, ◌*◌, ◌/◌, ◌%◌, ◌^◌, ◌≤◌, [], ◌∷◌, inl, inr, refl, ◌∙◌, ap, arith}
use Rattle.std.proofs.lemmas.Bool.{cases_lt}
use Rattle.std.proofs.lemmas.Nat.{div-add-mod'}
use native.Mathlib.Nat.{mul-le-mul_left, mul-le-mul_right, div-mul-le_self, mul_assoc, mul_comm, mul_left_comm}
use native.Mathlib.Nat.{mul-le-mul, zero-mul}
use Rattle.std.specs.Prelude.{slice_index}
use Rattle.cl_model.specs.declared.launch.Launch.{Launch as Bindings}
use Rattle.cl_model.specs.Sizes.{product}
use Rattle.cl_model.specs.View.{launch_of}
use Rattle.wg_top.specs.Launches.{HasLimits}

-- a count times some is at least the count
pub times_some : (n m : ℕ) → 1 ≤ m → n ≤ n * m
times_some n m some = omega (arith, mul-le-mul_left {m = 1} {n = m} n some)

pub some_times : (n m : ℕ) → 1 ≤ m → n ≤ m * n
some_times n m some = omega (arith, mul-le-mul_right {m = 1} {n = m} n some)

-- the product of three numbers
pub product_three : (x y z : ℕ) → product (x ∷ y ∷ z ∷ []) ≡ x * (y * z)
product_three x y z = let one : z * 1 ≡ z = omega arith in ap (λ t. x * (y * t)) one

-- groups of a size that divides a size
pub some_groups : (global local : ℕ) → 1 ≤ global → global % local ≡ 0 → 1 ≤ global / local
some_groups global local some even = elim (cases_lt 0 (global / local)) [
  | inl more ↦ more
  | inr none ↦
      let gone : global / local ≡ 0 = omega arith in
      let whole : global / local * local + global % local ≡ global = div-add-mod' global local in
      let empty : global / local * local ≡ 0 = ap (λ t. t * local) gone ∙ zero-mul local in
      absurd (omega arith)
]

-- a launch in three dimensions: global sizes, local sizes, and numbers of groups
module _ (a b c x y z : ℕ) (sa : 1 ≤ a) (sb : 1 ≤ b) (sc : 1 ≤ c) (sx : 1 ≤ x) (sy : 1 ≤ y) (sz : 1 ≤ z) (ea : a % x ≡
    0) (eb : b % y ≡ 0) (ec : c % z ≡ 0) (few : product (x ∷ y ∷ z ∷ []) ≤ 1024) (low : product (a ∷ b ∷ c ∷ []) ≤
    2 ^ 24) where
  size_few : x * (y * z) ≤ 1024
  size_few = omega (arith, product_three x y z)

  pub plane_few : y * z ≤ 1024
  plane_few = omega (arith, some_times (y * z) x sx, size_few)

  pub size_some : 1 ≤ x * (y * z)
  size_some = omega (arith, times_some x (y * z) (omega (arith, times_some y z sz)))

  pub size_limit : x * (y * z) ≤ 1024
  size_limit = size_few

  regrouped : (a / x * (b / y * (c / z))) * (x * (y * z)) ≡ (a / x * x) * ((b / y * y) * (c / z * z))
  regrouped = simp (mul_assoc, mul_comm, mul_left_comm) refl

  pub items_limit : (a / x * (b / y * (c / z))) * (x * (y * z)) ≤ 2 ^ 24
  items_limit =
      let most : (a / x * x) * ((b / y * y) * (c / z * z)) ≤ a * (b * c) =
      mul-le-mul (div-mul-le_self a x) (mul-le-mul (div-mul-le_self b y) (div-mul-le_self c z)) in
      omega (arith, regrouped, product_three a b c)

  pub groups_limit : a / x * (b / y * (c / z)) ≤ 2 ^ 24
  groups_limit = omega (arith, times_some (a / x * (b / y * (c / z))) (x * (y * z)) size_some, items_limit)

  pub first_some : 1 ≤ a / x
  first_some = some_groups a x sa ea

  pub rest_limit : b / y * (c / z) ≤ 2 ^ 24
  rest_limit = omega (arith, some_times (b / y * (c / z)) (a / x) first_some, groups_limit)

  pub first_limit : a / x * x ≤ 2 ^ 24
  first_limit =
      omega (arith, div-mul-le_self a x, times_some a (b * c) (omega (arith, times_some b c sc)), product_three a b c)

-- what the counts of a launch that can run are within
pub record ThreeFit (a b c x y z : ℕ) : Type 0 where
  pub plane : b / y * (c / z) ≤ 2 ^ 24
  pub groups : a / x * (b / y * (c / z)) ≤ 2 ^ 24
  pub cells : y * z ≤ 1024
  pub size : x * (y * z) ≤ 1024
  pub size_some : 1 ≤ x * (y * z)
  pub items : (a / x * (b / y * (c / z))) * (x * (y * z)) ≤ 2 ^ 24
  pub first_some : 1 ≤ a / x
  pub local_some : 1 ≤ x
  pub first : a / x * x ≤ 2 ^ 24

pub three_fit : (launch : Bindings) → HasLimits (launch_of launch) →
    ThreeFit (slice_index launch.global 0) (slice_index launch.global 1) (slice_index launch.global 2)
    (slice_index launch.local 0) (slice_index launch.local 1) (slice_index launch.local 2)
three_fit launch can =
    let one = can.dimensions zero (omega arith) in
    let two = can.dimensions (suc zero) (omega arith) in
    let three = can.dimensions (suc (suc zero)) (omega arith) in
    let a = slice_index launch.global 0 in
    let b = slice_index launch.global 1 in
    let c = slice_index launch.global 2 in
    let x = slice_index launch.local 0 in
    let y = slice_index launch.local 1 in
    let z = slice_index launch.local 2 in
    record {
      plane = rest_limit a b c x y z one.some_global two.some_global three.some_global one.some_local two.some_local
          three.some_local one.divides two.divides three.divides can.group_limit can.item_limit;
      groups = groups_limit a b c x y z one.some_global two.some_global three.some_global one.some_local
          two.some_local three.some_local one.divides two.divides three.divides can.group_limit can.item_limit;
      cells = plane_few a b c x y z one.some_global two.some_global three.some_global one.some_local two.some_local
          three.some_local one.divides two.divides three.divides can.group_limit can.item_limit;
      size = size_limit a b c x y z one.some_global two.some_global three.some_global one.some_local two.some_local
          three.some_local one.divides two.divides three.divides can.group_limit can.item_limit;
      size_some = size_some a b c x y z one.some_global two.some_global three.some_global one.some_local
          two.some_local three.some_local one.divides two.divides three.divides can.group_limit can.item_limit;
      items = items_limit a b c x y z one.some_global two.some_global three.some_global one.some_local two.some_local
          three.some_local one.divides two.divides three.divides can.group_limit can.item_limit;
      first_some = first_some a b c x y z one.some_global two.some_global three.some_global one.some_local
          two.some_local three.some_local one.divides two.divides three.divides can.group_limit can.item_limit;
      local_some = one.some_local;
      first = first_limit a b c x y z one.some_global two.some_global three.some_global one.some_local two.some_local
          three.some_local one.divides two.divides three.divides can.group_limit can.item_limit;
    }
