-- Which numbers are values of their types: 0 and 1, what operators give, and what a launch gives.
use Rattle.std.proofs.Common.{◌≡◌, ℕ, zero, suc, ◌+◌, ◌*◌, ◌/◌, ◌^◌, ◌<◌, ◌≤◌, ℤ, pos, negsuc, List, [], ◌∷◌}
use Rattle.std.proofs.Common.{Some, slice_get, refl, sym, ◌∙◌, subst, ⊎_elim, arith, cond, take, mod-lt}
use Rattle.std.proofs.Common.{div-add-mod', suc-mul, mul-le-mul_right, mod-eq_of_lt}
use Rattle.std.proofs.lemmas.Int.{ints}
use native.Mathlib.Nat.{div-eq-sub-div, div-le_self}
use Rattle.std.specs.Prelude.{nat_lt}
use Rattle.std.specs.Prelude.{Bool as Test, true, false}
use Rattle.std.specs.Ordering.{int_eq}
use Rattle.std.proofs.lemmas.Bool.{cases_lt, ltb-true}
use Rattle.std.proofs.lemmas.Option.{none-some, same_Some}
use Rattle.wg_num.specs.declared.types.IntType.{IntType}
use Rattle.wg_num.specs.declared.types.IntType.TheVariants as types
use Rattle.wg_num.specs.declared.types.Bin.{Bin}
use Rattle.wg_num.specs.declared.types.Bin.TheVariants as bin
use Rattle.wg_num.specs.declared.types.Un.{Un}
use Rattle.wg_num.specs.declared.types.Un.TheVariants as un
use Rattle.wg_num.specs.Wrap.{IsValue, half, modulus, wrap_of}
use Rattle.wg_num.specs.Operators.{number_of, unary_of, binary_of, unary_exact, binary_exact}
use Rattle.wg_num.proofs.WrapLaws.{IsValue-wrap}
use Rattle.cl_model.specs.declared.program.Query.{Query}
use Rattle.cl_model.specs.declared.program.Query.TheVariants.{WorkDim, GlobalId, LocalId, GroupId, GlobalSize}
use Rattle.cl_model.specs.declared.program.Query.TheVariants.{LocalSize, NumGroups, GlobalOffset}
use Rattle.cl_model.specs.declared.program.Space.{Space}
use Rattle.cl_model.specs.declared.program.Space.TheVariants as space
use Rattle.cl_model.specs.declared.program.Root.{Root}
use Rattle.cl_model.specs.declared.program.VarKind.{VarKind}
use Rattle.cl_model.specs.declared.program.VarKind.TheVariants.{Scalar, Pointer}
use Rattle.cl_model.specs.declared.launch.Bound.{Bound}
use Rattle.cl_model.specs.declared.launch.Bound.TheVariants as bound
use Rattle.cl_model.specs.Sizes.{Launch, product, size_at, offset_at, groups_of, groups_at, group_of, number_in_group}
use Rattle.cl_model.specs.Sizes.{local_id, group_id, global_id, answer_within, answer_outside, answer_of}
use Rattle.cl_model.specs.Values.{is_zero, number_of as number_of_test}
use Rattle.cl_model.specs.Tree.{Program}
use Rattle.cl_model.specs.Valid.{unary_type, binary_type, query_type, kind_type}
use Rattle.cl_model.specs.Fitting.{ArgumentFits, ArgumentsFit, FitsProgram}
use Rattle.cl_model.specs.Meaning.{argument_value}

-- a number of so many bits is a value
ulong_value : (n : ℕ) → n < 2 ^ 64 → IsValue types.Ulong (pos n)
unfolding half modulus
ulong_value n h = record { low = omega (arith, ints); high = omega (arith, ints, h) }

uint_value : (n : ℕ) → n < 2 ^ 32 → IsValue types.Uint (pos n)
unfolding half modulus
uint_value n h = record { low = omega (arith, ints); high = omega (arith, ints, h) }

-- 0 and 1 are values of each type
zero_one : (t : IntType) (b : Test) → wrap_of t (number_of b) ≡ number_of b
unfolding wrap_of half modulus
zero_one types.Bool true = refl
zero_one types.Char true = refl
zero_one types.Uchar true = refl
zero_one types.Short true = refl
zero_one types.Ushort true = refl
zero_one types.Int true = refl
zero_one types.Uint true = refl
zero_one types.Long true = refl
zero_one types.Ulong true = refl
zero_one types.Bool false = refl
zero_one types.Char false = refl
zero_one types.Uchar false = refl
zero_one types.Short false = refl
zero_one types.Ushort false = refl
zero_one types.Int false = refl
zero_one types.Uint false = refl
zero_one types.Long false = refl
zero_one types.Ulong false = refl

pub bit_value : (t : IntType) (b : Test) → IsValue t (number_of b)
bit_value t b = subst (λ z. IsValue t z) (zero_one t b) (IsValue-wrap t (number_of b))

pub zero_value : (t : IntType) → IsValue t (pos 0)
zero_value t = bit_value t false

pub truth_value : (z : ℤ) → IsValue types.Int (cond (is_zero z) (pos 0) (pos 1))
truth_value z = by (is_zero z)
  where
    by : (b : Test) → IsValue types.Int (cond b (pos 0) (pos 1))
    by true = bit_value types.Int false
    by false = bit_value types.Int true

pub decided_value : (b : Test) → IsValue types.Int (number_of_test b)
decided_value true = bit_value types.Int true
decided_value false = bit_value types.Int false

-- ---- what operators give

-- the answer of a test is 0 or 1, and so a value of each type
answer_value : (to t : IntType) (b : Test) → IsValue to (wrap_of t (number_of b))
answer_value to t b = subst (λ z. IsValue to z) (sym (zero_one t b)) (bit_value to b)

pub unary_value : (op : Un) (of : IntType) (a : ℤ) → IsValue (unary_type op of) (unary_of op of a)
unfolding unary_of
unary_value un.Plus of a = IsValue-wrap of (unary_exact un.Plus a)
unary_value un.Minus of a = IsValue-wrap of (unary_exact un.Minus a)
unary_value un.Flip of a = IsValue-wrap of (unary_exact un.Flip a)
unary_value un.Not of a = answer_value types.Int of (int_eq a (pos 0))

pub binary_value : (op : Bin) (of : IntType) (a b : ℤ) → IsValue (binary_type op of) (binary_of op of a b)
unfolding binary_of
binary_value bin.Add of a b = IsValue-wrap of (binary_exact bin.Add of a b)
binary_value bin.Sub of a b = IsValue-wrap of (binary_exact bin.Sub of a b)
binary_value bin.Mul of a b = IsValue-wrap of (binary_exact bin.Mul of a b)
binary_value bin.Div of a b = IsValue-wrap of (binary_exact bin.Div of a b)
binary_value bin.Rem of a b = IsValue-wrap of (binary_exact bin.Rem of a b)
binary_value bin.Shl of a b = IsValue-wrap of (binary_exact bin.Shl of a b)
binary_value bin.Shr of a b = IsValue-wrap of (binary_exact bin.Shr of a b)
binary_value bin.And of a b = IsValue-wrap of (binary_exact bin.And of a b)
binary_value bin.Or of a b = IsValue-wrap of (binary_exact bin.Or of a b)
binary_value bin.Xor of a b = IsValue-wrap of (binary_exact bin.Xor of a b)
binary_value bin.Eq of a b = answer_value types.Int of _
binary_value bin.Ne of a b = answer_value types.Int of _
binary_value bin.Lt of a b = answer_value types.Int of _
binary_value bin.Le of a b = answer_value types.Int of _
binary_value bin.Gt of a b = answer_value types.Int of _
binary_value bin.Ge of a b = answer_value types.Int of _

-- ---- what a launch gives

-- a size is at most the product of all, where that is not 0
size_below : (ns : List ℕ) (d : ℕ) → 0 < product ns → size_at ns d ≤ product ns
size_below [] d some = omega arith
size_below (zero ∷ ns) d some = absurd (omega arith)
size_below (suc n ∷ ns) zero some = by (product ns) some
  where
    by : (p : ℕ) → 0 < suc n * p → suc n ≤ suc n * p
    by zero h = absurd (omega arith)
    by (suc p) h = grind arith
size_below (suc n ∷ ns) (suc d) some = let p = product ns in let less =
    size_below ns d (positive p some) in grind (arith, less)
  where
    positive : (p : ℕ) → 0 < suc n * p → 0 < p
    positive zero h = absurd (omega arith)
    positive (suc p) h = omega arith

-- a group's number times the size, and a number in the group, are below the whole
within_groups : (global local q n : ℕ) → q < global / local → n < local → 0 < local → q * local + n < global
within_groups global local q n lt lt' some =
    let split = div-add-mod' global local in
    let more : (suc q) * local ≤ (global / local) * local = mul-le-mul_right local lt in
    let one : (suc q) * local ≡ q * local + local = suc-mul q local in
    omega (arith, split, more, one, lt')

module _ (program : Program) (launch : Launch) (fits : FitsProgram program launch)
    (sizes : 0 < product launch.global) where
  global_small : (d : ℕ) → size_at launch.global d ≤ 2 ^ 24
  global_small d = let a = size_below launch.global d sizes in let b = fits.item_limit in omega arith

  local_small : (d : ℕ) → d < 3 → size_at launch.local d ≤ size_at launch.global d
  local_small d lt =
      let f = fits.dimensions d lt in
      let some = f.some_global in
      ⊎_elim
      (λ less. absurd (let e = mod-eq_of_lt less ∙ sym refl in let z = f.divides in omega (arith, e, z, some)))
      (λ le. le)
      (cases_lt (size_at launch.global d) (size_at launch.local d))

  groups_some : (d : ℕ) → d < 3 → 0 < groups_at launch d
  groups_some d lt =
      let f = fits.dimensions d lt in
      let one = div-eq-sub-div f.some_local (local_small d lt) in omega (arith, one)

  groups_small : (d : ℕ) → d < 3 → groups_at launch d ≤ size_at launch.global d
  groups_small d lt = div-le_self (size_at launch.global d) (size_at launch.local d)

  pub answer_small : (what : Query) (item d : ℕ) → d < 3 →
      IsValue (query_type what) (pos (answer_within launch item what d))
  answer_small WorkDim item d lt = uint_value launch.dims (let f = fits.few_dims.1 in omega arith)
  answer_small GlobalId item d lt =
      let f = fits.dimensions d lt in
      let gs = mod-lt (group_of launch item / product (take d (groups_of launch)))
      (groups_some d lt) in
      let ls = mod-lt (number_in_group launch item / product (take d launch.local)) f.some_local in
      let inside = within_groups (size_at launch.global d) (size_at launch.local d) (group_id launch item d)
      (local_id launch item d) gs ls f.some_local in
      ulong_value (global_id launch item d) (let g = global_small d in let o = f.offset in omega (arith, inside, g, o))
  answer_small LocalId item d lt =
      let f = fits.dimensions d lt in
      let ls = mod-lt (number_in_group launch item / product (take d launch.local)) f.some_local in
      ulong_value (local_id launch item d) (let g = global_small d in let l = local_small d lt in
      omega (arith, ls, g, l))
  answer_small GroupId item d lt =
      let gs = mod-lt (group_of launch item / product (take d (groups_of launch)))
      (groups_some d lt) in
      ulong_value (group_id launch item d) (let g = global_small d in let l = groups_small d lt in
      omega (arith, gs, g, l))
  answer_small GlobalSize item d lt = ulong_value (size_at launch.global d) (let g = global_small d in omega arith)
  answer_small LocalSize item d lt =
      ulong_value (size_at launch.local d) (let g = global_small d in let l = local_small d lt in omega arith)
  answer_small NumGroups item d lt =
      ulong_value (groups_at launch d) (let g = global_small d in let l = groups_small d lt in omega arith)
  answer_small GlobalOffset item d lt =
      ulong_value (offset_at launch.offset d) (let o = (fits.dimensions d lt).offset in omega arith)

  outside_small : (what : Query) → IsValue (query_type what) (pos (answer_outside launch what))
  outside_small WorkDim = uint_value launch.dims (let f = fits.few_dims.1 in omega arith)
  outside_small GlobalId = ulong_value 0 (omega arith)
  outside_small LocalId = ulong_value 0 (omega arith)
  outside_small GroupId = ulong_value 0 (omega arith)
  outside_small GlobalSize = ulong_value 1 (omega arith)
  outside_small LocalSize = ulong_value 1 (omega arith)
  outside_small NumGroups = ulong_value 1 (omega arith)
  outside_small GlobalOffset = ulong_value 0 (omega arith)

  pub query_value : (what : Query) (item : ℕ) (dim : ℤ) → IsValue (query_type what) (answer_of launch item what dim)
  query_value what item (negsuc d) = outside_small what
  query_value what item (pos d) = go (nat_lt d 3) refl
    where
      go : (b : Test) → nat_lt d 3 ≡ b →
          IsValue (query_type what) (pos (cond b (answer_within launch item what d) (answer_outside launch what)))
      go true e = answer_small what item d (ltb-true d 3 e)
      go false e = outside_small what

-- what is bound to a parameter is a value of its type, and behind the last parameter nothing is bound
pub argument_fits : (launch : Launch) (n : ℕ) (variables : List VarKind) (args : List Bound) (x : ℕ) (kind : VarKind) →
    ArgumentsFit launch (take n variables) args → slice_get variables x ≡ Some kind →
    IsValue (kind_type kind) (argument_value (slice_get args x))
argument_fits launch n [] args x kind f e = absurd (none-some kind e)
argument_fits launch zero (k ∷ variables) [] x kind f e = zero_value (kind_type kind)
argument_fits launch zero (k ∷ variables) (b ∷ args) x kind f e = absurd f
argument_fits launch (suc n) (k ∷ variables) [] x kind f e = absurd f
argument_fits launch (suc n) (k ∷ variables) (b ∷ args) (suc x) kind f e =
    argument_fits launch n variables args x kind f.1 e
argument_fits launch (suc n) (k ∷ variables) (b ∷ args) zero kind f e =
    subst (λ u. IsValue (kind_type u) (argument_value (Some b))) (same_Some _ _ e) (by k b f.0)
  where
    by : (kind : VarKind) (b : Bound) → ArgumentFits launch kind b → IsValue (kind_type kind) (argument_value (Some b))
    by (Scalar u) (bound.Value v) h = h
    by (Scalar u) (bound.Buffer k) h = absurd h
    by (Scalar u) (bound.Local k) h = absurd h
    by (Pointer at element root) b h = pointer at element root b h
      where
        pointer : (at : Space) (element : IntType) (root : Root) (b : Bound) →
            ArgumentFits launch (Pointer at element root) b → IsValue types.Long (argument_value (Some b))
        pointer at element root (bound.Buffer k) h = zero_value types.Long
        pointer at element root (bound.Local k) h = zero_value types.Long
        pointer space.Global element root (bound.Value v) h = absurd h
        pointer space.Constant element root (bound.Value v) h = absurd h
        pointer space.Local element root (bound.Value v) h = absurd h
        pointer space.Private element root (bound.Value v) h = absurd h
