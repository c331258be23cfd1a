-- What a line sets a cell to is a value of the cell's type.
use Rattle.std.proofs.Common.{◌≡◌, ℕ, zero, suc, ◌+◌, ◌*◌, ◌/◌, ◌^◌, ◌<◌, ◌≤◌, ℤ, pos, negsuc, List, [], ◌∷◌, Option}
use Rattle.std.proofs.Common.{Some, None, slice_get, refl, sym, ap, ◌∙◌, subst, ⊎_elim, arith, cond, take, mod-lt}
use Rattle.std.proofs.Common.{div-add-mod', suc-mul, mul-le-mul_right, mod-eq_of_lt}
use Rattle.std.proofs.lemmas.Int.{ints}
use native.Mathlib.Nat.{div-eq-sub-div, div-le_self}
use Rattle.std.specs.Prelude.{nat_eq, nat_lt, option_map, int_le}
use Rattle.std.specs.Prelude.{Bool as Test, true, false}
use Rattle.std.proofs.lemmas.Bool.{and_parts, true≢false, cases_lt, eqb-true, ltb-true}
use Rattle.std.proofs.lemmas.Option.{none-some, same_Some}
use Rattle.std.proofs.Math.Seq.{take-length}
use Rattle.wg_num.specs.declared.types.IntType.{IntType}
use Rattle.wg_num.specs.declared.types.IntType.TheVariants as types
use Rattle.wg_num.specs.declared.types.Bin.{Bin}
use Rattle.wg_num.specs.declared.types.Bin.TheVariants as bin
use Rattle.wg_num.specs.declared.types.Un.{Un}
use Rattle.wg_num.specs.declared.types.Un.TheVariants as un
use Rattle.wg_num.specs.Wrap.{IsValue, half, modulus, lowest, highest, wrap_of}
use Rattle.wg_num.specs.Operators.{number_of, unary_of, binary_of, unary_exact, binary_exact}
use Rattle.wg_num.proofs.WrapLaws.{IsValue-wrap}
use Rattle.wg_num.proofs.BuiltinLaws.{IsValue-builtin}
use Rattle.wg_num.proofs.TypeLaws.{same_type_is}
use Rattle.wg_num.specs.Types.{is_value}
use Rattle.cl_model.specs.declared.launch.Bound.{Bound}
use Rattle.cl_model.specs.declared.launch.Bound.TheVariants as bound
use Rattle.cl_model.specs.declared.program.Query.{Query}
use Rattle.cl_model.specs.declared.program.Query.TheVariants.{WorkDim, GlobalId, LocalId, GroupId, GlobalSize}
use Rattle.cl_model.specs.declared.program.Query.TheVariants.{LocalSize, NumGroups, GlobalOffset}
use Rattle.cl_model.specs.declared.program.VarKind.{VarKind}
use Rattle.cl_model.specs.declared.program.VarKind.TheVariants.{Scalar, Pointer}
use Rattle.cl_model.specs.declared.program.Space.TheVariants as space
use Rattle.cl_model.specs.Sizes.{Launch, product, size_at, offset_at, groups_at, group_of, number_in_group, local_id}
use Rattle.cl_model.specs.Sizes.{group_id, global_id, answer_within, answer_outside, answer_of}
use Rattle.cl_model.specs.Tree.{Program}
use Rattle.cl_model.specs.Valid.{unary_type, binary_type, query_type, kind_type}
use Rattle.cl_model.specs.Fitting.{ArgumentFits, ArgumentsFit, FitsProgram}
use Rattle.cl_model.specs.Meaning.{argument_value}
use Rattle.kir.specs.declared.line.Atom.{Atom}
use Rattle.kir.specs.declared.line.Atom.TheVariants.{Const, Cell as CellAtom}
use Rattle.kir.specs.Tree.{Work, Unary, Binary, Builtin, Convert, Ask, Argument, Copy}
use Rattle.kir.specs.Tree.{Cell, Kernel}
use Rattle.kir.specs.Places.{Tasks}
use Rattle.kir.specs.Steps.{shell_of, Item, with_cell, atom_value, work_value}
use Rattle.kir.specs.Fits.{has_type, atom_type, type_of_cell, work_fits, work_type, cell_takes}
use Rattle.kir.specs.Fits.{type_of_parameter}
use Rattle.kir.specs.CellTypes.{type_of}
use Rattle.kir.specs.CellTypes.{HoldTypes}
use Rattle.kir.specs.Lowering.{HasGlobalSizes}

-- ---- types

pub has_type_is : (t : IntType) (o : Option IntType) → has_type t o ≡ true → o ≡ Some t
has_type_is t None h = absurd (true≢false (sym h))
has_type_is t (Some u) h = ap Some (sym (same_type_is t u h))

-- the type of a cell, in the words of the kernel's validity
pub type_of_is : (kernel : Kernel) (c : ℕ) → type_of_cell (slice_get kernel.cells c) ≡ type_of kernel c
type_of_is kernel c = go (slice_get kernel.cells c)
  where
    go : (o : Option Cell) → type_of_cell o ≡ option_map (λ (cell : Cell). cell.of) o
    go None = refl
    go (Some cell) = refl

-- a test is a fact
pub is_value_is : (t : IntType) (z : ℤ) → is_value t z ≡ true → IsValue t z
is_value_is t z e = let p = and_parts (int_le (lowest t) z) (int_le z (highest t)) e in
    record { low = omega (arith, ints, p.0); high = omega (arith, ints, p.1) }

-- a number of so many bits is a value
ulong_value : (n : ℕ) → n < 2 ^ 64 → IsValue types.Ulong (pos n)
unfolding half modulus
ulong_value n h = record { low = omega (arith, ints); high = omega (arith, ints, h) }

uint_value : (n : ℕ) → n < 2 ^ 32 → IsValue types.Uint (pos n)
unfolding half modulus
uint_value n h = record { low = omega (arith, ints); high = omega (arith, ints, h) }

pub zero_wraps : (t : IntType) → wrap_of t (pos 0) ≡ pos 0
unfolding wrap_of half modulus
zero_wraps types.Bool = refl
zero_wraps types.Char = refl
zero_wraps types.Uchar = refl
zero_wraps types.Short = refl
zero_wraps types.Ushort = refl
zero_wraps types.Int = refl
zero_wraps types.Uint = refl
zero_wraps types.Long = refl
zero_wraps types.Ulong = refl

pub zero_value : (t : IntType) → IsValue t (pos 0)
zero_value t = subst (λ z. IsValue t z) (zero_wraps t) (IsValue-wrap t (pos 0))

-- ---- what operators give

-- 0 and 1 are values of each type
zero_one : (t : IntType) (b : Test) → wrap_of t (number_of b) ≡ number_of b
unfolding wrap_of half modulus
zero_one types.Bool true = refl
zero_one types.Char true = refl
zero_one types.Uchar true = refl
zero_one types.Short true = refl
zero_one types.Ushort true = refl
zero_one types.Int true = refl
zero_one types.Uint true = refl
zero_one types.Long true = refl
zero_one types.Ulong true = refl
zero_one types.Bool false = refl
zero_one types.Char false = refl
zero_one types.Uchar false = refl
zero_one types.Short false = refl
zero_one types.Ushort false = refl
zero_one types.Int false = refl
zero_one types.Uint false = refl
zero_one types.Long false = refl
zero_one types.Ulong false = refl

-- the answer of a test is 0 or 1, and so a value of each type
answer_value : (to t : IntType) (b : Test) → IsValue to (wrap_of t (number_of b))
answer_value to t b = subst (λ z. IsValue to z) (zero_one to b ∙ sym (zero_one t b)) (IsValue-wrap to (number_of b))

pub unary_value : (op : Un) (of : IntType) (a : ℤ) → IsValue (unary_type op of) (unary_of op of a)
unfolding unary_of
unary_value un.Plus of a = IsValue-wrap of (unary_exact un.Plus a)
unary_value un.Minus of a = IsValue-wrap of (unary_exact un.Minus a)
unary_value un.Flip of a = IsValue-wrap of (unary_exact un.Flip a)
unary_value un.Not of a = answer_value types.Int of (Rattle.std.specs.Ordering.int_eq a (pos 0))

pub binary_value : (op : Bin) (of : IntType) (a b : ℤ) → IsValue (binary_type op of) (binary_of op of a b)
unfolding binary_of
binary_value bin.Add of a b = IsValue-wrap of (binary_exact bin.Add of a b)
binary_value bin.Sub of a b = IsValue-wrap of (binary_exact bin.Sub of a b)
binary_value bin.Mul of a b = IsValue-wrap of (binary_exact bin.Mul of a b)
binary_value bin.Div of a b = IsValue-wrap of (binary_exact bin.Div of a b)
binary_value bin.Rem of a b = IsValue-wrap of (binary_exact bin.Rem of a b)
binary_value bin.Shl of a b = IsValue-wrap of (binary_exact bin.Shl of a b)
binary_value bin.Shr of a b = IsValue-wrap of (binary_exact bin.Shr of a b)
binary_value bin.And of a b = IsValue-wrap of (binary_exact bin.And of a b)
binary_value bin.Or of a b = IsValue-wrap of (binary_exact bin.Or of a b)
binary_value bin.Xor of a b = IsValue-wrap of (binary_exact bin.Xor of a b)
binary_value bin.Eq of a b = answer_value types.Int of _
binary_value bin.Ne of a b = answer_value types.Int of _
binary_value bin.Lt of a b = answer_value types.Int of _
binary_value bin.Le of a b = answer_value types.Int of _
binary_value bin.Gt of a b = answer_value types.Int of _
binary_value bin.Ge of a b = answer_value types.Int of _

-- ---- what a launch gives

-- a size is at most the product of all, where that is not 0
size_below : (ns : List ℕ) (d : ℕ) → 0 < product ns → size_at ns d ≤ product ns
size_below [] d some = omega arith
size_below (zero ∷ ns) d some = absurd (omega arith)
size_below (suc n ∷ ns) zero some = by (product ns) some
  where
    by : (p : ℕ) → 0 < suc n * p → suc n ≤ suc n * p
    by zero h = absurd (omega arith)
    by (suc p) h = grind arith
size_below (suc n ∷ ns) (suc d) some = let p = product ns in let less =
    size_below ns d (positive p some) in grind (arith, less)
  where
    positive : (p : ℕ) → 0 < suc n * p → 0 < p
    positive zero h = absurd (omega arith)
    positive (suc p) h = omega arith

-- a group's number times the size, and a number in the group, are below the whole
within_groups : (global local q n : ℕ) → q < global / local → n < local → 0 < local → q * local + n < global
within_groups global local q n lt lt' some =
    let split = div-add-mod' global local in
    let more : (suc q) * local ≤ (global / local) * local = mul-le-mul_right local lt in
    let one : (suc q) * local ≡ q * local + local = suc-mul q local in
    omega (arith, split, more, one, lt')

module _ (program : Program) (launch : Launch) (fits : FitsProgram program launch) (sizes : HasGlobalSizes launch) where
  global_small : (d : ℕ) → size_at launch.global d ≤ 2 ^ 24
  global_small d = let a = size_below launch.global d sizes in let b = fits.item_limit in omega arith

  local_small : (d : ℕ) → d < 3 → size_at launch.local d ≤ size_at launch.global d
  local_small d lt =
      let f = fits.dimensions d lt in
      let some = f.some_global in
      ⊎_elim
      (λ less. absurd (let e = mod-eq_of_lt less ∙ sym refl in let z = f.divides in omega (arith, e, z, some)))
      (λ le. le)
      (cases_lt (size_at launch.global d) (size_at launch.local d))

  groups_some : (d : ℕ) → d < 3 → 0 < groups_at launch d
  groups_some d lt =
      let f = fits.dimensions d lt in
      let one = div-eq-sub-div f.some_local (local_small d lt) in omega (arith, one)

  groups_small : (d : ℕ) → d < 3 → groups_at launch d ≤ size_at launch.global d
  groups_small d lt = div-le_self (size_at launch.global d) (size_at launch.local d)

  pub answer_small : (what : Query) (item d : ℕ) → d < 3 →
      IsValue (query_type what) (pos (answer_within launch item what d))
  answer_small WorkDim item d lt = uint_value launch.dims (let f = fits.few_dims.1 in omega arith)
  answer_small GlobalId item d lt =
      let f = fits.dimensions d lt in
      let gs = mod-lt (group_of launch item / product (take d (Rattle.cl_model.specs.Sizes.groups_of launch)))
      (groups_some d lt) in
      let ls = mod-lt (number_in_group launch item / product (take d launch.local)) f.some_local in
      let inside = within_groups (size_at launch.global d) (size_at launch.local d) (group_id launch item d)
      (local_id launch item d) gs ls f.some_local in
      ulong_value (global_id launch item d) (let g = global_small d in let o = f.offset in omega (arith, inside, g, o))
  answer_small LocalId item d lt =
      let f = fits.dimensions d lt in
      let ls = mod-lt (number_in_group launch item / product (take d launch.local)) f.some_local in
      ulong_value (local_id launch item d) (let g = global_small d in let l = local_small d lt in
      omega (arith, ls, g, l))
  answer_small GroupId item d lt =
      let gs = mod-lt (group_of launch item / product (take d (Rattle.cl_model.specs.Sizes.groups_of launch)))
      (groups_some d lt) in
      ulong_value (group_id launch item d) (let g = global_small d in let l = groups_small d lt in
      omega (arith, gs, g, l))
  answer_small GlobalSize item d lt = ulong_value (size_at launch.global d) (let g = global_small d in omega arith)
  answer_small LocalSize item d lt =
      ulong_value (size_at launch.local d) (let g = global_small d in let l = local_small d lt in omega arith)
  answer_small NumGroups item d lt =
      ulong_value (groups_at launch d) (let g = global_small d in let l = groups_small d lt in omega arith)
  answer_small GlobalOffset item d lt =
      ulong_value (offset_at launch.offset d) (let o = (fits.dimensions d lt).offset in omega arith)

  outside_small : (what : Query) → IsValue (query_type what) (pos (answer_outside launch what))
  outside_small WorkDim = uint_value launch.dims (let f = fits.few_dims.1 in omega arith)
  outside_small GlobalId = ulong_value 0 (omega arith)
  outside_small LocalId = ulong_value 0 (omega arith)
  outside_small GroupId = ulong_value 0 (omega arith)
  outside_small GlobalSize = ulong_value 1 (omega arith)
  outside_small LocalSize = ulong_value 1 (omega arith)
  outside_small NumGroups = ulong_value 1 (omega arith)
  outside_small GlobalOffset = ulong_value 0 (omega arith)

  pub query_value : (what : Query) (item : ℕ) (dim : ℤ) → IsValue (query_type what) (answer_of launch item what dim)
  query_value what item (negsuc d) = outside_small what
  query_value what item (pos d) = go (nat_lt d 3) refl
    where
      go : (b : Test) → nat_lt d 3 ≡ b →
          IsValue (query_type what) (pos (cond b (answer_within launch item what d) (answer_outside launch what)))
      go true e = answer_small what item d (ltb-true d 3 e)
      go false e = outside_small what

-- what is bound to a parameter is a value of its type
argument_typed : (launch : Launch) (kinds : List VarKind) (args : List Bound) (n : ℕ) (t : IntType) →
    ArgumentsFit launch kinds args → type_of_parameter (slice_get kinds n) ≡ Some t →
    IsValue t (argument_value (slice_get args n))
argument_typed launch [] [] n t f e = absurd (none-some t e)
argument_typed launch [] (b ∷ args) n t f e = absurd f
argument_typed launch (kind ∷ kinds) [] n t f e = absurd f
argument_typed launch (kind ∷ kinds) (b ∷ args) (suc n) t f e = argument_typed launch kinds args n t f.1 e
argument_typed launch (kind ∷ kinds) (b ∷ args) zero t f e =
    subst (λ u. IsValue u (argument_value (Some b))) (same_Some _ _ e) (by kind b f.0)
  where
    by : (kind : VarKind) (b : Bound) → ArgumentFits launch kind b → IsValue (kind_type kind) (argument_value (Some b))
    by (Scalar u) (bound.Value v) h = h
    by (Scalar u) (bound.Buffer k) h = absurd h
    by (Scalar u) (bound.Local k) h = absurd h
    by (Pointer at element root) b h = pointer at element root b h
      where
        pointer : (at : _) (element : IntType) (root : _) (b : Bound) →
            ArgumentFits launch (Pointer at element root) b → IsValue types.Long (argument_value (Some b))
        pointer at element root (bound.Buffer k) h = zero_value types.Long
        pointer at element root (bound.Local k) h = zero_value types.Long
        pointer space.Global element root (bound.Value v) h = absurd h
        pointer space.Constant element root (bound.Value v) h = absurd h
        pointer space.Local element root (bound.Value v) h = absurd h
        pointer space.Private element root (bound.Value v) h = absurd h

-- ---- atoms and lines

pub atom_typed : (kernel : Kernel) (cells : ℕ → ℤ) (a : Atom) (t : IntType) → HoldTypes kernel cells →
    atom_type kernel a ≡ Some t → IsValue t (atom_value cells a)
atom_typed kernel cells (CellAtom c) t holds e = holds c t (sym (type_of_is kernel c) ∙ e)
atom_typed kernel cells (Const value of) t holds e = go (is_value of value) refl e
  where
    go : (b : Test) → is_value of value ≡ b → cond b (Some of) None ≡ Some t → IsValue t value
    go true v h = subst (λ u. IsValue u value) (same_Some of t h) (is_value_is of value v)
    go false v h = absurd (none-some t h)

-- a cell that is set to a value of its type
pub set_typed : (kernel : Kernel) (i : Item) (tasks : Tasks) (to : ℕ) (t : IntType) (v : ℤ) → HoldTypes kernel i.cells →
    cell_takes kernel to (Some t) ≡ true → IsValue t v → HoldTypes kernel (with_cell i tasks to v).cells
set_typed kernel i tasks to t v holds takes is c of e = go (nat_eq to c) refl
  where
    go : (b : Test) → nat_eq to c ≡ b → IsValue of (cond b v (i.cells c))
    go true same =
        let here : type_of kernel to ≡ Some t = sym (type_of_is kernel to) ∙ has_type_is t _ takes in
        let is_of : t ≡ of = same_Some t of (sym here ∙ ap (type_of kernel) (eqb-true to c same) ∙ e) in
        subst (λ u. IsValue u v) is_of is
    go false ne = holds c of e

pub cell_type_there : (kernel : Kernel) (to : ℕ) (o : Option IntType) → cell_takes kernel to o ≡ true →
    (t : IntType) × (o ≡ Some t)
cell_type_there kernel to None h = absurd (true≢false (sym h))
cell_type_there kernel to (Some t) h = (t, refl)

module _ (kernel : Kernel) (launch : Launch) (fits : FitsProgram (shell_of kernel) launch)
    (sizes : HasGlobalSizes launch)
  where
    pub work_typed : (i : Item) (work : Work) (t : IntType) → HoldTypes kernel i.cells → work_fits kernel work ≡ true →
        work_type kernel work ≡ Some t → IsValue t (work_value launch i work)
    work_typed i (Unary op of a) t holds f e =
        subst (λ u. IsValue u (unary_of op of (atom_value i.cells a))) (same_Some _ _ e)
        (unary_value op of (atom_value i.cells a))
    work_typed i (Binary op of a b) t holds f e =
        subst (λ u. IsValue u (binary_of op of (atom_value i.cells a) (atom_value i.cells b))) (same_Some _ _ e)
        (binary_value op of (atom_value i.cells a) (atom_value i.cells b))
    work_typed i (Builtin g of args) t holds f e =
        subst (λ u. IsValue u (work_value launch i (Builtin g of args))) (same_Some _ _ e) (IsValue-builtin g of _ _ _)
    work_typed i (Convert to a) t holds f e =
        subst (λ u. IsValue u (wrap_of to (atom_value i.cells a))) (same_Some _ _ e)
        (IsValue-wrap to (atom_value i.cells a))
    work_typed i (Ask what dim) t holds f e =
        subst (λ u. IsValue u (answer_of launch i.number what (atom_value i.cells dim))) (same_Some _ _ e)
        (query_value (shell_of kernel) launch fits sizes what i.number (atom_value i.cells dim))
    work_typed i (Argument number) t holds f e =
        argument_typed launch kernel.params launch.args number t (subst (λ kinds. ArgumentsFit launch kinds launch.args)
        (take-length kernel.params) fits.arguments) e
    work_typed i (Copy a) t holds f e = atom_typed kernel i.cells a t holds e
