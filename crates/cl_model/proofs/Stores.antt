-- No item of a valid program stores to constant memory.
use Rattle.std.proofs.Common.{◌≡◌, ◌≢◌, ℕ, zero, suc, ◌+◌, ◌<◌, List, [], ◌∷◌, length, Option, Some, None, true}
use Rattle.std.proofs.Common.{slice_get, refl, sym, ap, ◌∙◌, subst, arith}
use Rattle.std.proofs.lemmas.Bool.{eqb-true, ltb-true}
use Rattle.std.proofs.lemmas.Option.{none-some, same_Some}
use Rattle.wg_num.specs.declared.types.IntType.{IntType}
use Rattle.cl_model.specs.declared.program.Space.{Space}
use Rattle.cl_model.specs.declared.program.Space.TheVariants as space
use Rattle.cl_model.specs.declared.program.Root.{Root}
use Rattle.cl_model.specs.declared.program.Root.TheVariants.{Param, Constant, Local, Private}
use Rattle.cl_model.specs.declared.program.VarKind.{VarKind}
use Rattle.cl_model.specs.declared.program.VarKind.TheVariants.{Scalar, Pointer}
use Rattle.cl_model.specs.declared.launch.Bound.{Bound}
use Rattle.cl_model.specs.declared.launch.Bound.TheVariants as bound
use Rattle.cl_model.specs.Tree.{Program}
use Rattle.cl_model.specs.Sizes.{Launch, group_of}
use Rattle.cl_model.specs.Calls.{function_at, kernel_of}
use Rattle.cl_model.specs.Objects.{IsConstant, a_table, a_buffer, is_buffer, is_constant_pointer, object_of}
use Rattle.cl_model.specs.Objects.{first_table, first_local, first_private, local_arrays, private_arrays, place_among}
use Rattle.cl_model.specs.Objects.{argument_object, kernel_objects}
use Rattle.cl_model.specs.Valid.{parameter_kinds, RootIs}
use Rattle.cl_model.specs.Fitting.{ArgumentFits, ArgumentsFit, FitsProgram}

-- each buffer that is bound is there
bound_within : (launch : Launch) (kinds : List VarKind) (args : List Bound) → ArgumentsFit launch kinds args →
    (n b : ℕ) → slice_get args n ≡ Some (bound.Buffer b) → b < length launch.lengths
bound_within launch [] [] f n b e = absurd (none-some _ e)
bound_within launch [] (a ∷ args) f n b e = absurd f
bound_within launch (kind ∷ kinds) [] f n b e = absurd f
bound_within launch (kind ∷ kinds) (a ∷ args) f zero b e = here kind a f.0 (same_Some a (bound.Buffer b) e)
  where
    buffer_here : (kind : VarKind) → ArgumentFits launch kind (bound.Buffer b) → b < length launch.lengths
    buffer_here (Scalar t) h = absurd h
    buffer_here (Pointer space.Global element root) h = h
    buffer_here (Pointer space.Constant element root) h = h
    buffer_here (Pointer space.Local element root) h = absurd h
    buffer_here (Pointer space.Private element root) h = absurd h

    here : (kind : VarKind) (a : Bound) → ArgumentFits launch kind a → a ≡ bound.Buffer b → b < length launch.lengths
    here kind a h same = buffer_here kind (subst (λ x. ArgumentFits launch kind x) same h)
bound_within launch (kind ∷ kinds) (a ∷ args) f (suc n) b e = bound_within launch kinds args f.1 n b e

module _ (program : Program) (launch : Launch) (fits : FitsProgram program launch) where
  -- constant memory comes before all local and private objects
  pub constant_before : (object : ℕ) → IsConstant program launch object →
      object < first_table launch + length program.tables
  constant_before object (a_table n within is) = let lt =
      ltb-true n (length program.tables) within in omega (arith, lt, is)
  constant_before object (a_buffer parameter c is) = by_bound (slice_get launch.args parameter) refl is
    where
      by_bound : (o : Option Bound) → slice_get launch.args parameter ≡ o → is_buffer o object ≡ true →
          object < first_table launch + length program.tables
      by_bound None e f = cc f
      by_bound (Some (bound.Buffer b)) e f =
          let same = eqb-true b object f in
          let lt = bound_within launch (parameter_kinds (kernel_of program)) launch.args fits.arguments parameter b e in
          omega (arith, same, lt)
      by_bound (Some (bound.Value v)) e f = cc f
      by_bound (Some (bound.Local n)) e f = cc f

  -- a group's local objects come before all private ones
  local_behind : (group object : ℕ) → first_local program launch group + object < first_table launch +
      length program.tables → ⊥
  local_behind group object h = omega (arith, h)

  private_behind : (item object : ℕ) → first_private program launch item + object < first_table launch +
      length program.tables → ⊥
  private_behind item object h = omega (arith, h)

  -- the parameters of an instance that point to other than constant memory name no constant object
  abbrev pub ObjectsFit : ℕ → (ℕ → ℕ) → Type 0
  ObjectsFit f objects =
      (n : ℕ) (at : Space) (element : IntType) (own : Root) → slice_get (parameter_kinds (function_at program f)) n ≡
      Some (Pointer at element own) → at ≢ space.Constant
      → IsConstant program launch (objects n) → ⊥

  -- nor does a root that leads to other than constant memory
  pub root_apart : (item f : ℕ) (path : List ℕ) (objects : ℕ → ℕ) (root : Root) (at : Space) (element : IntType) →
      ObjectsFit f objects → RootIs program (function_at program f) root at element → at ≢ space.Constant
      → IsConstant program launch (object_of program launch item path objects root) → ⊥
  root_apart item f path objects (Param n) at element fit is ne c = fit n at element is.0 is.1 ne c
  root_apart item f path objects (Constant n) at element fit is ne c = ne is.3
  root_apart item f path objects (Local n) at element fit is ne c =
      local_behind (group_of launch item) (place_among (local_arrays program) path n) (constant_before _ c)
  root_apart item f path objects (Private n) at element fit is ne c =
      private_behind item (place_among (private_arrays program) path n) (constant_before _ c)

  -- an object of private memory is never constant
  pub private_apart : (item : ℕ) (path : List ℕ) (objects : ℕ → ℕ) (n : ℕ) →
      IsConstant program launch (object_of program launch item path objects (Private n)) → ⊥
  private_apart item path objects n c =
      private_behind item (place_among (private_arrays program) path n) (constant_before _ c)

  -- the kernel's parameters fit
  pub kernel_fits : (item : ℕ) → ObjectsFit program.kernel (kernel_objects program launch item)
  kernel_fits item n at element own kind ne c = by_bound (slice_get launch.args n) refl at kind ne c
    where
      local_argument : (k : ℕ) → IsConstant program launch (first_local program launch (group_of launch item) +
          length (local_arrays program) + k) → ⊥
      local_argument k c = let h = constant_before _ c in omega (arith, h)

      -- a buffer that is bound to a global parameter is not constant
      global_apart : (b : ℕ) → slice_get launch.args n ≡ Some (bound.Buffer b) →
          slice_get (parameter_kinds (kernel_of program)) n ≡ Some (Pointer space.Global element own) →
          IsConstant program launch b → ⊥
      global_apart b e k (a_table m within is) = let lt =
          bound_within launch (parameter_kinds (kernel_of program)) launch.args fits.arguments n b e in
          omega (arith, lt, is)
      global_apart b e k (a_buffer parameter c is) = by_other (slice_get launch.args parameter) refl is
        where
          by_kind : (o : Option VarKind) → slice_get (parameter_kinds (kernel_of program)) parameter ≡ o →
              is_constant_pointer o ≡ true → slice_get launch.args parameter ≡ Some (bound.Buffer b) → ⊥
          by_kind None d g h = cc g
          by_kind (Some (Scalar t)) d g h = cc g
          by_kind (Some (Pointer space.Global element' root')) d g h = cc g
          by_kind (Some (Pointer space.Constant element' root')) d g h =
              fits.apart parameter n b element' element root' own d h k e
          by_kind (Some (Pointer space.Local element' root')) d g h = cc g
          by_kind (Some (Pointer space.Private element' root')) d g h = cc g

          by_other : (o : Option Bound) → slice_get launch.args parameter ≡ o → is_buffer o b ≡ true → ⊥
          by_other None d f = cc f
          by_other (Some (bound.Buffer b')) d f =
              by_kind (slice_get (parameter_kinds (kernel_of program)) parameter) refl c (d ∙
              ap (λ x. Some (bound.Buffer x)) (eqb-true b' b f))
          by_other (Some (bound.Value v)) d f = cc f
          by_other (Some (bound.Local m)) d f = cc f

      by_space : (b : ℕ) → slice_get launch.args n ≡ Some (bound.Buffer b) → (at : Space) →
          slice_get (parameter_kinds (kernel_of program)) n ≡ Some (Pointer at element own) → at ≢ space.Constant →
          IsConstant program launch b → ⊥
      by_space b e space.Global k ne c = global_apart b e k c
      by_space b e space.Constant k ne c = ne refl
      by_space b e space.Local k ne c = kind_of (parameter_kinds (kernel_of program)) launch.args n b fits.arguments k e
        where
          kind_of : (kinds : List VarKind) (args : List Bound) (n b : ℕ) → ArgumentsFit launch kinds args →
              slice_get kinds n ≡ Some (Pointer space.Local element own) → slice_get args n ≡ Some (bound.Buffer b) → ⊥
          kind_of [] args n b f k e = none-some _ k
          kind_of (kind ∷ kinds) [] n b f k e = none-some _ e
          kind_of (kind ∷ kinds) (a ∷ args) zero b f k e =
              subst (λ x. ArgumentFits launch x (bound.Buffer b)) (same_Some kind _ k)
              (subst (λ x. ArgumentFits launch kind x) (same_Some a _ e) f.0)
          kind_of (kind ∷ kinds) (a ∷ args) (suc n) b f k e = kind_of kinds args n b f.1 k e
      by_space b e space.Private k ne c =
          kind_of (parameter_kinds (kernel_of program)) launch.args n b fits.arguments k e
        where
          kind_of : (kinds : List VarKind) (args : List Bound) (n b : ℕ) → ArgumentsFit launch kinds args →
              slice_get kinds n ≡ Some (Pointer space.Private element own) →
              slice_get args n ≡ Some (bound.Buffer b) → ⊥
          kind_of [] args n b f k e = none-some _ k
          kind_of (kind ∷ kinds) [] n b f k e = none-some _ e
          kind_of (kind ∷ kinds) (a ∷ args) zero b f k e =
              subst (λ x. ArgumentFits launch x (bound.Buffer b)) (same_Some kind _ k)
              (subst (λ x. ArgumentFits launch kind x) (same_Some a _ e) f.0)
          kind_of (kind ∷ kinds) (a ∷ args) (suc n) b f k e = kind_of kinds args n b f.1 k e

      -- a pointer has a buffer or local memory
      no_other : (kinds : List VarKind) (args : List Bound) (n : ℕ) (at : Space) → ArgumentsFit launch kinds args →
          slice_get kinds n ≡ Some (Pointer at element own) → (o : Option Bound) → slice_get args n ≡ o →
          ((b : ℕ) → o ≡ Some (bound.Buffer b) → ⊥) → ((m : ℕ) → o ≡ Some (bound.Local m) → ⊥) → ⊥
      no_other [] args n at f k o e nb nl = none-some _ k
      no_other (kind ∷ kinds) [] n at f k o e nb nl = f
      no_other (kind ∷ kinds) (a ∷ args) zero at f k o e nb nl =
          by_argument a at (subst (λ x. ArgumentFits launch x a) (same_Some kind _ k) f.0) e
        where
          by_argument : (a : Bound) (at : Space) → ArgumentFits launch (Pointer at element own) a → Some a ≡ o → ⊥
          by_argument (bound.Buffer b) at h e = nb b (sym e)
          by_argument (bound.Local m) at h e = nl m (sym e)
          by_argument (bound.Value v) space.Global h e = h
          by_argument (bound.Value v) space.Constant h e = h
          by_argument (bound.Value v) space.Local h e = h
          by_argument (bound.Value v) space.Private h e = h
      no_other (kind ∷ kinds) (a ∷ args) (suc n) at f k o e nb nl = no_other kinds args n at f.1 k o e nb nl

      by_bound : (o : Option Bound) → slice_get launch.args n ≡ o → (at : Space) →
          slice_get (parameter_kinds (kernel_of program)) n ≡ Some (Pointer at element own) → at ≢ space.Constant
          → IsConstant program launch (argument_object program launch (group_of launch item) n
          (slice_get launch.args n)) → ⊥
      by_bound (Some (bound.Buffer b)) e at k ne c =
          by_space b e at k ne (subst (λ o.
          IsConstant program launch (argument_object program launch (group_of launch item) n o)) e c)
      by_bound (Some (bound.Local m)) e at k ne c =
          local_argument _ (subst (λ o. IsConstant program launch
          (argument_object program launch (group_of launch item) n o)) e c)
      by_bound None e at k ne c = no_other (parameter_kinds (kernel_of program)) launch.args n at fits.arguments k
          None e (λ b f. none-some _ f) (λ m f. none-some _ f)
      by_bound (Some (bound.Value v)) e at k ne c =
          no_other (parameter_kinds (kernel_of program)) launch.args n at fits.arguments k (Some (bound.Value v)) e
          (λ b f. cc f) (λ m f. cc f)
