-- Items of one group name one object by a pointer to constant memory, at the kernel and in each call, and load one
-- value from it.
use Rattle.std.proofs.Common.{◌≡◌, ℕ, zero, suc, ℤ, true, List, [], ◌∷◌, length, Option, Some, None, slice_get, inl}
use Rattle.std.proofs.Common.{inr, refl, sym, ap, ◌∙◌, subst}
use Rattle.std.proofs.lemmas.Bool.{eq-eqb, lt-ltb}
use Rattle.std.proofs.lemmas.Option.{slice_get_within}
use Rattle.wg_num.specs.declared.types.IntType.{IntType}
use Rattle.wg_num.specs.Bytes.{size_of, value_of_bytes}
use Rattle.work_items.specs.Memory.{Access, loaded}
use Rattle.cl_model.specs.declared.program.Space.{Space}
use Rattle.cl_model.specs.declared.program.Space.TheVariants as space
use Rattle.cl_model.specs.declared.program.Root.{Root}
use Rattle.cl_model.specs.declared.program.Root.TheVariants.{Param, Constant, Local, Private}
use Rattle.cl_model.specs.declared.program.VarKind.{VarKind}
use Rattle.cl_model.specs.declared.program.VarKind.TheVariants.{Scalar, Pointer}
use Rattle.cl_model.specs.declared.launch.Bound.{Bound}
use Rattle.cl_model.specs.declared.launch.Bound.TheVariants as bound
use Rattle.cl_model.specs.Tree.{Load, Apply, Call, Expressions, Function, Program}
use Rattle.cl_model.specs.Lists.{IsOneOf}
use Rattle.cl_model.specs.Sizes.{Launch, group_of}
use Rattle.cl_model.specs.Calls.{function_at, kernel_of}
use Rattle.cl_model.specs.Objects.{IsConstant, a_table, a_buffer, is_buffer, is_constant_pointer, object_of}
use Rattle.cl_model.specs.Objects.{argument_object, start_memory}
use Rattle.cl_model.specs.Task.{Frame}
use Rattle.cl_model.specs.Meaning.{kernel_frame}
use Rattle.cl_model.specs.Valid.{parameter_kinds, RootIs, CanLoad, ActionFits, ArgumentsFit, IsValid}
use Rattle.cl_model.specs.Fitting.{FitsProgram}
use Rattle.cl_model.specs.Fitting.{ArgumentFits as BoundFits, ArgumentsFit as BoundsFit}
use Rattle.cl_model.specs.Varying.{expressions_of_list, is_constant_root}
use Rattle.diverge_sound.proofs.Deep.{IsEntered, MayGive}
use Rattle.diverge_sound.proofs.Nesting.{typed_of_all, typed_body}

-- a root that may lead to constant memory does
root_constant : (program : Program) (f : Function) (root : Root) (at : Space) (element : IntType) →
    RootIs program f root at element → is_constant_root f root ≡ true → at ≡ space.Constant
root_constant program f (Param n) at element is c = by_space at (subst (λ o. is_constant_pointer o ≡ true) is.1 c)
  where
    by_space : (at : Space) → is_constant_pointer (Some (Pointer at element is.0)) ≡ true → at ≡ space.Constant
    by_space space.Global h = cc h
    by_space space.Constant h = refl
    by_space space.Local h = cc h
    by_space space.Private h = cc h
root_constant program f (Constant n) at element is c = is.3
root_constant program f (Local n) at element is c = cc c
root_constant program f (Private n) at element is c = cc c

can_load : (program : Program) (f : Function) (site : ℕ) (element : IntType) (root : Root) (ts : List IntType)
    (t : IntType) → ActionFits program f (Load site element root) ts t → CanLoad program f root element
can_load program f site element root [] t h = absurd h
can_load program f site element root (i ∷ []) t h = h.1
can_load program f site element root (i ∷ a ∷ ts) t h = absurd h

-- to a parameter that points to constant memory a root that does is passed
passes_constant : (program : Program) (f : Function) (kinds : List VarKind) (roots : List (Option Root))
    (ts : List IntType) → ArgumentsFit program f kinds roots ts → (n : ℕ) →
    is_constant_pointer (slice_get kinds n) ≡ true
    → (root : Root) × (element : IntType) × (slice_get roots n ≡ Some (Some root)) ×
    RootIs program f root space.Constant element
passes_constant program f [] roots ts h n c = cc c
passes_constant program f (Pointer space.Constant element own ∷ kinds) (Some root ∷ roots) (t ∷ ts) h zero c =
    (root, element, refl, h.1)
passes_constant program f (Pointer space.Global element own ∷ kinds) (Some root ∷ roots) (t ∷ ts) h zero c = cc c
passes_constant program f (Pointer space.Local element own ∷ kinds) (Some root ∷ roots) (t ∷ ts) h zero c = cc c
passes_constant program f (Pointer space.Private element own ∷ kinds) (Some root ∷ roots) (t ∷ ts) h zero c = cc c
passes_constant program f (Scalar s ∷ kinds) (None ∷ roots) (t ∷ ts) h zero c = cc c
passes_constant program f (Pointer at element own ∷ kinds) (Some root ∷ roots) (t ∷ ts) h (suc n) c =
    passes_constant program f kinds roots ts h.2 n c
passes_constant program f (Scalar s ∷ kinds) (None ∷ roots) (t ∷ ts) h (suc n) c =
    passes_constant program f kinds roots ts h.1 n c
passes_constant program f (Scalar s ∷ kinds) [] ts h n c = absurd h
passes_constant program f (Scalar s ∷ kinds) (Some root ∷ roots) ts h n c = absurd h
passes_constant program f (Scalar s ∷ kinds) (None ∷ roots) [] h n c = absurd h
passes_constant program f (Pointer at element own ∷ kinds) [] ts h n c = absurd h
passes_constant program f (Pointer at element own ∷ kinds) (None ∷ roots) ts h n c = absurd h
passes_constant program f (Pointer at element own ∷ kinds) (Some root ∷ roots) [] h n c = absurd h

-- a buffer is bound to it in the kernel
bound_constant : (launch : Launch) (kinds : List VarKind) (args : List Bound) → BoundsFit launch kinds args →
    (n : ℕ) → is_constant_pointer (slice_get kinds n) ≡ true → (b : ℕ) × (slice_get args n ≡ Some (bound.Buffer b))
bound_constant launch [] args h n c = cc c
bound_constant launch (kind ∷ kinds) [] h n c = absurd h
bound_constant launch (kind ∷ kinds) (a ∷ args) h (suc n) c = bound_constant launch kinds args h.1 n c
bound_constant launch (kind ∷ kinds) (a ∷ args) h zero c = here kind a h.0 c
  where
    here : (kind : VarKind) (a : Bound) → BoundFits launch kind a → is_constant_pointer (Some kind) ≡ true →
        (b : ℕ) × (◌≡◌ {A = Option Bound} (Some a) (Some (bound.Buffer b)))
    here (Pointer space.Constant element root) (bound.Buffer b) f c = (b, refl)
    here (Pointer space.Constant element root) (bound.Value v) f c = absurd f
    here (Pointer space.Constant element root) (bound.Local n) f c = absurd f
    here (Pointer space.Global element root) a f c = cc c
    here (Pointer space.Local element root) a f c = cc c
    here (Pointer space.Private element root) a f c = cc c
    here (Scalar t) a f c = cc c

module _ (program : Program) (launch : Launch) (buffers : List (List ℕ)) (valid : IsValid program) where
  -- two frames of a function name one constant object by each parameter that points to constant memory
  abbrev pub SameConstants : ℕ → Frame → Frame → Type 0
  SameConstants g top top' = (n : ℕ) → is_constant_pointer (slice_get (parameter_kinds (function_at program g)) n) ≡
      true → (top.objects n ≡ top'.objects n) × IsConstant program launch (top.objects n)

  constant_object : (f number number' : ℕ) (frame frame' : Frame) (root : Root) (element : IntType) →
      SameConstants f frame frame' → RootIs program (function_at program f) root space.Constant element
      → (object_of program launch number frame.path frame.objects root ≡ object_of program launch number' frame'.path
      frame'.objects root) × IsConstant program launch (object_of program launch number frame.path frame.objects
      root)
  constant_object f number number' frame frame' (Param n) element same is = same n (ap is_constant_pointer is.1)
  constant_object f number number' frame frame' (Constant n) element same is =
      (refl, a_table n (lt-ltb n (length program.tables) (slice_get_within _ n is.0 is.1)) refl)
  constant_object f number number' frame frame' (Local n) element same is =
      absurd (let e : space.Constant ≡ space.Local = is.4 in cc e)
  constant_object f number number' frame frame' (Private n) element same is =
      absurd (let e : space.Constant ≡ space.Private = is.4 in cc e)

  -- loads from constant memory at one index give one value
  pub loads_alike : (f number number' : ℕ) (frame frame' : Frame) → SameConstants f frame frame' →
      (site : ℕ) (element : IntType) (root : Root) (es : Expressions) →
      IsOneOf (expressions_of_list (function_at program f).body) (Apply (Load site element root) es)
      → (i x x' : ℤ) → is_constant_root (function_at program f) root ≡ true →
      MayGive program launch buffers number frame root element i x →
      MayGive program launch buffers number' frame' root element i x' → x ≡ x'
  loads_alike f number number' frame frame' same site element root es m i x x' c (bytes, told, e) (bytes', told', e') =
      elim (typed_of_all program (function_at program f) (function_at program f).body (typed_body program valid f)
      (Apply (Load site element root) es) (λ y d q. cc q) m) [
        | inr p ↦ absurd p
        | inl (t, (ts, have, fit)) ↦
            let (at, is) = can_load program (function_at program f) site element root ts t fit in
            let o = constant_object f number number' frame frame' root element same
            (subst (λ a. RootIs program (function_at program f) root a element)
            (root_constant program (function_at program f) root at element is c) is) in
            let access : ℕ → Access = λ n. record { object = n; size = size_of element; index = i } in
            let there : IsConstant program launch (object_of program launch number' frame'.path frame'.objects root) =
            subst (IsConstant program launch) o.0 o.1 in
            e ∙ ap (value_of_bytes element) (told o.1 ∙
            ap (λ n. loaded (start_memory program launch buffers) (access n)) o.0 ∙ sym (told' there)) ∙ sym e'
      ]

  -- calls pass constant objects that are equal
  pub entered_same : (f number number' : ℕ) (frame frame' : Frame) → SameConstants f frame frame' →
      (site g : ℕ) (roots : List (Option Root)) (es : Expressions) →
      IsOneOf (expressions_of_list (function_at program f).body) (Call site g roots es)
      → (args args' : List ℤ) (top top' : Frame) → IsEntered program launch number frame g roots args top →
      IsEntered program launch number' frame' g roots args' top' → SameConstants g top top'
  entered_same f number number' frame frame' same site g roots es m args args' top top' en en' n c =
      let fit : (ts : List IntType) ×
      ArgumentsFit program (function_at program f) (parameter_kinds (function_at program g)) roots ts =
      elim (typed_of_all program (function_at program f) (function_at program f).body (typed_body program valid f)
      (Call site g roots es) (λ y d q. cc q) m) [ inl h ↦ (h.1.1.0, h.1.1.2) | inr h ↦ (h.1.0, h.1.2) ] in
      let (root, element, e, is) = passes_constant program (function_at program f)
      (parameter_kinds (function_at program g)) roots fit.0 fit.1 n c in
      let o = constant_object f number number' frame frame' root element same is in (
        en.objects n root e ∙ o.0 ∙ sym (en'.objects n root e),
        subst (IsConstant program launch) (sym (en.objects n root e)) o.1,
      )

  -- and so do the frames of the kernel, in one group
  pub kernel_same : FitsProgram program launch → (one other : ℕ) → group_of launch one ≡ group_of launch other →
      SameConstants program.kernel (kernel_frame program launch one) (kernel_frame program launch other)
  kernel_same fits one other same n c =
      let (b, e) = bound_constant launch (parameter_kinds (kernel_of program)) launch.args fits.arguments n c in
      let is : b ≡ argument_object program launch (group_of launch one) n (slice_get launch.args n) =
      sym (ap (λ o. argument_object program launch (group_of launch one) n o) e) in (
        ap (λ g. argument_object program launch g n (slice_get launch.args n)) same,
        a_buffer n c (ap (λ o. is_buffer o (argument_object program launch (group_of launch one) n
            (slice_get launch.args n))) e ∙ eq-eqb b _ is),
      )
