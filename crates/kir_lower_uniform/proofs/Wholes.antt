-- The kernel that a program is lowered to is even in the cells of the variables that do not vary.
use Rattle.std.proofs.Common.{◌≡◌, ℕ, zero, suc, ◌+◌, ◌<◌, ◌≤◌, pos, List, [], ◌∷◌, length, Option, Some, None}
use Rattle.std.proofs.Common.{slice_get, unwrap_or, refl, sym, ap, ◌∙◌, subst, arith}
use Rattle.std.proofs.Common.{true, false}
use Rattle.std.proofs.lemmas.Bool.{lt-ltb}
use Rattle.std.proofs.lemmas.Option.{same_Some, slice_get_within}
use Rattle.wg_num.specs.declared.types.IntType.{IntType}
use Rattle.cl_model.specs.declared.program.Space.TheVariants as space
use Rattle.cl_model.specs.declared.program.Root.{Root}
use Rattle.cl_model.specs.declared.program.Root.TheVariants.{Param, Constant, Local, Private}
use Rattle.cl_model.specs.declared.program.VarKind.{VarKind}
use Rattle.cl_model.specs.declared.program.VarKind.TheVariants.{Scalar, Pointer}
use Rattle.cl_model.specs.Tree.{Program, Function}
use Rattle.cl_model.specs.Calls.{function_at, kernel_of}
use Rattle.cl_model.specs.Objects.{is_constant_pointer}
use Rattle.cl_model.specs.Valid.{IsValid, CallsEnd, CanLoad, RootIs, ArgumentsFit, parameter_kinds}
use Rattle.cl_model.specs.Varying.{AVariable, AResult, Varies}
use Rattle.cl_model.specs.Varying as varying
use Rattle.kir.specs.Tree.{OfValue, Kernel, Variable, Cell}
use Rattle.kir.specs.Live.{live_in}
use Rattle.kir.specs.Steps.{atom_value}
use Rattle.kir.specs.Homes.{IsOf}
use Rattle.kir.specs.Lowering.{Named, IsEvenWhereSteady}
use Rattle.kir_lower.specs.Made.{Made, Instance, next_cell, root_in, argument_roots, variable_cells}
use Rattle.kir_lower.specs.Ways.{way_out_of_all}
use Rattle.kir_lower.specs.Actions.{opened}
use Rattle.kir_lower.specs.Code.{result_code, body_code}
use Rattle.kir_lower.specs.Whole.{Way, names_at, way_behind, instance_at, with_instance, parameter_lines, call_code}
use Rattle.kir_lower.specs.Whole.{bound_lines, own_roots, kernel_way, nothing_made, lowered_of}
use Rattle.kir_uniform.specs.Uniform.{is_constant_root}
use Rattle.kir_uniform.specs.Does.{Who}
use Rattle.kir_uniform.proofs.Alike.{AreFellows}
use Rattle.diverge_sound.proofs.Nesting.{callee_ends, ends_deeper, least_depth}
use Rattle.kir_lower_shape.specs.Names.{AreNamed}
use Rattle.kir_lower_shape.proofs.Variables.{cell_named, get_behind, get_there, variable_at}
use Rattle.kir_lower_shape.proofs.Arguments.{call_goes, length_take}
use Rattle.kir_lower_shape.proofs.Below.{valid_any}
use Rattle.kir_lower_shape.proofs.AbsentCode.{opened_up, list_up}
use Rattle.kir_lower_shape.proofs.AbsentCalls.{calls_up, instance_cells}
use Rattle.kir_lower_shape.proofs.Starts.{calls_quiet}
use Rattle.kir_lower_shape.proofs.Absent.{next_more}
use Rattle.kir_lower_uniform.specs.Together.{Anything, Together}
use Rattle.kir_lower_uniform.proofs.Places.{together_then, even_if_together}
use Rattle.kir_lower_uniform.proofs.Rules.{together_seq}
use Rattle.kir_lower_uniform.proofs.Ground.{Even, Grown, grown_before, value_not_even, back_value, CallsBack, list_back}
use Rattle.kir_lower_uniform.proofs.Ground.{opened_back}
use Rattle.kir_lower_uniform.proofs.Fresh.{AtomIn, atom_within, CallsFresh}
use Rattle.kir_lower_uniform.proofs.Setting.{CallsTogether, Setting}
use Rattle.kir_lower_uniform.proofs.Bodies.{calls_unset, parameters_together, bound_together, body_together}

module _ (program : Program) (names : List (List Named)) (kernel : Kernel) (valid : IsValid program)
    (named : AreNamed program names) (tables : kernel.tables ≡ program.tables) where
  E : ℕ → Type 0
  E = Even program kernel

  -- what calls make stays
  calls_back : (depth : ℕ) → CallsBack program kernel (call_code program names depth)
  calls_back depth here site function roots values m g = let h =
      call_goes program names depth here site function roots values m in grown_before program kernel m _ h.0 h.1 g

  -- ---- the cells of an instance

  module _ (way : Way) (g : ℕ) (m : Made)
      (grown : Grown program kernel (with_instance way (names_at names g) (function_at program g) m))
      (path : way.function ≡ g) where
    pub there : (x : ℕ) → x < length (function_at program g).variables → (name : Named) × (kind : VarKind) ×
        (slice_get kernel.cells (next_cell m + x) ≡ Some (cell_named way.calls way.places way.function x name kind))
    there x less =
        let same = named g in
        let name = get_there (names_at names g) x (omega (arith, less, same)) in
        let kind = get_there (function_at program g).variables x less in
        let at = variable_at way.calls way.places way.function 0 (names_at names g) (function_at program g).variables
        x name.0 kind.0 name.1 kind.1 in
        let zero_x : 0 + x ≡ x = omega arith in (
          name.0,
          kind.0,
          grown.cells (next_cell m + x) (cell_named way.calls way.places way.function x name.0 kind.0)
              (get_behind m.cells (variable_cells way.calls way.places way.function 0 (names_at names g)
              (function_at program g).variables) x ∙
              (at ∙ ap (λ z. Some (cell_named way.calls way.places way.function z name.0 kind.0)) zero_x)),
        )

    own_marked : (x : ℕ) → x < length (function_at program g).variables → Even program kernel (next_cell m + x) →
        Varies program (AVariable g x) → ⊥
    own_marked x less e v =
        let t = there x less in
        let cell = cell_named way.calls way.places way.function x t.0 t.1 in
        let same : e.cell.cell ≡ cell = same_Some e.cell.cell cell (sym e.cell.there ∙ t.2) in
        let is : record { calls = way.calls; function = way.function; number = x } ≡ e.variable =
        subst (λ (z : Cell). IsOf e.variable z.kind) same e.cell.is_of in
        e.steady (subst (λ (z : Variable). Varies program (AVariable z.function z.number)) is
        (subst (λ z. Varies program (AVariable z x)) (sym path) v))

    own_even : (x : ℕ) → x < length (function_at program g).variables → (Varies program (AVariable g x) → ⊥) →
        Even program kernel (next_cell m + x)
    own_even x less nv =
        let t = there x less in
        record {
          variable = record { calls = way.calls; function = way.function; number = x };
          cell = record { cell = cell_named way.calls way.places way.function x t.0 t.1; there = t.2; is_of = refl };
          steady = λ v. nv (subst (λ z. Varies program (AVariable z x)) path v);
        }

  -- ---- what a call gives stands in a new cell

  result_in : (result : Option IntType) (m : Made) (b : ℕ) → Grown program kernel (result_code result m).made →
      next_cell (result_code result m).made ≤ b →
      AtomIn program kernel (next_cell m) b (result_code result m).value.atom
  result_in None m b g le = tt
  result_in (Some of) m b g le = let one_more =
      next_more m OfValue of in (omega arith, omega (arith, one_more, le), value_not_even program kernel m of g)

  result_back : (result : Option IntType) (m : Made) → Grown program kernel (result_code result m).made →
      Grown program kernel m
  result_back None m g = g
  result_back (Some of) m g = back_value program kernel m of g

  -- ---- roots of constant memory

  abbrev Constants : ℕ → Instance → Type 0
  Constants fn here = (element : IntType) (root : Root) → CanLoad program (function_at program fn) root element →
      varying.is_constant_root (function_at program fn) root ≡ true → is_constant_root kernel (root_in here root) ≡ true

  constant_is : (root : Root) (f : Function) (element : IntType) → RootIs program f root space.Constant element →
      varying.is_constant_root f root ≡ true
  constant_is (Param k) f element h = ap is_constant_pointer h.1
  constant_is (Constant k) f element h = refl
  constant_is (Local k) f element h = absurd (cc h.4)
  constant_is (Private k) f element h = absurd (cc h.4)

  constant_argument : (fn : ℕ) (here : Instance) → Constants fn here → (kind : VarKind) (root : Root) →
      (at : _) (element : IntType) (own : Root) → kind ≡ Pointer at element own →
      RootIs program (function_at program fn) root at element → is_constant_pointer (Some kind) ≡ true →
      is_constant_root kernel (root_in here root) ≡ true
  constant_argument fn here constants kind root space.Constant element own k h c =
      constants element root (space.Constant, h) (constant_is root (function_at program fn) element h)
  constant_argument fn here constants kind root space.Global element own k h c =
      absurd (let z : false ≡ true = sym (ap (λ y. is_constant_pointer (Some y)) k) ∙ c in cc)
  constant_argument fn here constants kind root space.Local element own k h c =
      absurd (let z : false ≡ true = sym (ap (λ y. is_constant_pointer (Some y)) k) ∙ c in cc)
  constant_argument fn here constants kind root space.Private element own k h c =
      absurd (let z : false ≡ true = sym (ap (λ y. is_constant_pointer (Some y)) k) ∙ c in cc)

  constant_arguments : (fn : ℕ) (here : Instance) → Constants fn here →
      (kinds : List VarKind) (roots : List (Option Root)) (ts : List IntType) →
      ArgumentsFit program (function_at program fn) kinds roots ts → (n : ℕ) →
      is_constant_pointer (slice_get kinds n) ≡ true
      → (other_root : Root) → is_constant_root kernel (unwrap_or (slice_get (argument_roots here roots) n) other_root)
      ≡ true
  constant_arguments fn here constants [] [] [] h n c d = absurd (let z : false ≡ true = c in cc)
  constant_arguments fn here constants [] [] (t ∷ ts) h n c d = absurd h
  constant_arguments fn here constants [] (r ∷ roots) ts h n c d = absurd h
  constant_arguments fn here constants (Scalar s ∷ kinds) [] ts h n c d = absurd h
  constant_arguments fn here constants (Scalar s ∷ kinds) (None ∷ roots) [] h n c d = absurd h
  constant_arguments fn here constants (Scalar s ∷ kinds) (None ∷ roots) (t ∷ ts) h zero c d =
      absurd (let z : false ≡ true = c in cc)
  constant_arguments fn here constants (Scalar s ∷ kinds) (None ∷ roots) (t ∷ ts) h (suc n) c d =
      constant_arguments fn here constants kinds roots ts h.1 n c d
  constant_arguments fn here constants (Scalar s ∷ kinds) (Some r ∷ roots) ts h n c d = absurd h
  constant_arguments fn here constants (Pointer at element own ∷ kinds) [] ts h n c d = absurd h
  constant_arguments fn here constants (Pointer at element own ∷ kinds) (None ∷ roots) ts h n c d = absurd h
  constant_arguments fn here constants (Pointer at element own ∷ kinds) (Some r ∷ roots) [] h n c d = absurd h
  constant_arguments fn here constants (Pointer at element own ∷ kinds) (Some r ∷ roots) (t ∷ ts) h zero c d =
      constant_argument fn here constants (Pointer at element own) r at element own refl h.1 c
  constant_arguments fn here constants (Pointer at element own ∷ kinds) (Some r ∷ roots) (t ∷ ts) h (suc n) c d =
      constant_arguments fn here constants kinds roots ts h.2 n c d

  constants_there : (g : ℕ) (there_ : Instance) →
      ((n : ℕ) → is_constant_pointer (slice_get (parameter_kinds (function_at program g)) n) ≡ true →
      is_constant_root kernel (root_in there_ (Param n)) ≡ true) → Constants g there_
  constants_there g there_ params element (Param n) load c = params n c
  constants_there g there_ params element (Constant n) load c =
      lt-ltb n (length kernel.tables) (let z = slice_get_within program.tables n load.1.0 load.1.1 in
      subst (λ t. n < length t) (sym tables) z)
  constants_there g there_ params element (Local n) load c = absurd (let z : false ≡ true = c in cc)
  constants_there g there_ params element (Private n) load c = absurd (let z : false ≡ true = c in cc)

  -- ---- calls

  calls_fresh : (depth : ℕ) (here : Instance) → CallsFresh program kernel (call_code program names depth) here
  unfolding call_code
  calls_fresh zero here site function roots values m g = tt
  calls_fresh (suc depth) here site function roots values m g =
      let calls = call_code program names depth in
      let way = way_behind program here site function roots in
      let f = function_at program function in
      let there_ = instance_at way f m in
      let inside = with_instance way (names_at names function) f m in
      let cr = result_code f.result inside in
      let co = opened (way_out_of_all true true f.body) 0 cr.made in
      let size = instance_cells program names named way function m in
      let go_ = list_back program kernel calls (calls_back depth) there_ co.exit false f.body co.made g in
      let gr = opened_back program kernel (way_out_of_all true true f.body) 0 cr.made go_ in
      let b = opened_up (way_out_of_all true true f.body) 0 cr.made in
      let d = list_up calls (calls_up program names depth) there_ co.exit false f.body co.made in
      let top = next_cell (call_code program names (suc depth) here site function roots values m).made in
      atom_within program kernel (next_cell inside) top (next_cell m) top cr.value.atom (omega (arith, size))
      (omega arith) (result_in f.result inside top gr (omega (arith, b, d)))

  module _ (one other : Who) (fellows : AreFellows kernel one other) where
    calls_together : (depth d fn : ℕ) (here : Instance) → CallsEnd program (suc d) fn →
        (CallsEnd program d program.kernel → ⊥) → Constants fn here →
        CallsTogether program kernel one other fn (call_code program names depth) here
    unfolding call_code
    calls_together zero d fn here ends low constants =
        λ site g roots arguments ts values a m out p q i within fits count all gr bound al args. (al, λ nv. refl)
    calls_together (suc depth) zero fn here ends low constants =
        λ site g roots arguments ts values a m out p q i within fits count all gr bound al args.
        absurd (callee_ends program zero fn site g roots arguments ends i)
    calls_together (suc depth) (suc d) fn here ends low constants =
        λ site g roots arguments ts values a m out p q i within fits count all gr bound al args.
        let calls = call_code program names depth in
        let f = function_at program g in
        let way = way_behind program here site g (argument_roots here roots) in
        let there_ = instance_at way f m in
        let inside = with_instance way (names_at names g) f m in
        let cr = result_code f.result inside in
        let co = opened (way_out_of_all true true f.body) 0 cr.made in
        let body = body_code calls there_ f inside in
        let size = instance_cells program names named way g m in
        let go_ = list_back program kernel calls (calls_back depth) there_ co.exit false f.body co.made gr in
        let gi =
        result_back f.result inside (opened_back program kernel (way_out_of_all true true f.body) 0 cr.made go_) in
        let ends' = callee_ends program (suc d) fn site g roots arguments ends i in
        let low' : CallsEnd program d program.kernel → ⊥ = λ z. low (ends_deeper program d program.kernel z) in
        let constants' = constants_there g there_ (λ n c. constant_arguments fn here constants (parameter_kinds f)
        roots ts fits n c (Param n)) in
        let set : Setting program kernel one other g calls there_ = record {
          fellows = fellows;
          up = calls_up program names depth;
          unset = λ c. calls_unset program names valid named c depth;
          back = calls_back depth;
          quiet = λ c. calls_quiet program valid c names depth;
          fresh = calls_fresh depth there_;
          marked = own_marked way g m gi refl;
          even = own_even way g m gi refl;
          constants = constants';
          answer_is = refl;
          not_kernel =
              λ s h rs es inb q'. low' (subst (CallsEnd program d) q' (callee_ends program d g s h rs es ends' inb));
          call = calls_together depth d g there_ ends' low' constants';
        } in
        let few = length_take f.parameters f.variables (valid_any program valid g).parameters in
        let lim = (valid_any program valid g).parameters in
        together_seq (Even program kernel) one other out (parameter_lines (next_cell m) values) body.lines Anything
        (λ x y. (Varies program (AResult g) → ⊥) → atom_value x body.value.atom ≡ atom_value y body.value.atom) p
        q al
        (λ al'. parameters_together program kernel one other (next_cell m) (next_cell m) a values
        (λ c. live_in c body.lines (out c)) p q (omega arith) all al'
        (λ k v at e. args k v at (λ w. own_marked way g m gi refl k (let z = slice_get_within values k v at in
        omega (arith, z, count, few, lim)) e w)))
        (λ a1 b1 d1 e1 al1 u. body_together program kernel one other valid g calls there_ set inside (omega (
          arith,
          size,
        )) out a1 b1 gr bound al1)

own_root : (a : ℕ) (kinds : List VarKind) (n d : ℕ) → d ≡ a + n →
    unwrap_or (slice_get (own_roots a kinds) n) (Param d) ≡ Param d
own_root a [] n d e = refl
own_root a (kind ∷ kinds) zero d e = ap Param (omega (arith, e))
own_root a (kind ∷ kinds) (suc n) d e = own_root (a + 1) kinds n d (omega (arith, e))

-- two items of one group go together through the kernel
pub kernel_together : (program : Program) (names : List (List Named)) → IsValid program → AreNamed program names →
    (one other : Who) → AreFellows (lowered_of program names) one other
    → Together (Even program (lowered_of program names)) one other (λ c. false) (lowered_of program names).body
    Anything (λ c. pos 0) (λ c. pos 0)
unfolding lowered_of
kernel_together program names valid named one other fellows =
    let kernel = lowered_of program names in
    let depth = length program.functions in
    let calls = call_code program names depth in
    let f = kernel_of program in
    let way = kernel_way program in
    let here = instance_at way f nothing_made in
    let inside = with_instance way (names_at names program.kernel) f nothing_made in
    let cr = result_code f.result inside in
    let co = opened (way_out_of_all true true f.body) 0 cr.made in
    let body = body_code calls here f inside in
    let size = instance_cells program names named way program.kernel nothing_made in
    let grown : Grown program kernel body.made = record { cells = λ n c at. at } in
    let go_ = list_back program kernel calls (calls_back program names kernel valid named refl depth) here co.exit
    false f.body co.made grown in
    let gi = result_back program names kernel valid named refl f.result inside
    (opened_back program kernel (way_out_of_all true true f.body) 0 cr.made go_) in
    let least = least_depth program depth program.kernel (valid.calls program.kernel valid.kernel) in
    let constants' = constants_there program names kernel valid named refl program.kernel here
    (λ n c. ap (is_constant_root kernel) (own_root 0 (parameter_kinds f) n n (omega arith)) ∙ c) in
    let set : Setting program kernel one other program.kernel calls here = record {
      fellows = fellows;
      up = calls_up program names depth;
      unset = λ c. calls_unset program names valid named c depth;
      back = calls_back program names kernel valid named refl depth;
      quiet = λ c. calls_quiet program valid c names depth;
      fresh = calls_fresh program names kernel valid named refl depth here;
      marked = own_marked program names kernel valid named refl way program.kernel nothing_made gi refl;
      even = own_even program names kernel valid named refl way program.kernel nothing_made gi refl;
      constants = constants';
      answer_is = refl;
      not_kernel = λ s h rs es inb q'.
          least.2 (subst (CallsEnd program least.0) q' (callee_ends program least.0 program.kernel s h rs es least.1
          inb));
      call = calls_together program names kernel valid named refl one other fellows depth least.0 program.kernel here
          least.1 least.2 constants';
    } in
    together_seq (Even program kernel) one other (λ c. false) (bound_lines 0 0 (parameter_kinds f)) body.lines
    Anything Anything (λ c. pos 0) (λ c. pos 0) (λ c e l. refl)
    (λ al'. bound_together program kernel one other 0 0 (parameter_kinds f) (λ c. live_in c body.lines false)
    (λ c. pos 0) (λ c. pos 0) fellows al')
    (λ a b d e al1 u. together_then (Even program kernel) one other (λ c. false) body.lines
    (λ x y. (Varies program (AResult program.kernel) → ⊥) →
    atom_value x body.value.atom ≡ atom_value y body.value.atom) Anything a b
    (body_together program kernel one other valid program.kernel calls here set inside (omega (arith, size))
    (λ c. false) a b grown (λ c e' l. absurd (let z : false ≡ true = l in cc)) al1) (λ x y d2 e2 z t. tt))

-- so the kernel that a valid program is lowered to is even in the cells of the variables that do not vary
pub is_even_where_steady : (program : Program) (names : List (List Named)) → IsValid program →
    AreNamed program names → IsEvenWhereSteady program (lowered_of program names)
is_even_where_steady program names valid named =
    even_if_together (lowered_of program names) (Even program (lowered_of program names))
    (kernel_together program names valid named)
