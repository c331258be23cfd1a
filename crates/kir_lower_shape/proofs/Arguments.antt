-- A lowered body begins with one line for each parameter.
use Rattle.std.proofs.Common.{unwrap_or, ◌≡◌, ℕ, zero, suc, ◌+◌, ◌<◌, ◌≤◌, List, [], ◌∷◌, ◌++◌, length, take, Some}
use Rattle.std.proofs.Common.{slice_get, refl, sym, ap, ◌∙◌, subst, arith, append-nil, append_assoc}
use Rattle.std.proofs.lemmas.Option.{none-some, same_Some, slice_get_within}
use Rattle.cl_model.specs.declared.program.Root.{Root}
use Rattle.cl_model.specs.declared.program.VarKind.{VarKind}
use Rattle.cl_model.specs.Tree.{Program}
use Rattle.cl_model.specs.Calls.{CallSite, function_at, kernel_of, no_function}
use Rattle.cl_model.specs.Valid.{IsValid, IsValidFunction, parameter_kinds}
use Rattle.kir.specs.Tree.{Cell, SetThen, Argument, joined_to}
use Rattle.kir.specs.Homes.{IsCellOf}
use Rattle.kir.specs.Lowering.{Named, BeginsWithArguments, argument_lines}
use Rattle.kir_lower.specs.declared.places.Value.{Value}
use Rattle.kir_lower.specs.Made.{Made, variable_cells}
use Rattle.kir_lower.specs.Made as low
use Rattle.kir_lower.specs.Whole.{names_at, way_behind, instance_at, with_instance, call_code, bound_lines}
use Rattle.kir_lower.specs.Whole.{kernel_way, nothing_made, lowered_of}
use Rattle.kir_lower.specs.Code.{body_code}
use Rattle.kir_lower_shape.specs.Names.{AreNamed}
use Rattle.kir_lower_shape.proofs.Making.{call_of, body_makes}
use Rattle.kir_lower_shape.proofs.Variables.{cell_named, get_before, get_there, variable_at}

-- cells are only put behind those that are there
abbrev pub Goes : List CallSite → Made → Made → Type 0
Goes calls a b = (more : List Cell) × (b.cells ≡ a.cells ++ more)

goes_same : (m : Made) → Goes [] m m
goes_same m = ([], sym (append-nil m.cells))

goes_before : (xs ys : List CallSite) (a b c : Made) → Goes xs a b → Goes ys b c → Goes (xs ++ ys) a c
goes_before xs ys a b c h k = (h.0 ++ k.0, k.1 ∙ ap (λ z. z ++ k.0) h.1 ∙ append_assoc a.cells h.0 k.0)

module _ (program : Program) (names : List (List Named)) where
  pub call_goes : (depth : ℕ) (here : low.Instance) (site function : ℕ) (roots : List Root) (values : List Value)
      (m : Made) → Goes (call_of site function ∷ []) m (call_code program names depth here site function roots values
      m).made
  unfolding call_code
  call_goes zero here site function roots values m = ([], sym (append-nil m.cells))
  call_goes (suc depth) here site function roots values m =
      let way = way_behind program here site function roots in
      let f = function_at program function in
      let inside = with_instance way (names_at names function) f m in
      let h = body_makes Goes goes_same goes_before (λ m of. (record { kind = _; of = of } ∷ [], refl))
      (λ m of. (record { kind = _; of = of } ∷ [], refl)) (call_code program names depth) (instance_at way f m)
      (call_goes depth (instance_at way f m)) f inside in (
        variable_cells way.calls way.places way.function 0 (names_at names function) f.variables ++ h.0,
        h.1 ∙
            append_assoc m.cells (variable_cells way.calls way.places way.function 0 (names_at names function)
            f.variables) h.0,
      )

  -- the first cells are those of the kernel's own variables
  pub kernel_goes : (more : List Cell) ×
      ((lowered_of program names).cells ≡ variable_cells [] [] program.kernel 0 (names_at names program.kernel)
      (kernel_of program).variables ++ more)
  unfolding lowered_of
  kernel_goes =
      let f = kernel_of program in
      let way = kernel_way program in
      body_makes Goes goes_same goes_before (λ m of. (record { kind = _; of = of } ∷ [], refl))
      (λ m of. (record { kind = _; of = of } ∷ [], refl)) (call_code program names (length program.functions))
      (instance_at way f nothing_made)
      (call_goes (length program.functions) (instance_at way f nothing_made)) f
      (with_instance way (names_at names program.kernel) f nothing_made)

-- so many numbers, the first of them this one
abbrev numbers : ℕ → List VarKind → List ℕ
numbers n [] = []
numbers n (kind ∷ kinds) = n ∷ numbers (n + 1) kinds

numbers_count : (n : ℕ) (kinds : List VarKind) → length (numbers n kinds) ≡ length kinds
numbers_count n [] = refl
numbers_count n (kind ∷ kinds) = ap suc (numbers_count (n + 1) kinds)

numbers_at : (n : ℕ) (kinds : List VarKind) (k c : ℕ) → slice_get (numbers n kinds) k ≡ Some c → c ≡ n + k
numbers_at n [] k c e = absurd (none-some c e)
numbers_at n (kind ∷ kinds) zero c e = sym (same_Some n c e) ∙ omega arith
numbers_at n (kind ∷ kinds) (suc k) c e = numbers_at (n + 1) kinds k c e ∙ omega arith

argument_first : (n : ℕ) (kinds : List VarKind) → bound_lines n n kinds ≡ argument_lines n (numbers n kinds)
argument_first n [] = refl
argument_first n (kind ∷ kinds) =
    let one : n + 1 ≡ suc n = omega arith in
    ap (λ z. SetThen n (Argument n) z) (argument_first (n + 1) kinds ∙
    ap (λ z. argument_lines z (numbers (n + 1) kinds)) one)

pub length_take : {A : Type 0} (n : ℕ) (xs : List A) → n ≤ length xs → length (take n xs) ≡ n
length_take zero xs h = refl
length_take (suc n) [] h = absurd (omega (arith, h))
length_take (suc n) (x ∷ xs) h = ap suc (length_take n xs (omega (arith, h)))

-- a function with this number is valid
pub valid_function : (program : Program) → IsValid program → (f : ℕ) → f < length program.functions →
    IsValidFunction program (function_at program f)
valid_function program valid f h =
    let g = get_there program.functions f h in
    subst (IsValidFunction program) (sym (ap (λ z. unwrap_or z no_function) g.1)) (valid.functions f g.0 g.1)

-- the cell of the kernel's own variable with this number
pub own_cell : (program : Program) (names : List (List Named)) → AreNamed program names → (n : ℕ) →
    n < length (kernel_of program).variables
    → IsCellOf (lowered_of program names) (record { calls = []; function = program.kernel; number = n }) n
own_cell program names named n h =
    let all = kernel_goes program names in
    let same = named program.kernel in
    let name = get_there (names_at names program.kernel) n (omega (arith, h, same)) in
    let kind = get_there (kernel_of program).variables n h in
    let there = variable_at [] [] program.kernel 0 (names_at names program.kernel) (kernel_of program).variables n
    name.0 kind.0 name.1 kind.1 in
    let zero_n : 0 + n ≡ n = omega arith in
    record {
      cell = cell_named [] [] program.kernel n name.0 kind.0;
      there = ap (λ z. slice_get z n) all.1 ∙
          get_before (variable_cells [] [] program.kernel 0 (names_at names program.kernel)
          (kernel_of program).variables) all.0 n (cell_named [] [] program.kernel n name.0 kind.0)
          (there ∙ ap (λ z. Some (cell_named [] [] program.kernel z name.0 kind.0)) zero_n);
      is_of = refl;
    }

-- a lowered body begins with one line for each parameter, which sets its cell to the argument
pub begins_with_arguments : (program : Program) (names : List (List Named)) → IsValid program →
    AreNamed program names → BeginsWithArguments program (lowered_of program names)
unfolding lowered_of
begins_with_arguments program names valid named =
    let f = kernel_of program in
    let kinds = parameter_kinds f in
    let way = kernel_way program in
    let few = (valid_function program valid program.kernel valid.kernel).parameters in
    let count : length (numbers 0 kinds) ≡ f.parameters =
    numbers_count 0 kinds ∙ length_take f.parameters f.variables few in
    record {
      cells = numbers 0 kinds;
      count = count;
      each = λ n c e.
          let is : c ≡ n = numbers_at 0 kinds n c e ∙ omega arith in
          let less = slice_get_within (numbers 0 kinds) n c e in
          subst (λ z. IsCellOf (lowered_of program names) (record {
            calls = [];
            function = program.kernel;
            number = n;
          }) z) (sym is) (own_cell program names named n (omega (arith, less, count, few)));
      rest = (body_code (call_code program names (length program.functions)) (instance_at way f nothing_made) f
          (with_instance way (names_at names program.kernel) f nothing_made)).lines;
      body =
          ap (λ z. joined_to z (body_code (call_code program names (length program.functions))
          (instance_at way f nothing_made) f (with_instance way (names_at names program.kernel) f
          nothing_made)).lines) (argument_first 0 kinds);
    }
