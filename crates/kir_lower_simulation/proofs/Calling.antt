-- What is known of a function that is called, and of the kernel's own.
use Rattle.std.proofs.Common.{◌≡◌, ℕ, zero, suc, ◌+◌, ◌*◌, ◌<◌, ◌≤◌, take, List, [], ◌∷◌, ◌++◌, length, map, Option}
use Rattle.std.proofs.Common.{Some, None, slice_get, option_map, unwrap_or, refl, sym, ap, ap₂, ◌∙◌, subst, arith}
use Rattle.std.proofs.Common.{length-append, append_assoc, append-nil, true, false, inl, eq-eqb, ne_eqb}
use Rattle.std.proofs.Common.{if◌then◌else◌}
use Rattle.std.specs.Prelude.{nat_eq, ◌&&◌, flat_map}
use Rattle.std.proofs.lemmas.Bool.{true≢false}
use Rattle.std.proofs.lemmas.Grind.{flat_map-append}
use Rattle.std.proofs.lemmas.List.Concat.{flat_map-cons}
use Rattle.std.proofs.lemmas.List.{map-append, length-map}
use Rattle.std.proofs.lemmas.Option.{none-some, same_Some, slice_get-map, slice_get_within}
use Rattle.wg_num.specs.declared.types.IntType.{IntType}
use Rattle.wg_num.specs.declared.types.IntType.TheVariants.{Int}
use Rattle.wg_num.specs.declared.types.Place.{Place}
use Rattle.cl_model.specs.declared.launch.Bound.{Bound}
use Rattle.cl_model.specs.declared.launch.Bound.TheVariants as bound
use Rattle.cl_model.specs.declared.program.Root.{Root}
use Rattle.cl_model.specs.declared.program.Root.TheVariants.{Param, Constant, Local, Private}
use Rattle.cl_model.specs.declared.program.Space.{Space}
use Rattle.cl_model.specs.declared.program.Space.TheVariants as space
use Rattle.cl_model.specs.declared.program.VarKind.{VarKind}
use Rattle.cl_model.specs.declared.program.VarKind.TheVariants.{Scalar, Pointer}
use Rattle.cl_model.specs.Tree.{Array, Table, Function, Program}
use Rattle.cl_model.specs.Sizes.{group_of}
use Rattle.cl_model.specs.Lists.{Each}
use Rattle.cl_model.specs.Calls.{CallSite, calls_of_all, function_at, kernel_of, Instance, instances_below}
use Rattle.cl_model.specs.Objects.{PlacedArray, placed_from, placed_arrays, place_among, same_path, is_local}
use Rattle.cl_model.specs.Objects.{is_private, object_of, kernel_objects, argument_object, first_local, first_table}
use Rattle.cl_model.specs.Objects.{local_sizes, local_arrays, local_arguments, array_bytes}
use Rattle.cl_model.specs.Steps.{passed_object}
use Rattle.cl_model.specs.Valid.{ArgumentsFit, CallsEnd, IsValid, RootIs, parameter_kinds}
use Rattle.kir.specs.Tree.{Cell, Kernel}
use Rattle.kir.specs.Homes.{IsCellOf}
use Rattle.kir.specs.Lowering.{Named, HasArrays, HasParts}
use Rattle.kir.specs.Steps.{shell_of}
use Rattle.kir.proofs.Shells.{same_locals}
use Rattle.kir.proofs.Numbers.{same_local_object, same_private_object}
use Rattle.kir_lower.specs.declared.places.Value.{Value}
use Rattle.kir_lower.specs.Made.{Made, next_cell, variable_cells, root_in, argument_root, argument_roots}
use Rattle.kir_lower.specs.Made as low
use Rattle.kir_lower.specs.Code.{result_code}
use Rattle.kir_lower.specs.Whole.{names_at, way_behind, instance_at, with_instance, call_code, own_roots, kernel_way}
use Rattle.kir_lower.specs.Whole.{nothing_made, lowered_of}
use Rattle.kir_lower_shape.specs.Names.{AreNamed}
use Rattle.kir_lower_shape.proofs.Making.{call_of, body_makes, result_makes}
use Rattle.kir_lower_shape.proofs.Arrays.{arrays_below, called_arrays, call_adds}
use Rattle.kir_lower_shape.proofs.Variables.{cell_named, get_before, get_behind, get_there, variable_at, variable_count}
use Rattle.kir_lower_shape.proofs.Arguments.{call_goes, own_cell}
use Rattle.kir_lower_shape.proofs.CallSites as sites
use Rattle.kir_lower_simulation.specs.Setting.{Setting, Store, Activation, inside}
use Rattle.kir_lower_simulation.specs.Held.{Within}
use Rattle.kir_lower_simulation.specs.Ready.{IsSoundCall, placed_below, Elsewhere, calls_at, AreNext, Adds, IsUnderWay}
use Rattle.kir_lower_simulation.specs.Bodies.{entered, own_activation}
use Rattle.kir_lower_simulation.proofs.Keeping.{Grows, grows_same, grows_before, grows_with, grows_count}
use Rattle.kir_lower_simulation.proofs.Readying.{elsewhere_append, place_behind_others}
use Rattle.kir.specs.Tree.{OfFlag, OfValue}

-- ---- what calls make

-- cells are only put behind those that are there
pub calls_grow : (program : Program) (names : List (List Named)) (depth : ℕ) (here : low.Instance) (site function : ℕ)
    (roots : List Root) (values : List Value) (m : Made)
    → Grows (call_of site function ∷ []) m (call_code program names depth here site function roots values m).made
calls_grow program names depth here site function roots values m =
    call_goes program names depth here site function roots values m

abbrev plain : List PlacedArray → List Array
plain xs = map (λ (a : PlacedArray). a.array) xs

plain_from : (path : List ℕ) (number : ℕ) (arrays : List Array) → plain (placed_from path number arrays) ≡ arrays
plain_from path number [] = refl
plain_from path number (a ∷ rest) = ap (λ z. a ∷ z) (plain_from path (suc number) rest)

-- the arrays of instances
abbrev placed_in : Program → List Instance → List PlacedArray
placed_in program list = flat_map (λ (i : Instance). placed_from i.path 0 (function_at program i.function).arrays) list

-- those of the calls of a function's body
below_calls : (program : Program) (depth : ℕ) (path : List ℕ) (calls : List CallSite)
    → placed_in program (flat_map (λ (c : CallSite). instances_below program depth (path ++ c.site ∷ []) c.function)
    calls) ≡ placed_below program depth path calls
below_calls program depth path [] = refl
below_calls program depth path (c ∷ calls) =
    let below = λ (c : CallSite). instances_below program depth (path ++ c.site ∷ []) c.function in
    ap (λ z. placed_in program z) (flat_map-cons below c calls)
    ∙ flat_map-append (λ (i : Instance). placed_from i.path 0 (function_at program i.function).arrays) (below c)
    (flat_map below calls)
    ∙ ap (λ z. placed_in program (below c) ++ z) (below_calls program depth path calls)

-- the function's own come first
placed_first : (program : Program) (depth : ℕ) (path : List ℕ) (f : ℕ)
    → placed_in program (instances_below program (suc depth) path f) ≡
    placed_from path 0 (function_at program f).arrays ++
    placed_below program depth path (calls_of_all (function_at program f).body)
placed_first program depth path f =
    flat_map-cons (λ (i : Instance). placed_from i.path 0 (function_at program i.function).arrays)
    (record { path = path; function = f })
    (flat_map (λ (c : CallSite). instances_below program depth (path ++ c.site ∷ []) c.function)
    (calls_of_all (function_at program f).body))
    ∙ ap (λ z. placed_from path 0 (function_at program f).arrays ++ z)
    (below_calls program depth path (calls_of_all (function_at program f).body))

-- where the depth is enough, these are the arrays that a call adds
plain_below : (program : Program) (depth : ℕ) (each : (path : List ℕ) (f : ℕ) →
    plain (placed_in program (instances_below program depth path f)) ≡ arrays_below program depth f) (path : List ℕ)
    (calls : List CallSite)
    → plain (placed_below program depth path calls) ≡ called_arrays program depth calls
plain_below program depth each path [] = refl
plain_below program depth each path (c ∷ calls) =
    map-append (λ (a : PlacedArray). a.array)
    (placed_in program (instances_below program depth (path ++ c.site ∷ []) c.function))
    (placed_below program depth path calls)
    ∙ ap₂ (λ y z. y ++ z) (each (path ++ c.site ∷ []) c.function) (plain_below program depth each path calls)
    ∙ sym (flat_map-cons (λ (c : CallSite). arrays_below program depth c.function) c calls)

plain_placed : (program : Program) (depth : ℕ) (path : List ℕ) (f : ℕ) →
    plain (placed_in program (instances_below program depth path f)) ≡ arrays_below program depth f
plain_placed program zero path f = refl
plain_placed program (suc depth) path f =
    let own = placed_from path 0 (function_at program f).arrays in
    ap plain (placed_first program depth path f)
    ∙ map-append (λ (a : PlacedArray). a.array) own
    (placed_below program depth path (calls_of_all (function_at program f).body))
    ∙ ap₂ (λ y z. y ++ z) (plain_from path 0 (function_at program f).arrays)
    (plain_below program depth (plain_placed program depth) path (calls_of_all (function_at program f).body))

deep_calls : (program : Program) (depth : ℕ) →
    ((f : ℕ) → CallsEnd program depth f → arrays_below program (suc depth) f ≡ arrays_below program depth f)
    → (calls : List CallSite) → Each (λ (c : CallSite). CallsEnd program depth c.function) calls →
    called_arrays program (suc depth) calls ≡ called_arrays program depth calls
deep_calls program depth each [] h = refl
deep_calls program depth each (c ∷ calls) h =
    flat_map-cons (λ (c : CallSite). arrays_below program (suc depth) c.function) c calls
    ∙ ap₂ (λ y z. y ++ z) (each c.function h.0) (deep_calls program depth each calls h.1)
    ∙ sym (flat_map-cons (λ (c : CallSite). arrays_below program depth c.function) c calls)

deep_enough : (program : Program) (depth f : ℕ) → CallsEnd program depth f →
    arrays_below program (suc depth) f ≡ arrays_below program depth f
deep_enough program zero f h = absurd h
deep_enough program (suc depth) f h =
    ap (λ z. (function_at program f).arrays ++ z) (deep_calls program depth (deep_enough program depth)
    (calls_of_all (function_at program f).body) h)

pub calls_add : (S : Setting) (C : Activation) (names : List (List Named)) (site function : ℕ) (roots : List Root)
    (values : List Value) (m : Made)
    → Adds S C (call_of site function ∷ []) m (call_code S.program names (suc C.depth) C.here site function roots
    values m).made
calls_add S C names site function roots values m ends =
    let added = call_adds S.program names (suc C.depth) C.here site function roots values m in
    let same = deep_enough S.program C.depth function ends.0 in
    let path = C.here.calls ++ site ∷ [] in
    let placed = placed_in S.program (instances_below S.program C.depth path function) in
    let count = ap (λ z. length z) added in
    let one = length-append m.arrays (arrays_below S.program (suc C.depth) function) in
    let two = ap (λ z. length z) same in
    let three = ap (λ z. length z) (plain_placed S.program C.depth path function) in
    let four = length-map placed (λ (a : PlacedArray). a.array) in
    let five = ap (λ z. length z) (append-nil placed) in
    omega (arith, count, one, two, three, four, five)

-- ---- places of arrays

same_path_self : (xs : List ℕ) → same_path xs xs ≡ true
same_path_self [] = refl
same_path_self (x ∷ xs) = ap (λ b. b && same_path xs xs) (eq-eqb x x refl) ∙ same_path_self xs

-- a longer path is another
longer_differs : (path : List ℕ) (n : ℕ) (along : List ℕ) → same_path path ((path ++ n ∷ []) ++ along) ≡ false
longer_differs [] n along = refl
longer_differs (x ∷ path) n along =
    ap (λ b. b && same_path path ((path ++ n ∷ []) ++ along)) (eq-eqb x x refl) ∙ longer_differs path n along

-- a function's own arrays, before others
place_own : (path : List ℕ) (k n : ℕ) (arrays : List Array) (more : List PlacedArray) → n < length arrays →
    place_among (placed_from path k arrays ++ more) path (k + n) ≡ n
place_own path k n [] more h = absurd (omega (arith, h))
place_own path k zero (a ∷ arrays) more h =
    let here : same_path path path && nat_eq k (k + 0) ≡ true =
    ap (λ b. b && nat_eq k (k + 0)) (same_path_self path) ∙ eq-eqb k (k + 0) (omega arith) in
    ap (λ b. if b then 0 else suc (place_among (placed_from path (suc k) arrays ++ more) path (k + 0))) here
place_own path k (suc n) (a ∷ arrays) more h =
    let other : same_path path path && nat_eq k (k + suc n) ≡ false =
    ap (λ b. b && nat_eq k (k + suc n)) (same_path_self path) ∙ ne_eqb k (k + suc n) (λ e. omega (arith, e)) in
    let next = place_own path (suc k) n arrays more (omega (arith, h)) in
    let same : k + suc n ≡ suc k + n = omega arith in
    ap (λ b. if b then 0 else suc (place_among (placed_from path (suc k) arrays ++ more) path (k + suc n))) other
    ∙ ap (λ z. suc (place_among (placed_from path (suc k) arrays ++ more) path z)) same ∙ ap suc next

own_apart : (path : List ℕ) (n k : ℕ) (along : List ℕ) (arrays : List Array) →
    Elsewhere (placed_from path k arrays) ((path ++ n ∷ []) ++ along)
own_apart path n k along [] = tt
own_apart path n k along (a ∷ arrays) = (longer_differs path n along, own_apart path n (suc k) along arrays)

length-placed : (path : List ℕ) (k : ℕ) (arrays : List Array) → length (placed_from path k arrays) ≡ length arrays
length-placed path k [] = refl
length-placed path k (a ∷ arrays) = ap suc (length-placed path (suc k) arrays)

-- ---- a function that is called

-- the root of an argument that is a pointer
abbrev Passed : Program → Function → VarKind → Option (Option Root) → Type 0
Passed program f (Scalar t) o = Unit {0}
Passed program f (Pointer at element own) o = (r : Root) × (o ≡ Some (Some r)) × RootIs program f r at element

passed_at : (program : Program) (f : Function) (kinds : List VarKind) (roots : List (Option Root))
    (types : List IntType) (n : ℕ) (kind : VarKind) → ArgumentsFit program f kinds roots types →
    slice_get kinds n ≡ Some kind → Passed program f kind (slice_get roots n)
passed_at program f [] roots types n kind h e = absurd (none-some kind e)
passed_at program f (Scalar s ∷ kinds) [] types n kind h e = absurd h
passed_at program f (Scalar s ∷ kinds) (None ∷ roots) [] n kind h e = absurd h
passed_at program f (Scalar s ∷ kinds) (None ∷ roots) (t ∷ types) zero kind h e =
    subst (λ z. Passed program f z (Some None)) (same_Some (Scalar s) kind e) tt
passed_at program f (Scalar s ∷ kinds) (None ∷ roots) (t ∷ types) (suc n) kind h e =
    passed_at program f kinds roots types n kind h.1 e
passed_at program f (Scalar s ∷ kinds) (Some r ∷ roots) types n kind h e = absurd h
passed_at program f (Pointer at element own ∷ kinds) [] types n kind h e = absurd h
passed_at program f (Pointer at element own ∷ kinds) (None ∷ roots) types n kind h e = absurd h
passed_at program f (Pointer at element own ∷ kinds) (Some r ∷ roots) [] n kind h e = absurd h
passed_at program f (Pointer at element own ∷ kinds) (Some r ∷ roots) (t ∷ types) zero kind h e =
    subst (λ z. Passed program f z (Some (Some r))) (same_Some (Pointer at element own) kind e) (r, refl, h.1)
passed_at program f (Pointer at element own ∷ kinds) (Some r ∷ roots) (t ∷ types) (suc n) kind h e =
    passed_at program f kinds roots types n kind h.2 e

-- the type of the elements of an array
element_there : (arrays : List Array) (n : ℕ) (array : Array) → slice_get arrays n ≡ Some array →
    unwrap_or (slice_get (map (λ (a : Array). a.element) arrays) n) Int ≡ array.element
element_there arrays n array e = ap (λ o. unwrap_or o Int) (slice_get-map (λ (a : Array). a.element) arrays n ∙
    ap (option_map (λ (a : Array). a.element)) e)

-- its array among those of the kernel, where so many stand before
array_there : (kernel : Kernel) (first more : List PlacedArray) (path : List ℕ) (arrays : List Array) (k n : ℕ)
    (array : Array) → kernel.arrays ≡ plain (first ++ (placed_from path 0 arrays ++ more)) → k ≡ length first →
    slice_get arrays n ≡ Some array
    → slice_get kernel.arrays (k + n) ≡ Some array
array_there kernel first more path arrays k n array all count e =
    let split : kernel.arrays ≡ plain first ++ (arrays ++ plain more) =
    all ∙ map-append (λ (a : PlacedArray). a.array) first (placed_from path 0 arrays ++ more)
    ∙ ap (λ z. plain first ++ z) (map-append (λ (a : PlacedArray). a.array) (placed_from path 0 arrays) more ∙
    ap (λ z. z ++ plain more) (plain_from path 0 arrays)) in
    let same : k ≡ length (plain first) = count ∙ sym (length-map first (λ (a : PlacedArray). a.array)) in
    ap (λ z. slice_get z (k + n)) split ∙ ap (λ z. slice_get (plain first ++ (arrays ++ plain more)) (z + n)) same
    ∙ get_behind (plain first) (arrays ++ plain more) n ∙ get_before arrays (plain more) n array e

local_not : (at : Space) → at ≡ space.Local → is_local at ≡ true
local_not at e = ap is_local e

private_is : (at : Space) → at ≡ space.Private → is_private at ≡ true
private_is at e = ap is_private e

-- how many calls are at a site
same_calls_at : (n : ℕ) (calls : List CallSite) → calls_at n calls ≡ sites.calls_at n calls
same_calls_at n [] = refl
same_calls_at n (c ∷ calls) = ap (λ z. (if nat_eq c.site n then 1 else 0) + z) (same_calls_at n calls)

module _ (S : Setting) (valid : IsValid S.program) (names : List (List Named)) (named : AreNamed S.program names)
    (arrays : HasArrays S.program S.kernel) (parts : HasParts S.program S.kernel) where
  -- the cells of the variables of a new instance
  variables_there : (path : List ℕ) (places : List Place) (g : ℕ) (m : Made) (more : List Cell) →
      S.kernel.cells ≡ (m.cells ++ variable_cells path places g 0 (names_at names g)
      (function_at S.program g).variables) ++ more → (x : ℕ) (kind : VarKind)
      → slice_get (function_at S.program g).variables x ≡ Some kind →
      IsCellOf S.kernel (record { calls = path; function = g; number = x }) (next_cell m + x)
  variables_there path places g m more all x kind e =
      let less = slice_get_within (function_at S.program g).variables x kind e in
      let count = named g in
      let name = get_there (names_at names g) x (omega (arith, less, count)) in
      let own = variable_cells path places g 0 (names_at names g) (function_at S.program g).variables in
      let here =
      variable_at path places g 0 (names_at names g) (function_at S.program g).variables x name.0 kind name.1 e in
      let whole = get_before (m.cells ++ own) more (next_cell m + x) _ (get_behind m.cells own x ∙ here) in
      record {
        cell = cell_named path places g x name.0 kind;
        there = ap (λ z. slice_get z (next_cell m + x)) all ∙
            whole ∙ ap (λ z. Some (cell_named path places g z name.0 kind)) (omega arith);
        is_of = refl;
      }

  -- the cells of the variables and of the result
  instance_below : (path : List ℕ) (places : List Place) (g : ℕ) (m m1 : Made) →
      m1.cells ≡ m.cells ++ variable_cells path places g 0 (names_at names g) (function_at S.program g).variables
      → next_cell m + length (function_at S.program g).variables ≤
      next_cell (result_code (function_at S.program g).result m1).made
  instance_below path places g m m1 e =
      let own = variable_cells path places g 0 (names_at names g) (function_at S.program g).variables in
      let a = length-append m.cells own in
      let b = variable_count path places g 0 (names_at names g) (function_at S.program g).variables (named g) in
      let c = ap (λ z. length z) e in
      let d = grows_count [] m1 (result_code (function_at S.program g).result m1).made
      (result_makes Grows grows_same grows_before (λ m of. grows_with OfValue m of)
      (λ m of. grows_with OfFlag m of) (function_at S.program g).result m1) in
      omega (arith, a, b, c, d)

  module _ (C : Activation) (under : IsUnderWay S C) (site g : ℕ) (roots : List (Option Root)) (count depth : ℕ)
      (vars : Store) (m : Made) (values : List Value) (deep : C.depth ≡ suc depth)
      (sound : IsSoundCall S.program (function_at S.program C.function) g roots count)
      (next : AreNext S C m (call_of site g ∷ [])) where
    -- the function's arrays come next
    next_arrays : placed_arrays S.program ≡ next.first ++
        (placed_from (C.here.calls ++ site ∷ []) 0 (function_at S.program g).arrays ++
        (placed_below S.program depth (C.here.calls ++ site ∷ []) (calls_of_all (function_at S.program g).body) ++
        next.rest))
    next_arrays =
        let path = C.here.calls ++ site ∷ [] in
        let own = placed_from path 0 (function_at S.program g).arrays in
        let below = placed_below S.program depth path (calls_of_all (function_at S.program g).body) in
        next.arrays ∙ ap (λ d. next.first ++ ((placed_in S.program (instances_below S.program d path g) ++ []) ++
        next.rest)) deep
        ∙ ap (λ z. next.first ++ (z ++ next.rest))
        (append-nil (placed_in S.program (instances_below S.program (suc depth) path g)) ∙
        placed_first S.program depth path g)
        ∙ ap (λ z. next.first ++ z) (append_assoc own below next.rest)

    kernel_arrays : S.kernel.arrays ≡
        plain (next.first ++ (placed_from (C.here.calls ++ site ∷ []) 0 (function_at S.program g).arrays ++
        (placed_below S.program depth (C.here.calls ++ site ∷ []) (calls_of_all (function_at S.program g).body) ++
        next.rest)))
    kernel_arrays = arrays ∙ ap plain next_arrays

    first_apart : Elsewhere next.first (C.here.calls ++ site ∷ [])
    first_apart = subst (λ z. Elsewhere next.first z) (append-nil (C.here.calls ++ site ∷ []))
        (next.apart (call_of site g) (inl refl) [])

    place_there : (n : ℕ) → n < length (function_at S.program g).arrays →
        place_among (placed_arrays S.program) (C.here.calls ++ site ∷ []) n ≡ length m.arrays + n
    place_there n less =
        let path = C.here.calls ++ site ∷ [] in
        let a = ap (λ z. place_among z path n) next_arrays in
        let b = place_behind_others next.first (placed_from path 0 (function_at S.program g).arrays ++
        (placed_below S.program depth path (calls_of_all (function_at S.program g).body) ++ next.rest)) path n
        first_apart in
        let c = place_own path 0 n (function_at S.program g).arrays
        (placed_below S.program depth path (calls_of_all (function_at S.program g).body) ++ next.rest) less in
        let zero_is : 0 + n ≡ n = omega arith in
        let d = ap (λ z. place_among (placed_from path 0 (function_at S.program g).arrays ++
        (placed_below S.program depth path (calls_of_all (function_at S.program g).body) ++ next.rest)) path
        z) (sym zero_is) ∙ c in
        let k = next.count in
        omega (arith, a, b, d, k)

    pub under_way : Within S (call_code S.program names (suc C.depth) C.here site g (argument_roots C.here roots)
        values m).made → IsUnderWay S (entered S names C site g roots depth vars m)
    unfolding call_code
    under_way w =
        let f = function_at S.program g in
        let there = way_behind S.program C.here site g (argument_roots C.here roots) in
        let m1 = with_instance there (names_at names g) f m in
        let grown = body_makes Grows grows_same grows_before (λ m of. grows_with OfValue m of)
        (λ m of. grows_with OfFlag m of) (call_code S.program names C.depth) (instance_at there f m)
        (λ s h r v k. calls_grow S.program names C.depth (instance_at there f m) s h r v k) f m1 in
        let all : S.kernel.cells ≡ m1.cells ++ (grown.0 ++ w.more) =
        w.same ∙ ap (λ z. z ++ w.more) grown.1 ∙ append_assoc m1.cells grown.0 w.more in
        record {
          own = λ x kind e. variables_there there.calls there.places g m (grown.0 ++ w.more) all x kind e;
          roots = roots_there;
          arrays = λ n array e. array_there S.kernel next.first _ (C.here.calls ++ site ∷ []) f.arrays
              (length m.arrays) n array kernel_arrays next.count e;
          elements = λ n array e. element_there f.arrays n array e;
          below = instance_below there.calls there.places g m m1 refl;
        }
      where
        roots_there : (root : Root) (at : Space) (element : IntType) →
            RootIs S.program (function_at S.program g) root at element
            → object_of (shell_of S.kernel) S.launch S.item [] (kernel_objects (shell_of S.kernel) S.launch S.item)
            (root_in (entered S names C site g roots depth vars m).here root)
            ≡ object_of S.program S.launch S.item (C.here.calls ++ site ∷ [])
            (λ n. passed_object S.program S.launch (inside S C [] [] vars) (slice_get roots n)) root
        roots_there (Param n) at element h =
            let p = passed_at S.program (function_at S.program C.function) (parameter_kinds (function_at S.program g))
            roots sound.types n (Pointer at element h.0) sound.fit h.1 in
            let one : root_in (entered S names C site g roots depth vars m).here (Param n) ≡ root_in C.here p.0 =
            ap (λ o. unwrap_or o (Param n)) (slice_get-map (argument_root C.here) roots n ∙
            ap (option_map (argument_root C.here)) p.1) in
            ap (object_of (shell_of S.kernel) S.launch S.item [] (kernel_objects (shell_of S.kernel) S.launch S.item))
            one ∙ under.roots p.0 at element p.2
            ∙ sym (ap (passed_object S.program S.launch (inside S C [] [] vars)) p.1)
        roots_there (Constant n) at element h = refl
        roots_there (Local n) at element h =
            absurd (true≢false (sym (local_not h.0.space h.2) ∙ sound.called.no_local n h.0 h.1))
        roots_there (Private n) at element h =
            same_private_object S.program S.kernel arrays parts S.launch S.item (C.here.calls ++ site ∷ [])
            (λ n. passed_object S.program S.launch (inside S C [] [] vars) (slice_get roots n))
            (kernel_objects (shell_of S.kernel) S.launch S.item) n (length m.arrays + n) h.0
            (place_there n (slice_get_within (function_at S.program g).arrays n h.0 h.1))
            (array_there S.kernel next.first (placed_below S.program depth (C.here.calls ++ site ∷ [])
            (calls_of_all (function_at S.program g).body) ++ next.rest) (C.here.calls ++ site ∷ [])
            (function_at S.program g).arrays (length m.arrays) n h.0 kernel_arrays next.count h.1)
            (private_is h.0.space h.2)

    pub next_inside : (m' : Made) → length m'.arrays ≡ length m.arrays + length (function_at S.program g).arrays →
        AreNext S (entered S names C site g roots depth vars m) m' (calls_of_all (function_at S.program g).body)
    next_inside m' more =
        let path = C.here.calls ++ site ∷ [] in
        let own = placed_from path 0 (function_at S.program g).arrays in
        record {
          end = subst (λ d. CallsEnd S.program d g) deep next.end.0;
          first = next.first ++ own;
          rest = next.rest;
          arrays = next_arrays ∙ sym (append_assoc next.first own _);
          count = let a = length-append next.first own in let b =
              length-placed path 0 (function_at S.program g).arrays in let c = next.count in
              omega (arith, a, b, c, more);
          differ = λ n. let a = sites.sites_differ S.program valid g n in let b =
              same_calls_at n (calls_of_all (function_at S.program g).body) in omega (arith, a, b);
          apart = λ c is along.
              elsewhere_append next.first own ((path ++ c.site ∷ []) ++ along)
              (subst (λ z. Elsewhere next.first z) (sym (append_assoc path (c.site ∷ []) along))
              (next.apart (call_of site g) (inl refl) (c.site ∷ along)))
              (own_apart path c.site 0 along (function_at S.program g).arrays);
        }

  -- ---- the kernel's own function

  same_first_local : (group : ℕ) → first_local (shell_of S.kernel) S.launch group ≡ first_local S.program S.launch group
  same_first_local group =
      ap (λ (ts : List Table). first_table S.launch + length ts + group *
      length (local_sizes (shell_of S.kernel) S.launch)) parts.tables
      ∙ ap (λ (ns : List ℕ). first_table S.launch + length S.program.tables + group * length ns)
      (same_locals S.program S.kernel arrays parts S.launch)

  same_local_count : length (local_arrays (shell_of S.kernel)) ≡ length (local_arrays S.program)
  same_local_count =
      let sized : PlacedArray → ℕ = λ (a : PlacedArray). array_bytes a.array in
      let e = ap (λ (ns : List ℕ). length ns) (same_locals S.program S.kernel arrays parts S.launch) in
      let a = length-append (map sized (local_arrays (shell_of S.kernel))) (local_arguments S.launch.args) in
      let b = length-append (map sized (local_arrays S.program)) (local_arguments S.launch.args) in
      let c = length-map (local_arrays (shell_of S.kernel)) sized in
      let d = length-map (local_arrays S.program) sized in
      omega (arith, e, a, b, c, d)

  same_argument : (n : ℕ) (o : Option Bound) →
      argument_object (shell_of S.kernel) S.launch (group_of S.launch S.item) n o ≡ argument_object S.program S.launch
      (group_of S.launch S.item) n o
  same_argument n None = refl
  same_argument n (Some (bound.Buffer b)) = refl
  same_argument n (Some (bound.Value v)) = refl
  same_argument n (Some (bound.Local k)) =
      ap₂ (λ y z. y + z + length (local_arguments (take n S.launch.args)))
      (same_first_local (group_of S.launch S.item)) same_local_count

  own_root : (k : ℕ) (kinds : List VarKind) (n : ℕ) → unwrap_or (slice_get (own_roots k kinds) n) (Param (k + n)) ≡
      Param (k + n)
  own_root k [] n = refl
  own_root k (kind ∷ kinds) zero = ap Param (omega arith)
  own_root k (kind ∷ kinds) (suc n) =
      let same : k + 1 + n ≡ k + suc n = omega arith in
      subst (λ z. unwrap_or (slice_get (own_roots (k + 1) kinds) n) (Param z) ≡ Param z) same (own_root (k + 1) kinds n)

  module _ (depth : ℕ) (deep : length S.program.functions ≡ suc depth) (lowered : S.kernel ≡
      lowered_of S.program names) where
    own_arrays : placed_arrays S.program ≡ placed_from [] 0 (kernel_of S.program).arrays ++
        placed_below S.program depth [] (calls_of_all (kernel_of S.program).body)
    own_arrays = ap (λ d. placed_in S.program (instances_below S.program d [] S.program.kernel)) deep ∙
        placed_first S.program depth [] S.program.kernel

    own_place : (n : ℕ) → n < length (kernel_of S.program).arrays → place_among (placed_arrays S.program) [] n ≡ 0 + n
    own_place n less =
        let c = place_own [] 0 n (kernel_of S.program).arrays
        (placed_below S.program depth [] (calls_of_all (kernel_of S.program).body)) less in
        let zero_is : 0 + n ≡ n = omega arith in
        let d = ap (λ z. place_among (placed_from [] 0 (kernel_of S.program).arrays ++
        placed_below S.program depth [] (calls_of_all (kernel_of S.program).body)) [] z) (sym zero_is) ∙ c in
        let a = ap (λ z. place_among z [] n) own_arrays in
        omega (arith, a, d)

    own_there : (n : ℕ) (array : Array) → slice_get (kernel_of S.program).arrays n ≡ Some array →
        slice_get S.kernel.arrays (0 + n) ≡ Some array
    own_there n array e = array_there S.kernel []
        (placed_below S.program depth [] (calls_of_all (kernel_of S.program).body)) [] (kernel_of S.program).arrays 0
        n array (arrays ∙ ap plain own_arrays) refl e

    pub kernel_under_way : IsUnderWay S (own_activation S names depth)
    kernel_under_way =
        let f = kernel_of S.program in
        let there = kernel_way S.program in
        record {
          own = λ x kind e.
              subst (λ z. IsCellOf S.kernel (record { calls = []; function = S.program.kernel; number = x }) z)
              (omega arith)
              (subst (λ z. IsCellOf z (record { calls = []; function = S.program.kernel; number = x }) x)
              (sym lowered) (own_cell S.program names named x (slice_get_within f.variables x kind e)));
          roots = roots_there;
          arrays = λ n array e. own_there n array e;
          elements = λ n array e. element_there f.arrays n array e;
          below = instance_below [] [] S.program.kernel nothing_made
              (with_instance there (names_at names S.program.kernel) f nothing_made) refl;
        }
      where
        roots_there : (root : Root) (at : Space) (element : IntType) →
            RootIs S.program (kernel_of S.program) root at element
            → object_of (shell_of S.kernel) S.launch S.item [] (kernel_objects (shell_of S.kernel) S.launch S.item)
            (root_in (own_activation S names depth).here root)
            ≡ object_of S.program S.launch S.item [] (kernel_objects S.program S.launch S.item) root
        roots_there (Param n) at element h =
            let zero_is : 0 + n ≡ n = omega arith in
            ap (object_of (shell_of S.kernel) S.launch S.item [] (kernel_objects (shell_of S.kernel) S.launch S.item))
            (subst (λ z. unwrap_or (slice_get (own_roots 0 (parameter_kinds (kernel_of S.program))) n) (Param z) ≡
            Param z) zero_is (own_root 0 (parameter_kinds (kernel_of S.program)) n))
            ∙ same_argument n (slice_get S.launch.args n)
        roots_there (Constant n) at element h = refl
        roots_there (Local n) at element h =
            same_local_object S.program S.kernel arrays parts S.launch S.item []
            (kernel_objects S.program S.launch S.item) (kernel_objects (shell_of S.kernel) S.launch S.item) n
            (0 + n) h.0
            (own_place n (slice_get_within (kernel_of S.program).arrays n h.0 h.1)) (own_there n h.0 h.1)
            (local_not h.0.space h.2)
        roots_there (Private n) at element h =
            same_private_object S.program S.kernel arrays parts S.launch S.item []
            (kernel_objects S.program S.launch S.item) (kernel_objects (shell_of S.kernel) S.launch S.item) n
            (0 + n) h.0
            (own_place n (slice_get_within (kernel_of S.program).arrays n h.0 h.1)) (own_there n h.0 h.1)
            (private_is h.0.space h.2)

    pub kernel_next : (m' : Made) → length m'.arrays ≡ length (kernel_of S.program).arrays →
        AreNext S (own_activation S names depth) m' (calls_of_all (kernel_of S.program).body)
    kernel_next m' more =
        let own = placed_from [] 0 (kernel_of S.program).arrays in
        record {
          end = subst (λ d. CallsEnd S.program d S.program.kernel) deep (valid.calls S.program.kernel valid.kernel);
          first = own;
          rest = [];
          arrays = own_arrays ∙ ap (λ z. own ++ z)
              (sym (append-nil (placed_below S.program depth [] (calls_of_all (kernel_of S.program).body))));
          count = let b = length-placed [] 0 (kernel_of S.program).arrays in omega (arith, b, more);
          differ = λ n. let a = sites.sites_differ S.program valid S.program.kernel n in let b =
              same_calls_at n (calls_of_all (kernel_of S.program).body) in omega (arith, a, b);
          apart = λ c is along. own_apart [] c.site 0 along (kernel_of S.program).arrays;
        }
