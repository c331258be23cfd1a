-- The arrays of a lowered kernel are those of the inlined program, in its order.
use Rattle.std.proofs.Common.{◌≡◌, ℕ, zero, suc, List, [], ◌∷◌, ◌++◌, map, refl, sym, ap, ap₂, ◌∙◌, length}
use Rattle.std.proofs.Common.{append-nil, append_assoc, subst, arith}
use Rattle.std.specs.Prelude.{flat_map}
use Rattle.std.proofs.lemmas.Grind.{flat_map-append}
use Rattle.std.proofs.lemmas.List.Concat.{flat_map-cons}
use Rattle.std.proofs.lemmas.List.{map-append}
use Rattle.cl_model.specs.declared.program.Root.{Root}
use Rattle.cl_model.specs.Tree.{Array, Program}
use Rattle.cl_model.specs.Calls.{CallSite, calls_of_all, function_at, kernel_of, Instance, instances_below}
use Rattle.cl_model.specs.Lists.{Each}
use Rattle.cl_model.specs.Valid.{IsValid, CallsEnd}
use Rattle.cl_model.specs.Objects.{PlacedArray, placed_from}
use Rattle.kir.specs.Lowering.{Named, HasArrays}
use Rattle.kir_lower.specs.declared.places.Value.{Value}
use Rattle.kir_lower.specs.Made.{Made}
use Rattle.kir_lower.specs.Made as low
use Rattle.kir_lower.specs.Whole.{names_at, way_behind, instance_at, with_instance, call_code, kernel_way}
use Rattle.kir_lower.specs.Whole.{nothing_made, lowered_of}
use Rattle.kir_lower_shape.proofs.Making.{call_of, body_makes}

-- the arrays of a function and of those that it calls, with calls nested less deep than the depth
abbrev pub arrays_below : Program → ℕ → ℕ → List Array
arrays_below program zero f = []
arrays_below program (suc depth) f =
    (function_at program f).arrays ++ flat_map (λ (c : CallSite). arrays_below program depth c.function)
    (calls_of_all (function_at program f).body)

-- what calls add, one after another
abbrev pub called_arrays : Program → ℕ → List CallSite → List Array
called_arrays program depth calls = flat_map (λ (c : CallSite). arrays_below program depth c.function) calls

module _ (program : Program) (names : List (List Named)) where
  -- what stands between has these arrays more
  abbrev Added : ℕ → List CallSite → Made → Made → Type 0
  Added depth calls a b = b.arrays ≡ a.arrays ++ called_arrays program depth calls

  added_before : (depth : ℕ) (xs ys : List CallSite) (a b c : Made) → Added depth xs a b → Added depth ys b c →
      Added depth (xs ++ ys) a c
  added_before depth xs ys a b c h k =
      k ∙ ap (λ z. z ++ called_arrays program depth ys) h ∙
      append_assoc a.arrays (called_arrays program depth xs) (called_arrays program depth ys)
      ∙ ap (λ z. a.arrays ++ z) (sym (flat_map-append (λ (c : CallSite). arrays_below program depth c.function) xs ys))

  -- a call adds the arrays of its function and of those that it calls
  pub call_adds : (depth : ℕ) (here : low.Instance) (site function : ℕ) (roots : List Root) (values : List Value)
      (m : Made)
      → (call_code program names depth here site function roots values m).made.arrays ≡ m.arrays ++
      arrays_below program depth function
  unfolding call_code
  call_adds zero here site function roots values m = sym (append-nil m.arrays)
  call_adds (suc depth) here site function roots values made =
      let way = way_behind program here site function roots in
      let f = function_at program function in
      let inside = with_instance way (names_at names function) f made in
      body_makes (Added depth) (λ m. sym (append-nil m.arrays)) (added_before depth)
      (λ m of. sym (append-nil m.arrays)) (λ m of. sym (append-nil m.arrays)) (call_code program names depth)
      (instance_at way f made)
      (λ site function roots values m. call_adds depth (instance_at way f made) site function roots values m ∙
      ap (λ z. m.arrays ++ z) (sym (flat_map-cons (λ (c : CallSite). arrays_below program depth c.function)
      (call_of site function) [] ∙ append-nil (arrays_below program depth function)))) f inside
      ∙ append_assoc made.arrays f.arrays (called_arrays program depth (calls_of_all f.body))

abbrev plain : List PlacedArray → List Array
plain xs = map (λ (a : PlacedArray). a.array) xs

plain_from : (path : List ℕ) (number : ℕ) (arrays : List Array) → plain (placed_from path number arrays) ≡ arrays
plain_from path number [] = refl
plain_from path number (a ∷ rest) = ap (λ z. a ∷ z) (plain_from path (suc number) rest)

-- the arrays of instances
abbrev placed_in : Program → List Instance → List PlacedArray
placed_in program list = flat_map (λ (i : Instance). placed_from i.path 0 (function_at program i.function).arrays) list

calls_place : (program : Program) (depth : ℕ) →
    ((path : List ℕ) (f : ℕ) → plain (placed_in program (instances_below program depth path f)) ≡
    arrays_below program depth f) → (path : List ℕ) (calls : List CallSite)
    →
    plain (placed_in program (flat_map (λ (c : CallSite). instances_below program depth (path ++ c.site ∷ [])
    c.function) calls)) ≡ called_arrays program depth calls
calls_place program depth each path [] = refl
calls_place program depth each path (c ∷ calls) =
    let first = instances_below program depth (path ++ c.site ∷ []) c.function in
    let further = flat_map (λ (c : CallSite). instances_below program depth (path ++ c.site ∷ []) c.function) calls in
    ap (λ z. plain (placed_in program z))
    (flat_map-cons (λ (c : CallSite). instances_below program depth (path ++ c.site ∷ []) c.function) c calls)
    ∙ ap plain (flat_map-append (λ (i : Instance). placed_from i.path 0 (function_at program i.function).arrays) first
    further)
    ∙ map-append (λ (a : PlacedArray). a.array) (placed_in program first) (placed_in program further)
    ∙ ap₂ (λ y z. y ++ z) (each (path ++ c.site ∷ []) c.function) (calls_place program depth each path calls)
    ∙ sym (flat_map-cons (λ (c : CallSite). arrays_below program depth c.function) c calls)

-- the arrays of the instances below are those that are added
instances_place : (program : Program) (depth : ℕ) (path : List ℕ) (f : ℕ) →
    plain (placed_in program (instances_below program depth path f)) ≡ arrays_below program depth f
instances_place program zero path f = refl
instances_place program (suc depth) path f =
    let body = (function_at program f).body in
    let further = flat_map (λ (c : CallSite). instances_below program depth (path ++ c.site ∷ []) c.function)
    (calls_of_all body) in
    ap plain (flat_map-cons (λ (i : Instance). placed_from i.path 0 (function_at program i.function).arrays)
    (record { path = path; function = f }) further)
    ∙ map-append (λ (a : PlacedArray). a.array) (placed_from path 0 (function_at program f).arrays)
    (placed_in program further)
    ∙ ap₂ (λ y z. y ++ z) (plain_from path 0 (function_at program f).arrays)
    (calls_place program depth (instances_place program depth) path (calls_of_all body))

-- the kernel adds them behind none, as a call of it would with calls nested one deeper
kernel_adds : (program : Program) (names : List (List Named)) →
    (lowered_of program names).arrays ≡ (kernel_of program).arrays ++ called_arrays program (length program.functions)
    (calls_of_all (kernel_of program).body)
unfolding lowered_of
kernel_adds program names =
    let f = kernel_of program in
    let way = kernel_way program in
    let depth = length program.functions in
    body_makes (Added program names depth) (λ m. sym (append-nil m.arrays)) (added_before program names depth)
    (λ m of. sym (append-nil m.arrays)) (λ m of. sym (append-nil m.arrays)) (call_code program names depth)
    (instance_at way f nothing_made)
    (λ site function roots values m. call_adds program names depth (instance_at way f nothing_made) site function
    roots values m ∙ ap (λ z. m.arrays ++ z)
    (sym (flat_map-cons (λ (c : CallSite). arrays_below program depth c.function) (call_of site function) [] ∙
    append-nil (arrays_below program depth function)))) f (with_instance way (names_at names program.kernel)
    f nothing_made)

-- where calls nest less deep than the depth, one level more adds nothing
mutual_step : (program : Program) (depth : ℕ) →
    ((f : ℕ) → CallsEnd program depth f → arrays_below program (suc depth) f ≡ arrays_below program depth f)
    → (calls : List CallSite) → Each (λ (c : CallSite). CallsEnd program depth c.function) calls →
    called_arrays program (suc depth) calls ≡ called_arrays program depth calls
mutual_step program depth each [] h = refl
mutual_step program depth each (c ∷ calls) h =
    flat_map-cons (λ (c : CallSite). arrays_below program (suc depth) c.function) c calls
    ∙ ap₂ (λ y z. y ++ z) (each c.function h.0) (mutual_step program depth each calls h.1)
    ∙ sym (flat_map-cons (λ (c : CallSite). arrays_below program depth c.function) c calls)

deep_enough : (program : Program) (depth f : ℕ) → CallsEnd program depth f →
    arrays_below program (suc depth) f ≡ arrays_below program depth f
deep_enough program zero f h = absurd h
deep_enough program (suc depth) f h =
    ap (λ z. (function_at program f).arrays ++ z) (mutual_step program depth (deep_enough program depth)
    (calls_of_all (function_at program f).body) h)

-- at a depth that is one more than another
arrays_from : (program : Program) (names : List (List Named)) (d : ℕ) → length program.functions ≡ suc d →
    CallsEnd program (suc d) program.kernel → HasArrays program (lowered_of program names)
arrays_from program names d e h =
    let calls = calls_of_all (kernel_of program).body in
    kernel_adds program names
    ∙ ap (λ n. (kernel_of program).arrays ++ called_arrays program n calls) e
    ∙ ap (λ z. (kernel_of program).arrays ++ z) (mutual_step program d (deep_enough program d) calls h)
    ∙ sym (instances_place program (suc d) [] program.kernel)
    ∙ ap (λ n. plain (placed_in program (instances_below program n [] program.kernel))) (sym e)

-- the local and private arrays are those of the inlined program, one each and in its order
pub has_arrays : (program : Program) (names : List (List Named)) → IsValid program →
    HasArrays program (lowered_of program names)
has_arrays program names valid = go (length program.functions) refl
  where
    go : (n : ℕ) → length program.functions ≡ n → HasArrays program (lowered_of program names)
    go zero e = let k = valid.kernel in absurd (omega (arith, k, e))
    go (suc d) e = arrays_from program names d e (subst (λ n. CallsEnd program n program.kernel) e
        (valid.calls program.kernel valid.kernel))
