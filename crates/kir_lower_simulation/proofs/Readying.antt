-- What is known of a part of the text is known of its own parts.
use Rattle.std.proofs.Common.{◌≡◌, ℕ, zero, suc, ◌+◌, ◌<◌, List, [], ◌∷◌, ◌++◌, length, refl, sym, ap, ◌∙◌, subst}
use Rattle.std.proofs.Common.{arith, length-append, append_assoc, append-nil, inl, inr, true, false, eq-eqb, ne_eqb}
use Rattle.std.proofs.Common.{if◌then◌else◌}
use Rattle.std.specs.Prelude.{nat_eq, ◌&&◌, flat_map}
use Rattle.std.proofs.lemmas.List.Concat.{flat_map-cons}
use Rattle.std.proofs.lemmas.Grind.{flat_map-append}
use Rattle.cl_model.specs.Calls.{CallSite, function_at, Instance, instances_below, calls_of_all}
use Rattle.cl_model.specs.Lists.{IsOneOf, Each}
use Rattle.cl_model.specs.Objects.{PlacedArray, placed_from, place_among, same_path}
use Rattle.cl_model.specs.Tree.{Array, Program}
use Rattle.kir_lower.specs.Made.{Made}
use Rattle.kir_lower_simulation.specs.Setting.{Setting, Activation}
use Rattle.kir_lower_simulation.specs.Ready.{AreNext, Adds, Elsewhere, placed_below, calls_at}

-- ---- lists of calls

pub each_left : (P : CallSite → Type 0) (xs ys : List CallSite) → Each P (xs ++ ys) → Each P xs
each_left P [] ys h = tt
each_left P (x ∷ xs) ys h = (h.0, each_left P xs ys h.1)

pub each_right : (P : CallSite → Type 0) (xs ys : List CallSite) → Each P (xs ++ ys) → Each P ys
each_right P [] ys h = h
each_right P (x ∷ xs) ys h = each_right P xs ys h.1

one_left : (xs ys : List CallSite) (c : CallSite) → IsOneOf xs c → IsOneOf (xs ++ ys) c
one_left [] ys c h = absurd h
one_left (x ∷ xs) ys c (inl e) = inl e
one_left (x ∷ xs) ys c (inr h) = inr (one_left xs ys c h)

one_right : (xs ys : List CallSite) (c : CallSite) → IsOneOf ys c → IsOneOf (xs ++ ys) c
one_right [] ys c h = h
one_right (x ∷ xs) ys c h = inr (one_right xs ys c h)

calls_at_append : (n : ℕ) (xs ys : List CallSite) → calls_at n (xs ++ ys) ≡ calls_at n xs + calls_at n ys
calls_at_append n [] ys = omega arith
calls_at_append n (x ∷ xs) ys = let h = calls_at_append n xs ys in omega (arith, h)

one_call_at : (xs : List CallSite) (c : CallSite) → IsOneOf xs c → 0 < calls_at c.site xs
one_call_at [] c h = absurd h
one_call_at (x ∷ xs) c (inl e) = let k : (if nat_eq x.site c.site then 1 else 0) ≡ suc 0 =
    ap {B = ℕ} (λ b. if b then 1 else 0) (eq-eqb x.site c.site (ap (λ (z : CallSite). z.site) e)) in omega (arith, k)
one_call_at (x ∷ xs) c (inr h) = let k = one_call_at xs c h in omega (arith, k)

placed_append : (program : Program) (depth : ℕ) (path : List ℕ) (xs ys : List CallSite) →
    placed_below program depth path (xs ++ ys) ≡ placed_below program depth path xs ++
    placed_below program depth path ys
placed_append program depth path [] ys = refl
placed_append program depth path (x ∷ xs) ys =
    let own = flat_map (λ (i : Instance). placed_from i.path 0 (function_at program i.function).arrays)
    (instances_below program depth (path ++ x.site ∷ []) x.function) in
    ap (λ z. own ++ z) (placed_append program depth path xs ys) ∙
    sym (append_assoc own (placed_below program depth path xs) (placed_below program depth path ys))

-- ---- arrays elsewhere

pub elsewhere_append : (xs ys : List PlacedArray) (path : List ℕ) → Elsewhere xs path → Elsewhere ys path →
    Elsewhere (xs ++ ys) path
elsewhere_append [] ys path h k = k
elsewhere_append (a ∷ xs) ys path h k = (h.0, elsewhere_append xs ys path h.1 k)

-- the place of an array behind those that are elsewhere
pub place_behind_others : (xs ys : List PlacedArray) (path : List ℕ) (n : ℕ) → Elsewhere xs path →
    place_among (xs ++ ys) path n ≡ length xs + place_among ys path n
place_behind_others [] ys path n h = omega arith
place_behind_others (a ∷ xs) ys path n h =
    let k = place_behind_others xs ys path n h.1 in
    let e : place_among (a ∷ (xs ++ ys)) path n ≡ suc (place_among (xs ++ ys) path n) =
    ap (λ b. if b && nat_eq a.number n then 0 else suc (place_among (xs ++ ys) path n)) h.0 in
    omega (arith, e, k)

-- ways that part after a common beginning
paths_part : (path : List ℕ) (a b : ℕ) (xs ys : List ℕ) → (a ≡ b → ⊥) →
    same_path ((path ++ a ∷ []) ++ xs) ((path ++ b ∷ []) ++ ys) ≡ false
paths_part [] a b xs ys h = ap (λ t. t && same_path xs ys) (ne_eqb a b h)
paths_part (x ∷ path) a b xs ys h =
    ap (λ t. t && same_path ((path ++ a ∷ []) ++ xs) ((path ++ b ∷ []) ++ ys)) (eq-eqb x x refl) ∙
    paths_part path a b xs ys h

-- the arrays of a function are elsewhere than behind a call by which they are not reached
own_elsewhere : (start : List ℕ) (a b : ℕ) (along path : List ℕ) (k : ℕ) (arrays : List Array) → (a ≡ b → ⊥) →
    Elsewhere (placed_from ((start ++ a ∷ []) ++ along) k arrays) ((start ++ b ∷ []) ++ path)
own_elsewhere start a b along path k [] h = tt
own_elsewhere start a b along path k (x ∷ arrays) h =
    (paths_part start a b along path h, own_elsewhere start a b along path (suc k) arrays h)

-- the arrays of instances
abbrev placed_in : Program → List Instance → List PlacedArray
placed_in program list = flat_map (λ (i : Instance). placed_from i.path 0 (function_at program i.function).arrays) list

calls_elsewhere : (program : Program) (depth : ℕ) (start : List ℕ) (a b : ℕ) (along path : List ℕ) →
    ((to : List ℕ) (f : ℕ) → Elsewhere (placed_in program (instances_below program depth ((start ++ a ∷ []) ++ to) f))
    ((start ++ b ∷ []) ++ path))
    → (calls : List CallSite) → Elsewhere
    (placed_in program (flat_map (λ (c : CallSite). instances_below program depth (((start ++ a ∷ []) ++ along) ++
    c.site ∷ []) c.function) calls)) ((start ++ b ∷ []) ++ path)
calls_elsewhere program depth start a b along path each [] = tt
calls_elsewhere program depth start a b along path each (c ∷ calls) =
    let place = λ (i : Instance). placed_from i.path 0 (function_at program i.function).arrays in
    let below =
    λ (c : CallSite). instances_below program depth (((start ++ a ∷ []) ++ along) ++ c.site ∷ []) c.function in
    let same = append_assoc (start ++ a ∷ []) along (c.site ∷ []) in
    subst (λ z. Elsewhere (flat_map place z) ((start ++ b ∷ []) ++ path)) (sym (flat_map-cons below c calls))
    (subst (λ z. Elsewhere z ((start ++ b ∷ []) ++ path)) (sym (flat_map-append place (below c) (flat_map below calls)))
    (elsewhere_append (flat_map place (below c)) (flat_map place (flat_map below calls)) ((start ++ b ∷ []) ++ path)
    (subst (λ z. Elsewhere (flat_map place (instances_below program depth z c.function)) ((start ++ b ∷ []) ++ path))
    (sym same) (each (along ++ c.site ∷ []) c.function))
    (calls_elsewhere program depth start a b along path each calls)))

-- and so are those of the functions that it calls
below_elsewhere : (program : Program) (depth : ℕ) (start : List ℕ) (a b : ℕ) (path : List ℕ) → (a ≡ b → ⊥) →
    (along : List ℕ) (f : ℕ) → Elsewhere
    (placed_in program (instances_below program depth ((start ++ a ∷ []) ++ along) f)) ((start ++ b ∷ []) ++ path)
below_elsewhere program zero start a b path h along f = tt
below_elsewhere program (suc depth) start a b path h along f =
    let own = placed_from ((start ++ a ∷ []) ++ along) 0 (function_at program f).arrays in
    let further = flat_map (λ (c : CallSite). instances_below program depth (((start ++ a ∷ []) ++ along) ++ c.site ∷
    []) c.function) (calls_of_all (function_at program f).body) in
    subst (λ z. Elsewhere z ((start ++ b ∷ []) ++ path))
    (sym (flat_map-cons (λ (i : Instance). placed_from i.path 0 (function_at program i.function).arrays)
    (record { path = (start ++ a ∷ []) ++ along; function = f }) further))
    (elsewhere_append own _ ((start ++ b ∷ []) ++ path)
    (own_elsewhere start a b along path 0 (function_at program f).arrays h)
    (calls_elsewhere program depth start a b along path (below_elsewhere program depth start a b path h)
    (calls_of_all (function_at program f).body)))

placed_elsewhere : (program : Program) (depth : ℕ) (start : List ℕ) (b : ℕ) (path : List ℕ) (calls : List CallSite) →
    calls_at b calls ≡ 0 → Elsewhere (placed_below program depth start calls) ((start ++ b ∷ []) ++ path)
placed_elsewhere program depth start b path [] h = tt
placed_elsewhere program depth start b path (c ∷ calls) h =
    let place = λ (i : Instance). placed_from i.path 0 (function_at program i.function).arrays in
    elsewhere_append (flat_map place (instances_below program depth (start ++ c.site ∷ []) c.function))
    (placed_below program depth start calls) ((start ++ b ∷ []) ++ path)
    (subst (λ z. Elsewhere (flat_map place (instances_below program depth z c.function)) ((start ++ b ∷ []) ++ path))
    (append-nil (start ++ c.site ∷ []))
    (below_elsewhere program depth start c.site b path (λ e. let k = test_one (eq-eqb c.site b e) in
    omega (arith, h, k)) [] c.function))
    (placed_elsewhere program depth start b path calls (omega (arith, h)))
  where
    test_one : nat_eq c.site b ≡ true → (if nat_eq c.site b then 1 else 0) ≡ suc 0
    test_one e = ap {B = ℕ} (λ t. if t then 1 else 0) e

-- ---- calls in order

pub next_left : (S : Setting) (C : Activation) (m : Made) (xs ys : List CallSite) → AreNext S C m (xs ++ ys) →
    AreNext S C m xs
next_left S C m xs ys h = record {
  end = each_left _ xs ys h.end;
  first = h.first;
  rest = placed_below S.program C.depth C.here.calls ys ++ h.rest;
  arrays = h.arrays ∙ ap (λ z. h.first ++ z)
      (ap (λ z. z ++ h.rest) (placed_append S.program C.depth C.here.calls xs ys) ∙
      append_assoc (placed_below S.program C.depth C.here.calls xs) (placed_below S.program C.depth C.here.calls ys)
      h.rest);
  count = h.count;
  differ = λ n. let k = h.differ n in let e = calls_at_append n xs ys in omega (arith, k, e);
  apart = λ c i path. h.apart c (one_left xs ys c i) path;
}

pub next_right : (S : Setting) (C : Activation) (a b : Made) (xs ys : List CallSite) → AreNext S C a (xs ++ ys) →
    Adds S C xs a b → AreNext S C b ys
next_right S C a b xs ys h adds =
    let placed = placed_below S.program C.depth C.here.calls in
    record {
      end = each_right _ xs ys h.end;
      first = h.first ++ placed xs;
      rest = h.rest;
      arrays = h.arrays ∙ ap (λ z. h.first ++ z)
          (ap (λ z. z ++ h.rest) (placed_append S.program C.depth C.here.calls xs ys) ∙
          append_assoc (placed xs) (placed ys) h.rest) ∙ sym (append_assoc h.first (placed xs) (placed ys ++ h.rest));
      count = let l = length-append h.first (placed xs) in let k = adds (each_left _ xs ys h.end) in let m =
          h.count in omega (arith, l, k, m);
      differ = λ n. let k = h.differ n in let e = calls_at_append n xs ys in omega (arith, k, e);
      apart = λ c i path. elsewhere_append h.first (placed xs) ((C.here.calls ++ c.site ∷ []) ++ path)
          (h.apart c (one_right xs ys c i) path)
          (placed_elsewhere S.program C.depth C.here.calls c.site path xs (let k = h.differ c.site in
          let e = calls_at_append c.site xs ys in let o = one_call_at ys c i in omega (arith, k, e, o)));
    }

-- what is made adds up
pub adds_same : (S : Setting) (C : Activation) (m : Made) → Adds S C [] m m
adds_same S C m end = omega arith

pub adds_before : (S : Setting) (C : Activation) (xs ys : List CallSite) (a b c : Made) → Adds S C xs a b →
    Adds S C ys b c → Adds S C (xs ++ ys) a c
adds_before S C xs ys a b c h k end =
    let p = h (each_left _ xs ys end) in
    let q = k (each_right _ xs ys end) in
    let l = length-append (placed_below S.program C.depth C.here.calls xs)
    (placed_below S.program C.depth C.here.calls ys) in
    let e = ap (λ z. length z) (placed_append S.program C.depth C.here.calls xs ys) in
    omega (arith, p, q, l, e)
