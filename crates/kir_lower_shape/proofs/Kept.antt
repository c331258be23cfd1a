-- The variables' cells of a lowered kernel: a block for each function as often as it stands in the inlined program.
use Rattle.std.proofs.Common.{◌≡◌, ℕ, zero, suc, ◌+◌, List, [], ◌∷◌, ◌++◌, length, Some, slice_get, refl, sym, ap}
use Rattle.std.proofs.Common.{◌∙◌, subst, append-nil, append_assoc, ◌⊎◌, inl, inr, ⊎_elim}
use Rattle.std.specs.Prelude.{flat_map}
use Rattle.std.proofs.lemmas.Grind.{flat_map-append}
use Rattle.std.proofs.lemmas.List.Concat.{flat_map-cons}
use Rattle.std.proofs.lemmas.Option.{none-some, same_Some}
use Rattle.wg_num.specs.declared.types.IntType.{IntType}
use Rattle.wg_num.specs.declared.types.Place.{Place}
use Rattle.cl_model.specs.declared.program.Root.{Root}
use Rattle.cl_model.specs.declared.program.VarKind.{VarKind}
use Rattle.cl_model.specs.Tree.{Program}
use Rattle.cl_model.specs.Lists.{IsOneOf}
use Rattle.cl_model.specs.Calls.{CallSite, calls_of_all, function_at, kernel_of}
use Rattle.cl_model.specs.Valid.{kind_type}
use Rattle.kir.specs.Tree.{Variable, CellKind, OfVariable, OfFlag, OfValue, Cell}
use Rattle.kir.specs.Homes.{IsOf}
use Rattle.kir.specs.Lowering.{Named}
use Rattle.kir_lower.specs.declared.places.Value.{Value}
use Rattle.kir_lower.specs.Made.{Made, with_cell, variable_cells}
use Rattle.kir_lower.specs.Made as low
use Rattle.kir_lower.specs.Whole.{names_at, place_at, way_behind, instance_at, with_instance, call_code, kernel_way}
use Rattle.kir_lower.specs.Whole.{nothing_made, lowered_of}
use Rattle.kir_lower_shape.proofs.Making.{call_of, body_makes}

-- a cell before others, where it is a variable's
abbrev kept_with : CellKind → Cell → List Cell → List Cell
kept_with (OfVariable variable path name) c rest = c ∷ rest
kept_with OfFlag c rest = rest
kept_with OfValue c rest = rest

-- the cells of variables
abbrev pub kept : List Cell → List Cell
kept [] = []
kept (c ∷ cells) = kept_with c.kind c (kept cells)

kept_with_more : (kind : CellKind) (c : Cell) (xs ys : List Cell) →
    kept_with kind c (xs ++ ys) ≡ kept_with kind c xs ++ ys
kept_with_more (OfVariable variable path name) c xs ys = refl
kept_with_more OfFlag c xs ys = refl
kept_with_more OfValue c xs ys = refl

kept_append : (xs ys : List Cell) → kept (xs ++ ys) ≡ kept xs ++ kept ys
kept_append [] ys = refl
kept_append (c ∷ xs) ys = ap (kept_with c.kind c) (kept_append xs ys) ∙ kept_with_more c.kind c (kept xs) (kept ys)

kept_variables : (calls : List ℕ) (places : List Place) (function x : ℕ) (names : List Named) (kinds : List VarKind) →
    kept (variable_cells calls places function x names kinds) ≡ variable_cells calls places function x names kinds
kept_variables calls places function x [] kinds = refl
kept_variables calls places function x (n ∷ names) [] = refl
kept_variables calls places function x (n ∷ names) (kind ∷ kinds) =
    ap (λ z. record {
      kind = OfVariable (record { calls = calls; function = function; number = x })
          (places ++ n.place ∷ []) n.name;
      of = kind_type kind;
    } ∷ z)
    (kept_variables calls places function (x + 1) names kinds)

kept_in_with : (kind : CellKind) (c : Cell) (xs : List Cell) (e : Cell) → IsOneOf xs e → IsOneOf (kept_with kind c xs) e
kept_in_with (OfVariable variable path name) c xs e h = inr h
kept_in_with OfFlag c xs e h = h
kept_in_with OfValue c xs e h = h

kept_this : (kind : CellKind) (v : Variable) (c e : Cell) (xs : List Cell) → IsOf v kind → c ≡ e →
    IsOneOf (kept_with kind c xs) e
kept_this (OfVariable variable path name) v c e xs is same = inl same
kept_this OfFlag v c e xs is same = absurd is
kept_this OfValue v c e xs is same = absurd is

-- a variable's cell is kept
pub kept_in : (v : Variable) (xs : List Cell) (e : Cell) → IsOneOf xs e → IsOf v e.kind → IsOneOf (kept xs) e
kept_in v [] e h is = absurd h
kept_in v (c ∷ xs) e (inl same) is =
    kept_this c.kind v c e (kept xs) (subst (λ (z : Cell). IsOf v z.kind) (sym same) is) same
kept_in v (c ∷ xs) e (inr h) is = kept_in_with c.kind c (kept xs) e (kept_in v xs e h is)

kept_out_with : (kind : CellKind) (c : Cell) (xs : List Cell) (e : Cell) → IsOneOf (kept_with kind c xs) e →
    (c ≡ e) ⊎ IsOneOf xs e
kept_out_with (OfVariable variable path name) c xs e h = h
kept_out_with OfFlag c xs e h = inr h
kept_out_with OfValue c xs e h = inr h

pub kept_out : (xs : List Cell) (e : Cell) → IsOneOf (kept xs) e → IsOneOf xs e
kept_out [] e h = absurd h
kept_out (c ∷ xs) e h = ⊎_elim (λ same. inl same) (λ k. inr (kept_out xs e k)) (kept_out_with c.kind c (kept xs) e h)

-- ---- no two cells of one variable

abbrev pub ApartCells : List Cell → Type 0
ApartCells [] = Unit {0}
ApartCells (c ∷ cells) =
    ((v : Variable) (e : Cell) → IsOf v c.kind → IsOneOf cells e → IsOf v e.kind → ⊥) × ApartCells cells

pub apart_append : (xs ys : List Cell) → ApartCells xs → ApartCells ys →
    ((v : Variable) (d e : Cell) → IsOneOf xs d → IsOf v d.kind → IsOneOf ys e → IsOf v e.kind → ⊥) →
    ApartCells (xs ++ ys)
apart_append [] ys h k f = k
apart_append (c ∷ xs) ys h k f =
    ((λ v e is i at. first v e is at i), apart_append xs ys h.1 k (λ v d e i is j at. f v d e (inr i) is j at))
  where
    split : (zs : List Cell) (e : Cell) → IsOneOf (zs ++ ys) e → IsOneOf zs e ⊎ IsOneOf ys e
    split [] e i = inr i
    split (z ∷ zs) e (inl same) = inl (inl same)
    split (z ∷ zs) e (inr i) = ⊎_elim (λ j. inl (inr j)) (λ j. inr j) (split zs e i)

    first : (v : Variable) (e : Cell) → IsOf v c.kind → IsOf v e.kind → IsOneOf (xs ++ ys) e → ⊥
    first v e is at i = ⊎_elim (λ j. h.0 v e is j at) (λ j. f v c e (inl refl) is j at) (split xs e i)

apart_with : (kind : CellKind) (c : Cell) (xs : List Cell) → ApartCells (kept_with kind c (kept xs)) →
    ((v : Variable) (e : Cell) → IsOf v kind → IsOneOf xs e → IsOf v e.kind → c.kind ≡ kind → ⊥) × ApartCells (kept xs)
apart_with (OfVariable variable path name) c xs h =
    ((λ v e is i at same. h.0 v e (subst (IsOf v) (sym same) is) (kept_in v xs e i at) at), h.1)
apart_with OfFlag c xs h = ((λ v e is i at same. absurd is), h)
apart_with OfValue c xs h = ((λ v e is i at same. absurd is), h)

-- where the kept cells are apart, all are
pub apart_all : (xs : List Cell) → ApartCells (kept xs) → ApartCells xs
apart_all [] h = tt
apart_all (c ∷ xs) h = let p = apart_with c.kind c xs h in ((λ v e is i at. p.0 v e is i at refl), apart_all xs p.1)

pub one_of_get : {A : Type 0} (xs : List A) (n : ℕ) (x : A) → slice_get xs n ≡ Some x → IsOneOf xs x
one_of_get [] n x e = absurd (none-some x e)
one_of_get (y ∷ xs) zero x e = inl (same_Some y x e)
one_of_get (y ∷ xs) (suc n) x e = inr (one_of_get xs n x e)

pub get_of_one : {A : Type 0} (xs : List A) (x : A) → IsOneOf xs x → (n : ℕ) × (slice_get xs n ≡ Some x)
get_of_one [] x h = absurd h
get_of_one (y ∷ xs) x (inl e) = (zero, ap (λ z. Some z) e)
get_of_one (y ∷ xs) x (inr h) = let k = get_of_one xs x h in (suc k.0, k.1)

-- so a variable has one cell
pub apart_one : (xs : List Cell) → ApartCells xs → (v : Variable) (c d : ℕ) (a b : Cell) → slice_get xs c ≡ Some a →
    IsOf v a.kind → slice_get xs d ≡ Some b → IsOf v b.kind → c ≡ d
apart_one [] h v c d a b e is f at = absurd (none-some a e)
apart_one (x ∷ xs) h v zero zero a b e is f at = refl
apart_one (x ∷ xs) h v zero (suc d) a b e is f at =
    absurd (h.0 v b (subst (λ (z : Cell). IsOf v z.kind) (sym (same_Some x a e)) is) (one_of_get xs d b f) at)
apart_one (x ∷ xs) h v (suc c) zero a b e is f at =
    absurd (h.0 v a (subst (λ (z : Cell). IsOf v z.kind) (sym (same_Some x b f)) at) (one_of_get xs c a e) is)
apart_one (x ∷ xs) h v (suc c) (suc d) a b e is f at = ap suc (apart_one xs h.1 v c d a b e is f at)

-- ---- the cells of a program

module _ (program : Program) (names : List (List Named)) where
  -- the cells of the variables of a function behind these calls, at these places, and of those that it calls, with
  -- calls nested less deep than the depth
  abbrev pub cells_below : ℕ → List ℕ → List Place → ℕ → List Cell
  cells_below zero calls places f = []
  cells_below (suc depth) calls places f =
      variable_cells calls places f 0 (names_at names f) (function_at program f).variables
      ++ flat_map (λ (c : CallSite). cells_below depth (calls ++ c.site ∷ []) (places ++ place_at program c.site ∷ [])
      c.function) (calls_of_all (function_at program f).body)

  -- those that calls add
  abbrev pub called_cells : ℕ → List ℕ → List Place → List CallSite → List Cell
  called_cells depth calls places list =
      flat_map (λ (c : CallSite). cells_below depth (calls ++ c.site ∷ []) (places ++ place_at program c.site ∷ [])
      c.function) list

  abbrev Added : ℕ → List ℕ → List Place → List CallSite → Made → Made → Type 0
  Added depth calls places list a b = kept b.cells ≡ kept a.cells ++ called_cells depth calls places list

  added_same : (depth : ℕ) (calls : List ℕ) (places : List Place) (m : Made) → Added depth calls places [] m m
  added_same depth calls places m = sym (append-nil (kept m.cells))

  added_before : (depth : ℕ) (calls : List ℕ) (places : List Place) (xs ys : List CallSite) (a b c : Made) →
      Added depth calls places xs a b → Added depth calls places ys b c → Added depth calls places (xs ++ ys) a c
  added_before depth calls places xs ys a b c h k =
      k ∙ ap (λ z. z ++ called_cells depth calls places ys) h ∙
      append_assoc (kept a.cells) (called_cells depth calls places xs) (called_cells depth calls places ys)
      ∙ ap (λ z. kept a.cells ++ z) (sym
      (flat_map-append (λ (c : CallSite). cells_below depth (calls ++ c.site ∷ [])
      (places ++ place_at program c.site ∷ []) c.function) xs ys))

  added_value : (depth : ℕ) (calls : List ℕ) (places : List Place) (m : Made) (of : IntType) →
      Added depth calls places [] m (with_cell m OfValue of)
  added_value depth calls places m of = kept_append m.cells (record { kind = OfValue; of = of } ∷ [])

  added_flag : (depth : ℕ) (calls : List ℕ) (places : List Place) (m : Made) (of : IntType) →
      Added depth calls places [] m (with_cell m OfFlag of)
  added_flag depth calls places m of = kept_append m.cells (record { kind = OfFlag; of = of } ∷ [])

  -- the cells of a function that is there
  inside_kept : (calls : List ℕ) (places : List Place) (f : ℕ) (cells : List Cell) →
      kept (cells ++ variable_cells calls places f 0 (names_at names f) (function_at program f).variables) ≡
      kept cells ++ variable_cells calls places f 0 (names_at names f) (function_at program f).variables
  inside_kept calls places f cells =
      kept_append cells (variable_cells calls places f 0 (names_at names f) (function_at program f).variables)
      ∙ ap (λ z. kept cells ++ z) (kept_variables calls places f 0 (names_at names f) (function_at program f).variables)

  call_adds : (depth : ℕ) (here : low.Instance) (site function : ℕ) (roots : List Root) (values : List Value) (m : Made)
      → kept (call_code program names depth here site function roots values m).made.cells ≡ kept m.cells ++
      cells_below depth (here.calls ++ site ∷ []) (here.places ++ place_at program site ∷ []) function
  unfolding call_code
  call_adds zero here site function roots values m = sym (append-nil (kept m.cells))
  call_adds (suc depth) here site function roots values m =
      let way = way_behind program here site function roots in
      let f = function_at program function in
      let inside = with_instance way (names_at names function) f m in
      let own = variable_cells way.calls way.places function 0 (names_at names function) f.variables in
      body_makes (Added depth way.calls way.places) (added_same depth way.calls way.places)
      (added_before depth way.calls way.places) (added_value depth way.calls way.places)
      (added_flag depth way.calls way.places) (call_code program names depth) (instance_at way f m)
      (λ site function roots values n. call_adds depth (instance_at way f m) site function roots values n
      ∙ ap (λ z. kept n.cells ++ z) (sym
      (flat_map-cons (λ (c : CallSite). cells_below depth (way.calls ++ c.site ∷ []) (way.places ++
      place_at program c.site ∷ []) c.function) (call_of site function) [] ∙
      append-nil (cells_below depth (way.calls ++ site ∷ []) (way.places ++ place_at program site ∷ [])
      function)))) f inside
      ∙ ap (λ z. z ++ called_cells depth way.calls way.places (calls_of_all f.body))
      (inside_kept way.calls way.places function m.cells)
      ∙ append_assoc (kept m.cells) own (called_cells depth way.calls way.places (calls_of_all f.body))

  -- the variables' cells of the kernel
  pub kernel_cells : kept (lowered_of program names).cells ≡ cells_below (suc (length program.functions)) [] []
      program.kernel
  unfolding lowered_of
  kernel_cells =
      let depth = length program.functions in
      let way = kernel_way program in
      let f = kernel_of program in
      let inside = with_instance way (names_at names program.kernel) f nothing_made in
      body_makes (Added depth [] []) (added_same depth [] []) (added_before depth [] []) (added_value depth [] [])
      (added_flag depth [] []) (call_code program names depth) (instance_at way f nothing_made)
      (λ site function roots values n. call_adds depth (instance_at way f nothing_made) site function roots values n
      ∙ ap (λ z. kept n.cells ++ z) (sym
      (flat_map-cons (λ (c : CallSite). cells_below depth ([] ++ c.site ∷ []) ([] ++ place_at program c.site ∷
      []) c.function) (call_of site function) [] ∙
      append-nil (cells_below depth ([] ++ site ∷ []) ([] ++ place_at program site ∷ []) function)))) f inside
      ∙ ap (λ z. z ++ called_cells depth [] [] (calls_of_all f.body)) (inside_kept [] [] program.kernel [])
