-- Each variable of the inlined program has one cell of a lowered kernel, and there is no other cell of a variable.
use Rattle.std.proofs.Common.{◌≡◌, ℕ, zero, suc, ◌+◌, ◌<◌, ◌≤◌, List, [], ◌∷◌, ◌++◌, length, Some, unwrap_or, refl}
use Rattle.std.proofs.Common.{sym, ap, ◌∙◌, subst, arith, append-nil, append_assoc, length-append, inl, inr, ⊎_elim}
use Rattle.std.proofs.lemmas.List.Concat.{flat_map-cons}
use Rattle.wg_num.specs.declared.types.Place.{Place}
use Rattle.cl_model.specs.declared.program.VarKind.{VarKind}
use Rattle.cl_model.specs.Tree.{Program}
use Rattle.cl_model.specs.Lists.{IsOneOf, Each}
use Rattle.cl_model.specs.Calls.{CallSite, calls_of_all, function_at}
use Rattle.cl_model.specs.Valid.{IsValid, CallsEnd, kind_type}
use Rattle.kir.specs.Tree.{Variable, OfVariable, Cell}
use Rattle.kir.specs.Homes.{IsOf, IsCellOf}
use Rattle.kir.specs.Inlined.{variables_of}
use Rattle.kir.specs.Lowering.{Named, named, kind_in, ArePlaces, no_site, one_more, IsNamedCell, HasCells}
use Rattle.kir_lower.specs.Made.{variable_cells}
use Rattle.kir_lower.specs.Whole.{names_at, place_at, no_place, lowered_of}
use Rattle.kir_lower_shape.specs.Names.{AreNamed}
use Rattle.kir_lower_shape.proofs.Members.{one_left, one_right, one_split, once_same}
use Rattle.kir_lower_shape.proofs.Variables.{cell_named, get_there, variable_at}
use Rattle.kir_lower_shape.proofs.Below.{IsBelow, text_below, below_text}
use Rattle.kir_lower_shape.proofs.CallSites.{calls_at, sites_differ, one_call_at, site_within}
use Rattle.kir_lower_shape.proofs.Kept.{kept_in, kept_out, ApartCells, apart_append, apart_all, one_of_get, get_of_one}
use Rattle.kir_lower_shape.proofs.Kept.{apart_one, cells_below, called_cells, kernel_cells}

-- ---- one depth more

each_at : {A : Type 0} (P : A → Type 0) (xs : List A) (x : A) → Each P xs → IsOneOf xs x → P x
each_at P [] x h i = absurd i
each_at P (y ∷ xs) x h (inl e) = subst P e h.0
each_at P (y ∷ xs) x h (inr i) = each_at P xs x h.1 i

below_less : (program : Program) (depth : ℕ) (path : List ℕ) (f : ℕ) (v : Variable) → CallsEnd program depth f →
    IsBelow program (suc depth) path f v → IsBelow program depth path f v
below_less program zero path f v e h = absurd e
below_less program (suc depth) path f v e (inl own) = inl own
below_less program (suc depth) path f v e (inr found) =
    inr (
      found.0,
      found.1,
      below_less program depth (path ++ found.0.site ∷ []) found.0.function v
          (each_at (λ (c : CallSite). CallsEnd program depth c.function) (calls_of_all (function_at program f).body)
          found.0 e found.1) found.2,
    )

below_more : (program : Program) (depth : ℕ) (path : List ℕ) (f : ℕ) (v : Variable) → IsBelow program depth path f v →
    IsBelow program (suc depth) path f v
below_more program zero path f v h = absurd h
below_more program (suc depth) path f v (inl own) = inl own
below_more program (suc depth) path f v (inr found) =
    inr (found.0, found.1, below_more program depth (path ++ found.0.site ∷ []) found.0.function v found.2)

-- the calls that lead to the function lead to its variables
below_path : (program : Program) (depth : ℕ) (path : List ℕ) (f : ℕ) (v : Variable) → IsBelow program depth path f v →
    (rest : List ℕ) × (v.calls ≡ path ++ rest)
below_path program zero path f v h = absurd h
below_path program (suc depth) path f v (inl own) = ([], ap (λ (z : Variable). z.calls) own.2 ∙ sym (append-nil path))
below_path program (suc depth) path f v (inr found) =
    let k = below_path program depth (path ++ found.0.site ∷ []) found.0.function v found.2 in
    (found.0.site ∷ k.0, k.1 ∙ append_assoc path (found.0.site ∷ []) k.0)

-- ---- cells and variables

module _ (program : Program) (names : List (List Named)) where
  own_is : (calls : List ℕ) (places : List Place) (f x : ℕ) (list : List Named) (kinds : List VarKind) (v : Variable)
      (e : Cell) → IsOneOf (variable_cells calls places f x list kinds) e → IsOf v e.kind
      → (n : ℕ) × (n < length kinds) × (v ≡ record { calls = calls; function = f; number = x + n })
  own_is calls places f x [] kinds v e h is = absurd h
  own_is calls places f x (m ∷ list) [] v e h is = absurd h
  own_is calls places f x (m ∷ list) (kind ∷ kinds) v e (inl same) is =
      let k : record { calls = calls; function = f; number = x } ≡ v =
      subst (λ (z : Cell). IsOf v z.kind) (sym same) is in (
        zero,
        omega arith,
        sym k ∙ ap (λ (z : ℕ). let w : Variable = record {
          calls = calls;
          function = f;
          number = z;
        } in w) (omega arith),
      )
  own_is calls places f x (m ∷ list) (kind ∷ kinds) v e (inr h) is =
      let k = own_is calls places f (x + 1) list kinds v e h is in (
        suc k.0,
        omega (arith, k.1),
        k.2 ∙
            ap (λ (z : ℕ). let w : Variable = record { calls = calls; function = f; number = z } in w) (omega arith),
      )

  called_split : (depth : ℕ) (calls : List ℕ) (places : List Place) (list : List CallSite) (e : Cell) →
      IsOneOf (called_cells program names depth calls places list) e
      → (c : CallSite) × IsOneOf list c ×
      IsOneOf (cells_below program names depth (calls ++ c.site ∷ []) (places ++ place_at program c.site ∷ [])
      c.function) e
  called_split depth calls places [] e h = absurd h
  called_split depth calls places (c ∷ list) e h =
      ⊎_elim (λ k. (c, inl refl, k)) (λ k. let r = called_split depth calls places list e k in (r.0, inr r.1, r.2))
      (one_split (cells_below program names depth (calls ++ c.site ∷ []) (places ++ place_at program c.site ∷ [])
      c.function) (called_cells program names depth calls places list) e
      (subst (λ z. IsOneOf z e) (flat_map-cons (λ (c : CallSite). cells_below program names depth (calls ++ c.site ∷
      []) (places ++ place_at program c.site ∷ []) c.function) c list) h))

  called_join : (depth : ℕ) (calls : List ℕ) (places : List Place) (list : List CallSite) (c : CallSite) (e : Cell) →
      IsOneOf list c → IsOneOf (cells_below program names depth (calls ++ c.site ∷ [])
      (places ++ place_at program c.site ∷ []) c.function) e
      → IsOneOf (called_cells program names depth calls places list) e
  called_join depth calls places [] c e i h = absurd i
  called_join depth calls places (d ∷ list) c e (inl same) h =
      subst (λ z. IsOneOf z e) (sym (flat_map-cons (λ (c : CallSite).
      cells_below program names depth (calls ++ c.site ∷ []) (places ++ place_at program c.site ∷ [])
      c.function) d list))
      (one_left _ _ e (subst (λ (z : CallSite).
      IsOneOf (cells_below program names depth (calls ++ z.site ∷ []) (places ++ place_at program z.site ∷
      []) z.function) e) (sym same) h))
  called_join depth calls places (d ∷ list) c e (inr i) h =
      subst (λ z. IsOneOf z e) (sym (flat_map-cons (λ (c : CallSite).
      cells_below program names depth (calls ++ c.site ∷ []) (places ++ place_at program c.site ∷ [])
      c.function) d list))
      (one_right _ _ e (called_join depth calls places list c e i h))

  -- a cell of a variable is that of one below
  cell_below : (depth : ℕ) (calls : List ℕ) (places : List Place) (f : ℕ) (v : Variable) (e : Cell) →
      IsOneOf (cells_below program names depth calls places f) e → IsOf v e.kind → IsBelow program depth calls f v
  cell_below zero calls places f v e h is = absurd h
  cell_below (suc depth) calls places f v e h is =
      ⊎_elim (λ k. let o = own_is calls places f 0 (names_at names f) (function_at program f).variables v e k is in
      inl (
        o.0,
        o.1,
        o.2 ∙ ap (λ (z : ℕ). let w : Variable = record { calls = calls; function = f; number = z } in
            w) (omega arith),
      ))
      (λ k. let r = called_split depth calls places (calls_of_all (function_at program f).body) e k in
      inr (
        r.0,
        r.1,
        cell_below depth (calls ++ r.0.site ∷ []) (places ++ place_at program r.0.site ∷ [])
            r.0.function v e r.2 is,
      ))
      (one_split (variable_cells calls places f 0 (names_at names f) (function_at program f).variables)
      (called_cells program names depth calls places (calls_of_all (function_at program f).body)) e h)

  -- ---- apart

  own_apart : (calls : List ℕ) (places : List Place) (f x : ℕ) (list : List Named) (kinds : List VarKind) →
      ApartCells (variable_cells calls places f x list kinds)
  own_apart calls places f x [] kinds = tt
  own_apart calls places f x (m ∷ list) [] = tt
  own_apart calls places f x (m ∷ list) (kind ∷ kinds) = (
    (λ v e is h at. let k = own_is calls places f (x + 1) list kinds v e h at in
        let same : x ≡ (x + 1) + k.0 = ap (λ (z : Variable). z.number) (is ∙ k.2) in absurd (omega (arith, same))),
    own_apart calls places f (x + 1) list kinds,
  )

  longer : (path : List ℕ) (site : ℕ) (rest : List ℕ) → path ≡ (path ++ site ∷ []) ++ rest → ⊥
  longer path site rest e =
      let a : length path ≡ length ((path ++ site ∷ []) ++ rest) = ap (λ (z : List ℕ). length z) e in
      let b = length-append (path ++ site ∷ []) rest in
      let c = length-append path (site ∷ []) in
      omega (arith, a, b, c)

  -- ways that are one have one first step behind a common part
  first_step : (path : List ℕ) (a b : ℕ) (xs ys : List ℕ) → (path ++ a ∷ []) ++ xs ≡ (path ++ b ∷ []) ++ ys → a ≡ b
  first_step [] a b xs ys e = ap (λ (z : List ℕ). head_of z) e
    where
      head_of : List ℕ → ℕ
      head_of [] = 0
      head_of (n ∷ ns) = n
  first_step (p ∷ path) a b xs ys e = first_step path a b xs ys (ap (λ (z : List ℕ). tail_of z) e)
    where
      tail_of : List ℕ → List ℕ
      tail_of [] = []
      tail_of (n ∷ ns) = ns

  -- the cells of two calls
  calls_apart : (depth : ℕ) (calls : List ℕ) (places : List Place) (list : List CallSite) →
      ((n : ℕ) → calls_at n list ≤ 1) →
      ((c : CallSite) → ApartCells (cells_below program names depth (calls ++ c.site ∷ [])
      (places ++ place_at program c.site ∷ []) c.function))
      → ApartCells (called_cells program names depth calls places list)
  calls_apart depth calls places [] few each = tt
  calls_apart depth calls places (c ∷ list) few each =
      subst ApartCells (sym (flat_map-cons (λ (c : CallSite). cells_below program names depth (calls ++ c.site ∷ [])
      (places ++ place_at program c.site ∷ []) c.function) c list))
      (apart_append (cells_below program names depth (calls ++ c.site ∷ []) (places ++ place_at program c.site ∷ [])
      c.function) (called_cells program names depth calls places list) (each c)
      (calls_apart depth calls places list (λ n. let k = few n in omega arith) each)
      (λ v d e i is j at.
      let r = called_split depth calls places list e j in
      let one = below_path program depth (calls ++ c.site ∷ []) c.function v
      (cell_below depth (calls ++ c.site ∷ []) (places ++ place_at program c.site ∷ []) c.function v d i is) in
      let two = below_path program depth (calls ++ r.0.site ∷ []) r.0.function v
      (cell_below depth (calls ++ r.0.site ∷ []) (places ++ place_at program r.0.site ∷ []) r.0.function v e r.2
      at) in
      let same : c.site ≡ r.0.site = first_step calls c.site r.0.site one.0 two.0 (sym one.1 ∙ two.1) in
      let k = few c.site in
      let there : 0 < calls_at c.site list = subst (λ z. 0 < calls_at z list) (sym same) (one_call_at list r.0 r.1) in
      let here = once_same c.site in
      absurd (omega (arith, k, there, here))))

  below_apart : IsValid program → (depth : ℕ) (calls : List ℕ) (places : List Place) (f : ℕ) →
      ApartCells (cells_below program names depth calls places f)
  below_apart valid zero calls places f = tt
  below_apart valid (suc depth) calls places f =
      let list = calls_of_all (function_at program f).body in
      apart_append (variable_cells calls places f 0 (names_at names f) (function_at program f).variables)
      (called_cells program names depth calls places list)
      (own_apart calls places f 0 (names_at names f) (function_at program f).variables)
      (calls_apart depth calls places list (sites_differ program valid f)
      (λ c. below_apart valid depth (calls ++ c.site ∷ []) (places ++ place_at program c.site ∷ []) c.function))
      (λ v d e i is j at.
      let o = own_is calls places f 0 (names_at names f) (function_at program f).variables v d i is in
      let r = called_split depth calls places list e j in
      let two = below_path program depth (calls ++ r.0.site ∷ []) r.0.function v
      (cell_below depth (calls ++ r.0.site ∷ []) (places ++ place_at program r.0.site ∷ []) r.0.function v e r.2
      at) in
      longer calls r.0.site two.0 (sym (ap (λ (z : Variable). z.calls) o.2) ∙ two.1))

  -- ---- names

  places_more : (site : ℕ) → site < length program.sites → (calls : List ℕ) (places : List Place) →
      ArePlaces program.sites calls places →
      ArePlaces program.sites (calls ++ site ∷ []) (places ++ place_at program site ∷ [])
  places_more site less calls places no_site =
      let k = get_there program.sites site less in
      one_more (k.1 ∙ ap (λ z. Some z) (sym (ap (λ z. unwrap_or z no_place) k.1))) no_site
  places_more site less calls places (one_more {rest = rest} {places = others} e h) =
      one_more e (places_more site less rest others h)

  -- a variable below has a cell with its name
  abbrev NamedBelow : ℕ → List ℕ → List Place → ℕ → Variable → Type 0
  NamedBelow depth calls places f v =
      (entry : Named) × (kind : VarKind) × (path : List Place) × (named names v ≡ Some entry) ×
      (kind_in program v ≡ Some kind) × ArePlaces program.sites v.calls path
      × IsOneOf (cells_below program names depth calls places f)
      (record { kind = OfVariable v (path ++ entry.place ∷ []) entry.name; of = kind_type kind })

  named_below : IsValid program → AreNamed program names →
      (depth : ℕ) (calls : List ℕ) (places : List Place) (f : ℕ) (v : Variable) →
      ArePlaces program.sites calls places → IsBelow program depth calls f v → NamedBelow depth calls places f v
  named_below valid named_ zero calls places f v at h = absurd h
  named_below valid named_ (suc depth) calls places f v at (inl own) =
      let count = named_ f in
      let name = get_there (names_at names f) own.0 (omega (arith, own.1, count)) in
      let kind = get_there (function_at program f).variables own.0 own.1 in
      let there = variable_at calls places f 0 (names_at names f) (function_at program f).variables own.0 name.0
      kind.0 name.1 kind.1 in
      let zero_n : 0 + own.0 ≡ own.0 = omega arith in
      subst (NamedBelow (suc depth) calls places f) (sym own.2) (
        name.0,
        kind.0,
        places,
        name.1,
        kind.1,
        at,
        one_left (variable_cells calls places f 0 (names_at names f) (function_at program f).variables)
            (called_cells program names depth calls places (calls_of_all (function_at program f).body))
            (cell_named calls places f own.0 name.0 kind.0)
            (one_of_get (variable_cells calls places f 0 (names_at names f) (function_at program f).variables) own.0
            (cell_named calls places f own.0 name.0 kind.0) (there ∙
            ap (λ z. Some (cell_named calls places f z name.0 kind.0)) zero_n)),
      )
  named_below valid named_ (suc depth) calls places f v at (inr found) =
      let c = found.0 in
      let k = named_below valid named_ depth (calls ++ c.site ∷ []) (places ++ place_at program c.site ∷ [])
      c.function v (places_more c.site (site_within program valid f c found.1) calls places at) found.2 in (
        k.0,
        k.1,
        k.2,
        k.3,
        k.4,
        k.5,
        one_right (variable_cells calls places f 0 (names_at names f) (function_at program f).variables)
            (called_cells program names depth calls places (calls_of_all (function_at program f).body)) _
            (called_join depth calls places (calls_of_all (function_at program f).body) c _ found.1 k.6),
      )

  -- ---- the whole

  module _ (valid : IsValid program) (named_ : AreNamed program names) where
    each : (v : Variable) → IsOneOf (variables_of program) v →
        (c : ℕ) × IsNamedCell program names (lowered_of program names) v c
    each v h =
        let below = below_more program (length program.functions) [] program.kernel v
        (text_below program valid (length program.functions) [] program.kernel v h) in
        let k = named_below valid named_ (suc (length program.functions)) [] [] program.kernel v no_site below in
        let cell : Cell = record { kind = OfVariable v (k.2 ++ k.0.place ∷ []) k.0.name; of = kind_type k.1 } in
        let at = get_of_one (lowered_of program names).cells cell (kept_out (lowered_of program names).cells cell
        (subst (λ z. IsOneOf z cell) (sym (kernel_cells program names)) k.6)) in (
          at.0,
          record {
            entry = k.0;
            named_so = k.3;
            kind = k.1;
            of_kind = k.4;
            calls = k.2;
            places = k.5;
            cell = at.1;
          },
        )

    all_apart : ApartCells (lowered_of program names).cells
    all_apart = apart_all (lowered_of program names).cells (subst ApartCells (sym (kernel_cells program names))
        (below_apart valid (suc (length program.functions)) [] [] program.kernel))

    no_other : (v : Variable) (c : ℕ) → IsCellOf (lowered_of program names) v c → IsOneOf (variables_of program) v
    no_other v c h =
        let k = kept_in v (lowered_of program names).cells h.cell (one_of_get (lowered_of program names).cells c
        h.cell h.there) h.is_of in
        let below = cell_below (suc (length program.functions)) [] [] program.kernel v h.cell
        (subst (λ z. IsOneOf z h.cell) (kernel_cells program names) k) h.is_of in
        below_text program valid (length program.functions) [] program.kernel v
        (below_less program (length program.functions) [] program.kernel v
        (valid.calls program.kernel valid.kernel) below)

    cells_are : HasCells program names (lowered_of program names)
    cells_are = record {
      each = each;
      one = λ v c d a b. apart_one (lowered_of program names).cells all_apart v c d a.cell b.cell a.there a.is_of
          b.there b.is_of;
      no_other = no_other;
    }

-- each variable of the inlined program is one cell, and there is no other cell of a variable
pub has_cells : (program : Program) (names : List (List Named)) → IsValid program → AreNamed program names →
    HasCells program names (lowered_of program names)
has_cells program names valid named_ = cells_are program names valid named_
