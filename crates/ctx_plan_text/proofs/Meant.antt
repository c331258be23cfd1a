-- The lines of a plan are those of the variables that cross, one each and in their order.
use Rattle.std.proofs.Common.{◌≡◌, ℕ, zero, suc, ◌+◌, ◌<◌, ◌≤◌, List, [], ◌∷◌, ◌++◌, Option, Some, None, length, refl}
use Rattle.std.proofs.Common.{sym, ap, ◌∙◌, subst, arith, ◌⊎◌, inl, inr, ⊎_elim, append_assoc}
use Rattle.std.specs.Prelude.{Bool as Test, true, false}
use Rattle.std.specs.Prelude.{◌&&◌, slice_get, nat_eq, codes, if◌then◌else◌}
use Rattle.std.specs.List.{flat_map}
use Rattle.std.proofs.lemmas.Bool.{true≢false, and_parts}
use Rattle.std.proofs.lemmas.Bool.Decides.{nat_tests}
use Rattle.std.proofs.lemmas.Cmp.{nat_list_eq_equiv}
use Rattle.std.proofs.lemmas.Grind.{flat_map-append}
use Rattle.std.proofs.lemmas.Option.{slice_get_within}
use Rattle.std.specs.Cmp.Lexicographic.{same_text}
use lib.Pointwise.{pointwise}
use Rattle.wg_num.specs.declared.types.Place.{Place}
use Rattle.cl_model.specs.Tree.{Program}
use Rattle.cl_model.specs.Calls.{function_at}
use Rattle.cl_model.specs.Lists.{IsOneOf, AllDiffer}
use Rattle.cl_model.specs.Valid.{kind_type, IsValid}
use Rattle.kir.specs.Tree.{Variable, CellKind, OfVariable, OfFlag, OfValue, Cell, Kernel}
use Rattle.kir.specs.Keeps.{names_across, pieces_of, is_made_kind, is_made}
use Rattle.kir.specs.Homes as kir
use Rattle.kir.specs.Homes.{VariableVaries, IsOf, IsCellOf, HasHome, once, column, kept, inner, passing}
use Rattle.kir.specs.Inlined.{Text, NoText, DeclaredThen, CutThen as CutText, BlockThen as BlockText, inlined}
use Rattle.kir.specs.Inlined.{variables_in, crossing_in, has_cut, variables_of, crossing_of, Crosses}
use Rattle.kir.specs.Lowering.{Named, IsNamedCell, HasCells}
use Rattle.ctx_plan.specs.declared.plan.Home.{Home}
use Rattle.ctx_plan.specs.declared.plan.Home.TheVariants as home
use Rattle.ctx_plan.specs.Planned.{Planned, IsPlan}
use Rattle.ctx_plan_correct.proofs.Crosses.{left_one, right_one, either_one}
use Rattle.ctx_plan_text.specs.Lines.{line_at, same_variable, is_kind_of, line_among, plan_lines_of}
use Rattle.ctx_plan_text.specs.Meaning.{once as once_word, item as item_word, IsLineOf, AreLinesOf}
use Rattle.ctx_plan_text.proofs.Distinct.{append_differ, variables_differ}

none_past : {A : Type 0} (xs : List A) (n : ℕ) → slice_get xs n ≡ None → length xs ≤ n
none_past [] n e = omega arith
none_past (x ∷ xs) zero e = absurd (cc)
none_past (x ∷ xs) (suc n) e = let r = none_past xs n e in omega (arith, r)

-- ---- the cell of a variable

same_is : (v w : Variable) → same_variable v w ≡ true → w ≡ v
same_is v w e =
    let a = and_parts (nat_eq w.function v.function) _ e in
    let b = and_parts (nat_eq w.number v.number) _ a.1 in
    let f : w.function ≡ v.function = grind (arith, nat_tests, a.0) in
    let n : w.number ≡ v.number = grind (arith, nat_tests, b.0) in
    let c = same_text w.calls v.calls (sym b.1) in
    let from : (calls : List ℕ) (function number : ℕ) → Variable =
    λ calls function number. record { calls = calls; function = function; number = number } in
    ap (λ l. from l w.function w.number) c ∙
    (ap (λ k. from v.calls k w.number) f ∙ ap (λ k. from v.calls v.function k) n)

is_same : (v : Variable) → same_variable v v ≡ true
is_same v =
    let f : nat_eq v.function v.function ≡ true = grind (arith, nat_tests) in
    let n : nat_eq v.number v.number ≡ true = grind (arith, nat_tests) in
    ap (λ b. b && (nat_eq v.number v.number && pointwise nat_eq v.calls v.calls)) f ∙
    (ap (λ b. b && pointwise nat_eq v.calls v.calls) n ∙ nat_list_eq_equiv.refl v.calls)

kind_is : (v : Variable) (k : CellKind) → is_kind_of v k ≡ true → IsOf v k
kind_is v (OfVariable w path name) e = same_is v w e
kind_is v OfFlag e = absurd (true≢false (sym e))
kind_is v OfValue e = absurd (true≢false (sym e))

-- the line of a variable is that of its cell, where it has one alone
line_found : (homes : List Home) (v : Variable) (n : ℕ) (cells : List Cell) (c : ℕ) (cell : Cell) →
    slice_get cells c ≡ Some cell → is_kind_of v cell.kind ≡ true
    → ((d : ℕ) (other : Cell) → slice_get cells d ≡ Some other → is_kind_of v other.kind ≡ true → d ≡ c) →
    line_among homes v n cells ≡ line_at (slice_get homes (n + c)) cell.kind
line_found homes v n [] c cell at own one = absurd (cc)
line_found homes v n (x ∷ cells) zero cell at own one =
    let same : x ≡ cell = cc in
    let here : n + 0 ≡ n = omega arith in
    ap (λ b. if b then line_at (slice_get homes n) x.kind else line_among homes v (suc n) cells)
    (ap (λ (y : Cell). is_kind_of v y.kind) same ∙ own)
    ∙ (ap (λ (y : Cell). line_at (slice_get homes n) y.kind) same ∙
    ap (λ k. line_at (slice_get homes k) cell.kind) (sym here))
line_found homes v n (x ∷ cells) (suc c) cell at own one =
    by (is_kind_of v x.kind) refl (line_found homes v (suc n) cells c cell at own (λ d other e k.
    let q = one (suc d) other e k in omega (arith, q)))
  where
    by : (b : Test) → is_kind_of v x.kind ≡ b →
        line_among homes v (suc n) cells ≡ line_at (slice_get homes (suc n + c)) cell.kind →
        line_among homes v n (x ∷ cells) ≡ line_at (slice_get homes (n + suc c)) cell.kind
    by true e r = absurd (let q = one zero x refl e in omega (arith, q))
    by false e r =
        let at : suc n + c ≡ n + suc c = omega arith in
        ap (λ b. if b then line_at (slice_get homes n) x.kind else line_among homes v (suc n) cells) e ∙
        (r ∙ ap (λ k. line_at (slice_get homes k) cell.kind) at)

-- ---- variables of a text

if_later : (b : Test) (v w : Variable) (xs : List Variable) → IsOneOf xs w → IsOneOf (if b then v ∷ xs else xs) w
if_later true v w xs h = inr h
if_later false v w xs h = h

if_either : (b : Test) (v w : Variable) (xs : List Variable) → IsOneOf (if b then v ∷ xs else xs) w →
    (v ≡ w) ⊎ IsOneOf xs w
if_either true v w xs h = h
if_either false v w xs h = inr h

if_differ : (b : Test) (v : Variable) (xs : List Variable) → (IsOneOf xs v → ⊥) → AllDiffer xs →
    AllDiffer (if b then v ∷ xs else xs)
if_differ true v xs n d = (n, d)
if_differ false v xs n d = d

crossing_variable : (t : Text) (w : Variable) → IsOneOf (crossing_in t) w → IsOneOf (variables_in t) w
crossing_variable NoText w h = h
crossing_variable (DeclaredThen v rest) w h =
    ⊎_elim (λ e. inl e) (λ k. inr (crossing_variable rest w k)) (if_either (has_cut rest) v w (crossing_in rest) h)
crossing_variable (CutText rest) w h = crossing_variable rest w h
crossing_variable (BlockText inside rest) w h =
    ⊎_elim (λ k. left_one (variables_in inside) (variables_in rest) w (crossing_variable inside w k))
    (λ k. right_one (variables_in inside) (variables_in rest) w (crossing_variable rest w k))
    (either_one (crossing_in inside) (crossing_in rest) w h)

parts_differ : {A : Type 0} (xs ys : List A) → AllDiffer (xs ++ ys) → AllDiffer xs × AllDiffer ys ×
    ((a : A) → IsOneOf xs a → IsOneOf ys a → ⊥)
parts_differ [] ys d = (tt, d, λ a h k. h)
parts_differ (x ∷ xs) ys d =
    let r = parts_differ xs ys d.1 in (
      (λ h. d.0 (left_one xs ys x h), r.0),
      r.1,
      λ a h k. ⊎_elim (λ e. d.0 (right_one xs ys x (subst (IsOneOf ys) (sym e) k))) (λ q. r.2 a q k) h,
    )

among_differ : (t : Text) → AllDiffer (variables_in t) → AllDiffer (crossing_in t)
among_differ NoText d = tt
among_differ (DeclaredThen v rest) d =
    if_differ (has_cut rest) v (crossing_in rest) (λ h. d.0 (crossing_variable rest v h)) (among_differ rest d.1)
among_differ (CutText rest) d = among_differ rest d
among_differ (BlockText inside rest) d =
    let p = parts_differ (variables_in inside) (variables_in rest) d in
    append_differ (crossing_in inside) (crossing_in rest) (among_differ inside p.0) (among_differ rest p.1)
    (λ w h k. p.2 w (crossing_variable inside w h) (crossing_variable rest w k))

module _ (program : Program) (names : List (List Named)) (kernel : Kernel) (plan : Planned)
    (is_plan : IsPlan program kernel plan) (cells : HasCells program names kernel) where
  -- the line of a variable
  abbrev line : Variable → List ℕ
  line v = line_among plan.homes v 0 kernel.cells

  -- a cell of one variable is that of no other
  same_cell : (v w : Variable) (c : ℕ) (path : List Place) (name : List ℕ) (cell : Cell) →
      slice_get kernel.cells c ≡ Some cell → cell.kind ≡ OfVariable v path name → IsCellOf kernel w c → v ≡ w
  same_cell v w c path name cell at kind is =
      let same : is.cell ≡ cell = let a = is.there in cc in
      subst (λ (k : CellKind). IsOf w k) (ap (λ (x : Cell). x.kind) same ∙ kind) is.is_of

  no_made : (o : Option Cell) (cell : Cell) (v : Variable) (path : List Place) (name : List ℕ) → o ≡ Some cell →
      cell.kind ≡ OfVariable v path name → is_made o ≡ true → ⊥
  no_made o cell v path name e kind made = true≢false (sym (sym (ap is_made e ∙ ap is_made_kind kind) ∙ made))

  -- what is said of the line of a variable with a cell: where it crosses it is the variable's, and else there is none
  record Said (v : Variable) : Type 0 where
    crossing : Crosses program v → IsLineOf program names v (line v)
    within : (Crosses program v → ⊥) → line v ≡ []

  said : (v : Variable) → IsOneOf (variables_of program) v → Said v
  said v h =
      let found = cells.each v h in
      let c = found.0 in
      let own = found.1 in
      let cell : Cell =
      record { kind = OfVariable v (own.calls ++ own.entry.place ∷ []) own.entry.name; of = kind_type own.kind } in
      let is = line_found plan.homes v 0 kernel.cells c cell own.cell (is_same v)
      (λ d other e k. cells.one v d c (record { cell = other; there = e; is_of = kind_is v other.kind k })
      (record { cell = cell; there = own.cell; is_of = refl })) in
      let at : 0 + c ≡ c = omega arith in
      by c own (is ∙ ap (λ n. line_at (slice_get plan.homes n) cell.kind) at) (slice_get plan.homes c) refl
    where
      by : (c : ℕ) (own : IsNamedCell program names kernel v c) →
          line v ≡ line_at (slice_get plan.homes c) (OfVariable v (own.calls ++ own.entry.place ∷ []) own.entry.name)
          → (o : Option Home) → slice_get plan.homes c ≡ o → Said v
      by c own is None e = absurd (let a = slice_get_within kernel.cells c _ own.cell in let b = is_plan.one_each in
          let d = none_past plan.homes c e in omega (arith, a, b, d))
      by c own is (Some home.Register) e = at_register (is_plan.homes c home.Register e)
        where
          at_register : HasHome program kernel c kir.Register → Said v
          at_register (inner own_cell never) = record {
            crossing = λ x. absurd (never (subst (Crosses program) (same_cell v _ c _ _ _ own.cell refl own_cell) x));
            within = λ no_cross. is ∙ ap (λ (o : Option Home).
                line_at o (OfVariable v (own.calls ++ own.entry.place ∷ []) own.entry.name)) e;
          }
          at_register (passing made never) = absurd (no_made (slice_get kernel.cells c) _ v _ _ own.cell refl made)
      by c own is (Some (home.Column k)) e = at_column (is_plan.homes c (home.Column k) e)
        where
          at_column : HasHome program kernel c kir.Column → Said v
          at_column (column own_cell x vary) = record {
            crossing = λ _. record {
              word = codes "item";
              is_word =
                  item_word (subst (VariableVaries program) (sym (same_cell v _ c _ _ _ own.cell refl own_cell)) vary);
              entry = own.entry;
              named_so = own.named_so;
              calls = own.calls;
              places = own.places;
              line = is ∙ ap (λ (o : Option Home).
                  line_at o (OfVariable v (own.calls ++ own.entry.place ∷ []) own.entry.name)) e;
            };
            within =
                λ no_cross. absurd (no_cross (subst (Crosses program)
                (sym (same_cell v _ c _ _ _ own.cell refl own_cell)) x));
          }
          at_column (kept keep) = absurd (no_made (slice_get kernel.cells c) _ v _ _ own.cell refl
              (and_parts (is_made (slice_get kernel.cells c)) (names_across c (pieces_of kernel.body)) keep).0)
      by c own is (Some (home.Once s)) e = at_once (is_plan.homes c (home.Once s) e)
        where
          at_once : HasHome program kernel c kir.Once → Said v
          at_once (once own_cell x same) = record {
            crossing = λ _. record {
              word = codes "once";
              is_word =
                  once_word (λ vary. same (subst (VariableVaries program)
                  (same_cell v _ c _ _ _ own.cell refl own_cell) vary));
              entry = own.entry;
              named_so = own.named_so;
              calls = own.calls;
              places = own.places;
              line = is ∙ ap (λ (o : Option Home).
                  line_at o (OfVariable v (own.calls ++ own.entry.place ∷ []) own.entry.name)) e;
            };
            within =
                λ no_cross. absurd (no_cross (subst (Crosses program)
                (sym (same_cell v _ c _ _ _ own.cell refl own_cell)) x));
          }

  -- ---- the lines of a text

  lines_both : (xs ys : List Variable) (a b : List ℕ) → AreLinesOf program names xs a →
      AreLinesOf program names ys b → AreLinesOf program names (xs ++ ys) (a ++ b)
  lines_both [] ys a b h k = subst (AreLinesOf program names ys) (ap (λ l. l ++ b) (sym h)) k
  lines_both (v ∷ xs) ys a b h k =
      (h.0, h.1 ++ b, h.2, lines_both xs ys h.1 b h.3 k, ap (λ l. l ++ b) h.4 ∙ append_assoc h.0 h.1 b)

  declared_lines : (b : Test) (v : Variable) (vars crossing : List Variable) → Said v →
      ((w : Variable) → IsOneOf crossing w → IsOneOf vars w) →
      ((w : Variable) → IsOneOf (if b then v ∷ crossing else crossing) w → Crosses program w)
      → ((w : Variable) → IsOneOf (v ∷ vars) w → Crosses program w →
      IsOneOf (if b then v ∷ crossing else crossing) w) → AllDiffer (v ∷ vars)
      → AreLinesOf program names crossing (flat_map line vars) →
      AreLinesOf program names (if b then v ∷ crossing else crossing) (flat_map line (v ∷ vars))
  declared_lines true v vars crossing s part to from differ r =
      (line v, flat_map line vars, s.crossing (to v (inl refl)), r, refl)
  declared_lines false v vars crossing s part to from differ r =
      subst (AreLinesOf program names crossing)
      (ap (λ l. l ++ flat_map line vars) (sym (s.within (λ x. differ.0 (part v (from v (inl refl) x)))))) r

  -- where each variable of a text that crosses is one that crosses in the text, and no variable comes twice
  lines_in : (t : Text) → ((w : Variable) → IsOneOf (variables_in t) w → IsOneOf (variables_of program) w) →
      ((w : Variable) → IsOneOf (crossing_in t) w → Crosses program w)
      → ((w : Variable) → IsOneOf (variables_in t) w → Crosses program w → IsOneOf (crossing_in t) w) →
      AllDiffer (variables_in t) → AreLinesOf program names (crossing_in t) (flat_map line (variables_in t))
  lines_in NoText all to from differ = refl
  lines_in (DeclaredThen v rest) all to from differ =
      declared_lines (has_cut rest) v (variables_in rest) (crossing_in rest) (said v (all v (inl refl)))
      (crossing_variable rest) to from differ
      (lines_in rest (λ w h. all w (inr h)) (λ w h. to w (if_later (has_cut rest) v w (crossing_in rest) h))
      (λ w h x. ⊎_elim (λ e. absurd (differ.0 (subst (IsOneOf (variables_in rest)) (sym e) h))) (λ k. k)
      (if_either (has_cut rest) v w (crossing_in rest) (from w (inr h) x))) differ.1)
  lines_in (CutText rest) all to from differ = lines_in rest all to from differ
  lines_in (BlockText inside rest) all to from differ =
      let vi = variables_in inside in
      let vr = variables_in rest in
      let ci = crossing_in inside in
      let cr = crossing_in rest in
      let d = parts_differ vi vr differ in
      subst (AreLinesOf program names (ci ++ cr)) (sym (flat_map-append line vi vr))
      (lines_both ci cr (flat_map line vi) (flat_map line vr)
      (lines_in inside (λ w h. all w (left_one vi vr w h)) (λ w h. to w (left_one ci cr w h))
      (λ w h x. ⊎_elim (λ k. k) (λ k. absurd (d.2 w h (crossing_variable rest w k)))
      (either_one ci cr w (from w (left_one vi vr w h) x))) d.0)
      (lines_in rest (λ w h. all w (right_one vi vr w h)) (λ w h. to w (right_one ci cr w h))
      (λ w h x. ⊎_elim (λ k. absurd (d.2 w (crossing_variable inside w k) h)) (λ k. k)
      (either_one ci cr w (from w (right_one vi vr w h) x))) d.1))

  -- a variable of the text is there
  there : (v : Variable) → IsOneOf (variables_of program) v →
      v.number < length (function_at program v.function).variables
  there v h = let own =
      (cells.each v h).1 in slice_get_within (function_at program v.function).variables v.number own.kind own.of_kind

  -- the lines of the plan are those of the variables that cross
  pub lines_meant : IsValid program → AreLinesOf program names (crossing_of program) (plan_lines_of program kernel plan)
  lines_meant valid =
      lines_in (inlined program) (λ w h. h) (λ w h. h) (λ w h x. x) (variables_differ program valid there)

  -- and none of these comes twice
  pub crossing_differ : IsValid program → AllDiffer (crossing_of program)
  crossing_differ valid = among_differ (inlined program) (variables_differ program valid there)
