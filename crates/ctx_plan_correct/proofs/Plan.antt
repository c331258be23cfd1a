-- The plan of a kernel that comes from a valid program is what the definitions say.
use Rattle.std.proofs.Common.{◌≡◌, ℕ, zero, suc, ◌+◌, ◌<◌, ◌≤◌, List, [], ◌∷◌, ◌++◌, Option, Some, length, refl, sym}
use Rattle.std.proofs.Common.{ap, ◌∙◌, subst, arith, ◌⊎◌, inl, inr, ⊎_elim, unwrap_or}
use Rattle.std.specs.Prelude.{Bool as Test, true, false}
use Rattle.std.specs.Prelude.{◌&&◌, ◌≢◌, slice_get, if◌then◌else◌}
use Rattle.std.proofs.lemmas.Bool.{true≢false, and_parts}
use Rattle.cl_model.specs.Tree.{Program}
use Rattle.cl_model.specs.Calls.{function_at}
use Rattle.cl_model.specs.Lists.{IsOneOf}
use Rattle.cl_model.specs.Valid.{IsValid}
use Rattle.kir.specs.Tree.{Variable, CellKind, OfVariable, OfFlag, OfValue, Cell, Kernel}
use Rattle.kir.specs.Keeps.{pieces_of, names_across, is_made_kind, is_made, is_keep, keep_count}
use Rattle.kir.specs.Inlined.{Text, NoText, DeclaredThen, CutThen as CutText, BlockThen as BlockText, inlined}
use Rattle.kir.specs.Inlined.{variables_in, variables_of, declared_in, scopes_in, scopes_of, Crosses, AreDisjoint}
use Rattle.kir.specs.Homes as kir
use Rattle.kir.specs.Homes.{VariableVaries, IsCellOf, HasHome, once, column, kept, inner, passing}
use Rattle.kir.specs.Lowering.{Named, HasCells}
use Rattle.ctx_plan.specs.declared.plan.Home.{Home}
use Rattle.ctx_plan.specs.declared.plan.Home.TheVariants as home
use Rattle.ctx_plan.specs.declared.cells.Kept.TheVariants as keeping
use Rattle.ctx_plan.specs.Homes.{sort_of}
use Rattle.ctx_plan.specs.Points.{entry}
use Rattle.ctx_plan.specs.Sharing.{holding_of, Shares, row, crossing_of, shares_of}
use Rattle.ctx_plan.specs.Naming.{named_from}
use Rattle.ctx_plan.specs.Made.{number_at, taken_behind, columns_for, columns_of_kind, columns_onto, Placed, plan_of}
use Rattle.ctx_plan.specs.Planned.{AreVarying, StandTogether, IsCounted, IsPlan}
use Rattle.ctx_plan_correct.specs.Scopes.{marked, column_of, IsFull}
use Rattle.ctx_plan_correct.proofs.Crossing.{entry_crosses, crosses_entry}
use Rattle.ctx_plan_correct.proofs.Crosses.{left_one, right_one, either_one, crosses_own, own_crosses}
use Rattle.ctx_plan_correct.proofs.Shared.{crossing_row, entry_both}
use Rattle.ctx_plan_correct.proofs.Scopes.{scopes_full, has_scope}
use Rattle.ctx_plan_correct.proofs.Homes.{kept_home, made_home, home_for, stage, at_cell, keeps_apart, least_columns}
use Rattle.ctx_plan_correct.proofs.Homes.{columns_counted, onto_each, onto_some, entry_named}

-- ---- lists

entry_some : (l : List Test) (x : ℕ) → entry l x ≡ true → slice_get l x ≡ Some true
entry_some [] x e = absurd (true≢false (sym e))
entry_some (b ∷ l) zero e = ap Some e
entry_some (b ∷ l) (suc x) e = entry_some l x e

some_entry : (l : List Test) (x : ℕ) → slice_get l x ≡ Some true → entry l x ≡ true
some_entry [] x e = absurd (cc)
some_entry (b ∷ l) zero e = ap (λ o. unwrap_or o false) e
some_entry (b ∷ l) (suc x) e = some_entry l x e

get_within : {A : Type 0} (xs : List A) (n : ℕ) (a : A) → slice_get xs n ≡ Some a → n < length xs
get_within [] n a e = absurd (cc)
get_within (x ∷ xs) zero a e = omega arith
get_within (x ∷ xs) (suc n) a e = let r = get_within xs n a e in omega (arith, r)

true_or_false : (b : Test) → (b ≡ true) ⊎ (b ≡ false)
true_or_false true = inl refl
true_or_false false = inr refl

and_true : (a b : Test) → a ≡ true → b ≡ true → (a && b) ≡ true
and_true true b e f = f
and_true false b e f = e

declared_variable : (t : Text) (v : Variable) → IsOneOf (declared_in t) v → IsOneOf (variables_in t) v
declared_variable NoText v h = h
declared_variable (DeclaredThen w rest) v h = ⊎_elim (λ e. inl e) (λ k. inr (declared_variable rest v k)) h
declared_variable (CutText rest) v h = declared_variable rest v h
declared_variable (BlockText inside rest) v h =
    right_one (variables_in inside) (variables_in rest) v (declared_variable rest v h)

-- the variables of a scope are those around, or stand in the text
scope_variable : (around : List Variable) (t : Text) (scope : List Variable) → IsOneOf (scopes_in around t) scope →
    (v : Variable) → IsOneOf scope v → IsOneOf around v ⊎ IsOneOf (variables_in t) v
scope_variable around NoText scope h v k = absurd h
scope_variable around (DeclaredThen w rest) scope h v k =
    ⊎_elim (λ a. inl a) (λ b. inr (inr b)) (scope_variable around rest scope h v k)
scope_variable around (CutText rest) scope h v k = scope_variable around rest scope h v k
scope_variable around (BlockText inside rest) scope h v k =
    let own = declared_in inside ++ around in
    let from : IsOneOf own v → IsOneOf around v ⊎ IsOneOf (variables_in inside ++ variables_in rest) v =
    (λ m. ⊎_elim (λ d. inr (left_one (variables_in inside) (variables_in rest) v (declared_variable inside v d)))
    (λ a. inl a) (either_one (declared_in inside) around v m)) in
    ⊎_elim (λ e. from (subst (λ (s : List Variable). IsOneOf s v) (sym e) k))
    (λ m. ⊎_elim (λ i. ⊎_elim from (λ b. inr (left_one (variables_in inside) (variables_in rest) v b))
    (scope_variable own inside scope i v k))
    (λ r. ⊎_elim (λ a. inl a) (λ b. inr (right_one (variables_in inside) (variables_in rest) v b))
    (scope_variable around rest scope r v k)) (either_one (scopes_in own inside) (scopes_in around rest) scope
    m)) h

-- ---- the plan

module _ (program : Program) (names : List (List Named)) (kernel : Kernel) (varying : List (List Test))
    (valid : IsValid program) (cells : HasCells program names kernel) (varies : AreVarying program varying) where
  abbrev s : Shares
  s = shares_of program varying

  abbrev across : List Test
  across = named_from 0 (length kernel.cells) (pieces_of kernel.body)

  abbrev start : Placed
  start = record { list = []; columns = columns_onto (shares_of program varying) varying kernel.cells 0; slots = 0 }

  abbrev before : ℕ → Placed
  before c = stage (shares_of program varying) varying (named_from 0 (length kernel.cells) (pieces_of kernel.body)) 0
      kernel.cells start c

  -- what the plan says of a variable
  abbrev crossing : Variable → Test
  crossing v = entry (row (shares_of program varying).crossing v.function) v.number

  abbrev varying_so : Variable → Test
  varying_so v = entry (row varying v.function) v.number

  cell_variable : (v : Variable) (c : ℕ) → IsCellOf kernel v c → IsOneOf (variables_of program) v ×
      (v.number < length (function_at program v.function).variables)
  cell_variable v c h =
      let one = cells.no_other v c h in let n =
      (cells.each v one).1 in (one, get_within (function_at program v.function).variables v.number n.kind n.of_kind)

  crosses_so : (v : Variable) → IsOneOf (variables_of program) v → crossing v ≡ true → Crosses program v
  crosses_so v one e =
      own_crosses program (length program.functions) [] program.kernel (omega arith)
      (valid.calls program.kernel valid.kernel) v one
      (entry_crosses (holding_of program.functions) (function_at program v.function) v.number
      (ap (λ (l : List Test). entry l v.number) (sym (crossing_row program varying v.function)) ∙ e))

  so_crosses : (v : Variable) (c : ℕ) → IsCellOf kernel v c → Crosses program v → crossing v ≡ true
  so_crosses v c h x =
      ap (λ (l : List Test). entry l v.number) (crossing_row program varying v.function)
      ∙ crosses_entry (holding_of program.functions) (function_at program v.function) v.number (cell_variable v c h).1
      (crosses_own program (length program.functions) [] program.kernel (omega arith)
      (valid.calls program.kernel valid.kernel) v x)

  varies_so : (v : Variable) → varying_so v ≡ true → VariableVaries program v
  varies_so v e = (varies v).0 (entry_some (row varying v.function) v.number e)

  so_varies : (v : Variable) → VariableVaries program v → varying_so v ≡ true
  so_varies v h = some_entry (row varying v.function) v.number ((varies v).1 h)

  marked_so : (v : Variable) → crossing v ≡ true → varying_so v ≡ true →
      marked program varying v.function v.number ≡ true
  marked_so v e f =
      entry_both 0 (crossing_of (holding_of program.functions) (function_at program v.function))
      (row varying v.function) v.number
      ∙ and_true (entry (crossing_of (holding_of program.functions) (function_at program v.function)) v.number)
      (entry (row varying v.function) (0 + v.number))
      (ap (λ (l : List Test). entry l v.number) (sym (crossing_row program varying v.function)) ∙ e)
      (let q : 0 + v.number ≡ v.number = omega arith in ap (entry (row varying v.function)) q ∙ f)

  so_marked : (v : Variable) → marked program varying v.function v.number ≡ true → (crossing v ≡ true) ×
      (varying_so v ≡ true)
  so_marked v m =
      let p = and_parts (entry (crossing_of (holding_of program.functions) (function_at program v.function)) v.number)
      (entry (row varying v.function) (0 + v.number))
      (sym (entry_both 0 (crossing_of (holding_of program.functions) (function_at program v.function))
      (row varying v.function) v.number) ∙ m) in (
        ap (λ (l : List Test). entry l v.number) (crossing_row program varying v.function) ∙ p.0,
        (let q : 0 + v.number ≡ v.number = omega arith in ap (entry (row varying v.function)) (sym q) ∙ p.1),
      )

  -- what is kept of it, case by case
  kept_cases : (a b : Test) (n : ℕ) →
      ((a ≡ true) × (b ≡ true) × ((if a then (if b then keeping.Each n else keeping.One) else keeping.Nothing) ≡
      keeping.Each n)) ⊎ (((a ≡ true) × (b ≡ false) ×
      ((if a then (if b then keeping.Each n else keeping.One) else keeping.Nothing) ≡ keeping.One)) ⊎
      ((a ≡ false) × ((if a then (if b then keeping.Each n else keeping.One) else keeping.Nothing) ≡
      keeping.Nothing)))
  kept_cases true true n = inl (refl, refl, refl)
  kept_cases true false n = inr (inl (refl, refl, refl))
  kept_cases false b n = inr (inr (refl, refl))

  -- ---- homes

  of_cell : (c : ℕ) (h : Home) → slice_get (plan_of program kernel varying).homes c ≡ Some h →
      (cell : Cell) × (slice_get kernel.cells c ≡ Some cell) ×
      (h ≡ home_for (shares_of program varying) varying (entry across c) cell.kind (before c))
  of_cell c h e =
      let q : 0 + c ≡ c = omega arith in
      let r = at_cell (shares_of program varying) varying across 0 kernel.cells start c h
      (ap (slice_get (plan_of program kernel varying).homes) q ∙ e) in
      (r.0, r.1, r.2 ∙ ap (λ k. home_for (shares_of program varying) varying (entry across k) r.0.kind (before c)) q)

  is_across : (c : ℕ) (cell : Cell) → slice_get kernel.cells c ≡ Some cell →
      entry across c ≡ names_across c (pieces_of kernel.body)
  is_across c cell e = let q : 0 + c ≡ c = omega arith in
      entry_named (pieces_of kernel.body) 0 (length kernel.cells) c (get_within kernel.cells c cell e) ∙
      ap (λ k. names_across k (pieces_of kernel.body)) q

  made_fits : (c : ℕ) (cell : Cell) (h : Home) → slice_get kernel.cells c ≡ Some cell →
      is_made (slice_get kernel.cells c) ≡ true → (b : Test) → entry across c ≡ b →
      h ≡ made_home b (before c).columns → HasHome program kernel c (sort_of h)
  made_fits c cell h e made true k is =
      subst (λ (x : Home). HasHome program kernel c (sort_of x)) (sym is)
      (kept (and_true (is_made (slice_get kernel.cells c)) (names_across c (pieces_of kernel.body)) made
      (sym (is_across c cell e) ∙ k)))
  made_fits c cell h e made false k is =
      subst (λ (x : Home). HasHome program kernel c (sort_of x)) (sym is)
      (passing made (ap (λ b. b && names_across c (pieces_of kernel.body)) made ∙ (sym (is_across c cell e) ∙ k)))

  home_fits : (c : ℕ) (cell : Cell) (h : Home) → slice_get kernel.cells c ≡ Some cell → (kind : CellKind) →
      cell.kind ≡ kind → h ≡ home_for (shares_of program varying) varying (entry across c) kind (before c) →
      HasHome program kernel c (sort_of h)
  home_fits c cell h e (OfVariable v path name) k is =
      let of : IsCellOf kernel v c = record { cell = cell; there = e; is_of = subst (kir.IsOf v) (sym k) refl } in
      let column_so = taken_behind (shares_of program varying).taken v.calls +
      number_at (row (shares_of program varying).numbers v.function) v.number in
      ⊎_elim (λ t. subst (λ (x : Home). HasHome program kernel c (sort_of x)) (sym (is ∙
      ap (λ y. kept_home y (before c).slots) t.2)) (column of (crosses_so v (cell_variable v c of).0 t.0)
      (varies_so v t.1)))
      (λ r. ⊎_elim (λ t. subst (λ (x : Home). HasHome program kernel c (sort_of x)) (sym (is ∙
      ap (λ y. kept_home y (before c).slots) t.2)) (once of (crosses_so v (cell_variable v c of).0 t.0)
      (λ w. true≢false (sym (so_varies v w) ∙ t.1))))
      (λ t. subst (λ (x : Home). HasHome program kernel c (sort_of x)) (sym (is ∙
      ap (λ y. kept_home y (before c).slots) t.1))
      (inner of (λ w. true≢false (sym (so_crosses v c of w) ∙ t.0)))) r)
      (kept_cases (crossing v) (varying_so v) column_so)
  home_fits c cell h e OfFlag k is = made_fits c cell h e (ap is_made e ∙ ap is_made_kind k) (entry across c) refl is
  home_fits c cell h e OfValue k is = made_fits c cell h e (ap is_made e ∙ ap is_made_kind k) (entry across c) refl is

  -- each home is that of its cell
  pub homes_fit : (c : ℕ) (h : Home) → slice_get (plan_of program kernel varying).homes c ≡ Some h →
      HasHome program kernel c (sort_of h)
  homes_fit c h e = let r = of_cell c h e in home_fits c r.0 h r.1 r.0.kind refl r.2

  -- ---- columns

  -- a cell with this column is that of a marked variable with it, or a keep that has it for itself
  record IsVariableColumn (c k : ℕ) : Type 0 where
    variable : Variable
    of : IsCellOf kernel variable c
    marked_one : marked program varying variable.function variable.number ≡ true
    is : column_of (shares_of program varying) variable ≡ k
    few : k < columns_onto (shares_of program varying) varying kernel.cells 0

  record IsKeepColumn (c k : ℕ) : Type 0 where
    cell : Cell
    there : slice_get kernel.cells c ≡ Some cell
    keep : (is_made_kind cell.kind && entry across c) ≡ true
    is : (before c).columns ≡ k

  columns_for_cases : (a b : Test) (n : ℕ) → a ≡ true → b ≡ true →
      columns_for (if a then (if b then keeping.Each n else keeping.One) else keeping.Nothing) ≡ n + 1
  columns_for_cases true true n e f = refl
  columns_for_cases true false n e f = absurd (true≢false (sym f))
  columns_for_cases false b n e f = absurd (true≢false (sym e))

  made_column : (c k : ℕ) (cell : Cell) → slice_get kernel.cells c ≡ Some cell → is_made_kind cell.kind ≡ true →
      (b : Test) → entry across c ≡ b → home.Column k ≡ made_home b (before c).columns → IsKeepColumn c k
  made_column c k cell e made true a is =
      record {
        cell = cell;
        there = e;
        keep = and_true (is_made_kind cell.kind) (entry across c) made a;
        is = (let q : k ≡ (before c).columns = cc in sym q);
      }
  made_column c k cell e made false a is = absurd (cc)

  cell_column : (c k : ℕ) (cell : Cell) → slice_get kernel.cells c ≡ Some cell → (kind : CellKind) →
      cell.kind ≡ kind → home.Column k ≡ home_for (shares_of program varying) varying (entry across c) kind
      (before c) → IsVariableColumn c k ⊎ IsKeepColumn c k
  cell_column c k cell e (OfVariable v path name) q is =
      let of : IsCellOf kernel v c = record { cell = cell; there = e; is_of = subst (kir.IsOf v) (sym q) refl } in
      let at = taken_behind (shares_of program varying).taken v.calls +
      number_at (row (shares_of program varying).numbers v.function) v.number in
      ⊎_elim (λ t. let there : home.Column k ≡ home.Column at = is ∙ ap (λ y. kept_home y (before c).slots) t.2 in
      let same : k ≡ at = cc in
      let most = onto_each (shares_of program varying) varying kernel.cells 0 c cell e in
      let takes : columns_of_kind (shares_of program varying) varying cell.kind ≡ at + 1 =
      ap (columns_of_kind (shares_of program varying) varying) q ∙
      columns_for_cases (crossing v) (varying_so v) at t.0 t.1 in
      inl (record {
        variable = v;
        of = of;
        marked_one = marked_so v t.0 t.1;
        is = sym same;
        few = omega (arith, same, most, takes);
      }))
      (λ r. ⊎_elim (λ t. let there : home.Column k ≡ home.Once (before c).slots = is ∙
      ap (λ y. kept_home y (before c).slots) t.2 in absurd (cc))
      (λ t. let there : home.Column k ≡ home.Register = is ∙ ap (λ y. kept_home y (before c).slots) t.1 in
      absurd (cc)) r)
      (kept_cases (crossing v) (varying_so v) at)
  cell_column c k cell e OfFlag q is = inr (made_column c k cell e (ap is_made_kind q) (entry across c) refl is)
  cell_column c k cell e OfValue q is = inr (made_column c k cell e (ap is_made_kind q) (entry across c) refl is)

  column_cases : (c k : ℕ) → slice_get (plan_of program kernel varying).homes c ≡ Some (home.Column k) →
      IsVariableColumn c k ⊎ IsKeepColumn c k
  column_cases c k e = let r = of_cell c (home.Column k) e in cell_column c k r.0 r.1 r.0.kind refl r.2

  apart_by : (c d : ℕ) → c ≢ d → (c < d) ⊎ (d < c)
  apart_by c d ne = ⊎_elim (λ l. inl l) (λ m. ⊎_elim (λ e. absurd (ne e)) (λ l. inr l) m) (three c d)
    where
      three : (a b : ℕ) → (a < b) ⊎ ((a ≡ b) ⊎ (b < a))
      three a b = grind arith

  keep_less : (c d k : ℕ) → IsKeepColumn c k → c < d → k < (before d).columns
  keep_less c d k h lt =
      let z : 0 + c ≡ c = omega arith in
      let q = keeps_apart (shares_of program varying) varying across 0 kernel.cells start c d h.cell lt h.there
      (ap (λ x. is_made_kind h.cell.kind && entry across x) z ∙ h.keep) in
      let i = h.is in
      omega (arith, q, i)

  keep_above : (c k : ℕ) → IsKeepColumn c k → columns_onto (shares_of program varying) varying kernel.cells 0 ≤ k
  keep_above c k h = let q = least_columns (shares_of program varying) varying across 0 kernel.cells start c in
      let i = h.is in omega (arith, q, i)

  shared_so : (c d k : ℕ) → c ≢ d → slice_get (plan_of program kernel varying).homes c ≡ Some (home.Column k) →
      slice_get (plan_of program kernel varying).homes d ≡ Some (home.Column k)
      → (v : Variable) × (w : Variable) × IsCellOf kernel v c × IsCellOf kernel w d × AreDisjoint program v w
  shared_so c d k ne e f =
      ⊎_elim (λ a. ⊎_elim (λ b. (
        a.variable,
        b.variable,
        a.of,
        b.of,
        λ scope one hv hw. let g = scopes_full program varying valid scope one in
            let same : a.variable ≡ b.variable =
            g.1.apart a.variable b.variable hv hw a.marked_one b.marked_one (a.is ∙ sym b.is) in
            ne (cells.one b.variable c d (subst (λ (v : Variable). IsCellOf kernel v c) same a.of) b.of),
      ))
      (λ b. let q = keep_above d k b in let r = a.few in absurd (omega (arith, q, r))) (column_cases d k f))
      (λ a. ⊎_elim (λ b. let q = keep_above c k a in let r = b.few in absurd (omega (arith, q, r)))
      (λ b. ⊎_elim (λ lt. let q = keep_less c d k a lt in let i = b.is in
      absurd (omega (arith, q, i))) (λ lt. let q = keep_less d c k b lt in let i = a.is in
      absurd (omega (arith, q, i))) (apart_by c d ne))
      (column_cases d k f)) (column_cases c k e)

  -- ---- few columns

  keeps_so : (i : ℕ) (c : Cell) → slice_get kernel.cells i ≡ Some c →
      is_keep kernel i ≡ (is_made_kind c.kind && entry across i)
  keeps_so i c e = ap (λ (o : Option Cell). is_made o && names_across i (pieces_of kernel.body)) e ∙
      ap (λ b. is_made_kind c.kind && b) (sym (is_across i c e))

  marked_together : (v : Variable) → IsOneOf (variables_of program) v →
      marked program varying v.function v.number ≡ true → Crosses program v × VariableVaries program v
  marked_together v one m = let p = so_marked v m in (crosses_so v one p.0, varies_so v p.1)

  together : (scope : List Variable) (n count : ℕ) → IsOneOf (scopes_of program) scope →
      IsFull program varying (shares_of program varying) scope n → count ≤ n → StandTogether program count
  together scope n count one g le = record {
    scope = scope;
    block = one;
    some = g.some;
    differ = g.differ;
    each =
        λ v h.
        let a = g.each v h in
        let t =
        marked_together v (⊎_elim (λ x. absurd x)
        (λ x. ⊎_elim (λ y. y) (λ y. absurd y) (either_one (variables_in (inlined program)) [] v x))
        (scope_variable [] (BlockText (inlined program) NoText) scope one v a.0)) a.1 in
        (a.0, t.0, t.1);
    many = (let m = g.many in omega (arith, m, le));
  }

  column_variable : (c : ℕ) (cell : Cell) → slice_get kernel.cells c ≡ Some cell → (kind : CellKind) →
      cell.kind ≡ kind → (count : ℕ) → columns_of_kind (shares_of program varying) varying kind ≡ suc count →
      StandTogether program (suc count)
  column_variable c cell e (OfVariable v path name) q count is =
      let of : IsCellOf kernel v c = record { cell = cell; there = e; is_of = subst (kir.IsOf v) (sym q) refl } in
      let at = taken_behind (shares_of program varying).taken v.calls +
      number_at (row (shares_of program varying).numbers v.function) v.number in
      ⊎_elim (λ t. let takes = columns_for_cases (crossing v) (varying_so v) at t.0 t.1 in
      let place = has_scope program varying valid v (cell_variable v c of).0 in
      let g = scopes_full program varying valid place.0 place.1 in
      let low = g.1.below v place.2 (marked_so v t.0 t.1) in
      together place.0 g.0 (suc count) place.1 g.1 (omega (arith, takes, low, is)))
      (λ r. ⊎_elim (λ t. let none : columns_of_kind (shares_of program varying) varying (OfVariable v path name) ≡
      0 = ap columns_for t.2 in absurd (omega (arith, none, is)))
      (λ t. let none : columns_of_kind (shares_of program varying) varying (OfVariable v path name) ≡
      0 = ap columns_for t.1 in absurd (omega (arith, none, is))) r)
      (kept_cases (crossing v) (varying_so v) at)
  column_variable c cell e OfFlag q count is = absurd (omega (arith, is))
  column_variable c cell e OfValue q count is = absurd (omega (arith, is))

  few_so : (spare : ℕ) → (plan_of program kernel varying).columns ≡ keep_count kernel + spare →
      StandTogether program spare
  few_so spare e =
      let all =
      columns_counted (shares_of program varying) varying across kernel.cells start (is_keep kernel) keeps_so in
      let is : columns_onto (shares_of program varying) varying kernel.cells 0 ≡ spare =
      (let k = all in omega (arith, e, k)) in
      by spare is
    where
      by : (n : ℕ) → columns_onto (shares_of program varying) varying kernel.cells 0 ≡ n → StandTogether program n
      by zero is = let g = scopes_full program varying valid (declared_in (inlined program) ++ []) (inl refl) in
          together (declared_in (inlined program) ++ []) g.0 0 (inl refl) g.1 (omega arith)
      by (suc n) is =
          ⊎_elim (λ k. absurd (let q = k in omega (arith, q, is))) (λ r. column_variable r.0 r.1 r.2 r.1.kind refl n
          (r.3 ∙ is)) (onto_some (shares_of program varying) varying kernel.cells 0)

  -- the plan is what the definitions say
  pub is_plan : IsCounted kernel (plan_of program kernel varying) →
      IsPlan program kernel (plan_of program kernel varying)
  is_plan counted = record {
    one_each = counted.one_each;
    homes = homes_fit;
    columns_below = counted.columns_below;
    slots_below = counted.slots_below;
    shared = shared_so;
    own_slot = counted.own_slot;
    each_slot = counted.each_slot;
    few_columns = few_so;
    private_bytes = counted.private_bytes;
  }
