-- The lines of a switch do what its run does.
use Rattle.std.proofs.Common.{◌≡◌, ℕ, suc, ◌+◌, ◌<◌, ◌≤◌, ℤ, pos, negsuc, List, [], ◌∷◌, ◌++◌, Option, Some, None}
use Rattle.std.proofs.Common.{slice_get, refl, sym, ap, ◌∙◌, subst, arith, true, false, if◌then◌else◌, ◌⊎◌, inl, inr}
use Rattle.std.proofs.Common.{⊎_elim}
use Rattle.std.proofs.Common.{Bool as Test}
use Rattle.std.specs.Prelude.{nat_eq}
use Rattle.std.proofs.lemmas.Int.{ints}
use Rattle.std.proofs.lemmas.Bool.{and_parts, eqb-true}
use Rattle.std.proofs.lemmas.Option.{none-some, same_Some}
use Rattle.wg_num.specs.declared.types.IntType.TheVariants.{Int}
use Rattle.wg_num.specs.Wrap.{IsValue, half, modulus}
use Rattle.wg_num.specs.Types.{is_value}
use Rattle.cl_model.specs.Agreement.{Owned, owned_by, HasOwned, IsInScope, IsInBody, IsScopedAt}
use Rattle.cl_model.specs.Calls.{calls_in, calls_of_arms}
use Rattle.cl_model.specs.Steps.{Entry, nowhere, entry, entry_of, entry_tasks}
use Rattle.cl_model.specs.Task.{Nth, Arm, Tested, Own, Task, Run, Select, InSwitch, Item as ProgramItem}
use Rattle.cl_model.specs.Tree.{Expression, Switch, Arms, no_arm, arm}
use Rattle.cl_model.specs.Lists.{AllDiffer}
use Rattle.cl_model.specs.Valid.{Scope, promoted, labels_of}
use Rattle.kir.specs.declared.line.Atom.{Atom}
use Rattle.kir.specs.declared.line.Atom.TheVariants.{Cell as CellAtom}
use Rattle.kir.specs.Tree.{Copy, Lines, NoLine, SetThen, LoadThen, StoreThen, ClearThen, IfThen, LoopThen}
use Rattle.kir.specs.Tree.{BarrierThen, Cell, Kernel, OfFlag, OfValue, joined_to}
use Rattle.kir.specs.Places.{Behind, Place, Tasks, LinesAt, begun_in}
use Rattle.kir.specs.Steps.{Item, atom_value}
use Rattle.kir.specs.Fits.{has_type, lines_fit, atom_type}
use Rattle.kir.proofs.CellTypes.{is_value_is}
use Rattle.kir_lower.specs.declared.places.Value.{Value}
use Rattle.kir_lower.specs.Made.{Made, next_cell, with_cell, int}
use Rattle.kir_lower.specs.Ways.{way_out_of_all, way_out_of_arms}
use Rattle.kir_lower.specs.Actions.{Code, Opened, Steps, default_number, opened, outward, selected}
use Rattle.kir_lower.specs.Code.{Calls, expression_code, entry_code, around_arm, in_order as code_in_order}
use Rattle.kir_lower.specs.Code.{statement_code, list_code, arms_code}
use Rattle.kir_lower_shape.specs.Marks.{Way, further, Marks, marks_then, all_marked, marks_behind, marks_at}
use Rattle.kir_lower_shape.specs.CodeMarks.{CallMarks, expression_marks, statement_marks, arms_marks}
use Rattle.kir_lower_shape.proofs.Joined.{join_assoc}
use Rattle.kir_lower_shape.proofs.Making.{opened_makes, selected_makes, outward_makes}
use Rattle.kir_lower_simulation.specs.Setting.{Setting, Store, updated, kernel_item, Activation, frame, inside}
use Rattle.kir_lower_simulation.specs.Setting.{behind_variables}
use Rattle.kir_lower_simulation.specs.Exits.{Exit, Continues, Breaks, Returns, pending, unwound, given_by, Can, ArmsCan}
use Rattle.kir_lower_simulation.specs.Held.{Within, IsMade, IsFixedAtom, Apart, Kept, IsWithin, At}
use Rattle.kir_lower_simulation.specs.Facts.{Rules, HoldsTypes}
use Rattle.kir_lower_simulation.specs.Ready.{IsUnderWay, Adds, ReadyExpression}
use Rattle.kir_lower_simulation.specs.Bodies.{IsBody, IsExit, ReadyStatement, ReadyArms}
use Rattle.kir_lower_simulation.proofs.Lines.{NoVariable, updated_same, updated_other, Sim, value_line}
use Rattle.kir_lower_simulation.proofs.Keeping.{Grows, grows_same, grows_before, grows_with, grows_count, next_with}
use Rattle.kir_lower_simulation.proofs.Keeping.{within_less, value_made, made_no_variable, fixed_more, fixed_kept}
use Rattle.kir_lower_simulation.proofs.Keeping.{kept_trans, kept_set, kept_weaker, same_set}
use Rattle.kir_lower_simulation.proofs.Actions.{not_equal}
use Rattle.kir_lower_simulation.proofs.Readying.{next_left, next_right, adds_same, adds_before}
use Rattle.kir_lower_simulation.proofs.Fixing.{further_leads, expression_grows, expression_adds, expression_fixed}
use Rattle.kir_lower_simulation.proofs.Expressions.{marks_assoc, at_lines, AreCalls, stays_at, expression_follows}
use Rattle.kir_lower_simulation.proofs.Leaving.{arms_way, arms_fewer_none, all_asked, return_same}
use Rattle.kir_lower_simulation.proofs.Guards.{passed_on, outward_follows}
use Rattle.kir_lower_simulation.proofs.Containing.{exit_more, arms_grow}
use Rattle.kir_lower_simulation.proofs.Statements.{answer_kept, at_kept, at_set, StatementDone, StatementFollows}
use Rattle.kir_lower_simulation.proofs.Loops.{own_cell, kept_inner}
use Rattle.kir_lower_simulation.proofs.Turning.{exits_opened, has_opened}
use Rattle.kir_lower_simulation.proofs.Switches.{IsEntry, ArmsFollow, waiting}
use Rattle.kir_lower_simulation.proofs.Selecting.{last_number, chosen_entry, all_labels_grow, selected_follows}

-- ---- numbers of arms

-- lines behind others fit
pub fit_behind : (kernel : Kernel) (a b : Lines) → lines_fit kernel (joined_to a b) ≡ true → lines_fit kernel b ≡ true
fit_behind kernel NoLine b h = h
fit_behind kernel (SetThen to work rest) b h = fit_behind kernel rest b (and_parts _ _ h).1
fit_behind kernel (LoadThen site to element root index rest) b h = fit_behind kernel rest b (and_parts _ _ h).1
fit_behind kernel (StoreThen site element root index from rest) b h = fit_behind kernel rest b (and_parts _ _ h).1
fit_behind kernel (ClearThen array rest) b h = fit_behind kernel rest b (and_parts _ _ h).1
fit_behind kernel (IfThen site test chosen other rest) b h = fit_behind kernel rest b (and_parts _ _ h).1
fit_behind kernel (LoopThen site test_first test answer body rest) b h = fit_behind kernel rest b (and_parts _ _ h).1
fit_behind kernel (BarrierThen site rest) b h = fit_behind kernel rest b (and_parts _ _ h).1

-- a number that stands in a line that fits is an int
number_fits : (kernel : Kernel) (k : ℕ) → has_type Int (atom_type kernel (int (pos k))) ≡ true → IsValue Int (pos k)
number_fits kernel k h = is_value_is Int (pos k) (by (is_value Int (pos k)) h)
  where
    by : (b : Test) → has_type Int (if b then Some Int else None) ≡ true → b ≡ true
    by true h = refl
    by false h = h

-- so is the number of each arm
pub arm_number : (S : Setting) (C : Activation) (calls : Calls) (exit site : ℕ) (chosen fallen : Atom) (k : ℕ)
    (arms : Arms) (m : Made) (T : Lines) (i : ℕ) (entered : Arms) (c : ℤ) →
    lines_fit S.kernel (joined_to (arms_code calls C.here exit site chosen fallen k arms m).lines T) ≡ true
    → IsEntry k arms (entry i entered) c → IsValue Int (pos i)
unfolding arms_code
arm_number S C calls exit site chosen fallen k no_arm m T i entered c h e = absurd e
arm_number S C calls exit site chosen fallen k (arm labels other body rest) m T i entered c h (inl e) =
    subst (λ z. IsValue Int (pos z)) (sym e.0)
    (number_fits S.kernel k (and_parts _ _ (and_parts _ _ (and_parts _ _ h).0).0).1)
arm_number S C calls exit site chosen fallen k (arm labels other body rest) m T i entered c h (inr e) =
    let ce = entry_code chosen fallen k m in
    let ca = around_arm site exit (way_out_of_all true true body) ce
    (code_in_order (list_code calls C.here exit false body ce.made)) in
    let rest_lines = (arms_code calls C.here exit site chosen ca.value.atom (k + 1) rest ca.made).lines in
    arm_number S C calls exit site chosen ca.value.atom (k + 1) rest ca.made T i entered c
    (fit_behind S.kernel ca.lines (joined_to rest_lines T)
    (subst (λ z. lines_fit S.kernel z ≡ true) (join_assoc ca.lines rest_lines T) h)) e.1

-- a number for an entry; one that is none of an arm for none
abbrev pub number_for : Entry → ℤ
number_for nowhere = negsuc 0
number_for (entry i entered) = pos i

minus_one : IsValue Int (negsuc 0)
unfolding half modulus
minus_one = record { low = omega (arith, ints); high = omega (arith, ints) }

no_number : (k : ℕ) (arms : Arms) → IsEntry k arms nowhere (negsuc 0)
no_number k no_arm = tt
no_number k (arm labels other body rest) = (not_equal (negsuc 0) (pos k) (λ e. cc), no_number (k + 1) rest)

-- it is that of the entry where another is
same_entry : (k : ℕ) (arms : Arms) (e : Entry) (c : ℤ) → IsEntry k arms e c → IsEntry k arms e (number_for e)
same_entry k arms nowhere c h = no_number k arms
same_entry k no_arm (entry i entered) c h = absurd h
same_entry k (arm labels other body rest) (entry i entered) c h =
    subst (λ z. IsEntry k (arm labels other body rest) (entry i entered) z) (number k (arm labels other body rest) h) h
  where
    number : (k : ℕ) (arms : Arms) → IsEntry k arms (entry i entered) c → c ≡ pos i
    number k no_arm h = absurd h
    number k (arm labels other body rest) (inl h) = h.2 ∙ ap pos (sym h.0)
    number k (arm labels other body rest) (inr h) = number (k + 1) rest h.1

-- a cell of type int is set to an int
held_types : (S : Setting) (cells : Store) (to : ℕ) (v : ℤ) → IsMade S to Int → IsValue Int v → HoldsTypes S cells →
    HoldsTypes S (updated cells to v)
held_types S cells to v made h types c cell e = by (nat_eq to c) refl
  where
    by : (b : Test) → nat_eq to c ≡ b → IsValue cell.of (updated cells to v c)
    by true q =
        let same = eqb-true to c q in
        let kind : record { kind = made.kind; of = Int } ≡ cell =
        same_Some (record { kind = made.kind; of = Int }) cell (sym made.there ∙
        ap (λ z. slice_get S.kernel.cells z) same ∙ e) in
        subst (λ (z : Cell). IsValue z.of (updated cells to v c)) kind
        (subst (λ z. IsValue Int z) (sym (ap (λ b. if b then v else cells c) q)) h)
    by false q = subst (λ z. IsValue cell.of z) (sym (ap (λ b. if b then v else cells c) q)) (types c cell e)

-- a construct with a way out has a cell of its own
own_some : (out cell : Option ℕ) (exit : ℕ) (m : Made) (s : ℕ) → out ≡ Some s →
    own_cell out cell m ≡ Some (opened out exit m).exit
own_some None cell exit m s e = absurd (none-some s e)
own_some (Some o) cell exit m s e = refl

own_number : (out : Option ℕ) (exit : ℕ) (m : Made) (s : ℕ) → out ≡ Some s → (opened out exit m).exit ≡ next_cell m
own_number None exit m s e = absurd (none-some s e)
own_number (Some o) exit m s e = refl

-- the cell of the number is made
chosen_made : (S : Setting) (site : ℕ) (value : Value) (arms : Arms) (m : Made) →
    Within S (selected site value arms m).made → IsMade S (next_cell (with_cell m OfValue (promoted value.of))) Int
chosen_made S site value arms m w =
    let m1 = with_cell m OfValue (promoted value.of) in
    let m2 = with_cell m1 OfValue Int in
    let cv : Value = record { atom = CellAtom (next_cell m); of = promoted value.of } in
    value_made S m1 Int (within_less S [] m2 _ (all_labels_grow site cv (next_cell m1) 0 arms m2) w)

module _ (S : Setting) (G : ℕ → Item → ProgramItem → Type 0) (R : Rules S G) (C : Activation) (under : IsUnderWay S C)
    (is_body : IsBody S C) where
  -- behind a construct with a cell of its own
  pub around_follows : (a : Option ℕ) (cell : Option ℕ) (exit own : ℕ) (scope : Scope) (m mo : Made) (n : ℕ)
      (T : Lines) (way : Way) (tm : Marks) (k : Tasks) (at : Place) (start cells vars : Store) (p : Option Exit)
      (v : ℤ) (j : ProgramItem)
      → IsWithin S C scope → NoVariable S own → own < next_cell mo → next_cell m ≤ next_cell mo →
      IsExit S C cell exit m → ((s : ℕ) → a ≡ Some s → cell ≡ Some exit) → Within S (outward a own exit mo).made
      → marks_at S.marks at ≡ marks_then (all_marked way (outward a own exit mo).lines) tm
      → At S C (Some own) scope p v cells vars → Kept C.here.base C.low None (next_cell m) start cells →
      ((c : ℕ) → cell ≡ Some c → start c ≡ pos 0) → C.low ≤ next_cell m → (a ≡ None → passed_on p ≡ None)
      → ((at' : Place) (new : Store) → marks_at S.marks at' ≡ tm → At S C cell scope (passed_on p) v new vars →
      Kept C.here.base C.low cell (next_cell m) start new → G n (kernel_item S new (LinesAt at' T k)) j)
      → G n (kernel_item S cells (LinesAt at (joined_to (outward a own exit mo).lines T) k)) j
  around_follows None cell exit own scope m mo n T way tm k at start cells vars p v j inner own_plain less more_ exits
      has within e a kept zero_ low no_way go =
      go at cells e
      (record {
        same = a.same;
        exit_is =
            λ c q. kept.each c (inr (exits.low c q, tt)) (exits.high c q) ∙ zero_ c q ∙ ap pending (sym (no_way refl));
        answer_is = a.answer_is ∙ same_given p;
      })
      (kept_weaker C.here.base C.low C.low cell (next_cell m) start cells (omega arith) kept)
    where
      same_given : (p : Option Exit) → given_by p v ≡ given_by (passed_on p) v
      same_given None = refl
      same_given (Some Continues) = refl
      same_given (Some Breaks) = refl
      same_given (Some Returns) = refl
  around_follows (Some s) cell exit own scope m mo n T way tm k at start cells vars p v j inner own_plain less more_
      exits has within e a kept zero_ low no_way go =
      let real = has s refl in
      let l = exits.low exit real in
      let h = exits.high exit real in
      let le = under.below in
      outward_follows S G R C p s own exit mo n T way tm k at cells j own_plain
      (made_no_variable S exit Int (exits.made exit real)) less (omega (arith, h, more_)) within e
      (a.exit_is own refl) (kept.each exit (inr (l, tt)) h ∙ zero_ exit real)
      (λ at2 new e2 holds2 but.
      go at2 new e2
      (record {
        same = record {
          each = λ x has_x. let u = inner x has_x in
              but (C.here.base + x) (λ q. omega (arith, q, u, le, l)) (omega (arith, u, le, l, h, more_)) ∙
              a.same.each x has_x;
        };
        exit_is = λ c q. ap new (same_Some c exit (sym q ∙ real)) ∙ holds2;
        answer_is = answer_kept S C under is_body cells new (λ c b lt. but c (λ q. omega (arith, q, lt, l))
            (omega (arith, lt, low, more_))) ∙ a.answer_is ∙ same_given p;
      })
      (record {
        each = λ c r u. but c (λ q. apart_from c r u q real l) (omega (arith, u, more_)) ∙
            kept.each c (⊎_elim (λ (x : c < C.here.base). inl x) (λ (x : (C.low ≤ c) × Apart cell c). inr (x.0, tt))
            r) u;
      }))
    where
      same_given : (p : Option Exit) → given_by p v ≡ given_by (passed_on p) v
      same_given None = refl
      same_given (Some Continues) = refl
      same_given (Some Breaks) = refl
      same_given (Some Returns) = refl

      apart_from : (c : ℕ) → (c < C.here.base) ⊎ ((C.low ≤ c) × Apart cell c) → c < next_cell m → c ≡ exit →
          cell ≡ Some exit → C.low ≤ exit → ⊥
      apart_from c (inl x) u q real l = let le = under.below in omega (arith, x, q, l, le)
      apart_from c (inr x) u q real l = subst (λ z. Apart z c → ⊥) (sym real) (λ f. f q) x.1

  -- ---- a switch

  module _ (calls : Calls) (marks : CallMarks) (all : AreCalls S G R C calls marks) (scope : Scope)
      (inner : IsWithin S C scope) (cell : Option ℕ) (exit : ℕ) (way : Way) (site : ℕ) (value : Expression)
      (arms : Arms) (m : Made) (out around : Option ℕ) where
    -- what is made in order: for the value, the switch's cell, the number of the chosen arm, the arms, what goes on
    -- around
    abbrev value_code : Code
    value_code = expression_code calls C.here value m

    abbrev cell_code : Opened
    cell_code = opened out exit value_code.made

    abbrev chosen_code : Code
    chosen_code = selected site value_code.value arms cell_code.made

    -- the cell with the number
    abbrev pub chosen_cell : ℕ
    chosen_cell = next_cell (with_cell cell_code.made OfValue (promoted value_code.value.of))

    abbrev all_arms : Steps
    all_arms = arms_code calls C.here cell_code.exit site (CellAtom chosen_cell) (int (pos 0)) 0 arms chosen_code.made

    abbrev aside_code : Steps
    aside_code = outward around cell_code.exit exit all_arms.made

    abbrev value_marks : Marks
    value_marks = expression_marks calls marks C.here (further way Tested) value m

    abbrev all_arms_marks : Marks
    all_arms_marks = arms_marks calls marks C.here way cell_code.exit site (CellAtom chosen_cell) (int (pos 0)) 0 arms
        chosen_code.made

    abbrev switch_lines : Lines
    switch_lines = joined_to value_code.lines
        (joined_to cell_code.lines (joined_to chosen_code.lines (joined_to all_arms.lines aside_code.lines)))

    abbrev switch_marks : Marks
    switch_marks = marks_then value_marks
        (marks_then (all_marked way cell_code.lines) (marks_then (all_marked way chosen_code.lines)
        (marks_then all_arms_marks (all_marked way aside_code.lines))))

    -- what is known of them
    pub record SwitchParts : Type 0 where
      pub value_part : ReadyExpression S C calls scope (further way Tested) value m
      pub arms_part : ReadyArms S C calls scope (own_cell out cell value_code.made) cell_code.exit way site
          (CellAtom chosen_cell) (int (pos 0)) 0 arms chosen_code.made
      pub scoped : (begun : List ℕ) (v : Owned) → HasOwned (owned_by C.function scope) v →
          IsScopedAt S.program (way begun ++ Own 0 ∷ []) v
      pub within : Within S aside_code.made
      pub low : C.low ≤ next_cell m
      pub exits : IsExit S C cell exit m
      pub has_exit : (s : ℕ) → around ≡ Some s → cell ≡ Some exit
      pub is_out : way_out_of_arms true true arms ≡ out
      pub is_around : way_out_of_arms false true arms ≡ around
      pub differ : AllDiffer (labels_of arms)

    -- the arms do what they do
    abbrev pub AllArmsFollow : Type 0
    AllArmsFollow = ArmsFollow S G R C calls marks scope (own_cell out cell value_code.made) cell_code.exit way site
        chosen_cell (int (pos 0)) 0 arms chosen_code.made

    module _ (P : SwitchParts) (follow : AllArmsFollow) (n : ℕ) (T : Lines) (tm : Marks) (k : Tasks) (start : Store)
        (ts : List Task) (vs : List ℤ) (go : StatementDone S G R C n (next_cell m) cell scope
        (Can (Switch site value arms)) T tm k start ts vs) where
      g_value : next_cell m ≤ next_cell value_code.made
      g_value = grows_count (calls_in value) m value_code.made (expression_grows S C calls all.grows all.adds value m)

      g_cell : next_cell value_code.made ≤ next_cell cell_code.made
      g_cell = grows_count [] value_code.made cell_code.made
          (opened_makes Grows grows_same grows_before (grows_with OfValue) (grows_with OfFlag) out exit value_code.made)

      g_to : chosen_cell ≡ suc (next_cell cell_code.made)
      g_to = next_with cell_code.made OfValue (promoted value_code.value.of)

      g_chosen : next_cell cell_code.made ≤ next_cell chosen_code.made
      g_chosen = grows_count [] cell_code.made chosen_code.made
          (selected_makes Grows grows_same grows_before (grows_with OfValue) (grows_with OfFlag) site value_code.value
          arms cell_code.made)

      g_arms : next_cell chosen_code.made ≤ next_cell all_arms.made
      g_arms = grows_count (calls_of_arms arms) chosen_code.made all_arms.made
          (arms_grow S C calls all.grows all.adds cell_code.exit site (CellAtom chosen_cell) (int (pos 0)) 0 arms
          chosen_code.made)

      -- behind the arms
      passed_none : (o : Option Exit) → ArmsCan arms o → around ≡ None → passed_on o ≡ None
      passed_none None can e = refl
      passed_none (Some Breaks) can e = refl
      passed_none (Some Continues) can e = let t =
          arms_way Continues false true arms refl can in absurd (none-some t.0 (sym e ∙ sym P.is_around ∙ t.1))
      passed_none (Some Returns) can e = let t =
          arms_way Returns false true arms refl can in absurd (none-some t.0 (sym e ∙ sym P.is_around ∙ t.1))

      can_switch : (o : Option Exit) → ArmsCan arms o → Can (Switch site value arms) (passed_on o)
      can_switch None can = tt
      can_switch (Some Continues) can = can
      can_switch (Some Breaks) can = tt
      can_switch (Some Returns) can = can

      -- the program's item passes the marker
      past_marker : (o : Option Exit) (w : ℤ) (i : Item) (vars : Store) →
          G n i (unwound (passed_on o) w (inside S C ts vs vars)) →
          G n i (unwound o w (inside S C (InSwitch (way (begun_in k)) site ∷ ts) vs vars))
      past_marker None w i vars g = R.task n i _ _ refl refl g
      past_marker (Some Continues) w i vars g = g
      past_marker (Some Breaks) w i vars g = g
      past_marker (Some Returns) w i vars g =
          subst (λ z. G n i z) (sym (return_same S (InSwitch (way (begun_in k)) site ∷ ts) ts vs vs (frame C vars ∷
          C.outer) ts (w ∷ vs))) g

      leave_arms : (zero_ : (c : ℕ) → cell ≡ Some c → start c ≡ pos 0) (new c4 vars4 : Store) (o : Option Exit)
          (w : ℤ) (at4 : Place) → ArmsCan arms o →
          marks_at S.marks at4 ≡ marks_then (all_marked way aside_code.lines) tm
          → At S C (own_cell out cell value_code.made) scope o w c4 vars4 →
          Kept C.here.base C.low None (next_cell m) start new →
          Kept C.here.base C.low (own_cell out cell value_code.made) (next_cell chosen_code.made) new c4
          → G n (kernel_item S c4 (LinesAt at4 (joined_to aside_code.lines T) k))
          (unwound o w (inside S C (InSwitch (way (begun_in k)) site ∷ ts) vs vars4))
      leave_arms zero_ new c4 vars4 o w at4 can e a kept kept4 = by out refl
        where
          -- without a way out
          calm : out ≡ None → (o : Option Exit) → ArmsCan arms o → o ≡ None
          calm q None can = refl
          calm q (Some x) can = let t =
              arms_way x true true arms (all_asked x) can in absurd (none-some t.0 (sym q ∙ sym P.is_out ∙ t.1))

          no_around : out ≡ None → around ≡ None
          no_around q = sym P.is_around ∙ arms_fewer_none false true arms (P.is_out ∙ q)

          plainly : (q : Option ℕ) → around ≡ q → q ≡ None → (p : Option Exit) → p ≡ None →
              At S C cell scope p w c4 vars4 → Kept C.here.base C.low cell (next_cell chosen_code.made) new c4 →
              marks_at S.marks at4 ≡ marks_then (all_marked way (outward q cell_code.exit exit all_arms.made).lines) tm
              → G n (kernel_item S c4 (LinesAt at4 (joined_to (outward q cell_code.exit exit all_arms.made).lines T)
              k)) (unwound p w (inside S C (InSwitch (way (begun_in k)) site ∷ ts) vs vars4))
          plainly (Some s) q f p g a1 k1 e1 = absurd (none-some s (sym f))
          plainly None q f (Some x) g a1 k1 e1 = absurd (none-some x (sym g))
          plainly None q f None g a1 k1 e1 =
              past_marker None w (kernel_item S c4 (LinesAt at4 T k)) vars4
              (go at4 c4 vars4 None w tt e1 a1
              (kept_trans C.here.base C.low cell (next_cell m) (next_cell chosen_code.made) start new c4
              (let x = g_value in let y = g_cell in let z = g_chosen in
              omega (arith, x, y, z)) (kept_weaker C.here.base C.low C.low cell (next_cell m) start new
              (omega arith) kept) k1))

          by : (q : Option ℕ) → out ≡ q →
              G n (kernel_item S c4 (LinesAt at4 (joined_to aside_code.lines T) k))
              (unwound o w (inside S C (InSwitch (way (begun_in k)) site ∷ ts) vs vars4))
          by None q =
              plainly around refl (no_around q) o (calm q o can)
              (subst (λ z. At S C (own_cell z cell value_code.made) scope o w c4 vars4) q a)
              (subst (λ z. Kept C.here.base C.low (own_cell z cell value_code.made) (next_cell chosen_code.made)
              new c4) q kept4) e
          by (Some s) q =
              let own = cell_code.exit in
              let is_own = own_some out cell exit value_code.made s q in
              let at_own = own_number out exit value_code.made s q in
              let high = P.arms_part.exits.high own is_own in
              let ga = g_arms in let gv = g_value in let gc = g_cell in let gh = g_chosen in
              past_marker o w (kernel_item S c4 (LinesAt at4 (joined_to aside_code.lines T) k)) vars4
              (around_follows around cell exit own scope m all_arms.made n T way tm k at4 start c4 vars4 o w
              (unwound (passed_on o) w (inside S C ts vs vars4)) inner
              (made_no_variable S own Int (P.arms_part.exits.made own is_own)) (omega (arith, high, ga))
              (omega (arith, gv, gc, gh, ga)) P.exits P.has_exit P.within e
              (subst (λ z. At S C z scope o w c4 vars4) is_own a)
              (kept_trans C.here.base C.low None (next_cell m) (next_cell m) start new c4 (omega arith) kept
              (kept_inner C.here.base C.low (next_cell m) (next_cell chosen_code.made) own new c4 (omega (
                arith,
                at_own,
                gv,
              )) (omega (arith, gv, gc, gh))
              (subst (λ z. Kept C.here.base C.low z (next_cell chosen_code.made) new c4) is_own kept4)))
              zero_ P.low (passed_none o can)
              (λ at5 c5 e5 a5 k5. go at5 c5 vars4 (passed_on o) w (can_switch o can) e5 a5 k5))

      -- the arms, from cells in which the number is that of an entry
      arms_run : (zero_ : (c : ℕ) → cell ≡ Some c → start c ≡ pos 0) (new vars1 : Store) (e : Entry) (at3 : Place) →
          marks_at S.marks at3 ≡ marks_then all_arms_marks (marks_then (all_marked way aside_code.lines) tm)
          → At S C (own_cell out cell value_code.made) scope None (pos 0) new vars1 →
          Kept C.here.base C.low None (next_cell m) start new → IsEntry 0 arms e (new chosen_cell)
          → Sim S G R C n new (LinesAt at3 (joined_to all_arms.lines (joined_to aside_code.lines T)) k)
          (entry_tasks (way (begun_in k)) e (InSwitch (way (begun_in k)) site ∷ ts)) vs vars1
      arms_run zero_ new vars1 e at3 e3 a kept is =
          follow n (joined_to aside_code.lines T) (marks_then (all_marked way aside_code.lines) tm) k at3 new vars1 ts
          vs (entry_tasks (way (begun_in k)) e (InSwitch (way (begun_in k)) site ∷ ts)) e3 a (waiting e refl is)
          (λ at4 c4 vars4 o w can e4 a4 kept4. leave_arms zero_ new c4 vars4 o w at4 can e4 a4 kept kept4)

      -- its own cell is cleared
      open_follows : (c1 vars1 : Store) (T1 : Lines) (tm1 : Marks) (at1 : Place) (j : ProgramItem) →
          At S C cell scope None (pos 0) c1 vars1 →
          marks_at S.marks at1 ≡ marks_then (all_marked way cell_code.lines) tm1
          → ((at2 : Place) (c2 : Store) → marks_at S.marks at2 ≡ tm1 →
          At S C (own_cell out cell value_code.made) scope None (pos 0) c2 vars1 →
          ((c : ℕ) → c < next_cell value_code.made → c2 c ≡ c1 c) → G n (kernel_item S c2 (LinesAt at2 T1 k)) j)
          → G n (kernel_item S c1 (LinesAt at1 (joined_to cell_code.lines T1) k)) j
      open_follows c1 vars1 T1 tm1 at1 j a e go1 =
          opened_follows out refl c1 vars1 T1 tm1 at1 j a e go1
        where
          opened_follows : (q : Option ℕ) → out ≡ q →
              (c1 vars1 : Store) (T1 : Lines) (tm1 : Marks) (at1 : Place) (j : ProgramItem) →
              At S C cell scope None (pos 0) c1 vars1 →
              marks_at S.marks at1 ≡ marks_then (all_marked way (opened q exit value_code.made).lines) tm1
              → ((at2 : Place) (c2 : Store) → marks_at S.marks at2 ≡ tm1 →
              At S C (own_cell q cell value_code.made) scope None (pos 0) c2 vars1 →
              ((c : ℕ) → c < next_cell value_code.made → c2 c ≡ c1 c) →
              G n (kernel_item S c2 (LinesAt at2 T1 k)) j)
              → G n (kernel_item S c1 (LinesAt at1 (joined_to (opened q exit value_code.made).lines T1) k)) j
          opened_follows None q c1 vars1 T1 tm1 at1 j a e go1 = go1 at1 c1 e a (λ c lt. refl)
          opened_follows (Some s) q c1 vars1 T1 tm1 at1 j a e go1 =
              let own = next_cell value_code.made in
              let new = updated c1 own (pos 0) in
              let is_own = own_some out cell exit value_code.made s q in
              let at_own = own_number out exit value_code.made s q in
              let le = under.below in
              let low = P.low in
              let gv = g_value in
              let plain = subst (λ z. NoVariable S z) at_own
              (made_no_variable S cell_code.exit Int (P.arms_part.exits.made cell_code.exit is_own)) in
              value_line S G R C n c1 at1 own (Copy (int (pos 0))) T1 k j plain (λ v c is. refl)
              (go1 (Behind ∷ at1) new (ap marks_behind e)
              (record {
                same = same_set S C scope c1 vars1 own (pos 0) inner (omega (arith, le, low, gv)) a.same;
                exit_is = λ c r. ap new (sym (same_Some own c r)) ∙ updated_same c1 own (pos 0);
                answer_is = answer_kept S C under is_body c1 new
                    (λ c x lt. updated_other c1 own (pos 0) c (λ r. omega (arith, r, lt, low, gv))) ∙ a.answer_is;
              })
              (λ c lt. updated_other c1 own (pos 0) c (λ r. omega (arith, r, lt))))

      -- the switch
      switch_any : (at : Place) (vars : Store) → marks_at S.marks at ≡ marks_then switch_marks tm →
          At S C cell scope None (pos 0) start vars
          → Sim S G R C n start (LinesAt at (joined_to switch_lines T) k)
          (Run (way (begun_in k)) (Switch site value arms) ∷ ts) vs vars
      switch_any at vars e a =
          let at0 = way (begun_in k) in
          let marker = InSwitch at0 site ∷ ts in
          let selecting = Select at0 site arms in
          let low = P.low in
          let le = under.below in
          let gv = g_value in let gc = g_cell in let gh = g_chosen in let gt = g_to in
          let base = C.here.base in
          let cells_behind = joined_to chosen_code.lines (joined_to all_arms.lines aside_code.lines) in
          let fixed =
          expression_fixed S C calls all.grows all.adds all.fixed scope (further way Tested) value m P.value_part in
          let after_value = marks_then (all_marked way cell_code.lines) (marks_then (all_marked way chosen_code.lines)
          (marks_then all_arms_marks (all_marked way aside_code.lines))) in
          let after_cell = marks_then (all_marked way chosen_code.lines)
          (marks_then all_arms_marks (all_marked way aside_code.lines)) in
          let after_chosen = marks_then all_arms_marks (all_marked way aside_code.lines) in
          R.task n _ _ _ refl refl
          (at_lines S G R C n start at value_code.lines (joined_to cell_code.lines cells_behind) T k _
          (expression_follows S G R C under calls marks all scope inner value (further way Tested) m P.value_part n
          (joined_to (joined_to cell_code.lines cells_behind) T) (marks_then after_value tm) k at start vars
          (selecting ∷ ts) vs
          (stays_at S G R C under calls marks all scope inner way (begun_in k) (Own 0 ∷ []) selecting ts refl
          (λ v h. P.scoped (begun_in k) v h)) (e ∙ marks_assoc value_marks after_value tm) a.same
          (λ at1 c1 vars1 v e1 s1 kept1 h1.
          let a1 =
          at_kept S C under is_body cell exit scope m P.exits P.low None (pos 0) start c1 vars vars1 a s1 kept1 in
          let k1 = kept_weaker base (behind_variables S C) C.low None (next_cell m) start c1 le kept1 in
          at_lines S G R C n c1 at1 cell_code.lines cells_behind T k _
          (open_follows c1 vars1 (joined_to cells_behind T) (marks_then after_cell tm) at1
          (inside S C (selecting ∷ ts) (v ∷ vs) vars1) a1 (e1 ∙
          marks_assoc (all_marked way cell_code.lines) after_cell tm)
          (λ at2 c2 e2 a2 same2.
          let h2 : atom_value c2 value_code.value.atom ≡ v = fixed_same fixed c1 c2 same2 ∙ h1 in
          let k2 = kept_trans base C.low None (next_cell m) (next_cell m) start c1 c2 (omega arith) k1
          (record { each = λ c l u. same2 c (omega (arith, u, gv)) }) in
          at_lines S G R C n c2 at2 chosen_code.lines (joined_to all_arms.lines aside_code.lines) T k _
          (selected_follows S G R C site value_code.value arms cell_code.made n
          (joined_to (joined_to all_arms.lines aside_code.lines) T) way (marks_then after_chosen tm) k at2 c2
          (inside S C (selecting ∷ ts) (v ∷ vs) vars1) (omega (arith, low, gv, gc))
          (fixed_more S C.low (next_cell value_code.made) (next_cell cell_code.made) value_code.value gc fixed)
          within_chosen P.differ (e2 ∙ marks_assoc (all_marked way chosen_code.lines) after_chosen tm)
          (λ at3 c3 e3 same3 is3.
          let is4 : IsEntry 0 arms (entry_of v arms) (c3 chosen_cell) =
          subst (λ z. IsEntry 0 arms (entry_of z arms) (c3 chosen_cell)) h2 is3 in
          let a3 = at_all c2 c3 vars1 a2 same3 in
          let k3 = kept_trans base C.low None (next_cell m) (next_cell m) start c2 c3 (omega arith) k2
          (record { each = λ c l u. same3 c (omega (arith, u, gv, gc)) }) in
          let e4 = e3 ∙ marks_assoc all_arms_marks (all_marked way aside_code.lines) tm in
          let rest = LinesAt at3 (joined_to all_arms.lines (joined_to aside_code.lines T)) k in
          let held = λ (z : ℤ). updated c3 chosen_cell (number_for (entry_of z arms)) in
          at_lines S G R C n c3 at3 all_arms.lines aside_code.lines T k _
          (R.fit n (kernel_item S c3 rest) (inside S C (selecting ∷ ts) (v ∷ vs) vars1)
          (λ fits.
          R.select n c3 rest (selecting ∷ ts) v vs (frame C vars1 ∷ C.outer) held
          (λ z. inside S C (entry_tasks at0 (entry_of z arms) marker) vs vars1) refl (λ z. refl)
          (λ z types. held_types S c3 chosen_cell (number_for (entry_of z arms)) to_made (number_typed z fits.0) types)
          (λ z. arms_run a.exit_is (held z) vars1 (entry_of z arms) at3 e4
          (at_number c3 vars1 (number_for (entry_of z arms)) a3)
          (kept_trans base C.low None (next_cell m) (next_cell m) start c3 (held z) (omega arith) k3
          (kept_set base C.low None (next_cell m) c3 chosen_cell (number_for (entry_of z arms)) (omega (
            arith,
            gv,
            gc,
            gt,
          ))))
          (subst (λ y. IsEntry 0 arms (entry_of z arms) y)
          (sym (updated_same c3 chosen_cell (number_for (entry_of z arms)))) (entry_there z)))
          (arms_run a.exit_is c3 vars1 (entry_of v arms) at3 e4 a3 k3 is4))))))))))
        where
          within_chosen : Within S chosen_code.made
          within_chosen = within_less S (calls_of_arms arms) chosen_code.made all_arms.made
              (arms_grow S C calls all.grows all.adds cell_code.exit site (CellAtom chosen_cell) (int (pos 0)) 0 arms
              chosen_code.made) P.arms_part.within

          -- every value has its entry
          entry_there : (z : ℤ) → IsEntry 0 arms (entry_of z arms) (number_for (entry_of z arms))
          entry_there z = same_entry 0 arms (entry_of z arms) (last_number z 0 arms (pos (default_number 0 arms)))
              (chosen_entry z arms P.differ)

          number_typed : (z : ℤ) → lines_fit S.kernel (joined_to all_arms.lines (joined_to aside_code.lines T)) ≡
              true → IsValue Int (number_for (entry_of z arms))
          number_typed z fits = by (entry_of z arms) (entry_there z)
            where
              by : (e : Entry) → IsEntry 0 arms e (number_for e) → IsValue Int (number_for e)
              by nowhere h = minus_one
              by (entry i entered) h = arm_number S C calls cell_code.exit site (CellAtom chosen_cell) (int (pos 0)) 0
                  arms chosen_code.made (joined_to aside_code.lines T) i entered (pos i) fits h

          to_made : IsMade S chosen_cell Int
          to_made = chosen_made S site value_code.value arms cell_code.made within_chosen

          exits_c : IsExit S C (own_cell out cell value_code.made) cell_code.exit cell_code.made
          exits_c = exits_opened S C cell out exit value_code.made (within_less S [] cell_code.made chosen_code.made
              (selected_makes Grows grows_same grows_before (grows_with OfValue) (grows_with OfFlag) site
              value_code.value arms cell_code.made) within_chosen)
              (let l = P.low in let g = g_value in
              omega (arith, l, g)) (exit_more S C cell exit m value_code.made g_value P.exits)

          low_c : C.low ≤ next_cell cell_code.made
          low_c = let l = P.low in let g = g_value in let h = g_cell in omega (arith, l, g, h)

          at_all : (c2 c3 vars1 : Store) → At S C (own_cell out cell value_code.made) scope None (pos 0) c2 vars1 →
              ((c : ℕ) → c < next_cell cell_code.made → c3 c ≡ c2 c) →
              At S C (own_cell out cell value_code.made) scope None (pos 0) c3 vars1
          at_all c2 c3 vars1 a2 same =
              let le = under.below in
              let low = low_c in
              at_kept S C under is_body (own_cell out cell value_code.made) cell_code.exit scope cell_code.made
              exits_c low_c None (pos 0) c2 c3 vars1 vars1 a2
              (record {
                each = λ x has. let u = inner x has in same (C.here.base + x) (omega (arith, u, le, low)) ∙
                    a2.same.each x has;
              }) (record { each = λ c l u. same c u })

          at_number : (c3 vars1 : Store) (z : ℤ) →
              At S C (own_cell out cell value_code.made) scope None (pos 0) c3 vars1 →
              At S C (own_cell out cell value_code.made) scope None (pos 0) (updated c3 chosen_cell z) vars1
          at_number c3 vars1 z a3 = at_set S C under is_body (own_cell out cell value_code.made) cell_code.exit scope
              cell_code.made exits_c low_c None (pos 0) c3 vars1 chosen_cell z inner (let g = g_to in
              omega (arith, g)) a3

          fixed_same : IsFixedAtom S C.low (next_cell value_code.made) value_code.value.atom value_code.value.of →
              (c1 c2 : Store) → ((c : ℕ) → c < next_cell value_code.made → c2 c ≡ c1 c) →
              atom_value c2 value_code.value.atom ≡ atom_value c1 value_code.value.atom
          fixed_same f c1 c2 same = fixed_kept S 0 0 C.low (next_cell value_code.made) value_code.value c1 c2
              (omega arith) f (record { each = λ c l u. same c u })

  -- the switch among statements
  module _ (calls : Calls) (marks : CallMarks) (all : AreCalls S G R C calls marks) (scope : Scope)
      (inner : IsWithin S C scope) (cell : Option ℕ) (exit : ℕ) (way : Way) (site : ℕ) (value : Expression)
      (arms : Arms) (m : Made) where
    -- its parts
    pub switch_parts : ReadyStatement S C calls scope cell exit way (Switch site value arms) m →
        SwitchParts calls marks all scope inner cell exit way site value arms m (way_out_of_arms true true arms)
        (way_out_of_arms false true arms)
    unfolding statement_code
    switch_parts r =
        let out = way_out_of_arms true true arms in
        let mv = expression_code calls C.here value m in
        let mc = opened out exit mv.made in
        let ms = selected site mv.value arms mc.made in
        let to = next_cell (with_cell mc.made OfValue (promoted mv.value.of)) in
        let ma = arms_code calls C.here mc.exit site (CellAtom to) (int (pos 0)) 0 arms ms.made in
        let around = way_out_of_arms false true arms in
        let mw = outward around mc.exit exit ma.made in
        let gv = expression_grows S C calls all.grows all.adds value m in
        let gc : Grows [] mv.made mc.made =
        opened_makes Grows grows_same grows_before (grows_with OfValue) (grows_with OfFlag) out exit mv.made in
        let gs : Grows [] mc.made ms.made =
        selected_makes Grows grows_same grows_before (grows_with OfValue) (grows_with OfFlag) site mv.value arms
        mc.made in
        let ga = arms_grow S C calls all.grows all.adds mc.exit site (CellAtom to) (int (pos 0)) 0 arms ms.made in
        let gw : Grows [] ma.made mw.made =
        outward_makes Grows grows_same grows_before (grows_with OfValue) (grows_with OfFlag) around mc.exit exit
        ma.made in
        let wa : Within S ma.made = within_less S [] ma.made mw.made gw r.within in
        let ws : Within S ms.made = within_less S (calls_of_arms arms) ms.made ma.made ga wa in
        let wc : Within S mc.made = within_less S [] mc.made ms.made gs ws in
        let wv : Within S mv.made = within_less S [] mv.made mc.made gc wc in
        let nv = grows_count (calls_in value) m mv.made gv in
        let nc = grows_count [] mv.made mc.made gc in
        let ns = grows_count [] mc.made ms.made gs in
        let low = r.low in
        let next_v = next_right S C m mv.made (calls_in value) (calls_of_arms arms) r.next
        (expression_adds S C calls all.grows all.adds value m) in
        let next_c = next_right S C mv.made mc.made [] (calls_of_arms arms) next_v
        (opened_makes (Adds S C) (adds_same S C) (adds_before S C) (λ m of. adds_same S C m)
        (λ m of. adds_same S C m) out exit mv.made) in
        let next_s = next_right S C mc.made ms.made [] (calls_of_arms arms) next_c
        (selected_makes (Adds S C) (adds_same S C) (adds_before S C) (λ m of. adds_same S C m)
        (λ m of. adds_same S C m) site mv.value arms mc.made) in
        record {
          value_part = record {
            sound = r.sound.0;
            leads = further_leads S way Tested (λ along v. IsInScope (IsInBody S.program C.depth)
                (owned_by C.function scope) value along v) (λ begun along v h. r.leads begun (Tested ∷ along) v h);
            next = next_left S C m (calls_in value) (calls_of_arms arms) r.next;
            within = wv;
            low = r.low;
          };
          arms_part = record {
            sound = r.sound.3;
            leads = λ begun n i e l along v h.
                subst (λ z. IsScopedAt S.program (way begun ++ Arm z ∷ Nth l ∷ along) v) (let same : i ≡
                n = omega (arith, e) in same) (r.leads begun (Arm i ∷ Nth l ∷ along) v h);
            next = next_s;
            within = wa;
            low = omega (arith, low, nv, nc, ns);
            inner = r.inner;
            ended = r.ended;
            exits = exit_more S C (own_cell out cell mv.made) mc.exit mc.made ms.made ns
                (exits_opened S C cell out exit mv.made wc (omega (arith, low, nv))
                (exit_more S C cell exit m mv.made nv r.exits));
            has_exit = has_opened cell out exit mv.made;
          };
          scoped = λ begun v h. r.leads begun (Own 0 ∷ []) v h;
          within = r.within;
          low = r.low;
          exits = r.exits;
          has_exit = r.has_exit;
          is_out = refl;
          is_around = refl;
          differ = r.sound.1;
        }

    pub switch_follows : ReadyStatement S C calls scope cell exit way (Switch site value arms) m →
        AllArmsFollow calls marks all scope inner cell exit way site value arms m (way_out_of_arms true true arms)
        (way_out_of_arms false true arms)
        → StatementFollows S G R C calls marks scope cell exit way (Switch site value arms) m
    unfolding statement_code statement_marks
    switch_follows r follow n T tm k at cells vars ts vs next e a go =
        switch_any calls marks all scope inner cell exit way site value arms m (way_out_of_arms true true arms)
        (way_out_of_arms false true arms) (switch_parts r) follow n T tm k cells ts vs go at vars e a

    -- the number's cell is fixed, and no cell of a way out
    pub chosen_fixed : ReadyStatement S C calls scope cell exit way (Switch site value arms) m
        → IsFixedAtom S C.low (next_cell (chosen_code calls marks all scope inner cell exit way site value arms m
        (way_out_of_arms true true arms) (way_out_of_arms false true arms)).made)
        (CellAtom (chosen_cell calls marks all scope inner cell exit way site value arms m
        (way_out_of_arms true true arms) (way_out_of_arms false true arms))) Int
    chosen_fixed r =
        let P = switch_parts r in
        let mv = expression_code calls C.here value m in
        let mc = opened (way_out_of_arms true true arms) exit mv.made in
        let of = promoted mv.value.of in
        let m1 = with_cell mc.made OfValue of in
        let m2 = with_cell m1 OfValue Int in
        let n1 = next_with m1 OfValue Int in
        let n0 = next_with mc.made OfValue of in
        let cv : Value = record { atom = CellAtom (next_cell mc.made); of = of } in
        let ms = selected site mv.value arms mc.made in
        let g = grows_count [] m2 ms.made (all_labels_grow site cv (next_cell m1) 0 arms m2) in
        let gv = grows_count (calls_in value) m mv.made (expression_grows S C calls all.grows all.adds value m) in
        let gc = grows_count [] mv.made mc.made (opened_makes Grows grows_same grows_before (grows_with OfValue)
        (grows_with OfFlag) (way_out_of_arms true true arms) exit mv.made) in
        let low = r.low in
        let ws : Within S ms.made = within_less S (calls_of_arms arms) ms.made _
        (arms_grow S C calls all.grows all.adds mc.exit site (CellAtom (next_cell m1)) (int (pos 0)) 0 arms
        ms.made) P.arms_part.within in
        (omega (arith, low, gv, gc, n0), omega (arith, g, n1), chosen_made S site mv.value arms mc.made ws)

    apart_high : (o : Option ℕ) (d : ℕ) → ((c : ℕ) → o ≡ Some c → c < d) → Apart o d
    apart_high None d h = tt
    apart_high (Some c) d h = λ q. let l = h c refl in omega (arith, l, q)

    pub chosen_apart : ReadyStatement S C calls scope cell exit way (Switch site value arms) m
        → Apart (own_cell (way_out_of_arms true true arms) cell (expression_code calls C.here value m).made)
        (chosen_cell calls marks all scope inner cell exit way site value arms m (way_out_of_arms true true arms)
        (way_out_of_arms false true arms))
    chosen_apart r =
        let P = switch_parts r in
        let mv = expression_code calls C.here value m in
        let out = way_out_of_arms true true arms in
        let mc = opened out exit mv.made in
        let n0 = next_with mc.made OfValue (promoted mv.value.of) in
        let ms = selected site mv.value arms mc.made in
        let gv = grows_count (calls_in value) m mv.made (expression_grows S C calls all.grows all.adds value m) in
        let low = r.low in
        let ws : Within S ms.made = within_less S (calls_of_arms arms) ms.made _
        (arms_grow S C calls all.grows all.adds mc.exit site
        (CellAtom (next_cell (with_cell mc.made OfValue (promoted mv.value.of)))) (int (pos 0)) 0 arms ms.made)
        P.arms_part.within in
        let wc : Within S mc.made = within_less S [] mc.made ms.made
        (selected_makes Grows grows_same grows_before (grows_with OfValue) (grows_with OfFlag) site mv.value arms
        mc.made) ws in
        let exits_c = exits_opened S C cell out exit mv.made wc (omega (arith, low, gv))
        (exit_more S C cell exit m mv.made gv r.exits) in
        apart_high (own_cell out cell mv.made) (next_cell (with_cell mc.made OfValue (promoted mv.value.of)))
        (λ c e. let h = exits_c.high c e in omega (arith, h, n0))
