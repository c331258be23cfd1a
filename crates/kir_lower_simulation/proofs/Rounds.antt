-- Loops without and with a way out of their body.
use Rattle.std.proofs.Common.{◌≡◌, ℕ, suc, ◌+◌, ◌<◌, ◌≤◌, ℤ, pos, List, [], ◌∷◌, Option, Some, None, refl, sym, ap}
use Rattle.std.proofs.Common.{◌∙◌, subst, arith, inl, inr, ⊎_elim, true, false, ◌⊎◌}
use Rattle.std.proofs.Common.{Bool as Test}
use Rattle.std.proofs.lemmas.Option.{none-some, same_Some}
use Rattle.wg_num.specs.declared.types.IntType.TheVariants.{Int}
use Rattle.cl_model.specs.Calls.{calls_in_optional, calls_of}
use Rattle.cl_model.specs.Steps.{test_tasks, step_tasks, iteration as program_iteration}
use Rattle.cl_model.specs.Task.{Tested, Body, Step, Task, Run, InLoop, Item as ProgramItem}
use Rattle.cl_model.specs.Tree.{Expression, Statement, Loop}
use Rattle.cl_model.specs.Valid.{Scope, scope_after}
use Rattle.cl_model.specs.Values.{is_zero}
use Rattle.kir.specs.declared.line.Atom.TheVariants.{Const, Cell as CellAtom}
use Rattle.kir.specs.Tree.{Copy, Lines, NoLine, SetThen, IfThen, LoopThen, OfFlag, OfValue, joined_to}
use Rattle.kir.specs.Places.{Behind, IntoChosen, IntoOther, IntoTest, IntoBody, Place, Tasks, LinesAt, AnswerAt}
use Rattle.kir.specs.Places.{begun_in, iteration}
use Rattle.kir.specs.Steps.{Item, atom_value, answer_next}
use Rattle.kir_lower.specs.Made.{Made, next_cell, with_cell}
use Rattle.kir_lower.specs.Actions.{set_to, settled, outward, guarded_before}
use Rattle.kir_lower.specs.Code.{Calls, optional_code}
use Rattle.kir_lower_shape.specs.Marks.{Way, in_turn, Marks, NoMark, MarkThen, FormThen, marks_then, all_marked}
use Rattle.kir_lower_shape.specs.Marks.{marks_behind, marks_one, marks_two, marks_at}
use Rattle.kir_lower_shape.specs.CodeMarks.{CallMarks, guarded_marks}
use Rattle.kir_lower_shape.proofs.Joined.{join_none}
use Rattle.kir_lower_shape.proofs.Making.{outward_makes}
use Rattle.kir_lower_shape.proofs.Shapes.{optional_shaped}
use Rattle.kir_lower_simulation.specs.Setting.{Setting, Store, updated, kernel_item, Activation, inside}
use Rattle.kir_lower_simulation.specs.Setting.{behind_variables}
use Rattle.kir_lower_simulation.specs.Exits.{Exit, Continues, Breaks, Returns, pending, unwound, given_by, leaves, Can}
use Rattle.kir_lower_simulation.specs.Held.{Within, Apart, Kept, IsWithin, At}
use Rattle.kir_lower_simulation.specs.Facts.{Rules}
use Rattle.kir_lower_simulation.specs.Ready.{IsUnderWay}
use Rattle.kir_lower_simulation.specs.Bodies.{IsBody, IsExit}
use Rattle.kir_lower_simulation.proofs.Lines.{NoVariable, PlainAtom, plain_facts, updated_same, Sim, end_line}
use Rattle.kir_lower_simulation.proofs.Lines.{value_line, if_line}
use Rattle.kir_lower_simulation.proofs.Keeping.{Grows, grows_same, grows_before, grows_with, grows_count, next_with}
use Rattle.kir_lower_simulation.proofs.Keeping.{within_less, value_made, made_no_variable, cell_plain, fixed_plain}
use Rattle.kir_lower_simulation.proofs.Keeping.{kept_trans, kept_set, kept_weaker}
use Rattle.kir_lower_simulation.proofs.Fixing.{expression_fixed}
use Rattle.kir_lower_simulation.proofs.Expressions.{AreCalls}
use Rattle.kir_lower_simulation.proofs.Leaving.{leaves_way, none_left, continue_round, break_round, return_round}
use Rattle.kir_lower_simulation.proofs.Guards.{ended, passed_on, marks_none, some_pending, settled_follows}
use Rattle.kir_lower_simulation.proofs.Guards.{outward_follows, guard_on, guard_off}
use Rattle.kir_lower_simulation.proofs.Containing.{exit_more, optional_grows, statement_grows, scope_more}
use Rattle.kir_lower_simulation.proofs.Statements.{answer_kept, at_kept, at_set, StatementDone, StatementFollows}
use Rattle.kir_lower_simulation.proofs.Lists.{no_marks, at_less, as_none}
use Rattle.kir_lower_simulation.proofs.Loops.{IsAnswer, with_value, ReadyOptional, declares_none, kept_inner, rounds}
use Rattle.kir_lower_simulation.proofs.Loops.{enters, test_follows, step_follows, made_test, made_step, made_body}
use Rattle.kir_lower_simulation.proofs.Loops.{test_marks, step_marks, body_marks, LoopParts}

module _ (S : Setting) (G : ℕ → Item → ProgramItem → Type 0) (R : Rules S G) (C : Activation) (calls : Calls)
    (marks : CallMarks) (under : IsUnderWay S C) (is_body : IsBody S C) (all : AreCalls S G R C calls marks)
    (scope : Scope) (inner : IsWithin S C scope)
    (cell : Option ℕ) (exit : ℕ) (way : Way) (site : ℕ) (first : Test) (test step : Option Expression)
    (body : Statement) (m : Made) where
  -- the answer of a test is no variable's cell
  test_plain : (e : Option Expression) (m1 : Made) → ReadyOptional S C calls scope (in_turn way Tested) e m1 →
      PlainAtom S (optional_code calls C.here e m1).value.atom
  test_plain None m1 r = λ v c is. refl
  test_plain (Some e) m1 r = fixed_plain S C.low (next_cell (optional_code calls C.here (Some e) m1).made)
      (optional_code calls C.here (Some e) m1).value (expression_fixed S C calls all.grows all.adds all.fixed scope
      (in_turn way Tested) e m1 r)

  -- what follows the loop, for so many moves
  abbrev pub LoopDone : Lines → Marks → Tasks → Store → List Task → List ℤ → ℕ → Type 0
  LoopDone T tm k start ts vs n =
      StatementDone S G R C n (next_cell m) cell scope (Can (Loop site first test step body)) T tm k start ts vs

  less_done : (T : Lines) (tm : Marks) (k : Tasks) (start : Store) (ts : List Task) (vs : List ℤ) (n : ℕ) →
      LoopDone T tm k start ts vs (suc n) → LoopDone T tm k start ts vs n
  less_done T tm k start ts vs n d at new vars o v c e a kept = R.fewer n _ _ (d at new vars o v c e a kept)

  -- ---- without a way out

  module _ (P : LoopParts S G R C calls marks under is_body all scope inner cell exit way site first test step body m
      None None)
      (body_follows : StatementFollows S G R C calls marks scope cell exit (in_turn way Body) body
      (made_step S G R C calls marks under is_body all scope inner cell exit way site first test step body m
      None None).made)
      (T : Lines) (tm : Marks) (k : Tasks) (at1 : Place) (start : Store) (ts : List Task) (vs : List ℤ) where
    abbrev plain_test : Lines
    plain_test = (made_test S G R C calls marks under is_body all scope inner cell exit way site first test step body
        m None None).lines

    abbrev plain_step : Lines
    plain_step = (made_step S G R C calls marks under is_body all scope inner cell exit way site first test step body
        m None None).lines

    abbrev plain_body : Lines
    plain_body = joined_to (made_body S G R C calls marks under is_body all scope inner cell exit way site first test
        step body m None None).lines plain_step

    abbrev plain_answer : Rattle.kir.specs.declared.line.Atom.Atom
    plain_answer = (made_test S G R C calls marks under is_body all scope inner cell exit way site first test step
        body m None None).value.atom

    abbrev pub PlainInv : Store → Store → Type 0
    PlainInv cells vars =
        At S C cell scope None (pos 0) cells vars × Kept C.here.base C.low cell (next_cell m) start cells

    abbrev plain_tail : Tasks
    plain_tail = LinesAt (Behind ∷ at1) T k

    abbrev pub PlainHead : ℕ → ℕ → Store → Store → Type 0
    PlainHead n b cells vars = Sim S G R C n cells
        (LinesAt (IntoTest ∷ at1) plain_test (AnswerAt at1 plain_test plain_answer plain_body b plain_tail))
        (test_tasks (way (begun_in k)) b test (InLoop (way (begun_in k)) site test step body b ∷ ts)) vs vars

    module _ (e : marks_at S.marks at1 ≡
        FormThen way (test_marks S G R C calls marks under is_body all scope inner cell exit way site first test
        step body m None None)
        (marks_then (body_marks S G R C calls marks under is_body all scope inner cell exit way site first test step
        body m None None) (step_marks S G R C calls marks under is_body all scope inner cell exit way site
        first test step body m None None)) tm) where
      plain_tests : (n b : ℕ) (cells vars : Store) → PlainInv cells vars
          → ((new vars' : Store) (v : ℤ) → PlainInv new vars' → IsAnswer test v → atom_value new plain_answer ≡ v →
          Sim S G R C n new (AnswerAt at1 plain_test plain_answer plain_body b plain_tail)
          (InLoop (way (begun_in k)) site test step body b ∷ ts) (with_value test v vs) vars')
          → PlainHead n b cells vars
      plain_tests n b cells vars inv go =
          let answer = AnswerAt at1 plain_test plain_answer plain_body b plain_tail in
          let one = test_marks S G R C calls marks under is_body all scope inner cell exit way site first test step
          body m None None in
          subst (λ z. Sim S G R C n cells (LinesAt (IntoTest ∷ at1) z answer)
          (test_tasks (way (begun_in k)) b test (InLoop (way (begun_in k)) site test step body b ∷ ts)) vs vars)
          (join_none plain_test)
          (test_follows S G R C calls marks under is_body all scope inner way site test step body m P.low P.test_part
          (λ begun i v h. P.scoped begun i 0 v h) n b (begun_in k) NoLine NoMark answer (IntoTest ∷ at1) cells
          vars ts vs refl
          (ap marks_one e ∙ sym (marks_none one)) inv.0.same
          (λ at2 new vars2 v e2 s2 kept2 is holds. end_line S G R C n new at2 answer _
          (go new vars2 v (
            at_kept S C under is_body cell exit scope m P.exits P.low None (pos 0) cells new vars vars2 inv.0 s2 kept2,
            kept_trans C.here.base C.low cell (next_cell m) (next_cell m) start cells new (omega arith) inv.1
                (kept_weaker C.here.base (behind_variables S C) C.low cell (next_cell m) cells new under.below kept2),
          )
          is holds)))

      plain_bodies : (n b : ℕ) (cells vars : Store) → LoopDone T tm k start ts vs n → PlainInv cells vars →
          ((new vars' : Store) → PlainInv new vars' → PlainHead n b new vars')
          → Sim S G R C n cells (iteration at1 plain_test plain_answer plain_body b plain_tail)
          (program_iteration (way (begun_in k)) site test step body b ts) vs vars
      plain_bodies n b cells vars d inv next =
          let head =
          LinesAt (IntoTest ∷ at1) plain_test (AnswerAt at1 plain_test plain_answer plain_body b plain_tail) in
          let ms = step_marks S G R C calls marks under is_body all scope inner cell exit way site first test step
          body m None None in
          let made1 = (made_test S G R C calls marks under is_body all scope inner cell exit way site first test step
          body m None None).made in
          let made2 = (made_step S G R C calls marks under is_body all scope inner cell exit way site first test step
          body m None None).made in
          let g1 = grows_count (calls_in_optional test) m made1 (optional_grows S C calls all.grows all.adds test m) in
          let g2 = grows_count (calls_in_optional step) made1 made2 (optional_grows S C calls all.grows all.adds step
          made1) in
          let low = P.low in
          let rest = test_tasks (way (begun_in k)) b test (InLoop (way (begun_in k)) site test step body b ∷ ts) in
          body_follows n plain_step ms head (IntoBody ∷ at1) cells vars (step_tasks (way (begun_in k)) b step rest) vs
          (λ x p us vars'. absurd (declares_none scope body x P.same_scope p)) (ap marks_two e) inv.0
          (λ at2 new vars2 o v can e2 a2 kept2.
          (elim o as (λ o. Can body o → At S C cell (scope_after scope body) o v new vars2 →
          G n (kernel_item S new (LinesAt at2 plain_step head))
          (unwound o v (inside S C (step_tasks (way (begun_in k)) b step rest) vs vars2))) [
            | None ↦ λ can a2.
                let a3 = at_less S C cell scope (scope_after scope body) None (pos 0) new vars2
                (scope_more scope body) (as_none S C cell (scope_after scope body) v new vars2 a2) in
                subst (λ z. Sim S G R C n new (LinesAt at2 z head) (step_tasks (way (begun_in k)) b step rest) vs
                vars2) (join_none plain_step)
                (step_follows S G R C calls marks under is_body all scope inner way step made1 P.step_part
                (λ begun i u h. P.scoped begun i 1 u h) n b (begun_in k) NoLine NoMark head at2 new vars2 rest
                vs refl (e2 ∙ sym (marks_none ms)) a3.same
                (λ at3 new3 vars3 e3 s3 kept3. end_line S G R C n new3 at3 head _
                (next new3 vars3 (
                  at_kept S C under is_body cell exit scope made1 (exit_more S C cell exit m made1 g1 P.exits)
                      (omega (arith, low, g1)) None (pos 0) new new3 vars2 vars3 a3 s3 kept3,
                  kept_trans C.here.base C.low cell (next_cell m) (next_cell made1) start new new3 g1
                      (kept_trans C.here.base C.low cell (next_cell m) (next_cell made2) start cells new
                      (omega (arith, g1, g2)) inv.1 kept2)
                      (kept_weaker C.here.base (behind_variables S C) C.low cell (next_cell made1) new new3
                      under.below kept3),
                ))))
            | Some x ↦ λ can a2. absurd (none_left x body P.is_out can)
          ]) can a2)

      plain_out : (n : ℕ) (cells vars : Store) → LoopDone T tm k start ts vs n → PlainInv cells vars →
          Sim S G R C n cells plain_tail ts vs vars
      plain_out n cells vars d inv = d (Behind ∷ at1) cells vars None (pos 0) tt (ap marks_behind e) inv.0 inv.1

      module _ (heads : (b : ℕ) (cells vars : Store) → LoopDone T tm k start ts vs 0 → PlainInv cells vars →
          PlainHead 0 b cells vars) where
        pub plain_head : (n b : ℕ) (cells vars : Store) → LoopDone T tm k start ts vs n → PlainInv cells vars →
            PlainHead n b cells vars
        plain_head n b cells vars d inv =
            rounds S G R C calls marks under is_body all scope inner way site test step body plain_test plain_body
            plain_answer at1 plain_tail ts vs PlainInv (LoopDone T tm k start ts vs)
            (test_plain test m P.test_part) (less_done T tm k start ts vs) heads plain_tests plain_bodies plain_out n
            b cells vars d inv

        pub plain_enters : (n : ℕ) (cells vars : Store) → LoopDone T tm k start ts vs n → PlainInv cells vars
            → Sim S G R C n cells (LinesAt at1 (LoopThen site first plain_test plain_answer plain_body T) k)
            (Run (way (begun_in k)) (Loop site first test step body) ∷ ts) vs vars
        plain_enters n cells vars d inv =
            enters S G R C calls marks under is_body all scope inner way site test step body plain_test plain_body
            plain_answer at1 plain_tail ts vs PlainInv (LoopDone T tm k start ts vs)
            (test_plain test m P.test_part) (less_done T tm k start ts vs) heads plain_tests plain_bodies plain_out
            first n T k cells vars refl d inv

  -- ---- with a way out

  module _ (o : ℕ) (around : Option ℕ) (P : LoopParts S G R C calls marks under is_body all scope inner cell exit way
      site first test step body m (Some o) around)
      (body_follows : StatementFollows S G R C calls marks scope (Some (next_cell m)) (next_cell m) (in_turn way Body)
      body (made_step S G R C calls marks under is_body all scope inner cell exit way site first test step body
      m (Some o) around).made)
      (T : Lines) (tm : Marks) (k : Tasks) (at1 : Place) (start : Store) (ts : List Task) (vs : List ℤ) where
    -- the loop's own cell, and what is made in order
    abbrev own : ℕ
    own = next_cell m

    abbrev ct : Rattle.kir_lower.specs.Actions.Code
    ct = made_test S G R C calls marks under is_body all scope inner cell exit way site first test step body m
        (Some o) around

    abbrev cs : Rattle.kir_lower.specs.Actions.Code
    cs = made_step S G R C calls marks under is_body all scope inner cell exit way site first test step body m
        (Some o) around

    abbrev cb : Rattle.kir_lower.specs.Actions.Steps
    cb = made_body S G R C calls marks under is_body all scope inner cell exit way site first test step body m
        (Some o) around

    -- the cell of the answer, and what is made then
    abbrev to : ℕ
    to = next_cell cb.made

    abbrev made2 : Made
    made2 = with_cell cb.made OfValue ct.value.of

    abbrev settling : Rattle.kir_lower.specs.Actions.Steps
    settling = settled o own made2

    abbrev aside : Rattle.kir_lower.specs.Actions.Steps
    aside = outward around own exit settling.made

    -- the lines of test and body
    abbrev exit_test : Lines
    exit_test = SetThen to (Copy (Const (pos 0) ct.value.of))
        (IfThen o (CellAtom own) NoLine (joined_to ct.lines (set_to to ct.value.atom)) NoLine)

    abbrev exit_behind : Lines
    exit_behind = joined_to settling.lines (guarded_before o own cs.lines NoLine)

    abbrev exit_body : Lines
    exit_body = joined_to cb.lines exit_behind

    abbrev pub ExitInv : Store → Store → Type 0
    ExitInv cells vars =
        At S C (Some own) scope None (pos 0) cells vars × Kept C.here.base C.low None (next_cell m) start cells

    abbrev exit_tail : Tasks
    exit_tail = LinesAt (Behind ∷ at1) (joined_to aside.lines T) k

    abbrev exit_answer : ℕ → Tasks
    exit_answer b = AnswerAt at1 exit_test (CellAtom to) exit_body b exit_tail

    abbrev pub ExitHead : ℕ → ℕ → Store → Store → Type 0
    ExitHead n b cells vars = Sim S G R C n cells (LinesAt (IntoTest ∷ at1) exit_test (exit_answer b))
        (test_tasks (way (begun_in k)) b test (InLoop (way (begun_in k)) site test step body b ∷ ts)) vs vars

    -- ---- the cells that are made

    g0 : next_cell (with_cell m OfFlag Int) ≡ suc (next_cell m)
    g0 = next_with m OfFlag Int

    g1 : next_cell (with_cell m OfFlag Int) ≤ next_cell ct.made
    g1 = grows_count (calls_in_optional test) (with_cell m OfFlag Int) ct.made
        (optional_grows S C calls all.grows all.adds test (with_cell m OfFlag Int))

    g2 : next_cell ct.made ≤ next_cell cs.made
    g2 = grows_count (calls_in_optional step) ct.made cs.made (optional_grows S C calls all.grows all.adds step ct.made)

    g3 : next_cell cs.made ≤ to
    g3 = grows_count (calls_of body) cs.made cb.made (statement_grows S C calls all.grows all.adds own body cs.made)

    g4 : next_cell made2 ≡ suc to
    g4 = next_with cb.made OfValue ct.value.of

    w_settled : Within S settling.made
    w_settled = within_less S [] settling.made aside.made
        (outward_makes Grows grows_same grows_before (grows_with OfValue) (grows_with OfFlag) around own exit
        settling.made) P.within

    w2 : Within S made2
    w2 = within_less S [] made2 settling.made (grows_with OfValue made2 Int) w_settled

    to_plain : NoVariable S to
    to_plain = made_no_variable S to ct.value.of (value_made S cb.made ct.value.of w2)

    own_plain : NoVariable S own
    own_plain = made_no_variable S own Int (P.body_part.exits.made own refl)

    -- the ways out of the body, where all of it is made
    exits_b : IsExit S C (Some own) own cb.made
    exits_b = exit_more S C (Some own) own cs.made cb.made g3 P.body_part.exits

    low_b : C.low ≤ next_cell cb.made
    low_b = let a = P.low in let b = g0 in let c = g1 in let d = g2 in let f = g3 in omega (arith, a, b, c, d, f)

    -- the answer's cell is set
    set_answer : (p : Option Exit) (u : ℤ) (cells vars : Store) (v : ℤ) → At S C (Some own) scope p u cells vars →
        Kept C.here.base C.low None (next_cell m) start cells
        → At S C (Some own) scope p u (updated cells to v) vars ×
        Kept C.here.base C.low None (next_cell m) start (updated cells to v)
    set_answer p u cells vars v at kept = (
      at_set S C under is_body (Some own) own scope cb.made exits_b low_b p u cells vars to v inner (omega arith) at,
      kept_trans C.here.base C.low None (next_cell m) (next_cell m) start cells (updated cells to v) (omega arith) kept
          (kept_set C.here.base C.low None (next_cell m) cells to v (let b = g0 in let c = g1 in let d = g2 in
          let f = g3 in omega (arith, b, c, d, f))),
    )

    module _ (e : marks_at S.marks at1 ≡ FormThen way
        (MarkThen way (FormThen way NoMark
        (marks_then (test_marks S G R C calls marks under is_body all scope inner cell exit way site first
        test step body m (Some o) around) (all_marked way (set_to to ct.value.atom))) NoMark))
        (marks_then (body_marks S G R C calls marks under is_body all scope inner cell exit way site first test step
        body m (Some o) around)
        (marks_then (all_marked way settling.lines)
        (guarded_marks way cs.lines (step_marks S G R C calls marks under is_body all scope inner cell exit way
        site first test step body m (Some o) around) NoMark)))
        (marks_then (all_marked way aside.lines) tm)) where
      -- ---- behind the loop

      can_leave : (p : Option Exit) → (p ≡ Some Continues → ⊥) → (p ≡ Some Returns → leaves Returns body ≡ true) →
          Can (Loop site first test step body) (passed_on p)
      can_leave None no_continue returns = tt
      can_leave (Some Continues) no_continue returns = absurd (no_continue refl)
      can_leave (Some Breaks) no_continue returns = tt
      can_leave (Some Returns) no_continue returns = returns refl

      leaving_around : (a : Option ℕ) → around ≡ a → Within S (outward a own exit settling.made).made →
          marks_at S.marks (Behind ∷ at1) ≡ marks_then (all_marked way (outward a own exit settling.made).lines) tm
          → (n : ℕ) (cells vars : Store) (p : Option Exit) (v : ℤ) → LoopDone T tm k start ts vs n →
          At S C (Some own) scope p v cells vars → Kept C.here.base C.low None (next_cell m) start cells →
          ((c : ℕ) → cell ≡ Some c → start c ≡ pos 0)
          → (p ≡ Some Continues → ⊥) → (p ≡ Some Returns → leaves Returns body ≡ true)
          → G n (kernel_item S cells (LinesAt (Behind ∷ at1) (joined_to (outward a own exit settling.made).lines T)
          k)) (unwound (passed_on p) v (inside S C ts vs vars))
      leaving_around None same within marked n cells vars p v d at kept zero_ no_continue returns =
          by p at returns no_continue
        where
          ended_so : (p : Option Exit) → given_by p v ≡ pos 0 → At S C (Some own) scope p v cells vars →
              At S C cell scope None (pos 0) cells vars
          ended_so p z at = record {
            same = at.same;
            exit_is = λ c q. kept.each c (inr (P.exits.low c q, tt)) (P.exits.high c q) ∙ zero_ c q;
            answer_is = at.answer_is ∙ z;
          }

          by : (p : Option Exit) → At S C (Some own) scope p v cells vars →
              (p ≡ Some Returns → leaves Returns body ≡ true) → (p ≡ Some Continues → ⊥) →
              G n (kernel_item S cells (LinesAt (Behind ∷ at1) T k)) (unwound (passed_on p) v (inside S C ts vs vars))
          by None at returns no_continue =
              d (Behind ∷ at1) cells vars None (pos 0) tt marked (ended_so None refl at)
              (kept_weaker C.here.base C.low C.low cell (next_cell m) start cells (omega arith) kept)
          by (Some Breaks) at returns no_continue =
              d (Behind ∷ at1) cells vars None (pos 0) tt marked (ended_so (Some Breaks) refl at)
              (kept_weaker C.here.base C.low C.low cell (next_cell m) start cells (omega arith) kept)
          by (Some Continues) at returns no_continue = absurd (no_continue refl)
          by (Some Returns) at returns no_continue = let t =
              leaves_way Returns false false body refl (returns refl) in
              absurd (none-some t.0 (sym same ∙ sym P.is_around ∙ t.1))
      leaving_around (Some s) same within marked n cells vars p v d at kept zero_ no_continue returns =
          let real = P.has_exit s same in
          let l = P.exits.low exit real in
          let h = P.exits.high exit real in
          let le = under.below in
          let a0 = g0 in let a1 = g1 in let a2 = g2 in let a3 = g3 in let a4 = g4 in
          let a5 = next_with made2 OfValue Int in
          outward_follows S G R C p s own exit settling.made n T way tm k (Behind ∷ at1) cells
          (unwound (passed_on p) v (inside S C ts vs vars)) own_plain
          (made_no_variable S exit Int (P.exits.made exit real))
          (omega (arith, a0, a1, a2, a3, a4, a5)) (omega (arith, h, a0, a1, a2, a3, a4, a5)) within marked
          (at.exit_is own refl) (kept.each exit (inr (l, tt)) h ∙ zero_ exit real)
          (λ at2 new e2 holds2 but.
          d at2 new vars (passed_on p) v (can_leave p no_continue returns) e2
          (record {
            same = record {
              each = λ x has. let u = inner x has in
                  but (C.here.base + x) (λ q. omega (arith, q, u, le, l)) (omega (
                    arith,
                    u,
                    le,
                    l,
                    h,
                    a0,
                    a1,
                    a2,
                    a3,
                    a4,
                    a5,
                  )) ∙ at.same.each x has;
            };
            exit_is = λ c q. ap new (same_Some c exit (sym q ∙ real)) ∙ holds2;
            answer_is = answer_kept S C under is_body cells new (λ c b lt. but c (λ q. omega (arith, q, lt, l))
                (omega (arith, lt, l, h, a0, a1, a2, a3, a4, a5))) ∙ at.answer_is ∙ same_given p;
          })
          (record {
            each = λ c r u. but c (λ q. apart_from c r u q real l) (omega (
              arith,
              u,
              a0,
              a1,
              a2,
              a3,
              a4,
              a5,
            )) ∙ kept.each c (⊎_elim (λ (x : c < C.here.base). inl x) (λ (x : (C.low ≤ c) × Apart cell c).
                inr (x.0, tt)) r) u;
          }))
        where
          same_given : (p : Option Exit) → given_by p v ≡ given_by (passed_on p) v
          same_given None = refl
          same_given (Some Continues) = refl
          same_given (Some Breaks) = refl
          same_given (Some Returns) = refl

          apart_from : (c : ℕ) → (c < C.here.base) ⊎ ((C.low ≤ c) × Apart cell c) → c < next_cell m → c ≡ exit →
              cell ≡ Some exit → C.low ≤ exit → ⊥
          apart_from c (inl x) u q real l = let le = under.below in omega (arith, x, q, l, le)
          apart_from c (inr x) u q real l = subst (λ z. Apart z c → ⊥) (sym real) (λ f. f q) x.1

      -- behind the loop, with this way out pending
      leaving : (n : ℕ) (cells vars : Store) (p : Option Exit) (v : ℤ) → LoopDone T tm k start ts vs n →
          At S C (Some own) scope p v cells vars → Kept C.here.base C.low None (next_cell m) start cells →
          ((c : ℕ) → cell ≡ Some c → start c ≡ pos 0)
          → (p ≡ Some Continues → ⊥) → (p ≡ Some Returns → leaves Returns body ≡ true) →
          G n (kernel_item S cells exit_tail) (unwound (passed_on p) v (inside S C ts vs vars))
      leaving n cells vars p v d at kept zero_ no_continue returns =
          leaving_around around refl P.within (ap marks_behind e) n cells vars p v d at kept zero_ no_continue returns

      -- at the head, with a way out pending, the test answers 0
      head_off : (x : Exit) (n b : ℕ) (cells vars : Store) (v : ℤ) → LoopDone T tm k start ts vs n →
          At S C (Some own) scope (Some x) v cells vars → Kept C.here.base C.low None (next_cell m) start cells →
          ((c : ℕ) → cell ≡ Some c → start c ≡ pos 0)
          → (Some x ≡ Some Continues → ⊥) → (Some x ≡ Some Returns → leaves Returns body ≡ true)
          → G n (kernel_item S cells (LinesAt (IntoTest ∷ at1) exit_test (exit_answer b)))
          (unwound (passed_on (Some x)) v (inside S C ts vs vars))
      head_off x n b cells vars v d at kept zero_ no_continue returns =
          let answer = exit_answer b in
          let tail = LinesAt (Behind ∷ Behind ∷ IntoTest ∷ at1) NoLine answer in
          let inside_lines = joined_to ct.lines (set_to to ct.value.atom) in
          let c1 = updated cells to (pos 0) in
          let k1 = set_answer (Some x) v cells vars (pos 0) at kept in
          let i = kernel_item S c1 answer in
          value_line S G R C n cells (IntoTest ∷ at1) to (Copy (Const (pos 0) ct.value.of))
          (IfThen o (CellAtom own) NoLine inside_lines NoLine) answer _ to_plain (λ v c is. refl)
          (if_line S G R C n c1 (Behind ∷ IntoTest ∷ at1) o (CellAtom own) NoLine inside_lines NoLine answer _ false
          (cell_plain S own own_plain) (ap is_zero (k1.0.exit_is own refl) ∙ some_pending x)
          (end_line S G R C n c1 (IntoChosen ∷ Behind ∷ IntoTest ∷ at1) tail _
          (end_line S G R C n c1 (Behind ∷ Behind ∷ IntoTest ∷ at1) answer _
          (R.line n i (kernel_item S c1 exit_tail) _
          (plain_facts S i _ (record { reads_none = cell_plain S to to_plain; sets_none = λ u c is. refl }))
          (ap (λ z. answer_next i z at1 exit_test (CellAtom to) exit_body b exit_tail) (updated_same cells to (pos 0)))
          (leaving n c1 vars (Some x) v d k1.0 k1.1 zero_ no_continue returns)))))

      exit_tests : (n b : ℕ) (cells vars : Store) → ExitInv cells vars
          → ((new vars' : Store) (v : ℤ) → ExitInv new vars' → IsAnswer test v → atom_value new (CellAtom to) ≡ v →
          Sim S G R C n new (exit_answer b) (InLoop (way (begun_in k)) site test step body b ∷ ts)
          (with_value test v vs) vars')
          → ExitHead n b cells vars
      exit_tests n b cells vars inv go =
          let answer = exit_answer b in
          let tail = LinesAt (Behind ∷ Behind ∷ IntoTest ∷ at1) NoLine answer in
          let inside_lines = joined_to ct.lines (set_to to ct.value.atom) in
          let c1 = updated cells to (pos 0) in
          let inv1 = set_answer None (pos 0) cells vars (pos 0) inv.0 inv.1 in
          let marks1 = ap (λ z. marks_two (marks_behind (marks_one z))) e in
          value_line S G R C n cells (IntoTest ∷ at1) to (Copy (Const (pos 0) ct.value.of))
          (IfThen o (CellAtom own) NoLine inside_lines NoLine) answer _ to_plain (λ v c is. refl)
          (if_line S G R C n c1 (Behind ∷ IntoTest ∷ at1) o (CellAtom own) NoLine inside_lines NoLine answer _ true
          (cell_plain S own own_plain) (ap is_zero (inv1.0.exit_is own refl))
          (test_follows S G R C calls marks under is_body all scope inner way site test step body
          (with_cell m OfFlag Int) (let a = P.low in let c = g0 in
          omega (arith, a, c)) P.test_part (λ begun i v h. P.scoped begun i 0 v h) n b (begun_in k)
          (set_to to ct.value.atom) (MarkThen way NoMark) tail (IntoOther ∷ Behind ∷ IntoTest ∷ at1) c1 vars ts vs
          refl marks1 inv1.0.same
          (λ at2 c2 vars2 v e2 s2 kept2 is holds.
          let a2 = at_kept S C under is_body (Some own) own scope (with_cell m OfFlag Int) (exits_m) (let a = P.low in
          let c = g0 in omega (arith, a, c)) None (pos 0) c1 c2 vars vars2 inv1.0 s2 kept2 in
          let k2 = kept_trans C.here.base C.low None (next_cell m) (next_cell (with_cell m OfFlag Int)) start c1 c2
          (let c = g0 in omega (arith, c)) inv1.1 (kept_weaker C.here.base (behind_variables S C) C.low None
          (next_cell (with_cell m OfFlag Int)) c1 c2 under.below kept2) in
          let w = atom_value c2 ct.value.atom in
          value_line S G R C n c2 at2 to (Copy ct.value.atom) NoLine tail _ to_plain
          (test_plain test (with_cell m OfFlag Int) P.test_part)
          (end_line S G R C n (updated c2 to w) (Behind ∷ at2) tail _
          (end_line S G R C n (updated c2 to w) (Behind ∷ Behind ∷ IntoTest ∷ at1) answer _
          (go (updated c2 to w) vars2 v (set_answer None (pos 0) c2 vars2 w a2 k2) is (updated_same c2 to w ∙
          holds)))))))
        where
          exits_m : IsExit S C (Some own) own (with_cell m OfFlag Int)
          exits_m = record {
            is = P.body_part.exits.is;
            made = P.body_part.exits.made;
            low = P.body_part.exits.low;
            high = λ c q. let same = same_Some own c q in let b = g0 in omega (arith, same, b);
          }

      exit_bodies : ((c : ℕ) → cell ≡ Some c → start c ≡ pos 0) → (n b : ℕ) (cells vars : Store) →
          LoopDone T tm k start ts vs n → ExitInv cells vars →
          ((new vars' : Store) → ExitInv new vars' → ExitHead n b new vars')
          → Sim S G R C n cells (iteration at1 exit_test (CellAtom to) exit_body b exit_tail)
          (program_iteration (way (begun_in k)) site test step body b ts) vs vars
      exit_bodies zero_ n b cells vars d inv next =
          let head = LinesAt (IntoTest ∷ at1) exit_test (exit_answer b) in
          let ms = step_marks S G R C calls marks under is_body all scope inner cell exit way site first test step
          body m (Some o) around in
          let rest = test_tasks (way (begun_in k)) b test (InLoop (way (begun_in k)) site test step body b ∷ ts) in
          let stepping = step_tasks (way (begun_in k)) b step rest in
          let guard = guarded_before o own cs.lines NoLine in
          let gm = guarded_marks way cs.lines ms NoMark in
          let a0 = g0 in let a1 = g1 in let a2 = g2 in let a3 = g3 in let a4 = g4 in
          body_follows n exit_behind (marks_then (all_marked way settling.lines) gm) head (IntoBody ∷ at1) cells vars
          stepping vs (λ x p us vars'. absurd (declares_none scope body x P.same_scope p)) (ap marks_two e) inv.0
          (λ at2 c2 vars2 p v can e2 b2 kept2.
          let at_2 = at_less S C (Some own) scope (scope_after scope body) p v c2 vars2 (scope_more scope body) b2 in
          let k2 : Kept C.here.base C.low None (next_cell m) start c2 =
          kept_trans C.here.base C.low None (next_cell m) (next_cell m) start cells c2 (omega arith) inv.1
          (kept_inner C.here.base C.low (next_cell m) (next_cell cs.made) own cells c2 (omega arith)
          (omega (arith, a0, a1, a2)) kept2) in
          settled_follows S G R C p o own made2 n guard way gm head at2 c2
          (unwound p v (inside S C stepping vs vars2)) own_plain (omega (arith, a0, a1, a2, a3, a4)) w_settled e2
          (at_2.exit_is own refl)
          (λ at3 c3 e3 holds3 but.
          let k3 : Kept C.here.base C.low None (next_cell m) start c3 =
          record {
            each = λ c r u. but c (λ q. omega (arith, q, u)) (omega (arith, u, a0, a1, a2, a3, a4)) ∙
                k2.each c r u;
          } in
          let low = P.low in
          let le = under.below in
          let settled_at : (q : Option Exit) → c3 own ≡ pending q → given_by p v ≡ given_by q v →
          At S C (Some own) scope q v c3 vars2 = λ q holds same. record {
            same = record {
              each = λ x has. let u = inner x has in
                  but (C.here.base + x) (λ r. omega (arith, r, u, le, low)) (omega (
                    arith,
                    u,
                    le,
                    low,
                    a0,
                    a1,
                    a2,
                    a3,
                    a4,
                  )) ∙ at_2.same.each x has;
            };
            exit_is = λ c r. ap c3 (sym (same_Some own c r)) ∙ holds;
            answer_is = answer_kept S C under is_body c2 c3 (λ c x lt. but c (λ r. omega (arith, r, lt, low))
                (omega (arith, lt, low, a0, a1, a2, a3, a4))) ∙ at_2.answer_is ∙ same;
          } in
          let on : At S C (Some own) scope None (pos 0) c3 vars2 →
          Sim S G R C n c3 (LinesAt at3 guard head) stepping vs vars2 = λ at_3.
          subst (λ z. Sim S G R C n c3 (LinesAt at3 z head) stepping vs vars2) (join_none guard)
          (guard_on S G R C o own cs.lines NoLine n NoLine way ms NoMark NoMark head at3 c3 _ own_plain
          (at_3.exit_is own refl) (λ z. no_marks cs.lines ms (optional_shaped calls marks all.shaped C.here
          (in_turn way Step) step ct.made) z) (e3 ∙ sym (marks_none gm))
          (λ T1 tm1 k1 at4 same bridge e4.
          step_follows S G R C calls marks under is_body all scope inner way step ct.made P.step_part (λ begun i u h.
          P.scoped begun i 1 u h) n b (begun_in k) T1 tm1 k1 at4 c3 vars2 rest vs same e4 at_3.same
          (λ at5 c5 vars5 e5 s5 kept5.
          bridge n c5 _ at5 e5 (λ at6 e6. end_line S G R C n c5 at6 head _
          (next c5 vars5 (
            at_kept S C under is_body (Some own) own scope ct.made exits_t (omega (arith, low, a0, a1)) None (pos 0)
                c3 c5 vars2 vars5 at_3 s5 kept5,
            kept_trans C.here.base C.low None (next_cell m) (next_cell ct.made) start c3 c5 (omega (arith, a0, a1)) k3
                (kept_weaker C.here.base (behind_variables S C) C.low None (next_cell ct.made) c3 c5 le kept5),
          )))))) in
          let off : (x : Exit) → c3 own ≡ pending (Some x) → given_by p v ≡ given_by (Some x) v →
          (Some x ≡ Some Continues → ⊥) → (Some x ≡ Some Returns → leaves Returns body ≡ true)
          → G n (kernel_item S c3 (LinesAt at3 guard head)) (unwound (passed_on (Some x)) v (inside S C ts vs vars2))
          = λ x holds same no_continue returns.
          subst (λ z. G n (kernel_item S c3 (LinesAt at3 z head))
          (unwound (passed_on (Some x)) v (inside S C ts vs vars2))) (join_none guard)
          (guard_off S G R C x o own cs.lines NoLine n NoLine way ms NoMark NoMark head at3 c3 _ own_plain holds (e3 ∙
          sym (marks_none gm))
          (λ at4 e4. end_line S G R C n c3 at4 head _ (head_off x n b c3 vars2 v d (settled_at (Some x) holds same) k3
          zero_ no_continue returns))) in
          (elim p as (λ p. Can body p → c3 own ≡ pending (ended p) →
          ((q : Option Exit) → c3 own ≡ pending q → given_by p v ≡ given_by q v →
          At S C (Some own) scope q v c3 vars2)
          → ((x : Exit) → c3 own ≡ pending (Some x) → given_by p v ≡ given_by (Some x) v →
          (Some x ≡ Some Continues → ⊥) → (Some x ≡ Some Returns → leaves Returns body ≡ true)
          → G n (kernel_item S c3 (LinesAt at3 guard head)) (unwound (passed_on (Some x)) v (inside S C ts vs vars2)))
          → G n (kernel_item S c3 (LinesAt at3 guard head)) (unwound p v (inside S C stepping vs vars2))) [
            | None ↦ λ can holds3 settled_at off.
                on (as_none S C (Some own) scope v c3 vars2 (settled_at None holds3 refl))
            | Some x ↦ (elim x as (λ x. Can body (Some x) → c3 own ≡ pending (ended (Some x)) →
                ((q : Option Exit) → c3 own ≡ pending q → given_by (Some x) v ≡ given_by q v →
                At S C (Some own) scope q v c3 vars2)
                → ((y : Exit) → c3 own ≡ pending (Some y) → given_by (Some x) v ≡ given_by (Some y) v →
                (Some y ≡ Some Continues → ⊥) → (Some y ≡ Some Returns → leaves Returns body ≡ true)
                → G n (kernel_item S c3 (LinesAt at3 guard head))
                (unwound (passed_on (Some y)) v (inside S C ts vs vars2)))
                → G n (kernel_item S c3 (LinesAt at3 guard head)) (unwound (Some x) v (inside S C stepping vs vars2))) [
                  | Continues ↦ λ can holds3 settled_at off.
                      subst (λ z. G n (kernel_item S c3 (LinesAt at3 guard head)) z)
                      (sym (continue_round S C v (way (begun_in k)) site b test step body ts vs vars2))
                      (on (as_none S C (Some own) scope v c3 vars2 (settled_at None holds3 refl)))
                  | Breaks ↦ λ can holds3 settled_at off.
                      subst (λ z. G n (kernel_item S c3 (LinesAt at3 guard head)) z)
                      (sym (break_round S C v (way (begun_in k)) site b test step body ts vs vars2))
                      (off Breaks holds3 refl (λ q. cc) (λ q. cc))
                  | Returns ↦ λ can holds3 settled_at off.
                      subst (λ z. G n (kernel_item S c3 (LinesAt at3 guard head)) z)
                      (sym (return_round S C v (way (begun_in k)) site b test step body ts vs vars2))
                      (off Returns holds3 refl (λ q. cc) (λ q. can))
                ])
          ]) can holds3 settled_at off))
        where
          exits_t : IsExit S C (Some own) own ct.made
          exits_t = record {
            is = P.body_part.exits.is;
            made = P.body_part.exits.made;
            low = P.body_part.exits.low;
            high = λ c q. let same = same_Some own c q in let x = g0 in let y = g1 in omega (arith, same, x, y);
          }

      exit_out : ((c : ℕ) → cell ≡ Some c → start c ≡ pos 0) → (n : ℕ) (cells vars : Store) →
          LoopDone T tm k start ts vs n → ExitInv cells vars → Sim S G R C n cells exit_tail ts vs vars
      exit_out zero_ n cells vars d inv =
          leaving n cells vars None (pos 0) d inv.0 inv.1 zero_ (λ q. none-some Continues q)
          (λ q. absurd (none-some Returns q))

      module _ (zero_ : (c : ℕ) → cell ≡ Some c → start c ≡ pos 0) (heads : (b : ℕ) (cells vars : Store) →
          LoopDone T tm k start ts vs 0 → ExitInv cells vars → ExitHead 0 b cells vars) where
        pub exit_head : (n b : ℕ) (cells vars : Store) → LoopDone T tm k start ts vs n → ExitInv cells vars →
            ExitHead n b cells vars
        exit_head n b cells vars d inv =
            rounds S G R C calls marks under is_body all scope inner way site test step body exit_test exit_body
            (CellAtom to) at1 exit_tail ts vs ExitInv (LoopDone T tm k start ts vs)
            (cell_plain S to to_plain) (less_done T tm k start ts vs) heads exit_tests (exit_bodies zero_)
            (exit_out zero_) n b cells vars d inv

        pub exit_enters : (n : ℕ) (cells vars : Store) → LoopDone T tm k start ts vs n → ExitInv cells vars
            → Sim S G R C n cells (LinesAt at1 (LoopThen site first exit_test (CellAtom to) exit_body
            (joined_to aside.lines T)) k) (Run (way (begun_in k)) (Loop site first test step body) ∷ ts) vs vars
        exit_enters n cells vars d inv =
            enters S G R C calls marks under is_body all scope inner way site test step body exit_test exit_body
            (CellAtom to) at1 exit_tail ts vs ExitInv (LoopDone T tm k start ts vs)
            (cell_plain S to to_plain) (less_done T tm k start ts vs) heads exit_tests (exit_bodies zero_)
            (exit_out zero_) first n (joined_to aside.lines T) k cells vars refl d inv
