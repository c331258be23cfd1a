-- The lines of a loop as they stand among those of its statement.
use Rattle.std.proofs.Common.{◌≡◌, ℕ, ◌≤◌, ℤ, pos, List, [], ◌∷◌, ◌++◌, Option, Some, None, refl, sym, ap, ◌∙◌, subst}
use Rattle.std.proofs.Common.{arith, append_assoc, true, false}
use Rattle.std.proofs.Common.{Bool as Test}
use Rattle.std.proofs.lemmas.Option.{none-some, same_Some}
use Rattle.wg_num.specs.declared.types.IntType.TheVariants.{Int}
use Rattle.cl_model.specs.Agreement.{Owned, owned_by, IsInScope, IsInScopeOptional, IsInScopeAt, IsInBody, IsScopedAt}
use Rattle.cl_model.specs.Calls.{calls_in_optional, calls_of, function_at}
use Rattle.cl_model.specs.Steps.{test_tasks}
use Rattle.cl_model.specs.Task.{Leg, Own, Tested, Body, Step, Turn, Task, Run, InLoop, Item as ProgramItem}
use Rattle.cl_model.specs.Task.{Point as ProgramPoint}
use Rattle.cl_model.specs.Tree.{Expression, Statement, Loop}
use Rattle.cl_model.specs.Valid.{Scope}
use Rattle.kir.specs.Tree.{Copy, Lines, OfFlag, OfValue, joined_to}
use Rattle.kir.specs.Places.{Behind, IntoTest, Place, Tasks, LinesAt, AnswerAt, begun_in, test_of, answer_of, body_of}
use Rattle.kir.specs.Places.{first_of, others_of}
use Rattle.kir.specs.Steps.{Item}
use Rattle.kir_lower.specs.Made.{Made, next_cell, int}
use Rattle.kir_lower.specs.Ways.{way_out}
use Rattle.kir_lower.specs.Actions.{opened}
use Rattle.kir_lower.specs.Code.{Calls, optional_code, statement_code}
use Rattle.kir_lower_shape.specs.Marks.{Way, in_turn, Marks, marks_then, all_marked, marks_behind, marks_at}
use Rattle.kir_lower_shape.specs.CodeMarks.{CallMarks, round_marks, statement_marks}
use Rattle.kir_lower_shape.proofs.Making.{opened_makes, round_makes, outward_makes}
use Rattle.kir_lower_simulation.specs.Setting.{Setting, Store, updated, Activation}
use Rattle.kir_lower_simulation.specs.Held.{Within, IsMade, Kept, IsWithin, At}
use Rattle.kir_lower_simulation.specs.Facts.{Rules}
use Rattle.kir_lower_simulation.specs.Ready.{IsUnderWay, AreNext, Adds}
use Rattle.kir_lower_simulation.specs.Bodies.{IsBody, IsExit, HasExit, IsSoundOptional, ReadyStatement}
use Rattle.kir_lower_simulation.proofs.Lines.{updated_same, updated_other, Sim, value_line}
use Rattle.kir_lower_simulation.proofs.Keeping.{Grows, grows_same, grows_before, grows_with, grows_count, next_with}
use Rattle.kir_lower_simulation.proofs.Keeping.{within_less, flag_made, made_no_variable, kept_refl, kept_set, same_set}
use Rattle.kir_lower_simulation.proofs.Readying.{next_left, next_right, adds_same, adds_before}
use Rattle.kir_lower_simulation.proofs.Expressions.{AreCalls}
use Rattle.kir_lower_simulation.proofs.Leaving.{fewer_none}
use Rattle.kir_lower_simulation.proofs.Containing.{exit_more, optional_grows, optional_adds, statement_grows}
use Rattle.kir_lower_simulation.proofs.Statements.{answer_kept, StatementFollows}
use Rattle.kir_lower_simulation.proofs.Loops.{ReadyOptional, own_cell, made_cell, made_test, made_step, made_body}
use Rattle.kir_lower_simulation.proofs.Loops.{made_round, made_around, loop_lines, test_marks, step_marks, body_marks}
use Rattle.kir_lower_simulation.proofs.Loops.{loop_marks, LoopParts}
use Rattle.kir_lower_simulation.proofs.Rounds.{LoopDone, plain_head, plain_enters, exit_head, exit_enters}

-- ---- the cell of a construct with a way out of its own

pub exits_opened : (S : Setting) (C : Activation) (cell out : Option ℕ) (exit : ℕ) (m : Made) →
    Within S (opened out exit m).made → C.low ≤ next_cell m → IsExit S C cell exit m →
    IsExit S C (own_cell out cell m) (opened out exit m).exit (opened out exit m).made
exits_opened S C cell None exit m w low h = h
exits_opened S C cell (Some o) exit m w low h =
    let n = next_with m OfFlag Int in
    record {
      is = λ c e. sym (same_Some (next_cell m) c e);
      made = λ c e. subst (λ z. IsMade S z Int) (same_Some (next_cell m) c e) (flag_made S m Int w);
      low = λ c e. let q = same_Some (next_cell m) c e in omega (arith, q, low);
      high = λ c e. let q = same_Some (next_cell m) c e in omega (arith, q, n);
    }

pub has_opened : (cell out : Option ℕ) (exit : ℕ) (m : Made) →
    HasExit (own_cell out cell m) (opened out exit m).exit out
has_opened cell None exit m site e = absurd (none-some site e)
has_opened cell (Some o) exit m site e = refl

module _ (S : Setting) (G : ℕ → Item → ProgramItem → Type 0) (R : Rules S G) (C : Activation) (calls : Calls)
    (marks : CallMarks) (under : IsUnderWay S C) (is_body : IsBody S C) (all : AreCalls S G R C calls marks) where
  -- ---- the parts

  turn_leads : (way : Way) (leg : Leg) (In : ProgramPoint → Owned → Type 0) →
      ((begun : List ℕ) (b : ℕ) (along : ProgramPoint) (v : Owned) → In along v →
      IsScopedAt S.program (way begun ++ Turn b ∷ leg ∷ along) v)
      → (begun : List ℕ) (along : ProgramPoint) (v : Owned) → In along v →
      IsScopedAt S.program (in_turn way leg begun ++ along) v
  turn_leads way leg In h begun along v i =
      subst (λ z. IsScopedAt S.program z v)
      (sym (append_assoc (way (others_of begun)) (Turn (first_of begun) ∷ leg ∷ []) along))
      (h (others_of begun) (first_of begun) along v i)

  optional_part : (scope : Scope) (way : Way) (leg : Leg) (e : Option Expression) (m : Made) →
      IsSoundOptional S.program (function_at S.program C.function) scope e
      → ((begun : List ℕ) (b : ℕ) (along : ProgramPoint) (v : Owned) →
      IsInScopeOptional (IsInBody S.program C.depth) (owned_by C.function scope) e along v →
      IsScopedAt S.program (way begun ++ Turn b ∷ leg ∷ along) v)
      → AreNext S C m (calls_in_optional e) → Within S (optional_code calls C.here e m).made → C.low ≤ next_cell m →
      ReadyOptional S C calls scope (in_turn way leg) e m
  optional_part scope way leg None m sound leads next within low = tt
  optional_part scope way leg (Some e) m sound leads next within low =
      record {
        sound = sound;
        leads = turn_leads way leg (λ along v. IsInScope (IsInBody S.program C.depth)
            (owned_by C.function scope) e along v) leads;
        next = next;
        within = within;
        low = low;
      }

  module _ (scope : Scope) (inner : IsWithin S C scope) (cell : Option ℕ) (exit : ℕ) (way : Way) (site : ℕ)
      (first : Test) (test step : Option Expression) (body : Statement) (m : Made) where
    pub loop_parts : ReadyStatement S C calls scope cell exit way (Loop site first test step body) m →
        LoopParts S G R C calls marks under is_body all scope inner cell exit way site first test step body m
        (way_out true true body) (way_out false false body)
    unfolding statement_code
    loop_parts r =
        let out = way_out true true body in
        let around = way_out false false body in
        let mc = (made_cell S G R C calls marks under is_body all scope inner cell exit way site first test step body
        m out around) in
        let mt = (made_test S G R C calls marks under is_body all scope inner cell exit way site first test step body
        m out around) in
        let ms = (made_step S G R C calls marks under is_body all scope inner cell exit way site first test step body
        m out around) in
        let mb = (made_body S G R C calls marks under is_body all scope inner cell exit way site first test step body
        m out around) in
        let mr = (made_round S G R C calls marks under is_body all scope inner cell exit way site first test step body
        m out around) in
        let ma = (made_around S G R C calls marks under is_body all scope inner cell exit way site first test step
        body m out around) in
        let gc : Grows [] m mc.made =
        opened_makes Grows grows_same grows_before (grows_with OfValue) (grows_with OfFlag) out exit m in
        let gt = optional_grows S C calls all.grows all.adds test mc.made in
        let gs = optional_grows S C calls all.grows all.adds step mt.made in
        let gb = statement_grows S C calls all.grows all.adds mc.exit body ms.made in
        let gr : Grows [] mb.made mr.made =
        round_makes Grows grows_same grows_before (grows_with OfValue) (grows_with OfFlag) site first out mc.exit
        mt.lines mt.value ms.lines mb.lines mb.made in
        let ga : Grows [] mr.made ma.made =
        outward_makes Grows grows_same grows_before (grows_with OfValue) (grows_with OfFlag) around mc.exit exit
        mr.made in
        let ac : Adds S C [] m mc.made =
        opened_makes (Adds S C) (adds_same S C) (adds_before S C) (λ m of. adds_same S C m)
        (λ m of. adds_same S C m) out exit m in
        let wb : Within S mb.made =
        within_less S [] mb.made mr.made gr (within_less S [] mr.made ma.made ga r.within) in
        let ws : Within S ms.made = within_less S (calls_of body) ms.made mb.made gb wb in
        let wt : Within S mt.made = within_less S (calls_in_optional step) mt.made ms.made gs ws in
        let wc : Within S mc.made = within_less S (calls_in_optional test) mc.made mt.made gt wt in
        let nc = grows_count [] m mc.made gc in
        let nt = grows_count (calls_in_optional test) mc.made mt.made gt in
        let ns = grows_count (calls_in_optional step) mt.made ms.made gs in
        let low = r.low in
        let next_c = next_right S C m mc.made [] (calls_in_optional test ++ (calls_in_optional step ++ calls_of body))
        r.next ac in
        let next_t = next_right S C mc.made mt.made (calls_in_optional test) (calls_in_optional step ++ calls_of body)
        next_c (optional_adds S C calls all.grows all.adds test mc.made) in
        let next_s = next_right S C mt.made ms.made (calls_in_optional step) (calls_of body) next_t
        (optional_adds S C calls all.grows all.adds step mt.made) in
        record {
          test_part = optional_part scope way Tested test mc.made r.sound.0 (λ begun b along v h.
              r.leads begun (Turn b ∷ Tested ∷ along) v h) (next_left S C mc.made (calls_in_optional test)
              (calls_in_optional step ++ calls_of body) next_c) wt (omega (arith, low, nc));
          step_part = optional_part scope way Step step mt.made r.sound.1 (λ begun b along v h.
              r.leads begun (Turn b ∷ Step ∷ along) v h) (next_left S C mt.made (calls_in_optional step)
              (calls_of body) next_t) ws (omega (arith, low, nc, nt));
          body_part = record {
            sound = r.sound.2;
            leads = turn_leads way Body (λ along v. IsInScopeAt (IsInBody S.program C.depth) C.function
                (owned_by C.function scope) body along v) (λ begun b along v h.
                r.leads begun (Turn b ∷ Body ∷ along) v h);
            next = next_s;
            within = wb;
            low = omega (arith, low, nc, nt, ns);
            inner = r.inner;
            ended = r.ended;
            exits = exit_more S C (own_cell out cell m) mc.exit mc.made ms.made (omega (arith, nt, ns))
                (exits_opened S C cell out exit m wc r.low r.exits);
            has_exit = has_opened cell out exit m;
          };
          same_scope = r.sound.3;
          scoped = λ begun b i v h. r.leads begun (Turn b ∷ Own i ∷ []) v h;
          within = r.within;
          low = r.low;
          exits = r.exits;
          has_exit = r.has_exit;
          is_out = refl;
          is_around = refl;
        }

    -- ---- any loop

    -- what holds at the head, from the start on
    abbrev pub AnyInv : Option ℕ → Store → Store → Store → Type 0
    AnyInv None start cells vars =
        At S C cell scope None (pos 0) cells vars × Kept C.here.base C.low cell (next_cell m) start cells
    AnyInv (Some o) start cells vars = At S C (Some (next_cell m)) scope None (pos 0) cells vars ×
        Kept C.here.base C.low None (next_cell m) start cells

    module _ (out around : Option ℕ) where
      -- the lines of the loop itself
      abbrev pub any_round : Lines
      any_round = (made_round S G R C calls marks under is_body all scope inner cell exit way site first test step
          body m out around).lines

      -- behind it
      abbrev pub any_tail : Place → Lines → Tasks → Tasks
      any_tail at1 T k = LinesAt (Behind ∷ at1)
          (joined_to (made_around S G R C calls marks under is_body all scope inner cell exit way site first test step
          body m out around).lines T) k

      -- at the head
      abbrev pub AnyHead : Place → Lines → Tasks → List Task → List ℤ → ℕ → ℕ → Store → Store → Type 0
      AnyHead at1 T k ts vs n b cells vars =
          Sim S G R C n cells (LinesAt (IntoTest ∷ at1) (test_of any_round)
          (AnswerAt at1 (test_of any_round) (answer_of any_round) (body_of any_round) b (any_tail at1 T k)))
          (test_tasks (way (begun_in k)) b test (InLoop (way (begun_in k)) site test step body b ∷ ts)) vs vars

      -- the marks of the loop itself
      abbrev pub any_marks : Marks
      any_marks = round_marks way out (made_cell S G R C calls marks under is_body all scope inner cell exit way site
          first test step body m out around).exit
          (made_test S G R C calls marks under is_body all scope inner cell exit way site first test step body m out
          around).lines (made_test S G R C calls marks under is_body all scope inner cell exit way site first
          test step body m out around).value
          (made_step S G R C calls marks under is_body all scope inner cell exit way site first test step body m out
          around).lines (made_body S G R C calls marks under is_body all scope inner cell exit way site first
          test step body m out around).made
          (test_marks S G R C calls marks under is_body all scope inner cell exit way site first test step body m out
          around) (step_marks S G R C calls marks under is_body all scope inner cell exit way site first test
          step body m out around)
          (body_marks S G R C calls marks under is_body all scope inner cell exit way site first test step body m out
          around)

      -- the body's lines do what it does
      abbrev pub BodyFollows : Type 0
      BodyFollows = StatementFollows S G R C calls marks scope (own_cell out cell m)
          (made_cell S G R C calls marks under is_body all scope inner cell exit way site first test step body m out
          around).exit (in_turn way Body) body
          (made_step S G R C calls marks under is_body all scope inner cell exit way site first test step body m out
          around).made

      -- at the head of the loop the program's item follows, for so many moves
      abbrev pub HeadFollows : ℕ → Type 0
      HeadFollows n =
          (T : Lines) (tm : Marks) (k : Tasks) (at1 : Place) (start : Store) (ts : List Task) (vs : List ℤ)
          → marks_at S.marks at1 ≡ marks_then any_marks
          (marks_then (all_marked way (made_around S G R C calls marks under is_body all scope inner cell exit way
          site first test step body m out around).lines) tm)
          → ((c : ℕ) → cell ≡ Some c → start c ≡ pos 0)
          → LoopDone S G R C calls marks under is_body all scope inner cell exit way site first test step body m T tm
          k start ts vs n
          → (b : ℕ) (cells vars : Store) → AnyInv out start cells vars → AnyHead at1 T k ts vs n b cells vars

    no_around : (out around : Option ℕ) (s : ℕ) →
        LoopParts S G R C calls marks under is_body all scope inner cell exit way site first test step body m out
        around → out ≡ None → around ≡ Some s → ⊥
    no_around out around s P e f = none-some s (sym (fewer_none false false body (P.is_out ∙ e)) ∙ P.is_around ∙ f)

    -- for any number, where it does for none
    pub any_head : (out around : Option ℕ) →
        LoopParts S G R C calls marks under is_body all scope inner cell exit way site first test step body m out
        around → BodyFollows out around → HeadFollows out around 0 → (n : ℕ) → HeadFollows out around n
    any_head None None P each heads n T tm k at1 start ts vs e zero_ d b cells vars inv =
        plain_head S G R C calls marks under is_body all scope inner cell exit way site first test step body m P each
        T tm k at1 start ts vs e
        (λ b cells vars d0 inv0. heads T tm k at1 start ts vs e zero_ d0 b cells vars inv0) n b cells vars d inv
    any_head None (Some s) P each heads n T tm k at1 start ts vs e zero_ d b cells vars inv =
        absurd (no_around None (Some s) s P refl refl)
    any_head (Some o) around P each heads n T tm k at1 start ts vs e zero_ d b cells vars inv =
        exit_head S G R C calls marks under is_body all scope inner cell exit way site first test step body m o around
        P each T tm k at1 start ts vs e zero_
        (λ b cells vars d0 inv0. heads T tm k at1 start ts vs e zero_ d0 b cells vars inv0) n b cells vars d inv

    -- and the loop is entered
    any_enters : (out around : Option ℕ) →
        LoopParts S G R C calls marks under is_body all scope inner cell exit way site first test step body m out
        around → BodyFollows out around → HeadFollows out around 0
        → (n : ℕ) (T : Lines) (tm : Marks) (k : Tasks) (at : Place) (cells vars : Store) (ts : List Task) (vs : List ℤ)
        → marks_at S.marks at ≡ marks_then (loop_marks S G R C calls marks under is_body all scope inner cell exit way
        site first test step body m out around) tm → At S C cell scope None (pos 0) cells vars
        → LoopDone S G R C calls marks under is_body all scope inner cell exit way site first test step body m T tm k
        cells ts vs n
        → Sim S G R C n cells (LinesAt at
        (joined_to (loop_lines S G R C calls marks under is_body all scope inner cell exit way site first test
        step body m out around) T) k) (Run (way (begun_in k)) (Loop site first test step body) ∷ ts) vs vars
    any_enters None None P each heads n T tm k at cells vars ts vs e a d =
        plain_enters S G R C calls marks under is_body all scope inner cell exit way site first test step body m P
        each T tm k at cells ts vs e
        (λ b cells' vars' d0 inv0. heads T tm k at cells ts vs e a.exit_is d0 b cells' vars' inv0) n cells vars d (
          a,
          kept_refl C.here.base C.low cell (next_cell m) cells,
        )
    any_enters None (Some s) P each heads n T tm k at cells vars ts vs e a d =
        absurd (no_around None (Some s) s P refl refl)
    any_enters (Some o) around P each heads n T tm k at cells vars ts vs e a d =
        let own = next_cell m in
        let new = updated cells own (pos 0) in
        let le = under.below in
        let low = P.low in
        value_line S G R C n cells at own (Copy (int (pos 0))) _ k _
        (made_no_variable S own Int (P.body_part.exits.made own refl)) (λ v c is. refl)
        (exit_enters S G R C calls marks under is_body all scope inner cell exit way site first test step body m o
        around P each T tm k (Behind ∷ at) cells ts vs (ap marks_behind e) a.exit_is
        (λ b cells' vars' d0 inv0. heads T tm k (Behind ∷ at) cells ts vs (ap marks_behind e) a.exit_is d0 b cells'
        vars' inv0) n new vars d (
          record {
            same = same_set S C scope cells vars own (pos 0) inner (omega (arith, le, low)) a.same;
            exit_is = λ c q. ap new (sym (same_Some own c q)) ∙ updated_same cells own (pos 0);
            answer_is = answer_kept S C under is_body cells new
                (λ c x lt. updated_other cells own (pos 0) c (λ r. omega (arith, r, lt, low))) ∙ a.answer_is;
          },
          kept_set C.here.base C.low None (next_cell m) cells own (pos 0) (omega arith),
        ))

    -- the loop among statements
    pub loop_follows : ReadyStatement S C calls scope cell exit way (Loop site first test step body) m →
        BodyFollows (way_out true true body) (way_out false false body) →
        HeadFollows (way_out true true body) (way_out false false body) 0
        → StatementFollows S G R C calls marks scope cell exit way (Loop site first test step body) m
    unfolding statement_code statement_marks
    loop_follows r each heads n T tm k at cells vars ts vs next e a d =
        any_enters (way_out true true body) (way_out false false body) (loop_parts r) each heads n T tm k at cells
        vars ts vs e a d
