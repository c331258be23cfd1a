-- The lines of a loop do what its run does.
use Rattle.std.proofs.Common.{◌≡◌, ℕ, zero, suc, ◌<◌, ◌≤◌, ℤ, pos, List, [], ◌∷◌, ◌++◌, length, Option, Some, None}
use Rattle.std.proofs.Common.{refl, sym, ap, ◌∙◌, subst, arith, inl, inr, ⊎_elim, true, false}
use Rattle.std.proofs.Common.{Bool as Test}
use Rattle.work_items.specs.Items.{Goes, Begins}
use Rattle.cl_model.specs.Agreement.{Owned, owned_by, HasOwned, IsScopedAt}
use Rattle.cl_model.specs.Steps.{test_tasks, step_tasks, iteration as program_iteration}
use Rattle.cl_model.specs.Task.{Own, Tested, Body, Step, Turn, Task, Run, Evaluate, Discard, InLoop}
use Rattle.cl_model.specs.Task.{Item as ProgramItem}
use Rattle.cl_model.specs.Tree.{Expression, Statement, Do, Declare, Fill, Block, If, Loop, Switch, Break, Continue}
use Rattle.cl_model.specs.Tree.{Return, Barrier}
use Rattle.cl_model.specs.Valid.{Scope, scope_after}
use Rattle.kir.specs.declared.line.Atom.{Atom}
use Rattle.kir.specs.Tree.{Lines, LoopThen, joined_to}
use Rattle.kir.specs.Places.{Behind, IntoTest, Place, Tasks, LinesAt, AnswerAt, begun_in, iteration}
use Rattle.kir.specs.Steps.{Item, atom_value, answer_next}
use Rattle.kir_lower.specs.Made.{Made, next_cell}
use Rattle.kir_lower.specs.Ways.{way_out}
use Rattle.kir_lower.specs.Actions.{opened, outward, round_code}
use Rattle.kir_lower.specs.Code.{Calls, expression_code, optional_code, statement_code}
use Rattle.kir_lower_shape.specs.Marks.{Way, in_turn, Marks, marks_then, all_marked, marks_at}
use Rattle.kir_lower_shape.specs.CodeMarks.{CallMarks, optional_marks, round_marks, statement_marks}
use Rattle.kir_lower_simulation.specs.Setting.{Setting, Store, kernel_item, Activation, frame, inside, behind_variables}
use Rattle.kir_lower_simulation.specs.Held.{Within, Apart, Kept, Same, IsWithin}
use Rattle.kir_lower_simulation.specs.Facts.{Rules}
use Rattle.kir_lower_simulation.specs.Ready.{IsUnderWay, ReadyExpression}
use Rattle.kir_lower_simulation.specs.Bodies.{declares_it, IsBody, IsExit, ReadyStatement}
use Rattle.kir_lower_simulation.proofs.Lines.{PlainAtom, plain_facts, Sim}
use Rattle.kir_lower_simulation.proofs.Keeping.{kept_refl}
use Rattle.kir_lower_simulation.proofs.Expressions.{AreCalls, stays_at, expression_follows}

-- ---- expressions that may be absent

-- the cell of a construct's own way out, if it has one
abbrev pub own_cell : Option ℕ → Option ℕ → Made → Option ℕ
own_cell None cell m = cell
own_cell (Some o) cell m = Some (next_cell m)

-- the value of a test on the list of values
abbrev pub with_value : Option Expression → ℤ → List ℤ → List ℤ
with_value None v vs = vs
with_value (Some e) v vs = v ∷ vs

-- without a test it is 1
abbrev pub IsAnswer : Option Expression → ℤ → Type 0
IsAnswer None v = v ≡ pos 1
IsAnswer (Some e) v = Unit {0}

-- the expression at a way, if it is there
abbrev pub ReadyOptional : Setting → Activation → Calls → Scope → Way → Option Expression → Made → Type 0
ReadyOptional S C calls scope way None m = Unit {0}
ReadyOptional S C calls scope way (Some e) m = ReadyExpression S C calls scope way e m

-- a list is not one longer than itself
not_longer : (x : ℕ) (xs : List ℕ) → x ∷ xs ≡ xs → ⊥
not_longer x xs e = let l : suc (length xs) ≡ length xs = ap (λ z. length z) e in omega (arith, l)

-- a statement that leaves the scope as it is declares nothing
pub declares_none : (scope : Scope) (s : Statement) (x : ℕ) → scope_after scope s ≡ scope → 0 < declares_it s x → ⊥
declares_none scope (Declare y value) x e h = not_longer y scope e
declares_none scope (Do e) x p h = omega (arith, h)
declares_none scope (Fill site array values) x p h = omega (arith, h)
declares_none scope (Block list) x p h = omega (arith, h)
declares_none scope (If site test chosen other) x p h = omega (arith, h)
declares_none scope (Loop site test_first test step body) x p h = omega (arith, h)
declares_none scope (Switch site value arms) x p h = omega (arith, h)
declares_none scope (Break site) x p h = omega (arith, h)
declares_none scope (Continue site) x p h = omega (arith, h)
declares_none scope (Return site value) x p h = omega (arith, h)
declares_none scope (Barrier site) x p h = omega (arith, h)

-- what is kept where a new way out may change
pub kept_inner : (base low high high' exit : ℕ) (a b : Store) → high ≤ exit → high ≤ high' →
    Kept base low (Some exit) high' a b → Kept base low None high a b
kept_inner base low high high' exit a b le le' k =
    record {
      each = λ c l u. k.each c (⊎_elim (λ (h : c < base). inl h) (λ (h : (low ≤ c) × Apart None c). inr (
        h.0,
        (λ e. omega (arith, e, le, u)),
      )) l) (omega (arith, u, le'));
    }

module _ (S : Setting) (G : ℕ → Item → ProgramItem → Type 0) (R : Rules S G) (C : Activation) (calls : Calls)
    (marks : CallMarks) (under : IsUnderWay S C) (is_body : IsBody S C) (all : AreCalls S G R C calls marks)
    (scope : Scope) (inner : IsWithin S C scope) where
  -- ---- the rounds of a loop

  module _ (way : Way) (site : ℕ) (test step : Option Expression) (body : Statement) (TL BL : Lines) (A : Atom)
      (at1 : Place) (K0 : Tasks) (ts : List Task) (vs : List ℤ) (Inv : Store → Store → Type 0) (D : ℕ → Type 0) where
    -- the tasks at the head of the loop that has begun so many iterations
    abbrev pub head_tasks : ℕ → List Task
    head_tasks b = test_tasks (way (begun_in K0)) b test (InLoop (way (begun_in K0)) site test step body b ∷ ts)

    -- at the head
    abbrev pub AtHead : ℕ → ℕ → Store → Store → Type 0
    AtHead n b cells vars =
        Sim S G R C n cells (LinesAt (IntoTest ∷ at1) TL (AnswerAt at1 TL A BL b K0)) (head_tasks b) vs vars

    -- at the answer
    abbrev AtAnswer : ℕ → ℕ → Store → Store → ℤ → Type 0
    AtAnswer n b cells vars v = Sim S G R C n cells (AnswerAt at1 TL A BL b K0)
        (InLoop (way (begun_in K0)) site test step body b ∷ ts) (with_value test v vs) vars

    -- in the body
    abbrev AtBody : ℕ → ℕ → Store → Store → Type 0
    AtBody n b cells vars = Sim S G R C n cells (iteration at1 TL A BL b K0)
        (program_iteration (way (begun_in K0)) site test step body b ts) vs vars

    module _ (plain : PlainAtom S A) (fewer : (n : ℕ) → D (suc n) → D n)
        (heads : (b : ℕ) (cells vars : Store) → D 0 → Inv cells vars → AtHead 0 b cells vars)
        (tests : (n b : ℕ) (cells vars : Store) → Inv cells vars → ((new vars' : Store) (v : ℤ) → Inv new vars' →
        IsAnswer test v → atom_value new A ≡ v → AtAnswer n b new vars' v) → AtHead n b cells vars)
        (bodies : (n b : ℕ) (cells vars : Store) → D n → Inv cells vars →
        ((new vars' : Store) → Inv new vars' → AtHead n b new vars') → AtBody n b cells vars)
        (out : (n : ℕ) (cells vars : Store) → D n → Inv cells vars → Sim S G R C n cells K0 ts vs vars) where
      answer_step : (o : Option Expression) → test ≡ o → (n b : ℕ) (new vars' : Store) (v : ℤ) → IsAnswer o v →
          atom_value new A ≡ v
          → Sim S G R C (suc n) new K0 ts vs vars' →
          Sim S G R C n new (iteration at1 TL A BL (suc b) K0) (program_iteration (way (begun_in K0)) site o step
          body (suc b) ts) vs vars'
          → Sim S G R C (suc n) new (AnswerAt at1 TL A BL b K0) (InLoop (way (begun_in K0)) site o step body b ∷ ts)
          (with_value o v vs) vars'
      answer_step None e n b new vars' v is holds leave again =
          let i = kernel_item S new (AnswerAt at1 TL A BL b K0) in
          R.begins_less n i (kernel_item S new (iteration at1 TL A BL (suc b) K0)) _ _
          (plain_facts S i _ (record { reads_none = plain; sets_none = λ v c is. refl }))
          (ap (λ z. answer_next i z at1 TL A BL b K0) (holds ∙ is)) refl refl again
      answer_step (Some t) e n b new vars' v is holds leave again =
          let i = kernel_item S new (AnswerAt at1 TL A BL b K0) in
          R.round n new at1 TL A BL b K0 (InLoop (way (begun_in K0)) site (Some t) step body b ∷ ts) v vs
          (frame C vars' ∷ C.outer) (inside S C ts vs vars')
          (inside S C (program_iteration (way (begun_in K0)) site (Some t) step body (suc b) ts) vs vars')
          (plain_facts S i _ (record { reads_none = plain; sets_none = λ v c is. refl })) refl holds (λ z. refl) leave
          again

      -- a loop whose test, body and end are followed is followed: by induction on the number of moves
      pub rounds : (n b : ℕ) (cells vars : Store) → D n → Inv cells vars → AtHead n b cells vars
      rounds zero b cells vars d inv = heads b cells vars d inv
      rounds (suc n) b cells vars d inv =
          tests (suc n) b cells vars inv
          (λ new vars' v inv' is holds. answer_step test refl n b new vars' v is holds (out (suc n) new vars' d inv')
          (bodies n (suc b) new vars' (fewer n d) inv' (λ new2 vars2 inv2. rounds n (suc b) new2 vars2 (fewer n d)
          inv2)))

      -- the loop is entered
      pub enters : (first : Test) (n : ℕ) (R1 : Lines) (k : Tasks) (cells vars : Store) →
          K0 ≡ LinesAt (Behind ∷ at1) R1 k → D n → Inv cells vars
          → Sim S G R C n cells (LinesAt at1 (LoopThen site first TL A BL R1) k)
          (Run (way (begun_in K0)) (Loop site first test step body) ∷ ts) vs vars
      enters true n R1 k cells vars same d inv =
          let i = kernel_item S cells (LinesAt at1 (LoopThen site true TL A BL R1) k) in
          R.task n _ _ _ refl refl
          (R.line n i (kernel_item S cells (LinesAt (IntoTest ∷ at1) TL (AnswerAt at1 TL A BL 0 K0))) _
          (plain_facts S i _ (record { reads_none = λ v c is. refl; sets_none = λ v c is. refl }))
          (ap (λ z. Goes (kernel_item S cells (LinesAt (IntoTest ∷ at1) TL (AnswerAt at1 TL A BL 0 z)))) (sym same))
          (rounds n 0 cells vars d inv))
      enters false n R1 k cells vars same d inv =
          let i = kernel_item S cells (LinesAt at1 (LoopThen site false TL A BL R1) k) in
          R.begins n i (kernel_item S cells (iteration at1 TL A BL 1 K0)) _ _
          (plain_facts S i _ (record { reads_none = λ v c is. refl; sets_none = λ v c is. refl }))
          (ap (λ z. Begins (kernel_item S cells (iteration at1 TL A BL 1 z))) (sym same)) refl refl
          (bodies n 1 cells vars d inv (λ new vars' inv'. rounds n 1 new vars' d inv'))

  -- ---- tests and steps

  -- the test of a loop
  pub test_follows : (way : Way) (site : ℕ) (test step : Option Expression) (body : Statement) (m : Made) →
      C.low ≤ next_cell m → ReadyOptional S C calls scope (in_turn way Tested) test m
      → ((begun : List ℕ) (b : ℕ) (v : Owned) → HasOwned (owned_by C.function scope) v →
      IsScopedAt S.program (way begun ++ Turn b ∷ Own 0 ∷ []) v)
      → (n b : ℕ) (begun : List ℕ) (T : Lines) (tm : Marks) (k : Tasks) (at : Place) (cells vars : Store)
      (ts : List Task) (vs : List ℤ) → begun_in k ≡ b ∷ begun
      → marks_at S.marks at ≡ marks_then (optional_marks calls marks C.here (in_turn way Tested) test m) tm →
      Same S C scope cells vars
      → ((at' : Place) (new vars' : Store) (v : ℤ) → marks_at S.marks at' ≡ tm → Same S C scope new vars' →
      Kept C.here.base (behind_variables S C) None (next_cell m) cells new → IsAnswer test v →
      atom_value new (optional_code calls C.here test m).value.atom ≡ v
      → Sim S G R C n new (LinesAt at' T k) (InLoop (way begun) site test step body b ∷ ts) (with_value test v vs)
      vars')
      → Sim S G R C n cells (LinesAt at (joined_to (optional_code calls C.here test m).lines T) k)
      (test_tasks (way begun) b test (InLoop (way begun) site test step body b ∷ ts)) vs vars
  test_follows way site None step body m low r scoped n b begun T tm k at cells vars ts vs same e s go =
      go at cells vars (pos 1) e s (kept_refl C.here.base (behind_variables S C) None (next_cell m) cells) refl refl
  test_follows way site (Some t) step body m low r scoped n b begun T tm k at cells vars ts vs same e s go =
      let marker = InLoop (way begun) site (Some t) step body b in
      subst (λ z. Sim S G R C n cells (LinesAt at (joined_to (expression_code calls C.here t m).lines T) k)
      (Evaluate (in_turn way Tested z) t ∷ marker ∷ ts) vs vars) same
      (expression_follows S G R C under calls marks all scope inner t (in_turn way Tested) m r n T tm k at cells vars
      (marker ∷ ts) vs
      (stays_at S G R C under calls marks all scope inner way begun (Turn b ∷ Own 0 ∷ []) marker ts refl
      (λ v h. scoped begun b v h)) e s
      (λ at1 new vars1 v e1 s1 kept1 h1. go at1 new vars1 v e1 s1 kept1 tt h1))

  -- its step
  pub step_follows : (way : Way) (step : Option Expression) (m : Made) →
      ReadyOptional S C calls scope (in_turn way Step) step m
      → ((begun : List ℕ) (b : ℕ) (v : Owned) → HasOwned (owned_by C.function scope) v →
      IsScopedAt S.program (way begun ++ Turn b ∷ Own 1 ∷ []) v)
      → (n b : ℕ) (begun : List ℕ) (T : Lines) (tm : Marks) (k : Tasks) (at : Place) (cells vars : Store)
      (ts : List Task) (vs : List ℤ) → begun_in k ≡ b ∷ begun
      → marks_at S.marks at ≡ marks_then (optional_marks calls marks C.here (in_turn way Step) step m) tm →
      Same S C scope cells vars
      → ((at' : Place) (new vars' : Store) → marks_at S.marks at' ≡ tm → Same S C scope new vars' →
      Kept C.here.base (behind_variables S C) None (next_cell m) cells new →
      Sim S G R C n new (LinesAt at' T k) ts vs vars')
      → Sim S G R C n cells (LinesAt at (joined_to (optional_code calls C.here step m).lines T) k)
      (step_tasks (way begun) b step ts) vs vars
  step_follows way None m r scoped n b begun T tm k at cells vars ts vs same e s go =
      go at cells vars e s (kept_refl C.here.base (behind_variables S C) None (next_cell m) cells)
  step_follows way (Some t) m r scoped n b begun T tm k at cells vars ts vs same e s go =
      let drop = Discard (way begun ++ (Turn b ∷ Own 1 ∷ [])) in
      subst (λ z. Sim S G R C n cells (LinesAt at (joined_to (expression_code calls C.here t m).lines T) k)
      (Evaluate (in_turn way Step z) t ∷ drop ∷ ts) vs vars) same
      (expression_follows S G R C under calls marks all scope inner t (in_turn way Step) m r n T tm k at cells vars
      (drop ∷ ts) vs
      (stays_at S G R C under calls marks all scope inner way begun (Turn b ∷ Own 1 ∷ []) drop ts refl
      (λ v h. scoped begun b v h)) e s
      (λ at1 new vars1 v e1 s1 kept1 h1. R.task n _ _ _ refl refl (go at1 new vars1 e1 s1 kept1)))

  -- ---- the parts of a loop

  module _ (cell : Option ℕ) (exit : ℕ) (way : Way) (site : ℕ) (first : Test) (test step : Option Expression)
      (body : Statement) (m : Made) (out around : Option ℕ) where
    -- what is made in order: its cell, its test, its step, its body, the loop, what goes on around
    abbrev pub made_cell : Rattle.kir_lower.specs.Actions.Opened
    made_cell = opened out exit m

    abbrev pub made_test : Rattle.kir_lower.specs.Actions.Code
    made_test = optional_code calls C.here test made_cell.made

    abbrev pub made_step : Rattle.kir_lower.specs.Actions.Code
    made_step = optional_code calls C.here step made_test.made

    abbrev pub made_body : Rattle.kir_lower.specs.Actions.Steps
    made_body = statement_code calls C.here made_cell.exit body made_step.made

    abbrev pub made_round : Rattle.kir_lower.specs.Actions.Steps
    made_round = round_code site first out made_cell.exit made_test.lines made_test.value made_step.lines
        made_body.lines made_body.made

    abbrev pub made_around : Rattle.kir_lower.specs.Actions.Steps
    made_around = outward around made_cell.exit exit made_round.made

    -- all lines of the loop
    abbrev pub loop_lines : Lines
    loop_lines = joined_to made_cell.lines (joined_to made_round.lines made_around.lines)

    -- and their marks
    abbrev pub test_marks : Marks
    test_marks = optional_marks calls marks C.here (in_turn way Tested) test made_cell.made

    abbrev pub step_marks : Marks
    step_marks = optional_marks calls marks C.here (in_turn way Step) step made_test.made

    abbrev pub body_marks : Marks
    body_marks = statement_marks calls marks C.here (in_turn way Body) made_cell.exit body made_step.made

    abbrev pub loop_marks : Marks
    loop_marks =
        marks_then (all_marked way made_cell.lines)
        (marks_then (round_marks way out made_cell.exit made_test.lines made_test.value made_step.lines
        made_body.made test_marks step_marks body_marks) (all_marked way made_around.lines))

    -- what is known of them
    pub record LoopParts : Type 0 where
      pub test_part : ReadyOptional S C calls scope (in_turn way Tested) test made_cell.made
      pub step_part : ReadyOptional S C calls scope (in_turn way Step) step made_test.made
      pub body_part : ReadyStatement S C calls scope (own_cell out cell m) made_cell.exit (in_turn way Body) body
          made_step.made
      pub same_scope : scope_after scope body ≡ scope
      pub scoped : (begun : List ℕ) (b i : ℕ) (v : Owned) → HasOwned (owned_by C.function scope) v →
          IsScopedAt S.program (way begun ++ Turn b ∷ Own i ∷ []) v
      pub within : Within S made_around.made
      pub low : C.low ≤ next_cell m
      pub exits : IsExit S C cell exit m
      pub has_exit : (o : ℕ) → around ≡ Some o → cell ≡ Some exit
      pub is_out : way_out true true body ≡ out
      pub is_around : way_out false false body ≡ around
