-- The lines of a list, guarded behind the statements that have a way out, do what the statements do.
use Rattle.std.proofs.Common.{◌≡◌, ℕ, suc, ◌<◌, ◌≤◌, ℤ, pos, List, [], ◌∷◌, ◌++◌, Option, Some, None, refl, sym, ◌∙◌}
use Rattle.std.proofs.Common.{subst, true, false}
use Rattle.std.proofs.Common.{Bool as Test}
use Rattle.std.specs.Prelude.{◌&&◌}
use Rattle.std.proofs.lemmas.Bool.{true≢false, and_parts}
use Rattle.wg_num.specs.declared.types.IntType.TheVariants.{Int}
use Rattle.cl_model.specs.Calls.{calls_of}
use Rattle.cl_model.specs.Steps.{in_order}
use Rattle.cl_model.specs.Task.{Nth, Task, Run, Item as ProgramItem}
use Rattle.cl_model.specs.Tree.{Statement, Do, Declare, Fill, Block, If, Loop, Switch, Break, Continue, Return}
use Rattle.cl_model.specs.Tree.{Barrier, Statements, empty, also}
use Rattle.cl_model.specs.Valid.{Scope, Has, scope_after}
use Rattle.kir.specs.Tree.{Lines, joined_to}
use Rattle.kir.specs.Places.{Place, Tasks, LinesAt, begun_in}
use Rattle.kir.specs.Steps.{Item}
use Rattle.kir_lower.specs.Made.{Made, next_cell}
use Rattle.kir_lower.specs.Ways.{way_out, way_out_of_all, declares}
use Rattle.kir_lower.specs.Actions.{is_none, guarded_before}
use Rattle.kir_lower.specs.Code.{Calls, Guarded, is_guarded, before_rest, statement_code, list_code}
use Rattle.kir_lower_shape.specs.Marks.{Way, further, Marks, NoMark, marks_then, marks_at, Shaped, no_line, set_line}
use Rattle.kir_lower_shape.specs.Marks.{load_line, store_line, clear_line, if_line, loop_line, barrier_line}
use Rattle.kir_lower_shape.specs.CodeMarks.{CallMarks, GuardedMarks, marks_before_rest, statement_marks, list_marks}
use Rattle.kir_lower_shape.proofs.Shapes.{list_shaped}
use Rattle.kir_lower_simulation.specs.Setting.{Setting, Store, kernel_item, Activation, inside, own_variable}
use Rattle.kir_lower_simulation.specs.Exits.{Exit, pending, unwound, leaves, some_leave, Can, ListCan}
use Rattle.kir_lower_simulation.specs.Held.{Kept, At}
use Rattle.kir_lower_simulation.specs.Facts.{Rules}
use Rattle.kir_lower_simulation.specs.Ready.{IsUnderWay}
use Rattle.kir_lower_simulation.specs.Bodies.{declares_it, IsBody, ReadyList}
use Rattle.kir_lower_simulation.proofs.Lines.{NoVariable, Comes, Sim}
use Rattle.kir_lower_simulation.proofs.Keeping.{grows_count, made_no_variable, kept_refl, kept_trans}
use Rattle.kir_lower_simulation.proofs.Expressions.{marks_assoc, at_lines, AreCalls}
use Rattle.kir_lower_simulation.proofs.Leaving.{or_left, or_right, none_left, unwound_order}
use Rattle.kir_lower_simulation.proofs.Guards.{Bridge, guard_on, guard_off}
use Rattle.kir_lower_simulation.proofs.Containing.{exit_first, statement_grows, scope_more, comes_behind}
use Rattle.kir_lower_simulation.proofs.Statements.{StatementDone, StatementFollows, ListFollows}

-- a declaration is left at its end
declares_ends : (s : Statement) (x : Exit) → declares s ≡ true → leaves x s ≡ true → ⊥
declares_ends (Do e) x d h = true≢false (sym d)
declares_ends (Declare y value) x d h = true≢false (sym h)
declares_ends (Fill site array values) x d h = true≢false (sym d)
declares_ends (Block list) x d h = true≢false (sym d)
declares_ends (If site test chosen other) x d h = true≢false (sym d)
declares_ends (Loop site test_first test step body) x d h = true≢false (sym d)
declares_ends (Switch site value arms) x d h = true≢false (sym d)
declares_ends (Break site) x d h = true≢false (sym d)
declares_ends (Continue site) x d h = true≢false (sym d)
declares_ends (Return site value) x d h = true≢false (sym d)
declares_ends (Barrier site) x d h = true≢false (sym d)

-- no lines have no marks
pub no_marks : (lines : Lines) (m : Marks) → Shaped lines m → is_none lines ≡ true → m ≡ NoMark
no_marks _ _ no_line e = refl
no_marks _ _ (set_line h) e = absurd (true≢false (sym e))
no_marks _ _ (load_line h) e = absurd (true≢false (sym e))
no_marks _ _ (store_line h) e = absurd (true≢false (sym e))
no_marks _ _ (clear_line h) e = absurd (true≢false (sym e))
no_marks _ _ (if_line y n h) e = absurd (true≢false (sym e))
no_marks _ _ (loop_line t b h) e = absurd (true≢false (sym e))
no_marks _ _ (barrier_line h) e = absurd (true≢false (sym e))

-- in a wider scope
pub at_less : (S : Setting) (C : Activation) (cell : Option ℕ) (scope wider : Scope) (o : Option Exit) (v : ℤ)
    (cells vars : Store) → ((x : ℕ) → Has scope x → Has wider x) → At S C cell wider o v cells vars →
    At S C cell scope o v cells vars
at_less S C cell scope wider o v cells vars f at =
    record {
      same = record { each = λ x has. at.same.each x (f x has) };
      exit_is = at.exit_is;
      answer_is = at.answer_is;
    }

-- at an end no value is returned
pub as_none : (S : Setting) (C : Activation) (cell : Option ℕ) (scope : Scope) (v : ℤ) (cells vars : Store) →
    At S C cell scope None v cells vars → At S C cell scope None (pos 0) cells vars
as_none S C cell scope v cells vars at = record { same = at.same; exit_is = at.exit_is; answer_is = at.answer_is }

module _ (S : Setting) (G : ℕ → Item → ProgramItem → Type 0) (R : Rules S G) (C : Activation) (calls : Calls)
    (marks : CallMarks) where
  -- ---- behind a statement that was left

  -- the lines behind the guarded ones are skipped
  abbrev RestOff : ℕ → Lines → Marks → Type 0
  RestOff exit rest two =
      (x : Exit) (n : ℕ) (T : Lines) (tm : Marks) (k : Tasks) (at : Place) (cells : Store) (j : ProgramItem) →
      cells exit ≡ pending (Some x) → marks_at S.marks at ≡ marks_then two tm →
      ((at' : Place) → marks_at S.marks at' ≡ tm → G n (kernel_item S cells (LinesAt at' T k)) j)
      → G n (kernel_item S cells (LinesAt at (joined_to rest T) k)) j

  off_before : (exit : ℕ) → NoVariable S exit →
      (way : Way) (declared : Test) (o : Option ℕ) (lines : Lines) (one : Marks) (c : Guarded) (g : GuardedMarks) →
      RestOff exit c.rest g.rest
      → RestOff exit (before_rest exit declared o lines c).rest (marks_before_rest way declared o one c.inside g).rest
  off_before exit plain way true None lines one c g h x n T tm k at cells j holds e go = go at e
  off_before exit plain way true (Some site) lines one c g h x n T tm k at cells j holds e go = go at e
  off_before exit plain way false None lines one c g h x n T tm k at cells j holds e go =
      h x n T tm k at cells j holds e go
  off_before exit plain way false (Some site) lines one c g h x n T tm k at cells j holds e go =
      guard_off S G R C x site exit c.inside c.rest n T way g.inside g.rest tm k at cells j plain holds e
      (λ at1 e1. h x n T tm k at1 cells j holds e1 go)

  list_off : (exit : ℕ) → NoVariable S exit →
      (way : Way) (first : ℕ) (guarded : Test) (list : Statements) (m : Made) →
      RestOff exit (list_code calls C.here exit guarded list m).rest
      (list_marks calls marks C.here way first exit guarded list m).rest
  unfolding statement_code statement_marks
  list_off exit plain way first guarded empty m x n T tm k at cells j holds e go = go at e
  list_off exit plain way first guarded (also s rest) m x n T tm k at cells j holds e go =
      let declared = guarded && declares s in
      let out = way_out true true s in
      let cs = statement_code calls C.here exit s m in
      let inner = is_guarded declared out guarded in
      off_before exit plain way declared out cs.lines (statement_marks calls marks C.here (further way (Nth first))
      exit s m) (list_code calls C.here exit inner rest cs.made) (list_marks calls marks C.here way (suc first)
      exit inner rest cs.made)
      (list_off exit plain way (suc first) inner rest cs.made) x n T tm k at cells j holds e go

  -- ---- a statement before others

  module _ (under : IsUnderWay S C) (is_body : IsBody S C) (all : AreCalls S G R C calls marks) (scope : Scope)
      (cell : Option ℕ) (exit : ℕ) (way : Way) where
    pub list_ends : (first : ℕ) (guarded : Test) (m : Made) →
        ListFollows S G R C calls marks scope cell exit way first guarded empty m
    unfolding statement_code statement_marks
    list_ends first guarded m n T T1 tm tm1 k k1 at cells vars ts vs same bridge e a go =
        bridge n cells (inside S C ts vs vars) at e (λ at2 e2. go at2 cells vars None (pos 0) tt e2 a
        (kept_refl C.here.base C.low cell (next_cell m) cells))

    -- the lines behind the statement, inside the guard and behind it, do what the statements behind it do
    abbrev RestFollows : ℕ → Scope → Made → Statements → Guarded → GuardedMarks → Type 0
    RestFollows second wider m rest c g =
        (n : ℕ) (T T1 : Lines) (tm tm1 : Marks) (k k1 : Tasks) (at : Place) (cells vars : Store) (ts : List Task)
        (vs : List ℤ) → begun_in k1 ≡ begun_in k
        → Bridge S G R C T1 tm1 k1 (joined_to c.rest T) (marks_then g.rest tm) k →
        marks_at S.marks at ≡ marks_then g.inside tm1 → At S C cell wider None (pos 0) cells vars
        → StatementDone S G R C n (next_cell m) cell wider (ListCan rest) T tm k cells ts vs
        → Sim S G R C n cells (LinesAt at (joined_to c.inside T1) k1) (in_order (way (begun_in k)) second rest ts) vs
        vars

    also_before : (first : ℕ) (s : Statement) (rest : Statements) (m : Made) (declared : Test) (o : Option ℕ)
        (lines : Lines) (one : Marks) (m1 : Made) (c : Guarded) (g : GuardedMarks)
        → next_cell m ≤ next_cell m1 → (declared ≡ true → (x : Exit) → leaves x s ≡ true → ⊥) →
        (o ≡ None → (x : Exit) → leaves x s ≡ true → ⊥) →
        ((site : ℕ) → o ≡ Some site → (cell ≡ Some exit) × NoVariable S exit) →
        (is_none c.inside ≡ true → g.inside ≡ NoMark)
        → ((begun : List ℕ) (ts : List Task) (x : ℕ) → 0 < declares_it s x → (us : List ℤ) (vars' : Store) →
        Comes S (own_variable C x) (inside S C (in_order (way begun) (suc first) rest ts) us vars'))
        → ((n : ℕ) (T : Lines) (tm : Marks) (k : Tasks) (at : Place) (cells vars : Store) (ts : List Task) (vs : List ℤ)
        → ((x : ℕ) → 0 < declares_it s x → (us : List ℤ) (vars' : Store) →
        Comes S (own_variable C x) (inside S C ts us vars'))
        → marks_at S.marks at ≡ marks_then one tm → At S C cell scope None (pos 0) cells vars
        → StatementDone S G R C n (next_cell m) cell (scope_after scope s) (Can s) T tm k cells ts vs
        → Sim S G R C n cells (LinesAt at (joined_to lines T) k) (Run (way (begun_in k) ++ Nth first ∷ []) s ∷ ts) vs
        vars)
        → RestFollows (suc first) (scope_after scope s) m1 rest c g
        → (NoVariable S exit → RestOff exit c.rest g.rest)
        → (n : ℕ) (T T1 : Lines) (tm tm1 : Marks) (k k1 : Tasks) (at : Place) (cells vars : Store) (ts : List Task)
        (vs : List ℤ) → begun_in k1 ≡ begun_in k
        → Bridge S G R C T1 tm1 k1 (joined_to (before_rest exit declared o lines c).rest T)
        (marks_then (marks_before_rest way declared o one c.inside g).rest tm) k
        → marks_at S.marks at ≡ marks_then (marks_before_rest way declared o one c.inside g).inside tm1 →
        At S C cell scope None (pos 0) cells vars
        → StatementDone S G R C n (next_cell m) cell scope (ListCan (also s rest)) T tm k cells ts vs
        → Sim S G R C n cells (LinesAt at (joined_to (before_rest exit declared o lines c).inside T1) k1)
        (in_order (way (begun_in k)) first (also s rest) ts) vs vars
    also_before first s rest m declared o lines one m1 c g grown no_leave no_way has shaped comes statement others off
        n T T1 tm tm1 k k1 at cells vars ts vs same bridge e a go = by declared o no_leave no_way has bridge e
      where
        -- the statement, where what follows stands before the tasks
        first_of : (T' : Lines) (tm' : Marks) → marks_at S.marks at ≡ marks_then one tm'
            → StatementDone S G R C n (next_cell m) cell (scope_after scope s) (Can s) T' tm' k1 cells
            (in_order (way (begun_in k)) (suc first) rest ts) vs
            → Sim S G R C n cells (LinesAt at (joined_to lines T') k1)
            (in_order (way (begun_in k)) first (also s rest) ts) vs vars
        first_of T' tm' e' done =
            subst (λ z. Sim S G R C n cells (LinesAt at (joined_to lines T') k1) (Run (way z ++ Nth first ∷ []) s ∷
            in_order (way (begun_in k)) (suc first) rest ts) vs vars) same
            (statement n T' tm' k1 at cells vars (in_order (way (begun_in k)) (suc first) rest ts) vs
            (comes (begun_in k) ts) e' a done)

        -- what follows the others follows all
        done_rest : (c1 : Store) → Kept C.here.base C.low cell (next_cell m) cells c1 →
            StatementDone S G R C n (next_cell m1) cell (scope_after scope s) (ListCan rest) T tm k c1 ts vs
        done_rest c1 kept1 at2 c2 vars2 o2 w can e2 a2 kept2 =
            go at2 c2 vars2 o2 w (right o2 can) e2 (at_less S C cell scope (scope_after scope s) o2 w c2 vars2
            (scope_more scope s) a2) (kept_trans C.here.base C.low cell (next_cell m) (next_cell m1) cells c1 c2
            grown kept1 kept2)
          where
            right : (o : Option Exit) → ListCan rest o → ListCan (also s rest) o
            right None h = tt
            right (Some x) h = or_right (leaves x s) (some_leave x rest) h

        -- all of it stands where the statement does
        declared_case : ((x : Exit) → leaves x s ≡ true → ⊥) → Bridge S G R C T1 tm1 k1 T tm k →
            marks_at S.marks at ≡ marks_then (marks_then one (marks_then g.inside g.rest)) tm1
            → Sim S G R C n cells (LinesAt at (joined_to (joined_to lines (joined_to c.inside c.rest)) T1) k1)
            (in_order (way (begun_in k)) first (also s rest) ts) vs vars
        declared_case stays bridge e =
            at_lines S G R C n cells at lines (joined_to c.inside c.rest) T1 k1 _
            (first_of (joined_to (joined_to c.inside c.rest) T1) (marks_then (marks_then g.inside g.rest) tm1) (e ∙
            marks_assoc one (marks_then g.inside g.rest) tm1)
            (λ at1 c1 vars1 o1 v can e1 a1 kept1.
            (elim o1 as (λ o. Can s o → At S C cell (scope_after scope s) o v c1 vars1 →
            G n (kernel_item S c1 (LinesAt at1 (joined_to (joined_to c.inside c.rest) T1) k1))
            (unwound o v (inside S C (in_order (way (begun_in k)) (suc first) rest ts) vs vars1))) [
              | None ↦ λ can a1. at_lines S G R C n c1 at1 c.inside c.rest T1 k1 _
                  (subst (λ z. Sim S G R C n c1 (LinesAt at1 (joined_to c.inside (joined_to c.rest T1)) k1)
                  (in_order (way z) (suc first) rest ts) vs vars1) same
                  (others n T1 (joined_to c.rest T1) tm1 (marks_then g.rest tm1) k1 k1 at1 c1 vars1 ts vs refl
                  (λ n c j at1 e1 f. f at1 e1) (e1 ∙
                  marks_assoc g.inside g.rest tm1) (as_none S C cell (scope_after scope s) v c1 vars1 a1)
                  (λ at2 c2 vars2 o2 w can2 e2 a2 kept2.
                  bridge n c2 _ at2 e2 (λ at3 e3. done_rest c1 kept1 at3 c2 vars2 o2 w can2 e3 a2 kept2))))
              | Some x ↦ λ can a1. absurd (stays x can)
            ]) can a1))

        by : (declared : Test) (o : Option ℕ) → (declared ≡ true → (x : Exit) → leaves x s ≡ true → ⊥) →
            (o ≡ None → (x : Exit) → leaves x s ≡ true → ⊥) →
            ((site : ℕ) → o ≡ Some site → (cell ≡ Some exit) × NoVariable S exit)
            → Bridge S G R C T1 tm1 k1 (joined_to (before_rest exit declared o lines c).rest T)
            (marks_then (marks_before_rest way declared o one c.inside g).rest tm) k
            → marks_at S.marks at ≡ marks_then (marks_before_rest way declared o one c.inside g).inside tm1
            → Sim S G R C n cells (LinesAt at (joined_to (before_rest exit declared o lines c).inside T1) k1)
            (in_order (way (begun_in k)) first (also s rest) ts) vs vars
        by true None no_leave no_way has bridge e = declared_case (no_leave refl) bridge e
        by true (Some site) no_leave no_way has bridge e = declared_case (no_leave refl) bridge e
        by false None no_leave no_way has bridge e =
            at_lines S G R C n cells at lines c.inside T1 k1 _
            (first_of (joined_to c.inside T1) (marks_then g.inside tm1) (e ∙ marks_assoc one g.inside tm1)
            (λ at1 c1 vars1 o1 v can e1 a1 kept1.
            (elim o1 as (λ o. Can s o → At S C cell (scope_after scope s) o v c1 vars1 →
            G n (kernel_item S c1 (LinesAt at1 (joined_to c.inside T1) k1))
            (unwound o v (inside S C (in_order (way (begun_in k)) (suc first) rest ts) vs vars1))) [
              | None ↦ λ can a1. others n T T1 tm tm1 k k1 at1 c1 vars1 ts vs same bridge e1
                  (as_none S C cell (scope_after scope s) v c1 vars1 a1) (done_rest c1 kept1)
              | Some x ↦ λ can a1. absurd (no_way refl x can)
            ]) can a1))
        by false (Some site) no_leave no_way has bridge e =
            let real = has site refl in
            first_of T1 tm1 e
            (λ at1 c1 vars1 o1 v can e1 a1 kept1. bridge n c1 _ at1 e1
            (λ at2 e2. (elim o1 as (λ o. Can s o → At S C cell (scope_after scope s) o v c1 vars1 →
            G n (kernel_item S c1 (LinesAt at2 (joined_to (guarded_before site exit c.inside c.rest) T) k))
            (unwound o v (inside S C (in_order (way (begun_in k)) (suc first) rest ts) vs vars1))) [
              | None ↦ λ can a1. guard_on S G R C site exit c.inside c.rest n T way g.inside g.rest tm k at2 c1 _
                  real.1 (a1.exit_is exit real.0) shaped e2
                  (λ T2 tm2 k2 at3 same2 bridge2 e3. others n T T2 tm tm2 k k2 at3 c1 vars1 ts vs same2 bridge2 e3
                  (as_none S C cell (scope_after scope s) v c1 vars1 a1) (done_rest c1 kept1))
              | Some x ↦ λ can a1. guard_off S G R C x site exit c.inside c.rest n T way g.inside g.rest tm k at2 c1 _
                  real.1 (a1.exit_is exit real.0) e2
                  (λ at3 e3. off real.1 x n T tm k at3 c1 _ (a1.exit_is exit real.0) e3
                  (λ at4 e4. subst (λ z. G n (kernel_item S c1 (LinesAt at4 T k)) z)
                  (sym (unwound_order S C x v (way (begun_in k)) (suc first) rest ts vs vars1))
                  (go at4 c1 vars1 (Some x) v (or_left (leaves x s) (some_leave x rest) can) e4
                  (at_less S C cell scope (scope_after scope s) (Some x) v c1 vars1 (scope_more scope s) a1)
                  kept1)))
            ]) can a1))

    -- a list that begins with the statement
    pub also_follows : (first : ℕ) (guarded : Test) (s : Statement) (rest : Statements) (m : Made) →
        ReadyList S C calls scope cell exit way first guarded (also s rest) m
        → StatementFollows S G R C calls marks scope cell exit (further way (Nth first)) s m
        → ListFollows S G R C calls marks (scope_after scope s) cell exit way (suc first)
        (is_guarded (guarded && declares s) (way_out true true s) guarded) rest
        (statement_code calls C.here exit s m).made
        → ListFollows S G R C calls marks scope cell exit way first guarded (also s rest) m
    unfolding statement_code statement_marks
    also_follows first guarded s rest m r statement others n T T1 tm tm1 k k1 at cells vars ts vs same bridge e a go =
        let declared = guarded && declares s in
        let out = way_out true true s in
        let cs = statement_code calls C.here exit s m in
        let inner = is_guarded declared out guarded in
        let c = list_code calls C.here exit inner rest cs.made in
        let g = list_marks calls marks C.here way (suc first) exit inner rest cs.made in
        also_before first s rest m declared out cs.lines (statement_marks calls marks C.here (further way (Nth first))
        exit s m) cs.made c g
        (grows_count (calls_of s) m cs.made (statement_grows S C calls all.grows all.adds exit s m))
        (λ d x h. declares_ends s x (and_parts guarded (declares s) d).1 h)
        (λ d x h. none_left x s d h)
        (λ site d. let real = exit_first cell exit out (way_out_of_all true true rest) r.has_exit site d in
        (real, made_no_variable S exit Int (r.exits.made exit real)))
        (λ z. no_marks c.inside g.inside (list_shaped calls marks all.shaped C.here way (suc first) exit inner rest
        cs.made).0 z)
        (λ begun ts x p us vars'. comes_behind S C calls all.grows all.adds scope cell exit way first guarded s rest m
        r begun ts x p us vars')
        statement others (λ plain. list_off exit plain way (suc first) inner rest cs.made)
        n T T1 tm tm1 k k1 at cells vars ts vs same bridge e a go
