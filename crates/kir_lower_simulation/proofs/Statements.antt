-- The lines of statements without a loop or switch do what their runs do.
use Rattle.std.proofs.Common.{◌≡◌, ℕ, suc, ◌+◌, ◌<◌, ◌≤◌, ℤ, pos, List, [], ◌∷◌, ◌++◌, length, map, Option, Some}
use Rattle.std.proofs.Common.{None, slice_get, unwrap_or, refl, sym, ap, ap₂, ◌∙◌, subst, arith, inr, true, false}
use Rattle.std.proofs.Common.{if◌then◌else◌, eq-eqb}
use Rattle.std.proofs.Common.{Bool as Test}
use Rattle.std.proofs.lemmas.Option.{same_Some, slice_get_within}
use Rattle.work_items.specs.Items.{Goes, Stores}
use Rattle.wg_num.specs.declared.types.IntType.{IntType}
use Rattle.wg_num.specs.declared.types.IntType.TheVariants.{Int, Long}
use Rattle.wg_num.specs.Bytes.{bytes_of}
use Rattle.cl_model.specs.declared.program.Root.TheVariants.{Private}
use Rattle.cl_model.specs.declared.program.Space.TheVariants as space
use Rattle.cl_model.specs.Calls.{calls_in, calls_of_all, function_at}
use Rattle.cl_model.specs.Meaning.{is_test}
use Rattle.cl_model.specs.Objects.{array_bytes, zeros}
use Rattle.cl_model.specs.Steps.{no_array, array_at, initial_tasks, in_order, count_of, object_at as program_object}
use Rattle.cl_model.specs.Task.{Operand, Own, Tested, Chosen, Other, Task, Run, Discard, Keep, Clear, Initialise}
use Rattle.cl_model.specs.Task.{Branch, Leave, Item as ProgramItem, Point as ProgramPoint}
use Rattle.cl_model.specs.Tree.{Array, Expression, Expressions, Statement, Do, Declare, Fill, Block, If, Break}
use Rattle.cl_model.specs.Tree.{Continue, Return, Barrier, Statements}
use Rattle.cl_model.specs.Valid.{Scope, scope_after}
use Rattle.cl_model.specs.Values.{is_zero}
use Rattle.kir.specs.declared.line.Atom.TheVariants.{Const}
use Rattle.kir.specs.Tree.{Copy, Lines, NoLine, SetThen, StoreThen, ClearThen, IfThen, BarrierThen, joined_to}
use Rattle.kir.specs.Places.{Behind, IntoChosen, IntoOther, Place, Tasks, LinesAt, begun_in}
use Rattle.kir.specs.Steps.{Item, atom_value, array_size}
use Rattle.kir_lower.specs.declared.places.Value.{Value}
use Rattle.kir_lower.specs.Made.{Made, next_cell, int, element_at}
use Rattle.kir_lower.specs.Actions.{set_to, initial_lines, atoms_of}
use Rattle.kir_lower.specs.Code.{Calls, expression_code, operands_code, in_order as code_in_order, statement_code}
use Rattle.kir_lower.specs.Code.{list_code}
use Rattle.kir_lower_shape.specs.Marks.{Way, further, Marks, NoMark, MarkThen, FormThen, marks_then, all_marked}
use Rattle.kir_lower_shape.specs.Marks.{marks_behind, marks_one, marks_two, marks_at}
use Rattle.kir_lower_shape.specs.CodeMarks.{CallMarks, expression_marks, operands_marks, marks_in_order}
use Rattle.kir_lower_shape.specs.CodeMarks.{statement_marks, list_marks}
use Rattle.kir_lower_shape.proofs.Joined.{join_none}
use Rattle.kir_lower_simulation.specs.Setting.{Setting, Store, updated, kernel_item, Activation, frame, inside}
use Rattle.kir_lower_simulation.specs.Setting.{behind_variables, own_variable}
use Rattle.kir_lower_simulation.specs.Exits.{Exit, Continues, Breaks, Returns, pending, unwound, given_by, some_leave}
use Rattle.kir_lower_simulation.specs.Exits.{Can, ListCan}
use Rattle.kir_lower_simulation.specs.Held.{AreFixed, Holding, Kept, Same, IsWithin, At}
use Rattle.kir_lower_simulation.specs.Facts.{Rules}
use Rattle.kir_lower_simulation.specs.Ready.{IsUnderWay}
use Rattle.kir_lower_simulation.specs.Bodies.{declares_it, IsBody, IsExit, ReadyStatement}
use Rattle.kir_lower_simulation.proofs.Lines.{plain_facts, stands_alike, Comes, own_value, updated_same, updated_other}
use Rattle.kir_lower_simulation.proofs.Lines.{Sim, end_line, value_line, set_line}
use Rattle.kir_lower_simulation.proofs.Keeping.{grows_count, made_no_variable, fixed_plain, kept_refl, kept_trans}
use Rattle.kir_lower_simulation.proofs.Keeping.{kept_set, kept_own, kept_exit, kept_weaker, same_set, same_declared}
use Rattle.kir_lower_simulation.proofs.Fixing.{expression_grows, expression_fixed, operands_fixed}
use Rattle.kir_lower_simulation.proofs.Expressions.{marks_assoc, pushed, below_pushed, taken_pushed, at_lines, AreCalls}
use Rattle.kir_lower_simulation.proofs.Expressions.{stays_at, expression_follows, operands_follow}
use Rattle.kir_lower_simulation.proofs.Leaving.{or_left, or_right, return_same}
use Rattle.kir_lower_simulation.proofs.Guards.{marks_none, Bridge}
use Rattle.kir_lower_simulation.proofs.Containing.{do_part, declare_part, return_part, fill_part, if_test, list_grows}

-- ---- what holds between statements

module _ (S : Setting) (C : Activation) (under : IsUnderWay S C) (is_body : IsBody S C) where
  -- the result holds what it held where the cells behind the variables do
  pub answer_kept : (old new : Store) → ((c : ℕ) → behind_variables S C ≤ c → c < C.low → new c ≡ old c) →
      atom_value new C.answer ≡ atom_value old C.answer
  answer_kept old new h = by (function_at S.program C.function).result refl
    where
      by : (o : Option IntType) → (function_at S.program C.function).result ≡ o →
          atom_value new C.answer ≡ atom_value old C.answer
      by None e = ap (atom_value new) (is_body.no_result e) ∙ sym (ap (atom_value old) (is_body.no_result e))
      by (Some t) e =
          let k = is_body.some_result t e in
          ap (atom_value new) k.0 ∙ h C.here.answer k.2 k.3 ∙ sym (ap (atom_value old) k.0)

  module _ (cell : Option ℕ) (exit : ℕ) (scope : Scope) (m : Made) (exits : IsExit S C cell exit m) (low : C.low ≤
      next_cell m) where
    -- behind an expression
    pub at_kept : (o : Option Exit) (v : ℤ) (old new vars vars' : Store) → At S C cell scope o v old vars →
        Same S C scope new vars' → Kept C.here.base (behind_variables S C) None (next_cell m) old new →
        At S C cell scope o v new vars'
    at_kept o v old new vars vars' at s k =
        let le = under.below in
        record {
          same = s;
          exit_is = λ c e. let a =
              exits.low c e in k.each c (inr (omega (arith, a, le), tt)) (exits.high c e) ∙ at.exit_is c e;
          answer_is = answer_kept old new (λ c a b. k.each c (inr (a, tt)) (omega (arith, b, low))) ∙ at.answer_is;
        }

    -- where a new cell is set
    pub at_set : (o : Option Exit) (v : ℤ) (cells vars : Store) (to : ℕ) (w : ℤ) → IsWithin S C scope →
        next_cell m ≤ to → At S C cell scope o v cells vars → At S C cell scope o v (updated cells to w) vars
    at_set o v cells vars to w inner le at =
        let b = under.below in
        at_kept o v cells (updated cells to w) vars vars at (same_set S C scope cells vars to w inner (omega (
          arith,
          b,
          low,
          le,
        )) at.same) (kept_set C.here.base (behind_variables S C) None (next_cell m) cells to w le)

    -- where the way out is set
    pub at_exit : (o o' : Option Exit) (v v' : ℤ) (cells vars : Store) → IsWithin S C scope → cell ≡ Some exit →
        given_by o v ≡ given_by o' v' → At S C cell scope o v cells vars →
        At S C cell scope o' v' (updated cells exit (pending o')) vars
    at_exit o o' v v' cells vars inner e same at =
        let b = under.below in
        let l = exits.low exit e in
        record {
          same = same_set S C scope cells vars exit (pending o') inner (omega (arith, b, l)) at.same;
          exit_is = λ c p. ap (updated cells exit (pending o')) (same_Some c exit (sym p ∙ e)) ∙
              updated_same cells exit (pending o');
          answer_is = answer_kept cells (updated cells exit (pending o'))
              (λ c a lt. updated_other cells exit (pending o') c (λ q. omega (arith, q, lt, l))) ∙ at.answer_is ∙ same;
        }

  -- a variable is declared
  pub at_declared : (cell : Option ℕ) (exit : ℕ) (scope : Scope) (m : Made) → IsExit S C cell exit m →
      (cells vars : Store) (x : ℕ) (w : ℤ) → x < length (function_at S.program C.function).variables →
      At S C cell scope None (pos 0) cells vars
      → At S C cell (x ∷ scope) None (pos 0) (updated cells (C.here.base + x) w) (updated vars x w)
  at_declared cell exit scope m exits cells vars x w less at =
      let b = under.below in
      record {
        same = same_declared S C scope cells vars x w at.same;
        exit_is = λ c e. let l = exits.low c e in
            updated_other cells (C.here.base + x) w c (λ q. omega (arith, q, l, b, less)) ∙ at.exit_is c e;
        answer_is = answer_kept cells (updated cells (C.here.base + x) w)
            (λ c a lt. updated_other cells (C.here.base + x) w c (λ q. omega (arith, q, a, less))) ∙ at.answer_is;
      }

module _ (S : Setting) (G : ℕ → Item → ProgramItem → Type 0) (R : Rules S G) (C : Activation) where
  -- what follows a statement, for each way out of it
  abbrev pub StatementDone : (n high : ℕ) → Option ℕ → Scope → (Option Exit → Type 0) → Lines → Marks → Tasks →
      Store → List Task → List ℤ → Type 0
  StatementDone n high cell scope can T tm k cells ts vs =
      (at : Place) (new vars : Store) (o : Option Exit) (v : ℤ) → can o → marks_at S.marks at ≡ tm →
      At S C cell scope o v new vars → Kept C.here.base C.low cell high cells new
      → G n (kernel_item S new (LinesAt at T k)) (unwound o v (inside S C ts vs vars))

  module _ (calls : Calls) (marks : CallMarks) where
    -- the lines of a statement do what its run does
    abbrev pub StatementFollows : Scope → Option ℕ → ℕ → Way → Statement → Made → Type 0
    StatementFollows scope cell exit way s m =
        (n : ℕ) (T : Lines) (tm : Marks) (k : Tasks) (at : Place) (cells vars : Store) (ts : List Task) (vs : List ℤ)
        → ((x : ℕ) → 0 < declares_it s x → (us : List ℤ) (vars' : Store) →
        Comes S (own_variable C x) (inside S C ts us vars'))
        → marks_at S.marks at ≡ marks_then (statement_marks calls marks C.here way exit s m) tm →
        At S C cell scope None (pos 0) cells vars
        → StatementDone n (next_cell m) cell (scope_after scope s) (Can s) T tm k cells ts vs
        → Sim S G R C n cells (LinesAt at (joined_to (statement_code calls C.here exit s m).lines T) k)
        (Run (way (begun_in k)) s ∷ ts) vs vars

    -- those of a list; its guarded lines stand before T1, behind which its other lines come before T
    abbrev pub ListFollows : Scope → Option ℕ → ℕ → Way → ℕ → Test → Statements → Made → Type 0
    ListFollows scope cell exit way first guarded list m =
        (n : ℕ) (T T1 : Lines) (tm tm1 : Marks) (k k1 : Tasks) (at : Place) (cells vars : Store) (ts : List Task)
        (vs : List ℤ) → begun_in k1 ≡ begun_in k
        → Bridge S G R C T1 tm1 k1 (joined_to (list_code calls C.here exit guarded list m).rest T)
        (marks_then (list_marks calls marks C.here way first exit guarded list m).rest tm) k
        → marks_at S.marks at ≡ marks_then (list_marks calls marks C.here way first exit guarded list m).inside tm1 →
        At S C cell scope None (pos 0) cells vars
        → StatementDone n (next_cell m) cell scope (ListCan list) T tm k cells ts vs
        → Sim S G R C n cells (LinesAt at (joined_to (list_code calls C.here exit guarded list m).inside T1) k1)
        (in_order (way (begun_in k)) first list ts) vs vars

    module _ (under : IsUnderWay S C) (is_body : IsBody S C) (all : AreCalls S G R C calls marks) where
      -- a list that stands for itself, in order
      pub in_order_follows : (scope : Scope) (cell : Option ℕ) (exit : ℕ) (way : Way) (first : ℕ) (list : Statements)
          (m : Made) → ListFollows scope cell exit way first false list m
          → (n : ℕ) (T : Lines) (tm : Marks) (k : Tasks) (at : Place) (cells vars : Store) (ts : List Task)
          (vs : List ℤ)
          → marks_at S.marks at ≡ marks_then
          (marks_in_order (list_marks calls marks C.here way first exit false list m)) tm →
          At S C cell scope None (pos 0) cells vars
          → StatementDone n (next_cell m) cell scope (ListCan list) T tm k cells ts vs
          → Sim S G R C n cells (LinesAt at
          (joined_to (code_in_order (list_code calls C.here exit false list m)).lines T) k)
          (in_order (way (begun_in k)) first list ts) vs vars
      in_order_follows scope cell exit way first list m each n T tm k at cells vars ts vs e a go =
          let c = list_code calls C.here exit false list m in
          let g = list_marks calls marks C.here way first exit false list m in
          at_lines S G R C n cells at c.inside c.rest T k _
          (each n T (joined_to c.rest T) tm (marks_then g.rest tm) k k at cells vars ts vs refl (λ n c j at1 e1 f.
          f at1 e1) (e ∙ marks_assoc g.inside g.rest tm) a go)

      module _ (scope : Scope) (cell : Option ℕ) (exit : ℕ) (way : Way) where
        pub do_follows : (e : Expression) (m : Made) → ReadyStatement S C calls scope cell exit way (Do e) m →
            StatementFollows scope cell exit way (Do e) m
        unfolding statement_code statement_marks
        do_follows e m r n T tm k at cells vars ts vs next p a go =
            let re = do_part S C calls all.grows all.adds scope cell exit way e m r in
            let drop = Discard (way (begun_in k) ++ Own 0 ∷ []) in
            R.task n _ _ _ refl refl
            (expression_follows S G R C under calls marks all scope r.inner e (further way (Operand 0)) m re n T tm k
            at cells vars (drop ∷ ts) vs
            (stays_at S G R C under calls marks all scope r.inner way (begun_in k) (Own 0 ∷ []) drop ts refl
            (λ v h. r.leads (begun_in k) (Own 0 ∷ []) v h)) p a.same
            (λ at1 new vars1 v e1 s1 kept1 h1. R.task n _ _ _ refl refl
            (go at1 new vars1 None (pos 0) tt e1 (at_kept S C under is_body cell exit scope m r.exits r.low None
            (pos 0) cells new vars vars1 a s1 kept1)
            (kept_weaker C.here.base (behind_variables S C) C.low cell (next_cell m) cells new under.below kept1))))

        pub declare_follows : (x : ℕ) (value : Option Expression) (m : Made) →
            ReadyStatement S C calls scope cell exit way (Declare x value) m →
            StatementFollows scope cell exit way (Declare x value) m
        unfolding statement_code statement_marks
        declare_follows x None m r n T tm k at cells vars ts vs next p a go =
            let own = r.sound.0 in
            let less = slice_get_within (function_at S.program C.function).variables x own.0 own.1 in
            let one : 0 < declares_it (Declare x None) x = let q : declares_it (Declare x None) x ≡ suc 0 =
            ap {B = ℕ} (λ b. if b then 1 else 0) (eq-eqb x x refl) in omega (arith, q) in
            let b = under.below in
            set_line S G R C n cells at (Copy (Const (pos 0) _)) T k
            (inside S C (Run (way (begun_in k)) (Declare x None) ∷ ts) vs vars)
            (inside S C ts vs (updated vars x (pos 0))) (own_variable C x) (C.here.base + x) way tm
            (λ v c is. refl) (under.own x own.0 own.1) p refl refl refl (next x one vs (updated vars x (pos 0)))
            (own_value S C (updated vars x (pos 0)) x ∙ ap (λ z. Some z) (updated_same vars x (pos 0)))
            (go (Behind ∷ at) (updated cells (C.here.base + x) (pos 0)) (updated vars x (pos 0)) None (pos 0) tt
            (ap marks_behind p) (at_declared S C under is_body cell exit scope m r.exits cells vars x (pos 0)
            less a)
            (kept_own C.here.base C.low cell (next_cell m) cells (C.here.base + x) (pos 0) (omega arith)
            (omega (arith, less, b))))
        declare_follows x (Some e) m r n T tm k at cells vars ts vs next p a go =
            let own = r.sound.0 in
            let less = slice_get_within (function_at S.program C.function).variables x own.0 own.1 in
            let one : 0 < declares_it (Declare x (Some e)) x = let q : declares_it (Declare x (Some e)) x ≡ suc 0 =
            ap {B = ℕ} (λ b. if b then 1 else 0) (eq-eqb x x refl) in omega (arith, q) in
            let b = under.below in
            let re = declare_part S C calls all.grows all.adds scope cell exit way x e m r in
            let ce = expression_code calls C.here e m in
            let fe = expression_fixed S C calls all.grows all.adds all.fixed scope (further way (Operand 0)) e m re in
            let me = expression_marks calls marks C.here (further way (Operand 0)) e m in
            let keep = Keep (way (begun_in k)) x in
            R.task n _ _ _ refl refl
            (at_lines S G R C n cells at ce.lines (set_to (C.here.base + x) ce.value.atom) T k _
            (expression_follows S G R C under calls marks all scope r.inner e (further way (Operand 0)) m re n
            (SetThen (C.here.base + x) (Copy ce.value.atom) T) (MarkThen (further way (Own 0)) tm) k at cells
            vars (keep ∷ ts) vs
            (stays_at S G R C under calls marks all scope r.inner way (begun_in k) (Own 0 ∷ []) keep ts refl
            (λ v h. r.leads (begun_in k) (Own 0 ∷ []) v h)) (p ∙
            marks_assoc me (MarkThen (further way (Own 0)) NoMark) tm) a.same
            (λ at1 new vars1 v e1 s1 kept1 h1.
            let w = atom_value new ce.value.atom in
            let a1 = at_kept S C under is_body cell exit scope m r.exits r.low None (pos 0) cells new vars vars1 a s1
            kept1 in
            set_line S G R C n new at1 (Copy ce.value.atom) T k (inside S C (keep ∷ ts) (v ∷ vs) vars1)
            (inside S C ts vs (updated vars1 x w)) (own_variable C x) (C.here.base + x) (further way (Own 0)) tm
            (fixed_plain S C.low (next_cell ce.made) ce.value fe) (under.own x own.0 own.1) e1 refl
            (ap (λ z. Goes (inside S C ts vs (updated vars1 x z))) (sym h1)) refl
            (next x one vs (updated vars1 x w))
            (own_value S C (updated vars1 x w) x ∙ ap (λ z. Some z) (updated_same vars1 x w))
            (go (Behind ∷ at1) (updated new (C.here.base + x) w) (updated vars1 x w) None (pos 0) tt
            (ap marks_behind e1) (at_declared S C under is_body cell exit scope m r.exits new vars1 x w less a1)
            (kept_trans C.here.base C.low cell (next_cell m) (next_cell m) cells new _ (omega arith)
            (kept_weaker C.here.base (behind_variables S C) C.low cell (next_cell m) cells new under.below kept1)
            (kept_own C.here.base C.low cell (next_cell m) new (C.here.base + x) w (omega arith) (omega (
              arith,
              less,
              b,
            ))))))))

        -- the stores of values into an array
        initial_follows : (array : ℕ) (a : Array) (high site : ℕ) →
            slice_get (function_at S.program C.function).arrays array ≡ Some a → a.space ≡ space.Private
            → (values : List Value) (args : List ℤ) (i i' : ℕ) → i ≡ i' →
            (n : ℕ) (T : Lines) (to : Way) (tm : Marks) (k : Tasks) (at : Place) (cells vars : Store)
            (ts : List Task) (vs : List ℤ) → AreFixed S C.low high values → Holding cells values args
            → marks_at S.marks at ≡ marks_then
            (all_marked to (initial_lines site (element_at C.here array) (C.here.arrays + array) i values)) tm
            → ((at' : Place) → marks_at S.marks at' ≡ tm → Sim S G R C n cells (LinesAt at' T k) ts vs vars)
            → Sim S G R C n cells (LinesAt at
            (joined_to (initial_lines site (element_at C.here array) (C.here.arrays + array) i values) T) k)
            (initial_tasks (way (begun_in k)) site array i' args ts) vs vars
        initial_follows array a high site there priv [] args i i' same n T to tm k at cells vars ts vs fixed holds p
            go = subst (λ z. Sim S G R C n cells (LinesAt at T k) (initial_tasks (way (begun_in k)) site array i' z
            ts) vs vars) holds (go at p)
        initial_follows array a high site there priv (value ∷ values) args i i' same n T to tm k at cells vars ts vs
            fixed holds p go =
            let v = atom_value cells value.atom in
            let others = map (atom_value cells) (atoms_of values) in
            let element = element_at C.here array in
            let number = C.here.arrays + array in
            let rest = joined_to (initial_lines site element number (i + 1) values) T in
            let here = kernel_item S cells
            (LinesAt at (StoreThen site element (Private number) (Const (pos i) Long) value.atom rest) k) in
            let j = inside S C (Initialise (way (begun_in k)) site array i' v ∷ initial_tasks (way (begun_in k)) site
            array (suc i') others ts) vs vars in
            let j' = inside S C (initial_tasks (way (begun_in k)) site array (suc i') others ts) vs vars in
            let object = program_object S.program S.launch j (Private array) in
            let is : array_at S.program j array ≡ a = ap (λ z. unwrap_or z no_array) there in
            let of : element ≡ (array_at S.program j array).element =
            under.elements array a there ∙ sym (ap (λ (z : Array). z.element) is) in
            subst (λ z. Sim S G R C n cells
            (LinesAt at (StoreThen site element (Private number) (Const (pos i) Long) value.atom rest) k)
            (initial_tasks (way (begun_in k)) site array i' z ts) vs vars) holds
            (R.stores n here (kernel_item S cells (LinesAt (Behind ∷ at) rest k)) j j' site object (pos i')
            (bytes_of (array_at S.program j array).element v)
            (plain_facts S here j (record {
              reads_none = fixed_plain S C.low high value fixed.0;
              sets_none = λ u d is4. refl;
            }))
            (ap₂ (λ y z. Stores site y (pos z) (bytes_of element v)
            (kernel_item S cells (LinesAt (Behind ∷ at) rest k)))
            (under.roots (Private array) space.Private a.element (a, there, priv, refl, refl)) same
            ∙ ap (λ z. Stores site object (pos i') (bytes_of z v)
            (kernel_item S cells (LinesAt (Behind ∷ at) rest k))) of)
            refl
            (initial_follows array a high site there priv values others (i + 1) (suc i') (omega (arith, same)) n T to
            tm k (Behind ∷ at) cells vars ts vs fixed.1 refl (ap marks_behind p) go))

        pub fill_follows : (site array : ℕ) (values : Expressions) (m : Made) →
            ReadyStatement S C calls scope cell exit way (Fill site array values) m →
            StatementFollows scope cell exit way (Fill site array values) m
        unfolding statement_code statement_marks
        fill_follows site array values m r n T tm k at cells vars ts vs next p a go =
            let arr = r.sound.0.0 in
            let there = r.sound.0.1 in
            let priv = r.sound.0.2 in
            let rv = fill_part S C calls all.grows all.adds scope cell exit way site array values m r in
            let cv = operands_code calls C.here values m in
            let fv = operands_fixed S C calls all.grows all.adds all.fixed scope way 0 values m rv in
            let number = C.here.arrays + array in
            let element = element_at C.here array in
            let stores = initial_lines site element number 0 cv.values in
            let mv = operands_marks calls marks C.here way 0 values m in
            let ms = all_marked (further way (Own 0)) (ClearThen number stores) in
            let clear = Clear (way (begun_in k)) site array (count_of values) in
            R.task n _ _ _ refl (fill_quiet (way (begun_in k)) values site array ts)
            (at_lines S G R C n cells at cv.lines (ClearThen number stores) T k _
            (operands_follow S G R C under calls marks all scope r.inner values way 0 m rv n
            (ClearThen number (joined_to stores T)) (marks_then ms tm) k at cells vars (clear ∷ ts) vs
            (stays_at S G R C under calls marks all scope r.inner way (begun_in k) (Own 0 ∷ []) clear ts refl
            (λ v h. r.leads (begun_in k) (Own 0 ∷ []) v h)) (p ∙ marks_assoc mv ms tm) a.same
            (λ at1 new vars1 args many e1 s1 kept1 holds.
            let i = kernel_item S new (LinesAt at1 (ClearThen number (joined_to stores T)) k) in
            let j = inside S C (clear ∷ ts) (pushed args vs) vars1 in
            let j' = inside S C (initial_tasks (way (begun_in k)) site array 0 args ts) vs vars1 in
            let object = program_object S.program S.launch j (Private array) in
            let is : array_at S.program j array ≡ arr = ap (λ z. unwrap_or z no_array) there in
            let size : array_size S.kernel number ≡ array_bytes (array_at S.program j array) =
            ap (λ z. array_bytes (unwrap_or z no_array)) (under.arrays array arr there) ∙ sym (ap array_bytes is) in
            R.stores n i (kernel_item S new (LinesAt (Behind ∷ at1) (joined_to stores T) k)) j j' 0 object (pos 0)
            (zeros (array_bytes (array_at S.program j array)))
            (plain_facts S i j (record { reads_none = λ u d is4. refl; sets_none = λ u d is4. refl }))
            (ap₂ (λ y z. Stores 0 y (pos 0) (zeros z)
            (kernel_item S new (LinesAt (Behind ∷ at1) (joined_to stores T) k)))
            (under.roots (Private array) space.Private arr.element (arr, there, priv, refl, refl)) size)
            (ap₂ (λ y z. Stores 0 object (pos 0) (zeros (array_bytes (array_at S.program j array)))
            (inside S C (initial_tasks (way (begun_in k)) site array 0 y ts) z vars1))
            (taken_pushed args vs (count_of values) (sym many))
            (below_pushed args vs (count_of values) (sym many) vs))
            (initial_follows array arr (next_cell cv.made) site there priv cv.values args 0 0 refl n T
            (further way (Own 0)) tm k (Behind ∷ at1) new vars1 ts vs fv holds (ap marks_behind e1)
            (λ at2 e2. go at2 new vars1 None (pos 0) tt e2 (at_kept S C under is_body cell exit scope m r.exits r.low
            None (pos 0) cells new vars vars1 a s1 kept1)
            (kept_weaker C.here.base (behind_variables S C) C.low cell (next_cell m) cells new under.below kept1))))))
          where
            fill_quiet : (at0 : ProgramPoint) (list : Expressions) (site array : ℕ) (ts : List Task) →
                Rattle.cl_model.specs.Meaning.is_test (Run at0 (Fill site array list) ∷ ts) ≡ false
            fill_quiet at0 list site array ts = refl

        pub block_follows : (list : Statements) (m : Made) →
            ReadyStatement S C calls scope cell exit way (Block list) m →
            ListFollows scope cell exit way 0 false list m → StatementFollows scope cell exit way (Block list) m
        unfolding statement_code statement_marks
        block_follows list m r each n T tm k at cells vars ts vs next p a go =
            R.task n _ _ _ refl refl (in_order_follows scope cell exit way 0 list m each n T tm k at cells vars ts vs
            p a (λ at1 new vars1 o v c. go at1 new vars1 o v (block_can list o c)))
          where
            block_can : (list : Statements) (o : Option Exit) → ListCan list o → Can (Block list) o
            block_can list None c = tt
            block_can list (Some x) c = c

        pub if_follows : (site : ℕ) (test : Expression) (chosen other : Statements) (m : Made) →
            ReadyStatement S C calls scope cell exit way (If site test chosen other) m
            → ListFollows scope cell exit (further way Chosen) 0 false chosen (expression_code calls C.here test m).made
            → ListFollows scope cell exit (further way Other) 0 false other
            (list_code calls C.here exit false chosen (expression_code calls C.here test m).made).made
            → StatementFollows scope cell exit way (If site test chosen other) m
        unfolding statement_code statement_marks
        if_follows site test chosen other m r each_y each_n n T tm k at cells vars ts vs next p a go =
            let ct = expression_code calls C.here test m in
            let cy = list_code calls C.here exit false chosen ct.made in
            let cn = list_code calls C.here exit false other cy.made in
            let rt = if_test S C calls all.grows all.adds scope cell exit way site test chosen other m r in
            let ft = expression_fixed S C calls all.grows all.adds all.fixed scope (further way Tested) test m rt in
            let gt = grows_count (calls_in test) m ct.made (expression_grows S C calls all.grows all.adds test m) in
            let gy = grows_count (calls_of_all chosen) ct.made cy.made
            (list_grows S C calls all.grows all.adds exit false chosen ct.made) in
            let lines_y = (code_in_order cy).lines in
            let lines_n = (code_in_order cn).lines in
            let mt = expression_marks calls marks C.here (further way Tested) test m in
            let my = marks_in_order (list_marks calls marks C.here (further way Chosen) 0 exit false chosen ct.made) in
            let mn = marks_in_order (list_marks calls marks C.here (further way Other) 0 exit false other cy.made) in
            let at0 = way (begun_in k) in
            let test_task = Branch at0 chosen other in
            R.task n _ _ _ refl refl
            (at_lines S G R C n cells at ct.lines (IfThen site ct.value.atom lines_y lines_n NoLine) T k _
            (expression_follows S G R C under calls marks all scope r.inner test (further way Tested) m rt n
            (IfThen site ct.value.atom lines_y lines_n T) (FormThen (further way (Own 0)) my mn tm) k at cells
            vars (test_task ∷ ts) vs
            (stays_at S G R C under calls marks all scope r.inner way (begun_in k) (Own 0 ∷ []) test_task ts refl
            (λ v h. r.leads (begun_in k) (Own 0 ∷ []) v h)) (p ∙
            marks_assoc mt (FormThen (further way (Own 0)) my mn NoMark) tm) a.same
            (λ at1 c1 vars1 v e1 s1 kept1 h1.
            let a1 =
            at_kept S C under is_body cell exit scope m r.exits r.low None (pos 0) cells c1 vars vars1 a s1 kept1 in
            let kept2 =
            kept_weaker C.here.base (behind_variables S C) C.low cell (next_cell m) cells c1 under.below kept1 in
            let i1 = kernel_item S c1 (LinesAt at1 (IfThen site ct.value.atom lines_y lines_n T) k) in
            let tail = LinesAt (Behind ∷ at1) T k in
            let branch : Test → ProgramItem =
            λ b. inside S C (if b then in_order (at0 ++ Other ∷ []) 0 other ts else in_order (at0 ++ Chosen ∷ [])
            0 chosen ts) vs vars1 in
            R.test n c1 at1 site ct.value.atom lines_y lines_n T k (test_task ∷ ts) v vs _ (λ z. branch (is_zero z))
            (plain_facts S i1 _ (record {
              reads_none = fixed_plain S C.low (next_cell ct.made) ct.value ft;
              sets_none = λ u d is. refl;
            })) refl h1 (λ z. refl)
            (λ z. (elim (is_zero z) as (λ b.
            G n (kernel_item S c1 (if b then LinesAt (IntoOther ∷ at1) lines_n tail else LinesAt
            (IntoChosen ∷ at1) lines_y tail)) (branch b)) [
              | true ↦ subst (λ z. Sim S G R C n c1 (LinesAt (IntoOther ∷ at1) z tail)
                  (in_order (at0 ++ Other ∷ []) 0 other ts) vs vars1) (join_none lines_n)
                  (in_order_follows scope cell exit (further way Other) 0 other cy.made each_n n NoLine NoMark tail
                  (IntoOther ∷ at1) c1 vars1 ts vs (ap marks_two e1 ∙ sym (marks_none mn)) a1
                  (λ at2 c2 vars2 o w c e2 a2 kept3. end_line S G R C n c2 at2 tail _
                  (go (Behind ∷ at1) c2 vars2 o w (if_right site test chosen other o c) (ap marks_behind e1) a2
                  (kept_trans C.here.base C.low cell (next_cell m) (next_cell cy.made) cells c1 c2 (omega (
                    arith,
                    gt,
                    gy,
                  )) kept2 kept3))))
              | false ↦ subst (λ z. Sim S G R C n c1 (LinesAt (IntoChosen ∷ at1) z tail)
                  (in_order (at0 ++ Chosen ∷ []) 0 chosen ts) vs vars1) (join_none lines_y)
                  (in_order_follows scope cell exit (further way Chosen) 0 chosen ct.made each_y n NoLine NoMark tail
                  (IntoChosen ∷ at1) c1 vars1 ts vs (ap marks_one e1 ∙ sym (marks_none my)) a1
                  (λ at2 c2 vars2 o w c e2 a2 kept3. end_line S G R C n c2 at2 tail _
                  (go (Behind ∷ at1) c2 vars2 o w (if_left site test chosen other o c) (ap marks_behind e1) a2
                  (kept_trans C.here.base C.low cell (next_cell m) (next_cell ct.made) cells c1 c2 gt kept2 kept3))))
            ])))))
          where
            if_left : (site : ℕ) (test : Expression) (chosen other : Statements) (o : Option Exit) →
                ListCan chosen o → Can (If site test chosen other) o
            if_left site test chosen other None c = tt
            if_left site test chosen other (Some x) c = or_left (some_leave x chosen) (some_leave x other) c

            if_right : (site : ℕ) (test : Expression) (chosen other : Statements) (o : Option Exit) →
                ListCan other o → Can (If site test chosen other) o
            if_right site test chosen other None c = tt
            if_right site test chosen other (Some x) c = or_right (some_leave x chosen) (some_leave x other) c

        -- ---- ways out

        -- the cell of the way out is set, where the program's item has gone
        exits_by : (s : Statement) (x : Exit) (m : Made) → ReadyStatement S C calls scope cell exit way s m →
            cell ≡ Some exit → Can s (Some x) → scope_after scope s ≡ scope →
            (n : ℕ) (T : Lines) (to : Way) (tm : Marks) (k : Tasks) (at : Place) (cells new vars : Store)
            (ts : List Task) (vs : List ℤ) (v : ℤ)
            → marks_at S.marks at ≡ MarkThen to tm → At S C cell scope None (pos 0) new vars → (answer : Store) →
            At S C cell scope (Some x) v (updated new exit (pending (Some x))) vars →
            Kept C.here.base C.low cell (next_cell m) cells new
            → StatementDone n (next_cell m) cell (scope_after scope s) (Can s) T tm k cells ts vs
            → G n (kernel_item S new (LinesAt at (SetThen exit (Copy (int (pending (Some x)))) T) k))
            (unwound (Some x) v (inside S C ts vs vars))
        exits_by s x m r e c same n T to tm k at cells new vars ts vs v p a unused a1 kept go =
            value_line S G R C n new at exit (Copy (int (pending (Some x)))) T k _
            (made_no_variable S exit Int (r.exits.made exit e)) (λ u d is. refl)
            (go (Behind ∷ at) (updated new exit (pending (Some x))) vars (Some x) v c (ap marks_behind p)
            (subst (λ z. At S C cell z (Some x) v (updated new exit (pending (Some x))) vars) (sym same) a1)
            (kept_trans C.here.base C.low cell (next_cell m) (next_cell m) cells new _ (omega arith) kept
            (subst (λ z. Kept C.here.base C.low z (next_cell m) new (updated new exit (pending (Some x)))) (sym e)
            (kept_exit C.here.base C.low exit (next_cell m) new (pending (Some x))
            (let l = r.exits.low exit e in let b = under.below in omega (arith, l, b))))))

        pub break_follows : (site : ℕ) (m : Made) → ReadyStatement S C calls scope cell exit way (Break site) m →
            StatementFollows scope cell exit way (Break site) m
        unfolding statement_code statement_marks
        break_follows site m r n T tm k at cells vars ts vs next p a go =
            let e = r.has_exit site refl in
            R.task n _ _ _ refl refl
            (exits_by (Break site) Breaks m r e refl refl n T way tm k at cells cells vars ts vs (pos 0) p a cells
            (at_exit S C under is_body cell exit scope m r.exits r.low None (Some Breaks) (pos 0) (pos 0) cells
            vars r.inner e refl a) (kept_refl C.here.base C.low cell (next_cell m) cells) go)

        pub continue_follows : (site : ℕ) (m : Made) →
            ReadyStatement S C calls scope cell exit way (Continue site) m →
            StatementFollows scope cell exit way (Continue site) m
        unfolding statement_code statement_marks
        continue_follows site m r n T tm k at cells vars ts vs next p a go =
            let e = r.has_exit site refl in
            R.task n _ _ _ refl refl
            (exits_by (Continue site) Continues m r e refl refl n T way tm k at cells cells vars ts vs (pos 0) p a
            cells (at_exit S C under is_body cell exit scope m r.exits r.low None (Some Continues) (pos 0)
            (pos 0) cells vars r.inner e refl a) (kept_refl C.here.base C.low cell (next_cell m) cells) go)

        pub return_follows : (site : ℕ) (value : Option Expression) (m : Made) →
            ReadyStatement S C calls scope cell exit way (Return site value) m →
            StatementFollows scope cell exit way (Return site value) m
        unfolding statement_code statement_marks
        return_follows site None m r n T tm k at cells vars ts vs next p a go =
            let e = r.has_exit site refl in
            R.task n _ _ _ (ap Goes (return_same S (Run (way (begun_in k)) (Return site None) ∷ ts) ts vs vs
            (frame C vars ∷ C.outer) ts (pos 0 ∷ vs))) refl
            (exits_by (Return site None) Returns m r e refl refl n T way tm k at cells cells vars ts vs (pos 0) p a
            cells (at_exit S C under is_body cell exit scope m r.exits r.low None (Some Returns) (pos 0) (pos 0)
            cells vars r.inner e refl a) (kept_refl C.here.base C.low cell (next_cell m) cells) go)
        return_follows site (Some e) m r n T tm k at cells vars ts vs next p a go =
            let out = r.has_exit site refl in
            let result = r.sound.0 in
            let own = is_body.some_result result.0 result.1 in
            let answer = C.here.answer in
            let re = return_part S C calls all.grows all.adds scope cell exit way site e m r in
            let ce = expression_code calls C.here e m in
            let fe = expression_fixed S C calls all.grows all.adds all.fixed scope (further way (Operand 0)) e m re in
            let me = expression_marks calls marks C.here (further way (Operand 0)) e m in
            let leave = Leave (way (begun_in k)) in
            let last = SetThen answer (Copy ce.value.atom) (SetThen exit (Copy (int (pos 3))) NoLine) in
            let le = under.below in
            let l = r.exits.low exit out in
            let h = own.2 in
            let h2 = own.3 in
            R.task n _ _ _ refl refl
            (at_lines S G R C n cells at ce.lines last T k _
            (expression_follows S G R C under calls marks all scope r.inner e (further way (Operand 0)) m re n
            (joined_to last T) (MarkThen (further way (Own 0)) (MarkThen (further way (Own 0)) tm)) k at cells
            vars (leave ∷ ts) vs
            (stays_at S G R C under calls marks all scope r.inner way (begun_in k) (Own 0 ∷ []) leave ts refl
            (λ v i. r.leads (begun_in k) (Own 0 ∷ []) v i)) (p ∙
            marks_assoc me (MarkThen (further way (Own 0)) (MarkThen (further way (Own 0)) NoMark)) tm) a.same
            (λ at1 new vars1 v e1 s1 kept1 h1.
            let w = atom_value new ce.value.atom in
            let a1 = at_kept S C under is_body cell exit scope m r.exits r.low None (pos 0) cells new vars vars1 a s1
            kept1 in
            let new2 = updated new answer w in
            let new3 = updated new2 exit (pos 3) in
            let a2 : At S C cell scope None (pos 0) new2 vars1 → At S C cell scope (Some Returns) v new3 vars1 =
            λ b. record {
              same = same_set S C scope new2 vars1 exit (pos 3) r.inner (omega (arith, le, l))
                  (same_set S C scope new vars1 answer w r.inner h s1);
              exit_is = λ c q. ap new3 (same_Some c exit (sym q ∙ out)) ∙ updated_same new2 exit (pos 3);
              answer_is = ap (atom_value new3) own.0 ∙
                  updated_other new2 exit (pos 3) answer (λ q. omega (arith, q, l, h2)) ∙ updated_same new answer w ∙
                  h1;
            } in
            let kept2 = kept_trans C.here.base C.low cell (next_cell m) (next_cell m) cells new new2 (omega arith)
            (kept_weaker C.here.base (behind_variables S C) C.low cell (next_cell m) cells new le kept1)
            (kept_own C.here.base C.low cell (next_cell m) new answer w (omega (arith, h)) h2) in
            R.task n _ (inside S C (leave ∷ ts) (v ∷ vs) vars1) (unwound (Some Returns) v (inside S C ts vs vars1))
            (ap Goes (return_same S (leave ∷ ts) ts (v ∷ vs) vs (frame C vars1 ∷ C.outer) ts (v ∷ vs))) refl
            (value_line S G R C n new at1 answer (Copy ce.value.atom) (SetThen exit (Copy (int (pos 3))) T) k _
            (made_no_variable S answer result.0 own.1) (fixed_plain S C.low (next_cell ce.made) ce.value fe)
            (value_line S G R C n new2 (Behind ∷ at1) exit (Copy (int (pos 3))) T k _
            (made_no_variable S exit Int (r.exits.made exit out)) (λ u d is. refl)
            (go (Behind ∷ Behind ∷ at1) new3 vars1 (Some Returns) v refl (ap (λ z. marks_behind (marks_behind z)) e1)
            (record {
              same = same_set S C scope new2 vars1 exit (pos 3) r.inner (omega (arith, le, l))
                  (same_set S C scope new vars1 answer w r.inner h s1);
              exit_is = λ c q. ap new3 (same_Some c exit (sym q ∙ out)) ∙ updated_same new2 exit (pos 3);
              answer_is = ap (atom_value new3) own.0 ∙
                  updated_other new2 exit (pos 3) answer (λ q. omega (arith, q, l, h2)) ∙ updated_same new answer w ∙
                  h1;
            })
            (kept_trans C.here.base C.low cell (next_cell m) (next_cell m) cells new2 new3 (omega arith) kept2
            (subst (λ z. Kept C.here.base C.low z (next_cell m) new2 new3) (sym out)
            (kept_exit C.here.base C.low exit (next_cell m) new2 (pos 3) (omega (arith, l, le)))))))))))

        pub barrier_follows : (site : ℕ) (m : Made) → ReadyStatement S C calls scope cell exit way (Barrier site) m →
            StatementFollows scope cell exit way (Barrier site) m
        unfolding statement_code statement_marks
        barrier_follows site m r n T tm k at cells vars ts vs next p a go =
            let i = kernel_item S cells (LinesAt at (BarrierThen site T) k) in
            let j = inside S C (Run (way (begun_in k)) (Barrier site) ∷ ts) vs vars in
            R.waits n i _ j _ site (plain_facts S i j (record {
              reads_none = λ u d is. refl;
              sets_none = λ u d is. refl;
            })) (stands_alike S cells at (BarrierThen site T) k way tm j p refl)
            refl refl
            (go (Behind ∷ at) cells vars None (pos 0) tt (ap marks_behind p) a
            (kept_refl C.here.base C.low cell (next_cell m) cells))
