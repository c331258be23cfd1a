-- The lines of an expression do what its evaluation does.
use Rattle.std.proofs.Common.{◌≡◌, ℕ, zero, suc, ◌+◌, ◌<◌, ◌≤◌, ℤ, List, [], ◌∷◌, ◌++◌, length, Option, Some, None}
use Rattle.std.proofs.Common.{refl, sym, ap, ap₂, ◌∙◌, subst, arith, inr, true, false, if◌then◌else◌}
use Rattle.std.proofs.Common.{Bool as Test}
use Rattle.std.specs.Prelude.{◌||◌}
use Rattle.work_items.specs.Memory.{Access}
use Rattle.work_items.specs.Items.{Loads, Stores}
use Rattle.wg_num.specs.Bytes.{size_of, bytes_of, value_of_bytes}
use Rattle.cl_model.specs.declared.program.Root.{Root}
use Rattle.cl_model.specs.Agreement.{Owned, HasOwned, owned_by, IsInBody, IsScopedAt}
use Rattle.cl_model.specs.Calls.{calls_in, calls_among, function_at}
use Rattle.cl_model.specs.Meaning.{is_test}
use Rattle.cl_model.specs.Task.{Operand, Own, Tested, Chosen, Other, Into, Task, Evaluate, Finish, Peek, Alter}
use Rattle.cl_model.specs.Task.{Decide, Enter, Item as ProgramItem, Point as ProgramPoint, first_point}
use Rattle.cl_model.specs.Tree.{Action, Expression, Apply, Update, Choose, Call, Expressions, none, more}
use Rattle.cl_model.specs.Steps.{action_next, last, before, taken_onto, taken, below, changed as program_changed}
use Rattle.cl_model.specs.Steps.{each_operand, count_of, access_at as program_access, object_at as program_object}
use Rattle.cl_model.specs.Valid.{Scope}
use Rattle.cl_model.specs.Values.{is_zero}
use Rattle.kir.specs.declared.line.Atom.TheVariants.{Cell as CellAtom}
use Rattle.kir.specs.Tree.{Lines, NoLine, LoadThen, StoreThen, IfThen, Copy, joined_to, OfValue}
use Rattle.kir.specs.Places.{Behind, IntoChosen, IntoOther, Place, Tasks, LinesAt, begun_in}
use Rattle.kir.specs.Steps.{Item, atom_value, access_at}
use Rattle.kir_lower.specs.declared.places.Value.{Value}
use Rattle.kir_lower.specs.Made.{Made, Instance, next_cell, with_cell, argument_roots, root_in}
use Rattle.kir_lower.specs.Actions.{action_code, changed, stored, set_to}
use Rattle.kir_lower.specs.Code.{Calls, expression_code, operands_code}
use Rattle.kir_lower_shape.specs.Marks.{Way, further, Marks, NoMark, MarkThen, FormThen, marks_then, all_marked}
use Rattle.kir_lower_shape.specs.Marks.{marks_behind, marks_one, marks_two, marks_at, Shaped}
use Rattle.kir_lower_shape.specs.CodeMarks.{CallMarks, expression_marks, operands_marks}
use Rattle.kir_lower_shape.proofs.Joined.{join_assoc}
use Rattle.kir_lower_shape.proofs.Making.{call_of}
use Rattle.kir_lower_simulation.specs.Setting.{Setting, Store, updated, kernel_item, Activation, inside}
use Rattle.kir_lower_simulation.specs.Setting.{behind_variables}
use Rattle.kir_lower_simulation.specs.Held.{Within, IsFixed, AreFixed, Holding, Kept, Same, IsWithin}
use Rattle.kir_lower_simulation.specs.Facts.{Rules}
use Rattle.kir_lower_simulation.specs.Ready.{IsSoundCall, AreNext, Adds, IsUnderWay, ReadyExpression, ReadyOperands}
use Rattle.kir_lower_simulation.proofs.Lines.{PlainAtom, plain_facts, apart_cell, updated_same, Sim, end_line}
use Rattle.kir_lower_simulation.proofs.Lines.{value_line}
use Rattle.kir_lower_simulation.proofs.Keeping.{Grows, grows_count, next_with, within_less, value_made}
use Rattle.kir_lower_simulation.proofs.Keeping.{made_no_variable, fixed_plain, fixed_more, fixed_kept, value_fixed}
use Rattle.kir_lower_simulation.proofs.Keeping.{kept_refl, kept_trans, kept_set, same_set}
use Rattle.kir_lower_simulation.proofs.Actions.{Stays, Done, changed_follows, changed_fixed, either_holds}
use Rattle.kir_lower_simulation.proofs.Actions.{action_follows}
use Rattle.kir_lower_simulation.proofs.Readying.{next_right}
use Rattle.kir_lower_simulation.proofs.Fixing.{operands_add, here_in_scope, has_owned, expression_grows, operands_grow}
use Rattle.kir_lower_simulation.proofs.Fixing.{apply_operands, operands_first, operands_rest, call_arguments}
use Rattle.kir_lower_simulation.proofs.Fixing.{update_index, update_value, choose_test, choose_chosen, choose_other}
use Rattle.kir_lower_simulation.proofs.Fixing.{expression_fixed, operands_fixed}

-- ---- marks and values

pub marks_assoc : (a b c : Marks) → marks_then (marks_then a b) c ≡ marks_then a (marks_then b c)
marks_assoc NoMark b c = refl
marks_assoc (MarkThen way rest) b c = ap (λ z. MarkThen way z) (marks_assoc rest b c)
marks_assoc (FormThen way one two rest) b c = ap (λ z. FormThen way one two z) (marks_assoc rest b c)

-- values of operands on the list of values, the last one first
abbrev pub pushed : List ℤ → List ℤ → List ℤ
pushed [] vs = vs
pushed (a ∷ args) vs = pushed args (a ∷ vs)

pub below_pushed : (args vs : List ℤ) → (n : ℕ) → n ≡ length args → (us : List ℤ) → below n (pushed args vs) ≡ vs
below_pushed args vs n e us = all args vs n e
  where
    step : (n : ℕ) (us : List ℤ) → below (suc n) us ≡ before (below n us)
    step zero us = refl
    step (suc n) us = step n (before us)

    all : (args vs : List ℤ) (n : ℕ) → n ≡ length args → below n (pushed args vs) ≡ vs
    all [] vs zero e = refl
    all [] vs (suc n) e = absurd (omega (arith, e))
    all (a ∷ args) vs zero e = absurd (omega (arith, e))
    all (a ∷ args) vs (suc n) e = step n (pushed args (a ∷ vs)) ∙ ap before (all args (a ∷ vs) n (omega (arith, e)))

pub taken_pushed : (args vs : List ℤ) (n : ℕ) → n ≡ length args → taken n (pushed args vs) ≡ args
taken_pushed args vs n e = all args vs [] n e ∙ end args
  where
    end : (xs : List ℤ) → xs ++ [] ≡ xs
    end [] = refl
    end (x ∷ xs) = ap (λ z. x ∷ z) (end xs)

    step : (n : ℕ) (us onto : List ℤ) → taken_onto (suc n) us onto ≡ last (below n us) ∷ taken_onto n us onto
    step zero us onto = refl
    step (suc n) us onto = step n (before us) (last us ∷ onto)

    all : (args vs onto : List ℤ) (n : ℕ) → n ≡ length args → taken_onto n (pushed args vs) onto ≡ args ++ onto
    all [] vs onto zero e = refl
    all [] vs onto (suc n) e = absurd (omega (arith, e))
    all (a ∷ args) vs onto zero e = absurd (omega (arith, e))
    all (a ∷ args) vs onto (suc n) e =
        let k : n ≡ length args = omega (arith, e) in
        step n (pushed args (a ∷ vs)) onto ∙
        ap₂ (λ y z. y ∷ z) (ap last (below_pushed args (a ∷ vs) n k vs)) (all args (a ∷ vs) onto n k)

-- operands before tasks
pub operands_quiet : (at : ProgramPoint) (k : ℕ) (list : Expressions) (ts : List Task) (e : Expression)
    (rest : Expressions) → list ≡ more e rest → is_test (each_operand at k list ts) ≡ false
operands_quiet at k list ts e rest same = ap (λ z. is_test (each_operand at k z ts)) same

module _ (S : Setting) (G : ℕ → Item → ProgramItem → Type 0) (R : Rules S G) (C : Activation) where
  -- lines in order
  pub at_lines : (n : ℕ) (cells : Store) (at : Place) (a b T : Lines) (k : Tasks) (j : ProgramItem) →
      G n (kernel_item S cells (LinesAt at (joined_to a (joined_to b T)) k)) j →
      G n (kernel_item S cells (LinesAt at (joined_to (joined_to a b) T) k)) j
  at_lines n cells at a b T k j g = subst (λ z. G n (kernel_item S cells (LinesAt at z k)) j) (sym (join_assoc a b T)) g

  -- what is asked of the lines of calls
  abbrev pub CallsFollow : Calls → CallMarks → Type 0
  CallsFollow calls marks =
      (site g : ℕ) (roots : List (Option Root)) (values : List Value) (args : List ℤ) (m : Made) (way : Way) (n : ℕ)
      (T : Lines) (tm : Marks) (k : Tasks) (at : Place) (cells vars : Store) (ts : List Task) (vs : List ℤ)
      → IsSoundCall S.program (function_at S.program C.function) g roots (length args) →
      AreNext S C m (call_of site g ∷ [])
      → ((begun : List ℕ) (along : ProgramPoint) (v : Owned) → IsInBody S.program C.depth g along v →
      IsScopedAt S.program (way begun ++ Into ∷ along) v)
      → C.low ≤ next_cell m → Within S (calls C.here site g (argument_roots C.here roots) values m).made →
      AreFixed S C.low (next_cell m) values → Holding cells values args
      → marks_at S.marks at ≡ marks_then (marks C.here way site g (argument_roots C.here roots) values m) tm
      → ((at' : Place) (new : Store) (v : ℤ) → marks_at S.marks at' ≡ tm →
      ((c : ℕ) → c < next_cell m → new c ≡ cells c) →
      atom_value new (calls C.here site g (argument_roots C.here roots) values m).value.atom ≡ v
      → Sim S G R C n new (LinesAt at' T k) ts (v ∷ vs) vars)
      → Sim S G R C n cells (LinesAt at (joined_to (calls C.here site g (argument_roots C.here roots) values m).lines
      T) k) (Enter (way (begun_in k)) site g roots (length args) ∷ ts) (pushed args vs) vars

  -- lines of calls that do what the calls do
  pub record AreCalls (calls : Calls) (marks : CallMarks) : Type 0 where
    pub shaped : (here : Instance) (way : Way) (site function : ℕ) (roots : List Root) (values : List Value)
        (m : Made) → Shaped (calls here site function roots values m).lines
        (marks here way site function roots values m)
    pub grows : (site function : ℕ) (roots : List Root) (values : List Value) (m : Made) →
        Grows (call_of site function ∷ []) m (calls C.here site function roots values m).made
    pub adds : (site function : ℕ) (roots : List Root) (values : List Value) (m : Made) →
        Adds S C (call_of site function ∷ []) m (calls C.here site function roots values m).made
    pub fixed : (site g : ℕ) (roots : List (Option Root)) (values : List Value) (count : ℕ) (m : Made) →
        IsSoundCall S.program (function_at S.program C.function) g roots count → AreNext S C m (call_of site g ∷ [])
        → C.low ≤ next_cell m → Within S (calls C.here site g (argument_roots C.here roots) values m).made →
        IsFixed S C.low (next_cell (calls C.here site g (argument_roots C.here roots) values m).made)
        (calls C.here site g (argument_roots C.here roots) values m).value
    pub follow : CallsFollow calls marks

  module _ (under : IsUnderWay S C) (calls : Calls) (marks : CallMarks) (all : AreCalls calls marks) (scope : Scope)
      (inner : IsWithin S C scope) where
    -- a part of the scope at a leg of the way
    pub stays_at : (way : Way) (begun : List ℕ) (legs : ProgramPoint) (task : Task) (ts : List Task) →
        first_point (task ∷ ts) ≡ Some (way begun ++ legs) → ((v : Owned) → HasOwned (owned_by C.function scope) v →
        IsScopedAt S.program (way begun ++ legs) v)
        → Stays S C scope (task ∷ ts)
    stays_at way begun legs task ts e h = record {
      point = way begun ++ legs;
      stands = e;
      scoped = λ x has. h (record { function = C.function; variable = x }) (has_owned C.function scope x has);
    }

    -- behind an operand stand the other ones, or what follows all
    stays_operands : (way : Way) (begun : List ℕ) (j : ℕ) (list : Expressions) (m : Made) (ts : List Task) →
        ReadyOperands S C calls scope way j list m → Stays S C scope ts →
        Stays S C scope (each_operand (way begun) j list ts)
    stays_operands way begun j none m ts r stays = stays
    stays_operands way begun j (more e rest) m ts r stays =
        stays_at way begun (Operand j ∷ []) (Evaluate (way begun ++ Operand j ∷ []) e)
        (each_operand (way begun) (suc j) rest ts) refl
        (λ v h. r.leads begun j 0 (omega arith) [] v
        (here_in_scope (IsInBody S.program C.depth) (owned_by C.function scope) e v h))

    -- the lines of an expression do what its evaluation does
    abbrev pub ExpressionFollows : Expression → Way → Made → Type 0
    ExpressionFollows e way m =
        (n : ℕ) (T : Lines) (tm : Marks) (k : Tasks) (at : Place) (cells vars : Store) (ts : List Task) (vs : List ℤ)
        → Stays S C scope ts → marks_at S.marks at ≡ marks_then (expression_marks calls marks C.here way e m) tm →
        Same S C scope cells vars
        → Done S G R C n (next_cell m) scope T tm k cells ts vs (expression_code calls C.here e m).value
        → Sim S G R C n cells (LinesAt at (joined_to (expression_code calls C.here e m).lines T) k)
        (Evaluate (way (begun_in k)) e ∷ ts) vs vars

    -- those of operands what theirs do
    abbrev pub OperandsFollow : Expressions → Way → ℕ → Made → Type 0
    OperandsFollow list way first m =
        (n : ℕ) (T : Lines) (tm : Marks) (k : Tasks) (at : Place) (cells vars : Store) (ts : List Task) (vs : List ℤ)
        → Stays S C scope ts → marks_at S.marks at ≡ marks_then (operands_marks calls marks C.here way first list m)
        tm → Same S C scope cells vars
        → ((at' : Place) (new vars' : Store) (args : List ℤ) → length args ≡ count_of list →
        marks_at S.marks at' ≡ tm → Same S C scope new vars' →
        Kept C.here.base (behind_variables S C) None (next_cell m) cells new
        → Holding new (operands_code calls C.here list m).values args →
        Sim S G R C n new (LinesAt at' T k) ts (pushed args vs) vars')
        → Sim S G R C n cells (LinesAt at (joined_to (operands_code calls C.here list m).lines T) k)
        (each_operand (way (begun_in k)) first list ts) vs vars

    apply_follows : (action : Action) (operands : Expressions) (way : Way) (m : Made) →
        ReadyExpression S C calls scope way (Apply action operands) m → OperandsFollow operands way 0 m →
        ExpressionFollows (Apply action operands) way m
    unfolding expression_code expression_marks
    apply_follows action none way m r each n T tm k at cells vars ts vs stays e s go =
        action_follows S G R C under n scope T tm k ts vs inner stays action [] [] m
        (Evaluate (way (begun_in k)) (Apply action none)) vs way at cells vars r.sound.0 tt r.low r.within refl
        refl refl e s refl go
    apply_follows action (more a rest) way m r each n T tm k at cells vars ts vs stays e s go =
        let list = more a rest in
        let co = operands_code calls C.here list m in
        let ca = action_code C.here action co.values co.made in
        let ro = apply_operands S C calls all.grows all.adds scope way action list m r in
        let g = grows_count (calls_among list) m co.made (operands_grow S C calls all.grows all.adds list m) in
        let low = r.low in
        let finish = all_marked (further way (Own 0)) ca.lines in
        let after = Finish (way (begun_in k)) action (count_of list) in
        let stay : Stays S C scope (after ∷ ts) =
        stays_at way (begun_in k) (Own 0 ∷ []) after ts refl (λ v h. r.leads (begun_in k) (Own 0 ∷ []) v h) in
        R.task n _ _ _ refl refl
        (at_lines n cells at co.lines ca.lines T k _
        (each n (joined_to ca.lines T) (marks_then finish tm) k at cells vars (after ∷ ts) vs stay (e ∙
        marks_assoc (operands_marks calls marks C.here way 0 list m) finish tm) s
        (λ at1 new vars1 args many e1 s1 kept holds.
        action_follows S G R C under n scope T tm k ts vs inner stays action co.values args co.made after
        (pushed args vs) (further way (Own 0)) at1 new vars1 r.sound.0
        (operands_fixed S C calls all.grows all.adds all.fixed scope way 0 list m ro) (omega (arith, g, low)) r.within
        refl refl
        (ap₂ (λ y z. action_next S.program S.launch (inside S C (after ∷ ts) (pushed args vs) vars1) action y z ts)
        (taken_pushed args vs (count_of list) (sym many)) (below_pushed args vs (count_of list) (sym many) vs))
        e1 s1 holds
        (λ at2 new2 vars2 v e2 s2 kept2 h2.
        go at2 new2 vars2 v e2 s2 (kept_trans C.here.base (behind_variables S C) None (next_cell m)
        (next_cell co.made) cells new new2 g kept kept2) h2))))

    mutual
      unfolding expression_code expression_marks

      pub expression_follows : (e : Expression) (way : Way) (m : Made) → ReadyExpression S C calls scope way e m →
          ExpressionFollows e way m
      expression_follows (Apply action operands) way m r n T tm k at cells vars ts vs stays e s go =
          apply_follows action operands way m r
          (operands_follow operands way 0 m (apply_operands S C calls all.grows all.adds scope way action operands
          m r)) n T tm k at cells vars ts vs stays e s go
      expression_follows (Update site element root op of back old index value) way m r n T tm k at cells vars ts vs
          stays e s go =
          let ci = expression_code calls C.here index m in
          let c = next_cell ci.made in
          let ml = with_cell ci.made OfValue element in
          let loaded_value : Value = record { atom = CellAtom c; of = element } in
          let cv = expression_code calls C.here value ml in
          let cc = changed op of back (CellAtom c) cv.value.atom cv.made in
          let ri =
          update_index S C calls all.grows all.adds scope way site element root op of back old index value m r in
          let rv =
          update_value S C calls all.grows all.adds scope way site element root op of back old index value m r in
          let gi = grows_count (calls_in index) m ci.made (expression_grows S C calls all.grows all.adds index m) in
          let gw = next_with ci.made OfValue element in
          let gv = grows_count (calls_in value) ml cv.made (expression_grows S C calls all.grows all.adds value ml) in
          let low = r.low in
          let le = under.below in
          let last_lines = joined_to cc.lines (stored site element (root_in C.here root) ci.value.atom cc.value.atom) in
          let wl : Within S ml = within_less S (calls_in value) ml cv.made
          (expression_grows S C calls all.grows all.adds value ml) rv.within in
          let fi = expression_fixed S C calls all.grows all.adds all.fixed scope (further way (Operand 0)) index m ri in
          let fv =
          expression_fixed S C calls all.grows all.adds all.fixed scope (further way (Operand 1)) value ml rv in
          let fl : IsFixed S C.low (next_cell ml) loaded_value =
          value_fixed S C.low ci.made element (omega (arith, gi, low)) wl in
          let marks_i = expression_marks calls marks C.here (further way (Operand 0)) index m in
          let marks_v = expression_marks calls marks C.here (further way (Operand 1)) value ml in
          let marks_last = all_marked (further way (Own 1)) last_lines in
          let at0 = way (begun_in k) in
          let alter = Alter at0 site element root op of back old in
          let then_value = Evaluate (at0 ++ Operand 1 ∷ []) value in
          let peek = Peek at0 site element root in
          let base = C.here.base in
          let behind = behind_variables S C in
          R.task n _ _ _ refl refl
          (at_lines n cells at ci.lines (joined_to (LoadThen site c element (root_in C.here root) ci.value.atom
          NoLine) (joined_to cv.lines last_lines)) T k _
          (expression_follows index (further way (Operand 0)) m ri n (LoadThen site c element (root_in C.here root)
          ci.value.atom (joined_to (joined_to cv.lines last_lines) T))
          (MarkThen (further way (Own 0)) (marks_then (marks_then marks_v marks_last) tm)) k at cells vars
          (peek ∷ then_value ∷ alter ∷ ts) vs
          (stays_at way (begun_in k) (Own 0 ∷ []) peek (then_value ∷ alter ∷ ts) refl
          (λ v h. r.leads (begun_in k) (Own 0 ∷ []) v h)) (e ∙
          marks_assoc marks_i (MarkThen (further way (Own 0)) (marks_then marks_v marks_last)) tm) s
          (λ at1 c1 vars1 vi e1 s1 kept1 h1.
          let i1 =
          kernel_item S c1 (LinesAt at1 (LoadThen site c element (root_in C.here root) ci.value.atom
          (joined_to (joined_to cv.lines last_lines) T)) k) in
          let j1 = inside S C (peek ∷ then_value ∷ alter ∷ ts) (vi ∷ vs) vars1 in
          let same : access_at S.kernel S.launch i1 element (root_in C.here root) (atom_value c1 ci.value.atom) ≡
          program_access S.program S.launch j1 element root vi =
          ap₂ (λ y z. let a : Access = record { object = y; size = size_of element; index = z } in
          a) (under.roots root r.sound.0.0 element r.sound.0.1) h1 in
          R.loads n i1 j1 site _ (λ bytes. kernel_item S (updated c1 c (value_of_bytes element bytes))
          (LinesAt (Behind ∷ at1) (joined_to (joined_to cv.lines last_lines) T) k))
          (λ bytes. inside S C (then_value ∷ alter ∷ ts) (value_of_bytes element bytes ∷ vi ∷ vs) vars1)
          (plain_facts S i1 j1 (record {
            reads_none = fixed_plain S C.low (next_cell ci.made) ci.value fi;
            sets_none = λ v d is. apart_cell S c
                (made_no_variable S c element (value_made S ci.made element wl)) v d is;
          }))
          refl (ap (λ z. Loads site z (λ bytes. inside S C (then_value ∷ alter ∷ ts) (value_of_bytes element bytes ∷
          vi ∷ vs) vars1)) (sym same))
          (λ bytes.
          let vo = value_of_bytes element bytes in
          let c2 = updated c1 c vo in
          let kept2 = kept_set base behind None c c1 c vo (omega arith) in
          let s2 = same_set S C scope c1 vars1 c vo inner (omega (arith, le, low, gi)) s1 in
          let h2 : atom_value c2 ci.value.atom ≡ vi =
          fixed_kept S base behind C.low c ci.value c1 c2 le fi kept2 ∙ h1 in
          at_lines n c2 (Behind ∷ at1) cv.lines last_lines T k _
          (expression_follows value (further way (Operand 1)) ml rv n (joined_to last_lines T)
          (marks_then marks_last tm) k (Behind ∷ at1) c2 vars1 (alter ∷ ts) (vo ∷ vi ∷ vs)
          (stays_at way (begun_in k) (Own 1 ∷ []) alter ts refl (λ v h. r.leads (begun_in k) (Own 1 ∷ []) v h))
          (ap marks_behind e1 ∙ marks_assoc marks_v marks_last tm) s2
          (λ at3 c3 vars3 vv e3 s3 kept3 h3.
          let h4 : atom_value c3 ci.value.atom ≡ vi =
          fixed_kept S base behind C.low (next_cell ml) ci.value c2 c3 le
          (fixed_more S C.low c (next_cell ml) ci.value (omega (arith, gw)) fi) kept3 ∙ h2 in
          let h5 : c3 c ≡ vo =
          fixed_kept S base behind C.low (next_cell ml) loaded_value c2 c3 le fl kept3 ∙ updated_same c1 c vo in
          changed_follows S G R C op of back loaded_value cv.value cv.made n
          (StoreThen site element (root_in C.here root) ci.value.atom cc.value.atom T) (further way (Own 1))
          (MarkThen (further way (Own 1)) tm) k at3 c3 (inside S C (alter ∷ ts) (vv ∷ vo ∷ vi ∷ vs) vars3)
          (omega (arith, gi, gw, gv, low)) (fixed_more S C.low (next_cell ml) (next_cell cv.made) loaded_value gv fl)
          fv r.within e3
          (λ at4 c4 e4 kept4 holds4 keep4.
          let w = atom_value c4 cc.value.atom in
          let is : w ≡ program_changed op of back vo vv = holds4 ∙ ap₂ (λ y z. program_changed op of back y z) h5 h3 in
          let h6 : atom_value c4 ci.value.atom ≡ vi =
          fixed_kept S base behind C.low (next_cell cv.made) ci.value c3 c4 le
          (fixed_more S C.low c (next_cell cv.made) ci.value (omega (arith, gw, gv)) fi) kept4 ∙ h4 in
          let h7 : c4 c ≡ vo = fixed_kept S base behind C.low (next_cell cv.made) loaded_value c3 c4 le
          (fixed_more S C.low (next_cell ml) (next_cell cv.made) loaded_value gv fl) kept4 ∙ h5 in
          let i4 =
          kernel_item S c4 (LinesAt at4 (StoreThen site element (root_in C.here root) ci.value.atom cc.value.atom
          T) k) in
          let j4 = inside S C (alter ∷ ts) (vv ∷ vo ∷ vi ∷ vs) vars3 in
          let fc = changed_fixed S C.low op of back (CellAtom c) cv.value.atom cv.made (omega (
            arith,
            gi,
            gw,
            gv,
            low,
          )) r.within in
          let v = if old then vo else w in
          R.stores n i4 (kernel_item S c4 (LinesAt (Behind ∷ at4) T k)) j4 (inside S C ts (v ∷ vs) vars3) site
          (program_object S.program S.launch j4 root) vi (bytes_of element w)
          (plain_facts S i4 j4 (record {
            reads_none = λ u d is4.
                ap₂ (λ y z. y || z) (fixed_plain S C.low (next_cell ci.made) ci.value fi u d is4)
                (fixed_plain S C.low (next_cell cc.made) cc.value fc u d is4);
            sets_none = λ u d is4. refl;
          }))
          (ap₂ (λ y z. Stores site y z (bytes_of element w) (kernel_item S c4 (LinesAt (Behind ∷ at4) T k)))
          (under.roots root r.sound.0.0 element r.sound.0.1) h6)
          (ap (λ z. Stores site (program_object S.program S.launch j4 root) vi (bytes_of element z)
          (inside S C ts ((if old then vo else z) ∷ vs) vars3)) (sym is))
          (go (Behind ∷ at4) c4 vars3 v (ap marks_behind e4) (keep4 scope vars3 inner le s3)
          (kept_trans base behind None (next_cell m) (next_cell cv.made) cells c3 c4 (omega (arith, gi, gw, gv))
          (kept_trans base behind None (next_cell m) (next_cell ml) cells c2 c3 (omega (arith, gi, gw))
          (kept_trans base behind None (next_cell m) c cells c1 c2 gi kept1 kept2) kept3) kept4)
          (either_holds old c4 loaded_value cc.value vo w h7 refl)))))))))
      expression_follows (Choose site test chosen other) way m r n T tm k at cells vars ts vs stays e s go =
          let ct = expression_code calls C.here test m in
          let cy = expression_code calls C.here chosen ct.made in
          let cn = expression_code calls C.here other cy.made in
          let to = next_cell cn.made in
          let rt = choose_test S C calls all.grows all.adds scope way site test chosen other m r in
          let ry = choose_chosen S C calls all.grows all.adds scope way site test chosen other m r in
          let rn = choose_other S C calls all.grows all.adds scope way site test chosen other m r in
          let gt = grows_count (calls_in test) m ct.made (expression_grows S C calls all.grows all.adds test m) in
          let gy = grows_count (calls_in chosen) ct.made cy.made (expression_grows S C calls all.grows all.adds chosen
          ct.made) in
          let gn = grows_count (calls_in other) cy.made cn.made (expression_grows S C calls all.grows all.adds other
          cy.made) in
          let low = r.low in
          let le = under.below in
          let base = C.here.base in
          let behind = behind_variables S C in
          let ft = expression_fixed S C calls all.grows all.adds all.fixed scope (further way Tested) test m rt in
          let fy =
          expression_fixed S C calls all.grows all.adds all.fixed scope (further way Chosen) chosen ct.made ry in
          let fn = expression_fixed S C calls all.grows all.adds all.fixed scope (further way Other) other cy.made rn in
          let none = made_no_variable S to cy.value.of (value_made S cn.made cy.value.of r.within) in
          let at0 = way (begun_in k) in
          let decide = Decide at0 chosen other in
          let lines_y = joined_to cy.lines (set_to to cy.value.atom) in
          let lines_n = joined_to cn.lines (set_to to cn.value.atom) in
          let marks_t = expression_marks calls marks C.here (further way Tested) test m in
          let marks_y = marks_then (expression_marks calls marks C.here (further way Chosen) chosen ct.made)
          (MarkThen way NoMark) in
          let marks_n = marks_then (expression_marks calls marks C.here (further way Other) other cy.made)
          (MarkThen way NoMark) in
          R.task n _ _ _ refl refl
          (at_lines n cells at ct.lines (IfThen site ct.value.atom lines_y lines_n NoLine) T k _
          (expression_follows test (further way Tested) m rt n (IfThen site ct.value.atom lines_y lines_n T)
          (FormThen (further way (Own 0)) marks_y marks_n tm) k at cells vars (decide ∷ ts) vs
          (stays_at way (begun_in k) (Own 0 ∷ []) decide ts refl (λ v h. r.leads (begun_in k) (Own 0 ∷ []) v h)) (e ∙
          marks_assoc marks_t (FormThen (further way (Own 0)) marks_y marks_n NoMark) tm) s
          (λ at1 c1 vars1 v e1 s1 kept1 h1.
          let i1 = kernel_item S c1 (LinesAt at1 (IfThen site ct.value.atom lines_y lines_n T) k) in
          let tail = LinesAt (Behind ∷ at1) T k in
          let branch : Test → ProgramItem =
          λ b. inside S C ((if b then Evaluate (at0 ++ Other ∷ []) other else Evaluate (at0 ++ Chosen ∷ [])
          chosen) ∷ ts) vs vars1 in
          -- each branch sets the new cell last
          let finish : (high : ℕ) (value : Value) → next_cell m ≤ high → high ≤ to → PlainAtom S value.atom →
          (at2 : Place) (c2 vars2 : Store) (w : ℤ) → Same S C scope c2 vars2 → Kept base behind None high c1 c2 →
          atom_value c2 value.atom ≡ w
          → Sim S G R C n c2 (LinesAt at2 (set_to to value.atom) tail) ts (w ∷ vs) vars2 =
          λ high value more_ less plain at2 c2 vars2 w s2 kept2 h2.
          let got = atom_value c2 value.atom in
          let c3 = updated c2 to got in
          value_line S G R C n c2 at2 to (Copy value.atom) NoLine tail _ none plain
          (end_line S G R C n c3 (Behind ∷ at2) tail _
          (go (Behind ∷ at1) c3 vars2 w (ap marks_behind e1) (same_set S C scope c2 vars2 to got inner (omega (
            arith,
            le,
            low,
            gt,
            gy,
            gn,
          )) s2)
          (kept_trans base behind None (next_cell m) high cells c2 c3 more_
          (kept_trans base behind None (next_cell m) high cells c1 c2 more_ kept1 kept2)
          (kept_set base behind None high c2 to got less))
          (updated_same c2 to got ∙ h2))) in
          R.test n c1 at1 site ct.value.atom lines_y lines_n T k (decide ∷ ts) v vs _ (λ z. branch (is_zero z))
          (plain_facts S i1 _ (record {
            reads_none = fixed_plain S C.low (next_cell ct.made) ct.value ft;
            sets_none = λ u d is. refl;
          })) refl h1 (λ z. refl)
          (λ z. (elim (is_zero z) as (λ b.
          G n (kernel_item S c1 (if b then LinesAt (IntoOther ∷ at1) lines_n tail else LinesAt (IntoChosen ∷
          at1) lines_y tail)) (branch b)) [
            | true ↦ expression_follows other (further way Other) cy.made rn n (set_to to cn.value.atom)
                (MarkThen way NoMark) tail (IntoOther ∷ at1) c1 vars1 ts vs stays (ap marks_two e1) s1
                (λ at2 c2 vars2 w e2 s2 kept2 h2. finish (next_cell cy.made) cn.value (omega (arith, gt, gy)) gn
                (fixed_plain S C.low (next_cell cn.made) cn.value fn) at2 c2 vars2 w s2 kept2 h2)
            | false ↦ expression_follows chosen (further way Chosen) ct.made ry n (set_to to cy.value.atom)
                (MarkThen way NoMark) tail (IntoChosen ∷ at1) c1 vars1 ts vs stays (ap marks_one e1) s1
                (λ at2 c2 vars2 w e2 s2 kept2 h2. finish (next_cell ct.made) cy.value gt (omega (arith, gy, gn))
                (fixed_plain S C.low (next_cell cy.made) cy.value fy) at2 c2 vars2 w s2 kept2 h2)
          ])))))
      expression_follows (Call site g roots arguments) way m r n T tm k at cells vars ts vs stays e s go =
          let ca = operands_code calls C.here arguments m in
          let cc = calls C.here site g (argument_roots C.here roots) ca.values ca.made in
          let ra = call_arguments S C calls all.grows all.adds scope way site g roots arguments m r in
          let grown =
          grows_count (calls_among arguments) m ca.made (operands_grow S C calls all.grows all.adds arguments m) in
          let low = r.low in
          let here = marks C.here way site g (argument_roots C.here roots) ca.values ca.made in
          let after = Enter (way (begun_in k)) site g roots (count_of arguments) in
          let stay : Stays S C scope (after ∷ ts) =
          stays_at way (begun_in k) (Own 0 ∷ []) after ts refl (λ v h. r.leads (begun_in k) (Own 0 ∷ []) v h) in
          R.task n _ _ _ refl refl
          (at_lines n cells at ca.lines cc.lines T k _
          (operands_follow arguments way 0 m ra n (joined_to cc.lines T) (marks_then here tm) k at cells vars
          (after ∷ ts) vs stay (e ∙ marks_assoc (operands_marks calls marks C.here way 0 arguments m) here tm) s
          (λ at1 new vars1 args many e1 s1 kept holds.
          subst (λ z. Sim S G R C n new (LinesAt at1 (joined_to cc.lines T) k)
          (Enter (way (begun_in k)) site g roots z ∷ ts) (pushed args vs) vars1) many
          (all.follow site g roots ca.values args ca.made way n T tm k at1 new vars1 ts vs
          (subst (λ z. IsSoundCall S.program (function_at S.program C.function) g roots z) (sym many) r.sound.0)
          (next_right S C m ca.made (calls_among arguments) (call_of site g ∷ []) r.next
          (operands_add S C calls all.grows all.adds arguments m))
          (λ begun along v h. r.leads begun (Into ∷ along) v (inr h)) (omega (arith, grown, low)) r.within
          (operands_fixed S C calls all.grows all.adds all.fixed scope way 0 arguments m ra) holds e1
          (λ at2 new2 v e2 k2 h2. go at2 new2 vars1 v e2 (record {
            each = λ x has. let b = inner x has in
                let u = under.below in k2 (C.here.base + x) (omega (arith, b, u, grown, low)) ∙ s1.each x has;
          })
          (kept_trans C.here.base (behind_variables S C) None (next_cell m) (next_cell ca.made) cells new new2 grown
          kept (record { each = λ c l u. k2 c u })) h2)))))

      pub operands_follow : (list : Expressions) (way : Way) (first : ℕ) (m : Made) →
          ReadyOperands S C calls scope way first list m → OperandsFollow list way first m
      operands_follow none way first m r n T tm k at cells vars ts vs stays e s go =
          go at cells vars [] refl e s (kept_refl C.here.base (behind_variables S C) None (next_cell m) cells) refl
      operands_follow (more a rest) way first m r n T tm k at cells vars ts vs stays e s go =
          let ce = expression_code calls C.here a m in
          let cr = operands_code calls C.here rest ce.made in
          let re = operands_first S C calls all.grows all.adds scope way first a rest m r in
          let rr = operands_rest S C calls all.grows all.adds scope way first a rest m r in
          let g = grows_count (calls_in a) m ce.made (expression_grows S C calls all.grows all.adds a m) in
          let low = r.low in
          let one = expression_marks calls marks C.here (further way (Operand first)) a m in
          let two = operands_marks calls marks C.here way (suc first) rest ce.made in
          let fixed =
          expression_fixed S C calls all.grows all.adds all.fixed scope (further way (Operand first)) a m re in
          at_lines n cells at ce.lines cr.lines T k _
          (expression_follows a (further way (Operand first)) m re n (joined_to cr.lines T) (marks_then two tm) k at
          cells vars (each_operand (way (begun_in k)) (suc first) rest ts) vs
          (stays_operands way (begun_in k) (suc first) rest ce.made ts rr stays) (e ∙ marks_assoc one two tm) s
          (λ at1 new vars1 v e1 s1 kept1 h1.
          operands_follow rest way (suc first) ce.made rr n T tm k at1 new vars1 ts (v ∷ vs) stays e1 s1
          (λ at2 new2 vars2 args many e2 s2 kept2 h2.
          go at2 new2 vars2 (v ∷ args) (ap suc many) e2 s2 (kept_trans C.here.base (behind_variables S C) None
          (next_cell m) (next_cell ce.made) cells new new2 g kept1 kept2)
          (ap₂ (λ y z. y ∷ z) (fixed_kept S C.here.base (behind_variables S C) C.low (next_cell ce.made) ce.value new
          new2 under.below fixed kept2 ∙ h1) h2))))
