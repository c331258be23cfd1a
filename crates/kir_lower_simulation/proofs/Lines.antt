-- Single lines of the kernel, by their kinds: each goes back along its step.
use Rattle.std.proofs.Common.{◌≡◌, ℕ, ◌+◌, ℤ, List, [], ◌∷◌, ◌++◌, Some, refl, sym, ap, ◌∙◌, subst, true, false}
use Rattle.std.proofs.Common.{if◌then◌else◌, eq-eqb, ne_eqb}
use Rattle.std.proofs.Common.{Bool as Test}
use Rattle.std.specs.Prelude.{nat_eq, ◌&&◌}
use Rattle.std.proofs.lemmas.Bool.{eqb-true, true≢false}
use Rattle.std.proofs.lemmas.Option.{none-some, same_Some}
use Rattle.work_items.specs.Memory.{Access}
use Rattle.work_items.specs.Items.{Next, Ends, Waits, Goes, Begins, Loads, Stores}
use Rattle.work_items.specs.Histories.{Deed, Passed, Turned, Read, Wrote, DoesOnce}
use Rattle.work_items.specs.Coming.{MayLead}
use Rattle.cl_model.specs.Agreement.{IsScopedAt}
use Rattle.cl_model.specs.Meaning.{is_test, lengths_of, MayBeTold}
use Rattle.cl_model.specs.Objects.{same_path}
use Rattle.cl_model.specs.Task.{Task, Item as ProgramItem, Point as ProgramPoint, first_point}
use Rattle.cl_model.specs.Values.{is_zero}
use Rattle.cl_model.specs.Steps.{item_next as program_next, first_next}
use Rattle.kir.specs.declared.line.Atom.{Atom}
use Rattle.kir.specs.declared.line.Atom.TheVariants.{Cell as CellAtom}
use Rattle.kir.specs.Tree.{Variable, Work, Copy, Lines, NoLine, SetThen, IfThen, OfVariable, OfFlag, OfValue}
use Rattle.kir.specs.Tree.{CellKind, Cell}
use Rattle.kir.specs.Places.{Behind, IntoChosen, IntoOther, Place, Point, Tasks, LinesAt, begun_in}
use Rattle.kir.specs.Steps.{shell_of, Item, atom_value, work_value, item_next}
use Rattle.kir.specs.Live.{reads, work_reads, tasks_read, tasks_set}
use Rattle.kir.specs.Homes.{IsCellOf, IsOf}
use Rattle.kir.specs.Matching.{StandsAlike, StepsTo, ComesNext, arrives, passes, ComesToScope, IsInScope, value_in}
use Rattle.kir_lower_shape.specs.Marks.{Way, Marks, MarkThen, marks_at, first_way, point_marked}
use Rattle.kir.specs.Meaning.{GoesOn}
use Rattle.kir_lower_simulation.specs.Nodes.{AreInPlace}
use Rattle.kir_lower_simulation.proofs.Standing.{lead_keeps}
use Rattle.kir_lower_simulation.proofs.Parting.{step_leads}
use Rattle.kir_lower_simulation.specs.Setting.{Setting, Store, updated, kernel_item, Activation, frame, inside}
use Rattle.kir_lower_simulation.specs.Setting.{own_variable}
use Rattle.kir_lower_simulation.specs.Facts.{Facts, Rules}

-- ---- lines that read and set no variable's cell

-- the cell is no variable's
abbrev pub NoVariable : Setting → ℕ → Type 0
NoVariable S c = (v : Variable) → IsCellOf S.kernel v c → ⊥

-- the atom is none
abbrev pub PlainAtom : Setting → Atom → Type 0
PlainAtom S a = (v : Variable) (c : ℕ) → IsCellOf S.kernel v c → reads c a ≡ false

-- what is computed reads none
abbrev pub PlainWork : Setting → Work → Type 0
PlainWork S work = (v : Variable) (c : ℕ) → IsCellOf S.kernel v c → work_reads c work ≡ false

-- what is left to do reads and sets none first
pub record IsPlain (S : Setting) (k : Tasks) : Type 0 where
  pub reads_none : (v : Variable) (c : ℕ) → IsCellOf S.kernel v c → tasks_read c k ≡ false
  pub sets_none : (v : Variable) (c : ℕ) → IsCellOf S.kernel v c → tasks_set c k ≡ false

not_both : (b : Test) → b ≡ true → b ≡ false → ⊥
not_both b t f = true≢false (sym t ∙ f)

pub plain_facts : (S : Setting) (i : Item) (j : ProgramItem) → IsPlain S i.tasks → Facts S i j
plain_facts S i j p = record {
  reads_alike = λ v c is r. absurd (not_both (tasks_read c i.tasks) r (p.reads_none v c is));
  reads_value = λ v c is r. absurd (not_both (tasks_read c i.tasks) r (p.reads_none v c is));
  sets_alike = λ v c is r. absurd (not_both (tasks_set c i.tasks) r (p.sets_none v c is));
  sets_value = λ v c is r placed done more i' j' s t. absurd (not_both (tasks_set c i.tasks) r (p.sets_none v c is));
}

-- another cell
pub apart_cell : (S : Setting) (to : ℕ) → NoVariable S to → (v : Variable) (c : ℕ) → IsCellOf S.kernel v c →
    nat_eq c to ≡ false
apart_cell S to h v c is = ne_eqb c to (λ e. h v (subst (λ z. IsCellOf S.kernel v z) e is))

-- a variable has no cell of another
pub same_variable : (S : Setting) (v w : Variable) (c : ℕ) → IsCellOf S.kernel v c → IsCellOf S.kernel w c → v ≡ w
same_variable S v w c a b =
    let e : a.cell ≡ b.cell = same_Some a.cell b.cell (sym a.there ∙ b.there) in
    by_kind b.cell.kind (subst (λ (z : Cell). IsOf v z.kind) e a.is_of) b.is_of
  where
    by_kind : (kind : CellKind) → IsOf v kind → IsOf w kind → v ≡ w
    by_kind (OfVariable u path name) p q = sym p ∙ q
    by_kind OfFlag p q = absurd p
    by_kind OfValue p q = absurd p

-- ---- where the item of the program stands

pub stands_alike : (S : Setting) (cells : Store) (at : Place) (lines : Lines) (k : Tasks) (way : Way) (more : Marks)
    (j : ProgramItem) → marks_at S.marks at ≡ MarkThen way more → first_point j.tasks ≡ Some (way (begun_in k))
    → StandsAlike (point_marked S.marks) (kernel_item S cells (LinesAt at lines k)) j
stands_alike S cells at lines k way more j e f point is =
    f ∙ ap (λ z. Some (first_way z (begun_in k))) (sym e) ∙
    ap (λ (p : Point). Some (point_marked S.marks p)) (same_Some (record { at = at; begun = begun_in k }) point is)

-- ---- the variable that a line sets

-- the next state that is so is so
comes_here : {X : Type 0} {lengths : ℕ → ℕ} {told : Access → List ℕ → Type 0} {next : X → Next X} (Here : X →
    Type 0) {s t : X} {deeds : List Deed} → ComesNext lengths told next Here s deeds t → Here t
comes_here Here (arrives st h) = h
comes_here Here (passes deeds more st not_yet c) = comes_here Here c

goes_to : {X : Type 0} (a b : X) → Goes a ≡ Goes b → a ≡ b
goes_to a b e = cc

-- a step that goes on is the only one
one_step : {X : Type 0} (lengths : ℕ → ℕ) (told : Access → List ℕ → Type 0) (next : Next X) (deeds : List Deed)
    (a b : X) → next ≡ Goes a → StepsTo lengths told next deeds b → a ≡ b
one_step lengths told next [] a b e s = goes_to a b (sym e ∙ s)
one_step lengths told next (d ∷ []) a b e s = absurd (subst (λ z. DoesOnce lengths told z d b) e s)
one_step lengths told next (d ∷ (d' ∷ ds)) a b e s = absurd s

-- the item comes to the scope at once, or never, or has ended
pub data Comes (S : Setting) (v : Variable) (j : ProgramItem) : Type 0 where
  at_once : IsInScope S.program v j → Comes S v j
  never : ((j' : ProgramItem) (point : ProgramPoint) → AreInPlace S.program j'.tasks →
      first_point j'.tasks ≡ Some point →
      IsScopedAt S.program point (record { function = v.function; variable = v.number }) → ⊥) → Comes S v j
  -- it has nothing to do there
  over : j.tasks ≡ [] → Comes S v j

-- a step leaves the tasks in place
step_in_place : (S : Setting) (j j' : ProgramItem) → MayLead GoesOn (program_next S.program S.launch j) j' →
    AreInPlace S.program j.tasks → AreInPlace S.program j'.tasks
step_in_place S j j' h placed =
    lead_keeps S.program j.tasks j'.tasks (step_leads S.program S.launch GoesOn j' j j.tasks h) placed

-- one deed is a step
deed_leads : {X : Type 0} (lengths : ℕ → ℕ) (told : Access → List ℕ → Type 0) (next : Next X) (deed : Deed) (to : X) →
    DoesOnce lengths told next deed to → MayLead GoesOn next to
deed_leads lengths told (Waits site after) Passed to d = d
deed_leads lengths told (Begins after) Turned to d = d
deed_leads lengths told (Loads site access after) (Read at read bytes) to d = (tt, (bytes, d.4))
deed_leads lengths told (Stores site object index bytes after) (Wrote at object' index' bytes') to d = (tt, d.5)
deed_leads lengths told Ends deed to d = absurd d
deed_leads lengths told (Goes after) deed to d = absurd d
deed_leads lengths told (Waits site after) Turned to d = absurd d
deed_leads lengths told (Waits site after) (Read at read bytes) to d = absurd d
deed_leads lengths told (Waits site after) (Wrote at object' index' bytes') to d = absurd d
deed_leads lengths told (Begins after) Passed to d = absurd d
deed_leads lengths told (Begins after) (Read at read bytes) to d = absurd d
deed_leads lengths told (Begins after) (Wrote at object' index' bytes') to d = absurd d
deed_leads lengths told (Loads site access after) Passed to d = absurd d
deed_leads lengths told (Loads site access after) Turned to d = absurd d
deed_leads lengths told (Loads site access after) (Wrote at object' index' bytes') to d = absurd d
deed_leads lengths told (Stores site object index bytes after) Passed to d = absurd d
deed_leads lengths told (Stores site object index bytes after) Turned to d = absurd d
deed_leads lengths told (Stores site object index bytes after) (Read at read bytes') to d = absurd d

steps_lead : {X : Type 0} (lengths : ℕ → ℕ) (told : Access → List ℕ → Type 0) (next : Next X) (deeds : List Deed)
    (to : X) → StepsTo lengths told next deeds to → MayLead GoesOn next to
steps_lead lengths told next [] to s = subst (λ z. MayLead GoesOn z to) (sym s) refl
steps_lead lengths told next (d ∷ []) to s = deed_leads lengths told next d to s
steps_lead lengths told next (d ∷ (d' ∷ ds)) to s = absurd s

-- the state in scope to which the item comes has its tasks in place
comes_in_place : (S : Setting) (v : Variable) (j : ProgramItem) (deeds : List Deed) (j' : ProgramItem) →
    ComesToScope S.program S.launch S.buffers v j deeds j' → AreInPlace S.program j.tasks →
    AreInPlace S.program j'.tasks
comes_in_place S v j _ j' (arrives {deeds = deeds} st h) placed =
    step_in_place S j j' (steps_lead _ _ _ deeds j' st) placed
comes_in_place S v j _ j' (passes {mid = mid} deeds more st not_yet c) placed =
    comes_in_place S v mid more j' c (step_in_place S j mid (steps_lead _ _ _ deeds mid st) placed)

-- a step that ends leads nowhere
no_step : {X : Type 0} (lengths : ℕ → ℕ) (told : Access → List ℕ → Type 0) (next : Next X) (deeds : List Deed)
    (to : X) → next ≡ Ends → StepsTo lengths told next deeds to → ⊥
no_step lengths told next [] to e s = ends_not_goes to (sym e ∙ s)
  where
    ends_not_goes : {X : Type 0} (to : X) → Ends ≡ Goes to → ⊥
    ends_not_goes to e = cc
no_step lengths told next (d ∷ []) to e s = subst (λ z. DoesOnce lengths told z d to) e s
no_step lengths told next (d ∷ (d' ∷ ds)) to e s = s

-- an item that has ended comes to no scope
ended_comes : (S : Setting) (v : Variable) (j : ProgramItem) (deeds : List Deed) (j' : ProgramItem) →
    program_next S.program S.launch j ≡ Ends → ComesToScope S.program S.launch S.buffers v j deeds j' → ⊥
ended_comes S v j _ j' e (arrives {deeds = deeds} st h) = no_step _ _ _ deeds j' e st
ended_comes S v j _ j' e (passes {mid = mid} deeds more st not_yet c) = no_step _ _ _ deeds mid e st

-- and stands nowhere
over_scope : (S : Setting) (v : Variable) (j : ProgramItem) → j.tasks ≡ [] → IsInScope S.program v j → ⊥
over_scope S v j e s = none-some s.point (ap first_point (sym e) ∙ s.stands)

-- so the next value there is that of the next state
pub next_value : (S : Setting) (v : Variable) (j j1 : ProgramItem) (w : ℤ) →
    program_next S.program S.launch j ≡ Goes j1 → Comes S v j1 → value_in j1.frames v ≡ Some w
    → AreInPlace S.program j.tasks → (deeds : List Deed) (j' : ProgramItem) →
    ComesToScope S.program S.launch S.buffers v j deeds j' → value_in j'.frames v ≡ Some w
next_value S v j j1 w e (never none) here placed deeds j' c = let s = comes_here (IsInScope S.program v) c in
    absurd (none j' s.point (comes_in_place S v j deeds j' c placed) s.stands s.scoped)
next_value S v j j1 w e (over none) here placed _ j' (arrives {deeds = deeds} st h) =
    absurd (over_scope S v j' (ap (λ (z : ProgramItem). z.tasks) (sym (one_step _ _ _ deeds j1 j' e st)) ∙ none) h)
next_value S v j j1 w e (over none) here placed _ j' (passes {mid = mid} deeds more st not_yet c) =
    absurd (ended_comes S v mid more j' (ap (λ ts. first_next S.program S.launch mid ts)
    (ap (λ (z : ProgramItem). z.tasks) (sym (one_step _ _ _ deeds j1 mid e st)) ∙ none)) c)
next_value S v j j1 w e (at_once scoped) here placed _ j' (arrives {deeds = deeds} st h) =
    subst (λ (z : ProgramItem). value_in z.frames v ≡ Some w) (one_step _ _ _ deeds j1 j' e st) here
next_value S v j j1 w e (at_once scoped) here placed _ j' (passes {mid = mid} deeds more st not_yet c) =
    absurd (not_yet (subst (IsInScope S.program v) (one_step _ _ _ deeds j1 mid e st) scoped))

-- ---- frames

-- a path is itself
pub same_path_self : (xs : List ℕ) → same_path xs xs ≡ true
same_path_self [] = refl
same_path_self (x ∷ xs) = ap (λ b. b && same_path xs xs) (eq-eqb x x refl) ∙ same_path_self xs

-- what the function's own variable holds
pub own_value : (S : Setting) (C : Activation) (vars : Store) (x : ℕ) →
    value_in (frame C vars ∷ C.outer) (own_variable C x) ≡ Some (vars x)
own_value S C vars x =
    ap (λ b. if b && nat_eq C.function C.function then Some (vars x) else value_in C.outer (own_variable C x))
    (same_path_self C.here.calls)
    ∙ ap (λ b. if b then Some (vars x) else value_in C.outer (own_variable C x)) (eq-eqb C.function C.function refl)

pub updated_same : (held : Store) (x : ℕ) (v : ℤ) → updated held x v x ≡ v
updated_same held x v = ap (λ b. if b then v else held x) (eq-eqb x x refl)

pub updated_other : (held : Store) (x : ℕ) (v : ℤ) (y : ℕ) → (x ≡ y → ⊥) → updated held x v y ≡ held y
updated_other held x v y h = ap (λ b. if b then v else held y) (ne_eqb x y h)

module _ (S : Setting) (G : ℕ → Item → ProgramItem → Type 0) (R : Rules S G) (C : Activation) where
  -- for so many moves of the kernel's item, in these cells with this left to do, the program's follows with these
  -- tasks, values and variables
  abbrev pub Sim : ℕ → Store → Tasks → List Task → List ℤ → Store → Type 0
  Sim n cells k ts vs vars = G n (kernel_item S cells k) (inside S C ts vs vars)

  -- at the end of lines
  pub end_line : (n : ℕ) (cells : Store) (at : Place) (k : Tasks) (j : ProgramItem) → G n (kernel_item S cells k) j →
      G n (kernel_item S cells (LinesAt at NoLine k)) j
  end_line n cells at k j g =
      R.line n _ _ j (plain_facts S _ j (record { reads_none = λ v c is. refl; sets_none = λ v c is. refl })) refl g

  -- a cell that is no variable's is set
  pub value_line : (n : ℕ) (cells : Store) (at : Place) (to : ℕ) (work : Work) (rest : Lines) (k : Tasks)
      (j : ProgramItem) → NoVariable S to → PlainWork S work
      →
      G n (kernel_item S (updated cells to
      (work_value S.launch (kernel_item S cells (LinesAt at (SetThen to work rest) k)) work))
      (LinesAt (Behind ∷ at) rest k)) j
      → G n (kernel_item S cells (LinesAt at (SetThen to work rest) k)) j
  value_line n cells at to work rest k j none plain g =
      R.line n _ _ j (plain_facts S _ j (record {
        reads_none = plain;
        sets_none = λ v c is. apart_cell S to none v c is;
      })) refl g

  -- an if whose test is known
  pub if_line : (n : ℕ) (cells : Store) (at : Place) (site : ℕ) (test : Atom) (chosen other rest : Lines) (k : Tasks)
      (j : ProgramItem) (b : Test) → PlainAtom S test → is_zero (atom_value cells test) ≡ b
      → G n (kernel_item S cells (if b then LinesAt (IntoOther ∷ at) other (LinesAt (Behind ∷ at) rest k) else LinesAt
      (IntoChosen ∷ at) chosen (LinesAt (Behind ∷ at) rest k))) j
      → G n (kernel_item S cells (LinesAt at (IfThen site test chosen other rest) k)) j
  if_line n cells at site test chosen other rest k j b plain e g =
      R.line n _ _ j (plain_facts S _ j (record { reads_none = plain; sets_none = λ v c is. refl }))
      (ap (λ z. Goes (kernel_item S cells (if z then LinesAt (IntoOther ∷ at) other (LinesAt (Behind ∷ at) rest k)
      else LinesAt (IntoChosen ∷ at) chosen (LinesAt (Behind ∷ at) rest k)))) e) g

  -- a variable is copied, where the program's item stands at the mark
  pub read_line : (n : ℕ) (cells : Store) (at : Place) (to x : ℕ) (rest : Lines) (k : Tasks) (ts : List Task)
      (vs : List ℤ) (vars : Store) (way : Way) (more : Marks) → NoVariable S to
      → IsCellOf S.kernel (own_variable C x) (C.here.base + x) → cells (C.here.base + x) ≡ vars x →
      marks_at S.marks at ≡ MarkThen way more → first_point ts ≡ Some (way (begun_in k))
      → Sim n (updated cells to (cells (C.here.base + x))) (LinesAt (Behind ∷ at) rest k) ts vs vars
      → Sim n cells (LinesAt at (SetThen to (Copy (CellAtom (C.here.base + x))) rest) k) ts vs vars
  read_line n cells at to x rest k ts vs vars way more none own holds e f g =
      let i = kernel_item S cells (LinesAt at (SetThen to (Copy (CellAtom (C.here.base + x))) rest) k) in
      let j = inside S C ts vs vars in
      R.line n _ _ j
      (record {
        reads_alike =
            λ v c is r. stands_alike S cells at (SetThen to (Copy (CellAtom (C.here.base + x))) rest) k way more j e f;
        reads_value = λ v c is r.
            let same : c ≡ C.here.base + x = eqb-true c (C.here.base + x) r in
            let w : v ≡ own_variable C x =
            same_variable S v (own_variable C x) (C.here.base + x) (subst (λ z. IsCellOf S.kernel v z) same is)
            own in
            ap (λ z. value_in j.frames z) w ∙ own_value S C vars x ∙ ap (λ z. Some z) (sym holds) ∙
            ap (λ z. Some (cells z)) (sym same);
        sets_alike = λ v c is r. absurd (not_both (nat_eq c to) r (apart_cell S to none v c is));
        sets_value =
            λ v c is r placed done more i' j' s t. absurd (not_both (nat_eq c to) r (apart_cell S to none v c is));
      }) refl g

  -- a variable is set, where the program's item will set it by its next step
  pub stay_line : (n : ℕ) (cells : Store) (at : Place) (work : Work) (rest : Lines) (k : Tasks) (j j1 : ProgramItem)
      (v : Variable) (to : ℕ) (way : Way) (more : Marks) → PlainWork S work
      → IsCellOf S.kernel v to → marks_at S.marks at ≡ MarkThen way more → first_point j.tasks ≡ Some (way (begun_in k))
      → program_next S.program S.launch j ≡ Goes j1 → Comes S v j1
      → value_in j1.frames v ≡ Some (work_value S.launch (kernel_item S cells (LinesAt at (SetThen to work rest) k))
      work)
      →
      G n (kernel_item S (updated cells to
      (work_value S.launch (kernel_item S cells (LinesAt at (SetThen to work rest) k)) work))
      (LinesAt (Behind ∷ at) rest k)) j
      → G n (kernel_item S cells (LinesAt at (SetThen to work rest) k)) j
  stay_line n cells at work rest k j j1 v to way more plain own e f goes comes holds g =
      let i = kernel_item S cells (LinesAt at (SetThen to work rest) k) in
      let w = work_value S.launch i work in
      let i1 = kernel_item S (updated cells to w) (LinesAt (Behind ∷ at) rest k) in
      R.line n i i1 j
      (record {
        reads_alike = λ u c is r. absurd (not_both (work_reads c work) r (plain u c is));
        reads_value = λ u c is r. absurd (not_both (work_reads c work) r (plain u c is));
        sets_alike = λ u c is r. stands_alike S cells at (SetThen to work rest) k way more j e f;
        sets_value = λ u c is r placed done deeds i' j' s t.
            let same : c ≡ to = eqb-true c to r in
            let z : v ≡ u = same_variable S v u to own (subst (λ y. IsCellOf S.kernel u y) same is) in
            let there : i1 ≡ i' = one_step (lengths_of (shell_of S.kernel) S.launch S.buffers)
            (MayBeTold (shell_of S.kernel) S.launch S.buffers) (item_next S.kernel S.launch i) done i1 i' refl s in
            let held : i1.cells c ≡ w = ap (λ y. i1.cells y) same ∙ updated_same cells to w in
            next_value S u j j1 (i'.cells c) goes (subst (λ y. Comes S y j1) z comes)
            (subst (λ y. value_in j1.frames y ≡ Some (i'.cells c)) z (holds ∙ ap (λ y. Some y) (sym held) ∙
            ap (λ (y : Item). Some (y.cells c)) there)) placed (done ++ deeds) j' t;
      }) refl g

  -- a variable is set, where the program's item then sets it
  pub set_line : (n : ℕ) (cells : Store) (at : Place) (work : Work) (rest : Lines) (k : Tasks) (j j1 : ProgramItem)
      (v : Variable) (to : ℕ) (way : Way) (more : Marks) → PlainWork S work
      → IsCellOf S.kernel v to → marks_at S.marks at ≡ MarkThen way more → first_point j.tasks ≡ Some (way (begun_in k))
      → program_next S.program S.launch j ≡ Goes j1 → is_test j.tasks ≡ false → Comes S v j1
      → value_in j1.frames v ≡ Some (work_value S.launch (kernel_item S cells (LinesAt at (SetThen to work rest) k))
      work)
      →
      G n (kernel_item S (updated cells to
      (work_value S.launch (kernel_item S cells (LinesAt at (SetThen to work rest) k)) work))
      (LinesAt (Behind ∷ at) rest k)) j1
      → G n (kernel_item S cells (LinesAt at (SetThen to work rest) k)) j
  set_line n cells at work rest k j j1 v to way more plain own e f goes quiet comes holds g =
      stay_line n cells at work rest k j j1 v to way more plain own e f goes comes holds
      (R.task n (kernel_item S (updated cells to
      (work_value S.launch (kernel_item S cells (LinesAt at (SetThen to work rest) k)) work))
      (LinesAt (Behind ∷ at) rest k)) j j1 goes quiet g)
