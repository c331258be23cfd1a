-- The lines of the arms of a switch do what the arms from the entry on do.
use Rattle.std.proofs.Common.{◌≡◌, ℕ, suc, ◌+◌, ◌<◌, ◌≤◌, ℤ, pos, List, [], ◌∷◌, ◌++◌, Option, Some, None, refl, sym}
use Rattle.std.proofs.Common.{ap, ◌∙◌, subst, arith, true, false, ◌⊎◌, inl, inr}
use Rattle.std.proofs.Common.{Bool as Test}
use Rattle.std.specs.Prelude.{◌||◌}
use Rattle.std.specs.Ordering.{int_eq}
use Rattle.std.proofs.lemmas.Bool.Decides.{Decides-int_eq}
use Rattle.std.proofs.lemmas.Bool.{true≢false}
use Rattle.std.proofs.lemmas.Option.{none-some}
use Rattle.wg_num.specs.declared.types.IntType.TheVariants.{Int}
use Rattle.cl_model.specs.Calls.{calls_of_all}
use Rattle.cl_model.specs.Steps.{in_order, arm_tasks, entry_tasks, Entry, nowhere, entry, behind_break}
use Rattle.cl_model.specs.Steps.{behind_continue, behind_return}
use Rattle.cl_model.specs.Task.{Arm, Task, InSwitch, Item as ProgramItem, Point as ProgramPoint}
use Rattle.cl_model.specs.Tree.{Statements, Arms, no_arm, arm}
use Rattle.cl_model.specs.Valid.{Scope}
use Rattle.cl_model.specs.Values.{is_zero}
use Rattle.kir.specs.declared.line.Atom.{Atom}
use Rattle.kir.specs.declared.line.Atom.TheVariants.{Cell as CellAtom}
use Rattle.kir.specs.Tree.{Lines, NoLine, IfThen, OfValue, joined_to}
use Rattle.kir.specs.Places.{Behind, IntoChosen, IntoOther, Place, Tasks, LinesAt, begun_in}
use Rattle.kir.specs.Steps.{Item, atom_value}
use Rattle.kir_lower.specs.Made.{Made, next_cell, with_cell}
use Rattle.kir_lower.specs.Ways.{way_out_of_all}
use Rattle.kir_lower.specs.Actions.{Code, Steps, fallen_code}
use Rattle.kir_lower.specs.Code.{Calls, entry_code, around_arm, in_order as code_in_order, list_code, arms_code}
use Rattle.kir_lower_shape.specs.Marks.{Way, further, Marks, NoMark, FormThen, marks_then, all_marked, marks_behind}
use Rattle.kir_lower_shape.specs.Marks.{marks_one, marks_at}
use Rattle.kir_lower_shape.specs.CodeMarks.{CallMarks, marks_in_order, list_marks, arms_marks}
use Rattle.kir_lower_shape.proofs.Joined.{join_none}
use Rattle.kir_lower_simulation.specs.Setting.{Setting, Store, kernel_item, Activation, frame, inside}
use Rattle.kir_lower_simulation.specs.Exits.{Exit, Continues, Breaks, Returns, pending, unwound, some_leave, arms_leave}
use Rattle.kir_lower_simulation.specs.Exits.{ListCan, ArmsCan}
use Rattle.kir_lower_simulation.specs.Held.{Within, IsFixedAtom, Apart, Kept, At}
use Rattle.kir_lower_simulation.specs.Facts.{Rules}
use Rattle.kir_lower_simulation.specs.Ready.{IsUnderWay}
use Rattle.kir_lower_simulation.specs.Bodies.{IsBody, ReadyArms}
use Rattle.kir_lower_simulation.proofs.Lines.{NoVariable, Sim, end_line, if_line}
use Rattle.kir_lower_simulation.proofs.Keeping.{next_with, within_less, made_no_variable, atom_plain, atom_more}
use Rattle.kir_lower_simulation.proofs.Keeping.{kept_refl, kept_trans}
use Rattle.kir_lower_simulation.proofs.Actions.{not_equal}
use Rattle.kir_lower_simulation.proofs.Expressions.{marks_assoc, at_lines, AreCalls}
use Rattle.kir_lower_simulation.proofs.Leaving.{or_left, or_right, list_way, all_asked, return_same, break_order}
use Rattle.kir_lower_simulation.proofs.Leaving.{continue_order, return_order}
use Rattle.kir_lower_simulation.proofs.Guards.{marks_none}
use Rattle.kir_lower_simulation.proofs.Containing.{exit_more, list_grows}
use Rattle.kir_lower_simulation.proofs.Statements.{at_kept, StatementDone, ListFollows, in_order_follows}
use Rattle.kir_lower_simulation.proofs.Lists.{as_none}
use Rattle.kir_lower_simulation.proofs.Arming.{bit, is_calm, ArmGrows, arm_grows, arm_body, arm_within, arm_rest}
use Rattle.kir_lower_simulation.proofs.Arming.{entry_follows, fallen_follows, entry_fixed, fallen_fixed}

-- ---- where the program's item goes on behind the arms

break_arms : (at : ProgramPoint) (k : ℕ) (arms : Arms) (ts : List Task) →
    behind_break (arm_tasks at k arms ts) ≡ behind_break ts
break_arms at k no_arm ts = refl
break_arms at k (arm labels other body rest) ts =
    break_order (at ++ Arm k ∷ []) 0 body (arm_tasks at (suc k) rest ts) ∙ break_arms at (suc k) rest ts

continue_arms : (at : ProgramPoint) (k : ℕ) (arms : Arms) (ts : List Task) →
    behind_continue (arm_tasks at k arms ts) ≡ behind_continue ts
continue_arms at k no_arm ts = refl
continue_arms at k (arm labels other body rest) ts =
    continue_order (at ++ Arm k ∷ []) 0 body (arm_tasks at (suc k) rest ts) ∙ continue_arms at (suc k) rest ts

return_arms : (i : ProgramItem) (at : ProgramPoint) (k : ℕ) (arms : Arms) (ts : List Task) (vs : List ℤ) →
    behind_return i (arm_tasks at k arms ts) vs ≡ behind_return i ts vs
return_arms i at k no_arm ts vs = refl
return_arms i at k (arm labels other body rest) ts vs =
    return_order i (at ++ Arm k ∷ []) 0 body (arm_tasks at (suc k) rest ts) vs ∙ return_arms i at (suc k) rest ts vs

pub unwound_arms : (S : Setting) (C : Activation) (x : Exit) (v : ℤ) (at : ProgramPoint) (k : ℕ) (arms : Arms)
    (ts : List Task) (vs : List ℤ) (vars : Store) → unwound (Some x) v (inside S C (arm_tasks at k arms ts) vs vars) ≡
    unwound (Some x) v (inside S C ts vs vars)
unwound_arms S C Continues v at k arms ts vs vars = ap (λ z. inside S C z vs vars) (continue_arms at k arms ts)
unwound_arms S C Breaks v at k arms ts vs vars = ap (λ z. inside S C z vs vars) (break_arms at k arms ts)
unwound_arms S C Returns v at k arms ts vs vars =
    return_arms (inside S C (arm_tasks at k arms ts) vs vars) at k arms ts (v ∷ vs) ∙
    return_same S (arm_tasks at k arms ts) ts vs vs (frame C vars ∷ C.outer) ts (v ∷ vs)

-- ---- the number of the chosen arm

-- the number is that of the entry, among the arms from one on
abbrev pub IsEntry : ℕ → Arms → Entry → ℤ → Type 0
IsEntry k no_arm nowhere c = Unit {0}
IsEntry k (arm labels other body rest) nowhere c = (int_eq c (pos k) ≡ false) × IsEntry (k + 1) rest nowhere c
IsEntry k no_arm (entry n arms) c = ⊥
IsEntry k (arm labels other body rest) (entry n arms) c =
    ((n ≡ k) × (arms ≡ arm labels other body rest) × (c ≡ pos k)) ⊎
    ((int_eq c (pos k) ≡ false) × IsEntry (k + 1) rest (entry n arms) c)

-- it is that of none from one on
abbrev pub IsPassed : ℤ → ℕ → Type 0
IsPassed c k = (j : ℕ) → k ≤ j → int_eq c (pos j) ≡ false

passed_more : (c : ℤ) (k : ℕ) → IsPassed c k → IsPassed c (k + 1)
passed_more c k h j le = h j (omega (arith, le))

own_passed : (k : ℕ) → IsPassed (pos k) (k + 1)
own_passed k j le = not_equal (pos k) (pos j) (λ e. let q : k ≡ j = cc in omega (arith, q, le))

own_equal : (k : ℕ) → int_eq (pos k) (pos k) ≡ true
own_equal k = (Decides-int_eq (pos k) (pos k)).1 refl

-- what the arms are entered with: one before was entered and falls through, or none was
pub data Entering (first : ℕ) (arms : Arms) (fallen : Atom) (chosen : ℕ) (cells : Store) (at : ProgramPoint)
    (ts : List Task) : List Task → Type 0 where
  falling : atom_value cells fallen ≡ bit true → IsPassed (cells chosen) first →
      Entering first arms fallen chosen cells at ts (arm_tasks at first arms ts)
  waiting : (e : Entry) → atom_value cells fallen ≡ bit false → IsEntry first arms e (cells chosen) →
      Entering first arms fallen chosen cells at ts (entry_tasks at e ts)

module _ (S : Setting) (G : ℕ → Item → ProgramItem → Type 0) (R : Rules S G) (C : Activation) (calls : Calls)
    (marks : CallMarks) where
  -- the lines of arms do what the arms do
  abbrev pub ArmsFollow : Scope → Option ℕ → ℕ → Way → ℕ → ℕ → Atom → ℕ → Arms → Made → Type 0
  ArmsFollow scope cell exit way site chosen fallen first arms m =
      (n : ℕ) (T : Lines) (tm : Marks) (k : Tasks) (at : Place) (cells vars : Store) (ts : List Task) (vs : List ℤ)
      (us : List Task)
      → marks_at S.marks at ≡ marks_then (arms_marks calls marks C.here way exit site (CellAtom chosen) fallen first
      arms m) tm → At S C cell scope None (pos 0) cells vars
      → Entering first arms fallen chosen cells (way (begun_in k)) (InSwitch (way (begun_in k)) site ∷ ts) us
      → StatementDone S G R C n (next_cell m) cell scope (ArmsCan arms) T tm k cells
      (InSwitch (way (begun_in k)) site ∷ ts) vs
      → Sim S G R C n cells (LinesAt at
      (joined_to (arms_code calls C.here exit site (CellAtom chosen) fallen first arms m).lines T) k) us vs vars

  module _ (under : IsUnderWay S C) (is_body : IsBody S C) (all : AreCalls S G R C calls marks) (scope : Scope)
      (cell : Option ℕ) (exit : ℕ) (way : Way) (site : ℕ) (chosen : ℕ) where
    -- ---- one arm

    module _ (fallen : Atom) (first : ℕ) (labels : List ℤ) (other : Test) (body : Statements) (rest : Arms) (m : Made)
        (r : ReadyArms S C calls scope cell exit way site (CellAtom chosen) fallen first (arm labels other body rest) m)
        (fc : IsFixedAtom S C.low (next_cell m) (CellAtom chosen) Int) (ff : IsFixedAtom S C.low (next_cell m) fallen
        Int) (apart_ : Apart cell chosen) where
      abbrev ce : Code
      ce = entry_code (CellAtom chosen) fallen first m

      abbrev cb : Steps
      cb = code_in_order (list_code calls C.here exit false body ce.made)

      abbrev ca : Code
      ca = around_arm site exit (way_out_of_all true true body) ce cb

      abbrev cf : Code
      cf = fallen_code (way_out_of_all true true body) exit ce.value cb.made

      abbrev body_marked : Marks
      body_marked = marks_in_order (list_marks calls marks C.here (further way (Arm first)) 0 exit false body ce.made)

      grown : ArmGrows S C calls all.grows all.adds scope cell exit way site (CellAtom chosen) fallen first body m
      grown = arm_grows S C calls all.grows all.adds scope cell exit way site (CellAtom chosen) fallen first body m

      within_f : Within S cf.made
      within_f = arm_within S C calls all.grows all.adds scope cell exit way site (CellAtom chosen) fallen first
          labels other body rest m r

      within_e : Within S ce.made
      within_e =
          let rb = arm_body S C calls all.grows all.adds scope cell exit way site (CellAtom chosen) fallen first
          labels other body rest m r in
          within_less S (calls_of_all body) ce.made _ (list_grows S C calls all.grows all.adds exit false body
          ce.made) rb.within

      low_e : C.low ≤ next_cell ce.made
      low_e = let l = r.low in let g = grown.entry in omega (arith, l, g)

      low_b : C.low ≤ next_cell cb.made
      low_b = let l = low_e in let g = grown.list in omega (arith, l, g)

      fixed_e : IsFixedAtom S C.low (next_cell ce.made) ce.value.atom Int
      fixed_e = entry_fixed S G R C (CellAtom chosen) fallen first m r.low within_e

      fixed_b : IsFixedAtom S C.low (next_cell cb.made) ce.value.atom Int
      fixed_b = atom_more S C.low (next_cell ce.made) (next_cell cb.made) ce.value.atom Int grown.list fixed_e

      -- the cell of the way out where there is one
      real : (o : ℕ) → way_out_of_all true true body ≡ Some o → cell ≡ Some exit
      real o e = (arm_body S C calls all.grows all.adds scope cell exit way site (CellAtom chosen) fallen first labels
          other body rest m r).has_exit o e

      exit_plain : cell ≡ Some exit → NoVariable S exit
      exit_plain e = made_no_variable S exit Int (r.exits.made exit e)

      -- an arm that is not entered
      pub skip_arm : (n : ℕ) (T : Lines) (tm : Marks) (k : Tasks) (at : Place) (cells : Store) (j : ProgramItem)
          (o : Option Exit)
          → marks_at S.marks at ≡ marks_then (all_marked way ce.lines)
          (FormThen way body_marked NoMark (marks_then (all_marked way cf.lines) tm))
          → ((c : ℕ) → cell ≡ Some c → cells c ≡ pending o) → atom_value cells fallen ≡ bit false →
          int_eq (cells chosen) (pos first) ≡ false
          → ((at' : Place) (new : Store) → marks_at S.marks at' ≡ tm → ((c : ℕ) → c < next_cell m → new c ≡ cells c) →
          atom_value new ca.value.atom ≡ bit false → G n (kernel_item S new (LinesAt at' T k)) j)
          → G n (kernel_item S cells (LinesAt at (joined_to ca.lines T) k)) j
      skip_arm n T tm k at cells j o e pend holds apart_one go =
          let out = way_out_of_all true true body in
          at_lines S G R C n cells at ce.lines (IfThen site ce.value.atom cb.lines NoLine cf.lines) T k j
          (entry_follows S G R C (CellAtom chosen) fallen first m n
          (IfThen site ce.value.atom cb.lines NoLine (joined_to cf.lines T)) way
          (FormThen way body_marked NoMark (marks_then (all_marked way cf.lines) tm)) k at cells j false false
          r.low fc ff within_e holds apart_one e
          (λ at1 c1 e1 k1 h1.
          if_line S G R C n c1 at1 site ce.value.atom cb.lines NoLine (joined_to cf.lines T) k j true
          (atom_plain S C.low (next_cell ce.made) ce.value.atom Int fixed_e) (ap is_zero h1)
          (end_line S G R C n c1 (IntoOther ∷ at1) (LinesAt (Behind ∷ at1) (joined_to cf.lines T) k) j
          (fallen_follows S G R C out exit ce.value cb.made n T way tm k (Behind ∷ at1) c1 j false o low_b fixed_b
          (λ s q. let x = real s q in (exit_plain x, k1 exit (r.exits.high exit x) ∙ pend exit x))
          (λ q t. absurd (true≢false (sym t))) within_f h1 (ap marks_behind e1)
          (λ at2 c2 e2 k2 h2. let g1 = grown.entry in let g2 = grown.list in
          go at2 c2 e2 (λ c lt. k2 c (omega (arith, lt, g1, g2)) ∙ k1 c lt) h2)))))

      -- an arm that is entered
      pub run_arm : ListFollows S G R C calls marks scope cell exit (further way (Arm first)) 0 false body ce.made
          → (n : ℕ) (T : Lines) (tm : Marks) (k : Tasks) (at : Place) (cells vars : Store) (us : List Task)
          (vs : List ℤ) (a b : Test) → (a || b) ≡ true
          → marks_at S.marks at ≡ marks_then (all_marked way ce.lines)
          (FormThen way body_marked NoMark (marks_then (all_marked way cf.lines) tm)) →
          At S C cell scope None (pos 0) cells vars
          → atom_value cells fallen ≡ bit a → int_eq (cells chosen) (pos first) ≡ b
          → ((at' : Place) (new vars' : Store) (o : Option Exit) (v : ℤ) → ListCan body o →
          marks_at S.marks at' ≡ tm → At S C cell scope o v new vars' →
          Kept C.here.base C.low cell (next_cell m) cells new → atom_value new ca.value.atom ≡ bit (is_calm o)
          → G n (kernel_item S new (LinesAt at' T k)) (unwound o v (inside S C us vs vars')))
          → Sim S G R C n cells (LinesAt at (joined_to ca.lines T) k) (in_order (way (begun_in k) ++ Arm first ∷ []) 0
          body us) vs vars
      run_arm list n T tm k at cells vars us vs a b entered e at0 holds is go =
          let out = way_out_of_all true true body in
          let base = C.here.base in
          let le = under.below in
          let low = r.low in
          let g1 = grown.entry in
          let g2 = grown.list in
          at_lines S G R C n cells at ce.lines (IfThen site ce.value.atom cb.lines NoLine cf.lines) T k _
          (entry_follows S G R C (CellAtom chosen) fallen first m n
          (IfThen site ce.value.atom cb.lines NoLine (joined_to cf.lines T)) way
          (FormThen way body_marked NoMark (marks_then (all_marked way cf.lines) tm)) k at cells _ a b r.low fc
          ff within_e holds is e
          (λ at1 c1 e1 k1 h1.
          let h2 : atom_value c1 ce.value.atom ≡ bit true = h1 ∙ ap bit entered in
          let rest_tasks = LinesAt (Behind ∷ at1) (joined_to cf.lines T) k in
          let a1 = at_kept S C under is_body cell exit scope m r.exits r.low None (pos 0) cells c1 vars vars at0
          (record {
            each = λ x has. let u = r.inner x has in k1 (base + x) (omega (arith, u, le, low)) ∙
                at0.same.each x has;
          }) (record { each = λ c l u. k1 c u }) in
          if_line S G R C n c1 at1 site ce.value.atom cb.lines NoLine (joined_to cf.lines T) k _ false
          (atom_plain S C.low (next_cell ce.made) ce.value.atom Int fixed_e) (ap is_zero h2)
          (subst (λ z. Sim S G R C n c1 (LinesAt (IntoChosen ∷ at1) z rest_tasks)
          (in_order (way (begun_in k) ++ Arm first ∷ []) 0 body us) vs vars) (join_none cb.lines)
          (in_order_follows S G R C calls marks under is_body all scope cell exit (further way (Arm first)) 0 body
          ce.made list n NoLine NoMark rest_tasks (IntoChosen ∷ at1) c1 vars us vs (ap marks_one e1 ∙
          sym (marks_none body_marked)) a1
          (λ at2 c2 vars2 o v can e2 a2 kept2.
          end_line S G R C n c2 at2 rest_tasks _
          (fallen_follows S G R C out exit ce.value cb.made n T way tm k (Behind ∷ at1) c2 _ true o low_b fixed_b
          (λ s q. let x = real s q in (exit_plain x, a2.exit_is exit x)) (λ q t. calm o can q) within_f
          (entered_kept c1 c2 kept2 ∙ h2) (ap marks_behind e1)
          (λ at3 c3 e3 k3 h3.
          go at3 c3 vars2 o v can e3
          (at_kept S C under is_body cell exit scope cb.made
          (exit_more S C cell exit m cb.made (omega (arith, g1, g2)) r.exits) low_b o v c2 c3 vars2 vars2 a2
          (record {
            each = λ x has. let u = r.inner x has in k3 (base + x) (omega (arith, u, le, low, g1, g2)) ∙
                a2.same.each x has;
          }) (record { each = λ c l u. k3 c u }))
          (kept_trans base C.low cell (next_cell m) (next_cell cb.made) cells c2 c3 (omega (arith, g1, g2))
          (kept_trans base C.low cell (next_cell m) (next_cell ce.made) cells c1 c2 g1
          (record { each = λ c l u. k1 c u }) kept2) (record { each = λ c l u. k3 c u }))
          h3)))))))
        where
          calm : (o : Option Exit) → ListCan body o → way_out_of_all true true body ≡ None → o ≡ None
          calm None can q = refl
          calm (Some x) can q = let t =
              list_way x true true body (all_asked x) can in absurd (none-some t.0 (sym q ∙ t.1))

          apart_high : (o : Option ℕ) (d : ℕ) → ((c : ℕ) → o ≡ Some c → c < d) → Apart o d
          apart_high None d h = tt
          apart_high (Some c) d h = λ q. let l = h c refl in omega (arith, l, q)

          entered_kept : (old new : Store) → Kept C.here.base C.low cell (next_cell ce.made) old new →
              atom_value new ce.value.atom ≡ atom_value old ce.value.atom
          entered_kept old new kept =
              let n0 = next_with m OfValue Int in
              let d = next_cell (with_cell m OfValue Int) in
              kept.each d (inr (
                fixed_e.0,
                apart_high cell d (λ c q. let l = r.exits.high c q in
                    omega (arith, l, n0)),
              )) fixed_e.1

    -- ---- arms that are left

    -- the arms are passed
    abbrev ArmsOff : Atom → ℕ → Arms → Made → Type 0
    ArmsOff fallen first arms m =
        (n : ℕ) (T : Lines) (tm : Marks) (k : Tasks) (at : Place) (cells : Store) (j : ProgramItem) (o : Option Exit)
        → marks_at S.marks at ≡ marks_then (arms_marks calls marks C.here way exit site (CellAtom chosen) fallen first
        arms m) tm → ((c : ℕ) → cell ≡ Some c → cells c ≡ pending o)
        → atom_value cells fallen ≡ bit false → IsPassed (cells chosen) first
        → ((at' : Place) (new : Store) → marks_at S.marks at' ≡ tm → ((c : ℕ) → c < next_cell m → new c ≡ cells c) →
        G n (kernel_item S new (LinesAt at' T k)) j)
        →
        G n (kernel_item S cells (LinesAt at
        (joined_to (arms_code calls C.here exit site (CellAtom chosen) fallen first arms m).lines T) k)) j

    -- the marks of an arm before those of the others
    arm_marked : (A F Q : Marks) (b tm : Marks) →
        marks_then (marks_then A (FormThen way b NoMark (marks_then F Q))) tm ≡
        marks_then A (FormThen way b NoMark (marks_then F (marks_then Q tm)))
    arm_marked A F Q b tm = marks_assoc A (FormThen way b NoMark (marks_then F Q)) tm ∙
        ap (λ z. marks_then A (FormThen way b NoMark z)) (marks_assoc F Q tm)

    -- what an arm makes
    pub arm_made : (fallen : Atom) (first : ℕ) (labels : List ℤ) (other : Test) (body : Statements) (rest : Arms)
        (m : Made) (r : ReadyArms S C calls scope cell exit way site (CellAtom chosen) fallen first
        (arm labels other body rest) m)
        (fc : IsFixedAtom S C.low (next_cell m) (CellAtom chosen) Int) (ff : IsFixedAtom S C.low (next_cell m) fallen
        Int) (apart_ : Apart cell chosen)
        → (next_cell m ≤ next_cell (ca fallen first labels other body rest m r fc ff apart_).made) ×
        IsFixedAtom S C.low (next_cell (ca fallen first labels other body rest m r fc ff apart_).made)
        (CellAtom chosen) Int
        × IsFixedAtom S C.low (next_cell (ca fallen first labels other body rest m r fc ff apart_).made)
        (ca fallen first labels other body rest m r fc ff apart_).value.atom Int
    arm_made fallen first labels other body rest m r fc ff apart_ =
        let g = grown fallen first labels other body rest m r fc ff apart_ in
        let a = g.entry in let b = g.list in let c = g.all in (
          omega (arith, a, b, c),
          atom_more S C.low (next_cell m) _ (CellAtom chosen) Int (omega (arith, a, b, c)) fc,
          fallen_fixed S G R C (way_out_of_all true true body) exit (ce fallen first labels other body rest m r fc ff
              apart_).value (cb fallen first labels other body rest m r fc ff apart_).made
              (low_b fallen first labels other body rest m r fc ff apart_)
              (fixed_b fallen first labels other body rest m r fc ff apart_)
              (within_f fallen first labels other body rest m r fc ff apart_),
        )

    arms_off : (arms : Arms) (fallen : Atom) (first : ℕ) (m : Made) →
        ReadyArms S C calls scope cell exit way site (CellAtom chosen) fallen first arms m →
        IsFixedAtom S C.low (next_cell m) (CellAtom chosen) Int → IsFixedAtom S C.low (next_cell m) fallen Int →
        Apart cell chosen
        → ArmsOff fallen first arms m
    unfolding arms_code arms_marks
    arms_off no_arm fallen first m r fc ff apart_ n T tm k at cells j o e pend holds passed go =
        go at cells e (λ c lt. refl)
    arms_off (arm labels other body rest) fallen first m r fc ff apart_ n T tm k at cells j o e pend holds passed go =
        let out = way_out_of_all true true body in
        let ce = entry_code (CellAtom chosen) fallen first m in
        let cb = code_in_order (list_code calls C.here exit false body ce.made) in
        let ca = around_arm site exit out ce cb in
        let cf = fallen_code out exit ce.value cb.made in
        let rr = arm_rest S C calls all.grows all.adds scope cell exit way site (CellAtom chosen) fallen first labels
        other body rest m r in
        let rest_lines =
        (arms_code calls C.here exit site (CellAtom chosen) ca.value.atom (first + 1) rest ca.made).lines in
        let rest_marks =
        arms_marks calls marks C.here way exit site (CellAtom chosen) ca.value.atom (first + 1) rest ca.made in
        let f = arm_made fallen first labels other body rest m r fc ff apart_ in
        at_lines S G R C n cells at ca.lines rest_lines T k j
        (skip_arm fallen first labels other body rest m r fc ff apart_ n (joined_to rest_lines T)
        (marks_then rest_marks tm) k at cells j o
        (e ∙ arm_marked (all_marked way ce.lines) (all_marked way cf.lines) rest_marks
        (marks_in_order (list_marks calls marks C.here (further way (Arm first)) 0 exit false body ce.made)) tm)
        pend holds (passed first (omega arith))
        (λ at1 c1 e1 k1 h1.
        arms_off rest ca.value.atom (first + 1) ca.made rr f.1 f.2 apart_ n T tm k at1 c1 j o e1
        (λ c q. k1 c (r.exits.high c q) ∙ pend c q) h1
        (subst (λ z. IsPassed z (first + 1)) (sym (k1 chosen fc.1)) (passed_more (cells chosen) first passed))
        (λ at2 c2 e2 k2. let g = f.0 in go at2 c2 e2 (λ c lt. k2 c (omega (arith, lt, g)) ∙ k1 c lt))))

    -- ---- arms in order

    pub arms_end : (fallen : Atom) (first : ℕ) (m : Made) →
        ArmsFollow scope cell exit way site chosen fallen first no_arm m
    unfolding arms_code arms_marks
    arms_end fallen first m n T tm k at cells vars ts vs us e a state go = by us state
      where
        by : (us : List Task) → Entering first no_arm fallen chosen cells (way (begun_in k))
            (InSwitch (way (begun_in k)) site ∷ ts) us → Sim S G R C n cells (LinesAt at T k) us vs vars
        by _ (falling holds passed) =
            go at cells vars None (pos 0) tt e a (kept_refl C.here.base C.low cell (next_cell m) cells)
        by _ (waiting nowhere holds is) =
            go at cells vars None (pos 0) tt e a (kept_refl C.here.base C.low cell (next_cell m) cells)
        by _ (waiting (entry i arms) holds is) = absurd is

    module _ (fallen : Atom) (first : ℕ) (labels : List ℤ) (other : Test) (body : Statements) (rest : Arms) (m : Made)
        (r : ReadyArms S C calls scope cell exit way site (CellAtom chosen) fallen first (arm labels other body rest) m)
        (fc : IsFixedAtom S C.low (next_cell m) (CellAtom chosen) Int) (ff : IsFixedAtom S C.low (next_cell m) fallen
        Int) (apart_ : Apart cell chosen)
        (list : ListFollows S G R C calls marks scope cell exit (further way (Arm first)) 0 false body
        (ce fallen first labels other body rest m r fc ff apart_).made)
        (others : ArmsFollow scope cell exit way site chosen (ca fallen first labels other body rest m r fc ff
        apart_).value.atom (first + 1) rest (ca fallen first labels other body rest m r fc ff apart_).made)
        (n : ℕ) (T : Lines) (tm : Marks) (k : Tasks) (at : Place) (cells vars : Store) (ts : List Task) (vs : List ℤ)
      where
        abbrev at0 : ProgramPoint
        at0 = way (begun_in k)

        abbrev marker : List Task
        marker = InSwitch at0 site ∷ ts

        abbrev ce1 : Code
        ce1 = entry_code (CellAtom chosen) fallen first m

        abbrev cb1 : Steps
        cb1 = code_in_order (list_code calls C.here exit false body ce1.made)

        abbrev ca1 : Code
        ca1 = around_arm site exit (way_out_of_all true true body) ce1 cb1

        abbrev cf1 : Code
        cf1 = fallen_code (way_out_of_all true true body) exit ce1.value cb1.made

        abbrev rest_lines : Lines
        rest_lines = (arms_code calls C.here exit site (CellAtom chosen) ca1.value.atom (first + 1) rest ca1.made).lines

        abbrev rest_marks : Marks
        rest_marks =
            arms_marks calls marks C.here way exit site (CellAtom chosen) ca1.value.atom (first + 1) rest ca1.made

        abbrev body_marks1 : Marks
        body_marks1 = marks_in_order (list_marks calls marks C.here (further way (Arm first)) 0 exit false body
            ce1.made)

        module _ (e : marks_at S.marks at ≡
            marks_then (marks_then (all_marked way ce1.lines)
            (FormThen way body_marks1 NoMark (marks_then (all_marked way cf1.lines) rest_marks))) tm)
            (a : At S C cell scope None (pos 0) cells vars)
            (go : StatementDone S G R C n (next_cell m) cell scope (ArmsCan (arm labels other body rest)) T tm k cells
            marker vs) where
          made_f : (next_cell m ≤ next_cell ca1.made) × IsFixedAtom S C.low (next_cell ca1.made) (CellAtom chosen) Int ×
              IsFixedAtom S C.low (next_cell ca1.made) ca1.value.atom Int
          made_f = arm_made fallen first labels other body rest m r fc ff apart_

          marked : marks_at S.marks at ≡ marks_then (all_marked way ce1.lines)
              (FormThen way body_marks1 NoMark (marks_then (all_marked way cf1.lines) (marks_then rest_marks tm)))
          marked = e ∙ arm_marked (all_marked way ce1.lines) (all_marked way cf1.lines) rest_marks body_marks1 tm

          right : (o : Option Exit) → ArmsCan rest o → ArmsCan (arm labels other body rest) o
          right None h = tt
          right (Some x) h = or_right (some_leave x body) (arms_leave x rest) h

          -- the others, from other cells on
          done_rest : (c1 : Store) → Kept C.here.base C.low cell (next_cell m) cells c1 →
              StatementDone S G R C n (next_cell ca1.made) cell scope (ArmsCan rest) T tm k c1 marker vs
          done_rest c1 kept1 at2 c2 vars2 o2 w can e2 a2 kept2 =
              go at2 c2 vars2 o2 w (right o2 can) e2 a2 (kept_trans C.here.base C.low cell (next_cell m)
              (next_cell ca1.made) cells c1 c2 made_f.0 kept1 kept2)

          -- the arm is entered
          enter_arm : (x y : Test) → (x || y) ≡ true → atom_value cells fallen ≡ bit x →
              int_eq (cells chosen) (pos first) ≡ y → IsPassed (cells chosen) (first + 1)
              → Sim S G R C n cells (LinesAt at (joined_to (joined_to ca1.lines rest_lines) T) k)
              (in_order (at0 ++ Arm first ∷ []) 0 body (arm_tasks at0 (suc first) rest marker)) vs vars
          enter_arm x y entered holds is passed =
              at_lines S G R C n cells at ca1.lines rest_lines T k _
              (run_arm fallen first labels other body rest m r fc ff apart_ list n (joined_to rest_lines T)
              (marks_then rest_marks tm) k at cells vars (arm_tasks at0 (suc first) rest marker) vs x y entered
              marked a holds is
              (λ at1 c1 vars1 o v can e1 a1 kept1 h1.
              let kept_chosen : c1 chosen ≡ cells chosen = kept1.each chosen (inr (fc.0, apart_)) fc.1 in
              let passed1 = subst (λ z. IsPassed z (first + 1)) (sym kept_chosen) passed in
              (elim o as (λ o. ListCan body o → At S C cell scope o v c1 vars1 →
              atom_value c1 ca1.value.atom ≡ bit (is_calm o) →
              G n (kernel_item S c1 (LinesAt at1 (joined_to rest_lines T) k))
              (unwound o v (inside S C (arm_tasks at0 (suc first) rest marker) vs vars1))) [
                | None ↦ λ can a1 h1.
                    let same : first + 1 ≡ suc first = omega arith in
                    subst (λ z. Sim S G R C n c1 (LinesAt at1 (joined_to rest_lines T) k) (arm_tasks at0 z rest marker)
                    vs vars1) same
                    (others n T tm k at1 c1 vars1 ts vs (arm_tasks at0 (first + 1) rest marker) e1
                    (as_none S C cell scope v c1 vars1 a1) (falling h1 passed1) (done_rest c1 kept1))
                | Some x ↦ λ can a1 h1.
                    arms_off rest ca1.value.atom (first + 1) ca1.made (arm_rest S C calls all.grows all.adds scope cell
                    exit way site (CellAtom chosen) fallen first labels other body rest m r) made_f.1 made_f.2
                    apart_
                    n T tm k at1 c1 _ (Some x) e1 a1.exit_is h1 passed1
                    (λ at2 c2 e2 k2.
                    subst (λ z. G n (kernel_item S c2 (LinesAt at2 T k)) z)
                    (sym (unwound_arms S C x v at0 (suc first) rest marker vs vars1))
                    (go at2 c2 vars1 (Some x) v (or_left (some_leave x body) (arms_leave x rest) can) e2
                    (left_at c1 c2 vars1 x v k2 a1)
                    (kept_trans C.here.base C.low cell (next_cell m) (next_cell ca1.made) cells c1 c2 made_f.0 kept1
                    (record { each = λ c l u. k2 c u }))))
              ]) can a1 h1))
            where
              left_at : (c1 c2 vars1 : Store) (x : Exit) (v : ℤ) → ((c : ℕ) → c < next_cell ca1.made → c2 c ≡ c1 c) →
                  At S C cell scope (Some x) v c1 vars1 → At S C cell scope (Some x) v c2 vars1
              left_at c1 c2 vars1 x v k2 a1 =
                  let le = under.below in
                  let low = r.low in
                  let g = made_f.0 in
                  at_kept S C under is_body cell exit scope ca1.made (exit_more S C cell exit m ca1.made g r.exits)
                  (omega (arith, low, g)) (Some x) v c1 c2 vars1 vars1 a1
                  (record {
                    each = λ y has. let u = r.inner y has in
                        k2 (C.here.base + y) (omega (arith, u, le, low, g)) ∙ a1.same.each y has;
                  })
                  (record { each = λ c l u. k2 c u })

          -- it is not, and none before was
          wait_arm : (en : Entry) → atom_value cells fallen ≡ bit false → int_eq (cells chosen) (pos first) ≡ false →
              IsEntry (first + 1) rest en (cells chosen)
              → Sim S G R C n cells (LinesAt at (joined_to (joined_to ca1.lines rest_lines) T) k)
              (entry_tasks at0 en marker) vs vars
          wait_arm en holds apart_one is =
              at_lines S G R C n cells at ca1.lines rest_lines T k _
              (skip_arm fallen first labels other body rest m r fc ff apart_ n (joined_to rest_lines T)
              (marks_then rest_marks tm) k at cells _ None marked a.exit_is holds apart_one
              (λ at1 c1 e1 k1 h1.
              others n T tm k at1 c1 vars ts vs (entry_tasks at0 en marker) e1 (waited_at c1 k1)
              (waiting en h1 (subst (λ z. IsEntry (first + 1) rest en z) (sym (k1 chosen fc.1)) is))
              (done_rest c1 (record { each = λ c l u. k1 c u }))))
            where
              waited_at : (c1 : Store) → ((c : ℕ) → c < next_cell m → c1 c ≡ cells c) →
                  At S C cell scope None (pos 0) c1 vars
              waited_at c1 k1 =
                  let le = under.below in
                  let low = r.low in
                  at_kept S C under is_body cell exit scope m r.exits r.low None (pos 0) cells c1 vars vars a
                  (record {
                    each = λ y has. let u = r.inner y has in
                        k1 (C.here.base + y) (omega (arith, u, le, low)) ∙ a.same.each y has;
                  })
                  (record { each = λ c l u. k1 c u })

          pub arm_by : (us : List Task) →
              Entering first (arm labels other body rest) fallen chosen cells at0 marker us →
              Sim S G R C n cells (LinesAt at (joined_to (joined_to ca1.lines rest_lines) T) k) us vs vars
          arm_by _ (falling holds passed) =
              enter_arm true (int_eq (cells chosen) (pos first)) refl holds refl
              (passed_more (cells chosen) first passed)
          arm_by _ (waiting nowhere holds is) = wait_arm nowhere holds is.0 is.1
          arm_by _ (waiting (entry i arms) holds (inr is)) = wait_arm (entry i arms) holds is.0 is.1
          arm_by _ (waiting (entry i arms) holds (inl is)) =
              subst (λ z. Sim S G R C n cells (LinesAt at (joined_to (joined_to ca1.lines rest_lines) T) k)
              (arm_tasks at0 i z marker) vs vars) (sym is.1)
              (subst (λ z. Sim S G R C n cells (LinesAt at (joined_to (joined_to ca1.lines rest_lines) T) k)
              (arm_tasks at0 z (arm labels other body rest) marker) vs vars) (sym is.0)
              (enter_arm false true refl holds (ap (λ z. int_eq z (pos first)) is.2 ∙
              own_equal first) (subst (λ z. IsPassed z (first + 1)) (sym is.2) (own_passed first))))

    -- the arms from one on
    pub arm_follows : (fallen : Atom) (first : ℕ) (labels : List ℤ) (other : Test) (body : Statements) (rest : Arms)
        (m : Made) (r : ReadyArms S C calls scope cell exit way site (CellAtom chosen) fallen first
        (arm labels other body rest) m)
        (fc : IsFixedAtom S C.low (next_cell m) (CellAtom chosen) Int) (ff : IsFixedAtom S C.low (next_cell m) fallen
        Int) (apart_ : Apart cell chosen)
        → ListFollows S G R C calls marks scope cell exit (further way (Arm first)) 0 false body
        (ce fallen first labels other body rest m r fc ff apart_).made
        → ArmsFollow scope cell exit way site chosen (ca fallen first labels other body rest m r fc ff
        apart_).value.atom (first + 1) rest (ca fallen first labels other body rest m r fc ff apart_).made
        → ArmsFollow scope cell exit way site chosen fallen first (arm labels other body rest) m
    unfolding arms_code arms_marks
    arm_follows fallen first labels other body rest m r fc ff apart_ list others n T tm k at cells vars ts vs us e a
        state go =
        arm_by fallen first labels other body rest m r fc ff apart_ list others n T tm k at cells vars ts vs e a go us
        state
