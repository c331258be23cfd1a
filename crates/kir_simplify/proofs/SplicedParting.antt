-- Where an item of a kernel can come to a barrier, the same item of the spliced kernel can come to it.
use Rattle.std.proofs.Common.{◌≡◌, ℕ, zero, suc, ℤ, pos, List, [], ◌∷◌, Option, Some, refl, sym, ap, ap₂, ◌∙◌}
use Rattle.std.proofs.Common.{subst, true, false, if◌then◌else◌, ◌⊎◌, inl, inr}
use Rattle.std.proofs.Common.{Bool as Test}
use Rattle.std.proofs.lemmas.Bool.{true≢false}
use Rattle.std.proofs.lemmas.Option.{none-some, same_Some}
use Rattle.work_items.specs.Items.{Goes, Begins}
use Rattle.work_items.specs.Coming.{MayLead, arrived, by_step, by_test}
use Rattle.cl_model.specs.Sizes.{Launch}
use Rattle.cl_model.specs.Values.{is_zero}
use Rattle.kir.specs.declared.line.Atom.{Atom}
use Rattle.kir.specs.Tree.{Lines, NoLine, SetThen, LoadThen, StoreThen, ClearThen, IfThen, LoopThen, BarrierThen}
use Rattle.kir.specs.Tree.{joined_to, Kernel}
use Rattle.kir.specs.Places.{Behind, IntoChosen, IntoOther, IntoTest, ToAnswer, IntoBody, Place, Point, Tasks, NoTask}
use Rattle.kir.specs.Places.{LinesAt, AnswerAt, begun_in, point_of, lines_at, iteration, behind, place_behind}
use Rattle.kir.specs.Places.{chosen_of, other_of, test_of, body_of}
use Rattle.kir.specs.Ways.{LeadsOn, past_end, past_set, past_load, past_store, past_clear, past_barrier, into_chosen}
use Rattle.kir.specs.Ways.{into_other, into_test, into_body, past_loop, to_body}
use Rattle.kir.specs.Steps.{Item, with_tasks, tasks_next}
use Rattle.kir.specs.Meaning.{AnswersTo, GoesOn, ItemCanCome}
use Rattle.kir.specs.Cuts.{holds_barrier, is_barrier}
use Rattle.kir.proofs.Across.{or_no}
use Rattle.kir_simplify.specs.Faithful.{point_at}
use Rattle.kir_simplify.specs.Simple.{is_decided}
use Rattle.kir_simplify.specs.Passes.{constant_value, spliced, spliced_of}
use Rattle.kir_simplify.proofs.SplicedPlaces.{Bit, bit, Spot, Mark, Own, More, spliced_tasks, head_lines, rest_tasks}
use Rattle.kir_simplify.proofs.SplicedPlaces.{bits}
use Rattle.kir_simplify.proofs.SplicedPlaces.{moved_to, IsKept, kept_skip, join_assoc}
use Rattle.kir_simplify.proofs.SplicedItems.{placed, IsThere, AreFine, AreJoined}
use Rattle.kir_simplify.proofs.SplicedItems.{behind_on, chosen_on, other_on, under_way, test_there, body_there}
use Rattle.kir_simplify.proofs.SplicedItems.{popped_same}
use Rattle.kir_simplify.proofs.SplicedItems.{popped_fine, other_there, chosen_there}
use Rattle.kir_simplify.proofs.SplicedText.{none_held}
use Rattle.kir_simplify.proofs.SplicedOrigins.{back, back_placed, passed}
use Rattle.kir_simplify.proofs.Spliced.{ComesToo, begun_both}

-- ---- ways

-- a way leads to the point
data Reach : Tasks → Option Point → Type 0 where
  here : (t : Tasks) (q : Option Point) → point_of t ≡ q → Reach t q
  on : (t next : Tasks) (q : Option Point) → LeadsOn t next → Reach next q → Reach t q

-- one of at most so many steps
abbrev ReachIn : ℕ → Tasks → Option Point → Type 0
ReachIn zero t q = point_of t ≡ q
ReachIn (suc n) t q = (point_of t ≡ q) ⊎ ((next : Tasks) × LeadsOn t next × ReachIn n next q)

later : (n : ℕ) (t : Tasks) (q : Option Point) → ReachIn n t q → ReachIn (suc n) t q
later zero t q c = inl c
later (suc n) t q (inl e) = inl e
later (suc n) t q (inr r) = inr (r.0, r.1, later n r.0 q r.2)

-- lines can be walked to their end, whatever they are
walk : (lines : Lines) (p : Place) (k : Tasks) (q : Option Point) → Reach k q → Reach (LinesAt p lines k) q
walk NoLine p k q r = on _ _ q (past_end p k) r
walk (SetThen to work rest) p k q r = on _ _ q (past_set p to work rest k) (walk rest (Behind ∷ p) k q r)
walk (LoadThen site to element root index rest) p k q r =
    on _ _ q (past_load p site to element root index rest k) (walk rest (Behind ∷ p) k q r)
walk (StoreThen site element root index from rest) p k q r =
    on _ _ q (past_store p site element root index from rest k) (walk rest (Behind ∷ p) k q r)
walk (ClearThen array rest) p k q r = on _ _ q (past_clear p array rest k) (walk rest (Behind ∷ p) k q r)
walk (IfThen site test chosen other rest) p k q r =
    on _ _ q (into_chosen p site test chosen other rest k)
    (walk chosen (IntoChosen ∷ p) (LinesAt (Behind ∷ p) rest k) q (walk rest (Behind ∷ p) k q r))
walk (LoopThen site true test answer body rest) p k q r =
    on _ _ q (into_test p site test answer body rest k)
    (walk test (IntoTest ∷ p) (AnswerAt p test answer body 0 (LinesAt (Behind ∷ p) rest k)) q
    (on _ _ q (past_loop p test answer body 0 (LinesAt (Behind ∷ p) rest k)) (walk rest (Behind ∷ p) k q r)))
walk (LoopThen site false test answer body rest) p k q r =
    on _ _ q (into_body p site test answer body rest k)
    (walk body (IntoBody ∷ p)
    (LinesAt (IntoTest ∷ p) test (AnswerAt p test answer body 1 (LinesAt (Behind ∷ p) rest k))) q
    (walk test (IntoTest ∷ p) (AnswerAt p test answer body 1 (LinesAt (Behind ∷ p) rest k)) q
    (on _ _ q (past_loop p test answer body 1 (LinesAt (Behind ∷ p) rest k)) (walk rest (Behind ∷ p) k q r))))
walk (BarrierThen site rest) p k q r = on _ _ q (past_barrier p site rest k) (walk rest (Behind ∷ p) k q r)

-- and those before others, to the others
walk_to : (lines tail : Lines) (p : Place) (k : Tasks) (q : Option Point) →
    Reach (LinesAt (place_behind lines p) tail k) q → Reach (LinesAt p (joined_to lines tail) k) q
walk_to NoLine tail p k q r = r
walk_to (SetThen to work rest) tail p k q r =
    on _ _ q (past_set p to work (joined_to rest tail) k) (walk_to rest tail (Behind ∷ p) k q r)
walk_to (LoadThen site to element root index rest) tail p k q r =
    on _ _ q (past_load p site to element root index (joined_to rest tail) k) (walk_to rest tail (Behind ∷ p) k q r)
walk_to (StoreThen site element root index from rest) tail p k q r =
    on _ _ q (past_store p site element root index from (joined_to rest tail) k)
    (walk_to rest tail (Behind ∷ p) k q r)
walk_to (ClearThen array rest) tail p k q r =
    on _ _ q (past_clear p array (joined_to rest tail) k) (walk_to rest tail (Behind ∷ p) k q r)
walk_to (IfThen site test chosen other rest) tail p k q r =
    on _ _ q (into_chosen p site test chosen other (joined_to rest tail) k)
    (walk chosen (IntoChosen ∷ p) (LinesAt (Behind ∷ p) (joined_to rest tail) k) q
    (walk_to rest tail (Behind ∷ p) k q r))
walk_to (LoopThen site true test answer body rest) tail p k q r =
    on _ _ q (into_test p site test answer body (joined_to rest tail) k)
    (walk test (IntoTest ∷ p) (AnswerAt p test answer body 0 (LinesAt (Behind ∷ p) (joined_to rest tail) k)) q
    (on _ _ q (past_loop p test answer body 0 (LinesAt (Behind ∷ p) (joined_to rest tail) k))
    (walk_to rest tail (Behind ∷ p) k q r)))
walk_to (LoopThen site false test answer body rest) tail p k q r =
    on _ _ q (into_body p site test answer body (joined_to rest tail) k)
    (walk body (IntoBody ∷ p)
    (LinesAt (IntoTest ∷ p) test (AnswerAt p test answer body 1 (LinesAt (Behind ∷ p) (joined_to rest tail) k))) q
    (walk test (IntoTest ∷ p) (AnswerAt p test answer body 1 (LinesAt (Behind ∷ p) (joined_to rest tail) k)) q
    (on _ _ q (past_loop p test answer body 1 (LinesAt (Behind ∷ p) (joined_to rest tail) k))
    (walk_to rest tail (Behind ∷ p) k q r))))
walk_to (BarrierThen site rest) tail p k q r =
    on _ _ q (past_barrier p site (joined_to rest tail) k) (walk_to rest tail (Behind ∷ p) k q r)

-- ---- ways of items

module _ (some : Kernel) (launch : Launch) where
  abbrev item_at : ℕ → (ℕ → ℤ) → Tasks → Item
  item_at number cells t = record { number = number; cells = cells; tasks = t }

  -- an item can go any way
  leg_come : (number : ℕ) (cells : ℕ → ℤ) (t next : Tasks) (q : Option Point) → LeadsOn t next →
      ((i : Item) → i.tasks ≡ next → ItemCanCome some launch i q) → ItemCanCome some launch (item_at number cells t) q
  leg_come number cells _ _ q (past_end at k) f = by_step refl (f _ refl)
  leg_come number cells _ _ q (past_set at to work rest k) f = by_step refl (f _ refl)
  leg_come number cells _ _ q (past_load at site to element root index rest k) f = by_step (tt, ([], refl)) (f _ refl)
  leg_come number cells _ _ q (past_store at site element root index from rest k) f = by_step (tt, refl) (f _ refl)
  leg_come number cells _ _ q (past_clear at array rest k) f = by_step (tt, refl) (f _ refl)
  leg_come number cells _ _ q (past_barrier at site rest k) f = by_step refl (f _ refl)
  leg_come number cells _ _ q (into_chosen at site test chosen other rest k) f = by_test (pos 1, refl) (f _ refl)
  leg_come number cells _ _ q (into_other at site test chosen other rest k) f = by_test (pos 0, refl) (f _ refl)
  leg_come number cells _ _ q (into_test at site test answer body rest k) f = by_step refl (f _ refl)
  leg_come number cells _ _ q (into_body at site test answer body rest k) f = by_step refl (f _ refl)
  leg_come number cells _ _ q (past_loop at test answer body n k) f = by_test (pos 0, refl) (f _ refl)
  leg_come number cells _ _ q (to_body at test answer body n k) f = by_test (pos 1, refl) (f _ refl)

  way_come : (t : Tasks) (q : Option Point) → Reach t q → (i : Item) → i.tasks ≡ t → ItemCanCome some launch i q
  way_come _ _ (here t q e) i same = subst (λ x. ItemCanCome some launch i x) (ap point_of same ∙ e) arrived
  way_come _ _ (on t next q leg r) i same =
      subst (λ (x : Tasks). ItemCanCome some launch (item_at i.number i.cells x) q) (sym same)
      (leg_come i.number i.cells t next q leg (way_come next q r))

  -- and goes on one
  led : (i to : Item) (t : Tasks) → MayLead GoesOn (tasks_next some launch i t) to → LeadsOn t to.tasks
  led i to NoTask h = absurd h
  led i to (LinesAt at NoLine k) h = subst (λ (x : Item). LeadsOn (LinesAt at NoLine k) x.tasks) h (past_end at k)
  led i to (LinesAt at (SetThen c work rest) k) h =
      subst (λ (x : Item). LeadsOn (LinesAt at (SetThen c work rest) k) x.tasks) h (past_set at c work rest k)
  led i to (LinesAt at (LoadThen site c element root index rest) k) h =
      subst (λ (x : Item). LeadsOn (LinesAt at (LoadThen site c element root index rest) k) x.tasks) h.1.1
      (past_load at site c element root index rest k)
  led i to (LinesAt at (StoreThen site element root index from rest) k) h =
      subst (λ (x : Item). LeadsOn (LinesAt at (StoreThen site element root index from rest) k) x.tasks) h.1
      (past_store at site element root index from rest k)
  led i to (LinesAt at (ClearThen array rest) k) h =
      subst (λ (x : Item). LeadsOn (LinesAt at (ClearThen array rest) k) x.tasks) h.1 (past_clear at array rest k)
  led i to (LinesAt at (IfThen site test chosen other rest) k) h = by_answer (is_zero _) h
    where
      by_answer : (z : Test) → with_tasks i (if z then LinesAt (IntoOther ∷ at) other (LinesAt (Behind ∷ at) rest k)
          else LinesAt (IntoChosen ∷ at) chosen (LinesAt (Behind ∷ at) rest k)) ≡ to →
          LeadsOn (LinesAt at (IfThen site test chosen other rest) k) to.tasks
      by_answer true h = subst (λ (x : Item). LeadsOn (LinesAt at (IfThen site test chosen other rest) k) x.tasks) h
          (into_other at site test chosen other rest k)
      by_answer false h = subst (λ (x : Item). LeadsOn (LinesAt at (IfThen site test chosen other rest) k) x.tasks) h
          (into_chosen at site test chosen other rest k)
  led i to (LinesAt at (LoopThen site true test answer body rest) k) h =
      subst (λ (x : Item). LeadsOn (LinesAt at (LoopThen site true test answer body rest) k) x.tasks) h
      (into_test at site test answer body rest k)
  led i to (LinesAt at (LoopThen site false test answer body rest) k) h =
      subst (λ (x : Item). LeadsOn (LinesAt at (LoopThen site false test answer body rest) k) x.tasks) h
      (into_body at site test answer body rest k)
  led i to (LinesAt at (BarrierThen site rest) k) h =
      subst (λ (x : Item). LeadsOn (LinesAt at (BarrierThen site rest) k) x.tasks) h (past_barrier at site rest k)
  led i to (AnswerAt at test answer body n k) h = by_answer (is_zero _) h
    where
      by_answer : (z : Test) → MayLead GoesOn (if z then Goes (with_tasks i k)
          else Begins (with_tasks i (iteration at test answer body (suc n) k))) to →
          LeadsOn (AnswerAt at test answer body n k) to.tasks
      by_answer true h = subst (λ (x : Item). LeadsOn (AnswerAt at test answer body n k) x.tasks) h
          (past_loop at test answer body n k)
      by_answer false h = subst (λ (x : Item). LeadsOn (AnswerAt at test answer body n k) x.tasks) h
          (to_body at test answer body n k)

  answer_led : (v : ℤ) (i to : Item) (t : Tasks) → AnswersTo v i t to → LeadsOn t to.tasks
  answer_led v i to NoTask h = absurd h
  answer_led v i to (LinesAt at NoLine k) h = absurd h
  answer_led v i to (LinesAt at (SetThen c work rest) k) h = absurd h
  answer_led v i to (LinesAt at (LoadThen site c element root index rest) k) h = absurd h
  answer_led v i to (LinesAt at (StoreThen site element root index from rest) k) h = absurd h
  answer_led v i to (LinesAt at (ClearThen array rest) k) h = absurd h
  answer_led v i to (LinesAt at (IfThen site test chosen other rest) k) h = by_answer (is_zero v) h
    where
      by_answer : (z : Test) → with_tasks i (if z then LinesAt (IntoOther ∷ at) other (LinesAt (Behind ∷ at) rest k)
          else LinesAt (IntoChosen ∷ at) chosen (LinesAt (Behind ∷ at) rest k)) ≡ to →
          LeadsOn (LinesAt at (IfThen site test chosen other rest) k) to.tasks
      by_answer true h = subst (λ (x : Item). LeadsOn (LinesAt at (IfThen site test chosen other rest) k) x.tasks) h
          (into_other at site test chosen other rest k)
      by_answer false h = subst (λ (x : Item). LeadsOn (LinesAt at (IfThen site test chosen other rest) k) x.tasks) h
          (into_chosen at site test chosen other rest k)
  answer_led v i to (LinesAt at (LoopThen site first test answer body rest) k) h = absurd h
  answer_led v i to (LinesAt at (BarrierThen site rest) k) h = absurd h
  answer_led v i to (AnswerAt at test answer body n k) h = by_answer (is_zero v) h
    where
      by_answer : (z : Test) → with_tasks i (if z then k else iteration at test answer body (suc n) k) ≡ to →
          LeadsOn (AnswerAt at test answer body n k) to.tasks
      by_answer true h = subst (λ (x : Item). LeadsOn (AnswerAt at test answer body n k) x.tasks) h
          (past_loop at test answer body n k)
      by_answer false h = subst (λ (x : Item). LeadsOn (AnswerAt at test answer body n k) x.tasks) h
          (to_body at test answer body n k)

  come_way : (i : Item) (q : Option Point) → ItemCanCome some launch i q → (n : ℕ) × ReachIn n i.tasks q
  come_way i q arrived = (0, refl)
  come_way i q (by_step {after = after} m c) =
      let r = come_way after q c in
      (suc r.0, inr (after.tasks, led i after i.tasks m, r.1))
  come_way i q (by_test {after = after} m c) =
      let r = come_way after q c in
      (suc r.0, inr (after.tasks, answer_led m.0 i after i.tasks m.1, r.1))

no_barrier : (lines : Lines) → holds_barrier lines ≡ false → is_barrier lines ≡ false
no_barrier NoLine e = refl
no_barrier (SetThen to work rest) e = refl
no_barrier (LoadThen site to element root index rest) e = refl
no_barrier (StoreThen site element root index from rest) e = refl
no_barrier (ClearThen array rest) e = refl
no_barrier (IfThen site test chosen other rest) e = refl
no_barrier (LoopThen site first test answer body rest) e = refl
no_barrier (BarrierThen site rest) e = absurd (true≢false e)

kept_barrier : (lines : Lines) (bs : List Bit) → is_barrier lines ≡ true → IsKept lines bs
kept_barrier (BarrierThen site rest) bs e = tt
kept_barrier NoLine bs e = absurd (true≢false (sym e))
kept_barrier (SetThen to work rest) bs e = tt
kept_barrier (LoadThen site to element root index rest) bs e = tt
kept_barrier (StoreThen site element root index from rest) bs e = tt
kept_barrier (ClearThen array rest) bs e = tt
kept_barrier (IfThen site test chosen other rest) bs e = absurd (true≢false (sym e))
kept_barrier (LoopThen site first test answer body rest) bs e = tt

module _ (kernel : Kernel) (launch : Launch) where
  abbrev place : Place → Place
  place p = (placed kernel p).at

  module _ (point : Point) (bar : is_barrier (lines_at kernel.body (place point.at)) ≡ true) where
    abbrev goal : Option Point
    goal = Some (point_at place point)

    -- ---- out of a branch without barriers

    data OverQuiet (base : Tasks) : Tasks → Type 0 where
      over_all : OverQuiet base base
      over_lines : (at : Place) (lines : Lines) (k : Tasks) → lines ≡ lines_at kernel.body at →
          holds_barrier lines ≡ false → OverQuiet base k → OverQuiet base (LinesAt at lines k)
      over_answer : (at : Place) (test : Lines) (answer : Atom) (body : Lines) (n : ℕ) (k : Tasks) →
          test ≡ lines_at kernel.body (IntoTest ∷ at) → body ≡ lines_at kernel.body (IntoBody ∷ at) →
          holds_barrier test ≡ false → holds_barrier body ≡ false → OverQuiet base k →
          OverQuiet base (AnswerAt at test answer body n k)

    lines_step : (base : Tasks) (at : Place) (lines : Lines) (k next : Tasks) → LeadsOn (LinesAt at lines k) next →
        lines ≡ lines_at kernel.body at → holds_barrier lines ≡ false → OverQuiet base k → OverQuiet base next
    lines_step base _ _ _ _ (past_end at k) is none h = h
    lines_step base _ _ _ _ (past_set at to work rest k) is none h = over_lines _ _ _ (ap behind is) none h
    lines_step base _ _ _ _ (past_load at site to element root index rest k) is none h =
        over_lines _ _ _ (ap behind is) none h
    lines_step base _ _ _ _ (past_store at site element root index from rest k) is none h =
        over_lines _ _ _ (ap behind is) none h
    lines_step base _ _ _ _ (past_clear at array rest k) is none h = over_lines _ _ _ (ap behind is) none h
    lines_step base _ _ _ _ (past_barrier at site rest k) is none h = absurd (true≢false none)
    lines_step base _ _ _ _ (into_chosen at site test chosen other rest k) is none h =
        let one = or_no (holds_barrier chosen) _ none in
        let two = or_no (holds_barrier other) (holds_barrier rest) one.1 in
        over_lines _ _ _ (ap chosen_of is) one.0 (over_lines _ _ _ (ap behind is) two.1 h)
    lines_step base _ _ _ _ (into_other at site test chosen other rest k) is none h =
        let one = or_no (holds_barrier chosen) _ none in
        let two = or_no (holds_barrier other) (holds_barrier rest) one.1 in
        over_lines _ _ _ (ap other_of is) two.0 (over_lines _ _ _ (ap behind is) two.1 h)
    lines_step base _ _ _ _ (into_test at site test answer body rest k) is none h =
        let one = or_no (holds_barrier test) _ none in
        let two = or_no (holds_barrier body) (holds_barrier rest) one.1 in
        over_lines _ _ _ (ap test_of is) one.0 (over_answer _ _ _ _ _ _ (ap test_of is) (ap body_of is) one.0 two.0
        (over_lines _ _ _ (ap behind is) two.1 h))
    lines_step base _ _ _ _ (into_body at site test answer body rest k) is none h =
        let one = or_no (holds_barrier test) _ none in
        let two = or_no (holds_barrier body) (holds_barrier rest) one.1 in
        over_lines _ _ _ (ap body_of is) two.0 (over_lines _ _ _ (ap test_of is) one.0
        (over_answer _ _ _ _ _ _ (ap test_of is) (ap body_of is) one.0 two.0
        (over_lines _ _ _ (ap behind is) two.1 h)))

    answer_step : (base : Tasks) (at : Place) (test : Lines) (answer : Atom) (body : Lines) (n : ℕ) (k next : Tasks) →
        LeadsOn (AnswerAt at test answer body n k) next → test ≡ lines_at kernel.body (IntoTest ∷ at) →
        body ≡ lines_at kernel.body (IntoBody ∷ at) → holds_barrier test ≡ false → holds_barrier body ≡ false →
        OverQuiet base k → OverQuiet base next
    answer_step base _ _ _ _ _ _ _ (past_loop at test answer body n k) t b x y h = h
    answer_step base _ _ _ _ _ _ _ (to_body at test answer body n k) t b x y h =
        over_lines _ _ _ b y (over_lines _ _ _ t x (over_answer _ _ _ _ _ _ t b x y h))

    not_lines : (at : Place) (lines : Lines) (k : Tasks) → lines ≡ lines_at kernel.body at →
        holds_barrier lines ≡ false → point_of (LinesAt at lines k) ≡ goal → ⊥
    not_lines at lines k is none e =
        let same = same_Some (record { at = at; begun = begun_in k }) (point_at place point) e in
        true≢false (sym bar ∙ (ap (λ (x : Point). is_barrier (lines_at kernel.body x.at)) (sym same) ∙
        (ap is_barrier (sym is) ∙ no_barrier lines none)))

    not_answer : (at : Place) (test : Lines) (answer : Atom) (body : Lines) (n : ℕ) (k : Tasks) →
        point_of (AnswerAt at test answer body n k) ≡ goal → ⊥
    not_answer at test answer body n k e =
        let same = same_Some (record { at = ToAnswer ∷ at; begun = n ∷ begun_in k }) (point_at place point) e in
        true≢false (sym bar ∙ ap (λ (x : Point). is_barrier (lines_at kernel.body x.at)) (sym same))

    quiet_out : (n : ℕ) (base t : Tasks) → OverQuiet base t → ReachIn n t goal → ReachIn n base goal
    quiet_out n base _ over_all c = c
    quiet_out zero base _ (over_lines at lines k is none h) c = absurd (not_lines at lines k is none c)
    quiet_out (suc n) base _ (over_lines at lines k is none h) (inl e) = absurd (not_lines at lines k is none e)
    quiet_out (suc n) base _ (over_lines at lines k is none h) (inr r) =
        later n base goal (quiet_out n base r.0 (lines_step base at lines k r.0 r.1 is none h) r.2)
    quiet_out zero base _ (over_answer at test answer body m k t b x y h) c =
        absurd (not_answer at test answer body m k c)
    quiet_out (suc n) base _ (over_answer at test answer body m k t b x y h) (inl e) =
        absurd (not_answer at test answer body m k e)
    quiet_out (suc n) base _ (over_answer at test answer body m k t b x y h) (inr r) =
        later n base goal (quiet_out n base r.0 (answer_step base at test answer body m k r.0 r.1 t b x y h) r.2)

    -- ---- the simple item goes the same way

    arrives : (t : Tasks) (es : List Mark) → AreFine kernel t es → point_of t ≡ goal →
        point_of (spliced_tasks t es) ≡ Some point
    arrives NoTask es f e = absurd (none-some _ e)
    arrives (LinesAt at lines k) [] f e = absurd f
    arrives (LinesAt at lines k) (Own p ∷ es) f e =
        let same = same_Some (record { at = at; begun = begun_in k }) (point_at place point) e in
        let here : at ≡ place point.at = ap (λ (x : Point). x.at) same in
        let kept = kept_barrier lines [] (ap is_barrier (f.0.is ∙ ap (lines_at kernel.body) here) ∙ bar) in
        let there : place p ≡ at = ap (λ (s : Spot). s.at) (f.0.place ∙ kept_skip at lines [] kept) in
        ap₂ (λ (x : Place) (ns : List ℕ). Some (record { at = x; begun = ns }))
        (sym (back_placed kernel p) ∙ (ap (back kernel) (there ∙ here) ∙ back_placed kernel point.at))
        ((begun_both kernel k es).0 f.1 ∙ ap (λ (x : Point). x.begun) same)
    arrives (LinesAt at lines k) (More p ∷ es) f e =
        let same = same_Some (record { at = at; begun = begun_in k }) (point_at place point) e in
        let here : at ≡ place point.at = ap (λ (x : Point). x.at) same in
        let kept = kept_barrier lines (bits k es)
        (ap is_barrier (f.0.is ∙ ap (lines_at kernel.body) here) ∙ bar) in
        let there : place p ≡ at = ap (λ (s : Spot). s.at) (f.0.place ∙ kept_skip at lines (bits k es) kept) in
        ap₂ (λ (x : Place) (ns : List ℕ). Some (record { at = x; begun = ns }))
        (sym (back_placed kernel p) ∙ (ap (back kernel) (there ∙ here) ∙ back_placed kernel point.at))
        ((begun_both kernel k es).1 f.1 ∙ ap (λ (x : Point). x.begun) same)
    arrives (AnswerAt at test answer body n k) es f e = absurd (not_answer at test answer body n k e)

    abbrev Follow : ℕ → Type 0
    Follow n = (t : Tasks) (es : List Mark) → AreFine kernel t es → ReachIn n t goal →
        Reach (spliced_tasks t es) (Some point)

    go_behind : (n : ℕ) → Follow n → (at : Place) (lines : Lines) (k : Tasks) (es : List Mark) →
        AreFine kernel (LinesAt at lines k) es → ((bs : List Bit) → IsKept lines bs)
        → ((p : Place) (base : Tasks) → LeadsOn (LinesAt p (spliced lines) base)
        (LinesAt (Behind ∷ p) (spliced (behind lines)) base))
        → ((p : Place) (base : Tasks) (tail : Lines) → LeadsOn (LinesAt p (joined_to (spliced lines) tail) base)
        (LinesAt (Behind ∷ p) (joined_to (spliced (behind lines)) tail) base))
        → ReachIn n (LinesAt (Behind ∷ at) (behind lines) k) goal →
        Reach (spliced_tasks (LinesAt at lines k) es) (Some point)
    go_behind n follow at lines k [] f kept own more c = absurd f
    go_behind n follow at lines k (Own p ∷ es) f kept own more c =
        on _ _ _ (own p (spliced_tasks k es)) (follow (LinesAt (Behind ∷ at) (behind lines) k) (Own (Behind ∷ p) ∷ es)
        (behind_on kernel p at lines [] f.0 (kept []), f.1) c)
    go_behind n follow at lines k (More p ∷ es) f kept own more c =
        on _ _ _ (more p (rest_tasks (spliced_tasks k es)) (head_lines (spliced_tasks k es)))
        (follow (LinesAt (Behind ∷ at) (behind lines) k) (More (Behind ∷ p) ∷ es)
        (behind_on kernel p at lines (bits k es) f.0 (kept (bits k es)), f.1) c)

    -- an if: the one branch is taken, or none is by a constant; to the branch that is not, and out of it
    abbrev Behinds : Place → Lines → Tasks → Tasks
    Behinds at rest k = LinesAt (Behind ∷ at) rest k

    quiet_branch : (n : ℕ) (at at' : Place) (branch rest : Lines) (k : Tasks) → branch ≡ lines_at kernel.body at' →
        holds_barrier branch ≡ false → ReachIn n (LinesAt at' branch (Behinds at rest k)) goal →
        ReachIn n (Behinds at rest k) goal
    quiet_branch n at at' branch rest k is none c =
        quiet_out n (Behinds at rest k) (LinesAt at' branch (Behinds at rest k))
        (over_lines at' branch (Behinds at rest k) is none over_all) c

    -- the text of a choice that a constant makes
    abbrev Joined : Test → Lines → Lines → Lines → Lines
    Joined z chosen other rest = joined_to (if z then spliced other else spliced chosen) (spliced rest)

    -- where a constant decides, the text is that of the branch and what is behind it
    decided_own : (p : Place) (site : ℕ) (test : Atom) (chosen other rest : Lines) (k : Tasks) (es : List Mark) →
        is_decided test chosen other ≡ true → (z : Test) → is_zero (constant_value test) ≡ z
        → Reach (LinesAt p (joined_to (if z then spliced other else spliced chosen) (spliced rest))
        (spliced_tasks k es)) (Some point)
        → Reach (LinesAt p (spliced (IfThen site test chosen other rest)) (spliced_tasks k es)) (Some point)
    decided_own p site test chosen other rest k es ed z ez r =
        subst (λ (x : Test). Reach (LinesAt p (if x then Joined (is_zero (constant_value test)) chosen other rest
        else IfThen site test (spliced chosen) (spliced other) (spliced rest)) (spliced_tasks k es)) (Some point))
        (sym ed)
        (subst (λ (x : Test). Reach (LinesAt p (Joined x chosen other rest) (spliced_tasks k es)) (Some point)) (sym ez)
        r)

    decided_more : (p : Place) (site : ℕ) (test : Atom) (chosen other rest : Lines) (k : Tasks) (es : List Mark) →
        is_decided test chosen other ≡ true → (z : Test) → is_zero (constant_value test) ≡ z
        → Reach (LinesAt p (joined_to (if z then spliced other else spliced chosen)
        (joined_to (spliced rest) (head_lines (spliced_tasks k es)))) (rest_tasks (spliced_tasks k es))) (Some point)
        → Reach (LinesAt p (joined_to (spliced (IfThen site test chosen other rest)) (head_lines (spliced_tasks k es)))
        (rest_tasks (spliced_tasks k es))) (Some point)
    decided_more p site test chosen other rest k es ed z ez r =
        subst (λ (x : Test). Reach (LinesAt p (joined_to (if x
        then Joined (is_zero (constant_value test)) chosen other rest
        else IfThen site test (spliced chosen) (spliced other) (spliced rest)) (head_lines (spliced_tasks k es)))
        (rest_tasks (spliced_tasks k es))) (Some point)) (sym ed)
        (subst (λ (x : Test). Reach (LinesAt p (joined_to (Joined x chosen other rest)
        (head_lines (spliced_tasks k es)))
        (rest_tasks (spliced_tasks k es))) (Some point)) (sym ez)
        (subst (λ (x : Lines). Reach (LinesAt p x (rest_tasks (spliced_tasks k es))) (Some point))
        (sym (join_assoc (if z then spliced other else spliced chosen) (spliced rest)
        (head_lines (spliced_tasks k es)))) r))

    -- through the branch that is taken
    own_other : (n : ℕ) → Follow n → (at : Place) (site : ℕ) (test : Atom) (chosen other rest : Lines) (k : Tasks)
        (p : Place) (es : List Mark) → IsThere kernel p at (IfThen site test chosen other rest) [] →
        AreFine kernel k es →
        is_decided test chosen other ≡ true → is_zero (constant_value test) ≡ true →
        (ReachIn n (LinesAt (IntoOther ∷ at) other (Behinds at rest k)) goal ⊎ ReachIn n (Behinds at rest k) goal)
        → Reach (LinesAt p (joined_to (spliced other) (spliced rest)) (spliced_tasks k es)) (Some point)
    own_other n follow at site test chosen other rest k p es h f d z (inl c) =
        follow (LinesAt (IntoOther ∷ at) other (Behinds at rest k)) (More p ∷ (Own p ∷ es))
        (other_there kernel launch p at site test chosen other rest [] h d z, (ap behind h.is, f)) c
    own_other n follow at site test chosen other rest k p es h f d z (inr c) =
        let q = place_behind (spliced other) p in
        walk_to (spliced other) (spliced rest) p (spliced_tasks k es) (Some point)
        (follow (Behinds at rest k) (Own q ∷ es) (
          record {
            place = passed kernel other p (IntoOther ∷ at) (bit (Behind ∷ at) rest) []
                (other_there kernel launch p at site test chosen other rest [] h d z).place;
            is = ap behind h.is;
          },
          f,
        ) c)

    own_chosen : (n : ℕ) → Follow n → (at : Place) (site : ℕ) (test : Atom) (chosen other rest : Lines) (k : Tasks)
        (p : Place) (es : List Mark) → IsThere kernel p at (IfThen site test chosen other rest) [] →
        AreFine kernel k es →
        is_decided test chosen other ≡ true → is_zero (constant_value test) ≡ false →
        (ReachIn n (LinesAt (IntoChosen ∷ at) chosen (Behinds at rest k)) goal ⊎ ReachIn n (Behinds at rest k) goal)
        → Reach (LinesAt p (joined_to (spliced chosen) (spliced rest)) (spliced_tasks k es)) (Some point)
    own_chosen n follow at site test chosen other rest k p es h f d z (inl c) =
        follow (LinesAt (IntoChosen ∷ at) chosen (Behinds at rest k)) (More p ∷ (Own p ∷ es))
        (chosen_there kernel launch p at site test chosen other rest [] h d z, (ap behind h.is, f)) c
    own_chosen n follow at site test chosen other rest k p es h f d z (inr c) =
        let q = place_behind (spliced chosen) p in
        walk_to (spliced chosen) (spliced rest) p (spliced_tasks k es) (Some point)
        (follow (Behinds at rest k) (Own q ∷ es) (
          record {
            place = passed kernel chosen p (IntoChosen ∷ at) (bit (Behind ∷ at) rest) []
                (chosen_there kernel launch p at site test chosen other rest [] h d z).place;
            is = ap behind h.is;
          },
          f,
        ) c)

    -- the same before the next part
    more_other : (n : ℕ) → Follow n → (at : Place) (site : ℕ) (test : Atom) (chosen other rest : Lines) (k : Tasks)
        (p : Place) (es : List Mark) → IsThere kernel p at (IfThen site test chosen other rest) (bits k es) →
        AreJoined kernel k es → is_decided test chosen other ≡ true → is_zero (constant_value test) ≡ true →
        (ReachIn n (LinesAt (IntoOther ∷ at) other (Behinds at rest k)) goal ⊎ ReachIn n (Behinds at rest k) goal)
        → Reach (LinesAt p (joined_to (spliced other) (joined_to (spliced rest) (head_lines (spliced_tasks k es))))
        (rest_tasks (spliced_tasks k es))) (Some point)
    more_other n follow at site test chosen other rest k p es h f d z (inl c) =
        follow (LinesAt (IntoOther ∷ at) other (Behinds at rest k)) (More p ∷ (More p ∷ es))
        (other_there kernel launch p at site test chosen other rest (bits k es) h d z, (ap behind h.is, f)) c
    more_other n follow at site test chosen other rest k p es h f d z (inr c) =
        let q = place_behind (spliced other) p in
        walk_to (spliced other) (joined_to (spliced rest) (head_lines (spliced_tasks k es))) p
        (rest_tasks (spliced_tasks k es)) (Some point)
        (follow (Behinds at rest k) (More q ∷ es) (
          record {
            place = passed kernel other p (IntoOther ∷ at) (bit (Behind ∷ at) rest) (bits k es)
                (other_there kernel launch p at site test chosen other rest (bits k es) h d z).place;
            is = ap behind h.is;
          },
          f,
        ) c)

    more_chosen : (n : ℕ) → Follow n → (at : Place) (site : ℕ) (test : Atom) (chosen other rest : Lines) (k : Tasks)
        (p : Place) (es : List Mark) → IsThere kernel p at (IfThen site test chosen other rest) (bits k es) →
        AreJoined kernel k es → is_decided test chosen other ≡ true → is_zero (constant_value test) ≡ false →
        (ReachIn n (LinesAt (IntoChosen ∷ at) chosen (Behinds at rest k)) goal ⊎ ReachIn n (Behinds at rest k) goal)
        → Reach (LinesAt p (joined_to (spliced chosen) (joined_to (spliced rest) (head_lines (spliced_tasks k es))))
        (rest_tasks (spliced_tasks k es))) (Some point)
    more_chosen n follow at site test chosen other rest k p es h f d z (inl c) =
        follow (LinesAt (IntoChosen ∷ at) chosen (Behinds at rest k)) (More p ∷ (More p ∷ es))
        (chosen_there kernel launch p at site test chosen other rest (bits k es) h d z, (ap behind h.is, f)) c
    more_chosen n follow at site test chosen other rest k p es h f d z (inr c) =
        let q = place_behind (spliced chosen) p in
        walk_to (spliced chosen) (joined_to (spliced rest) (head_lines (spliced_tasks k es))) p
        (rest_tasks (spliced_tasks k es)) (Some point)
        (follow (Behinds at rest k) (More q ∷ es) (
          record {
            place = passed kernel chosen p (IntoChosen ∷ at) (bit (Behind ∷ at) rest) (bits k es)
                (chosen_there kernel launch p at site test chosen other rest (bits k es) h d z).place;
            is = ap behind h.is;
          },
          f,
        ) c)

    -- which of the branches the given item goes to
    choice_chosen : (n : ℕ) → Follow n → (at : Place) (site : ℕ) (test : Atom) (chosen other rest : Lines) (k : Tasks)
        (es : List Mark) → AreFine kernel (LinesAt at (IfThen site test chosen other rest) k) es → (d : Test) →
        is_decided test chosen other ≡ d → (z : Test) → is_zero (constant_value test) ≡ z →
        ReachIn n (LinesAt (IntoChosen ∷ at) chosen (Behinds at rest k)) goal →
        Reach (spliced_tasks (LinesAt at (IfThen site test chosen other rest) k) es) (Some point)
    choice_chosen n follow at site test chosen other rest k [] f d ed z ez c = absurd f
    choice_chosen n follow at site test chosen other rest k (Own p ∷ es) f false ed z ez c =
        subst (λ (x : Test). Reach (LinesAt p (if x then Joined (is_zero (constant_value test)) chosen other rest
        else IfThen site test (spliced chosen) (spliced other) (spliced rest)) (spliced_tasks k es)) (Some point))
        (sym ed)
        (on _ _ _ (into_chosen p site test (spliced chosen) (spliced other) (spliced rest) (spliced_tasks k es))
        (follow (LinesAt (IntoChosen ∷ at) chosen (Behinds at rest k))
        (Own (IntoChosen ∷ p) ∷ (Own (Behind ∷ p) ∷ es)) (
          chosen_on kernel p at (IfThen site test chosen other rest) [] f.0 ed,
          (behind_on kernel p at (IfThen site test chosen other rest) [] f.0 ed, f.1),
        ) c))
    choice_chosen n follow at site test chosen other rest k (More p ∷ es) f false ed z ez c =
        subst (λ (x : Test). Reach (LinesAt p (joined_to (if x
        then Joined (is_zero (constant_value test)) chosen other rest
        else IfThen site test (spliced chosen) (spliced other) (spliced rest)) (head_lines (spliced_tasks k es)))
        (rest_tasks (spliced_tasks k es))) (Some point)) (sym ed)
        (on _ _ _ (into_chosen p site test (spliced chosen) (spliced other)
        (joined_to (spliced rest) (head_lines (spliced_tasks k es))) (rest_tasks (spliced_tasks k es)))
        (follow (LinesAt (IntoChosen ∷ at) chosen (Behinds at rest k))
        (Own (IntoChosen ∷ p) ∷ (More (Behind ∷ p) ∷ es)) (
          chosen_on kernel p at (IfThen site test chosen other rest) (bits k es) f.0 ed,
          (behind_on kernel p at (IfThen site test chosen other rest) (bits k es) f.0 ed, f.1),
        ) c))
    choice_chosen n follow at site test chosen other rest k (Own p ∷ es) f true ed true ez c =
        decided_own p site test chosen other rest k es ed true ez
        (own_other n follow at site test chosen other rest k p es f.0 f.1 ed ez
        (inr (quiet_branch n at (IntoChosen ∷ at) chosen rest k (ap chosen_of f.0.is)
        (none_held test chosen other ed).0 c)))
    choice_chosen n follow at site test chosen other rest k (Own p ∷ es) f true ed false ez c =
        decided_own p site test chosen other rest k es ed false ez
        (own_chosen n follow at site test chosen other rest k p es f.0 f.1 ed ez (inl c))
    choice_chosen n follow at site test chosen other rest k (More p ∷ es) f true ed true ez c =
        decided_more p site test chosen other rest k es ed true ez
        (more_other n follow at site test chosen other rest k p es f.0 f.1 ed ez
        (inr (quiet_branch n at (IntoChosen ∷ at) chosen rest k (ap chosen_of f.0.is)
        (none_held test chosen other ed).0 c)))
    choice_chosen n follow at site test chosen other rest k (More p ∷ es) f true ed false ez c =
        decided_more p site test chosen other rest k es ed false ez
        (more_chosen n follow at site test chosen other rest k p es f.0 f.1 ed ez (inl c))

    choice_other : (n : ℕ) → Follow n → (at : Place) (site : ℕ) (test : Atom) (chosen other rest : Lines) (k : Tasks)
        (es : List Mark) → AreFine kernel (LinesAt at (IfThen site test chosen other rest) k) es → (d : Test) →
        is_decided test chosen other ≡ d → (z : Test) → is_zero (constant_value test) ≡ z →
        ReachIn n (LinesAt (IntoOther ∷ at) other (Behinds at rest k)) goal →
        Reach (spliced_tasks (LinesAt at (IfThen site test chosen other rest) k) es) (Some point)
    choice_other n follow at site test chosen other rest k [] f d ed z ez c = absurd f
    choice_other n follow at site test chosen other rest k (Own p ∷ es) f false ed z ez c =
        subst (λ (x : Test). Reach (LinesAt p (if x then Joined (is_zero (constant_value test)) chosen other rest
        else IfThen site test (spliced chosen) (spliced other) (spliced rest)) (spliced_tasks k es)) (Some point))
        (sym ed)
        (on _ _ _ (into_other p site test (spliced chosen) (spliced other) (spliced rest) (spliced_tasks k es))
        (follow (LinesAt (IntoOther ∷ at) other (Behinds at rest k)) (Own (IntoOther ∷ p) ∷ (Own (Behind ∷ p) ∷ es)) (
          other_on kernel p at (IfThen site test chosen other rest) [] f.0 ed,
          (behind_on kernel p at (IfThen site test chosen other rest) [] f.0 ed, f.1),
        ) c))
    choice_other n follow at site test chosen other rest k (More p ∷ es) f false ed z ez c =
        subst (λ (x : Test). Reach (LinesAt p (joined_to (if x
        then Joined (is_zero (constant_value test)) chosen other rest
        else IfThen site test (spliced chosen) (spliced other) (spliced rest)) (head_lines (spliced_tasks k es)))
        (rest_tasks (spliced_tasks k es))) (Some point)) (sym ed)
        (on _ _ _ (into_other p site test (spliced chosen) (spliced other)
        (joined_to (spliced rest) (head_lines (spliced_tasks k es))) (rest_tasks (spliced_tasks k es)))
        (follow (LinesAt (IntoOther ∷ at) other (Behinds at rest k)) (Own (IntoOther ∷ p) ∷ (More (Behind ∷ p) ∷ es)) (
          other_on kernel p at (IfThen site test chosen other rest) (bits k es) f.0 ed,
          (behind_on kernel p at (IfThen site test chosen other rest) (bits k es) f.0 ed, f.1),
        ) c))
    choice_other n follow at site test chosen other rest k (Own p ∷ es) f true ed true ez c =
        decided_own p site test chosen other rest k es ed true ez
        (own_other n follow at site test chosen other rest k p es f.0 f.1 ed ez (inl c))
    choice_other n follow at site test chosen other rest k (Own p ∷ es) f true ed false ez c =
        decided_own p site test chosen other rest k es ed false ez
        (own_chosen n follow at site test chosen other rest k p es f.0 f.1 ed ez
        (inr (quiet_branch n at (IntoOther ∷ at) other rest k (ap other_of f.0.is)
        (none_held test chosen other ed).1 c)))
    choice_other n follow at site test chosen other rest k (More p ∷ es) f true ed true ez c =
        decided_more p site test chosen other rest k es ed true ez
        (more_other n follow at site test chosen other rest k p es f.0 f.1 ed ez (inl c))
    choice_other n follow at site test chosen other rest k (More p ∷ es) f true ed false ez c =
        decided_more p site test chosen other rest k es ed false ez
        (more_chosen n follow at site test chosen other rest k p es f.0 f.1 ed ez
        (inr (quiet_branch n at (IntoOther ∷ at) other rest k (ap other_of f.0.is)
        (none_held test chosen other ed).1 c)))

    -- past the end of a part
    go_end : (n : ℕ) → Follow n → (at : Place) (k : Tasks) (es : List Mark) → AreFine kernel (LinesAt at NoLine k) es →
        ReachIn n k goal → Reach (spliced_tasks (LinesAt at NoLine k) es) (Some point)
    go_end n follow at k [] f c = absurd f
    go_end n follow at k (Own p ∷ es) f c = on _ _ _ (past_end p (spliced_tasks k es)) (follow k es f.1 c)
    go_end n follow at k (More p ∷ es) f c =
        subst (λ (x : Tasks). Reach x (Some point)) (sym (popped_same kernel launch p k es f.1))
        (follow k (moved_to p es) (popped_fine kernel launch p at k es f.0 f.1) c)

    -- into a loop
    go_test : (n : ℕ) → Follow n → (at : Place) (site : ℕ) (test : Lines) (answer : Atom) (body rest : Lines)
        (k : Tasks)
        (es : List Mark) → AreFine kernel (LinesAt at (LoopThen site true test answer body rest) k) es →
        ReachIn n (LinesAt (IntoTest ∷ at) test (AnswerAt at test answer body 0 (Behinds at rest k))) goal →
        Reach (spliced_tasks (LinesAt at (LoopThen site true test answer body rest) k) es) (Some point)
    go_test n follow at site test answer body rest k [] f c = absurd f
    go_test n follow at site test answer body rest k (Own p ∷ es) f c =
        let u = under_way kernel p at site true test answer body rest [] f.0 in
        on _ _ _ (into_test p site (spliced test) answer (spliced body) (spliced rest) (spliced_tasks k es))
        (follow (LinesAt (IntoTest ∷ at) test (AnswerAt at test answer body 0 (Behinds at rest k)))
        (Own (IntoTest ∷ p) ∷ (Own p ∷ (Own (Behind ∷ p) ∷ es))) (
          test_there kernel p at test answer body u,
          (u, (behind_on kernel p at (LoopThen site true test answer body rest) [] f.0 tt, f.1)),
        ) c)
    go_test n follow at site test answer body rest k (More p ∷ es) f c =
        let u = under_way kernel p at site true test answer body rest (bits k es) f.0 in
        on _ _ _ (into_test p site (spliced test) answer (spliced body)
        (joined_to (spliced rest) (head_lines (spliced_tasks k es))) (rest_tasks (spliced_tasks k es)))
        (follow (LinesAt (IntoTest ∷ at) test (AnswerAt at test answer body 0 (Behinds at rest k)))
        (Own (IntoTest ∷ p) ∷ (Own p ∷ (More (Behind ∷ p) ∷ es))) (
          test_there kernel p at test answer body u,
          (u, (behind_on kernel p at (LoopThen site true test answer body rest) (bits k es) f.0 tt, f.1)),
        ) c)

    go_body : (n : ℕ) → Follow n → (at : Place) (site : ℕ) (test : Lines) (answer : Atom) (body rest : Lines)
        (k : Tasks)
        (es : List Mark) → AreFine kernel (LinesAt at (LoopThen site false test answer body rest) k) es →
        ReachIn n (iteration at test answer body 1 (Behinds at rest k)) goal →
        Reach (spliced_tasks (LinesAt at (LoopThen site false test answer body rest) k) es) (Some point)
    go_body n follow at site test answer body rest k [] f c = absurd f
    go_body n follow at site test answer body rest k (Own p ∷ es) f c =
        let u = under_way kernel p at site false test answer body rest [] f.0 in
        on _ _ _ (into_body p site (spliced test) answer (spliced body) (spliced rest) (spliced_tasks k es))
        (follow (iteration at test answer body 1 (Behinds at rest k))
        (Own (IntoBody ∷ p) ∷ (Own (IntoTest ∷ p) ∷ (Own p ∷ (Own (Behind ∷ p) ∷ es)))) (
          body_there kernel p at test answer body u,
          (
            test_there kernel p at test answer body u,
            (u, (behind_on kernel p at (LoopThen site false test answer body rest) [] f.0 tt, f.1)),
          ),
        ) c)
    go_body n follow at site test answer body rest k (More p ∷ es) f c =
        let u = under_way kernel p at site false test answer body rest (bits k es) f.0 in
        on _ _ _ (into_body p site (spliced test) answer (spliced body)
        (joined_to (spliced rest) (head_lines (spliced_tasks k es))) (rest_tasks (spliced_tasks k es)))
        (follow (iteration at test answer body 1 (Behinds at rest k))
        (Own (IntoBody ∷ p) ∷ (Own (IntoTest ∷ p) ∷ (Own p ∷ (More (Behind ∷ p) ∷ es)))) (
          body_there kernel p at test answer body u,
          (
            test_there kernel p at test answer body u,
            (u, (behind_on kernel p at (LoopThen site false test answer body rest) (bits k es) f.0 tt, f.1)),
          ),
        ) c)

    -- behind a loop, and into its body again
    go_out : (n : ℕ) → Follow n → (at : Place) (test : Lines) (answer : Atom) (body : Lines) (m : ℕ) (k : Tasks)
        (es : List Mark) → AreFine kernel (AnswerAt at test answer body m k) es → ReachIn n k goal →
        Reach (spliced_tasks (AnswerAt at test answer body m k) es) (Some point)
    go_out n follow at test answer body m k [] f c = absurd f
    go_out n follow at test answer body m k (Own p ∷ es) f c =
        on _ _ _ (past_loop p (spliced test) answer (spliced body) m (spliced_tasks k es)) (follow k es f.1 c)
    go_out n follow at test answer body m k (More p ∷ es) f c = absurd f

    go_again : (n : ℕ) → Follow n → (at : Place) (test : Lines) (answer : Atom) (body : Lines) (m : ℕ) (k : Tasks)
        (es : List Mark) → AreFine kernel (AnswerAt at test answer body m k) es →
        ReachIn n (iteration at test answer body (suc m) k) goal →
        Reach (spliced_tasks (AnswerAt at test answer body m k) es) (Some point)
    go_again n follow at test answer body m k [] f c = absurd f
    go_again n follow at test answer body m k (Own p ∷ es) f c =
        on _ _ _ (to_body p (spliced test) answer (spliced body) m (spliced_tasks k es))
        (follow (iteration at test answer body (suc m) k) (Own (IntoBody ∷ p) ∷ (Own (IntoTest ∷ p) ∷ (Own p ∷ es)))
        (body_there kernel p at test answer body f.0, (test_there kernel p at test answer body f.0, f)) c)
    go_again n follow at test answer body m k (More p ∷ es) f c = absurd f

    go_on : (n : ℕ) → Follow n → (t next : Tasks) (es : List Mark) → AreFine kernel t es → LeadsOn t next →
        ReachIn n next goal → Reach (spliced_tasks t es) (Some point)
    go_on n follow _ _ es f (past_end at k) c = go_end n follow at k es f c
    go_on n follow _ _ es f (past_set at to work rest k) c =
        go_behind n follow at (SetThen to work rest) k es f (λ bs. tt)
        (λ p base. past_set p to work (spliced rest) base)
        (λ p base tail. past_set p to work (joined_to (spliced rest) tail) base) c
    go_on n follow _ _ es f (past_load at site to element root index rest k) c =
        go_behind n follow at (LoadThen site to element root index rest) k es f (λ bs. tt)
        (λ p base. past_load p site to element root index (spliced rest) base)
        (λ p base tail. past_load p site to element root index (joined_to (spliced rest) tail) base) c
    go_on n follow _ _ es f (past_store at site element root index from rest k) c =
        go_behind n follow at (StoreThen site element root index from rest) k es f (λ bs. tt)
        (λ p base. past_store p site element root index from (spliced rest) base)
        (λ p base tail. past_store p site element root index from (joined_to (spliced rest) tail) base) c
    go_on n follow _ _ es f (past_clear at array rest k) c =
        go_behind n follow at (ClearThen array rest) k es f (λ bs. tt)
        (λ p base. past_clear p array (spliced rest) base)
        (λ p base tail. past_clear p array (joined_to (spliced rest) tail) base) c
    go_on n follow _ _ es f (past_barrier at site rest k) c =
        go_behind n follow at (BarrierThen site rest) k es f (λ bs. tt)
        (λ p base. past_barrier p site (spliced rest) base)
        (λ p base tail. past_barrier p site (joined_to (spliced rest) tail) base) c
    go_on n follow _ _ es f (into_chosen at site test chosen other rest k) c =
        choice_chosen n follow at site test chosen other rest k es f (is_decided test chosen other) refl
        (is_zero (constant_value test)) refl c
    go_on n follow _ _ es f (into_other at site test chosen other rest k) c =
        choice_other n follow at site test chosen other rest k es f (is_decided test chosen other) refl
        (is_zero (constant_value test)) refl c
    go_on n follow _ _ es f (into_test at site test answer body rest k) c =
        go_test n follow at site test answer body rest k es f c
    go_on n follow _ _ es f (into_body at site test answer body rest k) c =
        go_body n follow at site test answer body rest k es f c
    go_on n follow _ _ es f (past_loop at test answer body m k) c = go_out n follow at test answer body m k es f c
    go_on n follow _ _ es f (to_body at test answer body m k) c = go_again n follow at test answer body m k es f c

    follows : (n : ℕ) → Follow n
    follows zero t es f c = here _ _ (arrives t es f c)
    follows (suc n) t es f (inl e) = here _ _ (arrives t es f e)
    follows (suc n) t es f (inr r) = go_on n (follows n) t r.0 es f r.1 r.2

pub comes_too : (kernel : Kernel) → ComesToo kernel
comes_too kernel launch i' i b fr ready point bar come =
    let r = come_way kernel launch i (Some (point_at (λ p. (placed kernel p).at) point)) come in
    way_come (spliced_of kernel) launch (spliced_tasks i.tasks b.marks) (Some point)
    (follows kernel launch point bar r.0 i.tasks b.marks b.fine r.1) i' (ap (λ (x : Item). x.tasks) b.same)
