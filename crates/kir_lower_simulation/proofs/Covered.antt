-- Covering goes back along the steps of both items.
use Rattle.std.proofs.Common.{◌≡◌, ℕ, suc, ℤ, List, [], ◌∷◌, Some, refl, sym, ap, ◌∙◌, subst, arith, true, false}
use Rattle.std.proofs.Common.{if◌then◌else◌}
use Rattle.std.proofs.Common.{Bool as Test}
use Rattle.std.proofs.lemmas.Bool.{true≢false}
use Rattle.std.proofs.lemmas.Option.{same_Some}
use Rattle.work_items.specs.Memory.{Access}
use Rattle.work_items.specs.Items.{Next, Ends, Waits, Goes, Begins, Loads, Stores, IsWaiting}
use Rattle.work_items.specs.Clean.{WaitsAt}
use Rattle.work_items.specs.Coming.{MayLead}
use Rattle.cl_model.specs.Fitting.{FitsProgram}
use Rattle.cl_model.specs.Values.{is_zero}
use Rattle.cl_model.specs.Tree.{Barrier}
use Rattle.cl_model.specs.Task.{Point as ProgramPoint, Task, Run, Frame, Item as ProgramItem, first_point}
use Rattle.cl_model.specs.Steps.{item_next as program_next}
use Rattle.cl_model.specs.Meaning.{is_test, IsWithin}
use Rattle.kir.specs.declared.line.Atom.{Atom}
use Rattle.kir.specs.Tree.{Lines, IfThen, BarrierThen}
use Rattle.kir.specs.Places.{Behind, IntoChosen, IntoOther, point_of, Place, Point, Tasks, LinesAt, AnswerAt}
use Rattle.kir.specs.Places.{iteration, begun_in}
use Rattle.kir.specs.Steps.{shell_of, Item, branched, item_next}
use Rattle.kir.specs.Meaning.{GoesOn}
use Rattle.kir.specs.Matching.{StandsAlike}
use Rattle.kir.specs.Lowering.{HasGlobalSizes}
use Rattle.kir_moves.specs.Leads.{Leads, into_chosen, into_other, past_loop, to_body, ComesTo, there}
use Rattle.kir_moves.proofs.Known.{TasksFit}
use Rattle.kir_moves.proofs.Own.{own_leads, waits_where}
use Rattle.kir_lower_shape.specs.Marks.{point_marked}
use Rattle.kir_lower_simulation.specs.Coming.{StandsAtBarrier}
use Rattle.kir_lower_simulation.specs.Covering.{ComesToLine}
use Rattle.kir_lower_simulation.specs.Reaching.{PassesTo, TurnsTo, Answers, as_is, answered, CoversFewer}
use Rattle.kir_lower_simulation.proofs.Reached.{stands_waits, IsOwnStep, test_steps, covers_less, covers_by, covers_lead}
use Rattle.kir_lower_simulation.specs.Setting.{Setting, program_item}
use Rattle.kir_lower_simulation.specs.Facts.{HoldsTypes, Rules}
use Rattle.kir_lower_simulation.proofs.CellTypes.{fits_keep, types_keep}

-- a step with no access is no wait
own_not_waiting : {T : Type 0} (next : Next T) → IsOwnStep next → IsWaiting next → ⊥
own_not_waiting Ends h w = h
own_not_waiting (Waits site after) h w = h
own_not_waiting (Goes after) h w = w
own_not_waiting (Begins after) h w = w
own_not_waiting (Loads site access after) h w = h
own_not_waiting (Stores site object index bytes after) h w = h

-- only at a test is another value tried
untried : (j tried : ProgramItem) → is_test j.tasks ≡ false → Answers j tried → tried ≡ j
untried j _ e as_is = refl
untried j _ e (answered t v) = absurd (true≢false (sym t ∙ e))

module _ (S : Setting) where
  abbrev Cov : ℕ → ProgramItem → Tasks → Type 0
  Cov n j k = CoversFewer S.program S.marks S.launch S.buffers n j k

  abbrev Within : Access → Type 0
  Within = IsWithin S.program S.launch S.buffers

  abbrev pnext : ProgramItem → Next ProgramItem
  pnext j = program_next S.program S.launch j

  abbrev knext : Item → Next Item
  knext i = item_next S.kernel S.launch i

  -- what a step of the kernel's item leaves to do
  pub step_leads : (i i' : Item) → MayLead GoesOn (knext i) i' → Leads i.tasks i'.tasks
  step_leads i i' h = (own_leads S.kernel S.launch GoesOn i i.tasks i' h).0

  -- a step that is known
  pub may_go : (i i' : Item) → knext i ≡ Goes i' → MayLead GoesOn (knext i) i'
  may_go i i' e = subst (λ z. MayLead GoesOn z i') (sym e) refl

  pub may_begin : (i i' : Item) → knext i ≡ Begins i' → MayLead GoesOn (knext i) i'
  may_begin i i' e = subst (λ z. MayLead GoesOn z i') (sym e) refl

  pub may_wait : (i i' : Item) (site : ℕ) → knext i ≡ Waits site i' → MayLead GoesOn (knext i) i'
  may_wait i i' site e = subst (λ z. MayLead GoesOn z i') (sym e) refl

  pub may_load : (i : Item) (site : ℕ) (access : Access) (f : List ℕ → Item) (bytes : List ℕ) →
      knext i ≡ Loads site access f → MayLead GoesOn (knext i) (f bytes)
  may_load i site access f bytes e = subst (λ z. MayLead GoesOn z (f bytes)) (sym e) (tt, (bytes, refl))

  pub may_store : (i i' : Item) (site object : ℕ) (index : ℤ) (bytes : List ℕ) →
      knext i ≡ Stores site object index bytes i' → MayLead GoesOn (knext i) i'
  may_store i i' site object index bytes e = subst (λ z. MayLead GoesOn z i') (sym e) (tt, refl)

  -- where no step without an access is next, there is no test
  no_test : (j : ProgramItem) (step : Next ProgramItem) → pnext j ≡ step → (IsOwnStep step → ⊥) →
      is_test j.tasks ≡ false
  no_test j step e not = go (is_test j.tasks) refl
    where
      go : (b : Test) → is_test j.tasks ≡ b → b ≡ false
      go false same = refl
      go true same = absurd (not (subst IsOwnStep e (test_steps S.program S.launch j j.tasks same)))

  -- one step, at no test
  single : (n : ℕ) (j : ProgramItem) (k : Tasks) (step : Next ProgramItem) → pnext j ≡ step →
      is_test j.tasks ≡ false → ((point : ProgramPoint) → StandsAtBarrier point j.tasks → ComesToLine S.marks point k)
      → ((next : ProgramItem) → PassesTo Within step next → Cov n next k) →
      ((next : ProgramItem) (m : ℕ) → n ≡ suc m → TurnsTo step next → Cov m next k) → Cov n j k
  single n j k step e none stands passes again =
      covers_by S.program S.marks S.launch S.buffers n j k stands
      (λ tried next a t. passes next
      (subst (λ z. PassesTo Within z next) e
      (subst (λ z. PassesTo Within (pnext z) next) (untried j tried none a) t)))
      (λ tried next m less a t. again next m less
      (subst (λ z. TurnsTo z next) e (subst (λ z. TurnsTo (pnext z) next) (untried j tried none a) t)))

  -- an item that does not wait does not stand at a barrier
  moving : (j : ProgramItem) (k : Tasks) (step : Next ProgramItem) → pnext j ≡ step → (IsWaiting step → ⊥) →
      (point : ProgramPoint) → StandsAtBarrier point j.tasks → ComesToLine S.marks point k
  moving j k step e not point s = absurd (not (subst IsWaiting e (stands_waits S.program S.launch j point j.tasks s)))

  -- one of the steps at a test
  tests : (n : ℕ) (ts : List Task) (v : ℤ) (vs : List ℤ) (fs : List Frame) (k : Tasks) (step : ℤ → Next ProgramItem) →
      is_test ts ≡ true → ((z : ℤ) → pnext (program_item S ts (z ∷ vs) fs) ≡ step z)
      → ((z : ℤ) (next : ProgramItem) → PassesTo Within (step z) next → Cov n next k) →
      ((z : ℤ) (next : ProgramItem) (m : ℕ) → n ≡ suc m → TurnsTo (step z) next → Cov m next k) →
      Cov n (program_item S ts (v ∷ vs) fs) k
  tests n ts v vs fs k step test e passes again =
      covers_by S.program S.marks S.launch S.buffers n (program_item S ts (v ∷ vs) fs) k
      (λ point s. absurd (own_not_waiting (pnext (program_item S ts (v ∷ vs) fs))
      (test_steps S.program S.launch (program_item S ts (v ∷ vs) fs) ts test)
      (stands_waits S.program S.launch (program_item S ts (v ∷ vs) fs) point ts s)))
      on back
    where
      on : (tried next : ProgramItem) → Answers (program_item S ts (v ∷ vs) fs) tried →
          PassesTo Within (pnext tried) next → Cov n next k
      on _ next as_is t = passes v next (subst (λ z. PassesTo Within z next) (e v) t)
      on _ next (answered h z) t = passes z next (subst (λ y. PassesTo Within y next) (e z) t)

      back : (tried next : ProgramItem) (m : ℕ) → n ≡ suc m → Answers (program_item S ts (v ∷ vs) fs) tried →
          TurnsTo (pnext tried) next → Cov m next k
      back _ next m less as_is t = again v next m less (subst (λ z. TurnsTo z next) (e v) t)
      back _ next m less (answered h z) t = again z next m less (subst (λ y. TurnsTo y next) (e z) t)

  -- ---- the rules

  lead : (n : ℕ) (j : ProgramItem) (from next : Tasks) → Leads from next → Cov n j next → Cov n j from
  lead n j from next l c = covers_lead S.program S.marks S.launch S.buffers n j from next l c

  pub fewer_covers : (n : ℕ) (j : ProgramItem) (k : Tasks) → Cov (suc n) j k → Cov n j k
  fewer_covers n j k c = covers_less S.program S.marks S.launch S.buffers n j k c

  pub task_covers : (n : ℕ) (j j' : ProgramItem) (k : Tasks) → pnext j ≡ Goes j' → is_test j.tasks ≡ false →
      Cov n j' k → Cov n j k
  task_covers n j j' k e none c =
      single n j k (Goes j') e none (moving j k (Goes j') e (λ w. w)) (λ next t. subst (λ z. Cov n z k) t c)
      (λ next m less t. absurd t)

  pub line_covers : (n : ℕ) (i i' : Item) (j : ProgramItem) → knext i ≡ Goes i' → Cov n j i'.tasks → Cov n j i.tasks
  line_covers n i i' j e c = lead n j i.tasks i'.tasks (step_leads i i' (may_go i i' e)) c

  -- the branches of an if
  pub branch_leads : (z : ℤ) (at : Place) (site : ℕ) (test : Atom) (chosen other rest : Lines) (k : Tasks) →
      Leads (LinesAt at (IfThen site test chosen other rest) k) (branched z at chosen other rest k)
  branch_leads z at site test chosen other rest k = go (is_zero z)
    where
      go : (b : Test) → Leads (LinesAt at (IfThen site test chosen other rest) k)
          (if b then LinesAt (IntoOther ∷ at) other (LinesAt (Behind ∷ at) rest k) else LinesAt (IntoChosen ∷ at)
          chosen (LinesAt (Behind ∷ at) rest k))
      go true = into_other
      go false = into_chosen

  pub test_covers : (n : ℕ) (at : Place) (site : ℕ) (test : Atom) (chosen other rest : Lines) (k : Tasks)
      (ts : List Task) (v : ℤ) (vs : List ℤ) (fs : List Frame) (next : ℤ → ProgramItem) → is_test ts ≡ true
      → ((z : ℤ) → pnext (program_item S ts (z ∷ vs) fs) ≡ Goes (next z)) →
      ((z : ℤ) → Cov n (next z) (branched z at chosen other rest k)) →
      Cov n (program_item S ts (v ∷ vs) fs) (LinesAt at (IfThen site test chosen other rest) k)
  test_covers n at site test chosen other rest k ts v vs fs next t e c =
      tests n ts v vs fs (LinesAt at (IfThen site test chosen other rest) k) (λ z. Goes (next z)) t e
      (λ z after h. subst (λ y. Cov n y (LinesAt at (IfThen site test chosen other rest) k)) h
      (lead n (next z) _ _ (branch_leads z at site test chosen other rest k) (c z))) (λ z after m less h.
      absurd h)

  pub round_covers : (n : ℕ) (at : Place) (test : Lines) (answer : Atom) (body : Lines) (begun : ℕ) (k : Tasks)
      (ts : List Task) (v : ℤ) (vs : List ℤ) (fs : List Frame) (out again : ProgramItem) → is_test ts ≡ true
      → ((z : ℤ) → pnext (program_item S ts (z ∷ vs) fs) ≡ (if is_zero z then Goes out else Begins again)) →
      Cov (suc n) out k → Cov n again (iteration at test answer body (suc begun) k)
      → Cov (suc n) (program_item S ts (v ∷ vs) fs) (AnswerAt at test answer body begun k)
  round_covers n at test answer body begun k ts v vs fs out again t e co ca =
      tests (suc n) ts v vs fs (AnswerAt at test answer body begun k)
      (λ z. if is_zero z then Goes out else Begins again) t e
      (λ z next h. leave (is_zero z) next h) (λ z next m less h. turn (is_zero z) next m less h)
    where
      leave : (b : Test) (next : ProgramItem) → PassesTo Within (if b then Goes out else Begins again) next →
          Cov (suc n) next (AnswerAt at test answer body begun k)
      leave true next h =
          subst (λ z. Cov (suc n) z (AnswerAt at test answer body begun k)) h (lead (suc n) out _ _ past_loop co)
      leave false next h = absurd h

      turn : (b : Test) (next : ProgramItem) (m : ℕ) → suc n ≡ suc m →
          TurnsTo (if b then Goes out else Begins again) next → Cov m next (AnswerAt at test answer body begun k)
      turn true next m less h = absurd h
      turn false next m less h =
          let same : n ≡ m = omega (arith, less) in
          subst (λ z. Cov z next (AnswerAt at test answer body begun k)) same
          (subst (λ z. Cov n z (AnswerAt at test answer body begun k)) h (lead n again _ _ to_body ca))

  pub begins_less_covers : (n : ℕ) (i i' : Item) (j j' : ProgramItem) → knext i ≡ Begins i' → pnext j ≡ Begins j' →
      is_test j.tasks ≡ false → Cov n j' i'.tasks → Cov (suc n) j i.tasks
  begins_less_covers n i i' j j' e e' none c =
      single (suc n) j i.tasks (Begins j') e' none (moving j i.tasks (Begins j') e' (λ w. w)) (λ next t. absurd t)
      (λ next m less t. let same : n ≡ m = omega (arith, less) in
      subst (λ z. Cov z next i.tasks) same
      (subst (λ z. Cov n z i.tasks) t (lead n j' i.tasks i'.tasks (step_leads i i' (may_begin i i' e)) c)))

  pub begins_covers : (n : ℕ) (i i' : Item) (j j' : ProgramItem) → knext i ≡ Begins i' → pnext j ≡ Begins j' →
      is_test j.tasks ≡ false → Cov n j' i'.tasks → Cov n j i.tasks
  begins_covers n i i' j j' e e' none c = fewer_covers n j i.tasks (begins_less_covers n i i' j j' e e' none c)

  pub loads_cover : (n : ℕ) (i : Item) (j : ProgramItem) (site : ℕ) (access : Access) (f : List ℕ →
      Item) (g : List ℕ → ProgramItem) → knext i ≡ Loads site access f → pnext j ≡ Loads site access g
      → ((bytes : List ℕ) → Cov n (g bytes) (f bytes).tasks) → Cov n j i.tasks
  loads_cover n i j site access f g e e' c =
      single n j i.tasks (Loads site access g) e' (no_test j (Loads site access g) e' (λ h. h))
      (moving j i.tasks (Loads site access g) e' (λ w. w))
      (λ next t. subst (λ z. Cov n z i.tasks) t.1.1
      (lead n (g t.1.0) i.tasks (f t.1.0).tasks (step_leads i (f t.1.0) (may_load i site access f t.1.0 e))
      (c t.1.0))) (λ next m less t. absurd t)

  pub stores_cover : (n : ℕ) (i i' : Item) (j j' : ProgramItem) (site object : ℕ) (index : ℤ) (bytes : List ℕ) →
      knext i ≡ Stores site object index bytes i' → pnext j ≡ Stores site object index bytes j' → Cov n j' i'.tasks →
      Cov n j i.tasks
  stores_cover n i i' j j' site object index bytes e e' c =
      single n j i.tasks (Stores site object index bytes j') e' (no_test j (Stores site object index bytes j') e'
      (λ h. h)) (moving j i.tasks (Stores site object index bytes j') e' (λ w. w))
      (λ next t. subst (λ z. Cov n z i.tasks) t.1
      (lead n j' i.tasks i'.tasks (step_leads i i' (may_store i i' site object index bytes e)) c))
      (λ next m less t. absurd t)

  -- the point at which an item waits
  barrier_point : (ts : List Task) (point : ProgramPoint) → StandsAtBarrier point ts → first_point ts ≡ Some point
  barrier_point [] point s = absurd s
  barrier_point (Run at (Barrier site) ∷ rest) point s = ap (λ z. Some z) s
  barrier_point (Run at _ ∷ rest) point s = absurd s
  barrier_point (_ ∷ rest) point s = absurd s

  pub waits_cover : (n : ℕ) (i i' : Item) (j j' : ProgramItem) (site : ℕ) → StandsAlike (point_marked S.marks) i j →
      knext i ≡ Waits site i' → pnext j ≡ Waits site j' → Cov n j' i'.tasks → Cov n j i.tasks
  waits_cover n i i' j j' site alike e e' c =
      single n j i.tasks (Waits site j') e' (no_test j (Waits site j') e' (λ h. h)) stands
      (λ next t. subst (λ z. Cov n z i.tasks) t
      (lead n j' i.tasks i'.tasks (step_leads i i' (may_wait i i' site e)) c)) (λ next m less t. absurd t)
    where
      stands : (point : ProgramPoint) → StandsAtBarrier point j.tasks → ComesToLine S.marks point i.tasks
      stands point s =
          let w = waits_where S.kernel S.launch i site i.tasks (subst (λ z. WaitsAt site z) (sym e) refl) in
          let p : Point = record { at = w.at; begun = begun_in w.over } in
          let same = same_Some _ _ (sym (alike p (ap point_of w.is)) ∙ barrier_point j.tasks point s) in
          record {
            there = LinesAt w.at (BarrierThen site w.rest) w.over;
            stands = same;
            comes = subst (λ z. ComesTo (LinesAt w.at (BarrierThen site w.rest) w.over) z) (sym w.is) there;
          }

  pub ends_cover : (n : ℕ) (j : ProgramItem) (k : Tasks) → pnext j ≡ Ends → Cov n j k
  ends_cover n j k e = single n j k Ends e (no_test j Ends e (λ h. h)) (moving j k Ends e (λ w. w))
      (λ next t. absurd t) (λ next m less t. absurd t)

  pub select_covers : (n : ℕ) (k : Tasks) (ts : List Task) (v : ℤ) (vs : List ℤ) (fs : List Frame) (next : ℤ →
      ProgramItem) → is_test ts ≡ true → ((z : ℤ) → pnext (program_item S ts (z ∷ vs) fs) ≡ Goes (next z))
      → ((z : ℤ) → Cov n (next z) k) → Cov n (program_item S ts (v ∷ vs) fs) k
  select_covers n k ts v vs fs next t e c =
      tests n ts v vs fs k (λ z. Goes (next z)) t e (λ z after h. subst (λ y. Cov n y k) h (c z)) (λ z after m less h.
      absurd h)

  -- ---- covering as a relation of the two items

  abbrev pub G_cover : ℕ → Item → ProgramItem → Type 0
  G_cover n i j =
      HoldsTypes S i.cells → TasksFit S.kernel i.tasks → CoversFewer S.program S.marks S.launch S.buffers n j i.tasks

  module _ (fits : FitsProgram (shell_of S.kernel) S.launch) (sizes : HasGlobalSizes S.launch) where
    -- what holds of the kernel's item holds behind a step
    pub types_on : (i i' : Item) → MayLead GoesOn (knext i) i' → TasksFit S.kernel i.tasks → HoldsTypes S i.cells →
        HoldsTypes S i'.cells
    types_on i i' h fit types = types_keep S fits sizes i i' h fit types

    pub fits_on : (i i' : Item) → MayLead GoesOn (knext i) i' → TasksFit S.kernel i.tasks → TasksFit S.kernel i'.tasks
    fits_on i i' h fit = fits_keep S.kernel i.tasks i'.tasks (step_leads i i' h) fit

    pub covered : Rules S G_cover
    covered = record {
      fewer = λ n i j g types fit. fewer_covers n j i.tasks (g types fit);
      task = λ n i j j' e none g types fit. task_covers n j j' i.tasks e none (g types fit);
      line = λ n i i' j facts e g types fit. let m =
          may_go i i' e in line_covers n i i' j e (g (types_on i i' m fit types) (fits_on i i' m fit));
      test = λ n cells at site test chosen other rest k ts v vs fs next facts t is e g types fit.
          test_covers n at site test chosen other rest k ts v vs fs next t e
          (λ z. g z types (fits_keep S.kernel _ _ (branch_leads z at site test chosen other rest k) fit));
      round = λ n cells at test answer body begun k ts v vs fs out again facts t is e go ga types fit.
          round_covers n at test answer body begun k ts v vs fs out again t e
          (go types (fits_keep S.kernel (AnswerAt at test answer body begun k) k past_loop fit))
          (ga types (fits_keep S.kernel (AnswerAt at test answer body begun k) _ to_body fit));
      begins = λ n i i' j j' facts e e' none g types fit. let m =
          may_begin i i' e in begins_covers n i i' j j' e e' none (g (types_on i i' m fit types) (fits_on i i' m fit));
      begins_less = λ n i i' j j' facts e e' none g types fit. let m = may_begin i i' e in
          begins_less_covers n i i' j j' e e' none (g (types_on i i' m fit types) (fits_on i i' m fit));
      loads = λ n i j site access f g facts e e' h types fit.
          loads_cover n i j site access f g e e'
          (λ bytes. h bytes (types_on i (f bytes) (may_load i site access f bytes e) fit types)
          (fits_on i (f bytes) (may_load i site access f bytes e) fit));
      stores = λ n i i' j j' site object index bytes facts e e' g types fit.
          let m = may_store i i' site object index bytes e in
          stores_cover n i i' j j' site object index bytes e e'
          (g (types_on i i' m fit types) (fits_on i i' m fit));
      waits = λ n i i' j j' site facts alike e e' g types fit. let m = may_wait i i' site e in
          waits_cover n i i' j j' site alike e e' (g (types_on i i' m fit types) (fits_on i i' m fit));
      ends = λ n i j facts e e' types fit. ends_cover n j i.tasks e';
      select = λ n cells k ts v vs fs held next t e types_held g gv types fit. select_covers n k ts v vs fs next t e
          (λ z. g z (types_held z types) fit);
      typed = λ n i j g types fit. g types types fit;
      fit = λ n i j g types fit. g fit types fit;
    }
