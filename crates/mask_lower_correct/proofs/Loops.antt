-- The masked code of a loop is sound: it goes round until no lane is in its mask, and each round takes a turn.
use Rattle.std.proofs.Common.{◌≡◌, ℕ, zero, suc, ◌+◌, ◌<◌, ◌≤◌, List, ◌∷◌, ◌++◌, length, Some, refl, sym, ap, ◌∙◌}
use Rattle.std.proofs.Common.{subst, ⊎_elim, arith, cond, length-append}
use Rattle.std.specs.Prelude.{◌&&◌, not, if◌then◌else◌}
use Rattle.std.specs.Prelude.{Bool as Test, true, false}
use Rattle.std.specs.Simd.Lanes.{zip2}
use Rattle.std.proofs.lemmas.Bool.{cases_Bool, and_parts, or_left, or_right}
use Rattle.std.proofs.lemmas.Simd.{get_or-zip2, length-zip2}
use Rattle.work_items.specs.Items.{Goes, Begins}
use Rattle.wg_num.specs.declared.types.IntType.{IntType}
use Rattle.cl_model.specs.Values.{is_zero}
use Rattle.cl_model.specs.Sizes.{Launch}
use Rattle.kir.specs.declared.line.Atom.{Atom}
use Rattle.kir.specs.Tree.{Lines, NoLine, LoopThen, joined_to, Kernel}
use Rattle.kir.specs.Places.{Behind, IntoTest, IntoBody, Place, Tasks, LinesAt, AnswerAt, iteration}
use Rattle.kir.specs.Live.{reads, some_reads, live_now}
use Rattle.kir.specs.Fits.{lines_fit, has_some_type, atom_type}
use Rattle.kir.specs.Steps.{Item, with_tasks, atom_value, tasks_next}
use Rattle.kir.specs.Meaning.{machine_of}
use Rattle.lane_code.specs.declared.step.Step.{Step}
use Rattle.lane_code.specs.declared.step.Step.TheVariants as step
use Rattle.lane_code.specs.declared.step.Reg.{Reg}
use Rattle.lane_code.specs.declared.code.Counts.{Counts}
use Rattle.lane_code.specs.Registers.{Registers, mask_of}
use Rattle.lane_code.specs.Fits.{is_below, is_code}
use Rattle.lane_code.specs.Groups.{Group}
use Rattle.lane_code.specs.Acts.{State, On, Back, act, with_registers}
use Rattle.lane_code.specs.Meaning.{Ended}
use Rattle.lane_laws.specs.Places.{HasAt}
use Rattle.lane_laws.specs.Reading.{mask_at}
use Rattle.lane_laws.proofs.Steps.{has_front, has_back, back_end, on_step, ahead_step, back_step}
use Rattle.group_moves.specs.Stages.{Stage}
use Rattle.group_moves.specs.Lanes.{Does, stays, goes, begins, some_below}
use Rattle.kir_moves.specs.Leads.{into_test, into_body, past_loop, to_body, ComesTo, by_leg}
use Rattle.kir_moves.proofs.Coming.{come_trans}
use Rattle.kir_moves.proofs.Live.{live_leads, reads_live}
use Rattle.regions.specs.Spans.{past_lines}
use Rattle.mask_lower.specs.declared.registers.Free.{Free}
use Rattle.mask_lower.specs.Banks.{mask_reg}
use Rattle.mask_lower.specs.Atoms.{atoms_in}
use Rattle.mask_lower.specs.Layout.{kernel_chunk}
use Rattle.mask_lower.specs.Following.{ChunkOf}
use Rattle.mask_lower.specs.Registers.{Frame, operand, past_atom, past}
use Rattle.mask_lower.specs.Lowered.{turn_code, lines_code}
use Rattle.mask_lower_correct.specs.Framed.{IsFramed}
use Rattle.mask_lower_correct.specs.Sim.{Ground, Agrees, Closed}
use Rattle.mask_lower_correct.proofs.View.{code_well, mask_length}
use Rattle.mask_lower_correct.proofs.Frames.{some_left, some_right, held_left, held_right}
use Rattle.mask_lower_correct.proofs.Standing.{same_outer, cond_else, cond_set, cond_unset, sim_move, sim_go}
use Rattle.mask_lower_correct.proofs.Atoms.{operand_is}
use Rattle.mask_lower_correct.proofs.Masks.{some_is, none_below, and_same, flip_cond, standing}
use Rattle.mask_lower_correct.proofs.Through.{run_through, through}
use Rattle.mask_lower_correct.proofs.Soundness.{in_width, named, masks_then, rest_sound, masks_step, masked_sim}
use Rattle.mask_lower_correct.proofs.Soundness.{masked_below, type_there, test_runs, yes_is}
use Rattle.mask_lower_correct.proofs.Soundness as soundness

module _ (kernel : Kernel) (launch : Launch) (width : ℕ) (chunk : ChunkOf kernel launch width) (turns : ℕ)
    (w0 : Stage Item) (g0 : Group) (f : Frame) (counts : Counts) (r0 : Registers) (ground : Ground kernel launch w0)
    (atoms : List Atom) (framed : IsFramed kernel f atoms) (code : List Step) (valid : is_code counts code ≡ true)
    (Good : Ended → Type 0) (Sites : ℕ → Type 0) (Goal : Tasks) (closed : Closed kernel launch width chunk turns w0
    Sites Goal Good) where
  abbrev Fit : Lines → Free → Type 0
  Fit = soundness.Fit kernel launch width chunk turns w0 g0 f counts r0 ground atoms framed code valid Good
      Sites Goal closed

  abbrev Lanes : ℕ → ℕ → (ℕ → Test) → (ℕ → Tasks) → Tasks → State → Stage Item → Type 0
  Lanes = soundness.Lanes kernel launch width chunk turns w0 g0 f counts r0 ground atoms framed code valid Good
      Sites Goal closed

  abbrev Onward : (ℕ → Test) → Tasks → (ℕ → Tasks) → ℕ → State → ℕ → ℕ → Type 0
  Onward = soundness.Onward kernel launch width chunk turns w0 g0 f counts r0 ground atoms framed code valid
      Good Sites Goal closed

  abbrev end_from : ℕ → ℕ → State → Ended
  end_from = soundness.end_from kernel launch width chunk turns w0 g0 f counts r0 ground atoms framed code valid Good
      Sites Goal closed

  abbrev Whole : Lines → Type 0
  Whole = soundness.Whole kernel launch width chunk turns w0 g0 f counts r0 ground atoms framed code valid Good
      Sites Goal closed

  abbrev At : ℕ → (ℕ → Tasks) → State → Stage Item → Type 0
  At = soundness.At kernel launch width chunk turns w0 g0 f counts r0 ground atoms framed code valid Good
      Sites Goal closed

  abbrev yes_at : State → Reg → ℕ → Test
  yes_at = soundness.yes_at kernel launch width chunk turns w0 g0 f counts r0 ground atoms framed code valid
      Good Sites Goal closed

  abbrev Sound : Lines → Type 0
  Sound = soundness.Sound kernel launch width chunk turns w0 g0 f counts r0 ground atoms framed code valid Good
      Sites Goal closed

  -- the parts of a loop in the code: its body stands at p1, its test behind the body
  abbrev pub test_place : (body : Lines) (next : Free) (free p1 : ℕ) → ℕ
  test_place body next free p1 = p1 + length (lines_code f free (free + 1) p1 next body)

  abbrev pub ask_place : (test body : Lines) (next : Free) (free p1 : ℕ) → ℕ
  ask_place test body next free p1 =
      test_place body next free p1 + length (lines_code f free (free + 1) (test_place body next free p1)
      (past next (atoms_in body)) test)

  pub record HasLoop (test : Lines) (answer : Atom) (body : Lines) (next : Free) (free p1 : ℕ) : Type 0 where
    pub has_body : HasAt code p1 (lines_code f free (free + 1) p1 next body)
    pub has_test : HasAt code (test_place body next free p1)
        (lines_code f free (free + 1) (test_place body next free p1) (past next (atoms_in body)) test)
    pub has_turn : HasAt code (ask_place test body next free p1)
        (turn_code f free (past (past next (atoms_in body)) (atoms_in test)) p1 answer)
    pub fit_body : Fit body next
    pub fit_test : Fit test (past next (atoms_in body))
    pub typed : (ty : IntType) × (atom_type kernel answer ≡ Some ty)
    pub names : (c : ℕ) → reads c answer ≡ true → some_reads c atoms ≡ true
    pub held : Rattle.mask_lower_correct.specs.Framed.HeldAt f width r0
        (past (past next (atoms_in body)) (atoms_in test)) answer

  module _ (test : Lines) (answer : Atom) (body : Lines) (next : Free) (free p1 : ℕ) (at : Place) (k : Tasks)
      (ahead : ComesTo Goal k) where
    abbrev pub Asking : ℕ → Tasks
    Asking n = AnswerAt at test answer body n k

    abbrev pub Testing : ℕ → Tasks
    Testing n = LinesAt (IntoTest ∷ at) test (Asking n)

    abbrev pub Beginning : ℕ → Tasks
    Beginning n = LinesAt (IntoBody ∷ at) body (Testing n)

    test_ahead : (n : ℕ) → ComesTo Goal (Asking n)
    test_ahead n = by_leg past_loop ahead

    body_ahead : (n : ℕ) → ComesTo Goal (Testing n)
    body_ahead n = run_through Goal (IntoTest ∷ at) test (λ t. through test NoLine (IntoTest ∷ at) t) (Asking n)
        (test_ahead n)

    abbrev next_ask : Free
    next_ask = past (past next (atoms_in body)) (atoms_in test)

    abbrev ask_reg : Reg
    ask_reg = (operand f.cells next_ask answer).at

    abbrev pub ask_at : ℕ
    ask_at = ask_place test body next free p1

    -- the loop from its test on, with t turns
    pub record LoopFrom (t : ℕ) : Type 0 where
      pub by : (n : ℕ) (b : ℕ → Test) (T : ℕ → Tasks) (st : State) (w : Stage Item) →
          Lanes free t b T (Testing n) st w → Onward b k T free st t (ask_at + 1 + 1) →
          Good (end_from t (test_place body next free p1) st)

    -- one lane's answer
    lane_answers : (n l : ℕ) (y : Test) (w : Stage Item) (st : State) (s : Item) → s.tasks ≡ Asking n →
        y ≡ not (is_zero (atom_value s.cells answer)) → Agrees f st.registers l (Asking n) s.cells →
        Does (machine_of kernel launch) w.memory s (λ s'. (s'.tasks ≡ cond y (Beginning (suc n)) k)
        × Agrees f st.registers l (cond y (Beginning (suc n)) k) s'.cells) w.memory y
    lane_answers n l true w st s e value ag =
        begins (with_tasks s (Beginning (suc n))) (ap (tasks_next kernel launch s) e
        ∙ answer_by (is_zero (atom_value s.cells answer)) true value)
        (refl, λ c op h live. ag c op h (live_leads c (Asking n) (Beginning (suc n)) to_body refl live))
      where
        answer_by : (z : Test) (y : Test) → y ≡ not z →
            cond z (Goes (with_tasks s k)) (Begins (with_tasks s (Beginning (suc n)))) ≡ cond y
            (Begins (with_tasks s (Beginning (suc n)))) (Goes (with_tasks s k))
        answer_by z y h = flip_cond z _ _
            ∙ ap (λ b. cond b (Begins (with_tasks s (Beginning (suc n)))) (Goes (with_tasks s k))) (sym h)
    lane_answers n l false w st s e value ag =
        goes (with_tasks s k) (ap (tasks_next kernel launch s) e ∙ answer_by (is_zero (atom_value s.cells answer)) false
        value) (refl, λ c op h live. ag c op h (live_leads c (Asking n) k past_loop refl live))
      where
        answer_by : (z : Test) (y : Test) → y ≡ not z →
            cond z (Goes (with_tasks s k)) (Begins (with_tasks s (Beginning (suc n)))) ≡ cond y
            (Begins (with_tasks s (Beginning (suc n)))) (Goes (with_tasks s k))
        answer_by z y h = flip_cond z _ _
            ∙ ap (λ b. cond b (Begins (with_tasks s (Beginning (suc n)))) (Goes (with_tasks s k))) (sym h)

    lane_at : (n l : ℕ) (y b : Test) (task : Tasks) (w : Stage Item) (st : State) (s : Item) →
        s.tasks ≡ cond b (Asking n) task → (b ≡ true → y ≡ not (is_zero (atom_value s.cells answer))) →
        Agrees f st.registers l (cond b (Asking n) task) s.cells → Does (machine_of kernel launch) w.memory s
        (λ s'. (s'.tasks ≡ cond (b && y) (Beginning (suc n)) (cond b k task)) × Agrees f st.registers l
        (cond (b && y) (Beginning (suc n)) (cond b k task)) s'.cells) w.memory (b && y)
    lane_at n l y true task w st s e value ag = lane_answers n l y w st s e (value refl) ag
    lane_at n l y false task w st s e value ag = stays (e, ag)

    -- lanes that go on are lanes of the loop
    left_all : (b c : Test) (x z u : Tasks) → cond (b && c) x (cond (b && c) z (cond b x u)) ≡ cond b x u
    left_all true true x z u = refl
    left_all true false x z u = refl
    left_all false c x z u = refl

    -- the jump back: an iteration begins, where a turn is left for it
    turn_sound : Whole body → HasLoop test answer body next free p1 → (n t : ℕ) → ((t' : ℕ) → t' < t → LoopFrom t') →
        (c : ℕ → Test) (T : ℕ → Tasks) (st : State) (w : Stage Item) (t1 : ℕ) → t1 ≤ t →
        Lanes free t1 c T (Beginning n) st w → (some_below width c ≡ true → w0.begun + turns < w.begun + t1) →
        Onward c k T free st t1 (ask_at + 1 + 1) → Good (end_from t1 (ask_at + 1) st)
    turn_sound sound has n t again c T st w t1 le ready strict go =
        let mine = kernel_chunk kernel launch width chunk.group chunk.first in
        let s = step.Turn (mask_reg free) p1 in
        let w1 = and_parts (is_below counts (mask_reg free)) _
        (code_well counts code (ask_at + 1) s valid has.has_turn.1.0) in
        let is : act mine s st ≡ cond (some_below width c) (Back p1 st) (On st) = ap (λ x. cond x (Back p1 st) (On st))
        (some_is width (mask_of st.registers (mask_reg free)) c
        (mask_length counts width st.registers ready.sim.shape free w1.0) ready.mask) in
        ⊎_elim
        (λ some. back_step mine code Good t1 (ask_at + 1) p1 s st st has.has_turn.1.0
        (is ∙ cond_set _ (Back p1 st) (On st) some) (turn t1 le ready.sim (strict some) go))
        (λ none. on_step mine code Good t1 (ask_at + 1) s st st has.has_turn.1.0
        (is ∙ cond_unset _ (Back p1 st) (On st) none)
        (go t1 st w (omega arith) (named kernel launch width chunk turns w0 g0 f counts r0 ground atoms framed code
        valid Good Sites Goal closed t1 T (λ l. cond (c l) k (T l)) st w
        (λ l lane. sym (cond_unset (c l) _ _
        (none_below width c none l (in_width kernel launch width chunk turns w0 g0 f counts r0 ground atoms framed
        code valid Good Sites Goal closed l lane)))) ready.sim) (λ r l lt ltl. refl)))
        (cases_Bool (some_below width c))
      where
        turn : (x : ℕ) → x ≤ t → At x T st w → w0.begun + turns < w.begun + x →
            Onward c k T free st x (ask_at + 1 + 1) →
            Good (back_end (kernel_chunk kernel launch width chunk.group chunk.first) code x p1 st)
        turn zero le' sim budget onward = closed.tires w sim.reached (omega arith) 0 st
        turn (suc t2) le' sim budget onward =
            sound.by free (free + 1) p1 t2 next c T (IntoBody ∷ at) (Testing n) st w has.has_body has.fit_body
            (omega arith)
            (record {
              mask = ready.mask;
              alive = ready.alive;
              sim = record {
                reached = sim.reached;
                mirrors = sim.mirrors;
                others = sim.others;
                group = sim.group;
                rows = sim.rows;
                shape = sim.shape;
                above = sim.above;
                stand = sim.stand;
                budget = omega arith;
              };
              stand = ready.stand;
            })
            (body_ahead n)
            (λ t4 st4 w4 le4 sim4 masks4.
            (again t4 (omega arith)).by n c (λ l. cond (c l) (Testing n) (T l)) st4 w4
            (record {
              mask = λ l lt. masks4 free l (omega arith) lt ∙ ready.mask l lt;
              alive = ready.alive;
              sim = sim4;
              stand = λ l lane e. cond_set (c l) _ _ e;
            })
            (λ t5 st5 w5 le5 sim5 masks5.
            onward t5 st5 w5 (omega arith)
            (named kernel launch width chunk turns w0 g0 f counts r0 ground atoms framed code valid Good Sites Goal
            closed t5 _ (λ l. cond (c l) k (T l)) st5 w5
            (λ l lane. cond_else (c l) k _ _ (λ e. cond_unset (c l) (Testing n) (T l) e)) sim5)
            (masks_then kernel launch width chunk turns w0 g0 f counts r0 ground atoms framed code valid Good Sites Goal
            closed free st st4 st5 (λ r l lt ltl. masks4 r l (omega arith) ltl) masks5)))

    -- the loop from its answer on
    answer_sound : Whole body → HasLoop test answer body next free p1 → (n t : ℕ) → ((t' : ℕ) → t' < t → LoopFrom t') →
        (t1 : ℕ) → t1 ≤ t → (b : ℕ → Test) (T : ℕ → Tasks) (st : State) (w : Stage Item) →
        Lanes free t1 b T (Asking n) st w → Onward b k T free st t1 (ask_at + 1 + 1) → Good (end_from t1 ask_at st)
    answer_sound sound_b has n t again t1 le1 b T st w ready go =
        let ty = has.typed in
        let one = operand_is kernel width f atoms counts r0 framed next_ask answer ty.0 st.registers ty.1 has.names
        has.held ready.sim.above in
        test_runs kernel launch width chunk turns w0 g0 f counts r0 ground atoms framed code valid Good Sites Goal
        closed next_ask answer ty.0 free free ask_at t1 st has.has_turn.0 one ready.sim.shape (λ after k1.
        let st1 = with_registers st after in
        let y = yes_at st ask_reg in
        let b' = λ (l : ℕ). b l && y l in
        let kept = masked_below kernel launch width chunk turns w0 g0 f counts r0 ground atoms framed code valid Good
        Sites Goal closed free free st _ after (omega arith) k1 in
        let T1 = λ (l : ℕ). cond (b l) (Asking n) (T l) in
        let T3 = λ (l : ℕ). cond (b' l) (Beginning (suc n)) (cond (b l) k (T l)) in
        let sim1 = named kernel launch width chunk turns w0 g0 f counts r0 ground atoms framed code valid Good Sites
        Goal closed t1 T T1 st1 w (λ l lane. standing (b l) (Asking n) (T l) (ready.stand l lane))
        (masked_sim kernel launch width chunk turns w0 g0 f counts r0 ground atoms framed code valid Good Sites Goal
        closed t1 free T st w _ after k1 ready.sim) in
        let r = sim_move kernel launch width chunk turns w0 g0 f counts r0 ground t1 T1 T3 st1 st1 w b' (same_outer st1)
        sim1.shape (λ x l lt e more. refl)
        (λ l lane s good e ag. lane_at n l (y l) (b l) (T l) w st1 s e
        (λ set. yes_is kernel launch width chunk turns w0 g0 f counts r0 ground atoms framed code valid Good Sites Goal
        closed next_ask answer ty.0 st l s (Asking n) one ty.1
        (in_width kernel launch width chunk turns w0 g0 f counts r0 ground atoms framed code valid Good Sites Goal
        closed l lane) good
        (λ c op h live. sym (k1.numbers op.at l) ∙ ag c op h (ap (live_now c) (cond_set (b l) (Asking n) (T l) set)
        ∙ live)) (λ c rd. reads_live c (Asking n) rd))
        ag)
        (λ l e. ready.alive l (and_parts (b l) _ e).0) sim1 in
        turn_sound sound_b has (suc n) t again b' T3 st1 r.0 t1 le1
        (record {
          mask = λ l lt. k1.here l lt ∙ ap (λ x. x && y l) (ready.mask l lt);
          alive = λ l e. ready.alive l
              (and_parts (b l) _ e).0;
          sim = r.1;
          stand = λ l lane e. cond_set (b' l) _ _ e;
        })
        (λ some. let lt = r.3 (subst (λ n. some_below n b' ≡ true) (sym chunk.is_chunk.width_is) some) in
        let bud = sim1.budget in omega arith)
        (λ t5 st5 w5 le5 sim5 masks5. go t5 st5 w5 (omega arith)
        (named kernel launch width chunk turns w0 g0 f counts r0 ground atoms framed code valid Good Sites Goal closed
        t5 _ (λ l. cond (b l) k (T l)) st5 w5 (λ l lane. left_all (b l) (y l) k (Beginning (suc n)) (T l)) sim5)
        (masks_then kernel launch width chunk turns w0 g0 f counts r0 ground atoms framed code valid Good Sites Goal
        closed free st st1 st5 kept masks5)))

    loop_step : Whole test → Whole body → HasLoop test answer body next free p1 → (t : ℕ) →
        ((t' : ℕ) → t' < t → LoopFrom t') → LoopFrom t
    loop_step sound_t sound_b has t again = record {
      by = λ n b T st w ready go.
          sound_t.by free (free + 1) (test_place body next free p1) t (past next (atoms_in body)) b T (IntoTest ∷ at)
          (Asking n) st w has.has_test has.fit_test (omega arith) ready (test_ahead n)
          (λ t1 st1 w1 le1 sim1 masks1.
          answer_sound sound_b has n t again t1 le1 b (λ l. cond (b l) (Asking n) (T l)) st1 w1
          (record {
            mask = λ l lt. masks1 free l (omega arith) lt ∙ ready.mask l lt;
            alive = ready.alive;
            sim = sim1;
            stand = λ l lane e. cond_set (b l) _ _ e;
          })
          (λ t5 st5 w5 le5 sim5 masks5. go t5 st5 w5 (omega arith)
          (named kernel launch width chunk turns w0 g0 f counts r0 ground atoms framed code valid Good Sites Goal closed
          t5 _ (λ l. cond (b l) k (T l)) st5 w5
          (λ l lane. cond_else (b l) k _ _ (λ h. cond_unset (b l) (Asking n) (T l) h)) sim5)
          (masks_then kernel launch width chunk turns w0 g0 f counts r0 ground atoms framed code valid Good Sites Goal
          closed free st st1 st5 (λ r l lt ltl. masks1 r l (omega arith) ltl) masks5)));
    }

    loop_from : Whole test → Whole body → HasLoop test answer body next free p1 → (bound t : ℕ) → t < bound → LoopFrom t
    loop_from sound_t sound_b has zero t lt = absurd (omega arith)
    loop_from sound_t sound_b has (suc bound) t lt =
        loop_step sound_t sound_b has t (λ t' lt'. loop_from sound_t sound_b has bound t' (omega arith))

    -- from the step that takes a turn, where the lanes have begun an iteration
    pub turn_enter : Whole test → Whole body → HasLoop test answer body next free p1 →
        (n t : ℕ) (c : ℕ → Test) (T : ℕ → Tasks) (st : State) (w : Stage Item) → Lanes free t c T (Beginning n) st w →
        (some_below width c ≡ true → w0.begun + turns < w.begun + t) → Onward c k T free st t (ask_at + 1 + 1) →
        Good (end_from t (ask_at + 1) st)
    turn_enter sound_t sound_b has n t c T st w ready strict go =
        turn_sound sound_b has n t (λ t' lt. loop_from sound_t sound_b has t t' lt) c T st w t
        (omega arith) ready strict go

    -- from where a loop is entered
    pub enter_sound : Whole test → Whole body → HasLoop test answer body next free p1 →
        (first : Test) (site : ℕ) (rest : Lines) (K : Tasks) → k ≡ LinesAt (Behind ∷ at) rest K →
        (t : ℕ) (a : ℕ → Test) (T : ℕ → Tasks) (st : State) (w : Stage Item) →
        Lanes free t a T (LinesAt at (LoopThen site first test answer body rest) K) st w →
        Onward a k T free st t (ask_at + 1 + 1) →
        Good (end_from t (cond first (test_place body next free p1) (ask_at + 1)) st)
    enter_sound sound_t sound_b has true site rest K e t a T st w ready go =
        let r = sim_go kernel launch width chunk turns w0 g0 f counts r0 ground t T (λ l. Testing 0) st st w a
        (LinesAt at (LoopThen site true test answer body rest) K) (same_outer st) ready.sim.shape
        (λ x l lt e more. refl)
        (λ l lane set s good ag. (
          s.cells,
          ap (λ x. Goes (with_tasks s (LinesAt (IntoTest ∷ at) test (AnswerAt at test answer body 0 x)))) (sym e),
          λ c op h live. ag c op h (live_leads c (LinesAt at (LoopThen site true test answer body rest) K)
              (LinesAt (IntoTest ∷ at) test (AnswerAt at test answer body 0 (LinesAt (Behind ∷ at) rest K)))
              into_test refl (subst (λ x. live_now c
              (LinesAt (IntoTest ∷ at) test (AnswerAt at test answer body 0 x)) ≡ true) e live)),
        ))
        (λ l lane unset c op h. refl) ready.stand ready.sim in
        (loop_from sound_t sound_b has (t + 1) t (omega arith)).by 0 a (λ l. cond (a l) (Testing 0) (T l)) st r.0
        (record { mask = ready.mask; alive = ready.alive; sim = r.1; stand = λ l lane set. cond_set (a l) _ _ set })
        (λ t5 st5 w5 le5 sim5 masks5. go t5 st5 w5 le5
        (named kernel launch width chunk turns w0 g0 f counts r0 ground atoms framed code valid Good Sites Goal closed
        t5 _ (λ l. cond (a l) k (T l)) st5 w5
        (λ l lane. cond_else (a l) k _ _ (λ h. cond_unset (a l) (Testing 0) (T l) h)) sim5) masks5)
    enter_sound sound_t sound_b has false site rest K e t a T st w ready go =
        let r = sim_move kernel launch width chunk turns w0 g0 f counts r0 ground t T
        (λ l. cond (a l) (Beginning 1) (T l)) st st w a (same_outer st) ready.sim.shape (λ x l lt e more. refl)
        (λ l lane s good h ag. enters (a l) l s (T l) w st h ag (ready.stand l lane))
        ready.alive ready.sim in
        turn_sound sound_b has 1 t (λ t' lt. loop_from sound_t sound_b has t t' lt) a
        (λ l. cond (a l) (Beginning 1) (T l)) st r.0 t (omega arith)
        (record { mask = ready.mask; alive = ready.alive; sim = r.1; stand = λ l lane set. cond_set (a l) _ _ set })
        (λ some. let lt = r.3 (subst (λ n. some_below n a ≡ true) (sym chunk.is_chunk.width_is) some) in
        let bud = ready.sim.budget in omega arith)
        (λ t5 st5 w5 le5 sim5 masks5. go t5 st5 w5 le5
        (named kernel launch width chunk turns w0 g0 f counts r0 ground atoms framed code valid Good Sites Goal closed
        t5 _ (λ l. cond (a l) k (T l)) st5 w5
        (λ l lane. cond_else (a l) k _ _ (λ h. cond_unset (a l) (Beginning 1) (T l) h)) sim5) masks5)
      where
        enters : (x : Test) (l : ℕ) (s : Item) (task : Tasks) (w : Stage Item) (st : State) → s.tasks ≡ task →
            Agrees f st.registers l task s.cells →
            (x ≡ true → task ≡ LinesAt at (LoopThen site false test answer body rest) K) →
            Does (machine_of kernel launch) w.memory s (λ s'. (s'.tasks ≡ cond x (Beginning 1) task)
            × Agrees f st.registers l (cond x (Beginning 1) task) s'.cells) w.memory x
        enters false l s task w st h ag where_is = stays (h, ag)
        enters true l s task w st h ag where_is =
            let there = where_is refl in
            begins (with_tasks s (Beginning 1)) (ap (tasks_next kernel launch s) (h ∙ there)
            ∙ ap (λ x. Begins (with_tasks s
            (LinesAt (IntoBody ∷ at) body (LinesAt (IntoTest ∷ at) test
            (AnswerAt at test answer body 1 x))))) (sym e)) (
              refl,
              λ c op i live. ag c op i (ap (live_now c) there ∙
                  live_leads c (LinesAt at (LoopThen site false test answer body rest) K)
                  (iteration at test answer body 1 (LinesAt (Behind ∷ at) rest K)) into_body refl
                  (subst (λ x. live_now c (LinesAt (IntoBody ∷ at) body
                  (LinesAt (IntoTest ∷ at) test (AnswerAt at test answer body 1 x))) ≡ true) e live)),
            )

  pub loop_sound : (site : ℕ) (first : Test) (test : Lines) (answer : Atom) (body rest : Lines) → Whole test →
      Whole body → Sound rest → Sound (LoopThen site first test answer body rest)
  loop_sound site first test answer body rest sound_t sound_b sound = record {
    by = λ m free p t next a T at tail k st w has fit below lanes ahead go.
        let p1 = p + 2 in
        let bs = lines_code f free (free + 1) p1 next body in
        let next1 = past next (atoms_in body) in
        let p2 = p1 + length bs in
        let ts = lines_code f free (free + 1) p2 next1 test in
        let next2 = past next1 (atoms_in test) in
        let y = p2 + length ts in
        let ends = turn_code f free next2 p1 answer in
        let next3 = past_atom next2 answer in
        let p3 = y + 1 + 1 in
        let rc = lines_code f m free p3 next3 rest in
        let entry = if first then p2 else y + 1 in
        let mine = kernel_chunk kernel launch width chunk.group chunk.first in
        let two : p + 1 + 1 ≡ p1 = omega arith in
        let has_b = subst (λ n. HasAt code n (bs ++ (ts ++ (ends ++ rc)))) two has.1.1 in
        let has_t = has_back code p1 bs (ts ++ (ends ++ rc)) has_b in
        let has_e = has_back code p2 ts (ends ++ rc) has_t in
        let f1 = and_parts (Rattle.kir.specs.Fits.is_site kernel site && lines_fit kernel test && has_some_type
        (atom_type kernel answer) && lines_fit kernel body) (lines_fit kernel rest) fit.fits in
        let f2 = and_parts (Rattle.kir.specs.Fits.is_site kernel site && lines_fit kernel test && has_some_type
        (atom_type kernel answer)) (lines_fit kernel body) f1.0 in
        let f3 = and_parts (Rattle.kir.specs.Fits.is_site kernel site && lines_fit kernel test)
        (has_some_type (atom_type kernel answer)) f2.0 in
        let f4 = and_parts (Rattle.kir.specs.Fits.is_site kernel site) (lines_fit kernel test) f3.0 in
        let behind_body = λ (c : ℕ) (e : some_reads c (atoms_in test ++ (answer ∷ atoms_in rest)) ≡ true). fit.names c
        (some_right c (atoms_in body) (atoms_in test ++ (answer ∷ atoms_in rest)) e) in
        let behind_test = λ (c : ℕ) (e : some_reads c (answer ∷ atoms_in rest) ≡ true). behind_body c
        (some_right c (atoms_in test) (answer ∷ atoms_in rest) e) in
        let held1 = held_right f width r0 next (atoms_in body) (atoms_in test ++ (answer ∷ atoms_in rest)) fit.held in
        let held2 = held_right f width r0 next1 (atoms_in test) (answer ∷ atoms_in rest) held1 in
        let K = LinesAt (Behind ∷ at) (joined_to rest tail) k in
        let on : ComesTo Goal K = come_trans Goal (LinesAt (past_lines rest (Behind ∷ at)) tail k) K
        (through rest tail (Behind ∷ at) k) ahead in
        let loop : HasLoop test answer body next free p1 = record {
          has_body = has_front code p1 bs _ has_b;
          has_test = has_front code p2 ts _ has_t;
          has_turn = has_front code y ends rc has_e;
          fit_body = record {
            fits = f2.1;
            names = λ c e. fit.names c (some_left c (atoms_in body) _ e);
            held = held_left f width r0 next (atoms_in body) (atoms_in test ++ (answer ∷ atoms_in rest)) fit.held;
            sites = λ s h. fit.sites s (omega arith);
          };
          fit_test = record {
            fits = f4.1;
            names = λ c e. behind_body c (some_left c (atoms_in test) _ e);
            held = held_left f width r0 next1 (atoms_in test) (answer ∷ atoms_in rest) held1;
            sites = λ s h. fit.sites s (omega arith);
          };
          typed = type_there kernel launch width chunk turns w0 g0 f counts r0 ground atoms framed code valid Good Sites
              Goal closed (atom_type kernel answer) f3.1;
          names = λ c e. behind_test c (or_left (reads c answer) (some_reads c (atoms_in rest)) e);
          held = held2.0;
        } in
        let s = step.MaskAnd (mask_reg free) (mask_reg m) (mask_reg m) in
        let w1 = and_parts (is_below counts (mask_reg free) && is_below counts (mask_reg m))
        (is_below counts (mask_reg m)) (code_well counts code p s valid has.0) in
        let w2 = and_parts (is_below counts (mask_reg free)) (is_below counts (mask_reg m)) w1.0 in
        let lm = mask_length counts width st.registers lanes.sim.shape m w1.1 in
        let fn = λ (x : Test) (z : Test). x && z in
        let ms = mask_of st.registers (mask_reg m) in
        masks_step kernel launch width chunk turns w0 g0 f counts r0 ground atoms framed code valid Good Sites Goal
        closed t p free s st (zip2 fn ms ms) has.0 refl lanes.sim.shape w2.0 (length-zip2 fn ms ms refl ∙ lm)
        (λ after k1.
        let st1 = with_registers st after in
        let kept1 = masked_below kernel launch width chunk turns w0 g0 f counts r0 ground atoms framed code valid Good
        Sites Goal closed free free st _ after (omega arith) k1 in
        ahead_step mine code Good t (p + 1) entry (step.Jump entry) st1 st1 has.1.0 refl
        (past_head first p2 (y + 1) (p + 1) (omega arith) (omega arith))
        (enter_sound test answer body next free p1 at K on sound_t sound_b loop first site
        (joined_to rest tail) k refl t a T st1 w
        (record {
          mask = λ l lt. k1.here l lt ∙ get_or-zip2 fn ms ms l false false false (let h = lm in
              omega arith) (let h = lm in omega arith) ∙ and_same (mask_at st.registers m l) ∙ lanes.mask l lt;
          alive = lanes.alive;
          sim = masked_sim kernel launch width chunk turns w0 g0 f counts r0 ground atoms framed code valid Good Sites
              Goal closed t free T st w _ after k1 lanes.sim;
          stand = lanes.stand;
        })
        (λ t4 st4 w4 le4 sim4 masks4.
        let len : p3 + length rc ≡ p + length (s ∷ step.Jump entry ∷ (bs ++ (ts ++ (ends ++ rc)))) = omega (
          arith,
          length-append bs (ts ++ (ends ++ rc)),
          length-append ts (ends ++ rc),
          length-append ends rc,
        ) in
        let kept = masks_then kernel launch width chunk turns w0 g0 f counts r0 ground atoms framed code valid Good
        Sites Goal closed free st st1 st4 kept1 masks4 in
        rest_sound kernel launch width chunk turns w0 g0 f counts r0 ground atoms framed code valid Good Sites Goal
        closed rest sound m free p3 t4 t (p + length (s ∷ step.Jump entry ∷ (bs ++ (ts ++ (ends ++ rc))))) next3 a T
        (λ l. cond (a l) K (T l)) (Behind ∷ at) tail k st st4 w4
        has_e.1.1
        (record {
          fits = f1.1;
          names = λ c e. behind_test c (or_right (reads c answer) (some_reads c (atoms_in rest))
              e);
          held = held2.1;
          sites = λ s h. fit.sites s (omega arith);
        }) below
        (record {
          mask = λ l lt. kept m l below lt ∙ lanes.mask l lt;
          alive = lanes.alive;
          sim = sim4;
          stand = λ l lane set. cond_set (a l) K (T l) set;
        })
        le4 len kept (λ l unset. cond_unset (a l) K (T l) unset) ahead go)));
  }
    where
      past_head : (b : Test) (x z n : ℕ) → n < x → n < z → n < cond b x z
      past_head true x z n h h' = h
      past_head false x z n h h' = h'
