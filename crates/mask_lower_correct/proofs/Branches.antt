-- The masked code of an if is sound: each branch runs for the lanes that take it, and is passed over where none does.
use Rattle.std.proofs.Common.{◌≡◌, ℕ, suc, ◌+◌, ◌<◌, List, [], ◌∷◌, ◌++◌, length, refl, sym, ap, ap₂, ◌∙◌, subst}
use Rattle.std.proofs.Common.{⊎_elim, arith, cond, IsTrue, length-append}
use Rattle.std.specs.Prelude.{◌&&◌, not, if◌then◌else◌}
use Rattle.std.specs.Prelude.{Bool as Test, true, false}
use Rattle.std.specs.Simd.Lanes.{zip2}
use Rattle.std.proofs.lemmas.Bool.{cases_Bool, and_parts, or_left, or_right}
use Rattle.std.proofs.lemmas.Simd.{get_or-zip2, length-zip2}
use Rattle.work_items.specs.Items.{Goes}
use Rattle.cl_model.specs.Values.{is_zero}
use Rattle.cl_model.specs.Sizes.{Launch}
use Rattle.kir.specs.declared.line.Atom.{Atom}
use Rattle.kir.specs.Tree.{Lines, IfThen, joined_to, Kernel}
use Rattle.kir.specs.Places.{Behind, IntoChosen, IntoOther, Place, Tasks, LinesAt}
use Rattle.kir.specs.Live.{reads, some_reads, live_now}
use Rattle.kir.specs.Fits.{lines_fit, has_some_type, atom_type}
use Rattle.kir.specs.Steps.{Item, with_tasks, atom_value}
use Rattle.lane_code.specs.declared.step.Step.{Step}
use Rattle.lane_code.specs.declared.step.Step.TheVariants as step
use Rattle.lane_code.specs.declared.step.Reg.{Reg}
use Rattle.lane_code.specs.declared.code.Counts.{Counts}
use Rattle.lane_code.specs.Registers.{Registers, mask_of}
use Rattle.lane_code.specs.Fits.{is_below, is_code}
use Rattle.lane_code.specs.Groups.{Group}
use Rattle.lane_code.specs.Acts.{State, On, Ahead, act, with_registers}
use Rattle.lane_code.specs.Meaning.{Ended}
use Rattle.lane_laws.specs.Places.{HasAt}
use Rattle.lane_laws.proofs.Steps.{has_front, has_back, on_step, ahead_step}
use Rattle.group_moves.specs.Stages.{Stage}
use Rattle.group_moves.specs.Lanes.{IsLane, some_below}
use Rattle.kir_moves.specs.Leads.{into_chosen, into_other, ComesTo}
use Rattle.kir_moves.proofs.Coming.{come_trans}
use Rattle.kir_moves.proofs.Live.{live_leads, reads_live}
use Rattle.regions.specs.Spans.{past_lines}
use Rattle.mask_lower.specs.declared.registers.Free.{Free}
use Rattle.mask_lower.specs.Banks.{mask_reg}
use Rattle.mask_lower.specs.Atoms.{atoms_in}
use Rattle.mask_lower.specs.Layout.{kernel_chunk}
use Rattle.mask_lower.specs.Following.{ChunkOf}
use Rattle.mask_lower.specs.Registers.{Frame, operand, past_atom, past}
use Rattle.mask_lower.specs.Lowered.{is_no_line, skipped, otherwise, test_step, lines_code}
use Rattle.mask_lower_correct.specs.Framed.{IsFramed}
use Rattle.mask_lower_correct.specs.Sim.{Ground, Closed}
use Rattle.mask_lower_correct.proofs.View.{code_well, mask_length}
use Rattle.mask_lower_correct.proofs.Frames.{some_left, some_right, held_left, held_right}
use Rattle.mask_lower_correct.proofs.Standing.{same_outer, cond_set, cond_unset, sim_go}
use Rattle.mask_lower_correct.proofs.Atoms.{operand_is}
use Rattle.mask_lower_correct.proofs.Masks.{some_is, none_below, no_lane, and_false, branch_done, branch_idle}
use Rattle.mask_lower_correct.proofs.Masks.{flip_cond}
use Rattle.mask_lower_correct.proofs.Through.{no_line_is, through}
use Rattle.mask_lower_correct.proofs.Soundness.{in_width, named, masks_then, pass_end, rest_sound, masks_step}
use Rattle.mask_lower_correct.proofs.Soundness.{masked_sim, masked_below, type_there, test_runs, yes_is}
use Rattle.mask_lower_correct.proofs.Soundness as soundness

module _ (kernel : Kernel) (launch : Launch) (width : ℕ) (chunk : ChunkOf kernel launch width) (turns : ℕ)
    (w0 : Stage Item) (g0 : Group) (f : Frame) (counts : Counts) (r0 : Registers) (ground : Ground kernel launch w0)
    (atoms : List Atom) (framed : IsFramed kernel f atoms) (code : List Step) (valid : is_code counts code ≡ true)
    (Good : Ended → Type 0) (Sites : ℕ → Type 0) (Goal : Tasks) (closed : Closed kernel launch width chunk turns w0
    Sites Goal Good) where
  abbrev Whole : Lines → Type 0
  Whole = soundness.Whole kernel launch width chunk turns w0 g0 f counts r0 ground atoms framed code valid Good
      Sites Goal closed

  abbrev Fit : Lines → Free → Type 0
  Fit = soundness.Fit kernel launch width chunk turns w0 g0 f counts r0 ground atoms framed code valid Good
      Sites Goal closed

  abbrev Lanes : ℕ → ℕ → (ℕ → Test) → (ℕ → Tasks) → Tasks → State → Stage Item → Type 0
  Lanes = soundness.Lanes kernel launch width chunk turns w0 g0 f counts r0 ground atoms framed code valid Good
      Sites Goal closed

  abbrev Onward : (ℕ → Test) → Tasks → (ℕ → Tasks) → ℕ → State → ℕ → ℕ → Type 0
  Onward = soundness.Onward kernel launch width chunk turns w0 g0 f counts r0 ground atoms framed code valid
      Good Sites Goal closed

  abbrev end_from : ℕ → ℕ → State → Ended
  end_from = soundness.end_from kernel launch width chunk turns w0 g0 f counts r0 ground atoms framed code valid Good
      Sites Goal closed

  abbrev HasMask : State → ℕ → (ℕ → Test) → Type 0
  HasMask = soundness.HasMask kernel launch width chunk turns w0 g0 f counts r0 ground atoms framed code valid Good
      Sites Goal closed

  abbrev At : ℕ → (ℕ → Tasks) → State → Stage Item → Type 0
  At = soundness.At kernel launch width chunk turns w0 g0 f counts r0 ground atoms framed code valid Good
      Sites Goal closed

  abbrev Sound : Lines → Type 0
  Sound = soundness.Sound kernel launch width chunk turns w0 g0 f counts r0 ground atoms framed code valid Good
      Sites Goal closed

  abbrev yes_at : State → Reg → ℕ → Test
  yes_at = soundness.yes_at kernel launch width chunk turns w0 g0 f counts r0 ground atoms framed code valid
      Good Sites Goal closed

  -- the code of a branch behind the step that passes it over where no lane takes it
  branch_lines : (L : Lines) → Whole L → (m free q t : ℕ) (next : Free) (b : ℕ → Test) (T : ℕ → Tasks) (at : Place)
      (k : Tasks) (st : State) (w : Stage Item) → m < free →
      HasAt code q (step.SkipNone (mask_reg m) (q + 1 + length (lines_code f m free (q + 1) next L)) ∷ lines_code f
      m free (q + 1) next L) → Fit L next → Lanes m t b T (LinesAt at L k) st w → ComesTo Goal k
      → Onward b k T free st t (q + 1 + length (lines_code f m free (q + 1) next L)) → Good (end_from t q st)
  branch_lines L sound m free q t next b T at k st w below has fit lanes ahead go =
      let target = q + 1 + length (lines_code f m free (q + 1) next L) in
      let s = step.SkipNone (mask_reg m) target in
      let mine = kernel_chunk kernel launch width chunk.group chunk.first in
      let w1 = and_parts (is_below counts (mask_reg m)) _ (code_well counts code q s valid has.0) in
      let is : act mine s st ≡ cond (some_below width b) (On st)
      (Ahead target st) = ap (λ x. cond x (On st) (Ahead target st))
      (some_is width (mask_of st.registers (mask_reg m)) b (mask_length counts width st.registers lanes.sim.shape m
      w1.0) lanes.mask) in
      ⊎_elim
      (λ some. on_step mine code Good t q s st st has.0 (is ∙ cond_set _ (On st) (Ahead target st) some)
      (sound.by m free (q + 1) t next b T at k st w has.1 fit below lanes ahead go))
      (λ none. ahead_step mine code Good t q target s st st has.0 (is ∙ cond_unset _ (On st) (Ahead target st) none)
      (omega arith)
      (go t st w (omega arith) (named kernel launch width chunk turns w0 g0 f counts r0 ground atoms framed code valid
      Good Sites Goal closed t T (λ l. cond (b l) k (T l)) st w
      (λ l lane. sym (cond_unset (b l) k (T l)
      (none_below width b none l (in_width kernel launch width chunk turns w0 g0 f counts r0 ground atoms framed
      code valid Good Sites Goal closed l lane)))) lanes.sim) (λ r l lt ltl. refl)))
      (cases_Bool (some_below width b))

  -- a branch, which may have no lines
  branch_sound : (L : Lines) → Whole L → (m free q t : ℕ) (next : Free) (b : ℕ → Test) (T : ℕ → Tasks) (at : Place)
      (k : Tasks) (st : State) (w : Stage Item) → m < free →
      HasAt code q (skipped m q L (lines_code f m free (q + 1) next L)) → Fit L next →
      Lanes m t b T (LinesAt at L k) st w → ComesTo Goal k
      → Onward b k T free st t (q + length (skipped m q L (lines_code f m free (q + 1) next L))) →
      Good (end_from t q st)
  branch_sound L sound m free q t next b T at k st w below has fit lanes ahead go = by (is_no_line L) refl has go
    where
      lc : List Step
      lc = lines_code f m free (q + 1) next L

      by : (e : Test) → is_no_line L ≡ e →
          HasAt code q (cond e [] (step.SkipNone (mask_reg m) (q + 1 + length lc) ∷ lc)) →
          Onward b k T free st t (q + length
          (cond {A = List Step} e [] (step.SkipNone (mask_reg m) (q + 1 + length lc) ∷ lc))) → Good (end_from t q st)
      by true e has go =
          let none = no_line_is L e in
          let r = pass_end kernel launch width chunk turns w0 g0 f counts r0 ground atoms framed code valid Good Sites
          Goal closed t b T at k st w (λ l lane set. lanes.stand l lane set ∙ ap (λ x. LinesAt at x k) none)
          lanes.sim in
          let n : q + 0 ≡ q = omega arith in
          subst (λ x. Good (end_from t x st)) n (go t st r.0 (omega arith) r.1 (λ r l lt ltl. refl))
      by false e has go =
          let n : q + suc (length lc) ≡ q + 1 + length lc = omega arith in
          branch_lines L sound m free q t next b T at k st w below has fit lanes ahead
          (subst (λ x. Onward b k T free st t x) n go)

  -- the other branch, for the lanes of `m` that are not in the mask `free`
  other_sound : (L : Lines) → Whole L → (m free q t : ℕ) (next : Free) (a y b : ℕ → Test) (T : ℕ → Tasks) (at : Place)
      (k : Tasks) (st : State) (w : Stage Item) → m < free →
      HasAt code q (otherwise m free q L (lines_code f free (free + 1) (q + 1 + 1) next L)) → Fit L next →
      HasMask st m a → HasMask st free y → ((l : ℕ) → b l ≡ (a l && not (y l)))
      → ((l : ℕ) → b l ≡ true → IsTrue (chunk.lanes.alive l)) → At t T st w →
      ((l : ℕ) → IsLane chunk.lanes l → b l ≡ true → T l ≡ LinesAt at L k) → ComesTo Goal k
      → Onward b k T free st t (q + length (otherwise m free q L (lines_code f free (free + 1) (q + 1 + 1) next L))) →
      Good (end_from t q st)
  other_sound L sound m free q t next a y b T at k st w below has fit mask_a mask_y is_b alive sim stand ahead go =
      by (is_no_line L) refl has go
    where
      lc : List Step
      lc = lines_code f free (free + 1) (q + 1 + 1) next L

      by : (e : Test) → is_no_line L ≡ e
          → HasAt code q (cond e [] (step.MaskLess (mask_reg free) (mask_reg m) (mask_reg free) ∷ cond e []
          (step.SkipNone (mask_reg free) (q + 1 + 1 + length lc) ∷ lc)))
          → Onward b k T free st t (q + length
          (cond {A = List Step} e [] (step.MaskLess (mask_reg free) (mask_reg m) (mask_reg free) ∷ cond e []
          (step.SkipNone (mask_reg free) (q + 1 + 1 + length lc) ∷ lc)))) → Good (end_from t q st)
      by true e has go =
          let none = no_line_is L e in
          let r = pass_end kernel launch width chunk turns w0 g0 f counts r0 ground atoms framed code valid Good Sites
          Goal closed t b T at k st w (λ l lane set. stand l lane set ∙ ap (λ x. LinesAt at x k) none) sim in
          let n : q + 0 ≡ q = omega arith in
          subst (λ x. Good (end_from t x st)) n (go t st r.0 (omega arith) r.1 (λ r l lt ltl. refl))
      by false e has go =
          let s = step.MaskLess (mask_reg free) (mask_reg m) (mask_reg free) in
          let w1 = and_parts (is_below counts (mask_reg free) && is_below counts (mask_reg m))
          (is_below counts (mask_reg free)) (code_well counts code q s valid has.0) in
          let w2 = and_parts (is_below counts (mask_reg free)) (is_below counts (mask_reg m)) w1.0 in
          let lm = mask_length counts width st.registers sim.shape m w2.1 in
          let lf = mask_length counts width st.registers sim.shape free w1.1 in
          let fn = λ (x : Test) (z : Test). x && not z in
          let lanes = zip2 fn (mask_of st.registers (mask_reg m)) (mask_of st.registers (mask_reg free)) in
          masks_step kernel launch width chunk turns w0 g0 f counts r0 ground atoms framed code valid Good Sites Goal
          closed t q free s st lanes has.0 refl sim.shape w1.1 (length-zip2 fn (mask_of st.registers (mask_reg m))
          (mask_of st.registers (mask_reg free)) (lm ∙ sym lf) ∙ lm) (λ after k1.
          let st1 = with_registers st after in
          let n : q + suc (suc (length lc)) ≡ q + 1 + 1 + length lc = omega arith in
          branch_lines L sound free (free + 1) (q + 1) t next b T at k st1 w (omega arith) has.1 fit
          (record {
            mask = λ l lt. k1.here l lt ∙ get_or-zip2 fn (mask_of st.registers (mask_reg m))
                (mask_of st.registers (mask_reg free)) l false false false (let h = lm in omega arith) (let h = lf in
                omega arith) ∙ ap₂ (λ u v. u && not v) (mask_a l lt) (mask_y l lt) ∙ sym (is_b l);
            alive = alive;
            sim = masked_sim kernel launch width chunk turns w0 g0 f counts r0 ground atoms framed code valid Good Sites
                Goal closed t free T st w _ after k1 sim;
            stand = stand;
          })
          ahead
          (λ t' st' w' le sim' masks. subst (λ x. Good (end_from t' x st')) n
          (go t' st' w' le sim' (masks_then kernel launch width chunk turns w0 g0 f counts r0 ground atoms framed
          code valid Good Sites Goal closed free st st1 st' (masked_below kernel launch width chunk turns w0 g0 f
          counts r0 ground atoms framed code valid Good Sites Goal closed free free st _ after (omega arith) k1)
          (λ r l lt ltl. masks r l (omega arith) ltl)))))

  -- an if
  branched_is : (z : Test) (at : Place) (chosen other rest : Lines) (k : Tasks) (y : Test) → y ≡ not z
      → (if z then LinesAt (IntoOther ∷ at) other (LinesAt (Behind ∷ at) rest k) else LinesAt (IntoChosen ∷ at) chosen
      (LinesAt (Behind ∷ at) rest k)) ≡ cond y (LinesAt (IntoChosen ∷ at) chosen (LinesAt (Behind ∷ at) rest k))
      (LinesAt (IntoOther ∷ at) other (LinesAt (Behind ∷ at) rest k))
  branched_is z at chosen other rest k y e =
      flip_cond z _ _ ∙ ap (λ b. cond b (LinesAt (IntoChosen ∷ at) chosen (LinesAt (Behind ∷ at) rest k))
      (LinesAt (IntoOther ∷ at) other (LinesAt (Behind ∷ at) rest k))) (sym e)

  branch_live : (c : ℕ) (y : Test) (site : ℕ) (test : Atom) (at : Place) (chosen other rest : Lines) (k : Tasks)
      → live_now c (cond y (LinesAt (IntoChosen ∷ at) chosen (LinesAt (Behind ∷ at) rest k))
      (LinesAt (IntoOther ∷ at) other (LinesAt (Behind ∷ at) rest k))) ≡ true →
      live_now c (LinesAt at (IfThen site test chosen other rest) k) ≡ true
  branch_live c true site test at chosen other rest k e =
      live_leads c (LinesAt at (IfThen site test chosen other rest) k)
      (LinesAt (IntoChosen ∷ at) chosen (LinesAt (Behind ∷ at) rest k)) into_chosen refl e
  branch_live c false site test at chosen other rest k e =
      live_leads c (LinesAt at (IfThen site test chosen other rest) k)
      (LinesAt (IntoOther ∷ at) other (LinesAt (Behind ∷ at) rest k)) into_other refl e

  pub if_sound : (site : ℕ) (test : Atom) (chosen other rest : Lines) → Whole chosen → Whole other → Sound rest →
      Sound (IfThen site test chosen other rest)
  if_sound site test chosen other rest sound_y sound_n sound = record {
    by = λ m free p t next a T at tail k st w has fit below lanes ahead go.
        let next1 = past_atom next test in
        let q1 = p + 1 in
        let yc = skipped free q1 chosen (lines_code f free (free + 1) (q1 + 1) next1 chosen) in
        let next2 = past next1 (atoms_in chosen) in
        let q2 = q1 + length yc in
        let nc = otherwise m free q2 other (lines_code f free (free + 1) (q2 + 1 + 1) next2 other) in
        let next3 = past next2 (atoms_in other) in
        let q3 = q2 + length nc in
        let rc = lines_code f m free q3 next3 rest in
        let has_n = has_back code q1 yc (nc ++ rc) has.1 in
        let f1 = and_parts (Rattle.kir.specs.Fits.is_site kernel site && has_some_type (atom_type kernel test)
        && lines_fit kernel chosen && lines_fit kernel other) (lines_fit kernel rest) fit.fits in
        let f2 = and_parts (Rattle.kir.specs.Fits.is_site kernel site && has_some_type (atom_type kernel test)
        && lines_fit kernel chosen) (lines_fit kernel other) f1.0 in
        let f3 = and_parts (Rattle.kir.specs.Fits.is_site kernel site && has_some_type (atom_type kernel test))
        (lines_fit kernel chosen) f2.0 in
        let ty = type_there kernel launch width chunk turns w0 g0 f counts r0 ground atoms framed code valid Good Sites
        Goal closed (atom_type kernel test) (and_parts (Rattle.kir.specs.Fits.is_site kernel site)
        (has_some_type (atom_type kernel test)) f3.0).1 in
        let names1 = λ (c : ℕ) (e : some_reads c (atoms_in chosen ++ (atoms_in other ++ atoms_in rest)) ≡ true).
        fit.names c (or_right (reads c test) (some_reads c
        (atoms_in chosen ++ (atoms_in other ++ atoms_in rest))) e) in
        let fit_y : Fit chosen next1 =
        record {
          fits = f3.1;
          names = λ c e.
              names1 c (some_left c (atoms_in chosen) (atoms_in other ++ atoms_in rest) e);
          held = held_left f width r0 next1 (atoms_in chosen) (atoms_in other ++ atoms_in rest) fit.held.1;
          sites = λ s h. fit.sites s (omega arith);
        } in
        let held2 = held_right f width r0 next1 (atoms_in chosen) (atoms_in other ++ atoms_in rest) fit.held.1 in
        let fit_n : Fit other next2 = record {
          fits = f2.1;
          names = λ c e. names1 c (some_right c (atoms_in chosen) (atoms_in other ++ atoms_in rest)
              (some_left c (atoms_in other) (atoms_in rest) e));
          held = held_left f width r0 next2 (atoms_in other) (atoms_in rest) held2;
          sites = λ s h. fit.sites s (omega arith);
        } in
        let fit_r : Fit rest next3 = record {
          fits = f1.1;
          names = λ c e. names1 c (some_right c (atoms_in chosen) (atoms_in other ++ atoms_in rest)
              (some_right c (atoms_in other) (atoms_in rest) e));
          held = held_right f width r0 next2 (atoms_in other) (atoms_in rest) held2;
          sites = λ s h. fit.sites s (omega arith);
        } in
        let K = LinesAt (Behind ∷ at) (joined_to rest tail) k in
        let on : ComesTo Goal K = come_trans Goal (LinesAt (past_lines rest (Behind ∷ at)) tail k) K
        (through rest tail (Behind ∷ at) k) ahead in
        let one = operand_is kernel width f atoms counts r0 framed next test ty.0 st.registers ty.1
        (λ c e. fit.names c (or_left (reads c test) _ e)) fit.held.0 lanes.sim.above in
        test_runs kernel launch width chunk turns w0 g0 f counts r0 ground atoms framed code valid Good Sites Goal
        closed next test ty.0 m free p t st has.0 one lanes.sim.shape (λ after k1.
        let st1 = with_registers st after in
        let v = yes_at st (operand f.cells next test).at in
        let sim1 = masked_sim kernel launch width chunk turns w0 g0 f counts r0 ground atoms framed code valid Good
        Sites Goal closed t free T st w _ after k1 lanes.sim in
        let kept1 = masked_below kernel launch width chunk turns w0 g0 f counts r0 ground atoms framed code valid Good
        Sites Goal closed free free st _ after (omega arith) k1 in
        let mask1 : HasMask st1 m a = λ l lt. kept1 m l below lt ∙ lanes.mask l lt in
        let b_yes = λ (l : ℕ). a l && v l in
        let b_no = λ (l : ℕ). a l && not (a l && v l) in
        let yes_mask : HasMask st1 free b_yes = λ l lt. k1.here l lt ∙ ap (λ b. b && v l) (lanes.mask l lt) in
        let TY = LinesAt (IntoChosen ∷ at) chosen K in
        let TN = LinesAt (IntoOther ∷ at) other K in
        let T0 = λ (l : ℕ). cond (v l) TY TN in
        let T1 = λ (l : ℕ). cond (a l) (T0 l) (T l) in
        let r = sim_go kernel launch width chunk turns w0 g0 f counts r0 ground t T T0 st1 st1 w a
        (LinesAt at (IfThen site test chosen other (joined_to rest tail)) k) (same_outer st1) sim1.shape
        (λ x l lt e more. refl)
        (λ l lane set s good ag. (
          s.cells,
          ap (λ x. Goes (with_tasks s x)) (branched_is (is_zero (atom_value s.cells test)) at chosen other
              (joined_to rest tail) k (v l) (yes_is kernel launch width chunk turns w0 g0 f counts r0 ground atoms
              framed code valid Good Sites Goal closed next test ty.0 st l s
              (LinesAt at (IfThen site test chosen other (joined_to rest tail)) k) one
              ty.1 (in_width kernel launch width chunk turns w0 g0 f counts r0 ground atoms framed code valid Good Sites
              Goal closed l lane) good (λ c op e live. sym (k1.numbers op.at l) ∙
              ag c op e live) (λ c rd. reads_live c
              (LinesAt at (IfThen site test chosen other (joined_to rest tail)) k) rd))),
          λ c op e live. ag c op e (branch_live c (v l) site test at chosen other (joined_to rest tail) k live),
        ))
        (λ l lane unset c op e. refl) lanes.stand sim1 in
        branch_sound chosen sound_y free (free + 1) q1 t next1 b_yes T1 (IntoChosen ∷ at) K st1 r.0 (omega arith)
        (has_front code q1 yc (nc ++ rc) has.1) fit_y
        (record {
          mask = yes_mask;
          alive = λ l e. lanes.alive l (and_parts (a l) _ e).0;
          sim = r.1;
          stand = λ l lane e. let both = and_parts (a l) (v l) e in cond_set (a l) (T0 l) (T l) both.0
              ∙ cond_set (v l) TY TN both.1;
        })
        on
        (λ t4 st4 w4 le4 sim4 masks4.
        let T2 = λ (l : ℕ). cond (b_yes l) K (T1 l) in
        let mask4 : HasMask st4 m a = λ l lt. masks4 m l (omega arith) lt ∙ mask1 l lt in
        other_sound other sound_n m free q2 t4 next2 a b_yes b_no T2 (IntoOther ∷ at) K st4 w4 below
        (has_front code q2 nc rc has_n) fit_n mask4 (λ l lt. masks4 free l (omega arith) lt ∙ yes_mask l lt)
        (λ l. refl)
        (λ l e. lanes.alive l (and_parts (a l) _ e).0) sim4
        (λ l lane e. let both = no_lane (a l) (v l) e in cond_unset (b_yes l) K (T1 l) (and_false (a l) (v l) both.1)
        ∙ cond_set (a l) (T0 l) (T l) both.0 ∙ cond_unset (v l) TY TN both.1)
        on
        (λ t5 st5 w5 le5 sim5 masks5.
        let len : q3 + length rc ≡ p + length (test_step f next test free m ∷ (yc ++ (nc ++ rc))) = omega (
          arith,
          length-append yc (nc ++ rc),
          length-append nc rc,
        ) in
        let kept = masks_then kernel launch width chunk turns w0 g0 f counts r0 ground atoms framed code valid Good
        Sites Goal closed free st st1 st5 kept1 (masks_then kernel launch width chunk turns w0 g0 f counts r0 ground
        atoms framed code valid Good Sites Goal closed free st1 st4 st5
        (λ r l lt ltl. masks4 r l (omega arith) ltl) masks5) in
        rest_sound kernel launch width chunk turns w0 g0 f counts r0 ground atoms framed code valid Good Sites Goal
        closed rest sound m free q3 t5 t (p + length (test_step f next test free m ∷ (yc ++ (nc ++ rc)))) next3 a T
        (λ l. cond (b_no l) K (T2 l)) (Behind ∷ at) tail k st st5 w5
        (has_back code q2 nc rc has_n) fit_r below
        (record {
          mask = λ l lt. kept m l below lt ∙ lanes.mask l lt;
          alive = lanes.alive;
          sim = sim5;
          stand = λ l lane set. branch_done (a l) (v l) K (T1 l) set;
        })
        (omega arith) len kept (λ l unset. branch_idle (a l) (v l) K (T0 l) (T l) unset) ahead go)));
  }
