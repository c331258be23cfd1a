-- The masked code of lines does what the items of its active lanes do, in some order of their moves: what is shown of
-- lines, and that lines that compute, accesses, masks, tests of lanes and barriers are sound.
use Rattle.std.proofs.Common.{◌≡◌, ℕ, ◌+◌, ◌<◌, ◌≤◌, List, [], ◌∷◌, ◌++◌, length, Option, Some, None, refl, sym, ap}
use Rattle.std.proofs.Common.{◌∙◌, subst, arith, cond, IsTrue, length-append}
use Rattle.std.specs.Prelude.{slice_get, slice_index_or, nat_eq, ◌&&◌, not}
use Rattle.std.specs.Prelude.{Bool as Test, true, false}
use Rattle.std.specs.Simd.Lanes.{zip2}
use Rattle.std.proofs.lemmas.Bool.{true≢false, and_parts, or_left, or_right, eqb-true, eqb-false}
use Rattle.std.proofs.lemmas.Option.{same_Some}
use Rattle.std.proofs.lemmas.Simd.{get_or-zip2, length-zip2}
use Rattle.work_items.specs.Clean.{WaitsAt}
use Rattle.wg_num.specs.declared.types.IntType.{IntType}
use Rattle.cl_model.specs.declared.program.Root.{Root}
use Rattle.cl_model.specs.Values.{is_zero}
use Rattle.cl_model.specs.Sizes.{Launch}
use Rattle.kir.specs.declared.line.Atom.{Atom}
use Rattle.kir.specs.Tree.{Work, Lines, NoLine, SetThen, LoadThen, StoreThen, ClearThen, BarrierThen, joined_to, Kernel}
use Rattle.kir.specs.Places.{Behind, Place, Tasks, LinesAt}
use Rattle.kir.specs.Live.{reads, some_reads, live_now}
use Rattle.kir.specs.Counts.{barrier_lines, once_if}
use Rattle.kir.specs.Fits.{lines_fit, has_some_type, atom_type, work_fits, work_type, cell_takes}
use Rattle.kir.specs.Steps.{Item, with_cell, atom_value, work_value, tasks_next}
use Rattle.kir.proofs.CellTypes.{has_type_is, atom_typed}
use Rattle.lane_code.specs.declared.step.Step.{Step}
use Rattle.lane_code.specs.declared.step.Step.TheVariants as step
use Rattle.lane_code.specs.declared.step.Reg.{Reg}
use Rattle.lane_code.specs.declared.code.Counts.{Counts}
use Rattle.lane_code.specs.declared.end.RegionEnd.TheVariants as end
use Rattle.lane_code.specs.Registers.{Registers, lanes_of, mask_of, with_mask, lowest}
use Rattle.lane_code.specs.Fits.{is_below, is_code}
use Rattle.lane_code.specs.Groups.{Group}
use Rattle.lane_code.specs.Acts.{State, On, act, marks, with_registers}
use Rattle.lane_code.specs.Meaning.{Ended, code_end}
use Rattle.lane_laws.specs.Places.{HasAt}
use Rattle.lane_laws.specs.Reading.{mask_at}
use Rattle.lane_laws.proofs.Reading.{lowest_is, none_lowest}
use Rattle.lane_laws.proofs.Steps.{has_front, has_back, on_step, halt_step}
use Rattle.group_moves.specs.Stages.{Stage}
use Rattle.group_moves.specs.Lanes.{IsLane}
use Rattle.kir_moves.specs.Leads.{past_end, past_set, past_barrier, ComesTo, by_leg, StillComes}
use Rattle.kir_moves.proofs.Coming.{come_trans}
use Rattle.kir_moves.proofs.Live.{live_leads, reads_live}
use Rattle.regions.specs.Spans.{past_lines}
use Rattle.mask_lower.specs.declared.registers.Free.{Free}
use Rattle.mask_lower.specs.declared.registers.Operand.{Operand}
use Rattle.mask_lower.specs.Banks.{mask_reg}
use Rattle.mask_lower.specs.Atoms.{atoms_of, atoms_in}
use Rattle.mask_lower.specs.Layout.{kernel_chunk}
use Rattle.mask_lower.specs.Following.{ChunkOf}
use Rattle.mask_lower.specs.Registers.{Frame, cell_at, operand, past_atom, past, root_at}
use Rattle.mask_lower.specs.Lowered.{work_code, test_step, lines_code}
use Rattle.mask_lower_correct.specs.View.{value_at, is_lane, Shaped, Masked}
use Rattle.mask_lower_correct.specs.Framed.{IsFramed, Held}
use Rattle.mask_lower_correct.specs.Sim.{Ground, IsGood, Agrees, Sim, Closed}
use Rattle.mask_lower_correct.proofs.LaneValues.{lane_in, zero_lane}
use Rattle.mask_lower_correct.proofs.View.{code_well, lanes_length, mask_length, mask_masked}
use Rattle.mask_lower_correct.proofs.Frames.{type_lane, some_left, some_right, held_left, held_right}
use Rattle.mask_lower_correct.proofs.Standing.{same_outer, cond_else, cond_set, cond_unset, sim_as, sim_names, sim_go}
use Rattle.mask_lower_correct.proofs.Atoms.{IsOperand, cell_entry}
use Rattle.mask_lower_correct.proofs.Work.{Worked, Gives}
use Rattle.mask_lower_correct.proofs.Works.{work_runs}
use Rattle.mask_lower_correct.proofs.Masks.{standing}
use Rattle.mask_lower_correct.proofs.Through.{joined_none, through}

module _ (kernel : Kernel) (launch : Launch) (width : ℕ) (chunk : ChunkOf kernel launch width) (turns : ℕ)
    (w0 : Stage Item) (g0 : Group) (f : Frame) (counts : Counts) (r0 : Registers) (ground : Ground kernel launch w0)
    (atoms : List Atom) (framed : IsFramed kernel f atoms) (code : List Step) (valid : is_code counts code ≡ true)
    (Good : Ended → Type 0) (Sites : ℕ → Type 0) (Goal : Tasks) (closed : Closed kernel launch width chunk turns w0
    Sites Goal Good) where
  abbrev pub At : ℕ → (ℕ → Tasks) → State → Stage Item → Type 0
  At = Sim kernel launch width chunk turns w0 g0 f counts r0

  abbrev pub end_from : ℕ → ℕ → State → Ended
  end_from t p st = code_end (kernel_chunk kernel launch width chunk.group chunk.first) code t p st

  -- the mask has these lanes
  abbrev pub HasMask : State → ℕ → (ℕ → Test) → Type 0
  HasMask st m a = (l : ℕ) → l < width → mask_at st.registers m l ≡ a l

  abbrev pub SameMasks : (free : ℕ) → State → State → Type 0
  SameMasks free st st' = (r l : ℕ) → r < free → l < width → mask_at st'.registers r l ≡ mask_at st.registers r l

  -- what is shown of the code at q, once the lanes of `a` stand at k
  abbrev pub Onward : (a : ℕ → Test) (k : Tasks) (T : ℕ → Tasks) (free : ℕ) (st : State) (t q : ℕ) → Type 0
  Onward a k T free st t q = (t' : ℕ) (st' : State) (w' : Stage Item) → t' ≤ t →
      At t' (λ l. cond (a l) k (T l)) st' w' → SameMasks free st st' → Good (end_from t' q st')

  -- lanes that stand before a task
  pub record Lanes (m t : ℕ) (a : ℕ → Test) (T : ℕ → Tasks) (from : Tasks) (st : State) (w : Stage Item) : Type 0 where
    pub mask : HasMask st m a
    pub alive : (l : ℕ) → a l ≡ true → IsTrue (chunk.lanes.alive l)
    pub sim : At t T st w
    pub stand : (l : ℕ) → IsLane chunk.lanes l → a l ≡ true → T l ≡ from

  -- lines that may stand in the code
  pub record Fit (L : Lines) (next : Free) : Type 0 where
    pub fits : lines_fit kernel L ≡ true
    pub names : (c : ℕ) → some_reads c (atoms_in L) ≡ true → some_reads c atoms ≡ true
    pub held : Held f width r0 next (atoms_in L)
    pub sites : (site : ℕ) → 0 < barrier_lines site L → Sites site

  -- from before lines to before the lines behind them
  pub record Sound (L : Lines) : Type 0 where
    pub by : (m free p t : ℕ) (next : Free) (a : ℕ → Test) (T : ℕ → Tasks) (at : Place) (tail : Lines) (k : Tasks)
        (st : State) (w : Stage Item) → HasAt code p (lines_code f m free p next L) → Fit L next → m < free →
        Lanes m t a T (LinesAt at (joined_to L tail) k) st w → ComesTo Goal (LinesAt (past_lines L at) tail k)
        → Onward a (LinesAt (past_lines L at) tail k) T free st t (p + length (lines_code f m free p next L)) →
        Good (end_from t p st)

  -- from before lines to what is behind them all
  pub record Whole (L : Lines) : Type 0 where
    pub by : (m free p t : ℕ) (next : Free) (a : ℕ → Test) (T : ℕ → Tasks) (at : Place) (k : Tasks) (st : State)
        (w : Stage Item) → HasAt code p (lines_code f m free p next L) → Fit L next → m < free →
        Lanes m t a T (LinesAt at L k) st w → ComesTo Goal k →
        Onward a k T free st t (p + length (lines_code f m free p next L)) → Good (end_from t p st)

  -- what the code of an access does, up to the next step
  abbrev pub Accesses : (first : Lines → Lines) (here : Free → ℕ → Step) → Type 0
  Accesses first here =
      (m p t : ℕ) (next : Free) (a : ℕ → Test) (T : ℕ → Tasks) (at : Place) (rest : Lines) (k : Tasks) (st : State)
      (w : Stage Item) → slice_get code p ≡ Some (here next m) → Fit (first NoLine) next
      → Lanes m t a T (LinesAt at (first rest) k) st w
      → ((st' : State) (w' : Stage Item) → At t (λ l. cond (a l) (LinesAt (Behind ∷ at) rest k) (T l)) st' w' →
      st'.registers.masks ≡ st.registers.masks → Good (end_from t (p + 1) st')) → Good (end_from t p st)

  pub record Accessing : Type 0 where
    pub loads : (site to : ℕ) (element : IntType) (root : Root) (index : Atom) →
        Accesses (LoadThen site to element root index) (λ next m. step.Load site element (root_at f.arrays root)
        (operand f.cells next index).at (cell_at f.cells to).at (mask_reg m))
    pub stores : (site : ℕ) (element : IntType) (root : Root) (index from : Atom) →
        Accesses (StoreThen site element root index from) (λ next m. step.Store site element (root_at f.arrays root)
        (operand f.cells next index).at (operand f.cells (past_atom next index) from).at (mask_reg m))
    pub clears : (array : ℕ) → Accesses (ClearThen array) (λ next m. step.Clear (slice_index_or f.arrays array 0)
        (mask_reg m))

  pub in_width : (l : ℕ) → IsLane chunk.lanes l → l < width
  in_width l lane = let e = chunk.is_chunk.width_is in let lt = lane.0 in omega arith

  -- the same names of tasks
  pub named : (t : ℕ) (T T' : ℕ → Tasks) (st : State) (w : Stage Item) → ((l : ℕ) → IsLane chunk.lanes l → T l ≡ T' l) →
      At t T st w → At t T' st w
  named t T T' st w same sim = sim_names kernel launch width chunk turns w0 g0 f counts r0 ground t T T' st w same sim

  pub same_masks : (free : ℕ) (st st' : State) → st'.registers.masks ≡ st.registers.masks → SameMasks free st st'
  same_masks free st st' e r l lt ltl = ap (λ rows. slice_index_or (slice_index_or rows r []) l false) e

  pub masks_then : (free : ℕ) (a b c : State) → SameMasks free a b → SameMasks free b c → SameMasks free a c
  masks_then free a b c ab bc r l lt ltl = bc r l lt ltl ∙ ab r l lt ltl

  -- lanes at the end of lines go on to what is behind
  pub pass_end : (t : ℕ) (b : ℕ → Test) (T : ℕ → Tasks) (at : Place) (k : Tasks) (st : State) (w : Stage Item) →
      ((l : ℕ) → IsLane chunk.lanes l → b l ≡ true → T l ≡ LinesAt at NoLine k) → At t T st w →
      (w' : Stage Item) × At t (λ l. cond (b l) k (T l)) st w'
  pass_end t b T at k st w stand sim =
      sim_go kernel launch width chunk turns w0 g0 f counts r0 ground t T (λ l. k) st st w b (LinesAt at NoLine k)
      (same_outer st) sim.shape (λ x l lt e more. refl)
      (λ l lane set s good ag. (
        s.cells,
        refl,
        λ c op e live. ag c op e
            (live_leads c (LinesAt at NoLine k) k past_end refl live),
      ))
      (λ l lane unset c op e. refl) stand sim

  pub whole_of : (L : Lines) → Sound L → Whole L
  whole_of L sound = record {
    by = λ m free p t next a T at k st w has fit below lanes ahead go.
        sound.by m free p t next a T at NoLine k st w has fit below
        (record {
          mask = lanes.mask;
          alive = lanes.alive;
          sim = lanes.sim;
          stand = λ l lane set. lanes.stand l lane set
              ∙ ap (λ x. LinesAt at x k) (sym (joined_none L));
        })
        (by_leg past_end ahead)
        (λ t' st' w' le sim masks.
        let r = pass_end t' a (λ l. cond (a l) (LinesAt (past_lines L at) NoLine k) (T l)) (past_lines L at) k st' w'
        (λ l lane set. cond_set (a l) _ _ set) sim in
        go t' st' r.0 le (named t' _ (λ l. cond (a l) k (T l)) st' r.0
        (λ l lane. cond_else (a l) k _ _ (λ e. cond_unset (a l) (LinesAt (past_lines L at) NoLine k) (T l) e)) r.1)
        masks);
  }

  -- the lines behind a first line, from where its lanes stand before them
  pub rest_sound : (rest : Lines) → Sound rest → (m free p1 t1 t q : ℕ) (next : Free) (a : ℕ → Test) (T T1 : ℕ → Tasks)
      (at : Place) (tail : Lines) (k : Tasks) (st st1 : State) (w1 : Stage Item) →
      HasAt code p1 (lines_code f m free p1 next rest) → Fit rest next → m < free →
      Lanes m t1 a T1 (LinesAt at (joined_to rest tail) k) st1 w1 → t1 ≤ t →
      p1 + length (lines_code f m free p1 next rest) ≡ q → SameMasks free st st1 →
      ((l : ℕ) → a l ≡ false → T1 l ≡ T l)
      → ComesTo Goal (LinesAt (past_lines rest at) tail k) → Onward a (LinesAt (past_lines rest at) tail k) T free st t
      q → Good (end_from t1 p1 st1)
  rest_sound rest sound m free p1 t1 t q next a T T1 at tail k st st1 w1 has fit below lanes le e masks idle ahead go =
      sound.by m free p1 t1 next a T1 at tail k st1 w1 has fit below lanes ahead (λ t' st' w' le' sim' masks'.
      subst (λ n. Good (end_from t' n st')) (sym e)
      (go t' st' w' (omega arith)
      (named t' (λ l. cond (a l) (LinesAt (past_lines rest at) tail k) (T1 l))
      (λ l. cond (a l) (LinesAt (past_lines rest at) tail k) (T l)) st' w'
      (λ l lane. cond_else (a l) (LinesAt (past_lines rest at) tail k) (T1 l) (T l) (idle l)) sim')
      (masks_then free st st1 st' masks masks')))

  pub no_line_sound : Sound NoLine
  no_line_sound = record {
    by = λ m free p t next a T at tail k st w has fit below lanes ahead go.
        let e : p + 0 ≡ p = omega arith in
        subst (λ n. Good (end_from t n st)) e
        (go t st w (omega arith) (named t T (λ l. cond (a l) (LinesAt at tail k) (T l)) st w
        (λ l lane. standing (a l) (LinesAt at tail k) (T l) (lanes.stand l lane)) lanes.sim) (λ r l lt ltl. refl));
  }

  -- ---- lines that compute

  pub set_sound : (to : ℕ) (work : Work) (rest : Lines) → Sound rest → Sound (SetThen to work rest)
  set_sound to work rest sound = record {
    by = λ m free p t next a T at tail k st w has fit below lanes ahead go.
        let toreg = (cell_at f.cells to).at in
        let here = work_code f next toreg (mask_reg m) work in
        let next1 = past next (atoms_of work) in
        let p1 = p + length here in
        let rc = lines_code f m free p1 next1 rest in
        let len : p1 + length rc ≡ p + length (here ++ rc) = omega (arith, length-append here rc) in
        let f1 = and_parts (work_fits kernel work && cell_takes kernel to (work_type kernel work))
        (lines_fit kernel rest) fit.fits in
        let f2 = and_parts (work_fits kernel work) (cell_takes kernel to (work_type kernel work)) f1.0 in
        let to_named : some_reads to atoms ≡ true = fit.names to
        (or_left (nat_eq to to) (some_reads to (atoms_of work ++ atoms_in rest))
        (Rattle.std.proofs.lemmas.Bool.eq-eqb to to refl)) in
        work_runs kernel launch width chunk.group chunk.first f atoms counts r0 framed code valid Good work next m to p
        t st (has_front code p here rc has) f2.0 f2.1 to_named
        (λ c e. fit.names c (or_right (nat_eq c to) (some_reads c (atoms_of work ++ atoms_in rest))
        (some_left c (atoms_of work) (atoms_in rest) e)))
        (held_left f width r0 next (atoms_of work) (atoms_in rest) fit.held.1) lanes.sim.above lanes.sim.shape
        (λ st1 done.
        let entry = to_entry to work f2.1 to_named in
        let r = sim_go kernel launch width chunk turns w0 g0 f counts r0 ground t T
        (λ l. LinesAt (Behind ∷ at) (joined_to rest tail) k) st st1 w a
        (LinesAt at (SetThen to work (joined_to rest tail)) k) done.outer done.shape done.above
        (λ l lane set s good ag. (
          (with_cell s (LinesAt (Behind ∷ at) (joined_to rest tail) k) to (work_value launch s work)).cells,
          refl,
          λ c op e live. set_cell m at k (joined_to rest tail) to work st st1 done entry l (in_width l lane)
              (lanes.mask l (in_width l lane) ∙ set) s good ag c op e live,
        ))
        (λ l lane unset c op e. done.idle l (in_width l lane) (lanes.mask l (in_width l lane) ∙ unset) c op e)
        lanes.stand lanes.sim in
        rest_sound rest sound m free p1 t t (p + length (here ++ rc)) next1 a T
        (λ l. cond (a l) (LinesAt (Behind ∷ at) (joined_to rest tail) k) (T l)) (Behind ∷ at) tail k st st1 r.0
        (has_back code p here rc has)
        (record {
          fits = f1.1;
          names = λ c e. fit.names c
              (or_right (nat_eq c to) (some_reads c (atoms_of work ++ atoms_in rest))
              (some_right c (atoms_of work) (atoms_in rest) e));
          held = held_right f width r0 next (atoms_of work)
              (atoms_in rest) fit.held.1;
          sites = fit.sites;
        })
        below
        (record {
          mask = λ l lt. same_masks (m + 1) st st1 done.masks m l (omega arith) lt ∙ lanes.mask l lt;
          alive = lanes.alive;
          sim = r.1;
          stand = λ l lane set. cond_set (a l) _ _ set;
        })
        (omega arith) len (same_masks free st st1 done.masks) (λ l unset. cond_unset (a l) _ _ unset) ahead go);
  }
    where
      to_entry : (to : ℕ) (work : Work) → cell_takes kernel to (work_type kernel work) ≡ true →
          some_reads to atoms ≡ true → slice_index_or f.cells to None ≡ Some (cell_at f.cells to)
      to_entry to work takes known = by (work_type kernel work) takes
        where
          by : (o : Option IntType) → cell_takes kernel to o ≡ true →
              slice_index_or f.cells to None ≡ Some (cell_at f.cells to)
          by None h = absurd (true≢false (sym h))
          by (Some ty) h = cell_entry kernel width f atoms counts r0 framed to ty (has_type_is ty _ h) known

      set_cell : (m : ℕ) (at : Place) (k : Tasks) (behind : Lines) (to : ℕ) (work : Work) (st st1 : State) →
          Worked kernel launch width chunk.group chunk.first f atoms counts r0 framed code valid Good
          (Gives kernel launch width chunk.group chunk.first f atoms counts r0 framed code valid Good st.registers
          work) m (cell_at f.cells to) st st1
          → slice_index_or f.cells to None ≡ Some (cell_at f.cells to) → (l : ℕ) → l < width →
          mask_at st.registers m l ≡ true → (s : Item) → IsGood kernel (chunk.lanes.first + l) s →
          Agrees f st.registers l (LinesAt at (SetThen to work behind) k) s.cells
          → (c : ℕ) (op : Operand) → slice_index_or f.cells c None ≡ Some op →
          live_now c (LinesAt (Behind ∷ at) behind k) ≡ true → value_at st1.registers op.at l ≡ lane_in op.of
          (cond (nat_eq to c) (work_value launch s work) (s.cells c))
      set_cell m at k behind to work st st1 done entry l lt on s good ag c op e live = by (nat_eq to c) refl
        where
          by : (b : Test) → nat_eq to c ≡ b → value_at st1.registers op.at l ≡ lane_in op.of
              (cond b (work_value launch s work) (s.cells c))
          by true same =
              let is : to ≡ c = eqb-true to c same in
              let is_op : cell_at f.cells to ≡ op = same_Some _ _
              (sym entry ∙ ap (λ n. slice_index_or f.cells n None) is ∙ e) in
              let first = chunk.is_chunk.first_is in
              subst (λ (o : Operand). value_at st1.registers o.at l ≡ lane_in o.of (work_value launch s work)) is_op
              (done.here l (work_value launch s work) lt on (
                s,
                subst (λ n. IsGood kernel (n + l) s) first good,
                (λ d o h rd. ag d o h (reads_live d (LinesAt at (SetThen to work behind) k) rd)),
                refl,
              ))
          by false ne =
              let apart : c ≡ to → ⊥ = λ h. eqb-false to c ne (sym h) in
              done.there l lt c op e (framed.apart c to op (cell_at f.cells to) apart e entry)
              ∙ ag c op e (live_leads c (LinesAt at (SetThen to work behind) k) (LinesAt (Behind ∷ at) behind k)
              past_set (Rattle.std.proofs.lemmas.Bool.ne_eqb c to apart) live)

  -- ---- accesses

  pub access_sound : (first : Lines → Lines) (here : Free → ℕ → Step) (more : List Atom) → Accesses first here →
      (rest : Lines) → ((m free p : ℕ) (next : Free) → lines_code f m free p next (first rest) ≡ here next
      m ∷ lines_code f m free (p + 1) (past next more) rest)
      → ((tail : Lines) → joined_to (first rest) tail ≡ first (joined_to rest tail)) →
      ((at : Place) → past_lines (first rest) at ≡ past_lines rest (Behind ∷ at))
      → ((next : Free) → Fit (first rest) next → Fit (first NoLine) next × Fit rest (past next more)) → Sound rest →
      Sound (first rest)
  access_sound first here more access rest is joined passed split sound = record {
    by = λ m free p t next a T at tail k st w has fit below lanes ahead go.
        let has' = subst (HasAt code p) (is m free p next) has in
        let fits = split next fit in
        let next1 = past next more in
        let rc = lines_code f m free (p + 1) next1 rest in
        let len : p + 1 + length rc ≡ p + length (lines_code f m free p next (first rest)) = omega (
          arith,
          ap (λ (xs : List Step). length xs) (is m free p next),
        ) in
        access m p t next a T at (joined_to rest tail) k st w has'.0 fits.0
        (record {
          mask = lanes.mask;
          alive = lanes.alive;
          sim = lanes.sim;
          stand = λ l lane set. lanes.stand l lane set
              ∙ ap (λ x. LinesAt at x k) (joined tail);
        })
        (λ st1 w1 sim1 masks.
        rest_sound rest sound m free (p + 1) t t (p + length (lines_code f m free p next (first rest))) next1 a T
        (λ l. cond (a l) (LinesAt (Behind ∷ at) (joined_to rest tail) k) (T l)) (Behind ∷ at) tail k st st1 w1
        has'.1 fits.1 below
        (record {
          mask = λ l lt. same_masks (m + 1) st st1 masks m l (omega arith) lt ∙ lanes.mask l lt;
          alive = lanes.alive;
          sim = sim1;
          stand = λ l lane set. cond_set (a l) _ _ set;
        })
        (omega arith) len (same_masks free st st1 masks) (λ l unset. cond_unset (a l) _ _ unset)
        (subst (λ q. ComesTo Goal (LinesAt q tail k)) (passed at) ahead)
        (subst (λ q. Onward a (LinesAt q tail k) T free st t (p + length (lines_code f m free p next (first rest))))
        (passed at) go));
  }

  -- ---- masks

  -- a step that writes a mask
  pub masks_step : (t p to : ℕ) (s : Step) (st : State) (lanes : List Test) → slice_get code p ≡ Some s →
      act (kernel_chunk kernel launch width chunk.group chunk.first) s st ≡ On
      (with_registers st (with_mask st.registers (mask_reg to) lanes)) → Shaped counts width st.registers →
      is_below counts (mask_reg to) ≡ true → length lanes ≡ width
      → ((after : Registers) → Masked counts width st.registers to (λ l. slice_index_or lanes l false) after →
      Good (end_from t (p + 1) (with_registers st after))) → Good (end_from t p st)
  masks_step t p to s st lanes at does shape lt len go =
      on_step (kernel_chunk kernel launch width chunk.group chunk.first) code Good t p s st
      (with_registers st (with_mask st.registers (mask_reg to) lanes)) at does
      (go (with_mask st.registers (mask_reg to) lanes)
      (mask_masked counts width st.registers shape to lanes lt len))

  pub masked_sim : (t to : ℕ) (T : ℕ → Tasks) (st : State) (w : Stage Item) (value : ℕ → Test) (after : Registers) →
      Masked counts width st.registers to value after → At t T st w → At t T (with_registers st after) w
  masked_sim t to T st w value after m sim =
      sim_as kernel launch width chunk turns w0 g0 f counts r0 ground t T T st (with_registers st after) w
      (λ l lane. refl) (record { group = refl; buffers = refl }) m.shape (λ x l lt b more. m.numbers x l)
      (λ l lane c op e. m.numbers op.at l) sim

  pub masked_below : (to free : ℕ) (st : State) (value : ℕ → Test) (after : Registers) → free ≤ to →
      Masked counts width st.registers to value after → SameMasks free st (with_registers st after)
  masked_below to free st value after le m r l lt ltl = m.there r l ltl (λ e. absurd (omega arith))

  -- the lanes of a mask whose answer is not 0
  abbrev pub yes_at : State → Reg → ℕ → Test
  yes_at st x l = not (nat_eq (value_at st.registers x l) 0)

  pub type_there : (o : Option IntType) → has_some_type o ≡ true → (ty : IntType) × (o ≡ Some ty)
  type_there None e = absurd (true≢false (sym e))
  type_there (Some ty) e = (ty, refl)

  pub test_runs : (next : Free) (atom : Atom) (ty : IntType) (m to p t : ℕ) (st : State) →
      slice_get code p ≡ Some (test_step f next atom to m) → IsOperand kernel width f atoms counts r0 framed next atom
      ty st.registers → Shaped counts width st.registers →
      ((after : Registers) → Masked counts width st.registers to
      (λ l. mask_at st.registers m l && yes_at st (operand f.cells next atom).at l) after →
      Good (end_from t (p + 1) (with_registers st after))) → Good (end_from t p st)
  test_runs next atom ty m to p t st at one shape go =
      let x = (operand f.cells next atom).at in
      let s = test_step f next atom to m in
      let w1 = and_parts (is_below counts (mask_reg to) && is_below counts x)
      (is_below counts (mask_reg m)) (code_well counts code p s valid at) in
      let w2 = and_parts (is_below counts (mask_reg to)) (is_below counts x) w1.0 in
      let xlen = lanes_length counts width st.registers shape x (ap is_lane one.bank ∙ type_lane ty) w2.1 in
      let mlen = mask_length counts width st.registers shape m w1.1 in
      let fn = λ (on : Test) (y : ℕ). on && not (nat_eq y 0) in
      let lanes = zip2 fn (mask_of st.registers (mask_reg m)) (lanes_of st.registers x) in
      masks_step t p to s st lanes at refl shape w2.0 (length-zip2 fn (mask_of st.registers (mask_reg m))
      (lanes_of st.registers x) (mlen ∙ sym xlen) ∙ mlen) (λ after k.
      go after (record {
        here = λ l lt. k.here l lt ∙ get_or-zip2 fn (mask_of st.registers (mask_reg m)) (lanes_of st.registers x) l
            false 0 false (let h = mlen in omega arith) (let h = xlen in omega arith);
        there = k.there;
        numbers = k.numbers;
        shape = k.shape;
      }))

  -- the answer of a lane is its item's
  pub yes_is : (next : Free) (atom : Atom) (ty : IntType) (st : State) (l : ℕ) (s : Item) (task : Tasks) →
      IsOperand kernel width f atoms counts r0 framed next atom ty st.registers → atom_type kernel atom ≡ Some ty →
      l < width → IsGood kernel (chunk.lanes.first + l) s → Agrees f st.registers l task s.cells
      → ((c : ℕ) → reads c atom ≡ true → live_now c task ≡ true) → yes_at st (operand f.cells next atom).at l ≡ not
      (is_zero (atom_value s.cells atom))
  yes_is next atom ty st l s task one typed lt good ag live =
      ap (λ n. not (nat_eq n 0)) (one.holds l s.cells lt (λ c op e rd. ag c op e (live c rd)))
      ∙ ap not (zero_lane ty (atom_value s.cells atom) (atom_typed kernel s.cells atom ty good.typed typed))

  -- ---- barriers

  pub barrier_sound : (site : ℕ) (rest : Lines) → Sound rest → Sound (BarrierThen site rest)
  barrier_sound site rest sound = record {
    by = λ m free p t next a T at tail k st w has fit below lanes ahead go. marked m free p t next a T at tail k st w
        has fit below lanes ahead go (lowest (mask_of st.registers (mask_reg m))) refl;
  }
    where
      marked : (m free p t : ℕ) (next : Free) (a : ℕ → Test) (T : ℕ → Tasks) (at : Place) (tail : Lines) (k : Tasks)
          (st : State) (w : Stage Item) → HasAt code p (lines_code f m free p next (BarrierThen site rest)) →
          Fit (BarrierThen site rest) next → m < free →
          Lanes m t a T (LinesAt at (BarrierThen site (joined_to rest tail)) k) st w →
          ComesTo Goal (LinesAt (past_lines rest (Behind ∷ at)) tail k)
          → Onward a (LinesAt (past_lines rest (Behind ∷ at)) tail k) T free st t
          (p + length (lines_code f m free p next (BarrierThen site rest))) → (o : Option ℕ) →
          lowest (mask_of st.registers (mask_reg m)) ≡ o → Good (end_from t p st)
      marked m free p t next a T at tail k st w has fit below lanes ahead go None e =
          let rc = lines_code f m free (p + 1) next rest in
          let len : p + 1 + length rc ≡ p + length (step.Mark site (mask_reg m) ∷ rc) = omega arith in
          let none : (l : ℕ) → l < width → a l ≡ false = λ l lt. sym (lanes.mask l lt)
          ∙ none_lowest (mask_of st.registers (mask_reg m)) e l in
          let sim1 = named t T (λ l. cond (a l) (LinesAt (Behind ∷ at) (joined_to rest tail) k) (T l)) st w
          (λ l lane. sym (cond_unset (a l) _ _ (none l (in_width l lane)))) lanes.sim in
          on_step (kernel_chunk kernel launch width chunk.group chunk.first) code Good t p (step.Mark site (mask_reg m))
          st st has.0 (ap (marks st site) e)
          (rest_sound rest sound m free (p + 1) t t (p + length (step.Mark site (mask_reg m) ∷ rc)) next a T
          (λ l. cond (a l) (LinesAt (Behind ∷ at) (joined_to rest tail) k) (T l)) (Behind ∷ at) tail k st st w has.1
          (record {
            fits = (and_parts (Rattle.kir.specs.Fits.is_site kernel site) (lines_fit kernel rest) fit.fits).1;
            names = fit.names;
            held = fit.held;
            sites = λ s h. fit.sites s (omega arith);
          }) below
          (record { mask = lanes.mask; alive = lanes.alive; sim = sim1; stand = λ l lane set. cond_set (a l) _ _ set })
          (omega arith) len (λ r l lt ltl. refl) (λ l unset. cond_unset (a l) _ _ unset) ahead go)
      marked m free p t next a T at tail k st w has fit below lanes ahead go (Some lane) e =
          let low = lowest_is (mask_of st.registers (mask_reg m)) lane e in
          let w1 = and_parts (is_below counts (mask_reg m)) true
          (and_from_one (is_below counts (mask_reg m))
          (code_well counts code p (step.Mark site (mask_reg m)) valid has.0)) in
          let within : lane < width = let len = mask_length counts width st.registers lanes.sim.shape m w1.0 in
          let lt = low.within in omega arith in
          let set : a lane ≡ true = sym (lanes.mask lane within) ∙ low.set in
          let here : IsLane chunk.lanes lane = (
            (let wi = chunk.is_chunk.width_is in omega arith),
            lanes.alive lane
                set,
          ) in
          let s = w.items (chunk.lanes.first + lane) in
          let tasks : s.tasks ≡ LinesAt at (BarrierThen site (joined_to rest tail)) k = (lanes.sim.stand lane here).0
          ∙ lanes.stand lane here set in
          let next_is = ap (tasks_next kernel launch s) tasks in
          halt_step (kernel_chunk kernel launch width chunk.group chunk.first) code Good t p
          (step.Mark site (mask_reg m)) st st (end.AtBarrier lane site) has.0 (ap (marks st site) e)
          (closed.waits w lanes.sim.reached lane site here (subst (WaitsAt site) (sym next_is) refl)
          (fit.sites site (once_here site (barrier_lines site rest)))
          (subst (StillComes Goal) (sym tasks) (record {
            next = LinesAt (Behind ∷ at) (joined_to rest tail) k;
            leads = past_barrier;
            comes = come_trans Goal (LinesAt (past_lines rest (Behind ∷ at)) tail k)
                (LinesAt (Behind ∷ at) (joined_to rest tail) k) (through rest tail (Behind ∷ at) k) ahead;
          })) t st)
        where
          and_from_one : (b : Test) → b ≡ true → (b && true) ≡ true
          and_from_one b e = ap (λ x. x && true) e

          once_here : (site n : ℕ) → 0 < once_if site site + n
          once_here site n = let e : once_if site site ≡ 1 =
              ap (λ b. cond b 1 0) (Rattle.std.proofs.lemmas.Bool.eq-eqb site site refl) in omega arith
