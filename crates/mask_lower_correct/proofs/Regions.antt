-- The code of a region does on a chunk what the chunk's items do in some order of their moves.
use Rattle.std.proofs.Common.{◌≡◌, ℕ, zero, suc, ◌+◌, ◌<◌, ◌≤◌, ℤ, List, [], ◌∷◌, ◌++◌, length, replicate}
use Rattle.std.proofs.Common.{Option, Some, None, slice_get, refl, sym, ap, ◌∙◌, subst, ⊎_elim, arith, cond}
use Rattle.std.proofs.Common.{length-append}
use Rattle.std.specs.Prelude.{slice_index_or, slice_set, nat_lt, not, ◌&&◌, option_map}
use Rattle.std.specs.Prelude.{Bool as Test, true, false}
use Rattle.std.proofs.lemmas.Bool.{true≢false, or_left, or_right, and_parts, cases_eq}
use Rattle.std.proofs.lemmas.List.{length-replicate, get_or-replicate, length-set, get_or-set_same, get_or-set_other}
use Rattle.std.specs.Simd.Lanes.{zip2}
use Rattle.std.proofs.lemmas.Simd.{get_or-zip2, length-zip2}
use Rattle.std.proofs.lemmas.Option.{none-some, slice_get_within}
use Rattle.wg_num.specs.declared.types.IntType.{IntType}
use Rattle.work_items.specs.Memory.{Memory}
use Rattle.work_items.specs.Items.{Goes, Begins}
use Rattle.cl_model.specs.Values.{is_zero}
use Rattle.cl_model.specs.Sizes.{Launch, group_size}
use Rattle.kir.specs.declared.line.Atom.{Atom}
use Rattle.kir.specs.Tree.{Cell, Lines, NoLine, LoopThen, Kernel, joined_to}
use Rattle.kir.specs.Counts.{barrier_lines}
use Rattle.kir.specs.Places.{Place, IntoTest, IntoBody, Tasks, LinesAt, AnswerAt}
use Rattle.kir.specs.Live.{reads, some_reads, live_now, live_in, live_behind}
use Rattle.kir.specs.Steps.{Item, with_tasks, atom_value, tasks_next}
use Rattle.kir.specs.Fits.{atom_type, lines_fit, has_some_type}
use Rattle.kir.specs.Meaning.{machine_of}
use Rattle.kir.specs.CellTypes.{type_of}
use Rattle.ctx_plan.specs.Planned.{Planned}
use Rattle.ctx_plan.specs.Asks.{Suits}
use Rattle.lane_code.specs.declared.step.Bank.{Bank}
use Rattle.lane_code.specs.declared.step.Bank.TheVariants as bank
use Rattle.lane_code.specs.declared.step.Step.{Step}
use Rattle.lane_code.specs.declared.step.Step.TheVariants as step
use Rattle.lane_code.specs.declared.code.Counts.{Counts}
use Rattle.lane_code.specs.Counting.{counted}
use Rattle.lane_code.specs.Registers.{Registers, lanes_in, existing, start_registers, mask_of}
use Rattle.lane_code.specs.Fits.{bank_of, is_below, is_code}
use Rattle.lane_code.specs.Groups.{Group, window}
use Rattle.lane_code.specs.Acts.{State, with_registers}
use Rattle.lane_code.specs.Meaning.{Ended, code_end, start_state}
use Rattle.lane_laws.specs.Places.{HasAt}
use Rattle.lane_laws.specs.Reading.{mask_at}
use Rattle.lane_laws.proofs.Reading.{existing_read, existing_length, window_read, window_length}
use Rattle.lane_laws.proofs.Steps.{has_front, has_back, has_all, ahead_step}
use Rattle.group_moves.specs.Stages.{Stage}
use Rattle.group_moves.specs.Lanes.{IsLane, Reached, Does, goes, begins, some_below}
use Rattle.group_moves.proofs.Moves.{reached_none, lanes_move}
use Rattle.kir_moves.specs.Leads.{ComesTo, there}
use Rattle.regions.specs.Tree.{RegionOf}
use Rattle.regions.specs.Spans.{Spans, IsEnd, past_lines}
use Rattle.kir_uniform.specs.Uniform.{sets_in}
use Rattle.mask_lower.specs.declared.registers.Free.{Free}
use Rattle.mask_lower.specs.declared.registers.Operand.{Operand}
use Rattle.mask_lower.specs.Banks.{register_at, advanced, mask_reg}
use Rattle.mask_lower.specs.Atoms.{atoms_in, atoms_voted, region_atoms}
use Rattle.mask_lower.specs.Layout.{kernel_chunk, HasShape, Mirrors, OtherGroupsStay}
use Rattle.mask_lower.specs.Standing.{HasLive, AtHome, LanesStand, LanesVoted}
use Rattle.mask_lower.specs.Following.{ChunkOf, SlotsBegun, ChunkSays, ReadsVote}
use Rattle.mask_lower.specs.Homes.{sets_first, entry_code, put_cells, exit_code}
use Rattle.mask_lower.specs.Registers.{Frame, frame_for, first_constants, constants, past}
use Rattle.mask_lower.specs.Lowered.{lines_code, begun_code, turn_code, vote_code, region_steps}
use Rattle.mask_lower_correct.specs.View.{value_at, is_lane, Shaped}
use Rattle.mask_lower_correct.specs.Framed.{number_in, Held}
use Rattle.mask_lower_correct.specs.Sim.{Ground, Agrees, Above, Sim, Closed}
use Rattle.mask_lower_correct.specs.Fits.{RegionFits}
use Rattle.mask_lower_correct.proofs.LaneValues.{lane_in}
use Rattle.mask_lower_correct.proofs.Frames.{register_bank, type_lane, framed, some_left, some_right, held_left}
use Rattle.mask_lower_correct.proofs.Frames.{held_right}
use Rattle.mask_lower_correct.proofs.Standing.{sim_names, cond_set}
use Rattle.mask_lower_correct.proofs.Entering.{Filled, Entered, constants_run, entry_runs, loaded_lane}
use Rattle.mask_lower_correct.proofs.Masks.{flip_cond}
use Rattle.mask_lower_correct.proofs.View.{code_well, mask_length}
use Rattle.mask_lower_correct.proofs.Soundness.{Accessing, Fit, Lanes, whole_of, type_there, masks_step, masked_sim}
use Rattle.mask_lower_correct.proofs.Loops.{HasLoop, turn_enter}
use Rattle.mask_lower_correct.proofs.Sounds.{sound_of}
use Rattle.mask_lower_correct.proofs.Loads.{load_runs}
use Rattle.mask_lower_correct.proofs.Stores.{store_runs}
use Rattle.mask_lower_correct.proofs.Clears.{clear_runs}
use Rattle.mask_lower_correct.proofs.Setting.{set_named, first_unread}
use Rattle.mask_lower_correct.proofs.Finishing.{finish}

-- ---- the registers at the start

zero_row : (w l : ℕ) → ◌≡◌ {A = ℕ} (slice_index_or (replicate w 0) l 0) 0
zero_row zero l = refl
zero_row (suc w) zero = refl
zero_row (suc w) (suc l) = zero_row w l

zero_rows : (n w k l : ℕ) → ◌≡◌ {A = ℕ} (slice_index_or (slice_index_or (replicate n (replicate w 0)) k []) l 0) 0
zero_rows zero w k l = refl
zero_rows (suc n) w zero l = zero_row w l
zero_rows (suc n) w (suc k) l = zero_rows n w k l

module _ (c : Counts) (some : 0 < c.masks) (width size first : ℕ) where
  abbrev start_is : Registers
  start_is = start_registers c.narrow c.wide c.masks c.scalars width size first

  pub start_zero : (b : Bank) (n l : ℕ) → is_lane b ≡ true → slice_index_or (lanes_in start_is b n) l 0 ≡ 0
  start_zero bank.Narrow n l e = zero_rows c.narrow width n l
  start_zero bank.Wide n l e = zero_rows c.wide width n l
  start_zero bank.Mask n l e = absurd (true≢false (sym e))
  start_zero bank.Scalar n l e = absurd (true≢false (sym e))

  pub start_mask : (l : ℕ) → l < width → mask_at start_is 0 l ≡ nat_lt (first + l) size
  start_mask l lt =
      ap (λ (row : List Test). slice_index_or row l false)
      (get_or-set_same (replicate c.masks (replicate width false)) 0 (existing size width first) []
      (let n = length-replicate c.masks (replicate width false) in omega arith))
      ∙ existing_read size width first l lt

  pub start_shape : Shaped c width start_is
  start_shape = record {
    narrow_count = length-replicate c.narrow (replicate width 0);
    each_narrow = λ k lt. ap length (get_or-replicate c.narrow k (replicate width 0) [] lt) ∙ length-replicate width 0;
    wide_count = length-replicate c.wide (replicate width 0);
    each_wide = λ k lt. ap length (get_or-replicate c.wide k (replicate width 0) [] lt) ∙ length-replicate width 0;
    mask_count = length-set (replicate c.masks (replicate width false)) 0 (existing size width first) ∙
        length-replicate c.masks (replicate width false);
    each_mask = λ k lt. ⊎_elim
        (λ e. ap (λ j. length (slice_index_or (slice_set (replicate c.masks (replicate width false)) 0
        (existing size width first)) j [])) e
        ∙ ap length (get_or-set_same (replicate c.masks (replicate width false)) 0 (existing size width first) []
        (let n = length-replicate c.masks (replicate width false) in omega arith)) ∙
        existing_length size width first)
        (λ ne. ap length (get_or-set_other (replicate c.masks (replicate width false)) 0 k (existing size width first)
        [] ne ∙ get_or-replicate c.masks k (replicate width false) [] lt) ∙ length-replicate width false)
        (cases_eq k 0);
    scalar_count = length-replicate c.scalars 0;
  }

-- ---- what a region names

-- constants stay where the registers above do
held_above : (f : Frame) (width : ℕ) (r r' : Registers) (next : Free) (list : List Atom) → Above f width r r' →
    Held f width r next list → Held f width r' next list
held_above f width r r' next [] above h = tt
held_above f width r r' next (Rattle.kir.specs.declared.line.Atom.TheVariants.Cell c ∷ list) above h =
    (tt, held_above f width r r' next list above h.1)
held_above f width r r' next (Rattle.kir.specs.declared.line.Atom.TheVariants.Const value of ∷ list) above h =
    let same = register_bank next of in (
      (
        h.0.0,
        λ l lt. above (register_at next of) l lt (ap is_lane same ∙
            type_lane of) (subst (λ b. number_in f.scratch b < (register_at next of).number) (sym same) h.0.0) ∙
            h.0.1 l lt,
      ),
      held_above f width r r' (advanced next of) list above h.1,
    )

home_there : {A : Type 0} (xs : List A) (i : ℕ) → i < length xs → (x : A) × (slice_get xs i ≡ Some x)
home_there [] i lt = absurd (omega arith)
home_there (x ∷ xs) zero lt = (x, refl)
home_there (x ∷ xs) (suc i) lt = home_there xs i (omega arith)

module _ (kernel : Kernel) (plan : Planned) (suits : Suits kernel plan) (launch : Launch) (width : ℕ)
    (chunk : ChunkOf kernel launch width) (turns : ℕ) (w0 : Stage Item) (g0 : Group) (buffers : List (List ℕ))
    (ground : Ground kernel launch w0) (region : RegionOf)
    (valid : is_code (counted (region_steps kernel plan.homes region)) (region_steps kernel plan.homes region) ≡ true)
    (fits : RegionFits kernel region) (mirrors : Mirrors kernel launch chunk.group w0.memory g0 buffers)
    (shaped : HasShape plan.columns plan.slots (group_size launch) g0) where
  abbrev atoms : List Atom
  atoms = region_atoms region

  abbrev frame : Frame
  frame = frame_for kernel atoms

  abbrev code : List Step
  code = region_steps kernel plan.homes region

  abbrev counts : Counts
  counts = counted code

  abbrev next : Free
  next = first_constants frame

  abbrev front : List Step
  front = constants next atoms ++ entry_code plan.homes region.lines 0 frame.cells

  abbrev behind : List Step
  behind =
      vote_code frame (past next (atoms_in region.lines)) region.answer ++
      exit_code plan.homes frame.cells (put_cells region.lines region.live)

  abbrev begun : List Step
  begun = begun_code frame (length front) next region.from_vote region.lines

  abbrev Mine : Rattle.lane_code.specs.Acts.Chunk
  Mine = kernel_chunk kernel launch width chunk.group chunk.first

  some_mask : 0 < counts.masks
  some_mask = omega arith

  -- the code up to the lines: each cell that is live where the items stand has its value, and each constant
  pub record Begun (st : State) : Type 0 where
    pub group : st.group ≡ g0
    pub buffers_are : st.buffers ≡ buffers
    pub shape : Shaped counts width st.registers
    pub mask : (l : ℕ) → l < width → mask_at st.registers 0 l ≡ nat_lt (chunk.first + l) (group_size launch)
    pub held : Held frame width st.registers next atoms
    pub cells : (l : ℕ) → l < width → (k : Tasks) (cells : ℕ → ℤ) →
        AtHome kernel plan.homes g0.columns g0.entries (chunk.first + l) k cells → (c : ℕ) (op : Operand) →
        slice_index_or frame.cells c None ≡ Some op → live_behind c k ≡ true → sets_first c region.lines ≡ false →
        value_at st.registers op.at l ≡ lane_in op.of (cells c)

  pub begin : (G : Ended → Type 0) → ((st : State) → Begun st → G (code_end Mine code turns (length front) st)) →
      G (code_end Mine code turns 0 (start_state Mine counts g0 buffers))
  begin G go =
      let start = start_state Mine counts g0 buffers in
      let cs = constants next atoms in
      let es = entry_code plan.homes region.lines 0 frame.cells in
      let whole = has_all code [] in
      let has_f = has_front code 0 front (begun ++ behind) whole in
      let more : (of : IntType) → number_in frame.scratch (bank_of of) < number_in next (bank_of of) =
      λ of. above_scratch (bank_of of) (type_lane of) in
      let len : 0 + length cs + length es ≡ length front = omega (arith, length-append cs es) in
      constants_run kernel Mine frame atoms counts start.registers (framed kernel atoms) code valid G atoms next 0
      turns start (has_front code 0 cs es has_f) more (start_shape counts some_mask width (group_size launch)
      chunk.first) (λ st1 filled held.
      entry_runs kernel Mine frame atoms counts start.registers (framed kernel atoms) code valid G plan.homes
      region.lines 0
      frame.cells (0 + length cs) turns st1 (λ i. let z : 0 + i ≡ i = omega arith in
      ap (λ k. slice_index_or frame.cells k None) z) (has_back code 0 cs es has_f) filled.shape (λ st2 entered.
      subst (λ n. G (code_end Mine code turns n st2)) (sym len)
      (go st2 (record {
        group = entered.outer.group ∙ filled.outer.group;
        buffers_are = entered.outer.buffers ∙ filled.outer.buffers;
        shape = entered.shape;
        mask = λ l lt. ap (λ rows. slice_index_or (slice_index_or rows 0 []) l false) (entered.masks ∙ filled.masks) ∙
            start_mask counts some_mask width (group_size launch) chunk.first l lt;
        held = held_above frame width st1.registers st2.registers next atoms entered.above held;
        cells = λ l lt k cells home c op e live first. cell st1 st2 filled entered l lt k cells home c op e live first;
      }))))
    where
      above_scratch : (b : Bank) → is_lane b ≡ true → number_in frame.scratch b < number_in next b
      above_scratch bank.Narrow e = omega arith
      above_scratch bank.Wide e = omega arith
      above_scratch bank.Mask e = absurd (true≢false (sym e))
      above_scratch bank.Scalar e = absurd (true≢false (sym e))

      within : (c : ℕ) (of : IntType) (o : Option Cell) → slice_get kernel.cells c ≡ o → type_of kernel c ≡ Some of →
          c < length kernel.cells
      within c of None at h = absurd (none-some of (sym (ap (option_map (λ (cell : Cell). cell.of)) at) ∙ h))
      within c of (Some cell) at h = slice_get_within kernel.cells c cell at

      cell : (st1 st2 : State) → Filled kernel Mine frame atoms counts (start_state Mine counts g0 buffers).registers
          (framed kernel atoms) code valid G next (start_state Mine counts g0 buffers) st1
          → Entered kernel Mine frame atoms counts (start_state Mine counts g0 buffers).registers
          (framed kernel atoms) code valid G plan.homes region.lines 0 st1 st2 → (l : ℕ) → l < width →
          (k : Tasks) (cells : ℕ → ℤ) → AtHome kernel plan.homes g0.columns g0.entries (chunk.first + l) k cells
          → (c : ℕ) (op : Operand) → slice_index_or frame.cells c None ≡ Some op → live_behind c k ≡ true →
          sets_first c region.lines ≡ false → value_at st2.registers op.at l ≡ lane_in op.of (cells c)
      cell st1 st2 filled entered l lt k cells home c op e live first =
          let entry = (framed kernel atoms).entries c op e in
          let h = home_there plan.homes c (let n = suits.one_each in
          let m = within c op.of (slice_get kernel.cells c) refl entry.typed in omega arith) in
          let lane : is_lane op.at.bank ≡ true = ap is_lane entry.bank ∙ type_lane op.of in
          let none : value_at st1.registers op.at l ≡ 0 = filled.below op.at l lt lane (let b = entry.below in
          let a = above_scratch op.at.bank lane in omega arith) ∙
          start_zero counts some_mask width (group_size launch) chunk.first op.at.bank op.at.number l lane in
          loaded_lane h.0 st1.group chunk.first width l op.at.bank op.of (cells c) (value_at st1.registers op.at l)
          (value_at st2.registers op.at l) entry.bank lt none
          (subst (λ (g : Group). Rattle.mask_lower.specs.Standing.Holds h.0 op.of g.columns g.entries (chunk.first +
          l) (cells c)) (sym filled.outer.group) (home c h.0 op.of h.1 entry.typed live))
          (subst (λ o. Rattle.mask_lower_correct.proofs.Entering.Loaded o st1.group chunk.first width l op.at.bank
          (value_at st1.registers op.at l) (value_at st2.registers op.at l)) h.1
          (entered.loaded c op (omega arith) e first l lt))

  -- ---- from the lines to the end

  lines_names : (c : ℕ) → some_reads c (atoms_in region.lines) ≡ true → some_reads c atoms ≡ true
  lines_names c h = some_left c (atoms_in region.lines) (atoms_voted region.answer) h

  answer_names : (c : ℕ) → some_reads c (atoms_voted region.answer) ≡ true → some_reads c atoms ≡ true
  answer_names c h = some_right c (atoms_in region.lines) (atoms_voted region.answer) h

  set_names : (c : ℕ) → sets_in c region.lines ≡ true → some_reads c atoms ≡ true
  set_names c h = lines_names c (set_named c region.lines h)

  has_rest : HasAt code (length front) (begun ++ behind)
  has_rest = let e : 0 + length front ≡ length front = omega arith in
      subst (λ n. HasAt code n (begun ++ behind)) e (has_back code 0 front (begun ++ behind) (has_all code []))

  has_behind : HasAt code (length front + length begun) behind
  has_behind = has_back code (length front) begun behind has_rest

  whole_length : length code ≡ length front + length begun + length behind
  whole_length = omega (arith, length-append front (begun ++ behind), length-append begun behind)

  abbrev Stands : Tasks → Type 0
  Stands T = LanesStand kernel plan.homes chunk.lanes chunk.first w0 g0.columns g0.entries T

  abbrev StartEnd : Ended
  StartEnd = code_end Mine code turns 0 (start_state Mine counts g0 buffers)

  abbrev HasLines : State → Type 0
  HasLines st = Held frame width st.registers next (atoms_in region.lines) ×
      Held frame width st.registers (past next (atoms_in region.lines)) (atoms_voted region.answer)

  has_lines : (st : State) → Begun st → HasLines st
  has_lines st b = (
    held_left frame width st.registers next (atoms_in region.lines) (atoms_voted region.answer) b.held,
    held_right frame width st.registers next (atoms_in region.lines) (atoms_voted region.answer) b.held,
  )

  module _ (e : Tasks) (is_end : IsEnd kernel e) (live : HasLive kernel region.live e)
      (reads_vote : ReadsVote region.answer e) (before : Tasks) (spans : Spans region before e)
      (stands : Stands before) (slots : SlotsBegun plan.homes region.lines e g0) where
    abbrev Good : Ended → Type 0
    Good x = ChunkSays kernel plan.homes launch width chunk region e w0 turns g0 x.end x.turns x.state

    abbrev Site : ℕ → Type 0
    Site site = 0 < barrier_lines site region.lines

    closed : Closed kernel launch width chunk turns w0 Site e Good
    closed = record {
      faults =
          λ after reached l site lane fault t st. (after, record { reached = reached; lane = lane; fault = fault });
      waits = λ after reached l site lane waits of still t st. (
        after,
        record {
          reached = reached;
          lane = lane;
          waits = waits;
          still = still;
          of_region = of;
        },
      );
      tires = λ after reached more t st. (after, record { reached = reached; more = more });
    }

    access : (r0 : Registers) → Accessing kernel launch width chunk turns w0 g0 frame counts r0 ground atoms
        (framed kernel atoms) code valid Good Site e closed
    access r0 = record {
      loads = load_runs kernel launch width chunk turns w0 g0 frame counts r0 ground atoms (framed kernel atoms) code
          valid Good Site e closed refl;
      stores = store_runs kernel launch width chunk turns w0 g0 frame counts r0 ground atoms (framed kernel atoms)
          code valid Good Site e closed refl;
      clears = clear_runs kernel launch width chunk turns w0 g0 frame counts r0 ground atoms (framed kernel atoms)
          code valid Good Site e closed refl;
    }

    sim_from : (st : State) → Begun st → (T : ℕ → Tasks) (w1 : Stage Item) →
        Reached (machine_of kernel launch) chunk.lanes w0 w1 → w1.memory ≡ w0.memory → w0.begun ≤ w1.begun
        → ((l : ℕ) → IsLane chunk.lanes l → ((w1.items (chunk.lanes.first + l)).tasks ≡ T l) ×
        Agrees frame st.registers l (T l) (w1.items (chunk.lanes.first + l)).cells) →
        Sim kernel launch width chunk turns w0 g0 frame counts st.registers turns T st w1
    sim_from st b T w1 reached memory more stand = record {
      reached = reached;
      mirrors = subst (λ m. Mirrors kernel launch chunk.group m st.group st.buffers) (sym memory)
          (subst (λ bs. Mirrors kernel launch chunk.group w0.memory st.group bs) (sym b.buffers_are)
          (subst (λ g. Mirrors kernel launch chunk.group w0.memory g buffers) (sym b.group) mirrors));
      others = subst (λ m. OtherGroupsStay kernel launch chunk.group w0.memory m) (sym memory)
          (record { locals = λ other n lt ne below. refl; privates = λ item n ne below. refl });
      group = record {
        columns = ap (λ (g : Group). g.columns) b.group;
        entries = ap (λ (g : Group). g.entries) b.group;
        exits = ap (λ (g : Group). g.exits) b.group;
        votes = ap (λ (g : Group). g.votes) b.group;
      };
      rows = subst (λ (g : Group). (n : ℕ) → n < length g.privates →
          length (slice_index_or g.privates n []) ≡ group_size launch) (sym b.group) shaped.each_private;
      shape = b.shape;
      above = λ x l lt lane more. refl;
      stand = stand;
      budget = omega (arith, more);
    }

    in_width : (l : ℕ) → IsLane chunk.lanes l → l < width
    in_width l lane = let wi = chunk.is_chunk.width_is in let lt = lane.0 in omega arith

    sim_start : (st : State) → Begun st → (T : Tasks) → ((c : ℕ) → live_now c T ≡ true → live_behind c T ≡ true) →
        T ≡ before → Sim kernel launch width chunk turns w0 g0 frame counts st.registers turns (λ l. T) st w0
    sim_start st b T same is =
        sim_from st b (λ l. T) w0 (reached_none (machine_of kernel launch) chunk.lanes w0) refl (omega arith)
        (λ l lane. (
          (stands l lane).0 ∙ sym is,
          λ c op q alive.
              let there = subst (λ k. live_behind c k ≡ true) is (same c alive) in
              b.cells l (in_width l lane) before (w0.items (chunk.lanes.first + l)).cells
              (stands l lane).1 c op q there (first_unread c region before e spans there),
        ))

    close : (st : State) → Begun st → (t' : ℕ) (st' : State) (w' : Stage Item) →
        Sim kernel launch width chunk turns w0 g0 frame counts st.registers t' (λ l. e) st' w' →
        ((l : ℕ) → l < width → mask_at st'.registers 0 l ≡ mask_at st.registers 0 l)
        → Good (code_end Mine code t' (length front + length begun) st')
    close st b t' st' w' sim masks =
        finish kernel launch width chunk turns w0 g0 frame counts st.registers ground atoms (framed kernel atoms) code
        valid Good Site e closed plan suits shaped region e is_end live reads_vote fits before spans stands slots
        (λ t s after d. (after, d))
        (past next (atoms_in region.lines)) (length front + length begun) t' st' w' has_behind whole_length sim
        (λ l lt. masks l lt ∙ b.mask l lt) (has_lines st b).1 answer_names set_names

    fit : (st : State) → Begun st →
        Fit kernel launch width chunk turns w0 g0 frame counts st.registers ground atoms (framed kernel atoms) code
        valid Good Site e closed region.lines next
    fit st b = record { fits = fits.lines; names = lines_names; held = (has_lines st b).0; sites = λ site h. h }

    -- where the region is lines before others of one list, or all that are left of a list
    module _ (plain : region.from_vote ≡ false) where
      begun_is : begun ≡ lines_code frame 0 1 (length front) next region.lines
      begun_is = ap (λ v. begun_code frame (length front) next v region.lines) plain

      has_code : HasAt code (length front) (lines_code frame 0 1 (length front) next region.lines)
      has_code = subst (λ c. HasAt code (length front) c) begun_is (has_front code (length front) begun behind has_rest)

      ready : (st : State) → Begun st → (T : Tasks) → ((c : ℕ) → live_now c T ≡ true → live_behind c T ≡ true) →
          T ≡ before
          → Lanes kernel launch width chunk turns w0 g0 frame counts st.registers ground atoms (framed kernel atoms)
          code valid Good Site e closed 0 turns chunk.lanes.alive (λ l. T) T st w0
      ready st b T same is = record {
        mask = λ l lt. b.mask l lt ∙ sym (chunk.is_chunk.alive_is l);
        alive = λ l h. h;
        sim = sim_start st b T same is;
        stand = λ l lane set. refl;
      }

      close_lines : (st : State) → Begun st → (T K : Tasks) → K ≡ e → (t' : ℕ) (st' : State) (w' : Stage Item) →
          Sim kernel launch width chunk turns w0 g0 frame counts st.registers t' (λ l. cond (chunk.lanes.alive l) K T)
          st' w'
          → ((l : ℕ) → l < width → mask_at st'.registers 0 l ≡ mask_at st.registers 0 l) →
          Good (code_end Mine code t' (length front +
          length (lines_code frame 0 1 (length front) next region.lines)) st')
      close_lines st b T K same t' st' w' sim masks =
          subst (λ (c : List Step). Good (code_end Mine code t' (length front + length c) st')) begun_is
          (close st b t' st' w' (sim_names kernel launch width chunk turns w0 g0 frame counts st.registers ground t'
          (λ l. cond (chunk.lanes.alive l) K T) (λ l. e) st' w'
          (λ l lane. cond_set (chunk.lanes.alive l) K T lane.1 ∙ same) sim) masks)

      pub piece_runs : (at : Place) (tail : Lines) (k : Tasks) → LinesAt (past_lines region.lines at) tail k ≡ e →
          LinesAt at (joined_to region.lines tail) k ≡ before → Good StartEnd
      piece_runs at tail k same is =
          let T = LinesAt at (joined_to region.lines tail) k in
          begin Good (λ st b.
          (sound_of kernel launch width chunk turns w0 g0 frame counts st.registers ground atoms (framed kernel atoms)
          code valid Good Site e closed (access st.registers) region.lines).by 0 1 (length front) turns next
          chunk.lanes.alive (λ l. T) at tail k st w0 has_code (fit st b) (omega arith)
          (ready st b T (λ c h. h) is) (subst (λ x. ComesTo e x) (sym same) there)
          (λ t' st' w' le sim masks. close_lines st b T (LinesAt (past_lines region.lines at) tail k) same t' st' w'
          sim (λ l lt. masks 0 l (omega arith) lt)))

      pub whole_runs : (at : Place) (k : Tasks) → k ≡ e → LinesAt at region.lines k ≡ before → Good StartEnd
      whole_runs at k same is =
          let T = LinesAt at region.lines k in
          begin Good (λ st b.
          let sound = sound_of kernel launch width chunk turns w0 g0 frame counts st.registers ground atoms
          (framed kernel atoms) code valid Good Site e closed (access st.registers) region.lines in
          (whole_of kernel launch width chunk turns w0 g0 frame counts st.registers ground atoms (framed kernel atoms)
          code valid Good Site e closed region.lines sound).by 0 1 (length front) turns next chunk.lanes.alive
          (λ l. T) at k st w0 has_code (fit st b) (omega arith)
          (ready st b T (λ c h. h) is) (subst (λ x. ComesTo e x) (sym same) there)
          (λ t' st' w' le sim masks. close_lines st b T k same t' st' w' sim (λ l lt. masks 0 l (omega arith) lt)))

    -- where the region is the rest of a loop, from its answer on
    module _ (voted : region.from_vote ≡ true) (at : Place) (site : ℕ) (first : Test) (test : Lines) (answer : Atom)
        (body : Lines) (n : ℕ) (is_loop : region.lines ≡ LoopThen site first test answer body NoLine) where
      abbrev start : ℕ
      start = length front + 3

      abbrev Asks : ℕ → Tasks
      Asks i = AnswerAt at test answer body i e

      abbrev Starts : ℕ → Tasks
      Starts i = LinesAt (IntoBody ∷ at) body (LinesAt (IntoTest ∷ at) test (Asks i))

      abbrev bodies : List Step
      bodies = lines_code frame 1 2 start next body

      abbrev past_body : Free
      past_body = past next (atoms_in body)

      abbrev tests : List Step
      tests = lines_code frame 1 2 (start + length bodies) past_body test

      abbrev turning : List Step
      turning = turn_code frame 1 (past past_body (atoms_in test)) start answer

      abbrev target : ℕ
      target = start + length bodies + length tests + 1

      abbrev rests : List Step
      rests = step.VoteGet (mask_reg 1) ∷ step.MaskAnd (mask_reg 1) (mask_reg 0) (mask_reg 1) ∷ step.Jump target ∷
          (bodies ++ (tests ++ turning))

      rests_are : begun ≡ rests
      rests_are = ap (λ v. begun_code frame (length front) next v region.lines) voted ∙
          ap (λ L. begun_code frame (length front) next true L) is_loop

      has_rests : HasAt code (length front) rests
      has_rests =
          subst (λ c. HasAt code (length front) c) rests_are (has_front code (length front) begun behind has_rest)

      -- the item of a lane begins an iteration or leaves the loop
      lane_goes : (r : Registers) (l : ℕ) (y : Test) (m : Memory) (s : Item) → s.tasks ≡ Asks n →
          y ≡ not (is_zero (atom_value s.cells answer))
          → ((c : ℕ) (op : Operand) → slice_index_or frame.cells c None ≡ Some op → live_behind c (Asks n) ≡ true →
          value_at r op.at l ≡ lane_in op.of (s.cells c))
          → Does (machine_of kernel launch) m s (λ s'. (s'.tasks ≡ cond y (Starts (suc n)) e) ×
          Agrees frame r l (cond y (Starts (suc n)) e) s'.cells) m y
      lane_goes r l true m s is value ag =
          begins (with_tasks s (Starts (suc n))) (ap (tasks_next kernel launch s) is ∙
          answer_by (is_zero (atom_value s.cells answer)) true value) (
            refl,
            λ c op h live. ag c op h
                (or_right (live_now c e) (live_in c body (live_in c test (live_now c (Asks n)))) live),
          )
        where
          answer_by : (z : Test) (y : Test) → y ≡ not z →
              cond z (Goes (with_tasks s e)) (Begins (with_tasks s (Starts (suc n)))) ≡
              cond y (Begins (with_tasks s (Starts (suc n)))) (Goes (with_tasks s e))
          answer_by z y h = flip_cond z _ _ ∙
              ap (λ b. cond b (Begins (with_tasks s (Starts (suc n)))) (Goes (with_tasks s e))) (sym h)
      lane_goes r l false m s is value ag =
          goes (with_tasks s e) (ap (tasks_next kernel launch s) is ∙
          answer_by (is_zero (atom_value s.cells answer)) false value) (
            refl,
            λ c op h live. ag c op h
                (or_left (live_now c e) (live_in c body (live_in c test (live_now c (Asks n)))) live),
          )
        where
          answer_by : (z : Test) (y : Test) → y ≡ not z →
              cond z (Goes (with_tasks s e)) (Begins (with_tasks s (Starts (suc n)))) ≡
              cond y (Begins (with_tasks s (Starts (suc n)))) (Goes (with_tasks s e))
          answer_by z y h = flip_cond z _ _ ∙
              ap (λ b. cond b (Begins (with_tasks s (Starts (suc n)))) (Goes (with_tasks s e))) (sym h)

      abbrev goes_on : ℕ → Test
      goes_on l = nat_lt (chunk.first + l) (group_size launch) && slice_index_or g0.votes (chunk.first + l) false

      abbrev Into : ℕ → Tasks
      Into l = cond (goes_on l) (Starts (suc n)) e

      loop_fits : (st : State) → Begun st →
          HasLoop kernel launch width chunk turns w0 g0 frame counts st.registers ground atoms (framed kernel atoms)
          code valid Good Site e closed test answer body next 1 start
      loop_fits st b =
          let fits_loop = subst (λ L. Fit kernel launch width chunk turns w0 g0 frame counts st.registers ground atoms
          (framed kernel atoms) code valid Good Site e closed L next) is_loop (fit st b) in
          let three : length front + 1 + 1 + 1 ≡ start = omega arith in
          let has_b = subst (λ i. HasAt code i (bodies ++ (tests ++ turning))) three has_rests.1.1.1 in
          let has_t = has_back code start bodies (tests ++ turning) has_b in
          let has_e = has_back code (start + length bodies) tests turning has_t in
          let f1 = and_parts (Rattle.kir.specs.Fits.is_site kernel site && lines_fit kernel test &&
          has_some_type (atom_type kernel answer) && lines_fit kernel body) true fits_loop.fits in
          let f2 = and_parts (Rattle.kir.specs.Fits.is_site kernel site && lines_fit kernel test &&
          has_some_type (atom_type kernel answer)) (lines_fit kernel body) f1.0 in
          let f3 = and_parts (Rattle.kir.specs.Fits.is_site kernel site && lines_fit kernel test)
          (has_some_type (atom_type kernel answer)) f2.0 in
          let f4 = and_parts (Rattle.kir.specs.Fits.is_site kernel site) (lines_fit kernel test) f3.0 in
          let behind_body = λ (c : ℕ) (h : some_reads c (atoms_in test ++ (answer ∷ [])) ≡ true).
          fits_loop.names c (some_right c (atoms_in body) (atoms_in test ++ (answer ∷ [])) h) in
          let held1 = held_right frame width st.registers next (atoms_in body) (atoms_in test ++ (answer ∷ []))
          fits_loop.held in
          let held2 = held_right frame width st.registers past_body (atoms_in test) (answer ∷ []) held1 in
          record {
            has_body = has_front code start bodies (tests ++ turning) has_b;
            has_test = has_front code (start + length bodies) tests turning has_t;
            has_turn = has_e;
            fit_body = record {
              fits = f2.1;
              names = λ c h. fits_loop.names c (some_left c (atoms_in body) _ h);
              held = held_left frame width st.registers next (atoms_in body) (atoms_in test ++ (answer ∷ []))
                  fits_loop.held;
              sites = λ s h. fits_loop.sites s (omega arith);
            };
            fit_test = record {
              fits = f4.1;
              names = λ c h. behind_body c (some_left c (atoms_in test) _ h);
              held = held_left frame width st.registers past_body (atoms_in test) (answer ∷ []) held1;
              sites = λ s h. fits_loop.sites s (omega arith);
            };
            typed = type_there kernel launch width chunk turns w0 g0 frame counts st.registers ground atoms
                (framed kernel atoms) code valid Good Site e closed (atom_type kernel answer) f3.1;
            names =
                λ c h. behind_body c (some_right c (atoms_in test) (answer ∷ []) (or_left (reads c answer) false h));
            held = held2.0;
          }

      pub answer_runs : Asks n ≡ before → LanesVoted (Some answer) chunk.lanes chunk.first w0 g0.votes → Good StartEnd
      answer_runs is votes = begin Good (λ st b. enter st b)
        where
          all_same : (y : Test) → cond y e (cond y (Starts (suc n)) e) ≡ e
          all_same true = refl
          all_same false = refl

          enter : (st : State) → Begun st → Good (code_end Mine code turns (length front) st)
          enter st b =
              let r0 = st.registers in
              let p = length front in
              let m = lanes_move (machine_of kernel launch) chunk.lanes w0 w0
              (λ l s. (s.tasks ≡ Asks n) × (goes_on l ≡ not (is_zero (atom_value s.cells answer))) ×
              ((c : ℕ) (op : Operand) → slice_index_or frame.cells c None ≡ Some op →
              live_behind c (Asks n) ≡ true → value_at r0 op.at l ≡ lane_in op.of (s.cells c)))
              (λ l s. (s.tasks ≡ Into l) × Agrees frame r0 l (Into l) s.cells) goes_on
              (reached_none (machine_of kernel launch) chunk.lanes w0)
              (λ l lane s h. lane_goes r0 l (goes_on l) w0.memory s h.0 h.1 h.2)
              (λ l set. chunk.is_chunk.alive_is l ∙
              (and_parts (nat_lt (chunk.first + l) (group_size launch))
              (slice_index_or g0.votes (chunk.first + l) false) set).0)
              (λ l lane. (
                (stands l lane).0 ∙ sym is,
                ap (λ x. x && slice_index_or g0.votes (chunk.first + l) false)
                    (sym (chunk.is_chunk.alive_is l) ∙ lane.1) ∙ votes l lane,
                λ c op q alive.
                    let here = subst (λ k. live_behind c k ≡ true) is alive in
                    b.cells l (in_width l lane) before (w0.items (chunk.lanes.first + l)).cells
                    (stands l lane).1 c op q here (first_unread c region before e spans here),
              ))
              chunk.lanes.width (omega arith) in
              let w1 = m.after in
              let sim0 = sim_from st b Into w1 m.reached m.memory m.more (λ l lane. m.below l lane.0 lane) in
              let seen = window false st.group.votes chunk.first width in
              let ls = window_length false st.group.votes chunk.first width in
              let well1 = code_well counts code p (step.VoteGet (mask_reg 1)) valid has_rests.0 in
              masks_step kernel launch width chunk turns w0 g0 frame counts r0 ground atoms (framed kernel atoms) code
              valid Good Site e closed turns p 1 (step.VoteGet (mask_reg 1)) st seen has_rests.0 refl b.shape
              well1 ls (λ after1 k1.
              let st1 = with_registers st after1 in
              let sim1 = masked_sim kernel launch width chunk turns w0 g0 frame counts r0 ground atoms
              (framed kernel atoms) code valid Good Site e closed turns 1 Into st w1
              (λ l. slice_index_or seen l false) after1 k1 sim0 in
              let fn = λ (x : Test) (z : Test). x && z in
              let ms0 = mask_of after1 (mask_reg 0) in
              let ms1 = mask_of after1 (mask_reg 1) in
              let w2 = and_parts (is_below counts (mask_reg 1) && is_below counts (mask_reg 0))
              (is_below counts (mask_reg 1))
              (code_well counts code (p + 1) (step.MaskAnd (mask_reg 1) (mask_reg 0) (mask_reg 1)) valid
              has_rests.1.0) in
              let w3 = and_parts (is_below counts (mask_reg 1)) (is_below counts (mask_reg 0)) w2.0 in
              let l0 = mask_length counts width after1 k1.shape 0 w3.1 in
              let l1 = mask_length counts width after1 k1.shape 1 w2.1 in
              masks_step kernel launch width chunk turns w0 g0 frame counts r0 ground atoms (framed kernel atoms) code
              valid Good Site e closed turns (p + 1) 1 (step.MaskAnd (mask_reg 1) (mask_reg 0) (mask_reg 1)) st1
              (zip2 fn ms0 ms1) has_rests.1.0 refl k1.shape well1 (length-zip2 fn ms0 ms1 (l0 ∙ sym l1) ∙
              l0) (λ after2 k2.
              let st2 = with_registers st1 after2 in
              let sim2 = masked_sim kernel launch width chunk turns w0 g0 frame counts r0 ground atoms
              (framed kernel atoms) code valid Good Site e closed turns 1 Into st1 w1
              (λ l. slice_index_or (zip2 fn ms0 ms1) l false) after2 k2 sim1 in
              let sound = λ (L : Lines). whole_of kernel launch width chunk turns w0 g0 frame counts r0 ground atoms
              (framed kernel atoms) code valid Good Site e closed L
              (sound_of kernel launch width chunk turns w0 g0 frame counts r0 ground atoms (framed kernel atoms)
              code valid Good Site e closed (access r0) L) in
              ahead_step Mine code Good turns (p + 1 + 1) target (step.Jump target) st2 st2 has_rests.1.1.0 refl
              (omega arith)
              (turn_enter kernel launch width chunk turns w0 g0 frame counts r0 ground atoms (framed kernel atoms)
              code valid Good Site e closed test answer body next 1 start at e there (sound test) (sound body)
              (loop_fits st b) (suc n) turns goes_on Into st2 w1
              (record {
                mask = λ l lt. k2.here l lt ∙ get_or-zip2 fn ms0 ms1 l false false false (let h = l0 in
                    omega arith) (let h = l1 in omega arith)
                    ∙ ap (λ x. x && slice_index_or ms1 l false) (k1.there 0 l lt (λ h. omega (arith, h)) ∙ b.mask l lt)
                    ∙ ap (λ x. nat_lt (chunk.first + l) (group_size launch) && x) (k1.here l lt ∙
                    window_read false st.group.votes chunk.first width l false lt ∙
                    ap (λ (g : Group). slice_index_or g.votes (chunk.first + l) false) b.group);
                alive = λ l set. chunk.is_chunk.alive_is l ∙
                    (and_parts (nat_lt (chunk.first + l) (group_size launch))
                    (slice_index_or g0.votes (chunk.first + l) false) set).0;
                sim = sim2;
                stand = λ l lane set. cond_set (goes_on l) (Starts (suc n)) e set;
              })
              (λ some. let more = m.strict (subst (λ k. some_below k goes_on ≡ true) (sym chunk.is_chunk.width_is)
              some) in omega (arith, more))
              (λ t' st' w' le sim masks.
              let len : length front + length begun ≡ target + 1 =
              ap (λ (c : List Step). length front + length c) rests_are ∙
              omega (arith, length-append bodies (tests ++ turning), length-append tests turning) in
              subst (λ i. Good (code_end Mine code t' i st')) len
              (close st b t' st' w' (sim_names kernel launch width chunk turns w0 g0 frame counts r0 ground t'
              (λ l. cond (goes_on l) e (Into l)) (λ l. e) st' w' (λ l lane. all_same (goes_on l)) sim)
              (λ l lt. masks 0 l (omega arith) lt ∙ k2.there 0 l lt (λ h. omega (arith, h)) ∙
              k1.there 0 l lt (λ h. omega (arith, h))))))))
