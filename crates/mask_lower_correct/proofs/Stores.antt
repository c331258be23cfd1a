-- The code of a store does what the items of its active lanes do, lane 0 first, or the lowest that is out of range is
-- shown.
use Rattle.std.proofs.Common.{◌≡◌, ℕ, suc, ◌+◌, ◌*◌, ◌<◌, ℤ, List, [], ◌∷◌, length, Option, Some, None, refl, sym, ap}
use Rattle.std.proofs.Common.{◌∙◌, subst, arith, cond, ◌≢◌}
use Rattle.std.specs.Prelude.{slice_get, slice_index_or, ◌&&◌, ◌||◌, not}
use Rattle.std.specs.Prelude.{Bool as Test, true, false}
use Rattle.std.proofs.lemmas.Bool.{true≢false, and_parts, or_left, or_right}
use Rattle.std.proofs.lemmas.Bool.{lt-ltb}
use Rattle.std.proofs.lemmas.List.{get_or-map, length-map}
use Rattle.std.proofs.lemmas.Simd.{get_or-zip2, length-zip2}
use Rattle.work_items.specs.Memory.{bytes_of, first_byte, has_element, is_in_range, Memory}
use Rattle.work_items.specs.Memory.{overwritten}
use Rattle.work_items.specs.Items.{fault_of, Stores}
use Rattle.wg_num.specs.declared.types.IntType.{IntType}
use Rattle.wg_num.specs.declared.types.IntType.TheVariants as types
use Rattle.wg_num.specs.Bytes.{size_of, bytes_of as bytes_of_value}
use Rattle.lane_values.specs.Lanes.{lane as lane_bits}
use Rattle.lane_values.specs.Access.{is_within, is_fault, faults, stored_lane, stored_lanes, put_element, scattered}
use Rattle.cl_model.specs.declared.program.Root.{Root}
use Rattle.cl_model.specs.Objects.{local_arrays, first_private, private_sizes, first_local}
use Rattle.cl_model.specs.Sizes.{Launch, group_size}
use Rattle.kir.specs.declared.line.Atom.{Atom}
use Rattle.kir.specs.Tree.{Lines, NoLine, Kernel, StoreThen}
use Rattle.kir.specs.Places.{Behind, Place, Tasks, LinesAt}
use Rattle.kir.specs.Live.{reads, live_now}
use Rattle.kir.specs.Fits.{is_site, has_type, atom_type, can_store}
use Rattle.kir.specs.Steps.{shell_of, Item, atom_value, object_at, tasks_next, with_tasks}
use Rattle.kir.specs.Meaning.{machine_of}
use Rattle.kir.proofs.CellTypes.{has_type_is}
use Rattle.kir.proofs.CellTypes.{atom_typed}
use Rattle.lane_code.specs.declared.step.Step.{Step}
use Rattle.lane_code.specs.declared.step.Step.TheVariants as step
use Rattle.lane_code.specs.declared.step.Reg.{Reg}
use Rattle.lane_code.specs.declared.code.Counts.{Counts}
use Rattle.lane_code.specs.declared.end.RegionEnd.TheVariants as end
use Rattle.lane_code.specs.Registers.{Registers, lanes_of, mask_of, lowest}
use Rattle.lane_code.specs.Fits.{is_below, is_code}
use Rattle.lane_code.specs.Groups.{Group, window, Reached, Own, reached, own_faults, own_stored}
use Rattle.lane_code.specs.Acts.{State, act}
use Rattle.lane_code.specs.Acts.{stores, store_at}
use Rattle.lane_code.specs.Meaning.{Ended}
use Rattle.lane_laws.specs.Reading.{mask_at}
use Rattle.lane_laws.proofs.Reading.{window_read, window_length, lowest_is, none_lowest}
use Rattle.lane_laws.proofs.Steps.{halt_step, on_step}
use Rattle.group_moves.specs.Stages.{Stage}
use Rattle.group_moves.specs.Lanes.{IsLane, Does, stays, stores as does_store}
use Rattle.kir_moves.proofs.Live.{live_leads, reads_live}
use Rattle.mask_lower.specs.declared.registers.Free.{Free}
use Rattle.mask_lower.specs.Banks.{mask_reg}
use Rattle.mask_lower.specs.Layout.{kernel_chunk, Mirrors, OtherGroupsStay}
use Rattle.mask_lower.specs.Following.{ChunkOf}
use Rattle.mask_lower.specs.Registers.{Frame, places_from, operand, root_at, past_atom}
use Rattle.mask_lower_correct.specs.View.{value_at, is_lane, Shaped}
use Rattle.mask_lower_correct.specs.Framed.{IsFramed}
use Rattle.mask_lower_correct.specs.Sim.{Ground, IsGood, Agrees, Above, Sim, Closed}
use Rattle.mask_lower_correct.proofs.LaneValues.{lane_in}
use Rattle.mask_lower_correct.proofs.View.{code_well, lanes_length, mask_length}
use Rattle.mask_lower_correct.proofs.Frames.{type_lane}
use Rattle.mask_lower_correct.proofs.Standing.{cond_set, cond_unset, good_there}
use Rattle.mask_lower_correct.proofs.Atoms.{operand_is}
use Rattle.mask_lower_correct.proofs.Objects.{IsObject, a_buffer, a_table, a_local, an_own, load_reaches, store_loads}
use Rattle.mask_lower_correct.proofs.Objects.{store_no_table}
use Rattle.mask_lower_correct.proofs.Soundness.{Lanes, Fit, Accesses}
use Rattle.wg_num.proofs.ByteLaws.{length-bytes}
use Rattle.group_moves.proofs.Moves.{lanes_do}
use Rattle.kir_moves.specs.Leads.{past_store}
use Rattle.mask_lower_correct.proofs.Bytes.{overwritten_is, bytes_low, stored_below, scattered_is, below_same}
use Rattle.mask_lower_correct.proofs.Bytes.{memory_below, below_length, below_other, below_shared, below_own}
use Rattle.mask_lower_correct.proofs.Bytes.{own_stored_read, own_stored_length, stored_is}
use Rattle.mask_lower_correct.proofs.Numbers.{privates_differ}
use Rattle.mask_lower_correct.proofs.Mirroring.{Mirrored, buffer_mirrored, local_mirrored, own_mirrored}
use Rattle.mask_lower_correct.proofs.Loads.{within_is, first_is, own_faults_read, own_faults_length, lane_item}
use Rattle.mask_lower_correct.proofs.Loads.{number_is, in_group}

-- what a store of the type writes of a lane of a register
abbrev stored_at : IntType → Registers → Reg → ℕ → ℕ
stored_at t r x l = stored_lane t (value_at r x l)

module _ (kernel : Kernel) (launch : Launch) (width : ℕ) (chunk : ChunkOf kernel launch width) (turns : ℕ)
    (w0 : Stage Item) (g0 : Group) (f : Frame) (counts : Counts) (r0 : Registers) (ground : Ground kernel launch w0)
    (atoms : List Atom) (framed : IsFramed kernel f atoms) (code : List Step) (valid : is_code counts code ≡ true)
    (Good : Ended → Type 0) (Sites : ℕ →
    Type 0) (Goal : Tasks) (closed : Closed kernel launch width chunk turns w0 Sites Goal Good)
    (arrays_are : f.arrays ≡ places_from 0 0 kernel.arrays) where
  abbrev AtStage : ℕ → (ℕ → Tasks) → State → Stage Item → Type 0
  AtStage = Sim kernel launch width chunk turns w0 g0 f counts r0

  abbrev Standing : ℕ → ℕ → (ℕ → Test) → (ℕ → Tasks) → Tasks → State → Stage Item → Type 0
  Standing =
      Lanes kernel launch width chunk turns w0 g0 f counts r0 ground atoms framed code valid Good Sites Goal closed

  abbrev IsFit : Lines → Free → Type 0
  IsFit = Fit kernel launch width chunk turns w0 g0 f counts r0 ground atoms framed code valid Good Sites Goal closed

  abbrev EndFrom : ℕ → ℕ → State → Ended
  EndFrom t p st =
      Rattle.lane_code.specs.Meaning.code_end (kernel_chunk kernel launch width chunk.group chunk.first) code t p st

  lane_width : (l : ℕ) → IsLane chunk.lanes l → l < width
  lane_width l lane = let e = chunk.is_chunk.width_is in let lt = lane.0 in omega arith

  -- a lane's item
  abbrev item_at : Stage Item → ℕ → Item
  item_at w l = w.items (chunk.lanes.first + l)

  -- the active lanes' items store, one after the other
  pub stores_move : (m t site : ℕ) (a : ℕ → Test) (T : ℕ → Tasks) (before after : Tasks) (st st' : State)
      (w : Stage Item) (object : ℕ → ℕ) (index : ℕ → ℤ) (bs : ℕ → List ℕ) → Standing m t a T before st w
      → ((l : ℕ) → IsLane chunk.lanes l → a l ≡ true →
      tasks_next kernel launch (item_at w l) before ≡ Stores site (object l) (index l) (bs l)
      (with_tasks (item_at w l) after))
      → ((l : ℕ) → IsLane chunk.lanes l → a l ≡ true →
      is_in_range w.memory (record { object = object l; size = length (bs l); index = index l }) ≡ true)
      → ((c : ℕ) → live_now c after ≡ true → live_now c before ≡ true)
      → Mirrored kernel launch chunk.group w.memory (memory_below w.memory a object index bs width) st st' →
      (w' : Stage Item) × AtStage t (λ l. cond (a l) after (T l)) st' w'
  stores_move m t site a T before after st st' w object index bs lanes next fits live mirrored =
      let mem = memory_below w.memory a object index bs in
      let moved = lanes_do (machine_of kernel launch) chunk.lanes w0 w mem (λ l s. s ≡ item_at w l)
      (λ l s. (s.tasks ≡ cond (a l) after (T l)) × Agrees f st'.registers l (cond (a l) after (T l)) s.cells)
      (λ l. false)
      lanes.sim.reached refl (λ l lane s p.
      subst (λ y. Does (machine_of kernel launch) (mem l) y (λ s'. (s'.tasks ≡ cond (a l) after (T l)) ×
      Agrees f st'.registers l (cond (a l) after (T l)) s'.cells) (mem (suc l)) false) (sym p)
      (one l lane (a l) refl))
      (λ l lt off. idle l off (a l) refl) (λ l e. absurd (true≢false (sym e))) (λ l lane. refl) chunk.lanes.width
      (omega arith) in
      let there : moved.after.memory ≡ mem width = moved.memory ∙ ap mem chunk.is_chunk.width_is in (
        moved.after,
        record {
          reached = moved.reached;
          mirrors = subst (λ x. Mirrors kernel launch chunk.group x st'.group st'.buffers) (sym there) mirrored.mirrors;
          others = subst (λ x. OtherGroupsStay kernel launch chunk.group w0.memory x) (sym there) (record {
            locals = λ other n lt ne in_row. mirrored.others.locals other n lt ne in_row ∙
                lanes.sim.others.locals other n lt ne in_row;
            privates = λ item n ne in_row. mirrored.others.privates item n ne in_row ∙
                lanes.sim.others.privates item n ne in_row;
          });
          group = record {
            columns = mirrored.kept.columns ∙ lanes.sim.group.columns;
            entries = mirrored.kept.entries ∙ lanes.sim.group.entries;
            exits = mirrored.kept.exits ∙
                lanes.sim.group.exits;
            votes = mirrored.kept.votes ∙ lanes.sim.group.votes;
          };
          rows = mirrored.rows;
          shape = subst (Shaped counts width) (sym mirrored.registers) lanes.sim.shape;
          above = subst (Above f width r0) (sym mirrored.registers) lanes.sim.above;
          stand = λ l lane. moved.below l lane.0 lane;
          budget = omega (arith, moved.more, lanes.sim.budget);
        },
      )
    where
      agrees_on : (l : ℕ) (k : Tasks) (cells : ℕ → ℤ) → Agrees f st.registers l k cells →
          Agrees f st'.registers l k cells
      agrees_on l k cells ag = subst (λ r. Agrees f r l k cells) (sym mirrored.registers) ag

      one : (l : ℕ) → IsLane chunk.lanes l → (x : Test) → a l ≡ x →
          Does (machine_of kernel launch) (memory_below w.memory a object index bs l) (item_at w l)
          (λ s'. (s'.tasks ≡ cond (a l) after (T l)) × Agrees f st'.registers l (cond (a l) after (T l)) s'.cells)
          (memory_below w.memory a object index bs (suc l)) false
      one l lane false e =
          let stands = lanes.sim.stand l lane in
          subst (λ x. Does (machine_of kernel launch) (memory_below w.memory a object index bs l) (item_at w l)
          (λ s'. (s'.tasks ≡ cond (a l) after (T l)) ×
          Agrees f st'.registers l (cond (a l) after (T l)) s'.cells) x false)
          (sym (ap (λ b. cond b (Rattle.work_items.specs.Memory.stored (memory_below w.memory a object index bs l)
          (object l) (index l) (bs l)) (memory_below w.memory a object index bs l)) e))
          (stays (
            stands.0 ∙ sym (cond_unset (a l) after (T l) e),
            agrees_on l (cond (a l) after (T l)) (item_at w l).cells (λ c op h live'.
                stands.1 c op h (ap (live_now c) (sym (cond_unset (a l) after (T l) e)) ∙ live')),
          ))
      one l lane true e =
          let stands = lanes.sim.stand l lane in
          let stand = lanes.stand l lane e in
          subst (λ x. Does (machine_of kernel launch) (memory_below w.memory a object index bs l) (item_at w l)
          (λ s'. (s'.tasks ≡ cond (a l) after (T l)) ×
          Agrees f st'.registers l (cond (a l) after (T l)) s'.cells) x false)
          (sym (ap (λ b. cond b (Rattle.work_items.specs.Memory.stored (memory_below w.memory a object index bs l)
          (object l) (index l) (bs l)) (memory_below w.memory a object index bs l)) e))
          (does_store site (object l) (index l) (bs l) (with_tasks (item_at w l) after)
          (ap (tasks_next kernel launch (item_at w l)) (stands.0 ∙ stand) ∙ next l lane e)
          (ap (λ n. has_element n (length (bs l)) (index l)) (below_length w.memory a object index bs l (object l)) ∙
          fits l lane e) (
            sym (cond_set (a l) after (T l) e),
            agrees_on l (cond (a l) after (T l)) (item_at w l).cells
                (λ c op h live'. stands.1 c op h (ap (live_now c) stand ∙
                live c (ap (live_now c) (sym (cond_set (a l) after (T l) e)) ∙ live'))),
          ))

      idle : (l : ℕ) → chunk.lanes.alive l ≡ false → (x : Test) → a l ≡ x →
          memory_below w.memory a object index bs (suc l) ≡ memory_below w.memory a object index bs l
      idle l off true e = absurd (true≢false (sym (lanes.alive l e) ∙ off))
      idle l off false e =
          ap (λ b. cond b (Rattle.work_items.specs.Memory.stored (memory_below w.memory a object index bs l)
          (object l) (index l) (bs l)) (memory_below w.memory a object index bs l)) e

  -- a store, where these are the bytes of each lane's object
  store_common : (site : ℕ) (element : IntType) (r : Root) (index from : Atom) (m p t : ℕ) (next : Free) (a : ℕ →
      Test) (T : ℕ → Tasks) (at : Place) (rest : Lines) (k : Tasks) (st : State) (w : Stage Item)
      → slice_get code p ≡ Some (step.Store site element (root_at f.arrays r) (operand f.cells next index).at
      (operand f.cells (past_atom next index) from).at (mask_reg m)) →
      IsFit (StoreThen site element r index from NoLine) next
      → Standing m t a T (LinesAt at (StoreThen site element r index from rest) k) st w
      → (B : ℕ → List ℕ) (fs : List Test) (all : State) (below : ℕ → State)
      → act (kernel_chunk kernel launch width chunk.group chunk.first)
      (step.Store site element (root_at f.arrays r) (operand f.cells next index).at
      (operand f.cells (past_atom next index) from).at (mask_reg m)) st ≡ stores site (lowest fs) all below
      → length fs ≡ width
      → ((l : ℕ) → l < width → slice_index_or fs l false ≡ is_fault (size_of element) (length (B l))
      (mask_at st.registers m l) (value_at st.registers (operand f.cells next index).at l))
      → ((l : ℕ) → IsLane chunk.lanes l → bytes_of w.memory (object_at kernel launch (item_at w l) r) ≡ B l)
      → (((l : ℕ) → IsLane chunk.lanes l → a l ≡ true → (xs : List ℕ)
      → overwritten xs (first_byte (length (bytes_of_value element (atom_value (item_at w l).cells from)))
      (atom_value (item_at w l).cells index)) (bytes_of_value element (atom_value (item_at w l).cells from))
      ≡ put_element (size_of element) xs (value_at st.registers (operand f.cells next index).at l)
      (stored_at element st.registers (operand f.cells (past_atom next index) from).at l))
      → Mirrored kernel launch chunk.group w.memory
      (memory_below w.memory a (λ l. object_at kernel launch (item_at w l) r)
      (λ l. atom_value (item_at w l).cells index)
      (λ l. bytes_of_value element (atom_value (item_at w l).cells from)) width) st all)
      → ((st' : State) (w' : Stage Item) → AtStage t (λ l. cond (a l) (LinesAt (Behind ∷ at) rest k) (T l)) st' w' →
      st'.registers.masks ≡ st.registers.masks → Good (EndFrom t (p + 1) st')) → Good (EndFrom t p st)
  store_common site element r index from m p t next a T at rest k st w has fit lanes B fs all below does flen fread
      bytes mirrored go = by (lowest fs) refl does
    where
      mine : Rattle.lane_code.specs.Acts.Chunk
      mine = kernel_chunk kernel launch width chunk.group chunk.first

      ireg : Reg
      ireg = (operand f.cells next index).at

      freg : Reg
      freg = (operand f.cells (past_atom next index) from).at

      s : Step
      s = step.Store site element (root_at f.arrays r) ireg freg (mask_reg m)

      before : Tasks
      before = LinesAt at (StoreThen site element r index from rest) k

      after : Tasks
      after = LinesAt (Behind ∷ at) rest k

      f1 : (is_site kernel site && can_store kernel r element && has_type types.Long (atom_type kernel index) ≡
          true) × (has_type element (atom_type kernel from) ≡ true)
      f1 = and_parts (is_site kernel site && can_store kernel r element &&
          has_type types.Long (atom_type kernel index)) (has_type element (atom_type kernel from))
          (and_parts (is_site kernel site && can_store kernel r element &&
          has_type types.Long (atom_type kernel index) && has_type element (atom_type kernel from)) true
          fit.fits).0

      type_i : atom_type kernel index ≡ Some types.Long
      type_i = has_type_is types.Long (atom_type kernel index)
          (and_parts (is_site kernel site && can_store kernel r element)
          (has_type types.Long (atom_type kernel index)) f1.0).1

      type_f : atom_type kernel from ≡ Some element
      type_f = has_type_is element (atom_type kernel from) f1.1

      good : (l : ℕ) → IsGood kernel (chunk.lanes.first + l) (item_at w l)
      good l = good_there kernel launch width chunk turns w0 g0 f counts r0 ground w lanes.sim.reached
          (chunk.lanes.first + l)

      agrees : (l : ℕ) → IsLane chunk.lanes l → a l ≡ true → Agrees f st.registers l before (item_at w l).cells
      agrees l lane set c op h live =
          (lanes.sim.stand l lane).1 c op h (ap (live_now c) (lanes.stand l lane set) ∙ live)

      index_lane : (l : ℕ) → IsLane chunk.lanes l → a l ≡ true →
          value_at st.registers ireg l ≡ lane_bits 64 (atom_value (item_at w l).cells index)
      index_lane l lane set =
          (operand_is kernel width f atoms counts r0 framed next index types.Long st.registers type_i
          (λ c e. fit.names c (or_left (reads c index) (reads c from || false) e)) fit.held.0
          lanes.sim.above).holds l (item_at w l).cells (lane_width l lane)
          (λ c op e rd. agrees l lane set c op e (reads_live c before (or_left (reads c index) (reads c from) rd)))

      from_lane : (l : ℕ) → IsLane chunk.lanes l → a l ≡ true →
          value_at st.registers freg l ≡ lane_in element (atom_value (item_at w l).cells from)
      from_lane l lane set =
          (operand_is kernel width f atoms counts r0 framed (past_atom next index) from element st.registers type_f
          (λ c e. fit.names c (or_right (reads c index) (reads c from || false)
          (or_left (reads c from) false e))) fit.held.1.0 lanes.sim.above).holds l (item_at w l).cells
          (lane_width l lane)
          (λ c op e rd. agrees l lane set c op e (reads_live c before (or_right (reads c index) (reads c from) rd)))

      value_length : (l : ℕ) → length (bytes_of_value element (atom_value (item_at w l).cells from)) ≡ size_of element
      value_length l = length-bytes element (atom_value (item_at w l).cells from)

      -- whether a lane's item is in range
      range_is : (l : ℕ) → IsLane chunk.lanes l → a l ≡ true
          → is_within (size_of element) (length (B l)) (value_at st.registers ireg l)
          ≡ is_in_range w.memory (record {
            object = object_at kernel launch (item_at w l) r;
            size = length (bytes_of_value element (atom_value (item_at w l).cells from));
            index = atom_value (item_at w l).cells index;
          })
      range_is l lane set =
          ap (is_within (size_of element) (length (B l))) (index_lane l lane set)
          ∙ within_is (size_of element) (length (B l)) (atom_value (item_at w l).cells index)
          (atom_typed kernel (item_at w l).cells index types.Long (good l).typed type_i)
          ∙ ap (λ (bs : List ℕ). has_element (length bs) (size_of element) (atom_value (item_at w l).cells index))
          (sym (bytes l lane))
          ∙ ap (λ n. has_element (length (bytes_of w.memory (object_at kernel launch (item_at w l) r))) n
          (atom_value (item_at w l).cells index)) (sym (value_length l))

      by : (o : Option ℕ) → lowest fs ≡ o → act mine s st ≡ stores site o all below → Good (EndFrom t p st)
      by (Some l) e is =
          let low = lowest_is fs l e in
          let within : l < width = let lt = low.within in omega arith in
          let fault = and_parts (mask_at st.registers m l)
          (not (is_within (size_of element) (length (B l)) (value_at st.registers ireg l)))
          (sym (fread l within) ∙ low.set) in
          let set : a l ≡ true = sym (lanes.mask l within) ∙ fault.0 in
          let lane : IsLane chunk.lanes l = ((let wi = chunk.is_chunk.width_is in omega arith), lanes.alive l set) in
          let tasks : (item_at w l).tasks ≡ before = (lanes.sim.stand l lane).0 ∙ lanes.stand l lane set in
          let out = sym (range_is l lane set) ∙ Rattle.std.proofs.lemmas.Bool.not-true _ fault.1 in
          halt_step mine code Good t p s st (below l) (end.Range l site) has is
          (closed.faults w lanes.sim.reached l site lane
          (ap (λ n. fault_of w.memory n) (ap (tasks_next kernel launch (item_at w l)) tasks) ∙
          ap (λ b. cond b None (Some site)) out) t (below l))
      by None e is =
          let calm : (l : ℕ) → (lane : IsLane chunk.lanes l) → a l ≡ true →
          is_within (size_of element) (length (B l)) (value_at st.registers ireg l) ≡ true = λ l lane set.
          Rattle.std.proofs.lemmas.Bool.not-false _
          (ap (λ b. is_fault (size_of element) (length (B l)) b (value_at st.registers ireg l))
          (sym (lanes.mask l (lane_width l lane) ∙ set)) ∙ sym (fread l (lane_width l lane)) ∙
          none_lowest fs e l) in
          let fits =
          λ (l : ℕ) (lane : IsLane chunk.lanes l) (set : a l ≡ true). sym (range_is l lane set) ∙ calm l lane set in
          let done = mirrored (λ l lane set xs. put l lane set (calm l lane set) xs) in
          let moved = stores_move m t site a T before after st all w _ _ _ lanes (λ l lane set. refl) fits
          (λ c live. live_leads c before after past_store refl live) done in
          on_step mine code Good t p s st all has is
          (go all moved.0 moved.1 (ap (λ (q : Registers). q.masks) done.registers))
        where
          put : (l : ℕ) → IsLane chunk.lanes l → a l ≡ true →
              is_within (size_of element) (length (B l)) (value_at st.registers ireg l) ≡ true → (xs : List ℕ)
              → overwritten xs (first_byte (length (bytes_of_value element (atom_value (item_at w l).cells from)))
              (atom_value (item_at w l).cells index))
              (bytes_of_value element (atom_value (item_at w l).cells from))
              ≡ put_element (size_of element) xs (value_at st.registers ireg l) (stored_at element st.registers freg l)
          put l lane set calm xs =
              let z = atom_value (item_at w l).cells index in
              let v = atom_value (item_at w l).cells from in
              let typed = atom_typed kernel (item_at w l).cells index types.Long (good l).typed type_i in
              let there : has_element (length (B l)) (size_of element) z ≡ true =
              sym (ap (is_within (size_of element) (length (B l))) (index_lane l lane set) ∙
              within_is (size_of element) (length (B l)) z typed) ∙ calm in
              overwritten_is xs (first_byte (length (bytes_of_value element v)) z) (bytes_of_value element v)
              ∙ ap (λ n. Rattle.std.specs.Simd.Lanes.put_chunk (first_byte n z) xs (bytes_of_value element v))
              (value_length l)
              ∙ ap (λ n. Rattle.std.specs.Simd.Lanes.put_chunk n xs (bytes_of_value element v))
              (sym (first_is (size_of element) (length (B l)) z typed there) ∙
              ap (λ n. n * size_of element) (sym (index_lane l lane set)))
              ∙ ap (λ bs. Rattle.std.specs.Simd.Lanes.put_chunk (value_at st.registers ireg l * size_of element) xs
              bs) (sym (bytes_low element v) ∙
              ap (Rattle.std.specs.Simd.Lanes.digits_l 256 (size_of element)) (sym (ap (stored_lane element)
              (from_lane l lane set) ∙ stored_is element v (atom_typed kernel (item_at w l).cells from element
              (good l).typed type_f))))

  -- so a store does, whatever its root names
  pub store_runs : (site : ℕ) (element : IntType) (r : Root) (index from : Atom) →
      Accesses kernel launch width chunk turns w0 g0 f counts r0 ground atoms framed code valid Good Sites Goal closed
      (StoreThen site element r index from)
      (λ next m. step.Store site element (root_at f.arrays r) (operand f.cells next index).at
      (operand f.cells (past_atom next index) from).at (mask_reg m))
  store_runs site element r index from m p t next a T at rest k st w has fit lanes go =
      by (reached (length (local_arrays (shell_of kernel))) launch (root_at f.arrays r))
      (subst (λ x. IsObject kernel launch chunk.group r (reached (length (local_arrays (shell_of kernel))) launch
      (root_at x r))) (sym arrays_are) (load_reaches kernel launch ground.fits chunk.group r element
      (store_loads kernel launch ground.fits chunk.group r element can))) refl
    where
      mine : Rattle.lane_code.specs.Acts.Chunk
      mine = kernel_chunk kernel launch width chunk.group chunk.first

      ireg : Reg
      ireg = (operand f.cells next index).at

      freg : Reg
      freg = (operand f.cells (past_atom next index) from).at

      s : Step
      s = step.Store site element (root_at f.arrays r) ireg freg (mask_reg m)

      f1 : (is_site kernel site && can_store kernel r element && has_type types.Long (atom_type kernel index) ≡
          true) × (has_type element (atom_type kernel from) ≡ true)
      f1 = and_parts (is_site kernel site && can_store kernel r element &&
          has_type types.Long (atom_type kernel index)) (has_type element (atom_type kernel from))
          (and_parts (is_site kernel site && can_store kernel r element &&
          has_type types.Long (atom_type kernel index) && has_type element (atom_type kernel from)) true
          fit.fits).0

      f2 : (is_site kernel site && can_store kernel r element ≡ true) ×
          (has_type types.Long (atom_type kernel index) ≡ true)
      f2 = and_parts (is_site kernel site && can_store kernel r element)
          (has_type types.Long (atom_type kernel index)) f1.0

      can : can_store kernel r element ≡ true
      can = (and_parts (is_site kernel site) (can_store kernel r element) f2.0).1

      active : List Test
      active = mask_of st.registers (mask_reg m)

      places : List ℕ
      places = lanes_of st.registers ireg

      values : List ℕ
      values = stored_lanes element (lanes_of st.registers freg)

      wells : (is_below counts ireg && is_below counts freg ≡ true) × (is_below counts (mask_reg m) ≡ true)
      wells = and_parts (is_below counts ireg && is_below counts freg) (is_below counts (mask_reg m))
          (code_well counts code p s valid has)

      active_length : length active ≡ width
      active_length = mask_length counts width st.registers lanes.sim.shape m wells.1

      places_length : length places ≡ width
      places_length =
          let bank = (operand_is kernel width f atoms counts r0 framed next index types.Long st.registers
          (has_type_is types.Long (atom_type kernel index) f2.1)
          (λ c e. fit.names c (or_left (reads c index) (reads c from || false) e)) fit.held.0
          lanes.sim.above).bank in
          lanes_length counts width st.registers lanes.sim.shape ireg (ap is_lane bank)
          (and_parts (is_below counts ireg) (is_below counts freg) wells.0).0

      raw_length : length (lanes_of st.registers freg) ≡ width
      raw_length =
          let bank = (operand_is kernel width f atoms counts r0 framed (past_atom next index) from element
          st.registers (has_type_is element (atom_type kernel from) f1.1)
          (λ c e. fit.names c (or_right (reads c index) (reads c from || false)
          (or_left (reads c from) false e))) fit.held.1.0 lanes.sim.above).bank in
          lanes_length counts width st.registers lanes.sim.shape freg (ap is_lane bank ∙
          type_lane element) (and_parts (is_below counts ireg) (is_below counts freg) wells.0).1

      values_length : length values ≡ width
      values_length = length-map (lanes_of st.registers freg) (stored_lane element) ∙ raw_length

      value_is : (l : ℕ) → l < width → slice_index_or values l 0 ≡ stored_at element st.registers freg l
      value_is l lt = get_or-map (stored_lane element) (lanes_of st.registers freg) l 0 0
          (let h = raw_length in omega arith)

      lane_of : (l : ℕ) → l < width → a l ≡ true → IsLane chunk.lanes l
      lane_of l lt set = ((let wi = chunk.is_chunk.width_is in omega arith), lanes.alive l set)

      good : (l : ℕ) → IsGood kernel (chunk.lanes.first + l) (item_at w l)
      good l = good_there kernel launch width chunk turns w0 g0 f counts r0 ground w lanes.sim.reached
          (chunk.lanes.first + l)

      -- one object for all lanes
      shared : (x : ℕ) (bytes : List ℕ) (all : State) (below : ℕ → State) →
          act mine s st ≡ stores site (lowest (faults (size_of element) (length bytes) active places)) all below →
          ((l : ℕ) → IsLane chunk.lanes l → object_at kernel launch (item_at w l) r ≡ x) → bytes_of w.memory x ≡ bytes
          → ((after : Memory) → bytes_of after x ≡ scattered (size_of element) bytes active places values →
          ((y : ℕ) → x ≢ y → bytes_of after y ≡ bytes_of w.memory y) →
          Mirrored kernel launch chunk.group w.memory after st all) → Good (EndFrom t p st)
      shared x bytes all below does is there mirrored =
          store_common site element r index from m p t next a T at rest k st w has fit lanes (λ l. bytes)
          (faults (size_of element) (length bytes) active places) all below does
          (length-zip2 (is_fault (size_of element) (length bytes)) active places (active_length ∙
          sym places_length) ∙ active_length)
          (λ l lt. get_or-zip2 (is_fault (size_of element) (length bytes)) active places l false 0 false
          (let h = active_length in omega arith) (let h = places_length in omega arith))
          (λ l lane. ap (bytes_of w.memory) (is l lane) ∙ there)
          (λ put.
          let after = memory_below w.memory a (λ l. object_at kernel launch (item_at w l) r)
          (λ l. atom_value (item_at w l).cells index)
          (λ l. bytes_of_value element (atom_value (item_at w l).cells from)) width in
          mirrored after
          (below_shared w.memory a (λ l. object_at kernel launch (item_at w l) r)
          (λ l. atom_value (item_at w l).cells index)
          (λ l. bytes_of_value element (atom_value (item_at w l).cells from)) (size_of element) x
          (λ l. value_at st.registers ireg l) (λ l. stored_at element st.registers freg l) width
          (λ l lt set. is l (lane_of l lt set)) (λ l lt set xs. put l (lane_of l lt set) set xs)
          ∙ ap (λ bs. stored_below (size_of element) bs a (λ l. value_at st.registers ireg l)
          (λ l. stored_at element st.registers freg l) width) there
          ∙ below_same (size_of element) bytes a (λ l. slice_index_or active l false)
          (λ l. value_at st.registers ireg l) (λ l. slice_index_or places l 0) (λ l. stored_at element st.registers freg l)
          (λ l. slice_index_or values l 0) width (λ l lt. sym (lanes.mask l lt)) (λ l lt. refl)
          (λ l lt. sym (value_is l lt))
          ∙ ap (stored_below (size_of element) bytes (λ l. slice_index_or active l false)
          (λ l. slice_index_or places l 0) (λ l. slice_index_or values l 0)) (sym active_length)
          ∙ sym (scattered_is (size_of element) bytes active places values (active_length ∙
          sym places_length) (active_length ∙ sym values_length)))
          (λ y ne. below_other w.memory a (λ l. object_at kernel launch (item_at w l) r)
          (λ l. atom_value (item_at w l).cells index)
          (λ l. bytes_of_value element (atom_value (item_at w l).cells from)) width y (λ l lt set e.
          ne (sym (is l (lane_of l lt set)) ∙ e))))
          go

      -- one of its own for each lane
      own : (n : ℕ) → n < length (private_sizes (shell_of kernel)) →
          ((i : Item) → object_at kernel launch i r ≡ first_private (shell_of kernel) launch i.number + n) →
          act mine s st ≡ store_at mine st site element ireg freg (mask_reg m) (Own n) → Good (EndFrom t p st)
      own n lt is does =
          let row = slice_index_or st.group.privates n [] in
          let objects = window [] row chunk.first width in
          let olen = window_length [] row chunk.first width in
          let after = memory_below w.memory a (λ l. object_at kernel launch (item_at w l) r)
          (λ l. atom_value (item_at w l).cells index)
          (λ l. bytes_of_value element (atom_value (item_at w l).cells from)) width in
          let news = own_stored (size_of element) active places values objects in
          let nlen =
          own_stored_length (size_of element) active places values objects (active_length ∙ sym olen) ∙ olen in
          store_common site element r index from m p t next a T at rest k st w has fit lanes
          (λ l. slice_index_or row (chunk.first + l) []) (own_faults (size_of element) active places objects) _ _
          does (own_faults_length (size_of element) active places objects (active_length ∙
          sym places_length) (active_length ∙ sym olen) ∙ active_length)
          (λ l ltl. own_faults_read (size_of element) active places objects l (let h = active_length in
          omega arith) (let h = places_length in omega arith) (let h = olen in omega arith)
          ∙ ap (λ (bs : List ℕ). is_fault (size_of element) (length bs) (mask_at st.registers m l)
          (value_at st.registers ireg l)) (window_read [] row chunk.first width l [] ltl))
          (λ l lane. before n lt is l lane)
          (λ put.
          own_mirrored kernel launch chunk.group chunk.within w.memory after st lanes.sim.mirrors lanes.sim.rows n
          chunk.first news lt
          (λ l ltl inside.
          let ltw : l < width = omega arith in
          let lane : IsLane chunk.lanes l = (
            (let wi = chunk.is_chunk.width_is in omega arith),
            chunk.is_chunk.alive_is l ∙
                lt-ltb (chunk.first + l) (group_size launch) inside,
          ) in
          let object : object_at kernel launch (item_at w l) r ≡ first_private (shell_of kernel) launch (chunk.group *
          group_size launch + (chunk.first + l)) + n = object_is n is l in
          ap (bytes_of after) (sym object)
          ∙ below_own w.memory a (λ l. object_at kernel launch (item_at w l) r)
          (λ l. atom_value (item_at w l).cells index)
          (λ l. bytes_of_value element (atom_value (item_at w l).cells from)) width l ltw (λ i lti ne e.
          differ n lt is i l ne e)
          ∙ with_put put l lane (bytes_of w.memory (object_at kernel launch (item_at w l) r)) (a l) refl
          ∙ ap (λ (bs : List ℕ). cond (a l) (put_element (size_of element) bs (value_at st.registers ireg l)
          (stored_at element st.registers freg l)) bs) (before n lt is l lane ∙
          sym (window_read [] row chunk.first width l [] ltw))
          ∙ ap (λ b. cond b (put_element (size_of element) (slice_index_or objects l [])
          (value_at st.registers ireg l) (stored_at element st.registers freg l)) (slice_index_or objects l []))
          (sym (lanes.mask l ltw))
          ∙ ap (λ x. cond (mask_at st.registers m l) (put_element (size_of element) (slice_index_or objects l [])
          (value_at st.registers ireg l) x) (slice_index_or objects l [])) (sym (value_is l ltw))
          ∙ sym (own_stored_read (size_of element) active places values objects l (active_length ∙
          sym places_length) (active_length ∙ sym values_length) (active_length ∙
          sym olen) (let h = active_length in omega arith)))
          (λ y apart. below_other w.memory a (λ l. object_at kernel launch (item_at w l) r)
          (λ l. atom_value (item_at w l).cells index)
          (λ l. bytes_of_value element (atom_value (item_at w l).cells from)) width y
          (λ l ltl set e. apart l (let h = nlen in
          omega arith) (lane_item kernel launch width chunk turns w0 g0 f counts r0 ground atoms framed code
          valid Good Sites Goal closed arrays_are l (lane_of l ltl set)) (sym (object_is n is l) ∙ e))))
          go
        where
          object_is : (n : ℕ) → ((i : Item) →
              object_at kernel launch i r ≡ first_private (shell_of kernel) launch i.number + n) → (l : ℕ) →
              object_at kernel launch (item_at w l) r ≡ first_private (shell_of kernel) launch (chunk.group *
              group_size launch + (chunk.first + l)) + n
          object_is n is l = is (item_at w l) ∙
              ap (λ x. first_private (shell_of kernel) launch x + n) (number_is kernel launch width chunk turns w0 g0
              f counts r0 ground atoms framed code valid Good Sites Goal closed arrays_are l (item_at w l) (good l))

          before : (n : ℕ) → n < length (private_sizes (shell_of kernel)) →
              ((i : Item) → object_at kernel launch i r ≡ first_private (shell_of kernel) launch i.number + n) →
              (l : ℕ) → IsLane chunk.lanes l → bytes_of w.memory (object_at kernel launch (item_at w l) r) ≡
              slice_index_or (slice_index_or st.group.privates n []) (chunk.first + l) []
          before n lt is l lane = ap (bytes_of w.memory) (object_is n is l) ∙
              lanes.sim.mirrors.privates n (chunk.first + l) lt (lane_item kernel launch width chunk turns w0 g0 f
              counts r0 ground atoms framed code valid Good Sites Goal closed arrays_are l lane)

          differ : (n : ℕ) → n < length (private_sizes (shell_of kernel)) →
              ((i : Item) → object_at kernel launch i r ≡ first_private (shell_of kernel) launch i.number + n) →
              (i l : ℕ) → i ≢ l → object_at kernel launch (item_at w i) r ≡ object_at kernel launch (item_at w l) r → ⊥
          differ n lt is i l ne e = privates_differ kernel launch (chunk.group * group_size launch +
              (chunk.first + i)) (chunk.group * group_size launch + (chunk.first + l)) n n
              (λ h. ne (omega (arith, h))) lt lt (sym (object_is n is i) ∙ e ∙ object_is n is l)

          with_put : ((l : ℕ) → IsLane chunk.lanes l → a l ≡ true → (xs : List ℕ)
              → overwritten xs (first_byte (length (bytes_of_value element (atom_value (item_at w l).cells from)))
              (atom_value (item_at w l).cells index))
              (bytes_of_value element (atom_value (item_at w l).cells from))
              ≡ put_element (size_of element) xs (value_at st.registers ireg l) (stored_at element st.registers freg l))
              → (l : ℕ) → IsLane chunk.lanes l → (xs : List ℕ) → (x : Test) → a l ≡ x
              →
              cond (a l) (overwritten xs (first_byte
              (length (bytes_of_value element (atom_value (item_at w l).cells from)))
              (atom_value (item_at w l).cells index))
              (bytes_of_value element (atom_value (item_at w l).cells from))) xs
              ≡ cond (a l) (put_element (size_of element) xs (value_at st.registers ireg l)
              (stored_at element st.registers freg l)) xs
          with_put put l lane xs true e = ap (λ ys. cond (a l) ys xs) (put l lane e xs)
          with_put put l lane xs false e = cond_unset (a l) _ xs e ∙ sym (cond_unset (a l) _ xs e)

      by : (o : Reached) → IsObject kernel launch chunk.group r o →
          reached (length (local_arrays (shell_of kernel))) launch (root_at f.arrays r) ≡ o → Good (EndFrom t p st)
      by _ (a_buffer b lt is) e =
          shared b (slice_index_or st.buffers b []) _ _ (ap (store_at mine st site element ireg freg (mask_reg m)) e)
          (λ l lane. is (item_at w l)) (lanes.sim.mirrors.same_buffers b lt)
          (λ after there same. buffer_mirrored kernel launch chunk.group chunk.within w.memory after st
          lanes.sim.mirrors lanes.sim.rows b (scattered (size_of element) (slice_index_or st.buffers b [])
          active places values) lt there same)
      by _ (a_table n lt is) e = absurd (store_no_table kernel launch ground.fits chunk.group r element n can
          (ap (λ x. reached (length (local_arrays (shell_of kernel))) launch (root_at x r)) (sym arrays_are) ∙ e))
      by _ (a_local n lt is) e =
          shared (Rattle.cl_model.specs.Objects.first_local (shell_of kernel) launch chunk.group + n)
          (slice_index_or st.group.locals n []) _ _ (ap (store_at mine st site element ireg freg (mask_reg m)) e)
          (λ l lane. is (item_at w l) (in_group kernel launch width chunk turns w0 g0 f counts r0 ground atoms framed
          code valid Good Sites Goal closed arrays_are l (item_at w l) lane (good l)))
          (lanes.sim.mirrors.locals n lt)
          (λ after there same. local_mirrored kernel launch chunk.group chunk.within w.memory after st
          lanes.sim.mirrors lanes.sim.rows n (scattered (size_of element) (slice_index_or st.group.locals n [])
          active places values) lt there same)
      by _ (an_own n lt is) e = own n lt is (ap (store_at mine st site element ireg freg (mask_reg m)) e)
