-- The code of a load does what the items of its active lanes do: each loads its element, or the lowest that is out of
-- range is shown.
use Rattle.std.proofs.Common.{◌≡◌, ℕ, zero, suc, ◌+◌, ◌*◌, ◌^◌, ◌<◌, ◌≤◌, ℤ, pos, negsuc, List, [], ◌∷◌, length, take}
use Rattle.std.proofs.Common.{drop, Option, Some, None, refl, sym, ap, ◌∙◌, subst, arith, cond, mod-eq_of_lt}
use Rattle.std.specs.Prelude.{slice_get, slice_index_or, nat_eq, nat_lt, nat_le, ◌&&◌, ◌||◌, not}
use Rattle.std.specs.Prelude.{Bool as Test, true, false}
use Rattle.std.specs.Simd.Lanes.{number_l}
use Rattle.std.proofs.lemmas.Int.{ints}
use Rattle.std.proofs.lemmas.Bool.{true≢false, and_parts, or_left, or_right, eqb-true, eqb-false, eq-eqb}
use Rattle.std.proofs.lemmas.Bool.{ne_eqb, lt-ltb, le-ltb, ltb-true}
use Rattle.std.proofs.lemmas.Option.{same_Some}
use Rattle.std.proofs.lemmas.Simd.{get_or-zip2, length-zip2}
use Rattle.work_items.specs.Memory.{bytes_of, first_byte, has_element, is_in_range, loaded as loaded_bytes}
use Rattle.work_items.specs.Items.{fault_of}
use Rattle.wg_num.specs.declared.types.IntType.{IntType}
use Rattle.wg_num.specs.declared.types.IntType.TheVariants as types
use Rattle.wg_num.specs.Wrap.{IsValue, half, modulus, value_of}
use Rattle.wg_num.specs.Bytes.{size_of, value_of_bytes}
use Rattle.lane_values.specs.Lanes.{lane as lane_bits}
use Rattle.lane_values.specs.Access.{is_within, is_fault, faults, lane_from, gathered}
use Rattle.cl_model.specs.declared.program.Root.{Root}
use Rattle.cl_model.specs.Objects.{local_arrays, first_private}
use Rattle.cl_model.specs.Sizes.{Launch, group_size, group_of}
use Rattle.kir.specs.declared.line.Atom.{Atom}
use Rattle.kir.specs.Tree.{Lines, NoLine, LoadThen, Kernel}
use Rattle.kir.specs.Places.{Behind, Place, Tasks, LinesAt}
use Rattle.kir.specs.Live.{reads, some_reads, live_now}
use Rattle.kir.specs.Fits.{is_site, can_load, has_type, atom_type, cell_takes}
use Rattle.kir.specs.Steps.{shell_of, Item, with_cell, atom_value, object_at, access_at, tasks_next}
use Rattle.kir.specs.Meaning.{machine_of}
use Rattle.kir.proofs.CellTypes.{has_type_is}
use Rattle.kir.proofs.CellTypes.{atom_typed}
use Rattle.lane_code.specs.declared.step.Step.{Step}
use Rattle.lane_code.specs.declared.step.Step.TheVariants as step
use Rattle.lane_code.specs.declared.step.Reg.{Reg}
use Rattle.lane_code.specs.declared.code.Counts.{Counts}
use Rattle.lane_code.specs.declared.end.RegionEnd.TheVariants as end
use Rattle.lane_code.specs.Registers.{Registers, bits_in, lanes_of, mask_of, lowest}
use Rattle.lane_code.specs.Fits.{bank_of, is_below, is_code}
use Rattle.lane_code.specs.Groups.{Group, window, Reached, Own, reached, own_faults, own_loaded}
use Rattle.lane_code.specs.Acts.{State, act, loads, load_at, with_registers}
use Rattle.lane_code.specs.Meaning.{Ended}
use Rattle.lane_laws.specs.Reading.{mask_at}
use Rattle.lane_laws.proofs.Reading.{window_read, window_length, lowest_is, none_lowest}
use Rattle.lane_laws.proofs.Steps.{halt_step}
use Rattle.group_moves.specs.Stages.{Stage}
use Rattle.group_moves.specs.Lanes.{IsLane, Does, stays, loads as does_load}
use Rattle.kir_moves.specs.Leads.{past_load}
use Rattle.kir_moves.proofs.Live.{live_leads, reads_live}
use Rattle.mask_lower.specs.declared.registers.Free.{Free}
use Rattle.mask_lower.specs.declared.registers.Operand.{Operand}
use Rattle.mask_lower.specs.Banks.{mask_reg}
use Rattle.mask_lower.specs.Layout.{kernel_chunk}
use Rattle.mask_lower.specs.Following.{ChunkOf}
use Rattle.mask_lower.specs.Registers.{Frame, places_from, cell_at, operand, root_at}
use Rattle.mask_lower_correct.specs.View.{value_at, is_lane, Wrote}
use Rattle.mask_lower_correct.specs.Framed.{IsFramed}
use Rattle.mask_lower_correct.specs.Sim.{Ground, IsGood, Agrees, Sim, Closed}
use Rattle.mask_lower_correct.proofs.LaneValues.{lane_in}
use Rattle.mask_lower_correct.proofs.View.{code_well, lanes_length, mask_length}
use Rattle.mask_lower_correct.proofs.Standing.{cond_set, cond_unset, sim_move}
use Rattle.mask_lower_correct.proofs.Atoms.{operand_is, cell_entry, entry_type, entry_bank, entry_lane, cell_above}
use Rattle.mask_lower_correct.proofs.Atoms.{writes_step}
use Rattle.mask_lower_correct.proofs.Objects.{IsObject, a_buffer, a_table, a_local, an_own, group_there, load_reaches}
use Rattle.mask_lower_correct.proofs.Soundness.{Lanes, Fit, Accesses}

-- ---- elements

pub lane_small : (i : ℕ) → i < 2 ^ 64 → lane_bits 64 (pos i) ≡ i
unfolding lane_bits
lane_small i lt = mod-eq_of_lt lt

lane_negative : (n : ℕ) → n < 2 ^ 63 → 2 ^ 63 ≤ lane_bits 64 (negsuc n)
unfolding lane_bits
lane_negative n lt = let e = mod-eq_of_lt {n = n} {m = 2 ^ 64} (omega arith) in omega (arith, e)

pub long_high : (i : ℕ) → IsValue types.Long (pos i) → i < 2 ^ 63
unfolding half modulus
long_high i v = omega (arith, ints, v.high)

long_low : (n : ℕ) → IsValue types.Long (negsuc n) → n < 2 ^ 63
unfolding half modulus
long_low n v = omega (arith, ints, v.low)

-- an index that is read from a wide lane is in range where the item's is
pub within_is : (size len : ℕ) (z : ℤ) → IsValue types.Long z →
    is_within size len (lane_bits 64 z) ≡ has_element len size z
within_is size len (pos i) v =
    let lt = long_high i v in
    ap (λ k. nat_lt k (2 ^ 63) && nat_le ((k + 1) * size) len) (lane_small i (omega arith)) ∙
    ap (λ b. b && nat_le ((i + 1) * size) len) (lt-ltb i (2 ^ 63) lt)
within_is size len (negsuc n) v =
    let lt = long_low n v in
    ap (λ b. b && nat_le ((lane_bits 64 (negsuc n) + 1) * size) len)
    (le-ltb (lane_bits 64 (negsuc n)) (2 ^ 63) (lane_negative n lt))

-- and names the same bytes
pub first_is : (size len : ℕ) (z : ℤ) → IsValue types.Long z → has_element len size z ≡ true →
    lane_bits 64 z * size ≡ first_byte size z
first_is size len (pos i) v e = let lt = long_high i v in ap (λ k. k * size) (lane_small i (omega arith))
first_is size len (negsuc n) v e = absurd (true≢false (sym e))

-- ---- objects of the lanes' own

pub own_faults_read : (size : ℕ) (mask : List Test) (index : List ℕ) (objects : List (List ℕ)) (l : ℕ) →
    l < length mask → l < length index → l < length objects
    → slice_index_or (own_faults size mask index objects) l false ≡
    is_fault size (length (slice_index_or objects l [])) (slice_index_or mask l false) (slice_index_or index l 0)
own_faults_read size [] index objects l a b c = absurd (omega arith)
own_faults_read size (on ∷ mask) [] objects l a b c = absurd (omega arith)
own_faults_read size (on ∷ mask) (i ∷ index) [] l a b c = absurd (omega arith)
own_faults_read size (on ∷ mask) (i ∷ index) (bytes ∷ objects) zero a b c = refl
own_faults_read size (on ∷ mask) (i ∷ index) (bytes ∷ objects) (suc l) a b c =
    own_faults_read size mask index objects l (omega arith) (omega arith) (omega arith)

pub own_faults_length : (size : ℕ) (mask : List Test) (index : List ℕ) (objects : List (List ℕ)) →
    length mask ≡ length index → length mask ≡ length objects →
    length (own_faults size mask index objects) ≡ length mask
own_faults_length size [] index objects a b = refl
own_faults_length size (on ∷ mask) [] objects a b = absurd (omega arith)
own_faults_length size (on ∷ mask) (i ∷ index) [] a b = absurd (omega arith)
own_faults_length size (on ∷ mask) (i ∷ index) (bytes ∷ objects) a b =
    ap suc (own_faults_length size mask index objects (omega arith) (omega arith))

own_loaded_read : (bits : ℕ) (t : IntType) (mask : List Test) (index : List ℕ) (objects : List (List ℕ)) (l : ℕ) →
    l < length mask → l < length index → l < length objects
    → slice_index_or (own_loaded bits t mask index objects) l 0 ≡ lane_from bits t (slice_index_or objects l [])
    (slice_index_or mask l false) (slice_index_or index l 0)
own_loaded_read bits t [] index objects l a b c = absurd (omega arith)
own_loaded_read bits t (on ∷ mask) [] objects l a b c = absurd (omega arith)
own_loaded_read bits t (on ∷ mask) (i ∷ index) [] l a b c = absurd (omega arith)
own_loaded_read bits t (on ∷ mask) (i ∷ index) (bytes ∷ objects) zero a b c = refl
own_loaded_read bits t (on ∷ mask) (i ∷ index) (bytes ∷ objects) (suc l) a b c =
    own_loaded_read bits t mask index objects l (omega arith) (omega arith) (omega arith)

own_loaded_length : (bits : ℕ) (t : IntType) (mask : List Test) (index : List ℕ) (objects : List (List ℕ)) →
    length mask ≡ length index → length mask ≡ length objects →
    length (own_loaded bits t mask index objects) ≡ length mask
own_loaded_length bits t [] index objects a b = refl
own_loaded_length bits t (on ∷ mask) [] objects a b = absurd (omega arith)
own_loaded_length bits t (on ∷ mask) (i ∷ index) [] a b = absurd (omega arith)
own_loaded_length bits t (on ∷ mask) (i ∷ index) (bytes ∷ objects) a b =
    ap suc (own_loaded_length bits t mask index objects (omega arith) (omega arith))

module _ (kernel : Kernel) (launch : Launch) (width : ℕ) (chunk : ChunkOf kernel launch width) (turns : ℕ)
    (w0 : Stage Item) (g0 : Group) (f : Frame) (counts : Counts) (r0 : Registers) (ground : Ground kernel launch w0)
    (atoms : List Atom) (framed : IsFramed kernel f atoms) (code : List Step) (valid : is_code counts code ≡ true)
    (Good : Ended → Type 0) (Sites : ℕ →
    Type 0) (Goal : Tasks) (closed : Closed kernel launch width chunk turns w0 Sites Goal Good)
    (arrays_are : f.arrays ≡ places_from 0 0 kernel.arrays) where
  abbrev AtStage : ℕ → (ℕ → Tasks) → State → Stage Item → Type 0
  AtStage = Sim kernel launch width chunk turns w0 g0 f counts r0

  abbrev Standing : ℕ → ℕ → (ℕ → Test) → (ℕ → Tasks) → Tasks → State → Stage Item → Type 0
  Standing =
      Lanes kernel launch width chunk turns w0 g0 f counts r0 ground atoms framed code valid Good Sites Goal closed

  abbrev IsFit : Lines → Free → Type 0
  IsFit = Fit kernel launch width chunk turns w0 g0 f counts r0 ground atoms framed code valid Good Sites Goal closed

  abbrev EndFrom : ℕ → ℕ → State → Ended
  EndFrom t p st =
      Rattle.lane_code.specs.Meaning.code_end (kernel_chunk kernel launch width chunk.group chunk.first) code t p st

  lane_width : (l : ℕ) → IsLane chunk.lanes l → l < width
  lane_width l lane = let e = chunk.is_chunk.width_is in let lt = lane.0 in omega arith

  -- an item of a lane is one of the group
  pub lane_item : (l : ℕ) → IsLane chunk.lanes l → chunk.first + l < group_size launch
  lane_item l lane = ltb-true (chunk.first + l) (group_size launch) (sym (chunk.is_chunk.alive_is l) ∙ lane.1)

  pub number_is : (l : ℕ) (s : Item) → IsGood kernel (chunk.lanes.first + l) s →
      s.number ≡ chunk.group * group_size launch + (chunk.first + l)
  number_is l s good = let e = good.numbered in let first = chunk.is_chunk.first_is in omega arith

  pub in_group : (l : ℕ) (s : Item) → IsLane chunk.lanes l → IsGood kernel (chunk.lanes.first + l) s →
      group_of launch s.number ≡ chunk.group
  in_group l s lane good =
      ap (group_of launch) (number_is l s good) ∙ group_there launch chunk.group (chunk.first + l) (lane_item l lane)

  -- a load, where these are the bytes of each lane's object
  load_common : (site to : ℕ) (element : IntType) (r : Root) (index : Atom) (m p t : ℕ) (next : Free) (a : ℕ →
      Test) (T : ℕ → Tasks) (at : Place) (rest : Lines) (k : Tasks) (st : State) (w : Stage Item)
      → slice_get code p ≡ Some (step.Load site element (root_at f.arrays r) (operand f.cells next index).at
      (cell_at f.cells to).at (mask_reg m)) → IsFit (LoadThen site to element r index NoLine) next
      → Standing m t a T (LinesAt at (LoadThen site to element r index rest) k) st w
      → (B : ℕ → List ℕ) (fs : List Test) (vs : List ℕ)
      → act (kernel_chunk kernel launch width chunk.group chunk.first)
      (step.Load site element (root_at f.arrays r) (operand f.cells next index).at (cell_at f.cells to).at
      (mask_reg m)) st ≡ loads st site (cell_at f.cells to).at (mask_reg m) (lowest fs) vs
      → length fs ≡ width → length vs ≡ width
      → ((l : ℕ) → l < width → slice_index_or fs l false ≡ is_fault (size_of element) (length (B l))
      (mask_at st.registers m l) (value_at st.registers (operand f.cells next index).at l))
      → ((l : ℕ) → l < width → slice_index_or vs l 0 ≡ lane_from (bits_in (cell_at f.cells to).at.bank) element (B l)
      (mask_at st.registers m l) (value_at st.registers (operand f.cells next index).at l))
      → ((l : ℕ) → IsLane chunk.lanes l → (s : Item) → IsGood kernel (chunk.lanes.first + l) s →
      bytes_of w.memory (object_at kernel launch s r) ≡ B l)
      → ((st' : State) (w' : Stage Item) → AtStage t (λ l. cond (a l) (LinesAt (Behind ∷ at) rest k) (T l)) st' w' →
      st'.registers.masks ≡ st.registers.masks → Good (EndFrom t (p + 1) st')) → Good (EndFrom t p st)
  load_common site to element r index m p t next a T at rest k st w has fit lanes B fs vs does flen vlen fread vread
      bytes go = by (lowest fs) refl does
    where
      mine : Rattle.lane_code.specs.Acts.Chunk
      mine = kernel_chunk kernel launch width chunk.group chunk.first

      toreg : Reg
      toreg = (cell_at f.cells to).at

      ireg : Reg
      ireg = (operand f.cells next index).at

      s : Step
      s = step.Load site element (root_at f.arrays r) ireg toreg (mask_reg m)

      before : Tasks
      before = LinesAt at (LoadThen site to element r index rest) k

      after : Tasks
      after = LinesAt (Behind ∷ at) rest k

      f1 : (is_site kernel site && can_load kernel r element && has_type types.Long (atom_type kernel index) ≡ true) ×
          (cell_takes kernel to (Some element) ≡ true)
      f1 = and_parts (is_site kernel site && can_load kernel r element &&
          has_type types.Long (atom_type kernel index)) (cell_takes kernel to (Some element))
          (and_parts (is_site kernel site && can_load kernel r element &&
          has_type types.Long (atom_type kernel index) && cell_takes kernel to (Some element)) true fit.fits).0

      f2 : (is_site kernel site && can_load kernel r element ≡ true) ×
          (has_type types.Long (atom_type kernel index) ≡ true)
      f2 = and_parts (is_site kernel site && can_load kernel r element) (has_type types.Long (atom_type kernel index))
          f1.0

      type_i : atom_type kernel index ≡ Some types.Long
      type_i = has_type_is types.Long (atom_type kernel index) f2.1

      type_to : Rattle.kir.specs.Fits.type_of_cell (slice_get kernel.cells to) ≡ Some element
      type_to = has_type_is element _ f1.1

      to_named : some_reads to atoms ≡ true
      to_named = fit.names to (or_left (nat_eq to to) _ (eq-eqb to to refl))

      entry : slice_index_or f.cells to None ≡ Some (cell_at f.cells to)
      entry = cell_entry kernel width f atoms counts r0 framed to element type_to to_named

      to_of : (cell_at f.cells to).of ≡ element
      to_of = entry_type kernel width f atoms counts r0 framed to element type_to to_named

      to_bank : toreg.bank ≡ bank_of element
      to_bank = entry_bank kernel width f atoms counts r0 framed to element type_to to_named

      index_lane : (l : ℕ) (i : Item) → l < width → Agrees f st.registers l before i.cells →
          value_at st.registers ireg l ≡ lane_bits 64 (atom_value i.cells index)
      index_lane l i lt ag =
          (operand_is kernel width f atoms counts r0 framed next index types.Long st.registers type_i
          (λ c e. fit.names c (or_right (nat_eq c to) (reads c index || false)
          (or_left (reads c index) false e))) fit.held.1.0 lanes.sim.above).holds l i.cells lt
          (λ c op e rd. ag c op e (reads_live c before rd))

      -- whether a lane's item is in range
      range_is : (l : ℕ) → IsLane chunk.lanes l → (i : Item) → IsGood kernel (chunk.lanes.first + l) i →
          Agrees f st.registers l before i.cells
          → is_within (size_of element) (length (B l)) (value_at st.registers ireg l) ≡
          is_in_range w.memory (access_at kernel launch i element r (atom_value i.cells index))
      range_is l lane i good ag =
          ap (is_within (size_of element) (length (B l))) (index_lane l i (lane_width l lane) ag)
          ∙ within_is (size_of element) (length (B l)) (atom_value i.cells index)
          (atom_typed kernel i.cells index types.Long good.typed type_i)
          ∙ ap (λ (bs : List ℕ). has_element (length bs) (size_of element) (atom_value i.cells index))
          (sym (bytes l lane i good))

      by : (o : Option ℕ) → lowest fs ≡ o → act mine s st ≡ loads st site toreg (mask_reg m) o vs →
          Good (EndFrom t p st)
      by (Some l) e is =
          let low = lowest_is fs l e in
          let within : l < width = let lt = low.within in omega arith in
          let fault = and_parts (mask_at st.registers m l)
          (not (is_within (size_of element) (length (B l)) (value_at st.registers ireg l)))
          (sym (fread l within) ∙ low.set) in
          let set : a l ≡ true = sym (lanes.mask l within) ∙ fault.0 in
          let lane : IsLane chunk.lanes l = ((let wi = chunk.is_chunk.width_is in omega arith), lanes.alive l set) in
          let i = w.items (chunk.lanes.first + l) in
          let good =
          Rattle.mask_lower_correct.proofs.Standing.good_there kernel launch width chunk turns w0 g0 f counts r0 ground
          w lanes.sim.reached (chunk.lanes.first + l) in
          let stands = lanes.sim.stand l lane in
          let tasks : i.tasks ≡ before = stands.0 ∙ lanes.stand l lane set in
          let ag : Agrees f st.registers l before i.cells =
          λ c op h live. stands.1 c op h (ap (live_now c) (lanes.stand l lane set) ∙ live) in
          let out : is_in_range w.memory (access_at kernel launch i element r (atom_value i.cells index)) ≡ false =
          sym (range_is l lane i good ag) ∙ Rattle.std.proofs.lemmas.Bool.not-true _ fault.1 in
          halt_step mine code Good t p s st st (end.Range l site) has is
          (closed.faults w lanes.sim.reached l site lane
          (ap (λ n. fault_of w.memory n) (ap (tasks_next kernel launch i) tasks) ∙
          ap (λ b. cond b None (Some site)) out) t st)
      by None e is =
          let w1 = and_parts (is_below counts ireg && is_below counts toreg) (is_below counts (mask_reg m))
          (code_well counts code p s valid has) in
          let w2 = and_parts (is_below counts ireg) (is_below counts toreg) w1.0 in
          writes_step kernel width f atoms counts r0 framed mine code Good t p m s st toreg vs has is lanes.sim.shape
          (entry_lane kernel width f atoms counts r0 framed to (cell_at f.cells to) entry) w2.1 w1.1 vlen
          (λ regs wrote.
          let st1 = with_registers st regs in
          let moved = sim_move kernel launch width chunk turns w0 g0 f counts r0 ground t T
          (λ l. cond (a l) after (T l)) st st1 w (λ l. false) (record { group = refl; buffers = refl }) wrote.shape
          (cell_above kernel width f atoms counts r0 framed st.registers to (cell_at f.cells to) _ _ regs entry wrote)
          (λ l lane i good h ag. lane_loads e regs wrote l lane i good h ag (a l) refl)
          (λ l h. absurd (true≢false (sym h))) lanes.sim in
          go st1 moved.0 moved.1 wrote.masks)
        where
          -- what a lane's register has got
          got : lowest fs ≡ None → (regs : Registers) →
              Wrote counts width st.registers toreg (λ l. mask_at st.registers m l) (λ l. slice_index_or vs l 0)
              regs → (l : ℕ) → IsLane chunk.lanes l → a l ≡ true → (i : Item) →
              IsGood kernel (chunk.lanes.first + l) i → Agrees f st.registers l before i.cells
              → (is_in_range w.memory (access_at kernel launch i element r (atom_value i.cells index)) ≡ true)
              × (value_at regs toreg l ≡ lane_in element
              (value_of_bytes element (loaded_bytes w.memory
              (access_at kernel launch i element r (atom_value i.cells index)))))
          got e regs wrote l lane set i good ag =
              let lt = lane_width l lane in
              let on : mask_at st.registers m l ≡ true = lanes.mask l lt ∙ set in
              let calm : is_fault (size_of element) (length (B l)) true (value_at st.registers ireg l) ≡ false =
              ap (λ b. is_fault (size_of element) (length (B l)) b (value_at st.registers ireg l)) (sym on) ∙
              sym (fread l lt) ∙ none_lowest fs e l in
              let within : is_within (size_of element) (length (B l)) (value_at st.registers ireg l) ≡ true =
              Rattle.std.proofs.lemmas.Bool.not-false _ calm in
              let fits = sym (range_is l lane i good ag) ∙ within in
              let z = atom_value i.cells index in
              let ix = index_lane l i lt ag in
              let typed = atom_typed kernel i.cells index types.Long good.typed type_i in
              let there : has_element (length (B l)) (size_of element) z ≡ true =
              ap (λ (bs : List ℕ). has_element (length bs) (size_of element) z) (sym (bytes l lane i good)) ∙
              fits in
              let place : value_at st.registers ireg l * size_of element ≡ first_byte (size_of element) z =
              ap (λ n. n * size_of element) ix ∙ first_is (size_of element) (length (B l)) z typed there in (
                fits,
                wrote.here l lt on ∙ vread l lt ∙
                    ap (λ b. lane_from (bits_in toreg.bank) element (B l) b (value_at st.registers ireg l)) on
                    ∙ ap (λ n. lane_bits (bits_in toreg.bank)
                    (value_of element (number_l 256 (take (size_of element) (drop n (B l)))))) place
                    ∙ ap (λ (bs : List ℕ). lane_bits (bits_in toreg.bank)
                    (value_of element (number_l 256
                    (take (size_of element) (drop (first_byte (size_of element) z) bs)))))
                    (sym (bytes l lane i good))
                    ∙ ap (λ b. lane_bits (bits_in b)
                    (value_of_bytes element (loaded_bytes w.memory (access_at kernel launch i element r z))))
                    to_bank,
              )

          lane_loads : lowest fs ≡ None → (regs : Registers) →
              Wrote counts width st.registers toreg (λ l. mask_at st.registers m l) (λ l. slice_index_or vs l 0)
              regs → (l : ℕ) → IsLane chunk.lanes l → (i : Item) → IsGood kernel (chunk.lanes.first + l) i →
              i.tasks ≡ T l → Agrees f st.registers l (T l) i.cells
              → (x : Test) → a l ≡ x → Does (machine_of kernel launch) w.memory i
              (λ i'. (i'.tasks ≡ cond (a l) after (T l)) × Agrees f regs l (cond (a l) after (T l)) i'.cells)
              w.memory false
          lane_loads e regs wrote l lane i good h ag false unset =
              stays (
                h ∙ sym (cond_unset (a l) after (T l) unset),
                λ c op at_c live. wrote.idle op.at l (lane_width l lane)
                    (entry_lane kernel width f atoms counts r0 framed c op at_c) (lanes.mask l (lane_width l lane) ∙
                    unset) ∙ ag c op at_c (ap (live_now c) (sym (cond_unset (a l) after (T l) unset)) ∙ live),
              )
          lane_loads e regs wrote l lane i good h ag true set =
              let stand = lanes.stand l lane set in
              let ag' : Agrees f st.registers l before i.cells =
              λ c op at_c live. ag c op at_c (ap (live_now c) stand ∙ live) in
              let g = got e regs wrote l lane set i good ag' in
              does_load site (access_at kernel launch i element r (atom_value i.cells index))
              (λ bs. with_cell i after to (value_of_bytes element bs)) (ap (tasks_next kernel launch i) (h ∙
              stand)) g.0 (
                sym (cond_set (a l) after (T l) set),
                λ c op at_c live. set_cell regs wrote l (lane_width l lane) i ag'
                    (value_of_bytes element (loaded_bytes w.memory
                    (access_at kernel launch i element r (atom_value i.cells index)))) g.1 c op at_c
                    (ap (live_now c) (sym (cond_set (a l) after (T l) set)) ∙ live),
              )
            where
              set_cell : (regs : Registers) →
                  Wrote counts width st.registers toreg (λ l. mask_at st.registers m l) (λ l. slice_index_or vs l 0)
                  regs → (l : ℕ) → l < width → (i : Item) → Agrees f st.registers l before i.cells
                  → (v : ℤ) → value_at regs toreg l ≡ lane_in element v → (c : ℕ) (op : Operand) →
                  slice_index_or f.cells c None ≡ Some op → live_now c after ≡ true →
                  value_at regs op.at l ≡ lane_in op.of (cond (nat_eq to c) v (i.cells c))
              set_cell regs wrote l lt i ag v is c op at_c live = go_by (nat_eq to c) refl
                where
                  go_by : (b : Test) → nat_eq to c ≡ b → value_at regs op.at l ≡ lane_in op.of (cond b v (i.cells c))
                  go_by true same =
                      let same_cell : to ≡ c = eqb-true to c same in
                      let is_op : cell_at f.cells to ≡ op =
                      same_Some _ _ (sym entry ∙ ap (λ n. slice_index_or f.cells n None) same_cell ∙ at_c) in
                      subst (λ (o : Operand). value_at regs o.at l ≡ lane_in o.of v) is_op (is ∙
                      ap (λ u. lane_in u v) (sym to_of))
                  go_by false ne =
                      let apart : c ≡ to → ⊥ = λ h. eqb-false to c ne (sym h) in
                      wrote.there op.at l lt (entry_lane kernel width f atoms counts r0 framed c op at_c)
                      (framed.apart c to op (cell_at f.cells to) apart at_c entry)
                      ∙ ag c op at_c (live_leads c before after past_load (ne_eqb c to apart) live)

  -- so a load does, whatever its root names
  pub load_runs : (site to : ℕ) (element : IntType) (r : Root) (index : Atom) →
      Accesses kernel launch width chunk turns w0 g0 f counts r0 ground atoms framed code valid Good Sites Goal closed
      (LoadThen site to element r index)
      (λ next m. step.Load site element (root_at f.arrays r) (operand f.cells next index).at (cell_at f.cells to).at
      (mask_reg m))
  load_runs site to element r index m p t next a T at rest k st w has fit lanes go =
      by (reached (length (local_arrays (shell_of kernel))) launch (root_at f.arrays r))
      (subst (λ x. IsObject kernel launch chunk.group r (reached (length (local_arrays (shell_of kernel))) launch
      (root_at x r))) (sym arrays_are) (load_reaches kernel launch ground.fits chunk.group r element can))
      refl
    where
      mine : Rattle.lane_code.specs.Acts.Chunk
      mine = kernel_chunk kernel launch width chunk.group chunk.first

      toreg : Reg
      toreg = (cell_at f.cells to).at

      ireg : Reg
      ireg = (operand f.cells next index).at

      s : Step
      s = step.Load site element (root_at f.arrays r) ireg toreg (mask_reg m)

      f1 : (is_site kernel site && can_load kernel r element && has_type types.Long (atom_type kernel index) ≡ true) ×
          (cell_takes kernel to (Some element) ≡ true)
      f1 = and_parts (is_site kernel site && can_load kernel r element &&
          has_type types.Long (atom_type kernel index)) (cell_takes kernel to (Some element))
          (and_parts (is_site kernel site && can_load kernel r element &&
          has_type types.Long (atom_type kernel index) && cell_takes kernel to (Some element)) true fit.fits).0

      f2 : (is_site kernel site && can_load kernel r element ≡ true) ×
          (has_type types.Long (atom_type kernel index) ≡ true)
      f2 = and_parts (is_site kernel site && can_load kernel r element) (has_type types.Long (atom_type kernel index))
          f1.0

      can : can_load kernel r element ≡ true
      can = (and_parts (is_site kernel site) (can_load kernel r element) f2.0).1

      active : List Test
      active = mask_of st.registers (mask_reg m)

      places : List ℕ
      places = lanes_of st.registers ireg

      wells : (is_below counts ireg && is_below counts toreg ≡ true) × (is_below counts (mask_reg m) ≡ true)
      wells = and_parts (is_below counts ireg && is_below counts toreg) (is_below counts (mask_reg m))
          (code_well counts code p s valid has)

      active_length : length active ≡ width
      active_length = mask_length counts width st.registers lanes.sim.shape m wells.1

      places_length : length places ≡ width
      places_length =
          let bank = (operand_is kernel width f atoms counts r0 framed next index types.Long st.registers
          (has_type_is types.Long (atom_type kernel index) f2.1)
          (λ c e. fit.names c (or_right (nat_eq c to) (reads c index || false)
          (or_left (reads c index) false e))) fit.held.1.0 lanes.sim.above).bank in
          lanes_length counts width st.registers lanes.sim.shape ireg (ap is_lane bank)
          (and_parts (is_below counts ireg) (is_below counts toreg) wells.0).0

      -- one object for all lanes
      shared : (bytes : List ℕ) → act mine s st ≡
          loads st site toreg (mask_reg m) (lowest (faults (size_of element) (length bytes) active places))
          (gathered (bits_in toreg.bank) element bytes active places)
          → ((l : ℕ) → IsLane chunk.lanes l → (i : Item) → IsGood kernel (chunk.lanes.first + l) i →
          bytes_of w.memory (object_at kernel launch i r) ≡ bytes) → Good (EndFrom t p st)
      shared bytes does is =
          let flen = length-zip2 (is_fault (size_of element) (length bytes)) active places (active_length ∙
          sym places_length) ∙ active_length in
          let vlen = length-zip2 (lane_from (bits_in toreg.bank) element bytes) active places (active_length ∙
          sym places_length) ∙ active_length in
          load_common site to element r index m p t next a T at rest k st w has fit lanes (λ l. bytes)
          (faults (size_of element) (length bytes) active places)
          (gathered (bits_in toreg.bank) element bytes active places) does flen vlen
          (λ l lt. get_or-zip2 (is_fault (size_of element) (length bytes)) active places l false 0 false
          (let h = active_length in omega arith) (let h = places_length in omega arith))
          (λ l lt. get_or-zip2 (lane_from (bits_in toreg.bank) element bytes) active places l false 0 0
          (let h = active_length in omega arith) (let h = places_length in omega arith))
          is go

      -- one of its own for each lane
      own : (n : ℕ) → n < length (Rattle.cl_model.specs.Objects.private_sizes (shell_of kernel)) →
          ((i : Item) → object_at kernel launch i r ≡ first_private (shell_of kernel) launch i.number + n) →
          act mine s st ≡ load_at mine st site element ireg toreg (mask_reg m) (Own n) → Good (EndFrom t p st)
      own n lt is does =
          let rows = slice_index_or st.group.privates n [] in
          let objects = window [] rows chunk.first width in
          let olen = window_length [] rows chunk.first width in
          let flen = own_faults_length (size_of element) active places objects (active_length ∙
          sym places_length) (active_length ∙ sym olen) ∙ active_length in
          let vlen = own_loaded_length (bits_in toreg.bank) element active places objects (active_length ∙
          sym places_length) (active_length ∙ sym olen) ∙ active_length in
          load_common site to element r index m p t next a T at rest k st w has fit lanes
          (λ l. slice_index_or rows (chunk.first + l) []) (own_faults (size_of element) active places objects)
          (own_loaded (bits_in toreg.bank) element active places objects) does flen vlen
          (λ l ltl. own_faults_read (size_of element) active places objects l (let h = active_length in
          omega arith) (let h = places_length in omega arith) (let h = olen in omega arith)
          ∙ ap (λ (bs : List ℕ). is_fault (size_of element) (length bs) (mask_at st.registers m l)
          (value_at st.registers ireg l)) (window_read [] rows chunk.first width l [] ltl))
          (λ l ltl. own_loaded_read (bits_in toreg.bank) element active places objects l (let h = active_length in
          omega arith) (let h = places_length in omega arith) (let h = olen in omega arith)
          ∙ ap (λ (bs : List ℕ). lane_from (bits_in toreg.bank) element bs (mask_at st.registers m l)
          (value_at st.registers ireg l)) (window_read [] rows chunk.first width l [] ltl))
          (λ l lane i good.
          ap (bytes_of w.memory) (is i ∙ ap (λ x. first_private (shell_of kernel) launch x + n) (number_is l i good))
          ∙ lanes.sim.mirrors.privates n (chunk.first + l) lt (lane_item l lane))
          go

      by : (o : Reached) → IsObject kernel launch chunk.group r o →
          reached (length (local_arrays (shell_of kernel))) launch (root_at f.arrays r) ≡ o → Good (EndFrom t p st)
      by _ (a_buffer b lt is) e = shared (slice_index_or st.buffers b [])
          (ap (load_at mine st site element ireg toreg (mask_reg m)) e) (λ l lane i good.
          ap (bytes_of w.memory) (is i) ∙ lanes.sim.mirrors.same_buffers b lt)
      by _ (a_table n lt is) e = shared (slice_index_or mine.tables n [])
          (ap (load_at mine st site element ireg toreg (mask_reg m)) e) (λ l lane i good.
          ap (bytes_of w.memory) (is i) ∙ lanes.sim.mirrors.tables n lt)
      by _ (a_local n lt is) e = shared (slice_index_or st.group.locals n [])
          (ap (load_at mine st site element ireg toreg (mask_reg m)) e) (λ l lane i good.
          ap (bytes_of w.memory) (is i (in_group l i lane good)) ∙ lanes.sim.mirrors.locals n lt)
      by _ (an_own n lt is) e = own n lt is (ap (load_at mine st site element ireg toreg (mask_reg m)) e)
