-- The items of a chunk stand where its code does.
use Rattle.std.specs.Prelude.{◌≡◌, ℕ, ◌+◌, ◌<◌, ◌≤◌, ℤ, List, [], length, None, Some, slice_index_or, true}
use Rattle.work_items.specs.Items.{fault_of}
use Rattle.work_items.specs.Clean.{WaitsAt}
use Rattle.cl_model.specs.Sizes.{Launch, group_size}
use Rattle.cl_model.specs.Fitting.{FitsProgram, FitBuffers}
use Rattle.kir.specs.Tree.{Kernel}
use Rattle.kir.specs.Places.{Tasks}
use Rattle.kir.specs.Live.{live_now}
use Rattle.kir.specs.Fits.{lines_fit}
use Rattle.kir.specs.Steps.{shell_of, Item, item_next}
use Rattle.kir.specs.Meaning.{machine_of}
use Rattle.kir.specs.CellTypes.{HoldTypes}
use Rattle.lane_values.specs.Lanes.{lane}
use Rattle.lane_code.specs.declared.code.Counts.{Counts}
use Rattle.lane_code.specs.declared.step.Reg.{Reg}
use Rattle.lane_code.specs.declared.end.RegionEnd.TheVariants as end
use Rattle.lane_code.specs.Fits.{bank_of}
use Rattle.lane_code.specs.Registers.{Registers, bits_in}
use Rattle.lane_code.specs.Groups.{Group}
use Rattle.lane_code.specs.Acts.{State}
use Rattle.lane_code.specs.Meaning.{Ended}
use Rattle.group_moves.specs.Stages.{Stage}
use Rattle.group_moves.specs.Lanes.{IsLane, Reached}
use Rattle.kir_moves.specs.Leads.{StillComes}
use Rattle.kir_moves.specs.Stand.{start_stage, ItemsLead}
use Rattle.mask_lower.specs.declared.registers.Operand.{Operand}
use Rattle.mask_lower.specs.Layout.{HasSizes, Mirrors, OtherGroupsStay}
use Rattle.mask_lower.specs.Following.{ChunkOf}
use Rattle.mask_lower.specs.Registers.{Frame}
use Rattle.mask_lower_correct.specs.View.{value_at, is_lane, Shaped}
use Rattle.mask_lower_correct.specs.Framed.{number_in}

-- the stage is one that a launch of a valid kernel reaches
pub record Ground (kernel : Kernel) (launch : Launch) (w : Stage Item) : Type 0 where
  pub fits : FitsProgram (shell_of kernel) launch
  pub sizes : HasSizes launch
  pub valid : lines_fit kernel kernel.body ≡ true
  pub buffers : List (List ℕ)
  pub fit : FitBuffers launch buffers
  pub leads : ItemsLead kernel launch (start_stage kernel launch buffers) w

-- an item with its number, whose cells hold values of their types
pub record IsGood (kernel : Kernel) (number : ℕ) (i : Item) : Type 0 where
  pub numbered : i.number ≡ number
  pub typed : HoldTypes kernel i.cells

-- a lane's registers hold the values of the cells that are live there
abbrev pub Agrees : Frame → Registers → (l : ℕ) → Tasks → (ℕ → ℤ) → Type 0
Agrees f r l k cells =
    (c : ℕ) (op : Operand) → slice_index_or f.cells c None ≡ Some op → live_now c k ≡ true →
    value_at r op.at l ≡ lane (bits_in (bank_of op.of)) (cells c)

-- the registers above those for what is on its way are as they were
abbrev pub Above : Frame → (width : ℕ) → (before after : Registers) → Type 0
Above f width before after =
    (x : Reg) (l : ℕ) → l < width → is_lane x.bank ≡ true → number_in f.scratch x.bank < x.number →
    value_at after x l ≡ value_at before x l

-- columns, slots and votes are as they were
pub record SameGroup (before after : Group) : Type 0 where
  pub columns : after.columns ≡ before.columns
  pub entries : after.entries ≡ before.entries
  pub exits : after.exits ≡ before.exits
  pub votes : after.votes ≡ before.votes

-- the chunk's items have come from one stage to where the code is: what each of them has left to do is this, with so
-- many turns left to the code
pub record Sim (kernel : Kernel) (launch : Launch) (width : ℕ) (chunk : ChunkOf kernel launch width) (turns : ℕ)
    (w0 : Stage Item) (g0 : Group) (f : Frame) (counts : Counts) (r0 : Registers) (t : ℕ) (T : ℕ →
    Tasks) (st : State) (w : Stage Item) : Type 0 where
  pub reached : Reached (machine_of kernel launch) chunk.lanes w0 w
  pub mirrors : Mirrors kernel launch chunk.group w.memory st.group st.buffers
  pub others : OtherGroupsStay kernel launch chunk.group w0.memory w.memory
  pub group : SameGroup g0 st.group
  pub rows : (n : ℕ) → n < length st.group.privates → length (slice_index_or st.group.privates n []) ≡ group_size launch
  pub shape : Shaped counts width st.registers
  pub above : Above f width r0 st.registers
  pub stand : (l : ℕ) → IsLane chunk.lanes l → ((w.items (chunk.lanes.first + l)).tasks ≡ T l) ×
      Agrees f st.registers l (T l) (w.items (chunk.lanes.first + l)).cells
  pub budget : w0.begun + turns ≤ w.begun + t

-- what is said of ends is said of each end that comes before the lines are through
pub record Closed (kernel : Kernel) (launch : Launch) (width : ℕ) (chunk : ChunkOf kernel launch width) (turns : ℕ)
    (w0 : Stage Item) (sites : ℕ → Type 0) (goal : Tasks) (G : Ended → Type 0) : Type 0 where
  pub faults : (after : Stage Item) → Reached (machine_of kernel launch) chunk.lanes w0 after → (l site : ℕ) →
      IsLane chunk.lanes l
      → fault_of after.memory (item_next kernel launch (after.items (chunk.lanes.first + l))) ≡ Some site →
      (t : ℕ) (st : State) → G (record { end = end.Range l site; turns = t; state = st })
  pub waits : (after : Stage Item) → Reached (machine_of kernel launch) chunk.lanes w0 after → (l site : ℕ) →
      IsLane chunk.lanes l
      → WaitsAt site (item_next kernel launch (after.items (chunk.lanes.first + l))) → sites site →
      StillComes goal (after.items (chunk.lanes.first + l)).tasks → (t : ℕ) (st : State) →
      G (record { end = end.AtBarrier l site; turns = t; state = st })
  pub tires : (after : Stage Item) → Reached (machine_of kernel launch) chunk.lanes w0 after →
      w0.begun + turns < after.begun → (t : ℕ) (st : State) → G (record { end = end.Turns; turns = t; state = st })
