-- What the register of an atom holds, and a step that writes a cell's register or one for what is on its way.
use Rattle.std.proofs.Common.{◌≡◌, ℕ, ◌+◌, ◌<◌, ℤ, List, length, Option, Some, None, slice_get, refl, sym, ap, ◌∙◌}
use Rattle.std.proofs.Common.{subst, arith, cond}
use Rattle.std.specs.Prelude.{slice_index_or, unwrap_or}
use Rattle.std.specs.Prelude.{Bool as Test, true, false}
use Rattle.std.proofs.lemmas.Bool.{eq-eqb}
use Rattle.std.proofs.lemmas.Option.{none-some, same_Some, slice_get_within}
use Rattle.wg_num.specs.declared.types.IntType.{IntType}
use Rattle.wg_num.specs.Types.{is_value}
use Rattle.kir.specs.declared.line.Atom.{Atom}
use Rattle.kir.specs.declared.line.Atom.TheVariants.{Const, Cell as CellAtom}
use Rattle.kir.specs.Tree.{Cell, Kernel}
use Rattle.kir.specs.Live.{reads, some_reads}
use Rattle.kir.specs.Steps.{atom_value}
use Rattle.kir.specs.Fits.{atom_type, type_of_cell}
use Rattle.kir.proofs.CellTypes.{type_of_is}
use Rattle.lane_code.specs.declared.step.Step.{Step}
use Rattle.lane_code.specs.declared.step.Reg.{Reg}
use Rattle.lane_code.specs.declared.code.Counts.{Counts}
use Rattle.lane_code.specs.Registers.{Registers, written}
use Rattle.lane_code.specs.Fits.{bank_of, is_below}
use Rattle.lane_code.specs.Acts.{Chunk, State, act, writes, with_registers}
use Rattle.lane_code.specs.Meaning.{Ended, code_end}
use Rattle.lane_laws.specs.Reading.{mask_at}
use Rattle.lane_laws.proofs.Steps.{on_step}
use Rattle.mask_lower.specs.declared.registers.Free.{Free}
use Rattle.mask_lower.specs.declared.registers.Operand.{Operand}
use Rattle.mask_lower.specs.Banks.{mask_reg, register_at}
use Rattle.mask_lower.specs.Registers.{Frame, cell_at, operand, nowhere}
use Rattle.mask_lower_correct.specs.View.{value_at, is_lane, Differ, Shaped, Wrote}
use Rattle.mask_lower_correct.specs.Framed.{number_in, IsFramed, HeldAt}
use Rattle.mask_lower_correct.specs.Sim.{Above}
use Rattle.mask_lower_correct.proofs.LaneValues.{lane_in}
use Rattle.mask_lower_correct.proofs.View.{writes_wrote}
use Rattle.mask_lower_correct.proofs.Frames.{register_bank, register_number, type_lane}

module _ (kernel : Kernel) (width : ℕ) (f : Frame) (atoms : List Atom) (counts : Counts) (r0 : Registers)
    (framed : IsFramed kernel f atoms) where
  -- what is read of a lane is there
  abbrev pub Reading : Registers → (l : ℕ) → (ℕ → ℤ) → (ℕ → Test) → Type 0
  Reading r l cells read = (c : ℕ) (op : Operand) → slice_index_or f.cells c None ≡ Some op → read c ≡ true →
      value_at r op.at l ≡ lane_in op.of (cells c)

  -- an atom's register: its type and bank, and what it holds
  pub record IsOperand (next : Free) (a : Atom) (of : IntType) (r : Registers) : Type 0 where
    pub typed : (operand f.cells next a).of ≡ of
    pub bank : (operand f.cells next a).at.bank ≡ bank_of of
    pub holds : (l : ℕ) (cells : ℕ → ℤ) → l < width → Reading r l cells (λ c. reads c a) →
        value_at r (operand f.cells next a).at l ≡ lane_in of (atom_value cells a)

  -- the entry of a cell
  pub entry_at : (c : ℕ) (op : Operand) → slice_index_or f.cells c None ≡ Some op → cell_at f.cells c ≡ op
  entry_at c op e = ap (λ o. unwrap_or o nowhere) e

  -- a cell that has a type has a register, if it is named
  pub cell_entry : (c : ℕ) (of : IntType) → type_of_cell (slice_get kernel.cells c) ≡ Some of →
      some_reads c atoms ≡ true → slice_index_or f.cells c None ≡ Some (cell_at f.cells c)
  cell_entry c of e named = let x =
      framed.named c named (within (slice_get kernel.cells c) refl e) in x.1 ∙ ap Some (sym (entry_at c x.0 x.1))
    where
      within : (o : Option Cell) → slice_get kernel.cells c ≡ o → type_of_cell o ≡ Some of → c < length kernel.cells
      within None at h = absurd (none-some of h)
      within (Some cell) at h = slice_get_within kernel.cells c cell at

  -- its type
  pub entry_type : (c : ℕ) (of : IntType) → type_of_cell (slice_get kernel.cells c) ≡ Some of →
      some_reads c atoms ≡ true → (cell_at f.cells c).of ≡ of
  entry_type c of e named =
      let x = framed.entries c (cell_at f.cells c) (cell_entry c of e named) in
      same_Some _ _ (sym x.typed ∙ sym (type_of_is kernel c) ∙ e)

  pub entry_bank : (c : ℕ) (of : IntType) → type_of_cell (slice_get kernel.cells c) ≡ Some of →
      some_reads c atoms ≡ true → (cell_at f.cells c).at.bank ≡ bank_of of
  entry_bank c of e named = let x =
      framed.entries c (cell_at f.cells c) (cell_entry c of e named) in x.bank ∙ ap bank_of (entry_type c of e named)

  -- a constant
  pub const_is : (next : Free) (value : ℤ) (was : IntType) (r : Registers) →
      HeldAt f width r0 next (Const value was) → Above f width r0 r → IsOperand next (Const value was) was r
  const_is next value was r held above =
      let bank = register_bank next was in
      record {
        typed = refl;
        bank = bank;
        holds = λ l cells lt read. above (register_at next was) l lt (ap is_lane bank ∙
            type_lane was) (subst (λ b. number_in f.scratch b < (register_at next was).number) (sym bank) held.0) ∙
            held.1 l lt;
      }

  pub operand_is : (next : Free) (a : Atom) (of : IntType) (r : Registers) → atom_type kernel a ≡ Some of →
      ((c : ℕ) → reads c a ≡ true → some_reads c atoms ≡ true) → HeldAt f width r0 next a → Above f width r0 r →
      IsOperand next a of r
  operand_is next (CellAtom c) of r e named held above =
      let known = named c (eq-eqb c c refl) in
      record {
        typed = entry_type c of e known;
        bank = entry_bank c of e known;
        holds = λ l cells lt read. read c (cell_at f.cells c) (cell_entry c of e known) (eq-eqb c c refl) ∙
            ap (λ t. lane_in t (cells c)) (entry_type c of e known);
      }
  operand_is next (Const value was) of r e named held above = go (is_value was value) e
    where
      go : (b : Test) → cond b (Some was) None ≡ Some of → IsOperand next (Const value was) of r
      go false h = absurd (none-some of h)
      go true h =
          subst (λ t. IsOperand next (Const value was) t r) (same_Some was of h) (const_is next value was r held above)

  -- a register for what is on its way is no cell's
  pub scratch_differs : (c : ℕ) (op : Operand) (of : IntType) → slice_index_or f.cells c None ≡ Some op →
      Differ op.at (register_at f.scratch of)
  scratch_differs c op of e same_bank same_number =
      let x = framed.entries c op e in
      let b = x.below in
      let n : op.at.number ≡ number_in f.scratch op.at.bank = same_number ∙ register_number f.scratch of ∙
      ap (number_in f.scratch) (sym (same_bank ∙ register_bank f.scratch of)) in
      omega arith

  -- registers above those for what is on its way are none of them
  pub above_scratch : (x : Reg) (of : IntType) → number_in f.scratch x.bank < x.number →
      Differ x (register_at f.scratch of)
  above_scratch x of more same_bank same_number =
      let n : x.number ≡ number_in f.scratch x.bank = same_number ∙ register_number f.scratch of ∙
      ap (number_in f.scratch) (sym (same_bank ∙ register_bank f.scratch of)) in
      omega arith

  -- and no cell's
  pub above_entry : (x : Reg) (c : ℕ) (op : Operand) → slice_index_or f.cells c None ≡ Some op →
      number_in f.scratch x.bank < x.number → Differ x op.at
  above_entry x c op e more same_bank same_number =
      let b = (framed.entries c op e).below in
      let n : number_in f.scratch x.bank ≡ number_in f.scratch op.at.bank = ap (number_in f.scratch) same_bank in
      omega arith

  pub entry_lane : (c : ℕ) (op : Operand) → slice_index_or f.cells c None ≡ Some op → is_lane op.at.bank ≡ true
  entry_lane c op e = let x = framed.entries c op e in ap is_lane x.bank ∙ type_lane op.of

  pub scratch_lane : (of : IntType) → is_lane (register_at f.scratch of).bank ≡ true
  scratch_lane of = ap is_lane (register_bank f.scratch of) ∙ type_lane of

  -- a write of either keeps the registers above
  pub scratch_above : (r : Registers) (of : IntType) (active : ℕ → Test) (value : ℕ → ℕ) (after : Registers) →
      Wrote counts width r (register_at f.scratch of) active value after → Above f width r after
  scratch_above r of active value after w x l lt b more = w.there x l lt b (above_scratch x of more)

  pub cell_above : (r : Registers) (c : ℕ) (op : Operand) (active : ℕ → Test) (value : ℕ → ℕ) (after : Registers) →
      slice_index_or f.cells c None ≡ Some op → Wrote counts width r op.at active value after → Above f width r after
  cell_above r c op active value after e w x l lt b more = w.there x l lt b (above_entry x c op e more)

  module _ (chunk : Chunk) (code : List Step) (G : Ended → Type 0) where
    -- a step that writes lanes under a mask
    pub writes_step : (t p m : ℕ) (s : Step) (st : State) (x : Reg) (lanes : List ℕ) → slice_get code p ≡ Some s →
        act chunk s st ≡ writes st x (mask_reg m) lanes → Shaped counts width st.registers
        → is_lane x.bank ≡ true → is_below counts x ≡ true → is_below counts (mask_reg m) ≡ true → length lanes ≡ width
        → ((after : Registers) → Wrote counts width st.registers x (λ l. mask_at st.registers m l)
        (λ l. slice_index_or lanes l 0) after → G (code_end chunk code t (p + 1) (with_registers st after))) →
        G (code_end chunk code t p st)
    writes_step t p m s st x lanes at does shape b lt ltm len go =
        on_step chunk code G t p s st (with_registers st (written st.registers x (mask_reg m) lanes)) at does
        (go (written st.registers x (mask_reg m) lanes) (writes_wrote counts width st.registers shape x m lanes b lt
        ltm len))
