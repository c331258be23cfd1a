-- The code of a line that computes leaves the lane of what the line computes in the cell's register.
use Rattle.std.proofs.Common.{◌≡◌, ℕ, suc, ◌+◌, ◌*◌, ◌<◌, ℤ, pos, List, [], ◌∷◌, ◌++◌, length, map, Option, Some}
use Rattle.std.proofs.Common.{None, slice_get, refl, sym, ap, ap₂, ◌∙◌, subst, arith, cond}
use Rattle.std.specs.Prelude.{slice_index_or, ◌&&◌, ◌||◌}
use Rattle.std.specs.Prelude.{Bool as Test, true, false}
use Rattle.std.proofs.lemmas.Bool.{true≢false, and_parts, or_left, or_right}
use Rattle.std.proofs.lemmas.List.{get_or-map, length-map}
use Rattle.std.proofs.lemmas.Simd.{get_or-zip2, length-zip2}
use Rattle.std.specs.Simd.Lanes.{zip2}
use Rattle.wg_num.specs.declared.types.IntType.{IntType}
use Rattle.wg_num.specs.declared.types.Bin.{Bin}
use Rattle.wg_num.specs.declared.types.Un.{Un}
use Rattle.wg_num.specs.Wrap.{IsValue, value_of, wrap_of}
use Rattle.wg_num.specs.Operators.{is_shift, amount_of, binary_of}
use Rattle.wg_num.proofs.WrapLaws.{wrap_value, IsValue-wrap}
use Rattle.wg_num.proofs.OperatorLaws.{IsValue-unary, IsValue-binary}
use Rattle.cl_model.specs.Sizes.{Launch, group_size}
use Rattle.cl_model.specs.Valid.{unary_type, binary_type}
use Rattle.kir.specs.declared.line.Atom.{Atom}
use Rattle.kir.specs.declared.line.Atom.TheVariants.{Const, Cell as CellAtom}
use Rattle.kir.specs.Tree.{Work, Kernel}
use Rattle.kir.specs.Tree as kir
use Rattle.kir.specs.Live.{reads, some_reads, work_reads}
use Rattle.kir.specs.Steps.{Item, atom_value, work_value}
use Rattle.kir.specs.Fits.{has_type, atom_type, type_of_cell, work_fits, work_type, cell_takes}
use Rattle.kir.specs.CellTypes.{HoldTypes}
use Rattle.kir.proofs.CellTypes.{has_type_is}
use Rattle.kir.proofs.CellTypes.{atom_typed}
use Rattle.kir.proofs.CellTypes.{binary_value}
use Rattle.kir.proofs.CellTypes.{unary_value}
use Rattle.lane_values.specs.Lanes.{lane, unary_lane, binary_lane, convert_lane}
use Rattle.lane_code.specs.declared.step.Step.{Step}
use Rattle.lane_code.specs.declared.step.Step.TheVariants as step
use Rattle.lane_code.specs.declared.step.Reg.{Reg}
use Rattle.lane_code.specs.declared.code.Counts.{Counts}
use Rattle.lane_code.specs.Registers.{Registers, bits_in, lanes_of}
use Rattle.lane_code.specs.Fits.{bank_of, is_below, is_code}
use Rattle.lane_code.specs.Acts.{Chunk, State, act, writes, with_registers}
use Rattle.lane_code.specs.Meaning.{Ended, code_end}
use Rattle.lane_laws.specs.Places.{HasAt}
use Rattle.lane_laws.specs.Reading.{mask_at}
use Rattle.mask_lower.specs.declared.registers.Free.{Free}
use Rattle.mask_lower.specs.declared.registers.Operand.{Operand}
use Rattle.mask_lower.specs.Banks.{crosses, amount_type, mask_reg, register_at}
use Rattle.mask_lower.specs.Atoms.{amount_atom, right_atom, atoms_of}
use Rattle.mask_lower.specs.Layout.{kernel_chunk}
use Rattle.mask_lower.specs.Registers.{Frame, cell_at, operand, past_atom}
use Rattle.mask_lower.specs.Lowered.{result_at, brought, moves, work_code}
use Rattle.mask_lower_correct.specs.View.{value_at, is_lane, Differ, Shaped, Wrote}
use Rattle.mask_lower_correct.specs.Framed.{IsEntry, IsFramed, HeldAt, Held}
use Rattle.mask_lower_correct.specs.Sim.{IsGood, Above}
use Rattle.mask_lower_correct.proofs.LaneValues.{lane_in, bits_for, same_bank, value_lane, unary_is, binary_is}
use Rattle.mask_lower_correct.proofs.LaneValues.{binary_amount, amount_lane, amount_wrap, right_raw}
use Rattle.mask_lower_correct.proofs.View.{code_well, lanes_length}
use Rattle.mask_lower_correct.proofs.Frames.{type_lane, register_bank}
use Rattle.mask_lower_correct.proofs.Standing.{SameOuter}
use Rattle.mask_lower_correct.proofs.Atoms.{Reading, IsOperand, cell_entry, entry_type, entry_bank, const_is}
use Rattle.mask_lower_correct.proofs.Atoms.{operand_is, scratch_differs, entry_lane, scratch_lane, scratch_above}
use Rattle.mask_lower_correct.proofs.Atoms.{cell_above, writes_step}

-- a value is converted lane by lane
pub convert_is : (bits : ℕ) (to from : IntType) (z : ℤ) → IsValue from z →
    convert_lane bits to from (lane_in from z) ≡ lane bits (wrap_of to z)
convert_is bits to from z v = ap (λ x. lane bits (wrap_of to x)) (value_lane from z v)

module _ (kernel : Kernel) (launch : Launch) (width group first : ℕ) (f : Frame) (atoms : List Atom) (counts : Counts)
    (r0 : Registers) (framed : IsFramed kernel f atoms) (code : List Step) (valid : is_code counts code ≡ true)
    (G : Ended → Type 0) where
  -- what lines leave in a cell's register, where P says which value a lane is to have
  pub record Worked (P : ℕ → ℤ → Type 0) (m : ℕ) (op : Operand) (st st2 : State) : Type 0 where
    pub outer : SameOuter st st2
    pub masks : st2.registers.masks ≡ st.registers.masks
    pub shape : Shaped counts width st2.registers
    pub above : Above f width st.registers st2.registers
    pub here : (l : ℕ) (z : ℤ) → l < width → mask_at st.registers m l ≡ true → P l z →
        value_at st2.registers op.at l ≡ lane_in op.of z
    pub idle : (l : ℕ) → l < width → mask_at st.registers m l ≡ false → (d : ℕ) (o : Operand) →
        slice_index_or f.cells d None ≡ Some o → value_at st2.registers o.at l ≡ value_at st.registers o.at l
    pub there : (l : ℕ) → l < width → (d : ℕ) (o : Operand) → slice_index_or f.cells d None ≡ Some o →
        Differ o.at op.at → value_at st2.registers o.at l ≡ value_at st.registers o.at l

  abbrev pub Mine : Chunk
  Mine = kernel_chunk kernel launch width group first

  -- a step that leaves a value of one type where results of it go, and the step that brings it on to a cell of another
  result_runs : (P : ℕ → ℤ → Type 0) (of kind : IntType) (c : ℕ) (op : Operand) →
      slice_index_or f.cells c None ≡ Some op → op.of ≡ kind → (m t p : ℕ) (st : State) (s : Step) (lanes : List ℕ)
      → slice_get code p ≡ Some s → act Mine s st ≡ writes st (result_at f of kind op.at) (mask_reg m) lanes →
      Shaped counts width st.registers
      → is_below counts (result_at f of kind op.at) ≡ true → is_below counts (mask_reg m) ≡ true → length lanes ≡ width
      → ((l : ℕ) (z : ℤ) → l < width → mask_at st.registers m l ≡ true → P l z →
      (slice_index_or lanes l 0 ≡ lane_in of z) × IsValue of z × IsValue kind z)
      → HasAt code (p + 1) (brought f of kind op.at (mask_reg m))
      → ((st2 : State) → Worked P m op st st2 →
      G (code_end Mine code t (p + 1 + length (brought f of kind op.at (mask_reg m))) st2)) →
      G (code_end Mine code t p st)
  result_runs P of kind c op e is m t p st s lanes at does shape lt ltm len gives has go =
      by (crosses of kind) refl does lt has go
    where
      entry : IsEntry kernel f c op
      entry = framed.entries c op e

      by : (b : Test) → crosses of kind ≡ b →
          act Mine s st ≡ writes st (cond b (register_at f.scratch of) op.at) (mask_reg m) lanes →
          is_below counts (cond b (register_at f.scratch of) op.at) ≡ true
          → HasAt code (p + 1) (cond b (step.Convert op.at kind (register_at f.scratch of) of (mask_reg m) ∷ []) [])
          → ((st2 : State) → Worked P m op st st2 →
          G (code_end Mine code t (p + 1 +
          length (cond b (step.Convert op.at kind (register_at f.scratch of) of (mask_reg m) ∷ []) []))
          st2)) → G (code_end Mine code t p st)
      by false same does lt has go =
          let banks : bank_of of ≡ bank_of op.of = same_bank of kind same ∙ ap bank_of (sym is) in
          writes_step kernel width f atoms counts r0 framed Mine code G t p m s st op.at lanes at does shape
          (entry_lane kernel width f atoms counts r0 framed c op e) lt ltm len (λ after w.
          let n : p + 1 + 0 ≡ p + 1 = omega arith in
          subst (λ k. G (code_end Mine code t k (with_registers st after))) n
          (go (with_registers st after) (record {
            outer = record { group = refl; buffers = refl };
            masks = w.masks;
            shape = w.shape;
            above = cell_above kernel width f atoms counts r0 framed st.registers c op _ _ after e w;
            here = λ l z ltl on p. w.here l ltl on ∙ (gives l z ltl on p).0 ∙ ap (λ b. lane (bits_in b) z) banks;
            idle = λ l ltl off d o h. w.idle o.at l ltl (entry_lane kernel width f atoms counts r0 framed d o h) off;
            there = λ l ltl d o h ne. w.there o.at l ltl (entry_lane kernel width f atoms counts r0 framed d o h) ne;
          })))
      by true cross does lt has go =
          let x = register_at f.scratch of in
          writes_step kernel width f atoms counts r0 framed Mine code G t p m s st x lanes at does shape
          (scratch_lane kernel width f atoms counts r0 framed of) lt ltm len (λ after1 w1.
          let st1 = with_registers st after1 in
          let s2 = step.Convert op.at kind x of (mask_reg m) in
          let well = code_well counts code (p + 1) s2 valid has.0 in
          let parts = and_parts (is_below counts op.at && is_below counts x) (is_below counts (mask_reg m)) well in
          let parts' = and_parts (is_below counts op.at) (is_below counts x) parts.0 in
          let lanes2 = map (convert_lane (bits_in op.at.bank) kind of) (lanes_of after1 x) in
          let xlen = lanes_length counts width after1 w1.shape x (scratch_lane kernel width f atoms counts r0 framed
          of) parts'.1 in
          writes_step kernel width f atoms counts r0 framed Mine code G t (p + 1) m s2 st1 op.at lanes2 has.0 refl
          w1.shape (entry_lane kernel width f atoms counts r0 framed c op e) parts'.0 ltm
          (length-map (lanes_of after1 x) (convert_lane (bits_in op.at.bank) kind of) ∙ xlen) (λ after2 w2.
          let same_mask : (l : ℕ) → mask_at after1 m l ≡ mask_at st.registers m l =
          λ l. ap (λ rows. slice_index_or (slice_index_or rows m []) l false) w1.masks in
          go (with_registers st1 after2) (record {
            outer = record { group = refl; buffers = refl };
            masks = w2.masks ∙ w1.masks;
            shape = w2.shape;
            above = λ y l ltl b more. cell_above kernel width f atoms counts r0 framed after1 c op _ _ after2 e w2 y l
                ltl b more ∙ scratch_above kernel width f atoms counts r0 framed st.registers of _ _ after1 w1 y l ltl
                b more;
            here = λ l z ltl on p.
                let g = gives l z ltl on p in
                w2.here l ltl (same_mask l ∙ on)
                ∙ get_or-map (convert_lane (bits_in op.at.bank) kind of) (lanes_of after1 x) l 0 0 (let h = xlen in
                omega arith)
                ∙ ap (convert_lane (bits_in op.at.bank) kind of) (w1.here l ltl on ∙ g.0)
                ∙ convert_is (bits_in op.at.bank) kind of z g.1 ∙ ap (lane (bits_in op.at.bank)) (wrap_value kind z g.2)
                ∙ ap (λ b. lane (bits_in b) z) entry.bank;
            idle = λ l ltl off d o h.
                w2.idle o.at l ltl (entry_lane kernel width f atoms counts r0 framed d o h) (same_mask l ∙ off)
                ∙ w1.there o.at l ltl (entry_lane kernel width f atoms counts r0 framed d o h)
                (scratch_differs kernel width f atoms counts r0 framed d o of h);
            there = λ l ltl d o h ne.
                w2.there o.at l ltl (entry_lane kernel width f atoms counts r0 framed d o h) ne
                ∙ w1.there o.at l ltl (entry_lane kernel width f atoms counts r0 framed d o h)
                (scratch_differs kernel width f atoms counts r0 framed d o of h);
          })))

  -- what a line is to give a lane: what it computes for an item of the lane whose cells the registers have
  abbrev pub Gives : Registers → Work → ℕ → ℤ → Type 0
  Gives r work l z =
      (s : Item) × IsGood kernel (group * group_size launch + first + l) s ×
      Reading kernel width f atoms counts r0 framed r l s.cells (λ c. work_reads c work) ×
      (work_value launch s work ≡ z)

  -- the steps of a line that computes
  abbrev pub Works : Work → Type 0
  Works work =
      (next : Free) (m to p t : ℕ) (st : State) →
      HasAt code p (work_code f next (cell_at f.cells to).at (mask_reg m) work) → work_fits kernel work ≡ true →
      cell_takes kernel to (work_type kernel work) ≡ true
      → some_reads to atoms ≡ true → ((c : ℕ) → some_reads c (atoms_of work) ≡ true → some_reads c atoms ≡ true) →
      Held f width r0 next (atoms_of work) → Above f width r0 st.registers → Shaped counts width st.registers
      → ((st2 : State) → Worked (Gives st.registers work) m (cell_at f.cells to) st st2 →
      G (code_end Mine code t (p + length (work_code f next (cell_at f.cells to).at (mask_reg m) work)) st2))
      → G (code_end Mine code t p st)

  -- the entry of a cell that takes values of a type
  pub record Target (to : ℕ) (kind : IntType) : Type 0 where
    pub entry : slice_index_or f.cells to None ≡ Some (cell_at f.cells to)
    pub is : (cell_at f.cells to).of ≡ kind
    pub bank : (cell_at f.cells to).at.bank ≡ bank_of kind

  pub target : (to : ℕ) (kind : IntType) → cell_takes kernel to (Some kind) ≡ true → some_reads to atoms ≡ true →
      Target to kind
  target to kind takes named =
      let e = has_type_is kind (type_of_cell (slice_get kernel.cells to)) takes in
      record {
        entry = cell_entry kernel width f atoms counts r0 framed to kind e named;
        is = entry_type kernel width f atoms counts r0 framed to kind e named;
        bank = entry_bank kernel width f atoms counts r0 framed to kind e named;
      }

  -- a list of places behind the first step
  back_first : (p n : ℕ) → p + suc n ≡ p + 1 + n
  back_first p n = omega arith

  -- the register of a result is of the bank of the type in which it is computed
  result_bank : (of kind : IntType) (to : Reg) → to.bank ≡ bank_of kind → (result_at f of kind to).bank ≡ bank_of of
  result_bank of kind to e = by (crosses of kind) refl
    where
      by : (b : Test) → crosses of kind ≡ b → (cond b (register_at f.scratch of) to).bank ≡ bank_of of
      by true c = register_bank f.scratch of
      by false c = e ∙ sym (same_bank of kind c)

  pub unary_works : (op : Un) (of : IntType) (a : Atom) → Works (kir.Unary op of a)
  unary_works op of a next m to p t st has fits takes named inside held above shape go =
      let kind = unary_type op of in
      let tg = target to kind takes named in
      let toreg = (cell_at f.cells to).at in
      let one = operand_is kernel width f atoms counts r0 framed next a of st.registers
      (has_type_is of (atom_type kernel a) fits) (λ c e. inside c (or_left (reads c a) false e)) held.0 above in
      let ra = (operand f.cells next a).at in
      let x = result_at f of kind toreg in
      let s = step.Unary op of x ra (mask_reg m) in
      let well = code_well counts code p s valid has.0 in
      let w1 = and_parts (is_below counts x && is_below counts ra) (is_below counts (mask_reg m)) well in
      let w2 = and_parts (is_below counts x) (is_below counts ra) w1.0 in
      let alane : is_lane ra.bank ≡ true = ap is_lane one.bank ∙ type_lane of in
      let alen = lanes_length counts width st.registers shape ra alane w2.1 in
      let xbank : x.bank ≡ bank_of of = result_bank of kind toreg tg.bank in
      result_runs (Gives st.registers (kir.Unary op of a)) of kind to (cell_at f.cells to) tg.entry tg.is m t p st s
      (map (unary_lane (bits_in x.bank) op of) (lanes_of st.registers ra)) has.0 refl shape w2.0 w1.1
      (length-map (lanes_of st.registers ra) (unary_lane (bits_in x.bank) op of) ∙ alen)
      (λ l z ltl on g.
      let v = atom_typed kernel g.0.cells a of g.1.typed (has_type_is of (atom_type kernel a) fits) in (
        get_or-map (unary_lane (bits_in x.bank) op of) (lanes_of st.registers ra) l 0 0 (let h = alen in omega arith)
            ∙ ap (unary_lane (bits_in x.bank) op of) (one.holds l g.0.cells ltl g.2)
            ∙ ap (λ b. unary_lane (bits_in b) op of (lane_in of (atom_value g.0.cells a))) xbank ∙
            unary_is op of (atom_value g.0.cells a) v ∙ ap (lane_in of) g.3,
        subst (λ y. IsValue of y) g.3 (IsValue-unary op of (atom_value g.0.cells a)),
        subst (λ y. IsValue kind y) g.3 (unary_value op of (atom_value g.0.cells a)),
      ))
      has.1
      (λ st2 done. subst (λ n. G (code_end Mine code t n st2))
      (back_first p (length (brought f of kind toreg (mask_reg m)))) (go st2 done))

  -- the step of an operator on two operands, where it leaves the lanes of these values
  binary_result : (P : ℕ → ℤ → Type 0) (op : Bin) (of : IntType) (to : ℕ) → Target to (binary_type op of) →
      (ra x : Reg) → ra.bank ≡ bank_of of → x.bank ≡ bank_of of → (m t p : ℕ) (st : State) →
      Shaped counts width st.registers
      → HasAt code p (step.Binary op of (result_at f of (binary_type op of) (cell_at f.cells to).at) ra x
      (mask_reg m) ∷ brought f of (binary_type op of) (cell_at f.cells to).at (mask_reg m))
      → ((l : ℕ) (z : ℤ) → l < width → mask_at st.registers m l ≡ true → P l z →
      (binary_lane (bits_for of) op of (value_at st.registers ra l) (value_at st.registers x l) ≡
      lane_in of z) × IsValue of z × IsValue (binary_type op of) z)
      → ((st2 : State) → Worked P m (cell_at f.cells to) st st2 →
      G (code_end Mine code t (p + suc
      (length (brought f of (binary_type op of) (cell_at f.cells to).at (mask_reg m)))) st2)) →
      G (code_end Mine code t p st)
  binary_result P op of to tg ra x bank_a bank_x m t p st shape has gives go =
      let kind = binary_type op of in
      let toreg = (cell_at f.cells to).at in
      let y = result_at f of kind toreg in
      let s = step.Binary op of y ra x (mask_reg m) in
      let well = code_well counts code p s valid has.0 in
      let w1 = and_parts (is_below counts y && is_below counts ra && is_below counts x) (is_below counts (mask_reg m))
      well in
      let w2 = and_parts (is_below counts y && is_below counts ra) (is_below counts x) w1.0 in
      let w3 = and_parts (is_below counts y) (is_below counts ra) w2.0 in
      let alen = lanes_length counts width st.registers shape ra (ap is_lane bank_a ∙ type_lane of) w3.1 in
      let xlen = lanes_length counts width st.registers shape x (ap is_lane bank_x ∙ type_lane of) w2.1 in
      let ybank : y.bank ≡ bank_of of = result_bank of kind toreg tg.bank in
      let act_lanes = zip2 (binary_lane (bits_in y.bank) op of) (lanes_of st.registers ra) (lanes_of st.registers x) in
      result_runs P of kind to (cell_at f.cells to) tg.entry tg.is m t p st s act_lanes has.0 refl shape w3.0 w1.1
      (length-zip2 (binary_lane (bits_in y.bank) op of) (lanes_of st.registers ra) (lanes_of st.registers x) (alen ∙
      sym xlen) ∙ alen)
      (λ l z ltl on g.
      let v = gives l z ltl on g in (
        get_or-zip2 (binary_lane (bits_in y.bank) op of) (lanes_of st.registers ra) (lanes_of st.registers x) l 0 0 0
            (let h = alen in omega arith) (let h = xlen in omega arith)
            ∙ ap (λ b. binary_lane (bits_in b) op of (value_at st.registers ra l) (value_at st.registers x l)) ybank ∙
            v.0,
        v.1,
        v.2,
      ))
      has.1
      (λ st2 done. subst (λ n. G (code_end Mine code t n st2))
      (back_first p (length (brought f of kind toreg (mask_reg m)))) (go st2 done))

  -- the operand to the right: another constant, where an amount of a shift is one of the other bank
  record Right (next : Free) (op : Bin) (of : IntType) (b : Atom) (r : Registers) : Type 0 where
    ty : IntType
    is : IsOperand kernel width f atoms counts r0 framed next (right_atom op of b) ty r
    plain : is_shift op ≡ false → (ty ≡ of) ×
        ((cells : ℕ → ℤ) → atom_value cells (right_atom op of b) ≡ atom_value cells b)
    amount : (cells : ℕ → ℤ) → amount_of of (atom_value cells (right_atom op of b)) ≡ amount_of of (atom_value cells b)
    typed : (cells : ℕ → ℤ) → HoldTypes kernel cells → IsValue ty (atom_value cells (right_atom op of b))
    reading : (c : ℕ) → reads c (right_atom op of b) ≡ true → reads c b ≡ true

  right_is : (next : Free) (op : Bin) (of ub : IntType) (b : Atom) (r : Registers) → atom_type kernel b ≡ Some ub →
      (is_shift op ≡ false → ub ≡ of) → ((c : ℕ) → reads c (right_atom op of b) ≡ true → some_reads c atoms ≡ true)
      → HeldAt f width r0 next (right_atom op of b) → Above f width r0 r → Right next op of b r
  right_is next op of ub b r e same named held above = go (is_shift op) refl b e named held
    where
      -- the atom itself
      itself : (b' : Atom) → right_atom op of b ≡ b' → b' ≡ b → Right next op of b r
      itself b' is is_b =
          let q : right_atom op of b ≡ b = is ∙ is_b in
          record {
            ty = ub;
            is = operand_is kernel width f atoms counts r0 framed next (right_atom op of b) ub r
                (ap (atom_type kernel) q ∙ e) named held above;
            plain = λ h. (same h, λ cells. ap (atom_value cells) q);
            amount = λ cells. ap (λ x. amount_of of (atom_value cells x)) q;
            typed = λ cells holds. subst (λ x. IsValue ub (atom_value cells x)) (sym q)
                (atom_typed kernel cells b ub holds e);
            reading = λ c h. ap (reads c) (sym q) ∙ h;
          }

      go : (s : Test) → is_shift op ≡ s → (x : Atom) → atom_type kernel b ≡ Some ub →
          ((c : ℕ) → reads c (right_atom op of b) ≡ true → some_reads c atoms ≡ true) →
          HeldAt f width r0 next (right_atom op of b) → Right next op of b r
      go false h x e named held = itself b (ap (λ s. cond s (amount_atom of b) b) h) refl
      go true h x e named held = of_shift b refl
        where
          of_shift : (x : Atom) → x ≡ b → Right next op of b r
          of_shift (CellAtom c) is_b = itself (amount_atom of b) (ap (λ s. cond s (amount_atom of b) b) h)
              (ap (amount_atom of) (sym is_b) ∙ is_b)
          of_shift (Const value was) is_b = by (crosses of was) refl
            where
              whole : right_atom op of b ≡ amount_atom of (Const value was)
              whole = ap (λ s. cond s (amount_atom of b) b) h ∙ ap (amount_atom of) (sym is_b)

              by : (k : Test) → crosses of was ≡ k → Right next op of b r
              by false k = itself (Const value was) (whole ∙
                  ap (λ k. cond k (Const (wrap_of (amount_type of) value) (amount_type of)) (Const value was)) k) is_b
              by true k =
                  let q : right_atom op of b ≡ Const (wrap_of (amount_type of) value) (amount_type of) =
                  whole ∙ ap (λ k. cond k (Const (wrap_of (amount_type of) value) (amount_type of))
                  (Const value was)) k in
                  record {
                    ty = amount_type of;
                    is = subst (λ x. IsOperand kernel width f atoms counts r0 framed next x (amount_type of) r) (sym q)
                        (const_is kernel width f atoms counts r0 framed next (wrap_of (amount_type of) value)
                        (amount_type of) r (subst (HeldAt f width r0 next) q held) above);
                    plain = λ n. absurd (true≢false (sym h ∙ n));
                    amount = λ cells. ap (λ x. amount_of of (atom_value cells x)) q ∙ amount_wrap of value ∙
                        ap (λ x. amount_of of (atom_value cells x)) is_b;
                    typed = λ cells holds. subst (λ x. IsValue (amount_type of) (atom_value cells x)) (sym q)
                        (IsValue-wrap (amount_type of) value);
                    reading = λ c n. absurd (true≢false (sym (ap (reads c) (sym q) ∙ n)));
                  }

  -- what an operator gives from the lanes of its operands: the right one's in whatever bank, if it is the amount of a
  -- shift
  binary_gives : (op : Bin) (of : IntType) (va vb vb' : ℤ) (bank : _) (p q : ℕ) → is_lane bank ≡ true →
      IsValue of va → p ≡ lane_in of va → (is_shift op ≡ false → (IsValue of vb) × (q ≡ lane_in of vb)) →
      (is_shift op ≡ true → (q ≡ lane (bits_in bank) vb') × (amount_of of vb' ≡ amount_of of vb))
      → binary_lane (bits_for of) op of p q ≡ lane_in of (binary_of op of va vb)
  binary_gives op of va vb vb' bank p q isl v ep plain shift = go (is_shift op) refl
    where
      go : (s : Test) → is_shift op ≡ s → binary_lane (bits_for of) op of p q ≡ lane_in of (binary_of op of va vb)
      go false h = let r = plain h in ap₂ (binary_lane (bits_for of) op of) ep r.1 ∙ binary_is op of va vb h v r.0
      go true h =
          let r = shift h in
          ap₂ (λ x y. lane (bits_for of) (binary_of op of x y)) (ap (value_of of) ep ∙
          value_lane of va v) (right_raw op of q h)
          ∙ ap (lane (bits_for of)) (binary_amount op of va (pos q) vb h (ap (λ n. amount_of of (pos n)) r.0 ∙
          amount_lane of bank vb' isl ∙ r.1))

  -- a state between leaves nothing behind in cells
  worked_after : (P : ℕ → ℤ → Type 0) (m : ℕ) (op : Operand) (of : IntType) (st : State) (after : Registers)
      (active : ℕ → Test) (value : ℕ → ℕ) (st2 : State) →
      Wrote counts width st.registers (register_at f.scratch of) active value after →
      Worked P m op (with_registers st after) st2 → Worked P m op st st2
  worked_after P m op of st after active value st2 w done =
      let same_mask : (l : ℕ) → mask_at after m l ≡ mask_at st.registers m l =
      λ l. ap (λ rows. slice_index_or (slice_index_or rows m []) l false) w.masks in
      record {
        outer = record { group = done.outer.group; buffers = done.outer.buffers };
        masks = done.masks ∙ w.masks;
        shape = done.shape;
        above = λ y l ltl b more. done.above y l ltl b more ∙
            scratch_above kernel width f atoms counts r0 framed st.registers of _ _ after w y l ltl b more;
        here = λ l z ltl on p. done.here l z ltl (same_mask l ∙ on) p;
        idle = λ l ltl off d o h. done.idle l ltl (same_mask l ∙ off) d o h ∙
            w.there o.at l ltl (entry_lane kernel width f atoms counts r0 framed d o h)
            (scratch_differs kernel width f atoms counts r0 framed d o of h);
        there = λ l ltl d o h ne. done.there l ltl d o h ne ∙
            w.there o.at l ltl (entry_lane kernel width f atoms counts r0 framed d o h)
            (scratch_differs kernel width f atoms counts r0 framed d o of h);
      }

  pub some_type : (o : Option IntType) → Rattle.kir.specs.Fits.has_some_type o ≡ true → (t : IntType) × (o ≡ Some t)
  some_type None e = absurd (true≢false (sym e))
  some_type (Some t) e = (t, refl)

  -- the type of a right operand
  right_type : (op : Bin) (of : IntType) (o : Option IntType) → Rattle.kir.specs.Fits.right_fits op of o ≡ true →
      (ub : IntType) × (o ≡ Some ub) × (is_shift op ≡ false → ub ≡ of)
  right_type op of o e = go (is_shift op) refl e
    where
      go : (s : Test) → is_shift op ≡ s → cond s (Rattle.kir.specs.Fits.has_some_type o) (has_type of o) ≡ true →
          (ub : IntType) × (o ≡ Some ub) × (is_shift op ≡ false → ub ≡ of)
      go true h e = let t = some_type o e in (t.0, t.1, λ n. absurd (true≢false (sym h ∙ n)))
      go false h e = (of, has_type_is of o e, λ n. refl)

  pub binary_works : (op : Bin) (of : IntType) (a b : Atom) → Works (kir.Binary op of a b)
  binary_works op of a b next m to p t st has fits takes named inside held above shape go =
      by (moves op of right) refl has go
    where
      next1 : Free
      next1 = past_atom next a

      right : Operand
      right = operand f.cells next1 (right_atom op of b)

      ra : Reg
      ra = (operand f.cells next a).at

      kind : IntType
      kind = binary_type op of

      toreg : Reg
      toreg = (cell_at f.cells to).at

      fit : (has_type of (atom_type kernel a) ≡ true) ×
          (Rattle.kir.specs.Fits.right_fits op of (atom_type kernel b) ≡ true)
      fit = and_parts (has_type of (atom_type kernel a)) _ fits

      type_a : atom_type kernel a ≡ Some of
      type_a = has_type_is of (atom_type kernel a) fit.0

      type_b : (ub : IntType) × (atom_type kernel b ≡ Some ub) × (is_shift op ≡ false → ub ≡ of)
      type_b = right_type op of (atom_type kernel b) fit.1

      one : (r : Registers) → Above f width r0 r → IsOperand kernel width f atoms counts r0 framed next a of r
      one r ab = operand_is kernel width f atoms counts r0 framed next a of r type_a
          (λ c e. inside c (or_left (reads c a) _ e)) held.0 ab

      two : (r : Registers) → Above f width r0 r → Right next1 op of b r
      two r ab = right_is next1 op of type_b.0 b r type_b.1 type_b.2
          (λ c e. inside c (or_right (reads c a) (reads c (right_atom op of b) || false)
          (or_left (reads c (right_atom op of b)) false e))) held.1.0 ab

      tg : Target to kind
      tg = target to kind takes named

      value_of_a : (s : Item) → HoldTypes kernel s.cells → IsValue of (atom_value s.cells a)
      value_of_a s h = atom_typed kernel s.cells a of h type_a

      read_a : (r : Registers) (l : ℕ) (cells : ℕ → ℤ) →
          Reading kernel width f atoms counts r0 framed r l cells (λ c. work_reads c (kir.Binary op of a b)) →
          Reading kernel width f atoms counts r0 framed r l cells (λ c. reads c a)
      read_a r l cells rd c o h e = rd c o h (or_left (reads c a) (reads c b) e)

      read_b : (r : Registers) (l : ℕ) (cells : ℕ → ℤ) → Right next1 op of b r →
          Reading kernel width f atoms counts r0 framed r l cells (λ c. work_reads c (kir.Binary op of a b)) →
          Reading kernel width f atoms counts r0 framed r l cells (λ c. reads c (right_atom op of b))
      read_b r l cells rt rd c o h e = rd c o h (or_right (reads c a) (reads c b) (rt.reading c e))

      results : (z : ℤ) (va vb : ℤ) → binary_of op of va vb ≡ z → (n : ℕ) → n ≡ lane_in of (binary_of op of va vb) →
          (n ≡ lane_in of z) × IsValue of z × IsValue kind z
      results z va vb e n h = (
        h ∙ ap (lane_in of) e,
        subst (λ y. IsValue of y) e (IsValue-binary op of va vb),
        subst (λ y. IsValue kind y) e (binary_value op of va vb),
      )

      bank_r : (rt : Right next1 op of b st.registers) → (is_shift op && crosses of right.of) ≡ false →
          bank_of rt.ty ≡ bank_of of
      bank_r rt e = shift_or (is_shift op) refl e
        where
          shift_or : (s : Test) → is_shift op ≡ s → (s && crosses of right.of) ≡ false → bank_of rt.ty ≡ bank_of of
          shift_or false h e = ap bank_of (rt.plain h).0
          shift_or true h e = sym (same_bank of rt.ty (ap (crosses of) (sym rt.is.typed) ∙ e))

      by : (mv : Test) → moves op of right ≡ mv
          → HasAt code p (cond mv (step.Convert (register_at f.scratch of) (amount_type of) right.at right.of
          (mask_reg m) ∷ []) [] ++ (step.Binary op of (result_at f of kind toreg) ra
          (cond mv (register_at f.scratch of) right.at) (mask_reg m) ∷ brought f of kind toreg (mask_reg m)))
          → ((st2 : State) → Worked (Gives st.registers (kir.Binary op of a b)) m (cell_at f.cells to) st st2
          →
          G (code_end Mine code t (p + length
          (cond mv (step.Convert (register_at f.scratch of) (amount_type of) right.at right.of (mask_reg m) ∷
          []) [] ++ (step.Binary op of (result_at f of kind toreg) ra
          (cond mv (register_at f.scratch of) right.at) (mask_reg m) ∷
          brought f of kind toreg (mask_reg m)))) st2))
          → G (code_end Mine code t p st)
      by false mv has go =
          let o1 = one st.registers above in
          let rt = two st.registers above in
          let rbank = bank_r rt mv in
          binary_result (Gives st.registers (kir.Binary op of a b)) op of to tg ra right.at o1.bank (rt.is.bank ∙
          rbank) m t p st shape has
          (λ l z ltl on g.
          let va = atom_value g.0.cells a in
          let vb = atom_value g.0.cells b in
          let q = rt.is.holds l g.0.cells ltl (read_b st.registers l g.0.cells rt g.2) in
          results z va vb g.3 _ (binary_gives op of va vb (atom_value g.0.cells (right_atom op of b)) (bank_of rt.ty)
          (value_at st.registers ra l) (value_at st.registers right.at l) (type_lane rt.ty)
          (value_of_a g.0 g.1.typed)
          (o1.holds l g.0.cells ltl (read_a st.registers l g.0.cells g.2))
          (λ h. let pl = rt.plain h in (
            subst (λ y. IsValue of y) (pl.1 g.0.cells)
                (subst (λ u. IsValue u (atom_value g.0.cells (right_atom op of b))) pl.0
                (rt.typed g.0.cells g.1.typed)),
            q ∙
                ap (λ u. lane_in u (atom_value g.0.cells (right_atom op of b))) pl.0 ∙
                ap (lane_in of) (pl.1 g.0.cells),
          ))
          (λ h. (q, rt.amount g.0.cells))))
          go
      by true mv has go =
          let o1 = one st.registers above in
          let rt = two st.registers above in
          let shift = (and_parts (is_shift op) (crosses of right.of) mv).0 in
          let x = register_at f.scratch of in
          let s = step.Convert x (amount_type of) right.at right.of (mask_reg m) in
          let well = code_well counts code p s valid has.0 in
          let w1 = and_parts (is_below counts x && is_below counts right.at) (is_below counts (mask_reg m)) well in
          let w2 = and_parts (is_below counts x) (is_below counts right.at) w1.0 in
          let rlen =
          lanes_length counts width st.registers shape right.at (ap is_lane rt.is.bank ∙ type_lane rt.ty) w2.1 in
          let lanes = map (convert_lane (bits_in x.bank) (amount_type of) right.of) (lanes_of st.registers right.at) in
          writes_step kernel width f atoms counts r0 framed Mine code G t p m s st x lanes has.0 refl shape
          (scratch_lane kernel width f atoms counts r0 framed of) w2.0 w1.1
          (length-map (lanes_of st.registers right.at) (convert_lane (bits_in x.bank) (amount_type of) right.of) ∙
          rlen) (λ after w.
          let st1 = with_registers st after in
          let above1 : Above f width r0 after =
          λ y l ltl b more. scratch_above kernel width f atoms counts r0 framed st.registers of _ _ after w y l
          ltl b more ∙ above y l ltl b more in
          let same_mask : (l : ℕ) → mask_at after m l ≡ mask_at st.registers m l =
          λ l. ap (λ rows. slice_index_or (slice_index_or rows m []) l false) w.masks in
          let o2 = one after above1 in
          binary_result (Gives st.registers (kir.Binary op of a b)) op of to tg ra x o2.bank
          (register_bank f.scratch of) m t (p + 1) st1 w.shape has.1
          (λ l z ltl on g.
          let va = atom_value g.0.cells a in
          let vb = atom_value g.0.cells b in
          let vb' = atom_value g.0.cells (right_atom op of b) in
          let q : value_at after x l ≡ lane (bits_in (bank_of of)) (wrap_of (amount_type of) vb') =
          w.here l ltl (sym (same_mask l) ∙ on)
          ∙ get_or-map (convert_lane (bits_in x.bank) (amount_type of) right.of) (lanes_of st.registers right.at) l 0
          0 (let h = rlen in omega arith)
          ∙ ap (λ u. convert_lane (bits_in x.bank) (amount_type of) u (value_at st.registers right.at l)) rt.is.typed
          ∙ ap (convert_lane (bits_in x.bank) (amount_type of) rt.ty)
          (rt.is.holds l g.0.cells ltl (read_b st.registers l g.0.cells rt g.2))
          ∙ convert_is (bits_in x.bank) (amount_type of) rt.ty vb' (rt.typed g.0.cells g.1.typed)
          ∙ ap (λ b. lane (bits_in b) (wrap_of (amount_type of) vb')) (register_bank f.scratch of) in
          results z va vb g.3 _ (binary_gives op of va vb (wrap_of (amount_type of) vb') (bank_of of)
          (value_at after ra l) (value_at after x l) (type_lane of) (value_of_a g.0 g.1.typed)
          (o2.holds l g.0.cells ltl (λ d o h rd.
          w.there o.at l ltl (entry_lane kernel width f atoms counts r0 framed d o h)
          (scratch_differs kernel width f atoms counts r0 framed d o of h) ∙
          read_a st.registers l g.0.cells g.2 d o h rd))
          (λ n. absurd (true≢false (sym shift ∙ n)))
          (λ h. (q, amount_wrap of vb' ∙ rt.amount g.0.cells))))
          (λ st2 done. subst (λ n. G (code_end Mine code t n st2))
          (back_first p (suc (length (brought f of kind toreg (mask_reg m)))))
          (go st2 (worked_after _ m (cell_at f.cells to) of st after _ _ st2 w done))))
