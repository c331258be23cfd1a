-- How a region's code begins: constants go to their registers, and cells come from their homes.
use Rattle.std.proofs.Common.{◌≡◌, ℕ, suc, ◌+◌, ◌-◌, ◌%◌, ◌^◌, ◌<◌, ◌≤◌, ℤ, List, [], ◌∷◌, ◌++◌, length, replicate}
use Rattle.std.proofs.Common.{Option, Some, None, slice_get, refl, sym, ap, ◌∙◌, subst, ⊎_elim, arith, length-append}
use Rattle.std.proofs.Common.{mod-eq_of_lt, mod-lt}
use Rattle.std.specs.Prelude.{slice_index_or, slice_set}
use Rattle.std.specs.Prelude.{Bool as Test, true, false}
use Rattle.std.proofs.lemmas.Bool.{true≢false, and_parts, ltb-true, cases_eq}
use Rattle.std.proofs.lemmas.List.{get_or-map, length-map, length-replicate, get_or-replicate, get_or-set_same}
use Rattle.std.proofs.lemmas.List.{length-set}
use Rattle.std.proofs.lemmas.Option.{none-some, same_Some}
use Rattle.wg_num.specs.declared.types.IntType.{IntType}
use Rattle.wg_num.specs.Wrap.{bits_of}
use Rattle.wg_num.proofs.WrapLaws.{bits-lt}
use Rattle.wg_num.specs.Types.{is_value}
use Rattle.kir.specs.declared.line.Atom.{Atom}
use Rattle.kir.specs.declared.line.Atom.TheVariants.{Const, Cell as CellAtom}
use Rattle.kir.specs.Tree.{Lines, Kernel}
use Rattle.ctx_plan.specs.declared.plan.Home.{Home}
use Rattle.ctx_plan.specs.declared.plan.Home.TheVariants as home
use Rattle.lane_values.specs.Lanes.{lane}
use Rattle.lane_code.specs.declared.step.Bank.{Bank}
use Rattle.lane_code.specs.declared.step.Bank.TheVariants as bank
use Rattle.lane_code.specs.declared.step.Step.{Step}
use Rattle.lane_code.specs.declared.step.Step.TheVariants as step
use Rattle.lane_code.specs.declared.step.Reg.{Reg}
use Rattle.lane_code.specs.declared.code.Counts.{Counts}
use Rattle.lane_code.specs.Registers.{Registers, bits_in, lane_count, lanes_in, with_scalar}
use Rattle.lane_code.specs.Fits.{bank_of, is_below, is_code}
use Rattle.lane_code.specs.Groups.{Group, window}
use Rattle.lane_code.specs.Acts.{Chunk, State, with_registers, column_lanes}
use Rattle.lane_code.specs.Meaning.{Ended, code_end}
use Rattle.lane_laws.specs.Places.{HasAt}
use Rattle.lane_laws.proofs.Reading.{window_read, window_length}
use Rattle.lane_laws.proofs.Steps.{has_front, has_back, on_step}
use Rattle.mask_lower.specs.declared.registers.Free.{Free}
use Rattle.mask_lower.specs.declared.registers.Operand.{Operand}
use Rattle.mask_lower.specs.Banks.{register_at, advanced, slot_reg}
use Rattle.mask_lower.specs.Registers.{Frame, constants}
use Rattle.mask_lower.specs.Homes.{sets_first, get_code, cell_code, entry_code}
use Rattle.mask_lower.specs.Standing.{Holds}
use Rattle.mask_lower_correct.specs.View.{value_at, is_lane, Shaped, Wrote}
use Rattle.mask_lower_correct.specs.Framed.{number_in, IsFramed, Held}
use Rattle.mask_lower_correct.specs.Sim.{Above}
use Rattle.mask_lower_correct.proofs.LaneValues.{lane_in, lane_32, lane_64, zero_bits}
use Rattle.mask_lower_correct.proofs.View.{code_well, lane_count_is, fills_wrote}
use Rattle.mask_lower_correct.proofs.Frames.{register_bank, register_number, type_lane, advanced_more, advanced_same}
use Rattle.mask_lower_correct.proofs.Standing.{SameOuter, outer_then}
use Rattle.mask_lower_correct.proofs.Atoms.{entry_lane, cell_above}

-- ---- values at homes

narrow_whole : (v : ℤ) → lane 32 v % 2 ^ 32 ≡ lane 32 v
narrow_whole v =
    ap (λ n. n % 2 ^ 32) (lane_32 v) ∙ mod-eq_of_lt (mod-lt (bits_of v) {m = 2 ^ 32} (omega arith)) ∙ sym (lane_32 v)

-- the low bits of a pattern are the lane of its value
slot_lane : (b : Bank) (v : ℤ) → is_lane b ≡ true → bits_of v % 2 ^ bits_in b ≡ lane (bits_in b) v
slot_lane bank.Narrow v e = sym (lane_32 v)
slot_lane bank.Wide v e = mod-eq_of_lt (bits-lt v) ∙ sym (lane_64 v)
slot_lane bank.Mask v e = absurd (true≢false (sym e))
slot_lane bank.Scalar v e = absurd (true≢false (sym e))

-- a lane that comes from a column
column_lane : (b : Bank) (column : List ℕ) (first width l : ℕ) (v : ℤ) → is_lane b ≡ true → l < width →
    slice_index_or column (first + l) 0 ≡ lane (bits_in b) v →
    slice_index_or (column_lanes b (window 0 column first width)) l 0 ≡ lane (bits_in b) v
column_lane bank.Narrow column first width l v e lt is =
    get_or-map (λ x. x % 2 ^ 32) (window 0 column first width) l 0 0 (let n = window_length 0 column first width in
    omega arith)
    ∙ ap (λ n. n % 2 ^ 32) (window_read 0 column first width l 0 lt ∙ is) ∙ narrow_whole v
column_lane bank.Wide column first width l v e lt is = window_read 0 column first width l 0 lt ∙ is
column_lane bank.Mask column first width l v e lt is = absurd (true≢false (sym e))
column_lane bank.Scalar column first width l v e lt is = absurd (true≢false (sym e))

column_length : (b : Bank) (values : List ℕ) → length (column_lanes b values) ≡ length values
column_length bank.Narrow values = length-map values (λ x. x % 2 ^ 32)
column_length bank.Wide values = refl
column_length bank.Mask values = refl
column_length bank.Scalar values = refl

-- what a cell's register has got from its home: from registers alone, what it had
abbrev pub Loaded : Option Home → Group → (first width l : ℕ) → Bank → (before after : ℕ) → Type 0
Loaded None g first width l b before after = after ≡ before
Loaded (Some home.Register) g first width l b before after = after ≡ before
Loaded (Some (home.Column k)) g first width l b before after =
    after ≡ slice_index_or (column_lanes b (window 0 (slice_index_or g.columns k []) first width)) l 0
Loaded (Some (home.Once s)) g first width l b before after = after ≡ slice_index_or g.entries s 0 % 2 ^ bits_in b

-- so it is the lane of the value that the home holds
pub loaded_lane : (h : Home) (g : Group) (first width l : ℕ) (b : Bank) (of : IntType) (v : ℤ) (before after : ℕ) →
    b ≡ bank_of of → l < width → before ≡ 0 → Holds h of g.columns g.entries (first + l) v →
    Loaded (Some h) g first width l b before after → after ≡ lane_in of v
loaded_lane home.Register g first width l b of v before after e lt none h is =
    is ∙ none ∙ sym (zero_bits (bits_in (bank_of of))) ∙ ap (lane_in of) (sym h)
loaded_lane (home.Column k) g first width l b of v before after e lt none h is =
    is ∙ column_lane b (slice_index_or g.columns k []) first width l v (ap is_lane e ∙ type_lane of) lt (h ∙
    ap (λ x. lane (bits_in x) v) (sym e)) ∙ ap (λ x. lane (bits_in x) v) e
loaded_lane (home.Once s) g first width l b of v before after e lt none h is =
    is ∙ ap (λ n. n % 2 ^ bits_in b) h ∙ slot_lane b v (ap is_lane e ∙ type_lane of) ∙ ap (λ x. lane (bits_in x) v) e

module _ (kernel : Kernel) (mine : Chunk) (f : Frame) (atoms : List Atom) (counts : Counts) (r0 : Registers)
    (framed : IsFramed kernel f atoms) (code : List Step) (valid : is_code counts code ≡ true) (G : Ended →
    Type 0) where
  -- ---- constants

  pub record Filled (next : Free) (st st2 : State) : Type 0 where
    pub outer : SameOuter st st2
    pub masks : st2.registers.masks ≡ st.registers.masks
    pub shape : Shaped counts mine.width st2.registers
    pub below : (x : Reg) (l : ℕ) → l < mine.width → is_lane x.bank ≡ true → x.number < number_in next x.bank →
        value_at st2.registers x l ≡ value_at st.registers x l

  pub constants_run : (list : List Atom) (next : Free) (p t : ℕ) (st : State) → HasAt code p (constants next list) →
      ((of : IntType) → number_in f.scratch (bank_of of) < number_in next (bank_of of)) →
      Shaped counts mine.width st.registers
      → ((st2 : State) → Filled next st st2 → Held f mine.width st2.registers next list →
      G (code_end mine code t (p + length (constants next list)) st2)) → G (code_end mine code t p st)
  constants_run [] next p t st has more shape go =
      let e : p + 0 ≡ p = omega arith in
      subst (λ n. G (code_end mine code t n st)) e (go st (record {
        outer = record { group = refl; buffers = refl };
        masks = refl;
        shape = shape;
        below = λ x l lt b h. refl;
      }) tt)
  constants_run (CellAtom c ∷ list) next p t st has more shape go =
      constants_run list next p t st has more shape (λ st2 filled held. go st2 filled (tt, held))
  constants_run (Const value of ∷ list) next p t st has more shape go =
      let x = register_at next of in
      let v = lane (bits_in x.bank) value in
      let well = and_parts (is_below counts x) (is_value of value) (code_well counts code p (step.Const x of value)
      valid has.0) in
      let xlane : is_lane x.bank ≡ true = ap is_lane (register_bank next of) ∙ type_lane of in
      let count = lane_count_is mine.width x.bank xlane in
      let w = fills_wrote counts mine.width st.registers shape x (replicate (lane_count mine.width x.bank) v) xlane
      well.0 (length-replicate (lane_count mine.width x.bank) v ∙ count) in
      let st1 = with_registers st (Rattle.lane_code.specs.Registers.with_lanes st.registers x
      (replicate (lane_count mine.width x.bank) v)) in
      let len : p + 1 + length (constants (advanced next of) list) ≡ p +
      suc (length (constants (advanced next of) list)) = omega arith in
      on_step mine code G t p (step.Const x of value) st st1 has.0 refl
      (constants_run list (advanced next of) (p + 1) t st1 has.1 (λ ty. let m = more ty in
      let a = advanced_more next of (bank_of ty) in omega arith) w.shape (λ st2 filled held.
      subst (λ n. G (code_end mine code t n st2)) (sym len)
      (go st2
      (record {
        outer = record { group = filled.outer.group; buffers = filled.outer.buffers };
        masks = filled.masks ∙ w.masks;
        shape = filled.shape;
        below = λ y l lt b h. filled.below y l lt b (let a = advanced_more next of y.bank in omega arith) ∙
            w.there y l lt b (λ same_bank same_number. let n : y.number ≡ number_in next y.bank = same_number ∙
            register_number next of ∙ ap (number_in next) (sym (register_bank next of) ∙ sym same_bank) in
            omega arith);
      }) (
        (
          (let m = more of in let n = register_number next of in omega arith),
          λ l lt.
              filled.below x l lt xlane
              (let n : x.number ≡ number_in next x.bank = register_number next of ∙
              ap (number_in next) (sym (register_bank next of)) in
              let a : number_in (advanced next of) x.bank ≡ number_in next x.bank + 1 =
              ap (number_in (advanced next of)) (register_bank next of) ∙ advanced_same next of ∙
              ap (λ b. number_in next b + 1) (sym (register_bank next of)) in omega arith)
              ∙ w.here l lt refl ∙ get_or-replicate (lane_count mine.width x.bank) l v 0 (let c = count in
              omega arith) ∙ ap (λ b. lane (bits_in b) value) (register_bank next of),
        ),
        held,
      ))))

  -- ---- cells

  pub record Entered (homes : List Home) (lines : Lines) (number : ℕ) (st st2 : State) : Type 0 where
    pub outer : SameOuter st st2
    pub masks : st2.registers.masks ≡ st.registers.masks
    pub shape : Shaped counts mine.width st2.registers
    pub above : Above f mine.width st.registers st2.registers
    pub loaded : (c : ℕ) (op : Operand) → number ≤ c → slice_index_or f.cells c None ≡ Some op →
        sets_first c lines ≡ false → (l : ℕ) → l < mine.width →
        Loaded (slice_get homes c) st.group mine.first mine.width l op.at.bank (value_at st.registers op.at l)
        (value_at st2.registers op.at l)
    pub earlier : (c : ℕ) (op : Operand) → c < number → slice_index_or f.cells c None ≡ Some op → (l : ℕ) →
        l < mine.width → value_at st2.registers op.at l ≡ value_at st.registers op.at l

  -- one cell
  record Got (homes : List Home) (first : Test) (c : ℕ) (op : Operand) (st st1 : State) : Type 0 where
    outer : SameOuter st st1
    masks : st1.registers.masks ≡ st.registers.masks
    shape : Shaped counts mine.width st1.registers
    above : Above f mine.width st.registers st1.registers
    loaded : first ≡ false → (l : ℕ) → l < mine.width →
        Loaded (slice_get homes c) st.group mine.first mine.width l op.at.bank (value_at st.registers op.at l)
        (value_at st1.registers op.at l)
    others : (d : ℕ) (o : Operand) → (d ≡ c → ⊥) → slice_index_or f.cells d None ≡ Some o → (l : ℕ) → l < mine.width →
        value_at st1.registers o.at l ≡ value_at st.registers o.at l

  -- a slot's value in a scalar register
  scalar_shape : (r : Registers) (v : ℕ) → Shaped counts mine.width r →
      Shaped counts mine.width (with_scalar r slot_reg v)
  scalar_shape r v shape = record {
    narrow_count = shape.narrow_count;
    each_narrow = shape.each_narrow;
    wide_count = shape.wide_count;
    each_wide = shape.each_wide;
    mask_count = shape.mask_count;
    each_mask = shape.each_mask;
    scalar_count = length-set r.scalars 0 v ∙ shape.scalar_count;
  }

  scalar_other : (r : Registers) (v : ℕ) (b : Bank) (n l : ℕ) → is_lane b ≡ true →
      slice_index_or (lanes_in (with_scalar r slot_reg v) b n) l 0 ≡ slice_index_or (lanes_in r b n) l 0
  scalar_other r v bank.Narrow n l e = refl
  scalar_other r v bank.Wide n l e = refl
  scalar_other r v bank.Mask n l e = absurd (true≢false (sym e))
  scalar_other r v bank.Scalar n l e = absurd (true≢false (sym e))

  got_runs : (homes : List Home) (first : Test) (c : ℕ) (op : Operand) (p t : ℕ) (st : State) →
      slice_index_or f.cells c None ≡ Some op → HasAt code p (cell_code (Some op) first (slice_get homes c)) →
      Shaped counts mine.width st.registers
      → ((st1 : State) → Got homes first c op st st1 →
      G (code_end mine code t (p + length (cell_code (Some op) first (slice_get homes c))) st1)) →
      G (code_end mine code t p st)
  got_runs homes true c op p t st e has shape go =
      let n : p + 0 ≡ p = omega arith in
      subst (λ k. G (code_end mine code t k st)) n
      (go st (record {
        outer = record { group = refl; buffers = refl };
        masks = refl;
        shape = shape;
        above = λ x l lt b more. refl;
        loaded = λ first l lt. absurd (true≢false first);
        others = λ d o ne h l lt. refl;
      }))
  got_runs homes false c op p t st e has shape go = by (slice_get homes c) refl has go
    where
      oplane : is_lane op.at.bank ≡ true
      oplane = entry_lane kernel mine.width f atoms counts r0 framed c op e

      other : (w : Registers) (active : ℕ → Test) (value : ℕ → ℕ) (r : Registers) →
          Wrote counts mine.width r op.at active value w → (d : ℕ) (o : Operand) → (d ≡ c → ⊥) →
          slice_index_or f.cells d None ≡ Some o → (l : ℕ) → l < mine.width → value_at w o.at l ≡ value_at r o.at l
      other w active value r wrote d o ne h l lt =
          wrote.there o.at l lt (entry_lane kernel mine.width f atoms counts r0 framed d o h)
          (framed.apart d c o op ne h e)

      nothing : (h : Option Home) → slice_get homes c ≡ h →
          ((l : ℕ) → Loaded h st.group mine.first mine.width l op.at.bank (value_at st.registers op.at l)
          (value_at st.registers op.at l)) → Got homes false c op st st
      nothing h is same = record {
        outer = record { group = refl; buffers = refl };
        masks = refl;
        shape = shape;
        above = λ x l lt b more. refl;
        loaded = λ first l lt. subst (λ o. Loaded o st.group mine.first mine.width l op.at.bank
            (value_at st.registers op.at l) (value_at st.registers op.at l)) (sym is) (same l);
        others = λ d o ne h l lt. refl;
      }

      by : (h : Option Home) → slice_get homes c ≡ h → HasAt code p (get_code op.at h) →
          ((st1 : State) → Got homes false c op st st1 → G (code_end mine code t (p + length (get_code op.at h)) st1)) →
          G (code_end mine code t p st)
      by None is has go = let n : p + 0 ≡ p =
          omega arith in subst (λ k. G (code_end mine code t k st)) n (go st (nothing None is (λ l. refl)))
      by (Some home.Register) is has go = let n : p + 0 ≡ p = omega arith in
          subst (λ k. G (code_end mine code t k st)) n (go st (nothing (Some home.Register) is (λ l. refl)))
      by (Some (home.Column k)) is has go =
          let values = window 0 (slice_index_or st.group.columns k []) mine.first mine.width in
          let well = code_well counts code p (step.ColumnGet k op.at) valid has.0 in
          let w = fills_wrote counts mine.width st.registers shape op.at (column_lanes op.at.bank values) oplane well
          (column_length op.at.bank values ∙
          window_length 0 (slice_index_or st.group.columns k []) mine.first mine.width) in
          on_step mine code G t p (step.ColumnGet k op.at) st
          (with_registers st (Rattle.lane_code.specs.Registers.with_lanes st.registers op.at
          (column_lanes op.at.bank values))) has.0 refl
          (go _ (record {
            outer = record { group = refl; buffers = refl };
            masks = w.masks;
            shape = w.shape;
            above = cell_above kernel mine.width f atoms counts r0 framed st.registers c op _ _ _ e w;
            loaded = λ first l lt. subst (λ o. Loaded o st.group mine.first mine.width l op.at.bank
                (value_at st.registers op.at l)
                (value_at (Rattle.lane_code.specs.Registers.with_lanes st.registers op.at
                (column_lanes op.at.bank values)) op.at l)) (sym is) (w.here l lt refl);
            others = other _ _ _ st.registers w;
          }))
      by (Some (home.Once s)) is has go =
          let v = slice_index_or st.group.entries s 0 in
          let r1 = with_scalar st.registers slot_reg v in
          let st1 = with_registers st r1 in
          let well1 = code_well counts code p (step.OnceGet s slot_reg) valid has.0 in
          let well2 = and_parts (is_below counts op.at) (is_below counts slot_reg)
          (code_well counts code (p + 1) (step.Spread op.at slot_reg) valid has.1.0) in
          let within : 0 < length st.registers.scalars = let q = shape.scalar_count in let b =
          ltb-true 0 counts.scalars well1 in omega arith in
          let read : slice_index_or (slice_set st.registers.scalars 0 v) 0 0 ≡ v =
          get_or-set_same st.registers.scalars 0 v 0 within in
          let lanes =
          replicate mine.width (Rattle.lane_code.specs.Registers.scalar_of r1 slot_reg % 2 ^ bits_in op.at.bank) in
          let w = fills_wrote counts mine.width r1 (scalar_shape st.registers v shape) op.at lanes oplane well2.0
          (length-replicate mine.width (Rattle.lane_code.specs.Registers.scalar_of r1 slot_reg % 2 ^
          bits_in op.at.bank)) in
          let n : p + 1 + 1 ≡ p + 2 = omega arith in
          on_step mine code G t p (step.OnceGet s slot_reg) st st1 has.0 refl
          (on_step mine code G t (p + 1) (step.Spread op.at slot_reg) st1
          (with_registers st1 (Rattle.lane_code.specs.Registers.with_lanes r1 op.at lanes)) has.1.0 refl
          (subst (λ k. G (code_end mine code t k
          (with_registers st1 (Rattle.lane_code.specs.Registers.with_lanes r1 op.at lanes)))) (sym n)
          (go _ (record {
            outer = record { group = refl; buffers = refl };
            masks = w.masks;
            shape = w.shape;
            above = λ x l lt b more. cell_above kernel mine.width f atoms counts r0 framed r1 c op _ _ _ e w x l lt b
                more ∙ scalar_other st.registers v x.bank x.number l b;
            loaded = λ first l lt. subst (λ o. Loaded o st.group mine.first mine.width l op.at.bank
                (value_at st.registers op.at l)
                (value_at (Rattle.lane_code.specs.Registers.with_lanes r1 op.at lanes) op.at l)) (sym is)
                (w.here l lt refl ∙ get_or-replicate mine.width l (Rattle.lane_code.specs.Registers.scalar_of r1
                slot_reg % 2 ^ bits_in op.at.bank) 0 lt ∙ ap (λ k. k % 2 ^ bits_in op.at.bank) read);
            others = λ d o ne h l lt. other _ _ _ r1 w d o ne h l lt ∙
                scalar_other st.registers v o.at.bank o.at.number l (entry_lane kernel mine.width f atoms counts r0
                framed d o h);
          }))))

  pub entry_runs : (homes : List Home) (lines : Lines) (number : ℕ) (cells : List (Option Operand)) (p t : ℕ)
      (st : State) →
      ((i : ℕ) → slice_index_or f.cells (number + i) None ≡ slice_index_or cells i None) →
      HasAt code p (entry_code homes lines number cells) → Shaped counts mine.width st.registers
      → ((st2 : State) → Entered homes lines number st st2 →
      G (code_end mine code t (p + length (entry_code homes lines number cells)) st2)) → G (code_end mine code t p st)
  entry_runs homes lines number [] p t st is has shape go =
      let n : p + 0 ≡ p = omega arith in
      subst (λ k. G (code_end mine code t k st)) n
      (go st (record {
        outer = record { group = refl; buffers = refl };
        masks = refl;
        shape = shape;
        above = λ x l lt b more. refl;
        loaded = λ c op le e first l lt. absurd (none_behind c op le e);
        earlier = λ c op le e l lt. refl;
      }))
    where
      none_behind : (c : ℕ) (op : Operand) → number ≤ c → slice_index_or f.cells c None ≡ Some op → ⊥
      none_behind c op le e =
          let i = c - number in
          let at : number + i ≡ c = omega arith in
          none-some op (sym (is i) ∙ ap (λ k. slice_index_or f.cells k None) at ∙ e)
  entry_runs homes lines number (None ∷ cells) p t st is has shape go =
      entry_runs homes lines (number + 1) cells p t st (λ i. let n : number + 1 + i ≡ number + suc i = omega arith in
      ap (λ k. slice_index_or f.cells k None) n ∙ is (suc i)) has shape (λ st2 entered.
      go st2 (record {
        outer = entered.outer;
        masks = entered.masks;
        shape = entered.shape;
        above = entered.above;
        loaded = λ c op le e first l lt. ⊎_elim
            (λ same. absurd (none-some op (sym (let n : number + 0 ≡ number = omega arith in
            ap (λ k. slice_index_or f.cells k None) (sym same ∙ sym n) ∙ is 0) ∙ e)))
            (λ ne. entered.loaded c op (omega arith) e first l lt) (cases_eq number c);
        earlier = λ c op lt e l ltl. entered.earlier c op (omega arith) e l ltl;
      }))
  entry_runs homes lines number (Some op0 ∷ cells) p t st is has shape go =
      let gc = cell_code (Some op0) (sets_first number lines) (slice_get homes number) in
      let ec = entry_code homes lines (number + 1) cells in
      let zero_at : number + 0 ≡ number = omega arith in
      let e0 : slice_index_or f.cells number None ≡ Some op0 =
      ap (λ k. slice_index_or f.cells k None) (sym zero_at) ∙ is 0 in
      let len : p + length (gc ++ ec) ≡ p + length gc + length ec = omega (arith, length-append gc ec) in
      got_runs homes (sets_first number lines) number op0 p t st e0 (has_front code p gc ec has) shape (λ st1 got.
      entry_runs homes lines (number + 1) cells (p + length gc) t st1 (λ i. let n : number + 1 + i ≡ number +
      suc i = omega arith in ap (λ k. slice_index_or f.cells k None) n ∙ is (suc i)) (has_back code p gc ec has)
      got.shape (λ st2 entered.
      subst (λ k. G (code_end mine code t k st2)) len
      (go st2 (record {
        outer = outer_then st st1 st2 got.outer entered.outer;
        masks = entered.masks ∙ got.masks;
        shape = entered.shape;
        above = λ x l lt b more. entered.above x l lt b more ∙ got.above x l lt b more;
        loaded = λ c op le e first l lt. ⊎_elim
            (λ same. here c op same (same_Some _ _ (sym e0 ∙ ap (λ k. slice_index_or f.cells k None) same ∙ e))
            (ap (λ k. sets_first k lines) same ∙ first) l lt st1 st2 got
            (entered.earlier number op0 (omega arith) e0 l lt))
            (λ ne. later c op l st1 got (got.others c op (λ h. ne (sym h)) e l lt) (value_at st2.registers op.at l)
            (entered.loaded c op (omega arith) e first l lt))
            (cases_eq number c);
        earlier = λ c op lt e l ltl. entered.earlier c op (omega arith) e l ltl ∙
            got.others c op (λ h. omega (arith, h)) e l ltl;
      }))))
    where
      here : (c : ℕ) (op : Operand) → number ≡ c → op0 ≡ op → sets_first number lines ≡ false → (l : ℕ) →
          l < mine.width → (st1 st2 : State) → Got homes (sets_first number lines) number op0 st st1 →
          value_at st2.registers op0.at l ≡ value_at st1.registers op0.at l
          → Loaded (slice_get homes c) st.group mine.first mine.width l op.at.bank (value_at st.registers op.at l)
          (value_at st2.registers op.at l)
      here c op same is_op first l lt st1 st2 got kept =
          subst (λ k. Loaded (slice_get homes k) st.group mine.first mine.width l op.at.bank
          (value_at st.registers op.at l) (value_at st2.registers op.at l)) same
          (subst (λ (o : Operand). Loaded (slice_get homes number) st.group mine.first mine.width l o.at.bank
          (value_at st.registers o.at l) (value_at st2.registers o.at l)) is_op
          (subst (λ v. Loaded (slice_get homes number) st.group mine.first mine.width l op0.at.bank
          (value_at st.registers op0.at l) v) (sym kept) (got.loaded first l lt)))

      later : (c : ℕ) (op : Operand) (l : ℕ) (st1 : State) → Got homes (sets_first number lines) number op0 st st1 →
          value_at st1.registers op.at l ≡ value_at st.registers op.at l → (v : ℕ)
          → Loaded (slice_get homes c) st1.group mine.first mine.width l op.at.bank (value_at st1.registers op.at l)
          v → Loaded (slice_get homes c) st.group mine.first mine.width l op.at.bank
          (value_at st.registers op.at l) v
      later c op l st1 got same v is =
          subst (λ b. Loaded (slice_get homes c) st.group mine.first mine.width l op.at.bank b v) same
          (subst (λ g. Loaded (slice_get homes c) g mine.first mine.width l op.at.bank
          (value_at st1.registers op.at l) v) got.outer.group is)
