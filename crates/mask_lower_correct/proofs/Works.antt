-- The code of each other line that computes: a built-in function, a conversion, a work-item function, an argument, a
-- copy.
use Rattle.std.proofs.Common.{◌≡◌, ℕ, zero, suc, ◌+◌, ◌*◌, ◌<◌, ℤ, pos, List, [], ◌∷◌, length, map, replicate}
use Rattle.std.proofs.Common.{Some, slice_get, refl, sym, ap, ap₂, ◌∙◌, subst, ⊎_elim, inl, inr, ◌⊎◌, arith}
use Rattle.std.specs.Prelude.{slice_index_or, ◌&&◌, ◌||◌, if◌then◌else◌}
use Rattle.std.specs.Prelude.{Bool as Test, true, false}
use Rattle.std.proofs.lemmas.Bool.{true≢false, and_parts, or_left, or_right}
use Rattle.std.proofs.lemmas.List.{get_or-map, length-map, length-replicate, get_or-replicate}
use Rattle.wg_num.specs.declared.types.IntType.{IntType}
use Rattle.wg_num.specs.declared.types.IntType.TheVariants as types
use Rattle.wg_num.specs.declared.types.Fun.{Fun}
use Rattle.wg_num.specs.declared.types.Fun.TheVariants as fun
use Rattle.wg_num.specs.Wrap.{value_of, wrap_of}
use Rattle.wg_num.specs.Builtins.{unsigned_of, result_type, builtin_of}
use Rattle.cl_model.specs.declared.program.Query.{Query}
use Rattle.cl_model.specs.Sizes.{Launch, group_size, answer_of}
use Rattle.cl_model.specs.Valid.{arity_of, query_type}
use Rattle.cl_model.specs.Meaning.{argument_value}
use Rattle.kir.specs.declared.line.Atom.{Atom}
use Rattle.kir.specs.Tree.{Work, Kernel}
use Rattle.kir.specs.Tree as kir
use Rattle.kir.specs.Live.{reads, some_reads}
use Rattle.kir.specs.Steps.{atom_value}
use Rattle.kir.specs.Fits.{has_type, have_types, atom_type, type_of_parameter, cell_takes}
use Rattle.kir.proofs.CellTypes.{has_type_is}
use Rattle.kir.proofs.CellTypes.{atom_typed}
use Rattle.lane_values.specs.Lanes.{lane, builtin_lane, convert_lane, zip3}
use Rattle.lane_code.specs.declared.step.Step.{Step}
use Rattle.lane_code.specs.declared.step.Step.TheVariants as step
use Rattle.lane_code.specs.declared.step.Reg.{Reg}
use Rattle.lane_code.specs.declared.code.Counts.{Counts}
use Rattle.lane_code.specs.Registers.{Registers, bits_in, lanes_of, lane_count}
use Rattle.lane_code.specs.Fits.{bank_of, is_below, is_code}
use Rattle.lane_code.specs.Acts.{State, act, writes, with_registers, answers}
use Rattle.lane_code.specs.Meaning.{Ended, code_end}
use Rattle.lane_laws.specs.Places.{HasAt}
use Rattle.lane_laws.specs.Reading.{mask_at}
use Rattle.mask_lower.specs.declared.registers.Free.{Free}
use Rattle.mask_lower.specs.Banks.{mask_reg}
use Rattle.mask_lower.specs.Registers.{Frame, cell_at, operand, past_atom}
use Rattle.mask_lower.specs.Lowered.{keeps_lane, work_code}
use Rattle.mask_lower_correct.specs.View.{value_at, is_lane, Shaped}
use Rattle.mask_lower_correct.specs.Framed.{IsFramed, Held}
use Rattle.mask_lower_correct.specs.Sim.{Above}
use Rattle.mask_lower_correct.proofs.LaneValues.{lane_in, value_lane, kept_lane}
use Rattle.mask_lower_correct.proofs.View.{code_well, lanes_length, lane_count_is, zip3_read, zip3_length}
use Rattle.mask_lower_correct.proofs.Frames.{type_lane}
use Rattle.mask_lower_correct.proofs.Atoms.{IsOperand, operand_is, entry_lane, cell_above, writes_step}
use Rattle.mask_lower_correct.proofs.Work.{convert_is, Worked, Mine, Gives, Works, Target, target, some_type}
use Rattle.mask_lower_correct.proofs.Work.{unary_works, binary_works}

-- ---- what lanes are given

pub answers_read : (bits : ℕ) (launch : Launch) (item : ℕ) (what : Query) (dims : List ℕ) (l : ℕ) → l < length dims →
    slice_index_or (answers bits launch item what dims) l 0 ≡
    lane bits (answer_of launch (item + l) what (value_of types.Uint (slice_index_or dims l 0)))
answers_read bits launch item what [] l lt = absurd (omega arith)
answers_read bits launch item what (d ∷ dims) zero lt = let e : item ≡ item + 0 =
    omega arith in ap (λ k. lane bits (answer_of launch k what (value_of types.Uint d))) e
answers_read bits launch item what (d ∷ dims) (suc l) lt =
    let e : suc item + l ≡ item + suc l = omega arith in
    answers_read bits launch (suc item) what dims l (omega arith) ∙
    ap (λ k. lane bits (answer_of launch k what (value_of types.Uint (slice_index_or dims l 0)))) e

pub answers_length : (bits : ℕ) (launch : Launch) (item : ℕ) (what : Query) (dims : List ℕ) →
    length (answers bits launch item what dims) ≡ length dims
answers_length bits launch item what [] = refl
answers_length bits launch item what (d ∷ dims) = ap suc (answers_length bits launch (suc item) what dims)

-- ---- built-in functions

unsigned_bank : (t : IntType) → bank_of (unsigned_of t) ≡ bank_of t
unsigned_bank types.Bool = refl
unsigned_bank types.Char = refl
unsigned_bank types.Uchar = refl
unsigned_bank types.Short = refl
unsigned_bank types.Ushort = refl
unsigned_bank types.Int = refl
unsigned_bank types.Uint = refl
unsigned_bank types.Long = refl
unsigned_bank types.Ulong = refl

result_same_bank : (g : Fun) (t : IntType) → bank_of (result_type g t) ≡ bank_of t
result_same_bank fun.Abs t = unsigned_bank t
result_same_bank fun.AbsDiff t = unsigned_bank t
result_same_bank fun.Min t = refl
result_same_bank fun.Max t = refl
result_same_bank fun.Clamp t = refl
result_same_bank fun.AddSat t = refl
result_same_bank fun.SubSat t = refl
result_same_bank fun.Hadd t = refl
result_same_bank fun.Rhadd t = refl
result_same_bank fun.MulHi t = refl
result_same_bank fun.Rotate t = refl
result_same_bank fun.Clz t = refl
result_same_bank fun.Popcount t = refl

-- what a function does not take is not read
one_read : (g : Fun) (t : IntType) (a b b' c c' : ℤ) → arity_of g ≡ 1 → builtin_of g t a b c ≡ builtin_of g t a b' c'
unfolding builtin_of
one_read fun.Abs t a b b' c c' e = refl
one_read fun.Clz t a b b' c c' e = refl
one_read fun.Popcount t a b b' c c' e = refl
one_read fun.AbsDiff t a b b' c c' e = absurd (omega arith)
one_read fun.Min t a b b' c c' e = absurd (omega arith)
one_read fun.Max t a b b' c c' e = absurd (omega arith)
one_read fun.Clamp t a b b' c c' e = absurd (omega arith)
one_read fun.AddSat t a b b' c c' e = absurd (omega arith)
one_read fun.SubSat t a b b' c c' e = absurd (omega arith)
one_read fun.Hadd t a b b' c c' e = absurd (omega arith)
one_read fun.Rhadd t a b b' c c' e = absurd (omega arith)
one_read fun.MulHi t a b b' c c' e = absurd (omega arith)
one_read fun.Rotate t a b b' c c' e = absurd (omega arith)

two_read : (g : Fun) (t : IntType) (a b c c' : ℤ) → arity_of g ≡ 2 → builtin_of g t a b c ≡ builtin_of g t a b c'
unfolding builtin_of
two_read fun.Abs t a b c c' e = refl
two_read fun.Clz t a b c c' e = refl
two_read fun.Popcount t a b c c' e = refl
two_read fun.AbsDiff t a b c c' e = refl
two_read fun.Min t a b c c' e = refl
two_read fun.Max t a b c c' e = refl
two_read fun.Clamp t a b c c' e = absurd (omega arith)
two_read fun.AddSat t a b c c' e = refl
two_read fun.SubSat t a b c c' e = refl
two_read fun.Hadd t a b c c' e = refl
two_read fun.Rhadd t a b c c' e = refl
two_read fun.MulHi t a b c c' e = refl
two_read fun.Rotate t a b c c' e = refl

arity_cases : (g : Fun) → (arity_of g ≡ 1) ⊎ ((arity_of g ≡ 2) ⊎ (arity_of g ≡ 3))
arity_cases fun.Abs = inl refl
arity_cases fun.Clz = inl refl
arity_cases fun.Popcount = inl refl
arity_cases fun.Clamp = inr (inr refl)
arity_cases fun.AbsDiff = inr (inl refl)
arity_cases fun.Min = inr (inl refl)
arity_cases fun.Max = inr (inl refl)
arity_cases fun.AddSat = inr (inl refl)
arity_cases fun.SubSat = inr (inl refl)
arity_cases fun.Hadd = inr (inl refl)
arity_cases fun.Rhadd = inr (inl refl)
arity_cases fun.MulHi = inr (inl refl)
arity_cases fun.Rotate = inr (inl refl)

-- of one of two things, as a test says
either_of : {A : Type 0} (P : A → Type 0) (b : Test) (x y : A) → (b ≡ true → P x) → (b ≡ false → P y) →
    P (if b then x else y)
either_of P true x y f g = f refl
either_of P false x y f g = g refl

module _ (kernel : Kernel) (launch : Launch) (width group first : ℕ) (f : Frame) (atoms : List Atom) (counts : Counts)
    (r0 : Registers) (framed : IsFramed kernel f atoms) (code : List Step) (valid : is_code counts code ≡ true)
    (G : Ended → Type 0) where
  abbrev DoesWork : Work → Type 0
  DoesWork = Works kernel launch width group first f atoms counts r0 framed code valid G

  abbrev GivesIt : Registers → Work → ℕ → ℤ → Type 0
  GivesIt = Gives kernel launch width group first f atoms counts r0 framed code valid G

  abbrev IsTarget : ℕ → IntType → Type 0
  IsTarget = Target kernel launch width group first f atoms counts r0 framed code valid G

  -- one step that leaves lanes of the cell's type in its register
  direct_runs : (P : ℕ → ℤ → Type 0) (kind : IntType) (to : ℕ) → IsTarget to kind →
      (m t p : ℕ) (st : State) (s : Step) (lanes : List ℕ)
      → slice_get code p ≡ Some s → act (Mine kernel launch width group first f atoms counts r0 framed code valid G) s
      st ≡ writes st (cell_at f.cells to).at (mask_reg m) lanes → Shaped counts width st.registers
      → is_below counts (cell_at f.cells to).at ≡ true → is_below counts (mask_reg m) ≡ true → length lanes ≡ width
      → ((l : ℕ) (z : ℤ) → l < width → mask_at st.registers m l ≡ true → P l z →
      slice_index_or lanes l 0 ≡ lane_in kind z)
      → ((st2 : State) → Worked kernel launch width group first f atoms counts r0 framed code valid G P m
      (cell_at f.cells to) st st2 → G
      (code_end (Mine kernel launch width group first f atoms counts r0 framed code valid G) code t (p + 1) st2))
      → G (code_end (Mine kernel launch width group first f atoms counts r0 framed code valid G) code t p st)
  direct_runs P kind to tg m t p st s lanes at does shape lt ltm len gives go =
      let op = cell_at f.cells to in
      writes_step kernel width f atoms counts r0 framed (Mine kernel launch width group first f atoms counts r0 framed
      code valid G) code G t p m s st op.at lanes at does shape
      (entry_lane kernel width f atoms counts r0 framed to op tg.entry) lt ltm len (λ after w.
      go (with_registers st after) (record {
        outer = record { group = refl; buffers = refl };
        masks = w.masks;
        shape = w.shape;
        above = cell_above kernel width f atoms counts r0 framed st.registers to op _ _ after tg.entry w;
        here = λ l z ltl on p. w.here l ltl on ∙ gives l z ltl on p ∙ ap (λ t. lane_in t z) (sym tg.is);
        idle = λ l ltl off d o h. w.idle o.at l ltl (entry_lane kernel width f atoms counts r0 framed d o h) off;
        there = λ l ltl d o h ne. w.there o.at l ltl (entry_lane kernel width f atoms counts r0 framed d o h) ne;
      }))

  -- the register of a named atom, before the step
  named_operand : (next : Free) (a : Atom) (ty : IntType) (r : Registers) → atom_type kernel a ≡ Some ty →
      ((c : ℕ) → reads c a ≡ true → some_reads c atoms ≡ true) →
      Rattle.mask_lower_correct.specs.Framed.HeldAt f width r0 next a → Above f width r0 r →
      IsOperand kernel width f atoms counts r0 framed next a ty r
  named_operand next a ty r e named held above =
      operand_is kernel width f atoms counts r0 framed next a ty r e named held above

  convert_works : (kind : IntType) (a : Atom) → DoesWork (kir.Convert kind a)
  convert_works kind a next m to p t st has fits takes named inside held above shape go =
      let tg = target kernel launch width group first f atoms counts r0 framed code valid G to kind takes named in
      let ty =
      some_type kernel launch width group first f atoms counts r0 framed code valid G (atom_type kernel a) fits in
      let one =
      named_operand next a ty.0 st.registers ty.1 (λ c e. inside c (or_left (reads c a) false e)) held.0 above in
      let x = operand f.cells next a in
      let toreg = (cell_at f.cells to).at in
      let copy = step.Copy toreg x.at (mask_reg m) in
      let convert = step.Convert toreg kind x.at x.of (mask_reg m) in
      let gives = GivesIt st.registers (kir.Convert kind a) in
      either_of
      (λ (s : Step). slice_get code p ≡ Some s →
      G (code_end (Mine kernel launch width group first f atoms counts r0 framed code valid G) code t p st))
      (keeps_lane x.of kind) copy convert
      (λ e at.
      let w1 = and_parts (is_below counts toreg && is_below counts x.at) (is_below counts (mask_reg m))
      (code_well counts code p copy valid at) in
      let w2 = and_parts (is_below counts toreg) (is_below counts x.at) w1.0 in
      let xlen = lanes_length counts width st.registers shape x.at (ap is_lane one.bank ∙ type_lane ty.0) w2.1 in
      direct_runs gives kind to tg m t p st copy (lanes_of st.registers x.at) at refl shape w2.0 w1.1 xlen
      (λ l z ltl on g.
      one.holds l g.0.cells ltl g.2 ∙
      kept_lane ty.0 kind (atom_value g.0.cells a) (atom_typed kernel g.0.cells a ty.0 g.1.typed ty.1)
      (subst (λ u. keeps_lane u kind ≡ true) one.typed e) ∙ ap (lane_in kind) g.3)
      go)
      (λ e at.
      let w1 = and_parts (is_below counts toreg && is_below counts x.at) (is_below counts (mask_reg m))
      (code_well counts code p convert valid at) in
      let w2 = and_parts (is_below counts toreg) (is_below counts x.at) w1.0 in
      let xlen = lanes_length counts width st.registers shape x.at (ap is_lane one.bank ∙ type_lane ty.0) w2.1 in
      direct_runs gives kind to tg m t p st convert
      (map (convert_lane (bits_in toreg.bank) kind x.of) (lanes_of st.registers x.at)) at refl shape w2.0 w1.1
      (length-map (lanes_of st.registers x.at) _ ∙ xlen)
      (λ l z ltl on g.
      get_or-map (convert_lane (bits_in toreg.bank) kind x.of) (lanes_of st.registers x.at) l 0 0 (let h = xlen in
      omega arith)
      ∙ ap (λ u. convert_lane (bits_in toreg.bank) kind u (value_at st.registers x.at l)) one.typed
      ∙ ap (convert_lane (bits_in toreg.bank) kind ty.0) (one.holds l g.0.cells ltl g.2)
      ∙ convert_is (bits_in toreg.bank) kind ty.0 (atom_value g.0.cells a)
      (atom_typed kernel g.0.cells a ty.0 g.1.typed ty.1)
      ∙ ap (λ b. lane (bits_in b) (wrap_of kind (atom_value g.0.cells a))) tg.bank ∙ ap (lane_in kind) g.3)
      go)
      has.0

  copy_works : (a : Atom) → DoesWork (kir.Copy a)
  copy_works a next m to p t st has fits takes named inside held above shape go =
      let ty =
      some_type kernel launch width group first f atoms counts r0 framed code valid G (atom_type kernel a) fits in
      let tg = target kernel launch width group first f atoms counts r0 framed code valid G to ty.0
      (subst (λ o. cell_takes kernel to o ≡ true) ty.1 takes) named in
      let one =
      named_operand next a ty.0 st.registers ty.1 (λ c e. inside c (or_left (reads c a) false e)) held.0 above in
      let x = operand f.cells next a in
      let toreg = (cell_at f.cells to).at in
      let s = step.Copy toreg x.at (mask_reg m) in
      let w1 = and_parts (is_below counts toreg && is_below counts x.at) (is_below counts (mask_reg m))
      (code_well counts code p s valid has.0) in
      let w2 = and_parts (is_below counts toreg) (is_below counts x.at) w1.0 in
      let xlen = lanes_length counts width st.registers shape x.at (ap is_lane one.bank ∙ type_lane ty.0) w2.1 in
      direct_runs (GivesIt st.registers (kir.Copy a)) ty.0 to tg m t p st s (lanes_of st.registers x.at) has.0 refl
      shape w2.0 w1.1 xlen
      (λ l z ltl on g. one.holds l g.0.cells ltl g.2 ∙ ap (lane_in ty.0) g.3)
      go

  ask_works : (what : Query) (dim : Atom) → DoesWork (kir.Ask what dim)
  ask_works what dim next m to p t st has fits takes named inside held above shape go =
      let kind = query_type what in
      let tg = target kernel launch width group first f atoms counts r0 framed code valid G to kind takes named in
      let is = has_type_is types.Uint (atom_type kernel dim) fits in
      let one = named_operand next dim types.Uint st.registers is (λ c e. inside c (or_left (reads c dim) false e))
      held.0 above in
      let x = operand f.cells next dim in
      let toreg = (cell_at f.cells to).at in
      let s = step.Ask what toreg x.at (mask_reg m) in
      let w1 = and_parts (is_below counts toreg && is_below counts x.at) (is_below counts (mask_reg m))
      (code_well counts code p s valid has.0) in
      let w2 = and_parts (is_below counts toreg) (is_below counts x.at) w1.0 in
      let xlen = lanes_length counts width st.registers shape x.at (ap is_lane one.bank ∙ type_lane types.Uint) w2.1 in
      let item = group * group_size launch + first in
      direct_runs (GivesIt st.registers (kir.Ask what dim)) kind to tg m t p st s
      (answers (bits_in toreg.bank) launch item what (lanes_of st.registers x.at)) has.0 refl shape w2.0 w1.1
      (answers_length (bits_in toreg.bank) launch item what (lanes_of st.registers x.at) ∙ xlen)
      (λ l z ltl on g.
      answers_read (bits_in toreg.bank) launch item what (lanes_of st.registers x.at) l (let h = xlen in omega arith)
      ∙ ap (λ n. lane (bits_in toreg.bank) (answer_of launch (item + l) what (value_of types.Uint n)))
      (one.holds l g.0.cells ltl g.2)
      ∙ ap (λ d. lane (bits_in toreg.bank) (answer_of launch (item + l) what d))
      (value_lane types.Uint (atom_value g.0.cells dim) (atom_typed kernel g.0.cells dim types.Uint g.1.typed is))
      ∙ ap (λ n. lane (bits_in toreg.bank) (answer_of launch n what (atom_value g.0.cells dim))) (sym g.1.numbered)
      ∙ ap (λ b. lane (bits_in b) (answer_of launch g.0.number what (atom_value g.0.cells dim))) tg.bank ∙
      ap (lane_in kind) g.3)
      go

  argument_works : (number : ℕ) → DoesWork (kir.Argument number)
  argument_works number next m to p t st has fits takes named inside held above shape go =
      let ty = some_type kernel launch width group first f atoms counts r0 framed code valid G
      (type_of_parameter (slice_get kernel.params number)) fits in
      let tg = target kernel launch width group first f atoms counts r0 framed code valid G to ty.0
      (subst (λ o. cell_takes kernel to o ≡ true) ty.1 takes) named in
      let toreg = (cell_at f.cells to).at in
      let s = step.Argument number toreg (mask_reg m) in
      let w =
      and_parts (is_below counts toreg) (is_below counts (mask_reg m)) (code_well counts code p s valid has.0) in
      let count = lane_count_is width toreg.bank (ap is_lane tg.bank ∙ type_lane ty.0) in
      let v = lane (bits_in toreg.bank) (argument_value (slice_get launch.args number)) in
      direct_runs (GivesIt st.registers (kir.Argument number)) ty.0 to tg m t p st s
      (replicate (lane_count width toreg.bank) v) has.0 refl shape w.0 w.1
      (length-replicate (lane_count width toreg.bank) v ∙ count)
      (λ l z ltl on g.
      get_or-replicate (lane_count width toreg.bank) l v 0 (let h = count in omega arith)
      ∙ ap (λ b. lane (bits_in b) (argument_value (slice_get launch.args number))) tg.bank ∙
      ap (lane_in ty.0) g.3)
      go

  -- the step of a built-in function, where it leaves the lanes of these values
  builtin_step : (P : ℕ → ℤ → Type 0) (g : Fun) (of : IntType) (to : ℕ) → IsTarget to (result_type g of) →
      (ra rb rc : Reg) → ra.bank ≡ bank_of of → rb.bank ≡ bank_of of → rc.bank ≡ bank_of of →
      (m t p : ℕ) (st : State) → Shaped counts width st.registers
      → slice_get code p ≡ Some (step.Builtin g of (cell_at f.cells to).at ra rb rc (mask_reg m))
      → ((l : ℕ) (z : ℤ) → l < width → mask_at st.registers m l ≡ true → P l z →
      builtin_of g of (value_of of (value_at st.registers ra l)) (value_of of (value_at st.registers rb l))
      (value_of of (value_at st.registers rc l)) ≡ z)
      → ((st2 : State) → Worked kernel launch width group first f atoms counts r0 framed code valid G P m
      (cell_at f.cells to) st st2 → G
      (code_end (Mine kernel launch width group first f atoms counts r0 framed code valid G) code t (p + 1) st2))
      → G (code_end (Mine kernel launch width group first f atoms counts r0 framed code valid G) code t p st)
  builtin_step P g of to tg ra rb rc ea eb ec m t p st shape at gives go =
      let toreg = (cell_at f.cells to).at in
      let s = step.Builtin g of toreg ra rb rc (mask_reg m) in
      let w1 = and_parts (is_below counts toreg && is_below counts ra && is_below counts rb && is_below counts rc)
      (is_below counts (mask_reg m)) (code_well counts code p s valid at) in
      let w2 =
      and_parts (is_below counts toreg && is_below counts ra && is_below counts rb) (is_below counts rc) w1.0 in
      let w3 = and_parts (is_below counts toreg && is_below counts ra) (is_below counts rb) w2.0 in
      let w4 = and_parts (is_below counts toreg) (is_below counts ra) w3.0 in
      let la = lanes_length counts width st.registers shape ra (ap is_lane ea ∙ type_lane of) w4.1 in
      let lb = lanes_length counts width st.registers shape rb (ap is_lane eb ∙ type_lane of) w3.1 in
      let lc = lanes_length counts width st.registers shape rc (ap is_lane ec ∙ type_lane of) w2.1 in
      let fn = builtin_lane (bits_in toreg.bank) g of in
      direct_runs P (result_type g of) to tg m t p st s (zip3 fn (lanes_of st.registers ra) (lanes_of st.registers rb)
      (lanes_of st.registers rc)) at refl shape w4.0 w1.1
      (zip3_length fn (lanes_of st.registers ra) (lanes_of st.registers rb) (lanes_of st.registers rc) (la ∙
      sym lb) (la ∙ sym lc) ∙ la)
      (λ l z ltl on p.
      zip3_read fn (lanes_of st.registers ra) (lanes_of st.registers rb) (lanes_of st.registers rc) l 0 0 0 0
      (let h = la in omega arith) (let h = lb in omega arith) (let h = lc in omega arith)
      ∙ ap (lane (bits_in toreg.bank)) (gives l z ltl on p) ∙ ap (λ b. lane (bits_in b) z) tg.bank)
      go

  one_arg : (of : IntType) (args : List Atom) → have_types kernel (of ∷ []) args ≡ true →
      (a : Atom) × (args ≡ a ∷ []) × (atom_type kernel a ≡ Some of)
  one_arg of [] e = absurd (true≢false (sym e))
  one_arg of (a ∷ []) e =
      (a, refl, has_type_is of (atom_type kernel a) (and_parts (has_type of (atom_type kernel a)) true e).0)
  one_arg of (a ∷ b ∷ args) e = absurd (true≢false (sym (and_parts (has_type of (atom_type kernel a)) false e).1))

  more_args : (of : IntType) (types : List IntType) (args : List Atom) → have_types kernel (of ∷ types) args ≡ true →
      (a : Atom) × (rest : List Atom) × (args ≡ a ∷ rest) × (atom_type kernel a ≡ Some of) ×
      (have_types kernel types rest ≡ true)
  more_args of types [] e = absurd (true≢false (sym e))
  more_args of types (a ∷ args) e = let p =
      and_parts (has_type of (atom_type kernel a)) (have_types kernel types args) e in
      (a, args, refl, has_type_is of (atom_type kernel a) p.0, p.1)

  builtin_works : (g : Fun) (of : IntType) (args : List Atom) → DoesWork (kir.Builtin g of args)
  builtin_works g of args next m to p t st has fits takes named inside held above shape go =
      ⊎_elim
      (λ n. let one = one_arg of args (subst (λ k. have_types kernel (replicate k of) args ≡ true) n fits) in
      by_one n one.0 args one.1 one.2 has inside held go)
      (λ more. ⊎_elim
      (λ n.
      let a = more_args of (of ∷ []) args (subst (λ k. have_types kernel (replicate k of) args ≡ true) n fits) in
      let b = one_arg of a.1 a.4 in
      by_two n a.0 b.0 args (a.2 ∙ ap (λ xs. a.0 ∷ xs) b.1) a.3 b.2 has inside held go)
      (λ n.
      let a = more_args of (of ∷ of ∷ []) args (subst (λ k. have_types kernel (replicate k of) args ≡ true) n fits) in
      let b = more_args of (of ∷ []) a.1 a.4 in
      let c = one_arg of b.1 b.4 in
      by_three a.0 b.0 c.0 args (a.2 ∙ ap (λ xs. a.0 ∷ xs) (b.2 ∙ ap (λ xs. b.0 ∷ xs) c.1)) a.3 b.3 c.2 has inside
      held go)
      more)
      (arity_cases g)
    where
      toreg : Reg
      toreg = (cell_at f.cells to).at

      tg : IsTarget to (result_type g of)
      tg =
          target kernel launch width group first f atoms counts r0 framed code valid G to (result_type g of) takes named

      tobank : toreg.bank ≡ bank_of of
      tobank = tg.bank ∙ result_same_bank g of

      by_one : arity_of g ≡ 1 → (a : Atom) (xs : List Atom) → xs ≡ a ∷ [] → atom_type kernel a ≡ Some of →
          HasAt code p (work_code f next toreg (mask_reg m) (kir.Builtin g of xs)) →
          ((c : ℕ) → some_reads c xs ≡ true → some_reads c atoms ≡ true) → Held f width r0 next xs
          → ((st2 : State) → Worked kernel launch width group first f atoms counts r0 framed code valid G
          (GivesIt st.registers (kir.Builtin g of xs)) m (cell_at f.cells to) st st2 →
          G (code_end (Mine kernel launch width group first f atoms counts r0 framed code valid G) code t
          (p + 1) st2))
          → G (code_end (Mine kernel launch width group first f atoms counts r0 framed code valid G) code t p st)
      by_one n a xs e ta has inside held go =
          go' (subst (λ ys. HasAt code p (work_code f next toreg (mask_reg m) (kir.Builtin g of ys))) e has)
          (subst (λ ys. (c : ℕ) → some_reads c ys ≡ true → some_reads c atoms ≡ true) e inside)
          (subst (Held f width r0 next) e held)
          (subst (λ ys. (st2 : State) → Worked kernel launch width group first f atoms counts r0 framed code valid G
          (GivesIt st.registers (kir.Builtin g of ys)) m (cell_at f.cells to) st st2 →
          G (code_end (Mine kernel launch width group first f atoms counts r0 framed code valid G) code t
          (p + 1) st2)) e go)
        where
          go' : HasAt code p (work_code f next toreg (mask_reg m) (kir.Builtin g of (a ∷ []))) →
              ((c : ℕ) → some_reads c (a ∷ []) ≡ true → some_reads c atoms ≡ true) → Held f width r0 next (a ∷ [])
              → ((st2 : State) → Worked kernel launch width group first f atoms counts r0 framed code valid G
              (GivesIt st.registers (kir.Builtin g of (a ∷ []))) m (cell_at f.cells to) st st2 →
              G (code_end (Mine kernel launch width group first f atoms counts r0 framed code valid G) code t
              (p + 1) st2))
              → G (code_end (Mine kernel launch width group first f atoms counts r0 framed code valid G) code t p st)
          go' has inside held go =
              let one = named_operand next a of st.registers ta (λ c h. inside c (or_left (reads c a) false h)) held.0
              above in
              builtin_step (GivesIt st.registers (kir.Builtin g of (a ∷ []))) g of to tg (operand f.cells next a).at
              toreg toreg one.bank tobank tobank m t p st shape has.0
              (λ l z ltl on q.
              let va = atom_value q.0.cells a in
              one_read g of (value_of of (value_at st.registers (operand f.cells next a).at l))
              (value_of of (value_at st.registers toreg l)) (pos 0) (value_of of (value_at st.registers toreg l))
              (pos 0) n
              ∙ ap (λ x. builtin_of g of x (pos 0) (pos 0))
              (ap (value_of of) (one.holds l q.0.cells ltl (λ c o h rd. q.2 c o h (or_left (reads c a) false rd)))
              ∙ value_lane of va (atom_typed kernel q.0.cells a of q.1.typed ta))
              ∙ q.3)
              go

      by_two : arity_of g ≡ 2 → (a b : Atom) (xs : List Atom) → xs ≡ a ∷ b ∷ [] → atom_type kernel a ≡ Some of →
          atom_type kernel b ≡ Some of → HasAt code p (work_code f next toreg (mask_reg m) (kir.Builtin g of xs)) →
          ((c : ℕ) → some_reads c xs ≡ true → some_reads c atoms ≡ true) → Held f width r0 next xs
          → ((st2 : State) → Worked kernel launch width group first f atoms counts r0 framed code valid G
          (GivesIt st.registers (kir.Builtin g of xs)) m (cell_at f.cells to) st st2 →
          G (code_end (Mine kernel launch width group first f atoms counts r0 framed code valid G) code t
          (p + 1) st2))
          → G (code_end (Mine kernel launch width group first f atoms counts r0 framed code valid G) code t p st)
      by_two n a b xs e ta tb has inside held go =
          go' (subst (λ ys. HasAt code p (work_code f next toreg (mask_reg m) (kir.Builtin g of ys))) e has)
          (subst (λ ys. (c : ℕ) → some_reads c ys ≡ true → some_reads c atoms ≡ true) e inside)
          (subst (Held f width r0 next) e held)
          (subst (λ ys. (st2 : State) → Worked kernel launch width group first f atoms counts r0 framed code valid G
          (GivesIt st.registers (kir.Builtin g of ys)) m (cell_at f.cells to) st st2 →
          G (code_end (Mine kernel launch width group first f atoms counts r0 framed code valid G) code t
          (p + 1) st2)) e go)
        where
          go' : HasAt code p (work_code f next toreg (mask_reg m) (kir.Builtin g of (a ∷ b ∷ []))) →
              ((c : ℕ) → some_reads c (a ∷ b ∷ []) ≡ true → some_reads c atoms ≡ true) →
              Held f width r0 next (a ∷ b ∷ [])
              → ((st2 : State) → Worked kernel launch width group first f atoms counts r0 framed code valid G
              (GivesIt st.registers (kir.Builtin g of (a ∷ b ∷ []))) m (cell_at f.cells to) st st2 →
              G (code_end (Mine kernel launch width group first f atoms counts r0 framed code valid G) code t
              (p + 1) st2))
              → G (code_end (Mine kernel launch width group first f atoms counts r0 framed code valid G) code t p st)
          go' has inside held go =
              let one = named_operand next a of st.registers ta
              (λ c h. inside c (or_left (reads c a) (reads c b || false) h)) held.0 above in
              let two = named_operand (past_atom next a) b of st.registers tb
              (λ c h. inside c (or_right (reads c a) (reads c b || false) (or_left (reads c b) false h))) held.1.0
              above in
              builtin_step (GivesIt st.registers (kir.Builtin g of (a ∷ b ∷ []))) g of to tg
              (operand f.cells next a).at (operand f.cells (past_atom next a) b).at toreg one.bank two.bank tobank
              m t p st shape has.0
              (λ l z ltl on q.
              let va = atom_value q.0.cells a in
              let vb = atom_value q.0.cells b in
              two_read g of (value_of of (value_at st.registers (operand f.cells next a).at l))
              (value_of of (value_at st.registers (operand f.cells (past_atom next a) b).at l))
              (value_of of (value_at st.registers toreg l)) (pos 0) n
              ∙ ap₂ (λ x y. builtin_of g of x y (pos 0))
              (ap (value_of of) (one.holds l q.0.cells ltl
              (λ c o h rd. q.2 c o h (or_left (reads c a) (reads c b || false) rd))) ∙
              value_lane of va (atom_typed kernel q.0.cells a of q.1.typed ta))
              (ap (value_of of) (two.holds l q.0.cells ltl
              (λ c o h rd. q.2 c o h (or_right (reads c a) (reads c b || false)
              (or_left (reads c b) false rd)))) ∙
              value_lane of vb (atom_typed kernel q.0.cells b of q.1.typed tb))
              ∙ q.3)
              go

      by_three : (a b c : Atom) (xs : List Atom) → xs ≡ a ∷ b ∷ c ∷ [] → atom_type kernel a ≡ Some of →
          atom_type kernel b ≡ Some of → atom_type kernel c ≡ Some of →
          HasAt code p (work_code f next toreg (mask_reg m) (kir.Builtin g of xs)) →
          ((c : ℕ) → some_reads c xs ≡ true → some_reads c atoms ≡ true) → Held f width r0 next xs
          → ((st2 : State) → Worked kernel launch width group first f atoms counts r0 framed code valid G
          (GivesIt st.registers (kir.Builtin g of xs)) m (cell_at f.cells to) st st2 →
          G (code_end (Mine kernel launch width group first f atoms counts r0 framed code valid G) code t
          (p + 1) st2))
          → G (code_end (Mine kernel launch width group first f atoms counts r0 framed code valid G) code t p st)
      by_three a b c xs e ta tb tc has inside held go =
          go' (subst (λ ys. HasAt code p (work_code f next toreg (mask_reg m) (kir.Builtin g of ys))) e has)
          (subst (λ ys. (c : ℕ) → some_reads c ys ≡ true → some_reads c atoms ≡ true) e inside)
          (subst (Held f width r0 next) e held)
          (subst (λ ys. (st2 : State) → Worked kernel launch width group first f atoms counts r0 framed code valid G
          (GivesIt st.registers (kir.Builtin g of ys)) m (cell_at f.cells to) st st2 →
          G (code_end (Mine kernel launch width group first f atoms counts r0 framed code valid G) code t
          (p + 1) st2)) e go)
        where
          in_two : (d : ℕ) → reads d b ≡ true → some_reads d (a ∷ b ∷ c ∷ []) ≡ true
          in_two d h =
              or_right (reads d a) (reads d b || (reads d c || false)) (or_left (reads d b) (reads d c || false) h)

          in_three : (d : ℕ) → reads d c ≡ true → some_reads d (a ∷ b ∷ c ∷ []) ≡ true
          in_three d h = or_right (reads d a) (reads d b || (reads d c || false))
              (or_right (reads d b) (reads d c || false) (or_left (reads d c) false h))

          go' : HasAt code p (work_code f next toreg (mask_reg m) (kir.Builtin g of (a ∷ b ∷ c ∷ []))) →
              ((d : ℕ) → some_reads d (a ∷ b ∷ c ∷ []) ≡ true → some_reads d atoms ≡ true) →
              Held f width r0 next (a ∷ b ∷ c ∷ [])
              → ((st2 : State) → Worked kernel launch width group first f atoms counts r0 framed code valid G
              (GivesIt st.registers (kir.Builtin g of (a ∷ b ∷ c ∷ []))) m (cell_at f.cells to) st st2 →
              G (code_end (Mine kernel launch width group first f atoms counts r0 framed code valid G) code t
              (p + 1) st2))
              → G (code_end (Mine kernel launch width group first f atoms counts r0 framed code valid G) code t p st)
          go' has inside held go =
              let one = named_operand next a of st.registers ta
              (λ d h. inside d (or_left (reads d a) (reads d b || (reads d c || false)) h)) held.0 above in
              let two =
              named_operand (past_atom next a) b of st.registers tb (λ d h. inside d (in_two d h)) held.1.0 above in
              let three = named_operand (past_atom (past_atom next a) b) c of st.registers tc
              (λ d h. inside d (in_three d h)) held.1.1.0 above in
              builtin_step (GivesIt st.registers (kir.Builtin g of (a ∷ b ∷ c ∷ []))) g of to tg
              (operand f.cells next a).at (operand f.cells (past_atom next a) b).at
              (operand f.cells (past_atom (past_atom next a) b) c).at one.bank two.bank three.bank m t p st shape
              has.0
              (λ l z ltl on q.
              let va = atom_value q.0.cells a in
              let vb = atom_value q.0.cells b in
              let vc = atom_value q.0.cells c in
              ap₂ (λ x y. builtin_of g of x y
              (value_of of (value_at st.registers (operand f.cells (past_atom (past_atom next a) b) c).at l)))
              (ap (value_of of) (one.holds l q.0.cells ltl
              (λ d o h rd. q.2 d o h (or_left (reads d a) (reads d b || (reads d c || false)) rd))) ∙
              value_lane of va (atom_typed kernel q.0.cells a of q.1.typed ta))
              (ap (value_of of) (two.holds l q.0.cells ltl (λ d o h rd. q.2 d o h (in_two d rd))) ∙
              value_lane of vb (atom_typed kernel q.0.cells b of q.1.typed tb))
              ∙ ap (λ y. builtin_of g of va vb y)
              (ap (value_of of) (three.holds l q.0.cells ltl (λ d o h rd. q.2 d o h (in_three d rd))) ∙
              value_lane of vc (atom_typed kernel q.0.cells c of q.1.typed tc))
              ∙ q.3)
              go

  -- each line that computes
  pub work_runs : (work : Work) → DoesWork work
  work_runs (kir.Unary op of a) =
      unary_works kernel launch width group first f atoms counts r0 framed code valid G op of a
  work_runs (kir.Binary op of a b) =
      binary_works kernel launch width group first f atoms counts r0 framed code valid G op of a b
  work_runs (kir.Builtin g of args) = builtin_works g of args
  work_runs (kir.Convert to a) = convert_works to a
  work_runs (kir.Ask what dim) = ask_works what dim
  work_runs (kir.Argument number) = argument_works number
  work_runs (kir.Copy a) = copy_works a
