-- The registers of a region: each named cell has one of its own, and constants stand above.
use Rattle.std.proofs.Common.{◌≡◌, ℕ, zero, suc, ◌+◌, ◌<◌, ◌≤◌, List, [], ◌∷◌, ◌++◌, length, replicate, Some}
use Rattle.std.proofs.Common.{None, slice_get, refl, sym, ap, ◌∙◌, ⊎_elim, ◌⊎◌, arith, cond}
use Rattle.std.specs.Prelude.{slice_index_or, slice_set, nat_eq, option_map}
use Rattle.std.specs.Prelude.{Bool as Test, true, false}
use Rattle.std.proofs.lemmas.Bool.{true≢false, cases_eq, cases_lt, or_cases, eqb-true, or_left, or_right}
use Rattle.std.proofs.lemmas.List.{get_or-set_same, get_or-set_other, length-replicate}
use Rattle.std.proofs.lemmas.Option.{none-some, same_Some}
use Rattle.wg_num.specs.declared.types.IntType.{IntType}
use Rattle.wg_num.specs.declared.types.IntType.TheVariants as types
use Rattle.kir.specs.declared.line.Atom.{Atom}
use Rattle.kir.specs.declared.line.Atom.TheVariants.{Const, Cell as CellAtom}
use Rattle.kir.specs.Tree.{Cell, Kernel}
use Rattle.kir.specs.Live.{reads, some_reads}
use Rattle.lane_code.specs.declared.step.Bank.{Bank}
use Rattle.lane_code.specs.declared.step.Bank.TheVariants.{Narrow, Wide, Mask, Scalar}
use Rattle.lane_code.specs.declared.step.Reg.{Reg}
use Rattle.lane_code.specs.Fits.{bank_of}
use Rattle.lane_code.specs.Registers.{Registers}
use Rattle.mask_lower.specs.declared.registers.Free.{Free}
use Rattle.mask_lower.specs.declared.registers.Operand.{Operand}
use Rattle.mask_lower.specs.Banks.{is_wide, register_at, advanced}
use Rattle.mask_lower.specs.Registers.{Frame, frame_for, marks_of, marked, cells_from, behind_cells, all_free}
use Rattle.mask_lower.specs.Registers.{past_atom, past}
use Rattle.mask_lower_correct.specs.View.{is_lane, Differ}
use Rattle.mask_lower_correct.specs.Framed.{number_in, IsFramed, Held}

-- ---- the register for a type

pub register_bank : (next : Free) (of : IntType) → (register_at next of).bank ≡ bank_of of
register_bank next types.Bool = refl
register_bank next types.Char = refl
register_bank next types.Uchar = refl
register_bank next types.Short = refl
register_bank next types.Ushort = refl
register_bank next types.Int = refl
register_bank next types.Uint = refl
register_bank next types.Long = refl
register_bank next types.Ulong = refl

pub register_number : (next : Free) (of : IntType) → (register_at next of).number ≡ number_in next (bank_of of)
register_number next types.Bool = refl
register_number next types.Char = refl
register_number next types.Uchar = refl
register_number next types.Short = refl
register_number next types.Ushort = refl
register_number next types.Int = refl
register_number next types.Uint = refl
register_number next types.Long = refl
register_number next types.Ulong = refl

pub type_lane : (of : IntType) → is_lane (bank_of of) ≡ true
type_lane types.Bool = refl
type_lane types.Char = refl
type_lane types.Uchar = refl
type_lane types.Short = refl
type_lane types.Ushort = refl
type_lane types.Int = refl
type_lane types.Uint = refl
type_lane types.Long = refl
type_lane types.Ulong = refl

-- a register more is in use
pub advanced_same : (next : Free) (of : IntType) →
    number_in (advanced next of) (bank_of of) ≡ number_in next (bank_of of) + 1
advanced_same next types.Bool = refl
advanced_same next types.Char = refl
advanced_same next types.Uchar = refl
advanced_same next types.Short = refl
advanced_same next types.Ushort = refl
advanced_same next types.Int = refl
advanced_same next types.Uint = refl
advanced_same next types.Long = refl
advanced_same next types.Ulong = refl

pub advanced_more : (next : Free) (of : IntType) (b : Bank) → number_in next b ≤ number_in (advanced next of) b
advanced_more next of b = go (is_wide of) b
  where
    go : (w : Test) (b : Bank) → number_in next b ≤
        number_in (cond w (record next { wide = next.wide + 1 }) (record next { narrow = next.narrow + 1 })) b
    go true Narrow = omega arith
    go true Wide = omega arith
    go true Mask = omega arith
    go true Scalar = omega arith
    go false Narrow = omega arith
    go false Wide = omega arith
    go false Mask = omega arith
    go false Scalar = omega arith

-- ---- the cells' registers

-- an entry of the table of cells, where these registers were free before it and those behind
record Entry (next last : Free) (cells : List Cell) (i : ℕ) (op : Operand) : Type 0 where
  cell : Cell
  there : slice_get cells i ≡ Some cell
  typed : cell.of ≡ op.of
  bank : op.at.bank ≡ bank_of op.of
  low : number_in next op.at.bank ≤ op.at.number
  high : op.at.number < number_in last op.at.bank

behind_more : (marks : List Test) (next : Free) (number : ℕ) (cells : List Cell) (b : Bank) →
    number_in next b ≤ number_in (behind_cells marks next number cells) b
behind_more marks next number [] b = omega arith
behind_more marks next number (cell ∷ cells) b =
    go (slice_index_or marks number false) (behind_more marks (advanced next cell.of) (number + 1) cells b)
    (behind_more marks next (number + 1) cells b)
  where
    go : (m : Test) → number_in (advanced next cell.of) b ≤
        number_in (behind_cells marks (advanced next cell.of) (number + 1) cells) b →
        number_in next b ≤ number_in (behind_cells marks next (number + 1) cells) b
        → number_in next b ≤ number_in (cond m (behind_cells marks (advanced next cell.of) (number + 1) cells)
        (behind_cells marks next (number + 1) cells)) b
    go true more same = let one = advanced_more next cell.of b in omega arith
    go false more same = same

later_entry : (next next' last : Free) (cell : Cell) (cells : List Cell) (i : ℕ) (op : Operand) →
    ((b : Bank) → number_in next b ≤ number_in next' b) → Entry next' last cells i op →
    Entry next last (cell ∷ cells) (suc i) op
later_entry next next' last cell cells i op more e = record {
  cell = e.cell;
  there = e.there;
  typed = e.typed;
  bank = e.bank;
  low = let l = e.low in let m = more op.at.bank in omega arith;
  high = e.high;
}

-- each entry that is there is one
entry_is : (marks : List Test) (next : Free) (number : ℕ) (cells : List Cell) (i : ℕ) (op : Operand) →
    slice_index_or (cells_from marks next number cells) i None ≡ Some op →
    Entry next (behind_cells marks next number cells) cells i op
entry_is marks next number [] i op e = absurd (none-some op e)
entry_is marks next number (cell ∷ cells) i op e =
    go (slice_index_or marks number false) i (λ j h. entry_is marks (advanced next cell.of) (number + 1) cells j op h)
    (λ j h. entry_is marks next (number + 1) cells j op h) e
  where
    first : register_at next cell.of ≡ op.at → cell.of ≡ op.of →
        Entry next (behind_cells marks (advanced next cell.of) (number + 1) cells) (cell ∷ cells) 0 op
    first at of =
        let bank : op.at.bank ≡ bank_of op.of =
        ap (λ (x : Reg). x.bank) (sym at) ∙ register_bank next cell.of ∙ ap bank_of of in
        let num : op.at.number ≡ number_in next op.at.bank = ap (λ (x : Reg). x.number) (sym at) ∙
        register_number next cell.of ∙ ap (number_in next) (ap bank_of of ∙ sym bank) in
        let same : number_in (advanced next cell.of) op.at.bank ≡ number_in next op.at.bank + 1 =
        ap (number_in (advanced next cell.of)) (bank ∙ ap bank_of (sym of)) ∙ advanced_same next cell.of ∙
        ap (λ b. number_in next b + 1) (ap bank_of of ∙ sym bank) in
        let more = behind_more marks (advanced next cell.of) (number + 1) cells op.at.bank in
        record { cell = cell; there = refl; typed = of; bank = bank; low = omega arith; high = omega arith }

    go : (m : Test) (i : ℕ)
        → ((j : ℕ) → slice_index_or (cells_from marks (advanced next cell.of) (number + 1) cells) j None ≡ Some op →
        Entry (advanced next cell.of) (behind_cells marks (advanced next cell.of) (number + 1) cells) cells j op)
        → ((j : ℕ) → slice_index_or (cells_from marks next (number + 1) cells) j None ≡ Some op →
        Entry next (behind_cells marks next (number + 1) cells) cells j op)
        → slice_index_or (cond m (Some (record { of = cell.of; at = register_at next cell.of }) ∷
        cells_from marks (advanced next cell.of) (number + 1) cells)
        (None ∷ cells_from marks next (number + 1) cells)) i None ≡ Some op
        → Entry next (cond m (behind_cells marks (advanced next cell.of) (number + 1) cells)
        (behind_cells marks next (number + 1) cells)) (cell ∷ cells) i op
    go true zero more same_free e = let same =
        same_Some _ _ e in first (ap (λ (o : Operand). o.at) same) (ap (λ (o : Operand). o.of) same)
    go true (suc i) more same_free e =
        later_entry next (advanced next cell.of) _ cell cells i op (advanced_more next cell.of) (more i e)
    go false zero more same_free e = absurd (none-some op e)
    go false (suc i) more same_free e = later_entry next next _ cell cells i op (λ b. omega arith) (same_free i e)

-- a later entry has another register
entry_apart : (marks : List Test) (next : Free) (number : ℕ) (cells : List Cell) (i j : ℕ) (op op' : Operand) →
    i < j → slice_index_or (cells_from marks next number cells) i None ≡ Some op →
    slice_index_or (cells_from marks next number cells) j None ≡ Some op' → Differ op.at op'.at
entry_apart marks next number [] i j op op' lt e e' = absurd (none-some op e)
entry_apart marks next number (cell ∷ cells) i zero op op' lt e e' = absurd (omega arith)
entry_apart marks next number (cell ∷ cells) i (suc j) op op' lt e e' =
    go (slice_index_or marks number false) i (λ k lt h h'. entry_apart marks (advanced next cell.of) (number + 1)
    cells k j op op' lt h h') (λ k lt h h'. entry_apart marks next (number + 1) cells k j op op' lt h h') lt e e'
  where
    first : register_at next cell.of ≡ op.at →
        Entry (advanced next cell.of) (behind_cells marks (advanced next cell.of) (number + 1) cells) cells j op' →
        Differ op.at op'.at
    first at entry same_bank same_number =
        let bank : bank_of cell.of ≡ op'.at.bank =
        sym (register_bank next cell.of) ∙ ap (λ (x : Reg). x.bank) at ∙ same_bank in
        let num : op'.at.number ≡ number_in next op'.at.bank = sym same_number ∙ ap (λ (x : Reg). x.number) (sym at) ∙
        register_number next cell.of ∙ ap (number_in next) bank in
        let more : number_in (advanced next cell.of) op'.at.bank ≡ number_in next op'.at.bank + 1 =
        ap (number_in (advanced next cell.of)) (sym bank) ∙ advanced_same next cell.of ∙
        ap (λ b. number_in next b + 1) bank in
        let low = entry.low in
        omega arith

    go : (m : Test) (i : ℕ)
        → ((k : ℕ) → k < j → slice_index_or (cells_from marks (advanced next cell.of) (number + 1) cells) k None ≡
        Some op → slice_index_or (cells_from marks (advanced next cell.of) (number + 1) cells) j None ≡
        Some op' → Differ op.at op'.at)
        → ((k : ℕ) → k < j → slice_index_or (cells_from marks next (number + 1) cells) k None ≡ Some op →
        slice_index_or (cells_from marks next (number + 1) cells) j None ≡ Some op' → Differ op.at op'.at)
        → i < suc j → slice_index_or (cond m (Some (record { of = cell.of; at = register_at next cell.of }) ∷
        cells_from marks (advanced next cell.of) (number + 1) cells)
        (None ∷ cells_from marks next (number + 1) cells)) i None ≡ Some op
        → slice_index_or (cond m (Some (record { of = cell.of; at = register_at next cell.of }) ∷
        cells_from marks (advanced next cell.of) (number + 1) cells)
        (None ∷ cells_from marks next (number + 1) cells)) (suc j) None ≡ Some op' → Differ op.at op'.at
    go true zero more same_free lt e e' =
        first (ap (λ (o : Operand). o.at) (same_Some _ _ e)) (entry_is marks (advanced next cell.of) (number + 1)
        cells j op' e')
    go true (suc i) more same_free lt e e' = more i (omega arith) e e'
    go false zero more same_free lt e e' = absurd (none-some op e)
    go false (suc i) more same_free lt e e' = same_free i (omega arith) e e'

-- a marked cell has an entry
entry_there : (marks : List Test) (next : Free) (number : ℕ) (cells : List Cell) (i : ℕ) → i < length cells →
    slice_index_or marks (number + i) false ≡ true → (op : Operand) ×
    (slice_index_or (cells_from marks next number cells) i None ≡ Some op)
entry_there marks next number [] i lt e = absurd (omega arith)
entry_there marks next number (cell ∷ cells) zero lt e =
    let n : number + 0 ≡ number = omega arith in (
      record { of = cell.of; at = register_at next cell.of },
      ap (λ m. slice_index_or (cond m (Some (record { of = cell.of; at = register_at next cell.of }) ∷
          cells_from marks (advanced next cell.of) (number + 1) cells)
          (None ∷ cells_from marks next (number + 1) cells)) 0 None)
          (ap (λ k. slice_index_or marks k false) (sym n) ∙ e),
    )
entry_there marks next number (cell ∷ cells) (suc i) lt e =
    let n : number + 1 + i ≡ number + suc i = omega arith in
    let at : slice_index_or marks (number + 1 + i) false ≡ true = ap (λ k. slice_index_or marks k false) n ∙ e in
    go (slice_index_or marks number false) (entry_there marks (advanced next cell.of) (number + 1) cells i
    (omega arith) at) (entry_there marks next (number + 1) cells i (omega arith) at)
  where
    go : (m : Test) → (op : Operand) ×
        (slice_index_or (cells_from marks (advanced next cell.of) (number + 1) cells) i None ≡ Some op) →
        (op : Operand) × (slice_index_or (cells_from marks next (number + 1) cells) i None ≡ Some op) →
        (op : Operand) × (slice_index_or (cond m (Some (record { of = cell.of; at = register_at next cell.of }) ∷
        cells_from marks (advanced next cell.of) (number + 1) cells)
        (None ∷ cells_from marks next (number + 1) cells)) (suc i) None ≡ Some op)
    go true more same_free = more
    go false more same_free = same_free

-- what atoms name is marked
marked_kept : (marks : List Test) (atoms : List Atom) (c : ℕ) → slice_index_or marks c false ≡ true →
    slice_index_or (marked marks atoms) c false ≡ true
marked_kept marks [] c e = e
marked_kept marks (Const value of ∷ atoms) c e = marked_kept marks atoms c e
marked_kept marks (CellAtom d ∷ atoms) c e =
    marked_kept (slice_set marks d true) atoms c
    (⊎_elim
    (λ same. ⊎_elim
    (λ lt. ap (λ k. slice_index_or (slice_set marks k true) c false) same ∙ get_or-set_same marks c true false lt)
    (λ ge. absurd (true≢false (sym e ∙ Rattle.std.proofs.lemmas.List.get_or_past marks c false ge)))
    (cases_lt c (length marks)))
    (λ ne. get_or-set_other marks d c true false (λ h. ne (sym h)) ∙ e)
    (cases_eq d c))

marked_named : (marks : List Test) (atoms : List Atom) (c : ℕ) → c < length marks → some_reads c atoms ≡ true →
    slice_index_or (marked marks atoms) c false ≡ true
marked_named marks [] c lt e = absurd (true≢false (sym e))
marked_named marks (Const value of ∷ atoms) c lt e = marked_named marks atoms c lt e
marked_named marks (CellAtom d ∷ atoms) c lt e =
    let len = Rattle.std.proofs.Common.length-set marks d true in
    ⊎_elim
    (λ here. marked_kept (slice_set marks d true) atoms c (ap (λ k. slice_index_or (slice_set marks k true) c false)
    (sym (eqb-true c d here)) ∙ get_or-set_same marks c true false lt))
    (λ there. marked_named (slice_set marks d true) atoms c (omega arith) there)
    (or_cases (nat_eq c d) (some_reads c atoms) e)

-- the frame of a region
pub framed : (kernel : Kernel) (atoms : List Atom) → IsFramed kernel (frame_for kernel atoms) atoms
framed kernel atoms = record {
  entries = λ c op e. let x = entry_is (marks_of kernel atoms) all_free 0 kernel.cells c op e in
      record {
        typed = ap (option_map (λ (cell : Cell). cell.of)) x.there ∙ ap Some x.typed;
        bank = x.bank;
        below = x.high;
      };
  apart = λ c d op op' ne e e'.
      ⊎_elim
      (λ lt. entry_apart (marks_of kernel atoms) all_free 0 kernel.cells c d op op' lt e e')
      (λ ge. λ same_bank same_number. entry_apart (marks_of kernel atoms) all_free 0 kernel.cells d c op' op
      (let h : c ≡ d → ⊥ = ne in below c d h ge) e' e (sym same_bank) (sym same_number))
      (cases_lt c d);
  named = λ c e lt.
      let len = length-replicate (length kernel.cells) false in
      let n : 0 + c ≡ c = omega arith in
      entry_there (marks_of kernel atoms) all_free 0 kernel.cells c lt
      (ap (λ k. slice_index_or (marks_of kernel atoms) k false) n ∙
      marked_named (replicate (length kernel.cells) false) atoms c (omega arith) e);
}
  where
    below : (c d : ℕ) → (c ≡ d → ⊥) → d ≤ c → d < c
    below c d ne ge = ⊎_elim (λ same. absurd (ne same)) (λ h. omega arith) (cases_eq c d)

-- ---- atoms of lists

pub some_left : (c : ℕ) (xs ys : List Atom) → some_reads c xs ≡ true → some_reads c (xs ++ ys) ≡ true
some_left c [] ys e = absurd (true≢false (sym e))
some_left c (x ∷ xs) ys e = ⊎_elim (λ h. or_left (reads c x) (some_reads c (xs ++ ys)) h)
    (λ t. or_right (reads c x) (some_reads c (xs ++ ys)) (some_left c xs ys t))
    (or_cases (reads c x) (some_reads c xs) e)

pub some_right : (c : ℕ) (xs ys : List Atom) → some_reads c ys ≡ true → some_reads c (xs ++ ys) ≡ true
some_right c [] ys e = e
some_right c (x ∷ xs) ys e = or_right (reads c x) (some_reads c (xs ++ ys)) (some_right c xs ys e)

pub held_left : (f : Frame) (width : ℕ) (r : Registers) (next : Free) (xs ys : List Atom) →
    Held f width r next (xs ++ ys) → Held f width r next xs
held_left f width r next [] ys h = tt
held_left f width r next (x ∷ xs) ys h = (h.0, held_left f width r (past_atom next x) xs ys h.1)

pub held_right : (f : Frame) (width : ℕ) (r : Registers) (next : Free) (xs ys : List Atom) →
    Held f width r next (xs ++ ys) → Held f width r (past next xs) ys
held_right f width r next [] ys h = h
held_right f width r next (x ∷ xs) ys h = held_right f width r (past_atom next x) xs ys h.1
