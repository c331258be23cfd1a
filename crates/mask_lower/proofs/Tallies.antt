-- The code of a region has for each site as many loads and stores as its lines.
use Rattle.std.proofs.Common.{◌≡◌, ℕ, ◌+◌, List, [], ◌∷◌, ◌++◌, Option, Some, None, length, slice_get, refl, sym, ap}
use Rattle.std.proofs.Common.{ap₂, ◌∙◌, arith, zero-add, add-zero, add_assoc, nat_eq, if◌then◌else◌}
use Rattle.std.proofs.Common.{Bool as Test, true, false}
use Rattle.cl_model.specs.Valid.{unary_type, binary_type}
use Rattle.kir.specs.declared.line.Atom.{Atom}
use Rattle.kir.specs.declared.line.Atom.TheVariants.{Const, Cell}
use Rattle.kir.specs.Tree as kir
use Rattle.kir.specs.Tree.{Work, Lines, NoLine, SetThen, LoadThen, StoreThen, ClearThen, IfThen, LoopThen}
use Rattle.kir.specs.Tree.{BarrierThen, Kernel}
use Rattle.kir.specs.Counts.{load_lines, store_lines}
use Rattle.ctx_plan.specs.declared.plan.Home.{Home}
use Rattle.ctx_plan.specs.declared.plan.Home.TheVariants.{Register, Column, Once}
use Rattle.lane_code.specs.declared.step.Reg.{Reg}
use Rattle.lane_code.specs.declared.step.Step.{Step}
use Rattle.lane_code.specs.declared.step.Step.TheVariants.{Load, Store}
use Rattle.lane_code.specs.declared.step.Step.TheVariants as step
use Rattle.regions.specs.Tree.{RegionOf}
use Rattle.mask_lower.specs.declared.registers.Free.{Free}
use Rattle.mask_lower.specs.declared.registers.Operand.{Operand}
use Rattle.mask_lower.specs.Banks.{crosses, mask_reg, advanced}
use Rattle.mask_lower.specs.Atoms.{right_atom, atoms_of, atoms_in, region_atoms}
use Rattle.mask_lower.specs.Registers.{Frame, frame_for, first_constants, cell_at, operand, past_atom, past, constants}
use Rattle.mask_lower.specs.Homes.{sets_first, get_code, cell_code, entry_code, put_cells, put_code, exit_code}
use Rattle.mask_lower.specs.Lowered.{moves, amount_moved, result_at, right_at, brought, keeps_lane, work_code, skipped}
use Rattle.mask_lower.specs.Lowered.{otherwise}
use Rattle.mask_lower.specs.Lowered.{turn_code, lines_code, vote_code, begun_code, region_steps}
use Rattle.mask_lower.specs.Counts.{load_steps, store_steps, SameAccesses}

-- each load and store counts for what its site does
module _ (l s : ℕ → ℕ) where
  abbrev tally : List Step → ℕ
  tally [] = 0
  tally (Load at of root index to mask ∷ steps) = l at + tally steps
  tally (Store at of root index from mask ∷ steps) = s at + tally steps
  tally (_ ∷ steps) = tally steps

  abbrev tally_lines : Lines → ℕ
  tally_lines NoLine = 0
  tally_lines (SetThen to work rest) = tally_lines rest
  tally_lines (LoadThen at to element root index rest) = l at + tally_lines rest
  tally_lines (StoreThen at element root index from rest) = s at + tally_lines rest
  tally_lines (ClearThen array rest) = tally_lines rest
  tally_lines (IfThen at test chosen other rest) = tally_lines chosen + (tally_lines other + tally_lines rest)
  tally_lines (LoopThen at test_first test answer body rest) = tally_lines test + (tally_lines body + tally_lines rest)
  tally_lines (BarrierThen at rest) = tally_lines rest

  tally-append : (xs ys : List Step) → tally (xs ++ ys) ≡ tally xs + tally ys
  tally-append [] ys = sym (zero-add (tally ys))
  tally-append (Load at of root index to mask ∷ xs) ys =
      ap (λ n. l at + n) (tally-append xs ys) ∙ sym (add_assoc (l at) (tally xs) (tally ys))
  tally-append (Store at of root index from mask ∷ xs) ys =
      ap (λ n. s at + n) (tally-append xs ys) ∙ sym (add_assoc (s at) (tally xs) (tally ys))
  tally-append (_ ∷ xs) ys = tally-append xs ys

  -- steps without an access, before others
  quiet_before : (xs ys : List Step) → tally xs ≡ 0 → tally (xs ++ ys) ≡ tally ys
  quiet_before xs ys quiet = tally-append xs ys ∙ ap (λ n. n + tally ys) quiet ∙ zero-add (tally ys)

  either_quiet : (b : Test) (xs ys : List Step) → tally xs ≡ 0 → tally ys ≡ 0 → tally (if b then xs else ys) ≡ 0
  either_quiet true xs ys p q = p
  either_quiet false xs ys p q = q

  work_quiet : (f : Frame) (next : Free) (to mask : Reg) (work : Work) → tally (work_code f next to mask work) ≡ 0
  work_quiet f next to mask (kir.Unary op of a) = either_quiet (crosses of (unary_type op of)) _ _ refl refl
  work_quiet f next to mask (kir.Binary op of a b) =
      let right = operand f.cells (past_atom next a) (right_atom op of b) in
      quiet_before (amount_moved f op of right mask) (step.Binary op of (result_at f of (binary_type op of) to)
      (operand f.cells next a).at (right_at f op of right) mask ∷ brought f of (binary_type op of) to mask)
      (either_quiet (moves op of right) _ _ refl refl) ∙ either_quiet (crosses of (binary_type op of)) _ _ refl refl
  work_quiet f next to mask (kir.Builtin g of args) = refl
  work_quiet f next to mask (kir.Convert kind a) = convert_quiet (keeps_lane (operand f.cells next a).of kind)
    where
      convert_quiet : (b : Test) → tally ((if b then step.Copy to (operand f.cells next a).at mask
          else step.Convert to kind (operand f.cells next a).at (operand f.cells next a).of mask) ∷ []) ≡ 0
      convert_quiet true = refl
      convert_quiet false = refl
  work_quiet f next to mask (kir.Ask what dim) = refl
  work_quiet f next to mask (kir.Argument number) = refl
  work_quiet f next to mask (kir.Copy a) = refl

  skipped_tally : (mask at : ℕ) (lines : Lines) (code : List Step) → tally code ≡ tally_lines lines →
      tally (skipped mask at lines code) ≡ tally_lines lines
  skipped_tally mask at NoLine code e = refl
  skipped_tally mask at (SetThen to work rest) code e = e
  skipped_tally mask at (LoadThen site to element root index rest) code e = e
  skipped_tally mask at (StoreThen site element root index from rest) code e = e
  skipped_tally mask at (ClearThen array rest) code e = e
  skipped_tally mask at (IfThen site test chosen other rest) code e = e
  skipped_tally mask at (LoopThen site test_first test answer body rest) code e = e
  skipped_tally mask at (BarrierThen site rest) code e = e

  otherwise_tally : (outer mask at : ℕ) (lines : Lines) (code : List Step) → tally code ≡ tally_lines lines →
      tally (otherwise outer mask at lines code) ≡ tally_lines lines
  otherwise_tally outer mask at NoLine code e = refl
  otherwise_tally outer mask at (SetThen to work rest) code e = e
  otherwise_tally outer mask at (LoadThen site to element root index rest) code e = e
  otherwise_tally outer mask at (StoreThen site element root index from rest) code e = e
  otherwise_tally outer mask at (ClearThen array rest) code e = e
  otherwise_tally outer mask at (IfThen site test chosen other rest) code e = e
  otherwise_tally outer mask at (LoopThen site test_first test answer body rest) code e = e
  otherwise_tally outer mask at (BarrierThen site rest) code e = e

  three : (xs ys zs : List Step) (a b c : ℕ) → tally xs ≡ a → tally ys ≡ b → tally zs ≡ c →
      tally (xs ++ (ys ++ zs)) ≡ a + (b + c)
  three xs ys zs a b c p q r =
      tally-append xs (ys ++ zs) ∙ ap₂ (λ m n. m + n) p (tally-append ys zs ∙ ap₂ (λ m n. m + n) q r)

  exchanged : (a b c : ℕ) → b + (a + c) ≡ a + (b + c)
  exchanged a b c = omega arith

  lines_tally : (f : Frame) (mask free at : ℕ) (next : Free) (lines : Lines) →
      tally (lines_code f mask free at next lines) ≡ tally_lines lines
  lines_tally f mask free at next NoLine = refl
  lines_tally f mask free at next (SetThen to work rest) =
      let here = work_code f next (cell_at f.cells to).at (mask_reg mask) work in
      quiet_before here (lines_code f mask free (at + length here) (past next (atoms_of work)) rest)
      (work_quiet f next (cell_at f.cells to).at (mask_reg mask) work)
      ∙ lines_tally f mask free (at + length here) (past next (atoms_of work)) rest
  lines_tally f mask free at next (LoadThen site to element root index rest) =
      ap (λ n. l site + n) (lines_tally f mask free (at + 1) (past_atom next index) rest)
  lines_tally f mask free at next (StoreThen site element root index from rest) =
      ap (λ n. s site + n) (lines_tally f mask free (at + 1) (past_atom (past_atom next index) from) rest)
  lines_tally f mask free at next (ClearThen array rest) = lines_tally f mask free (at + 1) next rest
  lines_tally f mask free at next (IfThen site test chosen other rest) =
      let next1 = past_atom next test in
      let yes_at = at + 1 in
      let yes = lines_code f free (free + 1) (yes_at + 1) next1 chosen in
      let yes_code = skipped free yes_at chosen yes in
      let next2 = past next1 (atoms_in chosen) in
      let no_at = yes_at + length yes_code in
      let no = lines_code f free (free + 1) (no_at + 1 + 1) next2 other in
      let no_code = otherwise mask free no_at other no in
      let next3 = past next2 (atoms_in other) in
      three yes_code no_code (lines_code f mask free (no_at + length no_code) next3 rest) (tally_lines chosen)
      (tally_lines other) (tally_lines rest)
      (skipped_tally free yes_at chosen yes (lines_tally f free (free + 1) (yes_at + 1) next1 chosen))
      (otherwise_tally mask free no_at other no (lines_tally f free (free + 1) (no_at + 1 + 1) next2 other))
      (lines_tally f mask free (no_at + length no_code) next3 rest)
  lines_tally f mask free at next (LoopThen site test_first test answer body rest) =
      let body_code = lines_code f free (free + 1) (at + 2) next body in
      let next1 = past next (atoms_in body) in
      let test_at = at + 2 + length body_code in
      let test_code = lines_code f free (free + 1) test_at next1 test in
      let next2 = past next1 (atoms_in test) in
      let turn_at = test_at + length test_code + 1 in
      let next3 = past_atom next2 answer in
      three body_code test_code (turn_code f free next2 (at + 2) answer ++ lines_code f mask free (turn_at + 1) next3
      rest) (tally_lines body) (tally_lines test) (tally_lines rest)
      (lines_tally f free (free + 1) (at + 2) next body)
      (lines_tally f free (free + 1) test_at next1 test)
      (lines_tally f mask free (turn_at + 1) next3 rest)
      ∙ exchanged (tally_lines test) (tally_lines body) (tally_lines rest)
  lines_tally f mask free at next (BarrierThen site rest) = lines_tally f mask free (at + 1) next rest

  constants_quiet : (next : Free) (atoms : List Atom) → tally (constants next atoms) ≡ 0
  constants_quiet next [] = refl
  constants_quiet next (Const value of ∷ atoms) = constants_quiet (advanced next of) atoms
  constants_quiet next (Cell c ∷ atoms) = constants_quiet next atoms

  get_quiet : (to : Reg) (h : Option Home) → tally (get_code to h) ≡ 0
  get_quiet to None = refl
  get_quiet to (Some Register) = refl
  get_quiet to (Some (Column k)) = refl
  get_quiet to (Some (Once k)) = refl

  cell_quiet : (cell : Option Operand) (first : Test) (h : Option Home) → tally (cell_code cell first h) ≡ 0
  cell_quiet None first h = refl
  cell_quiet (Some cell) true h = refl
  cell_quiet (Some cell) false h = get_quiet cell.at h

  entry_quiet : (homes : List Home) (lines : Lines) (number : ℕ) (cells : List (Option Operand)) →
      tally (entry_code homes lines number cells) ≡ 0
  entry_quiet homes lines number [] = refl
  entry_quiet homes lines number (cell ∷ cells) =
      quiet_before (cell_code cell (sets_first number lines) (slice_get homes number))
      (entry_code homes lines (number + 1) cells)
      (cell_quiet cell (sets_first number lines) (slice_get homes number)) ∙ entry_quiet homes lines (number + 1) cells

  put_quiet : (cell : Operand) (h : Option Home) → tally (put_code cell h) ≡ 0
  put_quiet cell None = refl
  put_quiet cell (Some Register) = refl
  put_quiet cell (Some (Column k)) = refl
  put_quiet cell (Some (Once k)) = refl

  exit_quiet : (homes : List Home) (cells : List (Option Operand)) (live : List ℕ) →
      tally (exit_code homes cells live) ≡ 0
  exit_quiet homes cells [] = refl
  exit_quiet homes cells (c ∷ live) =
      quiet_before (put_code (cell_at cells c) (slice_get homes c)) (exit_code homes cells live)
      (put_quiet (cell_at cells c) (slice_get homes c)) ∙ exit_quiet homes cells live

  vote_quiet : (f : Frame) (next : Free) (answer : Option Atom) → tally (vote_code f next answer) ≡ 0
  vote_quiet f next None = refl
  vote_quiet f next (Some answer) = refl

  rest_tally : (f : Frame) (at : ℕ) (next : Free) (site : ℕ) (test_first : Test) (test : Lines) (answer : Atom)
      (body rest : Lines)
      → tally (begun_code f at next true (LoopThen site test_first test answer body rest)) ≡
      tally_lines (LoopThen site test_first test answer body rest)
  rest_tally f at next site test_first test answer body NoLine =
      let body_code = lines_code f 1 2 (at + 3) next body in
      let next1 = past next (atoms_in body) in
      let test_at = at + 3 + length body_code in
      let test_code = lines_code f 1 2 test_at next1 test in
      let next2 = past next1 (atoms_in test) in
      three body_code test_code (turn_code f 1 next2 (at + 3) answer) (tally_lines body) (tally_lines test) 0
      (lines_tally f 1 2 (at + 3) next body) (lines_tally f 1 2 test_at next1 test) refl
      ∙ exchanged (tally_lines test) (tally_lines body) 0
  rest_tally f at next site test_first test answer body (SetThen to work rest) =
      lines_tally f 0 1 at next (LoopThen site test_first test answer body (SetThen to work rest))
  rest_tally f at next site test_first test answer body (LoadThen site' to element root index rest) =
      lines_tally f 0 1 at next (LoopThen site test_first test answer body (LoadThen site' to element root index rest))
  rest_tally f at next site test_first test answer body (StoreThen site' element root index from rest) =
      lines_tally f 0 1 at next (LoopThen site test_first test answer body
      (StoreThen site' element root index from rest))
  rest_tally f at next site test_first test answer body (ClearThen array rest) =
      lines_tally f 0 1 at next (LoopThen site test_first test answer body (ClearThen array rest))
  rest_tally f at next site test_first test answer body (IfThen site' test' chosen other rest) =
      lines_tally f 0 1 at next (LoopThen site test_first test answer body (IfThen site' test' chosen other rest))
  rest_tally f at next site test_first test answer body (LoopThen site' first' test' answer' body' rest) =
      lines_tally f 0 1 at next (LoopThen site test_first test answer body
      (LoopThen site' first' test' answer' body' rest))
  rest_tally f at next site test_first test answer body (BarrierThen site' rest) =
      lines_tally f 0 1 at next (LoopThen site test_first test answer body (BarrierThen site' rest))

  begun_tally : (f : Frame) (at : ℕ) (next : Free) (from_vote : Test) (lines : Lines) →
      tally (begun_code f at next from_vote lines) ≡ tally_lines lines
  begun_tally f at next false lines = lines_tally f 0 1 at next lines
  begun_tally f at next true NoLine = refl
  begun_tally f at next true (SetThen to work rest) = lines_tally f 0 1 at next (SetThen to work rest)
  begun_tally f at next true (LoadThen site to element root index rest) =
      lines_tally f 0 1 at next (LoadThen site to element root index rest)
  begun_tally f at next true (StoreThen site element root index from rest) =
      lines_tally f 0 1 at next (StoreThen site element root index from rest)
  begun_tally f at next true (ClearThen array rest) = lines_tally f 0 1 at next (ClearThen array rest)
  begun_tally f at next true (IfThen site test chosen other rest) =
      lines_tally f 0 1 at next (IfThen site test chosen other rest)
  begun_tally f at next true (LoopThen site test_first test answer body rest) =
      rest_tally f at next site test_first test answer body rest
  begun_tally f at next true (BarrierThen site rest) = lines_tally f 0 1 at next (BarrierThen site rest)

  region_tally : (kernel : Kernel) (homes : List Home) (region : RegionOf) →
      tally (region_steps kernel homes region) ≡ tally_lines region.lines
  region_tally kernel homes region =
      let atoms = region_atoms region in
      let f = frame_for kernel atoms in
      let next = first_constants f in
      let entry = entry_code homes region.lines 0 f.cells in
      let front = constants next atoms ++ entry in
      let lines = begun_code f (length front) next region.from_vote region.lines in
      let after = past next (atoms_in region.lines) in
      let vote = vote_code f after region.answer in
      let put = put_cells region.lines region.live in
      let exit = exit_code homes f.cells put in
      quiet_before front (lines ++ (vote ++ exit))
      (quiet_before (constants next atoms) entry (constants_quiet next atoms)
      ∙ entry_quiet homes region.lines 0 f.cells)
      ∙ tally-append lines (vote ++ exit)
      ∙ ap₂ (λ m n. m + n) (begun_tally f (length front) next region.from_vote region.lines)
      (quiet_before vote exit (vote_quiet f after region.answer) ∙ exit_quiet homes f.cells put)
      ∙ add-zero (tally_lines region.lines)

abbrev one_at : ℕ → ℕ → ℕ
one_at site at = if nat_eq site at then 1 else 0

abbrev none_at : ℕ → ℕ
none_at at = 0

loads_are : (site : ℕ) (steps : List Step) → load_steps site steps ≡ tally (one_at site) none_at steps
loads_are site [] = refl
loads_are site (Load at of root index to mask ∷ steps) = ap (λ n. one_at site at + n) (loads_are site steps)
loads_are site (Store at of root index from mask ∷ steps) =
    loads_are site steps ∙ sym (zero-add (tally (one_at site) none_at steps))
loads_are site (_ ∷ steps) = loads_are site steps

stores_are : (site : ℕ) (steps : List Step) → store_steps site steps ≡ tally none_at (one_at site) steps
stores_are site [] = refl
stores_are site (Load at of root index to mask ∷ steps) =
    stores_are site steps ∙ sym (zero-add (tally none_at (one_at site) steps))
stores_are site (Store at of root index from mask ∷ steps) = ap (λ n. one_at site at + n) (stores_are site steps)
stores_are site (_ ∷ steps) = stores_are site steps

load_lines_are : (site : ℕ) (lines : Lines) → load_lines site lines ≡ tally_lines (one_at site) none_at lines
load_lines_are site NoLine = refl
load_lines_are site (SetThen to work rest) = load_lines_are site rest
load_lines_are site (LoadThen at to element root index rest) = ap (λ n. one_at site at + n) (load_lines_are site rest)
load_lines_are site (StoreThen at element root index from rest) =
    load_lines_are site rest ∙ sym (zero-add (tally_lines (one_at site) none_at rest))
load_lines_are site (ClearThen array rest) = load_lines_are site rest
load_lines_are site (IfThen at test chosen other rest) =
    ap₂ (λ m n. m + n) (load_lines_are site chosen) (ap₂ (λ m n. m + n) (load_lines_are site other)
    (load_lines_are site rest))
load_lines_are site (LoopThen at test_first test answer body rest) =
    ap₂ (λ m n. m + n) (load_lines_are site test) (ap₂ (λ m n. m + n) (load_lines_are site body)
    (load_lines_are site rest))
load_lines_are site (BarrierThen at rest) = load_lines_are site rest

store_lines_are : (site : ℕ) (lines : Lines) → store_lines site lines ≡ tally_lines none_at (one_at site) lines
store_lines_are site NoLine = refl
store_lines_are site (SetThen to work rest) = store_lines_are site rest
store_lines_are site (LoadThen at to element root index rest) =
    store_lines_are site rest ∙ sym (zero-add (tally_lines none_at (one_at site) rest))
store_lines_are site (StoreThen at element root index from rest) =
    ap (λ n. one_at site at + n) (store_lines_are site rest)
store_lines_are site (ClearThen array rest) = store_lines_are site rest
store_lines_are site (IfThen at test chosen other rest) =
    ap₂ (λ m n. m + n) (store_lines_are site chosen) (ap₂ (λ m n. m + n) (store_lines_are site other)
    (store_lines_are site rest))
store_lines_are site (LoopThen at test_first test answer body rest) =
    ap₂ (λ m n. m + n) (store_lines_are site test) (ap₂ (λ m n. m + n) (store_lines_are site body)
    (store_lines_are site rest))
store_lines_are site (BarrierThen at rest) = store_lines_are site rest

pub same_accesses : (kernel : Kernel) (homes : List Home) (region : RegionOf) →
    SameAccesses region.lines (region_steps kernel homes region)
same_accesses kernel homes region = record {
  loads = λ site. loads_are site (region_steps kernel homes region) ∙
      region_tally (one_at site) none_at kernel homes region ∙ sym (load_lines_are site region.lines);
  stores = λ site. stores_are site (region_steps kernel homes region) ∙
      region_tally none_at (one_at site) kernel homes region ∙ sym (store_lines_are site region.lines);
}
