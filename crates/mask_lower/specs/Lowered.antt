-- The masked code of a region.
use Rattle.std.specs.Prelude.{ℕ, ◌+◌, List, [], ◌∷◌, ◌++◌, Option, Some, None, length, slice_get, slice_index_or}
use Rattle.std.specs.Prelude.{◌&&◌, ◌||◌, if◌then◌else◌}
use Rattle.std.specs.Prelude.{Bool as Test, true, false}
use Rattle.wg_num.specs.declared.types.IntType.{IntType}
use Rattle.wg_num.specs.declared.types.Bin.{Bin}
use Rattle.wg_num.specs.declared.types.Fun.{Fun}
use Rattle.wg_num.specs.Operators.{is_shift}
use Rattle.wg_num.specs.Types.{same_type}
use Rattle.cl_model.specs.Valid.{unary_type, binary_type}
use Rattle.kir.specs.declared.line.Atom.{Atom}
use Rattle.kir.specs.Tree as kir
use Rattle.kir.specs.Tree.{Work, Lines, NoLine, SetThen, LoadThen, StoreThen, ClearThen, IfThen, LoopThen}
use Rattle.kir.specs.Tree.{BarrierThen, Kernel}
use Rattle.regions.specs.Tree.{RegionOf}
use Rattle.ctx_plan.specs.declared.plan.Home.{Home}
use Rattle.lane_code.specs.declared.step.Reg.{Reg}
use Rattle.lane_code.specs.declared.step.Step.{Step}
use Rattle.lane_code.specs.declared.step.Step.TheVariants as step
use Rattle.lane_code.specs.Program.{PlainCode}
use Rattle.lane_code.specs.Counting.{counted}
use Rattle.mask_lower.specs.declared.registers.Free.{Free}
use Rattle.mask_lower.specs.declared.registers.Operand.{Operand}
use Rattle.mask_lower.specs.Banks.{is_wide, crosses, amount_type, mask_reg, register_at}
use Rattle.mask_lower.specs.Atoms.{right_atom, atoms_of, atoms_in, region_atoms}
use Rattle.mask_lower.specs.Registers.{Frame, frame_for, first_constants, root_at, cell_at, operand, past_atom, past}
use Rattle.mask_lower.specs.Registers.{constants}
use Rattle.mask_lower.specs.Homes.{entry_code, put_cells, exit_code}

-- ---- lines that compute

-- where what is computed in a type goes first, if it is of this kind: to the cell's register, or to that on the way
-- to the other bank
abbrev pub result_at : Frame → (of kind : IntType) → (to : Reg) → Reg
result_at f of kind to = if crosses of kind then register_at f.scratch of else to

-- and on to the cell's register
abbrev pub brought : Frame → (of kind : IntType) → (to mask : Reg) → List Step
brought f of kind to mask = if crosses of kind then step.Convert to kind (register_at f.scratch of) of mask ∷ [] else []

-- an amount of a shift from the other bank is brought into that of the operator's type
abbrev pub moves : Bin → (of : IntType) → Operand → Test
moves op of b = is_shift op && crosses of b.of

-- by this step, if it is so
abbrev pub amount_moved : Frame → Bin → IntType → Operand → (mask : Reg) → List Step
amount_moved f op of b mask =
    if moves op of b then step.Convert (register_at f.scratch of) (amount_type of) b.at b.of mask ∷ [] else []

-- the register of the right operand
abbrev pub right_at : Frame → Bin → IntType → Operand → Reg
right_at f op of b = if moves op of b then register_at f.scratch of else b.at

-- an operator on two operands
abbrev pub binary_code : Frame → Bin → IntType → (a b : Operand) → (to mask : Reg) → List Step
binary_code f op of a b to mask =
    amount_moved f op of b mask
    ++ (step.Binary op of (result_at f of (binary_type op of) to) a.at (right_at f op of b) mask ∷
    brought f of (binary_type op of) to mask)

-- the register of an argument, where there is one, else any other of its bank
abbrev pub argument : Frame → Free → (other : Reg) → Option Atom → Reg
argument f next other None = other
argument f next other (Some a) = (operand f.cells next a).at

-- the registers that are free for constants behind it
abbrev pub past_argument : Free → Option Atom → Free
past_argument next None = next
past_argument next (Some a) = past_atom next a

-- a built-in function, which takes three arguments at most
abbrev pub builtin_code : Frame → Free → Fun → IntType → List Atom → (to mask : Reg) → Step
builtin_code f next g of args to mask =
    let first = slice_get args 0 in
    let second = slice_get args 1 in
    let third = slice_get args 2 in
    let next1 = past_argument next first in
    let next2 = past_argument next1 second in
    step.Builtin g of to (argument f next to first) (argument f next1 to second) (argument f next2 to third) mask

-- a conversion of a value of the one type into the other leaves its lane as it is
abbrev pub keeps_lane : (of kind : IntType) → Test
keeps_lane of kind = same_type of kind || (is_wide of && is_wide kind)

-- a conversion, which is a copy where it leaves lanes as they are
abbrev pub convert_step : (to : Reg) → (kind : IntType) → Operand → (mask : Reg) → Step
convert_step to kind a mask =
    if keeps_lane a.of kind then step.Copy to a.at mask else step.Convert to kind a.at a.of mask

-- the steps of a line that computes for this register
abbrev pub work_code : Frame → Free → (to mask : Reg) → Work → List Step
work_code f next to mask (kir.Unary op of a) =
    step.Unary op of (result_at f of (unary_type op of) to) (operand f.cells next a).at mask ∷
    brought f of (unary_type op of) to mask
work_code f next to mask (kir.Binary op of a b) =
    binary_code f op of (operand f.cells next a) (operand f.cells (past_atom next a) (right_atom op of b)) to mask
work_code f next to mask (kir.Builtin g of args) = builtin_code f next g of args to mask ∷ []
work_code f next to mask (kir.Convert kind a) = convert_step to kind (operand f.cells next a) mask ∷ []
work_code f next to mask (kir.Ask what dim) = step.Ask what to (operand f.cells next dim).at mask ∷ []
work_code f next to mask (kir.Argument number) = step.Argument number to mask ∷ []
work_code f next to mask (kir.Copy a) = step.Copy to (operand f.cells next a).at mask ∷ []

-- ---- lines

-- there are no lines
abbrev pub is_no_line : Lines → Test
is_no_line NoLine = true
is_no_line (SetThen to work rest) = false
is_no_line (LoadThen site to element root index rest) = false
is_no_line (StoreThen site element root index from rest) = false
is_no_line (ClearThen array rest) = false
is_no_line (IfThen site test chosen other rest) = false
is_no_line (LoopThen site test_first test answer body rest) = false
is_no_line (BarrierThen site rest) = false

-- the code of a branch at a place, passed over where no lane takes it; nothing for a branch without lines
abbrev pub skipped : (mask at : ℕ) → Lines → List Step → List Step
skipped mask at lines code =
    if is_no_line lines then [] else step.SkipNone (mask_reg mask) (at + 1 + length code) ∷ code

-- the same for the lanes of `outer` that are not in the mask
abbrev pub otherwise : (outer mask at : ℕ) → Lines → List Step → List Step
otherwise outer mask at lines code =
    if is_no_line lines then [] else step.MaskLess (mask_reg mask) (mask_reg outer) (mask_reg mask) ∷
    skipped mask (at + 1) lines code

-- the lanes of a mask whose value of an atom is not 0
abbrev pub test_step : Frame → (next : Free) → Atom → (to mask : ℕ) → Step
test_step f next atom to mask = step.Test (mask_reg to) (operand f.cells next atom).at (mask_reg mask)

-- the end of a loop whose body begins at a place: the lanes whose answer is not 0 go on, and take a turn
abbrev pub turn_code : Frame → (mask : ℕ) → (next : Free) → (start : ℕ) → Atom → List Step
turn_code f mask next start answer = test_step f next answer mask mask ∷ step.Turn (mask_reg mask) start ∷ []

-- the steps of lines at a place: the active lanes are in `mask`, the masks from `free` on are not in use, and the
-- constants have the registers from `next` on
abbrev pub lines_code : Frame → (mask free at : ℕ) → (next : Free) → Lines → List Step
lines_code f mask free at next NoLine = []
lines_code f mask free at next (SetThen to work rest) =
    let here = work_code f next (cell_at f.cells to).at (mask_reg mask) work in
    here ++ lines_code f mask free (at + length here) (past next (atoms_of work)) rest
lines_code f mask free at next (LoadThen site to element root index rest) =
    step.Load site element (root_at f.arrays root) (operand f.cells next index).at (cell_at f.cells to).at
    (mask_reg mask) ∷ lines_code f mask free (at + 1) (past_atom next index) rest
lines_code f mask free at next (StoreThen site element root index from rest) =
    let next1 = past_atom next index in
    step.Store site element (root_at f.arrays root) (operand f.cells next index).at (operand f.cells next1 from).at
    (mask_reg mask) ∷ lines_code f mask free (at + 1) (past_atom next1 from) rest
lines_code f mask free at next (ClearThen array rest) =
    step.Clear (slice_index_or f.arrays array 0) (mask_reg mask) ∷ lines_code f mask free (at + 1) next rest
lines_code f mask free at next (IfThen site test chosen other rest) =
    let next1 = past_atom next test in
    let yes_at = at + 1 in
    let yes_code = skipped free yes_at chosen (lines_code f free (free + 1) (yes_at + 1) next1 chosen) in
    let next2 = past next1 (atoms_in chosen) in
    let no_at = yes_at + length yes_code in
    let no_code = otherwise mask free no_at other (lines_code f free (free + 1) (no_at + 1 + 1) next2 other) in
    test_step f next test free mask ∷
    (yes_code ++ (no_code ++ lines_code f mask free (no_at + length no_code) (past next2 (atoms_in other)) rest))
lines_code f mask free at next (LoopThen site test_first test answer body rest) =
    let body_code = lines_code f free (free + 1) (at + 2) next body in
    let next1 = past next (atoms_in body) in
    let test_at = at + 2 + length body_code in
    let test_code = lines_code f free (free + 1) test_at next1 test in
    let next2 = past next1 (atoms_in test) in
    let turn_at = test_at + length test_code + 1 in
    step.MaskAnd (mask_reg free) (mask_reg mask) (mask_reg mask) ∷ step.Jump (if test_first then test_at else turn_at)
    ∷ (body_code ++ (test_code ++ (turn_code f free next2 (at + 2) answer ++ lines_code f mask free (turn_at + 1)
    (past_atom next2 answer) rest)))
lines_code f mask free at next (BarrierThen site rest) =
    step.Mark site (mask_reg mask) ∷ lines_code f mask free (at + 1) next rest

-- ---- parts of lines

-- a branch at a place
abbrev pub branch_code : Frame → (mask free at : ℕ) → (next : Free) → Lines → List Step
branch_code f mask free at next lines = skipped mask at lines (lines_code f mask free (at + 1) next lines)

-- the same for the lanes of `outer` that are not in the mask
abbrev pub other_code : Frame → (outer mask free at : ℕ) → (next : Free) → Lines → List Step
other_code f outer mask free at next lines =
    otherwise outer mask at lines (lines_code f mask free (at + 1 + 1) next lines)

-- ---- regions

-- the rest of a loop for the lanes that have voted for another iteration
abbrev pub rest_code : Frame → (at : ℕ) → (next : Free) → (test : Lines) → Atom → (body : Lines) → List Step
rest_code f at next test answer body =
    let body_code = lines_code f 1 2 (at + 3) next body in
    let next1 = past next (atoms_in body) in
    let test_at = at + 3 + length body_code in
    let test_code = lines_code f 1 2 test_at next1 test in
    step.VoteGet (mask_reg 1) ∷ step.MaskAnd (mask_reg 1) (mask_reg 0) (mask_reg 1) ∷
    step.Jump (test_at + length test_code + 1)
    ∷ (body_code ++ (test_code ++ turn_code f 1 (past next1 (atoms_in test)) (at + 3) answer))

-- the lines of a region under all existing lanes; one that begins with votes is the rest of its one line, a loop
abbrev pub begun_code : Frame → (at : ℕ) → (next : Free) → (from_vote : Test) → Lines → List Step
begun_code f at next true (LoopThen site test_first test answer body NoLine) = rest_code f at next test answer body
begun_code f at next from_vote lines = lines_code f 0 1 at next lines

-- all existing lanes vote, where there is an answer
abbrev pub vote_code : Frame → Free → Option Atom → List Step
vote_code f next None = []
vote_code f next (Some answer) = test_step f next answer 1 0 ∷ step.VotePut (mask_reg 1) (mask_reg 0) ∷ []

-- the steps of a region: constants, cells from their homes, lines, the vote, and the live cells that it sets to their
-- homes
abbrev pub steps_with : Frame → List Atom → List Home → RegionOf → List Step
steps_with f atoms homes region =
    let next = first_constants f in
    let front = constants next atoms ++ entry_code homes region.lines 0 f.cells in
    front
    ++ (begun_code f (length front) next region.from_vote region.lines
    ++ (vote_code f (past next (atoms_in region.lines)) region.answer ++ exit_code homes f.cells
    (put_cells region.lines region.live)))

-- the steps of a region of a kernel whose cells have these homes
abbrev pub region_steps : Kernel → List Home → RegionOf → List Step
region_steps kernel homes region = let atoms =
    region_atoms region in steps_with (frame_for kernel atoms) atoms homes region

-- the code of a region
abbrev pub region_code : Kernel → List Home → RegionOf → PlainCode
region_code kernel homes region = let steps =
    region_steps kernel homes region in record { steps = steps; counts = counted steps }
