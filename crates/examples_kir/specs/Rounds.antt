-- A loop that holds a barrier: int i; for (i = 0; i < 2; i++) barrier(..); a[get_global_id(0)] = i.
use Rattle.std.specs.Prelude.{◌≡◌, ℕ, List, [], ◌∷◌, Option, Some, None, slice_get, option_map, take}
use Rattle.std.specs.Prelude.{true, false}
use Rattle.wg_num.specs.declared.types.IntType.TheVariants as t
use Rattle.wg_num.specs.declared.types.Bin.TheVariants as bin
use Rattle.cl_model.specs.declared.program.Root.TheVariants as root
use Rattle.cl_model.specs.declared.program.Query.TheVariants as query
use Rattle.cl_model.specs.declared.launch.Bound.TheVariants as bound
use Rattle.cl_model.specs.Sizes.{Launch}
use Rattle.cl_model.specs.Tree.{Change, Apply, pair, Declare, Loop, Barrier, Program}
use Rattle.work_items.specs.Runs.{world_after}
use Rattle.kir.specs.Tree.{Lines, NoLine, SetThen, StoreThen, LoopThen, BarrierThen, Argument, Convert, Copy, Kernel}
use Rattle.kir.specs.Fits.{is_kernel}
use Rattle.kir.specs.Places.{Behind, IntoTest, ToAnswer, IntoBody, Place, Point, Tasks, point_of, tasks_at}
use Rattle.kir.specs.Steps.{Item}
use Rattle.kir.specs.Live.{live_at}
use Rattle.kir.specs.Cuts.{is_cut}
use Rattle.kir.specs.Keeps.{is_keep, keep_count}
use Rattle.kir.specs.Meaning.{machine_of, start_world}
use Rattle.examples_model.specs.Terms as program
use Rattle.examples_kir.specs.Terms.{number, cell, ints, ask, variable_cell, value_cell, kernel, past}
use Rattle.examples_kir.specs.Play.{played, seen, program_seen}

abbrev pub rounds : Program
rounds =
    program.program (program.kernel 1 (program.global_ints 0 ∷ program.an_int ∷ []) [] (
    Declare 1 None
    ∷ program.set 1 (program.number 0)
    ∷ Loop 0 true (Some (program.ints bin.Lt (program.named 1) (program.number 2)))
    (Some (Apply (Change 1 bin.Add t.Int t.Int true) (pair (program.named 1) (program.number 1)))) (Barrier 1)
    ∷ program.put 2 (root.Param 0) (program.long (program.ask query.GlobalId)) (program.named 1)
    ∷ []
    ) ∷ []) 0

abbrev pub round_lines : Lines
round_lines =
    SetThen 0 (Argument 0)
    (SetThen 1 (Copy (number 0))
    (SetThen 1 (Copy (number 0))
    (LoopThen 0 true
    (SetThen 2 (Copy (cell 1))
    (SetThen 3 (ints bin.Lt (cell 2) (number 2)) NoLine))
    (cell 3)
    (BarrierThen 1
    (SetThen 4 (Copy (cell 1))
    (SetThen 5 (ints bin.Add (cell 4) (number 1))
    (SetThen 1 (Copy (cell 5)) NoLine))))
    (SetThen 6 (ask query.GlobalId)
    (SetThen 7 (Convert t.Long (cell 6))
    (SetThen 8 (Copy (cell 1))
    (StoreThen 2 t.Int (root.Param 0) (cell 7) (cell 8)
    NoLine)))))))

abbrev pub rounding : Kernel
rounding =
    kernel (program.global_ints 0 ∷ [])
    (variable_cell 0 0 t.Long ∷ variable_cell 0 1 t.Int ∷ value_cell t.Int ∷ value_cell t.Int ∷ value_cell t.Int ∷
    value_cell t.Int ∷ value_cell t.Ulong ∷ value_cell t.Long ∷ value_cell t.Int ∷ [])
    round_lines

abbrev pub IsRoundFit : Type 0
IsRoundFit = is_kernel rounding ≡ true

abbrev pub two : Launch
two = program.line 2 2 (bound.Buffer 0 ∷ []) (8 ∷ [])

abbrev pub zeroed : List (List ℕ)
zeroed = program.buffer (0 ∷ 0 ∷ []) ∷ []

abbrev pub RoundEnds : Type 0
RoundEnds = (world_after (machine_of rounding two) (start_world rounding two zeroed)
    (played 200 rounding two zeroed)).memory ≡ program.buffer (2 ∷ 2 ∷ []) ∷ []

abbrev pub RoundTracesAgree : Type 0
RoundTracesAgree = seen 200 rounding two zeroed ≡ program_seen 200 rounds two zeroed

-- the place of the loop
abbrev pub at_loop : Place
at_loop = past 3 []

-- where item 0 stands after so many moves of its own, of its group's release and of the other's
abbrev pub stands_after : ℕ → Option (Option Point)
stands_after n = option_map (λ (i : Item). point_of i.tasks)
    (slice_get (world_after (machine_of rounding two) (start_world rounding two zeroed)
    (take n (played 200 rounding two zeroed))).items 0)

-- at the barrier of its first iteration, and then of its second: one line, two points
abbrev pub PointsDiffer : Type 0
PointsDiffer =
    (stands_after 8 ≡ Some (Some (record { at = IntoBody ∷ at_loop; begun = 1 ∷ [] })))
    × (stands_after 17 ≡ Some (Some (record { at = Behind ∷ IntoBody ∷ at_loop; begun = 1 ∷ [] })))
    × (stands_after 25 ≡ Some (Some (record { at = IntoBody ∷ at_loop; begun = 2 ∷ [] })))

-- the places before and after the test and before the body are cuts, and the barrier; the loop's own place and the
-- place behind it are none
abbrev pub CutsAtRound : Type 0
CutsAtRound =
    (is_cut round_lines (IntoTest ∷ at_loop) ≡ true) × (is_cut round_lines (ToAnswer ∷ at_loop) ≡ true) ×
    (is_cut round_lines (IntoBody ∷ at_loop) ≡ true)
    × (is_cut round_lines at_loop ≡ false) × (is_cut round_lines (Behind ∷ at_loop) ≡ false) ×
    (is_cut round_lines (Behind ∷ IntoBody ∷ at_loop) ≡ false)

-- the variable is live at all of them; the answer at none: before the test it is set first, and behind the test it
-- has been read
abbrev pub LivesInRound : Type 0
LivesInRound =
    (live_at round_lines (IntoTest ∷ at_loop) 1 ≡ true) × (live_at round_lines (ToAnswer ∷ at_loop) 1 ≡ true) ×
    (live_at round_lines (IntoBody ∷ at_loop) 1 ≡ true)
    × (live_at round_lines (IntoTest ∷ at_loop) 3 ≡ false) × (live_at round_lines (ToAnswer ∷ at_loop) 3 ≡ false) ×
    (live_at round_lines (past 2 (IntoTest ∷ at_loop)) 3 ≡ true)
    × (live_at round_lines [] 1 ≡ false)

-- no cell but variables is named on both sides of a cut: the answer is named in the test alone
abbrev pub KeepsNoAnswer : Type 0
KeepsNoAnswer = (is_keep rounding 3 ≡ false) × (is_keep rounding 5 ≡ false) × (keep_count rounding ≡ 0)

-- what an item has left to do is determined by its point
abbrev pub tasks_after : ℕ → Option Tasks
tasks_after n = option_map (λ (i : Item). i.tasks)
    (slice_get (world_after (machine_of rounding two) (start_world rounding two zeroed)
    (take n (played 200 rounding two zeroed))).items 0)

abbrev pub SamePlaceSameTasks : Type 0
SamePlaceSameTasks = (tasks_after 8 ≡ Some (tasks_at round_lines (IntoBody ∷ at_loop) (1 ∷ []))) ×
    (tasks_after 25 ≡ Some (tasks_at round_lines (IntoBody ∷ at_loop) (2 ∷ [])))
