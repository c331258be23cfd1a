-- An `if` that holds a barrier: if (get_local_id(0) == 0) barrier(..); a[get_global_id(0)] = 1.
use Rattle.std.specs.Prelude.{◌≡◌, ℕ, [], ◌∷◌, Option, Some, None, slice_get, option_map}
use Rattle.std.specs.Prelude.{true, false}
use Rattle.wg_num.specs.declared.types.IntType.TheVariants as t
use Rattle.wg_num.specs.declared.types.Bin.TheVariants as bin
use Rattle.cl_model.specs.declared.program.Root.TheVariants as root
use Rattle.cl_model.specs.declared.program.Query.TheVariants as query
use Rattle.cl_model.specs.declared.launch.Bound.TheVariants as bound
use Rattle.cl_model.specs.Sizes.{Launch}
use Rattle.work_items.specs.Runs.{world_after}
use Rattle.kir.specs.Tree.{Lines, NoLine, SetThen, StoreThen, IfThen, BarrierThen, Argument, Convert, Kernel}
use Rattle.kir.specs.Fits.{is_kernel}
use Rattle.kir.specs.Places.{Behind, IntoChosen, IntoOther, Place, Point, point_of}
use Rattle.kir.specs.Steps.{Item}
use Rattle.kir.specs.Live.{live_at}
use Rattle.kir.specs.Cuts.{is_cut, is_stop}
use Rattle.kir.specs.Keeps.{is_keep, keep_count}
use Rattle.kir.specs.Choices.{choice_count}
use Rattle.kir.specs.Meaning.{machine_of, start_world}
use Rattle.examples_model.specs.Terms.{global_ints, line, buffer}
use Rattle.examples_model.specs.Barriers.{parts}
use Rattle.examples_kir.specs.Terms.{number, cell, ints, ask, variable_cell, value_cell, kernel, past}
use Rattle.examples_kir.specs.Play.{played, seen, program_seen}

abbrev pub choice_lines : Lines
choice_lines =
    SetThen 0 (Argument 0)
    (SetThen 1 (ask query.LocalId)
    (SetThen 2 (Convert t.Int (cell 1))
    (SetThen 3 (ints bin.Eq (cell 2) (number 0))
    (IfThen 0 (cell 3) (BarrierThen 1 NoLine) NoLine
    (SetThen 4 (ask query.GlobalId)
    (SetThen 5 (Convert t.Long (cell 4))
    (StoreThen 2 t.Int (root.Param 0) (cell 5) (number 1)
    NoLine)))))))

abbrev pub choosing : Kernel
choosing =
    kernel (global_ints 0 ∷ [])
    (variable_cell 0 0 t.Long ∷ value_cell t.Ulong ∷ value_cell t.Int ∷ value_cell t.Int ∷ value_cell t.Ulong ∷
    value_cell t.Long ∷ [])
    choice_lines

abbrev pub IsChoiceFit : Type 0
IsChoiceFit = is_kernel choosing ≡ true

abbrev pub four : Launch
four = line 4 4 (bound.Buffer 0 ∷ []) (16 ∷ [])

-- the places of the if and of the barrier in it
abbrev pub at_if : Place
at_if = past 4 []

abbrev pub at_barrier : Place
at_barrier = IntoChosen ∷ at_if

-- where the item with this number stands when the run is over
abbrev pub left_at : ℕ → Option (Option Point)
left_at n =
    option_map (λ (i : Item). point_of i.tasks)
    (slice_get (world_after (machine_of choosing four) (start_world choosing four (buffer (0 ∷ 0 ∷ 0 ∷ 0 ∷ []) ∷ []))
    (played 200 choosing four (buffer (0 ∷ 0 ∷ 0 ∷ 0 ∷ []) ∷ []))).items n)

-- item 0 waits for ever at the barrier; the others have ended
abbrev pub IsStuck : Type 0
IsStuck = (left_at 0 ≡ Some (Some (record { at = at_barrier; begun = [] }))) × (left_at 1 ≡ Some None) ×
    (left_at 3 ≡ Some None)

abbrev pub ChoiceTracesAgree : Type 0
ChoiceTracesAgree = seen 200 choosing four (buffer (0 ∷ 0 ∷ 0 ∷ 0 ∷ []) ∷ []) ≡
    program_seen 200 parts four (buffer (0 ∷ 0 ∷ 0 ∷ 0 ∷ []) ∷ [])

-- the barrier is a cut, the place before the test and the place behind the branches; what stands before and behind is
-- none
abbrev pub CutsAtChoice : Type 0
CutsAtChoice =
    (is_cut choice_lines at_barrier ≡ true) × (is_cut choice_lines at_if ≡ true) ×
    (is_cut choice_lines (past 5 []) ≡ true)
    × (is_cut choice_lines [] ≡ false) × (is_cut choice_lines (past 3 []) ≡ false) ×
    (is_cut choice_lines (past 6 []) ≡ false) × (is_cut choice_lines (Behind ∷ at_barrier) ≡ false)
    × (is_cut choice_lines (IntoOther ∷ at_if) ≡ false) × (is_stop choice_lines (IntoOther ∷ at_if) ≡ false) ×
    (is_stop choice_lines (past 6 []) ≡ true)

-- the test is live before it and not behind it, where nothing is
abbrev pub StandsAtBarrier : Type 0
StandsAtBarrier = (live_at choice_lines at_if 3 ≡ true) × (live_at choice_lines at_barrier 3 ≡ false) ×
    (live_at choice_lines (past 5 []) 3 ≡ false) × (live_at choice_lines at_barrier 0 ≡ false)

-- the test is a keep, since it is named before the test and at it; what it is computed from is none, and what is
-- named behind alone
abbrev pub KeepsTest : Type 0
KeepsTest = (is_keep choosing 3 ≡ true) × (is_keep choosing 2 ≡ false) × (is_keep choosing 5 ≡ false) ×
    (is_keep choosing 0 ≡ false)

-- as many as the program has `if` statements that hold a barrier
abbrev pub CountsKeeps : Type 0
CountsKeeps = (keep_count choosing ≡ 1) × (choice_count parts ≡ 1)
