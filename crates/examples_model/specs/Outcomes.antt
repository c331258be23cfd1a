-- How what is played ends is an outcome of the launch, in the words of the model.
use Rattle.std.specs.Prelude.{◌≡◌, ℕ, ◌<◌, List, [], ◌∷◌, Some, slice_get}
use Rattle.wg_num.specs.declared.types.Bin.TheVariants as bin
use Rattle.wg_num.specs.declared.types.Place.{Place}
use Rattle.cl_model.specs.declared.program.Root.TheVariants as root
use Rattle.cl_model.specs.declared.program.Query.TheVariants as query
use Rattle.cl_model.specs.declared.launch.Bound.TheVariants as bound
use Rattle.work_items.specs.Items.{World, Move, Release, IsPossible}
use Rattle.work_items.specs.Clean.{WaitsAt}
use Rattle.cl_model.specs.Tree.{If, Barrier, empty, Program}
use Rattle.cl_model.specs.Sizes.{Launch, group_of}
use Rattle.cl_model.specs.Task.{Item}
use Rattle.cl_model.specs.Meaning.{machine_of, start_world, IsCleanLaunch, EndsDone, EndsRange, EndsParted}
use Rattle.examples_model.specs.Terms.{number, long, int, ints, ask, put, one_of, global_ints, kernel, line, buffer}
use Rattle.examples_model.specs.Play.{play, Finished, Faulted, play_from, first_ready}
use Rattle.examples_model.specs.Barriers.{race, iterations_part}
use Rattle.examples_model.specs.Straight.{past}

-- a run that finishes shows that to be done with its buffers is an outcome
abbrev pub FinishedIsDone : Type 0
FinishedIsDone = (fuel : ℕ) (program : Program) (launch : Launch) (buffers left : List (List ℕ)) →
    play fuel program launch buffers ≡ Finished left → EndsDone program launch buffers left

-- a run that faults shows that the fault is an outcome
abbrev pub FaultedIsRange : Type 0
FaultedIsRange =
    (fuel : ℕ) (program : Program) (launch : Launch) (buffers : List (List ℕ)) (item site : ℕ) (place : Place) →
    play fuel program launch buffers ≡ Faulted item site → slice_get program.sites site ≡ Some place
    → EndsRange program launch buffers (group_of launch item) item place

-- if (get_local_id(0) == 0) barrier(..); a[get_global_id(0)] = 1, with the place of its barrier
abbrev pub parting : Program
parting = record {
  tables = [];
  functions =
      kernel 1 (global_ints 0 ∷ []) [] (
      If 1 (ints bin.Eq (int (ask query.LocalId)) (number 0)) (one_of (Barrier 0)) empty
      ∷ put 2 (root.Param 0) (long (ask query.GlobalId)) (number 1)
      ∷ []
      )
      ∷ [];
  kernel = 0;
  sites = record { line = 3; column = 5 } ∷ [];
}

-- item 0 is parted at its barrier
abbrev pub IsParting : Type 0
IsParting = EndsParted parting (line 2 2 (bound.Buffer 0 ∷ []) (8 ∷ [])) (buffer (0 ∷ 0 ∷ []) ∷ []) 0 0
    (record { line = 3; column = 5 })

-- and its group is never released
abbrev pub IsNeverReleased : Type 0
IsNeverReleased =
    IsPossible (machine_of parting (line 2 2 (bound.Buffer 0 ∷ []) (8 ∷ [])))
    (play_from first_ready (machine_of parting (line 2 2 (bound.Buffer 0 ∷ []) (8 ∷ []))) 1 100
    (start_world parting (line 2 2 (bound.Buffer 0 ∷ []) (8 ∷ [])) (buffer (0 ∷ 0 ∷ []) ∷ [])))
    (Release 0) → ⊥

-- two items that wait at one barrier, in different iterations of the loop around it
abbrev pub on_four : Launch
on_four = line 2 2 (bound.Buffer 0 ∷ []) (4 ∷ [])

abbrev pub waiting_world : World Item
waiting_world = play_from first_ready (machine_of iterations_part on_four) 1 300
    (start_world iterations_part on_four (buffer (0 ∷ []) ∷ []))

-- both wait there
abbrev pub BothWait : Type 0
BothWait = (item : ℕ) → item < 2 → (state : Item) × (slice_get waiting_world.items item ≡ Some state) ×
    WaitsAt 2 ((machine_of iterations_part on_four).next state)

-- and their group is never released, since they stand at two points
abbrev pub IterationsAreApart : Type 0
IterationsAreApart = IsPossible (machine_of iterations_part on_four) waiting_world (Release 0) → ⊥

-- behind a fault nothing moves
abbrev pub NothingFollowsAFault : Type 0
NothingFollowsAFault =
    (move : Move)
    → IsPossible (machine_of past (line 4 2 (bound.Buffer 0 ∷ []) (16 ∷ [])))
    (play_from first_ready (machine_of past (line 4 2 (bound.Buffer 0 ∷ []) (16 ∷ []))) 2 100
    (start_world past (line 4 2 (bound.Buffer 0 ∷ []) (16 ∷ [])) (buffer (1 ∷ 2 ∷ 3 ∷ 4 ∷ []) ∷ [])))
    move → ⊥

-- two items that store to one element race, so the launch is not clean
abbrev pub RaceIsNotClean : Type 0
RaceIsNotClean = IsCleanLaunch race (line 2 2 (bound.Buffer 0 ∷ []) (4 ∷ [])) (buffer (9 ∷ []) ∷ []) → ⊥
