-- One run of a launch, of a program or of a kernel: the items in order, each as far as it goes, then the groups whose
-- items all wait at one point, and again.
use Rattle.std.specs.Prelude.{ℕ, zero, suc, List, [], ◌∷◌, Option, Some, None, nat_eq, ◌&&◌, if◌then◌else◌}
use Rattle.std.specs.Prelude.{Bool as Test, true, false}
use Rattle.work_items.specs.Items.{Next, Ends, Waits, Machine, World, Move, Step, moved}
use Rattle.work_items.specs.Simulation.{Event, trace}
use Rattle.cl_model.specs.Tree.{Program}
use Rattle.cl_model.specs.Sizes.{Launch, group_count}
use Rattle.cl_model.specs.Meaning.{machine_of as program_machine, start_world as program_start}
use Rattle.examples_model.specs.Play.{same_point as same_program_point}
use Rattle.examples_model.specs.Play.{to_release}
use Rattle.examples_model.specs.Play.{unless_faulted}
use Rattle.examples_model.specs.Play.{with_move}
use Rattle.kir.specs.Tree.{Kernel}
use Rattle.kir.specs.Places.{Leg, Behind, IntoChosen, IntoOther, IntoTest, ToAnswer, IntoBody, Place, Point}
use Rattle.kir.specs.Meaning.{machine_of, start_world}

-- the legs by their numbers, and whether two ways or points are one
abbrev pub number_of_leg : Leg → ℕ
number_of_leg Behind = 0
number_of_leg IntoChosen = 1
number_of_leg IntoOther = 2
number_of_leg IntoTest = 3
number_of_leg ToAnswer = 4
number_of_leg IntoBody = 5

abbrev pub same_place : Place → Place → Test
same_place [] [] = true
same_place (l ∷ ls) (k ∷ ks) = nat_eq (number_of_leg l) (number_of_leg k) && same_place ls ks
same_place _ _ = false

abbrev pub same_numbers : List ℕ → List ℕ → Test
same_numbers [] [] = true
same_numbers (n ∷ ns) (k ∷ ks) = nat_eq n k && same_numbers ns ks
same_numbers _ _ = false

abbrev pub same_point : Option Point → Option Point → Test
same_point (Some p) (Some q) = same_place p.at q.at && same_numbers p.begun q.begun
same_point _ _ = false

-- the item can step, and waits
abbrev pub can_step : {S : Type 0} → Next S → Test
can_step Ends = false
can_step (Waits site after) = false
can_step _ = true

abbrev pub does_wait : {S : Type 0} → Next S → Test
does_wait (Waits site after) = true
does_wait _ = false

-- the number of the first item that can step
abbrev pub first_ready : {S P : Type 0} → Machine S P → ℕ → List S → Option ℕ
first_ready machine k [] = None
first_ready machine k (i ∷ items) = if can_step (machine.next i) then Some k else first_ready machine (suc k) items

-- all items of the group wait at the point of its first
abbrev pub all_at : {S P : Type 0} → (P → P → Test) → Machine S P → ℕ → P → ℕ → List S → Test
all_at same machine group point k [] = true
all_at same machine group point k (i ∷ items) =
    (if nat_eq (machine.group k) group then (does_wait (machine.next i) && same (machine.point i) point) else true) &&
    all_at same machine group point (suc k) items

abbrev pub is_gathered : {S P : Type 0} → (P → P → Test) → Machine S P → ℕ → List S → ℕ → List S → Test
is_gathered same machine group all k [] = false
is_gathered same machine group all k (i ∷ items) =
    if nat_eq (machine.group k) group then all_at same machine group (machine.point i) 0 all else is_gathered same
    machine group all (suc k) items

abbrev pub first_gathered : {S P : Type 0} → (P → P → Test) → Machine S P → List S → ℕ → ℕ → Option ℕ
first_gathered same machine items zero g = None
first_gathered same machine items (suc n) g =
    if is_gathered same machine g items 0 items then Some g else first_gathered same machine items n (suc g)

-- the move that is made: a step, else a release, else none; none after a fault
abbrev pub step_or : Option ℕ → Option Move → Option Move
step_or (Some k) other = Some (Step k)
step_or None other = other

abbrev pub next_move : {S P : Type 0} → (P → P → Test) → Machine S P → ℕ → World S → Option Move
next_move same machine groups world =
    unless_faulted world.fault (step_or (first_ready machine 0 world.items)
    (to_release (first_gathered same machine world.items groups 0)))

-- the moves of the run, so many at most
abbrev pub moves_from : {S P : Type 0} → (P → P → Test) → Machine S P → ℕ → ℕ → World S → List Move
moves_from same machine groups zero world = []
moves_from same machine groups (suc n) world =
    with_move (next_move same machine groups world) (λ m. moves_from same machine groups n (moved machine world m))

-- those of a kernel and of a program
abbrev pub played : ℕ → Kernel → Launch → List (List ℕ) → List Move
played fuel kernel launch buffers =
    moves_from same_point (machine_of kernel launch) (group_count launch) fuel (start_world kernel launch buffers)

abbrev pub program_played : ℕ → Program → Launch → List (List ℕ) → List Move
program_played fuel program launch buffers =
    moves_from same_program_point (program_machine program launch) (group_count launch) fuel
    (program_start program launch buffers)

-- what is seen of them
abbrev pub seen : ℕ → Kernel → Launch → List (List ℕ) → List Event
seen fuel kernel launch buffers =
    trace (machine_of kernel launch) (start_world kernel launch buffers) (played fuel kernel launch buffers)

abbrev pub program_seen : ℕ → Program → Launch → List (List ℕ) → List Event
program_seen fuel program launch buffers =
    trace (program_machine program launch) (program_start program launch buffers)
    (program_played fuel program launch buffers)
