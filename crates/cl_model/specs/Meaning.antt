-- What a launch means: its items over one memory, what each of them can come to, its histories, clean launches and
-- outcomes. All of it is the theory of work-items at the item of a typed program.
use Rattle.std.specs.Prelude.{◌≡◌, ℕ, zero, suc, ℤ, pos, true, false, List, [], ◌∷◌, Option, Some, None, length, take}
use Rattle.std.specs.Prelude.{slice_get}
use Rattle.std.specs.Prelude.{Bool as Test}
use Rattle.wg_num.specs.declared.types.Place.{Place}
use Rattle.work_items.specs.Memory.{Memory, Access, bytes_of, loaded}
use Rattle.work_items.specs.Items.{Next, Goes, Begins, Machine, World}
use Rattle.work_items.specs.Clean.{IsClean, IsDone, IsRange, IsParted, ExceedsTurns}
use Rattle.work_items.specs.Coming.{CanCome}
use Rattle.work_items.specs.Histories.{Deed, History, Fits}
use Rattle.cl_model.specs.declared.launch.Bound.{Bound}
use Rattle.cl_model.specs.declared.launch.Bound.TheVariants as bound
use Rattle.cl_model.specs.Tree.{Block, Program}
use Rattle.cl_model.specs.Sizes.{Launch, item_count, group_of}
use Rattle.cl_model.specs.Calls.{kernel_of}
use Rattle.cl_model.specs.Objects.{start_memory, kernel_objects, IsConstant}
use Rattle.cl_model.specs.Task.{Point, Task, Run, Decide, Branch, InLoop, Select, Frame, Item, first_point}
use Rattle.cl_model.specs.Steps.{before, item_next}

-- the value that the launch binds to a parameter, 0 for a pointer: the offset at which it starts
abbrev pub argument_value : Option Bound → ℤ
argument_value None = pos 0
argument_value (Some (bound.Buffer b)) = pos 0
argument_value (Some (bound.Value v)) = v
argument_value (Some (bound.Local n)) = pos 0

-- the frame of the kernel, to the item with this number
abbrev pub kernel_frame : Program → Launch → ℕ → Frame
kernel_frame program launch item = record {
  function = program.kernel;
  path = [];
  objects = kernel_objects program launch item;
  variables = λ x. argument_value (slice_get launch.args x);
}

-- an item as it starts: the kernel's body is its only task
abbrev pub start_item : Program → Launch → ℕ → Item
start_item program launch item = record {
  number = item;
  tasks = Run [] (Block (kernel_of program).body) ∷ [];
  values = [];
  frames = kernel_frame program launch item ∷ [];
}

-- so many items, the first with this number
abbrev pub start_items : Program → Launch → ℕ → ℕ → List Item
start_items program launch first zero = []
start_items program launch first (suc count) =
    start_item program launch first ∷ start_items program launch (suc first) count

-- the world in which a launch starts on these buffers
abbrev pub start_world : Program → Launch → List (List ℕ) → World Item
start_world program launch buffers = record {
  memory = start_memory program launch buffers;
  items = start_items program launch 0 (item_count launch);
  fault = None;
}

-- the items of a launch: what each does next, where it stands, and its group
abbrev pub machine_of : Program → Launch → Machine Item (Option Point)
machine_of program launch = record {
  next = item_next program launch;
  point = λ i. first_point i.tasks;
  group = group_of launch;
}

-- the length of each object, in bytes
abbrev pub lengths_of : Program → Launch → List (List ℕ) → ℕ → ℕ
lengths_of program launch buffers object = length (bytes_of (start_memory program launch buffers) object)

-- the first task tests the last value
abbrev pub is_test : List Task → Test
is_test (Decide at chosen other ∷ rest) = true
is_test (Branch at chosen other ∷ rest) = true
is_test (Select at site arms ∷ rest) = true
is_test (InLoop at site (Some test) step body begun ∷ rest) = true
is_test _ = false

-- the step, which makes no access, leads there
abbrev pub LeadsTo : Next Item → Item → Type 0
LeadsTo (Goes after) to = after ≡ to
LeadsTo (Begins after) to = after ≡ to
LeadsTo _ to = ⊥

-- a test that the item stands at leads there, whatever it answers
abbrev pub MayAnswer : Program → Launch → Item → Item → Type 0
MayAnswer program launch i to =
    (is_test i.tasks ≡ true) × ((v : ℤ) ×
    LeadsTo (item_next program launch (record i { values = v ∷ before i.values })) to)

-- an item goes on behind an access that is in range of its object
abbrev pub IsWithin : Program → Launch → List (List ℕ) → Access → Type 0
IsWithin program launch buffers access = Fits (lengths_of program launch buffers) access.object access.size access.index

-- the item can come to the point by steps of its own, whatever its loads give and its tests answer
abbrev pub ItemCanCome : Program → Launch → List (List ℕ) → Item → Option Point → Type 0
ItemCanCome program launch buffers =
    CanCome (machine_of program launch) (IsWithin program launch buffers) (MayAnswer program launch)

-- a load from constant memory gives what the launch starts with, any other load anything
abbrev pub MayBeTold : Program → Launch → List (List ℕ) → Access → List ℕ → Type 0
MayBeTold program launch buffers access bytes =
    IsConstant program launch access.object → bytes ≡ loaded (start_memory program launch buffers) access

-- a history of the item with this number: its own steps from its start, with what they do, to the state in which they
-- leave it
abbrev pub ItemHistory : Program → Launch → List (List ℕ) → ℕ → List Deed → Item → Type 0
ItemHistory program launch buffers item deeds to =
    History (lengths_of program launch buffers) (MayBeTold program launch buffers) (item_next program launch)
    (start_item program launch item) deeds to

-- no run of the launch on these buffers reaches a race or a fault, none has more turns than the launch allows, and
-- after each that cannot go on every item has ended
abbrev pub IsCleanLaunch : Program → Launch → List (List ℕ) → Type 0
IsCleanLaunch program launch buffers =
    IsClean (machine_of program launch) (start_world program launch buffers) launch.turns

-- after some run every item has ended and the buffers are these
pub record EndsDone (program : Program) (launch : Launch) (buffers left : List (List ℕ)) : Type 0 where
  pub memory : Memory
  pub is_done : IsDone (machine_of program launch) (start_world program launch buffers) memory
  pub same_buffers : take (length launch.lengths) memory ≡ left

-- some run ends with a fault of this item of this group at a site with this place
pub record EndsRange (program : Program) (launch : Launch) (buffers : List (List ℕ)) (group item : ℕ)
    (place : Place) : Type 0 where
  pub site : ℕ
  pub at_place : slice_get program.sites site ≡ Some place
  pub in_group : group_of launch item ≡ group
  pub is_range : IsRange (machine_of program launch) (start_world program launch buffers) (record {
    item = item;
    site = site;
  })

-- after some run this item of this group waits at a barrier with this place, and another item of the group cannot
-- come to its point
pub record EndsParted (program : Program) (launch : Launch) (buffers : List (List ℕ)) (group item : ℕ)
    (place : Place) : Type 0 where
  pub site : ℕ
  pub at_place : slice_get program.sites site ≡ Some place
  pub in_group : group_of launch item ≡ group
  pub is_parted : IsParted (machine_of program launch) (ItemCanCome program launch buffers)
      (start_world program launch buffers) item site

-- some run has more turns than the launch allows
abbrev pub EndsTurns : Program → Launch → List (List ℕ) → Type 0
EndsTurns program launch buffers =
    ExceedsTurns (machine_of program launch) (start_world program launch buffers) launch.turns
