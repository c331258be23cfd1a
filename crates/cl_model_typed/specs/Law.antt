-- Type soundness: variables hold values of their types, and evaluations give values of their types.
use Rattle.std.specs.Prelude.{◌≡◌, ℕ, ◌<◌, ℤ, List, ◌∷◌, ◌++◌, ◌⊎◌}
use Rattle.work_items.specs.Histories.{Deed, History}
use Rattle.wg_num.specs.declared.types.IntType.{IntType}
use Rattle.wg_num.specs.Wrap.{IsValue}
use Rattle.cl_model.specs.Tree.{Expression, Program}
use Rattle.cl_model.specs.Lists.{Each}
use Rattle.cl_model.specs.Sizes.{Launch, product}
use Rattle.cl_model.specs.Calls.{function_at}
use Rattle.cl_model.specs.Task.{Point, Task, Evaluate, Frame, Item}
use Rattle.cl_model.specs.Steps.{item_next}
use Rattle.cl_model.specs.Valid.{IsValid, HasType}
use Rattle.cl_model.specs.Fitting.{FitsProgram}
use Rattle.cl_model.specs.Meaning.{lengths_of, MayBeTold, start_item}
use Rattle.cl_model_typed.specs.Known.{HoldsValues}
use Rattle.cl_model_typed.specs.Expected.{Fits}

-- a valid program, and a launch that fits it. The product of the three global sizes of a launch that fits is at least
-- 1; a longer list could hold a 0, and then no size of it would be bounded
pub record IsTyped (program : Program) (launch : Launch) : Type 0 where
  pub valid : IsValid program
  pub fits : FitsProgram program launch
  pub some_items : 0 < product launch.global

-- a history of an item, from one state to another, in a launch on these buffers
abbrev pub Does : Program → Launch → List (List ℕ) → Item → List Deed → Item → Type 0
Does program launch buffers =
    History (lengths_of program launch buffers) (MayBeTold program launch buffers) (item_next program launch)

-- an item as it starts fits
abbrev pub StartsFit : Type 0
StartsFit = (program : Program) (launch : Launch) → IsTyped program launch → (item : ℕ) →
    Fits program (start_item program launch item)

-- an item that fits comes only to items that fit
abbrev pub StaysFit : Type 0
StaysFit = (program : Program) (launch : Launch) → IsTyped program launch
    → (buffers : List (List ℕ)) (from to : Item) (deeds : List Deed) → Fits program from →
    Does program launch buffers from deeds to → Fits program to

-- the item still has a task before these
abbrev pub IsBefore : List Task → Item → Type 0
IsBefore rest i = (task : Task) × (tasks : List Task) × (i.tasks ≡ task ∷ (tasks ++ rest))

-- the history has come to these tasks, in a frame on top of these, with one value of the type more on the list of
-- values, and goes on from there
pub record ComesBehind (does : Item → List Deed → Item → Type 0) (program : Program) (from : Item) (rest : List Task)
    (f : ℕ) (frames : List Frame) (t : IntType) (deeds : List Deed) (to : Item) : Type 0 where
  pub value : ℤ
  pub is_value : IsValue t value
  pub frame : Frame
  pub same_function : frame.function ≡ f
  pub variables : HoldsValues program frame
  pub first : List Deed
  pub further : List Deed
  pub all : deeds ≡ first ++ further
  pub comes : does from first
      (record { number = from.number; tasks = rest; values = value ∷ from.values; frames = frame ∷ frames })
  pub goes_on : does
      (record { number = from.number; tasks = rest; values = value ∷ from.values; frames = frame ∷ frames }) further to

-- an evaluation of an expression of a type, where all variables hold values of their types, leaves one value of that
-- type on the list of values and the frames below as they were, and the variables hold values of their types; or it is
-- still under way
abbrev pub EvaluationsGiveValues : Type 0
EvaluationsGiveValues = (program : Program) (launch : Launch) → IsTyped program launch
    → (buffers : List (List ℕ)) (n : ℕ) (at : Point) (e : Expression) (t : IntType) (rest : List Task)
    (values : List ℤ) (frame : Frame) (frames : List Frame) (deeds : List Deed) (to : Item)
    → HasType program (function_at program frame.function) e t → Each (HoldsValues program) (frame ∷ frames)
    → Does program launch buffers
    (record { number = n; tasks = Evaluate at e ∷ rest; values = values; frames = frame ∷ frames }) deeds to
    → IsBefore rest to ⊎ ComesBehind (Does program launch buffers) program
    (record { number = n; tasks = Evaluate at e ∷ rest; values = values; frames = frame ∷ frames }) rest frame.function
    frames t deeds to
