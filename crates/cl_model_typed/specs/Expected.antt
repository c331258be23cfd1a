-- What the tasks of a work-item expect on its list of values, and what they leave there: the last value first.
use Rattle.std.specs.Prelude.{◌≡◌, ℕ, ℤ, List, [], ◌∷◌, length, replicate, slice_get, Option, Some, None}
use Rattle.std.specs.Prelude.{Bool as Test}
use Rattle.wg_num.specs.declared.types.IntType.{IntType}
use Rattle.wg_num.specs.declared.types.IntType.TheVariants.{Long}
use Rattle.wg_num.specs.declared.types.Bin.{Bin}
use Rattle.wg_num.specs.Wrap.{IsValue}
use Rattle.cl_model.specs.declared.program.Root.{Root}
use Rattle.cl_model.specs.Tree.{Action, Expression, Statement, Statements, Arms, Array, Function, Program}
use Rattle.cl_model.specs.Calls.{function_at}
use Rattle.cl_model.specs.Lists.{Each}
use Rattle.cl_model.specs.Task.{Point, Task, Run, Evaluate, Finish, Peek, Alter, Decide, Enter, InCall, Discard, Keep}
use Rattle.cl_model.specs.Task.{Clear, Initialise, Branch, InLoop, Select, InSwitch, Leave, Frame, Item}
use Rattle.cl_model.specs.Valid.{parameter_kinds, HasVariable, ActionFits, ArgumentsFit, CanBeCalled, HasType}
use Rattle.cl_model.specs.Valid.{IsPlainCall, OptionalFits, StatementFits, AllFit, ArmsFit}
use Rattle.cl_model_typed.specs.Known.{Known, Of, AreKnown, known_of, pushed, HoldsValues}

-- the expression has this result: a value of the type, or that of a call of a function that gives none
abbrev pub Gives : Program → Function → Expression → Option IntType → Type 0
Gives program f e (Some t) = HasType program f e t
Gives program f e None = IsPlainCall program f e

-- a task of a function under way fits: what it finds on the list of values, and what it leaves there. A statement
-- stands where the list is as all statements of its function find it, and leaves it so; where no statement may stand,
-- there is no such list
pub data TaskFits (program : Program) (f : Function) : Option (List Known) → Task → List Known → List Known →
    Type 0 where
  runs : {base : List Known} {at : Point} {s : Statement} → StatementFits program f s →
      TaskFits program f (Some base) (Run at s) base base
  evaluates : {base : Option (List Known)} {at : Point} {e : Expression} {left : List Known} (result : Option IntType) →
      Gives program f e result → TaskFits program f base (Evaluate at e) left (known_of result ∷ left)
  finishes : {base : Option (List Known)} {at : Point} {action : Action} {left : List Known} (ts : List IntType)
      (t : IntType) → ActionFits program f action ts t →
      TaskFits program f base (Finish at action (length ts)) (pushed ts left) (Of t ∷ left)
  peeks : {base : Option (List Known)} {at : Point} {site : ℕ} {element : IntType} {root : Root} {left : List Known} →
      TaskFits program f base (Peek at site element root) (Of Long ∷ left) (Of element ∷ Of Long ∷ left)
  alters : {base : Option (List Known)} {at : Point} {site : ℕ} {element : IntType} {root : Root} {op : Bin}
      {of right : IntType} {old : Test} {left : List Known} →
      TaskFits program f base (Alter at site element root op of element old)
      (Of right ∷ Of element ∷ Of Long ∷ left) (Of element ∷ left)
  decides : {base : Option (List Known)} {at : Point} {chosen other : Expression} {tested : Known} {left : List Known}
      (t : IntType) → HasType program f chosen t → HasType program f other t →
      TaskFits program f base (Decide at chosen other) (tested ∷ left) (Of t ∷ left)
  enters : {base : Option (List Known)} {at : Point} {site g : ℕ} {roots : List (Option Root)} {left : List Known}
      (ts : List IntType) (result : Option IntType) → CanBeCalled program g result →
      ArgumentsFit program f (parameter_kinds (function_at program g)) roots ts →
      TaskFits program f base (Enter at site g roots (length ts)) (pushed ts left) (known_of result ∷ left)
  discards : {base : Option (List Known)} {at : Point} {last : Known} {left : List Known} →
      TaskFits program f base (Discard at) (last ∷ left) left
  keeps : {base : Option (List Known)} {at : Point} {x : ℕ} {left : List Known} (t : IntType) → HasVariable f x t →
      TaskFits program f base (Keep at x) (Of t ∷ left) left
  clears : {base : Option (List Known)} {at : Point} {site array count : ℕ} {left : List Known} (a : Array) →
      slice_get f.arrays array ≡ Some a →
      TaskFits program f base (Clear at site array count) (pushed (replicate count a.element) left) left
  initialises : {base : Option (List Known)} {at : Point} {site array index : ℕ} {v : ℤ} {left : List Known}
      (a : Array) → slice_get f.arrays array ≡ Some a → IsValue a.element v →
      TaskFits program f base (Initialise at site array index v) left left
  branches : {base : List Known} {at : Point} {chosen other : Statements} {tested : Known} →
      AllFit program f chosen → AllFit program f other →
      TaskFits program f (Some base) (Branch at chosen other) (tested ∷ base) base
  -- a loop without a test, and one with
  repeats : {base : List Known} {at : Point} {site : ℕ} {step : Option Expression} {body : Statement} {begun : ℕ} →
      OptionalFits program f step → StatementFits program f body →
      TaskFits program f (Some base) (InLoop at site None step body begun) base base
  tests : {base : List Known} {at : Point} {site : ℕ} {test : Expression} {step : Option Expression}
      {body : Statement} {begun : ℕ} (t : IntType) → HasType program f test t → OptionalFits program f step →
      StatementFits program f body →
      TaskFits program f (Some base) (InLoop at site (Some test) step body begun) (Of t ∷ base) base
  selects : {base : List Known} {at : Point} {site : ℕ} {arms : Arms} {tested : Known} → ArmsFit program f arms →
      TaskFits program f (Some base) (Select at site arms) (tested ∷ base) base
  switches : {base : List Known} {at : Point} {site : ℕ} → TaskFits program f (Some base) (InSwitch at site) base base
  leaves : {base : List Known} {at : Point} →
      TaskFits program f (Some base) (Leave at) (known_of f.result ∷ base) base

-- where tasks end: what is left of them, the function under way, the frames below its own, what is known of the list
-- of values, and of the list that statements find
abbrev pub End : Type 1
End = List Task → ℕ → List Frame → List Known → Option (List Known) → Type 0

-- all tasks up to an end fit, each with what the one before it leaves. Behind the marker of a call the caller goes on,
-- with the result of the function on its list
pub data Ahead (program : Program) (end : End) : List Task → ℕ → List Frame → List Known → Option (List Known) →
    Type 0 where
  ends : {tasks : List Task} {f : ℕ} {frames : List Frame} {known : List Known} {base : Option (List Known)} →
      end tasks f frames known base → Ahead program end tasks f frames known base
  goes_on : {task : Task} {rest : List Task} {f : ℕ} {frames : List Frame} {from to : List Known}
      {base : Option (List Known)} → TaskFits program (function_at program f) base task from to →
      Ahead program end rest f frames to base → Ahead program end (task ∷ rest) f frames from base
  returns_to : {at : Point} {site : ℕ} {rest : List Task} {f : ℕ} {frame : Frame} {frames : List Frame}
      {base : List Known} {callers : Option (List Known)} →
      Ahead program end rest frame.function frames (known_of (function_at program f).result ∷ base) callers →
      Ahead program end (InCall at site ∷ rest) f (frame ∷ frames) base (Some base)

-- the same, where the function under way is that of the first frame
abbrev pub Stands : Program → End → List Task → List Frame → List Known → Option (List Known) → Type 0
Stands program end tasks [] known base = ⊥
Stands program end tasks (frame ∷ frames) known base = Ahead program end tasks frame.function frames known base

-- an item before an end fits: its variables hold values of their types, and its list of values is as its tasks expect
pub record FitsUntil (program : Program) (end : End) (i : Item) : Type 0 where
  pub variables : Each (HoldsValues program) i.frames
  pub known : List Known
  pub values : AreKnown known i.values
  pub base : Option (List Known)
  pub tasks : Stands program end i.tasks i.frames known base

-- the end of all tasks
abbrev pub NoneLeft : End
NoneLeft tasks f frames known base = tasks ≡ []

-- the item fits
abbrev pub Fits : Program → Item → Type 0
Fits program i = FitsUntil program NoneLeft i
