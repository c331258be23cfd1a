-- A work-item: tasks, values and frames. A task names a node by the way that leads to it, and the part of it that is
-- done.
use Rattle.std.specs.Prelude.{ℕ, suc, ℤ, List, [], ◌∷◌, ◌++◌, Option, Some, None}
use Rattle.std.specs.Prelude.{Bool as Test}
use Rattle.wg_num.specs.declared.types.IntType.{IntType}
use Rattle.wg_num.specs.declared.types.Bin.{Bin}
use Rattle.cl_model.specs.declared.program.Root.{Root}
use Rattle.cl_model.specs.Tree.{Action, Expression, Statement, Statements, Arms}

-- a leg of the way from the kernel's body to a task
pub data Leg : Type 0 where
  -- an operand, argument or value, by its number
  Operand : (number : ℕ) → Leg
  -- a step of the node's own, by its number
  Own : (number : ℕ) → Leg
  -- the test of a choice, the value of a switch
  Tested : Leg
  Chosen : Leg
  Other : Leg
  -- a statement of a list, by its number
  Nth : (number : ℕ) → Leg
  -- a loop that has begun so many iterations
  Turn : (begun : ℕ) → Leg
  Body : Leg
  Step : Leg
  -- an arm of a switch, by its number
  Arm : (number : ℕ) → Leg
  -- the body of the function that is called
  Into : Leg
  deriving Discrete as Leg-discrete

-- a place of the program with the path of calls and the iterations begun of each loop around it
abbrev pub Point : Type 0
Point = List Leg

-- what is to be done, with the way to its node
pub data Task : Type 0 where
  Run : (at : Point) (s : Statement) → Task
  -- an expression whose value is to be put on the list of values
  Evaluate : (at : Point) (e : Expression) → Task
  -- so many operands have their values
  Finish : (at : Point) (action : Action) (count : ℕ) → Task
  -- the index of an update is there
  Peek : (at : Point) (site : ℕ) (element : IntType) (root : Root) → Task
  -- the index of an update, the old value and the right side are there
  Alter : (at : Point) (site : ℕ) (element : IntType) (root : Root) (op : Bin) (of back : IntType) (old : Test) → Task
  -- the test of ?:, && or || is there
  Decide : (at : Point) (chosen other : Expression) → Task
  -- the arguments of a call are there, so many
  Enter : (at : Point) (site function : ℕ) (roots : List (Option Root)) (count : ℕ) → Task
  -- the marker of a call; as the first task, the end of the function's body
  InCall : (at : Point) (site : ℕ) → Task
  -- a value that nothing uses is there
  Discard : (at : Point) → Task
  -- the value for a variable that is declared is there
  Keep : (at : Point) (x : ℕ) → Task
  -- the values for an array are there, so many
  Clear : (at : Point) (site array count : ℕ) → Task
  -- a value for an element of an array
  Initialise : (at : Point) (site array index : ℕ) (value : ℤ) → Task
  -- the test of an if is there
  Branch : (at : Point) (chosen other : Statements) → Task
  -- the marker of a loop that has begun so many iterations; as the first task, the value of its test is there, or it
  -- has no test
  InLoop : (at : Point) (site : ℕ) (test step : Option Expression) (body : Statement) (begun : ℕ) → Task
  -- the value of a switch is there
  Select : (at : Point) (site : ℕ) (arms : Arms) → Task
  -- the marker of a switch
  InSwitch : (at : Point) (site : ℕ) → Task
  -- the value of a return is there
  Leave : (at : Point) → Task

-- the point of an item whose first task this is
abbrev pub point_of : Task → Point
point_of (Run at s) = at
point_of (Evaluate at e) = at
point_of (Finish at action count) = at ++ Own 0 ∷ []
point_of (Peek at site element root) = at ++ Own 0 ∷ []
point_of (Alter at site element root op of back old) = at ++ Own 1 ∷ []
point_of (Decide at chosen other) = at ++ Own 0 ∷ []
point_of (Enter at site function roots count) = at ++ Own 0 ∷ []
point_of (InCall at site) = at ++ Own 1 ∷ []
point_of (Discard at) = at
point_of (Keep at x) = at ++ Own 0 ∷ []
point_of (Clear at site array count) = at ++ Own 0 ∷ []
point_of (Initialise at site array index value) = at ++ Own (suc index) ∷ []
point_of (Branch at chosen other) = at ++ Own 0 ∷ []
point_of (InLoop at site test step body begun) = at ++ (Turn begun ∷ Own 0 ∷ [])
point_of (Select at site arms) = at ++ Own 0 ∷ []
point_of (InSwitch at site) = at ++ Own 1 ∷ []
point_of (Leave at) = at ++ Own 0 ∷ []

-- where the item of these tasks stands, if it has not ended
abbrev pub first_point : List Task → Option Point
first_point [] = None
first_point (task ∷ rest) = Some (point_of task)

-- a function under way: the sites of the calls that lead to it, the object that each of its parameters names, and its
-- variables; that of a pointer is its element offset from its root
pub record Frame : Type 0 where
  pub function : ℕ
  pub path : List ℕ
  pub objects : ℕ → ℕ
  pub variables : ℕ → ℤ

-- a work-item with its number in the launch; the last value and the innermost frame come first
pub record Item : Type 0 where
  pub number : ℕ
  pub tasks : List Task
  pub values : List ℤ
  pub frames : List Frame
