-- The node of a program's text to which a way leads, and items of which each task stands at the way to its node.
use Rattle.std.specs.Prelude.{◌≡◌, ℕ, zero, suc, List, [], ◌∷◌, ◌++◌, Option, Some, None}
use Rattle.cl_model.specs.Tree.{Expression, Apply, Update, Choose, Call, Expressions, none, more, Statement, Do}
use Rattle.cl_model.specs.Tree.{Declare, Fill, Block, If, Loop, Switch, Return, Barrier, Statements, empty, also}
use Rattle.cl_model.specs.Tree.{Arms, no_arm, arm, Program}
use Rattle.cl_model.specs.Calls.{function_at, kernel_of}
use Rattle.kir.specs.Tree.{Lines, NoLine, SetThen, LoadThen, StoreThen, ClearThen, IfThen, LoopThen, BarrierThen}
use Rattle.kir_lower_shape.specs.Marks.{Way, Marks, marks_behind, marks_one, marks_two, first_way}
use Rattle.cl_model.specs.Task.{Leg, Operand, Own, Tested, Chosen, Other, Nth, Turn, Body, Step, Arm, Into, Point}
use Rattle.cl_model.specs.Task.{Task, Run, Evaluate, Finish, Peek, Alter, Decide, Enter, InCall, Discard, Keep, Clear}
use Rattle.cl_model.specs.Task.{Initialise, Branch, InLoop, Select, InSwitch, Leave}

-- a part of a program's text
pub data Node : Type 0 where
  -- there is none
  no_node : Node
  statement_node : (s : Statement) → Node
  list_node : (list : Statements) → Node
  -- an iteration of a loop
  round_node : (test step : Option Expression) (body : Statement) → Node
  expression_node : (e : Expression) → Node

-- an expression that may be absent
abbrev pub optional_node : Option Expression → Node
optional_node None = no_node
optional_node (Some e) = expression_node e

-- the one with this number
abbrev pub operand_node : ℕ → Expressions → Node
operand_node k none = no_node
operand_node zero (more e rest) = expression_node e
operand_node (suc k) (more e rest) = operand_node k rest

-- the statement with this number
abbrev pub nth_node : ℕ → Statements → Node
nth_node k empty = no_node
nth_node zero (also s rest) = statement_node s
nth_node (suc k) (also s rest) = nth_node k rest

-- the statements of the arm with this number
abbrev pub arm_node : ℕ → Arms → Node
arm_node k no_arm = no_node
arm_node zero (arm labels other body rest) = list_node body
arm_node (suc k) (arm labels other body rest) = arm_node k rest

-- ---- one leg further

abbrev pub statement_child : Statement → Leg → Node
statement_child (Do e) (Operand k) = expression_node e
statement_child (Declare x value) (Operand k) = optional_node value
statement_child (Fill site array values) (Operand k) = operand_node k values
statement_child (Block list) (Nth k) = nth_node k list
statement_child (If site test chosen other) Tested = expression_node test
statement_child (If site test chosen other) Chosen = list_node chosen
statement_child (If site test chosen other) Other = list_node other
statement_child (Loop site test_first test step body) (Turn k) = round_node test step body
statement_child (Switch site value arms) Tested = expression_node value
statement_child (Switch site value arms) (Arm k) = arm_node k arms
statement_child (Return site value) (Operand k) = optional_node value
statement_child _ _ = no_node

-- of an iteration
abbrev pub round_child : Option Expression → Option Expression → Statement → Leg → Node
round_child test step body Tested = optional_node test
round_child test step body Step = optional_node step
round_child test step body Body = statement_node body
round_child test step body _ = no_node

-- of statements in order
abbrev pub list_child : Statements → Leg → Node
list_child list (Nth k) = nth_node k list
list_child list _ = no_node

-- of an expression; behind a call stands the body of its function
abbrev pub expression_child : Program → Expression → Leg → Node
expression_child program (Apply action operands) (Operand k) = operand_node k operands
expression_child program (Update site element root op of back old index value) (Operand zero) = expression_node index
expression_child program (Update site element root op of back old index value) (Operand (suc k)) = expression_node value
expression_child program (Choose site test chosen other) Tested = expression_node test
expression_child program (Choose site test chosen other) Chosen = expression_node chosen
expression_child program (Choose site test chosen other) Other = expression_node other
expression_child program (Call site function roots arguments) (Operand k) = operand_node k arguments
expression_child program (Call site function roots arguments) Into =
    statement_node (Block (function_at program function).body)
expression_child program _ _ = no_node

-- of any node
abbrev pub child : Program → Node → Leg → Node
child program no_node leg = no_node
child program (statement_node s) leg = statement_child s leg
child program (list_node list) leg = list_child list leg
child program (round_node test step body) leg = round_child test step body leg
child program (expression_node e) leg = expression_child program e leg

-- along a way
abbrev pub node_from : Program → Node → Point → Node
node_from program node [] = node
node_from program node (leg ∷ way) = node_from program (child program node leg) way

-- from the kernel's body
abbrev pub node_at : Program → Point → Node
node_at program way = node_from program (statement_node (Block (kernel_of program).body)) way

-- a barrier
abbrev pub IsBarrierNode : Node → Type 0
IsBarrierNode (statement_node (Barrier site)) = Unit {0}
IsBarrierNode _ = ⊥

-- there is a node
abbrev pub IsNode : Node → Type 0
IsNode no_node = ⊥
IsNode _ = Unit {0}

-- the way leads from the node to another, or to a step of another's own
abbrev pub IsRealFrom : Program → Node → Point → Type 0
IsRealFrom program node [] = IsNode node
IsRealFrom program node (Own k ∷ way) = IsNode node
IsRealFrom program node (leg ∷ way) = IsRealFrom program (child program node leg) way

-- from the kernel's body
abbrev pub IsReal : Program → Point → Type 0
IsReal program way = IsRealFrom program (statement_node (Block (kernel_of program).body)) way

-- ---- tasks

-- the task stands at the way to its node, and what it will do at the ways to theirs
abbrev pub IsInPlace : Program → Task → Type 0
IsInPlace program (Run at s) = node_at program at ≡ statement_node s
IsInPlace program (Evaluate at e) = node_at program at ≡ expression_node e
IsInPlace program (Decide at chosen other) = (node_at program (at ++ Chosen ∷ []) ≡ expression_node chosen) ×
    (node_at program (at ++ Other ∷ []) ≡ expression_node other)
IsInPlace program (Enter at site function roots count) =
    node_at program (at ++ Into ∷ []) ≡ statement_node (Block (function_at program function).body)
IsInPlace program (Discard at) = (node_at program at ≡ no_node) × IsReal program at
IsInPlace program (Branch at chosen other) =
    (node_at program (at ++ Chosen ∷ []) ≡ list_node chosen) × (node_at program (at ++ Other ∷ []) ≡ list_node other)
IsInPlace program (InLoop at site test step body begun) =
    (k : ℕ) → node_at program (at ++ Turn k ∷ []) ≡ round_node test step body
IsInPlace program (Select at site arms) =
    IsNode (node_at program at) × ((k : ℕ) → node_at program (at ++ Arm k ∷ []) ≡ arm_node k arms)
IsInPlace program (Finish at action count) = IsNode (node_at program at)
IsInPlace program (Peek at site element root) = IsNode (node_at program at)
IsInPlace program (Alter at site element root op of back old) = IsNode (node_at program at)
IsInPlace program (InCall at site) = IsNode (node_at program at)
IsInPlace program (Keep at x) = IsNode (node_at program at)
IsInPlace program (Clear at site array count) = IsNode (node_at program at)
IsInPlace program (Initialise at site array index value) = IsNode (node_at program at)
IsInPlace program (InSwitch at site) = IsNode (node_at program at)
IsInPlace program (Leave at) = IsNode (node_at program at)

-- each of an item's tasks
abbrev pub AreInPlace : Program → List Task → Type 0
AreInPlace program [] = Unit {0}
AreInPlace program (task ∷ rest) = IsInPlace program task × AreInPlace program rest

-- ---- marks

-- the way leads to the node, whatever iterations have begun
abbrev pub WayLeads : Program → Way → Node → Type 0
WayLeads program way node = (begun : List ℕ) → node_at program (way begun) ≡ node

-- the mark of each barrier line says the way to a barrier
abbrev pub BarriersMarked : Program → Lines → Marks → Type 0
BarriersMarked program NoLine marks = Unit {0}
BarriersMarked program (SetThen to work rest) marks = BarriersMarked program rest (marks_behind marks)
BarriersMarked program (LoadThen site to element root index rest) marks =
    BarriersMarked program rest (marks_behind marks)
BarriersMarked program (StoreThen site element root index from rest) marks =
    BarriersMarked program rest (marks_behind marks)
BarriersMarked program (ClearThen array rest) marks = BarriersMarked program rest (marks_behind marks)
BarriersMarked program (IfThen site test chosen other rest) marks = BarriersMarked program chosen (marks_one marks) ×
    BarriersMarked program other (marks_two marks) × BarriersMarked program rest (marks_behind marks)
BarriersMarked program (LoopThen site test_first test answer body rest) marks =
    BarriersMarked program test (marks_one marks) × BarriersMarked program body (marks_two marks) ×
    BarriersMarked program rest (marks_behind marks)
BarriersMarked program (BarrierThen site rest) marks =
    ((begun : List ℕ) → IsBarrierNode (node_at program (first_way marks begun))) ×
    BarriersMarked program rest (marks_behind marks)

-- the marks say the ways to barriers
pub record AreMarked (program : Program) (lines : Lines) (marks : Marks) : Type 0 where
  pub is : BarriersMarked program lines marks
