-- What an item of a program may have left to do after some steps, whatever its loads give and its tests answer.
use Rattle.std.specs.Prelude.{◌≡◌, suc, ℤ, List, [], ◌∷◌, ◌++◌, Some, None, ◌⊎◌}
use Rattle.std.specs.Prelude.{true, false}
use Rattle.cl_model.specs.Tree.{Expression, Apply, Update, Choose, Call, none, more, Statement, Do, Declare, Fill}
use Rattle.cl_model.specs.Tree.{Block, If, Loop, Switch, Break, Continue, Return, Barrier, Program}
use Rattle.cl_model.specs.Calls.{function_at}
use Rattle.cl_model.specs.Task.{Operand, Own, Tested, Chosen, Other, Into, Point, Task, Run, Evaluate, Finish, Peek}
use Rattle.cl_model.specs.Task.{Alter, Decide, Enter, InCall, Discard, Keep, Clear, Initialise, Branch, InLoop}
use Rattle.cl_model.specs.Task.{Select, InSwitch, Leave}
use Rattle.cl_model.specs.Steps.{each_operand, count_of, in_order, test_tasks, iteration, behind_break}
use Rattle.cl_model.specs.Steps.{behind_continue, initial_tasks, entry_of, entry_tasks}

-- ---- ways out

-- `return`: the tasks behind the nearest call, or none in the kernel
abbrev pub behind_call : List Task → List Task
behind_call [] = []
behind_call (InCall at site ∷ tasks) = tasks
behind_call (_ ∷ tasks) = behind_call tasks

-- ---- steps

-- an expression that begins
abbrev pub EvaluateLeads : Point → Expression → List Task → List Task → Type 0
EvaluateLeads at (Apply action none) rest to = to ≡ rest
EvaluateLeads at (Apply action (more e es)) rest to =
    to ≡ each_operand at 0 (more e es) (Finish at action (count_of (more e es)) ∷ rest)
EvaluateLeads at (Update site element root op of back old index value) rest to =
    to ≡ Evaluate (at ++ Operand 0 ∷ []) index ∷ Peek at site element root ∷ Evaluate (at ++ Operand 1 ∷ []) value ∷
    Alter at site element root op of back old ∷ rest
EvaluateLeads at (Choose site test chosen other) rest to =
    to ≡ Evaluate (at ++ Tested ∷ []) test ∷ Decide at chosen other ∷ rest
EvaluateLeads at (Call site function roots arguments) rest to =
    to ≡ each_operand at 0 arguments (Enter at site function roots (count_of arguments) ∷ rest)

-- a statement that begins
abbrev pub RunLeads : Point → Statement → List Task → List Task → Type 0
RunLeads at (Do e) rest to = to ≡ Evaluate (at ++ Operand 0 ∷ []) e ∷ Discard (at ++ Own 0 ∷ []) ∷ rest
RunLeads at (Declare x None) rest to = to ≡ rest
RunLeads at (Declare x (Some e)) rest to = to ≡ Evaluate (at ++ Operand 0 ∷ []) e ∷ Keep at x ∷ rest
RunLeads at (Fill site array values) rest to =
    to ≡ each_operand at 0 values (Clear at site array (count_of values) ∷ rest)
RunLeads at (Block list) rest to = to ≡ in_order at 0 list rest
RunLeads at (If site test chosen other) rest to = to ≡ Evaluate (at ++ Tested ∷ []) test ∷ Branch at chosen other ∷ rest
RunLeads at (Loop site true test step body) rest to = to ≡ test_tasks at 0 test (InLoop at site test step body 0 ∷ rest)
RunLeads at (Loop site false test step body) rest to = to ≡ iteration at site test step body 1 rest
RunLeads at (Switch site value arms) rest to = to ≡ Evaluate (at ++ Tested ∷ []) value ∷ Select at site arms ∷ rest
RunLeads at (Break site) rest to = to ≡ behind_break rest
RunLeads at (Continue site) rest to = to ≡ behind_continue rest
RunLeads at (Return site None) rest to = to ≡ behind_call rest
RunLeads at (Return site (Some e)) rest to = to ≡ Evaluate (at ++ Operand 0 ∷ []) e ∷ Leave at ∷ rest
RunLeads at (Barrier site) rest to = to ≡ rest

-- the step of the first task, before the others
abbrev pub TaskLeads : Program → Task → List Task → List Task → Type 0
TaskLeads program (Run at s) rest to = RunLeads at s rest to
TaskLeads program (Evaluate at e) rest to = EvaluateLeads at e rest to
TaskLeads program (Finish at action count) rest to = to ≡ rest
TaskLeads program (Peek at site element root) rest to = to ≡ rest
TaskLeads program (Alter at site element root op of back old) rest to = to ≡ rest
TaskLeads program (Decide at chosen other) rest to =
    (to ≡ Evaluate (at ++ Chosen ∷ []) chosen ∷ rest) ⊎ (to ≡ Evaluate (at ++ Other ∷ []) other ∷ rest)
TaskLeads program (Enter at site function roots count) rest to =
    to ≡ Run (at ++ Into ∷ []) (Block (function_at program function).body) ∷ InCall at site ∷ rest
TaskLeads program (InCall at site) rest to = to ≡ rest
TaskLeads program (Discard at) rest to = to ≡ rest
TaskLeads program (Keep at x) rest to = to ≡ rest
TaskLeads program (Clear at site array count) rest to =
    (values : List ℤ) × (to ≡ initial_tasks at site array 0 values rest)
TaskLeads program (Initialise at site array index value) rest to = to ≡ rest
TaskLeads program (Branch at chosen other) rest to =
    (to ≡ in_order (at ++ Chosen ∷ []) 0 chosen rest) ⊎ (to ≡ in_order (at ++ Other ∷ []) 0 other rest)
TaskLeads program (InLoop at site test step body begun) rest to =
    (to ≡ iteration at site test step body (suc begun) rest) ⊎ (to ≡ rest)
TaskLeads program (Select at site arms) rest to =
    (v : ℤ) × (to ≡ entry_tasks at (entry_of v arms) (InSwitch at site ∷ rest))
TaskLeads program (InSwitch at site) rest to = to ≡ rest
TaskLeads program (Leave at) rest to = to ≡ behind_call rest

-- a step may lead from the first tasks to the second; a barrier is passed
abbrev pub TasksLead : Program → List Task → List Task → Type 0
TasksLead program [] to = ⊥
TasksLead program (task ∷ rest) to = TaskLeads program task rest to

-- ---- barriers

-- a barrier is the first task, at this point
abbrev pub StandsAtBarrier : Point → List Task → Type 0
StandsAtBarrier point (Run at (Barrier site) ∷ rest) = at ≡ point
StandsAtBarrier point _ = ⊥
