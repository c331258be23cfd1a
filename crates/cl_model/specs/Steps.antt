-- What a work-item does next: the first task decides, one step for each kind of task and node.
use Rattle.std.specs.Prelude.{ℕ, zero, suc, ℤ, pos, List, [], ◌∷◌, ◌++◌, Option, Some, None, slice_get, unwrap_or}
use Rattle.std.specs.Prelude.{nat_eq, if◌then◌else◌}
use Rattle.std.specs.Prelude.{Bool as Test, true, false}
use Rattle.std.specs.Ordering.{int_eq}
use Rattle.work_items.specs.Memory.{Access}
use Rattle.work_items.specs.Items.{Next, Ends, Waits, Goes, Begins, Loads, Stores}
use Rattle.wg_num.specs.declared.types.IntType.{IntType}
use Rattle.wg_num.specs.declared.types.IntType.TheVariants.{Long}
use Rattle.wg_num.specs.declared.types.Bin.{Bin}
use Rattle.wg_num.specs.Wrap.{wrap_of}
use Rattle.wg_num.specs.Operators.{unary_of, binary_of}
use Rattle.wg_num.specs.Builtins.{builtin_of}
use Rattle.cl_model.specs.declared.program.Space.TheVariants as space
use Rattle.cl_model.specs.declared.program.Root.{Root}
use Rattle.cl_model.specs.declared.program.Root.TheVariants.{Private}
use Rattle.cl_model.specs.Tree.{Action, Literal, Variable, Unary, Binary, Builtin, Convert, Ask, Second, Truth}
use Rattle.cl_model.specs.Tree.{Decided, Set, Change, Load, Store, Expression, Apply, Update, Choose, Call}
use Rattle.cl_model.specs.Tree.{Expressions, none, more, Statement, Do, Declare, Fill, Block, If, Loop, Switch, Break}
use Rattle.cl_model.specs.Tree.{Continue, Return, Barrier, Statements, empty, also, Arms, no_arm, arm, Array, Program}
use Rattle.wg_num.specs.Bytes.{size_of, bytes_of, value_of_bytes}
use Rattle.cl_model.specs.Values.{is_zero, number_of}
use Rattle.cl_model.specs.Sizes.{Launch, answer_of}
use Rattle.cl_model.specs.Calls.{function_at}
use Rattle.cl_model.specs.Objects.{object_of, array_bytes, zeros}
use Rattle.cl_model.specs.Task.{Operand, Own, Tested, Chosen, Other, Nth, Turn, Body, Step, Arm, Into, Point, Task}
use Rattle.cl_model.specs.Task.{Run, Evaluate, Finish, Peek, Alter, Decide, Enter, InCall, Discard, Keep, Clear}
use Rattle.cl_model.specs.Task.{Initialise, Branch, InLoop, Select, InSwitch, Leave, Frame, Item}

-- the last value, and those before it
abbrev pub last : List ℤ → ℤ
last [] = pos 0
last (v ∷ values) = v

-- the values before the last
abbrev pub before : List ℤ → List ℤ
before [] = []
before (v ∷ values) = values

-- the last values, so many of them, the earliest first, in front of others
abbrev pub taken_onto : ℕ → List ℤ → List ℤ → List ℤ
taken_onto zero values onto = onto
taken_onto (suc n) values onto = taken_onto n (before values) (last values ∷ onto)

-- the last values, so many of them, the earliest first
abbrev pub taken : ℕ → List ℤ → List ℤ
taken n values = taken_onto n values []

-- the values before those
abbrev pub below : ℕ → List ℤ → List ℤ
below zero values = values
below (suc n) values = below n (before values)

-- the value with this number, from 0
abbrev pub nth : List ℤ → ℕ → ℤ
nth values n = unwrap_or (slice_get values n) (pos 0)

-- what stands for the frame where there is none
abbrev pub no_frame : Frame
no_frame = record { function = 0; path = []; objects = λ n. 0; variables = λ x. pos 0 }

-- the frame of the function that is under way
abbrev pub frame_of : List Frame → Frame
frame_of [] = no_frame
frame_of (frame ∷ frames) = frame

-- the frames of the calls around it
abbrev pub frames_below : List Frame → List Frame
frames_below [] = []
frames_below (frame ∷ frames) = frames

-- the frame after a variable is set
abbrev pub set_in : Frame → ℕ → ℤ → Frame
set_in frame x v = record frame { variables = λ y. if nat_eq x y then v else frame.variables y }

-- the frames after a variable of the first is set
abbrev pub set_first : List Frame → ℕ → ℤ → List Frame
set_first [] x v = []
set_first (frame ∷ frames) x v = set_in frame x v ∷ frames

-- the item with other tasks, and with other tasks and values
abbrev pub with_tasks : Item → List Task → Item
with_tasks i tasks = record i { tasks = tasks }

-- the item with other tasks and values
abbrev pub with_values : Item → List Task → List ℤ → Item
with_values i tasks values = record i { tasks = tasks; values = values }

-- the item with a variable set besides
abbrev pub with_variable : Item → List Task → List ℤ → ℕ → ℤ → Item
with_variable i tasks values x v = record i { tasks = tasks; values = values; frames = set_first i.frames x v }

-- the object that a root names to the item
abbrev pub object_at : Program → Launch → Item → Root → ℕ
object_at program launch i root =
    object_of program launch i.number (frame_of i.frames).path (frame_of i.frames).objects root

-- expressions from left to right, the first with this number, before other tasks
abbrev pub each_operand : Point → ℕ → Expressions → List Task → List Task
each_operand at k none tasks = tasks
each_operand at k (more e rest) tasks = Evaluate (at ++ Operand k ∷ []) e ∷ each_operand at (suc k) rest tasks

-- how many expressions there are
abbrev pub count_of : Expressions → ℕ
count_of none = 0
count_of (more e rest) = suc (count_of rest)

-- statements in order, the first with this number, before other tasks
abbrev pub in_order : Point → ℕ → Statements → List Task → List Task
in_order at k empty tasks = tasks
in_order at k (also s rest) tasks = Run (at ++ Nth k ∷ []) s ∷ in_order at (suc k) rest tasks

-- the test of a loop that has begun so many iterations, before other tasks
abbrev pub test_tasks : Point → ℕ → Option Expression → List Task → List Task
test_tasks at k None tasks = tasks
test_tasks at k (Some e) tasks = Evaluate (at ++ (Turn k ∷ Tested ∷ [])) e ∷ tasks

-- its step expression
abbrev pub step_tasks : Point → ℕ → Option Expression → List Task → List Task
step_tasks at k None tasks = tasks
step_tasks at k (Some e) tasks = Evaluate (at ++ (Turn k ∷ Step ∷ [])) e ∷ Discard (at ++ (Turn k ∷ Own 1 ∷ [])) ∷ tasks

-- the iteration of a loop with this number, counted from 1: body, step expression, test
abbrev pub iteration : Point → ℕ → Option Expression → Option Expression → Statement → ℕ → List Task → List Task
iteration at site test step body k tasks =
    Run (at ++ (Turn k ∷ Body ∷ [])) body ∷
    step_tasks at k step (test_tasks at k test (InLoop at site test step body k ∷ tasks))

-- `break`: the tasks behind the nearest loop or switch; it never leaves its function
abbrev pub behind_break : List Task → List Task
behind_break [] = []
behind_break (InLoop at site test step body begun ∷ tasks) = tasks
behind_break (InSwitch at site ∷ tasks) = tasks
behind_break (InCall at site ∷ tasks) = InCall at site ∷ tasks
behind_break (_ ∷ tasks) = behind_break tasks

-- `continue`: the step expression and the test of the nearest loop, whose marker stays; it never leaves its function
abbrev pub behind_continue : List Task → List Task
behind_continue [] = []
behind_continue (InLoop at site test step body begun ∷ tasks) =
    step_tasks at begun step (test_tasks at begun test (InLoop at site test step body begun ∷ tasks))
behind_continue (InCall at site ∷ tasks) = InCall at site ∷ tasks
behind_continue (_ ∷ tasks) = behind_continue tasks

-- `return`: the item behind the nearest call, without its frame, or in the kernel with no task left
abbrev pub behind_return : Item → List Task → List ℤ → Item
behind_return i [] values = with_values i [] values
behind_return i (InCall at site ∷ tasks) values =
    record i { tasks = tasks; values = values; frames = frames_below i.frames }
behind_return i (_ ∷ tasks) values = behind_return i tasks values

-- the value is one of the labels
abbrev pub has_label : ℤ → List ℤ → Test
has_label v [] = false
has_label v (label ∷ labels) = if int_eq v label then true else has_label v labels

-- where a switch is entered: nowhere, or at an arm with this number, which is the first of those that are left
pub data Entry : Type 0 where
  nowhere : Entry
  entry : (number : ℕ) (arms : Arms) → Entry

-- at the arm with the value as a label
abbrev pub labelled : ℤ → ℕ → Arms → Entry
labelled v k no_arm = nowhere
labelled v k (arm labels other body rest) =
    if has_label v labels then entry k (arm labels other body rest) else labelled v (suc k) rest

-- at the arm with `default`
abbrev pub defaulted : ℕ → Arms → Entry
defaulted k no_arm = nowhere
defaulted k (arm labels other body rest) =
    if other then entry k (arm labels other body rest) else defaulted (suc k) rest

-- the first entry, or else the second
abbrev pub or_else : Entry → Entry → Entry
or_else nowhere second = second
or_else (entry k arms) second = entry k arms

-- where a switch on the value is entered: at its label, else at `default`, else nowhere
abbrev pub entry_of : ℤ → Arms → Entry
entry_of v arms = or_else (labelled v 0 arms) (defaulted 0 arms)

-- the bodies of the arms from one on, before other tasks
abbrev pub arm_tasks : Point → ℕ → Arms → List Task → List Task
arm_tasks at k no_arm tasks = tasks
arm_tasks at k (arm labels other body rest) tasks = in_order (at ++ Arm k ∷ []) 0 body (arm_tasks at (suc k) rest tasks)

-- the bodies from the entry on, before other tasks
abbrev pub entry_tasks : Point → Entry → List Task → List Task
entry_tasks at nowhere tasks = tasks
entry_tasks at (entry k arms) tasks = arm_tasks at k arms tasks

-- the new value of a compound assignment: computed in one type, converted to another
abbrev pub changed : Bin → IntType → IntType → ℤ → ℤ → ℤ
changed op of back a b = wrap_of back (binary_of op of (wrap_of of a) b)

-- an access to the element with this number of a root
abbrev pub access_at : Program → Launch → Item → IntType → Root → ℤ → Access
access_at program launch i element root index =
    record { object = object_at program launch i root; size = size_of element; index = index }

-- the step of an action on the values of its operands, where these values are below them
abbrev pub action_next : Program → Launch → Item → Action → List ℤ → List ℤ → List Task → Next Item
action_next program launch i (Literal value of) args values rest = Goes (with_values i rest (value ∷ values))
action_next program launch i (Variable x) args values rest =
    Goes (with_values i rest ((frame_of i.frames).variables x ∷ values))
action_next program launch i (Unary op of) args values rest =
    Goes (with_values i rest (unary_of op of (nth args 0) ∷ values))
action_next program launch i (Binary op of) args values rest =
    Goes (with_values i rest (binary_of op of (nth args 0) (nth args 1) ∷ values))
action_next program launch i (Builtin f of) args values rest =
    Goes (with_values i rest (builtin_of f of (nth args 0) (nth args 1) (nth args 2) ∷ values))
action_next program launch i (Convert to) args values rest =
    Goes (with_values i rest (wrap_of to (nth args 0) ∷ values))
action_next program launch i (Ask what) args values rest =
    Goes (with_values i rest (answer_of launch i.number what (nth args 0) ∷ values))
action_next program launch i Second args values rest = Goes (with_values i rest (nth args 1 ∷ values))
action_next program launch i Truth args values rest =
    Goes (with_values i rest ((if is_zero (nth args 0) then pos 0 else pos 1) ∷ values))
action_next program launch i (Decided answer) args values rest = Goes (with_values i rest (number_of answer ∷ values))
action_next program launch i (Set x) args values rest = Goes (with_variable i rest (nth args 0 ∷ values) x (nth args 0))
action_next program launch i (Change x op of back old) args values rest =
    Goes (with_variable i rest ((if old then nth args 0 else changed op of back (nth args 0) (nth args 1)) ∷ values) x
    (changed op of back (nth args 0) (nth args 1)))
action_next program launch i (Load site element root) args values rest =
    Loads site (access_at program launch i element root (nth args 0))
    (λ bytes. with_values i rest (value_of_bytes element bytes ∷ values))
action_next program launch i (Store site element root) args values rest =
    Stores site (object_at program launch i root) (nth args 0) (bytes_of element (nth args 1))
    (with_values i rest (nth args 1 ∷ values))

-- the step of an expression that begins
abbrev pub evaluate_next : Program → Launch → Item → Point → Expression → List Task → Next Item
evaluate_next program launch i at (Apply action none) rest = action_next program launch i action [] i.values rest
evaluate_next program launch i at (Apply action (more e es)) rest =
    Goes (with_tasks i (each_operand at 0 (more e es) (Finish at action (count_of (more e es)) ∷ rest)))
evaluate_next program launch i at (Update site element root op of back old index value) rest =
    Goes (with_tasks i (Evaluate (at ++ Operand 0 ∷ []) index ∷ Peek at site element root ∷
    Evaluate (at ++ Operand 1 ∷ []) value ∷ Alter at site element root op of back old ∷ rest))
evaluate_next program launch i at (Choose site test chosen other) rest =
    Goes (with_tasks i (Evaluate (at ++ Tested ∷ []) test ∷ Decide at chosen other ∷ rest))
evaluate_next program launch i at (Call site function roots arguments) rest =
    Goes (with_tasks i (each_operand at 0 arguments (Enter at site function roots (count_of arguments) ∷ rest)))

-- the step of a statement that begins
abbrev pub run_next : Program → Item → Point → Statement → List Task → Next Item
run_next program i at (Do e) rest =
    Goes (with_tasks i (Evaluate (at ++ Operand 0 ∷ []) e ∷ Discard (at ++ Own 0 ∷ []) ∷ rest))
run_next program i at (Declare x None) rest = Goes (with_variable i rest i.values x (pos 0))
run_next program i at (Declare x (Some e)) rest =
    Goes (with_tasks i (Evaluate (at ++ Operand 0 ∷ []) e ∷ Keep at x ∷ rest))
run_next program i at (Fill site array values) rest =
    Goes (with_tasks i (each_operand at 0 values (Clear at site array (count_of values) ∷ rest)))
run_next program i at (Block list) rest = Goes (with_tasks i (in_order at 0 list rest))
run_next program i at (If site test chosen other) rest =
    Goes (with_tasks i (Evaluate (at ++ Tested ∷ []) test ∷ Branch at chosen other ∷ rest))
run_next program i at (Loop site true test step body) rest =
    Goes (with_tasks i (test_tasks at 0 test (InLoop at site test step body 0 ∷ rest)))
run_next program i at (Loop site false test step body) rest =
    Begins (with_tasks i (iteration at site test step body 1 rest))
run_next program i at (Switch site value arms) rest =
    Goes (with_tasks i (Evaluate (at ++ Tested ∷ []) value ∷ Select at site arms ∷ rest))
run_next program i at (Break site) rest = Goes (with_tasks i (behind_break rest))
run_next program i at (Continue site) rest = Goes (with_tasks i (behind_continue rest))
run_next program i at (Return site None) rest = Goes (behind_return i rest (pos 0 ∷ i.values))
run_next program i at (Return site (Some e)) rest =
    Goes (with_tasks i (Evaluate (at ++ Operand 0 ∷ []) e ∷ Leave at ∷ rest))
run_next program i at (Barrier site) rest = Waits site (with_tasks i rest)

-- the array of the function that is under way
abbrev pub no_array : Array
no_array = record { space = space.Private; element = Long; count = 0 }

-- the array with this number of the function that is under way
abbrev pub array_at : Program → Item → ℕ → Array
array_at program i array =
    unwrap_or (slice_get (function_at program (frame_of i.frames).function).arrays array) no_array

-- one task for each value of an array, the first for the element with this number, before other tasks
abbrev pub initial_tasks : Point → ℕ → ℕ → ℕ → List ℤ → List Task → List Task
initial_tasks at site array k [] tasks = tasks
initial_tasks at site array k (v ∷ values) tasks =
    Initialise at site array k v ∷ initial_tasks at site array (suc k) values tasks

-- the objects that the parameters of a called function name
abbrev pub passed_object : Program → Launch → Item → Option (Option Root) → ℕ
passed_object program launch i None = 0
passed_object program launch i (Some None) = 0
passed_object program launch i (Some (Some root)) = object_at program launch i root

-- the frame of a called function
abbrev pub new_frame : Program → Launch → Item → ℕ → ℕ → List (Option Root) → List ℤ → Frame
new_frame program launch i site function roots args = record {
  function = function;
  path = (frame_of i.frames).path ++ site ∷ [];
  objects = λ n. passed_object program launch i (slice_get roots n);
  variables = λ x. nth args x;
}

-- the last step of an update: it stores the new value
abbrev pub alter_next : Program → Launch → Item → ℕ → IntType → Root → ℤ → ℤ → ℤ → List ℤ → List Task → Next Item
alter_next program launch i site element root index new value values rest =
    Stores site (object_at program launch i root) index (bytes_of element new) (with_values i rest (value ∷ values))

-- the step of the first task
abbrev pub task_next : Program → Launch → Item → Task → List Task → Next Item
task_next program launch i (Run at s) rest = run_next program i at s rest
task_next program launch i (Evaluate at e) rest = evaluate_next program launch i at e rest
task_next program launch i (Finish at action count) rest =
    action_next program launch i action (taken count i.values) (below count i.values) rest
task_next program launch i (Peek at site element root) rest =
    Loads site (access_at program launch i element root (last i.values))
    (λ bytes. with_values i rest (value_of_bytes element bytes ∷ i.values))
task_next program launch i (Alter at site element root op of back old) rest =
    let index = last (before (before i.values)) in
    let was = last (before i.values) in
    let new = changed op of back was (last i.values) in
    alter_next program launch i site element root index new (if old then was else new) (below 3 i.values) rest
task_next program launch i (Decide at chosen other) rest =
    Goes (with_values i ((if is_zero (last i.values) then Evaluate (at ++ Other ∷ []) other else Evaluate
    (at ++ Chosen ∷ []) chosen) ∷ rest) (before i.values))
task_next program launch i (Enter at site function roots count) rest =
    Goes (record i {
      tasks = Run (at ++ Into ∷ []) (Block (function_at program function).body) ∷ InCall at site ∷ rest;
      values = below count i.values;
      frames = new_frame program launch i site function roots (taken count i.values) ∷ i.frames;
    })
task_next program launch i (InCall at site) rest =
    Goes (record i { tasks = rest; values = pos 0 ∷ i.values; frames = frames_below i.frames })
task_next program launch i (Discard at) rest = Goes (with_values i rest (before i.values))
task_next program launch i (Keep at x) rest = Goes (with_variable i rest (before i.values) x (last i.values))
task_next program launch i (Clear at site array count) rest =
    Stores 0 (object_at program launch i (Private array)) (pos 0) (zeros (array_bytes (array_at program i array)))
    (with_values i (initial_tasks at site array 0 (taken count i.values) rest) (below count i.values))
task_next program launch i (Initialise at site array index value) rest =
    Stores site (object_at program launch i (Private array)) (pos index)
    (bytes_of (array_at program i array).element value) (with_tasks i rest)
task_next program launch i (Branch at chosen other) rest =
    Goes (with_values i (if is_zero (last i.values) then in_order (at ++ Other ∷ []) 0 other rest else in_order
    (at ++ Chosen ∷ []) 0 chosen rest) (before i.values))
task_next program launch i (InLoop at site None step body begun) rest =
    Begins (with_tasks i (iteration at site None step body (suc begun) rest))
task_next program launch i (InLoop at site (Some test) step body begun) rest =
    if is_zero (last i.values)
    then Goes (with_values i rest (before i.values))
    else Begins (with_values i (iteration at site (Some test) step body (suc begun) rest) (before i.values))
task_next program launch i (Select at site arms) rest =
    Goes (with_values i (entry_tasks at (entry_of (last i.values) arms) (InSwitch at site ∷ rest)) (before i.values))
task_next program launch i (InSwitch at site) rest = Goes (with_tasks i rest)
task_next program launch i (Leave at) rest = Goes (behind_return i rest i.values)

-- the step of the first task, if there is one
abbrev pub first_next : Program → Launch → Item → List Task → Next Item
first_next program launch i [] = Ends
first_next program launch i (task ∷ rest) = task_next program launch i task rest

-- what the item does next
abbrev pub item_next : Program → Launch → Item → Next Item
item_next program launch i = first_next program launch i i.tasks
