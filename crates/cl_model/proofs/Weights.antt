-- How many steps tasks can still make between two iterations: a number that each step lowers.
use Rattle.std.proofs.Common.{◌≡◌, ℕ, zero, suc, ◌+◌, ◌≤◌, ℤ, List, [], ◌∷◌, ◌++◌, length, Option, Some, None, true}
use Rattle.std.proofs.Common.{false, cond, refl, ap, ◌∙◌, arith}
use Rattle.cl_model.specs.Tree.{Expression, Apply, Update, Choose, Call, Expressions, none, more, Statement, Do}
use Rattle.cl_model.specs.Tree.{Declare, Fill, Block, If, Loop, Switch, Break, Continue, Return, Barrier, Statements}
use Rattle.cl_model.specs.Tree.{empty, also, Arms, no_arm, arm}
use Rattle.cl_model.specs.Task.{Arm, Point, Task, Run, Evaluate, Finish, Peek, Alter, Decide, Enter, InCall, Discard}
use Rattle.cl_model.specs.Task.{Keep, Clear, Initialise, Branch, InLoop, Select, InSwitch, Leave, Item}
use Rattle.cl_model.specs.Steps.{before, last, taken, taken_onto, each_operand, count_of, in_order, test_tasks}
use Rattle.cl_model.specs.Steps.{step_tasks, iteration, behind_break, behind_continue, behind_return, has_label}
use Rattle.cl_model.specs.Steps.{Entry, nowhere, entry, labelled, defaulted, or_else, entry_of, arm_tasks}
use Rattle.cl_model.specs.Steps.{entry_tasks, initial_tasks}

-- of an expression, where w is what a call of each function weighs
abbrev mutual
  pub expression_weight : (ℕ → ℕ) → Expression → ℕ
  expression_weight w (Apply action operands) = suc (suc (operands_weight w operands))
  expression_weight w (Update site element root op of back old index value) =
      suc (suc (suc (expression_weight w index + expression_weight w value)))
  expression_weight w (Choose site test chosen other) =
      suc (suc (expression_weight w test + (expression_weight w chosen + expression_weight w other)))
  expression_weight w (Call site g roots arguments) = suc (suc (operands_weight w arguments + w g))

  pub operands_weight : (ℕ → ℕ) → Expressions → ℕ
  operands_weight w none = 0
  operands_weight w (more e rest) = expression_weight w e + operands_weight w rest

abbrev pub optional_weight : (ℕ → ℕ) → Option Expression → ℕ
optional_weight w None = 0
optional_weight w (Some e) = expression_weight w e

-- of the step expression of a loop
abbrev pub step_weight : (ℕ → ℕ) → Option Expression → ℕ
step_weight w None = 0
step_weight w (Some e) = suc (expression_weight w e)

-- of the step expression and the test, which a `continue` begins anew
abbrev pub renewed : (ℕ → ℕ) → Option Expression → Option Expression → ℕ
renewed w test step = step_weight w step + optional_weight w test

-- of a statement, where c is what a `continue` in it begins anew
abbrev mutual
  pub statement_weight : (ℕ → ℕ) → ℕ → Statement → ℕ
  statement_weight w c (Do e) = suc (suc (expression_weight w e))
  statement_weight w c (Declare x value) = suc (suc (optional_weight w value))
  statement_weight w c (Fill site array values) = suc (suc (operands_weight w values + count_of values))
  statement_weight w c (Block list) = suc (statements_weight w c list)
  statement_weight w c (If site test chosen other) =
      suc (suc (expression_weight w test + (statements_weight w c chosen + statements_weight w c other)))
  statement_weight w c (Loop site test_first test step body) = suc (suc (optional_weight w test))
  statement_weight w c (Switch site value arms) = suc (suc (suc (expression_weight w value + arms_weight w c arms)))
  statement_weight w c (Break site) = 1
  statement_weight w c (Continue site) = suc c
  statement_weight w c (Return site value) = suc (suc (optional_weight w value))
  statement_weight w c (Barrier site) = 1

  pub statements_weight : (ℕ → ℕ) → ℕ → Statements → ℕ
  statements_weight w c empty = 0
  statements_weight w c (also s rest) = statement_weight w c s + statements_weight w c rest

  pub arms_weight : (ℕ → ℕ) → ℕ → Arms → ℕ
  arms_weight w c no_arm = 0
  arms_weight w c (arm labels other body rest) = statements_weight w c body + arms_weight w c rest

abbrev pub task_weight : (ℕ → ℕ) → ℕ → Task → ℕ
task_weight w c (Run at s) = statement_weight w c s
task_weight w c (Evaluate at e) = expression_weight w e
task_weight w c (Finish at action count) = 1
task_weight w c (Peek at site element root) = 1
task_weight w c (Alter at site element root op of back old) = 1
task_weight w c (Decide at chosen other) = suc (expression_weight w chosen + expression_weight w other)
task_weight w c (Enter at site g roots count) = suc (w g)
task_weight w c (InCall at site) = 1
task_weight w c (Discard at) = 1
task_weight w c (Keep at x) = 1
task_weight w c (Clear at site array count) = suc count
task_weight w c (Initialise at site array index value) = 1
task_weight w c (Branch at chosen other) = suc (statements_weight w c chosen + statements_weight w c other)
task_weight w c (InLoop at site test step body begun) = 1
task_weight w c (Select at site arms) = suc (suc (arms_weight w c arms))
task_weight w c (InSwitch at site) = 1
task_weight w c (Leave at) = 1

-- what a `continue` in front of these tasks begins anew
abbrev pub context_of : (ℕ → ℕ) → List Task → ℕ
context_of w [] = 0
context_of w (InLoop at site test step body begun ∷ rest) = renewed w test step
context_of w (InCall at site ∷ rest) = 0
context_of w (_ ∷ rest) = context_of w rest

abbrev pub tasks_weight : (ℕ → ℕ) → List Task → ℕ
tasks_weight w [] = 0
tasks_weight w (task ∷ rest) = task_weight w (context_of w rest) task + tasks_weight w rest

pub context-each_operand : (w : ℕ → ℕ) (at : Point) (k : ℕ) (es : Expressions) (tasks : List Task) →
    context_of w (each_operand at k es tasks) ≡ context_of w tasks
context-each_operand w at k none tasks = refl
context-each_operand w at k (more e rest) tasks = context-each_operand w at (suc k) rest tasks

pub weight-each_operand : (w : ℕ → ℕ) (at : Point) (k : ℕ) (es : Expressions) (tasks : List Task) →
    tasks_weight w (each_operand at k es tasks) ≡ operands_weight w es + tasks_weight w tasks
weight-each_operand w at k none tasks = omega arith
weight-each_operand w at k (more e rest) tasks = let h = weight-each_operand w at (suc k) rest tasks in omega arith

pub context-in_order : (w : ℕ → ℕ) (at : Point) (k : ℕ) (list : Statements) (tasks : List Task) →
    context_of w (in_order at k list tasks) ≡ context_of w tasks
context-in_order w at k empty tasks = refl
context-in_order w at k (also s rest) tasks = context-in_order w at (suc k) rest tasks

pub weight-in_order : (w : ℕ → ℕ) (at : Point) (k : ℕ) (list : Statements) (tasks : List Task) →
    tasks_weight w (in_order at k list tasks) ≡ statements_weight w (context_of w tasks) list + tasks_weight w tasks
weight-in_order w at k empty tasks = omega arith
weight-in_order w at k (also s rest) tasks =
    let h = weight-in_order w at (suc k) rest tasks in
    let e = ap (λ c. statement_weight w c s) (context-in_order w at (suc k) rest tasks) in
    omega arith

pub context-test_tasks : (w : ℕ → ℕ) (at : Point) (k : ℕ) (test : Option Expression) (tasks : List Task) →
    context_of w (test_tasks at k test tasks) ≡ context_of w tasks
context-test_tasks w at k None tasks = refl
context-test_tasks w at k (Some e) tasks = refl

pub weight-test_tasks : (w : ℕ → ℕ) (at : Point) (k : ℕ) (test : Option Expression) (tasks : List Task) →
    tasks_weight w (test_tasks at k test tasks) ≡ optional_weight w test + tasks_weight w tasks
weight-test_tasks w at k None tasks = omega arith
weight-test_tasks w at k (Some e) tasks = refl

pub context-step_tasks : (w : ℕ → ℕ) (at : Point) (k : ℕ) (step : Option Expression) (tasks : List Task) →
    context_of w (step_tasks at k step tasks) ≡ context_of w tasks
context-step_tasks w at k None tasks = refl
context-step_tasks w at k (Some e) tasks = refl

pub weight-step_tasks : (w : ℕ → ℕ) (at : Point) (k : ℕ) (step : Option Expression) (tasks : List Task) →
    tasks_weight w (step_tasks at k step tasks) ≡ step_weight w step + tasks_weight w tasks
weight-step_tasks w at k None tasks = omega arith
weight-step_tasks w at k (Some e) tasks = omega arith

-- what an iteration weighs
pub weight-iteration : (w : ℕ → ℕ) (at : Point) (site : ℕ) (test step : Option Expression) (body : Statement) (k : ℕ)
    (tasks : List Task)
    → tasks_weight w (iteration at site test step body k tasks) ≡ statement_weight w (renewed w test step) body +
    (renewed w test step + suc (tasks_weight w tasks))
weight-iteration w at site test step body k tasks =
    let marker : List Task = InLoop at site test step body k ∷ tasks in
    let inner : List Task = test_tasks at k test marker in
    let c = ap (λ c. statement_weight w c body) (context-step_tasks w at k step inner ∙
    context-test_tasks w at k test marker) in
    let a = weight-step_tasks w at k step inner in
    let b = weight-test_tasks w at k test marker in
    omega arith

pub weight-behind_break : (w : ℕ → ℕ) (tasks : List Task) → tasks_weight w (behind_break tasks) ≤ tasks_weight w tasks
weight-behind_break w [] = omega arith
weight-behind_break w (InLoop at site test step body begun ∷ rest) = omega arith
weight-behind_break w (InSwitch at site ∷ rest) = omega arith
weight-behind_break w (InCall at site ∷ rest) = omega arith
weight-behind_break w (_ ∷ rest) = let h = weight-behind_break w rest in omega arith

pub weight-behind_continue : (w : ℕ → ℕ) (tasks : List Task) →
    tasks_weight w (behind_continue tasks) ≤ context_of w tasks + tasks_weight w tasks
weight-behind_continue w [] = omega arith
weight-behind_continue w (InLoop at site test step body begun ∷ rest) =
    let marker : List Task = InLoop at site test step body begun ∷ rest in
    let a = weight-step_tasks w at begun step (test_tasks at begun test marker) in
    let b = weight-test_tasks w at begun test marker in
    omega arith
weight-behind_continue w (InCall at site ∷ rest) = omega arith
weight-behind_continue w (_ ∷ rest) = let h = weight-behind_continue w rest in omega arith

pub weight-behind_return : (w : ℕ → ℕ) (i : Item) (tasks : List Task) (values : List ℤ) →
    tasks_weight w (behind_return i tasks values).tasks ≤ tasks_weight w tasks
weight-behind_return w i [] values = omega arith
weight-behind_return w i (InCall at site ∷ rest) values = omega arith
weight-behind_return w i (_ ∷ rest) values = let h = weight-behind_return w i rest values in omega arith

length-taken_onto : (n : ℕ) (values onto : List ℤ) → length (taken_onto n values onto) ≡ n + length onto
length-taken_onto zero values onto = omega arith
length-taken_onto (suc n) values onto = let h = length-taken_onto n (before values) (last values ∷ onto) in omega arith

pub length-taken : (n : ℕ) (values : List ℤ) → length (taken n values) ≡ n
length-taken n values = let h = length-taken_onto n values [] in omega arith

pub weight-initial_tasks : (w : ℕ → ℕ) (at : Point) (site array k : ℕ) (values : List ℤ) (tasks : List Task) →
    tasks_weight w (initial_tasks at site array k values tasks) ≡ length values + tasks_weight w tasks
weight-initial_tasks w at site array k [] tasks = omega arith
weight-initial_tasks w at site array k (v ∷ values) tasks = let h =
    weight-initial_tasks w at site array (suc k) values tasks in omega arith

pub context-arm_tasks : (w : ℕ → ℕ) (at : Point) (k : ℕ) (arms : Arms) (tasks : List Task) →
    context_of w (arm_tasks at k arms tasks) ≡ context_of w tasks
context-arm_tasks w at k no_arm tasks = refl
context-arm_tasks w at k (arm labels other body rest) tasks =
    context-in_order w (at ++ Arm k ∷ []) 0 body (arm_tasks at (suc k) rest tasks) ∙
    context-arm_tasks w at (suc k) rest tasks

pub weight-arm_tasks : (w : ℕ → ℕ) (at : Point) (k : ℕ) (arms : Arms) (tasks : List Task) →
    tasks_weight w (arm_tasks at k arms tasks) ≡ arms_weight w (context_of w tasks) arms + tasks_weight w tasks
weight-arm_tasks w at k no_arm tasks = omega arith
weight-arm_tasks w at k (arm labels other body rest) tasks =
    let h = weight-arm_tasks w at (suc k) rest tasks in
    let a = weight-in_order w (at ++ Arm k ∷ []) 0 body (arm_tasks at (suc k) rest tasks) in
    let e = ap (λ c. statements_weight w c body) (context-arm_tasks w at (suc k) rest tasks) in
    omega arith

-- of the arms behind an entry
abbrev pub entry_weight : (ℕ → ℕ) → ℕ → Entry → ℕ
entry_weight w c nowhere = 0
entry_weight w c (entry k arms) = arms_weight w c arms

pub weight-entry_tasks : (w : ℕ → ℕ) (at : Point) (e : Entry) (tasks : List Task) →
    tasks_weight w (entry_tasks at e tasks) ≡ entry_weight w (context_of w tasks) e + tasks_weight w tasks
weight-entry_tasks w at nowhere tasks = omega arith
weight-entry_tasks w at (entry k arms) tasks = weight-arm_tasks w at k arms tasks

weight-labelled : (w : ℕ → ℕ) (c : ℕ) (v : ℤ) (k : ℕ) (arms : Arms) →
    entry_weight w c (labelled v k arms) ≤ arms_weight w c arms
weight-labelled w c v k no_arm = omega arith
weight-labelled w c v k (arm labels other body rest) =
    elim (has_label v labels) as (λ b.
    entry_weight w c (cond b (entry k (arm labels other body rest)) (labelled v (suc k) rest)) ≤
    statements_weight w c body + arms_weight w c rest) [
      | true ↦ omega arith
      | false ↦ let h = weight-labelled w c v (suc k) rest in omega arith
    ]

weight-defaulted : (w : ℕ → ℕ) (c k : ℕ) (arms : Arms) → entry_weight w c (defaulted k arms) ≤ arms_weight w c arms
weight-defaulted w c k no_arm = omega arith
weight-defaulted w c k (arm labels other body rest) =
    elim other as (λ b. entry_weight w c (cond b (entry k (arm labels other body rest)) (defaulted (suc k) rest)) ≤
    statements_weight w c body + arms_weight w c rest) [
      | true ↦ omega arith
      | false ↦ let h = weight-defaulted w c (suc k) rest in omega arith
    ]

weight-or_else : (w : ℕ → ℕ) (c n : ℕ) (a b : Entry) → entry_weight w c a ≤ n → entry_weight w c b ≤ n →
    entry_weight w c (or_else a b) ≤ n
weight-or_else w c n nowhere b h g = g
weight-or_else w c n (entry k arms) b h g = h

pub weight-entry_of : (w : ℕ → ℕ) (c : ℕ) (v : ℤ) (arms : Arms) →
    entry_weight w c (entry_of v arms) ≤ arms_weight w c arms
weight-entry_of w c v arms = weight-or_else w c (arms_weight w c arms) (labelled v 0 arms) (defaulted 0 arms)
    (weight-labelled w c v 0 arms) (weight-defaulted w c 0 arms)
