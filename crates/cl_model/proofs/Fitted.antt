-- The loops in tasks: each weighs no more than an iteration may add, and steps make no new ones.
use Rattle.std.proofs.Common.{ℕ, suc, ◌+◌, ◌≤◌, ℤ, List, [], ◌∷◌, ◌++◌, Option, Some, None, true, false, cond, arith}
use Rattle.cl_model.specs.Tree.{Expression, Expressions, none, more, Statement, Do, Declare, Fill, Block, If, Loop}
use Rattle.cl_model.specs.Tree.{Switch, Break, Continue, Return, Barrier, Statements, empty, also, Arms, no_arm, arm}
use Rattle.cl_model.specs.Task.{Arm, Point, Task, Run, Evaluate, Finish, Peek, Alter, Decide, Enter, InCall, Discard}
use Rattle.cl_model.specs.Task.{Keep, Clear, Initialise, Branch, InLoop, Select, InSwitch, Leave, Item}
use Rattle.cl_model.specs.Steps.{each_operand, in_order, test_tasks, step_tasks, behind_break, behind_continue}
use Rattle.cl_model.specs.Steps.{behind_return, has_label, Entry, nowhere, entry, labelled, defaulted, or_else}
use Rattle.cl_model.specs.Steps.{entry_of, arm_tasks, entry_tasks, initial_tasks}
use Rattle.cl_model.proofs.Weights.{statement_weight, renewed}

-- each loop weighs no more than r
abbrev mutual
  pub LoopsFit : (ℕ → ℕ) → ℕ → Statement → Type 0
  LoopsFit w r (Do e) = Unit {0}
  LoopsFit w r (Declare x value) = Unit {0}
  LoopsFit w r (Fill site array values) = Unit {0}
  LoopsFit w r (Block list) = AllLoopsFit w r list
  LoopsFit w r (If site test chosen other) = AllLoopsFit w r chosen × AllLoopsFit w r other
  LoopsFit w r (Loop site test_first test step body) =
      (statement_weight w (renewed w test step) body + renewed w test step ≤ r) × LoopsFit w r body
  LoopsFit w r (Switch site value arms) = ArmsLoopsFit w r arms
  LoopsFit w r (Break site) = Unit {0}
  LoopsFit w r (Continue site) = Unit {0}
  LoopsFit w r (Return site value) = Unit {0}
  LoopsFit w r (Barrier site) = Unit {0}

  pub AllLoopsFit : (ℕ → ℕ) → ℕ → Statements → Type 0
  AllLoopsFit w r empty = Unit {0}
  AllLoopsFit w r (also s rest) = LoopsFit w r s × AllLoopsFit w r rest

  pub ArmsLoopsFit : (ℕ → ℕ) → ℕ → Arms → Type 0
  ArmsLoopsFit w r no_arm = Unit {0}
  ArmsLoopsFit w r (arm labels other body rest) = AllLoopsFit w r body × ArmsLoopsFit w r rest

-- what the loops weigh together
abbrev mutual
  pub loops_weight : (ℕ → ℕ) → Statement → ℕ
  loops_weight w (Do e) = 0
  loops_weight w (Declare x value) = 0
  loops_weight w (Fill site array values) = 0
  loops_weight w (Block list) = all_loops_weight w list
  loops_weight w (If site test chosen other) = all_loops_weight w chosen + all_loops_weight w other
  loops_weight w (Loop site test_first test step body) =
      statement_weight w (renewed w test step) body + renewed w test step + loops_weight w body
  loops_weight w (Switch site value arms) = arms_loops_weight w arms
  loops_weight w (Break site) = 0
  loops_weight w (Continue site) = 0
  loops_weight w (Return site value) = 0
  loops_weight w (Barrier site) = 0

  pub all_loops_weight : (ℕ → ℕ) → Statements → ℕ
  all_loops_weight w empty = 0
  all_loops_weight w (also s rest) = loops_weight w s + all_loops_weight w rest

  pub arms_loops_weight : (ℕ → ℕ) → Arms → ℕ
  arms_loops_weight w no_arm = 0
  arms_loops_weight w (arm labels other body rest) = all_loops_weight w body + arms_loops_weight w rest

mutual
  pub loops_fit : (w : ℕ → ℕ) (r : ℕ) (s : Statement) → loops_weight w s ≤ r → LoopsFit w r s
  loops_fit w r (Do e) h = tt
  loops_fit w r (Declare x value) h = tt
  loops_fit w r (Fill site array values) h = tt
  loops_fit w r (Block list) h = all_loops_fit w r list h
  loops_fit w r (If site test chosen other) h =
      (all_loops_fit w r chosen (omega arith), all_loops_fit w r other (omega arith))
  loops_fit w r (Loop site test_first test step body) h = (omega arith, loops_fit w r body (omega arith))
  loops_fit w r (Switch site value arms) h = arms_loops_fit w r arms h
  loops_fit w r (Break site) h = tt
  loops_fit w r (Continue site) h = tt
  loops_fit w r (Return site value) h = tt
  loops_fit w r (Barrier site) h = tt

  pub all_loops_fit : (w : ℕ → ℕ) (r : ℕ) (list : Statements) → all_loops_weight w list ≤ r → AllLoopsFit w r list
  all_loops_fit w r empty h = tt
  all_loops_fit w r (also s rest) h = (loops_fit w r s (omega arith), all_loops_fit w r rest (omega arith))

  pub arms_loops_fit : (w : ℕ → ℕ) (r : ℕ) (arms : Arms) → arms_loops_weight w arms ≤ r → ArmsLoopsFit w r arms
  arms_loops_fit w r no_arm h = tt
  arms_loops_fit w r (arm labels other body rest) h =
      (all_loops_fit w r body (omega arith), arms_loops_fit w r rest (omega arith))

abbrev pub TaskFits : (ℕ → ℕ) → ℕ → Task → Type 0
TaskFits w r (Run at s) = LoopsFit w r s
TaskFits w r (Evaluate at e) = Unit {0}
TaskFits w r (Finish at action count) = Unit {0}
TaskFits w r (Peek at site element root) = Unit {0}
TaskFits w r (Alter at site element root op of back old) = Unit {0}
TaskFits w r (Decide at chosen other) = Unit {0}
TaskFits w r (Enter at site g roots count) = Unit {0}
TaskFits w r (InCall at site) = Unit {0}
TaskFits w r (Discard at) = Unit {0}
TaskFits w r (Keep at x) = Unit {0}
TaskFits w r (Clear at site array count) = Unit {0}
TaskFits w r (Initialise at site array index value) = Unit {0}
TaskFits w r (Branch at chosen other) = AllLoopsFit w r chosen × AllLoopsFit w r other
TaskFits w r (InLoop at site test step body begun) =
    (statement_weight w (renewed w test step) body + renewed w test step ≤ r) × LoopsFit w r body
TaskFits w r (Select at site arms) = ArmsLoopsFit w r arms
TaskFits w r (InSwitch at site) = Unit {0}
TaskFits w r (Leave at) = Unit {0}

abbrev pub TasksFit : (ℕ → ℕ) → ℕ → List Task → Type 0
TasksFit w r [] = Unit {0}
TasksFit w r (task ∷ rest) = TaskFits w r task × TasksFit w r rest

pub fit-each_operand : (w : ℕ → ℕ) (r : ℕ) (at : Point) (k : ℕ) (es : Expressions) (tasks : List Task) →
    TasksFit w r tasks → TasksFit w r (each_operand at k es tasks)
fit-each_operand w r at k none tasks f = f
fit-each_operand w r at k (more e rest) tasks f = (tt, fit-each_operand w r at (suc k) rest tasks f)

pub fit-in_order : (w : ℕ → ℕ) (r : ℕ) (at : Point) (k : ℕ) (list : Statements) (tasks : List Task) →
    AllLoopsFit w r list → TasksFit w r tasks → TasksFit w r (in_order at k list tasks)
fit-in_order w r at k empty tasks l f = f
fit-in_order w r at k (also s rest) tasks l f = (l.0, fit-in_order w r at (suc k) rest tasks l.1 f)

pub fit-test_tasks : (w : ℕ → ℕ) (r : ℕ) (at : Point) (k : ℕ) (test : Option Expression) (tasks : List Task) →
    TasksFit w r tasks → TasksFit w r (test_tasks at k test tasks)
fit-test_tasks w r at k None tasks f = f
fit-test_tasks w r at k (Some e) tasks f = (tt, f)

pub fit-step_tasks : (w : ℕ → ℕ) (r : ℕ) (at : Point) (k : ℕ) (step : Option Expression) (tasks : List Task) →
    TasksFit w r tasks → TasksFit w r (step_tasks at k step tasks)
fit-step_tasks w r at k None tasks f = f
fit-step_tasks w r at k (Some e) tasks f = (tt, (tt, f))

pub fit-behind_break : (w : ℕ → ℕ) (r : ℕ) (tasks : List Task) → TasksFit w r tasks → TasksFit w r (behind_break tasks)
fit-behind_break w r [] f = f
fit-behind_break w r (InLoop at site test step body begun ∷ rest) f = f.1
fit-behind_break w r (InSwitch at site ∷ rest) f = f.1
fit-behind_break w r (InCall at site ∷ rest) f = f
fit-behind_break w r (_ ∷ rest) f = fit-behind_break w r rest f.1

pub fit-behind_continue : (w : ℕ → ℕ) (r : ℕ) (tasks : List Task) → TasksFit w r tasks →
    TasksFit w r (behind_continue tasks)
fit-behind_continue w r [] f = f
fit-behind_continue w r (InLoop at site test step body begun ∷ rest) f =
    fit-step_tasks w r at begun step _ (fit-test_tasks w r at begun test _ f)
fit-behind_continue w r (InCall at site ∷ rest) f = f
fit-behind_continue w r (_ ∷ rest) f = fit-behind_continue w r rest f.1

pub fit-behind_return : (w : ℕ → ℕ) (r : ℕ) (i : Item) (tasks : List Task) (values : List ℤ) → TasksFit w r tasks →
    TasksFit w r (behind_return i tasks values).tasks
fit-behind_return w r i [] values f = f
fit-behind_return w r i (InCall at site ∷ rest) values f = f.1
fit-behind_return w r i (_ ∷ rest) values f = fit-behind_return w r i rest values f.1

pub fit-initial_tasks : (w : ℕ → ℕ) (r : ℕ) (at : Point) (site array k : ℕ) (values : List ℤ) (tasks : List Task) →
    TasksFit w r tasks → TasksFit w r (initial_tasks at site array k values tasks)
fit-initial_tasks w r at site array k [] tasks f = f
fit-initial_tasks w r at site array k (v ∷ values) tasks f =
    (tt, fit-initial_tasks w r at site array (suc k) values tasks f)

fit-arm_tasks : (w : ℕ → ℕ) (r : ℕ) (at : Point) (k : ℕ) (arms : Arms) (tasks : List Task) → ArmsLoopsFit w r arms →
    TasksFit w r tasks → TasksFit w r (arm_tasks at k arms tasks)
fit-arm_tasks w r at k no_arm tasks l f = f
fit-arm_tasks w r at k (arm labels other body rest) tasks l f =
    fit-in_order w r (at ++ Arm k ∷ []) 0 body _ l.0 (fit-arm_tasks w r at (suc k) rest tasks l.1 f)

abbrev pub EntryFits : (ℕ → ℕ) → ℕ → Entry → Type 0
EntryFits w r nowhere = Unit {0}
EntryFits w r (entry k arms) = ArmsLoopsFit w r arms

pub fit-entry_tasks : (w : ℕ → ℕ) (r : ℕ) (at : Point) (e : Entry) (tasks : List Task) → EntryFits w r e →
    TasksFit w r tasks → TasksFit w r (entry_tasks at e tasks)
fit-entry_tasks w r at nowhere tasks l f = f
fit-entry_tasks w r at (entry k arms) tasks l f = fit-arm_tasks w r at k arms tasks l f

fit-labelled : (w : ℕ → ℕ) (r : ℕ) (v : ℤ) (k : ℕ) (arms : Arms) → ArmsLoopsFit w r arms →
    EntryFits w r (labelled v k arms)
fit-labelled w r v k no_arm l = tt
fit-labelled w r v k (arm labels other body rest) l =
    elim (has_label v labels) as (λ b.
    EntryFits w r (cond b (entry k (arm labels other body rest)) (labelled v (suc k) rest))) [
      | true ↦
          l
      | false ↦ fit-labelled w r v (suc k) rest l.1
    ]

fit-defaulted : (w : ℕ → ℕ) (r k : ℕ) (arms : Arms) → ArmsLoopsFit w r arms → EntryFits w r (defaulted k arms)
fit-defaulted w r k no_arm l = tt
fit-defaulted w r k (arm labels other body rest) l =
    elim other as (λ b. EntryFits w r (cond b (entry k (arm labels other body rest)) (defaulted (suc k) rest)))
    [ true ↦ l | false ↦ fit-defaulted w r (suc k) rest l.1 ]

fit-or_else : (w : ℕ → ℕ) (r : ℕ) (a b : Entry) → EntryFits w r a → EntryFits w r b → EntryFits w r (or_else a b)
fit-or_else w r nowhere b h g = g
fit-or_else w r (entry k arms) b h g = h

pub fit-entry_of : (w : ℕ → ℕ) (r : ℕ) (v : ℤ) (arms : Arms) → ArmsLoopsFit w r arms → EntryFits w r (entry_of v arms)
fit-entry_of w r v arms l =
    fit-or_else w r (labelled v 0 arms) (defaulted 0 arms) (fit-labelled w r v 0 arms l) (fit-defaulted w r 0 arms l)
