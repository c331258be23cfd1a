-- Each step of an item lowers what its tasks weigh; only a new iteration adds to it, and never more than one number.
use Rattle.std.proofs.Common.{◌≡◌, ℕ, suc, ◌+◌, ◌<◌, ℤ, pos, List, [], ◌∷◌, ◌++◌, Some, None, true, false, cond, arith}
use Rattle.work_items.specs.Items.{Next, Goes, Begins}
use Rattle.work_items.specs.Clean.{FallsAt}
use Rattle.cl_model.specs.Tree.{Action, Literal, Variable, Unary, Binary, Builtin, Convert, Ask, Second, Truth}
use Rattle.cl_model.specs.Tree.{Decided, Set, Change, Load, Store, Expression, Apply, Update, Choose, Call, none}
use Rattle.cl_model.specs.Tree.{more, Statement, Do, Declare, Fill, Block, If, Loop, Switch, Break, Continue, Return}
use Rattle.cl_model.specs.Tree.{Barrier, Program}
use Rattle.cl_model.specs.Values.{is_zero}
use Rattle.cl_model.specs.Sizes.{Launch}
use Rattle.cl_model.specs.Calls.{function_at}
use Rattle.cl_model.specs.Task.{Chosen, Other, Point, Task, Run, Evaluate, Finish, Peek, Alter, Decide, Enter, InCall}
use Rattle.cl_model.specs.Task.{Discard, Keep, Clear, Initialise, Branch, InLoop, Select, InSwitch, Leave, Item}
use Rattle.cl_model.specs.Steps.{last, before, taken, count_of, entry_of, in_order, iteration, action_next}
use Rattle.cl_model.specs.Steps.{evaluate_next, run_next, task_next, first_next, item_next}
use Rattle.cl_model.proofs.Weights.{expression_weight, statement_weight, statements_weight, task_weight, context_of}
use Rattle.cl_model.proofs.Weights.{tasks_weight, weight-each_operand, weight-in_order, weight-test_tasks}
use Rattle.cl_model.proofs.Weights.{weight-iteration, weight-behind_break, weight-behind_continue}
use Rattle.cl_model.proofs.Weights.{weight-behind_return, length-taken, weight-initial_tasks, weight-entry_tasks}
use Rattle.cl_model.proofs.Weights.{weight-entry_of}
use Rattle.cl_model.proofs.Fitted.{LoopsFit, AllLoopsFit, TaskFits, TasksFit, fit-each_operand, fit-in_order}
use Rattle.cl_model.proofs.Fitted.{fit-test_tasks, fit-step_tasks, fit-behind_break, fit-behind_continue}
use Rattle.cl_model.proofs.Fitted.{fit-behind_return, fit-initial_tasks, fit-entry_tasks, fit-entry_of}

module _ (program : Program) (launch : Launch) (w : ℕ → ℕ) (r : ℕ) (heavy : (f : ℕ) →
    w f ≡ suc (suc (statements_weight w 0 (function_at program f).body))) (fits : (f : ℕ) →
    AllLoopsFit w r (function_at program f).body) where
  abbrev pub keeps : Item → Type 0
  keeps i = TasksFit w r i.tasks

  abbrev pub measure : Item → ℕ
  measure i = tasks_weight w i.tasks

  abbrev Lowers : ℕ → Next Item → Type 0
  Lowers here next = FallsAt keeps measure r here next

  action_lowers : (i : Item) (action : Action) (args values : List ℤ) (rest : List Task) (n : ℕ) → TasksFit w r rest →
      tasks_weight w rest < n → Lowers n (action_next program launch i action args values rest)
  action_lowers i (Literal value of) args values rest n f h = (f, h)
  action_lowers i (Variable x) args values rest n f h = (f, h)
  action_lowers i (Unary op of) args values rest n f h = (f, h)
  action_lowers i (Binary op of) args values rest n f h = (f, h)
  action_lowers i (Builtin g of) args values rest n f h = (f, h)
  action_lowers i (Convert to) args values rest n f h = (f, h)
  action_lowers i (Ask what) args values rest n f h = (f, h)
  action_lowers i Second args values rest n f h = (f, h)
  action_lowers i Truth args values rest n f h = (f, h)
  action_lowers i (Decided answer) args values rest n f h = (f, h)
  action_lowers i (Set x) args values rest n f h = (f, h)
  action_lowers i (Change x op of back old) args values rest n f h = (f, h)
  action_lowers i (Load site element root) args values rest n f h = λ bytes. (f, h)
  action_lowers i (Store site element root) args values rest n f h = (f, h)

  evaluate_lowers : (i : Item) (at : Point) (e : Expression) (rest : List Task) → TasksFit w r rest →
      Lowers (expression_weight w e + tasks_weight w rest) (evaluate_next program launch i at e rest)
  evaluate_lowers i at (Apply action none) rest f = action_lowers i action [] i.values rest _ f (omega arith)
  evaluate_lowers i at (Apply action (more e es)) rest f =
      let finish : List Task = Finish at action (count_of (more e es)) ∷ rest in
      let h = weight-each_operand w at 0 (more e es) finish in
      (fit-each_operand w r at 0 (more e es) finish (tt, f), omega arith)
  evaluate_lowers i at (Update site element root op of back old index value) rest f =
      ((tt, (tt, (tt, (tt, f)))), omega arith)
  evaluate_lowers i at (Choose site test chosen other) rest f = ((tt, (tt, f)), omega arith)
  evaluate_lowers i at (Call site g roots arguments) rest f =
      let enter : List Task = Enter at site g roots (count_of arguments) ∷ rest in
      let h = weight-each_operand w at 0 arguments enter in
      (fit-each_operand w r at 0 arguments enter (tt, f), omega arith)

  run_lowers : (i : Item) (at : Point) (s : Statement) (rest : List Task) → LoopsFit w r s → TasksFit w r rest →
      Lowers (statement_weight w (context_of w rest) s + tasks_weight w rest) (run_next program i at s rest)
  run_lowers i at (Do e) rest l f = ((tt, (tt, f)), omega arith)
  run_lowers i at (Declare x None) rest l f = (f, omega arith)
  run_lowers i at (Declare x (Some e)) rest l f = ((tt, (tt, f)), omega arith)
  run_lowers i at (Fill site array values) rest l f =
      let clear : List Task = Clear at site array (count_of values) ∷ rest in
      let h = weight-each_operand w at 0 values clear in
      (fit-each_operand w r at 0 values clear (tt, f), omega arith)
  run_lowers i at (Block list) rest l f = let h =
      weight-in_order w at 0 list rest in (fit-in_order w r at 0 list rest l f, omega arith)
  run_lowers i at (If site test chosen other) rest l f = ((tt, (l, f)), omega arith)
  run_lowers i at (Loop site true test step body) rest l f =
      let marker : List Task = InLoop at site test step body 0 ∷ rest in
      let h = weight-test_tasks w at 0 test marker in
      (fit-test_tasks w r at 0 test marker (l, f), omega arith)
  run_lowers i at (Loop site false test step body) rest l f =
      let h = weight-iteration w at site test step body 1 rest in
      let g = l.0 in
      ((l.1, fit-step_tasks w r at 1 step _ (fit-test_tasks w r at 1 test _ (l, f))), omega arith)
  run_lowers i at (Switch site value arms) rest l f = ((tt, (l, f)), omega arith)
  run_lowers i at (Break site) rest l f = let h =
      weight-behind_break w rest in (fit-behind_break w r rest f, omega arith)
  run_lowers i at (Continue site) rest l f = let h =
      weight-behind_continue w rest in (fit-behind_continue w r rest f, omega arith)
  run_lowers i at (Return site None) rest l f = let h = weight-behind_return w i rest (pos 0 ∷ i.values) in
      (fit-behind_return w r i rest (pos 0 ∷ i.values) f, omega arith)
  run_lowers i at (Return site (Some e)) rest l f = ((tt, (tt, f)), omega arith)
  run_lowers i at (Barrier site) rest l f = (f, omega arith)

  task_lowers : (i : Item) (task : Task) (rest : List Task) → TaskFits w r task → TasksFit w r rest →
      Lowers (task_weight w (context_of w rest) task + tasks_weight w rest) (task_next program launch i task rest)
  task_lowers i (Run at s) rest l f = run_lowers i at s rest l f
  task_lowers i (Evaluate at e) rest l f = evaluate_lowers i at e rest f
  task_lowers i (Finish at action count) rest l f = action_lowers i action _ _ rest _ f (omega arith)
  task_lowers i (Peek at site element root) rest l f = λ bytes. (f, omega arith)
  task_lowers i (Alter at site element root op of back old) rest l f = (f, omega arith)
  task_lowers i (Decide at chosen other) rest l f =
      elim (is_zero (last i.values)) as (λ b. Lowers (suc (expression_weight w chosen + expression_weight w other) +
      tasks_weight w rest) (Goes (record i {
        tasks = cond b (Evaluate (at ++ Other ∷ []) other)
            (Evaluate (at ++ Chosen ∷ []) chosen) ∷ rest;
        values = before i.values;
      }))) [
        | true ↦ ((tt, f), omega arith)
        | false ↦ ((tt, f), omega arith)
      ]
  task_lowers i (Enter at site g roots count) rest l f = let h = heavy g in ((fits g, (tt, f)), omega arith)
  task_lowers i (InCall at site) rest l f = (f, omega arith)
  task_lowers i (Discard at) rest l f = (f, omega arith)
  task_lowers i (Keep at x) rest l f = (f, omega arith)
  task_lowers i (Clear at site array count) rest l f =
      let h = weight-initial_tasks w at site array 0 (taken count i.values) rest in
      let g = length-taken count i.values in
      (fit-initial_tasks w r at site array 0 (taken count i.values) rest f, omega arith)
  task_lowers i (Initialise at site array index value) rest l f = (f, omega arith)
  task_lowers i (Branch at chosen other) rest l f =
      let a = weight-in_order w (at ++ Chosen ∷ []) 0 chosen rest in
      let b = weight-in_order w (at ++ Other ∷ []) 0 other rest in
      elim (is_zero (last i.values)) as
      (λ b. Lowers (suc (statements_weight w (context_of w rest) chosen + statements_weight w (context_of w rest)
      other) + tasks_weight w rest) (Goes
      (record i {
        tasks = cond b (in_order (at ++ Other ∷ []) 0 other rest)
            (in_order (at ++ Chosen ∷ []) 0 chosen rest);
        values = before i.values;
      }))) [
        | true ↦ (fit-in_order w r (at ++ Other ∷ []) 0 other rest l.1 f, omega arith)
        | false ↦ (fit-in_order w r (at ++ Chosen ∷ []) 0 chosen rest l.0 f, omega arith)
      ]
  task_lowers i (InLoop at site None step body begun) rest l f =
      let h = weight-iteration w at site None step body (suc begun) rest in
      let g = l.0 in
      ((l.1, fit-step_tasks w r at (suc begun) step _ (l, f)), omega arith)
  task_lowers i (InLoop at site (Some test) step body begun) rest l f =
      let h = weight-iteration w at site (Some test) step body (suc begun) rest in
      let g = l.0 in
      elim (is_zero (last i.values)) as
      (λ b. Lowers (1 + tasks_weight w rest) (cond b (Goes (record i { tasks = rest; values = before i.values }))
      (Begins (record i {
        tasks = iteration at site (Some test) step body (suc begun) rest;
        values = before i.values;
      })))) [
        | true ↦ (f, omega arith)
        | false ↦ ((l.1, fit-step_tasks w r at (suc begun) step _ (tt, (l, f))), omega arith)
      ]
  task_lowers i (Select at site arms) rest l f =
      let marker : List Task = InSwitch at site ∷ rest in
      let e = entry_of (last i.values) arms in
      let h = weight-entry_tasks w at e marker in
      let g = weight-entry_of w (context_of w rest) (last i.values) arms in
      (fit-entry_tasks w r at e marker (fit-entry_of w r (last i.values) arms l) (tt, f), omega arith)
  task_lowers i (InSwitch at site) rest l f = (f, omega arith)
  task_lowers i (Leave at) rest l f = let h =
      weight-behind_return w i rest i.values in (fit-behind_return w r i rest i.values f, omega arith)

  first_lowers : (i : Item) (tasks : List Task) → TasksFit w r tasks →
      Lowers (tasks_weight w tasks) (first_next program launch i tasks)
  first_lowers i [] f = tt
  first_lowers i (task ∷ rest) f = task_lowers i task rest f.0 f.1

  -- each step lowers the measure
  pub item_lowers : (i : Item) → keeps i → Lowers (measure i) (item_next program launch i)
  item_lowers i f = first_lowers i i.tasks f
