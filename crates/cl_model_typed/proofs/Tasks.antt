-- Lists of tasks that fit: operands, statements in order, loops, arms and initial values before tasks that fit.
use Rattle.std.proofs.Common.{◌≡◌, ℕ, zero, suc, ℤ, List, [], ◌∷◌, ◌++◌, Option, Some, None, length, replicate}
use Rattle.std.proofs.Common.{slice_get, cond, refl, ap}
use Rattle.std.specs.Prelude.{Bool as Test, true, false}
use Rattle.wg_num.specs.declared.types.IntType.{IntType}
use Rattle.cl_model.specs.Tree.{Expression, Expressions, none, more, Statement, Statements, empty, also, Arms, no_arm}
use Rattle.cl_model.specs.Tree.{arm, Array, Program}
use Rattle.cl_model.specs.Calls.{function_at}
use Rattle.cl_model.specs.Task.{Arm, Point, Task, InLoop, Frame}
use Rattle.cl_model.specs.Steps.{each_operand, count_of, in_order, test_tasks, step_tasks, iteration, has_label, Entry}
use Rattle.cl_model.specs.Steps.{nowhere, entry, labelled, defaulted, or_else, entry_of, arm_tasks, entry_tasks}
use Rattle.cl_model.specs.Steps.{initial_tasks}
use Rattle.cl_model.specs.Valid.{HaveTypes, AllHaveType, OptionalFits, StatementFits, AllFit, ArmsFit}
use Rattle.cl_model_typed.specs.Known.{Known, Of, pushed}
use Rattle.cl_model_typed.specs.Expected.{runs, evaluates, discards, initialises, repeats, tests, End, Ahead, goes_on}
use Rattle.cl_model_typed.proofs.Stack.{AreValues}

module _ (program : Program) (end : End) (f : ℕ) (frames : List Frame) where
  pub count_is : (es : Expressions) (ts : List IntType) → HaveTypes program (function_at program f) es ts →
      length ts ≡ count_of es
  count_is none [] h = refl
  count_is none (t ∷ ts) h = absurd h
  count_is (more e es) [] h = absurd h
  count_is (more e es) (t ∷ ts) h = ap suc (count_is es ts h.1)

  pub operands_ahead : (at : Point) (k : ℕ) (es : Expressions) (ts : List IntType) (left : List Known)
      (base : Option (List Known)) (tasks : List Task) → HaveTypes program (function_at program f) es ts →
      Ahead program end tasks f frames (pushed ts left) base →
      Ahead program end (each_operand at k es tasks) f frames left base
  operands_ahead at k none [] left base tasks h a = a
  operands_ahead at k none (t ∷ ts) left base tasks h a = absurd h
  operands_ahead at k (more e es) [] left base tasks h a = absurd h
  operands_ahead at k (more e es) (t ∷ ts) left base tasks h a =
      goes_on (evaluates (Some t) h.0) (operands_ahead at (suc k) es ts (Of t ∷ left) base tasks h.1 a)

  -- values of one type
  pub uniform : (es : Expressions) (t : IntType) → AllHaveType program (function_at program f) es t →
      HaveTypes program (function_at program f) es (replicate (count_of es) t)
  uniform none t h = tt
  uniform (more e es) t h = (h.0, uniform es t h.1)

  pub order_ahead : (at : Point) (k : ℕ) (list : Statements) (base : List Known) (tasks : List Task) →
      AllFit program (function_at program f) list → Ahead program end tasks f frames base (Some base) →
      Ahead program end (in_order at k list tasks) f frames base (Some base)
  order_ahead at k empty base tasks h a = a
  order_ahead at k (also s list) base tasks h a =
      goes_on (runs h.0) (order_ahead at (suc k) list base tasks h.1 a)

  -- the test of a loop, and the loop behind it
  pub test_ahead : (at : Point) (k : ℕ) (site : ℕ) (test step : Option Expression) (body : Statement) (begun : ℕ)
      (base : List Known) (tasks : List Task) → OptionalFits program (function_at program f) test →
      OptionalFits program (function_at program f) step → StatementFits program (function_at program f) body →
      Ahead program end tasks f frames base (Some base) →
      Ahead program end (test_tasks at k test (InLoop at site test step body begun ∷ tasks)) f frames base (Some base)
  test_ahead at k site None step body begun base tasks t s b a = goes_on (repeats s b) a
  test_ahead at k site (Some e) step body begun base tasks t s b a =
      goes_on (evaluates (Some t.0) t.1) (goes_on (tests t.0 t.1 s b) a)

  pub step_ahead : (at : Point) (k : ℕ) (step : Option Expression) (base : List Known) (tasks : List Task) →
      OptionalFits program (function_at program f) step → Ahead program end tasks f frames base (Some base) →
      Ahead program end (step_tasks at k step tasks) f frames base (Some base)
  step_ahead at k None base tasks s a = a
  step_ahead at k (Some e) base tasks s a = goes_on (evaluates (Some s.0) s.1) (goes_on discards a)

  pub iteration_ahead : (at : Point) (site : ℕ) (test step : Option Expression) (body : Statement) (k : ℕ)
      (base : List Known) (tasks : List Task) → OptionalFits program (function_at program f) test →
      OptionalFits program (function_at program f) step → StatementFits program (function_at program f) body →
      Ahead program end tasks f frames base (Some base) →
      Ahead program end (iteration at site test step body k tasks) f frames base (Some base)
  iteration_ahead at site test step body k base tasks t s b a =
      goes_on (runs b) (step_ahead at k step base (test_tasks at k test (InLoop at site test step body k ∷ tasks)) s
      (test_ahead at k site test step body k base tasks t s b a))

  pub arms_ahead : (at : Point) (k : ℕ) (arms : Arms) (base : List Known) (tasks : List Task) →
      ArmsFit program (function_at program f) arms → Ahead program end tasks f frames base (Some base) →
      Ahead program end (arm_tasks at k arms tasks) f frames base (Some base)
  arms_ahead at k no_arm base tasks h a = a
  arms_ahead at k (arm labels other body rest) base tasks h a =
      order_ahead (at ++ Arm k ∷ []) 0 body base (arm_tasks at (suc k) rest tasks) h.0
      (arms_ahead at (suc k) rest base tasks h.1 a)

  abbrev pub EntryFits : Entry → Type 0
  EntryFits nowhere = Unit {0}
  EntryFits (entry k arms) = ArmsFit program (function_at program f) arms

  labelled_fits : (v : ℤ) (k : ℕ) (arms : Arms) → ArmsFit program (function_at program f) arms →
      EntryFits (labelled v k arms)
  labelled_fits v k no_arm h = tt
  labelled_fits v k (arm labels other body rest) h =
      by (has_label v labels) (labelled v (suc k) rest) (labelled_fits v (suc k) rest h.1)
    where
      by : (b : Test) (further : Entry) → EntryFits further →
          EntryFits (cond b (entry k (arm labels other body rest)) further)
      by true further g = h
      by false further g = g

  defaulted_fits : (k : ℕ) (arms : Arms) → ArmsFit program (function_at program f) arms → EntryFits (defaulted k arms)
  defaulted_fits k no_arm h = tt
  defaulted_fits k (arm labels true body rest) h = h
  defaulted_fits k (arm labels false body rest) h = defaulted_fits (suc k) rest h.1

  or_else_fits : (a b : Entry) → EntryFits a → EntryFits b → EntryFits (or_else a b)
  or_else_fits nowhere b h g = g
  or_else_fits (entry k arms) b h g = h

  pub entry_fits : (v : ℤ) (arms : Arms) → ArmsFit program (function_at program f) arms → EntryFits (entry_of v arms)
  entry_fits v arms h =
      or_else_fits (labelled v 0 arms) (defaulted 0 arms) (labelled_fits v 0 arms h) (defaulted_fits 0 arms h)

  pub entry_ahead : (at : Point) (e : Entry) (base : List Known) (tasks : List Task) → EntryFits e →
      Ahead program end tasks f frames base (Some base) →
      Ahead program end (entry_tasks at e tasks) f frames base (Some base)
  entry_ahead at nowhere base tasks h a = a
  entry_ahead at (entry k arms) base tasks h a = arms_ahead at k arms base tasks h a

  pub initial_ahead : (at : Point) (site array k n : ℕ) (a : Array) (values : List ℤ) (left : List Known)
      (base : Option (List Known)) (tasks : List Task) → slice_get (function_at program f).arrays array ≡ Some a →
      AreValues (replicate n a.element) values → Ahead program end tasks f frames left base →
      Ahead program end (initial_tasks at site array k values tasks) f frames left base
  initial_ahead at site array k n a [] left base tasks e h ahead = ahead
  initial_ahead at site array k zero a (v ∷ values) left base tasks e h ahead = absurd h
  initial_ahead at site array k (suc n) a (v ∷ values) left base tasks e h ahead =
      goes_on (initialises a e h.0) (initial_ahead at site array (suc k) n a values left base tasks e h.1 ahead)
