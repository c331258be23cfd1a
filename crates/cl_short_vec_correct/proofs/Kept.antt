-- What an evaluation leaves: the frames below that of its function, and the variables that it does not set.
use Rattle.std.proofs.Common.{◌≡◌, ℕ, zero, suc, ℤ, pos, Bool, true, false, List, [], ◌∷◌, ◌++◌, Option, Some, None}
use Rattle.std.proofs.Common.{pred, if◌then◌else◌, ◌⊎◌, inl, inr, refl, sym, ap, ◌∙◌, subst}
use Rattle.work_items.specs.Items.{Next, Ends, Waits, Goes, Begins, Loads, Stores}
use Rattle.work_items.specs.Memory.{Access}
use Rattle.work_items.specs.Histories.{Deed, Passed, Turned, Read, Wrote, History, nothing, going, doing, DoesOnce}
use Rattle.cl_model.specs.Tree.{Action, Literal, Variable, Unary, Binary, Builtin, Convert, Ask, Second, Truth}
use Rattle.cl_model.specs.Tree.{Decided, Set, Change, Load, Store, Expression, Apply, Update, Choose, Call}
use Rattle.cl_model.specs.Tree.{Expressions, none, more, Statement, Do, Declare, Fill, Block, If, Loop, Switch, Break}
use Rattle.cl_model.specs.Tree.{Continue, Return, Barrier, Statements, empty, also, Arms, no_arm, arm, Program}
use Rattle.cl_model.specs.Values.{is_zero}
use Rattle.cl_model.specs.Sizes.{Launch}
use Rattle.cl_model.specs.Calls.{function_at}
use Rattle.cl_model.specs.Task.{Operand, Own, Tested, Chosen, Other, Nth, Turn, Body, Arm, Into, Point, Task, Run}
use Rattle.cl_model.specs.Task.{Evaluate, Finish, Peek, Alter, Decide, Enter, InCall, Discard, Keep, Clear, Initialise}
use Rattle.cl_model.specs.Task.{Branch, InLoop, Select, InSwitch, Leave, Frame, Item}
use Rattle.cl_model.specs.Steps.{last, before, below, taken, each_operand, count_of, in_order, test_tasks, step_tasks}
use Rattle.cl_model.specs.Steps.{iteration, behind_break, behind_continue, behind_return, Entry, nowhere, entry}
use Rattle.cl_model.specs.Steps.{entry_of, arm_tasks, entry_tasks, initial_tasks, action_next, evaluate_next, run_next}
use Rattle.cl_model.specs.Steps.{task_next, item_next, set_in, set_first, frames_below, new_frame, nth, changed}
use Rattle.cl_short_vec_correct.specs.Emits.{Known, Fresh, SparesAction, Spares, SparesAll}
use Rattle.cl_short_vec_correct.proofs.Evaluated.{Holds, still_holds, it}

-- how many calls are under way
abbrev pub calls : List Task → ℕ
calls [] = 0
calls (InCall at site ∷ ts) = suc (calls ts)
calls (t ∷ ts) = calls ts

abbrev pub IsSuc : ℕ → Type 0
IsSuc zero = ⊥
IsSuc (suc d) = Unit {0}

-- what runs statements stands in a call
abbrev pub Needs : Task → ℕ → Type 0
Needs (Run at s) d = IsSuc d
Needs (Branch at chosen other) d = IsSuc d
Needs (InLoop at site test step body begun) d = IsSuc d
Needs (Select at site arms) d = IsSuc d
Needs (Leave at) d = IsSuc d
Needs t d = Unit {0}

-- a task sets none of these variables
abbrev pub SparesTask : List Known → Task → Type 0
SparesTask known (Evaluate at e) = Spares known e
SparesTask known (Finish at action count) = SparesAction known action
SparesTask known (Decide at chosen other) = Spares known chosen × Spares known other
SparesTask known (Keep at x) = Fresh x known
SparesTask known t = Unit {0}

-- tasks that run statements stand in calls, and those outside of calls set none of the variables
abbrev pub Fine : List Known → List Task → Type 0
Fine known [] = Unit {0}
Fine known (t ∷ ts) = Needs t (calls ts) × (calls ts ≡ 0 → SparesTask known t) × Fine known ts

deep : (d : ℕ) → IsSuc d → d ≡ 0 → ⊥
deep d h z = subst IsSuc z h

-- `own` is the number of the function whose variables help
module _ (known : List Known) (own : ℕ) where
  -- a task in a call
  inner : (t : Task) (ts : List Task) → Needs t (calls ts) → IsSuc (calls ts) → Fine known ts → Fine known (t ∷ ts)
  inner t ts n h f = (n, λ z. absurd (deep (calls ts) h z), f)

  -- ---- lists of tasks

  ops_front : (at : Point) (k : ℕ) (es : Expressions) (ts rest : List Task) →
      each_operand at k es (ts ++ rest) ≡ each_operand at k es ts ++ rest
  ops_front at k none ts rest = refl
  ops_front at k (more e es) ts rest =
      ap (λ xs. Evaluate (at ++ Operand k ∷ []) e ∷ xs) (ops_front at (suc k) es ts rest)

  ops_calls : (at : Point) (k : ℕ) (es : Expressions) (ts : List Task) → calls (each_operand at k es ts) ≡ calls ts
  ops_calls at k none ts = refl
  ops_calls at k (more e es) ts = ops_calls at (suc k) es ts

  ops_fine : (at : Point) (k : ℕ) (es : Expressions) (ts : List Task) → (calls ts ≡ 0 → SparesAll known es) →
      Fine known ts → Fine known (each_operand at k es ts)
  ops_fine at k none ts s f = f
  ops_fine at k (more e es) ts s f =
      (tt, λ z. (s (sym (ops_calls at (suc k) es ts) ∙ z)).0, ops_fine at (suc k) es ts (λ z. (s z).1) f)

  order_front : (at : Point) (k : ℕ) (list : Statements) (ts rest : List Task) →
      in_order at k list (ts ++ rest) ≡ in_order at k list ts ++ rest
  order_front at k empty ts rest = refl
  order_front at k (also s list) ts rest =
      ap (λ xs. Run (at ++ Nth k ∷ []) s ∷ xs) (order_front at (suc k) list ts rest)

  order_calls : (at : Point) (k : ℕ) (list : Statements) (ts : List Task) → calls (in_order at k list ts) ≡ calls ts
  order_calls at k empty ts = refl
  order_calls at k (also s list) ts = order_calls at (suc k) list ts

  order_fine : (at : Point) (k : ℕ) (list : Statements) (ts : List Task) → IsSuc (calls ts) → Fine known ts →
      Fine known (in_order at k list ts)
  order_fine at k empty ts h f = f
  order_fine at k (also s list) ts h f = let h1 = subst IsSuc (sym (order_calls at (suc k) list ts)) h in
      inner (Run (at ++ Nth k ∷ []) s) (in_order at (suc k) list ts) h1 h1 (order_fine at (suc k) list ts h f)

  test_front : (at : Point) (k : ℕ) (test : Option Expression) (ts rest : List Task) →
      test_tasks at k test (ts ++ rest) ≡ test_tasks at k test ts ++ rest
  test_front at k None ts rest = refl
  test_front at k (Some e) ts rest = refl

  test_calls : (at : Point) (k : ℕ) (test : Option Expression) (ts : List Task) →
      calls (test_tasks at k test ts) ≡ calls ts
  test_calls at k None ts = refl
  test_calls at k (Some e) ts = refl

  test_fine : (at : Point) (k : ℕ) (test : Option Expression) (ts : List Task) → IsSuc (calls ts) → Fine known ts →
      Fine known (test_tasks at k test ts)
  test_fine at k None ts h f = f
  test_fine at k (Some e) ts h f = (tt, λ z. absurd (deep (calls ts) h z), f)

  step_front : (at : Point) (k : ℕ) (step : Option Expression) (ts rest : List Task) →
      step_tasks at k step (ts ++ rest) ≡ step_tasks at k step ts ++ rest
  step_front at k None ts rest = refl
  step_front at k (Some e) ts rest = refl

  step_calls : (at : Point) (k : ℕ) (step : Option Expression) (ts : List Task) →
      calls (step_tasks at k step ts) ≡ calls ts
  step_calls at k None ts = refl
  step_calls at k (Some e) ts = refl

  step_fine : (at : Point) (k : ℕ) (step : Option Expression) (ts : List Task) → IsSuc (calls ts) → Fine known ts →
      Fine known (step_tasks at k step ts)
  step_fine at k None ts h f = f
  step_fine at k (Some e) ts h f =
      (tt, λ z. absurd (deep (calls ts) h z), (tt, λ z. tt, f))

  -- tasks of its own before the rest, with as many calls under way
  abbrev pub Before : List Task → ℕ → List Task → Type 0
  Before rest d all = (ts : List Task) × (all ≡ ts ++ rest) × (calls ts ≡ d) × Fine known ts

  round_before : (at : Point) (site : ℕ) (test step : Option Expression) (body : Statement) (k : ℕ)
      (ts rest : List Task) → IsSuc (calls ts) → Fine known ts → Before rest (calls ts)
      (step_tasks at k step (test_tasks at k test (InLoop at site test step body k ∷ (ts ++ rest))))
  round_before at site test step body k ts rest h f =
      let us : List Task = InLoop at site test step body k ∷ ts in
      let h1 = subst IsSuc (sym (test_calls at k test us)) h in (
        step_tasks at k step (test_tasks at k test us),
        ap (step_tasks at k step) (test_front at k test us rest) ∙ step_front at k step (test_tasks at k test us) rest,
        step_calls at k step (test_tasks at k test us) ∙ test_calls at k test us,
        step_fine at k step (test_tasks at k test us) h1
            (test_fine at k test us h (inner (InLoop at site test step body k) ts h h f)),
      )

  iteration_before : (at : Point) (site : ℕ) (test step : Option Expression) (body : Statement) (k : ℕ)
      (ts rest : List Task) → IsSuc (calls ts) → Fine known ts → Before rest (calls ts)
      (iteration at site test step body k (ts ++ rest))
  iteration_before at site test step body k ts rest h f =
      let r = round_before at site test step body k ts rest h f in
      let h1 = subst IsSuc (sym r.2) h in (
        Run (at ++ (Turn k ∷ Body ∷ [])) body ∷ r.0,
        ap (λ xs. Run (at ++ (Turn k ∷ Body ∷ [])) body ∷ xs) r.1,
        r.2,
        inner (Run (at ++ (Turn k ∷ Body ∷ [])) body) r.0 h1 h1 r.3,
      )

  arms_front : (at : Point) (k : ℕ) (arms : Arms) (ts rest : List Task) →
      arm_tasks at k arms (ts ++ rest) ≡ arm_tasks at k arms ts ++ rest
  arms_front at k no_arm ts rest = refl
  arms_front at k (arm labels other body arms) ts rest =
      ap (in_order (at ++ Arm k ∷ []) 0 body) (arms_front at (suc k) arms ts rest) ∙
      order_front (at ++ Arm k ∷ []) 0 body (arm_tasks at (suc k) arms ts) rest

  arms_calls : (at : Point) (k : ℕ) (arms : Arms) (ts : List Task) → calls (arm_tasks at k arms ts) ≡ calls ts
  arms_calls at k no_arm ts = refl
  arms_calls at k (arm labels other body arms) ts =
      order_calls (at ++ Arm k ∷ []) 0 body (arm_tasks at (suc k) arms ts) ∙ arms_calls at (suc k) arms ts

  arms_fine : (at : Point) (k : ℕ) (arms : Arms) (ts : List Task) → IsSuc (calls ts) → Fine known ts →
      Fine known (arm_tasks at k arms ts)
  arms_fine at k no_arm ts h f = f
  arms_fine at k (arm labels other body arms) ts h f =
      order_fine (at ++ Arm k ∷ []) 0 body (arm_tasks at (suc k) arms ts)
      (subst IsSuc (sym (arms_calls at (suc k) arms ts)) h) (arms_fine at (suc k) arms ts h f)

  entry_before : (at : Point) (e : Entry) (ts rest : List Task) → IsSuc (calls ts) → Fine known ts →
      Before rest (calls ts) (entry_tasks at e (ts ++ rest))
  entry_before at nowhere ts rest h f = (ts, refl, refl, f)
  entry_before at (entry k arms) ts rest h f =
      (arm_tasks at k arms ts, arms_front at k arms ts rest, arms_calls at k arms ts, arms_fine at k arms ts h f)

  initial_before : (at : Point) (site array k : ℕ) (values : List ℤ) (ts rest : List Task) → Fine known ts →
      Before rest (calls ts) (initial_tasks at site array k values (ts ++ rest))
  initial_before at site array k [] ts rest f = (ts, refl, refl, f)
  initial_before at site array k (v ∷ values) ts rest f =
      let r = initial_before at site array (suc k) values ts rest f in (
        Initialise at site array k v ∷ r.0,
        ap (λ xs. Initialise at site array k v ∷ xs) r.1,
        r.2,
        (tt, λ z. tt, r.3),
      )

  -- ---- ways out

  break_before : (ts rest : List Task) → IsSuc (calls ts) → Fine known ts → Before rest (calls ts) (behind_break (ts ++
      rest))
  break_before [] rest h f = absurd h
  break_before (InLoop at site test step body begun ∷ ts) rest h f = (ts, refl, refl, f.2)
  break_before (InSwitch at site ∷ ts) rest h f = (ts, refl, refl, f.2)
  break_before (InCall at site ∷ ts) rest h f = (InCall at site ∷ ts, refl, refl, f)
  break_before (Run at s ∷ ts) rest h f = break_before ts rest h f.2
  break_before (Evaluate at e ∷ ts) rest h f = break_before ts rest h f.2
  break_before (Finish at action count ∷ ts) rest h f = break_before ts rest h f.2
  break_before (Peek at site element root ∷ ts) rest h f = break_before ts rest h f.2
  break_before (Alter at site element root op of back old ∷ ts) rest h f = break_before ts rest h f.2
  break_before (Decide at chosen other ∷ ts) rest h f = break_before ts rest h f.2
  break_before (Enter at site function roots count ∷ ts) rest h f = break_before ts rest h f.2
  break_before (Discard at ∷ ts) rest h f = break_before ts rest h f.2
  break_before (Keep at x ∷ ts) rest h f = break_before ts rest h f.2
  break_before (Clear at site array count ∷ ts) rest h f = break_before ts rest h f.2
  break_before (Initialise at site array index value ∷ ts) rest h f = break_before ts rest h f.2
  break_before (Branch at chosen other ∷ ts) rest h f = break_before ts rest h f.2
  break_before (Select at site arms ∷ ts) rest h f = break_before ts rest h f.2
  break_before (Leave at ∷ ts) rest h f = break_before ts rest h f.2

  continue_before : (ts rest : List Task) → IsSuc (calls ts) → Fine known ts → Before rest (calls ts)
      (behind_continue (ts ++ rest))
  continue_before [] rest h f = absurd h
  continue_before (InLoop at site test step body begun ∷ ts) rest h f =
      round_before at site test step body begun ts rest h f.2
  continue_before (InCall at site ∷ ts) rest h f = (InCall at site ∷ ts, refl, refl, f)
  continue_before (InSwitch at site ∷ ts) rest h f = continue_before ts rest h f.2
  continue_before (Run at s ∷ ts) rest h f = continue_before ts rest h f.2
  continue_before (Evaluate at e ∷ ts) rest h f = continue_before ts rest h f.2
  continue_before (Finish at action count ∷ ts) rest h f = continue_before ts rest h f.2
  continue_before (Peek at site element root ∷ ts) rest h f = continue_before ts rest h f.2
  continue_before (Alter at site element root op of back old ∷ ts) rest h f = continue_before ts rest h f.2
  continue_before (Decide at chosen other ∷ ts) rest h f = continue_before ts rest h f.2
  continue_before (Enter at site function roots count ∷ ts) rest h f = continue_before ts rest h f.2
  continue_before (Discard at ∷ ts) rest h f = continue_before ts rest h f.2
  continue_before (Keep at x ∷ ts) rest h f = continue_before ts rest h f.2
  continue_before (Clear at site array count ∷ ts) rest h f = continue_before ts rest h f.2
  continue_before (Initialise at site array index value ∷ ts) rest h f = continue_before ts rest h f.2
  continue_before (Branch at chosen other ∷ ts) rest h f = continue_before ts rest h f.2
  continue_before (Select at site arms ∷ ts) rest h f = continue_before ts rest h f.2
  continue_before (Leave at ∷ ts) rest h f = continue_before ts rest h f.2

  -- ---- frames

  abbrev pub size : List Frame → ℕ
  size [] = 0
  size (f ∷ fs) = suc (size fs)

  -- so many frames of calls, and below them the function's own, where the variables hold what they held
  abbrev pub Stack : List Frame → ℕ → List Frame → Type 0
  Stack fs d all = (tops : List Frame) × (g : Frame) × (all ≡ tops ++ (g ∷ fs)) × (size tops ≡ d) ×
      (Holds known g × (g.function ≡ own))

  less : (a b : ℕ) → suc a ≡ suc b → a ≡ b
  less a b e = ap pred e

  no_size : (d : ℕ) → 0 ≡ suc d → ⊥
  no_size d e = subst IsSuc (sym e) tt

  stack_set : (fs : List Frame) (d : ℕ) (all : List Frame) (x : ℕ) (v : ℤ) → (d ≡ 0 → Fresh x known) →
      Stack fs d all → Stack fs d (set_first all x v)
  stack_set fs d all x v fresh ([], g, e, s, h) = (
    [],
    set_in g x v,
    ap (λ z. set_first z x v) e,
    s,
    (still_holds known g x v (fresh (sym s)) h.0, h.1),
  )
  stack_set fs d all x v fresh (p ∷ ps, g, e, s, h) = (set_in p x v ∷ ps, g, ap (λ z. set_first z x v) e, s, h)

  stack_pop : (fs : List Frame) (d : ℕ) (all : List Frame) → Stack fs (suc d) all → Stack fs d (frames_below all)
  stack_pop fs d all ([], g, e, s, h) = absurd (no_size d s)
  stack_pop fs d all (p ∷ ps, g, e, s, h) = (ps, g, ap frames_below e, less (size ps) d s, h)

  stack_push : (fs : List Frame) (d : ℕ) (all : List Frame) (top : Frame) → Stack fs d all →
      Stack fs (suc d) (top ∷ all)
  stack_push fs d all top (tops, g, e, s, h) = (top ∷ tops, g, ap (λ z. top ∷ z) e, ap suc s, h)

  stack_as : (fs : List Frame) (d e : ℕ) (all : List Frame) → e ≡ d → Stack fs d all → Stack fs e all
  stack_as fs d e all q s = subst (λ z. Stack fs z all) (sym q) s

  -- an item of this number with tasks of its own before the rest
  abbrev pub Good : ℕ → List Frame → List Task → Item → Type 0
  Good n fs rest i = (i.number ≡ n) × ((ts : List Task) × (i.tasks ≡ ts ++ rest) × Fine known ts ×
      Stack fs (calls ts) i.frames)

  good : (n : ℕ) (fs : List Frame) (rest us : List Task) (vs : List ℤ) (all : List Frame) (d : ℕ) →
      Before rest d us → Stack fs d all → Good n fs rest (it n us vs all)
  good n fs rest us vs all d (ts, e, c, f) s = (refl, (ts, e, f, stack_as fs d (calls ts) all c s))

  return_good : (n : ℕ) (fs : List Frame) (ts rest us : List Task) (vs ws : List ℤ) (all : List Frame) →
      IsSuc (calls ts) → Fine known ts → Stack fs (calls ts) all →
      Good n fs rest (behind_return (it n us vs all) (ts ++ rest) ws)
  return_good n fs [] rest us vs ws all h f s = absurd h
  return_good n fs (InCall at site ∷ ts) rest us vs ws all h f s =
      (refl, (ts, refl, f.2, stack_pop fs (calls ts) all s))
  return_good n fs (InLoop at site test step body begun ∷ ts) rest us vs ws all h f s =
      return_good n fs ts rest us vs ws all h f.2 s
  return_good n fs (InSwitch at site ∷ ts) rest us vs ws all h f s = return_good n fs ts rest us vs ws all h f.2 s
  return_good n fs (Run at x ∷ ts) rest us vs ws all h f s = return_good n fs ts rest us vs ws all h f.2 s
  return_good n fs (Evaluate at e ∷ ts) rest us vs ws all h f s = return_good n fs ts rest us vs ws all h f.2 s
  return_good n fs (Finish at action count ∷ ts) rest us vs ws all h f s = return_good n fs ts rest us vs ws all h f.2 s
  return_good n fs (Peek at site element root ∷ ts) rest us vs ws all h f s =
      return_good n fs ts rest us vs ws all h f.2 s
  return_good n fs (Alter at site element root op of back old ∷ ts) rest us vs ws all h f s =
      return_good n fs ts rest us vs ws all h f.2 s
  return_good n fs (Decide at chosen other ∷ ts) rest us vs ws all h f s = return_good n fs ts rest us vs ws all h f.2 s
  return_good n fs (Enter at site function roots count ∷ ts) rest us vs ws all h f s =
      return_good n fs ts rest us vs ws all h f.2 s
  return_good n fs (Discard at ∷ ts) rest us vs ws all h f s = return_good n fs ts rest us vs ws all h f.2 s
  return_good n fs (Keep at x ∷ ts) rest us vs ws all h f s = return_good n fs ts rest us vs ws all h f.2 s
  return_good n fs (Clear at site array count ∷ ts) rest us vs ws all h f s =
      return_good n fs ts rest us vs ws all h f.2 s
  return_good n fs (Initialise at site array index value ∷ ts) rest us vs ws all h f s =
      return_good n fs ts rest us vs ws all h f.2 s
  return_good n fs (Branch at chosen other ∷ ts) rest us vs ws all h f s = return_good n fs ts rest us vs ws all h f.2 s
  return_good n fs (Select at site arms ∷ ts) rest us vs ws all h f s = return_good n fs ts rest us vs ws all h f.2 s
  return_good n fs (Leave at ∷ ts) rest us vs ws all h f s = return_good n fs ts rest us vs ws all h f.2 s

  abbrev pub GoodNext : ℕ → List Frame → List Task → Next Item → Type 0
  GoodNext n fs rest Ends = Unit {0}
  GoodNext n fs rest (Waits site after) = Good n fs rest after
  GoodNext n fs rest (Goes after) = Good n fs rest after
  GoodNext n fs rest (Begins after) = Good n fs rest after
  GoodNext n fs rest (Loads site access after) = (bytes : List ℕ) → Good n fs rest (after bytes)
  GoodNext n fs rest (Stores site object index bytes after) = Good n fs rest after

  module _ (program : Program) (launch : Launch) (n : ℕ) (fs : List Frame) (rest : List Task) where
    action_good : (action : Action) (args values : List ℤ) (ts us : List Task) (vs : List ℤ) (all : List Frame) →
        (calls ts ≡ 0 → SparesAction known action) → Fine known ts → Stack fs (calls ts) all →
        GoodNext n fs rest (action_next program launch (it n us vs all) action args values (ts ++ rest))
    action_good (Literal value of) args values ts us vs all p f s = (refl, (ts, refl, f, s))
    action_good (Variable x) args values ts us vs all p f s = (refl, (ts, refl, f, s))
    action_good (Unary op of) args values ts us vs all p f s = (refl, (ts, refl, f, s))
    action_good (Binary op of) args values ts us vs all p f s = (refl, (ts, refl, f, s))
    action_good (Builtin g of) args values ts us vs all p f s = (refl, (ts, refl, f, s))
    action_good (Convert to) args values ts us vs all p f s = (refl, (ts, refl, f, s))
    action_good (Ask what) args values ts us vs all p f s = (refl, (ts, refl, f, s))
    action_good Second args values ts us vs all p f s = (refl, (ts, refl, f, s))
    action_good Truth args values ts us vs all p f s = (refl, (ts, refl, f, s))
    action_good (Decided answer) args values ts us vs all p f s = (refl, (ts, refl, f, s))
    action_good (Set x) args values ts us vs all p f s =
        (refl, (ts, refl, f, stack_set fs (calls ts) all x (nth args 0) p s))
    action_good (Change x op of back old) args values ts us vs all p f s =
        (refl, (ts, refl, f, stack_set fs (calls ts) all x (changed op of back (nth args 0) (nth args 1)) p s))
    action_good (Load site element root) args values ts us vs all p f s = λ bytes. (refl, (ts, refl, f, s))
    action_good (Store site element root) args values ts us vs all p f s = (refl, (ts, refl, f, s))

    evaluate_good : (at : Point) (e : Expression) (ts us : List Task) (vs : List ℤ) (all : List Frame) →
        (calls ts ≡ 0 → Spares known e) → Fine known ts → Stack fs (calls ts) all →
        GoodNext n fs rest (evaluate_next program launch (it n us vs all) at e (ts ++ rest))
    evaluate_good at (Apply action none) ts us vs all p f s =
        action_good action [] vs ts us vs all (λ z. (p z).0) f s
    evaluate_good at (Apply action (more e es)) ts us vs all p f s =
        let q : List Task = Finish at action (count_of (more e es)) ∷ ts in
        good n fs rest (each_operand at 0 (more e es) (q ++ rest)) vs all (calls ts) (
          each_operand at 0 (more e es) q,
          ops_front at 0 (more e es) q rest,
          ops_calls at 0 (more e es) q,
          ops_fine at 0 (more e es) q (λ z. (p z).1) (tt, λ z. (p z).0, f),
        ) s
    evaluate_good at (Update site element root op of back old index value) ts us vs all p f s = (
      refl,
      (
        Evaluate (at ++ Operand 0 ∷ []) index ∷ Peek at site element root ∷ Evaluate (at ++ Operand 1 ∷ []) value ∷
            Alter at site element root op of back old ∷ ts,
        refl,
        (tt, λ z. (p z).0, (tt, λ z. tt, (tt, λ z. (p z).1, (tt, λ z. tt, f)))),
        s,
      ),
    )
    evaluate_good at (Choose site test chosen other) ts us vs all p f s = (
      refl,
      (
        Evaluate (at ++ Tested ∷ []) test ∷ Decide at chosen other ∷ ts,
        refl,
        (tt, λ z. (p z).0, (tt, λ z. ((p z).1, (p z).2), f)),
        s,
      ),
    )
    evaluate_good at (Call site function roots arguments) ts us vs all p f s =
        let q : List Task = Enter at site function roots (count_of arguments) ∷ ts in
        good n fs rest (each_operand at 0 arguments (q ++ rest)) vs all (calls ts) (
          each_operand at 0 arguments q,
          ops_front at 0 arguments q rest,
          ops_calls at 0 arguments q,
          ops_fine at 0 arguments q p (tt, λ z. tt, f),
        ) s

    run_good : (at : Point) (t : Statement) (ts us : List Task) (vs : List ℤ) (all : List Frame) → IsSuc (calls ts) →
        Fine known ts → Stack fs (calls ts) all →
        GoodNext n fs rest (run_next program (it n us vs all) at t (ts ++ rest))
    run_good at (Do e) ts us vs all h f s = (
      refl,
      (
        Evaluate (at ++ Operand 0 ∷ []) e ∷ Discard (at ++ Own 0 ∷ []) ∷ ts,
        refl,
        (tt, λ z. absurd (deep (calls ts) h z), (tt, λ z. tt, f)),
        s,
      ),
    )
    run_good at (Declare x None) ts us vs all h f s =
        (refl, (ts, refl, f, stack_set fs (calls ts) all x (pos 0) (λ z. absurd (deep (calls ts) h z)) s))
    run_good at (Declare x (Some e)) ts us vs all h f s = (
      refl,
      (
        Evaluate (at ++ Operand 0 ∷ []) e ∷ Keep at x ∷ ts,
        refl,
        (tt, λ z. absurd (deep (calls ts) h z), (tt, λ z. absurd (deep (calls ts) h z), f)),
        s,
      ),
    )
    run_good at (Fill site array values) ts us vs all h f s =
        let q : List Task = Clear at site array (count_of values) ∷ ts in
        good n fs rest (each_operand at 0 values (q ++ rest)) vs all (calls ts) (
          each_operand at 0 values q,
          ops_front at 0 values q rest,
          ops_calls at 0 values q,
          ops_fine at 0 values q (λ z. absurd (deep (calls ts) h z)) (tt, λ z. tt, f),
        ) s
    run_good at (Block list) ts us vs all h f s = good n fs rest (in_order at 0 list (ts ++ rest)) vs all (calls ts)
        (in_order at 0 list ts, order_front at 0 list ts rest, order_calls at 0 list ts, order_fine at 0 list ts h f) s
    run_good at (If site test chosen other) ts us vs all h f s = (
      refl,
      (
        Evaluate (at ++ Tested ∷ []) test ∷ Branch at chosen other ∷ ts,
        refl,
        (tt, λ z. absurd (deep (calls ts) h z), (h, λ z. tt, f)),
        s,
      ),
    )
    run_good at (Loop site true test step body) ts us vs all h f s =
        let q : List Task = InLoop at site test step body 0 ∷ ts in
        good n fs rest (test_tasks at 0 test (q ++ rest)) vs all (calls ts) (
          test_tasks at 0 test q,
          test_front at 0 test q rest,
          test_calls at 0 test q,
          test_fine at 0 test q h (h, λ z. tt, f),
        ) s
    run_good at (Loop site false test step body) ts us vs all h f s =
        good n fs rest (iteration at site test step body 1 (ts ++ rest)) vs all (calls ts)
        (iteration_before at site test step body 1 ts rest h f) s
    run_good at (Switch site value arms) ts us vs all h f s = (
      refl,
      (
        Evaluate (at ++ Tested ∷ []) value ∷ Select at site arms ∷ ts,
        refl,
        (tt, λ z. absurd (deep (calls ts) h z), (h, λ z. tt, f)),
        s,
      ),
    )
    run_good at (Break site) ts us vs all h f s =
        good n fs rest (behind_break (ts ++ rest)) vs all (calls ts) (break_before ts rest h f) s
    run_good at (Continue site) ts us vs all h f s =
        good n fs rest (behind_continue (ts ++ rest)) vs all (calls ts) (continue_before ts rest h f) s
    run_good at (Return site None) ts us vs all h f s = return_good n fs ts rest us vs (pos 0 ∷ vs) all h f s
    run_good at (Return site (Some e)) ts us vs all h f s = (
      refl,
      (
        Evaluate (at ++ Operand 0 ∷ []) e ∷ Leave at ∷ ts,
        refl,
        (tt, λ z. absurd (deep (calls ts) h z), (h, λ z. tt, f)),
        s,
      ),
    )
    run_good at (Barrier site) ts us vs all h f s = (refl, (ts, refl, f, s))

    decide_good : (b : Bool) (at : Point) (chosen other : Expression) (ts : List Task) (vs : List ℤ)
        (all : List Frame) → (calls ts ≡ 0 → Spares known chosen × Spares known other) → Fine known ts →
        Stack fs (calls ts) all →
        Good n fs rest (it n ((if b then Evaluate (at ++ Other ∷ []) other else Evaluate (at ++ Chosen ∷ []) chosen) ∷
        (ts ++ rest)) vs all)
    decide_good true at chosen other ts vs all p f s =
        (refl, (Evaluate (at ++ Other ∷ []) other ∷ ts, refl, (tt, λ z. (p z).1, f), s))
    decide_good false at chosen other ts vs all p f s =
        (refl, (Evaluate (at ++ Chosen ∷ []) chosen ∷ ts, refl, (tt, λ z. (p z).0, f), s))

    branch_good : (b : Bool) (at : Point) (chosen other : Statements) (ts : List Task) (vs : List ℤ)
        (all : List Frame) → IsSuc (calls ts) → Fine known ts → Stack fs (calls ts) all →
        Good n fs rest (it n (if b then in_order (at ++ Other ∷ []) 0 other (ts ++ rest) else
        in_order (at ++ Chosen ∷ []) 0 chosen (ts ++ rest)) vs all)
    branch_good true at chosen other ts vs all h f s =
        let p = at ++ Other ∷ [] in
        good n fs rest (in_order p 0 other (ts ++ rest)) vs all (calls ts)
        (in_order p 0 other ts, order_front p 0 other ts rest, order_calls p 0 other ts, order_fine p 0 other ts h f) s
    branch_good false at chosen other ts vs all h f s =
        let p = at ++ Chosen ∷ [] in
        good n fs rest (in_order p 0 chosen (ts ++ rest)) vs all (calls ts) (
          in_order p 0 chosen ts,
          order_front p 0 chosen ts rest,
          order_calls p 0 chosen ts,
          order_fine p 0 chosen ts h f,
        ) s

    loop_good : (b : Bool) (at : Point) (site : ℕ) (test : Expression) (step : Option Expression) (body : Statement)
        (begun : ℕ) (ts us : List Task) (vs : List ℤ) (all : List Frame) → IsSuc (calls ts) → Fine known ts →
        Stack fs (calls ts) all →
        GoodNext n fs rest (if b then Goes (it n (ts ++ rest) (before vs) all) else
        Begins (it n (iteration at site (Some test) step body (suc begun) (ts ++ rest)) (before vs) all))
    loop_good true at site test step body begun ts us vs all h f s = (refl, (ts, refl, f, s))
    loop_good false at site test step body begun ts us vs all h f s =
        good n fs rest (iteration at site (Some test) step body (suc begun) (ts ++ rest)) (before vs) all (calls ts)
        (iteration_before at site (Some test) step body (suc begun) ts rest h f) s

    task_good : (t : Task) (ts us : List Task) (vs : List ℤ) (all : List Frame) → Fine known (t ∷ ts) →
        Stack fs (calls (t ∷ ts)) all → GoodNext n fs rest (task_next program launch (it n us vs all) t (ts ++ rest))
    task_good (Run at x) ts us vs all f s = run_good at x ts us vs all f.0 f.2 s
    task_good (Evaluate at e) ts us vs all f s = evaluate_good at e ts us vs all f.1 f.2 s
    task_good (Finish at action count) ts us vs all f s =
        action_good action (taken count vs) (below count vs) ts us vs all f.1 f.2 s
    task_good (Peek at site element root) ts us vs all f s = λ bytes. (refl, (ts, refl, f.2, s))
    task_good (Alter at site element root op of back old) ts us vs all f s = (refl, (ts, refl, f.2, s))
    task_good (Decide at chosen other) ts us vs all f s =
        decide_good (is_zero (last vs)) at chosen other ts (before vs) all f.1 f.2 s
    task_good (Enter at site function roots count) ts us vs all f s = (
      refl,
      (
        Run (at ++ Into ∷ []) (Block (function_at program function).body) ∷ InCall at site ∷ ts,
        refl,
        (tt, λ z. tt, (tt, λ z. tt, f.2)),
        stack_push fs (calls ts) all (new_frame program launch (it n us vs all) site function roots (taken count vs)) s,
      ),
    )
    task_good (InCall at site) ts us vs all f s = (refl, (ts, refl, f.2, stack_pop fs (calls ts) all s))
    task_good (Discard at) ts us vs all f s = (refl, (ts, refl, f.2, s))
    task_good (Keep at x) ts us vs all f s = (refl, (ts, refl, f.2, stack_set fs (calls ts) all x (last vs) f.1 s))
    task_good (Clear at site array count) ts us vs all f s =
        good n fs rest (initial_tasks at site array 0 (taken count vs) (ts ++ rest)) (below count vs) all (calls ts)
        (initial_before at site array 0 (taken count vs) ts rest f.2) s
    task_good (Initialise at site array index value) ts us vs all f s = (refl, (ts, refl, f.2, s))
    task_good (Branch at chosen other) ts us vs all f s =
        branch_good (is_zero (last vs)) at chosen other ts (before vs) all f.0 f.2 s
    task_good (InLoop at site None step body begun) ts us vs all f s =
        good n fs rest (iteration at site None step body (suc begun) (ts ++ rest)) vs all (calls ts)
        (iteration_before at site None step body (suc begun) ts rest f.0 f.2) s
    task_good (InLoop at site (Some test) step body begun) ts us vs all f s =
        loop_good (is_zero (last vs)) at site test step body begun ts us vs all f.0 f.2 s
    task_good (Select at site arms) ts us vs all f s =
        good n fs rest (entry_tasks at (entry_of (last vs) arms) (InSwitch at site ∷ (ts ++ rest))) (before vs) all
        (calls ts) (entry_before at (entry_of (last vs) arms) (InSwitch at site ∷ ts) rest f.0 (tt, λ z. tt, f.2)) s
    task_good (InSwitch at site) ts us vs all f s = (refl, (ts, refl, f.2, s))
    task_good (Leave at) ts us vs all f s = return_good n fs ts rest us vs vs all f.0 f.2 s

  module _ (program : Program) (launch : Launch) (lengths : ℕ → ℕ) (told : Access → List ℕ → Type 0) (n : ℕ)
      (fs : List Frame) (rest : List Task) where
    abbrev pub Does : Item → List Deed → Item → Type 0
    Does = History lengths told (item_next program launch)

    -- the item stands in what was before the rest; or it came behind it, with what the variables held, and goes on
    abbrev pub Passes : Item → List Deed → Item → Type 0
    Passes from deeds to =
        ((t : Task) × (ts : List Task) × (to.tasks ≡ t ∷ (ts ++ rest)))
        ⊎ ((g : Frame) × (us : List ℤ) × (front : List Deed) × (further : List Deed) ×
        Does from front (it n rest us (g ∷ fs)) × (Holds known g × (g.function ≡ own)) ×
        Does (it n rest us (g ∷ fs)) further to ×
        (deeds ≡ front ++ further))

    is_it : (i : Item) (us : List Task) (all : List Frame) → i.number ≡ n → i.tasks ≡ us → i.frames ≡ all →
        i ≡ it n us i.values all
    is_it i us all a b c =
        ap (λ m. it m i.tasks i.values i.frames) a ∙
        (ap (λ u. it n u i.values i.frames) b ∙ ap (λ z. it n us i.values z) c)

    behind : (i to : Item) (deeds : List Deed) → i.number ≡ n → i.tasks ≡ rest → Stack fs 0 i.frames →
        Does i deeds to → Passes i deeds to
    behind i to deeds a b ([], g, e, s, h) d =
        let q = is_it i rest (g ∷ fs) a b e in
        inr (g, i.values, [], deeds, subst (λ j. Does i [] j) q nothing, h, subst (λ j. Does j deeds to) q d, refl)
    behind i to deeds a b (p ∷ ps, g, e, s, h) d = absurd (no_size (size ps) (sym s))

    next_good : (i : Item) (t : Task) (ts : List Task) → i.number ≡ n → i.tasks ≡ t ∷ (ts ++ rest) →
        Fine known (t ∷ ts) → Stack fs (calls (t ∷ ts)) i.frames → GoodNext n fs rest (item_next program launch i)
    next_good i t ts a b f s =
        subst (λ j. GoodNext n fs rest (item_next program launch j))
        (sym (is_it i (t ∷ (ts ++ rest)) i.frames a b refl))
        (task_good program launch n fs rest t ts (t ∷ (ts ++ rest)) i.values i.frames f s)

    once_good : (m : Next Item) (deed : Deed) (to : Item) → GoodNext n fs rest m → DoesOnce lengths told m deed to →
        Good n fs rest to
    once_good Ends deed to k e = elim e [ ]
    once_good (Goes after) deed to k e = elim e [ ]
    once_good (Waits site after) Turned to k e = elim e [ ]
    once_good (Waits site after) (Read at read bytes) to k e = elim e [ ]
    once_good (Waits site after) (Wrote at o j bs) to k e = elim e [ ]
    once_good (Begins after) Passed to k e = elim e [ ]
    once_good (Begins after) (Read at read bytes) to k e = elim e [ ]
    once_good (Begins after) (Wrote at o j bs) to k e = elim e [ ]
    once_good (Loads site access after) Passed to k e = elim e [ ]
    once_good (Loads site access after) Turned to k e = elim e [ ]
    once_good (Loads site access after) (Wrote at o j bs) to k e = elim e [ ]
    once_good (Stores site object index bytes after) Passed to k e = elim e [ ]
    once_good (Stores site object index bytes after) Turned to k e = elim e [ ]
    once_good (Stores site object index bytes after) (Read at read bs) to k e = elim e [ ]
    once_good (Waits site after) Passed to k e = subst (Good n fs rest) e k
    once_good (Begins after) Turned to k e = subst (Good n fs rest) e k
    once_good (Loads site access after) (Read at read bytes) to k (a, b, f, t, e) = subst (Good n fs rest) e (k bytes)
    once_good (Stores site object index bytes after) (Wrote at o j bs) to k (a, b, c, d, f, e) =
        subst (Good n fs rest) e k

    ahead : (from mid to : Item) (deeds : List Deed) → item_next program launch from ≡ Goes mid → Passes mid deeds to →
        Passes from deeds to
    ahead from mid to deeds e (inl s) = inl s
    ahead from mid to deeds e (inr (g, us, front, further, a, h, b, p)) =
        inr (g, us, front, further, going e a, h, b, p)

    ahead_doing : (from mid to : Item) (deed : Deed) (deeds : List Deed) →
        DoesOnce lengths told (item_next program launch from) deed mid → Passes mid deeds to →
        Passes from (deed ∷ deeds) to
    ahead_doing from mid to deed deeds d (inl s) = inl s
    ahead_doing from mid to deed deeds d (inr (g, us, front, further, a, h, b, p)) =
        inr (g, us, deed ∷ front, further, doing d a, h, b, ap (λ xs. deed ∷ xs) p)

    pub passes : {from to : Item} {deeds : List Deed} → Does from deeds to → Good n fs rest from → Passes from deeds to
    passes {from = from} {to = to} {deeds = deeds} nothing (a, ([], b, f, s)) = behind from to deeds a b s nothing
    passes nothing (a, (t ∷ ts, b, f, s)) = inl (t, ts, b)
    passes {from = from} {to = to} {deeds = deeds} (going g h) (a, ([], b, f, s)) =
        behind from to deeds a b s (going g h)
    passes {from = from} {to = to} {deeds = deeds} (going {mid = mid} g h) (a, (t ∷ ts, b, f, s)) =
        ahead from mid to deeds g (passes h (subst (GoodNext n fs rest) g (next_good from t ts a b f s)))
    passes {from = from} {to = to} {deeds = deeds} (doing d h) (a, ([], b, f, s)) =
        behind from to deeds a b s (doing d h)
    passes {from = from} {to = to} (doing {mid = mid} {deed = deed} {deeds = deeds} d h) (a, (t ∷ ts, b, f, s)) =
        ahead_doing from mid to deed deeds d
        (passes h (once_good (item_next program launch from) deed mid (next_good from t ts a b f s) d))

    -- an evaluation that sets none of the variables
    pub evaluation : (at : Point) (e : Expression) (vs : List ℤ) (f : Frame) (to : Item) (deeds : List Deed) →
        Spares known e → f.function ≡ own → Holds known f →
        Does (it n (Evaluate at e ∷ rest) vs (f ∷ fs)) deeds to →
        Passes (it n (Evaluate at e ∷ rest) vs (f ∷ fs)) deeds to
    evaluation at e vs f to deeds s fn h d =
        passes d (refl, (Evaluate at e ∷ [], refl, (tt, λ z. s, tt), ([], f, refl, refl, (h, fn))))
