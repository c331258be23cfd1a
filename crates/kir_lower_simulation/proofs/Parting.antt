-- The steps of both items as steps of what they have left to do, and the point of a barrier line to which the
-- kernel's item comes.
use Rattle.std.proofs.Common.{◌≡◌, suc, ℤ, pos, List, [], ◌∷◌, Some, None, refl, sym, ap, ◌∙◌, subst, ◌⊎◌, inl, inr}
use Rattle.std.proofs.Common.{true, false, if◌then◌else◌}
use Rattle.std.proofs.Common.{Bool as Test}
use Rattle.std.proofs.lemmas.Option.{none-some, same_Some}
use Rattle.work_items.specs.Memory.{Access}
use Rattle.work_items.specs.Items.{Next, Ends, Waits, Goes, Begins, Loads, Stores}
use Rattle.work_items.specs.Coming.{MayLead, arrived, by_step, by_test}
use Rattle.cl_model.specs.Tree.{Action, Expression, Apply, Update, Choose, Call, none, more, Statement, Do, Declare}
use Rattle.cl_model.specs.Tree.{Fill, Block, If, Loop, Switch, Break, Continue, Return, Barrier, Program}
use Rattle.cl_model.specs.Tree as tree
use Rattle.cl_model.specs.Sizes.{Launch}
use Rattle.cl_model.specs.Values.{is_zero}
use Rattle.cl_model.specs.Task.{Point as ProgramPoint, Task, Run, Evaluate, Finish, Peek, Alter, Decide, Enter}
use Rattle.cl_model.specs.Task.{InCall, Discard, Keep, Clear, Initialise, Branch, InLoop, Select, InSwitch, Leave}
use Rattle.cl_model.specs.Task.{point_of as task_point, first_point, Item as ProgramItem}
use Rattle.cl_model.specs.Steps.{last, taken, with_values, behind_return, action_next, evaluate_next, run_next}
use Rattle.cl_model.specs.Steps.{task_next, first_next}
use Rattle.cl_model.specs.Meaning.{LeadsTo}
use Rattle.kir.specs.Tree.{Lines, BarrierThen, Kernel}
use Rattle.kir.specs.Places.{Point, Tasks, NoTask, LinesAt, AnswerAt, begun_in, point_of, past, in_chosen, in_other}
use Rattle.kir.specs.Places.{at_answer, in_test, in_body, behind, chosen_of, other_of, test_of, body_of}
use Rattle.kir.specs.Cuts.{is_barrier}
use Rattle.kir.specs.Steps.{Item, tasks_next}
use Rattle.kir.specs.Meaning.{AnswersTo, GoesOn, ItemCanCome}
use Rattle.kir.specs.Matching.{IsBarrierPoint}
use Rattle.kir.specs.Lowering.{Named}
use Rattle.kir.proofs.Placed.{Placed}
use Rattle.kir_moves.specs.Leads.{Leads, past_end, past_set, past_load, past_store, past_clear, past_barrier}
use Rattle.kir_moves.specs.Leads.{into_chosen, into_other, into_test, into_body, past_loop, to_body, ComesTo, there}
use Rattle.kir_moves.specs.Leads.{by_leg}
use Rattle.kir_lower.specs.Whole.{lowered_of}
use Rattle.kir_lower_shape.specs.Marks.{Marks, point_marked}
use Rattle.kir_lower_shape.specs.CodeMarks.{kernel_marks}
use Rattle.kir_lower_shape.proofs.OneToOne.{points_differ}
use Rattle.kir_lower_simulation.specs.Coming.{behind_call, RunLeads, EvaluateLeads, TaskLeads, TasksLead, StandsAtBarrier}
use Rattle.kir_lower_simulation.specs.Covering.{StandsAtLine, ComesToLine}
use Rattle.kir_lower_simulation.specs.Nodes.{IsBarrierNode, node_at, AreInPlace}
use Rattle.kir_lower_simulation.proofs.Standing.{at_barrier}

-- ---- steps of the program's item

-- the tasks behind a call
pub return_tasks : (i : ProgramItem) (ts : List Task) (values : List ℤ) →
    (behind_return i ts values).tasks ≡ behind_call ts
return_tasks i [] values = refl
return_tasks i (InCall at site ∷ ts) values = refl
return_tasks i (Run at s ∷ ts) values = return_tasks i ts values
return_tasks i (Evaluate at e ∷ ts) values = return_tasks i ts values
return_tasks i (Finish at action count ∷ ts) values = return_tasks i ts values
return_tasks i (Peek at site element root ∷ ts) values = return_tasks i ts values
return_tasks i (Alter at site element root op of back old ∷ ts) values = return_tasks i ts values
return_tasks i (Decide at chosen other ∷ ts) values = return_tasks i ts values
return_tasks i (Enter at site function roots count ∷ ts) values = return_tasks i ts values
return_tasks i (Discard at ∷ ts) values = return_tasks i ts values
return_tasks i (Keep at x ∷ ts) values = return_tasks i ts values
return_tasks i (Clear at site array count ∷ ts) values = return_tasks i ts values
return_tasks i (Initialise at site array index value ∷ ts) values = return_tasks i ts values
return_tasks i (Branch at chosen other ∷ ts) values = return_tasks i ts values
return_tasks i (InLoop at site test step body begun ∷ ts) values = return_tasks i ts values
return_tasks i (Select at site arms ∷ ts) values = return_tasks i ts values
return_tasks i (InSwitch at site ∷ ts) values = return_tasks i ts values
return_tasks i (Leave at ∷ ts) values = return_tasks i ts values

-- an item that a step leaves has the tasks of the step
led : (x t : ProgramItem) (us : List Task) → x.tasks ≡ us → x ≡ t → t.tasks ≡ us
led x t us e h = ap (λ (z : ProgramItem). z.tasks) (sym h) ∙ e

module _ (program : Program) (launch : Launch) (goes_on : Access → Type 0) (t : ProgramItem) where
  abbrev May : Next ProgramItem → Type 0
  May next = MayLead goes_on next t

  action_leads : (i : ProgramItem) (action : Action) (args values : List ℤ) (rest : List Task) →
      May (action_next program launch i action args values rest) → t.tasks ≡ rest
  action_leads i (tree.Literal value of) args values rest h = led _ t rest refl h
  action_leads i (tree.Variable x) args values rest h = led _ t rest refl h
  action_leads i (tree.Unary op of) args values rest h = led _ t rest refl h
  action_leads i (tree.Binary op of) args values rest h = led _ t rest refl h
  action_leads i (tree.Builtin f of) args values rest h = led _ t rest refl h
  action_leads i (tree.Convert to) args values rest h = led _ t rest refl h
  action_leads i (tree.Ask what) args values rest h = led _ t rest refl h
  action_leads i tree.Second args values rest h = led _ t rest refl h
  action_leads i tree.Truth args values rest h = led _ t rest refl h
  action_leads i (tree.Decided answer) args values rest h = led _ t rest refl h
  action_leads i (tree.Set x) args values rest h = led _ t rest refl h
  action_leads i (tree.Change x op of back old) args values rest h = led _ t rest refl h
  action_leads i (tree.Load site element root) args values rest h = led _ t rest refl h.1.1
  action_leads i (tree.Store site element root) args values rest h = led _ t rest refl h.1

  evaluate_leads : (i : ProgramItem) (at : ProgramPoint) (e : Expression) (rest : List Task) →
      May (evaluate_next program launch i at e rest) → EvaluateLeads at e rest t.tasks
  evaluate_leads i at (Apply action none) rest h = action_leads i action [] i.values rest h
  evaluate_leads i at (Apply action (more e es)) rest h = led _ t _ refl h
  evaluate_leads i at (Update site element root op of back old index value) rest h = led _ t _ refl h
  evaluate_leads i at (Choose site test chosen other) rest h = led _ t _ refl h
  evaluate_leads i at (Call site function roots arguments) rest h = led _ t _ refl h

  run_leads : (i : ProgramItem) (at : ProgramPoint) (s : Statement) (rest : List Task) →
      May (run_next program i at s rest) → RunLeads at s rest t.tasks
  run_leads i at (Do e) rest h = led _ t _ refl h
  run_leads i at (Declare x None) rest h = led _ t _ refl h
  run_leads i at (Declare x (Some e)) rest h = led _ t _ refl h
  run_leads i at (Fill site array values) rest h = led _ t _ refl h
  run_leads i at (Block list) rest h = led _ t _ refl h
  run_leads i at (If site test chosen other) rest h = led _ t _ refl h
  run_leads i at (Loop site true test step body) rest h = led _ t _ refl h
  run_leads i at (Loop site false test step body) rest h = led _ t _ refl h
  run_leads i at (Switch site value arms) rest h = led _ t _ refl h
  run_leads i at (Break site) rest h = led _ t _ refl h
  run_leads i at (Continue site) rest h = led _ t _ refl h
  run_leads i at (Return site None) rest h = led _ t _ (return_tasks i rest (pos 0 ∷ i.values)) h
  run_leads i at (Return site (Some e)) rest h = led _ t _ refl h
  run_leads i at (Barrier site) rest h = led _ t _ refl h

  decide_leads : (i : ProgramItem) (b : Test) (values : List ℤ) (x y us : List Task) →
      May (Goes (with_values i (if b then x else y) values)) → (t.tasks ≡ y) ⊎ (t.tasks ≡ x)
  decide_leads i true values x y us h = inr (led _ t x refl h)
  decide_leads i false values x y us h = inl (led _ t y refl h)

  loop_leads : (i : ProgramItem) (b : Test) (values : List ℤ) (again rest : List Task) →
      May (if b then Goes (with_values i rest values) else Begins (with_values i again values)) → (t.tasks ≡ again) ⊎
      (t.tasks ≡ rest)
  loop_leads i true values again rest h = inr (led _ t rest refl h)
  loop_leads i false values again rest h = inl (led _ t again refl h)

  choose_leads : (i : ProgramItem) (b : Test) (values : List ℤ) (x y : Task) (rest : List Task) →
      May (Goes (with_values i ((if b then x else y) ∷ rest) values)) → (t.tasks ≡ y ∷ rest) ⊎ (t.tasks ≡ x ∷ rest)
  choose_leads i true values x y rest h = inr (led _ t (x ∷ rest) refl h)
  choose_leads i false values x y rest h = inl (led _ t (y ∷ rest) refl h)

  task_leads : (i : ProgramItem) (task : Task) (rest : List Task) → May (task_next program launch i task rest) →
      TaskLeads program task rest t.tasks
  task_leads i (Run at s) rest h = run_leads i at s rest h
  task_leads i (Evaluate at e) rest h = evaluate_leads i at e rest h
  task_leads i (Finish at action count) rest h = action_leads i action _ _ rest h
  task_leads i (Peek at site element root) rest h = led _ t rest refl h.1.1
  task_leads i (Alter at site element root op of back old) rest h = led _ t rest refl h.1
  task_leads i (Decide at chosen other) rest h = choose_leads i (is_zero (last i.values)) _ _ _ rest h
  task_leads i (Enter at site function roots count) rest h = led _ t _ refl h
  task_leads i (InCall at site) rest h = led _ t rest refl h
  task_leads i (Discard at) rest h = led _ t rest refl h
  task_leads i (Keep at x) rest h = led _ t rest refl h
  task_leads i (Clear at site array count) rest h = (taken count i.values, led _ t _ refl h.1)
  task_leads i (Initialise at site array index value) rest h = led _ t rest refl h.1
  task_leads i (Branch at chosen other) rest h = decide_leads i (is_zero (last i.values)) _ _ _ rest h
  task_leads i (InLoop at site None step body begun) rest h = inl (led _ t _ refl h)
  task_leads i (InLoop at site (Some test) step body begun) rest h = loop_leads i (is_zero (last i.values)) _ _ rest h
  task_leads i (Select at site arms) rest h = (last i.values, led _ t _ refl h)
  task_leads i (InSwitch at site) rest h = led _ t rest refl h
  task_leads i (Leave at) rest h = led _ t _ (return_tasks i rest i.values) h

  -- a step of the item is one of its tasks
  pub step_leads : (i : ProgramItem) (ts : List Task) → May (first_next program launch i ts) →
      TasksLead program ts t.tasks
  step_leads i [] h = absurd h
  step_leads i (task ∷ rest) h = task_leads i task rest h

  leads_may : (next : Next ProgramItem) → LeadsTo next t → May next
  leads_may Ends h = absurd h
  leads_may (Waits site after) h = absurd h
  leads_may (Goes after) h = h
  leads_may (Begins after) h = h
  leads_may (Loads site access after) h = absurd h
  leads_may (Stores site object index bytes after) h = absurd h

  -- and so is a test, whatever it answers
  pub answer_leads : (i : ProgramItem) (ts : List Task) → LeadsTo (first_next program launch i ts) t →
      TasksLead program ts t.tasks
  answer_leads i ts h = step_leads i ts (leads_may (first_next program launch i ts) h)

-- tasks in place of which the first's point is that of a barrier stand at it
pub stands_there : (program : Program) (p : ProgramPoint) → IsBarrierNode (node_at program p) → (ts : List Task) →
    first_point ts ≡ Some p → AreInPlace program ts → StandsAtBarrier p ts
stands_there program p b [] e placed = absurd (none-some p e)
stands_there program p b (task ∷ rest) e placed =
    let same = same_Some (task_point task) p e in
    subst (λ z. StandsAtBarrier z (task ∷ rest)) same
    (at_barrier program task rest placed.0 (subst (λ z. IsBarrierNode (node_at program z)) (sym same) b))

-- ---- steps of the kernel's item

module _ (kernel : Kernel) (launch : Launch) where
  -- a step to these tasks
  record StepsTo (i : Item) (k next : Tasks) : Type 0 where
    after : Item
    tasks : after.tasks ≡ next
    step : MayLead GoesOn (tasks_next kernel launch i k) after ⊎ ((v : ℤ) × AnswersTo v i k after)

  steps : (i : Item) (k next : Tasks) → Leads k next → StepsTo i k next
  steps i _ _ past_end = record { after = _; tasks = refl; step = inl refl }
  steps i _ _ past_set = record { after = _; tasks = refl; step = inl refl }
  steps i _ _ past_load = record { after = _; tasks = refl; step = inl (tt, ([], refl)) }
  steps i _ _ past_store = record { after = _; tasks = refl; step = inl (tt, refl) }
  steps i _ _ past_clear = record { after = _; tasks = refl; step = inl (tt, refl) }
  steps i _ _ past_barrier = record { after = _; tasks = refl; step = inl refl }
  steps i _ _ into_chosen = record { after = _; tasks = refl; step = inr (pos 1, refl) }
  steps i _ _ into_other = record { after = _; tasks = refl; step = inr (pos 0, refl) }
  steps i _ _ into_test = record { after = _; tasks = refl; step = inl refl }
  steps i _ _ into_body = record { after = _; tasks = refl; step = inl refl }
  steps i _ _ past_loop = record { after = _; tasks = refl; step = inr (pos 0, refl) }
  steps i _ _ to_body = record { after = _; tasks = refl; step = inr (pos 1, refl) }

  come_by : (i : Item) (q k next : Tasks) → i.tasks ≡ k → (s : StepsTo i k next) →
      ItemCanCome kernel launch s.after (point_of q) → ItemCanCome kernel launch i (point_of q)
  come_by i q k next e s c = go s.step
    where
      go : MayLead GoesOn (tasks_next kernel launch i k) s.after ⊎ ((v : ℤ) × AnswersTo v i k s.after) →
          ItemCanCome kernel launch i (point_of q)
      go (inl h) = by_step (subst (λ z. MayLead GoesOn (tasks_next kernel launch i z) s.after) (sym e) h) c
      go (inr h) = by_test (h.0, subst (λ z. AnswersTo h.0 i z s.after) (sym e) h.1) c

  pub kernel_comes : (q : Tasks) (i : Item) (k : Tasks) → i.tasks ≡ k → ComesTo q k →
      ItemCanCome kernel launch i (point_of q)
  kernel_comes q i _ e there = subst (λ z. ItemCanCome kernel launch i (point_of z)) e arrived
  kernel_comes q i k e (by_leg {next = next} lead on) = let s =
      steps i k next lead in come_by i q k next e s (kernel_comes q s.after next s.tasks on)

-- each step keeps what is left in place
pub lead_placed : (text : Lines) (from next : Tasks) → Leads from next → Placed text from → Placed text next
lead_placed text _ _ past_end (e, l, n, p) = p
lead_placed text _ _ past_set (e, l, n, p) = (ap past e, ap behind l, n, p)
lead_placed text _ _ past_load (e, l, n, p) = (ap past e, ap behind l, n, p)
lead_placed text _ _ past_store (e, l, n, p) = (ap past e, ap behind l, n, p)
lead_placed text _ _ past_clear (e, l, n, p) = (ap past e, ap behind l, n, p)
lead_placed text _ _ past_barrier (e, l, n, p) = (ap past e, ap behind l, n, p)
lead_placed text _ _ into_chosen (e, l, n, p) = (ap in_chosen e, ap chosen_of l, n, (ap past e, ap behind l, n, p))
lead_placed text _ _ into_other (e, l, n, p) = (ap in_other e, ap other_of l, n, (ap past e, ap behind l, n, p))
lead_placed text _ _ into_test (e, l, n, p) = (
  ap (in_test 0) e,
  ap test_of l,
  ap suc n,
  (
    (λ k. ap (at_answer k) e),
    (λ k. ap (in_test k) e),
    (λ k. ap (in_body k) e),
    ap test_of l,
    ap body_of l,
    n,
    (ap past e, ap behind l, n, p),
  ),
)
lead_placed text _ _ into_body (e, l, n, p) = (
  ap (in_body 1) e,
  ap body_of l,
  ap suc n,
  (
    ap (in_test 1) e,
    ap test_of l,
    ap suc n,
    (
      (λ k. ap (at_answer k) e),
      (λ k. ap (in_test k) e),
      (λ k. ap (in_body k) e),
      ap test_of l,
      ap body_of l,
      n,
      (ap past e, ap behind l, n, p),
    ),
  ),
)
lead_placed text _ _ past_loop (a, t, b, lt, lb, n, p) = p
lead_placed text _ _ (to_body {n = k}) (a, t, b, lt, lb, n, p) =
    (b (suc k), lb, ap suc n, (t (suc k), lt, ap suc n, (a, t, b, lt, lb, n, p)))

come_placed : (text : Lines) (q k : Tasks) → ComesTo q k → Placed text k → Placed text q
come_placed text q _ there p = p
come_placed text q k (by_leg {next = next} lead on) p = come_placed text q next on (lead_placed text k next lead p)

-- tasks at a line of the point stand at a barrier point
record AtPoint (text : Lines) (marks : Marks) (point : ProgramPoint) (q : Tasks) : Type 0 where
  at : Point
  barrier : IsBarrierPoint text at
  marked : point_marked marks at ≡ point
  stands : point_of q ≡ Some at

line_point : (text : Lines) (marks : Marks) (point : ProgramPoint) (q : Tasks) → StandsAtLine marks point q →
    Placed text q → AtPoint text marks point q
line_point text marks point NoTask s p = absurd s
line_point text marks point (LinesAt at (BarrierThen site rest) k) s (e, l, n, p) = record {
  at = record { at = at; begun = begun_in k };
  barrier = record { barrier = ap is_barrier (sym l); each_loop = n };
  marked = s;
  stands = refl;
}
line_point text marks point (LinesAt at _ k) s p = absurd s
line_point text marks point (AnswerAt at test answer body n k) s p = absurd s

-- ---- parting

-- where the kernel's item may come to the line of the program's point, it can come to the point of the line
pub comes_to_line : (program : Program) (names : List (List Named)) (launch : Launch) (i : Item) →
    Placed (lowered_of program names).body i.tasks → (point : Point) →
    IsBarrierPoint (lowered_of program names).body point
    → ComesToLine (kernel_marks program names) (point_marked (kernel_marks program names) point) i.tasks →
    ItemCanCome (lowered_of program names) launch i (Some point)
comes_to_line program names launch i placed point is r =
    let text = (lowered_of program names).body in
    let marks = kernel_marks program names in
    let there' = line_point text marks (point_marked marks point) r.there r.stands
    (come_placed text r.there i.tasks r.comes placed) in
    let same : there'.at ≡ point = points_differ program names there'.at point there'.barrier is there'.marked in
    subst (λ z. ItemCanCome (lowered_of program names) launch i z) (there'.stands ∙
    ap (λ (z : Point). Some z) same) (kernel_comes (lowered_of program names) launch r.there i i.tasks refl
    r.comes)
