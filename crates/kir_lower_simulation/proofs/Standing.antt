-- Each step of a program's item leaves its tasks in place.
use Rattle.std.proofs.Common.{append_assoc, ◌≡◌, ℕ, suc, ◌+◌, ℤ, List, [], ◌∷◌, ◌++◌, Option, Some, None, refl, sym}
use Rattle.std.proofs.Common.{ap, ◌∙◌, subst, arith, ⊎_elim}
use Rattle.std.specs.Prelude.{true, false}
use Rattle.cl_model.specs.Tree.{Expression, Apply, Update, Choose, Call, Expressions, none, more, Statement, Do}
use Rattle.cl_model.specs.Tree.{Declare, Fill, Block, If, Loop, Switch, Break, Continue, Return, Barrier, Statements}
use Rattle.cl_model.specs.Tree.{empty, also, Arms, no_arm, arm, Program}
use Rattle.cl_model.specs.Task.{Leg, Operand, Own, Tested, Chosen, Other, Nth, Turn, Body, Step, Arm, Into, Point}
use Rattle.cl_model.specs.Task.{Task, Run, Evaluate, Finish, Peek, Alter, Decide, Enter, InCall, Discard, Keep, Clear}
use Rattle.cl_model.specs.Task.{Initialise, Branch, InLoop, Select, InSwitch, Leave, point_of}
use Rattle.cl_model.specs.Steps.{each_operand, in_order, test_tasks, step_tasks, iteration, behind_break}
use Rattle.cl_model.specs.Steps.{behind_continue, initial_tasks, Entry, arm_tasks, entry_of, entry_tasks}
use Rattle.kir_lower_simulation.specs.Coming.{behind_call, EvaluateLeads, RunLeads, TaskLeads, TasksLead, StandsAtBarrier}
use Rattle.kir_lower_simulation.specs.Nodes.{Node, no_node, statement_node, list_node, round_node, expression_node}
use Rattle.kir_lower_simulation.specs.Nodes.{operand_node, nth_node, arm_node, child, node_from, node_at, IsBarrierNode}
use Rattle.kir_lower_simulation.specs.Nodes.{IsNode, IsRealFrom, IsReal, IsInPlace, AreInPlace}
use Rattle.kir_lower_simulation.proofs.Entries.{Enters, enters_nowhere, enters_here, enters_later, value_enters}

module _ (program : Program) where
  -- one way behind another
  pub node_behind : (node : Node) (way behind : Point) →
      node_from program node (way ++ behind) ≡ node_from program (node_from program node way) behind
  node_behind node [] behind = refl
  node_behind node (leg ∷ way) behind = node_behind (child program node leg) way behind

  pub node_further : (way : Point) (leg : Leg) (node : Node) → node_at program way ≡ node →
      node_at program (way ++ leg ∷ []) ≡ child program node leg
  node_further way leg node e = node_behind _ way (leg ∷ []) ∙ ap (λ z. child program z leg) e

  pub node_twice : (way : Point) (one two : Leg) (node : Node) → node_at program way ≡ node →
      node_at program (way ++ (one ∷ two ∷ [])) ≡ child program (child program node one) two
  node_twice way one two node e =
      node_behind _ way (one ∷ two ∷ []) ∙ ap (λ z. child program (child program z one) two) e

  -- a step of a node's own is no node
  child_own : (node : Node) (k : ℕ) → child program node (Own k) ≡ no_node
  child_own no_node k = refl
  child_own (statement_node (Do e)) k = refl
  child_own (statement_node (Declare x value)) k = refl
  child_own (statement_node (Fill site array values)) k = refl
  child_own (statement_node (Block list)) k = refl
  child_own (statement_node (If site test chosen other)) k = refl
  child_own (statement_node (Loop site first test step body)) k = refl
  child_own (statement_node (Switch site value arms)) k = refl
  child_own (statement_node (Break site)) k = refl
  child_own (statement_node (Continue site)) k = refl
  child_own (statement_node (Return site value)) k = refl
  child_own (statement_node (Barrier site)) k = refl
  child_own (list_node list) k = refl
  child_own (round_node test step body) k = refl
  child_own (expression_node (Apply action operands)) k = refl
  child_own (expression_node (Update site element root op of back old index value)) k = refl
  child_own (expression_node (Choose site test chosen other)) k = refl
  child_own (expression_node (Call site function roots arguments)) k = refl

  own_none : (way : Point) (k : ℕ) → node_at program (way ++ Own k ∷ []) ≡ no_node
  own_none way k = node_further way (Own k) (node_at program way) refl ∙ child_own _ k

  turn_own_none : (way : Point) (n k : ℕ) → node_at program (way ++ (Turn n ∷ Own k ∷ [])) ≡ no_node
  turn_own_none way n k = node_twice way (Turn n) (Own k) (node_at program way) refl ∙ child_own _ k

  -- where a way leads to a node, each leg of it does
  none_from : (way : Point) → node_from program no_node way ≡ no_node
  none_from [] = refl
  none_from (leg ∷ way) = none_from way

  no_step : (node : Node) (k : ℕ) (way : Point) → IsNode (node_from program (child program node (Own k)) way) → ⊥
  no_step node k way h = subst IsNode (ap (λ z. node_from program z way) (child_own node k) ∙ none_from way) h

  real_from : (node : Node) (way : Point) → IsNode (node_from program node way) → IsRealFrom program node way
  real_from node [] h = h
  real_from node (Own k ∷ way) h = absurd (no_step node k way h)
  real_from node (Operand k ∷ way) h = real_from (child program node (Operand k)) way h
  real_from node (Tested ∷ way) h = real_from (child program node Tested) way h
  real_from node (Chosen ∷ way) h = real_from (child program node Chosen) way h
  real_from node (Other ∷ way) h = real_from (child program node Other) way h
  real_from node (Nth k ∷ way) h = real_from (child program node (Nth k)) way h
  real_from node (Turn k ∷ way) h = real_from (child program node (Turn k)) way h
  real_from node (Body ∷ way) h = real_from (child program node Body) way h
  real_from node (Step ∷ way) h = real_from (child program node Step) way h
  real_from node (Arm k ∷ way) h = real_from (child program node (Arm k)) way h
  real_from node (Into ∷ way) h = real_from (child program node Into) way h

  real_own_from : (node : Node) (way : Point) (n : ℕ) → IsNode (node_from program node way) →
      IsRealFrom program node (way ++ Own n ∷ [])
  real_own_from node [] n h = h
  real_own_from node (Own k ∷ way) n h = absurd (no_step node k way h)
  real_own_from node (Operand k ∷ way) n h = real_own_from (child program node (Operand k)) way n h
  real_own_from node (Tested ∷ way) n h = real_own_from (child program node Tested) way n h
  real_own_from node (Chosen ∷ way) n h = real_own_from (child program node Chosen) way n h
  real_own_from node (Other ∷ way) n h = real_own_from (child program node Other) way n h
  real_own_from node (Nth k ∷ way) n h = real_own_from (child program node (Nth k)) way n h
  real_own_from node (Turn k ∷ way) n h = real_own_from (child program node (Turn k)) way n h
  real_own_from node (Body ∷ way) n h = real_own_from (child program node Body) way n h
  real_own_from node (Step ∷ way) n h = real_own_from (child program node Step) way n h
  real_own_from node (Arm k ∷ way) n h = real_own_from (child program node (Arm k)) way n h
  real_own_from node (Into ∷ way) n h = real_own_from (child program node Into) way n h

  real_own : (way : Point) (n : ℕ) → IsNode (node_at program way) → IsReal program (way ++ Own n ∷ [])
  real_own way n h = real_own_from _ way n h

  real_turn_own : (way : Point) (k n : ℕ) → IsNode (node_at program (way ++ Turn k ∷ [])) →
      IsReal program (way ++ (Turn k ∷ Own n ∷ []))
  real_turn_own way k n h =
      subst (IsReal program) (append_assoc way (Turn k ∷ []) (Own n ∷ [])) (real_own (way ++ Turn k ∷ []) n h)

  -- there is a node where there is one below it
  node_above : (node : Node) (leg : Leg) → IsNode (child program node leg) → IsNode node
  node_above no_node leg h = h
  node_above (statement_node s) leg h = tt
  node_above (list_node list) leg h = tt
  node_above (round_node test step body) leg h = tt
  node_above (expression_node e) leg h = tt

  above : (way : Point) (leg : Leg) → IsNode (node_at program (way ++ leg ∷ [])) → IsNode (node_at program way)
  above way leg h =
      node_above (node_at program way) leg (subst IsNode (node_further way leg (node_at program way) refl) h)

  -- a node that is known
  is_there : (a b : Node) → a ≡ b → IsNode b → IsNode a
  is_there a b e h = subst IsNode (sym e) h

  -- ---- tasks of a node's parts

  operands_in_place : (at : Point) (k : ℕ) (list : Expressions) (rest : List Task) →
      ((i j : ℕ) → j ≡ i + k → node_at program (at ++ Operand j ∷ []) ≡ operand_node i list) →
      AreInPlace program rest → AreInPlace program (each_operand at k list rest)
  operands_in_place at k none rest h p = p
  operands_in_place at k (more e list) rest h p =
      (h 0 k (omega arith), operands_in_place at (suc k) list rest (λ i j same. h (suc i) j (omega (arith, same))) p)

  list_in_place : (at : Point) (k : ℕ) (list : Statements) (rest : List Task) →
      ((i j : ℕ) → j ≡ i + k → node_at program (at ++ Nth j ∷ []) ≡ nth_node i list) → AreInPlace program rest →
      AreInPlace program (in_order at k list rest)
  list_in_place at k empty rest h p = p
  list_in_place at k (also s list) rest h p =
      (h 0 k (omega arith), list_in_place at (suc k) list rest (λ i j same. h (suc i) j (omega (arith, same))) p)

  -- where the list is the node itself
  whole_list : (at : Point) (list : Statements) (rest : List Task) → node_at program at ≡ list_node list →
      AreInPlace program rest → AreInPlace program (in_order at 0 list rest)
  whole_list at list rest e p = list_in_place at 0 list rest (λ i j same. node_further at (Nth j) (list_node list) e ∙
      ap (λ z. nth_node z list) (omega (arith, same))) p

  arms_in_place : (at : Point) (k : ℕ) (arms : Arms) (rest : List Task) →
      ((i j : ℕ) → j ≡ i + k → node_at program (at ++ Arm j ∷ []) ≡ arm_node i arms) → AreInPlace program rest →
      AreInPlace program (arm_tasks at k arms rest)
  arms_in_place at k no_arm rest h p = p
  arms_in_place at k (arm labels other body arms) rest h p =
      whole_list (at ++ Arm k ∷ []) body (arm_tasks at (suc k) arms rest) (h 0 k (omega arith))
      (arms_in_place at (suc k) arms rest (λ i j same. h (suc i) j (omega (arith, same))) p)

  entry_in_place : (at : Point) (k : ℕ) (arms : Arms) (e : Entry) (rest : List Task) → Enters k arms e →
      ((i j : ℕ) → j ≡ i + k → node_at program (at ++ Arm j ∷ []) ≡ arm_node i arms) → AreInPlace program rest →
      AreInPlace program (entry_tasks at e rest)
  entry_in_place at k arms _ rest enters_nowhere h p = p
  entry_in_place at k arms _ rest enters_here h p = arms_in_place at k arms rest h p
  entry_in_place at k _ e rest (enters_later {rest = arms} enters) h p =
      entry_in_place at (suc k) arms e rest enters (λ i j same. h (suc i) j (omega (arith, same))) p

  initial_in_place : (at : Point) (site array k : ℕ) (values : List ℤ) (rest : List Task) →
      IsNode (node_at program at) → AreInPlace program rest →
      AreInPlace program (initial_tasks at site array k values rest)
  initial_in_place at site array k [] rest h p = p
  initial_in_place at site array k (v ∷ values) rest h p = (h, initial_in_place at site array (suc k) values rest h p)

  -- ---- loops

  -- each iteration stands in place
  abbrev HasRounds : Point → Option Expression → Option Expression → Statement → Type 0
  HasRounds at test step body = (k : ℕ) → node_at program (at ++ Turn k ∷ []) ≡ round_node test step body

  in_round : (at : Point) (k : ℕ) (leg : Leg) (test step : Option Expression) (body : Statement) →
      HasRounds at test step body → node_at program (at ++ (Turn k ∷ leg ∷ [])) ≡
      child program (round_node test step body) leg
  in_round at k leg test step body h =
      node_twice at (Turn k) leg (node_at program at) refl ∙
      ap (λ z. child program z leg) (sym (node_further at (Turn k) (node_at program at) refl) ∙ h k)

  test_in_place : (at : Point) (k : ℕ) (test step : Option Expression) (body : Statement) (rest : List Task) →
      HasRounds at test step body → AreInPlace program rest → AreInPlace program (test_tasks at k test rest)
  test_in_place at k None step body rest h p = p
  test_in_place at k (Some e) step body rest h p = (in_round at k Tested (Some e) step body h, p)

  step_in_place : (at : Point) (k : ℕ) (test step : Option Expression) (body : Statement) (rest : List Task) →
      HasRounds at test step body → AreInPlace program rest → AreInPlace program (step_tasks at k step rest)
  step_in_place at k test None body rest h p = p
  step_in_place at k test (Some e) body rest h p = (
    in_round at k Step test (Some e) body h,
    (
      (turn_own_none at k 1, real_turn_own at k 1 (is_there _ _ (h k) tt)),
      p,
    ),
  )

  round_in_place : (at : Point) (site k : ℕ) (test step : Option Expression) (body : Statement) (rest : List Task) →
      HasRounds at test step body → AreInPlace program rest →
      AreInPlace program (iteration at site test step body k rest)
  round_in_place at site k test step body rest h p = (
    in_round at k Body test step body h,
    step_in_place at k test step body _ h (test_in_place at k test step body _ h (h, p)),
  )

  -- ---- ways out

  break_in_place : (ts : List Task) → AreInPlace program ts → AreInPlace program (behind_break ts)
  break_in_place [] p = p
  break_in_place (InLoop at site test step body begun ∷ ts) p = p.1
  break_in_place (InSwitch at site ∷ ts) p = p.1
  break_in_place (InCall at site ∷ ts) p = p
  break_in_place (Run at s ∷ ts) p = break_in_place ts p.1
  break_in_place (Evaluate at e ∷ ts) p = break_in_place ts p.1
  break_in_place (Finish at action count ∷ ts) p = break_in_place ts p.1
  break_in_place (Peek at site element root ∷ ts) p = break_in_place ts p.1
  break_in_place (Alter at site element root op of back old ∷ ts) p = break_in_place ts p.1
  break_in_place (Decide at chosen other ∷ ts) p = break_in_place ts p.1
  break_in_place (Enter at site function roots count ∷ ts) p = break_in_place ts p.1
  break_in_place (Discard at ∷ ts) p = break_in_place ts p.1
  break_in_place (Keep at x ∷ ts) p = break_in_place ts p.1
  break_in_place (Clear at site array count ∷ ts) p = break_in_place ts p.1
  break_in_place (Initialise at site array index value ∷ ts) p = break_in_place ts p.1
  break_in_place (Branch at chosen other ∷ ts) p = break_in_place ts p.1
  break_in_place (Select at site arms ∷ ts) p = break_in_place ts p.1
  break_in_place (Leave at ∷ ts) p = break_in_place ts p.1

  continue_in_place : (ts : List Task) → AreInPlace program ts → AreInPlace program (behind_continue ts)
  continue_in_place [] p = p
  continue_in_place (InLoop at site test step body begun ∷ ts) p =
      step_in_place at begun test step body _ p.0 (test_in_place at begun test step body _ p.0 p)
  continue_in_place (InSwitch at site ∷ ts) p = continue_in_place ts p.1
  continue_in_place (InCall at site ∷ ts) p = p
  continue_in_place (Run at s ∷ ts) p = continue_in_place ts p.1
  continue_in_place (Evaluate at e ∷ ts) p = continue_in_place ts p.1
  continue_in_place (Finish at action count ∷ ts) p = continue_in_place ts p.1
  continue_in_place (Peek at site element root ∷ ts) p = continue_in_place ts p.1
  continue_in_place (Alter at site element root op of back old ∷ ts) p = continue_in_place ts p.1
  continue_in_place (Decide at chosen other ∷ ts) p = continue_in_place ts p.1
  continue_in_place (Enter at site function roots count ∷ ts) p = continue_in_place ts p.1
  continue_in_place (Discard at ∷ ts) p = continue_in_place ts p.1
  continue_in_place (Keep at x ∷ ts) p = continue_in_place ts p.1
  continue_in_place (Clear at site array count ∷ ts) p = continue_in_place ts p.1
  continue_in_place (Initialise at site array index value ∷ ts) p = continue_in_place ts p.1
  continue_in_place (Branch at chosen other ∷ ts) p = continue_in_place ts p.1
  continue_in_place (Select at site arms ∷ ts) p = continue_in_place ts p.1
  continue_in_place (Leave at ∷ ts) p = continue_in_place ts p.1

  return_in_place : (ts : List Task) → AreInPlace program ts → AreInPlace program (behind_call ts)
  return_in_place [] p = p
  return_in_place (InCall at site ∷ ts) p = p.1
  return_in_place (InLoop at site test step body begun ∷ ts) p = return_in_place ts p.1
  return_in_place (InSwitch at site ∷ ts) p = return_in_place ts p.1
  return_in_place (Run at s ∷ ts) p = return_in_place ts p.1
  return_in_place (Evaluate at e ∷ ts) p = return_in_place ts p.1
  return_in_place (Finish at action count ∷ ts) p = return_in_place ts p.1
  return_in_place (Peek at site element root ∷ ts) p = return_in_place ts p.1
  return_in_place (Alter at site element root op of back old ∷ ts) p = return_in_place ts p.1
  return_in_place (Decide at chosen other ∷ ts) p = return_in_place ts p.1
  return_in_place (Enter at site function roots count ∷ ts) p = return_in_place ts p.1
  return_in_place (Discard at ∷ ts) p = return_in_place ts p.1
  return_in_place (Keep at x ∷ ts) p = return_in_place ts p.1
  return_in_place (Clear at site array count ∷ ts) p = return_in_place ts p.1
  return_in_place (Initialise at site array index value ∷ ts) p = return_in_place ts p.1
  return_in_place (Branch at chosen other ∷ ts) p = return_in_place ts p.1
  return_in_place (Select at site arms ∷ ts) p = return_in_place ts p.1
  return_in_place (Leave at ∷ ts) p = return_in_place ts p.1

  -- ---- each step

  -- where the tasks are these
  placed_by : (u v : List Task) → u ≡ v → AreInPlace program v → AreInPlace program u
  placed_by u v e p = subst (AreInPlace program) (sym e) p

  evaluate_keeps : (at : Point) (e : Expression) (rest u : List Task) → EvaluateLeads at e rest u →
      node_at program at ≡ expression_node e → AreInPlace program rest → AreInPlace program u
  evaluate_keeps at (Apply action none) rest u l e p = placed_by u _ l p
  evaluate_keeps at (Apply action (more a list)) rest u l e p =
      placed_by u _ l (operands_in_place at 0 (more a list) _ (λ i j same. node_further at (Operand j) _ e ∙
      ap (λ z. operand_node z (more a list)) (omega (arith, same))) (is_there _ _ e tt, p))
  evaluate_keeps at (Update site element root op of back old index value) rest u l e p =
      placed_by u _ l (
        node_further at (Operand 0) _ e,
        (is_there _ _ e tt, (node_further at (Operand 1) _ e, (is_there _ _ e tt, p))),
      )
  evaluate_keeps at (Choose site test chosen other) rest u l e p =
      placed_by u _ l (node_further at Tested _ e, ((node_further at Chosen _ e, node_further at Other _ e), p))
  evaluate_keeps at (Call site function roots arguments) rest u l e p =
      placed_by u _ l (operands_in_place at 0 arguments _ (λ i j same. node_further at (Operand j) _ e ∙
      ap (λ z. operand_node z arguments) (omega (arith, same))) (node_further at Into _ e, p))

  run_keeps : (at : Point) (s : Statement) (rest u : List Task) → RunLeads at s rest u →
      node_at program at ≡ statement_node s → AreInPlace program rest → AreInPlace program u
  run_keeps at (Do a) rest u l e p =
      placed_by u _ l (node_further at (Operand 0) _ e, ((own_none at 0, real_own at 0 (is_there _ _ e tt)), p))
  run_keeps at (Declare x None) rest u l e p = placed_by u _ l p
  run_keeps at (Declare x (Some a)) rest u l e p =
      placed_by u _ l (node_further at (Operand 0) _ e, (is_there _ _ e tt, p))
  run_keeps at (Fill site array values) rest u l e p =
      placed_by u _ l (operands_in_place at 0 values _ (λ i j same. node_further at (Operand j) _ e ∙
      ap (λ z. operand_node z values) (omega (arith, same))) (is_there _ _ e tt, p))
  run_keeps at (Block list) rest u l e p =
      placed_by u _ l (list_in_place at 0 list rest (λ i j same. node_further at (Nth j) _ e ∙
      ap (λ z. nth_node z list) (omega (arith, same))) p)
  run_keeps at (If site test chosen other) rest u l e p =
      placed_by u _ l (node_further at Tested _ e, ((node_further at Chosen _ e, node_further at Other _ e), p))
  run_keeps at (Loop site true test step body) rest u l e p =
      let h : HasRounds at test step body = λ k. node_further at (Turn k) _ e in
      placed_by u _ l (test_in_place at 0 test step body _ h (h, p))
  run_keeps at (Loop site false test step body) rest u l e p =
      placed_by u _ l (round_in_place at site 1 test step body rest (λ k. node_further at (Turn k) _ e) p)
  run_keeps at (Switch site value arms) rest u l e p =
      placed_by u _ l (node_further at Tested _ e, ((is_there _ _ e tt, λ k. node_further at (Arm k) _ e), p))
  run_keeps at (Break site) rest u l e p = placed_by u _ l (break_in_place rest p)
  run_keeps at (Continue site) rest u l e p = placed_by u _ l (continue_in_place rest p)
  run_keeps at (Return site None) rest u l e p = placed_by u _ l (return_in_place rest p)
  run_keeps at (Return site (Some a)) rest u l e p =
      placed_by u _ l (node_further at (Operand 0) _ e, (is_there _ _ e tt, p))
  run_keeps at (Barrier site) rest u l e p = placed_by u _ l p

  task_keeps : (task : Task) (rest u : List Task) → TaskLeads program task rest u → IsInPlace program task →
      AreInPlace program rest → AreInPlace program u
  task_keeps (Run at s) rest u l e p = run_keeps at s rest u l e p
  task_keeps (Evaluate at a) rest u l e p = evaluate_keeps at a rest u l e p
  task_keeps (Finish at action count) rest u l e p = placed_by u _ l p
  task_keeps (Peek at site element root) rest u l e p = placed_by u _ l p
  task_keeps (Alter at site element root op of back old) rest u l e p = placed_by u _ l p
  task_keeps (Decide at chosen other) rest u l e p =
      ⊎_elim (λ x. placed_by u _ x (e.0, p)) (λ x. placed_by u _ x (e.1, p)) l
  task_keeps (Enter at site function roots count) rest u l e p =
      placed_by u _ l (e, (above at Into (is_there _ _ e tt), p))
  task_keeps (InCall at site) rest u l e p = placed_by u _ l p
  task_keeps (Discard at) rest u l e p = placed_by u _ l p
  task_keeps (Keep at x) rest u l e p = placed_by u _ l p
  task_keeps (Clear at site array count) rest u l e p =
      placed_by u _ l.1 (initial_in_place at site array 0 l.0 rest e p)
  task_keeps (Initialise at site array index value) rest u l e p = placed_by u _ l p
  task_keeps (Branch at chosen other) rest u l e p = ⊎_elim
      (λ x. placed_by u _ x (whole_list (at ++ Chosen ∷ []) chosen rest e.0 p))
      (λ x. placed_by u _ x (whole_list (at ++ Other ∷ []) other rest e.1 p)) l
  task_keeps (InLoop at site test step body begun) rest u l e p = ⊎_elim
      (λ x. placed_by u _ x (round_in_place at site (suc begun) test step body rest e p)) (λ x. placed_by u _ x p) l
  task_keeps (Select at site arms) rest u l e p =
      placed_by u _ l.1 (entry_in_place at 0 arms (entry_of l.0 arms) _ (value_enters l.0 arms) (λ i j same. e.1 j ∙
      ap (λ z. arm_node z arms) (omega (arith, same))) (e.0, p))
  task_keeps (InSwitch at site) rest u l e p = placed_by u _ l p
  task_keeps (Leave at) rest u l e p = placed_by u _ l (return_in_place rest p)

  -- wherever the first tasks are in place, those to which a step may lead are
  pub lead_keeps : (ts u : List Task) → TasksLead program ts u → AreInPlace program ts → AreInPlace program u
  lead_keeps [] u l p = absurd l
  lead_keeps (task ∷ rest) u l p = task_keeps task rest u l p.0 p.1

  -- ---- at a barrier

  not_none : (a : Node) → a ≡ no_node → IsBarrierNode a → ⊥
  not_none a e b = subst IsBarrierNode e b

  run_barrier : (at : Point) (s : Statement) (rest : List Task) → IsBarrierNode (statement_node s) →
      StandsAtBarrier at (Run at s ∷ rest)
  run_barrier at (Barrier site) rest b = refl
  run_barrier at (Do e) rest b = absurd b
  run_barrier at (Declare x value) rest b = absurd b
  run_barrier at (Fill site array values) rest b = absurd b
  run_barrier at (Block list) rest b = absurd b
  run_barrier at (If site test chosen other) rest b = absurd b
  run_barrier at (Loop site first test step body) rest b = absurd b
  run_barrier at (Switch site value arms) rest b = absurd b
  run_barrier at (Break site) rest b = absurd b
  run_barrier at (Continue site) rest b = absurd b
  run_barrier at (Return site value) rest b = absurd b

  -- an item of which the first task's point is that of a barrier stands at the barrier
  pub at_barrier : (task : Task) (rest : List Task) → IsInPlace program task →
      IsBarrierNode (node_at program (point_of task)) → StandsAtBarrier (point_of task) (task ∷ rest)
  at_barrier (Run at s) rest e b = run_barrier at s rest (subst IsBarrierNode e b)
  at_barrier (Evaluate at a) rest e b = absurd (subst IsBarrierNode e b)
  at_barrier (Finish at action count) rest e b = absurd (not_none _ (own_none at 0) b)
  at_barrier (Peek at site element root) rest e b = absurd (not_none _ (own_none at 0) b)
  at_barrier (Alter at site element root op of back old) rest e b = absurd (not_none _ (own_none at 1) b)
  at_barrier (Decide at chosen other) rest e b = absurd (not_none _ (own_none at 0) b)
  at_barrier (Enter at site function roots count) rest e b = absurd (not_none _ (own_none at 0) b)
  at_barrier (InCall at site) rest e b = absurd (not_none _ (own_none at 1) b)
  at_barrier (Discard at) rest e b = absurd (not_none _ e.0 b)
  at_barrier (Keep at x) rest e b = absurd (not_none _ (own_none at 0) b)
  at_barrier (Clear at site array count) rest e b = absurd (not_none _ (own_none at 0) b)
  at_barrier (Initialise at site array index value) rest e b = absurd (not_none _ (own_none at (suc index)) b)
  at_barrier (Branch at chosen other) rest e b = absurd (not_none _ (own_none at 0) b)
  at_barrier (InLoop at site test step body begun) rest e b = absurd (not_none _ (turn_own_none at begun 0) b)
  at_barrier (Select at site arms) rest e b = absurd (not_none _ (own_none at 0) b)
  at_barrier (InSwitch at site) rest e b = absurd (not_none _ (own_none at 1) b)
  at_barrier (Leave at) rest e b = absurd (not_none _ (own_none at 0) b)

  -- ---- at its point

  -- the point of a task in place is real
  pub real_point : (task : Task) → IsInPlace program task → IsReal program (point_of task)
  real_point (Run at s) e = real_from _ at (is_there _ _ e tt)
  real_point (Evaluate at a) e = real_from _ at (is_there _ _ e tt)
  real_point (Finish at action count) e = real_own at 0 e
  real_point (Peek at site element root) e = real_own at 0 e
  real_point (Alter at site element root op of back old) e = real_own at 1 e
  real_point (Decide at chosen other) e = real_own at 0 (above at Chosen (is_there _ _ e.0 tt))
  real_point (Enter at site function roots count) e = real_own at 0 (above at Into (is_there _ _ e tt))
  real_point (InCall at site) e = real_own at 1 e
  real_point (Discard at) e = e.1
  real_point (Keep at x) e = real_own at 0 e
  real_point (Clear at site array count) e = real_own at 0 e
  real_point (Initialise at site array index value) e = real_own at (suc index) e
  real_point (Branch at chosen other) e = real_own at 0 (above at Chosen (is_there _ _ e.0 tt))
  real_point (InLoop at site test step body begun) e = real_turn_own at begun 0 (is_there _ _ (e begun) tt)
  real_point (Select at site arms) e = real_own at 0 e.0
  real_point (InSwitch at site) e = real_own at 1 e
  real_point (Leave at) e = real_own at 0 e
