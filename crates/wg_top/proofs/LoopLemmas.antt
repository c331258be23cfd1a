-- Launches of kernels without a loop begin no iteration.
use Rattle.std.proofs.Common.{◌≡◌, ℕ, zero, suc, ◌+◌, ℤ, pos, Bool, true, false, cond, List, [], ◌∷◌, ◌++◌, length}
use Rattle.std.proofs.Common.{Option, Some, None, option_map, slice_get, slice_set, refl, sym, ◌∙◌, subst, inl, inr}
use Rattle.std.proofs.Common.{arith}
use Rattle.std.specs.Prelude.{flat_map}
use Rattle.std.proofs.lemmas.Bool.{cases_eq, or_parts}
use Rattle.std.proofs.lemmas.Option.{none-some, same_Some}
use Rattle.work_items.specs.Memory.{Memory}
use Rattle.work_items.specs.Items.{Next, Ends, Waits, Goes, Begins, Loads, Stores, Machine, World, Move, Step}
use Rattle.work_items.specs.Items.{Release, fault_of, state_after, after_wait, after_step, after_step_of, released}
use Rattle.work_items.specs.Items.{moved}
use Rattle.work_items.specs.Runs.{turns, turns_of, turns_of_step}
use Rattle.work_items.specs.Clean.{AllKeep}
use Rattle.work_items.proofs.Lists.{get-set_same, get-set_other}
use Rattle.work_items.proofs.Diamond.{get-released_from}
use Rattle.cl_model.specs.Lists.{Each}
use Rattle.cl_model.specs.Tree.{Action, Literal, Variable, Unary, Binary, Builtin, Convert, Ask, Second, Truth}
use Rattle.cl_model.specs.Tree.{Decided, Set, Change, Load, Store, Expression, Apply, Update, Choose, Call}
use Rattle.cl_model.specs.Tree.{Expressions, none, more, Statement, Do, Declare, Fill, Block, If, Loop, Switch, Break}
use Rattle.cl_model.specs.Tree.{Continue, Return, Barrier, Statements, empty, also, Arms, no_arm, arm, Program}
use Rattle.cl_model.specs.Values.{is_zero}
use Rattle.cl_model.specs.Sizes.{Launch, item_count}
use Rattle.cl_model.specs.Calls.{CallSite, calls_in, calls_among, calls_in_optional, calls_of, calls_of_all}
use Rattle.cl_model.specs.Calls.{calls_of_arms, Instance, instances_below, function_at}
use Rattle.cl_model.specs.Task.{Chosen, Other, Arm, Point, Task, Run, Evaluate, Finish, Peek, Alter, Decide, Enter}
use Rattle.cl_model.specs.Task.{InCall, Discard, Keep, Clear, Initialise, Branch, InLoop, Select, InSwitch, Leave}
use Rattle.cl_model.specs.Task.{Item}
use Rattle.cl_model.specs.Steps.{last, before, taken, count_of, each_operand, in_order, behind_break, behind_continue}
use Rattle.cl_model.specs.Steps.{behind_return, has_label, Entry, nowhere, entry, labelled, defaulted, or_else}
use Rattle.cl_model.specs.Steps.{entry_of, arm_tasks, entry_tasks, initial_tasks, action_next, evaluate_next}
use Rattle.cl_model.specs.Steps.{run_next, task_next, first_next, item_next}
use Rattle.cl_model.specs.Valid.{CallsEnd, IsValid}
use Rattle.cl_model.specs.Meaning.{start_items, start_world, machine_of, EndsTurns}
use Rattle.cl_model.proofs.CallWeights.{each-left, each-right}
use Rattle.cl_meaning.specs.Typed.{Unit'}
use Rattle.wg_top.specs.declared.RunError.TheVariants as error
use Rattle.wg_top.specs.Loops.{has_loop, have_loop, arms_have_loop, HasNoLoop, HaveNoLoop}
use Rattle.wg_top.specs.CompiledOutcomes.{AreMade}
use Rattle.wg_top.specs.Outcomes.{models_in, EndBehind, IsOutcomeOf}

-- ---- what steps keep, a run keeps

-- the step begins no iteration, and something holds of the state after it
abbrev Quiet : {S : Type 0} → (S → Type 0) → Next S → Type 0
Quiet keeps Ends = Unit {0}
Quiet keeps (Waits site after) = keeps after
Quiet keeps (Goes after) = keeps after
Quiet keeps (Begins after) = ⊥
Quiet keeps (Loads site access after) = (bytes : List ℕ) → keeps (after bytes)
Quiet keeps (Stores site object index bytes after) = keeps after

keeps_after : {S : Type 0} (keeps : S → Type 0) (memory : Memory) (s : S) (n : Next S) → keeps s → Quiet keeps n →
    keeps (state_after memory s n)
keeps_after keeps memory s Ends k f = k
keeps_after keeps memory s (Waits site after) k f = k
keeps_after keeps memory s (Goes after) k f = f
keeps_after keeps memory s (Begins after) k f = absurd f
keeps_after keeps memory s (Loads site access after) k f = f _
keeps_after keeps memory s (Stores site object index bytes after) k f = f

keeps_released : {S : Type 0} (keeps : S → Type 0) (s : S) (n : Next S) → keeps s → Quiet keeps n →
    keeps (after_wait s n)
keeps_released keeps s Ends k f = k
keeps_released keeps s (Waits site after) k f = f
keeps_released keeps s (Goes after) k f = k
keeps_released keeps s (Begins after) k f = k
keeps_released keeps s (Loads site access after) k f = k
keeps_released keeps s (Stores site object index bytes after) k f = k

no_turn : {S : Type 0} (keeps : S → Type 0) (n : Next S) → Quiet keeps n → turns_of n ≡ 0
no_turn keeps Ends f = refl
no_turn keeps (Waits site after) f = refl
no_turn keeps (Goes after) f = refl
no_turn keeps (Begins after) f = absurd f
no_turn keeps (Loads site access after) f = refl
no_turn keeps (Stores site object index bytes after) f = refl

module _ {S P : Type 0} (machine : Machine S P) (keeps : S → Type 0) (quiet : (s : S) → keeps s →
    Quiet keeps (machine.next s)) where
  keep_set : (items : List S) (i : ℕ) (s new : S) → slice_get items i ≡ Some s → keeps new → AllKeep keeps items →
      AllKeep keeps (slice_set items i new)
  keep_set items i s new at is kept k t there = elim (cases_eq i k) [
    | inl e ↦
        let same : new ≡ t = same_Some _ _ (sym (get-set_same items i s new at) ∙
        subst (λ j. slice_get (slice_set items i new) j ≡ Some t) (sym e) there) in
        subst (λ x. keeps x) same is
    | inr ne ↦ kept k t (sym (get-set_other items i k new ne) ∙ there)
  ]

  keep_step : (world : World S) (i : ℕ) (s : S) (o : Option ℕ) → slice_get world.items i ≡ Some s →
      AllKeep keeps world.items → AllKeep keeps (after_step machine world i s o).items
  keep_step world i s None at kept =
      keep_set world.items i s _ at (keeps_after keeps world.memory s (machine.next s) (kept i s at)
      (quiet s (kept i s at))) kept
  keep_step world i s (Some site) at kept = kept

  keep_step_of : (world : World S) (i : ℕ) (o : Option S) → slice_get world.items i ≡ o → AllKeep keeps world.items →
      AllKeep keeps (after_step_of machine world i o).items
  keep_step_of world i None at kept = kept
  keep_step_of world i (Some s) at kept = keep_step world i s (fault_of world.memory (machine.next s)) at kept

  keep_released : (b : Bool) (s : S) → keeps s → keeps (cond b (after_wait s (machine.next s)) s)
  keep_released true s k = keeps_released keeps s (machine.next s) k (quiet s k)
  keep_released false s k = k

  keep_move : (world : World S) (move : Move) → AllKeep keeps world.items →
      AllKeep keeps (moved machine world move).items
  keep_move world (Step i) kept = keep_step_of world i (slice_get world.items i) refl kept
  keep_move world (Release g) kept =
      λ k t at. by_item k t (slice_get world.items k) refl (sym (get-released_from machine g 0 world.items k) ∙ at)
    where
      by_item : (k : ℕ) (t : S) (o : Option S) → slice_get world.items k ≡ o →
          option_map (released machine g (0 + k)) o ≡ Some t → keeps t
      by_item k t (Some s) here e = subst (λ x. keeps x) (same_Some _ _ e) (keep_released _ s (kept k s here))
      by_item k t None here e = absurd (none-some t e)

  no_turn_of : (items : List S) (i : ℕ) (o : Option S) → slice_get items i ≡ o → AllKeep keeps items →
      turns_of_step machine o ≡ 0
  no_turn_of items i None at kept = refl
  no_turn_of items i (Some s) at kept = no_turn keeps (machine.next s) (quiet s (kept i s at))

  -- so no run begins an iteration
  no_turns : (world : World S) (moves : List Move) → AllKeep keeps world.items → turns machine world moves ≡ 0
  no_turns world [] kept = refl
  no_turns world (Step i ∷ moves) kept =
      let first = no_turn_of world.items i (slice_get world.items i) refl kept in
      let rest = no_turns (moved machine world (Step i)) moves (keep_move world (Step i) kept) in
      omega (arith, first, rest)
  no_turns world (Release g ∷ moves) kept = let rest =
      no_turns (moved machine world (Release g)) moves (keep_move world (Release g) kept) in omega (arith, rest)

-- ---- no loop stands in the tasks, and each call is of one of some functions

module _ (C : ℕ → Type 0) where
  abbrev Called : CallSite → Type 0
  Called c = C c.function

  abbrev CallsIn : Expression → Type 0
  CallsIn e = Each Called (calls_in e)

  abbrev mutual
    Free : Statement → Type 0
    Free (Do e) = CallsIn e
    Free (Declare x value) = Each Called (calls_in_optional value)
    Free (Fill site array values) = Each Called (calls_among values)
    Free (Block list) = AllFree list
    Free (If site test chosen other) = CallsIn test × AllFree chosen × AllFree other
    Free (Loop site test_first test step body) = ⊥
    Free (Switch site value arms) = CallsIn value × ArmsFree arms
    Free (Break site) = Unit {0}
    Free (Continue site) = Unit {0}
    Free (Return site value) = Each Called (calls_in_optional value)
    Free (Barrier site) = Unit {0}

    AllFree : Statements → Type 0
    AllFree empty = Unit {0}
    AllFree (also s rest) = Free s × AllFree rest

    ArmsFree : Arms → Type 0
    ArmsFree no_arm = Unit {0}
    ArmsFree (arm labels other body rest) = AllFree body × ArmsFree rest

  mutual
    free_of : (s : Statement) → has_loop s ≡ false → Each Called (calls_of s) → Free s
    free_of (Do e) h c = c
    free_of (Declare x value) h c = c
    free_of (Fill site array values) h c = c
    free_of (Block list) h c = all_free_of list h c
    free_of (If site test chosen other) h c =
        let p = or_parts (have_loop chosen) (have_loop other) h in
        let d = each-right Called (calls_in test) (calls_of_all chosen ++ calls_of_all other) c in (
          each-left Called (calls_in test) (calls_of_all chosen ++ calls_of_all other) c,
          all_free_of chosen p.0 (each-left Called (calls_of_all chosen) (calls_of_all other) d),
          all_free_of other p.1 (each-right Called (calls_of_all chosen) (calls_of_all other) d),
        )
    free_of (Loop site test_first test step body) h c = let never : ⊥ = cc h in never
    free_of (Switch site value arms) h c = (
      each-left Called (calls_in value) (calls_of_arms arms) c,
      arms_free_of arms h (each-right Called (calls_in value) (calls_of_arms arms) c),
    )
    free_of (Break site) h c = tt
    free_of (Continue site) h c = tt
    free_of (Return site value) h c = c
    free_of (Barrier site) h c = tt

    all_free_of : (list : Statements) → have_loop list ≡ false → Each Called (calls_of_all list) → AllFree list
    all_free_of empty h c = tt
    all_free_of (also s rest) h c =
        let p = or_parts (has_loop s) (have_loop rest) h in (
          free_of s p.0 (each-left Called (calls_of s) (calls_of_all rest) c),
          all_free_of rest p.1 (each-right Called (calls_of s) (calls_of_all rest) c),
        )

    arms_free_of : (arms : Arms) → arms_have_loop arms ≡ false → Each Called (calls_of_arms arms) → ArmsFree arms
    arms_free_of no_arm h c = tt
    arms_free_of (arm labels other body rest) h c =
        let p = or_parts (have_loop body) (arms_have_loop rest) h in (
          all_free_of body p.0 (each-left Called (calls_of_all body) (calls_of_arms rest) c),
          arms_free_of rest p.1 (each-right Called (calls_of_all body) (calls_of_arms rest) c),
        )

  abbrev TaskFree : Task → Type 0
  TaskFree (Run at s) = Free s
  TaskFree (Evaluate at e) = CallsIn e
  TaskFree (Finish at action count) = Unit {0}
  TaskFree (Peek at site element root) = Unit {0}
  TaskFree (Alter at site element root op of back old) = Unit {0}
  TaskFree (Decide at chosen other) = CallsIn chosen × CallsIn other
  TaskFree (Enter at site g roots count) = C g
  TaskFree (InCall at site) = Unit {0}
  TaskFree (Discard at) = Unit {0}
  TaskFree (Keep at x) = Unit {0}
  TaskFree (Clear at site array count) = Unit {0}
  TaskFree (Initialise at site array index value) = Unit {0}
  TaskFree (Branch at chosen other) = AllFree chosen × AllFree other
  TaskFree (InLoop at site test step body begun) = ⊥
  TaskFree (Select at site arms) = ArmsFree arms
  TaskFree (InSwitch at site) = Unit {0}
  TaskFree (Leave at) = Unit {0}

  abbrev TasksFree : List Task → Type 0
  TasksFree [] = Unit {0}
  TasksFree (task ∷ rest) = TaskFree task × TasksFree rest

  free-each_operand : (at : Point) (k : ℕ) (es : Expressions) (tasks : List Task) → Each Called (calls_among es) →
      TasksFree tasks → TasksFree (each_operand at k es tasks)
  free-each_operand at k none tasks c f = f
  free-each_operand at k (more e rest) tasks c f = (
    each-left Called (calls_in e) (calls_among rest) c,
    free-each_operand at (suc k) rest tasks (each-right Called (calls_in e) (calls_among rest) c) f,
  )

  free-in_order : (at : Point) (k : ℕ) (list : Statements) (tasks : List Task) → AllFree list → TasksFree tasks →
      TasksFree (in_order at k list tasks)
  free-in_order at k empty tasks l f = f
  free-in_order at k (also s rest) tasks l f = (l.0, free-in_order at (suc k) rest tasks l.1 f)

  free-behind_break : (tasks : List Task) → TasksFree tasks → TasksFree (behind_break tasks)
  free-behind_break [] f = f
  free-behind_break (InLoop at site test step body begun ∷ rest) f = f.1
  free-behind_break (InSwitch at site ∷ rest) f = f.1
  free-behind_break (InCall at site ∷ rest) f = f
  free-behind_break (_ ∷ rest) f = free-behind_break rest f.1

  free-behind_continue : (tasks : List Task) → TasksFree tasks → TasksFree (behind_continue tasks)
  free-behind_continue [] f = f
  free-behind_continue (InLoop at site test step body begun ∷ rest) f = absurd f.0
  free-behind_continue (InCall at site ∷ rest) f = f
  free-behind_continue (_ ∷ rest) f = free-behind_continue rest f.1

  free-behind_return : (i : Item) (tasks : List Task) (values : List ℤ) → TasksFree tasks →
      TasksFree (behind_return i tasks values).tasks
  free-behind_return i [] values f = f
  free-behind_return i (InCall at site ∷ rest) values f = f.1
  free-behind_return i (_ ∷ rest) values f = free-behind_return i rest values f.1

  free-initial_tasks : (at : Point) (site array k : ℕ) (values : List ℤ) (tasks : List Task) → TasksFree tasks →
      TasksFree (initial_tasks at site array k values tasks)
  free-initial_tasks at site array k [] tasks f = f
  free-initial_tasks at site array k (v ∷ values) tasks f =
      (tt, free-initial_tasks at site array (suc k) values tasks f)

  free-arm_tasks : (at : Point) (k : ℕ) (arms : Arms) (tasks : List Task) → ArmsFree arms → TasksFree tasks →
      TasksFree (arm_tasks at k arms tasks)
  free-arm_tasks at k no_arm tasks l f = f
  free-arm_tasks at k (arm labels other body rest) tasks l f =
      free-in_order (at ++ Arm k ∷ []) 0 body _ l.0 (free-arm_tasks at (suc k) rest tasks l.1 f)

  abbrev EntryFree : Entry → Type 0
  EntryFree nowhere = Unit {0}
  EntryFree (entry k arms) = ArmsFree arms

  free-entry_tasks : (at : Point) (e : Entry) (tasks : List Task) → EntryFree e → TasksFree tasks →
      TasksFree (entry_tasks at e tasks)
  free-entry_tasks at nowhere tasks l f = f
  free-entry_tasks at (entry k arms) tasks l f = free-arm_tasks at k arms tasks l f

  free-labelled : (v : ℤ) (k : ℕ) (arms : Arms) → ArmsFree arms → EntryFree (labelled v k arms)
  free-labelled v k no_arm l = tt
  free-labelled v k (arm labels other body rest) l =
      elim (has_label v labels) as (λ b.
      EntryFree (cond b (entry k (arm labels other body rest)) (labelled v (suc k) rest))) [
        | true ↦ l
        | false ↦
            free-labelled v (suc k) rest l.1
      ]

  free-defaulted : (k : ℕ) (arms : Arms) → ArmsFree arms → EntryFree (defaulted k arms)
  free-defaulted k no_arm l = tt
  free-defaulted k (arm labels other body rest) l =
      elim other as (λ b. EntryFree (cond b (entry k (arm labels other body rest)) (defaulted (suc k) rest))) [
        | true ↦
            l
        | false ↦ free-defaulted (suc k) rest l.1
      ]

  free-or_else : (a b : Entry) → EntryFree a → EntryFree b → EntryFree (or_else a b)
  free-or_else nowhere b h g = g
  free-or_else (entry k arms) b h g = h

  free-entry_of : (v : ℤ) (arms : Arms) → ArmsFree arms → EntryFree (entry_of v arms)
  free-entry_of v arms l =
      free-or_else (labelled v 0 arms) (defaulted 0 arms) (free-labelled v 0 arms l) (free-defaulted 0 arms l)

-- ---- no step begins an iteration

module _ (program : Program) (launch : Launch) (C : ℕ → Type 0) (closed : (g : ℕ) → C g →
    AllFree C (function_at program g).body) where
  abbrev keeps : Item → Type 0
  keeps i = TasksFree C i.tasks

  action_quiet : (i : Item) (action : Action) (args values : List ℤ) (rest : List Task) → TasksFree C rest →
      Quiet keeps (action_next program launch i action args values rest)
  action_quiet i (Literal value of) args values rest f = f
  action_quiet i (Variable x) args values rest f = f
  action_quiet i (Unary op of) args values rest f = f
  action_quiet i (Binary op of) args values rest f = f
  action_quiet i (Builtin g of) args values rest f = f
  action_quiet i (Convert to) args values rest f = f
  action_quiet i (Ask what) args values rest f = f
  action_quiet i Second args values rest f = f
  action_quiet i Truth args values rest f = f
  action_quiet i (Decided answer) args values rest f = f
  action_quiet i (Set x) args values rest f = f
  action_quiet i (Change x op of back old) args values rest f = f
  action_quiet i (Load site element root) args values rest f = λ bytes. f
  action_quiet i (Store site element root) args values rest f = f

  evaluate_quiet : (i : Item) (at : Point) (e : Expression) (rest : List Task) → CallsIn C e → TasksFree C rest →
      Quiet keeps (evaluate_next program launch i at e rest)
  evaluate_quiet i at (Apply action none) rest c f = action_quiet i action [] i.values rest f
  evaluate_quiet i at (Apply action (more e es)) rest c f =
      free-each_operand C at 0 (more e es) (Finish at action (count_of (more e es)) ∷ rest) c (tt, f)
  evaluate_quiet i at (Update site element root op of back old index value) rest c f = (
    each-left (Called C) (calls_in index) (calls_in value) c,
    (tt, (each-right (Called C) (calls_in index) (calls_in value) c, (tt, f))),
  )
  evaluate_quiet i at (Choose site test chosen other) rest c f =
      let d = each-right (Called C) (calls_in test) (calls_in chosen ++ calls_in other) c in (
        each-left (Called C) (calls_in test) (calls_in chosen ++ calls_in other) c,
        (
          (
            each-left (Called C) (calls_in chosen) (calls_in other) d,
            each-right (Called C) (calls_in chosen) (calls_in other) d,
          ),
          f,
        ),
      )
  evaluate_quiet i at (Call site g roots arguments) rest c f =
      let one : List CallSite = record { site = site; function = g } ∷ [] in
      free-each_operand C at 0 arguments (Enter at site g roots (count_of arguments) ∷ rest)
      (each-left (Called C) (calls_among arguments) one c)
      ((each-right (Called C) (calls_among arguments) one c).0, f)

  run_quiet : (i : Item) (at : Point) (s : Statement) (rest : List Task) → Free C s → TasksFree C rest →
      Quiet keeps (run_next program i at s rest)
  run_quiet i at (Do e) rest l f = (l, (tt, f))
  run_quiet i at (Declare x None) rest l f = f
  run_quiet i at (Declare x (Some e)) rest l f = (l, (tt, f))
  run_quiet i at (Fill site array values) rest l f =
      free-each_operand C at 0 values (Clear at site array (count_of values) ∷ rest) l (tt, f)
  run_quiet i at (Block list) rest l f = free-in_order C at 0 list rest l f
  run_quiet i at (If site test chosen other) rest l f = (l.0, ((l.1, l.2), f))
  run_quiet i at (Loop site test_first test step body) rest l f = absurd l
  run_quiet i at (Switch site value arms) rest l f = (l.0, (l.1, f))
  run_quiet i at (Break site) rest l f = free-behind_break C rest f
  run_quiet i at (Continue site) rest l f = free-behind_continue C rest f
  run_quiet i at (Return site None) rest l f = free-behind_return C i rest (pos 0 ∷ i.values) f
  run_quiet i at (Return site (Some e)) rest l f = (l, (tt, f))
  run_quiet i at (Barrier site) rest l f = f

  task_quiet : (i : Item) (task : Task) (rest : List Task) → TaskFree C task → TasksFree C rest →
      Quiet keeps (task_next program launch i task rest)
  task_quiet i (Run at s) rest l f = run_quiet i at s rest l f
  task_quiet i (Evaluate at e) rest l f = evaluate_quiet i at e rest l f
  task_quiet i (Finish at action count) rest l f = action_quiet i action _ _ rest f
  task_quiet i (Peek at site element root) rest l f = λ bytes. f
  task_quiet i (Alter at site element root op of back old) rest l f = f
  task_quiet i (Decide at chosen other) rest l f =
      elim (is_zero (last i.values)) as
      (λ b. TasksFree C (cond b (Evaluate (at ++ Other ∷ []) other) (Evaluate (at ++ Chosen ∷ []) chosen) ∷ rest)) [
        | true ↦ (l.1, f)
        | false ↦ (l.0, f)
      ]
  task_quiet i (Enter at site g roots count) rest l f = (closed g l, (tt, f))
  task_quiet i (InCall at site) rest l f = f
  task_quiet i (Discard at) rest l f = f
  task_quiet i (Keep at x) rest l f = f
  task_quiet i (Clear at site array count) rest l f = free-initial_tasks C at site array 0 (taken count i.values) rest f
  task_quiet i (Initialise at site array index value) rest l f = f
  task_quiet i (Branch at chosen other) rest l f =
      elim (is_zero (last i.values)) as
      (λ b. TasksFree C (cond b (in_order (at ++ Other ∷ []) 0 other rest)
      (in_order (at ++ Chosen ∷ []) 0 chosen rest))) [
        | true ↦ free-in_order C (at ++ Other ∷ []) 0 other rest l.1 f
        | false ↦ free-in_order C (at ++ Chosen ∷ []) 0 chosen rest l.0 f
      ]
  task_quiet i (InLoop at site test step body begun) rest l f = absurd l
  task_quiet i (Select at site arms) rest l f =
      free-entry_tasks C at (entry_of (last i.values) arms) (InSwitch at site ∷ rest)
      (free-entry_of C (last i.values) arms l) (tt, f)
  task_quiet i (InSwitch at site) rest l f = f
  task_quiet i (Leave at) rest l f = free-behind_return C i rest i.values f

  first_quiet : (i : Item) (tasks : List Task) → TasksFree C tasks → Quiet keeps (first_next program launch i tasks)
  first_quiet i [] f = tt
  first_quiet i (task ∷ rest) f = task_quiet i task rest f.0 f.1

  item_quiet : (i : Item) → keeps i → Quiet keeps (item_next program launch i)
  item_quiet i f = first_quiet i i.tasks f

-- ---- the functions that the kernel reaches

-- no function that this one reaches has a loop, itself included
record IsFree (program : Program) (f : ℕ) : Type 0 where
  depth : ℕ
  path : List ℕ
  ends : CallsEnd program depth f
  free : Each (λ (i : Instance). have_loop (function_at program i.function).body ≡ false)
      (instances_below program depth path f)

calls_free : (program : Program) (depth : ℕ) (path : List ℕ) (calls : List CallSite) →
    Each (λ (c : CallSite). CallsEnd program depth c.function) calls
    → Each (λ (i : Instance). have_loop (function_at program i.function).body ≡ false)
    (flat_map (λ (c : CallSite). instances_below program depth (path ++ c.site ∷ []) c.function) calls) →
    Each (λ (c : CallSite). IsFree program c.function) calls
calls_free program depth path [] ends free = tt
calls_free program depth path (c ∷ calls) ends free =
    let below : CallSite → List Instance = λ d. instances_below program depth (path ++ d.site ∷ []) d.function in
    let P : Instance → Type 0 = λ i. have_loop (function_at program i.function).body ≡ false in (
      record {
        depth = depth;
        path = path ++ c.site ∷ [];
        ends = ends.0;
        free = each-left P (below c) (flat_map below calls) free;
      },
      calls_free program depth path calls ends.1 (each-right P (below c) (flat_map below calls) free),
    )

body_free : (program : Program) (f depth : ℕ) (path : List ℕ) → CallsEnd program depth f →
    Each (λ (i : Instance). have_loop (function_at program i.function).body ≡ false)
    (instances_below program depth path f) → AllFree (IsFree program) (function_at program f).body
body_free program f zero path ends free = absurd ends
body_free program f (suc depth) path ends free =
    all_free_of (IsFree program) (function_at program f).body free.0
    (calls_free program depth path (calls_of_all (function_at program f).body) ends free.1)

-- calls of the kernel end
kernel_ends : (program : Program) → IsValid program → CallsEnd program (length program.functions) program.kernel
kernel_ends program valid = valid.calls program.kernel valid.kernel

-- ---- a launch

module _ (program : Program) (launch : Launch) (buffers : List (List ℕ)) (valid : IsValid program)
    (free : HasNoLoop program) where
  closed : (g : ℕ) → IsFree program g → AllFree (IsFree program) (function_at program g).body
  closed g is = body_free program g is.depth is.path is.ends is.free

  kernel_free : AllFree (IsFree program) (function_at program program.kernel).body
  kernel_free = body_free program program.kernel (length program.functions) [] (kernel_ends program valid) free

  start_free : (first count : ℕ) →
      AllKeep (keeps program launch (IsFree program) closed) (start_items program launch first count)
  start_free first zero item state e = absurd (none-some state e)
  start_free first (suc count) zero state e =
      subst (λ (i : Item). TasksFree (IsFree program) i.tasks) (same_Some _ _ e) (kernel_free, tt)
  start_free first (suc count) (suc item) state e = start_free (suc first) count item state e

  -- begins no iteration in any run
  free_turns : (moves : List Move) → turns (machine_of program launch) (start_world program launch buffers) moves ≡ 0
  free_turns moves =
      no_turns (machine_of program launch) (keeps program launch (IsFree program) closed)
      (item_quiet program launch (IsFree program) closed) (start_world program launch buffers) moves
      (start_free 0 (item_count launch))

  pub never_turns : EndsTurns program launch buffers → ⊥
  never_turns ends = omega (arith, free_turns ends.moves, ends.more)

-- ---- launches one behind the other

-- each program is valid
abbrev AllValid : List Program → Type 0
AllValid [] = Unit {0}
AllValid (g ∷ gs) = IsValid g × AllValid gs

all_valid : (units : List Unit') → AreMade units → AllValid (models_in units)
all_valid [] made = tt
all_valid (u ∷ units) made = (made.0.valid, all_valid units made.1)

never_behind : (gs : List Program) (launches : List Launch) (before : List (List ℕ)) (behind : ℕ) → AllValid gs →
    HaveNoLoop gs → EndBehind EndsTurns gs launches before behind → ⊥
never_behind [] [] before behind valid free ends = ends
never_behind (g ∷ gs) (launch ∷ launches) before zero valid free ends = never_turns g launch before valid.0 free.0 ends
never_behind (g ∷ gs) (launch ∷ launches) before (suc behind) valid free ends =
    never_behind gs launches ends.0 behind valid.1 free.1 ends.2
never_behind [] (launch ∷ launches) before behind valid free ends = ends
never_behind (g ∷ gs) [] before behind valid free ends = ends

-- launches of programs without a loop have no such refusal
pub no_turns_of : (units : List Unit') (launches : List Launch) (before : List (List ℕ)) (number : ℕ)
    (several : Bool) → AreMade units → HaveNoLoop (models_in units) →
    IsOutcomeOf (models_in units) launches before (error.Turns number several) → ⊥
no_turns_of units launches before number several made free outcome =
    never_behind (models_in units) launches before outcome.behind (all_valid units made) free outcome.ends
