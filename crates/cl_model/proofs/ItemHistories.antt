-- What an item does in a run is a history of it: its stores leave constant memory as it was.
use Rattle.std.proofs.Common.{◌≡◌, ◌≢◌, ℕ, zero, suc, ℤ, pos, List, [], ◌∷◌, ◌++◌, length, Option, Some, None, true}
use Rattle.std.proofs.Common.{false, cond, slice_get, unwrap_or, refl, sym, ap, ◌∙◌, subst}
use Rattle.std.proofs.lemmas.Option.{none-some, same_Some}
use Rattle.work_items.specs.Memory.{Memory, has_element, is_in_range, loaded, stored}
use Rattle.work_items.specs.Items.{Next, Goes, Begins, Move}
use Rattle.work_items.specs.Runs.{IsRun}
use Rattle.work_items.specs.Histories.{Tells, KeepsTold, HasHistories}
use Rattle.work_items.proofs.MemoryLemmas.{bytes_of-stored_other}
use Rattle.work_items.proofs.HistoryLemmas.{run_histories}
use Rattle.cl_model.specs.declared.program.Root.{Root}
use Rattle.cl_model.specs.declared.program.Root.TheVariants.{Private}
use Rattle.wg_num.specs.declared.types.IntType.{IntType}
use Rattle.cl_model.specs.Tree.{Action, Literal, Variable, Unary, Binary, Builtin, Convert, Ask, Second, Truth}
use Rattle.cl_model.specs.Tree.{Decided, Set, Change, Load, Store, Expression, Apply, Update, Choose, Call}
use Rattle.cl_model.specs.Tree.{Expressions, none, more, Statement, Do, Declare, Fill, Block, If, Loop, Switch, Break}
use Rattle.cl_model.specs.Tree.{Continue, Return, Barrier, Statements, empty, also, Arms, no_arm, arm, Function}
use Rattle.cl_model.specs.Tree.{Program}
use Rattle.cl_model.specs.Values.{is_zero}
use Rattle.cl_model.specs.Sizes.{Launch, item_count}
use Rattle.cl_model.specs.Calls.{function_at, no_function}
use Rattle.cl_model.specs.Objects.{IsConstant, object_of, array_bytes, zeros}
use Rattle.cl_model.specs.Task.{Chosen, Other, Arm, Point, Task, Run, Evaluate, Finish, Peek, Alter, Decide, Enter}
use Rattle.cl_model.specs.Task.{InCall, Discard, Keep, Clear, Initialise, Branch, InLoop, Select, InSwitch, Leave}
use Rattle.cl_model.specs.Task.{Frame, Item}
use Rattle.wg_num.specs.Bytes.{bytes_of as bytes_of_value}
use Rattle.cl_model.specs.Steps.{array_at, last, before, taken, set_in, set_first, frames_below, has_label, Entry}
use Rattle.cl_model.specs.Steps.{nowhere, entry, labelled, defaulted, or_else, entry_of, each_operand, in_order}
use Rattle.cl_model.specs.Steps.{test_tasks, step_tasks, iteration, behind_break, behind_continue, behind_return}
use Rattle.cl_model.specs.Steps.{initial_tasks, arm_tasks, entry_tasks, passed_object, action_next, evaluate_next}
use Rattle.cl_model.specs.Steps.{run_next, task_next, first_next, item_next}
use Rattle.cl_model.specs.Valid.{CanStore, IsValid}
use Rattle.cl_model.specs.Fitting.{FitsProgram}
use Rattle.cl_model.specs.Meaning.{machine_of, start_items, start_world, lengths_of, MayBeTold}
use Rattle.cl_model.proofs.Stores.{ObjectsFit, root_apart, private_apart, kernel_fits}
use Rattle.cl_model.proofs.Stored.{PassesFit, ActionStores, StoresIn, StoresAmong, StoresInOptional, StoresOf}
use Rattle.cl_model.proofs.Stored.{StoresOfAll, StoresOfArms, body_stores}

-- the frames behind a task
abbrev frames_behind : Task → List Frame → List Frame
frames_behind (InCall at site) frames = frames_below frames
frames_behind _ frames = frames

-- where a task stores, in the function that is under way
abbrev TaskStores : Program → Function → Task → Type 0
TaskStores program f (Run at s) = StoresOf program f s
TaskStores program f (Evaluate at e) = StoresIn program f e
TaskStores program f (Finish at action count) = ActionStores program f action
TaskStores program f (Peek at site element root) = Unit {0}
TaskStores program f (Alter at site element root op of back old) = CanStore program f root element
TaskStores program f (Decide at chosen other) = StoresIn program f chosen × StoresIn program f other
TaskStores program f (Enter at site g roots count) = PassesFit program f g roots
TaskStores program f (InCall at site) = Unit {0}
TaskStores program f (Discard at) = Unit {0}
TaskStores program f (Keep at x) = Unit {0}
TaskStores program f (Clear at site array count) = Unit {0}
TaskStores program f (Initialise at site array index value) = Unit {0}
TaskStores program f (Branch at chosen other) = StoresOfAll program f chosen × StoresOfAll program f other
TaskStores program f (InLoop at site test step body begun) =
    StoresInOptional program f test × StoresInOptional program f step × StoresOf program f body
TaskStores program f (Select at site arms) = StoresOfArms program f arms
TaskStores program f (InSwitch at site) = Unit {0}
TaskStores program f (Leave at) = Unit {0}

module _ (program : Program) (launch : Launch) (buffers : List (List ℕ)) (valid : IsValid program)
    (fits : FitsProgram program launch) where
  -- each task stores where its function may, and the parameters of each function under way fit
  abbrev StackFits : List Task → List Frame → Type 0
  StackFits [] frames = Unit {0}
  StackFits (task ∷ rest) [] = ⊥
  StackFits (task ∷ rest) (frame ∷ frames) =
      TaskStores program (function_at program frame.function) task ×
      ObjectsFit program launch fits frame.function frame.objects ×
      StackFits rest (frames_behind task (frame ∷ frames))

  abbrev ItemFits : Item → Type 0
  ItemFits i = StackFits i.tasks i.frames

  -- what is behind the first task
  behind : (task : Task) (rest : List Task) (frames : List Frame) → StackFits (task ∷ rest) frames →
      StackFits rest (frames_behind task frames)
  behind task rest [] f = absurd f
  behind task rest (frame ∷ frames) f = f.2

  set_fits : (tasks : List Task) (frames : List Frame) (x : ℕ) (v : ℤ) → StackFits tasks frames →
      StackFits tasks (set_first frames x v)
  set_fits [] frames x v f = tt
  set_fits (task ∷ rest) [] x v f = absurd f
  set_fits (task ∷ rest) (frame ∷ frames) x v f = (f.0, f.1, go task f.2 (λ h. set_fits rest (frame ∷ frames) x v h))
    where
      go : (task : Task) → StackFits rest (frames_behind task (frame ∷ frames)) →
          (StackFits rest (frame ∷ frames) → StackFits rest (set_in frame x v ∷ frames)) →
          StackFits rest (frames_behind task (set_in frame x v ∷ frames))
      go (InCall at site) h further = h
      go _ h further = further h

  told_stays : (memory : Memory) (object : ℕ) (index : ℤ) (bytes : List ℕ) → (IsConstant program launch object → ⊥) →
      Tells (MayBeTold program launch buffers) memory →
      Tells (MayBeTold program launch buffers) (stored memory object index bytes)
  told_stays memory object index bytes apart tells access h c =
      let ne : object ≢ access.object = λ e. apart (subst (λ o. IsConstant program launch o) (sym e) c) in
      let same = bytes_of-stored_other memory object access.object index bytes ne in
      let here : is_in_range memory access ≡ true =
      ap (λ bs. has_element (length bs) access.size access.index) (sym same) ∙ h in
      let one : loaded (stored memory object index bytes) access ≡ loaded memory access =
      ap (λ bs. loaded (bs ∷ []) (record { object = 0; size = access.size; index = access.index })) same in
      one ∙ tells access here c

  abbrev Kept : Next Item → Type 0
  Kept next = KeepsTold (MayBeTold program launch buffers) ItemFits next

  abbrev an_item : ℕ → List Task → List ℤ → List Frame → Item
  an_item n tasks values frames = record { number = n; tasks = tasks; values = values; frames = frames }

  module _ (n : ℕ) (frame : Frame) (frames : List Frame) (o : ObjectsFit program launch fits frame.function
      frame.objects) where
    abbrev f : Function
    f = function_at program frame.function

    abbrev all : List Frame
    all = frame ∷ frames

    -- a store to a root that may be stored to leaves what may be told
    root_stays : (root : Root) (element : IntType) → CanStore program f root element →
        (memory : Memory) (index : ℤ) (bytes : List ℕ) → Tells (MayBeTold program launch buffers) memory
        → Tells (MayBeTold program launch buffers)
        (stored memory (object_of program launch n frame.path frame.objects root) index bytes)
    root_stays root element c memory index bytes tells =
        told_stays memory _ index bytes (root_apart program launch fits n frame.function frame.path frame.objects root
        c.0 element o c.1 c.2) tells

    array_stays : (array : ℕ) (memory : Memory) (index : ℤ) (bytes : List ℕ) →
        Tells (MayBeTold program launch buffers) memory
        → Tells (MayBeTold program launch buffers)
        (stored memory (object_of program launch n frame.path frame.objects (Private array)) index bytes)
    array_stays array memory index bytes tells =
        told_stays memory _ index bytes (private_apart program launch fits n frame.path frame.objects array) tells

    stack-each_operand : (at : Point) (k : ℕ) (es : Expressions) (tasks : List Task) → StoresAmong program f es →
        StackFits tasks all → StackFits (each_operand at k es tasks) all
    stack-each_operand at k none tasks s h = h
    stack-each_operand at k (more e rest) tasks s h = (s.0, o, stack-each_operand at (suc k) rest tasks s.1 h)

    stack-in_order : (at : Point) (k : ℕ) (list : Statements) (tasks : List Task) → StoresOfAll program f list →
        StackFits tasks all → StackFits (in_order at k list tasks) all
    stack-in_order at k empty tasks s h = h
    stack-in_order at k (also e rest) tasks s h = (s.0, o, stack-in_order at (suc k) rest tasks s.1 h)

    stack-test_tasks : (at : Point) (k : ℕ) (test : Option Expression) (tasks : List Task) →
        StoresInOptional program f test → StackFits tasks all → StackFits (test_tasks at k test tasks) all
    stack-test_tasks at k None tasks s h = h
    stack-test_tasks at k (Some e) tasks s h = (s, o, h)

    stack-step_tasks : (at : Point) (k : ℕ) (step : Option Expression) (tasks : List Task) →
        StoresInOptional program f step → StackFits tasks all → StackFits (step_tasks at k step tasks) all
    stack-step_tasks at k None tasks s h = h
    stack-step_tasks at k (Some e) tasks s h = (s, o, (tt, o, h))

    stack-iteration : (at : Point) (site : ℕ) (test step : Option Expression) (body : Statement) (k : ℕ)
        (tasks : List Task) → StoresInOptional program f test × StoresInOptional program f step ×
        StoresOf program f body → StackFits tasks all
        → StackFits (iteration at site test step body k tasks) all
    stack-iteration at site test step body k tasks s h =
        (s.2, o, stack-step_tasks at k step _ s.1 (stack-test_tasks at k test _ s.0 (s, o, h)))

    stack-behind_break : (tasks : List Task) → StackFits tasks all → StackFits (behind_break tasks) all
    stack-behind_break [] h = h
    stack-behind_break (InLoop at site test step body begun ∷ rest) h = h.2
    stack-behind_break (InSwitch at site ∷ rest) h = h.2
    stack-behind_break (InCall at site ∷ rest) h = h
    stack-behind_break (_ ∷ rest) h = stack-behind_break rest h.2

    stack-behind_continue : (tasks : List Task) → StackFits tasks all → StackFits (behind_continue tasks) all
    stack-behind_continue [] h = h
    stack-behind_continue (InLoop at site test step body begun ∷ rest) h =
        stack-step_tasks at begun step _ h.0.1 (stack-test_tasks at begun test _ h.0.0 h)
    stack-behind_continue (InCall at site ∷ rest) h = h
    stack-behind_continue (_ ∷ rest) h = stack-behind_continue rest h.2

    stack-behind_return : (tasks : List Task) (values own : List ℤ) (was : List Task) → StackFits tasks all →
        ItemFits (behind_return (an_item n was own all) tasks values)
    stack-behind_return [] values own was h = h
    stack-behind_return (InCall at site ∷ rest) values own was h = h.2
    stack-behind_return (_ ∷ rest) values own was h = stack-behind_return rest values own was h.2

    stack-initial_tasks : (at : Point) (site array k : ℕ) (values : List ℤ) (tasks : List Task) →
        StackFits tasks all → StackFits (initial_tasks at site array k values tasks) all
    stack-initial_tasks at site array k [] tasks h = h
    stack-initial_tasks at site array k (v ∷ values) tasks h =
        (tt, o, stack-initial_tasks at site array (suc k) values tasks h)

    stack-arm_tasks : (at : Point) (k : ℕ) (arms : Arms) (tasks : List Task) → StoresOfArms program f arms →
        StackFits tasks all → StackFits (arm_tasks at k arms tasks) all
    stack-arm_tasks at k no_arm tasks s h = h
    stack-arm_tasks at k (arm labels other body rest) tasks s h =
        stack-in_order (at ++ Arm k ∷ []) 0 body _ s.0 (stack-arm_tasks at (suc k) rest tasks s.1 h)

    abbrev EntryStores : Entry → Type 0
    EntryStores nowhere = Unit {0}
    EntryStores (entry k arms) = StoresOfArms program f arms

    stack-entry_tasks : (at : Point) (e : Entry) (tasks : List Task) → EntryStores e → StackFits tasks all →
        StackFits (entry_tasks at e tasks) all
    stack-entry_tasks at nowhere tasks s h = h
    stack-entry_tasks at (entry k arms) tasks s h = stack-arm_tasks at k arms tasks s h

    stores-labelled : (v : ℤ) (k : ℕ) (arms : Arms) → StoresOfArms program f arms → EntryStores (labelled v k arms)
    stores-labelled v k no_arm s = tt
    stores-labelled v k (arm labels other body rest) s =
        elim (has_label v labels) as (λ b.
        EntryStores (cond b (entry k (arm labels other body rest)) (labelled v (suc k) rest))) [
          | true ↦ s
          | false ↦
              stores-labelled v (suc k) rest s.1
        ]

    stores-defaulted : (k : ℕ) (arms : Arms) → StoresOfArms program f arms → EntryStores (defaulted k arms)
    stores-defaulted k no_arm s = tt
    stores-defaulted k (arm labels other body rest) s =
        elim other as (λ b. EntryStores (cond b (entry k (arm labels other body rest)) (defaulted (suc k) rest)))
        [ true ↦ s | false ↦ stores-defaulted (suc k) rest s.1 ]

    stores-or_else : (a b : Entry) → EntryStores a → EntryStores b → EntryStores (or_else a b)
    stores-or_else nowhere b h g = g
    stores-or_else (entry k arms) b h g = h

    action_keeps : (was : List Task) (own : List ℤ) (action : Action) (args values : List ℤ) (rest : List Task) →
        ActionStores program f action → StackFits rest all →
        Kept (action_next program launch (an_item n was own all) action args values rest)
    action_keeps was own (Literal value of) args values rest s h = h
    action_keeps was own (Variable x) args values rest s h = h
    action_keeps was own (Unary op of) args values rest s h = h
    action_keeps was own (Binary op of) args values rest s h = h
    action_keeps was own (Builtin g of) args values rest s h = h
    action_keeps was own (Convert to) args values rest s h = h
    action_keeps was own (Ask what) args values rest s h = h
    action_keeps was own Second args values rest s h = h
    action_keeps was own Truth args values rest s h = h
    action_keeps was own (Decided answer) args values rest s h = h
    action_keeps was own (Set x) args values rest s h = set_fits rest all x _ h
    action_keeps was own (Change x op of back old) args values rest s h = set_fits rest all x _ h
    action_keeps was own (Load site element root) args values rest s h = λ bytes told. h
    action_keeps was own (Store site element root) args values rest s h =
        (h, λ memory tells. root_stays root element s memory _ _ tells)

    evaluate_keeps : (was : List Task) (own : List ℤ) (at : Point) (e : Expression) (rest : List Task) →
        StoresIn program f e → StackFits rest all →
        Kept (evaluate_next program launch (an_item n was own all) at e rest)
    evaluate_keeps was own at (Apply action none) rest s h = action_keeps was own action [] own rest s.0 h
    evaluate_keeps was own at (Apply action (more e es)) rest s h =
        stack-each_operand at 0 (more e es) _ s.1 (s.0, o, h)
    evaluate_keeps was own at (Update site element root op of back old index value) rest s h =
        (s.1, o, (tt, o, (s.2, o, (s.0, o, h))))
    evaluate_keeps was own at (Choose site test chosen other) rest s h = (s.0, o, ((s.1, s.2), o, h))
    evaluate_keeps was own at (Call site g roots arguments) rest s h =
        stack-each_operand at 0 arguments _ s.1 (s.0, o, h)

    run_keeps : (was : List Task) (own : List ℤ) (at : Point) (s : Statement) (rest : List Task) →
        StoresOf program f s → StackFits rest all → Kept (run_next program (an_item n was own all) at s rest)
    run_keeps was own at (Do e) rest s h = (s, o, (tt, o, h))
    run_keeps was own at (Declare x None) rest s h = set_fits rest all x _ h
    run_keeps was own at (Declare x (Some e)) rest s h = (s, o, (tt, o, h))
    run_keeps was own at (Fill site array values) rest s h = stack-each_operand at 0 values _ s (tt, o, h)
    run_keeps was own at (Block list) rest s h = stack-in_order at 0 list rest s h
    run_keeps was own at (If site test chosen other) rest s h = (s.0, o, ((s.1, s.2), o, h))
    run_keeps was own at (Loop site true test step body) rest s h = stack-test_tasks at 0 test _ s.0 (s, o, h)
    run_keeps was own at (Loop site false test step body) rest s h = stack-iteration at site test step body 1 rest s h
    run_keeps was own at (Switch site value arms) rest s h = (s.0, o, (s.1, o, h))
    run_keeps was own at (Break site) rest s h = stack-behind_break rest h
    run_keeps was own at (Continue site) rest s h = stack-behind_continue rest h
    run_keeps was own at (Return site None) rest s h = stack-behind_return rest _ own was h
    run_keeps was own at (Return site (Some e)) rest s h = (s, o, (tt, o, h))
    run_keeps was own at (Barrier site) rest s h = h

    -- a called function's parameters fit, where pointers of their spaces are passed
    new_objects : (own : List ℤ) (was : List Task) (g : ℕ) (roots : List (Option Root)) →
        PassesFit program f g roots → ObjectsFit program launch fits g
        (λ k. passed_object program launch (an_item n was own all) (slice_get roots k))
    new_objects own was g roots p k at element mine kind ne c =
        let root = p k at element mine kind in
        root_apart program launch fits n frame.function frame.path frame.objects root.0 at element o root.2 ne
        (subst (λ x. IsConstant program launch (passed_object program launch (an_item n was own all) x)) root.1 c)

  -- each function stores where it may
  bodies_store : (g : ℕ) → StoresOfAll program (function_at program g) (function_at program g).body
  bodies_store g = by_function (slice_get program.functions g) refl
    where
      by_function : (o : Option Function) → slice_get program.functions g ≡ o →
          StoresOfAll program (unwrap_or o no_function) (unwrap_or o no_function).body
      by_function None e = tt
      by_function (Some f) e = body_stores program f f.body (valid.functions g f e).types

  bodies_at : (g : ℕ) → StoresOfAll program (function_at program g) (function_at program g).body
  bodies_at g = bodies_store g

  module _ (n : ℕ) (frame : Frame) (frames : List Frame) (o : ObjectsFit program launch fits frame.function
      frame.objects) where
    abbrev g : Function
    g = function_at program frame.function

    abbrev every : List Frame
    every = frame ∷ frames

    task_keeps : (was : List Task) (own : List ℤ) (task : Task) (rest : List Task) → TaskStores program g task →
        StackFits rest (frames_behind task every) → Kept (task_next program launch (an_item n was own every) task rest)
    task_keeps was own (Run at s) rest t h = run_keeps n frame frames o was own at s rest t h
    task_keeps was own (Evaluate at e) rest t h = evaluate_keeps n frame frames o was own at e rest t h
    task_keeps was own (Finish at action count) rest t h = action_keeps n frame frames o was own action _ _ rest t h
    task_keeps was own (Peek at site element root) rest t h = λ bytes told. h
    task_keeps was own (Alter at site element root op of back old) rest t h =
        (h, λ memory tells. root_stays n frame frames o root element t memory _ _ tells)
    task_keeps was own (Decide at chosen other) rest t h =
        elim (is_zero (last own)) as (λ b.
        ItemFits (an_item n (cond b (Evaluate (at ++ Other ∷ []) other) (Evaluate (at ++ Chosen ∷ []) chosen) ∷
        rest) (before own) every)) [
          | true ↦ (t.1, o, h)
          | false ↦ (t.0, o, h)
        ]
    task_keeps was own (Enter at site callee roots count) rest t h =
        let fresh = new_objects n frame frames o own was callee roots t in
        (bodies_at callee, fresh, (tt, fresh, h))
    task_keeps was own (InCall at site) rest t h = h
    task_keeps was own (Discard at) rest t h = h
    task_keeps was own (Keep at x) rest t h = set_fits rest every x _ h
    task_keeps was own (Clear at site array count) rest t h = (
      stack-initial_tasks n frame frames o at site array 0 (taken count own) rest h,
      λ memory tells. array_stays n frame frames o array memory (pos 0)
          (zeros (array_bytes (array_at program (an_item n was own every) array))) tells,
    )
    task_keeps was own (Initialise at site array index value) rest t h = (
      h,
      λ memory tells. array_stays n frame frames o array memory (pos index)
          (bytes_of_value (array_at program (an_item n was own every) array).element value) tells,
    )
    task_keeps was own (Branch at chosen other) rest t h =
        elim (is_zero (last own)) as (λ b.
        ItemFits (an_item n (cond b (in_order (at ++ Other ∷ []) 0 other rest)
        (in_order (at ++ Chosen ∷ []) 0 chosen rest)) (before own) every)) [
          | true ↦ stack-in_order n frame frames o (at ++ Other ∷ []) 0 other rest t.1 h
          | false ↦ stack-in_order n frame frames o (at ++ Chosen ∷ []) 0 chosen rest t.0 h
        ]
    task_keeps was own (InLoop at site None step body begun) rest t h =
        stack-iteration n frame frames o at site None step body (suc begun) rest t h
    task_keeps was own (InLoop at site (Some test) step body begun) rest t h =
        elim (is_zero (last own)) as (λ b.
        Kept (cond b (Goes (an_item n rest (before own) every))
        (Begins (an_item n (iteration at site (Some test) step body (suc begun) rest) (before own) every)))) [
          | true ↦ h
          | false ↦ stack-iteration n frame frames o at site (Some test) step body (suc begun) rest t h
        ]
    task_keeps was own (Select at site arms) rest t h =
        stack-entry_tasks n frame frames o at (entry_of (last own) arms) _
        (stores-or_else n frame frames o (labelled (last own) 0 arms) (defaulted 0 arms)
        (stores-labelled n frame frames o (last own) 0 arms t) (stores-defaulted n frame frames o 0 arms t))
        (tt, o, h)
    task_keeps was own (InSwitch at site) rest t h = h
    task_keeps was own (Leave at) rest t h = stack-behind_return n frame frames o rest own own was h

  first_keeps : (n : ℕ) (tasks : List Task) (values : List ℤ) (frames : List Frame) → StackFits tasks frames →
      Kept (first_next program launch (an_item n tasks values frames) tasks)
  first_keeps n [] values frames h = tt
  first_keeps n (task ∷ rest) values [] h = absurd h
  first_keeps n (task ∷ rest) values (frame ∷ frames) h =
      task_keeps n frame frames h.1 (task ∷ rest) values task rest h.0 h.2

  item_keeps : (i : Item) → ItemFits i → Kept (item_next program launch i)
  item_keeps i h = first_keeps i.number i.tasks i.values i.frames h

  start_fits : (first count k : ℕ) (s : Item) → slice_get (start_items program launch first count) k ≡ Some s →
      ItemFits s
  start_fits first zero k s e = absurd (none-some s e)
  start_fits first (suc count) zero s e =
      subst (λ (i : Item). ItemFits i) (same_Some _ _ e) (
        bodies_at program.kernel,
        kernel_fits program launch fits first,
        tt,
      )
  start_fits first (suc count) (suc k) s e = start_fits (suc first) count k s e

  -- what each item does in a run of the launch is a history of it
  pub item_histories : (moves : List Move) →
      IsRun (machine_of program launch) (start_world program launch buffers) moves
      → HasHistories (machine_of program launch) (lengths_of program launch buffers)
      (MayBeTold program launch buffers) (start_world program launch buffers) moves
  item_histories moves run =
      run_histories (machine_of program launch) (lengths_of program launch buffers) (MayBeTold program launch buffers)
      ItemFits item_keeps (start_world program launch buffers) moves
      (start_fits 0 (item_count launch)) (λ access h c. refl) (λ o. refl) run
