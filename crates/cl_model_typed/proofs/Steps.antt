-- The step of an item that fits leads to items that fit.
use Rattle.std.proofs.Common.{◌≡◌, ℕ, suc, ℤ, pos, List, [], ◌∷◌, ◌++◌, Option, Some, None, length, replicate}
use Rattle.std.proofs.Common.{slice_get, unwrap_or, cond, ◌⊎◌, inl, inr, refl, sym, ◌∙◌, subst}
use Rattle.std.specs.Prelude.{Bool as Test, true, false}
use Rattle.std.specs.Simd.Lanes.{number_l}
use Rattle.std.proofs.lemmas.List.{length-replicate}
use Rattle.work_items.specs.Items.{Next, Ends, Waits, Goes, Begins, Loads, Stores}
use Rattle.wg_num.specs.declared.types.IntType.{IntType}
use Rattle.wg_num.specs.declared.types.IntType.TheVariants.{Long}
use Rattle.wg_num.specs.declared.types.Bin.{Bin}
use Rattle.wg_num.specs.Wrap.{IsValue}
use Rattle.wg_num.specs.Bytes.{value_of_bytes}
use Rattle.wg_num.proofs.WrapLaws.{IsValue-wrap, IsValue-value}
use Rattle.wg_num.proofs.BuiltinLaws.{IsValue-builtin}
use Rattle.cl_model.specs.declared.program.Query.{Query}
use Rattle.cl_model.specs.declared.program.Root.{Root}
use Rattle.cl_model.specs.Tree.{Action, Literal, Variable, Unary, Binary, Builtin, Convert, Ask, Second, Truth}
use Rattle.cl_model.specs.Tree.{Decided, Set, Change, Load, Store, Expression, Apply, Update, Choose, Call}
use Rattle.cl_model.specs.Tree.{Expressions, none, more, Statement, Do, Declare, Fill, Block, If, Loop, Switch, Break}
use Rattle.cl_model.specs.Tree.{Continue, Return, Barrier, Statements, Function, Program}
use Rattle.cl_model.specs.Lists.{Each}
use Rattle.cl_model.specs.Values.{is_zero}
use Rattle.cl_model.specs.Sizes.{Launch, answer_of}
use Rattle.cl_model.specs.Calls.{function_at, no_function}
use Rattle.cl_model.specs.Task.{Operand, Chosen, Other, Point, Task, Evaluate, Finish}
use Rattle.cl_model.specs.Task.{Alter, Enter, InSwitch, Leave, Frame, Item}
use Rattle.cl_model.specs.Steps.{last, before, taken, below, nth, set_in, each_operand, count_of, in_order}
use Rattle.cl_model.specs.Steps.{iteration, entry_of, changed}
use Rattle.cl_model.specs.Steps.{new_frame, action_next, evaluate_next, run_next, task_next, item_next}
use Rattle.cl_model.specs.Valid.{query_type, parameter_kinds, HasVariable, ActionFits, ArgumentsFit, CanBeCalled}
use Rattle.cl_model.specs.Valid.{HasType, HaveTypes, ReturnFits, StatementFits, AllFit, IsValid}
use Rattle.cl_model_typed.specs.Known.{Known, Of, IsKnown, AreKnown, known_of, pushed, HoldsValues}
use Rattle.cl_model_typed.specs.Expected.{Gives, TaskFits, runs, evaluates, finishes, peeks, alters, decides, enters}
use Rattle.cl_model_typed.specs.Expected.{discards, keeps, clears, initialises, branches, repeats, tests, selects}
use Rattle.cl_model_typed.specs.Expected.{switches, leaves, End, Ahead, ends, goes_on, returns_to}
use Rattle.cl_model_typed.proofs.Numbers.{zero_value, truth_value, decided_value, unary_value, binary_value}
use Rattle.cl_model_typed.proofs.Stack.{AreValues, last_known, before_known, parted, parted_by, holds_set, passed}
use Rattle.cl_model_typed.proofs.Tasks.{count_is, operands_ahead, uniform, order_ahead, test_ahead, iteration_ahead}
use Rattle.cl_model_typed.proofs.Tasks.{entry_fits, entry_ahead, initial_ahead}
use Rattle.cl_model_typed.proofs.Exits.{IsClosed, an_item, Good, break_ahead, continue_ahead, return_fits}

-- what a work-item function gives an item of the launch is a value of its type
abbrev pub GivesValues : Launch → Type 0
GivesValues launch = (what : Query) (item : ℕ) (dim : ℤ) → IsValue (query_type what) (answer_of launch item what dim)

-- something holds of all that a step leads to
abbrev pub AllAfter : (Item → Type 0) → Next Item → Type 0
AllAfter P Ends = Unit {0}
AllAfter P (Waits site after) = P after
AllAfter P (Goes after) = P after
AllAfter P (Begins after) = P after
AllAfter P (Loads site access after) = (bytes : List ℕ) → P (after bytes)
AllAfter P (Stores site object index bytes after) = P after

first_value : (t : IntType) (ts : List IntType) (args : List ℤ) → AreValues (t ∷ ts) args → IsValue t (nth args 0)
first_value t ts [] h = absurd h
first_value t ts (v ∷ args) h = h.0

second_value : (s t : IntType) (ts : List IntType) (args : List ℤ) → AreValues (s ∷ t ∷ ts) args →
    IsValue t (nth args 1)
second_value s t ts [] h = absurd h
second_value s t ts (v ∷ []) h = absurd h.1
second_value s t ts (v ∷ w ∷ args) h = h.1.0

-- the end of a body leaves 0
zero_known : (result : Option IntType) → IsKnown (known_of result) (pos 0)
zero_known None = tt
zero_known (Some t) = zero_value t

loaded_value : (t : IntType) (bytes : List ℕ) → IsValue t (value_of_bytes t bytes)
loaded_value t bytes = IsValue-value t (number_l 256 bytes)

changed_value : (op : Bin) (of back : IntType) (a b : ℤ) → IsValue back (changed op of back a b)
changed_value op of back a b = IsValue-wrap back _

either_value : (t : IntType) (b : Test) (v w : ℤ) → IsValue t v → IsValue t w → IsValue t (cond b v w)
either_value t true v w h g = h
either_value t false v w h g = g

module _ (program : Program) (valid : IsValid program) (launch : Launch) (answers : GivesValues launch) (end : End)
    (closed : IsClosed end) where
  -- all that a step leads to fits
  abbrev pub FitsAfter : ℕ → Next Item → Type 0
  FitsAfter n next = AllAfter (Good program end n) next

  abbrev AllHold : List Frame → Type 0
  AllHold frames = Each (HoldsValues program) frames

  pub body_fits : (g : ℕ) → AllFit program (function_at program g) (function_at program g).body
  body_fits g = by_function (slice_get program.functions g) refl
    where
      by_function : (o : Option Function) → slice_get program.functions g ≡ o →
          AllFit program (unwrap_or o no_function) (unwrap_or o no_function).body
      by_function None e = tt
      by_function (Some f) e = (valid.functions g f e).types

  module _ (n : ℕ) (frame : Frame) (frames : List Frame) where
    abbrev f : Function
    f = function_at program frame.function

    abbrev AheadOf : List Task → List Known → Option (List Known) → Type 0
    AheadOf tasks known base = Ahead program end tasks frame.function frames known base

    good : (tasks : List Task) (values : List ℤ) (known : List Known) (base : Option (List Known)) →
        AllHold (frame ∷ frames) → AreKnown known values → AheadOf tasks known base →
        Good program end n (an_item n tasks values (frame ∷ frames))
    good tasks values known base h k a =
        (refl, record { variables = h; known = known; values = k; base = base; tasks = a })

    -- the same with a variable set
    good_set : (tasks : List Task) (values : List ℤ) (known : List Known) (base : Option (List Known)) (x : ℕ)
        (t : IntType) (v : ℤ) → HasVariable f x t → IsValue t v → AllHold (frame ∷ frames) → AreKnown known values →
        AheadOf tasks known base → Good program end n (an_item n tasks values (set_in frame x v ∷ frames))
    good_set tasks values known base x t v there is h k a = (
      refl,
      record {
        variables = (holds_set program frame x t v there is h.0, h.1);
        known = known;
        values = k;
        base = base;
        tasks = a;
      },
    )

    module _ (us : List Task) (vs : List ℤ) (h : AllHold (frame ∷ frames)) where
      abbrev i : Item
      i = an_item n us vs (frame ∷ frames)

      module _ (args values : List ℤ) (rest : List Task) (left : List Known) (base : Option (List Known))
          (k : AreKnown left values) where
        -- a value of the type is put on the list
        put : (t : IntType) (v : ℤ) → IsValue t v → AheadOf rest (Of t ∷ left) base →
            Good program end n (an_item n rest (v ∷ values) (frame ∷ frames))
        put t v is a = good rest (v ∷ values) (Of t ∷ left) base h (is, k) a

        put_as : (t s : IntType) (v : ℤ) → t ≡ s → IsValue s v → AheadOf rest (Of t ∷ left) base →
            Good program end n (an_item n rest (v ∷ values) (frame ∷ frames))
        put_as t s v e is a = put t v (subst (λ u. IsValue u v) (sym e) is) a

        action_fits : (action : Action) (ts : List IntType) (t : IntType) → ActionFits program f action ts t →
            AreValues ts args → AheadOf rest (Of t ∷ left) base →
            FitsAfter n (action_next program launch i action args values rest)
        action_fits (Literal value of) [] t x g a = put_as t of value x.1 x.0 a
        action_fits (Literal value of) (s ∷ ts) t x g a = absurd x
        action_fits (Variable y) [] t x g a = put t (frame.variables y) (h.0 y t x) a
        action_fits (Variable y) (s ∷ ts) t x g a = absurd x
        action_fits (Unary op of) [] t x g a = absurd x
        action_fits (Unary op of) (s ∷ []) t x g a = put_as t _ _ x.1 (unary_value op of (nth args 0)) a
        action_fits (Unary op of) (s ∷ r ∷ ts) t x g a = absurd x
        action_fits (Binary op of) [] t x g a = absurd x
        action_fits (Binary op of) (s ∷ []) t x g a = absurd x
        action_fits (Binary op of) (s ∷ r ∷ []) t x g a =
            put_as t _ _ x.2 (binary_value op of (nth args 0) (nth args 1)) a
        action_fits (Binary op of) (s ∷ r ∷ q ∷ ts) t x g a = absurd x
        action_fits (Builtin b of) ts t x g a =
            put_as t _ _ x.1 (IsValue-builtin b of (nth args 0) (nth args 1) (nth args 2)) a
        action_fits (Convert to) [] t x g a = absurd x
        action_fits (Convert to) (s ∷ []) t x g a = put_as t to _ x (IsValue-wrap to (nth args 0)) a
        action_fits (Convert to) (s ∷ r ∷ ts) t x g a = absurd x
        action_fits (Ask what) [] t x g a = absurd x
        action_fits (Ask what) (s ∷ []) t x g a = put_as t _ _ x.1 (answers what n (nth args 0)) a
        action_fits (Ask what) (s ∷ r ∷ ts) t x g a = absurd x
        action_fits Second [] t x g a = absurd x
        action_fits Second (s ∷ []) t x g a = absurd x
        action_fits Second (s ∷ r ∷ []) t x g a = put_as t r _ x (second_value s r [] args g) a
        action_fits Second (s ∷ r ∷ q ∷ ts) t x g a = absurd x
        action_fits Truth [] t x g a = absurd x
        action_fits Truth (s ∷ []) t x g a = put_as t _ _ x (truth_value (nth args 0)) a
        action_fits Truth (s ∷ r ∷ ts) t x g a = absurd x
        action_fits (Decided answer) [] t x g a = put_as t _ _ x (decided_value answer) a
        action_fits (Decided answer) (s ∷ ts) t x g a = absurd x
        action_fits (Set y) [] t x g a = absurd x
        action_fits (Set y) (s ∷ []) t x g a =
            let is = subst (λ u. IsValue u (nth args 0)) x.1 (first_value s [] args g) in
            good_set rest (nth args 0 ∷ values) (Of t ∷ left) base y t (nth args 0) x.0 is h (is, k) a
        action_fits (Set y) (s ∷ r ∷ ts) t x g a = absurd x
        action_fits (Change y op of back old) [] t x g a = absurd x
        action_fits (Change y op of back old) (s ∷ []) t x g a = absurd x
        action_fits (Change y op of back old) (s ∷ r ∷ []) t x g a =
            let new = changed op of back (nth args 0) (nth args 1) in
            let is = changed_value op of back (nth args 0) (nth args 1) in
            let was = subst (λ u. IsValue u (nth args 0)) x.1 (first_value s (r ∷ []) args g) in
            let leaves_value = subst (λ u. IsValue u (cond old (nth args 0) new)) (sym x.3)
            (either_value back old (nth args 0) new was is) in
            good_set rest (cond old (nth args 0) new ∷ values) (Of t ∷ left) base y back new x.0 is h
            (leaves_value, k) a
        action_fits (Change y op of back old) (s ∷ r ∷ q ∷ ts) t x g a = absurd x
        action_fits (Load site element root) [] t x g a = absurd x
        action_fits (Load site element root) (s ∷ []) t x g a =
            λ bytes. put_as t element _ x.2 (loaded_value element bytes) a
        action_fits (Load site element root) (s ∷ r ∷ ts) t x g a = absurd x
        action_fits (Store site element root) [] t x g a = absurd x
        action_fits (Store site element root) (s ∷ []) t x g a = absurd x
        action_fits (Store site element root) (s ∷ r ∷ []) t x g a = put_as t r _ (x.3 ∙ sym x.1)
            (second_value s r [] args g) a
        action_fits (Store site element root) (s ∷ r ∷ q ∷ ts) t x g a = absurd x

      module _ (rest : List Task) (left : List Known) (base : Option (List Known)) (k : AreKnown left vs) where
        call_fits : (at : Point) (site g : ℕ) (roots : List (Option Root)) (arguments : Expressions)
            (ts : List IntType) (result : Option IntType) → CanBeCalled program g result →
            HaveTypes program f arguments ts →
            ArgumentsFit program f (parameter_kinds (function_at program g)) roots ts →
            AheadOf rest (known_of result ∷ left) base →
            Good program end n (an_item n
            (each_operand at 0 arguments (Enter at site g roots (count_of arguments) ∷ rest)) vs (frame ∷ frames))
        call_fits at site g roots arguments ts result c x y a =
            good _ vs left base h k (operands_ahead program end frame.function frames at 0 arguments ts left base _ x
            (subst (λ m. AheadOf (Enter at site g roots m ∷ rest) (pushed ts left) base)
            (count_is program end frame.function frames arguments ts x) (goes_on (enters ts result c y) a)))

        evaluate_fits : (at : Point) (e : Expression) (result : Option IntType) → Gives program f e result →
            AheadOf rest (known_of result ∷ left) base → FitsAfter n (evaluate_next program launch i at e rest)
        evaluate_fits at (Apply action none) None x a = absurd x
        evaluate_fits at (Apply action none) (Some t) ([], x, y) a =
            action_fits [] vs rest left base k action [] t y tt a
        evaluate_fits at (Apply action none) (Some t) (s ∷ ts, x, y) a = absurd x
        evaluate_fits at (Apply action (more e es)) None x a = absurd x
        evaluate_fits at (Apply action (more e es)) (Some t) (ts, x, y) a =
            good _ vs left base h k (operands_ahead program end frame.function frames at 0 (more e es) ts left base _ x
            (subst (λ m. AheadOf (Finish at action m ∷ rest) (pushed ts left) base)
            (count_is program end frame.function frames (more e es) ts x) (goes_on (finishes ts t y) a)))
        evaluate_fits at (Update site element root op of back old index value) None x a = absurd x
        evaluate_fits at (Update site element root op of back old index value) (Some t) x a =
            let further = subst (λ u. AheadOf rest (Of u ∷ left) base) (x.4 ∙ x.3) a in
            let alter = subst (λ u. AheadOf (Alter at site element root op of u old ∷ rest)
            (Of x.1.0 ∷ Of element ∷ Of Long ∷ left) base) (sym x.3) (goes_on alters further) in
            good _ vs left base h k (goes_on (evaluates (Some Long) x.0) (goes_on peeks
            (goes_on (evaluates (Some x.1.0) x.1.1) alter)))
        evaluate_fits at (Choose site test chosen other) None x a = absurd x
        evaluate_fits at (Choose site test chosen other) (Some t) x a =
            good _ vs left base h k (goes_on (evaluates (Some x.0.0) x.0.1) (goes_on (decides t x.1 x.2) a))
        evaluate_fits at (Call site g roots arguments) None (c, (ts, x, y)) a =
            call_fits at site g roots arguments ts None c x y a
        evaluate_fits at (Call site g roots arguments) (Some t) (c, (ts, x, y)) a =
            call_fits at site g roots arguments ts (Some t) c x y a

      module _ (rest : List Task) (base : List Known) (k : AreKnown base vs) where
        return_value_fits : (at : Point) (e : Expression) (result : Option IntType) → f.result ≡ result →
            ReturnFits program f result (Some e) → AheadOf rest base (Some base) →
            Good program end n (an_item n (Evaluate (at ++ Operand 0 ∷ []) e ∷ Leave at ∷
            rest) vs (frame ∷ frames))
        return_value_fits at e None same x a = absurd x
        return_value_fits at e (Some t) same x a =
            good _ vs base (Some base) h k (goes_on (evaluates (Some t) x)
            (subst (λ r. AheadOf (Leave at ∷ rest) (known_of r ∷ base) (Some base)) same
            (goes_on leaves a)))

        run_fits : (at : Point) (s : Statement) → StatementFits program f s → AheadOf rest base (Some base) →
            FitsAfter n (run_next program i at s rest)
        run_fits at (Do e) (inl x) a =
            good _ vs base (Some base) h k (goes_on (evaluates (Some x.0) x.1) (goes_on discards a))
        run_fits at (Do e) (inr x) a = good _ vs base (Some base) h k (goes_on (evaluates None x) (goes_on discards a))
        run_fits at (Declare x None) (t, y) a =
            good_set rest vs base (Some base) x t (pos 0) y (zero_value t) h k a
        run_fits at (Declare x (Some e)) (t, y, z) a =
            good _ vs base (Some base) h k (goes_on (evaluates (Some t) z) (goes_on (keeps t y) a))
        run_fits at (Fill site array values) (b, there, at_private, types, few) a =
            let count = count_of values in
            good _ vs base (Some base) h k (operands_ahead program end frame.function frames at 0 values
            (replicate count b.element) base (Some base) _ (uniform program end frame.function frames values b.element
            types) (goes_on (clears b there) a))
        run_fits at (Block list) x a =
            good _ vs base (Some base) h k (order_ahead program end frame.function frames at 0 list base rest x a)
        run_fits at (If site test chosen other) (t, x, y) a =
            good _ vs base (Some base) h k (goes_on (evaluates (Some t.0) t.1) (goes_on (branches x y) a))
        run_fits at (Loop site true test step body) (t, s, b) a =
            good _ vs base (Some base) h k
            (test_ahead program end frame.function frames at 0 site test step body 0 base rest t s b a)
        run_fits at (Loop site false test step body) (t, s, b) a =
            good _ vs base (Some base) h k
            (iteration_ahead program end frame.function frames at site test step body 1 base rest t s b a)
        run_fits at (Switch site value arms) (t, differ, few, x) a =
            good _ vs base (Some base) h k (goes_on (evaluates (Some t.0) t.1) (goes_on (selects x) a))
        run_fits at (Break site) x a = good _ vs base (Some base) h k (break_ahead program end closed tt a)
        run_fits at (Continue site) x a = good _ vs base (Some base) h k (continue_ahead program end closed tt a)
        run_fits at (Return site None) x a =
            return_fits program end closed n us vs (pos 0 ∷ vs) frame refl tt (zero_known f.result, k) h a
        run_fits at (Return site (Some e)) x a = return_value_fits at e f.result refl x a
        run_fits at (Barrier site) x a = good rest vs base (Some base) h k a

      -- a called function holds the arguments in its parameters, and 0 in its other variables
      new_holds : (site g : ℕ) (roots : List (Option Root)) (ts : List IntType) (args : List ℤ) →
          ArgumentsFit program f (parameter_kinds (function_at program g)) roots ts → AreValues ts args →
          HoldsValues program (new_frame program launch i site g roots args)
      new_holds site g roots ts args x y z t (kind, there, same) =
          subst (λ u. IsValue u (nth args z)) same
          (passed program f (function_at program g).parameters (function_at program g).variables roots ts args z kind x
          y there)

      decide_fits : (b : Test) (at : Point) (chosen other : Expression) (rest : List Task) (values : List ℤ)
          (left : List Known) (base : Option (List Known)) (t : IntType) → HasType program f chosen t →
          HasType program f other t → AreKnown left values → AheadOf rest (Of t ∷ left) base →
          Good program end n (an_item n ((cond b (Evaluate (at ++ Other ∷ []) other) (Evaluate
          (at ++ Chosen ∷ []) chosen)) ∷ rest) values (frame ∷ frames))
      decide_fits true at chosen other rest values left base t x y k a =
          good _ values left base h k (goes_on (evaluates (Some t) y) a)
      decide_fits false at chosen other rest values left base t x y k a =
          good _ values left base h k (goes_on (evaluates (Some t) x) a)

      branch_fits : (b : Test) (at : Point) (chosen other : Statements) (rest : List Task) (values : List ℤ)
          (base : List Known) → AllFit program f chosen → AllFit program f other → AreKnown base values →
          AheadOf rest base (Some base) →
          Good program end n (an_item n (cond b (in_order (at ++ Other ∷ []) 0 other rest)
          (in_order (at ++ Chosen ∷ []) 0 chosen rest)) values (frame ∷ frames))
      branch_fits true at chosen other rest values base x y k a = good _ values base (Some base) h k
          (order_ahead program end frame.function frames (at ++ Other ∷ []) 0 other base rest y a)
      branch_fits false at chosen other rest values base x y k a = good _ values base (Some base) h k
          (order_ahead program end frame.function frames (at ++ Chosen ∷ []) 0 chosen base rest x a)

      loop_fits : (b : Test) (rest round : List Task) (values : List ℤ) (base : List Known) → AreKnown base values →
          AheadOf rest base (Some base) → AheadOf round base (Some base) →
          FitsAfter n (cond b (Goes (an_item n rest values (frame ∷ frames)))
          (Begins (an_item n round values (frame ∷ frames))))
      loop_fits true rest round values base k a c = good rest values base (Some base) h k a
      loop_fits false rest round values base k a c = good round values base (Some base) h k c

      task_fits : {task : Task} {from to : List Known} {base : Option (List Known)} (rest : List Task) →
          AreKnown from vs → TaskFits program f base task from to → AheadOf rest to base →
          FitsAfter n (task_next program launch i task rest)
      task_fits rest k (runs {base = base} {at = at} {s = s} x) a = run_fits rest base k at s x a
      task_fits rest k (evaluates {base = base} {at = at} {e = e} {left = left} result x) a =
          evaluate_fits rest left base k at e result x a
      task_fits rest k (finishes {base = base} {action = action} {left = left} ts t x) a =
          let p = parted ts left vs k in
          action_fits (taken (length ts) vs) (below (length ts) vs) rest left base p.1 action ts t x p.0 a
      task_fits rest k (peeks {base = base} {element = element} {left = left}) a =
          λ bytes. good rest _ _ base h (loaded_value element bytes, k) a
      task_fits rest k (alters {base = base} {element = element} {op = op} {of = of} {right = right} {old = old}
          {left = left}) a =
          let was = before_known (Of right) (Of element ∷ Of Long ∷ left) vs k in
          let index = before_known (Of element) (Of Long ∷ left) (before vs) was in
          let new = changed op of element (last (before vs)) (last vs) in
          good rest _ _ base h (
            either_value element old (last (before vs)) new
                (last_known (Of element) (Of Long ∷ left) (before vs) was)
                (changed_value op of element (last (before vs)) (last vs)),
            before_known (Of Long) left (before (before vs)) index,
          ) a
      task_fits rest k (decides {base = base} {at = at} {chosen = chosen} {other = other} {tested = tested}
          {left = left} t x y) a =
          decide_fits (is_zero (last vs)) at chosen other rest (before vs) left base t x y
          (before_known tested left vs k) a
      task_fits rest k (enters {base = base} {at = at} {site = site} {g = g} {roots = roots} {left = left} ts result c
          x) a =
          let p = parted ts left vs k in (
            refl,
            record {
              variables = (new_holds site g roots ts (taken (length ts) vs) x p.0, h);
              known = left;
              values = p.1;
              base = Some left;
              tasks = goes_on (runs (body_fits g)) (returns_to
                  (subst (λ r. AheadOf rest (known_of r ∷ left) base) (sym c.same_result) a));
            },
          )
      task_fits rest k (discards {base = base} {last = tested} {left = left}) a =
          good rest (before vs) left base h (before_known tested left vs k) a
      task_fits rest k (keeps {base = base} {x = x} {left = left} t there) a =
          good_set rest (before vs) left base x t (last vs) there (last_known (Of t) left vs k) h
          (before_known (Of t) left vs k) a
      task_fits rest k (clears {base = base} {at = at} {site = site} {array = array} {count = count} {left = left} b
          there) a =
          let p = parted_by count (replicate count b.element) left vs (length-replicate count b.element) k in
          good _ (below count vs) left base h p.1
          (initial_ahead program end frame.function frames at site array 0 count b (taken count vs) left base rest there
          p.0 a)
      task_fits rest k (initialises {base = base} {left = left} b there is) a = good rest vs left base h k a
      task_fits rest k (branches {base = base} {at = at} {chosen = chosen} {other = other} {tested = tested} x y) a =
          branch_fits (is_zero (last vs)) at chosen other rest (before vs) base x y (before_known tested base vs k) a
      task_fits rest k (repeats {base = base} {at = at} {site = site} {step = step} {body = body} {begun = begun} s b)
          a = good _ vs base (Some base) h k
          (iteration_ahead program end frame.function frames at site None step body (suc begun) base rest tt s b a)
      task_fits rest k (tests {base = base} {at = at} {site = site} {test = test} {step = step} {body = body}
          {begun = begun} t x s b) a =
          loop_fits (is_zero (last vs)) rest (iteration at site (Some test) step body (suc begun) rest) (before vs) base
          (before_known (Of t) base vs k) a
          (iteration_ahead program end frame.function frames at site (Some test) step body (suc begun) base rest (t, x)
          s b a)
      task_fits rest k (selects {base = base} {at = at} {site = site} {arms = arms} {tested = tested} x) a =
          good _ (before vs) base (Some base) h (before_known tested base vs k)
          (entry_ahead program end frame.function frames at (entry_of (last vs) arms) base (InSwitch at site ∷ rest)
          (entry_fits program end frame.function frames (last vs) arms x) (goes_on switches a))
      task_fits rest k (switches {base = base}) a = good rest vs base (Some base) h k a
      task_fits rest k (leaves {base = base}) a =
          return_fits program end closed n us vs vs frame refl tt k h a

  -- the step of an item before an end leads to items that fit; or the item stands at the end
  pub item_fits : (n : ℕ) (vs : List ℤ) (frame : Frame) (frames : List Frame) {tasks : List Task} {g : ℕ}
      {below_frames : List Frame} {known : List Known} {base : Option (List Known)} → frame.function ≡ g →
      frames ≡ below_frames → AllHold (frame ∷ frames) → AreKnown known vs →
      Ahead program end tasks g below_frames known base →
      end tasks g below_frames known base ⊎ FitsAfter n (item_next program launch (an_item n tasks vs (frame ∷ frames)))
  item_fits n vs frame frames same all h k (ends e) = inl e
  item_fits n vs frame frames same all h k (goes_on {task = task} {rest = rest} {f = g} {from = from} {to = to}
      {base = base}
      x a) =
      inr (task_fits n frame frames (task ∷ rest) vs h rest k
      (subst (λ m. TaskFits program (function_at program m) base task from to) (sym same) x)
      (subst (λ m. Ahead program end rest m frames to base) (sym same)
      (subst (λ fs. Ahead program end rest g fs to base) (sym all) a)))
  item_fits n vs frame frames same all h k (returns_to {at = at} {site = site} {rest = rest} {f = g} {frame = caller}
      {frames = callers_frames} {base = base} {callers = callers} a) =
      inr (subst (λ fs. Good program end n (an_item n rest (pos 0 ∷ vs) fs)) (sym all) (
        refl,
        record {
          variables = (subst (λ fs. AllHold fs) all h.1);
          known = known_of (function_at program g).result ∷ base;
          values = (zero_known (function_at program g).result, k);
          base = callers;
          tasks = a;
        },
      ))
