-- What each change of an entry keeps, where no entry ceases to vary, a round keeps.
use Rattle.std.proofs.Common.{◌≡◌, ℕ, zero, suc, Bool, true, false, ◌||◌, not, nat_eq, List, [], ◌∷◌, Option, Some}
use Rattle.std.proofs.Common.{None, if◌then◌else◌, ap}
use Rattle.cl_model.specs.Tree.{Action, Set, Change, Expression, Apply, Update, Choose, Call, Expressions, none, more}
use Rattle.cl_model.specs.Tree.{Statement, Do, Declare, Fill, Block, If, Loop, Switch, Break, Continue, Return}
use Rattle.cl_model.specs.Tree.{Barrier, Statements, empty, also, Arms, no_arm, arm, Function, Program}
use Rattle.cl_model.specs.Varying.{is_store}
use Rattle.diverge.specs.declared.known.Entry.{Entry}
use Rattle.diverge.specs.declared.known.Spot.{Spot}
use Rattle.diverge.specs.Known.{State, variable_at, result_at, with_variable, with_result, same_guard, assigned}
use Rattle.diverge.specs.Known.{declared, passed, left, assign, declare, pass, give, leave, leave_result, under}
use Rattle.diverge.specs.Rounds.{Seen, varies_itself, settled, seen_in, seen_among, seen_arguments, seen_optional}
use Rattle.diverge.specs.Rounds.{unseen, closed, gone_over, gone_over_all, gone_over_arms, parameters_left}
use Rattle.diverge.specs.Rounds.{over_function, over_functions, round, rounds}

-- an entry that varies still does
abbrev pub Onward : Entry → Entry → Type 0
Onward old new = old.varies ≡ true → new.varies ≡ true

-- the changes of entries keep it, and so does the start of a round
pub record Keeps (K : State → Type 0) : Type 0 where
  pub variable : (f x : ℕ) (e : Entry) (s : State) → Onward (variable_at s f x) e → K s → K (with_variable f x e s)
  pub result : (f : ℕ) (e : Entry) (s : State) → Onward (result_at s f) e → K s → K (with_result f e s)
  pub fresh : (s : State) → K s → K (record { rows = s.rows; grew = false })

assign_kept : (K : State → Type 0) (k : Keeps K) (at : Spot) (x : ℕ) (varies : Bool) (s : State) → K s →
    K (assign at x varies s)
assign_kept K k at x varies s h =
    let old = variable_at s at.function x in
    k.variable at.function x (assigned at.guard varies old) s
    (λ v. ap (λ b. b || (varies || not (same_guard old.since at.guard))) v) h

declare_kept : (K : State → Type 0) (k : Keeps K) (at : Spot) (x : ℕ) (varies : Bool) (s : State) → K s →
    K (declare at x varies s)
declare_kept K k at x varies s h =
    k.variable at.function x (declared at.guard varies (variable_at s at.function x)) s (λ v. ap (λ b. b || varies) v) h

one_kept : (K : State → Type 0) (b : Bool) (s t : State) → K s → K t → K (if b then s else t)
one_kept K true s t h g = h
one_kept K false s t h g = g

pass_kept : (K : State → Type 0) (k : Keeps K) (at : Spot) (g n : ℕ) (varies : Bool) (s : State) → K s →
    K (pass at g n varies s)
pass_kept K k at g n varies s h =
    one_kept K (nat_eq g at.kernel) s (with_variable g n (passed varies (variable_at s g n)) s) h
    (k.variable g n (passed varies (variable_at s g n)) s (λ v. ap (λ b. b || varies) v) h)

give_kept : (K : State → Type 0) (k : Keeps K) (at : Spot) (varies : Bool) (s : State) → K s → K (give at varies s)
give_kept K k at varies s h =
    let old = result_at s at.function in
    k.result at.function (assigned at.guard varies old) s
    (λ v. ap (λ b. b || (varies || not (same_guard old.since at.guard))) v) h

leave_kept : (K : State → Type 0) (k : Keeps K) (f x : ℕ) (s : State) → K s → K (leave f x s)
leave_kept K k f x s h = let old =
    variable_at s f x in k.variable f x (left old) s (λ v. ap (λ b. b || old.assigned) v) h

leave_result_kept : (K : State → Type 0) (k : Keeps K) (f : ℕ) (s : State) → K s → K (leave_result f s)
leave_result_kept K k f s h = let old = result_at s f in k.result f (left old) s (λ v. ap (λ b. b || old.assigned) v) h

settled_kept : (K : State → Type 0) (k : Keeps K) (at : Spot) (action : Action) (r : Seen) → K r.state →
    K (settled at action r).state
settled_kept K k at (Set x) r h = assign_kept K k at x r.varies r.state h
settled_kept K k at (Change x op of back old) r h = assign_kept K k at x r.varies r.state h
settled_kept K k at _ r h = h

mutual
  pub in_kept : (K : State → Type 0) (k : Keeps K) (own : Function) (at : Spot) (e : Expression) (s : State) → K s →
      K (seen_in own at e s).state
  in_kept K k own at (Apply action operands) s h =
      settled_kept K k at action (seen_among own at (is_store action) operands
      (record { varies = varies_itself own at action s; state = s }))
      (among_kept K k own at (is_store action) operands (record { varies = varies_itself own at action s; state = s })
      h)
  in_kept K k own at (Update site element root op of back old index value) s h =
      in_kept K k own at value (seen_in own at index s).state (in_kept K k own at index s h)
  in_kept K k own at (Choose site test chosen other) s h =
      let t = seen_in own at test s in
      let inner = under site t.varies at in
      in_kept K k own inner other (seen_in own inner chosen t.state).state
      (in_kept K k own inner chosen t.state (in_kept K k own at test s h))
  in_kept K k own at (Call site g roots arguments) s h = arguments_kept K k own at g 0 arguments s h

  pub among_kept : (K : State → Type 0) (k : Keeps K) (own : Function) (at : Spot) (last : Bool) (list : Expressions)
      (r : Seen) → K r.state → K (seen_among own at last list r).state
  among_kept K k own at last none r h = h
  among_kept K k own at last (more e rest) r h = among_kept K k own at last rest _ (in_kept K k own at e r.state h)

  arguments_kept : (K : State → Type 0) (k : Keeps K) (own : Function) (at : Spot) (g n : ℕ) (list : Expressions)
      (s : State) → K s → K (seen_arguments own at g n list s)
  arguments_kept K k own at g n none s h = h
  arguments_kept K k own at g n (more e rest) s h =
      let a = seen_in own at e s in
      arguments_kept K k own at g (suc n) rest (pass at g n a.varies a.state)
      (pass_kept K k at g n a.varies a.state (in_kept K k own at e s h))

optional_kept : (K : State → Type 0) (k : Keeps K) (own : Function) (at : Spot) (e : Option Expression) (s : State) →
    K s → K (seen_optional own at e s).state
optional_kept K k own at None s h = h
optional_kept K k own at (Some e) s h = in_kept K k own at e s h

closed_kept : (K : State → Type 0) (k : Keeps K) (at : Spot) (first : Statement) (b : Bool) (s : State) → K s →
    K (closed at first b s)
closed_kept K k at first false s h = h
closed_kept K k at (Declare x value) true s h = leave_kept K k at.function x s h
closed_kept K k at _ true s h = h

mutual
  pub over_kept : (K : State → Type 0) (k : Keeps K) (own : Function) (at : Spot) (x : Statement) (s : State) → K s →
      K (gone_over own at x s).state
  over_kept K k own at (Do e) s h = in_kept K k own at e s h
  over_kept K k own at (Declare x value) s h =
      let v = seen_optional own at value s in
      declare_kept K k at x v.varies v.state (optional_kept K k own at value s h)
  over_kept K k own at (Fill site array values) s h = among_kept K k own at false values (unseen s) h
  over_kept K k own at (Block list) s h = all_kept K k own at list s h
  over_kept K k own at (If site test chosen other) s h =
      let t = seen_in own at test s in
      let inner = under site t.varies at in
      all_kept K k own inner other (gone_over_all own inner chosen t.state).state
      (all_kept K k own inner chosen t.state (in_kept K k own at test s h))
  over_kept K k own at (Loop site test_first test step body) s h =
      let t = seen_optional own at test s in
      let inner = under site t.varies at in
      let again = seen_optional own inner test t.state in
      over_kept K k own inner body (seen_optional own inner step again.state).state
      (optional_kept K k own inner step again.state
      (optional_kept K k own inner test t.state (optional_kept K k own at test s h)))
  over_kept K k own at (Switch site value arms) s h =
      let v = seen_in own at value s in
      arms_kept K k own (under site v.varies at) arms v.state (in_kept K k own at value s h)
  over_kept K k own at (Break site) s h = h
  over_kept K k own at (Continue site) s h = h
  over_kept K k own at (Return site value) s h =
      let v = seen_optional own at value s in
      give_kept K k at v.varies v.state (optional_kept K k own at value s h)
  over_kept K k own at (Barrier site) s h = h

  pub all_kept : (K : State → Type 0) (k : Keeps K) (own : Function) (at : Spot) (list : Statements) (s : State) →
      K s → K (gone_over_all own at list s).state
  all_kept K k own at empty s h = h
  all_kept K k own at (also first rest) s h =
      let a = gone_over own at first s in
      let b = gone_over_all own at rest a.state in
      closed_kept K k at first b.ways.escapes b.state
      (all_kept K k own at rest a.state (over_kept K k own at first s h))

  pub arms_kept : (K : State → Type 0) (k : Keeps K) (own : Function) (at : Spot) (list : Arms) (s : State) → K s →
      K (gone_over_arms own at list s).state
  arms_kept K k own at no_arm s h = h
  arms_kept K k own at (arm labels other body rest) s h =
      let a = gone_over_all own at body s in
      arms_kept K k own at rest a.state (all_kept K k own at body s h)

parameters_kept : (K : State → Type 0) (k : Keeps K) (f n : ℕ) (s : State) → K s → K (parameters_left f n s)
parameters_kept K k f zero s h = h
parameters_kept K k f (suc n) s h = leave_kept K k f n (parameters_left f n s) (parameters_kept K k f n s h)

function_kept : (K : State → Type 0) (k : Keeps K) (kernel f : ℕ) (own : Function) (s : State) → K s →
    K (over_function kernel f own s)
function_kept K k kernel f own s h =
    let at : Spot = record { kernel = kernel; function = f; guard = None } in
    let b = gone_over_all own at own.body s in
    let done = all_kept K k own at own.body s h in
    one_kept K b.ways.escapes (leave_result f (parameters_left f own.parameters b.state)) b.state
    (leave_result_kept K k f (parameters_left f own.parameters b.state)
    (parameters_kept K k f own.parameters b.state done)) done

functions_kept : (K : State → Type 0) (k : Keeps K) (kernel f : ℕ) (list : List Function) (s : State) → K s →
    K (over_functions kernel f list s)
functions_kept K k kernel f [] s h = h
functions_kept K k kernel f (own ∷ rest) s h =
    functions_kept K k kernel (suc f) rest (over_function kernel f own s) (function_kept K k kernel f own s h)

pub round_from : (K : State → Type 0) (k : Keeps K) (program : Program) (s : State) →
    K (record { rows = s.rows; grew = false }) → K (round program s)
round_from K k program s h =
    functions_kept K k program.kernel 0 program.functions (record { rows = s.rows; grew = false }) h

pub round_kept : (K : State → Type 0) (k : Keeps K) (program : Program) (s : State) → K s → K (round program s)
round_kept K k program s h = round_from K k program s (k.fresh s h)

pub rounds_kept : (K : State → Type 0) (k : Keeps K) (program : Program) (limit : ℕ) (s : State) → K s →
    K (rounds program limit s)
rounds_kept K k program zero s h = h
rounds_kept K k program (suc limit) s h =
    let t = round program s in
    let again = round_kept K k program s h in
    one_kept K t.grew (rounds program limit t) t (rounds_kept K k program limit t again) again
