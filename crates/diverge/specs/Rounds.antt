-- The analysis as a function: rounds over the program, each of which adds what follows from what is known, until one
-- adds nothing.
use Rattle.std.specs.Prelude.{ℕ, zero, suc, ◌+◌, List, [], ◌∷◌, Option, Some, None, map, length, replicate, not, ◌||◌}
use Rattle.std.specs.Prelude.{if◌then◌else◌}
use Rattle.std.specs.Prelude.{Bool as Test, true, false}
use Rattle.cl_model.specs.Tree.{Action, Variable, Ask, Set, Change, Load, Expression, Apply, Update, Choose, Call}
use Rattle.cl_model.specs.Tree.{Expressions, none, more, Statement, Do, Declare, Fill, Block, If, Loop, Switch, Break}
use Rattle.cl_model.specs.Tree.{Continue, Return, Barrier, Statements, empty, also, Arms, no_arm, arm, Function}
use Rattle.cl_model.specs.Tree.{Program}
use Rattle.cl_model.specs.Varying.{is_own, is_constant_root, is_store}
use Rattle.diverge.specs.declared.known.Spot.{Spot}
use Rattle.diverge.specs.declared.known.Ways.{Ways}
use Rattle.diverge.specs.Known.{Row, State, fresh, variable_at, result_at, assign, declare, pass, give, leave}
use Rattle.diverge.specs.Known.{leave_result, under, no_way, way_out, joined, behind}

-- what a step over an expression finds: whether it varies, and what is known behind it
pub record Seen : Type 0 where
  pub varies : Test
  pub state : State

-- what a step over a statement finds: its ways out, and what is known behind it
pub record Gone : Type 0 where
  pub ways : Ways
  pub state : State

-- the action varies whatever its operands do: an own id, a load that is not from constant memory, a variable that
-- varies
abbrev pub varies_itself : Function → Spot → Action → State → Test
varies_itself own at (Ask what) s = is_own what
varies_itself own at (Load site element root) s = not (is_constant_root own root)
varies_itself own at (Variable x) s = (variable_at s at.function x).varies
varies_itself own at _ s = false

-- nothing is seen to vary
abbrev pub unseen : State → Seen
unseen s = record { varies = false; state = s }

-- with one operand more: an action varies with each of its operands, a store with the last alone, its right side
abbrev pub with_operand : Test → Test → Test → Test
with_operand last varies operand = if last then operand else varies || operand

-- behind an action that may set a variable
abbrev pub settled : Spot → Action → Seen → Seen
settled at (Set x) r = record { varies = r.varies; state = assign at x r.varies r.state }
settled at (Change x op of back old) r = record { varies = r.varies; state = assign at x r.varies r.state }
settled at _ r = r

-- a round over an expression of a function
abbrev mutual
  pub seen_in : Function → Spot → Expression → State → Seen
  seen_in own at (Apply action operands) s =
      settled at action (seen_among own at (is_store action) operands
      (record { varies = varies_itself own at action s; state = s }))
  seen_in own at (Update site element root op of back old index value) s =
      record { varies = true; state = (seen_in own at value (seen_in own at index s).state).state }
  seen_in own at (Choose site test chosen other) s =
      let t = seen_in own at test s in
      let a = seen_in own (under site t.varies at) chosen t.state in
      let b = seen_in own (under site t.varies at) other a.state in
      record { varies = t.varies || (a.varies || b.varies); state = b.state }
  seen_in own at (Call site g roots arguments) s =
      let after = seen_arguments own at g 0 arguments s in
      record { varies = (result_at after g).varies; state = after }

  -- the operands of an action, in order, behind what is seen
  pub seen_among : Function → Spot → (last : Test) → Expressions → Seen → Seen
  seen_among own at last none r = r
  seen_among own at last (more e rest) r =
      let a = seen_in own at e r.state in
      seen_among own at last rest (record { varies = with_operand last r.varies a.varies; state = a.state })

  -- the arguments of a call, in order, each for the parameter with its number
  pub seen_arguments : Function → Spot → ℕ → ℕ → Expressions → State → State
  seen_arguments own at g n none s = s
  seen_arguments own at g n (more e rest) s =
      let a = seen_in own at e s in
      seen_arguments own at g (suc n) rest (pass at g n a.varies a.state)

-- the same of an expression that may be absent
abbrev pub seen_optional : Function → Spot → Option Expression → State → Seen
seen_optional own at None s = unseen s
seen_optional own at (Some e) s = seen_in own at e s

-- at the end of a block: a declaration whose scope holds a way out under a condition that varies
abbrev pub closed : Spot → Statement → Test → State → State
closed at first false known = known
closed at (Declare x value) true known = leave at.function x known
closed at _ true known = known

-- a round over a statement of a function
abbrev mutual
  pub gone_over : Function → Spot → Statement → State → Gone
  gone_over own at (Do e) s = record { ways = no_way; state = (seen_in own at e s).state }
  gone_over own at (Declare x value) s =
      let v = seen_optional own at value s in
      record { ways = no_way; state = declare at x v.varies v.state }
  gone_over own at (Fill site array values) s =
      record { ways = no_way; state = (seen_among own at false values (unseen s)).state }
  gone_over own at (Block list) s = gone_over_all own at list s
  gone_over own at (If site test chosen other) s =
      let t = seen_in own at test s in
      let a = gone_over_all own (under site t.varies at) chosen t.state in
      let b = gone_over_all own (under site t.varies at) other a.state in
      record { ways = behind t.varies (joined a.ways b.ways); state = b.state }
  -- the test of a loop stands under itself
  gone_over own at (Loop site test_first test step body) s =
      let t = seen_optional own at test s in
      let inner = under site t.varies at in
      let b =
      gone_over own inner body (seen_optional own inner step (seen_optional own inner test t.state).state).state in
      record { ways = behind t.varies b.ways; state = b.state }
  gone_over own at (Switch site value arms) s =
      let v = seen_in own at value s in
      let b = gone_over_arms own (under site v.varies at) arms v.state in
      record { ways = behind v.varies b.ways; state = b.state }
  gone_over own at (Break site) s = record { ways = way_out; state = s }
  gone_over own at (Continue site) s = record { ways = way_out; state = s }
  gone_over own at (Return site value) s =
      let v = seen_optional own at value s in
      record { ways = way_out; state = give at v.varies v.state }
  gone_over own at (Barrier site) s = record { ways = no_way; state = s }

  -- behind a declaration its variable is in scope, to the end of the list
  pub gone_over_all : Function → Spot → Statements → State → Gone
  gone_over_all own at empty s = record { ways = no_way; state = s }
  gone_over_all own at (also first rest) s =
      let a = gone_over own at first s in
      let b = gone_over_all own at rest a.state in
      record { ways = joined b.ways a.ways; state = closed at first b.ways.escapes b.state }

  pub gone_over_arms : Function → Spot → Arms → State → Gone
  gone_over_arms own at no_arm s = record { ways = no_way; state = s }
  gone_over_arms own at (arm labels other body rest) s =
      let a = gone_over_all own at body s in
      let b = gone_over_arms own at rest a.state in
      record { ways = joined b.ways a.ways; state = b.state }

-- behind a body that holds a way out under a condition that varies, of the first parameters of a function
abbrev pub parameters_left : ℕ → ℕ → State → State
parameters_left f zero s = s
parameters_left f (suc n) s = leave f n (parameters_left f n s)

-- a round over a function
abbrev pub over_function : ℕ → ℕ → Function → State → State
over_function kernel f own s =
    let b = gone_over_all own (record { kernel = kernel; function = f; guard = None }) own.body s in
    if b.ways.escapes then leave_result f (parameters_left f own.parameters b.state) else b.state

-- a round over functions, which are numbered from one on
abbrev pub over_functions : ℕ → ℕ → List Function → State → State
over_functions kernel f [] s = s
over_functions kernel f (own ∷ rest) s = over_functions kernel (suc f) rest (over_function kernel f own s)

-- a round over the program
abbrev pub round : Program → State → State
round program s = over_functions program.kernel 0 program.functions (record { rows = s.rows; grew = false })

-- rounds until one adds nothing, at most so many
abbrev pub rounds : Program → ℕ → State → State
rounds program zero s = s
rounds program (suc limit) s = let t = round program s in if t.grew then rounds program limit t else t

-- at first nothing varies
abbrev pub start_row : Function → Row
start_row f = record { variables = replicate (length f.variables) fresh; result = fresh }

abbrev pub start : Program → State
start program = record { rows = map start_row program.functions; grew = false }

-- how many entries there are, a result counting as one
abbrev pub entries_of : List Function → ℕ
entries_of [] = 0
entries_of (f ∷ rest) = (length f.variables + 1) + entries_of rest

-- each round but the last makes an entry vary
abbrev pub round_limit : Program → ℕ
round_limit program = 1 + entries_of program.functions

-- which variables vary
abbrev pub marks_of : Row → List Test
marks_of row = map (λ e. e.varies) row.variables

-- what is known at the end
abbrev pub known_of : Program → State
known_of program = rounds program (round_limit program) (start program)

-- which variables of which functions of a program vary
abbrev pub varying_of : Program → List (List Test)
varying_of program = map marks_of (known_of program).rows
