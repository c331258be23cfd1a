-- Which variables vary: the least relation on expressions, variables and results of functions that obeys the rules.
use Rattle.std.specs.Prelude.{◌≡◌, ◌≢◌, ℕ, zero, suc, List, [], ◌∷◌, ◌++◌, Option, Some, None, slice_get, nat_eq}
use Rattle.std.specs.Prelude.{◌||◌, ◌⊎◌}
use Rattle.std.specs.Prelude.{Bool as Test, true, false}
use Rattle.wg_num.specs.declared.types.IntType.{IntType}
use Rattle.wg_num.specs.declared.types.Bin.{Bin}
use Rattle.cl_model.specs.declared.program.Root.{Root}
use Rattle.cl_model.specs.declared.program.Root.TheVariants.{Param, Constant, Local, Private}
use Rattle.cl_model.specs.declared.program.Query.{Query}
use Rattle.cl_model.specs.declared.program.Query.TheVariants.{WorkDim, GlobalId, LocalId, GroupId, GlobalSize}
use Rattle.cl_model.specs.declared.program.Query.TheVariants.{LocalSize, NumGroups, GlobalOffset}
use Rattle.cl_model.specs.Tree.{Action, Literal, Variable, Unary, Binary, Builtin, Convert, Ask, Second, Truth}
use Rattle.cl_model.specs.Tree.{Decided, Set, Change, Load, Store, Expression, Apply, Update, Choose, Call}
use Rattle.cl_model.specs.Tree.{Expressions, none, more, single, Statement, Do, Declare, Fill, Block, If, Loop}
use Rattle.cl_model.specs.Tree.{Switch, Break, Continue, Return, Barrier, Statements, empty, also, Arms, no_arm, arm}
use Rattle.cl_model.specs.Tree.{Function, Program}
use Rattle.cl_model.specs.Lists.{IsOneOf}
use Rattle.cl_model.specs.Calls.{function_at}
use Rattle.cl_model.specs.Objects.{is_constant_pointer}
use Rattle.cl_model.specs.Valid.{Scope, Has, numbers_below, parameter_kinds}

-- the variable that an action sets
abbrev pub sets : Action → ℕ → Test
sets (Set x) y = nat_eq x y
sets (Change x op of back old) y = nat_eq x y
sets (Literal value of) y = false
sets (Variable x) y = false
sets (Unary op of) y = false
sets (Binary op of) y = false
sets (Builtin g of) y = false
sets (Convert to) y = false
sets (Ask what) y = false
sets Second y = false
sets Truth y = false
sets (Decided answer) y = false
sets (Load site element root) y = false
sets (Store site element root) y = false

-- the expression assigns the variable: by =, a compound assignment, ++ or --
abbrev mutual
  pub assigns_in : Expression → ℕ → Test
  assigns_in (Apply action operands) x = sets action x || assigns_among operands x
  assigns_in (Update site element root op of back old index value) x = assigns_in index x || assigns_in value x
  assigns_in (Choose site test chosen other) x = assigns_in test x || (assigns_in chosen x || assigns_in other x)
  assigns_in (Call site g roots arguments) x = assigns_among arguments x

  pub assigns_among : Expressions → ℕ → Test
  assigns_among none x = false
  assigns_among (more e rest) x = assigns_in e x || assigns_among rest x

-- the same of an expression that may be absent
abbrev pub assigns_in_optional : Option Expression → ℕ → Test
assigns_in_optional None x = false
assigns_in_optional (Some e) x = assigns_in e x

-- the statement assigns the variable, other than by its declaration
abbrev mutual
  pub assigns : Statement → ℕ → Test
  assigns (Do e) x = assigns_in e x
  assigns (Declare y value) x = assigns_in_optional value x
  assigns (Fill site array values) x = assigns_among values x
  assigns (Block list) x = some_assigns list x
  assigns (If site test chosen other) x = assigns_in test x || (some_assigns chosen x || some_assigns other x)
  assigns (Loop site test_first test step body) x =
      assigns_in_optional test x || (assigns_in_optional step x || assigns body x)
  assigns (Switch site value arms) x = assigns_in value x || arms_assign arms x
  assigns (Break site) x = false
  assigns (Continue site) x = false
  assigns (Return site value) x = assigns_in_optional value x
  assigns (Barrier site) x = false

  pub some_assigns : Statements → ℕ → Test
  some_assigns empty x = false
  some_assigns (also s rest) x = assigns s x || some_assigns rest x

  pub arms_assign : Arms → ℕ → Test
  arms_assign no_arm x = false
  arms_assign (arm labels other body rest) x = some_assigns body x || arms_assign rest x

-- the statement holds a way out: a break, continue or return
abbrev mutual
  pub exits : Statement → Test
  exits (Do e) = false
  exits (Declare y value) = false
  exits (Fill site array values) = false
  exits (Block list) = some_exits list
  exits (If site test chosen other) = some_exits chosen || some_exits other
  exits (Loop site test_first test step body) = exits body
  exits (Switch site value arms) = arms_exit arms
  exits (Break site) = true
  exits (Continue site) = true
  exits (Return site value) = true
  exits (Barrier site) = false

  pub some_exits : Statements → Test
  some_exits empty = false
  some_exits (also s rest) = exits s || some_exits rest

  pub arms_exit : Arms → Test
  arms_exit no_arm = false
  arms_exit (arm labels other body rest) = some_exits body || arms_exit rest

-- the statement holds a return
abbrev mutual
  pub returns : Statement → Test
  returns (Do e) = false
  returns (Declare y value) = false
  returns (Fill site array values) = false
  returns (Block list) = some_returns list
  returns (If site test chosen other) = some_returns chosen || some_returns other
  returns (Loop site test_first test step body) = returns body
  returns (Switch site value arms) = arms_return arms
  returns (Break site) = false
  returns (Continue site) = false
  returns (Return site value) = true
  returns (Barrier site) = false

  pub some_returns : Statements → Test
  some_returns empty = false
  some_returns (also s rest) = returns s || some_returns rest

  pub arms_return : Arms → Test
  arms_return no_arm = false
  arms_return (arm labels other body rest) = some_returns body || arms_return rest

-- a condition: the variables in whose scope it stands, after their declarations; its test or value; and of what
-- stands under it: which variables it assigns, whether it holds a way out, and whether it holds a return
pub record Condition : Type 0 where
  pub scope : Scope
  pub test : Expression
  pub assigns : ℕ → Test
  pub exits : Test
  pub returns : Test

-- the conditions in an expression: the right part of && or || and an arm of ?: stand under the left part
abbrev mutual
  pub conditions_in : Scope → Expression → List Condition
  conditions_in scope (Apply action operands) = conditions_among scope operands
  conditions_in scope (Update site element root op of back old index value) =
      conditions_in scope index ++ conditions_in scope value
  conditions_in scope (Choose site test chosen other) =
      record {
        scope = scope;
        test = test;
        assigns = λ x. assigns_in chosen x || assigns_in other x;
        exits = false;
        returns = false;
      }
      ∷ (conditions_in scope test ++ (conditions_in scope chosen ++ conditions_in scope other))
  conditions_in scope (Call site g roots arguments) = conditions_among scope arguments

  pub conditions_among : Scope → Expressions → List Condition
  conditions_among scope none = []
  conditions_among scope (more e rest) = conditions_in scope e ++ conditions_among scope rest

-- the same of an expression that may be absent
abbrev pub conditions_in_optional : Scope → Option Expression → List Condition
conditions_in_optional scope None = []
conditions_in_optional scope (Some e) = conditions_in scope e

-- a loop's condition, where it has a test: its test, step and body stand under it
abbrev pub loop_condition : Scope → Option Expression → Option Expression → Statement → List Condition
loop_condition scope None step body = []
loop_condition scope (Some test) step body =
    record {
      scope = scope;
      test = test;
      assigns = λ x. assigns_in test x || (assigns_in_optional step x || assigns body x);
      exits = exits body;
      returns = returns body;
    } ∷ []

-- the conditions in a statement: the branches of an if, the body of a switch, and the test, step and body of a loop
-- stand under its test or value
abbrev mutual
  pub conditions_of : Scope → Statement → List Condition
  conditions_of scope (Do e) = conditions_in scope e
  conditions_of scope (Declare y value) = conditions_in_optional scope value
  conditions_of scope (Fill site array values) = conditions_among scope values
  conditions_of scope (Block list) = conditions_of_list scope list
  conditions_of scope (If site test chosen other) =
      record {
        scope = scope;
        test = test;
        assigns = λ x. some_assigns chosen x || some_assigns other x;
        exits = some_exits chosen || some_exits other;
        returns = some_returns chosen || some_returns other;
      }
      ∷ (conditions_in scope test ++ (conditions_of_list scope chosen ++ conditions_of_list scope other))
  conditions_of scope (Loop site test_first test step body) =
      loop_condition scope test step body ++
      (conditions_in_optional scope test ++ (conditions_in_optional scope step ++ conditions_of scope body))
  conditions_of scope (Switch site value arms) =
      record {
        scope = scope;
        test = value;
        assigns = λ x. arms_assign arms x;
        exits = arms_exit arms;
        returns = arms_return arms;
      }
      ∷ (conditions_in scope value ++ conditions_of_arms scope arms)
  conditions_of scope (Break site) = []
  conditions_of scope (Continue site) = []
  conditions_of scope (Return site value) = conditions_in_optional scope value
  conditions_of scope (Barrier site) = []

  -- behind a declaration its variable is in scope
  pub conditions_of_list : Scope → Statements → List Condition
  conditions_of_list scope empty = []
  conditions_of_list scope (also (Declare x value) rest) =
      conditions_in_optional scope value ++ conditions_of_list (x ∷ scope) rest
  conditions_of_list scope (also s rest) = conditions_of scope s ++ conditions_of_list scope rest

  pub conditions_of_arms : Scope → Arms → List Condition
  conditions_of_arms scope no_arm = []
  conditions_of_arms scope (arm labels other body rest) = conditions_of_list scope body ++ conditions_of_arms scope rest

-- an expression and all its parts
abbrev mutual
  pub parts_of : Expression → List Expression
  parts_of (Apply action operands) = Apply action operands ∷ parts_among operands
  parts_of (Update site element root op of back old index value) =
      Update site element root op of back old index value ∷ (parts_of index ++ parts_of value)
  parts_of (Choose site test chosen other) =
      Choose site test chosen other ∷ (parts_of test ++ (parts_of chosen ++ parts_of other))
  parts_of (Call site g roots arguments) = Call site g roots arguments ∷ parts_among arguments

  pub parts_among : Expressions → List Expression
  parts_among none = []
  parts_among (more e rest) = parts_of e ++ parts_among rest

-- the same of an expression that may be absent
abbrev pub parts_of_optional : Option Expression → List Expression
parts_of_optional None = []
parts_of_optional (Some e) = parts_of e

-- a declaration with its value, as an assignment
abbrev pub declared : ℕ → Option Expression → List Expression
declared x None = []
declared x (Some e) = Apply (Set x) (single e) ∷ []

-- all expressions of a statement with their parts; a declaration with a value counts as an assignment
abbrev mutual
  pub expressions_of : Statement → List Expression
  expressions_of (Do e) = parts_of e
  expressions_of (Declare x value) = declared x value ++ parts_of_optional value
  expressions_of (Fill site array values) = parts_among values
  expressions_of (Block list) = expressions_of_list list
  expressions_of (If site test chosen other) =
      parts_of test ++ (expressions_of_list chosen ++ expressions_of_list other)
  expressions_of (Loop site test_first test step body) =
      parts_of_optional test ++ (parts_of_optional step ++ expressions_of body)
  expressions_of (Switch site value arms) = parts_of value ++ expressions_of_arms arms
  expressions_of (Break site) = []
  expressions_of (Continue site) = []
  expressions_of (Return site value) = parts_of_optional value
  expressions_of (Barrier site) = []

  pub expressions_of_list : Statements → List Expression
  expressions_of_list empty = []
  expressions_of_list (also s rest) = expressions_of s ++ expressions_of_list rest

  pub expressions_of_arms : Arms → List Expression
  expressions_of_arms no_arm = []
  expressions_of_arms (arm labels other body rest) = expressions_of_list body ++ expressions_of_arms rest

-- the value of a return, if it has one
abbrev pub optional_list : Option Expression → List Expression
optional_list None = []
optional_list (Some e) = e ∷ []

-- the values that the returns of a statement give
abbrev mutual
  pub returned : Statement → List Expression
  returned (Do e) = []
  returned (Declare x value) = []
  returned (Fill site array values) = []
  returned (Block list) = returned_list list
  returned (If site test chosen other) = returned_list chosen ++ returned_list other
  returned (Loop site test_first test step body) = returned body
  returned (Switch site value arms) = returned_arms arms
  returned (Break site) = []
  returned (Continue site) = []
  returned (Return site value) = optional_list value
  returned (Barrier site) = []

  pub returned_list : Statements → List Expression
  returned_list empty = []
  returned_list (also s rest) = returned s ++ returned_list rest

  pub returned_arms : Arms → List Expression
  returned_arms no_arm = []
  returned_arms (arm labels other body rest) = returned_list body ++ returned_arms rest

-- the conditions of a function, whose parameters are declared before its body
abbrev pub conditions : Function → List Condition
conditions f = conditions_of_list (numbers_below f.parameters) f.body

-- the expression is one of these
abbrev pub IsAmong : Expressions → Expression → Type 0
IsAmong none e = ⊥
IsAmong (more d rest) e = (d ≡ e) ⊎ IsAmong rest e

-- it is the one with this number
abbrev pub IsNth : Expressions → ℕ → Expression → Type 0
IsNth none n e = ⊥
IsNth (more d rest) zero e = d ≡ e
IsNth (more d rest) (suc n) e = IsNth rest n e

-- the work-item functions that differ from item to item of a group
abbrev pub is_own : Query → Test
is_own GlobalId = true
is_own LocalId = true
is_own WorkDim = false
is_own GroupId = false
is_own GlobalSize = false
is_own LocalSize = false
is_own NumGroups = false
is_own GlobalOffset = false

-- the root leads to constant memory
abbrev pub is_constant_root : Function → Root → Test
is_constant_root f (Param n) = is_constant_pointer (slice_get (parameter_kinds f) n)
is_constant_root f (Constant n) = true
is_constant_root f (Local n) = false
is_constant_root f (Private n) = false

-- of what it is said that it varies: a variable or the result of a function, or an expression of it
pub data Subject : Type 0 where
  AVariable : (f x : ℕ) → Subject
  AResult : (f : ℕ) → Subject
  AnExpression : (f : ℕ) (e : Expression) → Subject

-- the action's value depends on its operands: all but a store's, which is its right side alone
abbrev pub is_store : Action → Test
is_store (Store site element root) = true
is_store (Literal value of) = false
is_store (Variable x) = false
is_store (Unary op of) = false
is_store (Binary op of) = false
is_store (Builtin g of) = false
is_store (Convert to) = false
is_store (Ask what) = false
is_store Second = false
is_store Truth = false
is_store (Decided answer) = false
is_store (Set x) = false
is_store (Change x op of back old) = false
is_store (Load site element root) = false

-- it varies: one constructor for each rule
pub data Varies (program : Program) : Subject → Type 0 where
  -- the ids of an item in the launch and in its group
  own_id : {f : ℕ} {what : Query} {operands : Expressions} → is_own what ≡ true →
      Varies program (AnExpression f (Apply (Ask what) operands))
  -- a load that is not from constant memory; from constant memory it is as an operator on its index
  loaded : {f site : ℕ} {element : IntType} {root : Root} {operands : Expressions} →
      is_constant_root (function_at program f) root ≡ false →
      Varies program (AnExpression f (Apply (Load site element root) operands))
  -- a variable that is named
  named : {f x : ℕ} {operands : Expressions} → Varies program (AVariable f x) →
      Varies program (AnExpression f (Apply (Variable x) operands))
  -- an operator, built-in, conversion, work-item function, comma, or assignment to a variable, with an operand that
  -- varies
  operand : {f : ℕ} {action : Action} {operands : Expressions} {e : Expression} → is_store action ≡ false →
      IsAmong operands e → Varies program (AnExpression f e) → Varies program (AnExpression f (Apply action operands))
  -- an assignment to an element, by its right side
  stored : {f site : ℕ} {element : IntType} {root : Root} {operands : Expressions} {e : Expression} →
      IsNth operands 1 e → Varies program (AnExpression f e) →
      Varies program (AnExpression f (Apply (Store site element root) operands))
  -- a compound assignment to an element, whose old value is a load
  updated : {f site : ℕ} {element : IntType} {root : Root} {op : Bin} {of back : IntType} {old : Test}
      {index value : Expression} → Varies program (AnExpression f (Update site element root op of back old index value))
  -- ?:, && and || by each of their parts
  tested : {f site : ℕ} {test chosen other : Expression} → Varies program (AnExpression f test) →
      Varies program (AnExpression f (Choose site test chosen other))
  chosen : {f site : ℕ} {test chosen other : Expression} → Varies program (AnExpression f chosen) →
      Varies program (AnExpression f (Choose site test chosen other))
  otherwise : {f site : ℕ} {test chosen other : Expression} → Varies program (AnExpression f other) →
      Varies program (AnExpression f (Choose site test chosen other))
  -- a call of a function whose result varies
  called : {f site g : ℕ} {roots : List (Option Root)} {arguments : Expressions} → Varies program (AResult g) →
      Varies program (AnExpression f (Call site g roots arguments))
  -- a parameter to which some call passes a value or offset that varies; not of the kernel
  passed : {f g n : ℕ} {e : Expression} (site : ℕ) (roots : List (Option Root)) (arguments : Expressions) →
      g ≢ program.kernel → IsOneOf (expressions_of_list (function_at program f).body) (Call site g roots arguments) →
      IsNth arguments n e
      → Varies program (AnExpression f e) → Varies program (AVariable g n)
  -- a returned value that varies, or a way out under a condition that varies
  returning : {f : ℕ} {e : Expression} → IsOneOf (returned_list (function_at program f).body) e →
      Varies program (AnExpression f e) → Varies program (AResult f)
  return_under : {f : ℕ} (c : Condition) → IsOneOf (conditions (function_at program f)) c →
      Varies program (AnExpression f c.test) → c.returns ≡ true → Varies program (AResult f)
  return_beside : {f : ℕ} (c : Condition) → IsOneOf (conditions (function_at program f)) c →
      Varies program (AnExpression f c.test) → c.exits ≡ true → some_returns (function_at program f).body ≡ true →
      Varies program (AResult f)
  -- a variable to which a value is assigned that varies, in its declaration or elsewhere
  assigned : {f x : ℕ} {action : Action} {operands : Expressions} →
      IsOneOf (expressions_of_list (function_at program f).body) (Apply action operands) → sets action x ≡ true
      → Varies program (AnExpression f (Apply action operands)) → Varies program (AVariable f x)
  -- a variable that is assigned, other than by its declaration, under a condition in its scope that varies
  assigned_under : {f x : ℕ} (c : Condition) → IsOneOf (conditions (function_at program f)) c →
      Varies program (AnExpression f c.test) → Has c.scope x → c.assigns x ≡ true → Varies program (AVariable f x)
  -- a variable that is assigned, other than by its declaration, and whose scope holds, after its declaration, a way
  -- out under a condition in its scope that varies
  exit_under : {f x : ℕ} (c : Condition) → IsOneOf (conditions (function_at program f)) c →
      Varies program (AnExpression f c.test) → Has c.scope x → c.exits ≡ true →
      some_assigns (function_at program f).body x ≡ true → Varies program (AVariable f x)
