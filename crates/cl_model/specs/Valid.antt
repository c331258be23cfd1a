-- Which typed programs are valid: numbers name something, types fit, scopes, exits, calls and sites are as a checked
-- source gives them.
use Rattle.std.specs.Prelude.{◌≡◌, ◌≢◌, ℕ, zero, suc, ◌+◌, ◌<◌, ◌≤◌, ℤ, List, [], ◌∷◌, ◌++◌, Option, Some, None}
use Rattle.std.specs.Prelude.{length, flat_map, take, slice_get, sum_by, replicate, nat_eq, ◌⊎◌, if◌then◌else◌}
use Rattle.std.specs.Prelude.{Bool as Test, true, false}
use Rattle.wg_num.specs.declared.types.IntType.{IntType}
use Rattle.wg_num.specs.declared.types.IntType.TheVariants.{Bool, Char, Uchar, Short, Ushort, Int, Uint, Long, Ulong}
use Rattle.wg_num.specs.declared.types.Un.{Un}
use Rattle.wg_num.specs.declared.types.Un.TheVariants as un
use Rattle.wg_num.specs.declared.types.Bin.{Bin}
use Rattle.wg_num.specs.declared.types.Bin.TheVariants as bin
use Rattle.wg_num.specs.declared.types.Fun.{Fun}
use Rattle.wg_num.specs.declared.types.Fun.TheVariants as fun
use Rattle.wg_num.specs.Wrap.{IsValue}
use Rattle.wg_num.specs.Operators.{is_shift}
use Rattle.wg_num.specs.Builtins.{result_type}
use Rattle.cl_model.specs.declared.program.Space.{Space}
use Rattle.cl_model.specs.declared.program.Space.TheVariants as space
use Rattle.cl_model.specs.declared.program.Root.{Root}
use Rattle.cl_model.specs.declared.program.Root.TheVariants.{Param, Constant, Local, Private}
use Rattle.cl_model.specs.declared.program.VarKind.{VarKind}
use Rattle.cl_model.specs.declared.program.VarKind.TheVariants.{Scalar, Pointer}
use Rattle.cl_model.specs.declared.program.Query.{Query}
use Rattle.cl_model.specs.declared.program.Query.TheVariants.{WorkDim, GlobalId, LocalId, GroupId, GlobalSize}
use Rattle.cl_model.specs.declared.program.Query.TheVariants.{LocalSize, NumGroups, GlobalOffset}
use Rattle.cl_model.specs.Tree.{Action, Literal, Variable, Unary, Binary, Builtin, Convert, Ask, Second, Truth}
use Rattle.cl_model.specs.Tree.{Decided, Set, Change, Load, Store, Expression, Apply, Update, Choose, Call}
use Rattle.cl_model.specs.Tree.{Expressions, none, more, Statement, Do, Declare, Fill, Block, If, Loop, Switch, Break}
use Rattle.cl_model.specs.Tree.{Continue, Return, Barrier, Statements, empty, also, Arms, no_arm, arm, Array, Table}
use Rattle.cl_model.specs.Tree.{Function, Program}
use Rattle.cl_model.specs.Lists.{Each, AllDiffer}
use Rattle.cl_model.specs.Calls.{CallSite, calls_of_all, function_at, Instance, instances}
use Rattle.cl_model.specs.Objects.{is_local, array_bytes}

-- the type to which a value is promoted
abbrev pub promoted : IntType → IntType
promoted Bool = Int
promoted Char = Int
promoted Uchar = Int
promoted Short = Int
promoted Ushort = Int
promoted Int = Int
promoted Uint = Uint
promoted Long = Long
promoted Ulong = Ulong

-- the type of an operator's result, where it computes in a type
abbrev pub unary_type : Un → IntType → IntType
unary_type un.Plus of = of
unary_type un.Minus of = of
unary_type un.Flip of = of
unary_type un.Not of = Int

-- the type of the result of an operator on two operands: int for a comparison
abbrev pub binary_type : Bin → IntType → IntType
binary_type bin.Add of = of
binary_type bin.Sub of = of
binary_type bin.Mul of = of
binary_type bin.Div of = of
binary_type bin.Rem of = of
binary_type bin.Shl of = of
binary_type bin.Shr of = of
binary_type bin.And of = of
binary_type bin.Or of = of
binary_type bin.Xor of = of
binary_type bin.Eq of = Int
binary_type bin.Ne of = Int
binary_type bin.Lt of = Int
binary_type bin.Le of = Int
binary_type bin.Gt of = Int
binary_type bin.Ge of = Int

-- how many arguments a built-in function takes
abbrev pub arity_of : Fun → ℕ
arity_of fun.Abs = 1
arity_of fun.AbsDiff = 2
arity_of fun.Min = 2
arity_of fun.Max = 2
arity_of fun.Clamp = 3
arity_of fun.AddSat = 2
arity_of fun.SubSat = 2
arity_of fun.Hadd = 2
arity_of fun.Rhadd = 2
arity_of fun.MulHi = 2
arity_of fun.Rotate = 2
arity_of fun.Clz = 1
arity_of fun.Popcount = 1

-- the type of what a work-item function gives
abbrev pub query_type : Query → IntType
query_type WorkDim = Uint
query_type GlobalId = Ulong
query_type LocalId = Ulong
query_type GroupId = Ulong
query_type GlobalSize = Ulong
query_type LocalSize = Ulong
query_type NumGroups = Ulong
query_type GlobalOffset = Ulong

-- what a variable holds is of this type; that of a pointer is its offset
abbrev pub kind_type : VarKind → IntType
kind_type (Scalar t) = t
kind_type (Pointer space element root) = Long

-- a parameter of this kind is there, and it is a pointer
abbrev pub is_pointer : Option VarKind → Test
is_pointer None = false
is_pointer (Some (Scalar t)) = false
is_pointer (Some (Pointer space element root)) = true

-- the function has this variable, and what it holds is of this type
abbrev pub HasVariable : Function → ℕ → IntType → Type 0
HasVariable f x t = (kind : VarKind) × (slice_get f.variables x ≡ Some kind) × (kind_type kind ≡ t)

-- the kinds of a function's parameters
abbrev pub parameter_kinds : Function → List VarKind
parameter_kinds f = take f.parameters f.variables

-- the root leads, in a function, to elements of this type in this space
abbrev pub RootIs : Program → Function → Root → Space → IntType → Type 0
RootIs program f (Param n) at element =
    (root : Root) × (slice_get (parameter_kinds f) n ≡ Some (Pointer at element root))
RootIs program f (Constant n) at element = (table : Table) × (slice_get program.tables n ≡ Some table) ×
    (table.array.element ≡ element) × (at ≡ space.Constant)
RootIs program f (Local n) at element = (array : Array) × (slice_get f.arrays n ≡ Some array) ×
    (array.space ≡ space.Local) × (array.element ≡ element) × (at ≡ space.Local)
RootIs program f (Private n) at element = (array : Array) × (slice_get f.arrays n ≡ Some array) ×
    (array.space ≡ space.Private) × (array.element ≡ element) × (at ≡ space.Private)

-- elements of this type can be loaded from the root, and stored there: not to constant memory
abbrev pub CanLoad : Program → Function → Root → IntType → Type 0
CanLoad program f root element = (at : Space) × RootIs program f root at element

-- elements of this type can be stored there
abbrev pub CanStore : Program → Function → Root → IntType → Type 0
CanStore program f root element = (at : Space) × RootIs program f root at element × (at ≢ space.Constant)

-- the right operand of an operator that computes in a type: a shift's may be of any
abbrev pub RightFits : Bin → IntType → IntType → Type 0
RightFits op of right = is_shift op ≡ false → right ≡ of

-- an action on operands of these types gives a value of that type
abbrev pub ActionFits : Program → Function → Action → List IntType → IntType → Type 0
ActionFits program f (Literal value of) [] t = IsValue of value × (t ≡ of)
ActionFits program f (Variable x) [] t = HasVariable f x t
ActionFits program f (Unary op of) (a ∷ []) t = (a ≡ of) × (t ≡ unary_type op of)
ActionFits program f (Binary op of) (a ∷ b ∷ []) t = (a ≡ of) × RightFits op of b × (t ≡ binary_type op of)
ActionFits program f (Builtin g of) args t = (args ≡ replicate (arity_of g) of) × (t ≡ result_type g of)
ActionFits program f (Convert to) (a ∷ []) t = t ≡ to
ActionFits program f (Ask what) (a ∷ []) t = (a ≡ Uint) × (t ≡ query_type what)
ActionFits program f Second (a ∷ b ∷ []) t = t ≡ b
ActionFits program f Truth (a ∷ []) t = t ≡ Int
ActionFits program f (Decided answer) [] t = t ≡ Int
ActionFits program f (Set x) (a ∷ []) t = HasVariable f x t × (a ≡ t)
ActionFits program f (Change x op of back old) (a ∷ b ∷ []) t =
    HasVariable f x back × (a ≡ back) × RightFits op of b × (t ≡ back)
ActionFits program f (Load site element root) (i ∷ []) t = (i ≡ Long) × CanLoad program f root element × (t ≡ element)
ActionFits program f (Store site element root) (i ∷ a ∷ []) t =
    (i ≡ Long) × (a ≡ element) × CanStore program f root element × (t ≡ element)
ActionFits program f _ args t = ⊥

-- arguments of these types, with these roots, fit parameters of these kinds
abbrev pub ArgumentsFit : Program → Function → List VarKind → List (Option Root) → List IntType → Type 0
ArgumentsFit program f [] [] [] = Unit {0}
ArgumentsFit program f (Scalar s ∷ kinds) (None ∷ roots) (t ∷ ts) = (t ≡ s) × ArgumentsFit program f kinds roots ts
ArgumentsFit program f (Pointer at element own ∷ kinds) (Some root ∷ roots) (t ∷ ts) =
    (t ≡ Long) × RootIs program f root at element × ArgumentsFit program f kinds roots ts
ArgumentsFit program f _ _ _ = ⊥

-- a function that is called is one of the program's, has this result and no local array
pub record CanBeCalled (program : Program) (g : ℕ) (result : Option IntType) : Type 0 where
  pub within : g < length program.functions
  pub same_result : (function_at program g).result ≡ result
  pub no_local : (n : ℕ) (array : Array) → slice_get (function_at program g).arrays n ≡ Some array →
      is_local array.space ≡ false

-- the expression has a value of the type
abbrev mutual
  pub HasType : Program → Function → Expression → IntType → Type 0
  HasType program f (Apply action operands) t =
      (ts : List IntType) × HaveTypes program f operands ts × ActionFits program f action ts t
  HasType program f (Update site element root op of back old index value) t =
      HasType program f index Long × ((s : IntType) × HasType program f value s × RightFits op of s) ×
      CanStore program f root element × (back ≡ element) × (t ≡ back)
  HasType program f (Choose site test chosen other) t =
      ((s : IntType) × HasType program f test s) × HasType program f chosen t × HasType program f other t
  HasType program f (Call site g roots arguments) t =
      CanBeCalled program g (Some t) × ((ts : List IntType) × HaveTypes program f arguments ts ×
      ArgumentsFit program f (parameter_kinds (function_at program g)) roots ts)

  pub HaveTypes : Program → Function → Expressions → List IntType → Type 0
  HaveTypes program f none [] = Unit {0}
  HaveTypes program f none (t ∷ ts) = ⊥
  HaveTypes program f (more e rest) [] = ⊥
  HaveTypes program f (more e rest) (t ∷ ts) = HasType program f e t × HaveTypes program f rest ts

-- the expression has a value
abbrev pub HasValue : Program → Function → Expression → Type 0
HasValue program f e = (t : IntType) × HasType program f e t

-- a call of a function that gives none
abbrev pub IsPlainCall : Program → Function → Expression → Type 0
IsPlainCall program f (Call site g roots arguments) =
    CanBeCalled program g None × ((ts : List IntType) × HaveTypes program f arguments ts ×
    ArgumentsFit program f (parameter_kinds (function_at program g)) roots ts)
IsPlainCall program f _ = ⊥

-- the expression has a value, where it is there
abbrev pub OptionalFits : Program → Function → Option Expression → Type 0
OptionalFits program f None = Unit {0}
OptionalFits program f (Some e) = HasValue program f e

-- the variable is there, and the value is of its type
abbrev pub DeclaredFits : Program → Function → ℕ → Option Expression → Type 0
DeclaredFits program f x None = (t : IntType) × HasVariable f x t
DeclaredFits program f x (Some e) = (t : IntType) × HasVariable f x t × HasType program f e t

-- a return has a value exactly where the function has a result, of its type
abbrev pub ReturnFits : Program → Function → Option IntType → Option Expression → Type 0
ReturnFits program f None None = Unit {0}
ReturnFits program f (Some t) (Some e) = HasType program f e t
ReturnFits program f None (Some e) = ⊥
ReturnFits program f (Some t) None = ⊥

-- all of them have a value of the type
abbrev pub AllHaveType : Program → Function → Expressions → IntType → Type 0
AllHaveType program f none t = Unit {0}
AllHaveType program f (more e rest) t = HasType program f e t × AllHaveType program f rest t

-- how many there are
abbrev pub number_of_values : Expressions → ℕ
number_of_values none = 0
number_of_values (more e rest) = suc (number_of_values rest)

-- all labels of a switch, and how many of its arms are `default`
abbrev pub labels_of : Arms → List ℤ
labels_of no_arm = []
labels_of (arm labels other body rest) = labels ++ labels_of rest

-- how many arms of a switch are `default`
abbrev pub defaults_of : Arms → ℕ
defaults_of no_arm = 0
defaults_of (arm labels other body rest) = (if other then 1 else 0) + defaults_of rest

-- the types of a statement of a function fit
abbrev mutual
  pub StatementFits : Program → Function → Statement → Type 0
  StatementFits program f (Do e) = HasValue program f e ⊎ IsPlainCall program f e
  StatementFits program f (Declare x value) = DeclaredFits program f x value
  StatementFits program f (Fill site array values) =
      (a : Array) × (slice_get f.arrays array ≡ Some a) × (a.space ≡ space.Private) ×
      AllHaveType program f values a.element × (number_of_values values ≤ a.count)
  StatementFits program f (Block list) = AllFit program f list
  StatementFits program f (If site test chosen other) =
      HasValue program f test × AllFit program f chosen × AllFit program f other
  StatementFits program f (Loop site test_first test step body) =
      OptionalFits program f test × OptionalFits program f step × StatementFits program f body
  StatementFits program f (Switch site value arms) =
      ((t : IntType) × HasType program f value t × Each (λ v. IsValue (promoted t) v) (labels_of arms)) ×
      AllDiffer (labels_of arms) × (defaults_of arms ≤ 1) × ArmsFit program f arms
  StatementFits program f (Break site) = Unit {0}
  StatementFits program f (Continue site) = Unit {0}
  StatementFits program f (Return site value) = ReturnFits program f f.result value
  StatementFits program f (Barrier site) = Unit {0}

  pub AllFit : Program → Function → Statements → Type 0
  AllFit program f empty = Unit {0}
  AllFit program f (also s rest) = StatementFits program f s × AllFit program f rest

  pub ArmsFit : Program → Function → Arms → Type 0
  ArmsFit program f no_arm = Unit {0}
  ArmsFit program f (arm labels other body rest) = AllFit program f body × ArmsFit program f rest

-- the variables that can be named
abbrev pub Scope : Type 0
Scope = List ℕ

-- the variable is in scope
abbrev pub Has : Scope → ℕ → Type 0
Has [] x = ⊥
Has (y ∷ scope) x = (y ≡ x) ⊎ Has scope x

-- the variable that an action names is in scope
abbrev pub ActionNames : Scope → Action → Type 0
ActionNames scope (Variable x) = Has scope x
ActionNames scope (Set x) = Has scope x
ActionNames scope (Change x op of back old) = Has scope x
ActionNames scope (Literal value of) = Unit {0}
ActionNames scope (Unary op of) = Unit {0}
ActionNames scope (Binary op of) = Unit {0}
ActionNames scope (Builtin g of) = Unit {0}
ActionNames scope (Convert to) = Unit {0}
ActionNames scope (Ask what) = Unit {0}
ActionNames scope Second = Unit {0}
ActionNames scope Truth = Unit {0}
ActionNames scope (Decided answer) = Unit {0}
ActionNames scope (Load site element root) = Unit {0}
ActionNames scope (Store site element root) = Unit {0}

-- each variable that the expression names is in scope
abbrev mutual
  pub NamesIn : Scope → Expression → Type 0
  NamesIn scope (Apply action operands) = ActionNames scope action × NamesAmong scope operands
  NamesIn scope (Update site element root op of back old index value) = NamesIn scope index × NamesIn scope value
  NamesIn scope (Choose site test chosen other) = NamesIn scope test × NamesIn scope chosen × NamesIn scope other
  NamesIn scope (Call site g roots arguments) = NamesAmong scope arguments

  pub NamesAmong : Scope → Expressions → Type 0
  NamesAmong scope none = Unit {0}
  NamesAmong scope (more e rest) = NamesIn scope e × NamesAmong scope rest

-- the same of an expression that may be absent
abbrev pub NamesInOptional : Scope → Option Expression → Type 0
NamesInOptional scope None = Unit {0}
NamesInOptional scope (Some e) = NamesIn scope e

-- the scope behind a statement of a list
abbrev pub scope_after : Scope → Statement → Scope
scope_after scope (Declare x value) = x ∷ scope
scope_after scope (Do e) = scope
scope_after scope (Fill site array values) = scope
scope_after scope (Block list) = scope
scope_after scope (If site test chosen other) = scope
scope_after scope (Loop site test_first test step body) = scope
scope_after scope (Switch site value arms) = scope
scope_after scope (Break site) = scope
scope_after scope (Continue site) = scope
scope_after scope (Return site value) = scope
scope_after scope (Barrier site) = scope

-- each variable is named only behind its declaration, which stands in the list of a body or block
abbrev mutual
  pub IsScoped : Scope → Statement → Type 0
  IsScoped scope (Do e) = NamesIn scope e
  IsScoped scope (Declare x value) = ⊥
  IsScoped scope (Fill site array values) = NamesAmong scope values
  IsScoped scope (Block list) = IsScopedList scope list
  IsScoped scope (If site test chosen other) = NamesIn scope test × AreScoped scope chosen × AreScoped scope other
  IsScoped scope (Loop site test_first test step body) =
      NamesInOptional scope test × NamesInOptional scope step × IsScoped scope body
  IsScoped scope (Switch site value arms) = NamesIn scope value × AreScopedArms scope arms
  IsScoped scope (Break site) = Unit {0}
  IsScoped scope (Continue site) = Unit {0}
  IsScoped scope (Return site value) = NamesInOptional scope value
  IsScoped scope (Barrier site) = Unit {0}

  -- of the list of a body or block
  pub IsScopedList : Scope → Statements → Type 0
  IsScopedList scope empty = Unit {0}
  IsScopedList scope (also (Declare x value) rest) =
      (Has scope x → ⊥) × NamesInOptional scope value × IsScopedList (x ∷ scope) rest
  IsScopedList scope (also s rest) = IsScoped scope s × IsScopedList scope rest

  -- of a branch or an arm
  pub AreScoped : Scope → Statements → Type 0
  AreScoped scope empty = Unit {0}
  AreScoped scope (also s rest) = IsScoped scope s × AreScoped scope rest

  pub AreScopedArms : Scope → Arms → Type 0
  AreScopedArms scope no_arm = Unit {0}
  AreScopedArms scope (arm labels other body rest) = AreScoped scope body × AreScopedArms scope rest

-- how often a statement declares a variable
abbrev mutual
  pub declarations : Statement → ℕ → ℕ
  declarations (Do e) x = 0
  declarations (Declare y value) x = if nat_eq y x then 1 else 0
  declarations (Fill site array values) x = 0
  declarations (Block list) x = all_declarations list x
  declarations (If site test chosen other) x = all_declarations chosen x + all_declarations other x
  declarations (Loop site test_first test step body) x = declarations body x
  declarations (Switch site value arms) x = arms_declarations arms x
  declarations (Break site) x = 0
  declarations (Continue site) x = 0
  declarations (Return site value) x = 0
  declarations (Barrier site) x = 0

  pub all_declarations : Statements → ℕ → ℕ
  all_declarations empty x = 0
  all_declarations (also s rest) x = declarations s x + all_declarations rest x

  pub arms_declarations : Arms → ℕ → ℕ
  arms_declarations no_arm x = 0
  arms_declarations (arm labels other body rest) x = all_declarations body x + arms_declarations rest x

-- a break stands in a loop or a switch of its function, a continue in a loop
abbrev mutual
  pub ExitsFit : (in_loop in_either : Test) → Statement → Type 0
  ExitsFit in_loop in_either (Do e) = Unit {0}
  ExitsFit in_loop in_either (Declare x value) = Unit {0}
  ExitsFit in_loop in_either (Fill site array values) = Unit {0}
  ExitsFit in_loop in_either (Block list) = AllExitsFit in_loop in_either list
  ExitsFit in_loop in_either (If site test chosen other) =
      AllExitsFit in_loop in_either chosen × AllExitsFit in_loop in_either other
  ExitsFit in_loop in_either (Loop site test_first test step body) = ExitsFit true true body
  ExitsFit in_loop in_either (Switch site value arms) = ArmsExitsFit in_loop true arms
  ExitsFit in_loop in_either (Break site) = in_either ≡ true
  ExitsFit in_loop in_either (Continue site) = in_loop ≡ true
  ExitsFit in_loop in_either (Return site value) = Unit {0}
  ExitsFit in_loop in_either (Barrier site) = Unit {0}

  pub AllExitsFit : (in_loop in_either : Test) → Statements → Type 0
  AllExitsFit in_loop in_either empty = Unit {0}
  AllExitsFit in_loop in_either (also s rest) = ExitsFit in_loop in_either s × AllExitsFit in_loop in_either rest

  pub ArmsExitsFit : (in_loop in_either : Test) → Arms → Type 0
  ArmsExitsFit in_loop in_either no_arm = Unit {0}
  ArmsExitsFit in_loop in_either (arm labels other body rest) =
      AllExitsFit in_loop in_either body × ArmsExitsFit in_loop in_either rest

-- the sites of an action
abbrev pub action_sites : Action → List ℕ
action_sites (Load site element root) = site ∷ []
action_sites (Store site element root) = site ∷ []
action_sites (Literal value of) = []
action_sites (Variable x) = []
action_sites (Unary op of) = []
action_sites (Binary op of) = []
action_sites (Builtin g of) = []
action_sites (Convert to) = []
action_sites (Ask what) = []
action_sites Second = []
action_sites Truth = []
action_sites (Decided answer) = []
action_sites (Set x) = []
action_sites (Change x op of back old) = []

-- the sites of all nodes
abbrev mutual
  pub sites_in : Expression → List ℕ
  sites_in (Apply action operands) = action_sites action ++ sites_among operands
  sites_in (Update site element root op of back old index value) = site ∷ (sites_in index ++ sites_in value)
  sites_in (Choose site test chosen other) = site ∷ (sites_in test ++ (sites_in chosen ++ sites_in other))
  sites_in (Call site g roots arguments) = site ∷ sites_among arguments

  pub sites_among : Expressions → List ℕ
  sites_among none = []
  sites_among (more e rest) = sites_in e ++ sites_among rest

-- the sites of an expression that may be absent
abbrev pub sites_in_optional : Option Expression → List ℕ
sites_in_optional None = []
sites_in_optional (Some e) = sites_in e

abbrev mutual
  pub sites_of : Statement → List ℕ
  sites_of (Do e) = sites_in e
  sites_of (Declare x value) = sites_in_optional value
  sites_of (Fill site array values) = site ∷ sites_among values
  sites_of (Block list) = sites_of_all list
  sites_of (If site test chosen other) = site ∷ (sites_in test ++ (sites_of_all chosen ++ sites_of_all other))
  sites_of (Loop site test_first test step body) =
      site ∷ (sites_in_optional test ++ (sites_in_optional step ++ sites_of body))
  sites_of (Switch site value arms) = site ∷ (sites_in value ++ sites_of_arms arms)
  sites_of (Break site) = site ∷ []
  sites_of (Continue site) = site ∷ []
  sites_of (Return site value) = site ∷ sites_in_optional value
  sites_of (Barrier site) = site ∷ []

  pub sites_of_all : Statements → List ℕ
  sites_of_all empty = []
  sites_of_all (also s rest) = sites_of s ++ sites_of_all rest

  pub sites_of_arms : Arms → List ℕ
  sites_of_arms no_arm = []
  sites_of_arms (arm labels other body rest) = sites_of_all body ++ sites_of_arms rest

-- how many nodes of the typed program an action stands for: those of && and || that the view adds count nothing, and
-- a compound assignment counts as its target
abbrev pub action_nodes : Action → ℕ
action_nodes Truth = 0
action_nodes (Decided answer) = 0
action_nodes (Change x op of back old) = 0
action_nodes (Literal value of) = 1
action_nodes (Variable x) = 1
action_nodes (Unary op of) = 1
action_nodes (Binary op of) = 1
action_nodes (Builtin g of) = 1
action_nodes (Convert to) = 1
action_nodes (Ask what) = 1
action_nodes Second = 1
action_nodes (Set x) = 1
action_nodes (Load site element root) = 1
action_nodes (Store site element root) = 1

-- how many nodes of the typed program there are
abbrev mutual
  pub nodes_in : Expression → ℕ
  nodes_in (Apply action operands) = action_nodes action + nodes_among operands
  nodes_in (Update site element root op of back old index value) = suc (nodes_in index + nodes_in value)
  nodes_in (Choose site test chosen other) = suc (nodes_in test + (nodes_in chosen + nodes_in other))
  nodes_in (Call site g roots arguments) = suc (nodes_among arguments)

  pub nodes_among : Expressions → ℕ
  nodes_among none = 0
  nodes_among (more e rest) = nodes_in e + nodes_among rest

-- the nodes of an expression that may be absent
abbrev pub nodes_in_optional : Option Expression → ℕ
nodes_in_optional None = 0
nodes_in_optional (Some e) = nodes_in e

abbrev mutual
  pub nodes_of : Statement → ℕ
  nodes_of (Do e) = suc (nodes_in e)
  nodes_of (Declare x value) = suc (nodes_in_optional value)
  nodes_of (Fill site array values) = suc (nodes_among values)
  nodes_of (Block list) = suc (nodes_of_all list)
  nodes_of (If site test chosen other) = suc (nodes_in test + (nodes_of_all chosen + nodes_of_all other))
  nodes_of (Loop site test_first test step body) =
      suc (nodes_in_optional test + (nodes_in_optional step + nodes_of body))
  nodes_of (Switch site value arms) = suc (nodes_in value + nodes_of_arms arms)
  nodes_of (Break site) = 1
  nodes_of (Continue site) = 1
  nodes_of (Return site value) = suc (nodes_in_optional value)
  nodes_of (Barrier site) = 1

  pub nodes_of_all : Statements → ℕ
  nodes_of_all empty = 0
  nodes_of_all (also s rest) = nodes_of s + nodes_of_all rest

  pub nodes_of_arms : Arms → ℕ
  nodes_of_arms no_arm = 0
  nodes_of_arms (arm labels other body rest) = nodes_of_all body + nodes_of_arms rest

-- calls of the function nest less deep than the depth
abbrev pub CallsEnd : Program → ℕ → ℕ → Type 0
CallsEnd program zero f = ⊥
CallsEnd program (suc depth) f =
    Each (λ (c : CallSite). CallsEnd program depth c.function) (calls_of_all (function_at program f).body)

-- the numbers from one on, so many of them, the last first in the list
abbrev pub numbers_below : ℕ → List ℕ
numbers_below zero = []
numbers_below (suc n) = n ∷ numbers_below n

-- the kind of a variable: the root of a pointer parameter is that parameter, that of another pointer leads to its
-- space and elements
abbrev pub KindFits : Program → Function → ℕ → VarKind → Type 0
KindFits program f x (Scalar t) = Unit {0}
KindFits program f x (Pointer at element root) =
    (x < f.parameters → root ≡ Param x) × (f.parameters ≤ x → RootIs program f root at element)

-- the function of a program is valid
pub record IsValidFunction (program : Program) (f : Function) : Type 0 where
  pub parameters : f.parameters ≤ length f.variables
  pub kinds : (x : ℕ) (kind : VarKind) → slice_get f.variables x ≡ Some kind → KindFits program f x kind
  pub types : AllFit program f f.body
  pub scopes : IsScopedList (numbers_below f.parameters) f.body
  -- a variable has one declaration, a parameter has none
  pub declared : (x : ℕ) → f.parameters ≤ x → x < length f.variables → all_declarations f.body x ≡ 1
  pub undeclared : (x : ℕ) → x < f.parameters → all_declarations f.body x ≡ 0
  pub exits : AllExitsFit false false f.body

-- the table is constant memory, with its bytes
pub record IsValidTable (table : Table) : Type 0 where
  pub constant : table.array.space ≡ space.Constant
  pub size : length table.bytes ≡ array_bytes table.array

-- the program is valid
pub record IsValid (program : Program) : Type 0 where
  pub kernel : program.kernel < length program.functions
  pub tables : (n : ℕ) (table : Table) → slice_get program.tables n ≡ Some table → IsValidTable table
  pub functions : (n : ℕ) (f : Function) → slice_get program.functions n ≡ Some f → IsValidFunction program f
  -- no call leads back to its own function: calls nest less deep than there are functions
  pub calls : (n : ℕ) → n < length program.functions → CallsEnd program (length program.functions) n
  -- no two nodes have one site, and each site has a place
  pub sites : AllDiffer (flat_map (λ (f : Function). sites_of_all f.body) program.functions)
  pub places : Each (λ site. site < length program.sites) (flat_map (λ (f : Function). sites_of_all f.body)
      program.functions)
  pub size : sum_by (λ (i : Instance). nodes_of_all (function_at program i.function).body) (instances program) ≤ 4194304
