-- What is known of a part of the program's text before its lines: it is sound, its variables are in scope where its
-- way leads, its calls end, and the cells and arrays that are made for it are the kernel's.
use Rattle.std.specs.Prelude.{◌≡◌, ℕ, ◌+◌, ◌≤◌, List, [], ◌∷◌, ◌++◌, Option, Some, length, slice_get, flat_map}
use Rattle.std.specs.Prelude.{nat_eq, false, if◌then◌else◌}
use Rattle.wg_num.specs.declared.types.IntType.{IntType}
use Rattle.cl_model.specs.declared.program.Root.{Root}
use Rattle.cl_model.specs.declared.program.Space.{Space}
use Rattle.cl_model.specs.declared.program.VarKind.{VarKind}
use Rattle.cl_model.specs.Lists.{Each, IsOneOf}
use Rattle.cl_model.specs.Tree as tree
use Rattle.cl_model.specs.Tree.{Action, Array, Expression, Apply, Update, Choose, Call, Expressions, none, more}
use Rattle.cl_model.specs.Tree.{Statement, Statements, Arms, Program, Function}
use Rattle.cl_model.specs.Agreement.{Owned, owned_by, IsInScope, IsInScopeAmong, IsInScopeAt, IsInScopeList}
use Rattle.cl_model.specs.Agreement.{IsInScopeArm, IsInBody, IsScopedAt}
use Rattle.cl_model.specs.Calls.{CallSite, calls_in, calls_among, function_at, Instance as Placing, instances_below}
use Rattle.cl_model.specs.Objects.{PlacedArray, placed_arrays, placed_from, same_path, object_of, kernel_objects}
use Rattle.cl_model.specs.Steps.{count_of}
use Rattle.cl_model.specs.Task.{Operand, Nth, Arm, Point as ProgramPoint}
use Rattle.cl_model.specs.Valid.{Scope, Has, RootIs, CanLoad, CanStore, CanBeCalled, ArgumentsFit, parameter_kinds}
use Rattle.cl_model.specs.Valid.{CallsEnd}
use Rattle.kir.specs.Homes.{IsCellOf}
use Rattle.kir.specs.Steps.{shell_of}
use Rattle.kir_lower.specs.Made.{Made, next_cell, root_in, element_at}
use Rattle.kir_lower.specs.Code.{Calls, expression_code, operands_code}
use Rattle.kir_lower_shape.specs.Marks.{Way}
use Rattle.kir_lower_simulation.specs.Setting.{Setting, Activation, own_variable, behind_variables}
use Rattle.kir_lower_simulation.specs.Held.{Within}

-- ---- sound text

-- the function has the variable
abbrev pub HasOwn : Function → ℕ → Type 0
HasOwn f x = (kind : VarKind) × (slice_get f.variables x ≡ Some kind)

-- the step of an action names what there is
abbrev pub IsSoundAction : Program → Function → Scope → Action → Type 0
IsSoundAction program f scope (tree.Variable x) = Has scope x × HasOwn f x
IsSoundAction program f scope (tree.Set x) = Has scope x × HasOwn f x
IsSoundAction program f scope (tree.Change x op of back old) = Has scope x × HasOwn f x
IsSoundAction program f scope (tree.Load site element root) = CanLoad program f root element
IsSoundAction program f scope (tree.Store site element root) = CanStore program f root element
IsSoundAction program f scope (tree.Literal value of) = Unit {0}
IsSoundAction program f scope (tree.Unary op of) = Unit {0}
IsSoundAction program f scope (tree.Binary op of) = Unit {0}
IsSoundAction program f scope (tree.Builtin g of) = Unit {0}
IsSoundAction program f scope (tree.Convert to) = Unit {0}
IsSoundAction program f scope (tree.Ask what) = Unit {0}
IsSoundAction program f scope tree.Second = Unit {0}
IsSoundAction program f scope tree.Truth = Unit {0}
IsSoundAction program f scope (tree.Decided answer) = Unit {0}

-- a call names a function whose parameters the arguments fit
pub record IsSoundCall (program : Program) (f : Function) (g : ℕ) (roots : List (Option Root)) (count : ℕ) : Type 0
  where
    pub result : Option IntType
    pub called : CanBeCalled program g result
    pub types : List IntType
    pub as_many : length types ≡ count
    pub fit : ArgumentsFit program f (parameter_kinds (function_at program g)) roots types

-- each step of an expression does
abbrev mutual
  pub IsSound : Program → Function → Scope → Expression → Type 0
  IsSound program f scope (Apply action operands) =
      IsSoundAction program f scope action × AreSound program f scope operands
  IsSound program f scope (Update site element root op of back old index value) =
      CanStore program f root element × IsSound program f scope index × IsSound program f scope value
  IsSound program f scope (Choose site test chosen other) =
      IsSound program f scope test × IsSound program f scope chosen × IsSound program f scope other
  IsSound program f scope (Call site g roots arguments) =
      IsSoundCall program f g roots (count_of arguments) × AreSound program f scope arguments

  pub AreSound : Program → Function → Scope → Expressions → Type 0
  AreSound program f scope none = Unit {0}
  AreSound program f scope (more e rest) = IsSound program f scope e × AreSound program f scope rest

-- ---- calls

-- the arrays of the instances of the functions called, and of those that they call
abbrev pub placed_below : Program → ℕ → List ℕ → List CallSite → List PlacedArray
placed_below program depth path [] = []
placed_below program depth path (c ∷ calls) =
    flat_map (λ (i : Placing). placed_from i.path 0 (function_at program i.function).arrays)
    (instances_below program depth (path ++ c.site ∷ []) c.function)
    ++ placed_below program depth path calls

-- none of the arrays is behind these calls
abbrev pub Elsewhere : List PlacedArray → List ℕ → Type 0
Elsewhere [] path = Unit {0}
Elsewhere (a ∷ arrays) path = (same_path a.path path ≡ false) × Elsewhere arrays path

-- how many of the calls are at the site
abbrev pub calls_at : ℕ → List CallSite → ℕ
calls_at n [] = 0
calls_at n (c ∷ calls) = (if nat_eq c.site n then 1 else 0) + calls_at n calls

-- these calls come next: they end, and the arrays that are made so far are those placed before theirs
pub record AreNext (S : Setting) (C : Activation) (m : Made) (calls : List CallSite) : Type 0 where
  pub end : Each (λ (c : CallSite). CallsEnd S.program C.depth c.function) calls
  pub first : List PlacedArray
  pub rest : List PlacedArray
  pub arrays : placed_arrays S.program ≡ first ++ (placed_below S.program C.depth C.here.calls calls ++ rest)
  pub count : length m.arrays ≡ length first
  -- no two are at one site, and no array behind one of them stands before
  pub differ : (n : ℕ) → calls_at n calls ≤ 1
  pub apart : (c : CallSite) → IsOneOf calls c → (path : List ℕ) →
      Elsewhere first ((C.here.calls ++ c.site ∷ []) ++ path)

-- what is made for calls that end: their arrays
abbrev pub Adds : Setting → Activation → List CallSite → Made → Made → Type 0
Adds S C calls a b = Each (λ (c : CallSite). CallsEnd S.program C.depth c.function) calls →
    length b.arrays ≡ length a.arrays + length (placed_below S.program C.depth C.here.calls calls)

-- ---- the function under way

-- its variables have their cells, its roots name the objects that they name to the program's item, and its arrays are
-- the kernel's
pub record IsUnderWay (S : Setting) (C : Activation) : Type 0 where
  pub own : (x : ℕ) (kind : VarKind) → slice_get (function_at S.program C.function).variables x ≡ Some kind →
      IsCellOf S.kernel (own_variable C x) (C.here.base + x)
  pub roots : (root : Root) (at : Space) (element : IntType) →
      RootIs S.program (function_at S.program C.function) root at element
      → object_of (shell_of S.kernel) S.launch S.item [] (kernel_objects (shell_of S.kernel) S.launch S.item)
      (root_in C.here root) ≡ object_of S.program S.launch S.item C.here.calls C.objects root
  pub arrays : (n : ℕ) (array : Array) → slice_get (function_at S.program C.function).arrays n ≡ Some array →
      slice_get S.kernel.arrays (C.here.arrays + n) ≡ Some array
  pub elements : (n : ℕ) (array : Array) → slice_get (function_at S.program C.function).arrays n ≡ Some array →
      element_at C.here n ≡ array.element
  pub below : behind_variables S C ≤ C.low

-- ---- ways

-- where the way leads to an expression, a variable in scope in it is in scope at the point
abbrev pub LeadsTo : Setting → Activation → Scope → Way → Expression → Type 0
LeadsTo S C scope way e = (begun : List ℕ) (more : ProgramPoint) (v : Owned) →
    IsInScope (IsInBody S.program C.depth) (owned_by C.function scope) e more v →
    IsScopedAt S.program (way begun ++ more) v

-- to operands, the first with this number
abbrev pub LeadsAmong : Setting → Activation → Scope → Way → ℕ → Expressions → Type 0
LeadsAmong S C scope way k list =
    (begun : List ℕ) (n i : ℕ) → n ≡ i + k → (more : ProgramPoint) (v : Owned) →
    IsInScopeAmong (IsInBody S.program C.depth) (owned_by C.function scope) list i more v →
    IsScopedAt S.program (way begun ++ Operand n ∷ more) v

-- to a statement
abbrev pub LeadsToStatement : Setting → Activation → Scope → Way → Statement → Type 0
LeadsToStatement S C scope way s =
    (begun : List ℕ) (more : ProgramPoint) (v : Owned) →
    IsInScopeAt (IsInBody S.program C.depth) C.function (owned_by C.function scope) s more v →
    IsScopedAt S.program (way begun ++ more) v

-- to statements in order, the first with this number
abbrev pub LeadsToList : Setting → Activation → Scope → Way → ℕ → Statements → Type 0
LeadsToList S C scope way k list =
    (begun : List ℕ) (n i : ℕ) → n ≡ i + k → (more : ProgramPoint) (v : Owned) →
    IsInScopeList (IsInBody S.program C.depth) C.function (owned_by C.function scope) list i more v →
    IsScopedAt S.program (way begun ++ Nth n ∷ more) v

-- to the arms of a switch, the first with this number
abbrev pub LeadsToArms : Setting → Activation → Scope → Way → ℕ → Arms → Type 0
LeadsToArms S C scope way k arms =
    (begun : List ℕ) (n i : ℕ) → n ≡ i + k → (l : ℕ) (more : ProgramPoint) (v : Owned) →
    IsInScopeArm (IsInBody S.program C.depth) C.function (owned_by C.function scope) arms i l more v →
    IsScopedAt S.program (way begun ++ Arm n ∷ Nth l ∷ more) v

-- ---- all of it

-- an expression at a way, whose lines are made here
pub record ReadyExpression (S : Setting) (C : Activation) (calls : Calls) (scope : Scope) (way : Way) (e : Expression)
    (m : Made) : Type 0 where
  pub sound : IsSound S.program (function_at S.program C.function) scope e
  pub leads : LeadsTo S C scope way e
  pub next : AreNext S C m (calls_in e)
  pub within : Within S (expression_code calls C.here e m).made
  pub low : C.low ≤ next_cell m

-- operands, the first with this number
pub record ReadyOperands (S : Setting) (C : Activation) (calls : Calls) (scope : Scope) (way : Way) (k : ℕ)
    (list : Expressions) (m : Made) : Type 0 where
  pub sound : AreSound S.program (function_at S.program C.function) scope list
  pub leads : LeadsAmong S C scope way k list
  pub next : AreNext S C m (calls_among list)
  pub within : Within S (operands_code calls C.here list m).made
  pub low : C.low ≤ next_cell m
