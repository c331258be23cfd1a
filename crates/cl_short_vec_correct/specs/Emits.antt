-- Which typed statements stand for the steps of a vector statement.
use Rattle.std.specs.Prelude.{◌≡◌, ℕ, ℤ, pos, false, List, [], ◌∷◌, Some, nat_eq, ◌⊎◌}
use Rattle.wg_num.specs.declared.types.IntType.{IntType}
use Rattle.wg_num.specs.declared.types.Un.{Un}
use Rattle.wg_num.specs.declared.types.Bin.{Bin}
use Rattle.wg_num.specs.declared.types.Fun.{Fun}
use Rattle.wg_num.specs.Wrap.{wrap_of, IsValue}
use Rattle.wg_num.specs.Operators.{unary_of, binary_of}
use Rattle.wg_num.specs.Builtins.{builtin_of}
use Rattle.cl_model.specs.declared.program.Root.{Root}
use Rattle.cl_model.specs.Tree.{Action, Literal, Variable, Unary, Binary, Builtin, Convert, Set, Change, Load, Store}
use Rattle.cl_model.specs.Tree.{Expression, Apply, Update, Choose, Call, Expressions, none, more, single, pair, Do}
use Rattle.cl_model.specs.Tree.{Declare, Statements, empty, also}
use Rattle.cl_meaning.specs.Environment.{Env}
use Rattle.cl_short_vec.specs.Marks.{Mark, kind_at}
use Rattle.cl_short_vec.specs.Order.{Named, Step, Offset, Number, Copy, Load as LoadStep, Set as SetStep}
use Rattle.cl_short_vec.specs.Order.{Store as StoreStep, type_in}
use Rattle.cl_short_vec_correct.specs.Values.{Leaves, Worth}
use Rattle.cl_short_vec_correct.specs.Doing.{Got, with_number, with_component, with_offset, first_at, index_of}
use Rattle.cl_short_vec_correct.specs.Doing.{IsNumber, IsElement, IsComponent, IsDeclaredAs}

-- ---- what helping variables hold

-- a helping variable, and the value that it holds
pub record Known : Type 0 where
  pub variable : ℕ
  pub value : ℤ

-- one variable more is known
abbrev pub knows : ℕ → ℤ → List Known → List Known
knows x v known = record { variable = x; value = v } ∷ known

-- this variable is known to hold this value
abbrev pub IsIn : List Known → ℕ → ℤ → Type 0
IsIn [] x v = ⊥
IsIn (k ∷ ks) x v = ((k.variable ≡ x) × (k.value ≡ v)) ⊎ IsIn ks x v

-- a variable that none of them is
abbrev pub Fresh : ℕ → List Known → Type 0
Fresh x [] = Unit {0}
Fresh x (k ∷ ks) = (nat_eq x k.variable ≡ false) × Fresh x ks

-- ---- expressions

-- An expression of literals and helping variables has this value, and does nothing else.
pub data Own (known : List Known) : Expression → ℤ → Type 0 where
  literal : (v : ℤ) (of : IntType) → Own known (Apply (Literal v of) none) v
  variable : (x : ℕ) (v : ℤ) → IsIn known x v → Own known (Apply (Variable x) none) v
  unary : (op : Un) (of : IntType) (a : Expression) (u : ℤ) → Own known a u →
      Own known (Apply (Unary op of) (single a)) (unary_of op of u)
  binary : (op : Bin) (of : IntType) (a b : Expression) (u w : ℤ) → Own known a u → Own known b w →
      Own known (Apply (Binary op of) (pair a b)) (binary_of op of u w)
  convert : (to : IntType) (a : Expression) (u : ℤ) → Own known a u →
      Own known (Apply (Convert to) (single a)) (wrap_of to u)
  builtin_one : (f : Fun) (of : IntType) (a : Expression) (u : ℤ) → Own known a u →
      Own known (Apply (Builtin f of) (single a)) (builtin_of f of u (pos 0) (pos 0))
  builtin : (f : Fun) (of : IntType) (a b : Expression) (u w : ℤ) → Own known a u → Own known b w →
      Own known (Apply (Builtin f of) (pair a b)) (builtin_of f of u w (pos 0))
  builtin_three : (f : Fun) (of : IntType) (a b c : Expression) (u w x : ℤ) → Own known a u → Own known b w →
      Own known c x → Own known (Apply (Builtin f of) (more a (pair b c))) (builtin_of f of u w x)

-- an action sets none of the helping variables
abbrev pub SparesAction : List Known → Action → Type 0
SparesAction known (Set x) = Fresh x known
SparesAction known (Change x op of back old) = Fresh x known
SparesAction known action = Unit {0}

abbrev mutual
  -- an expression sets none of them; a function that it calls has variables of its own
  pub Spares : List Known → Expression → Type 0
  Spares known (Apply action es) = SparesAction known action × SparesAll known es
  Spares known (Update site element root op of back old index value) = Spares known index × Spares known value
  Spares known (Choose site test chosen other) = Spares known test × Spares known chosen × Spares known other
  Spares known (Call site function roots arguments) = SparesAll known arguments

  pub SparesAll : List Known → Expressions → Type 0
  SparesAll known none = Unit {0}
  SparesAll known (more e es) = Spares known e × SparesAll known es

-- ---- statements

-- Where `env` is visible before the statements and `later` behind them, these variables help, and `result` gives the
-- values by number from what the leaves give.
module _ (env later : Env) (helps : ℕ → Type 0) (result : Leaves → Worth) where
  -- Each of the statements stands for one of the steps, in order, where these helping variables are known and the
  -- leaves gave this so far. What a step takes is kept in a new helping variable, whatever value of its type it is; the
  -- expressions of numbers and elements spare what is known; an index, and a value that is set or stored, is an
  -- expression of literals and helping variables.
  pub data Emits : List Known → Got → List Step → Statements → Type 0 where
    end : (known : List Known) (got : Got) → Emits known got [] empty
    offset_line : (known : List Known) (got : Got) (steps : List Step) (ss : Statements) (m : Mark) (r : Root)
        (e : Expression) (x : ℕ) → IsElement env m r e → Spares known e → helps x → Fresh x known →
        ((v : ℤ) → Emits (knows x v known) (with_offset got (first_at m) v) steps ss) →
        Emits known got (Offset m ∷ steps) (also (Declare x (Some e)) ss)
    number_line : (known : List Known) (got : Got) (steps : List Step) (ss : Statements) (of : IntType) (m : Mark)
        (e : Expression) (x : ℕ) → IsNumber env of m e → Spares known e → helps x → Fresh x known →
        IsDeclaredAs later x of →
        ((v : ℤ) → IsValue of v → Emits (knows x v known) (with_number got (first_at m) v) steps ss) →
        Emits known got (Number of m ∷ steps) (also (Declare x (Some e)) ss)
    -- a component of the variable `y`
    copy_line : (known : List Known) (got : Got) (steps : List Step) (ss : Statements) (of : IntType) (n : Named)
        (c x y : ℕ) → IsComponent env n c of y → helps x → Fresh x known → IsDeclaredAs later x of →
        ((v : ℤ) → IsValue of v → Emits (knows x v known) (with_component got n.span.first c v) steps ss) →
        Emits known got (Copy of n c ∷ steps) (also (Declare x (Some (Apply (Variable y) none))) ss)
    load_line : (known : List Known) (got : Got) (steps : List Step) (ss : Statements) (m : Mark) (c x site : ℕ)
        (r : Root) (e index : Expression) → IsElement env m r e → Own known index (index_of got m c) → helps x →
        Fresh x known →
        ((v : ℤ) → IsValue (type_in (kind_at m)) v →
        Emits (knows x v known) (with_component got (first_at m) c v) steps ss) →
        Emits known got (LoadStep m c ∷ steps)
        (also (Declare x (Some (Apply (Load site (type_in (kind_at m)) r) (single index)))) ss)
    store_line : (known : List Known) (got : Got) (steps : List Step) (ss : Statements) (m : Mark) (c j site : ℕ)
        (r : Root) (e index value : Expression) → IsElement env m r e → Own known index (index_of got m c) →
        Own known value (result got.leaves j) → Emits known got steps ss →
        Emits known got (StoreStep m c j ∷ steps)
        (also (Do (Apply (Store site (type_in (kind_at m)) r) (pair index value))) ss)
    -- a component that is there already is set, and one that is new is declared
    set_line : (known : List Known) (got : Got) (steps : List Step) (ss : Statements) (n : Named) (c j x : ℕ)
        (of : IntType) (value : Expression) → IsComponent later n c of x → Own known value (result got.leaves j) →
        Fresh x known → Emits known got steps ss →
        Emits known got (SetStep n c j ∷ steps) (also (Do (Apply (Set x) (single value))) ss)
    declare_line : (known : List Known) (got : Got) (steps : List Step) (ss : Statements) (n : Named) (c j x : ℕ)
        (of : IntType) (value : Expression) → IsComponent later n c of x → Own known value (result got.leaves j) →
        Fresh x known → Emits known got steps ss →
        Emits known got (SetStep n c j ∷ steps) (also (Declare x (Some value)) ss)
