-- A typed program as plain trees. Equal texts at two places are told apart by the way that leads to them (`Task`).
use Rattle.std.specs.Prelude.{ℕ, ℤ, List, Option}
use Rattle.std.specs.Prelude.{Bool as Test}
use Rattle.wg_num.specs.declared.types.IntType.{IntType}
use Rattle.wg_num.specs.declared.types.Un.{Un}
use Rattle.wg_num.specs.declared.types.Bin.{Bin}
use Rattle.wg_num.specs.declared.types.Fun.{Fun}
use Rattle.wg_num.specs.declared.types.Place.{Place}
use Rattle.cl_model.specs.declared.program.Space.{Space}
use Rattle.cl_model.specs.declared.program.Root.{Root}
use Rattle.cl_model.specs.declared.program.VarKind.{VarKind}
use Rattle.cl_model.specs.declared.program.Query.{Query}

-- the step that a node makes when its operands have their values
pub data Action : Type 0 where
  Literal : (value : ℤ) (of : IntType) → Action
  Variable : (x : ℕ) → Action
  Unary : (op : Un) (of : IntType) → Action
  Binary : (op : Bin) (of : IntType) → Action
  Builtin : (f : Fun) (of : IntType) → Action
  Convert : (to : IntType) → Action
  Ask : (what : Query) → Action
  -- the comma: the value of its second part
  Second : Action
  -- the right part of && and ||: whether its value is not 0
  Truth : Action
  -- what && and || give where their left part decides
  Decided : (answer : Test) → Action
  -- sets a variable
  Set : (x : ℕ) → Action
  -- sets a variable to the result of an operator on its old value and another: a compound assignment, ++ or --
  Change : (x : ℕ) (op : Bin) (of back : IntType) (old : Test) → Action
  Load : (site : ℕ) (element : IntType) (root : Root) → Action
  Store : (site : ℕ) (element : IntType) (root : Root) → Action

mutual
  -- an expression
  pub data Expression : Type 0 where
    -- the operands from left to right, then a step on their values
    Apply : (action : Action) (operands : Expressions) → Expression
    -- a compound assignment to an element, ++ or --
    Update : (site : ℕ) (element : IntType) (root : Root) (op : Bin) (of back : IntType) (old : Test)
        (index value : Expression) → Expression
    -- the test, then one of the two others: ?:, && and ||
    Choose : (site : ℕ) (test chosen other : Expression) → Expression
    -- a call, with the root of each argument that is a pointer, whose value is its element offset
    Call : (site function : ℕ) (roots : List (Option Root)) (arguments : Expressions) → Expression

  -- expressions in order
  pub data Expressions : Type 0 where
    none : Expressions
    more : (first : Expression) (rest : Expressions) → Expressions

-- one operand, and two
abbrev pub single : Expression → Expressions
single a = more a none

-- two operands
abbrev pub pair : Expression → Expression → Expressions
pair a b = more a (more b none)

-- the right part of && or ||
abbrev pub truth_of : Expression → Expression
truth_of a = Apply Truth (single a)

-- what && or || gives where its left part decides
abbrev pub decided : Test → Expression
decided answer = Apply (Decided answer) none

mutual
  -- a statement
  pub data Statement : Type 0 where
    Do : (value : Expression) → Statement
    Declare : (x : ℕ) (value : Option Expression) → Statement
    -- makes a private array zeros and stores values into its first elements
    Fill : (site array : ℕ) (values : Expressions) → Statement
    Block : (list : Statements) → Statement
    If : (site : ℕ) (test : Expression) (chosen other : Statements) → Statement
    Loop : (site : ℕ) (test_first : Test) (test step : Option Expression) (body : Statement) → Statement
    Switch : (site : ℕ) (value : Expression) (arms : Arms) → Statement
    Break : (site : ℕ) → Statement
    Continue : (site : ℕ) → Statement
    Return : (site : ℕ) (value : Option Expression) → Statement
    Barrier : (site : ℕ) → Statement

  -- statements in order
  pub data Statements : Type 0 where
    empty : Statements
    also : (first : Statement) (rest : Statements) → Statements

  -- the arms of a switch: the labels in front of each, whether `default` is one of them, and its statements
  pub data Arms : Type 0 where
    no_arm : Arms
    arm : (labels : List ℤ) (other : Test) (body : Statements) (rest : Arms) → Arms

-- an array: its space, the type of its elements and their number
pub record Array : Type 0 where
  pub space : Space
  pub element : IntType
  pub count : ℕ

-- a constant table with its bytes
pub record Table : Type 0 where
  pub array : Array
  pub bytes : List ℕ

-- a function: its first `parameters` variables are its parameters
pub record Function : Type 0 where
  pub parameters : ℕ
  pub result : Option IntType
  pub variables : List VarKind
  pub arrays : List Array
  pub body : Statements

-- a program: its constant tables, its functions, the number of its kernel and the place of each site
pub record Program : Type 0 where
  pub tables : List Table
  pub functions : List Function
  pub kernel : ℕ
  pub sites : List Place
