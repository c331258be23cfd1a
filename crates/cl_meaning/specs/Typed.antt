-- A typed unit with its names, and the piece of it for which a node stands.
use Rattle.std.specs.Prelude.{ℕ, ℤ, Bool, List, Option}
use Rattle.wg_num.specs.declared.types.IntType.{IntType}
use Rattle.wg_num.specs.declared.types.Place.{Place}
use Rattle.cl_model.specs.declared.program.Root.{Root}
use Rattle.cl_model.specs.Tree.{Expression, Statement, Statements}
use Rattle.cl_meaning.specs.declared.kind.Kind.{Kind}
use Rattle.cl_meaning.specs.Environment.{Variable, Array, Table}

-- a function: its first `parameters` variables are its parameters, and `sizes` is the work-group size that it requires
pub record Function : Type 0 where
  pub name : List ℕ
  pub parameters : ℕ
  pub result : Option IntType
  pub variables : List Variable
  pub arrays : List Array
  pub body : Statements
  pub sizes : Option (List ℕ)

-- a unit: its constant tables, its functions, the number of the kernel, and the place of each site
pub record Unit' : Type 0 where
  pub tables : List Table
  pub functions : List Function
  pub kernel : ℕ
  pub sites : List Place

-- what an assignment sets
pub data Target : Type 0 where
  variable : (x : ℕ) → Target
  element : (site : ℕ) (of : IntType) (root : Root) (index : Expression) → Target

pub data What : Type 0 where
  -- of a node that stands for nothing by itself
  nothing : What
  value : Expression → What
  target : Target → What
  -- a pointer into an array: its offset, where it is not its first element
  offset : Option Expression → What
  -- the values of a list
  values : List Expression → What
  barrier : (site : ℕ) → What
  fence : What
  -- what a declaration does
  lines : Statements → What
  statement : Statement → What
  -- a statement behind labels, with `default` or without
  labelled : (labels : List ℤ) (other : Bool) (behind : Statement) → What
  function : Function → What
  functions : List Function → What

-- what a node stands for, with its kind where it is an expression
pub record Piece : Type 0 where
  pub kind : Option Kind
  pub what : What

-- what a node is made into, with the places of the sites so far
pub record Built : Type 0 where
  pub what : What
  pub sites : List Place

-- what a tree stands for, with the places of the sites so far
pub record Made : Type 0 where
  pub piece : Piece
  pub sites : List Place
