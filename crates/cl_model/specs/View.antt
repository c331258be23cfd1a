-- The plain view of a typed program: a Vec is the list of its items, and a Box what it holds.
use Rattle.std.specs.Prelude.{ℕ, true, false, List, [], ◌∷◌, Option, Some, None, map, length, slice_index}
use Rattle.std.specs.Prelude.{Bool as Test}
use Rattle.wg_num.specs.declared.types.IntType.{IntType}
use Rattle.wg_num.specs.declared.types.Bin.{Bin}
use Rattle.cl_model.specs.declared.launch.Launch.{Launch}
use Rattle.cl_model.specs.declared.launch.Buffers.{Buffers}
use Rattle.cl_model.specs.declared.program.Root.{Root}
use Rattle.cl_model.specs.declared.program.Array.{Array}
use Rattle.cl_model.specs.declared.program.Table.{Table}
use Rattle.cl_model.specs.declared.program.Function.{Function}
use Rattle.cl_model.specs.declared.program.Program.{Program}
use Rattle.cl_model.specs.declared.program.Expr.{Expr, Row_of-Expr, end_of-Expr, more_of-Expr, Row_of-Arg, end_of-Arg}
use Rattle.cl_model.specs.declared.program.Expr.{more_of-Arg}
use Rattle.cl_model.specs.declared.program.Expr.TheVariants as expr
use Rattle.cl_model.specs.declared.program.Target.{Target}
use Rattle.cl_model.specs.declared.program.Target.TheVariants as target
use Rattle.cl_model.specs.declared.program.Arg.{Arg}
use Rattle.cl_model.specs.declared.program.Arg.TheVariants as arg
use Rattle.cl_model.specs.declared.program.Stmt.{Stmt, Row_of-Stmt, end_of-Stmt, more_of-Stmt, Row_of-SwitchArm}
use Rattle.cl_model.specs.declared.program.Stmt.{end_of-SwitchArm, more_of-SwitchArm, Held-Stmt-If-3, None', Some'}
use Rattle.cl_model.specs.declared.program.Stmt.TheVariants as stmt
use Rattle.cl_model.specs.Tree as tree
use Rattle.cl_model.specs.Sizes as sizes
use Rattle.cl_model.specs.Sizes.{product}

abbrev mutual
  pub expression_of : Expr → tree.Expression
  expression_of (expr.Literal value of) = tree.Apply (tree.Literal value of) tree.none
  expression_of (expr.Variable x) = tree.Apply (tree.Variable x) tree.none
  expression_of (expr.Unary' op of p a) = tree.Apply (tree.Unary op of) (tree.single (expression_of a))
  expression_of (expr.Binary' op of p a q b) =
      tree.Apply (tree.Binary op of) (tree.pair (expression_of a) (expression_of b))
  expression_of (expr.Both' site p a q b) =
      tree.Choose site (expression_of a) (tree.truth_of (expression_of b)) (tree.decided false)
  expression_of (expr.Either' site p a q b) =
      tree.Choose site (expression_of a) (tree.decided true) (tree.truth_of (expression_of b))
  expression_of (expr.Choose' site p t q a r b) = tree.Choose site (expression_of t) (expression_of a) (expression_of b)
  expression_of (expr.Convert' to p a) = tree.Apply (tree.Convert to) (tree.single (expression_of a))
  expression_of (expr.Load' site element root p i) =
      tree.Apply (tree.Load site element root) (tree.single (expression_of i))
  expression_of (expr.Assign' target p value) = assigned target (expression_of value)
  expression_of (expr.Update' target op of back p value old) = updated target op of back old (expression_of value)
  expression_of (expr.Call' site function m row) = tree.Call site function (roots_of row) (arguments_of row)
  expression_of (expr.Builtin' f of m row) = tree.Apply (tree.Builtin f of) (expressions_of row)
  expression_of (expr.Ask' what p d) = tree.Apply (tree.Ask what) (tree.single (expression_of d))
  expression_of (expr.Then' p a q b) = tree.Apply tree.Second (tree.pair (expression_of a) (expression_of b))

  pub assigned : Target → tree.Expression → tree.Expression
  assigned (target.Var x) value = tree.Apply (tree.Set x) (tree.single value)
  assigned (target.Element' site element root p i) value =
      tree.Apply (tree.Store site element root) (tree.pair (expression_of i) value)

  pub updated : Target → Bin → IntType → IntType → Test → tree.Expression → tree.Expression
  updated (target.Var x) op of back old value =
      tree.Apply (tree.Change x op of back old) (tree.pair (tree.Apply (tree.Variable x) tree.none) value)
  updated (target.Element' site element root p i) op of back old value =
      tree.Update site element root op of back old (expression_of i) value

  pub expressions_of : {m : _} → Row_of-Expr m → tree.Expressions
  expressions_of end_of-Expr = tree.none
  expressions_of (more_of-Expr e rest) = tree.more (expression_of e) (expressions_of rest)

  -- the root of each argument that is a pointer
  pub roots_of : {m : _} → Row_of-Arg m → List (Option Root)
  roots_of end_of-Arg = []
  roots_of (more_of-Arg a rest) = root_of a ∷ roots_of rest

  pub root_of : Arg → Option Root
  root_of (arg.Value e) = None
  root_of (arg.Offset root e) = Some root

  pub arguments_of : {m : _} → Row_of-Arg m → tree.Expressions
  arguments_of end_of-Arg = tree.none
  arguments_of (more_of-Arg a rest) = tree.more (argument_of a) (arguments_of rest)

  pub argument_of : Arg → tree.Expression
  argument_of (arg.Value e) = expression_of e
  argument_of (arg.Offset root e) = expression_of e

-- of an expression that may be absent
abbrev pub optional_expression : Option Expr → Option tree.Expression
optional_expression None = None
optional_expression (Some e) = Some (expression_of e)

-- the expressions of a Vec
abbrev pub listed_expressions : List Expr → tree.Expressions
listed_expressions [] = tree.none
listed_expressions (e ∷ es) = tree.more (expression_of e) (listed_expressions es)

abbrev mutual
  pub statement_of : Stmt → tree.Statement
  statement_of (stmt.Do e) = tree.Do (expression_of e)
  statement_of (stmt.Declare x value) = tree.Declare x (optional_expression value)
  statement_of (stmt.Fill site array values) = tree.Fill site array (listed_expressions values.items)
  statement_of (stmt.Block' m row) = tree.Block (statements_of row)
  statement_of (stmt.If' site test p chosen other) =
      tree.If site (expression_of test) (tree.also (statement_of chosen) tree.empty) (other_of other)
  statement_of (stmt.Loop' site test_first test step p body) =
      tree.Loop site test_first (optional_expression test) (optional_expression step) (statement_of body)
  statement_of (stmt.Switch' site value m row) = tree.Switch site (expression_of value) (arms_of row)
  statement_of (stmt.Break site) = tree.Break site
  statement_of (stmt.Continue site) = tree.Continue site
  statement_of (stmt.Return site value) = tree.Return site (optional_expression value)
  statement_of (stmt.Barrier site) = tree.Barrier site

  pub other_of : Held-Stmt-If-3 → tree.Statements
  other_of None' = tree.empty
  other_of (Some' p s) = tree.also (statement_of s) tree.empty

  pub statements_of : {m : _} → Row_of-Stmt m → tree.Statements
  statements_of end_of-Stmt = tree.empty
  statements_of (more_of-Stmt s rest) = tree.also (statement_of s) (statements_of rest)

  pub arms_of : {m : _} → Row_of-SwitchArm m → tree.Arms
  arms_of end_of-SwitchArm = tree.no_arm
  arms_of (more_of-SwitchArm labels other m row rest) = tree.arm labels.items other (statements_of row) (arms_of rest)

-- the statements of a Vec
abbrev pub listed_statements : List Stmt → tree.Statements
listed_statements [] = tree.empty
listed_statements (s ∷ ss) = tree.also (statement_of s) (listed_statements ss)

-- the plain view of an array, a table and a function
abbrev pub array_of : Array → tree.Array
array_of a = record { space = a.space; element = a.element; count = product a.dims.items }

-- of a constant table
abbrev pub table_of : Table → tree.Table
table_of t = record { array = array_of t.array; bytes = t.bytes.items }

-- of a function
abbrev pub function_of : Function → tree.Function
function_of f = record {
  parameters = f.params;
  result = f.result;
  variables = map (λ v. v.kind) f.vars.items;
  arrays = map array_of f.arrays.items;
  body = listed_statements f.body.items;
}

-- the plain view of a program
abbrev pub program_of : Program → tree.Program
program_of p = record {
  tables = map table_of p.tables.items;
  functions = map function_of p.functions.items;
  kernel = p.kernel;
  sites = p.sites.items;
}

-- the first three numbers of a list
abbrev pub three_of : List ℕ → List ℕ
three_of ns = slice_index ns 0 ∷ slice_index ns 1 ∷ slice_index ns 2 ∷ []

-- the plain view of a launch
abbrev pub launch_of : Launch → sizes.Launch
launch_of l = record {
  dims = l.dims;
  global = three_of l.global;
  local = three_of l.local;
  offset = three_of l.offset;
  turns = l.turns;
  args = l.args.items;
  lengths = l.lengths.items;
  load_count = length l.loads.items;
  save_count = length l.saves.items;
}

-- the bytes of each buffer
abbrev pub buffers_of : Buffers → List (List ℕ)
buffers_of b = map (λ v. v.items) b.list.items
