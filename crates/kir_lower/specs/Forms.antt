-- Which expressions and statements a function of the lowering is for.
use Rattle.std.specs.Prelude.{Bool as Test, true, false}
use Rattle.cl_model.specs.declared.program.Expr.{Expr}
use Rattle.cl_model.specs.declared.program.Expr.TheVariants as expr
use Rattle.cl_model.specs.declared.program.Stmt.{Stmt}
use Rattle.cl_model.specs.declared.program.Stmt.TheVariants as stmt
use Rattle.cl_model.specs.declared.program.Target.TheVariants as target

-- an operator with one operand, a conversion, a work-item function or `a, b`
abbrev pub is_operation : Expr → Test
is_operation (expr.Unary' op of p a) = true
is_operation (expr.Convert' to p a) = true
is_operation (expr.Ask' what p dim) = true
is_operation (expr.Then' p a q b) = true
is_operation _ = false

-- an operator with two operands
abbrev pub is_pair : Expr → Test
is_pair (expr.Binary' op of p a q b) = true
is_pair _ = false

-- a load of an element
abbrev pub is_load : Expr → Test
is_load (expr.Load' site element root p index) = true
is_load _ = false

-- a built-in function
abbrev pub is_application : Expr → Test
is_application (expr.Builtin' f of m row) = true
is_application _ = false

-- `&&` or `||`
abbrev pub is_decision : Expr → Test
is_decision (expr.Both' site p a q b) = true
is_decision (expr.Either' site p a q b) = true
is_decision _ = false

-- `?:`
abbrev pub is_alternative : Expr → Test
is_alternative (expr.Choose' site p test q chosen r other) = true
is_alternative _ = false

-- a compound assignment, `++` or `--` of a variable
abbrev pub is_update : Expr → Test
is_update (expr.Update' (target.Var x) op of back p value old) = true
is_update _ = false

-- the same of an element
abbrev pub is_element_update : Expr → Test
is_element_update (expr.Update' (target.Element' site element root q index) op of back p value old) = true
is_element_update _ = false

-- a call
abbrev pub is_call : Expr → Test
is_call (expr.Call' site function m row) = true
is_call _ = false

-- an array with initial values
abbrev pub is_fill : Stmt → Test
is_fill (stmt.Fill site array values) = true
is_fill _ = false

-- an `if`
abbrev pub is_if : Stmt → Test
is_if (stmt.If' site test p chosen other) = true
is_if _ = false

-- a loop
abbrev pub is_loop : Stmt → Test
is_loop (stmt.Loop' site test_first test step p body) = true
is_loop _ = false

-- a `switch`
abbrev pub is_switch : Stmt → Test
is_switch (stmt.Switch' site value m row) = true
is_switch _ = false
