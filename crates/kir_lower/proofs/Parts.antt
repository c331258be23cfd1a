-- Nodes whose parts stand in a `Vec`, and their parts one after another.
use Rattle.std.proofs.Common.{◌≡◌, ◌∷◌, ◌++◌, List, [], ℕ, suc, ◌+◌, add-one, ap, ap₂, sym, ◌∙◌, append_assoc, Global}
use Rattle.std.specs.declared.vec.Vec.{Vec}
use Rattle.wg_num.specs.declared.types.IntType.{IntType}
use Rattle.wg_num.specs.declared.types.Fun.{Fun}
use Rattle.cl_model.specs.declared.program.Expr.{Expr}
use Rattle.cl_model.specs.declared.program.Expr.TheVariants as expr
use Rattle.cl_model.specs.declared.program.Arg.{Arg}
use Rattle.cl_model.specs.declared.program.Stmt.{Stmt}
use Rattle.cl_model.specs.declared.program.Stmt.TheVariants as stmt
use Rattle.cl_model.specs.declared.program.SwitchArm.{SwitchArm}
use Rattle.cl_model.specs.Tree as tree
use Rattle.cl_model.specs.Tree.{Expression, Expressions}
use Rattle.cl_model.specs.View.{expression_of, listed_expressions, statement_of, listed_statements}
use Rattle.cl_model.specs.declared.program.Root.{Root}
use Rattle.cl_model.specs.Calls.{function_at}
use Rattle.kir.specs.Lowering.{Named}
use Rattle.kir.specs.Tree.{Lines, joined_to}
use Rattle.cl_model.specs.Listed.{listed_roots, listed_arguments, listed_arms}
use Rattle.cl_model.proofs.Rows.{builtin_listed, call_listed, block_listed, switch_listed}
use Rattle.kir_lower.specs.declared.places.Value.{Value}
use Rattle.kir_lower.specs.Made.{Made, Instance, next_cell}
use Rattle.kir_lower.specs.Actions.{Steps, behind}
use Rattle.kir_lower.specs.Whole.{names_at, way_behind, instance_at, with_instance, parameter_lines, call_code}
use Rattle.kir_lower.specs.Code.{Calls, expression_code, operands_code, body_code}
use Rattle.kir_lower.proofs.Going.{joined_step}
use Rattle.kir_lower.proofs.Lists.{join_assoc}

pub builtin_parts : (e : Expr) (f : Fun) (of : IntType) (args : Vec Expr Global) (xs : List Expr) →
    e ≡ expr.Builtin f of args → xs ≡ args.items → tree.Apply (tree.Builtin f of) (listed_expressions xs) ≡
    expression_of e
builtin_parts e f of args xs h k = ap (λ z. tree.Apply (tree.Builtin f of) (listed_expressions z)) k ∙
    sym (ap expression_of h ∙ builtin_listed f of args)

pub call_parts : (e : Expr) (site function : ℕ) (args : Vec Arg Global) (xs : List Arg) →
    e ≡ expr.Call site function args → xs ≡ args.items →
    tree.Call site function (listed_roots xs) (listed_arguments xs) ≡ expression_of e
call_parts e site function args xs h k = ap (λ z. tree.Call site function (listed_roots z) (listed_arguments z)) k ∙
    sym (ap expression_of h ∙ call_listed site function args)

pub block_parts : (s : Stmt) (list : Vec Stmt Global) (xs : List Stmt) → s ≡ stmt.Block list → xs ≡ list.items →
    tree.Block (listed_statements xs) ≡ statement_of s
block_parts s list xs h k = ap (λ z. tree.Block (listed_statements z)) k ∙ sym (ap statement_of h ∙ block_listed list)

pub switch_parts : (s : Stmt) (site : ℕ) (value : Expr) (arms : Vec SwitchArm Global) (xs : List SwitchArm) →
    s ≡ stmt.Switch site value arms → xs ≡ arms.items → tree.Switch site (expression_of value) (listed_arms xs) ≡
    statement_of s
switch_parts s site value arms xs h k = ap (λ z. tree.Switch site (expression_of value) (listed_arms z)) k ∙
    sym (ap statement_of h ∙ switch_listed site value arms)

-- operands, the first apart
pub operand_lines : (calls : Calls) (here : Instance) (list : Expressions) (e : Expression) (others : Expressions)
    (all lines more : Lines) (made behind : Made) → list ≡ tree.more e others
    → all ≡ joined_to lines (operands_code calls here list made).lines →
    more ≡ joined_to lines (expression_code calls here e made).lines →
    behind ≡ (expression_code calls here e made).made
    → all ≡ joined_to more (operands_code calls here others behind).lines
unfolding expression_code
operand_lines calls here list e others all lines more made behind h w a b =
    joined_step all lines more (expression_code calls here e made).lines
    (operands_code calls here others (expression_code calls here e made).made).lines
    (w ∙ ap (λ z. joined_to lines (operands_code calls here z made).lines) h) a
    ∙ ap (λ z. joined_to more (operands_code calls here others z).lines) (sym b)

pub operand_values : (calls : Calls) (here : Instance) (list : Expressions) (e : Expression) (others : Expressions)
    (all values longer : List Value) (v : Value) (made behind : Made) → list ≡ tree.more e others
    → all ≡ values ++ (operands_code calls here list made).values → longer ≡ values ++ v ∷ [] →
    v ≡ (expression_code calls here e made).value → behind ≡ (expression_code calls here e made).made
    → all ≡ longer ++ (operands_code calls here others behind).values
unfolding expression_code
operand_values calls here list e others all values longer v made behind h w a k b =
    let rest = (operands_code calls here others (expression_code calls here e made).made).values in
    w ∙ ap (λ z. values ++ (operands_code calls here z made).values) h
    ∙ ap (λ z. values ++ z ∷ rest) (sym k)
    ∙ sym (append_assoc values (v ∷ []) rest)
    ∙ ap₂ (λ y z. y ++ (operands_code calls here others z).values) (sym a) (sym b)

pub operand_made : (calls : Calls) (here : Instance) (list : Expressions) (e : Expression) (others : Expressions)
    (all made behind : Made) → list ≡ tree.more e others
    → all ≡ (operands_code calls here list made).made → behind ≡ (expression_code calls here e made).made →
    all ≡ (operands_code calls here others behind).made
unfolding expression_code
operand_made calls here list e others all made behind h w b =
    w ∙ ap (λ z. (operands_code calls here z made).made) h ∙ ap (λ z. (operands_code calls here others z).made) (sym b)

-- steps behind lines
abbrev pub after : Lines → Steps → Steps
after lines steps = record { lines = joined_to lines steps.lines; made = steps.made }

-- lines behind the lines of a value
pub behind_lines : (lines more : Lines) (first rest : Lines) → more ≡ joined_to lines first →
    joined_to more rest ≡ joined_to lines (joined_to first rest)
behind_lines lines more first rest h = ap (λ z. joined_to z rest) h ∙ join_assoc lines first rest

-- a call is its function's body behind its parameters
pub call_entered : (program : tree.Program) (names : List (List Named)) (depth inner : ℕ) (here there : Instance)
    (site function : ℕ) (f : tree.Function) (own : List Named) (roots : List Root) (values : List Value)
    (made behind_made : Made)
    → inner + 1 ≡ depth → f ≡ function_at program function → own ≡ names_at names function
    → there ≡ instance_at (way_behind program here site function roots) f made →
    behind_made ≡ with_instance (way_behind program here site function roots) own f made
    → behind (parameter_lines there.base values) (body_code (call_code program names inner) there f behind_made) ≡
    call_code program names depth here site function roots values made
unfolding call_code
call_entered program names depth inner here there site function f own roots values made behind_made e ef eo et em =
    let way = way_behind program here site function roots in
    let calls = call_code program names inner in
    let one : suc inner ≡ depth = sym (add-one inner) ∙ e in
    ap (λ (z : Instance). behind (parameter_lines z.base values) (body_code calls z f behind_made)) et
    ∙ ap (λ z. behind (parameter_lines (next_cell made) values) (body_code calls (instance_at way f made) f z)) em
    ∙ ap (λ z. behind (parameter_lines (next_cell made) values)
    (body_code calls (instance_at way f made) f (with_instance way z f made))) eo
    ∙ ap (λ z. behind (parameter_lines (next_cell made) values)
    (body_code calls (instance_at way z made) z (with_instance way (names_at names function) z made))) ef
    ∙ ap (λ d. call_code program names d here site function roots values made) one
