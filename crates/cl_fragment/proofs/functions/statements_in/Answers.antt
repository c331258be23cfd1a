use Rattle.std.proofs.Common.{sym, ap, ◌∙◌}
use Rattle.cl_model.specs.declared.program.Stmt.{Stmt}
use Rattle.cl_model.specs.Tree.{Statement}
use Rattle.cl_model.specs.View.{statement_of}
use Rattle.cl_model.proofs.Rows.{block_listed}
use Rattle.cl_meaning.specs.Typed.{statement}
use Rattle.cl_meaning.specs.Statements.{block_of}
use Rattle.cl_fragment.proofs.functions.statements_in.Goals as goal

pub returns-in-Block : goal.returns-in-Block
returns-in-Block c =
    sym (
    ap (λ (s : Stmt). block_of (statement (statement_of s))) c.in-Block.is
    ∙ ap (λ (s : Statement). block_of (statement s)) (block_listed c.in-Block.list)
    )
