use Rattle.std.proofs.Common.{length, arith, ◌-◌, ◌∙◌, ap, sym}
use Rattle.std.proofs.lemmas.Result.{on_ok_weaker}
use Rattle.cl_meaning.specs.Environment.{with_entry}
use Rattle.cl_scope.specs.View.{scope_of}
use Rattle.cl_scope.proofs.ScopeLaws.{inserted_last}
use Rattle.cl_scope.proofs.scopes.insert_into_last.Goals as goal

pub returns : goal.returns
returns c = on_ok_weaker c.insert.result
    (λ h. inserted_last c.args.scopes.now (length c.args.scopes.now - 1) c.index-scopes-count.result
    c.insert.new.scope c.args.name.now c.args.entry (omega arith) c.index-scopes-count.is
    (h ∙ ap (λ m. with_entry (scope_of m) c.args.name.now c.args.entry) (sym c.index-scopes-count.is)))
    c.insert.ensures
