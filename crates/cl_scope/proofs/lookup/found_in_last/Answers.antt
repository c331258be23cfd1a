use Rattle.std.proofs.Common.{length, sym, ◌∙◌, arith, ◌-◌}
use Rattle.cl_scope.proofs.ScopeLaws.{last_scope}
use Rattle.cl_scope.proofs.lookup.found_in_last.Goals as goal

pub returns-in-len1-up : goal.returns-in-len1-up
returns-in-len1-up c = c.find.ensures ∙
    sym (last_scope c.args.scopes.now (length c.args.scopes.now - 1) c.scope-item.result c.args.name.now (omega arith)
    c.scope-item.is)
