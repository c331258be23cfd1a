use Rattle.std.proofs.Common.{List, sym, subst}
use Rattle.cl_token.specs.declared.token.Token.{Token}
use Rattle.cl_front.specs.Front.{Reads}
use Rattle.cl_front.proofs.DoesLemmas.{read_formed}
use Rattle.cl_front.proofs.typing.read_source.Goals as goal

pub returns-in-Err-read_unit-clause-err : goal.returns-in-Err-read_unit-clause-err
returns-in-Err-read_unit-clause-err c =
    c.in-Err-read_unit.ensures.err c.args.defines.now.list.items c.in-Ok.ensures.expanded.0
    (subst (λ (ts : List Token). Reads c.args.source.now c.args.defines.now.list.items c.in-Ok.ensures.expanded.0 ts)
    (sym c.deref.ensures.value) c.in-Ok.ensures.expanded.1)

pub returns-in-Ok-read_unit-clause-form : goal.returns-in-Ok-read_unit-clause-form
returns-in-Ok-read_unit-clause-form c =
    read_formed c.args.source.now c.args.defines.now.list.items c.with_unit.result
