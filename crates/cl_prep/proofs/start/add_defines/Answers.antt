use Rattle.std.proofs.Common.{Some, sym, ◌∙◌}
use Rattle.cl_prep.specs.Start.{with_define, with_defines}
use Rattle.cl_prep.specs.Table.{names_of}
use Rattle.cl_prep.proofs.GivenNames.{refused_at, adds_err}
use Rattle.cl_prep.proofs.start.add_defines.Goals as goal

pub returns-in-Err : goal.returns-in-Err
returns-in-Err c =
    adds_err (with_define c.define-item.result (Some (names_of c.loop-define.names)))
    (with_defines (Some (names_of c.args.names.now)) c.args.defines.now) c.in-Err.error
    (names_of c.add_define.new.names) (names_of c.add_define.new.names)
    (λ none. sym c.loop-define.invariant ∙
    refused_at (Some (names_of c.loop-define.names)) c.args.defines.now c.loop-define.define-index
    c.define-item.result c.loop-define-test.true c.define-item.is none)
    c.in-Err.ensures
