use Rattle.cl_front.proofs.CompileLemmas.{source_refused, unit_refused}
use Rattle.cl_front.proofs.FaultLemmas.{error_formed}
use Rattle.cl_front.proofs.typing.compile.Goals as goal

pub returns-in-Err-clause-err : goal.returns-in-Err-clause-err
returns-in-Err-clause-err c =
    source_refused c.args.source.now c.args.defines.now.list.items c.args.kernel.now c.in-Err.error c.in-Err.ensures.err

pub returns-clause-err : goal.returns-clause-err
returns-clause-err c = unit_refused c.args.source.now c.args.defines.now.list.items c.args.kernel.now
    c.in-Err-compile_kernel.error (c.in-Err-compile_kernel.ensures.err c.args.source.now c.args.defines.now.list.items
    c.in-Ok.ensures.is c.in-Ok.ensures.places c.in-Ok.ensures.end)

pub returns-in-Ok-compile_kernel-clause-form : goal.returns-in-Ok-compile_kernel-clause-form
returns-in-Ok-compile_kernel-clause-form c fit h =
    c.in-Ok-compile_kernel.ensures.form c.args.source.now c.args.defines.now.list.items fit h

pub returns-clause-err_form : goal.returns-clause-err_form
returns-clause-err_form c fit = error_formed c.args.source.now c.args.defines.now.list.items c.args.kernel.now
    c.in-Err-compile_kernel.error fit
