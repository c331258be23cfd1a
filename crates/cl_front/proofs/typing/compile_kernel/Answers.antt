use Rattle.std.proofs.Common.{◌∙◌}
use Rattle.cl_tree.specs.Syntax.{view}
use Rattle.cl_meaning.specs.View.{unit_of}
use Rattle.cl_model.specs.declared.program.Program as rust_program
use Rattle.cl_check.specs.Checked.{IsRefused}
use Rattle.cl_front.specs.declared.condition.Condition.TheVariants as conditions
use Rattle.cl_front.specs.declared.front.SourceError.TheVariants as errors
use Rattle.cl_front.proofs.DoesLemmas.{has_typed, typed_formed}
use Rattle.cl_front.proofs.FaultLemmas.{fault_told, is_faulty, error_formed}
use Rattle.cl_front.proofs.typing.compile_kernel.Goals as goal

pub returns-in-Ok-clause-ok : goal.returns-in-Ok-clause-ok
returns-in-Ok-clause-ok c bytes defines is places =
    has_typed bytes defines c.args.kernel.now c.args.source.now.tokens.items (view c.args.source.now.unit)
    c.deref.result.now (unit_of c.in-Ok.program) is (c.deref.ensures.value ∙ places) c.in-Ok.ensures.accepted
    c.in-Ok.ensures.program

pub returns-in-Err-Fault-clause-err : goal.returns-in-Err-Fault-clause-err
returns-in-Err-Fault-clause-err c bytes defines is places end =
    let refused = fault_told rust_program.Program c.in-Err-Fault.field-0 c.in-Err-Fault.fault c.in-Err-Fault.token
    (IsRefused c.deref.result.now c.args.kernel.now (view c.args.source.now.unit)) c.in-Err-Fault.field-0-is
    c.in-Err-Fault.ensures.refused in
    is_faulty bytes defines c.args.kernel.now c.args.source.now.tokens.items (view c.args.source.now.unit)
    c.deref.result.now c.in-Err-Fault.fault c.in-Err-Fault.token c.token_place.result is
    (c.deref.ensures.value ∙ places) refused (c.token_place.ensures bytes places end)

pub returns-in-Ok-clause-form : goal.returns-in-Ok-clause-form
returns-in-Ok-clause-form c bytes defines fit h =
    typed_formed bytes defines c.args.kernel.now (unit_of c.in-Ok.program) fit h

pub returns-in-Err-Fault-clause-err_form : goal.returns-in-Err-Fault-clause-err_form
returns-in-Err-Fault-clause-err_form c bytes defines fit =
    error_formed bytes defines c.args.kernel.now
    (errors.Refused (conditions.Unit c.in-Err-Fault.fault) c.token_place.result) fit
