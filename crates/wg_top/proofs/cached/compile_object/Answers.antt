use Rattle.std.proofs.Common.{rules}
use Rattle.std.proofs.lemmas.Result.{IfErr-weaker}
use Rattle.launch_file.specs.Texts.{text_of}
use Rattle.wg_top.specs.Given.{IsReadFrom}
use Rattle.wg_top.proofs.ObjectCauseLemmas.{kernel_typed}
use Rattle.wg_top.proofs.cached.compile_object.Goals as goal

pub object_of_kernel-requires : goal.object_of_kernel-requires
object_of_kernel-requires c =
    let read : IsReadFrom c.args.bytes.now (text_of c.args.text.now).defines c.in-Some.source = search rules in
    record { selections = read.plain }

pub returns-in-Err-clause-err : goal.returns-in-Err-clause-err
returns-in-Err-clause-err c = c.in-Err.ensures.err c.args.kernel.now

pub returns-clause-err : goal.returns-clause-err
returns-clause-err c =
    let read : IsReadFrom c.args.bytes.now (text_of c.args.text.now).defines c.in-Some.source = search rules in
    IfErr-weaker _ _ _ (λ e cause. kernel_typed c.args.bytes.now (text_of c.args.text.now).defines c.args.kernel.now e
    (cause c.args.bytes.now (text_of c.args.text.now).defines read.is read.places read.end))
    c.object_of_kernel.ensures.err
