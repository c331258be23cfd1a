use Rattle.std.proofs.Common.{ℕ, Vec, Global}
use Rattle.std.proofs.lemmas.Result.{IfOk-weaker, IfErr-weaker}
use Rattle.launch_file.specs.Texts.{text_of}
use Rattle.wg_top.proofs.ObjectLemmas.{first_named, first_there}
use Rattle.wg_top.proofs.ObjectCauseLemmas.{first_is, first_cause, refused_first, without_launches}
use Rattle.wg_top.proofs.objects.first_text.Goals as goal

pub returns-in-Ok-clause-ok : goal.returns-in-Ok-clause-ok
returns-in-Ok-clause-ok c = IfOk-weaker _ _ _ (λ (v : Vec ℕ Global) from. first_is c.args.bytes.now (text_of
    c.args.text.now)
    c.index.result.now.kernel v.items
    (first_named c.args.text.now.list.items c.index.result.now c.requires.some c.index.ensures)
    (from c.args.bytes.now (text_of c.args.text.now).defines c.requires.numbers c.in-Ok.ensures.is
    c.in-Ok.ensures.places)) c.kernel_text.ensures.ok

pub returns-in-Ok-clause-err : goal.returns-in-Ok-clause-err
returns-in-Ok-clause-err c = IfErr-weaker _ _ _ (λ e cause. first_cause c.args.bytes.now (text_of c.args.text.now)
    c.index.result.now.kernel e
    (first_named c.args.text.now.list.items c.index.result.now c.requires.some c.index.ensures)
    (cause c.args.bytes.now (text_of c.args.text.now).defines c.in-Ok.ensures.is c.in-Ok.ensures.places
    c.in-Ok.ensures.end)) c.kernel_text.ensures.err

pub returns-in-Err-clause-err : goal.returns-in-Err-clause-err
returns-in-Err-clause-err c =
    let text = text_of c.args.text.now in
    let first = first_there c.args.text.now.list.items c.requires.some in
    refused_first c.args.bytes.now text first.0 _ first.1
    (c.refused.ensures.source c.args.bytes.now (without_launches text) c.in-Err.ensures.err)
