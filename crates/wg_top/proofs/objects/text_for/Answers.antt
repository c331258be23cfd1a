use Rattle.std.proofs.Common.{ℕ, Vec, Global}
use Rattle.std.proofs.lemmas.Result.{IfOk-weaker, IfErr-weaker}
use Rattle.command_words.specs.Command.{build_of}
use Rattle.launch_file.specs.Texts.{text_of}
use Rattle.wg_top.specs.Causes.{Standing, standing}
use Rattle.wg_top.proofs.CauseLemmas.{text_before}
use Rattle.wg_top.proofs.RunLemmas.{numbers_fit}
use Rattle.wg_top.proofs.ObjectCauseLemmas.{build_source_cause, build_launch, build_first, made_text}
use Rattle.wg_top.proofs.objects.text_for.Goals as goal

pub returns-in-Err-load_launch-clause-err : goal.returns-in-Err-load_launch-clause-err
returns-in-Err-load_launch-clause-err g c =
    let old : Standing = standing g.S.Store.files g.S.Store.faults g.S.Store.misses c.args.store.now in
    let mid : Standing = standing g.S.Store.files g.S.Store.faults g.S.Store.misses c.load_source.new.store in
    build_launch old mid (standing g.S.Store.files g.S.Store.faults g.S.Store.misses c.load_launch.new.store)
    (build_of c.args.files) c.in-Ok.bytes.items c.in-Err-load_launch.error c.in-Ok.ensures.ok c.in-Ok.ensures.files_stay
    c.in-Ok.ensures.stands c.in-Err-load_launch.ensures.stands c.in-Err-load_launch.ensures.err

pub returns-clause-ok : goal.returns-clause-ok
returns-clause-ok g c =
    let old : Standing = standing g.S.Store.files g.S.Store.faults g.S.Store.misses c.args.store.now in
    let read = text_before old.files (g.S.Store.files c.load_source.new.store) _ _ _ _ c.in-Ok.ensures.files_stay
    c.in-Ok-load_launch.ensures.ok in
    IfOk-weaker _ _ _ (λ (v : Vec ℕ Global) is. made_text old.files (build_of c.args.files) c.in-Ok.bytes.items
    c.deref.result.now
    (text_of c.in-Ok-load_launch.text) v.items read
    (numbers_fit _ c.in-Ok-load_launch.ensures.is.numbers) c.in-Ok.ensures.ok c.deref.ensures.value is)
    c.first_text.ensures.ok

pub returns-clause-err : goal.returns-clause-err
returns-clause-err g c =
    let old : Standing = standing g.S.Store.files g.S.Store.faults g.S.Store.misses c.args.store.now in
    let read = text_before old.files (g.S.Store.files c.load_source.new.store) _ _ _ _ c.in-Ok.ensures.files_stay
    c.in-Ok-load_launch.ensures.ok in
    IfErr-weaker _ _ _ (λ e cause. build_first old
    (standing g.S.Store.files g.S.Store.faults g.S.Store.misses c.load_launch.new.store) (build_of c.args.files)
    c.in-Ok.bytes.items c.deref.result.now (text_of c.in-Ok-load_launch.text) e read
    (numbers_fit _ c.in-Ok-load_launch.ensures.is.numbers) c.in-Ok.ensures.ok
    c.deref.ensures.value cause) c.first_text.ensures.err

pub returns-in-Err-clause-err : goal.returns-in-Err-clause-err
returns-in-Err-clause-err g c =
    build_source_cause (standing g.S.Store.files g.S.Store.faults g.S.Store.misses c.args.store.now)
    (standing g.S.Store.files g.S.Store.faults g.S.Store.misses c.load_source.new.store) (build_of c.args.files)
    c.in-Err.error c.in-Err.ensures.err
