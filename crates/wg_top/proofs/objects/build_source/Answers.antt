use Rattle.command_words.specs.Command.{build_of}
use Rattle.wg_top.specs.Causes.{standing}
use Rattle.wg_top.proofs.ObjectCauseLemmas.{is_built, build_left, build_stopped}
use Rattle.wg_top.proofs.objects.build_source.Goals as goal

pub returns-in-Ok-save-clause-ok : goal.returns-in-Ok-save-clause-ok
returns-in-Ok-save-clause-ok g c =
    is_built (g.S.Store.files c.args.store.now) (g.S.Store.files c.text_for.new.store) _ (build_of c.args.files)
    c.in-Ok.text.items c.deref.result.now c.in-Ok.ensures.ok c.in-Ok.ensures.files_stay c.deref.ensures.value
    c.in-Ok-save.ensures.saved c.in-Ok-save.ensures.others

pub returns-clause-left : goal.returns-clause-left
returns-clause-left g c =
    build_stopped (standing g.S.Store.files g.S.Store.faults g.S.Store.misses c.args.store.now)
    (standing g.S.Store.files g.S.Store.faults g.S.Store.misses c.text_for.new.store)
    (standing g.S.Store.files g.S.Store.faults g.S.Store.misses c.save.new.self) (build_of c.args.files)
    c.in-Ok.text.items c.in-Ok.ensures.ok c.in-Ok.ensures.files_stay c.save.ensures.others

pub returns-in-Err-clause-left : goal.returns-in-Err-clause-left
returns-in-Err-clause-left g c =
    build_left (standing g.S.Store.files g.S.Store.faults g.S.Store.misses c.args.store.now)
    (standing g.S.Store.files g.S.Store.faults g.S.Store.misses c.text_for.new.store) (build_of c.args.files)
    c.in-Err.error c.in-Err.ensures.files_stay
