use Rattle.std.proofs.lemmas.Result.{IfOk-weaker, IfErr-weaker}
use Rattle.command_words.specs.Command.{ObjectFiles, object_of as files_of}
use Rattle.launch_file.specs.Texts.{Text, text_of}
use Rattle.wg_object.specs.Plain.{PlainObject}
use Rattle.wg_object.specs.View.{object_of}
use Rattle.wg_top.specs.Causes.{Standing, standing}
use Rattle.wg_top.proofs.ObjectCauseLemmas.{taking_cause, taking_leaves, taken_cause, taken_leaves, exec_done}
use Rattle.wg_top.proofs.objects.exec_object.Goals as goal

pub returns-in-Err-clause-err : goal.returns-in-Err-clause-err
returns-in-Err-clause-err g c =
    taking_cause (standing g.S.Store.files g.S.Store.faults g.S.Store.misses c.args.store.now)
    (standing g.S.Store.files g.S.Store.faults g.S.Store.misses c.take_object.new.store) _ c.in-Err.error
    c.in-Err.ensures.err

pub returns-in-Err-clause-left : goal.returns-in-Err-clause-left
returns-in-Err-clause-left g c =
    taking_leaves (standing g.S.Store.files g.S.Store.faults g.S.Store.misses c.args.store.now)
    (standing g.S.Store.files g.S.Store.faults g.S.Store.misses c.take_object.new.store) _ c.in-Err.error
    c.in-Err.ensures.files_stay

pub returns-in-Ok-clause-ok : goal.returns-in-Ok-clause-ok
returns-in-Ok-clause-ok g c =
    let old : Standing = standing g.S.Store.files g.S.Store.faults g.S.Store.misses c.args.store.now in
    let mid : Standing = standing g.S.Store.files g.S.Store.faults g.S.Store.misses c.take_object.new.store in
    let ask : ObjectFiles = files_of c.args.files in
    let text : Text = text_of c.in-Ok.taken.text in
    let o : PlainObject = object_of c.in-Ok.taken.object in
    IfOk-weaker _ _ _ (λ summary run. exec_done old.files mid.files _ ask text o summary c.in-Ok.ensures.ok
    c.in-Ok.ensures.files_stay run) c.run_taken.ensures.ok

pub returns-in-Ok-clause-err : goal.returns-in-Ok-clause-err
returns-in-Ok-clause-err g c =
    let old : Standing = standing g.S.Store.files g.S.Store.faults g.S.Store.misses c.args.store.now in
    let mid : Standing = standing g.S.Store.files g.S.Store.faults g.S.Store.misses c.take_object.new.store in
    let new : Standing = standing g.S.Store.files g.S.Store.faults g.S.Store.misses c.run_taken.new.store in
    let ask : ObjectFiles = files_of c.args.files in
    let text : Text = text_of c.in-Ok.taken.text in
    let o : PlainObject = object_of c.in-Ok.taken.object in
    IfErr-weaker _ _ _ (λ error cause. taken_cause old mid new ask text o error c.in-Ok.ensures.ok
    c.in-Ok.ensures.files_stay c.in-Ok.ensures.stands c.run_taken.ensures.stands cause) c.run_taken.ensures.err

pub returns-in-Ok-clause-left : goal.returns-in-Ok-clause-left
returns-in-Ok-clause-left g c =
    let old : Standing = standing g.S.Store.files g.S.Store.faults g.S.Store.misses c.args.store.now in
    let mid : Standing = standing g.S.Store.files g.S.Store.faults g.S.Store.misses c.take_object.new.store in
    let new : Standing = standing g.S.Store.files g.S.Store.faults g.S.Store.misses c.run_taken.new.store in
    let ask : ObjectFiles = files_of c.args.files in
    let text : Text = text_of c.in-Ok.taken.text in
    let o : PlainObject = object_of c.in-Ok.taken.object in
    IfErr-weaker _ _ _ (λ error left. taken_leaves old mid new ask text o error c.in-Ok.ensures.ok
    c.in-Ok.ensures.files_stay left) c.run_taken.ensures.left
