use Rattle.std.proofs.Common.{refl}
use Rattle.command_words.specs.Command.{object_of as files_of}
use Rattle.launch_file.specs.Texts.{text_of}
use Rattle.wg_object.specs.View.{object_of}
use Rattle.wg_top.specs.Causes.{Standing, standing}
use Rattle.wg_top.specs.Objects.{ExecRead}
use Rattle.wg_top.proofs.ObjectLemmas.{named, unnamed, said_true, said_false}
use Rattle.wg_top.proofs.ObjectCauseLemmas.{exec_launch, exec_read, exec_taken, exec_other}
use Rattle.wg_top.proofs.objects.take_object.Goals as goal

pub returns-in-Err-clause-err : goal.returns-in-Err-clause-err
returns-in-Err-clause-err g c =
    let old : Standing = standing g.S.Store.files g.S.Store.faults g.S.Store.misses c.args.store.now in
    let mid : Standing = standing g.S.Store.files g.S.Store.faults g.S.Store.misses c.load.new.self in
    exec_launch old mid (standing g.S.Store.files g.S.Store.faults g.S.Store.misses c.load_launch.new.store)
    (files_of c.args.files) c.in-Ok.bytes.items c.in-Err.error c.in-Ok.ensures.content c.in-Ok.ensures.files_stay
    (record { faults = c.in-Ok.ensures.faults_stand; misses = c.in-Ok.ensures.misses_stand })
    c.in-Err.ensures.stands c.in-Err.ensures.err

pub returns-then-all_name-clause-ok : goal.returns-then-all_name-clause-ok
returns-then-all_name-clause-ok g c =
    let old : Standing = standing g.S.Store.files g.S.Store.faults g.S.Store.misses c.args.store.now in
    let read : ExecRead old.files (files_of c.args.files) c.deref.result.now (text_of c.in-Ok-load_launch.text) =
    exec_read old.files (g.S.Store.files c.load.new.self) (files_of c.args.files) c.in-Ok.bytes.items
    c.deref.result.now (text_of c.in-Ok-load_launch.text) c.in-Ok.ensures.content c.deref.ensures.value
    c.in-Ok.ensures.files_stay c.in-Ok-load_launch.ensures.ok in
    exec_taken old.files (files_of c.args.files) c.deref.result.now (text_of c.in-Ok-load_launch.text)
    (object_of c.in-Ok-decode.object) read c.in-Ok-decode.ensures.found
    (named (object_of c.in-Ok-decode.object) c.in-Ok-decode.object.group.kernel c.in-Ok-load_launch.text.list.items
    c.deref-in-Ok-decode.result.now refl c.deref-in-Ok-decode.ensures.value
    (said_true c.all_name.result _ c.if-all_name.true c.all_name.ensures))

pub returns-in-Ok-decode-clause-err : goal.returns-in-Ok-decode-clause-err
returns-in-Ok-decode-clause-err g c =
    let old : Standing = standing g.S.Store.files g.S.Store.faults g.S.Store.misses c.args.store.now in
    let read : ExecRead old.files (files_of c.args.files) c.deref.result.now (text_of c.in-Ok-load_launch.text) =
    exec_read old.files (g.S.Store.files c.load.new.self) (files_of c.args.files) c.in-Ok.bytes.items
    c.deref.result.now (text_of c.in-Ok-load_launch.text) c.in-Ok.ensures.content c.deref.ensures.value
    c.in-Ok.ensures.files_stay c.in-Ok-load_launch.ensures.ok in
    exec_other old (standing g.S.Store.files g.S.Store.faults g.S.Store.misses c.load_launch.new.store)
    (files_of c.args.files) c.deref.result.now (text_of c.in-Ok-load_launch.text) (object_of c.in-Ok-decode.object) read
    c.in-Ok-decode.ensures.found
    (λ names. said_false c.all_name.result _ c.if-all_name.false c.all_name.ensures
    (unnamed (object_of c.in-Ok-decode.object) c.in-Ok-decode.object.group.kernel
    c.in-Ok-load_launch.text.list.items c.deref-in-Ok-decode.result.now refl c.deref-in-Ok-decode.ensures.value
    names))
