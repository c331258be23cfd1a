use Rattle.command_words.specs.Command.{Files}
use Rattle.wg_top.specs.Causes.{Standing, standing}
use Rattle.wg_top.specs.Ends.{asked}
use Rattle.wg_top.proofs.CauseLemmas.{source_cause, launch_cause, program_cause, text_before, run_read}
use Rattle.launch_file.specs.Texts.{text_of}
use Rattle.wg_top.proofs.RunLemmas.{kernels_valid, numbers_fit}
use Rattle.wg_top.proofs.reading.read_all.Goals as goal

pub returns-in-Err-load_launch-clause-err : goal.returns-in-Err-load_launch-clause-err
returns-in-Err-load_launch-clause-err g c =
    let old : Standing = standing g.S.Store.files g.S.Store.faults g.S.Store.misses c.args.store.now in
    let mid : Standing = standing g.S.Store.files g.S.Store.faults g.S.Store.misses c.load_source.new.store in
    let ask : Files = asked c.args.source.now c.args.launch.now c.args.options.lanes c.args.options.turns in
    launch_cause old mid (standing g.S.Store.files g.S.Store.faults g.S.Store.misses c.load_launch.new.store) ask
    c.in-Ok.bytes.items c.in-Err-load_launch.error c.in-Ok.ensures.ok c.in-Ok.ensures.files_stay
    c.in-Ok.ensures.stands c.in-Err-load_launch.ensures.stands c.in-Err-load_launch.ensures.err

pub returns-in-Ok-compile_all-clause-read : goal.returns-in-Ok-compile_all-clause-read
returns-in-Ok-compile_all-clause-read g c =
    let old : Standing = standing g.S.Store.files g.S.Store.faults g.S.Store.misses c.args.store.now in
    let ask : Files = asked c.args.source.now c.args.launch.now c.args.options.lanes c.args.options.turns in
    let text = text_before old.files (g.S.Store.files c.load_source.new.store) _ _ _ _ c.in-Ok.ensures.files_stay
    c.in-Ok-load_launch.ensures.ok in
    run_read old.files ask c.in-Ok.bytes.items c.deref.result.now _ _ c.in-Ok.ensures.ok c.deref.ensures.value
    text c.in-Ok-compile_all.ensures.unit c.in-Ok-compile_all.ensures.compiled

pub returns-in-Ok-compile_all-clause-given : goal.returns-in-Ok-compile_all-clause-given
returns-in-Ok-compile_all-clause-given g c =
    let text = c.in-Ok-load_launch.text in
    record {
      text = c.in-Ok-load_launch.ensures.is;
      passes = c.in-Ok-compile_all.ensures.passes;
      valid = kernels_valid c.deref.result.now (text_of text).defines (text_of text).list
          c.in-Ok-compile_all.kernels.items c.in-Ok-load_launch.ensures.is.numbers c.in-Ok-compile_all.ensures.compiled;
      names = c.in-Ok-compile_all.ensures.names;
    }

pub returns-clause-err : goal.returns-clause-err
returns-clause-err g c =
    let old : Standing = standing g.S.Store.files g.S.Store.faults g.S.Store.misses c.args.store.now in
    let ask : Files = asked c.args.source.now c.args.launch.now c.args.options.lanes c.args.options.turns in
    let read = text_before old.files (g.S.Store.files c.load_source.new.store) _ _ _ _ c.in-Ok.ensures.files_stay
    c.in-Ok-load_launch.ensures.ok in
    program_cause old (standing g.S.Store.files g.S.Store.faults g.S.Store.misses c.load_launch.new.store) ask
    c.in-Ok.bytes.items _ _ read (numbers_fit _ c.in-Ok-load_launch.ensures.is.numbers) c.in-Ok.ensures.ok
    (rw c.deref.ensures.value at c.in-Err-compile_all.ensures.err)

pub returns-in-Err-clause-err : goal.returns-in-Err-clause-err
returns-in-Err-clause-err g c =
    source_cause (standing g.S.Store.files g.S.Store.faults g.S.Store.misses c.args.store.now)
    (standing g.S.Store.files g.S.Store.faults g.S.Store.misses c.load_source.new.store)
    (asked c.args.source.now c.args.launch.now c.args.options.lanes c.args.options.turns) c.in-Err.error
    c.in-Err.ensures.err
