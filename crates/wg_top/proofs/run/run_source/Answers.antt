use Rattle.std.proofs.lemmas.Result.{IfOk-weaker, IfErr-weaker}
use Rattle.command_words.specs.Command.{Files}
use Rattle.wg_top.specs.Causes.{Standing, standing}
use Rattle.wg_top.specs.Ends.{asked}
use Rattle.wg_top.proofs.CauseLemmas.{reading_cause, leaves_read, back_cause, leaves_files, is_done}
use Rattle.wg_top.proofs.RunLemmas.{numbers_fit}
use Rattle.wg_top.proofs.CompleteLemmas.{run_clean, run_memory, memory_clean}
use Rattle.wg_top.proofs.run.run_source.Goals as goal

pub returns-in-Err-clause-err : goal.returns-in-Err-clause-err
returns-in-Err-clause-err g c =
    reading_cause (standing g.S.Store.files g.S.Store.faults g.S.Store.misses c.args.store.now)
    (standing g.S.Store.files g.S.Store.faults g.S.Store.misses c.read_all.new.store) _ c.in-Err.error
    c.in-Err.ensures.err

pub returns-in-Err-clause-left : goal.returns-in-Err-clause-left
returns-in-Err-clause-left g c =
    leaves_read (standing g.S.Store.files g.S.Store.faults g.S.Store.misses c.args.store.now)
    (standing g.S.Store.files g.S.Store.faults g.S.Store.misses c.read_all.new.store) _ c.in-Err.error
    c.in-Err.ensures.files_stay c.in-Err.ensures.err

pub returns-in-Ok-clause-ok : goal.returns-in-Ok-clause-ok
returns-in-Ok-clause-ok g c =
    let old : Standing = standing g.S.Store.files g.S.Store.faults g.S.Store.misses c.args.store.now in
    let mid : Standing = standing g.S.Store.files g.S.Store.faults g.S.Store.misses c.read_all.new.store in
    let ask : Files = asked c.args.source.now c.args.launch.now c.args.lanes c.args.turns in
    IfOk-weaker _ _ _ (λ summary run. is_done old.files mid.files _ ask _ _ summary c.in-Ok.ensures.read
    (numbers_fit _ c.in-Ok.ensures.given.text.numbers) c.in-Ok.ensures.files_stay run) c.run_given.ensures.ok

pub returns-in-Ok-clause-err : goal.returns-in-Ok-clause-err
returns-in-Ok-clause-err g c =
    let old : Standing = standing g.S.Store.files g.S.Store.faults g.S.Store.misses c.args.store.now in
    let mid : Standing = standing g.S.Store.files g.S.Store.faults g.S.Store.misses c.read_all.new.store in
    let ask : Files = asked c.args.source.now c.args.launch.now c.args.lanes c.args.turns in
    IfErr-weaker _ _ _ (λ error cause. back_cause old mid _ ask _ _ error c.in-Ok.ensures.read
    (numbers_fit _ c.in-Ok.ensures.given.text.numbers) c.in-Ok.ensures.files_stay c.in-Ok.ensures.stands
    c.run_given.ensures.stands cause) c.run_given.ensures.err

pub returns-in-Ok-clause-left : goal.returns-in-Ok-clause-left
returns-in-Ok-clause-left g c =
    let old : Standing = standing g.S.Store.files g.S.Store.faults g.S.Store.misses c.args.store.now in
    let mid : Standing = standing g.S.Store.files g.S.Store.faults g.S.Store.misses c.read_all.new.store in
    let ask : Files = asked c.args.source.now c.args.launch.now c.args.lanes c.args.turns in
    IfErr-weaker _ _ _ (λ error left. leaves_files old mid (standing g.S.Store.files g.S.Store.faults g.S.Store.misses
    c.run_given.new.store) ask _ _ error c.in-Ok.ensures.read
    (numbers_fit _ c.in-Ok.ensures.given.text.numbers) c.in-Ok.ensures.files_stay left) c.run_given.ensures.left

pub returns-in-Ok-clause-clean : goal.returns-in-Ok-clause-clean
returns-in-Ok-clause-clean g c =
    let old : Standing = standing g.S.Store.files g.S.Store.faults g.S.Store.misses c.args.store.now in
    let mid : Standing = standing g.S.Store.files g.S.Store.faults g.S.Store.misses c.read_all.new.store in
    let ask : Files = asked c.args.source.now c.args.launch.now c.args.lanes c.args.turns in
    run_clean old.files mid.files _ ask _ _ c.run_given.result c.in-Ok.ensures.read
    (numbers_fit _ c.in-Ok.ensures.given.text.numbers) c.in-Ok.ensures.files_stay
    c.run_given.ensures.ok

pub returns-in-Ok-clause-only_memory : goal.returns-in-Ok-clause-only_memory
returns-in-Ok-clause-only_memory g c =
    let old : Standing = standing g.S.Store.files g.S.Store.faults g.S.Store.misses c.args.store.now in
    let mid : Standing = standing g.S.Store.files g.S.Store.faults g.S.Store.misses c.read_all.new.store in
    let new : Standing = standing g.S.Store.files g.S.Store.faults g.S.Store.misses c.run_given.new.store in
    let ask : Files = asked c.args.source.now c.args.launch.now c.args.lanes c.args.turns in
    run_memory old mid new ask _ _ c.run_given.result c.in-Ok.ensures.read
    (numbers_fit _ c.in-Ok.ensures.given.text.numbers) c.in-Ok.ensures.files_stay
    c.in-Ok.ensures.stands c.run_given.ensures.stands c.run_given.ensures.err

pub returns-in-Err-clause-only_memory : goal.returns-in-Err-clause-only_memory
returns-in-Err-clause-only_memory g c =
    let old : Standing = standing g.S.Store.files g.S.Store.faults g.S.Store.misses c.args.store.now in
    let new : Standing = standing g.S.Store.files g.S.Store.faults g.S.Store.misses c.read_all.new.store in
    let ask : Files = asked c.args.source.now c.args.launch.now c.args.lanes c.args.turns in
    λ text s all quiet. memory_clean old new ask text s c.in-Err.error all quiet
    (reading_cause old new ask c.in-Err.error c.in-Err.ensures.err)
