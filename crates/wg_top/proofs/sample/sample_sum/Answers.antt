use Rattle.std.proofs.Common.{Some, inl, ap}
use Rattle.std.proofs.lemmas.Result.{IfOk-weaker, IfErr-weaker}
use Rattle.wg_outside.specs.MemoryStore.{StoreView}
use Rattle.wg_top.specs.Causes.{Standing}
use Rattle.wg_top.proofs.SampleLemmas.{sample_refused, memory_no_fault, is_sample}
use Rattle.wg_top.proofs.sample.sample_sum.Goals as goal

pub returns-in-Ok-run_source-clause-ok : goal.returns-in-Ok-run_source-clause-ok
returns-in-Ok-run_source-clause-ok c =
    IfOk-weaker _ _ _ (λ sum saved. is_sample c.args.number c.in-Ok.store.files c.run_source.new.store.files _ sum
    c.in-Ok.ensures c.in-Ok-run_source.ensures.ok saved) c.saved_sum.ensures.ok

pub returns-in-Ok-run_source-clause-err : goal.returns-in-Ok-run_source-clause-err
returns-in-Ok-run_source-clause-err c = IfErr-weaker _ _ _ (λ e is. inl is) c.saved_sum.ensures.err

pub returns-in-Ok-run_source-clause-no_fault : goal.returns-in-Ok-run_source-clause-no_fault
returns-in-Ok-run_source-clause-no_fault c = IfErr-weaker _ _ _ (λ e is. memory_no_fault e is) c.saved_sum.ensures.err

pub returns-clause-err : goal.returns-clause-err
returns-clause-err c =
    let seen : StoreView → Standing = λ s. record { files = Some s.files; faults = s.faults; misses = s.misses } in
    sample_refused c.args.number (seen c.in-Ok.store) (seen c.run_source.new.store) c.in-Err.error c.refused.result
    (ap Some c.in-Ok.ensures) c.in-Err.ensures.err c.refused.ensures.same
