use Rattle.std.proofs.Common.{[], take, drop, ◌+◌, sym, subst, rules}
use Rattle.wg_outside.specs.Files.{FileMap}
use Rattle.wg_top.specs.Holding.{kept_with, kept_of, AreSaved, AreSavedUpTo}
use Rattle.wg_top.proofs.CachedLemmas.{kept_more, kept_split, saved_more, saved_up_to}
use Rattle.wg_top.proofs.cached.keep_all.Goals as goal

pub returns-in-Err-clause-stopped : goal.returns-in-Err-clause-stopped
returns-in-Err-clause-stopped g c =
    let held = c.args.held.now in
    let i = c.loop-one.one-index in
    subst (λ (kept : FileMap). AreSavedUpTo (g.S.Store.files c.args.store.now) (g.S.Store.files c.keep_one.new.store)
    kept) (sym (kept_split held i c.one-item.result c.loop-one-test.true c.one-item.is))
    (saved_up_to (g.S.Store.files c.args.store.now) (g.S.Store.files c.loop-one.store)
    (g.S.Store.files c.keep_one.new.store) (kept_of (take i held)) (kept_with c.one-item.result.entry [])
    (kept_of (drop (i + 1) held)) c.loop-one.invariant.saved c.in-Err.ensures.stopped)

pub loop-one-preserved : goal.loop-one-preserved
loop-one-preserved g c =
    let held = c.args.held.now in
    let i = c.loop-one.one-index in
    record {
      saved = subst (λ (kept : FileMap). AreSaved (g.S.Store.files c.args.store.now)
          (g.S.Store.files c.keep_one.new.store) kept)
          (sym (kept_more held i c.one-item.result c.loop-one-test.true c.one-item.is))
          (saved_more (g.S.Store.files c.args.store.now) (g.S.Store.files c.loop-one.store)
          (g.S.Store.files c.keep_one.new.store) (kept_of (take i held)) (kept_with c.one-item.result.entry [])
          c.loop-one.invariant.saved c.in-Ok.ensures.saved);
      stands = search rules;
    }
