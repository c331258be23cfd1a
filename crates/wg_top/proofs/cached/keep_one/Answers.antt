use Rattle.std.proofs.Common.{[], Option, sym, subst}
use Rattle.wg_cache.specs.declared.types.Entry.{Entry}
use Rattle.wg_top.specs.Holding.{kept_with, AreSaved, AreSavedUpTo}
use Rattle.wg_top.proofs.CachedLemmas.{one_saved, one_unsaved}
use Rattle.wg_top.proofs.cached.keep_one.Goals as goal

pub returns-in-Ok-clause-saved : goal.returns-in-Ok-clause-saved
returns-in-Ok-clause-saved g c =
    subst (λ (e : Option Entry). AreSaved (g.S.Store.files c.args.store.now) (g.S.Store.files c.keep.new.store)
    (kept_with e [])) (sym c.in-Some.is) (one_saved (g.S.Store.files c.args.store.now)
    (g.S.Store.files c.keep.new.store) c.in-Some.entry.name c.in-Some.entry.bytes.items c.in-Ok.ensures.saved
    c.in-Ok.ensures.others)

pub returns-in-Err-clause-stopped : goal.returns-in-Err-clause-stopped
returns-in-Err-clause-stopped g c =
    subst (λ (e : Option Entry). AreSavedUpTo (g.S.Store.files c.args.store.now) (g.S.Store.files c.keep.new.store)
    (kept_with e [])) (sym c.in-Some.is) (one_unsaved (g.S.Store.files c.args.store.now)
    (g.S.Store.files c.keep.new.store) c.in-Some.entry.name c.in-Some.entry.bytes.items c.in-Err.ensures.others)
