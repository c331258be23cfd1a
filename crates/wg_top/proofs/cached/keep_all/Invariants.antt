use Rattle.std.proofs.Common.{take}
use Rattle.wg_top.specs.Causes.{standing, HasNoFewer}
use Rattle.wg_top.specs.Holding.{kept_of, AreSaved}
use Rattle.wg_top.proofs.cached.keep_all.Given as goal

-- the entries so far are saved
abbrev pub invariant-loop-one : goal.invariant-loop-one
invariant-loop-one g l =
    record {
      saved : AreSaved (g.S.Store.files l.fn.store) (g.S.Store.files l.store) (kept_of (take l.one-index l.held));
      stands : HasNoFewer (standing g.S.Store.files g.S.Store.faults g.S.Store.misses l.fn.store)
          (standing g.S.Store.files g.S.Store.faults g.S.Store.misses l.store);
    }
