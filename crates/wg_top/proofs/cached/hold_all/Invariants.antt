use Rattle.std.proofs.Common.{◌≡◌, take}
use Rattle.std.specs.Prelude.{All, IfSome}
use Rattle.cl_model.specs.Lists.{Each}
use Rattle.launch_file.specs.Texts.{text_of}
use Rattle.wg_top.specs.Causes.{standing, HasNoFewer}
use Rattle.wg_top.specs.Given.{IsReadFrom}
use Rattle.wg_top.specs.Holding.{IsHeld, IsNamedIn}
use Rattle.wg_top.proofs.cached.hold_all.Given as goal

-- the kernels of the launches so far are held
abbrev pub invariant-loop-part : goal.invariant-loop-part
invariant-loop-part g l =
    record {
      files : g.S.Store.files l.store ≡ g.S.Store.files l.fn.store;
      stands : HasNoFewer (standing g.S.Store.files g.S.Store.faults g.S.Store.misses l.fn.store)
          (standing g.S.Store.files g.S.Store.faults g.S.Store.misses l.store);
      held : All (IsHeld (g.S.Store.files l.fn.store) l.bytes (text_of l.text)) l.held.items;
      named : Each (λ p. IsNamedIn l.held.items p.kernel) (take l.part-index l.text.list.items);
      read : IfSome l.read (IsReadFrom l.bytes (text_of l.text).defines);
    }
