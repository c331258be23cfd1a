use Rattle.std.proofs.Common.{take}
use Rattle.wg_top.specs.Holding.{AreRunnables}
use Rattle.wg_top.proofs.cached.runnables_of.Given as goal

abbrev pub invariant-loop-part : goal.invariant-loop-part
invariant-loop-part l = AreRunnables l.held (take l.part-index l.list) l.runnables.items
