use Rattle.std.proofs.Common.{◌≡◌, ◌++◌, drop}
use Rattle.ctx_plan.specs.Sharing.{both}
use Rattle.ctx_plan.proofs.sharing.both.Given as goal

abbrev pub invariant-loop-entry : goal.invariant-loop-entry
invariant-loop-entry l = l.list.items ++ both l.number (drop l.entry-index l.first) l.second ≡ both 0 l.first l.second
