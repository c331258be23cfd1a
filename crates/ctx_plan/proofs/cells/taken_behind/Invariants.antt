use Rattle.std.proofs.Common.{◌≡◌, ◌+◌, drop}
use Rattle.ctx_plan.specs.Made.{taken_behind}
use Rattle.ctx_plan.proofs.cells.taken_behind.Given as goal

abbrev pub invariant-loop-site : goal.invariant-loop-site
invariant-loop-site l = l.sum + taken_behind l.taken (drop l.site-index l.calls) ≡ taken_behind l.taken l.calls
