use Rattle.std.proofs.Common.{drop}
use Rattle.wg_top.specs.Holding.{IsNamedIn}
use Rattle.wg_top.proofs.cached.held_for.Given as goal

-- one that has the name is among those that are left
abbrev pub invariant-loop-one : goal.invariant-loop-one
invariant-loop-one l = IsNamedIn l.held l.kernel → IsNamedIn (drop l.one-index l.held) l.kernel
