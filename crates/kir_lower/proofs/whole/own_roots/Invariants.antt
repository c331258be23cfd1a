use Rattle.std.proofs.Common.{◌≡◌, ◌++◌, length}
use Rattle.kir_lower.specs.Whole.{own_roots}
use Rattle.kir_lower.proofs.whole.own_roots.Given as goal

abbrev pub invariant-loop-others : goal.invariant-loop-others
invariant-loop-others l =
    own_roots 0 l.kinds ≡ l.roots.items ++ own_roots l.n l.rest

abbrev pub decreases-loop-others : goal.decreases-loop-others
decreases-loop-others l = length l.rest
