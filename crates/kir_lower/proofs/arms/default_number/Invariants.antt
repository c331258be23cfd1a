use Rattle.std.proofs.Common.{◌≡◌, drop}
use Rattle.cl_model.specs.Listed.{listed_arms}
use Rattle.kir_lower.specs.Actions.{default_number}
use Rattle.kir_lower.proofs.arms.default_number.Given as goal

abbrev pub invariant-loop-k : goal.invariant-loop-k
invariant-loop-k l = default_number 0 (listed_arms l.arms) ≡ default_number l.k (listed_arms (drop l.k l.arms))
