use Rattle.std.proofs.Common.{◌≡◌, map, take}
use Rattle.kir_lower.proofs.whole.kinds_of.Given as goal

abbrev pub invariant-loop-var : goal.invariant-loop-var
invariant-loop-var l = l.kinds.items ≡ map (λ v. v.kind) (take l.var-index l.var-items)
