use Rattle.std.proofs.Common.{◌≡◌, map, take}
use Rattle.wg_object.proofs.shells.vars_of.Given as goal

abbrev pub invariant-loop-kind : goal.invariant-loop-kind
invariant-loop-kind l = map (λ x. x.kind) l.vars.items ≡ take l.kind-index l.kinds
