use Rattle.std.proofs.Common.{◌≡◌, map, take}
use Rattle.launch_file_bind.proofs.kinds_of.Given as goal

abbrev pub invariant-loop-var : goal.invariant-loop-var
invariant-loop-var l = l.kinds.items ≡ map (λ x. x.kind) (take l.var-index l.vars)
