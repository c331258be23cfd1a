use Rattle.std.proofs.Common.{◌≡◌, map, take}
use Rattle.cl_model.specs.Valid.{kind_type}
use Rattle.kir_lower.proofs.places.types_of.Given as goal

abbrev pub invariant-loop-var : goal.invariant-loop-var
invariant-loop-var l = l.types.items ≡ map kind_type (map (λ x. x.kind) (take l.var-index l.vars))
