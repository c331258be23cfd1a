-- The kinds that are known among the kinds of some parts.
use Rattle.std.specs.Prelude.{List, [], ◌∷◌, Option, None, Some}
use Rattle.cl_meaning.specs.declared.kind.Kind.{Kind}

abbrev pub known : List (Option Kind) → List Kind
known [] = []
known (None ∷ ks) = known ks
known (Some k ∷ ks) = k ∷ known ks
