-- One more at the end of what is read, and one fewer before what is to come.
use Rattle.std.proofs.Common.{◌≡◌, List, [], ◌∷◌, ◌++◌, Option, Some, None, option_map, arith}
use Rattle.std.proofs.lemmas.Grind.{common_steps}
use Rattle.launch_file.specs.Keys.{before}

pub before-pushed : {X : Type 0} (o : Option X) (x : X) (done : List X) (rest : Option (List X)) → o ≡ Some x →
    option_map (λ more. done ++ more) (before o rest) ≡ option_map (λ more. (done ++ x ∷ []) ++ more) rest
before-pushed o x done None is = grind (arith, common_steps)
before-pushed o x done (Some more) is = grind (arith, common_steps)
