use Rattle.std.proofs.Common.{◌≡◌, length, option_map}
use Rattle.cl_meaning.specs.Types.{bare}
use Rattle.cl_short_vec.specs.Types.{alone}
use Rattle.cl_short_vec.proofs.Words.{behind_found}
use Rattle.cl_short_vec.proofs.types.bare_word.Given as goal

abbrev pub invariant-loop-rest : goal.invariant-loop-rest
invariant-loop-rest l = alone (behind_found (option_map (λ p. p.now) l.found) (bare l.rest)) ≡ alone (bare l.word)

abbrev pub decreases-loop-rest : goal.decreases-loop-rest
decreases-loop-rest l = length l.rest
