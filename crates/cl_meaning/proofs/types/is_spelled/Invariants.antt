use Rattle.std.proofs.Common.{◌≡◌, length}
use Rattle.cl_meaning.specs.Types.{spells}
use Rattle.cl_meaning.proofs.types.is_spelled.Given as goal

abbrev pub invariant-loop-wanted : goal.invariant-loop-wanted
invariant-loop-wanted l = spells l.rest l.left ≡ spells l.word l.text

abbrev pub decreases-loop-wanted : goal.decreases-loop-wanted
decreases-loop-wanted l = length l.left
