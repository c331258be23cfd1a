use Rattle.std.proofs.Common.{◌≡◌, ◌≤◌, length}
use Rattle.cl_meaning.specs.Types.{bare}
use Rattle.cl_meaning.proofs.types.next_bare.Given as goal

abbrev pub invariant-loop-piece : goal.invariant-loop-piece
invariant-loop-piece l = record {
  same : bare l.rest ≡ bare l.word;
  within : length l.rest ≤ length l.word;
}

abbrev pub decreases-loop-piece : goal.decreases-loop-piece
decreases-loop-piece l = length l.rest
