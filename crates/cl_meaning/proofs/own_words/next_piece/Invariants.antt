use Rattle.std.proofs.Common.{◌≡◌, ◌≤◌, length}
use Rattle.cl_meaning.specs.OwnWords.{pieces}
use Rattle.cl_meaning.proofs.own_words.next_piece.Given as goal

abbrev pub invariant-loop-rest : goal.invariant-loop-rest
invariant-loop-rest l = record {
  same : pieces l.rest ≡ pieces l.word;
  within : length l.rest ≤ length l.word;
}

abbrev pub decreases-loop-rest : goal.decreases-loop-rest
decreases-loop-rest l = length l.rest
