use Rattle.std.proofs.Common.{◌≡◌, ◌≤◌, ◌+◌, length}
use Rattle.std.specs.List.{count_by}
use Rattle.cl_meaning.specs.OwnWords.{is_text, pieces}
use Rattle.cl_meaning.proofs.own_words.count_pieces.Given as goal

abbrev pub invariant-loop-piece : goal.invariant-loop-piece
invariant-loop-piece l = record {
  so_far : l.count + count_by (is_text l.text) (pieces l.rest) ≡ count_by (is_text l.text) (pieces l.word);
  within : l.count + length l.rest ≤ length l.word;
}

abbrev pub decreases-loop-piece : goal.decreases-loop-piece
decreases-loop-piece l = length l.rest
