use Rattle.std.proofs.Common.{◌≡◌, length}
use Rattle.cl_tree.specs.Words.{is_among}
use Rattle.cl_meaning.specs.OwnWords.{pieces}
use Rattle.cl_meaning.proofs.own_words.has_piece.Given as goal

abbrev pub invariant-loop-piece : goal.invariant-loop-piece
invariant-loop-piece l = is_among l.text (pieces l.rest) ≡ is_among l.text (pieces l.word)

abbrev pub decreases-loop-piece : goal.decreases-loop-piece
decreases-loop-piece l = length l.rest
