use Rattle.std.proofs.Common.{◌≡◌, drop}
use Rattle.cl_token.specs.Lexeme.{lexemes_of}
use Rattle.cl_prep.specs.Names.{words_of, same_words}
use Rattle.cl_prep.proofs.names.same_words.Given as goal

abbrev pub invariant-loop-index : goal.invariant-loop-index
invariant-loop-index l = same_words (words_of (lexemes_of (drop l.index l.a)))
    (words_of (lexemes_of (drop l.index l.b))) ≡ same_words (words_of (lexemes_of l.a)) (words_of (lexemes_of l.b))
