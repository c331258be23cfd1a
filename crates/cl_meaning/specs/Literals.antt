-- Numbers and truth words (C99, section 6.4.4.1; OpenCL 1.2, section 6.1.1).
use Rattle.std.specs.Prelude.{ℕ, List, [], ◌∷◌, ℤ, pos, Option, Some, None, Result, Ok, Err, codes}
use Rattle.wg_num.specs.declared.types.IntType.{IntType}
use Rattle.cl_token.specs.declared.number.Literal.{Literal}
use Rattle.cl_token.specs.declared.number.LiteralError.{LiteralError}
use Rattle.cl_token.specs.NumberReading.{outcome_of}
use Rattle.cl_meaning.specs.OwnWords.{Row, looked_up}

abbrev pub truths : List (Row ℤ)
truths =
    record { word = codes "true"; value = pos 1 } ∷
    record { word = codes "false"; value = pos 0 } ∷
    []

-- the value of a truth word
unfoldable pub truth_in : List ℕ → Option ℤ
truth_in w = looked_up w truths

abbrev pub literal_from : Result Literal LiteralError → Option (IntType × ℕ)
literal_from (Ok l) = Some (l.of, l.value)
literal_from (Err e) = None

-- the type and the value of an integer constant: those that make it an `IsLiteral`
unfoldable pub literal_in : List ℕ → Option (IntType × ℕ)
literal_in w = literal_from (outcome_of w)
