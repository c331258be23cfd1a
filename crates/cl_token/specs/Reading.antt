-- What stands at the head of the rest of a source, as a function of its bytes.
use Rattle.std.specs.Prelude.{ℕ, suc, List, [], ◌∷◌, Bool, not, ◌&&◌, ◌||◌, ◌==◌, ◌+◌, if◌then◌else◌, take, drop}
use Rattle.std.specs.Prelude.{Option, None, Some, Result, Ok, Err, slice_index, option_map, codes}
use Rattle.std.specs.List.{prefix_len, list_any}
use Rattle.cl_token.specs.Bytes.{is_digit, is_name_start, is_name_byte, is_number_byte}
use Rattle.cl_token.specs.NumberReading.{outcome_of}
use Rattle.cl_token.specs.declared.number.Literal.{Literal}
use Rattle.cl_token.specs.declared.number.LiteralError.{LiteralError}
use Rattle.cl_token.specs.declared.number.LiteralError.TheVariants.{Malformed, TooLarge}
use Rattle.cl_token.specs.declared.token.Kind.{Kind}
use Rattle.cl_token.specs.declared.token.Kind.TheVariants.{Name, Number, Mark, Hash}
use Rattle.cl_token.specs.declared.lexeme.Piece.{Piece}
use Rattle.cl_token.specs.declared.lexeme.Piece.TheVariants.{LineEnd, Skipped, Cut}
use Rattle.cl_token.specs.declared.lexeme.Fault.{Fault}
use Rattle.cl_token.specs.declared.lexeme.Fault.TheVariants.{NoToken, OpenComment, BadNumber, LargeNumber}

abbrev pub is_among : List ℕ → ℕ → Bool
is_among bytes b = list_any (λ x. x == b) bytes

-- ---- blanks and comments

abbrev pub spaces : List ℕ
spaces = 32 ∷ 9 ∷ 11 ∷ 12 ∷ 13 ∷ []

abbrev pub blank_with : ℕ → ℕ → ℕ → ℕ
blank_with a b c = if is_among spaces a then 1 else (if a == 92 && b ==
    10 then 2 else (if a == 92 && (b == 13 && c == 10) then 3 else 0))

-- how long the blank is that stands there, and 0 where none does
unfoldable pub blank_length : List ℕ → ℕ
blank_length s = blank_with (slice_index s 0) (slice_index s 1) (slice_index s 2)

-- the first place at which a block comment ends
unfoldable pub close_of : List ℕ → Option ℕ
close_of [] = None
close_of (b ∷ bs) = if b == 42 && slice_index bs 0 == 47 then Some 0 else option_map suc (close_of bs)

-- ---- tokens

abbrev pub singles : List ℕ
singles = codes "{}()[];,.:?~!=<>+-*/%&|^"

-- what may stand before the sign of equality
abbrev pub before_equals : List ℕ
before_equals = codes "=!<>+-*/%&|^"

-- what may stand twice
abbrev pub doubled : List ℕ
doubled = codes "<>&|+-"

abbrev pub is_single : ℕ → Bool
is_single a = is_among singles a

abbrev pub is_double : ℕ → ℕ → Bool
is_double a b = (b == 61 && is_among before_equals a) || (a == b && is_among doubled a)

abbrev pub is_triple : ℕ → ℕ → ℕ → Bool
is_triple a b c = c == 61 && (a == b && (a == 60 || a == 62))

abbrev pub mark_with : ℕ → ℕ → ℕ → ℕ
mark_with a b c = if is_triple a b c then 3 else (if is_double a b then 2 else (if is_single a then 1 else 0))

-- how long the longest mark is that stands there, and 0 where none does
unfoldable pub mark_length : List ℕ → ℕ
mark_length s = mark_with (slice_index s 0) (slice_index s 1) (slice_index s 2)

-- the kind of token that may begin with the byte
unfoldable pub kind_at : ℕ → Kind
kind_at a = if is_name_start a then Name else (if is_digit a then Number else (if a == 35 then Hash else Mark))

-- how long the longest token of the kind is that stands there
unfoldable pub length_of : Kind → List ℕ → ℕ
length_of Name s = prefix_len is_name_byte s
length_of Number s = prefix_len is_number_byte s
length_of Hash s = 1
length_of Mark s = mark_length s

abbrev pub with_value : ℕ → Result Literal LiteralError → Result Piece Fault
with_value n (Ok v) = Ok (Cut Number n)
with_value n (Err Malformed) = Err BadNumber
with_value n (Err TooLarge) = Err LargeNumber

abbrev pub valued : Kind → ℕ → List ℕ → Result Piece Fault
valued Number n s = with_value n (outcome_of (take n s))
valued Name n s = Ok (Cut Name n)
valued Mark n s = Ok (Cut Mark n)
valued Hash n s = Ok (Cut Hash n)

abbrev pub token_with : Kind → ℕ → List ℕ → Result Piece Fault
token_with kind n s = if n == 0 then Err NoToken else valued kind n s

unfoldable pub token_of : List ℕ → Result Piece Fault
token_of s = token_with (kind_at (slice_index s 0)) (length_of (kind_at (slice_index s 0)) s) s

abbrev pub closed : Option ℕ → Result Piece Fault
closed None = Err OpenComment
closed (Some k) = Ok (Skipped (k + 4))

abbrev pub is_line_byte : ℕ → Bool
is_line_byte b = not (b == 10)

abbrev pub solid_of : List ℕ → Result Piece Fault
solid_of s = if slice_index s 0 == 47 && slice_index s 1 == 47 then Ok (Skipped (prefix_len is_line_byte s)) else
    (if slice_index s 0 == 47 && slice_index s 1 == 42 then closed (close_of (drop 2 s)) else token_of s)

abbrev pub piece_with : ℕ → List ℕ → Result Piece Fault
piece_with n s = if n == 0 then solid_of s else Ok (Skipped n)

unfoldable pub piece_of : List ℕ → Result Piece Fault
piece_of s = if slice_index s 0 == 10 then Ok LineEnd else piece_with (blank_length s) s
