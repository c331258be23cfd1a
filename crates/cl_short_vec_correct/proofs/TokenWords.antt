-- The words of tokens: a name is letters, digits and underscores, without a blank or a point, and so are all words of
-- types; a number begins with a digit.
use Rattle.std.proofs.Common.{◌≡◌, ℕ, nat_eq, List, [], ◌∷◌, Bool, true, false, not, ◌||◌}
use Rattle.std.proofs.Common.{if◌then◌else◌, refl, ap, sym, ◌∙◌, eqb-true}
use Rattle.std.proofs.lemmas.Bool.{false≢true, and_parts}
use Rattle.std.specs.List.{list_all}
use Rattle.cl_token.specs.Bytes.{is_digit, is_name_start, is_name_byte, is_number_byte, IsRun}
use Rattle.cl_token.specs.Spelling.{Spells}
use Rattle.cl_token.specs.declared.token.Kind.{Kind}
use Rattle.cl_token.specs.declared.token.Kind.TheVariants as token_kinds
use Rattle.cl_token.specs.declared.token.Token.{Token}
use Rattle.cl_model.specs.Lists.{Each}
use Rattle.cl_tree.specs.declared.terminal.Terminal.{Terminal}
use Rattle.cl_tree.specs.declared.terminal.Terminal.TheVariants as terminals
use Rattle.cl_tree.specs.Words.{Row, is_among, looked_up, assignments, assignment_of, operators, operator_of, brackets}
use Rattle.cl_tree.specs.Words.{bracket_of, terminal_of}
use Rattle.cl_meaning.specs.OwnWords.{name_in}
use Rattle.cl_short_vec_correct.specs.Sources.{is_sourced}
use Rattle.cl_short_vec.proofs.OwnNames.{HasNoBlank, alone_name}
use Rattle.cl_short_vec_correct.proofs.LineWords.{has_point}
use Rattle.cl_short_vec_correct.proofs.Sourced.{name_more}

-- bytes, and no blank and no point among them
abbrev pub IsPlain : List ℕ → Type 0
IsPlain w = HasNoBlank w × (is_sourced w ≡ true) × (has_point w ≡ false)

-- ---- bytes

no_byte : (test : ℕ → Bool) (n b : ℕ) → test n ≡ false → test b ≡ true → nat_eq b n ≡ false
no_byte test n b h k = by (nat_eq b n) refl
  where
    by : (z : Bool) → nat_eq b n ≡ z → z ≡ false
    by true e = absurd (false≢true (sym h ∙ (ap test (sym (eqb-true b n e)) ∙ k)))
    by false e = refl

start_byte : (b : ℕ) → is_name_start b ≡ true → is_name_byte b ≡ true
start_byte b h = ap (λ z. z || is_digit b) h

abbrev ArePlain : List ℕ → Type 0
ArePlain bs = HasNoBlank bs × (has_point bs ≡ false)

one_more : (b : ℕ) (bs : List ℕ) → is_name_byte b ≡ true → ArePlain bs → ArePlain (b ∷ bs)
one_more b bs h k =
    ((no_byte is_name_byte 32 b refl h, k.0), ap (λ z. z || has_point bs) (no_byte is_name_byte 46 b refl h) ∙ k.1)

bytes_plain : (bs : List ℕ) → list_all is_name_byte bs ≡ true → ArePlain bs
bytes_plain [] h = (tt, refl)
bytes_plain (b ∷ bs) h =
    let g = and_parts (is_name_byte b) (list_all is_name_byte bs) h in one_more b bs g.0 (bytes_plain bs g.1)

name_plain : (w : List ℕ) → IsRun is_name_start is_name_byte w → IsPlain w
name_plain [] h = absurd h
name_plain (b ∷ bs) h =
    let start = start_byte b h.0 in
    let g = one_more b bs start (bytes_plain bs h.1) in
    (g.0, ap not (no_byte is_name_byte 46 b refl start), g.1)

number_sourced : (w : List ℕ) → IsRun is_digit is_number_byte w → is_sourced (name_in w) ≡ true
number_sourced [] h = absurd h
number_sourced (b ∷ bs) h =
    ap is_sourced (name_more b bs (no_byte is_digit 32 b refl h.0)) ∙ ap not (no_byte is_digit 46 b refl h.0)

-- the name of a plain word is the word
pub plain_sourced : (w : List ℕ) → IsPlain w → is_sourced (name_in w) ≡ true
plain_sourced w h = ap is_sourced (alone_name w h.0) ∙ h.1

-- ---- terminals

-- what a word of a terminal is
abbrev pub OwnWord : Terminal → List ℕ → Type 0
OwnWord terminals.Number w = is_sourced (name_in w) ≡ true
OwnWord terminals.Name w = IsPlain w
OwnWord terminals.Truth w = IsPlain w
OwnWord terminals.Space w = IsPlain w
OwnWord terminals.TypeWord w = IsPlain w
OwnWord terminals.Sign w = IsPlain w
OwnWord terminals.Char w = IsPlain w
OwnWord terminals.Int w = IsPlain w
OwnWord terminals.Length w = IsPlain w
OwnWord terminals.Qualifier w = IsPlain w
OwnWord terminals.Restrict w = IsPlain w
OwnWord j w = Unit {0}

-- the terminals of which something is said
abbrev is_told : Terminal → Bool
is_told terminals.Number = true
is_told terminals.Name = true
is_told terminals.Truth = true
is_told terminals.Space = true
is_told terminals.TypeWord = true
is_told terminals.Sign = true
is_told terminals.Char = true
is_told terminals.Int = true
is_told terminals.Length = true
is_told terminals.Qualifier = true
is_told terminals.Restrict = true
is_told j = false

plain_word : (j : Terminal) (w : List ℕ) → IsPlain w → OwnWord j w
plain_word terminals.Number w h = plain_sourced w h
plain_word terminals.Name w h = h
plain_word terminals.Truth w h = h
plain_word terminals.Space w h = h
plain_word terminals.TypeWord w h = h
plain_word terminals.Sign w h = h
plain_word terminals.Char w h = h
plain_word terminals.Int w h = h
plain_word terminals.Length w h = h
plain_word terminals.Qualifier w h = h
plain_word terminals.Restrict w h = h
plain_word j w h = tt

untold_word : (j : Terminal) (w : List ℕ) → is_told j ≡ false → OwnWord j w
untold_word terminals.Number w h = absurd (false≢true (sym h))
untold_word terminals.Name w h = absurd (false≢true (sym h))
untold_word terminals.Truth w h = absurd (false≢true (sym h))
untold_word terminals.Space w h = absurd (false≢true (sym h))
untold_word terminals.TypeWord w h = absurd (false≢true (sym h))
untold_word terminals.Sign w h = absurd (false≢true (sym h))
untold_word terminals.Char w h = absurd (false≢true (sym h))
untold_word terminals.Int w h = absurd (false≢true (sym h))
untold_word terminals.Length w h = absurd (false≢true (sym h))
untold_word terminals.Qualifier w h = absurd (false≢true (sym h))
untold_word terminals.Restrict w h = absurd (false≢true (sym h))
untold_word j w h = tt

-- the marks are none of these
abbrev AreUntold : List Row → Type 0
AreUntold rows = Each (λ (r : Row). is_told r.terminal ≡ false) rows

found : (w : List ℕ) (rows : List Row) (z : Terminal) → AreUntold rows → is_told z ≡ false →
    is_told (looked_up w rows z) ≡ false
found w [] z h o = o
found w (r ∷ rows) z h o = by (is_among w r.words) (found w rows z h.1 o)
  where
    by : (b : Bool) → is_told (looked_up w rows z) ≡ false →
        is_told (if b then r.terminal else looked_up w rows z) ≡ false
    by true k = h.0
    by false k = k

assignments_untold : AreUntold assignments
assignments_untold = (refl, (refl, tt))

operators_untold : AreUntold operators
operators_untold =
    (refl, (refl, (refl, (refl, (refl, (refl, (refl, (refl, (refl, (refl, (refl, (refl, (refl, tt)))))))))))))

brackets_untold : AreUntold brackets
brackets_untold = (refl, (refl, (refl, (refl, (refl, (refl, (refl, (refl, (refl, (refl, (refl, tt)))))))))))

mark_untold : (w : List ℕ) → is_told (bracket_of w) ≡ false
unfolding bracket_of operator_of assignment_of
mark_untold w = found w brackets (operator_of w) brackets_untold (found w operators (assignment_of w) operators_untold
    (found w assignments terminals.Other assignments_untold refl))

-- what is said of a token, by its kind
abbrev pub IsWord : Kind → List ℕ → Type 0
IsWord token_kinds.Name w = IsPlain w
IsWord token_kinds.Number w = is_sourced (name_in w) ≡ true
IsWord token_kinds.Mark w = Unit {0}
IsWord token_kinds.Hash w = Unit {0}

-- of one that a source spells
pub spelled_word : (k : Kind) (w : List ℕ) → Spells k w → IsWord k w
spelled_word token_kinds.Name w h = name_plain w h
spelled_word token_kinds.Number w h = number_sourced w h
spelled_word token_kinds.Mark w h = tt
spelled_word token_kinds.Hash w h = tt

pub token_own : (k : Kind) (w : List ℕ) → IsWord k w → OwnWord (terminal_of k w) w
unfolding terminal_of
token_own token_kinds.Name w h = plain_word (terminal_of token_kinds.Name w) w h
token_own token_kinds.Number w h = h
token_own token_kinds.Mark w h = untold_word (bracket_of w) w (mark_untold w)
token_own token_kinds.Hash w h = tt

abbrev pub TokensPlain : List Token → Type 0
TokensPlain tokens = Each (λ (t : Token). IsWord t.kind t.word) tokens
