-- What the words of the grammar's terminals say.
use Rattle.std.proofs.Common.{◌≡◌, ℕ, nat_eq, List, [], ◌∷◌, Option, Some, Bool, true, false, not, ◌&&◌, ◌||◌}
use Rattle.std.proofs.Common.{if◌then◌else◌, refl, sym, subst, inl, inr, ◌⊎◌}
use Rattle.std.proofs.lemmas.Bool.{false≢true}
use Rattle.std.proofs.lemmas.Slice.Eq.{bytes_eq-Decides}
use Rattle.std.specs.Prelude.{codes}
use Rattle.std.specs.List.{list_any}
use Rattle.cl_token.specs.declared.token.Kind.{Kind}
use Rattle.cl_token.specs.declared.token.Kind.TheVariants as token_kinds
use Rattle.cl_tree.specs.declared.terminal.Terminal.{Terminal}
use Rattle.cl_tree.specs.declared.terminal.Terminal.TheVariants as terminals
use Rattle.cl_tree.specs.Words.{Row, is_among, looked_up, assignments, assignment_of, operators, operator_of}
use Rattle.cl_tree.specs.Words.{brackets, bracket_of, vector_words, vector_word_of, outside_words, outside_word_of}
use Rattle.cl_tree.specs.Words.{base_words, base_word_of, space_words, space_word_of, declaration_words}
use Rattle.cl_tree.specs.Words.{declaration_word_of, control_words, control_word_of, terminal_of}
use Rattle.cl_model.specs.Lists.{Each}
use Rattle.cl_meaning.specs.declared.operators.Prefix.{Prefix}
use Rattle.cl_meaning.specs.declared.operators.Prefix.TheVariants as prefixes
use Rattle.cl_meaning.specs.declared.types.Base.{Base}
use Rattle.cl_meaning.specs.declared.types.Base.TheVariants as bases
use Rattle.cl_meaning.specs.Operators.{binary_in, setting_in, prefix_in, postfix_in}
use Rattle.cl_meaning.specs.Literals.{truth_in, literal_in}
use Rattle.cl_meaning.specs.OwnWords.{is_blank, has_bytes, pieces, first_row}
use Rattle.cl_meaning.specs.Types.{is_qualifier, integers}
use lib.Pointwise.{pointwise}
use Rattle.cl_meaning.specs.Kinds.{is_some}
use Rattle.cl_check_sound.specs.Shape.{indexes}

-- a word of bytes without blanks
abbrev pub is_solid : List ℕ → Bool
is_solid w = has_bytes w && not (list_any is_blank w)

abbrev pub is_operand : Option Prefix → Bool
is_operand (Some (prefixes.Step op)) = true
is_operand (Some (prefixes.Operator op)) = true
is_operand (Some prefixes.Address) = true
is_operand (Some prefixes.Content) = true
is_operand p = false

-- the base type that bare words name
abbrev pub base_by : List (List ℕ) → Option Base
base_by ps = if list_any (λ (r : Row). list_any (λ text. pointwise (pointwise nat_eq) ps (pieces text)) r.words)
    outside_words || list_any (λ (r : Row). list_any (λ text. pointwise (pointwise nat_eq) ps (pieces text)) r.words)
    vector_words
    then Some bases.Outside
    else first_row (λ text. pointwise (pointwise nat_eq) ps (pieces text)) integers

-- what a word of a terminal says
abbrev pub Word : Terminal → List ℕ → Type 0
Word terminals.Number w = is_some (literal_in w) ≡ true
Word terminals.Truth w = is_some (truth_in w) ≡ true
Word terminals.Equals w = is_some (setting_in w) ≡ true
Word terminals.Compound w = is_some (setting_in w) ≡ true
Word terminals.Bar w = is_some (binary_in w) ≡ true
Word terminals.Caret w = is_some (binary_in w) ≡ true
Word terminals.Ampersand w = (is_some (binary_in w) ≡ true) × (is_operand (prefix_in w) ≡ true)
Word terminals.Equality w = is_some (binary_in w) ≡ true
Word terminals.Relation w = is_some (binary_in w) ≡ true
Word terminals.Shift w = is_some (binary_in w) ≡ true
Word terminals.PlusMinus w = (is_some (binary_in w) ≡ true) × (is_operand (prefix_in w) ≡ true)
Word terminals.Star w = (is_some (binary_in w) ≡ true) × (is_operand (prefix_in w) ≡ true)
Word terminals.Slash w = is_some (binary_in w) ≡ true
Word terminals.Tilde w = is_operand (prefix_in w) ≡ true
Word terminals.Step w =
    (is_operand (prefix_in w) ≡ true) × (is_some (postfix_in w) ≡ true) × (indexes (postfix_in w) ≡ false)
Word terminals.Sizeof w = w ≡ codes "sizeof"
Word terminals.Open w = w ≡ codes "("
Word terminals.Close w = w ≡ codes ")"
Word terminals.OpenBracket w = w ≡ codes "["
Word terminals.CloseBracket w = w ≡ codes "]"
Word terminals.Point w = w ≡ codes "."
Word terminals.TypeWord w = (is_some (base_by (w ∷ [])) ≡ true) × (is_solid w ≡ true) × (is_qualifier w ≡ false)
Word terminals.Sign w = (w ≡ codes "signed") ⊎ (w ≡ codes "unsigned")
Word terminals.Char w = w ≡ codes "char"
Word terminals.Int w = w ≡ codes "int"
Word terminals.Length w = (w ≡ codes "short") ⊎ (w ≡ codes "long")
Word terminals.Qualifier w = (is_solid w ≡ true) × (is_qualifier w ≡ true)
Word j w = Unit {0}

-- the words of a table say what their terminals say
abbrev pub AllRows : List Row → Type 0
AllRows rows = Each (λ (r : Row). Each (λ w. Word r.terminal w) r.words) rows

among : (j : Terminal) (w : List ℕ) (ws : List (List ℕ)) → Each (λ v. Word j v) ws → is_among w ws ≡ true → Word j w
among j w [] h e = absurd (false≢true e)
among j w (v ∷ vs) h e = by (pointwise nat_eq w v) refl e (λ k. among j w vs h.1 k)
  where
    by : (b : Bool) → pointwise nat_eq w v ≡ b → (if b then true else is_among w vs) ≡ true →
        (is_among w vs ≡ true → Word j w) → Word j w
    by true p e g = subst (Word j) (sym ((bytes_eq-Decides w v).0 p)) h.0
    by false p e g = g e

found : (w : List ℕ) (rows : List Row) (z : Terminal) → AllRows rows → Word z w → Word (looked_up w rows z) w
found w [] z h o = o
found w (r ∷ rows) z h o = by (is_among w r.words) refl (found w rows z h.1 o)
  where
    by : (b : Bool) → is_among w r.words ≡ b → Word (looked_up w rows z) w →
        Word (if b then r.terminal else looked_up w rows z) w
    by true e k = among r.terminal w r.words h.0 e
    by false e k = k

assignment_rows : AllRows assignments
unfolding setting_in
assignment_rows = ((refl, tt), ((refl, (refl, (refl, (refl, (refl, (refl, (refl, (refl, (refl, (refl, tt)))))))))), tt))

operator_rows : AllRows operators
unfolding binary_in prefix_in postfix_in
operator_rows = (
  (tt, tt),
  (
    (tt, tt),
    (
      (refl, tt),
      (
        (refl, tt),
        (
          ((refl, refl), tt),
          (
            (refl, (refl, tt)),
            (
              (refl, (refl, (refl, (refl, tt)))),
              (
                (refl, (refl, tt)),
                (
                  ((refl, refl), ((refl, refl), tt)),
                  (
                    ((refl, refl), tt),
                    (
                      (refl, (refl, tt)),
                      ((refl, (refl, tt)), (((refl, refl, refl), ((refl, refl, refl), tt)), tt)),
                    ),
                  ),
                ),
              ),
            ),
          ),
        ),
      ),
    ),
  ),
)

bracket_rows : AllRows brackets
bracket_rows = (
  (tt, tt),
  (
    (tt, tt),
    (
      (refl, tt),
      ((refl, tt), ((refl, tt), ((refl, tt), ((tt, tt), ((tt, tt), ((tt, tt), ((tt, tt), ((refl, tt), tt)))))))),
    ),
  ),
)

vector_rows : AllRows vector_words
vector_rows = (
  (
    (refl, refl, refl),
    (
      (refl, refl, refl),
      (
        (refl, refl, refl),
        (
          (refl, refl, refl),
          (
            (refl, refl, refl),
            (
              (refl, refl, refl),
              (
                (refl, refl, refl),
                (
                  (refl, refl, refl),
                  (
                    (refl, refl, refl),
                    (
                      (refl, refl, refl),
                      (
                        (refl, refl, refl),
                        (
                          (refl, refl, refl),
                          (
                            (refl, refl, refl),
                            (
                              (refl, refl, refl),
                              (
                                (refl, refl, refl),
                                (
                                  (refl, refl, refl),
                                  (
                                    (refl, refl, refl),
                                    ((refl, refl, refl), ((refl, refl, refl), ((refl, refl, refl), tt))),
                                  ),
                                ),
                              ),
                            ),
                          ),
                        ),
                      ),
                    ),
                  ),
                ),
              ),
            ),
          ),
        ),
      ),
    ),
  ),
  (
    (
      (refl, refl, refl),
      (
        (refl, refl, refl),
        (
          (refl, refl, refl),
          (
            (refl, refl, refl),
            (
              (refl, refl, refl),
              (
                (refl, refl, refl),
                (
                  (refl, refl, refl),
                  (
                    (refl, refl, refl),
                    (
                      (refl, refl, refl),
                      (
                        (refl, refl, refl),
                        (
                          (refl, refl, refl),
                          (
                            (refl, refl, refl),
                            (
                              (refl, refl, refl),
                              (
                                (refl, refl, refl),
                                (
                                  (refl, refl, refl),
                                  (
                                    (refl, refl, refl),
                                    (
                                      (refl, refl, refl),
                                      (
                                        (refl, refl, refl),
                                        ((refl, refl, refl), ((refl, refl, refl), tt)),
                                      ),
                                    ),
                                  ),
                                ),
                              ),
                            ),
                          ),
                        ),
                      ),
                    ),
                  ),
                ),
              ),
            ),
          ),
        ),
      ),
    ),
    (
      (
        (refl, refl, refl),
        (
          (refl, refl, refl),
          (
            (refl, refl, refl),
            (
              (refl, refl, refl),
              (
                (refl, refl, refl),
                (
                  (refl, refl, refl),
                  (
                    (refl, refl, refl),
                    (
                      (refl, refl, refl),
                      (
                        (refl, refl, refl),
                        (
                          (refl, refl, refl),
                          (
                            (refl, refl, refl),
                            (
                              (refl, refl, refl),
                              ((refl, refl, refl), ((refl, refl, refl), ((refl, refl, refl), tt))),
                            ),
                          ),
                        ),
                      ),
                    ),
                  ),
                ),
              ),
            ),
          ),
        ),
      ),
      tt,
    ),
  ),
)

outside_rows : AllRows outside_words
outside_rows = (
  (
    (refl, refl, refl),
    (
      (refl, refl, refl),
      (
        (refl, refl, refl),
        (
          (refl, refl, refl),
          (
            (refl, refl, refl),
            (
              (refl, refl, refl),
              (
                (refl, refl, refl),
                (
                  (refl, refl, refl),
                  (
                    (refl, refl, refl),
                    (
                      (refl, refl, refl),
                      (
                        (refl, refl, refl),
                        ((refl, refl, refl), ((refl, refl, refl), ((refl, refl, refl), tt))),
                      ),
                    ),
                  ),
                ),
              ),
            ),
          ),
        ),
      ),
    ),
  ),
  tt,
)

base_rows : AllRows base_words
base_rows = (
  (inl refl, (inr refl, tt)),
  (
    (refl, tt),
    (
      (refl, tt),
      (
        (inl refl, (inr refl, tt)),
        (
          (
            (refl, refl, refl),
            (
              (refl, refl, refl),
              ((refl, refl, refl), ((refl, refl, refl), ((refl, refl, refl), ((refl, refl, refl), tt)))),
            ),
          ),
          tt,
        ),
      ),
    ),
  ),
)

space_rows : AllRows space_words
space_rows = ((tt, (tt, (tt, (tt, (tt, (tt, (tt, (tt, tt)))))))), ((tt, (tt, (tt, (tt, (tt, tt))))), tt))

declaration_rows : AllRows declaration_words
unfolding truth_in
declaration_rows = (
  (refl, (refl, tt)),
  (
    (tt, (tt, (tt, (tt, tt)))),
    (
      (tt, tt),
      ((tt, (tt, tt)), ((tt, tt), (((refl, refl), ((refl, refl), tt)), ((tt, (tt, tt)), tt)))),
    ),
  ),
)

control_rows : AllRows control_words
control_rows = (
  (tt, tt),
  (
    (tt, tt),
    (
      (tt, tt),
      (
        (tt, tt),
        (
          (tt, tt),
          ((tt, tt), ((tt, tt), ((tt, tt), ((tt, tt), ((tt, tt), ((tt, tt), ((refl, tt), tt))))))),
        ),
      ),
    ),
  ),
)

mark_word : (w : List ℕ) → Word (bracket_of w) w
unfolding bracket_of operator_of assignment_of
mark_word w = found w brackets (operator_of w) bracket_rows (found w operators (assignment_of w) operator_rows
    (found w assignments terminals.Other assignment_rows tt))

name_word : (w : List ℕ) → Word (control_word_of w) w
unfolding control_word_of declaration_word_of space_word_of base_word_of outside_word_of vector_word_of
name_word w =
    found w control_words (declaration_word_of w) control_rows
    (found w declaration_words (space_word_of w) declaration_rows (found w space_words (base_word_of w) space_rows
    (found w base_words (outside_word_of w) base_rows (found w outside_words (vector_word_of w) outside_rows
    (found w vector_words terminals.Name vector_rows tt)))))

-- a token, whose number is one that has a value
pub token_word : (k : Kind) (w : List ℕ) → (k ≡ token_kinds.Number → is_some (literal_in w) ≡ true) →
    Word (terminal_of k w) w
unfolding terminal_of
token_word token_kinds.Name w h = name_word w
token_word token_kinds.Number w h = h refl
token_word token_kinds.Mark w h = mark_word w
token_word token_kinds.Hash w h = tt
