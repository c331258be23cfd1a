-- Pieces that name a cell before a cut, behind one, or on both sides of one.
use Rattle.std.proofs.Common.{◌≡◌, ℕ, List, [], ◌∷◌, ◌++◌, refl, sym, ap, ◌∙◌, ◌⊎◌, ⊎_elim, inl, inr, true, false}
use Rattle.std.proofs.Common.{Bool as Test}
use Rattle.std.specs.Prelude.{◌&&◌, ◌||◌, nat_eq}
use Rattle.std.proofs.lemmas.Bool.{true≢false, or_cases, or_left, or_right, and_from}
use Rattle.std.proofs.lemmas.List.{append_assoc}
use Rattle.kir.specs.Tree.{Lines, NoLine}
use Rattle.kir.specs.Places.{Behind, IntoChosen, IntoOther, IntoTest, ToAnswer, IntoBody, Place, Tasks, NoTask}
use Rattle.kir.specs.Places.{LinesAt, AnswerAt, behind, chosen_of, other_of, test_of, body_of, lines_at, first_of}
use Rattle.kir.specs.Places.{others_of, past, in_chosen, in_other, at_answer, in_test, in_body, tasks_at}
use Rattle.kir.specs.Keeps.{Piece, Names, Cut, names_cell, names_behind_cut, names_across}

-- ---- tests

pub or-false : (x : Test) → (x || false) ≡ x
or-false true = refl
or-false false = refl

pub or-self : (x : Test) → (x || x) ≡ x
or-self true = refl
or-self false = refl

pub or_assoc : (x y z : Test) → (x || (y || z)) ≡ ((x || y) || z)
or_assoc true y z = refl
or_assoc false y z = refl

pub or_no : (x y : Test) → (x || y) ≡ false → (x ≡ false) × (y ≡ false)
or_no true y e = absurd (true≢false e)
or_no false y e = (refl, e)

pub or_more : (x y z : Test) → (y ≡ true → z ≡ true) → (x || y) ≡ true → (x || z) ≡ true
or_more true y z f e = refl
or_more false y z f e = f e

pub yes_or_no : (x : Test) → (x ≡ true) ⊎ (x ≡ false)
yes_or_no true = inl refl
yes_or_no false = inr refl

-- ---- pieces

-- they have a cut
pub record HasMark (ps : List Piece) : Type 0 where
  pub before : List Piece
  pub after : List Piece
  pub same : ps ≡ before ++ Cut ∷ after

pub mark_right : (ps qs : List Piece) → HasMark qs → HasMark (ps ++ qs)
mark_right ps qs m = record {
  before = ps ++ m.before;
  after = m.after;
  same = ap (λ z. ps ++ z) m.same ∙
      sym (append_assoc ps m.before (Cut ∷ m.after));
}

-- ---- the first lines of what is left to do

abbrev pub first_lines : Tasks → Lines
first_lines NoTask = NoLine
first_lines (LinesAt at lines k) = lines
first_lines (AnswerAt at test answer body begun k) = NoLine

pub past_lines : (t : Tasks) → first_lines (past t) ≡ behind (first_lines t)
past_lines NoTask = refl
past_lines (LinesAt at lines k) = refl
past_lines (AnswerAt at test answer body begun k) = refl

pub chosen_lines : (t : Tasks) → first_lines (in_chosen t) ≡ chosen_of (first_lines t)
chosen_lines NoTask = refl
chosen_lines (LinesAt at lines k) = refl
chosen_lines (AnswerAt at test answer body begun k) = refl

pub other_lines : (t : Tasks) → first_lines (in_other t) ≡ other_of (first_lines t)
other_lines NoTask = refl
other_lines (LinesAt at lines k) = refl
other_lines (AnswerAt at test answer body begun k) = refl

pub test_lines : (m : ℕ) (t : Tasks) → first_lines (in_test m t) ≡ test_of (first_lines t)
test_lines m NoTask = refl
test_lines m (LinesAt at lines k) = refl
test_lines m (AnswerAt at test answer body begun k) = refl

pub body_lines : (m : ℕ) (t : Tasks) → first_lines (in_body m t) ≡ body_of (first_lines t)
body_lines m NoTask = refl
body_lines m (LinesAt at lines k) = refl
body_lines m (AnswerAt at test answer body begun k) = refl

pub answer_lines : (m : ℕ) (t : Tasks) → first_lines (at_answer m t) ≡ NoLine
answer_lines m NoTask = refl
answer_lines m (LinesAt at lines k) = refl
answer_lines m (AnswerAt at test answer body begun k) = refl

-- they are those at the place
pub first_lines_at : (text : Lines) (at : Place) (begun : List ℕ) →
    first_lines (tasks_at text at begun) ≡ lines_at text at
first_lines_at text [] begun = refl
first_lines_at text (Behind ∷ at) begun = past_lines (tasks_at text at begun) ∙ ap behind (first_lines_at text at begun)
first_lines_at text (IntoChosen ∷ at) begun =
    chosen_lines (tasks_at text at begun) ∙ ap chosen_of (first_lines_at text at begun)
first_lines_at text (IntoOther ∷ at) begun =
    other_lines (tasks_at text at begun) ∙ ap other_of (first_lines_at text at begun)
first_lines_at text (IntoTest ∷ at) begun = test_lines (first_of begun) (tasks_at text at (others_of begun)) ∙
    ap test_of (first_lines_at text at (others_of begun))
first_lines_at text (ToAnswer ∷ at) begun = answer_lines (first_of begun) (tasks_at text at (others_of begun))
first_lines_at text (IntoBody ∷ at) begun = body_lines (first_of begun) (tasks_at text at (others_of begun)) ∙
    ap body_of (first_lines_at text at (others_of begun))

module _ (c : ℕ) where
  abbrev pub Named : List Piece → Type 0
  Named ps = names_cell c ps ≡ true

  pub names-append : (ps qs : List Piece) → names_cell c (ps ++ qs) ≡ (names_cell c ps || names_cell c qs)
  names-append [] qs = refl
  names-append (Names d ∷ ps) qs =
      ap (λ b. nat_eq c d || b) (names-append ps qs) ∙ or_assoc (nat_eq c d) (names_cell c ps) (names_cell c qs)
  names-append (Cut ∷ ps) qs = names-append ps qs

  pub named_left : (ps qs : List Piece) → Named ps → Named (ps ++ qs)
  named_left ps qs n = names-append ps qs ∙ or_left (names_cell c ps) (names_cell c qs) n

  pub named_right : (ps qs : List Piece) → Named qs → Named (ps ++ qs)
  named_right ps qs n = names-append ps qs ∙ or_right (names_cell c ps) (names_cell c qs) n

  pub named_either : (ps qs : List Piece) → Named (ps ++ qs) → Named ps ⊎ Named qs
  named_either ps qs n = or_cases (names_cell c ps) (names_cell c qs) (sym (names-append ps qs) ∙ n)

  -- named before a cut, behind one, and on both sides of one
  pub record Before (ps : List Piece) : Type 0 where
    pub before : List Piece
    pub after : List Piece
    pub same : ps ≡ before ++ Cut ∷ after
    pub named : Named before

  pub record Across (ps : List Piece) : Type 0 where
    pub before : List Piece
    pub after : List Piece
    pub same : ps ≡ before ++ Cut ∷ after
    pub named_before : Named before
    pub named_after : Named after

  pub record BehindOne (ps : List Piece) : Type 0 where
    pub before : List Piece
    pub after : List Piece
    pub same : ps ≡ before ++ Cut ∷ after
    pub named : Named after

  pub more_behind : (before after ps qs : List Piece) → ps ≡ before ++ Cut ∷ after →
      ps ++ qs ≡ before ++ Cut ∷ (after ++ qs)
  more_behind before after ps qs same = ap (λ z. z ++ qs) same ∙ append_assoc before (Cut ∷ after) qs

  pub more_before : (before after ps qs : List Piece) → qs ≡ before ++ Cut ∷ after →
      ps ++ qs ≡ (ps ++ before) ++ Cut ∷ after
  more_before before after ps qs same = ap (λ z. ps ++ z) same ∙ sym (append_assoc ps before (Cut ∷ after))

  pub across_left : (ps qs : List Piece) → Across ps → Across (ps ++ qs)
  across_left ps qs x = record {
    before = x.before;
    after = x.after ++ qs;
    same = more_behind x.before x.after ps qs x.same;
    named_before = x.named_before;
    named_after = named_left x.after qs x.named_after;
  }

  pub across_right : (ps qs : List Piece) → Across qs → Across (ps ++ qs)
  across_right ps qs x = record {
    before = ps ++ x.before;
    after = x.after;
    same = more_before x.before x.after ps qs x.same;
    named_before = named_right ps x.before x.named_before;
    named_after = x.named_after;
  }

  pub before_left : (ps qs : List Piece) → Before ps → Before (ps ++ qs)
  before_left ps qs x = record {
    before = x.before;
    after = x.after ++ qs;
    same = more_behind x.before x.after ps qs x.same;
    named = x.named;
  }

  pub before_right : (ps qs : List Piece) → Before qs → Before (ps ++ qs)
  before_right ps qs x = record {
    before = ps ++ x.before;
    after = x.after;
    same = more_before x.before x.after ps qs x.same;
    named = named_right ps x.before x.named;
  }

  pub behind_left : (ps qs : List Piece) → BehindOne ps → BehindOne (ps ++ qs)
  behind_left ps qs x = record {
    before = x.before;
    after = x.after ++ qs;
    same = more_behind x.before x.after ps qs x.same;
    named = named_left x.after qs x.named;
  }

  pub behind_right : (ps qs : List Piece) → BehindOne qs → BehindOne (ps ++ qs)
  behind_right ps qs x = record {
    before = ps ++ x.before;
    after = x.after;
    same = more_before x.before x.after ps qs x.same;
    named = x.named;
  }

  pub across_before : (ps qs : List Piece) → Before ps → Named qs → Across (ps ++ qs)
  across_before ps qs x n = record {
    before = x.before;
    after = x.after ++ qs;
    same = more_behind x.before x.after ps qs x.same;
    named_before = x.named;
    named_after = named_right x.after qs n;
  }

  pub across_behind : (ps qs : List Piece) → Named ps → BehindOne qs → Across (ps ++ qs)
  across_behind ps qs n x = record {
    before = ps ++ x.before;
    after = x.after;
    same = more_before x.before x.after ps qs x.same;
    named_before = named_left ps x.before n;
    named_after = x.named;
  }

  pub before_mark : (ps qs : List Piece) → Named ps → HasMark qs → Before (ps ++ qs)
  before_mark ps qs n m = record {
    before = ps ++ m.before;
    after = m.after;
    same = more_before m.before m.after ps qs m.same;
    named = named_left ps m.before n;
  }

  -- and so by the test
  pub behind_named : (before after : List Piece) → Named after → names_behind_cut c (before ++ Cut ∷ after) ≡ true
  behind_named [] after n = n
  behind_named (Names d ∷ before) after n = behind_named before after n
  behind_named (Cut ∷ before) after n = named_right before (Cut ∷ after) n

  pub across_named : (before after : List Piece) → Named before → Named after →
      names_across c (before ++ Cut ∷ after) ≡ true
  across_named [] after n m = absurd (true≢false (sym n))
  across_named (Names d ∷ before) after n m =
      ⊎_elim (λ h. or_left (nat_eq c d && names_behind_cut c (before ++ Cut ∷ after))
      (names_across c (before ++ Cut ∷ after)) (and_from _ _ h (behind_named before after m)))
      (λ h. or_right (nat_eq c d && names_behind_cut c (before ++ Cut ∷ after))
      (names_across c (before ++ Cut ∷ after)) (across_named before after h m))
      (or_cases (nat_eq c d) (names_cell c before) n)
  across_named (Cut ∷ before) after n m = across_named before after n m

  pub is_across : (ps : List Piece) → Across ps → names_across c ps ≡ true
  is_across ps x = ap (names_across c) x.same ∙ across_named x.before x.after x.named_before x.named_after
