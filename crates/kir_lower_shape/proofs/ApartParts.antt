-- The points of barrier lines are told apart: ifs, loops, barriers, and lines with none.
use Rattle.std.proofs.Common.{◌≡◌, ℕ, zero, suc, ◌+◌, List, [], ◌∷◌, ◌++◌, length, refl, sym, ap, ap₂, ◌∙◌, arith}
use Rattle.std.proofs.Common.{append_assoc, append-nil, ◌⊎◌, inl, inr, ⊎_elim}
use Rattle.std.proofs.Common.{Bool as Test}
use Rattle.cl_model.specs.Task.{Leg as ProgramLeg, Turn, Point as ProgramPoint}
use Rattle.kir.specs.declared.line.Atom.{Atom}
use Rattle.kir.specs.Tree.{Lines, NoLine, IfThen, LoopThen, BarrierThen, joined_to}
use Rattle.kir.specs.Places.{Leg, IntoChosen, IntoOther, IntoTest, IntoBody, first_of, others_of}
use Rattle.kir_lower_shape.specs.Marks.{Way, in_turn, Marks, NoMark, MarkThen, FormThen, marks_then, Shaped}
use Rattle.kir_lower_shape.specs.BarrierPoints.{Spot, loops_in, behind_first, IsFair, AreTold, IsTold}
use Rattle.kir_lower_shape.proofs.Cutless.{Cutless}
use Rattle.kir_lower_shape.proofs.Apart.{told_cutless, told_more, invert, apart, told_then}

-- ---- the turn of a loop

-- the loop that has begun so many iterations
abbrev pub turned : Way → Way
turned way begun = way (others_of begun) ++ Turn (first_of begun) ∷ []

abbrev turn_of : ProgramPoint → ℕ
turn_of [] = 0
turn_of (Turn k ∷ xs) = k
turn_of (_ ∷ xs) = 0

abbrev tail_of : ProgramPoint → ProgramPoint
tail_of [] = []
tail_of (x ∷ xs) = xs

pub fair_turned : (way : Way) (d : ℕ) → IsFair way d → IsFair (turned way) (suc d)
fair_turned way d fair [] begun' xs ys e e' k = absurd (omega (arith, e))
fair_turned way d fair (b ∷ bs) [] xs ys e e' k = absurd (omega (arith, e'))
fair_turned way d fair (b ∷ bs) (c ∷ cs) xs ys e e' k =
    let p = fair bs cs (Turn b ∷ xs) (Turn c ∷ ys) (omega (arith, e)) (omega (arith, e'))
    (sym (append_assoc (way bs) (Turn b ∷ []) xs) ∙ k ∙ append_assoc (way cs) (Turn c ∷ []) ys) in
    (ap₂ (λ y z. y ∷ z) (ap turn_of p.1) p.0, ap tail_of p.1)

-- a node in a loop is one below the loop's turn
turn_same : (way : Way) (leg : ProgramLeg) (begun : List ℕ) (tail : ProgramPoint) →
    in_turn way leg begun ++ tail ≡ turned way begun ++ leg ∷ tail
turn_same way leg begun tail =
    append_assoc (way (others_of begun)) (Turn (first_of begun) ∷ leg ∷ []) tail ∙
    sym (append_assoc (way (others_of begun)) (Turn (first_of begun) ∷ []) (leg ∷ tail))

pub fair_in_turn : (way : Way) (d : ℕ) (leg : ProgramLeg) → IsFair way d → IsFair (in_turn way leg) (suc d)
fair_in_turn way d leg fair begun begun' xs ys e e' k =
    let p = fair_turned way d fair begun begun' (leg ∷ xs) (leg ∷ ys) e e' (sym (turn_same way leg begun xs) ∙ k ∙
    turn_same way leg begun' ys) in
    (p.0, ap tail_of p.1)

pub as_turn : (way : Way) (d : ℕ) (leg : ProgramLeg) (lines : Lines) (marks : Marks) →
    IsTold (in_turn way leg) (suc d) lines marks → AreTold (turned way) (suc d) (λ l. leg ≡ l) lines marks
as_turn way d leg lines marks h = record {
  under = λ legs w s begun e. let u =
      h.under legs w s begun e in (leg, u.0, refl, u.1 ∙ turn_same way leg (behind_first (loops_in legs) begun) u.0);
  one = h.one;
}

-- ---- lines with none

module _ (way : Way) (d : ℕ) (fair : IsFair way d) where
  pub then_cutless : (Own : ProgramLeg → Type 0) (a b : Lines) (m k : Marks) → Shaped a m → AreTold way d Own a m →
      Cutless b → AreTold way d Own (joined_to a b) (marks_then m k)
  then_cutless Own a b m k shaped h c =
      told_more way d (λ leg. Own leg ⊎ ⊥) Own (joined_to a b) (marks_then m k)
      (λ leg p. ⊎_elim (λ o. o) (λ n. absurd n) p)
      (told_then way d fair Own (λ leg. ⊥) a b m k shaped h (told_cutless way d (λ leg. ⊥) b k c) (λ leg o n. n))

  pub cutless_then_told : (Own : ProgramLeg → Type 0) (a b : Lines) (m k : Marks) → Shaped a m → Cutless a →
      AreTold way d Own b k → AreTold way d Own (joined_to a b) (marks_then m k)
  cutless_then_told Own a b m k shaped c h =
      told_more way d (λ leg. ⊥ ⊎ Own leg) Own (joined_to a b) (marks_then m k)
      (λ leg p. ⊎_elim (λ n. absurd n) (λ o. o) p)
      (told_then way d fair (λ leg. ⊥) Own a b m k shaped (told_cutless way d (λ leg. ⊥) a m c) h (λ leg n o. n))

  -- ---- an if

  -- in which branch a spot of an if is
  abbrev IfParts : (chosen other : Lines) (one two : Marks) → List Leg → Way → Type 0
  IfParts chosen other one two legs w = ((inner : List Leg) × (legs ≡ IntoChosen ∷ inner) × Spot chosen one inner w) ⊎
      ((inner : List Leg) × (legs ≡ IntoOther ∷ inner) × Spot other two inner w)

  pub told_if : (Own Other_ : ProgramLeg → Type 0) (site : ℕ) (test : Atom) (chosen other : Lines) (w0 : Way)
      (one two : Marks) → AreTold way d Own chosen one → AreTold way d Other_ other two →
      ((leg : ProgramLeg) → Own leg → Other_ leg → ⊥)
      → AreTold way d (λ leg. Own leg ⊎ Other_ leg) (IfThen site test chosen other NoLine) (FormThen w0 one two NoMark)
  told_if Own Other_ site test chosen other w0 one two h g disjoint = record {
    under = λ legs w s begun e. under legs w begun e (parts legs w s);
    one = λ legs legs' w w' s s' begun begun' e e' same. one_of legs legs' w w' begun begun' e e' same
        (parts legs w s) (parts legs' w' s');
  }
    where
      parts : (legs : List Leg) (w : Way) →
          Spot (IfThen site test chosen other NoLine) (FormThen w0 one two NoMark) legs w →
          IfParts chosen other one two legs w
      parts legs w s = ⊎_elim (λ i. absurd (invert NoLine NoMark i.0 w i.2)) (λ r. r)
          (invert (IfThen site test chosen other NoLine) (FormThen w0 one two NoMark) legs w s)

      under : (legs : List Leg) (w : Way) (begun : List ℕ) → length begun ≡ loops_in legs + d →
          IfParts chosen other one two legs w → (leg : ProgramLeg) × (tail : ProgramPoint) × (Own leg ⊎ Other_ leg) ×
          (w begun ≡ way (behind_first (loops_in legs) begun) ++ leg ∷ tail)
      under legs w begun e (inl s) =
          let p = ap loops_in s.1 in let u = h.under s.0 w s.2 begun (e ∙ ap (λ n. n + d) p) in
          (u.0, u.1, inl u.2, u.3 ∙ ap (λ n. way (behind_first n begun) ++ u.0 ∷ u.1) (sym p))
      under legs w begun e (inr s) =
          let p = ap loops_in s.1 in let u = g.under s.0 w s.2 begun (e ∙ ap (λ n. n + d) p) in
          (u.0, u.1, inr u.2, u.3 ∙ ap (λ n. way (behind_first n begun) ++ u.0 ∷ u.1) (sym p))

      one_of : (legs legs' : List Leg) (w w' : Way) (begun begun' : List ℕ) → length begun ≡ loops_in legs + d →
          length begun' ≡ loops_in legs' + d → w begun ≡ w' begun' → IfParts chosen other one two legs w →
          IfParts chosen other one two legs' w' → (legs ≡ legs') × (begun ≡ begun')
      one_of legs legs' w w' begun begun' e e' same (inl s) (inl s') =
          let p = h.one s.0 s'.0 w w' s.2 s'.2 begun begun' (e ∙ ap (λ l. loops_in l + d) s.1) (e' ∙
          ap (λ l. loops_in l + d) s'.1) same in
          (s.1 ∙ ap (λ z. IntoChosen ∷ z) p.0 ∙ sym s'.1, p.1)
      one_of legs legs' w w' begun begun' e e' same (inl s) (inr s') =
          absurd (apart way d fair Own Other_ chosen other one two h g disjoint s.0 s'.0 w w' s.2 s'.2 begun begun'
          (e ∙ ap (λ l. loops_in l + d) s.1) (e' ∙ ap (λ l. loops_in l + d) s'.1) same)
      one_of legs legs' w w' begun begun' e e' same (inr s) (inl s') =
          absurd (apart way d fair Own Other_ chosen other one two h g disjoint s'.0 s.0 w' w s'.2 s.2 begun' begun
          (e' ∙ ap (λ l. loops_in l + d) s'.1) (e ∙ ap (λ l. loops_in l + d) s.1) (sym same))
      one_of legs legs' w w' begun begun' e e' same (inr s) (inr s') =
          let p = g.one s.0 s'.0 w w' s.2 s'.2 begun begun' (e ∙ ap (λ l. loops_in l + d) s.1) (e' ∙
          ap (λ l. loops_in l + d) s'.1) same in
          (s.1 ∙ ap (λ z. IntoOther ∷ z) p.0 ∙ sym s'.1, p.1)

  -- ---- a barrier

  pub told_barrier : (site : ℕ) → IsTold way d (BarrierThen site NoLine) (MarkThen way NoMark)
  told_barrier site = record {
    under = λ legs w s begun e. ⊎_elim
        (λ i. (
          [],
          sym (ap (λ (v : Way). v begun) i.1) ∙ ap (λ l. way (behind_first (loops_in l) begun)) (sym i.0) ∙
              sym (append-nil (way (behind_first (loops_in legs) begun))),
        ))
        (λ i. absurd (invert NoLine NoMark i.0 w i.2)) (invert (BarrierThen site NoLine) (MarkThen way NoMark) legs w
        s);
    one = λ legs legs' w w' s s' begun begun' e e' same. ⊎_elim
        (λ i. ⊎_elim
        (λ j. let p = fair begun begun' [] [] (e ∙ ap (λ l. loops_in l + d) i.0 ∙ plain d) (e' ∙
        ap (λ l. loops_in l + d) j.0 ∙ plain d)
        (append-nil (way begun) ∙ ap (λ (v : Way). v begun) i.1 ∙ same ∙ sym (ap (λ (v : Way). v begun') j.1) ∙
        sym (append-nil (way begun'))) in
        (i.0 ∙ sym j.0, p.0))
        (λ j. absurd (invert NoLine NoMark j.0 w' j.2)) (invert (BarrierThen site NoLine) (MarkThen way NoMark) legs'
        w' s'))
        (λ i. absurd (invert NoLine NoMark i.0 w i.2)) (invert (BarrierThen site NoLine) (MarkThen way NoMark) legs w
        s);
  }
    where
      plain : (n : ℕ) → 0 + n ≡ n
      plain n = omega arith

  -- ---- a loop

  -- the turn of the loop, whatever its number
  abbrev pub IsTurn : ProgramLeg → Type 0
  IsTurn leg = (k : ℕ) × (Turn k ≡ leg)

  -- in which part a spot of a loop is
  abbrev LoopParts : (test body : Lines) (one two : Marks) → List Leg → Way → Type 0
  LoopParts test body one two legs w = ((inner : List Leg) × (legs ≡ IntoTest ∷ inner) × Spot test one inner w) ⊎
      ((inner : List Leg) × (legs ≡ IntoBody ∷ inner) × Spot body two inner w)

  -- one loop more around
  inner_length : (legs inner : List Leg) (begun : List ℕ) → loops_in legs ≡ suc (loops_in inner) →
      length begun ≡ loops_in legs + d → length begun ≡ loops_in inner + suc d
  inner_length legs inner begun p e = omega (arith, p, e)

  behind_others : (n : ℕ) (begun : List ℕ) → behind_first n (others_of begun) ≡ others_of (behind_first n begun)
  behind_others zero begun = refl
  behind_others (suc n) begun = behind_others n (others_of begun)

  outer : (legs inner : List Leg) (begun : List ℕ) → loops_in legs ≡ suc (loops_in inner) →
      way (others_of (behind_first (loops_in inner) begun)) ≡ way (behind_first (loops_in legs) begun)
  outer legs inner begun p =
      ap way (sym (behind_others (loops_in inner) begun)) ∙ ap (λ n. way (behind_first n begun)) (sym p)

  pub told_loop : (Mine Other_ : ProgramLeg → Type 0) (site : ℕ) (first : Test) (test : Lines) (answer : Atom)
      (body : Lines) (w0 : Way) (one two : Marks) → AreTold (turned way) (suc d) Mine test one →
      AreTold (turned way) (suc d) Other_ body two
      → ((leg : ProgramLeg) → Mine leg → Other_ leg → ⊥) →
      AreTold way d IsTurn (LoopThen site first test answer body NoLine) (FormThen w0 one two NoMark)
  told_loop Mine Other_ site first test answer body w0 one two h g disjoint = record {
    under = λ legs w s begun e. under legs w begun e (parts legs w s);
    one = λ legs legs' w w' s s' begun begun' e e' same. one_of legs legs' w w' begun begun' e e' same
        (parts legs w s) (parts legs' w' s');
  }
    where
      parts : (legs : List Leg) (w : Way) →
          Spot (LoopThen site first test answer body NoLine) (FormThen w0 one two NoMark) legs w →
          LoopParts test body one two legs w
      parts legs w s = ⊎_elim (λ i. absurd (invert NoLine NoMark i.0 w i.2)) (λ r. r)
          (invert (LoopThen site first test answer body NoLine) (FormThen w0 one two NoMark) legs w s)

      below : (legs inner : List Leg) (w : Way) (begun : List ℕ) (leg : ProgramLeg) (tail : ProgramPoint) →
          loops_in legs ≡ suc (loops_in inner) → w begun ≡ turned way (behind_first (loops_in inner) begun) ++ leg ∷
          tail
          → (l : ProgramLeg) × (t : ProgramPoint) × IsTurn l ×
          (w begun ≡ way (behind_first (loops_in legs) begun) ++ l ∷ t)
      below legs inner w begun leg tail p u =
          let b = behind_first (loops_in inner) begun in (
            Turn (first_of b),
            leg ∷ tail,
            (first_of b, refl),
            u ∙
                append_assoc (way (others_of b)) (Turn (first_of b) ∷ []) (leg ∷ tail) ∙
                ap (λ z. z ++ Turn (first_of b) ∷ leg ∷ tail) (outer legs inner begun p),
          )

      under : (legs : List Leg) (w : Way) (begun : List ℕ) → length begun ≡ loops_in legs + d →
          LoopParts test body one two legs w
          → (l : ProgramLeg) × (t : ProgramPoint) × IsTurn l ×
          (w begun ≡ way (behind_first (loops_in legs) begun) ++ l ∷ t)
      under legs w begun e (inl s) =
          let p = ap loops_in s.1 in let u =
          h.under s.0 w s.2 begun (inner_length legs s.0 begun p e) in below legs s.0 w begun u.0 u.1 p u.3
      under legs w begun e (inr s) =
          let p = ap loops_in s.1 in let u =
          g.under s.0 w s.2 begun (inner_length legs s.0 begun p e) in below legs s.0 w begun u.0 u.1 p u.3

      one_of : (legs legs' : List Leg) (w w' : Way) (begun begun' : List ℕ) → length begun ≡ loops_in legs + d →
          length begun' ≡ loops_in legs' + d → w begun ≡ w' begun' → LoopParts test body one two legs w →
          LoopParts test body one two legs' w'
          → (legs ≡ legs') × (begun ≡ begun')
      one_of legs legs' w w' begun begun' e e' same (inl s) (inl s') =
          let p = h.one s.0 s'.0 w w' s.2 s'.2 begun begun' (inner_length legs s.0 begun (ap loops_in s.1) e)
          (inner_length legs' s'.0 begun' (ap loops_in s'.1) e') same in
          (s.1 ∙ ap (λ z. IntoTest ∷ z) p.0 ∙ sym s'.1, p.1)
      one_of legs legs' w w' begun begun' e e' same (inl s) (inr s') =
          absurd (apart (turned way) (suc d) (fair_turned way d fair) Mine Other_ test body one two h g disjoint s.0
          s'.0 w w' s.2 s'.2 begun begun' (inner_length legs s.0 begun (ap loops_in s.1) e)
          (inner_length legs' s'.0 begun' (ap loops_in s'.1) e') same)
      one_of legs legs' w w' begun begun' e e' same (inr s) (inl s') =
          absurd (apart (turned way) (suc d) (fair_turned way d fair) Mine Other_ test body one two h g disjoint s'.0
          s.0 w' w s'.2 s.2 begun' begun (inner_length legs' s'.0 begun' (ap loops_in s'.1) e')
          (inner_length legs s.0 begun (ap loops_in s.1) e) (sym same))
      one_of legs legs' w w' begun begun' e e' same (inr s) (inr s') =
          let p = g.one s.0 s'.0 w w' s.2 s'.2 begun begun' (inner_length legs s.0 begun (ap loops_in s.1) e)
          (inner_length legs' s'.0 begun' (ap loops_in s'.1) e') same in
          (s.1 ∙ ap (λ z. IntoBody ∷ z) p.0 ∙ sym s'.1, p.1)
