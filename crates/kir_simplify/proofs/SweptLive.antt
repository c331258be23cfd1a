-- What is live at a place of a swept text is live in the given one, at the place that it comes from.
use Rattle.std.proofs.Common.{◌≡◌, ℕ, List, [], ◌∷◌, refl, sym, ap, ◌∙◌, subst, true, false, if◌then◌else◌, ne_eqb}
use Rattle.std.proofs.Common.{Bool as Test}
use Rattle.std.specs.Prelude.{nat_eq, not, ◌&&◌, ◌||◌}
use Rattle.std.proofs.lemmas.Bool.{true≢false, and_parts}
use Rattle.kir.specs.Tree.{Work, Lines, NoLine, SetThen, LoadThen, StoreThen, ClearThen, IfThen, LoopThen, BarrierThen}
use Rattle.kir.specs.Tree.{Kernel}
use Rattle.kir.specs.Places.{Leg, Behind, IntoChosen, IntoOther, IntoTest, ToAnswer, IntoBody, Place, Tasks, NoTask}
use Rattle.kir.specs.Places.{LinesAt, AnswerAt, lines_at, behind, chosen_of, other_of, test_of, body_of, answer_of}
use Rattle.kir.specs.Places.{past}
use Rattle.kir.specs.Places.{in_chosen, in_other, at_answer, in_test, in_body, tasks_at, first_of, others_of}
use Rattle.kir.specs.Live.{reads, work_reads, live_in, live_now, live_behind, live_at}
use Rattle.kir.proofs.Across.{first_lines, first_lines_at, or_no}
use Rattle.kir_simplify.specs.Reading.{reads_in}
use Rattle.kir_simplify.specs.Simple.{is_value_cell, is_unread}
use Rattle.kir_simplify.specs.Passes.{swept}
use Rattle.kir_simplify.proofs.FoldedLess.{or_less, and_less}
use Rattle.kir_simplify.proofs.SweptItems.{part, part_at, placed, IsKept, IsReady, front, or_second}
use Rattle.kir_simplify.proofs.SweptText.{behind_swept, chosen_swept, other_swept, test_swept, body_swept, left_set}
use Rattle.kir_simplify.proofs.SweptText.{along}
use Rattle.kir_simplify.proofs.SweptText.{placed_is, placed_kept}

module _ (kernel : Kernel) where
  abbrev S : Lines → Lines
  S lines = swept (is_unread kernel) lines

  -- ---- what is left to do at a place

  -- the same, swept, whatever the places
  abbrev IsSwept : Tasks → Tasks → Type 0
  IsSwept NoTask NoTask = Unit {0}
  IsSwept (LinesAt p lines' k') (LinesAt at lines k) = (lines' ≡ S lines) × IsSwept k' k
  IsSwept (AnswerAt p test' answer' body' n' k') (AnswerAt at test answer body n k) =
      (test' ≡ S test) × (answer' ≡ answer) × (body' ≡ S body) × IsSwept k' k
  IsSwept _ _ = ⊥

  past_swept : (t' t : Tasks) → IsSwept t' t → IsReady kernel t → IsSwept (past t') (past t)
  past_swept NoTask NoTask h r = tt
  past_swept (LinesAt p lines' k') (LinesAt at lines k) h r = (ap behind h.0 ∙ behind_swept kernel lines r, h.1)
  past_swept (AnswerAt p test' answer' body' n' k') (AnswerAt at test answer body n k) h r = tt
  past_swept NoTask (LinesAt at lines k) h r = absurd h
  past_swept NoTask (AnswerAt at test answer body n k) h r = absurd h
  past_swept (LinesAt p lines' k') NoTask h r = absurd h
  past_swept (LinesAt p lines' k') (AnswerAt at test answer body n k) h r = absurd h
  past_swept (AnswerAt p test' answer' body' n' k') NoTask h r = absurd h
  past_swept (AnswerAt p test' answer' body' n' k') (LinesAt at lines k) h r = absurd h

  chosen_on : (t' t : Tasks) → IsSwept t' t → IsReady kernel t → IsSwept (in_chosen t') (in_chosen t)
  chosen_on NoTask NoTask h r = tt
  chosen_on (LinesAt p lines' k') (LinesAt at lines k) h r =
      (ap chosen_of h.0 ∙ chosen_swept kernel lines r, past_swept (LinesAt p lines' k') (LinesAt at lines k) h r)
  chosen_on (AnswerAt p test' answer' body' n' k') (AnswerAt at test answer body n k) h r = tt
  chosen_on NoTask (LinesAt at lines k) h r = absurd h
  chosen_on NoTask (AnswerAt at test answer body n k) h r = absurd h
  chosen_on (LinesAt p lines' k') NoTask h r = absurd h
  chosen_on (LinesAt p lines' k') (AnswerAt at test answer body n k) h r = absurd h
  chosen_on (AnswerAt p test' answer' body' n' k') NoTask h r = absurd h
  chosen_on (AnswerAt p test' answer' body' n' k') (LinesAt at lines k) h r = absurd h

  other_on : (t' t : Tasks) → IsSwept t' t → IsReady kernel t → IsSwept (in_other t') (in_other t)
  other_on NoTask NoTask h r = tt
  other_on (LinesAt p lines' k') (LinesAt at lines k) h r =
      (ap other_of h.0 ∙ other_swept kernel lines r, past_swept (LinesAt p lines' k') (LinesAt at lines k) h r)
  other_on (AnswerAt p test' answer' body' n' k') (AnswerAt at test answer body n k) h r = tt
  other_on NoTask (LinesAt at lines k) h r = absurd h
  other_on NoTask (AnswerAt at test answer body n k) h r = absurd h
  other_on (LinesAt p lines' k') NoTask h r = absurd h
  other_on (LinesAt p lines' k') (AnswerAt at test answer body n k) h r = absurd h
  other_on (AnswerAt p test' answer' body' n' k') NoTask h r = absurd h
  other_on (AnswerAt p test' answer' body' n' k') (LinesAt at lines k) h r = absurd h

  answer_swept : (lines : Lines) → IsKept kernel lines → answer_of (S lines) ≡ answer_of lines
  answer_swept (SetThen to work rest) k =
      ap (λ (b : Test). answer_of (if b then S rest else SetThen to work (S rest))) k
  answer_swept (LoopThen site test_first test answer body rest) k = refl
  answer_swept _ k = refl

  answer_on : (n : ℕ) (t' t : Tasks) → IsSwept t' t → IsReady kernel t → IsSwept (at_answer n t') (at_answer n t)
  answer_on n NoTask NoTask h r = tt
  answer_on n (LinesAt p lines' k') (LinesAt at lines k) h r = (
    ap test_of h.0 ∙ test_swept kernel lines r,
    ap answer_of h.0 ∙ answer_swept lines r,
    ap body_of h.0 ∙ body_swept kernel lines r,
    past_swept (LinesAt p lines' k') (LinesAt at lines k) h r,
  )
  answer_on n (AnswerAt p test' answer' body' n' k') (AnswerAt at test answer body m k) h r = tt
  answer_on n NoTask (LinesAt at lines k) h r = absurd h
  answer_on n NoTask (AnswerAt at test answer body m k) h r = absurd h
  answer_on n (LinesAt p lines' k') NoTask h r = absurd h
  answer_on n (LinesAt p lines' k') (AnswerAt at test answer body m k) h r = absurd h
  answer_on n (AnswerAt p test' answer' body' n' k') NoTask h r = absurd h
  answer_on n (AnswerAt p test' answer' body' n' k') (LinesAt at lines k) h r = absurd h

  test_on : (n : ℕ) (t' t : Tasks) → IsSwept t' t → IsReady kernel t → IsSwept (in_test n t') (in_test n t)
  test_on n NoTask NoTask h r = tt
  test_on n (LinesAt p lines' k') (LinesAt at lines k) h r = (
    ap test_of h.0 ∙ test_swept kernel lines r,
    answer_on n (LinesAt p lines' k') (LinesAt at lines k) h r,
  )
  test_on n (AnswerAt p test' answer' body' n' k') (AnswerAt at test answer body m k) h r = tt
  test_on n NoTask (LinesAt at lines k) h r = absurd h
  test_on n NoTask (AnswerAt at test answer body m k) h r = absurd h
  test_on n (LinesAt p lines' k') NoTask h r = absurd h
  test_on n (LinesAt p lines' k') (AnswerAt at test answer body m k) h r = absurd h
  test_on n (AnswerAt p test' answer' body' n' k') NoTask h r = absurd h
  test_on n (AnswerAt p test' answer' body' n' k') (LinesAt at lines k) h r = absurd h

  body_on : (n : ℕ) (t' t : Tasks) → IsSwept t' t → IsReady kernel t → IsSwept (in_body n t') (in_body n t)
  body_on n NoTask NoTask h r = tt
  body_on n (LinesAt p lines' k') (LinesAt at lines k) h r = (
    ap body_of h.0 ∙ body_swept kernel lines r,
    test_on n (LinesAt p lines' k') (LinesAt at lines k) h r,
  )
  body_on n (AnswerAt p test' answer' body' n' k') (AnswerAt at test answer body m k) h r = tt
  body_on n NoTask (LinesAt at lines k) h r = absurd h
  body_on n NoTask (AnswerAt at test answer body m k) h r = absurd h
  body_on n (LinesAt p lines' k') NoTask h r = absurd h
  body_on n (LinesAt p lines' k') (AnswerAt at test answer body m k) h r = absurd h
  body_on n (AnswerAt p test' answer' body' n' k') NoTask h r = absurd h
  body_on n (AnswerAt p test' answer' body' n' k') (LinesAt at lines k) h r = absurd h

  -- past a line that is left out
  abbrev IsLine : Lines → Type 0
  IsLine NoLine = ⊥
  IsLine _ = Unit {0}

  left_on : (t' t : Tasks) (to : ℕ) (work : Work) (rest : Lines) → is_unread kernel to ≡ true →
      first_lines t ≡ SetThen to work rest → IsSwept t' t → IsSwept t' (past t)
  left_on (LinesAt p lines' k') (LinesAt at lines k) to work rest left e h =
      (h.0 ∙ (ap S e ∙ (left_set kernel to work rest left ∙ ap (λ ls. S (behind ls)) (sym e))), h.1)
  left_on NoTask NoTask to work rest left e h = absurd (subst IsLine (sym e) tt)
  left_on (AnswerAt p test' answer' body' n' k') (AnswerAt at test answer body n k) to work rest left e h =
      absurd (subst IsLine (sym e) tt)
  left_on NoTask (LinesAt at lines k) to work rest left e h = absurd h
  left_on NoTask (AnswerAt at test answer body n k) to work rest left e h = absurd h
  left_on (LinesAt p lines' k') NoTask to work rest left e h = absurd h
  left_on (LinesAt p lines' k') (AnswerAt at test answer body n k) to work rest left e h = absurd h
  left_on (AnswerAt p test' answer' body' n' k') NoTask to work rest left e h = absurd h
  left_on (AnswerAt p test' answer' body' n' k') (LinesAt at lines k) to work rest left e h = absurd h

  ready_from : (t : Tasks) → IsKept kernel (first_lines t) → IsReady kernel t
  ready_from NoTask k = tt
  ready_from (LinesAt at lines t) k = k
  ready_from (AnswerAt at test answer body n t) k = tt

  ready_there : (p : Place) (begun : List ℕ) → IsReady kernel (tasks_at kernel.body (placed kernel p).at begun)
  ready_there p begun = ready_from (tasks_at kernel.body (placed kernel p).at begun)
      (subst (IsKept kernel) (placed_is kernel p ∙ sym (first_lines_at kernel.body (placed kernel p).at begun))
      (placed_kept kernel p))

  -- the tasks at a place that is reached past lines left out
  record Reached (t' : Tasks) (begun : List ℕ) (at : Place) (lines : Lines) : Type 0 where
    is : lines ≡ lines_at kernel.body at
    swept_so : IsSwept t' (tasks_at kernel.body at begun)

  reach_past : (t' : Tasks) (begun : List ℕ) (at : Place) (to : ℕ) (work : Work) (rest : Lines) →
      is_unread kernel to ≡ true → Reached t' begun at (SetThen to work rest) → Reached t' begun (Behind ∷ at) rest
  reach_past t' begun at to work rest left h = record {
    is = ap behind h.is;
    swept_so = left_on t' (tasks_at kernel.body at begun) to work rest left
        (first_lines_at kernel.body at begun ∙ sym h.is) h.swept_so;
  }

  -- a leg further from where the line stands for which a line stands
  leg_swept : (leg : Leg) (p : Place) → ((begun : List ℕ) →
      IsSwept (tasks_at (S kernel.body) p begun) (tasks_at kernel.body (placed kernel p).at begun)) → (begun : List ℕ) →
      IsSwept (tasks_at (S kernel.body) (leg ∷ p) begun) (tasks_at kernel.body (leg ∷ (placed kernel p).at) begun)
  leg_swept Behind p h begun = past_swept _ _ (h begun) (ready_there p begun)
  leg_swept IntoChosen p h begun = chosen_on _ _ (h begun) (ready_there p begun)
  leg_swept IntoOther p h begun = other_on _ _ (h begun) (ready_there p begun)
  leg_swept IntoTest p h begun =
      test_on (first_of begun) _ _ (h (others_of begun)) (ready_there p (others_of begun))
  leg_swept ToAnswer p h begun =
      answer_on (first_of begun) _ _ (h (others_of begun)) (ready_there p (others_of begun))
  leg_swept IntoBody p h begun =
      body_on (first_of begun) _ _ (h (others_of begun)) (ready_there p (others_of begun))

  tasks_swept : (p : Place) (begun : List ℕ) →
      IsSwept (tasks_at (S kernel.body) p begun) (tasks_at kernel.body (placed kernel p).at begun)
  tasks_swept [] begun =
      (along kernel (Reached (tasks_at (S kernel.body) [] begun) begun)
      (reach_past (tasks_at (S kernel.body) [] begun) begun) kernel.body []
      (record { is = refl; swept_so = (refl, tt) })).swept_so
  tasks_swept (leg ∷ p) begun =
      (along kernel (Reached (tasks_at (S kernel.body) (leg ∷ p) begun) begun)
      (reach_past (tasks_at (S kernel.body) (leg ∷ p) begun) begun) (part leg (placed kernel p).lines)
      (leg ∷ (placed kernel p).at) (record {
        is = ap (part leg) (placed_is kernel p) ∙ sym (part_at kernel.body leg (placed kernel p).at);
        swept_so = leg_swept leg p (tasks_swept p) begun;
      })).swept_so

  front_swept : (p : Place) (begun : List ℕ) →
      IsSwept (tasks_at (S kernel.body) p begun) (tasks_at kernel.body (front kernel p) begun)
  front_swept [] begun = (refl, tt)
  front_swept (leg ∷ p) begun = leg_swept leg p (tasks_swept p) begun

  module _ (c : ℕ) where
    -- ---- a cell that is not left out

    module _ (kept : is_unread kernel c ≡ false) where
      live_less : (lines : Lines) (a' a : Test) → (a' ≡ true → a ≡ true) → live_in c (S lines) a' ≡ true →
          live_in c lines a ≡ true
      live_less NoLine a' a f e = f e
      live_less (SetThen to work rest) a' a f e = by_test (live_less rest a' a f) (is_unread kernel to) refl e
        where
          differ : is_unread kernel to ≡ true → nat_eq c to ≡ false
          differ left = ne_eqb c to (λ same. true≢false (sym left ∙ (ap (is_unread kernel) (sym same) ∙ kept)))

          by_test : (live_in c (S rest) a' ≡ true → live_in c rest a ≡ true) → (b : Test) → is_unread kernel to ≡ b →
              live_in c (if b then S rest else SetThen to work (S rest)) a' ≡ true →
              (work_reads c work || (not (nat_eq c to) && live_in c rest a)) ≡ true
          by_test h true left e =
              or_second (work_reads c work) (not (nat_eq c to) && live_in c rest a)
              (ap (λ (b : Test). not b && live_in c rest a) (differ left) ∙ h e)
          by_test h false left e =
              or_less (work_reads c work) (not (nat_eq c to) && live_in c rest a) _ _ (λ g. g)
              (and_less (not (nat_eq c to)) (live_in c rest a) _ _ (λ g. g) h) e
      live_less (LoadThen site to element root index rest) a' a f e =
          or_less (reads c index) (not (nat_eq c to) && live_in c rest a) _ _ (λ g. g)
          (and_less (not (nat_eq c to)) (live_in c rest a) _ _ (λ g. g) (live_less rest a' a f)) e
      live_less (StoreThen site element root index from rest) a' a f e =
          or_less (reads c index || reads c from) (live_in c rest a) _ _ (λ g. g) (live_less rest a' a f) e
      live_less (ClearThen array rest) a' a f e = live_less rest a' a f e
      live_less (IfThen site test chosen other rest) a' a f e =
          or_less (reads c test) (live_in c chosen (live_in c rest a) || live_in c other (live_in c rest a)) _ _
          (λ g. g)
          (or_less (live_in c chosen (live_in c rest a)) (live_in c other (live_in c rest a)) _ _
          (live_less chosen (live_in c (S rest) a') (live_in c rest a) (live_less rest a' a f))
          (live_less other (live_in c (S rest) a') (live_in c rest a) (live_less rest a' a f))) e
      live_less (LoopThen site true test answer body rest) a' a f e =
          live_less test _ _
          (or_less (reads c answer) (live_in c rest a || live_in c body (live_in c test false)) _ _ (λ g. g)
          (or_less (live_in c rest a) (live_in c body (live_in c test false)) _ _ (live_less rest a' a f)
          (live_less body (live_in c (S test) false) (live_in c test false)
          (live_less test false false (λ g. g))))) e
      live_less (LoopThen site false test answer body rest) a' a f e =
          live_less body _ _ (live_less test _ _
          (or_less (reads c answer) (live_in c rest a || live_in c body (live_in c test false)) _ _ (λ g. g)
          (or_less (live_in c rest a) (live_in c body (live_in c test false)) _ _ (live_less rest a' a f)
          (live_less body (live_in c (S test) false) (live_in c test false)
          (live_less test false false (λ g. g)))))) e
      live_less (BarrierThen site rest) a' a f e = live_less rest a' a f e

      lines_less : (lines' lines : Lines) (a' a : Test) → lines' ≡ S lines → (a' ≡ true → a ≡ true) →
          live_in c lines' a' ≡ true → live_in c lines a ≡ true
      lines_less lines' lines a' a same f e = live_less lines a' a f (sym (ap (λ ls. live_in c ls a') same) ∙ e)

      now_less : (t' t : Tasks) → IsSwept t' t → live_now c t' ≡ true → live_now c t ≡ true
      now_less NoTask NoTask h e = e
      now_less (LinesAt p lines' k') (LinesAt at lines k) h e =
          lines_less lines' lines (live_now c k') (live_now c k) h.0 (now_less k' k h.1) e
      now_less (AnswerAt p test' answer' body' n' k') (AnswerAt at test answer body n k) h e =
          or_less (reads c answer) (live_now c k || live_in c body (live_in c test false)) _ _
          (λ g. sym (ap (reads c) h.1) ∙ g)
          (or_less (live_now c k) (live_in c body (live_in c test false)) _ _ (now_less k' k h.3)
          (lines_less body' body (live_in c test' false) (live_in c test false) h.2
          (lines_less test' test false false h.0 (λ g. g)))) e
      now_less NoTask (LinesAt at lines k) h e = absurd h
      now_less NoTask (AnswerAt at test answer body n k) h e = absurd h
      now_less (LinesAt p lines' k') NoTask h e = absurd h
      now_less (LinesAt p lines' k') (AnswerAt at test answer body n k) h e = absurd h
      now_less (AnswerAt p test' answer' body' n' k') NoTask h e = absurd h
      now_less (AnswerAt p test' answer' body' n' k') (LinesAt at lines k) h e = absurd h

      behind_less : (t' t : Tasks) → IsSwept t' t → live_behind c t' ≡ true → live_behind c t ≡ true
      behind_less NoTask NoTask h e = e
      behind_less (LinesAt p lines' k') (LinesAt at lines k) h e =
          now_less (LinesAt p lines' k') (LinesAt at lines k) h e
      behind_less (AnswerAt p test' answer' body' n' k') (AnswerAt at test answer body n k) h e =
          or_less (live_now c k) (live_in c body (live_in c test (live_now c (AnswerAt at test answer body n k)))) _ _
          (now_less k' k h.3)
          (lines_less body' body _ _ h.2
          (lines_less test' test _ _ h.0
          (now_less (AnswerAt p test' answer' body' n' k') (AnswerAt at test answer body n k) h))) e
      behind_less NoTask (LinesAt at lines k) h e = absurd h
      behind_less NoTask (AnswerAt at test answer body n k) h e = absurd h
      behind_less (LinesAt p lines' k') NoTask h e = absurd h
      behind_less (LinesAt p lines' k') (AnswerAt at test answer body n k) h e = absurd h
      behind_less (AnswerAt p test' answer' body' n' k') NoTask h e = absurd h
      behind_less (AnswerAt p test' answer' body' n' k') (LinesAt at lines k) h e = absurd h

    -- ---- a cell that no line reads is live nowhere

    second : (x y : Test) → x ≡ false → (x || y) ≡ true → y ≡ true
    second true y e f = absurd (true≢false e)
    second false y e f = f

    either : (x y : Test) → (x ≡ true → ⊥) → (y ≡ true → ⊥) → (x || y) ≡ true → ⊥
    either true y f g e = f refl
    either false y f g e = g e

    quiet : (lines : Lines) (a : Test) → reads_in c lines ≡ false → live_in c (S lines) a ≡ true → a ≡ true
    quiet NoLine a r e = e
    quiet (SetThen to work rest) a r e =
        let parts = or_no (work_reads c work) (reads_in c rest) r in
        by_test parts.0 (quiet rest a parts.1) (is_unread kernel to) e
      where
        by_test : work_reads c work ≡ false → (live_in c (S rest) a ≡ true → a ≡ true) → (b : Test) →
            live_in c (if b then S rest else SetThen to work (S rest)) a ≡ true → a ≡ true
        by_test w h true e = h e
        by_test w h false e = h (and_parts (not (nat_eq c to)) (live_in c (S rest) a)
            (second (work_reads c work) _ w e)).1
    quiet (LoadThen site to element root index rest) a r e =
        let parts = or_no (reads c index) (reads_in c rest) r in
        quiet rest a parts.1 (and_parts (not (nat_eq c to)) (live_in c (S rest) a)
        (second (reads c index) _ parts.0 e)).1
    quiet (StoreThen site element root index from rest) a r e =
        let parts = or_no (reads c index || reads c from) (reads_in c rest) r in
        quiet rest a parts.1 (second (reads c index || reads c from) _ parts.0 e)
    quiet (ClearThen array rest) a r e = quiet rest a r e
    quiet (IfThen site test chosen other rest) a r e =
        let one = or_no (reads c test) _ r in
        let two = or_no (reads_in c chosen) _ one.1 in
        let three = or_no (reads_in c other) (reads_in c rest) two.1 in
        by_test (live_in c (S chosen) (live_in c (S rest) a)) (live_in c (S other) (live_in c (S rest) a))
        (λ g. quiet rest a three.1 (quiet chosen (live_in c (S rest) a) two.0 g))
        (λ g. quiet rest a three.1 (quiet other (live_in c (S rest) a) three.0 g)) (second (reads c test) _ one.0 e)
      where
        by_test : (x y : Test) → (x ≡ true → a ≡ true) → (y ≡ true → a ≡ true) → (x || y) ≡ true → a ≡ true
        by_test true y f g e = f refl
        by_test false y f g e = g e
    quiet (LoopThen site true test answer body rest) a r e =
        let one = or_no (reads_in c test) _ r in
        let two = or_no (reads c answer) _ one.1 in
        let three = or_no (reads_in c body) (reads_in c rest) two.1 in
        by_test (live_in c (S rest) a) (live_in c (S body) (live_in c (S test) false)) (quiet rest a three.1)
        (λ g. quiet test false one.0 (quiet body (live_in c (S test) false) three.0 g))
        (second (reads c answer) _ two.0 (quiet test _ one.0 e))
      where
        by_test : (x y : Test) → (x ≡ true → a ≡ true) → (y ≡ true → false ≡ true) → (x || y) ≡ true → a ≡ true
        by_test true y f g e = f refl
        by_test false y f g e = absurd (true≢false (sym (g e)))
    quiet (LoopThen site false test answer body rest) a r e =
        let one = or_no (reads_in c test) _ r in
        let two = or_no (reads c answer) _ one.1 in
        let three = or_no (reads_in c body) (reads_in c rest) two.1 in
        by_test (live_in c (S rest) a) (live_in c (S body) (live_in c (S test) false)) (quiet rest a three.1)
        (λ g. quiet test false one.0 (quiet body (live_in c (S test) false) three.0 g))
        (second (reads c answer) _ two.0 (quiet test _ one.0 (quiet body _ three.0 e)))
      where
        by_test : (x y : Test) → (x ≡ true → a ≡ true) → (y ≡ true → false ≡ true) → (x || y) ≡ true → a ≡ true
        by_test true y f g e = f refl
        by_test false y f g e = absurd (true≢false (sym (g e)))
    quiet (BarrierThen site rest) a r e = quiet rest a r e

    -- no part of what is left reads the cell
    abbrev ReadsNone : Tasks → Type 0
    ReadsNone NoTask = Unit {0}
    ReadsNone (LinesAt at lines k) = (reads_in c lines ≡ false) × ReadsNone k
    ReadsNone (AnswerAt at test answer body n k) =
        (reads_in c test ≡ false) × (reads c answer ≡ false) × (reads_in c body ≡ false) × ReadsNone k

    quiet_lines : (lines' lines : Lines) (a : Test) → lines' ≡ S lines → reads_in c lines ≡ false →
        live_in c lines' a ≡ true → a ≡ true
    quiet_lines lines' lines a same r e = quiet lines a r (sym (ap (λ ls. live_in c ls a) same) ∙ e)

    now_quiet : (t' t : Tasks) → IsSwept t' t → ReadsNone t → live_now c t' ≡ true → ⊥
    now_quiet NoTask NoTask h r e = true≢false (sym e)
    now_quiet (LinesAt p lines' k') (LinesAt at lines k) h r e =
        now_quiet k' k h.1 r.1 (quiet_lines lines' lines (live_now c k') h.0 r.0 e)
    now_quiet (AnswerAt p test' answer' body' n' k') (AnswerAt at test answer body n k) h r e =
        either (live_now c k') (live_in c body' (live_in c test' false)) (now_quiet k' k h.3 r.3)
        (λ g. true≢false (sym (quiet_lines test' test false h.0 r.0 (quiet_lines body' body (live_in c test' false) h.2
        r.2 g))))
        (second (reads c answer') _ (ap (reads c) h.1 ∙ r.1) e)
    now_quiet NoTask (LinesAt at lines k) h r e = absurd h
    now_quiet NoTask (AnswerAt at test answer body n k) h r e = absurd h
    now_quiet (LinesAt p lines' k') NoTask h r e = absurd h
    now_quiet (LinesAt p lines' k') (AnswerAt at test answer body n k) h r e = absurd h
    now_quiet (AnswerAt p test' answer' body' n' k') NoTask h r e = absurd h
    now_quiet (AnswerAt p test' answer' body' n' k') (LinesAt at lines k) h r e = absurd h

    behind_quiet : (t' t : Tasks) → IsSwept t' t → ReadsNone t → live_behind c t' ≡ true → ⊥
    behind_quiet NoTask NoTask h r e = true≢false (sym e)
    behind_quiet (LinesAt p lines' k') (LinesAt at lines k) h r e =
        now_quiet (LinesAt p lines' k') (LinesAt at lines k) h r e
    behind_quiet (AnswerAt p test' answer' body' n' k') (AnswerAt at test answer body n k) h r e =
        either (live_now c k')
        (live_in c body' (live_in c test' (live_now c (AnswerAt p test' answer' body' n' k'))))
        (now_quiet k' k h.3 r.3)
        (λ g. now_quiet (AnswerAt p test' answer' body' n' k') (AnswerAt at test answer body n k) h r
        (quiet_lines test' test _ h.0 r.0 (quiet_lines body' body _ h.2 r.2 g))) e
    behind_quiet NoTask (LinesAt at lines k) h r e = absurd h
    behind_quiet NoTask (AnswerAt at test answer body n k) h r e = absurd h
    behind_quiet (LinesAt p lines' k') NoTask h r e = absurd h
    behind_quiet (LinesAt p lines' k') (AnswerAt at test answer body n k) h r e = absurd h
    behind_quiet (AnswerAt p test' answer' body' n' k') NoTask h r e = absurd h
    behind_quiet (AnswerAt p test' answer' body' n' k') (LinesAt at lines k) h r e = absurd h

    -- parts of lines that read none
    behind_none : (lines : Lines) → reads_in c lines ≡ false → reads_in c (behind lines) ≡ false
    behind_none NoLine r = r
    behind_none (SetThen to work rest) r = (or_no (work_reads c work) _ r).1
    behind_none (LoadThen site to element root index rest) r = (or_no (reads c index) _ r).1
    behind_none (StoreThen site element root index from rest) r = (or_no (reads c index || reads c from) _ r).1
    behind_none (ClearThen array rest) r = r
    behind_none (IfThen site test chosen other rest) r =
        (or_no (reads_in c other) _ (or_no (reads_in c chosen) _ (or_no (reads c test) _ r).1).1).1
    behind_none (LoopThen site test_first test answer body rest) r =
        (or_no (reads_in c body) _ (or_no (reads c answer) _ (or_no (reads_in c test) _ r).1).1).1
    behind_none (BarrierThen site rest) r = r

    chosen_none : (lines : Lines) → reads_in c lines ≡ false → reads_in c (chosen_of lines) ≡ false
    chosen_none (IfThen site test chosen other rest) r =
        (or_no (reads_in c chosen) _ (or_no (reads c test) _ r).1).0
    chosen_none _ r = refl

    other_none : (lines : Lines) → reads_in c lines ≡ false → reads_in c (other_of lines) ≡ false
    other_none (IfThen site test chosen other rest) r =
        (or_no (reads_in c other) _ (or_no (reads_in c chosen) _ (or_no (reads c test) _ r).1).1).0
    other_none _ r = refl

    test_none : (lines : Lines) → reads_in c lines ≡ false → reads_in c (test_of lines) ≡ false
    test_none (LoopThen site test_first test answer body rest) r = (or_no (reads_in c test) _ r).0
    test_none _ r = refl

    answer_none : (lines : Lines) → reads_in c lines ≡ false → reads c (answer_of lines) ≡ false
    answer_none (LoopThen site test_first test answer body rest) r =
        (or_no (reads c answer) _ (or_no (reads_in c test) _ r).1).0
    answer_none _ r = refl

    body_none : (lines : Lines) → reads_in c lines ≡ false → reads_in c (body_of lines) ≡ false
    body_none (LoopThen site test_first test answer body rest) r =
        (or_no (reads_in c body) _ (or_no (reads c answer) _ (or_no (reads_in c test) _ r).1).1).0
    body_none _ r = refl

    past_none : (t : Tasks) → ReadsNone t → ReadsNone (past t)
    past_none NoTask r = tt
    past_none (LinesAt at lines k) r = (behind_none lines r.0, r.1)
    past_none (AnswerAt at test answer body n k) r = tt

    answers_none : (n : ℕ) (t : Tasks) → ReadsNone t → ReadsNone (at_answer n t)
    answers_none n NoTask r = tt
    answers_none n (LinesAt at lines k) r =
        (test_none lines r.0, answer_none lines r.0, body_none lines r.0, past_none (LinesAt at lines k) r)
    answers_none n (AnswerAt at test answer body m k) r = tt

    tests_none : (n : ℕ) (t : Tasks) → ReadsNone t → ReadsNone (in_test n t)
    tests_none n NoTask r = tt
    tests_none n (LinesAt at lines k) r = (test_none lines r.0, answers_none n (LinesAt at lines k) r)
    tests_none n (AnswerAt at test answer body m k) r = tt

    bodies_none : (n : ℕ) (t : Tasks) → ReadsNone t → ReadsNone (in_body n t)
    bodies_none n NoTask r = tt
    bodies_none n (LinesAt at lines k) r = (body_none lines r.0, tests_none n (LinesAt at lines k) r)
    bodies_none n (AnswerAt at test answer body m k) r = tt

    chosens_none : (t : Tasks) → ReadsNone t → ReadsNone (in_chosen t)
    chosens_none NoTask r = tt
    chosens_none (LinesAt at lines k) r = (chosen_none lines r.0, past_none (LinesAt at lines k) r)
    chosens_none (AnswerAt at test answer body m k) r = tt

    others_none : (t : Tasks) → ReadsNone t → ReadsNone (in_other t)
    others_none NoTask r = tt
    others_none (LinesAt at lines k) r = (other_none lines r.0, past_none (LinesAt at lines k) r)
    others_none (AnswerAt at test answer body m k) r = tt

    none_at : reads_in c kernel.body ≡ false → (at : Place) (begun : List ℕ) → ReadsNone (tasks_at kernel.body at begun)
    none_at r [] begun = (r, tt)
    none_at r (Behind ∷ at) begun = past_none _ (none_at r at begun)
    none_at r (IntoChosen ∷ at) begun = chosens_none _ (none_at r at begun)
    none_at r (IntoOther ∷ at) begun = others_none _ (none_at r at begun)
    none_at r (IntoTest ∷ at) begun = tests_none (first_of begun) _ (none_at r at (others_of begun))
    none_at r (ToAnswer ∷ at) begun = answers_none (first_of begun) _ (none_at r at (others_of begun))
    none_at r (IntoBody ∷ at) begun = bodies_none (first_of begun) _ (none_at r at (others_of begun))

    unread_none : is_unread kernel c ≡ true → reads_in c kernel.body ≡ false
    unread_none e = by_test (reads_in c kernel.body) (and_parts (is_value_cell kernel c) _ e).1
      where
        by_test : (b : Test) → not b ≡ true → b ≡ false
        by_test true e = absurd (true≢false (sym e))
        by_test false e = refl

    -- ---- what is live in the swept text is live in the given one

    live_from : (p : Place) (at : Place) → IsSwept (tasks_at (S kernel.body) p []) (tasks_at kernel.body at []) →
        live_at (S kernel.body) p c ≡ true → live_at kernel.body at c ≡ true
    live_from p at h e = by_test (is_unread kernel c) refl
      where
        by_test : (b : Test) → is_unread kernel c ≡ b → live_at kernel.body at c ≡ true
        by_test true left = absurd (behind_quiet _ _ h (none_at (unread_none left) at []) e)
        by_test false kept = behind_less kept _ _ h e

    pub live_there : (p : Place) → live_at (S kernel.body) p c ≡ true →
        live_at kernel.body (placed kernel p).at c ≡ true
    live_there p e = live_from p (placed kernel p).at (tasks_swept p []) e

    pub live_front : (p : Place) → live_at (S kernel.body) p c ≡ true → live_at kernel.body (front kernel p) c ≡ true
    live_front p e = live_from p (front kernel p) (front_swept p []) e
