-- What is live at a place of a folded text is live there in the given one.
use Rattle.std.proofs.Common.{◌≡◌, ℕ, List, [], ◌∷◌, refl, sym, ap, ◌∙◌, true, false}
use Rattle.std.specs.Prelude.{◌||◌}
use Rattle.std.proofs.lemmas.Bool.{true≢false}
use Rattle.kir.specs.Tree.{Lines, NoLine, SetThen, LoadThen, StoreThen, ClearThen, IfThen, LoopThen, BarrierThen}
use Rattle.kir.specs.Tree.{Kernel}
use Rattle.kir.specs.Places.{Behind, IntoChosen, IntoOther, IntoTest, ToAnswer, IntoBody, Place, Tasks, NoTask, LinesAt}
use Rattle.kir.specs.Places.{AnswerAt, chosen_of, other_of, test_of, body_of, answer_of, past, in_chosen}
use Rattle.kir.specs.Places.{in_other, at_answer, in_test, in_body, tasks_at, first_of, others_of}
use Rattle.kir.specs.Live.{reads, live_in, live_now, live_behind, live_at}
use Rattle.kir_simplify.specs.Simple.{is_set_once}
use Rattle.kir_simplify.specs.Passes.{Known, nothing_known, known_atom, known_work, settled_work, learnt, folded}
use Rattle.kir_simplify.specs.Passes.{with_offsets, offsets_of, folded_of}
use Rattle.kir_simplify.proofs.FoldedItems.{AreConstants, folded_tasks}
use Rattle.kir_simplify.proofs.FoldedLess.{or_less, atom_less, live_less, no_constants, constants_on, constants_inside}

-- constants alone are known of each part
abbrev pub AllConstants : List Known → Type 0
AllConstants [] = Unit {0}
AllConstants (known ∷ ks) = AreConstants known × AllConstants ks

module _ (kernel : Kernel) where
  abbrev F : Known → Lines → Lines
  F known lines = folded (is_set_once kernel) (offsets_of kernel) known lines

  -- the parts of the first line are folded with what is known before it
  chosen_parts : (known : Known) (lines : Lines) → chosen_of (F known lines) ≡ F known (chosen_of lines)
  chosen_parts known (IfThen site test chosen other rest) = refl
  chosen_parts known NoLine = refl
  chosen_parts known (SetThen to work rest) = refl
  chosen_parts known (LoadThen site to element root index rest) = refl
  chosen_parts known (StoreThen site element root index from rest) = refl
  chosen_parts known (ClearThen array rest) = refl
  chosen_parts known (LoopThen site test_first test answer body rest) = refl
  chosen_parts known (BarrierThen site rest) = refl

  other_parts : (known : Known) (lines : Lines) → other_of (F known lines) ≡ F known (other_of lines)
  other_parts known (IfThen site test chosen other rest) = refl
  other_parts known NoLine = refl
  other_parts known (SetThen to work rest) = refl
  other_parts known (LoadThen site to element root index rest) = refl
  other_parts known (StoreThen site element root index from rest) = refl
  other_parts known (ClearThen array rest) = refl
  other_parts known (LoopThen site test_first test answer body rest) = refl
  other_parts known (BarrierThen site rest) = refl

  -- left to do: folded parts, of each of which constants are known
  record IsFolded (t' t : Tasks) : Type 0 where
    known : List Known
    constants : AllConstants known
    same : t' ≡ folded_tasks kernel t known

  past_folded : (t : Tasks) (ks : List Known) → AllConstants ks →
      IsFolded (past (folded_tasks kernel t ks)) (past t)
  past_folded NoTask ks k = record { known = []; constants = tt; same = refl }
  past_folded (AnswerAt at test answer body n t) [] k = record { known = []; constants = tt; same = refl }
  past_folded (AnswerAt at test answer body n t) (known ∷ ks) k = record { known = []; constants = tt; same = refl }
  past_folded (LinesAt at lines t) [] k = record { known = []; constants = tt; same = refl }
  past_folded (LinesAt at NoLine t) (known ∷ ks) k = record { known = known ∷ ks; constants = k; same = refl }
  past_folded (LinesAt at (SetThen to work rest) t) (known ∷ ks) k = record {
    known = learnt (is_set_once kernel) known to (settled_work (known_work known work)) ∷ ks;
    constants = (constants_on (is_set_once kernel) known to (settled_work (known_work known work)) k.0, k.1);
    same = refl;
  }
  past_folded (LinesAt at (LoadThen site to element root index rest) t) (known ∷ ks) k =
      record { known = known ∷ ks; constants = k; same = refl }
  past_folded (LinesAt at (StoreThen site element root index from rest) t) (known ∷ ks) k =
      record { known = known ∷ ks; constants = k; same = refl }
  past_folded (LinesAt at (ClearThen array rest) t) (known ∷ ks) k =
      record { known = known ∷ ks; constants = k; same = refl }
  past_folded (LinesAt at (IfThen site test chosen other rest) t) (known ∷ ks) k =
      record { known = known ∷ ks; constants = k; same = refl }
  past_folded (LinesAt at (LoopThen site test_first test answer body rest) t) (known ∷ ks) k =
      record { known = known ∷ ks; constants = k; same = refl }
  past_folded (LinesAt at (BarrierThen site rest) t) (known ∷ ks) k =
      record { known = known ∷ ks; constants = k; same = refl }

  chosen_folded : (t : Tasks) (ks : List Known) → AllConstants ks →
      IsFolded (in_chosen (folded_tasks kernel t ks)) (in_chosen t)
  chosen_folded NoTask ks k = record { known = []; constants = tt; same = refl }
  chosen_folded (AnswerAt at test answer body n t) [] k = record { known = []; constants = tt; same = refl }
  chosen_folded (AnswerAt at test answer body n t) (known ∷ ks) k = record { known = []; constants = tt; same = refl }
  chosen_folded (LinesAt at lines t) [] k = record { known = []; constants = tt; same = refl }
  chosen_folded (LinesAt at lines t) (known ∷ ks) k =
      let p = past_folded (LinesAt at lines t) (known ∷ ks) k in
      record {
        known = known ∷ p.known;
        constants = (k.0, p.constants);
        same = ap (λ z. LinesAt (IntoChosen ∷ at) (chosen_of (F known lines)) z) p.same ∙
            ap (λ z. LinesAt (IntoChosen ∷ at) z (folded_tasks kernel (past (LinesAt at lines t)) p.known))
            (chosen_parts known lines);
      }

  other_folded : (t : Tasks) (ks : List Known) → AllConstants ks →
      IsFolded (in_other (folded_tasks kernel t ks)) (in_other t)
  other_folded NoTask ks k = record { known = []; constants = tt; same = refl }
  other_folded (AnswerAt at test answer body n t) [] k = record { known = []; constants = tt; same = refl }
  other_folded (AnswerAt at test answer body n t) (known ∷ ks) k = record { known = []; constants = tt; same = refl }
  other_folded (LinesAt at lines t) [] k = record { known = []; constants = tt; same = refl }
  other_folded (LinesAt at lines t) (known ∷ ks) k =
      let p = past_folded (LinesAt at lines t) (known ∷ ks) k in
      record {
        known = known ∷ p.known;
        constants = (k.0, p.constants);
        same = ap (λ z. LinesAt (IntoOther ∷ at) (other_of (F known lines)) z) p.same ∙
            ap (λ z. LinesAt (IntoOther ∷ at) z (folded_tasks kernel (past (LinesAt at lines t)) p.known))
            (other_parts known lines);
      }

  -- at a loop's answer, in its test and in its body: its parts are folded with what is known in it
  abbrev inside : Known → Known
  inside known = with_offsets (offsets_of kernel) known

  record IsLoop (known : Known) (lines : Lines) : Type 0 where
    test : test_of (F known lines) ≡ F (inside known) (test_of lines)
    answer : answer_of (F known lines) ≡ known_atom (inside known) (answer_of lines)
    body : body_of (F known lines) ≡ F (inside known) (body_of lines)

  loop_parts : (known : Known) (lines : Lines) → IsLoop known lines
  loop_parts known NoLine = record { test = refl; answer = refl; body = refl }
  loop_parts known (SetThen to work rest) = record { test = refl; answer = refl; body = refl }
  loop_parts known (LoadThen site to element root index rest) = record { test = refl; answer = refl; body = refl }
  loop_parts known (StoreThen site element root index from rest) = record { test = refl; answer = refl; body = refl }
  loop_parts known (ClearThen array rest) = record { test = refl; answer = refl; body = refl }
  loop_parts known (IfThen site test chosen other rest) = record { test = refl; answer = refl; body = refl }
  loop_parts known (LoopThen site test_first test answer body rest) =
      record { test = refl; answer = refl; body = refl }
  loop_parts known (BarrierThen site rest) = record { test = refl; answer = refl; body = refl }

  answer_folded : (n : ℕ) (t : Tasks) (ks : List Known) → AllConstants ks →
      IsFolded (at_answer n (folded_tasks kernel t ks)) (at_answer n t)
  answer_folded n NoTask ks k = record { known = []; constants = tt; same = refl }
  answer_folded n (AnswerAt at test answer body m t) [] k = record { known = []; constants = tt; same = refl }
  answer_folded n (AnswerAt at test answer body m t) (known ∷ ks) k =
      record { known = []; constants = tt; same = refl }
  answer_folded n (LinesAt at lines t) [] k = record { known = []; constants = tt; same = refl }
  answer_folded n (LinesAt at lines t) (known ∷ ks) k =
      let p = past_folded (LinesAt at lines t) (known ∷ ks) k in
      let l = loop_parts known lines in
      record {
        known = inside known ∷ p.known;
        constants = (constants_inside (offsets_of kernel) known k.0, p.constants);
        same =
            ap (λ z. AnswerAt at (test_of (F known lines)) (answer_of (F known lines)) (body_of (F known lines)) n z)
            p.same
            ∙ (ap (λ z. AnswerAt at z (answer_of (F known lines)) (body_of (F known lines)) n
            (folded_tasks kernel (past (LinesAt at lines t)) p.known)) l.test
            ∙ (ap (λ z. AnswerAt at (F (inside known) (test_of lines)) z (body_of (F known lines)) n
            (folded_tasks kernel (past (LinesAt at lines t)) p.known)) l.answer
            ∙ ap (λ z. AnswerAt at (F (inside known) (test_of lines)) (known_atom (inside known) (answer_of lines)) z n
            (folded_tasks kernel (past (LinesAt at lines t)) p.known)) l.body));
      }

  test_folded : (n : ℕ) (t : Tasks) (ks : List Known) → AllConstants ks →
      IsFolded (in_test n (folded_tasks kernel t ks)) (in_test n t)
  test_folded n NoTask ks k = record { known = []; constants = tt; same = refl }
  test_folded n (AnswerAt at test answer body m t) [] k = record { known = []; constants = tt; same = refl }
  test_folded n (AnswerAt at test answer body m t) (known ∷ ks) k = record { known = []; constants = tt; same = refl }
  test_folded n (LinesAt at lines t) [] k = record { known = []; constants = tt; same = refl }
  test_folded n (LinesAt at lines t) (known ∷ ks) k =
      let p = answer_folded n (LinesAt at lines t) (known ∷ ks) k in
      let l = loop_parts known lines in
      record {
        known = inside known ∷ p.known;
        constants = (constants_inside (offsets_of kernel) known k.0, p.constants);
        same = ap (λ z. LinesAt (IntoTest ∷ at) (test_of (F known lines)) z) p.same ∙
            ap (λ z. LinesAt (IntoTest ∷ at) z (folded_tasks kernel (at_answer n (LinesAt at lines t)) p.known)) l.test;
      }

  body_folded : (n : ℕ) (t : Tasks) (ks : List Known) → AllConstants ks →
      IsFolded (in_body n (folded_tasks kernel t ks)) (in_body n t)
  body_folded n NoTask ks k = record { known = []; constants = tt; same = refl }
  body_folded n (AnswerAt at test answer body m t) [] k = record { known = []; constants = tt; same = refl }
  body_folded n (AnswerAt at test answer body m t) (known ∷ ks) k = record { known = []; constants = tt; same = refl }
  body_folded n (LinesAt at lines t) [] k = record { known = []; constants = tt; same = refl }
  body_folded n (LinesAt at lines t) (known ∷ ks) k =
      let p = test_folded n (LinesAt at lines t) (known ∷ ks) k in
      let l = loop_parts known lines in
      record {
        known = inside known ∷ p.known;
        constants = (constants_inside (offsets_of kernel) known k.0, p.constants);
        same = ap (λ z. LinesAt (IntoBody ∷ at) (body_of (F known lines)) z) p.same ∙
            ap (λ z. LinesAt (IntoBody ∷ at) z (folded_tasks kernel (in_test n (LinesAt at lines t)) p.known)) l.body;
      }

  -- one leg further
  further : (leg : Tasks → Tasks) → ((t : Tasks) (ks : List Known) → AllConstants ks →
      IsFolded (leg (folded_tasks kernel t ks)) (leg t)) → (t' t : Tasks) → IsFolded t' t → IsFolded (leg t') (leg t)
  further leg folds t' t h =
      let p = folds t h.known h.constants in
      record { known = p.known; constants = p.constants; same = ap leg h.same ∙ p.same }

  tasks_folded : (at : Place) (begun : List ℕ) →
      IsFolded (tasks_at (folded_of kernel).body at begun) (tasks_at kernel.body at begun)
  tasks_folded [] begun = record { known = nothing_known ∷ []; constants = (no_constants, tt); same = refl }
  tasks_folded (Behind ∷ at) begun = further past past_folded _ _ (tasks_folded at begun)
  tasks_folded (IntoChosen ∷ at) begun = further in_chosen chosen_folded _ _ (tasks_folded at begun)
  tasks_folded (IntoOther ∷ at) begun = further in_other other_folded _ _ (tasks_folded at begun)
  tasks_folded (IntoTest ∷ at) begun =
      further (in_test (first_of begun)) (test_folded (first_of begun)) _ _ (tasks_folded at (others_of begun))
  tasks_folded (ToAnswer ∷ at) begun =
      further (at_answer (first_of begun)) (answer_folded (first_of begun)) _ _ (tasks_folded at (others_of begun))
  tasks_folded (IntoBody ∷ at) begun =
      further (in_body (first_of begun)) (body_folded (first_of begun)) _ _ (tasks_folded at (others_of begun))

  -- ---- what is live

  module _ (c : ℕ) where
    now_less : (t : Tasks) (ks : List Known) → AllConstants ks → live_now c (folded_tasks kernel t ks) ≡ true →
        live_now c t ≡ true
    now_less NoTask ks k e = e
    now_less (LinesAt at lines t) [] k e = absurd (true≢false (sym e))
    now_less (LinesAt at lines t) (known ∷ ks) k e =
        live_less (is_set_once kernel) (offsets_of kernel) c known k.0 lines (live_now c (folded_tasks kernel t ks))
        (live_now c t)
        (now_less t ks k.1) e
    now_less (AnswerAt at test answer body n t) [] k e = absurd (true≢false (sym e))
    now_less (AnswerAt at test answer body n t) (known ∷ ks) k e =
        or_less (reads c answer) (live_now c t || live_in c body (live_in c test false)) _ _
        (atom_less c known k.0 answer)
        (or_less (live_now c t) (live_in c body (live_in c test false)) _ _ (now_less t ks k.1)
        (live_less (is_set_once kernel) (offsets_of kernel) c known k.0 body (live_in c (F known test) false)
        (live_in c test false)
        (live_less (is_set_once kernel) (offsets_of kernel) c known k.0 test false false (λ h. h)))) e

    behind_less : (t : Tasks) (ks : List Known) → AllConstants ks → live_behind c (folded_tasks kernel t ks) ≡ true →
        live_behind c t ≡ true
    behind_less NoTask ks k e = e
    behind_less (LinesAt at lines t) [] k e = absurd (true≢false (sym e))
    behind_less (LinesAt at lines t) (known ∷ ks) k e = now_less (LinesAt at lines t) (known ∷ ks) k e
    behind_less (AnswerAt at test answer body n t) [] k e = absurd (true≢false (sym e))
    behind_less (AnswerAt at test answer body n t) (known ∷ ks) k e =
        or_less (live_now c t) (live_in c body (live_in c test (live_now c (AnswerAt at test answer body n t)))) _ _
        (now_less t ks k.1)
        (live_less (is_set_once kernel) (offsets_of kernel) c known k.0 body _ _
        (live_less (is_set_once kernel) (offsets_of kernel) c known k.0 test _ _
        (now_less (AnswerAt at test answer body n t) (known ∷ ks) k))) e

  pub live_there : (at : Place) (c : ℕ) → live_at (folded_of kernel).body at c ≡ true → live_at kernel.body at c ≡ true
  live_there at c e =
      let h = tasks_folded at [] in
      behind_less c (tasks_at kernel.body at []) h.known h.constants (sym (ap (live_behind c) h.same) ∙ e)
