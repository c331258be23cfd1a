-- What sweeping leaves of a text: the same barriers and accesses, the same lines at the places that stand for them,
-- and no other names.
use Rattle.std.proofs.Common.{◌≡◌, ℕ, suc, ◌+◌, [], ◌∷◌, ◌++◌, refl, sym, ap, ap₂, ◌∙◌, true}
use Rattle.std.proofs.Common.{false, if◌then◌else◌}
use Rattle.std.proofs.Common.{Bool as Test}
use Rattle.std.specs.Prelude.{◌||◌}
use Rattle.kir.specs.Tree.{Work, Lines, NoLine, SetThen, LoadThen, StoreThen, ClearThen, IfThen, LoopThen, BarrierThen}
use Rattle.kir.specs.Tree.{Kernel}
use Rattle.kir.specs.Places.{Leg, Behind, IntoChosen, IntoOther, IntoTest, ToAnswer, IntoBody, Place}
use Rattle.kir.specs.Places.{lines_at, behind, chosen_of, other_of, test_of, body_of}
use Rattle.kir.specs.Places.{loops_around}
use Rattle.kir.specs.Cuts.{holds_barrier, is_barrier, is_choice, is_round, is_line, ends_part, is_behind_round}
use Rattle.kir.specs.Keeps.{Names, Cut, named_by, named_by_work, pieces_of, names_across, is_keep}
use Rattle.kir.specs.Counts.{once_if, load_lines, store_lines, barrier_lines}
use Rattle.kir_simplify.specs.Simple.{is_unread}
use Rattle.kir_simplify.specs.Passes.{swept, swept_of}
use Rattle.kir_simplify.proofs.FoldedLess.{and_less, IsFewer, no_piece, both_have, one_more, none_of, work_names}
use Rattle.kir_simplify.proofs.FoldedLess.{fewer_self, fewer_then, cut_fewer, across_less}
use Rattle.kir_simplify.proofs.SweptItems.{spot, part, part_at, skip, placed, IsKept, front, past_kept}
use Rattle.kir_simplify.proofs.SweptItems.{back}

module _ (kernel : Kernel) where
  abbrev S : Lines → Lines
  S lines = swept (is_unread kernel) lines

  -- a line that is kept, where it sets a cell
  kept_set : (to : ℕ) (work : Work) (rest : Lines) → is_unread kernel to ≡ false →
      S (SetThen to work rest) ≡ SetThen to work (S rest)
  kept_set to work rest e = ap (λ (b : Test). if b then S rest else SetThen to work (S rest)) e

  -- one that is left out
  pub left_set : (to : ℕ) (work : Work) (rest : Lines) → is_unread kernel to ≡ true → S (SetThen to work rest) ≡ S rest
  left_set to work rest e = ap (λ (b : Test). if b then S rest else SetThen to work (S rest)) e

  -- ---- past the lines that are left out

  -- what holds of a place and of the lines there holds behind a line that is left out
  pub along : (P : Place → Lines → Type 0) →
      ((at : Place) (to : ℕ) (work : Work) (rest : Lines) → is_unread kernel to ≡ true → P at (SetThen to work rest) →
      P (Behind ∷ at) rest)
      → (lines : Lines) (at : Place) → P at lines → P (skip kernel at lines).at (skip kernel at lines).lines
  along P f NoLine at h = h
  along P f (SetThen to work rest) at h =
      by_test (λ left. along P f rest (Behind ∷ at) (f at to work rest left h)) (is_unread kernel to) refl
    where
      by_test : (is_unread kernel to ≡ true → P (skip kernel (Behind ∷ at) rest).at (skip kernel (Behind ∷ at)
          rest).lines) → (b : Test) → is_unread kernel to ≡ b →
          P (if b then skip kernel (Behind ∷ at) rest else spot at (SetThen to work rest)).at
          (if b then skip kernel (Behind ∷ at) rest else spot at (SetThen to work rest)).lines
      by_test g true e = g e
      by_test g false e = h
  along P f (LoadThen site to element root index rest) at h = h
  along P f (StoreThen site element root index from rest) at h = h
  along P f (ClearThen array rest) at h = h
  along P f (IfThen site test chosen other rest) at h = h
  along P f (LoopThen site test_first test answer body rest) at h = h
  along P f (BarrierThen site rest) at h = h

  -- the line behind them is kept
  skip_kept : (lines : Lines) (at : Place) → IsKept kernel (skip kernel at lines).lines
  skip_kept NoLine at = tt
  skip_kept (SetThen to work rest) at = by_test (skip_kept rest (Behind ∷ at)) (is_unread kernel to) refl
    where
      by_test : IsKept kernel (skip kernel (Behind ∷ at) rest).lines → (b : Test) → is_unread kernel to ≡ b →
          IsKept kernel (if b then skip kernel (Behind ∷ at) rest else spot at (SetThen to work rest)).lines
      by_test g true e = g
      by_test g false e = e
  skip_kept (LoadThen site to element root index rest) at = tt
  skip_kept (StoreThen site element root index from rest) at = tt
  skip_kept (ClearThen array rest) at = tt
  skip_kept (IfThen site test chosen other rest) at = tt
  skip_kept (LoopThen site test_first test answer body rest) at = tt
  skip_kept (BarrierThen site rest) at = tt

  pub placed_kept : (p : Place) → IsKept kernel (placed kernel p).lines
  placed_kept [] = skip_kept kernel.body []
  placed_kept (leg ∷ p) = skip_kept (part leg (placed kernel p).lines) (leg ∷ (placed kernel p).at)

  -- the lines that stand there are the text's
  pub placed_is : (p : Place) → (placed kernel p).lines ≡ lines_at kernel.body (placed kernel p).at
  placed_is [] = along (λ at lines. lines ≡ lines_at kernel.body at) (λ at to work rest left h. ap behind h) kernel.body
      [] refl
  placed_is (leg ∷ p) =
      along (λ at lines. lines ≡ lines_at kernel.body at) (λ at to work rest left h. ap behind h)
      (part leg (placed kernel p).lines) (leg ∷ (placed kernel p).at)
      (ap (part leg) (placed_is p) ∙ sym (part_at kernel.body leg (placed kernel p).at))

  -- as many loops are around
  same_loops : (leg : Leg) (at at' : Place) → loops_around at ≡ loops_around at' →
      loops_around (leg ∷ at) ≡ loops_around (leg ∷ at')
  same_loops Behind at at' e = e
  same_loops IntoChosen at at' e = e
  same_loops IntoOther at at' e = e
  same_loops IntoTest at at' e = ap suc e
  same_loops ToAnswer at at' e = ap suc e
  same_loops IntoBody at at' e = ap suc e

  pub placed_loops : (p : Place) → loops_around (placed kernel p).at ≡ loops_around p
  placed_loops [] = along (λ at lines. loops_around at ≡ 0) (λ at to work rest left h. h) kernel.body [] refl
  placed_loops (leg ∷ p) =
      along (λ at lines. loops_around at ≡ loops_around (leg ∷ p)) (λ at to work rest left h. h)
      (part leg (placed kernel p).lines) (leg ∷ (placed kernel p).at)
      (same_loops leg (placed kernel p).at p (placed_loops p))

  -- and back from there
  kept_past : (lines : Lines) (p : Place) → IsKept kernel lines → past_kept kernel lines p ≡ Behind ∷ p
  kept_past (SetThen to work rest) p k = ap (λ (b : Test). if b then p else Behind ∷ p) k
  kept_past NoLine p k = refl
  kept_past (LoadThen site to element root index rest) p k = refl
  kept_past (StoreThen site element root index from rest) p k = refl
  kept_past (ClearThen array rest) p k = refl
  kept_past (IfThen site test chosen other rest) p k = refl
  kept_past (LoopThen site test_first test answer body rest) p k = refl
  kept_past (BarrierThen site rest) p k = refl

  -- where the lines are the text's and the place leads back to this one
  record LeadsBack (to : Place) (at : Place) (lines : Lines) : Type 0 where
    is : lines ≡ lines_at kernel.body at
    leads : back kernel at ≡ to

  back_past : (to : Place) (at : Place) (cell : ℕ) (work : Work) (rest : Lines) → is_unread kernel cell ≡ true →
      LeadsBack to at (SetThen cell work rest) → LeadsBack to (Behind ∷ at) rest
  back_past to at cell work rest left h = record {
    is = ap behind h.is;
    leads = ap (λ lines. past_kept kernel lines (back kernel at)) (sym h.is) ∙
        (ap (λ (b : Test). if b then back kernel at else Behind ∷ back kernel at) left ∙ h.leads);
  }

  back_leg : (leg : Leg) (p : Place) → back kernel (placed kernel p).at ≡ p →
      back kernel (leg ∷ (placed kernel p).at) ≡ leg ∷ p
  back_leg Behind p e =
      ap (λ lines. past_kept kernel lines (back kernel (placed kernel p).at)) (sym (placed_is p)) ∙
      (kept_past (placed kernel p).lines (back kernel (placed kernel p).at) (placed_kept p) ∙ ap (λ x. Behind ∷ x) e)
  back_leg IntoChosen p e = ap (λ x. IntoChosen ∷ x) e
  back_leg IntoOther p e = ap (λ x. IntoOther ∷ x) e
  back_leg IntoTest p e = ap (λ x. IntoTest ∷ x) e
  back_leg ToAnswer p e = ap (λ x. ToAnswer ∷ x) e
  back_leg IntoBody p e = ap (λ x. IntoBody ∷ x) e

  pub back_placed : (p : Place) → back kernel (placed kernel p).at ≡ p
  back_placed [] =
      (along (LeadsBack []) (back_past []) kernel.body [] (record { is = refl; leads = refl })).leads
  back_placed (leg ∷ p) =
      (along (LeadsBack (leg ∷ p)) (back_past (leg ∷ p)) (part leg (placed kernel p).lines)
      (leg ∷ (placed kernel p).at) (record {
        is = ap (part leg) (placed_is p) ∙ sym (part_at kernel.body leg (placed kernel p).at);
        leads = back_leg leg p (back_placed p);
      })).leads

  -- ---- the lines at a place

  pub behind_swept : (lines : Lines) → IsKept kernel lines → behind (S lines) ≡ S (behind lines)
  behind_swept (SetThen to work rest) k = ap behind (kept_set to work rest k)
  behind_swept NoLine k = refl
  behind_swept (LoadThen site to element root index rest) k = refl
  behind_swept (StoreThen site element root index from rest) k = refl
  behind_swept (ClearThen array rest) k = refl
  behind_swept (IfThen site test chosen other rest) k = refl
  behind_swept (LoopThen site test_first test answer body rest) k = refl
  behind_swept (BarrierThen site rest) k = refl

  pub chosen_swept : (lines : Lines) → IsKept kernel lines → chosen_of (S lines) ≡ S (chosen_of lines)
  chosen_swept (SetThen to work rest) k = ap chosen_of (kept_set to work rest k)
  chosen_swept (IfThen site test chosen other rest) k = refl
  chosen_swept _ k = refl

  pub other_swept : (lines : Lines) → IsKept kernel lines → other_of (S lines) ≡ S (other_of lines)
  other_swept (SetThen to work rest) k = ap other_of (kept_set to work rest k)
  other_swept (IfThen site test chosen other rest) k = refl
  other_swept _ k = refl

  pub test_swept : (lines : Lines) → IsKept kernel lines → test_of (S lines) ≡ S (test_of lines)
  test_swept (SetThen to work rest) k = ap test_of (kept_set to work rest k)
  test_swept (LoopThen site test_first test answer body rest) k = refl
  test_swept _ k = refl

  pub body_swept : (lines : Lines) → IsKept kernel lines → body_of (S lines) ≡ S (body_of lines)
  body_swept (SetThen to work rest) k = ap body_of (kept_set to work rest k)
  body_swept (LoopThen site test_first test answer body rest) k = refl
  body_swept _ k = refl

  part_swept : (leg : Leg) (lines : Lines) → IsKept kernel lines → part leg (S lines) ≡ S (part leg lines)
  part_swept Behind lines k = behind_swept lines k
  part_swept IntoChosen lines k = chosen_swept lines k
  part_swept IntoOther lines k = other_swept lines k
  part_swept IntoTest lines k = test_swept lines k
  part_swept ToAnswer lines k = refl
  part_swept IntoBody lines k = body_swept lines k

  pub lines_swept : (p : Place) → lines_at (S kernel.body) p ≡ S (placed kernel p).lines
  lines_swept [] =
      along (λ at lines. S kernel.body ≡ S lines) (λ at to work rest left h. h ∙ left_set to work rest left) kernel.body
      []
      refl
  lines_swept (leg ∷ p) =
      along (λ at lines. lines_at (S kernel.body) (leg ∷ p) ≡ S lines)
      (λ at to work rest left h. h ∙ left_set to work rest left) (part leg (placed kernel p).lines)
      (leg ∷ (placed kernel p).at)
      (part_at (S kernel.body) leg p ∙
      (ap (part leg) (lines_swept p) ∙ part_swept leg (placed kernel p).lines (placed_kept p)))

  -- ---- barriers

  pub same_barriers : (lines : Lines) → holds_barrier (S lines) ≡ holds_barrier lines
  same_barriers NoLine = refl
  same_barriers (SetThen to work rest) = by_test (same_barriers rest) (is_unread kernel to)
    where
      by_test : holds_barrier (S rest) ≡ holds_barrier rest → (b : Test) →
          holds_barrier (if b then S rest else SetThen to work (S rest)) ≡ holds_barrier rest
      by_test h true = h
      by_test h false = h
  same_barriers (LoadThen site to element root index rest) = same_barriers rest
  same_barriers (StoreThen site element root index from rest) = same_barriers rest
  same_barriers (ClearThen array rest) = same_barriers rest
  same_barriers (IfThen site test chosen other rest) =
      ap₂ (λ x y. x || y) (same_barriers chosen) (ap₂ (λ x y. x || y) (same_barriers other) (same_barriers rest))
  same_barriers (LoopThen site test_first test answer body rest) =
      ap₂ (λ x y. x || y) (same_barriers test) (ap₂ (λ x y. x || y) (same_barriers body) (same_barriers rest))
  same_barriers (BarrierThen site rest) = refl

  barrier_kept : (lines : Lines) → IsKept kernel lines → is_barrier (S lines) ≡ is_barrier lines
  barrier_kept (SetThen to work rest) k = ap is_barrier (kept_set to work rest k)
  barrier_kept (BarrierThen site rest) k = refl
  barrier_kept _ k = refl

  choice_kept : (lines : Lines) → IsKept kernel lines → is_choice (S lines) ≡ is_choice lines
  choice_kept (SetThen to work rest) k = ap is_choice (kept_set to work rest k)
  choice_kept (IfThen site test chosen other rest) k =
      ap₂ (λ x y. x || y) (same_barriers chosen) (same_barriers other)
  choice_kept _ k = refl

  round_kept : (lines : Lines) → IsKept kernel lines → is_round (S lines) ≡ is_round lines
  round_kept (SetThen to work rest) k = ap is_round (kept_set to work rest k)
  round_kept (LoopThen site test_first test answer body rest) k =
      ap₂ (λ x y. x || y) (same_barriers test) (same_barriers body)
  round_kept _ k = refl

  line_kept : (lines : Lines) → IsKept kernel lines → is_line (S lines) ≡ is_line lines
  line_kept (SetThen to work rest) k = ap is_line (kept_set to work rest k)
  line_kept NoLine k = refl
  line_kept _ k = refl

  -- so a test of the first line at a place is one of the line for which it stands
  there_same : (test : Lines → Test) → ((lines : Lines) → IsKept kernel lines → test (S lines) ≡ test lines) →
      (p : Place) →
      test (lines_at (S kernel.body) p) ≡ test (lines_at kernel.body (placed kernel p).at)
  there_same test same p =
      ap test (lines_swept p) ∙ (same (placed kernel p).lines (placed_kept p) ∙ ap test (placed_is p))

  pub barrier_there : (p : Place) →
      is_barrier (lines_at (S kernel.body) p) ≡ is_barrier (lines_at kernel.body (placed kernel p).at)
  barrier_there = there_same is_barrier barrier_kept

  pub choice_there : (p : Place) →
      is_choice (lines_at (S kernel.body) p) ≡ is_choice (lines_at kernel.body (placed kernel p).at)
  choice_there = there_same is_choice choice_kept

  pub line_there : (p : Place) →
      is_line (lines_at (S kernel.body) p) ≡ is_line (lines_at kernel.body (placed kernel p).at)
  line_there = there_same is_line line_kept

  pub ends_there : (p : Place) → ends_part (S kernel.body) p ≡ ends_part kernel.body (front kernel p)
  ends_there [] = refl
  ends_there (Behind ∷ p) = choice_there p
  ends_there (IntoChosen ∷ p) = refl
  ends_there (IntoOther ∷ p) = refl
  ends_there (IntoTest ∷ p) = there_same is_round round_kept p
  ends_there (ToAnswer ∷ p) = there_same is_round round_kept p
  ends_there (IntoBody ∷ p) = there_same is_round round_kept p

  pub behind_there : (p : Place) → is_behind_round (S kernel.body) p ≡ is_behind_round kernel.body (front kernel p)
  behind_there [] = refl
  behind_there (Behind ∷ p) = there_same is_round round_kept p
  behind_there (IntoChosen ∷ p) = refl
  behind_there (IntoOther ∷ p) = refl
  behind_there (IntoTest ∷ p) = refl
  behind_there (ToAnswer ∷ p) = refl
  behind_there (IntoBody ∷ p) = refl

  -- ---- counts

  pub same_loads : (site : ℕ) (lines : Lines) → load_lines site (S lines) ≡ load_lines site lines
  same_loads site NoLine = refl
  same_loads site (SetThen to work rest) = by_test (same_loads site rest) (is_unread kernel to)
    where
      by_test : load_lines site (S rest) ≡ load_lines site rest → (b : Test) →
          load_lines site (if b then S rest else SetThen to work (S rest)) ≡ load_lines site rest
      by_test h true = h
      by_test h false = h
  same_loads site (LoadThen at to element root index rest) = ap (λ n. once_if site at + n) (same_loads site rest)
  same_loads site (StoreThen at element root index from rest) = same_loads site rest
  same_loads site (ClearThen array rest) = same_loads site rest
  same_loads site (IfThen at test chosen other rest) =
      ap₂ (λ x y. x + y) (same_loads site chosen) (ap₂ (λ x y. x + y) (same_loads site other) (same_loads site rest))
  same_loads site (LoopThen at test_first test answer body rest) =
      ap₂ (λ x y. x + y) (same_loads site test) (ap₂ (λ x y. x + y) (same_loads site body) (same_loads site rest))
  same_loads site (BarrierThen at rest) = same_loads site rest

  pub same_stores : (site : ℕ) (lines : Lines) → store_lines site (S lines) ≡ store_lines site lines
  same_stores site NoLine = refl
  same_stores site (SetThen to work rest) = by_test (same_stores site rest) (is_unread kernel to)
    where
      by_test : store_lines site (S rest) ≡ store_lines site rest → (b : Test) →
          store_lines site (if b then S rest else SetThen to work (S rest)) ≡ store_lines site rest
      by_test h true = h
      by_test h false = h
  same_stores site (LoadThen at to element root index rest) = same_stores site rest
  same_stores site (StoreThen at element root index from rest) =
      ap (λ n. once_if site at + n) (same_stores site rest)
  same_stores site (ClearThen array rest) = same_stores site rest
  same_stores site (IfThen at test chosen other rest) =
      ap₂ (λ x y. x + y) (same_stores site chosen)
      (ap₂ (λ x y. x + y) (same_stores site other) (same_stores site rest))
  same_stores site (LoopThen at test_first test answer body rest) =
      ap₂ (λ x y. x + y) (same_stores site test)
      (ap₂ (λ x y. x + y) (same_stores site body) (same_stores site rest))
  same_stores site (BarrierThen at rest) = same_stores site rest

  pub same_counts : (site : ℕ) (lines : Lines) → barrier_lines site (S lines) ≡ barrier_lines site lines
  same_counts site NoLine = refl
  same_counts site (SetThen to work rest) = by_test (same_counts site rest) (is_unread kernel to)
    where
      by_test : barrier_lines site (S rest) ≡ barrier_lines site rest → (b : Test) →
          barrier_lines site (if b then S rest else SetThen to work (S rest)) ≡ barrier_lines site rest
      by_test h true = h
      by_test h false = h
  same_counts site (LoadThen at to element root index rest) = same_counts site rest
  same_counts site (StoreThen at element root index from rest) = same_counts site rest
  same_counts site (ClearThen array rest) = same_counts site rest
  same_counts site (IfThen at test chosen other rest) =
      ap₂ (λ x y. x + y) (same_counts site chosen)
      (ap₂ (λ x y. x + y) (same_counts site other) (same_counts site rest))
  same_counts site (LoopThen at test_first test answer body rest) =
      ap₂ (λ x y. x + y) (same_counts site test)
      (ap₂ (λ x y. x + y) (same_counts site body) (same_counts site rest))
  same_counts site (BarrierThen at rest) = ap (λ n. once_if site at + n) (same_counts site rest)

  -- ---- names

  pieces_fewer : (lines : Lines) → IsFewer (pieces_of (S lines)) (pieces_of lines)
  pieces_fewer NoLine = no_piece
  pieces_fewer (SetThen to work rest) = by_test (pieces_fewer rest) (is_unread kernel to)
    where
      by_test : IsFewer (pieces_of (S rest)) (pieces_of rest) → (b : Test) →
          IsFewer (pieces_of (if b then S rest else SetThen to work (S rest)))
          (named_by_work work ++ Names to ∷ pieces_of rest)
      by_test h true = fewer_then (none_of (named_by_work work) (work_names work)) (one_more to h)
      by_test h false = fewer_then (fewer_self (named_by_work work)) (both_have (Names to) h)
  pieces_fewer (LoadThen site to element root index rest) =
      fewer_then (fewer_self (named_by index)) (both_have (Names to) (pieces_fewer rest))
  pieces_fewer (StoreThen site element root index from rest) =
      fewer_then (fewer_self (named_by index)) (fewer_then (fewer_self (named_by from)) (pieces_fewer rest))
  pieces_fewer (ClearThen array rest) = pieces_fewer rest
  pieces_fewer (IfThen site test chosen other rest) =
      let same = ap₂ (λ x y. x || y) (same_barriers chosen) (same_barriers other) in
      cut_fewer _ _ _ _ same (fewer_then (fewer_self (named_by test))
      (cut_fewer _ _ _ _ same (fewer_then (pieces_fewer chosen)
      (cut_fewer _ _ _ _ same (fewer_then (pieces_fewer other)
      (cut_fewer _ _ _ _ same (pieces_fewer rest)))))))
  pieces_fewer (LoopThen site test_first test answer body rest) =
      let same = ap₂ (λ x y. x || y) (same_barriers test) (same_barriers body) in
      cut_fewer _ _ _ _ same (fewer_then (pieces_fewer test)
      (fewer_then (fewer_self (named_by answer))
      (cut_fewer _ _ _ _ same (fewer_then (pieces_fewer body)
      (cut_fewer _ _ _ _ same (pieces_fewer rest))))))
  pieces_fewer (BarrierThen site rest) = both_have Cut (pieces_fewer rest)

  pub keeps_fewer : (c : ℕ) → is_keep (swept_of kernel) c ≡ true → is_keep kernel c ≡ true
  keeps_fewer c e =
      and_less _ (names_across c (pieces_of kernel.body)) _ _ (λ h. h) (across_less c (pieces_fewer kernel.body)) e
