-- Each region of a kernel's tree is a piece of its text.
use Rattle.std.proofs.Common.{◌≡◌, ℕ, [], ◌∷◌, length, Option, Some, None, refl, sym, ap, ◌∙◌, cond}
use Rattle.std.specs.Prelude.{◌||◌}
use Rattle.std.specs.Prelude.{Bool as Test, true, false}
use Rattle.kir.specs.declared.line.Atom.{Atom}
use Rattle.kir.specs.Tree.{Lines, NoLine, SetThen, LoadThen, StoreThen, ClearThen, IfThen, LoopThen as LoopLine}
use Rattle.kir.specs.Tree.{BarrierThen, joined_to, Kernel}
use Rattle.kir.specs.Places.{Behind, IntoChosen, IntoOther, IntoTest, IntoBody, Place, Tasks, NoTask, LinesAt}
use Rattle.kir.specs.Places.{AnswerAt, lines_at, behind, chosen_of, other_of, test_of, body_of}
use Rattle.kir.specs.Cuts.{holds_barrier}
use Rattle.regions.specs.Tree.{RegionThen, VoteThen, LoopThen}
use Rattle.regions.specs.Split.{until_cut, live_from, region_to, cut_into, split_of}
use Rattle.regions.specs.Spans.{past_lines}
use Rattle.regions.specs.Fragments.{EachRegion, IsPiece}
use Rattle.regions.proofs.Cuts.{from_cut, cut_whole}

module _ (kernel : Kernel) where
  -- the text behind lines
  past_piece : (first L : Lines) (a0 : Place) → lines_at kernel.body a0 ≡ joined_to first L →
      lines_at kernel.body (past_lines first a0) ≡ L
  past_piece NoLine L a0 e = e
  past_piece (SetThen to work rest) L a0 e = past_piece rest L (Behind ∷ a0) (ap behind e)
  past_piece (LoadThen site to element root index rest) L a0 e = past_piece rest L (Behind ∷ a0) (ap behind e)
  past_piece (StoreThen site element root index from rest) L a0 e = past_piece rest L (Behind ∷ a0) (ap behind e)
  past_piece (ClearThen array rest) L a0 e = past_piece rest L (Behind ∷ a0) (ap behind e)
  past_piece (IfThen site a chosen other rest) L a0 e = past_piece rest L (Behind ∷ a0) (ap behind e)
  past_piece (LoopLine site first t a body rest) L a0 e = past_piece rest L (Behind ∷ a0) (ap behind e)
  past_piece (BarrierThen site rest) L a0 e = past_piece rest L (Behind ∷ a0) (ap behind e)

  abbrev Pieces : Lines → Type 0
  Pieces L =
      (ends : Option Atom) (first : Lines) (a0 at : Place) (k : Tasks) →
      lines_at kernel.body a0 ≡ joined_to first (from_cut L) → past_lines first a0 ≡ past_lines (until_cut L) at →
      EachRegion (IsPiece kernel) (cut_into (length kernel.cells) ends first at L k)

  -- from the front of a list
  front : (L : Lines) → Pieces L → (ends : Option Atom) (at : Place) (k : Tasks) → lines_at kernel.body at ≡ L →
      EachRegion (IsPiece kernel) (cut_into (length kernel.cells) ends (until_cut L) at L k)
  front L pieces ends at k e = pieces ends (until_cut L) at at k (e ∙ sym (cut_whole L)) refl

  if_pieces : (site : ℕ) (a : Atom) (chosen other rest : Lines) → Pieces chosen → Pieces other → Pieces rest →
      Pieces (IfThen site a chosen other rest)
  if_pieces site a chosen other rest pc po pr ends first a0 at k e place =
      go (holds_barrier chosen || holds_barrier other) e place
    where
      L : Lines
      L = IfThen site a chosen other rest

      K : Tasks
      K = LinesAt (Behind ∷ at) rest k

      go : (h : Test) → lines_at kernel.body a0 ≡
          joined_to first (cond h (IfThen site a chosen other rest) (from_cut rest)) →
          past_lines first a0 ≡ past_lines (cond h NoLine (IfThen site a chosen other (until_cut rest))) at
          → EachRegion (IsPiece kernel) (cond h
          (VoteThen (region_to (length kernel.cells) first (Some a)
          (LinesAt at (IfThen site a chosen other rest) k))
          (cut_into (length kernel.cells) None (until_cut chosen) (IntoChosen ∷ at) chosen
          (LinesAt (Behind ∷ at) rest k))
          (cut_into (length kernel.cells) None (until_cut other) (IntoOther ∷ at) other
          (LinesAt (Behind ∷ at) rest k)) (region_to (length kernel.cells) (IfThen site a chosen other NoLine)
          None (LinesAt (Behind ∷ at) rest k))
          (cut_into (length kernel.cells) ends (until_cut rest) (Behind ∷ at) rest k))
          (cut_into (length kernel.cells) ends first (Behind ∷ at) rest k))
      go false e place = pr ends first a0 (Behind ∷ at) k e place
      go true e place =
          let here : lines_at kernel.body at ≡ IfThen site a chosen other rest =
          ap (lines_at kernel.body) (sym place) ∙ past_piece first (IfThen site a chosen other rest) a0 e in (
            record { at = a0; tail = IfThen site a chosen other rest; stands = e },
            record {
              at = at;
              tail = rest;
              stands = here;
            },
            front chosen pc None (IntoChosen ∷ at) _ (ap chosen_of here),
            front other po None (IntoOther ∷ at) _ (ap other_of here),
            front rest pr ends (Behind ∷ at) k (ap behind here),
          )

  loop_pieces : (site : ℕ) (tf : Test) (t : Lines) (a : Atom) (body rest : Lines) → Pieces t → Pieces body →
      Pieces rest → Pieces (LoopLine site tf t a body rest)
  loop_pieces site tf t a body rest pt pb pr ends first a0 at k e place =
      go (holds_barrier t || holds_barrier body) e place
    where
      go : (h : Test) → lines_at kernel.body a0 ≡
          joined_to first (cond h (LoopLine site tf t a body rest) (from_cut rest)) →
          past_lines first a0 ≡ past_lines (cond h NoLine (LoopLine site tf t a body (until_cut rest))) at
          → EachRegion (IsPiece kernel) (cond h
          (RegionThen (region_to (length kernel.cells) first None
          (LinesAt at (LoopLine site tf t a body rest) k)) (LoopThen tf
          (cut_into (length kernel.cells) (Some a) (until_cut t) (IntoTest ∷ at) t
          (AnswerAt at t a body 0 (LinesAt (Behind ∷ at) rest k)))
          (cut_into (length kernel.cells) None (until_cut body) (IntoBody ∷ at) body
          (LinesAt (IntoTest ∷ at) t (AnswerAt at t a body 0 (LinesAt (Behind ∷ at) rest k))))
          (record {
            lines = LoopLine site tf t a body NoLine;
            answer = None;
            from_vote = true;
            live = live_from 0 (length kernel.cells) (LinesAt (Behind ∷ at) rest k);
          })
          (cut_into (length kernel.cells) ends (until_cut rest) (Behind ∷ at) rest k)))
          (cut_into (length kernel.cells) ends first (Behind ∷ at) rest k))
      go false e place = pr ends first a0 (Behind ∷ at) k e place
      go true e place =
          let here : lines_at kernel.body at ≡ LoopLine site tf t a body rest =
          ap (lines_at kernel.body) (sym place) ∙ past_piece first (LoopLine site tf t a body rest) a0 e in (
            record { at = a0; tail = LoopLine site tf t a body rest; stands = e },
            (
              record { at = at; tail = rest; stands = here },
              front t pt (Some a) (IntoTest ∷ at) _ (ap test_of here),
              front body pb None (IntoBody ∷ at) _ (ap body_of here),
              front rest pr ends (Behind ∷ at) k (ap behind here),
            ),
          )

  barrier_pieces : (site : ℕ) (rest : Lines) → Pieces rest → Pieces (BarrierThen site rest)
  barrier_pieces site rest pr ends first a0 at k e place =
      let here : lines_at kernel.body at ≡ BarrierThen site rest =
      ap (lines_at kernel.body) (sym place) ∙ past_piece first (BarrierThen site rest) a0 e in (
        record { at = a0; tail = BarrierThen site rest; stands = e },
        front rest pr ends (Behind ∷ at) k (ap behind here),
      )

  pieces_of : (L : Lines) → Pieces L
  pieces_of NoLine = λ ends first a0 at k e place. (record { at = a0; tail = NoLine; stands = e }, tt)
  pieces_of (SetThen to work rest) = λ ends first a0 at k e place. pieces_of rest ends first a0 (Behind ∷ at) k e place
  pieces_of (LoadThen site to element root index rest) =
      λ ends first a0 at k e place. pieces_of rest ends first a0 (Behind ∷ at) k e place
  pieces_of (StoreThen site element root index from rest) =
      λ ends first a0 at k e place. pieces_of rest ends first a0 (Behind ∷ at) k e place
  pieces_of (ClearThen array rest) = λ ends first a0 at k e place. pieces_of rest ends first a0 (Behind ∷ at) k e place
  pieces_of (IfThen site a chosen other rest) =
      if_pieces site a chosen other rest (pieces_of chosen) (pieces_of other) (pieces_of rest)
  pieces_of (LoopLine site tf t a body rest) =
      loop_pieces site tf t a body rest (pieces_of t) (pieces_of body) (pieces_of rest)
  pieces_of (BarrierThen site rest) = barrier_pieces site rest (pieces_of rest)

  -- every region of the kernel's tree is a piece of its text: no line stands in it twice
  pub split_pieces : EachRegion (IsPiece kernel) (split_of kernel)
  split_pieces = front kernel.body (pieces_of kernel.body) None [] NoTask refl
