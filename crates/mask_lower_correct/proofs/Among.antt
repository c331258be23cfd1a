-- Each region of a valid kernel fits it.
use Rattle.std.proofs.Common.{◌≡◌, ℕ, [], ◌∷◌, length, Option, Some, None, refl, sym, ap, ◌∙◌, subst, cond}
use Rattle.std.specs.Prelude.{◌||◌, ◌&&◌}
use Rattle.std.specs.Prelude.{Bool as Test, true, false}
use Rattle.std.proofs.lemmas.Bool.{true≢false, and_parts}
use Rattle.std.proofs.lemmas.Option.{none-some, same_Some}
use Rattle.wg_num.specs.declared.types.IntType.{IntType}
use Rattle.kir.specs.declared.line.Atom.{Atom}
use Rattle.kir.specs.Tree.{Lines, NoLine, SetThen, LoadThen, StoreThen, ClearThen, IfThen, LoopThen as LoopLine}
use Rattle.kir.specs.Tree.{BarrierThen, Kernel}
use Rattle.kir.specs.Places.{Behind, IntoChosen, IntoOther, IntoTest, IntoBody, Place, Tasks, NoTask, LinesAt, AnswerAt}
use Rattle.kir.specs.Cuts.{holds_barrier}
use Rattle.kir.specs.Fits.{atom_type, has_some_type, is_site, lines_fit, roots_are_own, are_few, is_kernel}
use Rattle.regions.specs.Tree.{RegionOf, Tree, RegionThen, VoteThen, LoopThen}
use Rattle.regions.specs.Split.{until_cut, live_from, region_to, cut_into, split_of}
use Rattle.regions.specs.Fragments.{EachRegion, IsAmong, here, behind_region, is_test, is_mixed, in_agreed, in_refused}
use Rattle.regions.specs.Fragments.{behind_vote, is_rest, in_test, in_body, behind_loop}
use Rattle.mask_lower_correct.specs.Fits.{RegionFits}

pub each_among : (P : RegionOf → Type 0) (region : RegionOf) (tree : Tree) → EachRegion P tree → IsAmong region tree →
    P region
each_among P region _ each here = each.0
each_among P region _ each (behind_region {rest = rest} m) = each_among P region rest each.1 m
each_among P region _ each is_test = each.0
each_among P region _ each is_mixed = each.1
each_among P region _ each (in_agreed {agreed = agreed} m) = each_among P region agreed each.2 m
each_among P region _ each (in_refused {refused = refused} m) = each_among P region refused each.3 m
each_among P region _ each (behind_vote {rest = rest} m) = each_among P region rest each.4 m
each_among P region _ each is_rest = each.0
each_among P region _ each (in_test {test = test} m) = each_among P region test each.1 m
each_among P region _ each (in_body {body = body} m) = each_among P region body each.2 m
each_among P region _ each (behind_loop {rest = rest} m) = each_among P region rest each.3 m

module _ (kernel : Kernel) where
  abbrev Fits : Lines → Type 0
  Fits L = lines_fit kernel L ≡ true

  abbrev Typed : Option Atom → Type 0
  Typed ends = (a : Atom) → ends ≡ Some a → (ty : IntType) × (atom_type kernel a ≡ Some ty)

  untyped : Typed None
  untyped a e = absurd (none-some a e)

  there : (o : Option IntType) → has_some_type o ≡ true → (ty : IntType) × (o ≡ Some ty)
  there None e = absurd (true≢false (sym e))
  there (Some ty) e = (ty, refl)

  typed : (b : Atom) → has_some_type (atom_type kernel b) ≡ true → Typed (Some b)
  typed b h a e =
      subst (λ x. (ty : IntType) × (atom_type kernel x ≡ Some ty)) (same_Some b a e) (there (atom_type kernel b) h)

  -- the parts of a line that holds lines
  record IfFits (site : ℕ) (test : Atom) (chosen other rest : Lines) : Type 0 where
    line : (is_site kernel site && has_some_type (atom_type kernel test) && lines_fit kernel chosen &&
        lines_fit kernel other) ≡ true
    test_typed : has_some_type (atom_type kernel test) ≡ true
    chosen_fits : Fits chosen
    other_fits : Fits other
    rest_fits : Fits rest

  if_fits : (site : ℕ) (test : Atom) (chosen other rest : Lines) → Fits (IfThen site test chosen other rest) →
      IfFits site test chosen other rest
  if_fits site test chosen other rest e =
      let f1 = and_parts (is_site kernel site && has_some_type (atom_type kernel test) && lines_fit kernel chosen &&
      lines_fit kernel other) (lines_fit kernel rest) e in
      let f2 = and_parts (is_site kernel site && has_some_type (atom_type kernel test) && lines_fit kernel chosen)
      (lines_fit kernel other) f1.0 in
      let f3 =
      and_parts (is_site kernel site && has_some_type (atom_type kernel test)) (lines_fit kernel chosen) f2.0 in
      let f4 = and_parts (is_site kernel site) (has_some_type (atom_type kernel test)) f3.0 in
      record { line = f1.0; test_typed = f4.1; chosen_fits = f3.1; other_fits = f2.1; rest_fits = f1.1 }

  record LoopFits (site : ℕ) (test : Lines) (answer : Atom) (body rest : Lines) : Type 0 where
    line : (is_site kernel site && lines_fit kernel test && has_some_type (atom_type kernel answer) &&
        lines_fit kernel body) ≡ true
    test_fits : Fits test
    answer_typed : has_some_type (atom_type kernel answer) ≡ true
    body_fits : Fits body
    rest_fits : Fits rest

  loop_fits : (site : ℕ) (first : Test) (test : Lines) (answer : Atom) (body rest : Lines) →
      Fits (LoopLine site first test answer body rest) → LoopFits site test answer body rest
  loop_fits site first test answer body rest e =
      let f1 = and_parts (is_site kernel site && lines_fit kernel test && has_some_type (atom_type kernel answer) &&
      lines_fit kernel body) (lines_fit kernel rest) e in
      let f2 = and_parts (is_site kernel site && lines_fit kernel test && has_some_type (atom_type kernel answer))
      (lines_fit kernel body) f1.0 in
      let f3 =
      and_parts (is_site kernel site && lines_fit kernel test) (has_some_type (atom_type kernel answer)) f2.0 in
      let f4 = and_parts (is_site kernel site) (lines_fit kernel test) f3.0 in
      record { line = f1.0; test_fits = f4.1; answer_typed = f3.1; body_fits = f2.1; rest_fits = f1.1 }

  joined : (a b c : Test) → (a && b) ≡ true → c ≡ true → (a && c) ≡ true
  joined a b c e h = ap (λ x. x && c) (and_parts a b e).0 ∙ h

  behind_line : (a b : Test) → (a && b) ≡ true → b ≡ true
  behind_line a b e = (and_parts a b e).1

  until_fits : (L : Lines) → Fits L → Fits (until_cut L)
  until_fits NoLine e = refl
  until_fits (SetThen to work rest) e =
      joined _ (lines_fit kernel rest) (lines_fit kernel (until_cut rest)) e (until_fits rest (behind_line _ _ e))
  until_fits (LoadThen site to element root index rest) e =
      joined _ (lines_fit kernel rest) (lines_fit kernel (until_cut rest)) e (until_fits rest (behind_line _ _ e))
  until_fits (StoreThen site element root index from rest) e =
      joined _ (lines_fit kernel rest) (lines_fit kernel (until_cut rest)) e (until_fits rest (behind_line _ _ e))
  until_fits (ClearThen array rest) e =
      joined _ (lines_fit kernel rest) (lines_fit kernel (until_cut rest)) e (until_fits rest (behind_line _ _ e))
  until_fits (IfThen site test chosen other rest) e =
      go (holds_barrier chosen || holds_barrier other)
      (until_fits rest (if_fits site test chosen other rest e).rest_fits)
    where
      go : (h : Test) → Fits (until_cut rest) → Fits (cond h NoLine (IfThen site test chosen other (until_cut rest)))
      go true more = refl
      go false more =
          ap (λ x. x && lines_fit kernel (until_cut rest)) (if_fits site test chosen other rest e).line ∙ more
  until_fits (LoopLine site first test answer body rest) e =
      go (holds_barrier test || holds_barrier body)
      (until_fits rest (loop_fits site first test answer body rest e).rest_fits)
    where
      go : (h : Test) → Fits (until_cut rest) →
          Fits (cond h NoLine (LoopLine site first test answer body (until_cut rest)))
      go true more = refl
      go false more =
          ap (λ x. x && lines_fit kernel (until_cut rest)) (loop_fits site first test answer body rest e).line ∙ more
  until_fits (BarrierThen site rest) e = refl

  abbrev Cut : Lines → Type 0
  Cut L = (cells : ℕ) (ends : Option Atom) (first : Lines) (at : Place) (k : Tasks) → Fits first → Fits L →
      Typed ends → EachRegion (RegionFits kernel) (cut_into cells ends first at L k)

  if_cut : (site : ℕ) (test : Atom) (chosen other rest : Lines) → Cut chosen → Cut other → Cut rest →
      Cut (IfThen site test chosen other rest)
  if_cut site test chosen other rest pc po pr cells ends first at k f e t =
      go (holds_barrier chosen || holds_barrier other)
    where
      parts : IfFits site test chosen other rest
      parts = if_fits site test chosen other rest e

      mixed_fits : Fits (IfThen site test chosen other NoLine)
      mixed_fits = ap (λ x. x && true) parts.line

      go : (h : Test) → EachRegion (RegionFits kernel)
          (cond h (VoteThen (region_to cells first (Some test) (LinesAt at (IfThen site test chosen other rest) k))
          (cut_into cells None (until_cut chosen) (IntoChosen ∷ at) chosen (LinesAt (Behind ∷ at) rest k))
          (cut_into cells None (until_cut other) (IntoOther ∷ at) other (LinesAt (Behind ∷ at) rest k))
          (region_to cells (IfThen site test chosen other NoLine) None (LinesAt (Behind ∷ at) rest k))
          (cut_into cells ends (until_cut rest) (Behind ∷ at) rest k)) (cut_into cells ends first (Behind ∷ at) rest k))
      go false = pr cells ends first (Behind ∷ at) k f parts.rest_fits t
      go true = (
        record { lines = f; answer = typed test parts.test_typed },
        record { lines = mixed_fits; answer = untyped },
        pc cells None (until_cut chosen) (IntoChosen ∷ at) (LinesAt (Behind ∷ at) rest k)
            (until_fits chosen parts.chosen_fits) parts.chosen_fits untyped,
        po cells None (until_cut other) (IntoOther ∷ at) (LinesAt (Behind ∷ at) rest k)
            (until_fits other parts.other_fits) parts.other_fits untyped,
        pr cells ends (until_cut rest) (Behind ∷ at) k (until_fits rest parts.rest_fits) parts.rest_fits t,
      )

  loop_cut : (site : ℕ) (tf : Test) (test : Lines) (answer : Atom) (body rest : Lines) → Cut test → Cut body →
      Cut rest → Cut (LoopLine site tf test answer body rest)
  loop_cut site tf test answer body rest pt pb pr cells ends first at k f e t =
      go (holds_barrier test || holds_barrier body)
    where
      parts : LoopFits site test answer body rest
      parts = loop_fits site tf test answer body rest e

      others_fit : Fits (LoopLine site tf test answer body NoLine)
      others_fit = ap (λ x. x && true) parts.line

      go : (h : Test) → EachRegion (RegionFits kernel)
          (cond h (RegionThen (region_to cells first None (LinesAt at (LoopLine site tf test answer body rest) k))
          (LoopThen tf
          (cut_into cells (Some answer) (until_cut test) (IntoTest ∷ at) test
          (AnswerAt at test answer body 0 (LinesAt (Behind ∷ at) rest k)))
          (cut_into cells None (until_cut body) (IntoBody ∷ at) body
          (LinesAt (IntoTest ∷ at) test (AnswerAt at test answer body 0 (LinesAt (Behind ∷ at) rest k))))
          (record {
            lines = LoopLine site tf test answer body NoLine;
            answer = None;
            from_vote = true;
            live = live_from 0 cells (LinesAt (Behind ∷ at) rest k);
          })
          (cut_into cells ends (until_cut rest) (Behind ∷ at) rest k)))
          (cut_into cells ends first (Behind ∷ at) rest k))
      go false = pr cells ends first (Behind ∷ at) k f parts.rest_fits t
      go true = (
        record { lines = f; answer = untyped },
        (
          record { lines = others_fit; answer = untyped },
          pt cells (Some answer) (until_cut test) (IntoTest ∷ at)
              (AnswerAt at test answer body 0 (LinesAt (Behind ∷ at) rest k)) (until_fits test parts.test_fits)
              parts.test_fits (typed answer parts.answer_typed),
          pb cells None (until_cut body) (IntoBody ∷ at)
              (LinesAt (IntoTest ∷ at) test (AnswerAt at test answer body 0 (LinesAt (Behind ∷ at) rest k)))
              (until_fits body parts.body_fits) parts.body_fits untyped,
          pr cells ends (until_cut rest) (Behind ∷ at) k (until_fits rest parts.rest_fits) parts.rest_fits t,
        ),
      )

  cut_of : (L : Lines) → Cut L
  cut_of NoLine = λ cells ends first at k f e t. (record { lines = f; answer = t }, tt)
  cut_of (SetThen to work rest) =
      λ cells ends first at k f e t. cut_of rest cells ends first (Behind ∷ at) k f (behind_line _ _ e) t
  cut_of (LoadThen site to element root index rest) =
      λ cells ends first at k f e t. cut_of rest cells ends first (Behind ∷ at) k f (behind_line _ _ e) t
  cut_of (StoreThen site element root index from rest) =
      λ cells ends first at k f e t. cut_of rest cells ends first (Behind ∷ at) k f (behind_line _ _ e) t
  cut_of (ClearThen array rest) =
      λ cells ends first at k f e t. cut_of rest cells ends first (Behind ∷ at) k f (behind_line _ _ e) t
  cut_of (IfThen site test chosen other rest) =
      if_cut site test chosen other rest (cut_of chosen) (cut_of other) (cut_of rest)
  cut_of (LoopLine site tf test answer body rest) =
      loop_cut site tf test answer body rest (cut_of test) (cut_of body) (cut_of rest)
  cut_of (BarrierThen site rest) = λ cells ends first at k f e t.
      let more = behind_line (is_site kernel site) (lines_fit kernel rest) e in (
        record { lines = f; answer = untyped },
        cut_of rest cells ends (until_cut rest) (Behind ∷ at) k (until_fits rest more) more t,
      )

  pub body_fits : is_kernel kernel ≡ true → lines_fit kernel kernel.body ≡ true
  body_fits e =
      let f1 = and_parts (roots_are_own 0 kernel.params && lines_fit kernel kernel.body &&
      are_few (length kernel.params) && are_few (length kernel.cells) && are_few (length kernel.arrays) &&
      are_few (length kernel.tables)) (are_few (length kernel.sites)) e in
      let f2 = and_parts (roots_are_own 0 kernel.params && lines_fit kernel kernel.body &&
      are_few (length kernel.params) && are_few (length kernel.cells) && are_few (length kernel.arrays))
      (are_few (length kernel.tables)) f1.0 in
      let f3 = and_parts (roots_are_own 0 kernel.params && lines_fit kernel kernel.body &&
      are_few (length kernel.params) && are_few (length kernel.cells)) (are_few (length kernel.arrays)) f2.0 in
      let f4 = and_parts (roots_are_own 0 kernel.params && lines_fit kernel kernel.body &&
      are_few (length kernel.params)) (are_few (length kernel.cells)) f3.0 in
      let f5 = and_parts (roots_are_own 0 kernel.params && lines_fit kernel kernel.body)
      (are_few (length kernel.params)) f4.0 in
      (and_parts (roots_are_own 0 kernel.params) (lines_fit kernel kernel.body) f5.0).1

  pub among_fits : (region : RegionOf) → is_kernel kernel ≡ true → IsAmong region (split_of kernel) →
      RegionFits kernel region
  among_fits region e m =
      let body = body_fits e in
      each_among (RegionFits kernel) region (split_of kernel) (cut_of kernel.body (length kernel.cells) None
      (until_cut kernel.body) [] NoTask (until_fits kernel.body body) body untyped) m
