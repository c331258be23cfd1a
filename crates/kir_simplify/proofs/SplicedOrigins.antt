-- Where lines stand in the given text for which lines of a spliced text stand, and that no two places stand for one.
use Rattle.std.proofs.Common.{◌≡◌, ℕ, suc, List, [], ◌∷◌, refl, sym, ap, ◌∙◌, subst, true, false, if◌then◌else◌}
use Rattle.std.proofs.Common.{Bool as Test}
use Rattle.cl_model.specs.Values.{is_zero}
use Rattle.kir.specs.declared.line.Atom.{Atom}
use Rattle.kir.specs.Tree.{Lines, NoLine, SetThen, LoadThen, StoreThen, ClearThen, IfThen, LoopThen, BarrierThen}
use Rattle.kir.specs.Tree.{joined_to, Kernel}
use Rattle.kir.specs.Places.{Leg, Behind, IntoChosen, IntoOther, IntoTest, ToAnswer, IntoBody, Place, lines_at, behind}
use Rattle.kir.specs.Places.{chosen_of, other_of, test_of, body_of, place_behind, loops_around}
use Rattle.kir.specs.Cuts.{is_barrier, is_choice, is_round, is_line, ends_part, is_behind_round}
use Rattle.kir_simplify.specs.Simple.{is_decided}
use Rattle.kir_simplify.specs.Passes.{constant_value, spliced}
use Rattle.kir_simplify.proofs.SplicedPlaces.{Bit, bit, skip, IsKept, kept_skip, into_skip}
use Rattle.kir_simplify.proofs.SplicedItems.{onto}
use Rattle.kir_simplify.proofs.SplicedItems.{placed, front}
use Rattle.kir_simplify.proofs.SplicedText.{along, skip_kept, joined_all, other_choice, chosen_choice, into_all}
use Rattle.kir_simplify.proofs.SplicedText.{behind_all}
use Rattle.kir_simplify.proofs.SplicedText.{chosen_all, other_all, test_all, body_all, barrier_all, line_all}
use Rattle.kir_simplify.proofs.SplicedText.{choice_all}
use Rattle.kir_simplify.proofs.SplicedText.{round_all}

module _ (kernel : Kernel) where
  pub placed_kept : (p : Place) → IsKept (placed kernel p).lines (placed kernel p).rest
  placed_kept [] = skip_kept [] kernel.body []
  placed_kept (leg ∷ p) = by_leg leg
    where
      by_leg : (leg : Leg) → IsKept (onto kernel leg (placed kernel p)).lines (onto kernel leg (placed kernel p)).rest
      by_leg Behind = skip_kept (Behind ∷ (placed kernel p).at) (behind (placed kernel p).lines) (placed kernel p).rest
      by_leg IntoChosen = skip_kept (IntoChosen ∷ (placed kernel p).at) (chosen_of (placed kernel p).lines) []
      by_leg IntoOther = skip_kept (IntoOther ∷ (placed kernel p).at) (other_of (placed kernel p).lines) []
      by_leg IntoTest = skip_kept (IntoTest ∷ (placed kernel p).at) (test_of (placed kernel p).lines) []
      by_leg ToAnswer = skip_kept (ToAnswer ∷ (placed kernel p).at) NoLine []
      by_leg IntoBody = skip_kept (IntoBody ∷ (placed kernel p).at) (body_of (placed kernel p).lines) []

  -- ---- the lines are the text's

  abbrev AreReal : List Bit → Type 0
  AreReal [] = Unit {0}
  AreReal (b ∷ bs) = (b.lines ≡ lines_at kernel.body b.at) × AreReal bs

  abbrev IsReal : Place → Lines → List Bit → Type 0
  IsReal at lines bs = (lines ≡ lines_at kernel.body at) × AreReal bs

  real_along : (at : Place) (lines : Lines) (bs : List Bit) → IsReal at lines bs →
      IsReal (skip at lines bs).at (skip at lines bs).lines (skip at lines bs).rest
  real_along = along IsReal (λ at b bs h. h.1)
      (λ at site test chosen other rest bs d z h. (ap other_of h.0, (ap behind h.0, h.1)))
      (λ at site test chosen other rest bs d z h. (ap chosen_of h.0, (ap behind h.0, h.1)))

  pub placed_real : (p : Place) → IsReal (placed kernel p).at (placed kernel p).lines (placed kernel p).rest
  placed_real [] = real_along [] kernel.body [] (refl, tt)
  placed_real (leg ∷ p) = by_leg leg (placed_real p)
    where
      by_leg : (leg : Leg) → IsReal (placed kernel p).at (placed kernel p).lines (placed kernel p).rest →
          IsReal (onto kernel leg (placed kernel p)).at (onto kernel leg (placed kernel p)).lines
          (onto kernel leg (placed kernel p)).rest
      by_leg Behind h = real_along (Behind ∷ (placed kernel p).at) (behind (placed kernel p).lines)
          (placed kernel p).rest (ap behind h.0, h.1)
      by_leg IntoChosen h = real_along (IntoChosen ∷ (placed kernel p).at) (chosen_of (placed kernel p).lines) []
          (ap chosen_of h.0, tt)
      by_leg IntoOther h = real_along (IntoOther ∷ (placed kernel p).at) (other_of (placed kernel p).lines) []
          (ap other_of h.0, tt)
      by_leg IntoTest h = real_along (IntoTest ∷ (placed kernel p).at) (test_of (placed kernel p).lines) []
          (ap test_of h.0, tt)
      by_leg ToAnswer h = real_along (ToAnswer ∷ (placed kernel p).at) NoLine [] (refl, tt)
      by_leg IntoBody h = real_along (IntoBody ∷ (placed kernel p).at) (body_of (placed kernel p).lines) []
          (ap body_of h.0, tt)

  -- ---- as many loops

  abbrev HaveLoops : ℕ → List Bit → Type 0
  HaveLoops n [] = Unit {0}
  HaveLoops n (b ∷ bs) = (loops_around b.at ≡ n) × HaveLoops n bs

  abbrev HasLoops : ℕ → Place → Lines → List Bit → Type 0
  HasLoops n at lines bs = (loops_around at ≡ n) × HaveLoops n bs

  loops_along : (n : ℕ) (at : Place) (lines : Lines) (bs : List Bit) → HasLoops n at lines bs →
      HasLoops n (skip at lines bs).at (skip at lines bs).lines (skip at lines bs).rest
  loops_along n = along (HasLoops n) (λ at b bs h. h.1)
      (λ at site test chosen other rest bs d z h. (h.0, (h.0, h.1)))
      (λ at site test chosen other rest bs d z h. (h.0, (h.0, h.1)))

  has_loops : (p : Place) →
      HasLoops (loops_around p) (placed kernel p).at (placed kernel p).lines (placed kernel p).rest
  has_loops [] = loops_along 0 [] kernel.body [] (refl, tt)
  has_loops (leg ∷ p) = by_leg leg (has_loops p)
    where
      by_leg : (leg : Leg) →
          HasLoops (loops_around p) (placed kernel p).at (placed kernel p).lines (placed kernel p).rest →
          HasLoops (loops_around (leg ∷ p)) (onto kernel leg (placed kernel p)).at
          (onto kernel leg (placed kernel p)).lines (onto kernel leg (placed kernel p)).rest
      by_leg Behind h = loops_along (loops_around p) (Behind ∷ (placed kernel p).at) (behind (placed kernel p).lines)
          (placed kernel p).rest h
      by_leg IntoChosen h = loops_along (loops_around p) (IntoChosen ∷ (placed kernel p).at)
          (chosen_of (placed kernel p).lines) [] (h.0, tt)
      by_leg IntoOther h = loops_along (loops_around p) (IntoOther ∷ (placed kernel p).at)
          (other_of (placed kernel p).lines) [] (h.0, tt)
      by_leg IntoTest h = loops_along (suc (loops_around p)) (IntoTest ∷ (placed kernel p).at)
          (test_of (placed kernel p).lines) [] (ap suc h.0, tt)
      by_leg ToAnswer h = loops_along (suc (loops_around p)) (ToAnswer ∷ (placed kernel p).at) NoLine []
          (ap suc h.0, tt)
      by_leg IntoBody h = loops_along (suc (loops_around p)) (IntoBody ∷ (placed kernel p).at)
          (body_of (placed kernel p).lines) [] (ap suc h.0, tt)

  pub placed_loops : (p : Place) → loops_around (placed kernel p).at ≡ loops_around p
  placed_loops p = (has_loops p).0

  -- ---- the lines at a place are those of its spot

  all_along : (whole : Lines) (at : Place) (lines : Lines) (bs : List Bit) → whole ≡ joined_all lines bs →
      whole ≡ joined_all (skip at lines bs).lines (skip at lines bs).rest
  all_along whole = along (λ at lines bs. whole ≡ joined_all lines bs) (λ at b bs h. h)
      (λ at site test chosen other rest bs d z h. h ∙
      into_all (IfThen site test chosen other rest) other rest (Behind ∷ at) bs
      (other_choice site test chosen other rest d z))
      (λ at site test chosen other rest bs d z h. h ∙
      into_all (IfThen site test chosen other rest) chosen rest (Behind ∷ at) bs
      (chosen_choice site test chosen other rest d z))

  pub lines_spliced : (p : Place) →
      lines_at (spliced kernel.body) p ≡ joined_all (placed kernel p).lines (placed kernel p).rest
  lines_spliced [] = all_along (spliced kernel.body) [] kernel.body [] refl
  lines_spliced (leg ∷ p) = by_leg leg (lines_spliced p) (placed_kept p)
    where
      by_leg : (leg : Leg) →
          lines_at (spliced kernel.body) p ≡ joined_all (placed kernel p).lines (placed kernel p).rest →
          IsKept (placed kernel p).lines (placed kernel p).rest → lines_at (spliced kernel.body) (leg ∷ p) ≡
          joined_all (onto kernel leg (placed kernel p)).lines (onto kernel leg (placed kernel p)).rest
      by_leg Behind h k = all_along (lines_at (spliced kernel.body) (Behind ∷ p)) (Behind ∷ (placed kernel p).at)
          (behind (placed kernel p).lines) (placed kernel p).rest (ap behind h ∙
          behind_all (placed kernel p).lines (placed kernel p).rest k)
      by_leg IntoChosen h k =
          all_along (lines_at (spliced kernel.body) (IntoChosen ∷ p)) (IntoChosen ∷ (placed kernel p).at)
          (chosen_of (placed kernel p).lines) [] (ap chosen_of h ∙ chosen_all (placed kernel p).lines
          (placed kernel p).rest k)
      by_leg IntoOther h k =
          all_along (lines_at (spliced kernel.body) (IntoOther ∷ p)) (IntoOther ∷ (placed kernel p).at)
          (other_of (placed kernel p).lines) [] (ap other_of h ∙ other_all (placed kernel p).lines
          (placed kernel p).rest k)
      by_leg IntoTest h k = all_along (lines_at (spliced kernel.body) (IntoTest ∷ p)) (IntoTest ∷ (placed kernel p).at)
          (test_of (placed kernel p).lines) [] (ap test_of h ∙ test_all (placed kernel p).lines (placed kernel p).rest
          k)
      by_leg ToAnswer h k = all_along (lines_at (spliced kernel.body) (ToAnswer ∷ p)) (ToAnswer ∷ (placed kernel p).at)
          NoLine [] refl
      by_leg IntoBody h k = all_along (lines_at (spliced kernel.body) (IntoBody ∷ p)) (IntoBody ∷ (placed kernel p).at)
          (body_of (placed kernel p).lines) [] (ap body_of h ∙ body_all (placed kernel p).lines (placed kernel p).rest
          k)

  -- so a test of the first line at a place is one of the line for which it stands
  there_same : (test : Lines → Test) → ((lines : Lines) (bs : List Bit) → IsKept lines bs →
      test (joined_all lines bs) ≡ test lines) → (p : Place) →
      test (lines_at (spliced kernel.body) p) ≡ test (lines_at kernel.body (placed kernel p).at)
  there_same test same p =
      ap test (lines_spliced p) ∙ (same (placed kernel p).lines (placed kernel p).rest (placed_kept p) ∙
      ap test (placed_real p).0)

  pub barrier_there : (p : Place) →
      is_barrier (lines_at (spliced kernel.body) p) ≡ is_barrier (lines_at kernel.body (placed kernel p).at)
  barrier_there = there_same is_barrier barrier_all

  pub choice_there : (p : Place) →
      is_choice (lines_at (spliced kernel.body) p) ≡ is_choice (lines_at kernel.body (placed kernel p).at)
  choice_there = there_same is_choice choice_all

  pub line_there : (p : Place) →
      is_line (lines_at (spliced kernel.body) p) ≡ is_line (lines_at kernel.body (placed kernel p).at)
  line_there = there_same is_line line_all

  pub ends_there : (p : Place) → ends_part (spliced kernel.body) p ≡ ends_part kernel.body (front kernel p)
  ends_there [] = refl
  ends_there (Behind ∷ p) = choice_there p
  ends_there (IntoChosen ∷ p) = refl
  ends_there (IntoOther ∷ p) = refl
  ends_there (IntoTest ∷ p) = there_same is_round round_all p
  ends_there (ToAnswer ∷ p) = there_same is_round round_all p
  ends_there (IntoBody ∷ p) = there_same is_round round_all p

  pub behind_there : (p : Place) →
      is_behind_round (spliced kernel.body) p ≡ is_behind_round kernel.body (front kernel p)
  behind_there [] = refl
  behind_there (Behind ∷ p) = there_same is_round round_all p
  behind_there (IntoChosen ∷ p) = refl
  behind_there (IntoOther ∷ p) = refl
  behind_there (IntoTest ∷ p) = refl
  behind_there (ToAnswer ∷ p) = refl
  behind_there (IntoBody ∷ p) = refl

  -- ---- back from there

  abbrev behind_back : Lines → Place → Place
  behind_back (IfThen site test chosen other rest) q =
      if is_decided test chosen other
      then place_behind (if is_zero (constant_value test) then spliced other else spliced chosen) q
      else Behind ∷ q
  behind_back _ q = Behind ∷ q

  abbrev chosen_back : Lines → Place → Place
  chosen_back (IfThen site test chosen other rest) q =
      if is_decided test chosen other then (if is_zero (constant_value test) then IntoChosen ∷ q else q)
      else IntoChosen ∷ q
  chosen_back _ q = IntoChosen ∷ q

  abbrev other_back : Lines → Place → Place
  other_back (IfThen site test chosen other rest) q =
      if is_decided test chosen other then (if is_zero (constant_value test) then q else IntoOther ∷ q)
      else IntoOther ∷ q
  other_back _ q = IntoOther ∷ q

  -- the place in the spliced text of a place of the given one
  abbrev pub back : Place → Place
  back [] = []
  back (Behind ∷ at) = behind_back (lines_at kernel.body at) (back at)
  back (IntoChosen ∷ at) = chosen_back (lines_at kernel.body at) (back at)
  back (IntoOther ∷ at) = other_back (lines_at kernel.body at) (back at)
  back (IntoTest ∷ at) = IntoTest ∷ back at
  back (ToAnswer ∷ at) = ToAnswer ∷ back at
  back (IntoBody ∷ at) = IntoBody ∷ back at

  -- behind the lines of one piece begins the next
  abbrev AreLinked : Place → Lines → List Bit → Type 0
  AreLinked q lines [] = Unit {0}
  AreLinked q lines (b ∷ bs) = (place_behind (spliced lines) q ≡ back b.at) × AreLinked (back b.at) b.lines bs

  record LeadsBack (q at : Place) (lines : Lines) (bs : List Bit) : Type 0 where
    real : IsReal at lines bs
    leads : back at ≡ q
    links : AreLinked q lines bs

  join_behind : (lines tail : Lines) (q : Place) →
      place_behind (joined_to lines tail) q ≡ place_behind tail (place_behind lines q)
  join_behind NoLine tail q = refl
  join_behind (SetThen to work rest) tail q = join_behind rest tail (Behind ∷ q)
  join_behind (LoadThen site to element root index rest) tail q = join_behind rest tail (Behind ∷ q)
  join_behind (StoreThen site element root index from rest) tail q = join_behind rest tail (Behind ∷ q)
  join_behind (ClearThen array rest) tail q = join_behind rest tail (Behind ∷ q)
  join_behind (IfThen site test chosen other rest) tail q = join_behind rest tail (Behind ∷ q)
  join_behind (LoopThen site first test answer body rest) tail q = join_behind rest tail (Behind ∷ q)
  join_behind (BarrierThen site rest) tail q = join_behind rest tail (Behind ∷ q)

  link_rest : (whole branch rest : Lines) (q r : Place) (bs : List Bit) →
      spliced whole ≡ joined_to (spliced branch) (spliced rest) → place_behind (spliced branch) q ≡ r →
      AreLinked q whole bs → AreLinked r rest bs
  link_rest whole branch rest q r [] e h l = tt
  link_rest whole branch rest q r (b ∷ bs) e h l = (
    ap (place_behind (spliced rest)) (sym h) ∙ (sym (join_behind (spliced branch) (spliced rest) q) ∙
        (sym (ap (λ ls. place_behind ls q) e) ∙ l.0)),
    l.1,
  )

  back_other : (q at : Place) (site : ℕ) (test : Atom) (chosen other rest : Lines) (bs : List Bit) →
      is_decided test chosen other ≡ true → is_zero (constant_value test) ≡ true →
      LeadsBack q at (IfThen site test chosen other rest) bs →
      LeadsBack q (IntoOther ∷ at) other (bit (Behind ∷ at) rest ∷ bs)
  back_other q at site test chosen other rest bs d z h = record {
    real = (ap other_of h.real.0, (ap behind h.real.0, h.real.1));
    leads = ap (λ ls. other_back ls (back at)) (sym h.real.0)
        ∙ (ap (λ (x : Test). if x then (if is_zero (constant_value test) then back at else IntoOther ∷ back at)
        else IntoOther ∷ back at) d
        ∙ (ap (λ (x : Test). if x then back at else IntoOther ∷ back at) z ∙ h.leads));
    links = (
      sym there,
      link_rest (IfThen site test chosen other rest) other rest q (back (Behind ∷ at)) bs
          (other_choice site test chosen other rest d z) (sym there) h.links,
    );
  }
    where
      there : back (Behind ∷ at) ≡ place_behind (spliced other) q
      there = ap (λ ls. behind_back ls (back at)) (sym h.real.0)
          ∙ (ap (λ (x : Test). if x then place_behind (if is_zero (constant_value test) then spliced other
          else spliced chosen) (back at) else Behind ∷ back at) d
          ∙ (ap (λ (x : Test). place_behind (if x then spliced other else spliced chosen) (back at)) z ∙
          ap (place_behind (spliced other)) h.leads))

  back_chosen : (q at : Place) (site : ℕ) (test : Atom) (chosen other rest : Lines) (bs : List Bit) →
      is_decided test chosen other ≡ true → is_zero (constant_value test) ≡ false →
      LeadsBack q at (IfThen site test chosen other rest) bs →
      LeadsBack q (IntoChosen ∷ at) chosen (bit (Behind ∷ at) rest ∷ bs)
  back_chosen q at site test chosen other rest bs d z h = record {
    real = (ap chosen_of h.real.0, (ap behind h.real.0, h.real.1));
    leads = ap (λ ls. chosen_back ls (back at)) (sym h.real.0)
        ∙ (ap (λ (x : Test). if x then (if is_zero (constant_value test) then IntoChosen ∷ back at else back at)
        else IntoChosen ∷ back at) d
        ∙ (ap (λ (x : Test). if x then IntoChosen ∷ back at else back at) z ∙ h.leads));
    links = (
      sym there,
      link_rest (IfThen site test chosen other rest) chosen rest q (back (Behind ∷ at)) bs
          (chosen_choice site test chosen other rest d z) (sym there) h.links,
    );
  }
    where
      there : back (Behind ∷ at) ≡ place_behind (spliced chosen) q
      there = ap (λ ls. behind_back ls (back at)) (sym h.real.0)
          ∙ (ap (λ (x : Test). if x then place_behind (if is_zero (constant_value test) then spliced other
          else spliced chosen) (back at) else Behind ∷ back at) d
          ∙ (ap (λ (x : Test). place_behind (if x then spliced other else spliced chosen) (back at)) z ∙
          ap (place_behind (spliced chosen)) h.leads))

  back_pop : (q at : Place) (b : Bit) (bs : List Bit) → LeadsBack q at NoLine (b ∷ bs) → LeadsBack q b.at b.lines bs
  back_pop q at b bs h = record {
    real = h.real.1;
    leads = sym h.links.0;
    links = subst (λ x. AreLinked x b.lines bs) (sym h.links.0) h.links.1;
  }

  back_along : (q at : Place) (lines : Lines) (bs : List Bit) → LeadsBack q at lines bs →
      LeadsBack q (skip at lines bs).at (skip at lines bs).lines (skip at lines bs).rest
  back_along q = along (LeadsBack q) (back_pop q) (back_other q) (back_chosen q)

  -- legs from a line that is kept
  kept_behind : (lines : Lines) (bs : List Bit) (q : Place) → IsKept lines bs → behind_back lines q ≡ Behind ∷ q
  kept_behind (IfThen site test chosen other rest) bs q k =
      ap (λ (x : Test). if x then place_behind (if is_zero (constant_value test) then spliced other
      else spliced chosen) q else Behind ∷ q) k
  kept_behind NoLine bs q k = refl
  kept_behind (SetThen to work rest) bs q k = refl
  kept_behind (LoadThen site to element root index rest) bs q k = refl
  kept_behind (StoreThen site element root index from rest) bs q k = refl
  kept_behind (ClearThen array rest) bs q k = refl
  kept_behind (LoopThen site first test answer body rest) bs q k = refl
  kept_behind (BarrierThen site rest) bs q k = refl

  kept_chosen : (lines : Lines) (bs : List Bit) (q : Place) → IsKept lines bs → chosen_back lines q ≡ IntoChosen ∷ q
  kept_chosen (IfThen site test chosen other rest) bs q k =
      ap (λ (x : Test). if x then (if is_zero (constant_value test) then IntoChosen ∷ q else q) else IntoChosen ∷ q) k
  kept_chosen NoLine bs q k = refl
  kept_chosen (SetThen to work rest) bs q k = refl
  kept_chosen (LoadThen site to element root index rest) bs q k = refl
  kept_chosen (StoreThen site element root index from rest) bs q k = refl
  kept_chosen (ClearThen array rest) bs q k = refl
  kept_chosen (LoopThen site first test answer body rest) bs q k = refl
  kept_chosen (BarrierThen site rest) bs q k = refl

  kept_other : (lines : Lines) (bs : List Bit) (q : Place) → IsKept lines bs → other_back lines q ≡ IntoOther ∷ q
  kept_other (IfThen site test chosen other rest) bs q k =
      ap (λ (x : Test). if x then (if is_zero (constant_value test) then q else IntoOther ∷ q) else IntoOther ∷ q) k
  kept_other NoLine bs q k = refl
  kept_other (SetThen to work rest) bs q k = refl
  kept_other (LoadThen site to element root index rest) bs q k = refl
  kept_other (StoreThen site element root index from rest) bs q k = refl
  kept_other (ClearThen array rest) bs q k = refl
  kept_other (LoopThen site first test answer body rest) bs q k = refl
  kept_other (BarrierThen site rest) bs q k = refl

  link_behind : (lines : Lines) (bs : List Bit) (q : Place) → IsKept lines bs → AreLinked q lines bs →
      AreLinked (Behind ∷ q) (behind lines) bs
  link_behind lines [] q k l = tt
  link_behind NoLine (b ∷ bs) q k l = absurd k
  link_behind (SetThen to work rest) (b ∷ bs) q k l = l
  link_behind (LoadThen site to element root index rest) (b ∷ bs) q k l = l
  link_behind (StoreThen site element root index from rest) (b ∷ bs) q k l = l
  link_behind (ClearThen array rest) (b ∷ bs) q k l = l
  link_behind (IfThen site test chosen other rest) (b ∷ bs) q k l = (
    sym (ap (λ (d : Test). place_behind (if d
        then joined_to (if is_zero (constant_value test) then spliced other else spliced chosen) (spliced rest)
        else IfThen site test (spliced chosen) (spliced other) (spliced rest)) q) k) ∙ l.0,
    l.1,
  )
  link_behind (LoopThen site first test answer body rest) (b ∷ bs) q k l = l
  link_behind (BarrierThen site rest) (b ∷ bs) q k l = l

  leads_back : (p : Place) → LeadsBack p (placed kernel p).at (placed kernel p).lines (placed kernel p).rest
  leads_back [] = back_along [] [] kernel.body [] (record { real = (refl, tt); leads = refl; links = tt })
  leads_back (leg ∷ p) = by_leg leg (leads_back p) (placed_kept p)
    where
      by_leg : (leg : Leg) → LeadsBack p (placed kernel p).at (placed kernel p).lines (placed kernel p).rest →
          IsKept (placed kernel p).lines (placed kernel p).rest → LeadsBack (leg ∷ p)
          (onto kernel leg (placed kernel p)).at (onto kernel leg (placed kernel p)).lines
          (onto kernel leg (placed kernel p)).rest
      by_leg Behind h k = back_along (Behind ∷ p) (Behind ∷ (placed kernel p).at) (behind (placed kernel p).lines)
          (placed kernel p).rest (record {
            real = (ap behind h.real.0, h.real.1);
            leads = ap (λ ls. behind_back ls (back (placed kernel p).at)) (sym h.real.0) ∙
                (kept_behind (placed kernel p).lines (placed kernel p).rest (back (placed kernel p).at) k ∙
                ap (λ x. Behind ∷ x) h.leads);
            links = link_behind (placed kernel p).lines (placed kernel p).rest p k h.links;
          })
      by_leg IntoChosen h k = back_along (IntoChosen ∷ p) (IntoChosen ∷ (placed kernel p).at)
          (chosen_of (placed kernel p).lines) [] (record {
            real = (ap chosen_of h.real.0, tt);
            leads = ap (λ ls. chosen_back ls (back (placed kernel p).at)) (sym h.real.0) ∙
                (kept_chosen (placed kernel p).lines (placed kernel p).rest (back (placed kernel p).at) k ∙
                ap (λ x. IntoChosen ∷ x) h.leads);
            links = tt;
          })
      by_leg IntoOther h k = back_along (IntoOther ∷ p) (IntoOther ∷ (placed kernel p).at)
          (other_of (placed kernel p).lines) [] (record {
            real = (ap other_of h.real.0, tt);
            leads = ap (λ ls. other_back ls (back (placed kernel p).at)) (sym h.real.0) ∙
                (kept_other (placed kernel p).lines (placed kernel p).rest (back (placed kernel p).at) k ∙
                ap (λ x. IntoOther ∷ x) h.leads);
            links = tt;
          })
      by_leg IntoTest h k = back_along (IntoTest ∷ p) (IntoTest ∷ (placed kernel p).at)
          (test_of (placed kernel p).lines) []
          (record { real = (ap test_of h.real.0, tt); leads = ap (λ x. IntoTest ∷ x) h.leads; links = tt })
      by_leg ToAnswer h k = back_along (ToAnswer ∷ p) (ToAnswer ∷ (placed kernel p).at) NoLine []
          (record { real = (refl, tt); leads = ap (λ x. ToAnswer ∷ x) h.leads; links = tt })
      by_leg IntoBody h k = back_along (IntoBody ∷ p) (IntoBody ∷ (placed kernel p).at)
          (body_of (placed kernel p).lines) []
          (record { real = (ap body_of h.real.0, tt); leads = ap (λ x. IntoBody ∷ x) h.leads; links = tt })

  pub back_placed : (p : Place) → back (placed kernel p).at ≡ p
  back_placed p = (leads_back p).leads

  -- ---- behind the lines of a spliced branch

  pub passed : (lines : Lines) (p at : Place) (b : Bit) (bs : List Bit) → placed kernel p ≡ skip at lines (b ∷ bs) →
      placed kernel (place_behind (spliced lines) p) ≡ skip b.at b.lines bs
  passed NoLine p at b bs h = h
  passed (SetThen to work rest) p at b bs h =
      passed rest (Behind ∷ p) (Behind ∷ at) b bs (ap (onto kernel Behind) h)
  passed (LoadThen site to element root index rest) p at b bs h =
      passed rest (Behind ∷ p) (Behind ∷ at) b bs (ap (onto kernel Behind) h)
  passed (StoreThen site element root index from rest) p at b bs h =
      passed rest (Behind ∷ p) (Behind ∷ at) b bs (ap (onto kernel Behind) h)
  passed (ClearThen array rest) p at b bs h =
      passed rest (Behind ∷ p) (Behind ∷ at) b bs (ap (onto kernel Behind) h)
  passed (LoopThen site first test answer body rest) p at b bs h =
      passed rest (Behind ∷ p) (Behind ∷ at) b bs (ap (onto kernel Behind) h)
  passed (BarrierThen site rest) p at b bs h =
      passed rest (Behind ∷ p) (Behind ∷ at) b bs (ap (onto kernel Behind) h)
  passed (IfThen site test chosen other rest) p at b bs h =
      by_choice (λ q e. passed other q (IntoOther ∷ at) (bit (Behind ∷ at) rest) (b ∷ bs) e)
      (λ q e. passed chosen q (IntoChosen ∷ at) (bit (Behind ∷ at) rest) (b ∷ bs) e)
      (λ q e. passed rest q (Behind ∷ at) b bs e) (is_decided test chosen other) refl
      (is_zero (constant_value test)) refl
    where
      by_choice : ((q : Place) → placed kernel q ≡ skip (IntoOther ∷ at) other (bit (Behind ∷ at) rest ∷ (b ∷ bs)) →
          placed kernel (place_behind (spliced other) q) ≡ skip (Behind ∷ at) rest (b ∷ bs)) → ((q : Place) →
          placed kernel q ≡ skip (IntoChosen ∷ at) chosen (bit (Behind ∷ at) rest ∷ (b ∷ bs)) →
          placed kernel (place_behind (spliced chosen) q) ≡ skip (Behind ∷ at) rest (b ∷ bs)) → ((q : Place) →
          placed kernel q ≡ skip (Behind ∷ at) rest (b ∷ bs) →
          placed kernel (place_behind (spliced rest) q) ≡ skip b.at b.lines bs) → (d : Test) →
          is_decided test chosen other ≡ d → (z : Test) → is_zero (constant_value test) ≡ z
          → placed kernel (place_behind (if d then joined_to (if z then spliced other else spliced chosen)
          (spliced rest) else IfThen site test (spliced chosen) (spliced other) (spliced rest)) p) ≡
          skip b.at b.lines bs
      by_choice f g r true d true z =
          ap (placed kernel) (join_behind (spliced other) (spliced rest) p) ∙
          r (place_behind (spliced other) p) (f p (h ∙ (into_skip at site test chosen other rest (b ∷ bs) d ∙
          ap (λ (x : Test). if x then skip (IntoOther ∷ at) other (bit (Behind ∷ at) rest ∷ (b ∷ bs))
          else skip (IntoChosen ∷ at) chosen (bit (Behind ∷ at) rest ∷ (b ∷ bs))) z)))
      by_choice f g r true d false z =
          ap (placed kernel) (join_behind (spliced chosen) (spliced rest) p) ∙
          r (place_behind (spliced chosen) p) (g p (h ∙ (into_skip at site test chosen other rest (b ∷ bs) d ∙
          ap (λ (x : Test). if x then skip (IntoOther ∷ at) other (bit (Behind ∷ at) rest ∷ (b ∷ bs))
          else skip (IntoChosen ∷ at) chosen (bit (Behind ∷ at) rest ∷ (b ∷ bs))) z)))
      by_choice f g r false d z e =
          r (Behind ∷ p) (ap (onto kernel Behind) (h ∙
          kept_skip at (IfThen site test chosen other rest) (b ∷ bs) d))
