-- What is named in a spliced text, and what is live at its places.
use Rattle.std.proofs.Common.{◌≡◌, ℕ, List, [], ◌∷◌, ◌++◌, refl, sym, ap, ap₂, ◌∙◌, subst, true, false}
use Rattle.std.proofs.Common.{if◌then◌else◌}
use Rattle.std.proofs.Common.{Bool as Test}
use Rattle.std.specs.Prelude.{nat_eq, not, ◌&&◌, ◌||◌}
use Rattle.std.proofs.lemmas.Bool.{true≢false}
use Rattle.cl_model.specs.Values.{is_zero}
use Rattle.kir.specs.declared.line.Atom.{Atom}
use Rattle.kir.specs.Tree.{Lines, NoLine, SetThen, LoadThen, StoreThen, ClearThen, IfThen, LoopThen, BarrierThen}
use Rattle.kir.specs.Tree.{joined_to, Kernel}
use Rattle.kir.specs.Places.{Leg, Behind, IntoChosen, IntoOther, IntoTest, ToAnswer, IntoBody, Place, Tasks, NoTask}
use Rattle.kir.specs.Places.{LinesAt, AnswerAt, behind, chosen_of, other_of, test_of, body_of, answer_of, past}
use Rattle.kir.specs.Places.{in_chosen}
use Rattle.kir.specs.Places.{in_other, at_answer, in_test, in_body, tasks_at, first_of, others_of}
use Rattle.kir.specs.Live.{reads, work_reads, live_in, live_now, live_behind, live_at}
use Rattle.kir.specs.Cuts.{holds_barrier}
use Rattle.kir.specs.Keeps.{Piece, Names, Cut, named_by, named_by_work, cut_before, pieces_of, names_across, is_keep}
use Rattle.kir.proofs.Across.{or_no}
use Rattle.kir_simplify.specs.Simple.{is_decided}
use Rattle.kir_simplify.specs.Passes.{constant_value, spliced, spliced_of}
use Rattle.kir_simplify.proofs.FoldedLess.{or_less, and_less, IsFewer, no_piece, both_have, none_of, work_names}
use Rattle.kir_simplify.proofs.FoldedLess.{fewer_self, fewer_then, cut_fewer, across_less, OnlyNames, names_then}
use Rattle.kir_simplify.proofs.FoldedLess.{atom_names}
use Rattle.kir_simplify.proofs.SweptItems.{or_first, or_second}
use Rattle.kir_simplify.proofs.SplicedPlaces.{Bit, Spot, spot, skip, IsKept}
use Rattle.kir_simplify.proofs.SplicedItems.{onto, placed, front}
use Rattle.kir_simplify.proofs.SplicedText.{along, joined_all, none_held, same_barriers, behind_all, chosen_all}
use Rattle.kir_simplify.proofs.SplicedText.{other_all}
use Rattle.kir_simplify.proofs.SplicedText.{test_all, body_all, answer_all, into_all, other_choice, chosen_choice}
use Rattle.kir_simplify.proofs.SplicedOrigins.{placed_kept}

-- ---- names

app : (x y z : List Piece) → (x ++ y) ++ z ≡ x ++ (y ++ z)
app [] y z = refl
app (p ∷ x) y z = ap (λ w. p ∷ w) (app x y z)

-- cuts around parts, before what is joined
if_then : (h : Test) (x y z w qs : List Piece) →
    cut_before h (x ++ cut_before h (y ++ cut_before h (z ++ cut_before h (w ++ qs)))) ≡
    cut_before h (x ++ cut_before h (y ++ cut_before h (z ++ cut_before h w))) ++ qs
if_then true x y z w qs =
    ap (λ a. Cut ∷ a) (ap (λ a. x ++ Cut ∷ a) (ap (λ a. y ++ Cut ∷ a) (sym (app z (Cut ∷ w) qs)) ∙
    sym (app y (Cut ∷ (z ++ Cut ∷ w)) qs)) ∙ sym (app x (Cut ∷ (y ++ Cut ∷ (z ++ Cut ∷ w))) qs))
if_then false x y z w qs =
    ap (λ a. x ++ a) (ap (λ a. y ++ a) (sym (app z w qs)) ∙ sym (app y (z ++ w) qs)) ∙ sym (app x (y ++ (z ++ w)) qs)

loop_then : (h : Test) (x u y w qs : List Piece) →
    cut_before h (x ++ (u ++ cut_before h (y ++ cut_before h (w ++ qs)))) ≡
    cut_before h (x ++ (u ++ cut_before h (y ++ cut_before h w))) ++ qs
loop_then true x u y w qs =
    ap (λ a. Cut ∷ a) (ap (λ a. x ++ a) (ap (λ a. u ++ Cut ∷ a) (sym (app y (Cut ∷ w) qs)) ∙
    sym (app u (Cut ∷ (y ++ Cut ∷ w)) qs)) ∙ sym (app x (u ++ Cut ∷ (y ++ Cut ∷ w)) qs))
loop_then false x u y w qs =
    ap (λ a. x ++ a) (ap (λ a. u ++ a) (sym (app y w qs)) ∙ sym (app u (y ++ w) qs)) ∙ sym (app x (u ++ (y ++ w)) qs)

joined_pieces : (lines tail : Lines) → pieces_of (joined_to lines tail) ≡ pieces_of lines ++ pieces_of tail
joined_pieces NoLine tail = refl
joined_pieces (SetThen to work rest) tail =
    ap (λ a. named_by_work work ++ Names to ∷ a) (joined_pieces rest tail) ∙
    sym (app (named_by_work work) (Names to ∷ pieces_of rest) (pieces_of tail))
joined_pieces (LoadThen site to element root index rest) tail =
    ap (λ a. named_by index ++ Names to ∷ a) (joined_pieces rest tail) ∙
    sym (app (named_by index) (Names to ∷ pieces_of rest) (pieces_of tail))
joined_pieces (StoreThen site element root index from rest) tail =
    ap (λ a. named_by index ++ (named_by from ++ a)) (joined_pieces rest tail) ∙
    (ap (λ a. named_by index ++ a) (sym (app (named_by from) (pieces_of rest) (pieces_of tail))) ∙
    sym (app (named_by index) (named_by from ++ pieces_of rest) (pieces_of tail)))
joined_pieces (ClearThen array rest) tail = joined_pieces rest tail
joined_pieces (IfThen site test chosen other rest) tail =
    ap (λ a. cut_before (holds_barrier chosen || holds_barrier other) (named_by test ++
    cut_before (holds_barrier chosen || holds_barrier other) (pieces_of chosen ++
    cut_before (holds_barrier chosen || holds_barrier other) (pieces_of other ++
    cut_before (holds_barrier chosen || holds_barrier other) a)))) (joined_pieces rest tail)
    ∙ if_then (holds_barrier chosen || holds_barrier other) (named_by test) (pieces_of chosen) (pieces_of other)
    (pieces_of rest) (pieces_of tail)
joined_pieces (LoopThen site first test answer body rest) tail =
    ap (λ a. cut_before (holds_barrier test || holds_barrier body) (pieces_of test ++ (named_by answer ++
    cut_before (holds_barrier test || holds_barrier body) (pieces_of body ++
    cut_before (holds_barrier test || holds_barrier body) a)))) (joined_pieces rest tail)
    ∙ loop_then (holds_barrier test || holds_barrier body) (pieces_of test) (named_by answer) (pieces_of body)
    (pieces_of rest) (pieces_of tail)
joined_pieces (BarrierThen site rest) tail = ap (λ a. Cut ∷ a) (joined_pieces rest tail)

-- without a barrier there is no cut
cut_none : (h : Test) (ps : List Piece) → h ≡ false → OnlyNames ps → OnlyNames (cut_before h ps)
cut_none true ps e f = absurd (true≢false e)
cut_none false ps e f = f

neither : (x y : Test) → x ≡ false → y ≡ false → (x || y) ≡ false
neither x y e f = ap₂ (λ a b. a || b) e f

names_alone : (lines : Lines) → holds_barrier lines ≡ false → OnlyNames (pieces_of lines)
names_alone NoLine e = tt
names_alone (SetThen to work rest) e =
    names_then (named_by_work work) (Names to ∷ pieces_of rest) (work_names work) (names_alone rest e)
names_alone (LoadThen site to element root index rest) e =
    names_then (named_by index) (Names to ∷ pieces_of rest) (atom_names index) (names_alone rest e)
names_alone (StoreThen site element root index from rest) e =
    names_then (named_by index) (named_by from ++ pieces_of rest) (atom_names index)
    (names_then (named_by from) (pieces_of rest) (atom_names from) (names_alone rest e))
names_alone (ClearThen array rest) e = names_alone rest e
names_alone (IfThen site test chosen other rest) e =
    let one = or_no (holds_barrier chosen) _ e in
    let two = or_no (holds_barrier other) (holds_barrier rest) one.1 in
    let none = neither (holds_barrier chosen) (holds_barrier other) one.0 two.0 in
    cut_none _ _ none (names_then (named_by test) _ (atom_names test) (cut_none _ _ none
    (names_then (pieces_of chosen) _ (names_alone chosen one.0) (cut_none _ _ none
    (names_then (pieces_of other) _ (names_alone other two.0) (cut_none _ _ none (names_alone rest two.1)))))))
names_alone (LoopThen site first test answer body rest) e =
    let one = or_no (holds_barrier test) _ e in
    let two = or_no (holds_barrier body) (holds_barrier rest) one.1 in
    let none = neither (holds_barrier test) (holds_barrier body) one.0 two.0 in
    cut_none _ _ none (names_then (pieces_of test) _ (names_alone test one.0)
    (names_then (named_by answer) _ (atom_names answer) (cut_none _ _ none
    (names_then (pieces_of body) _ (names_alone body two.0) (cut_none _ _ none (names_alone rest two.1))))))
names_alone (BarrierThen site rest) e = absurd (true≢false e)

choice_fewer : (site : ℕ) (test : Atom) (chosen other rest : Lines) →
    IsFewer (pieces_of (spliced chosen)) (pieces_of chosen) → IsFewer (pieces_of (spliced other)) (pieces_of other) →
    IsFewer (pieces_of (spliced rest)) (pieces_of rest) → (d : Test) → is_decided test chosen other ≡ d → (z : Test)
    → IsFewer (pieces_of (if d then joined_to (if z then spliced other else spliced chosen) (spliced rest)
    else IfThen site test (spliced chosen) (spliced other) (spliced rest)))
    (pieces_of (IfThen site test chosen other rest))
choice_fewer site test chosen other rest c o r true d true =
    let none = none_held test chosen other d in
    subst (λ h. IsFewer (pieces_of (joined_to (spliced other) (spliced rest))) (cut_before h (named_by test ++
    cut_before h (pieces_of chosen ++ cut_before h (pieces_of other ++ cut_before h (pieces_of rest))))))
    (sym (neither (holds_barrier chosen) (holds_barrier other) none.0 none.1))
    (subst (λ ps. IsFewer ps (named_by test ++ (pieces_of chosen ++ (pieces_of other ++ pieces_of rest))))
    (sym (joined_pieces (spliced other) (spliced rest)))
    (fewer_then (none_of (named_by test) (atom_names test))
    (fewer_then (none_of (pieces_of chosen) (names_alone chosen none.0)) (fewer_then o r))))
choice_fewer site test chosen other rest c o r true d false =
    let none = none_held test chosen other d in
    subst (λ h. IsFewer (pieces_of (joined_to (spliced chosen) (spliced rest))) (cut_before h (named_by test ++
    cut_before h (pieces_of chosen ++ cut_before h (pieces_of other ++ cut_before h (pieces_of rest))))))
    (sym (neither (holds_barrier chosen) (holds_barrier other) none.0 none.1))
    (subst (λ ps. IsFewer ps (named_by test ++ (pieces_of chosen ++ (pieces_of other ++ pieces_of rest))))
    (sym (joined_pieces (spliced chosen) (spliced rest)))
    (fewer_then (none_of (named_by test) (atom_names test)) (fewer_then c
    (fewer_then (none_of (pieces_of other) (names_alone other none.1)) r))))
choice_fewer site test chosen other rest c o r false d z =
    let same = ap₂ (λ x y. x || y) (same_barriers chosen) (same_barriers other) in
    cut_fewer _ _ _ _ same (fewer_then (fewer_self (named_by test))
    (cut_fewer _ _ _ _ same (fewer_then c
    (cut_fewer _ _ _ _ same (fewer_then o (cut_fewer _ _ _ _ same r))))))

pieces_fewer : (lines : Lines) → IsFewer (pieces_of (spliced lines)) (pieces_of lines)
pieces_fewer NoLine = no_piece
pieces_fewer (SetThen to work rest) =
    fewer_then (fewer_self (named_by_work work)) (both_have (Names to) (pieces_fewer rest))
pieces_fewer (LoadThen site to element root index rest) =
    fewer_then (fewer_self (named_by index)) (both_have (Names to) (pieces_fewer rest))
pieces_fewer (StoreThen site element root index from rest) =
    fewer_then (fewer_self (named_by index)) (fewer_then (fewer_self (named_by from)) (pieces_fewer rest))
pieces_fewer (ClearThen array rest) = pieces_fewer rest
pieces_fewer (IfThen site test chosen other rest) =
    choice_fewer site test chosen other rest (pieces_fewer chosen) (pieces_fewer other) (pieces_fewer rest)
    (is_decided test chosen other) refl (is_zero (constant_value test))
pieces_fewer (LoopThen site first test answer body rest) =
    let same = ap₂ (λ x y. x || y) (same_barriers test) (same_barriers body) in
    cut_fewer _ _ _ _ same (fewer_then (pieces_fewer test)
    (fewer_then (fewer_self (named_by answer))
    (cut_fewer _ _ _ _ same (fewer_then (pieces_fewer body) (cut_fewer _ _ _ _ same (pieces_fewer rest))))))
pieces_fewer (BarrierThen site rest) = both_have Cut (pieces_fewer rest)

pub keeps_fewer : (kernel : Kernel) (c : ℕ) → is_keep (spliced_of kernel) c ≡ true → is_keep kernel c ≡ true
keeps_fewer kernel c e =
    and_less _ (names_across c (pieces_of kernel.body)) _ _ (λ h. h) (across_less c (pieces_fewer kernel.body)) e

-- ---- what is live

module _ (c : ℕ) where
  joined_live : (lines tail : Lines) (a : Test) →
      live_in c (joined_to lines tail) a ≡ live_in c lines (live_in c tail a)
  joined_live NoLine tail a = refl
  joined_live (SetThen to work rest) tail a =
      ap (λ x. work_reads c work || (not (nat_eq c to) && x)) (joined_live rest tail a)
  joined_live (LoadThen site to element root index rest) tail a =
      ap (λ x. reads c index || (not (nat_eq c to) && x)) (joined_live rest tail a)
  joined_live (StoreThen site element root index from rest) tail a =
      ap (λ x. (reads c index || reads c from) || x) (joined_live rest tail a)
  joined_live (ClearThen array rest) tail a = joined_live rest tail a
  joined_live (IfThen site test chosen other rest) tail a =
      ap (λ x. reads c test || (live_in c chosen x || live_in c other x)) (joined_live rest tail a)
  joined_live (LoopThen site true test answer body rest) tail a =
      ap (λ x. live_in c test (reads c answer || (x || live_in c body (live_in c test false))))
      (joined_live rest tail a)
  joined_live (LoopThen site false test answer body rest) tail a =
      ap (λ x. live_in c body (live_in c test (reads c answer || (x || live_in c body (live_in c test false)))))
      (joined_live rest tail a)
  joined_live (BarrierThen site rest) tail a = joined_live rest tail a

  abbrev Lessens : Lines → Type 0
  Lessens lines = (a' a : Test) → (a' ≡ true → a ≡ true) → live_in c (spliced lines) a' ≡ true →
      live_in c lines a ≡ true

  choice_less : (site : ℕ) (test : Atom) (chosen other rest : Lines) → Lessens chosen → Lessens other →
      Lessens rest → (a' a : Test) → (a' ≡ true → a ≡ true) → (d z : Test)
      → live_in c (if d then joined_to (if z then spliced other else spliced chosen) (spliced rest)
      else IfThen site test (spliced chosen) (spliced other) (spliced rest)) a' ≡ true →
      live_in c (IfThen site test chosen other rest) a ≡ true
  choice_less site test chosen other rest l m n a' a f true true e =
      or_second (reads c test) _ (or_second (live_in c chosen (live_in c rest a)) _
      (m (live_in c (spliced rest) a') (live_in c rest a) (n a' a f)
      (sym (joined_live (spliced other) (spliced rest) a') ∙ e)))
  choice_less site test chosen other rest l m n a' a f true false e =
      or_second (reads c test) _ (or_first (live_in c chosen (live_in c rest a)) _
      (l (live_in c (spliced rest) a') (live_in c rest a) (n a' a f)
      (sym (joined_live (spliced chosen) (spliced rest) a') ∙ e)))
  choice_less site test chosen other rest l m n a' a f false z e =
      or_less (reads c test) (live_in c chosen (live_in c rest a) || live_in c other (live_in c rest a)) _ _ (λ g. g)
      (or_less (live_in c chosen (live_in c rest a)) (live_in c other (live_in c rest a)) _ _
      (l (live_in c (spliced rest) a') (live_in c rest a) (n a' a f))
      (m (live_in c (spliced rest) a') (live_in c rest a) (n a' a f))) e

  live_less : (lines : Lines) → Lessens lines
  live_less NoLine a' a f e = f e
  live_less (SetThen to work rest) a' a f e =
      or_less (work_reads c work) (not (nat_eq c to) && live_in c rest a) _ _ (λ g. g)
      (and_less (not (nat_eq c to)) (live_in c rest a) _ _ (λ g. g) (live_less rest a' a f)) e
  live_less (LoadThen site to element root index rest) a' a f e =
      or_less (reads c index) (not (nat_eq c to) && live_in c rest a) _ _ (λ g. g)
      (and_less (not (nat_eq c to)) (live_in c rest a) _ _ (λ g. g) (live_less rest a' a f)) e
  live_less (StoreThen site element root index from rest) a' a f e =
      or_less (reads c index || reads c from) (live_in c rest a) _ _ (λ g. g) (live_less rest a' a f) e
  live_less (ClearThen array rest) a' a f e = live_less rest a' a f e
  live_less (IfThen site test chosen other rest) a' a f e =
      choice_less site test chosen other rest (live_less chosen) (live_less other) (live_less rest) a' a f
      (is_decided test chosen other) (is_zero (constant_value test)) e
  live_less (LoopThen site true test answer body rest) a' a f e =
      live_less test _ _
      (or_less (reads c answer) (live_in c rest a || live_in c body (live_in c test false)) _ _ (λ g. g)
      (or_less (live_in c rest a) (live_in c body (live_in c test false)) _ _ (live_less rest a' a f)
      (live_less body (live_in c (spliced test) false) (live_in c test false)
      (live_less test false false (λ g. g))))) e
  live_less (LoopThen site false test answer body rest) a' a f e =
      live_less body _ _ (live_less test _ _
      (or_less (reads c answer) (live_in c rest a || live_in c body (live_in c test false)) _ _ (λ g. g)
      (or_less (live_in c rest a) (live_in c body (live_in c test false)) _ _ (live_less rest a' a f)
      (live_less body (live_in c (spliced test) false) (live_in c test false)
      (live_less test false false (λ g. g)))))) e
  live_less (BarrierThen site rest) a' a f e = live_less rest a' a f e

  -- ---- at places

  -- the pieces of a spot, as tasks before others
  abbrev bit_tasks : List Bit → Tasks → Tasks
  bit_tasks [] base = base
  bit_tasks (b ∷ bs) base = LinesAt b.at b.lines (bit_tasks bs base)

  -- what is live in the one is live in the other
  abbrev IsLess : Tasks → Tasks → Type 0
  IsLess t' t = live_now c t' ≡ true → live_now c t ≡ true

  group_less : (lines : Lines) (bs : List Bit) (base' base : Tasks) → IsLess base' base →
      live_in c (joined_all lines bs) (live_now c base') ≡ true →
      live_in c lines (live_now c (bit_tasks bs base)) ≡ true
  group_less lines [] base' base f e = live_less lines (live_now c base') (live_now c base) f e
  group_less lines (b ∷ bs) base' base f e =
      live_less lines (live_in c (joined_all b.lines bs) (live_now c base')) (live_now c (bit_tasks (b ∷ bs) base))
      (group_less b.lines bs base' base f)
      (sym (joined_live (spliced lines) (joined_all b.lines bs) (live_now c base')) ∙ e)

  answer_less : (at p : Place) (test : Lines) (answer : Atom) (body : Lines) (n : ℕ) (base' base : Tasks) →
      IsLess base' base → IsLess (AnswerAt p (spliced test) answer (spliced body) n base')
      (AnswerAt at test answer body n base)
  answer_less at p test answer body n base' base f e =
      or_less (reads c answer) (live_now c base || live_in c body (live_in c test false)) _ _ (λ g. g)
      (or_less (live_now c base) (live_in c body (live_in c test false)) _ _ f
      (live_less body (live_in c (spliced test) false) (live_in c test false)
      (live_less test false false (λ g. g)))) e

  module _ (kernel : Kernel) where
    -- each piece that is still to come is what the given item has left to do at its place
    abbrev HaveTasks : List ℕ → Tasks → List Bit → Type 0
    HaveTasks begun base [] = Unit {0}
    HaveTasks begun base (b ∷ bs) =
        (tasks_at kernel.body b.at begun ≡ LinesAt b.at b.lines (bit_tasks bs base)) × HaveTasks begun base bs

    abbrev Under : List ℕ → Tasks → Place → Lines → List Bit → Type 0
    Under begun base at lines bs =
        (tasks_at kernel.body at begun ≡ LinesAt at lines (bit_tasks bs base)) × HaveTasks begun base bs

    -- tasks at a place of the spliced text, and at the place and lines with pieces behind them of the given text
    data Stood (begun : List ℕ) (p at : Place) (lines : Lines) (bs : List Bit) : Type 0 where
      in_lines : (base' base : Tasks) → tasks_at (spliced kernel.body) p begun ≡ LinesAt p (joined_all lines bs) base' →
          Under begun base at lines bs → IsLess base' base → Stood begun p at lines bs
      at_answer_of : (q' q : Place) (test : Lines) (answer : Atom) (body : Lines) (n : ℕ) (base' base : Tasks) →
          tasks_at (spliced kernel.body) p begun ≡ AnswerAt q' (spliced test) answer (spliced body) n base' →
          tasks_at kernel.body at begun ≡ AnswerAt q test answer body n base → IsLess base' base →
          bs ≡ [] → lines ≡ NoLine → Stood begun p at lines bs
      nowhere : tasks_at (spliced kernel.body) p begun ≡ NoTask → Stood begun p at lines bs

    under_along : (begun : List ℕ) (base : Tasks) (whole : Lines) (at : Place) (lines : Lines) (bs : List Bit) →
        (whole ≡ joined_all lines bs) × Under begun base at lines bs →
        (whole ≡ joined_all (skip at lines bs).lines (skip at lines bs).rest) ×
        Under begun base (skip at lines bs).at (skip at lines bs).lines (skip at lines bs).rest
    under_along begun base whole = along
        (λ at lines bs. (whole ≡ joined_all lines bs) × Under begun base at lines bs)
        (λ at b bs h. (h.0, h.1.1))
        (λ at site test chosen other rest bs d z h. (
          h.0 ∙
              into_all (IfThen site test chosen other rest) other rest (Behind ∷ at) bs
              (other_choice site test chosen other rest d z),
          (ap in_other h.1.0, (ap past h.1.0, h.1.1)),
        ))
        (λ at site test chosen other rest bs d z h. (
          h.0 ∙
              into_all (IfThen site test chosen other rest) chosen rest (Behind ∷ at) bs
              (chosen_choice site test chosen other rest d z),
          (ap in_chosen h.1.0, (ap past h.1.0, h.1.1)),
        ))

    stood_along : (begun : List ℕ) (p at : Place) (lines : Lines) (bs : List Bit) → Stood begun p at lines bs →
        Stood begun p (skip at lines bs).at (skip at lines bs).lines (skip at lines bs).rest
    stood_along begun p at lines bs (in_lines base' base e u f) =
        let r = under_along begun base (joined_all lines bs) at lines bs (refl, u) in
        in_lines base' base (e ∙ ap (λ (x : Lines). LinesAt p x base') r.0) r.1 f
    stood_along begun p at lines bs (at_answer_of q' q test answer body n base' base e g f none gone) =
        subst (λ (x : List Bit). Stood begun p (skip at lines x).at (skip at lines x).lines (skip at lines x).rest)
        (sym none) (subst (λ (x : Lines). Stood begun p (skip at x []).at (skip at x []).lines (skip at x []).rest)
        (sym gone) (at_answer_of q' q test answer body n base' base e g f refl refl))
    stood_along begun p at lines bs (nowhere e) = nowhere e

    -- the spot at which a leg leads, before its ends and its choices are passed
    abbrev ahead : Leg → Spot → Spot
    ahead Behind s = spot (Behind ∷ s.at) (behind s.lines) s.rest
    ahead IntoChosen s = spot (IntoChosen ∷ s.at) (chosen_of s.lines) []
    ahead IntoOther s = spot (IntoOther ∷ s.at) (other_of s.lines) []
    ahead IntoTest s = spot (IntoTest ∷ s.at) (test_of s.lines) []
    ahead ToAnswer s = spot (ToAnswer ∷ s.at) NoLine []
    ahead IntoBody s = spot (IntoBody ∷ s.at) (body_of s.lines) []

    abbrev StoodAt : List ℕ → Place → Spot → Type 0
    StoodAt begun p s = Stood begun p s.at s.lines s.rest

    past_less : (p at : Place) (lines : Lines) (bs : List Bit) (base' base : Tasks) → IsKept lines bs →
        IsLess base' base → IsLess (past (LinesAt p (joined_all lines bs) base'))
        (past (LinesAt at lines (bit_tasks bs base)))
    past_less p at lines bs base' base k f e =
        group_less (behind lines) bs base' base f
        (ap (λ (x : Lines). live_in c x (live_now c base')) (sym (behind_all lines bs k)) ∙ e)

    answer_same : (n : ℕ) (p : Place) (lines : Lines) (bs : List Bit) (base' : Tasks) → IsKept lines bs →
        at_answer n (LinesAt p (joined_all lines bs) base') ≡ AnswerAt p (spliced (test_of lines)) (answer_of lines)
        (spliced (body_of lines)) n (past (LinesAt p (joined_all lines bs) base'))
    answer_same n p lines bs base' k =
        ap (λ (x : Lines). AnswerAt p x (answer_of (joined_all lines bs)) (body_of (joined_all lines bs)) n
        (past (LinesAt p (joined_all lines bs) base'))) (test_all lines bs k)
        ∙ (ap (λ (x : Atom). AnswerAt p (spliced (test_of lines)) x (body_of (joined_all lines bs)) n
        (past (LinesAt p (joined_all lines bs) base'))) (answer_all lines bs k)
        ∙ ap (λ (x : Lines). AnswerAt p (spliced (test_of lines)) (answer_of lines) x n
        (past (LinesAt p (joined_all lines bs) base'))) (body_all lines bs k))

    round_less : (n : ℕ) (p at : Place) (lines : Lines) (bs : List Bit) (base' base : Tasks) → IsKept lines bs →
        IsLess base' base → IsLess (at_answer n (LinesAt p (joined_all lines bs) base'))
        (at_answer n (LinesAt at lines (bit_tasks bs base)))
    round_less n p at lines bs base' base k f e =
        answer_less at p (test_of lines) (answer_of lines) (body_of lines) n
        (past (LinesAt p (joined_all lines bs) base')) (past (LinesAt at lines (bit_tasks bs base)))
        (past_less p at lines bs base' base k f)
        (ap (λ (x : Tasks). live_now c x) (sym (answer_same n p lines bs base' k)) ∙ e)

    tests_less : (n : ℕ) (p at : Place) (lines : Lines) (bs : List Bit) (base' base : Tasks) → IsKept lines bs →
        IsLess base' base → IsLess (in_test n (LinesAt p (joined_all lines bs) base'))
        (in_test n (LinesAt at lines (bit_tasks bs base)))
    tests_less n p at lines bs base' base k f e =
        live_less (test_of lines) (live_now c (at_answer n (LinesAt p (joined_all lines bs) base')))
        (live_now c (at_answer n (LinesAt at lines (bit_tasks bs base)))) (round_less n p at lines bs base' base k f)
        (ap (λ (x : Lines). live_in c x (live_now c (at_answer n (LinesAt p (joined_all lines bs) base'))))
        (sym (test_all lines bs k)) ∙ e)

    behind_stood : (begun : List ℕ) (p : Place) (s : Spot) → IsKept s.lines s.rest → StoodAt begun p s →
        StoodAt begun (Behind ∷ p) (ahead Behind s)
    behind_stood begun p s k (in_lines base' base e u f) =
        in_lines base' base (ap past e ∙ ap (λ (x : Lines). LinesAt (Behind ∷ p) x base') (behind_all s.lines s.rest k))
        (ap past u.0, u.1) f
    behind_stood begun p s k (at_answer_of q' q test answer body n base' base e g f none gone) = nowhere (ap past e)
    behind_stood begun p s k (nowhere e) = nowhere (ap past e)

    chosen_stood : (begun : List ℕ) (p : Place) (s : Spot) → IsKept s.lines s.rest → StoodAt begun p s →
        StoodAt begun (IntoChosen ∷ p) (ahead IntoChosen s)
    chosen_stood begun p s k (in_lines base' base e u f) =
        in_lines (past (LinesAt p (joined_all s.lines s.rest) base')) (past
        (LinesAt s.at s.lines (bit_tasks s.rest base)))
        (ap in_chosen e ∙ ap (λ (x : Lines). LinesAt (IntoChosen ∷ p) x
        (past (LinesAt p (joined_all s.lines s.rest) base'))) (chosen_all s.lines s.rest k))
        (ap in_chosen u.0, tt) (past_less p s.at s.lines s.rest base' base k f)
    chosen_stood begun p s k (at_answer_of q' q test answer body n base' base e g f none gone) =
        nowhere (ap in_chosen e)
    chosen_stood begun p s k (nowhere e) = nowhere (ap in_chosen e)

    other_stood : (begun : List ℕ) (p : Place) (s : Spot) → IsKept s.lines s.rest → StoodAt begun p s →
        StoodAt begun (IntoOther ∷ p) (ahead IntoOther s)
    other_stood begun p s k (in_lines base' base e u f) =
        in_lines (past (LinesAt p (joined_all s.lines s.rest) base')) (past
        (LinesAt s.at s.lines (bit_tasks s.rest base)))
        (ap in_other e ∙ ap (λ (x : Lines). LinesAt (IntoOther ∷ p) x
        (past (LinesAt p (joined_all s.lines s.rest) base'))) (other_all s.lines s.rest k))
        (ap in_other u.0, tt) (past_less p s.at s.lines s.rest base' base k f)
    other_stood begun p s k (at_answer_of q' q test answer body n base' base e g f none gone) = nowhere (ap in_other e)
    other_stood begun p s k (nowhere e) = nowhere (ap in_other e)

    test_stood : (begun : List ℕ) (p : Place) (s : Spot) → IsKept s.lines s.rest → StoodAt (others_of begun) p s →
        StoodAt begun (IntoTest ∷ p) (ahead IntoTest s)
    test_stood begun p s k (in_lines base' base e u f) =
        in_lines (at_answer (first_of begun) (LinesAt p (joined_all s.lines s.rest) base'))
        (at_answer (first_of begun) (LinesAt s.at s.lines (bit_tasks s.rest base)))
        (ap (in_test (first_of begun)) e ∙ ap (λ (x : Lines). LinesAt (IntoTest ∷ p) x
        (at_answer (first_of begun) (LinesAt p (joined_all s.lines s.rest) base'))) (test_all s.lines s.rest k))
        (ap (in_test (first_of begun)) u.0, tt)
        (round_less (first_of begun) p s.at s.lines s.rest base' base k f)
    test_stood begun p s k (at_answer_of q' q test answer body n base' base e g f none gone) =
        nowhere (ap (in_test (first_of begun)) e)
    test_stood begun p s k (nowhere e) = nowhere (ap (in_test (first_of begun)) e)

    answer_stood : (begun : List ℕ) (p : Place) (s : Spot) → IsKept s.lines s.rest → StoodAt (others_of begun) p s →
        StoodAt begun (ToAnswer ∷ p) (ahead ToAnswer s)
    answer_stood begun p s k (in_lines base' base e u f) =
        at_answer_of p s.at (test_of s.lines) (answer_of s.lines) (body_of s.lines) (first_of begun)
        (past (LinesAt p (joined_all s.lines s.rest) base')) (past (LinesAt s.at s.lines (bit_tasks s.rest base)))
        (ap (at_answer (first_of begun)) e ∙ answer_same (first_of begun) p s.lines s.rest base' k)
        (ap (at_answer (first_of begun)) u.0) (past_less p s.at s.lines s.rest base' base k f) refl refl
    answer_stood begun p s k (at_answer_of q' q test answer body n base' base e g f none gone) =
        nowhere (ap (at_answer (first_of begun)) e)
    answer_stood begun p s k (nowhere e) = nowhere (ap (at_answer (first_of begun)) e)

    body_stood : (begun : List ℕ) (p : Place) (s : Spot) → IsKept s.lines s.rest → StoodAt (others_of begun) p s →
        StoodAt begun (IntoBody ∷ p) (ahead IntoBody s)
    body_stood begun p s k (in_lines base' base e u f) =
        in_lines (in_test (first_of begun) (LinesAt p (joined_all s.lines s.rest) base'))
        (in_test (first_of begun) (LinesAt s.at s.lines (bit_tasks s.rest base)))
        (ap (in_body (first_of begun)) e ∙ ap (λ (x : Lines). LinesAt (IntoBody ∷ p) x
        (in_test (first_of begun) (LinesAt p (joined_all s.lines s.rest) base'))) (body_all s.lines s.rest k))
        (ap (in_body (first_of begun)) u.0, tt)
        (tests_less (first_of begun) p s.at s.lines s.rest base' base k f)
    body_stood begun p s k (at_answer_of q' q test answer body n base' base e g f none gone) =
        nowhere (ap (in_body (first_of begun)) e)
    body_stood begun p s k (nowhere e) = nowhere (ap (in_body (first_of begun)) e)

    -- at each place, and at its front
    ahead_stood : (leg : Leg) (p : Place) (begun : List ℕ) → ((ns : List ℕ) → StoodAt ns p (placed kernel p)) →
        StoodAt begun (leg ∷ p) (ahead leg (placed kernel p))
    ahead_stood Behind p begun h = behind_stood begun p (placed kernel p) (placed_kept kernel p) (h begun)
    ahead_stood IntoChosen p begun h = chosen_stood begun p (placed kernel p) (placed_kept kernel p) (h begun)
    ahead_stood IntoOther p begun h = other_stood begun p (placed kernel p) (placed_kept kernel p) (h begun)
    ahead_stood IntoTest p begun h = test_stood begun p (placed kernel p) (placed_kept kernel p) (h (others_of begun))
    ahead_stood ToAnswer p begun h = answer_stood begun p (placed kernel p) (placed_kept kernel p) (h (others_of begun))
    ahead_stood IntoBody p begun h = body_stood begun p (placed kernel p) (placed_kept kernel p) (h (others_of begun))

    along_onto : (leg : Leg) (p : Place) (s : Spot) (begun : List ℕ) → StoodAt begun (leg ∷ p) (ahead leg s) →
        StoodAt begun (leg ∷ p) (onto kernel leg s)
    along_onto Behind p s begun h = stood_along begun (Behind ∷ p) (Behind ∷ s.at) (behind s.lines) s.rest h
    along_onto IntoChosen p s begun h = stood_along begun (IntoChosen ∷ p) (IntoChosen ∷ s.at) (chosen_of s.lines) [] h
    along_onto IntoOther p s begun h = stood_along begun (IntoOther ∷ p) (IntoOther ∷ s.at) (other_of s.lines) [] h
    along_onto IntoTest p s begun h = stood_along begun (IntoTest ∷ p) (IntoTest ∷ s.at) (test_of s.lines) [] h
    along_onto ToAnswer p s begun h = stood_along begun (ToAnswer ∷ p) (ToAnswer ∷ s.at) NoLine [] h
    along_onto IntoBody p s begun h = stood_along begun (IntoBody ∷ p) (IntoBody ∷ s.at) (body_of s.lines) [] h

    stood : (p : Place) (begun : List ℕ) → StoodAt begun p (placed kernel p)
    stood [] begun = stood_along begun [] [] kernel.body [] (in_lines NoTask NoTask refl (refl, tt) (λ e. e))
    stood (leg ∷ p) begun =
        along_onto leg p (placed kernel p) begun (ahead_stood leg p begun (λ ns. stood p ns))

    live_stood : (p at : Place) (lines : Lines) (bs : List Bit) → Stood [] p at lines bs →
        live_at (spliced kernel.body) p c ≡ true → live_at kernel.body at c ≡ true
    live_stood p at lines bs (in_lines base' base e u f) live =
        ap (live_behind c) u.0 ∙ group_less lines bs base' base f (sym (ap (live_behind c) e) ∙ live)
    live_stood p at lines bs (at_answer_of q' q test answer body n base' base e g f none gone) live =
        ap (live_behind c) g ∙ or_less (live_now c base) (live_in c body (live_in c test
        (live_now c (AnswerAt q test answer body n base)))) _ _ f (live_less body
        (live_in c (spliced test) (live_now c (AnswerAt q' (spliced test) answer (spliced body) n base')))
        (live_in c test (live_now c (AnswerAt q test answer body n base)))
        (live_less test (live_now c (AnswerAt q' (spliced test) answer (spliced body) n base'))
        (live_now c (AnswerAt q test answer body n base)) (answer_less q q' test answer body n base' base f)))
        (sym (ap (live_behind c) e) ∙ live)
    live_stood p at lines bs (nowhere e) live = absurd (true≢false (sym live ∙ ap (live_behind c) e))

    pub live_there : (p : Place) → live_at (spliced kernel.body) p c ≡ true →
        live_at kernel.body (placed kernel p).at c ≡ true
    live_there p live = live_stood p (placed kernel p).at (placed kernel p).lines (placed kernel p).rest (stood p [])
        live

    at_front : (leg : Leg) (s : Spot) → (ahead leg s).at ≡ leg ∷ s.at
    at_front Behind s = refl
    at_front IntoChosen s = refl
    at_front IntoOther s = refl
    at_front IntoTest s = refl
    at_front ToAnswer s = refl
    at_front IntoBody s = refl

    pub live_front : (p : Place) → live_at (spliced kernel.body) p c ≡ true →
        live_at kernel.body (front kernel p) c ≡ true
    live_front [] live = live_stood [] [] kernel.body [] (in_lines NoTask NoTask refl (refl, tt) (λ e. e)) live
    live_front (leg ∷ p) live =
        ap (λ (x : Place). live_at kernel.body x c) (sym (at_front leg (placed kernel p))) ∙
        live_stood (leg ∷ p) (ahead leg (placed kernel p)).at (ahead leg (placed kernel p)).lines
        (ahead leg (placed kernel p)).rest (ahead_stood leg p [] (λ ns. stood p ns)) live
