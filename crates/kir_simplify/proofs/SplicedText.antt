-- What splicing leaves of a text: the same barriers, no more accesses, no other names, and at each place the lines of
-- the spot for which it stands.
use Rattle.std.proofs.Common.{◌≡◌, ℕ, ◌+◌, ◌≤◌, List, [], ◌∷◌, refl, sym, ap, ap₂, ◌∙◌, arith, true}
use Rattle.std.proofs.Common.{false, if◌then◌else◌}
use Rattle.std.proofs.Common.{Bool as Test}
use Rattle.std.specs.Prelude.{not, ◌||◌}
use Rattle.std.proofs.lemmas.Bool.{true≢false, and_parts}
use Rattle.cl_model.specs.Values.{is_zero}
use Rattle.kir.specs.declared.line.Atom.{Atom}
use Rattle.kir.specs.Tree.{Lines, NoLine, SetThen, LoadThen, StoreThen, ClearThen, IfThen, LoopThen, BarrierThen}
use Rattle.kir.specs.Tree.{joined_to}
use Rattle.kir.specs.Places.{Behind, IntoChosen, IntoOther, Place, behind}
use Rattle.kir.specs.Places.{chosen_of, other_of, test_of, body_of, answer_of}
use Rattle.kir.specs.Cuts.{holds_barrier, is_barrier, is_choice, is_round, is_line}
use Rattle.kir.specs.Counts.{load_lines, store_lines, barrier_lines}
use Rattle.kir_simplify.specs.Simple.{is_constant, is_decided}
use Rattle.kir_simplify.specs.Passes.{constant_value, spliced}
use Rattle.kir_simplify.proofs.SplicedPlaces.{join_assoc, Bit, bit, Spot, spot, skip_in, begins, skip, IsKept}

-- ---- past ends and into branches

module _ (P : Place → Lines → List Bit → Type 0)
    (pop : (at : Place) (b : Bit) (bs : List Bit) → P at NoLine (b ∷ bs) → P b.at b.lines bs)
    (to_other : (at : Place) (site : ℕ) (test : Atom) (chosen other rest : Lines) (bs : List Bit) →
    is_decided test chosen other ≡ true → is_zero (constant_value test) ≡ true →
    P at (IfThen site test chosen other rest) bs → P (IntoOther ∷ at) other (bit (Behind ∷ at) rest ∷ bs))
    (to_chosen : (at : Place) (site : ℕ) (test : Atom) (chosen other rest : Lines) (bs : List Bit) →
    is_decided test chosen other ≡ true → is_zero (constant_value test) ≡ false →
    P at (IfThen site test chosen other rest) bs → P (IntoChosen ∷ at) chosen (bit (Behind ∷ at) rest ∷ bs)) where
  -- it holds of where pieces begin
  abbrev Begins : List Bit → Spot → Type 0
  Begins [] s = Unit {0}
  Begins (b ∷ bs) s = P b.at b.lines bs → P s.at s.lines s.rest

  choice_along : (at : Place) (site : ℕ) (test : Atom) (chosen other rest : Lines) (bs : List Bit) (s t : Spot) →
      (P (IntoOther ∷ at) other (bit (Behind ∷ at) rest ∷ bs) → P s.at s.lines s.rest) →
      (P (IntoChosen ∷ at) chosen (bit (Behind ∷ at) rest ∷ bs) → P t.at t.lines t.rest) →
      P at (IfThen site test chosen other rest) bs → (d : Test) → is_decided test chosen other ≡ d → (z : Test) →
      is_zero (constant_value test) ≡ z
      → P (if d then (if z then s else t) else spot at (IfThen site test chosen other rest) bs).at
      (if d then (if z then s else t) else spot at (IfThen site test chosen other rest) bs).lines
      (if d then (if z then s else t) else spot at (IfThen site test chosen other rest) bs).rest
  choice_along at site test chosen other rest bs s t f g h true d true z =
      f (to_other at site test chosen other rest bs d z h)
  choice_along at site test chosen other rest bs s t f g h true d false z =
      g (to_chosen at site test chosen other rest bs d z h)
  choice_along at site test chosen other rest bs s t f g h false d z e = h

  along_in : (lines : Lines) (at : Place) (bs : List Bit) (end : Spot) → Begins bs end → P at lines bs →
      P (skip_in lines at bs end).at (skip_in lines at bs end).lines (skip_in lines at bs end).rest
  along_in NoLine at [] end ok h = h
  along_in NoLine at (b ∷ bs) end ok h = ok (pop at b bs h)
  along_in (SetThen to work rest) at bs end ok h = h
  along_in (LoadThen site to element root index rest) at bs end ok h = h
  along_in (StoreThen site element root index from rest) at bs end ok h = h
  along_in (ClearThen array rest) at bs end ok h = h
  along_in (IfThen site test chosen other rest) at bs end ok h =
      choice_along at site test chosen other rest bs _ _
      (along_in other (IntoOther ∷ at) (bit (Behind ∷ at) rest ∷ bs) (skip_in rest (Behind ∷ at) bs end)
      (along_in rest (Behind ∷ at) bs end ok))
      (along_in chosen (IntoChosen ∷ at) (bit (Behind ∷ at) rest ∷ bs) (skip_in rest (Behind ∷ at) bs end)
      (along_in rest (Behind ∷ at) bs end ok)) h (is_decided test chosen other) refl (is_zero (constant_value test))
      refl
  along_in (LoopThen site first test answer body rest) at bs end ok h = h
  along_in (BarrierThen site rest) at bs end ok h = h

  begins_ok : (bs : List Bit) → Begins bs (begins bs)
  begins_ok [] = tt
  begins_ok (b ∷ bs) = along_in b.lines b.at bs (begins bs) (begins_ok bs)

  pub along : (at : Place) (lines : Lines) (bs : List Bit) → P at lines bs →
      P (skip at lines bs).at (skip at lines bs).lines (skip at lines bs).rest
  along at lines bs h = along_in lines at bs (begins bs) (begins_ok bs) h

-- the line behind them is kept
abbrev KeptBegins : List Bit → Spot → Type 0
KeptBegins [] s = Unit {0}
KeptBegins (b ∷ bs) s = IsKept s.lines s.rest

choice_kept : (at : Place) (site : ℕ) (test : Atom) (chosen other rest : Lines) (bs : List Bit) (s t : Spot) →
    IsKept s.lines s.rest → IsKept t.lines t.rest → (d : Test) → is_decided test chosen other ≡ d → (z : Test)
    → IsKept (if d then (if z then s else t) else spot at (IfThen site test chosen other rest) bs).lines
    (if d then (if z then s else t) else spot at (IfThen site test chosen other rest) bs).rest
choice_kept at site test chosen other rest bs s t f g true d true = f
choice_kept at site test chosen other rest bs s t f g true d false = g
choice_kept at site test chosen other rest bs s t f g false d z = d

kept_in : (lines : Lines) (at : Place) (bs : List Bit) (end : Spot) → KeptBegins bs end →
    IsKept (skip_in lines at bs end).lines (skip_in lines at bs end).rest
kept_in NoLine at [] end ok = tt
kept_in NoLine at (b ∷ bs) end ok = ok
kept_in (SetThen to work rest) at bs end ok = tt
kept_in (LoadThen site to element root index rest) at bs end ok = tt
kept_in (StoreThen site element root index from rest) at bs end ok = tt
kept_in (ClearThen array rest) at bs end ok = tt
kept_in (IfThen site test chosen other rest) at bs end ok =
    choice_kept at site test chosen other rest bs _ _
    (kept_in other (IntoOther ∷ at) (bit (Behind ∷ at) rest ∷ bs) (skip_in rest (Behind ∷ at) bs end)
    (kept_in rest (Behind ∷ at) bs end ok))
    (kept_in chosen (IntoChosen ∷ at) (bit (Behind ∷ at) rest ∷ bs) (skip_in rest (Behind ∷ at) bs end)
    (kept_in rest (Behind ∷ at) bs end ok)) (is_decided test chosen other) refl (is_zero (constant_value test))
kept_in (LoopThen site first test answer body rest) at bs end ok = tt
kept_in (BarrierThen site rest) at bs end ok = tt

kept_begins : (bs : List Bit) → KeptBegins bs (begins bs)
kept_begins [] = tt
kept_begins (b ∷ bs) = kept_in b.lines b.at bs (begins bs) (kept_begins bs)

pub skip_kept : (at : Place) (lines : Lines) (bs : List Bit) → IsKept (skip at lines bs).lines (skip at lines bs).rest
skip_kept at lines bs = kept_in lines at bs (begins bs) (kept_begins bs)

-- ---- the lines of a spot

-- with the pieces behind them
abbrev pub joined_all : Lines → List Bit → Lines
joined_all lines [] = spliced lines
joined_all lines (b ∷ bs) = joined_to (spliced lines) (joined_all b.lines bs)

-- a choice that is kept, and one that is not
kept_choice : (site : ℕ) (test : Atom) (chosen other rest : Lines) → is_decided test chosen other ≡ false →
    spliced (IfThen site test chosen other rest) ≡ IfThen site test (spliced chosen) (spliced other) (spliced rest)
kept_choice site test chosen other rest e = ap (λ (d : Test). (if d then joined_to
    (if is_zero (constant_value test) then spliced other else spliced chosen) (spliced rest) else IfThen site test
    (spliced chosen) (spliced other) (spliced rest))) e

pub other_choice : (site : ℕ) (test : Atom) (chosen other rest : Lines) → is_decided test chosen other ≡ true →
    is_zero (constant_value test) ≡ true →
    spliced (IfThen site test chosen other rest) ≡ joined_to (spliced other) (spliced rest)
other_choice site test chosen other rest e z =
    ap (λ (d : Test). (if d then joined_to (if is_zero (constant_value test) then spliced other else spliced chosen)
    (spliced rest) else IfThen site test (spliced chosen) (spliced other) (spliced rest))) e
    ∙ ap (λ (b : Test). joined_to (if b then spliced other else spliced chosen) (spliced rest)) z

pub chosen_choice : (site : ℕ) (test : Atom) (chosen other rest : Lines) → is_decided test chosen other ≡ true →
    is_zero (constant_value test) ≡ false →
    spliced (IfThen site test chosen other rest) ≡ joined_to (spliced chosen) (spliced rest)
chosen_choice site test chosen other rest e z =
    ap (λ (d : Test). (if d then joined_to (if is_zero (constant_value test) then spliced other else spliced chosen)
    (spliced rest) else IfThen site test (spliced chosen) (spliced other) (spliced rest))) e
    ∙ ap (λ (b : Test). joined_to (if b then spliced other else spliced chosen) (spliced rest)) z

pub into_all : (whole branch rest : Lines) (at : Place) (bs : List Bit) →
    spliced whole ≡ joined_to (spliced branch) (spliced rest) →
    joined_all whole bs ≡ joined_all branch (bit at rest ∷ bs)
into_all whole branch rest at [] e = e
into_all whole branch rest at (b ∷ bs) e =
    ap (λ ls. joined_to ls (joined_all b.lines bs)) e ∙
    join_assoc (spliced branch) (spliced rest) (joined_all b.lines bs)

pub behind_all : (lines : Lines) (bs : List Bit) → IsKept lines bs →
    behind (joined_all lines bs) ≡ joined_all (behind lines) bs
behind_all NoLine [] k = refl
behind_all NoLine (b ∷ bs) k = absurd k
behind_all (SetThen to work rest) [] k = refl
behind_all (SetThen to work rest) (b ∷ bs) k = refl
behind_all (LoadThen site to element root index rest) [] k = refl
behind_all (LoadThen site to element root index rest) (b ∷ bs) k = refl
behind_all (StoreThen site element root index from rest) [] k = refl
behind_all (StoreThen site element root index from rest) (b ∷ bs) k = refl
behind_all (ClearThen array rest) [] k = refl
behind_all (ClearThen array rest) (b ∷ bs) k = refl
behind_all (IfThen site test chosen other rest) [] k = ap (λ ls. behind ls) (kept_choice site test chosen other rest k)
behind_all (IfThen site test chosen other rest) (b ∷ bs) k =
    ap (λ ls. behind (joined_to ls (joined_all b.lines bs))) (kept_choice site test chosen other rest k)
behind_all (LoopThen site first test answer body rest) [] k = refl
behind_all (LoopThen site first test answer body rest) (b ∷ bs) k = refl
behind_all (BarrierThen site rest) [] k = refl
behind_all (BarrierThen site rest) (b ∷ bs) k = refl

pub chosen_all : (lines : Lines) (bs : List Bit) → IsKept lines bs →
    chosen_of (joined_all lines bs) ≡ spliced (chosen_of lines)
chosen_all NoLine [] k = refl
chosen_all NoLine (b ∷ bs) k = absurd k
chosen_all (SetThen to work rest) [] k = refl
chosen_all (SetThen to work rest) (b ∷ bs) k = refl
chosen_all (LoadThen site to element root index rest) [] k = refl
chosen_all (LoadThen site to element root index rest) (b ∷ bs) k = refl
chosen_all (StoreThen site element root index from rest) [] k = refl
chosen_all (StoreThen site element root index from rest) (b ∷ bs) k = refl
chosen_all (ClearThen array rest) [] k = refl
chosen_all (ClearThen array rest) (b ∷ bs) k = refl
chosen_all (IfThen site test chosen other rest) [] k = ap (λ ls. chosen_of ls)
    (kept_choice site test chosen other rest k)
chosen_all (IfThen site test chosen other rest) (b ∷ bs) k =
    ap (λ ls. chosen_of (joined_to ls (joined_all b.lines bs))) (kept_choice site test chosen other rest k)
chosen_all (LoopThen site first test answer body rest) [] k = refl
chosen_all (LoopThen site first test answer body rest) (b ∷ bs) k = refl
chosen_all (BarrierThen site rest) [] k = refl
chosen_all (BarrierThen site rest) (b ∷ bs) k = refl

pub other_all : (lines : Lines) (bs : List Bit) → IsKept lines bs →
    other_of (joined_all lines bs) ≡ spliced (other_of lines)
other_all NoLine [] k = refl
other_all NoLine (b ∷ bs) k = absurd k
other_all (SetThen to work rest) [] k = refl
other_all (SetThen to work rest) (b ∷ bs) k = refl
other_all (LoadThen site to element root index rest) [] k = refl
other_all (LoadThen site to element root index rest) (b ∷ bs) k = refl
other_all (StoreThen site element root index from rest) [] k = refl
other_all (StoreThen site element root index from rest) (b ∷ bs) k = refl
other_all (ClearThen array rest) [] k = refl
other_all (ClearThen array rest) (b ∷ bs) k = refl
other_all (IfThen site test chosen other rest) [] k = ap (λ ls. other_of ls) (kept_choice site test chosen other rest k)
other_all (IfThen site test chosen other rest) (b ∷ bs) k =
    ap (λ ls. other_of (joined_to ls (joined_all b.lines bs))) (kept_choice site test chosen other rest k)
other_all (LoopThen site first test answer body rest) [] k = refl
other_all (LoopThen site first test answer body rest) (b ∷ bs) k = refl
other_all (BarrierThen site rest) [] k = refl
other_all (BarrierThen site rest) (b ∷ bs) k = refl

pub test_all : (lines : Lines) (bs : List Bit) → IsKept lines bs → test_of (joined_all lines bs) ≡ spliced
    (test_of lines)
test_all NoLine [] k = refl
test_all NoLine (b ∷ bs) k = absurd k
test_all (SetThen to work rest) [] k = refl
test_all (SetThen to work rest) (b ∷ bs) k = refl
test_all (LoadThen site to element root index rest) [] k = refl
test_all (LoadThen site to element root index rest) (b ∷ bs) k = refl
test_all (StoreThen site element root index from rest) [] k = refl
test_all (StoreThen site element root index from rest) (b ∷ bs) k = refl
test_all (ClearThen array rest) [] k = refl
test_all (ClearThen array rest) (b ∷ bs) k = refl
test_all (IfThen site test chosen other rest) [] k = ap (λ ls. test_of ls) (kept_choice site test chosen other rest k)
test_all (IfThen site test chosen other rest) (b ∷ bs) k =
    ap (λ ls. test_of (joined_to ls (joined_all b.lines bs))) (kept_choice site test chosen other rest k)
test_all (LoopThen site first test answer body rest) [] k = refl
test_all (LoopThen site first test answer body rest) (b ∷ bs) k = refl
test_all (BarrierThen site rest) [] k = refl
test_all (BarrierThen site rest) (b ∷ bs) k = refl

pub body_all : (lines : Lines) (bs : List Bit) → IsKept lines bs → body_of (joined_all lines bs) ≡ spliced
    (body_of lines)
body_all NoLine [] k = refl
body_all NoLine (b ∷ bs) k = absurd k
body_all (SetThen to work rest) [] k = refl
body_all (SetThen to work rest) (b ∷ bs) k = refl
body_all (LoadThen site to element root index rest) [] k = refl
body_all (LoadThen site to element root index rest) (b ∷ bs) k = refl
body_all (StoreThen site element root index from rest) [] k = refl
body_all (StoreThen site element root index from rest) (b ∷ bs) k = refl
body_all (ClearThen array rest) [] k = refl
body_all (ClearThen array rest) (b ∷ bs) k = refl
body_all (IfThen site test chosen other rest) [] k = ap (λ ls. body_of ls) (kept_choice site test chosen other rest k)
body_all (IfThen site test chosen other rest) (b ∷ bs) k =
    ap (λ ls. body_of (joined_to ls (joined_all b.lines bs))) (kept_choice site test chosen other rest k)
body_all (LoopThen site first test answer body rest) [] k = refl
body_all (LoopThen site first test answer body rest) (b ∷ bs) k = refl
body_all (BarrierThen site rest) [] k = refl
body_all (BarrierThen site rest) (b ∷ bs) k = refl

pub answer_all : (lines : Lines) (bs : List Bit) → IsKept lines bs → answer_of (joined_all lines bs) ≡ answer_of lines
answer_all NoLine [] k = refl
answer_all NoLine (b ∷ bs) k = absurd k
answer_all (SetThen to work rest) [] k = refl
answer_all (SetThen to work rest) (b ∷ bs) k = refl
answer_all (LoadThen site to element root index rest) [] k = refl
answer_all (LoadThen site to element root index rest) (b ∷ bs) k = refl
answer_all (StoreThen site element root index from rest) [] k = refl
answer_all (StoreThen site element root index from rest) (b ∷ bs) k = refl
answer_all (ClearThen array rest) [] k = refl
answer_all (ClearThen array rest) (b ∷ bs) k = refl
answer_all (IfThen site test chosen other rest) [] k = ap (λ ls. answer_of ls)
    (kept_choice site test chosen other rest k)
answer_all (IfThen site test chosen other rest) (b ∷ bs) k =
    ap (λ ls. answer_of (joined_to ls (joined_all b.lines bs))) (kept_choice site test chosen other rest k)
answer_all (LoopThen site first test answer body rest) [] k = refl
answer_all (LoopThen site first test answer body rest) (b ∷ bs) k = refl
answer_all (BarrierThen site rest) [] k = refl
answer_all (BarrierThen site rest) (b ∷ bs) k = refl

-- ---- barriers

joined_holds : (lines tail : Lines) → holds_barrier (joined_to lines tail) ≡ (holds_barrier lines || holds_barrier tail)
joined_holds NoLine tail = refl
joined_holds (SetThen to work rest) tail = joined_holds rest tail
joined_holds (LoadThen site to element root index rest) tail = joined_holds rest tail
joined_holds (StoreThen site element root index from rest) tail = joined_holds rest tail
joined_holds (ClearThen array rest) tail = joined_holds rest tail
joined_holds (IfThen site test chosen other rest) tail =
    ap (λ x. holds_barrier chosen || (holds_barrier other || x)) (joined_holds rest tail) ∙
    thrice (holds_barrier chosen) (holds_barrier other) (holds_barrier rest) (holds_barrier tail)
  where
    thrice : (a b c d : Test) → (a || (b || (c || d))) ≡ ((a || (b || c)) || d)
    thrice true b c d = refl
    thrice false true c d = refl
    thrice false false c d = refl
joined_holds (LoopThen site first test answer body rest) tail =
    ap (λ x. holds_barrier test || (holds_barrier body || x)) (joined_holds rest tail) ∙
    thrice (holds_barrier test) (holds_barrier body) (holds_barrier rest) (holds_barrier tail)
  where
    thrice : (a b c d : Test) → (a || (b || (c || d))) ≡ ((a || (b || c)) || d)
    thrice true b c d = refl
    thrice false true c d = refl
    thrice false false c d = refl
joined_holds (BarrierThen site rest) tail = refl

-- the branches of a choice of a constant hold none
pub none_held : (test : Atom) (chosen other : Lines) → is_decided test chosen other ≡ true →
    (holds_barrier chosen ≡ false) × (holds_barrier other ≡ false)
none_held test chosen other e =
    by_test (holds_barrier chosen) (holds_barrier other) (and_parts (is_constant test) _ e).1
  where
    by_test : (x y : Test) → not (x || y) ≡ true → (x ≡ false) × (y ≡ false)
    by_test true y e = absurd (true≢false (sym e))
    by_test false true e = absurd (true≢false (sym e))
    by_test false false e = (refl, refl)

choice_holds : (site : ℕ) (test : Atom) (chosen other rest : Lines) →
    holds_barrier (spliced chosen) ≡ holds_barrier chosen → holds_barrier (spliced other) ≡ holds_barrier other →
    holds_barrier (spliced rest) ≡ holds_barrier rest → (d : Test) → is_decided test chosen other ≡ d → (z : Test)
    → holds_barrier (if d then joined_to (if z then spliced other else spliced chosen) (spliced rest)
    else IfThen site test (spliced chosen) (spliced other) (spliced rest)) ≡
    (holds_barrier chosen || (holds_barrier other || holds_barrier rest))
choice_holds site test chosen other rest c o r true d true =
    joined_holds (spliced other) (spliced rest) ∙ (ap₂ (λ x y. x || y) o r ∙
    sym (ap (λ x. x || (holds_barrier other || holds_barrier rest)) (none_held test chosen other d).0))
choice_holds site test chosen other rest c o r true d false =
    joined_holds (spliced chosen) (spliced rest) ∙ (ap₂ (λ x y. x || y) c r ∙
    sym (ap (λ x. holds_barrier chosen || (x || holds_barrier rest)) (none_held test chosen other d).1))
choice_holds site test chosen other rest c o r false d z =
    ap₂ (λ x y. x || y) c (ap₂ (λ x y. x || y) o r)

pub same_barriers : (lines : Lines) → holds_barrier (spliced lines) ≡ holds_barrier lines
same_barriers NoLine = refl
same_barriers (SetThen to work rest) = same_barriers rest
same_barriers (LoadThen site to element root index rest) = same_barriers rest
same_barriers (StoreThen site element root index from rest) = same_barriers rest
same_barriers (ClearThen array rest) = same_barriers rest
same_barriers (IfThen site test chosen other rest) =
    choice_holds site test chosen other rest (same_barriers chosen) (same_barriers other) (same_barriers rest)
    (is_decided test chosen other) refl (is_zero (constant_value test))
same_barriers (LoopThen site test_first test answer body rest) =
    ap₂ (λ x y. x || y) (same_barriers test) (ap₂ (λ x y. x || y) (same_barriers body) (same_barriers rest))
same_barriers (BarrierThen site rest) = refl

pub barrier_all : (lines : Lines) (bs : List Bit) → IsKept lines bs →
    is_barrier (joined_all lines bs) ≡ is_barrier lines
barrier_all NoLine [] k = refl
barrier_all NoLine (b ∷ bs) k = absurd k
barrier_all (SetThen to work rest) [] k = refl
barrier_all (SetThen to work rest) (b ∷ bs) k = refl
barrier_all (LoadThen site to element root index rest) [] k = refl
barrier_all (LoadThen site to element root index rest) (b ∷ bs) k = refl
barrier_all (StoreThen site element root index from rest) [] k = refl
barrier_all (StoreThen site element root index from rest) (b ∷ bs) k = refl
barrier_all (ClearThen array rest) [] k = refl
barrier_all (ClearThen array rest) (b ∷ bs) k = refl
barrier_all (IfThen site test chosen other rest) [] k = ap (λ ls. is_barrier ls)
    (kept_choice site test chosen other rest k)
barrier_all (IfThen site test chosen other rest) (b ∷ bs) k =
    ap (λ ls. is_barrier (joined_to ls (joined_all b.lines bs))) (kept_choice site test chosen other rest k)
barrier_all (LoopThen site first test answer body rest) [] k = refl
barrier_all (LoopThen site first test answer body rest) (b ∷ bs) k = refl
barrier_all (BarrierThen site rest) [] k = refl
barrier_all (BarrierThen site rest) (b ∷ bs) k = refl

pub line_all : (lines : Lines) (bs : List Bit) → IsKept lines bs → is_line (joined_all lines bs) ≡ is_line lines
line_all NoLine [] k = refl
line_all NoLine (b ∷ bs) k = absurd k
line_all (SetThen to work rest) [] k = refl
line_all (SetThen to work rest) (b ∷ bs) k = refl
line_all (LoadThen site to element root index rest) [] k = refl
line_all (LoadThen site to element root index rest) (b ∷ bs) k = refl
line_all (StoreThen site element root index from rest) [] k = refl
line_all (StoreThen site element root index from rest) (b ∷ bs) k = refl
line_all (ClearThen array rest) [] k = refl
line_all (ClearThen array rest) (b ∷ bs) k = refl
line_all (IfThen site test chosen other rest) [] k = ap (λ ls. is_line ls) (kept_choice site test chosen other rest k)
line_all (IfThen site test chosen other rest) (b ∷ bs) k =
    ap (λ ls. is_line (joined_to ls (joined_all b.lines bs))) (kept_choice site test chosen other rest k)
line_all (LoopThen site first test answer body rest) [] k = refl
line_all (LoopThen site first test answer body rest) (b ∷ bs) k = refl
line_all (BarrierThen site rest) [] k = refl
line_all (BarrierThen site rest) (b ∷ bs) k = refl

pub choice_all : (lines : Lines) (bs : List Bit) → IsKept lines bs → is_choice (joined_all lines bs) ≡ is_choice lines
choice_all NoLine [] k = refl
choice_all NoLine (b ∷ bs) k = absurd k
choice_all (SetThen to work rest) [] k = refl
choice_all (SetThen to work rest) (b ∷ bs) k = refl
choice_all (LoadThen site to element root index rest) [] k = refl
choice_all (LoadThen site to element root index rest) (b ∷ bs) k = refl
choice_all (StoreThen site element root index from rest) [] k = refl
choice_all (StoreThen site element root index from rest) (b ∷ bs) k = refl
choice_all (ClearThen array rest) [] k = refl
choice_all (ClearThen array rest) (b ∷ bs) k = refl
choice_all (IfThen site test chosen other rest) [] k = ap (λ ls. is_choice ls)
    (kept_choice site test chosen other rest k) ∙
    ap₂ (λ x y. x || y) (same_barriers chosen) (same_barriers other)
choice_all (IfThen site test chosen other rest) (b ∷ bs) k =
    ap (λ ls. is_choice (joined_to ls (joined_all b.lines bs))) (kept_choice site test chosen other rest k) ∙
    ap₂ (λ x y. x || y) (same_barriers chosen) (same_barriers other)
choice_all (LoopThen site first test answer body rest) [] k = refl
choice_all (LoopThen site first test answer body rest) (b ∷ bs) k = refl
choice_all (BarrierThen site rest) [] k = refl
choice_all (BarrierThen site rest) (b ∷ bs) k = refl

pub round_all : (lines : Lines) (bs : List Bit) → IsKept lines bs → is_round (joined_all lines bs) ≡ is_round lines
round_all NoLine [] k = refl
round_all NoLine (b ∷ bs) k = absurd k
round_all (SetThen to work rest) [] k = refl
round_all (SetThen to work rest) (b ∷ bs) k = refl
round_all (LoadThen site to element root index rest) [] k = refl
round_all (LoadThen site to element root index rest) (b ∷ bs) k = refl
round_all (StoreThen site element root index from rest) [] k = refl
round_all (StoreThen site element root index from rest) (b ∷ bs) k = refl
round_all (ClearThen array rest) [] k = refl
round_all (ClearThen array rest) (b ∷ bs) k = refl
round_all (IfThen site test chosen other rest) [] k = ap (λ ls. is_round ls) (kept_choice site test chosen other rest k)
round_all (IfThen site test chosen other rest) (b ∷ bs) k =
    ap (λ ls. is_round (joined_to ls (joined_all b.lines bs))) (kept_choice site test chosen other rest k)
round_all (LoopThen site first test answer body rest) [] k = ap₂ (λ x y. x || y) (same_barriers test)
    (same_barriers body)
round_all (LoopThen site first test answer body rest) (b ∷ bs) k = ap₂ (λ x y. x || y) (same_barriers test)
    (same_barriers body)
round_all (BarrierThen site rest) [] k = refl
round_all (BarrierThen site rest) (b ∷ bs) k = refl

joined_loads : (site : ℕ) (lines tail : Lines) →
    load_lines site (joined_to lines tail) ≡ load_lines site lines + load_lines site tail
joined_loads site NoLine tail = omega arith
joined_loads site (SetThen to work rest) tail = let h = joined_loads site rest tail in omega arith
joined_loads site (LoadThen at to element root index rest) tail = let h = joined_loads site rest tail in omega arith
joined_loads site (StoreThen at element root index from rest) tail = let h = joined_loads site rest tail in omega arith
joined_loads site (ClearThen array rest) tail = let h = joined_loads site rest tail in omega arith
joined_loads site (IfThen at test chosen other rest) tail = let h = joined_loads site rest tail in omega arith
joined_loads site (LoopThen at first test answer body rest) tail = let h = joined_loads site rest tail in omega arith
joined_loads site (BarrierThen at rest) tail = let h = joined_loads site rest tail in omega arith

choice_loads : (site at : ℕ) (test : Atom) (chosen other rest : Lines) →
    load_lines site (spliced chosen) ≤ load_lines site chosen →
    load_lines site (spliced other) ≤ load_lines site other → load_lines site (spliced rest) ≤ load_lines site rest →
    (d z : Test)
    → load_lines site (if d then joined_to (if z then spliced other else spliced chosen) (spliced rest)
    else IfThen at test (spliced chosen) (spliced other) (spliced rest)) ≤
    load_lines site chosen + (load_lines site other + load_lines site rest)
choice_loads site at test chosen other rest c o r true true =
    let h = joined_loads site (spliced other) (spliced rest) in omega arith
choice_loads site at test chosen other rest c o r true false =
    let h = joined_loads site (spliced chosen) (spliced rest) in omega arith
choice_loads site at test chosen other rest c o r false z = omega arith

pub fewer_loads : (site : ℕ) (lines : Lines) → load_lines site (spliced lines) ≤ load_lines site lines
fewer_loads site NoLine = omega arith
fewer_loads site (SetThen to work rest) = let h = fewer_loads site rest in omega arith
fewer_loads site (LoadThen at to element root index rest) = let h = fewer_loads site rest in omega arith
fewer_loads site (StoreThen at element root index from rest) = let h = fewer_loads site rest in omega arith
fewer_loads site (ClearThen array rest) = let h = fewer_loads site rest in omega arith
fewer_loads site (IfThen at test chosen other rest) =
    choice_loads site at test chosen other rest (fewer_loads site chosen) (fewer_loads site other)
    (fewer_loads site rest)
    (is_decided test chosen other) (is_zero (constant_value test))
fewer_loads site (LoopThen at first test answer body rest) =
    let one = fewer_loads site test in let two = fewer_loads site body in let three =
    fewer_loads site rest in omega arith
fewer_loads site (BarrierThen at rest) = let h = fewer_loads site rest in omega arith

joined_stores : (site : ℕ) (lines tail : Lines) →
    store_lines site (joined_to lines tail) ≡ store_lines site lines + store_lines site tail
joined_stores site NoLine tail = omega arith
joined_stores site (SetThen to work rest) tail = let h = joined_stores site rest tail in omega arith
joined_stores site (LoadThen at to element root index rest) tail = let h = joined_stores site rest tail in omega arith
joined_stores site (StoreThen at element root index from rest) tail = let h =
    joined_stores site rest tail in omega arith
joined_stores site (ClearThen array rest) tail = let h = joined_stores site rest tail in omega arith
joined_stores site (IfThen at test chosen other rest) tail = let h = joined_stores site rest tail in omega arith
joined_stores site (LoopThen at first test answer body rest) tail = let h = joined_stores site rest tail in omega arith
joined_stores site (BarrierThen at rest) tail = let h = joined_stores site rest tail in omega arith

choice_stores : (site at : ℕ) (test : Atom) (chosen other rest : Lines) →
    store_lines site (spliced chosen) ≤ store_lines site chosen →
    store_lines site (spliced other) ≤ store_lines site other → store_lines site (spliced rest) ≤ store_lines site rest
    → (d z : Test)
    → store_lines site (if d then joined_to (if z then spliced other else spliced chosen) (spliced rest)
    else IfThen at test (spliced chosen) (spliced other) (spliced rest)) ≤
    store_lines site chosen + (store_lines site other + store_lines site rest)
choice_stores site at test chosen other rest c o r true true =
    let h = joined_stores site (spliced other) (spliced rest) in omega arith
choice_stores site at test chosen other rest c o r true false =
    let h = joined_stores site (spliced chosen) (spliced rest) in omega arith
choice_stores site at test chosen other rest c o r false z = omega arith

pub fewer_stores : (site : ℕ) (lines : Lines) → store_lines site (spliced lines) ≤ store_lines site lines
fewer_stores site NoLine = omega arith
fewer_stores site (SetThen to work rest) = let h = fewer_stores site rest in omega arith
fewer_stores site (LoadThen at to element root index rest) = let h = fewer_stores site rest in omega arith
fewer_stores site (StoreThen at element root index from rest) = let h = fewer_stores site rest in omega arith
fewer_stores site (ClearThen array rest) = let h = fewer_stores site rest in omega arith
fewer_stores site (IfThen at test chosen other rest) =
    choice_stores site at test chosen other rest (fewer_stores site chosen) (fewer_stores site other)
    (fewer_stores site rest)
    (is_decided test chosen other) (is_zero (constant_value test))
fewer_stores site (LoopThen at first test answer body rest) =
    let one = fewer_stores site test in let two = fewer_stores site body in let three =
    fewer_stores site rest in omega arith
fewer_stores site (BarrierThen at rest) = let h = fewer_stores site rest in omega arith

joined_barriers : (site : ℕ) (lines tail : Lines) →
    barrier_lines site (joined_to lines tail) ≡ barrier_lines site lines + barrier_lines site tail
joined_barriers site NoLine tail = omega arith
joined_barriers site (SetThen to work rest) tail = let h = joined_barriers site rest tail in omega arith
joined_barriers site (LoadThen at to element root index rest) tail = let h =
    joined_barriers site rest tail in omega arith
joined_barriers site (StoreThen at element root index from rest) tail = let h =
    joined_barriers site rest tail in omega arith
joined_barriers site (ClearThen array rest) tail = let h = joined_barriers site rest tail in omega arith
joined_barriers site (IfThen at test chosen other rest) tail = let h = joined_barriers site rest tail in omega arith
joined_barriers site (LoopThen at first test answer body rest) tail = let h =
    joined_barriers site rest tail in omega arith
joined_barriers site (BarrierThen at rest) tail = let h = joined_barriers site rest tail in omega arith

choice_barriers : (site at : ℕ) (test : Atom) (chosen other rest : Lines) →
    barrier_lines site (spliced chosen) ≤ barrier_lines site chosen →
    barrier_lines site (spliced other) ≤ barrier_lines site other → barrier_lines site (spliced rest) ≤ barrier_lines
    site rest → (d z : Test)
    → barrier_lines site (if d then joined_to (if z then spliced other else spliced chosen) (spliced rest)
    else IfThen at test (spliced chosen) (spliced other) (spliced rest)) ≤
    barrier_lines site chosen + (barrier_lines site other + barrier_lines site rest)
choice_barriers site at test chosen other rest c o r true true =
    let h = joined_barriers site (spliced other) (spliced rest) in omega arith
choice_barriers site at test chosen other rest c o r true false =
    let h = joined_barriers site (spliced chosen) (spliced rest) in omega arith
choice_barriers site at test chosen other rest c o r false z = omega arith

pub fewer_barriers : (site : ℕ) (lines : Lines) → barrier_lines site (spliced lines) ≤ barrier_lines site lines
fewer_barriers site NoLine = omega arith
fewer_barriers site (SetThen to work rest) = let h = fewer_barriers site rest in omega arith
fewer_barriers site (LoadThen at to element root index rest) = let h = fewer_barriers site rest in omega arith
fewer_barriers site (StoreThen at element root index from rest) = let h = fewer_barriers site rest in omega arith
fewer_barriers site (ClearThen array rest) = let h = fewer_barriers site rest in omega arith
fewer_barriers site (IfThen at test chosen other rest) =
    choice_barriers site at test chosen other rest (fewer_barriers site chosen) (fewer_barriers site other)
    (fewer_barriers site rest)
    (is_decided test chosen other) (is_zero (constant_value test))
fewer_barriers site (LoopThen at first test answer body rest) =
    let one = fewer_barriers site test in let two = fewer_barriers site body in let three =
    fewer_barriers site rest in omega arith
fewer_barriers site (BarrierThen at rest) = let h = fewer_barriers site rest in omega arith
