-- Where an item stands in a kernel whose decided branches are spliced: spots, and what is left to do there.
use Rattle.std.proofs.Common.{◌≡◌, ℕ, List, [], ◌∷◌, refl, ap, true, false}
use Rattle.std.proofs.Common.{if◌then◌else◌}
use Rattle.std.proofs.Common.{Bool as Test}
use Rattle.cl_model.specs.Values.{is_zero}
use Rattle.kir.specs.declared.line.Atom.{Atom}
use Rattle.kir.specs.Tree.{Lines, NoLine, SetThen, LoadThen, StoreThen, ClearThen, IfThen, LoopThen, BarrierThen}
use Rattle.kir.specs.Tree.{joined_to}
use Rattle.kir.specs.Places.{Behind, IntoChosen, IntoOther, Place, Tasks, NoTask}
use Rattle.kir.specs.Places.{LinesAt, AnswerAt}
use Rattle.kir_simplify.specs.Simple.{is_decided}
use Rattle.kir_simplify.specs.Passes.{constant_value, spliced}

-- ---- spots

-- a piece of text that comes next: where it stands, and its lines
pub record Bit : Type 0 where
  pub at : Place
  pub lines : Lines

abbrev pub bit : Place → Lines → Bit
bit at lines = record { at = at; lines = lines }

-- a place with the lines there, and the pieces that the list still has behind them
pub record Spot : Type 0 where
  pub at : Place
  pub lines : Lines
  pub rest : List Bit

abbrev pub spot : Place → Lines → List Bit → Spot
spot at lines rest = record { at = at; lines = lines; rest = rest }

-- past ends and into branches that a constant chooses, where the pieces begin at this spot
abbrev pub skip_in : Lines → Place → List Bit → Spot → Spot
skip_in NoLine at [] end = spot at NoLine []
skip_in NoLine at (b ∷ bs) end = end
skip_in (SetThen to work rest) at bs end = spot at (SetThen to work rest) bs
skip_in (LoadThen site to element root index rest) at bs end = spot at (LoadThen site to element root index rest) bs
skip_in (StoreThen site element root index from rest) at bs end =
    spot at (StoreThen site element root index from rest) bs
skip_in (ClearThen array rest) at bs end = spot at (ClearThen array rest) bs
skip_in (IfThen site test chosen other rest) at bs end =
    if is_decided test chosen other
    then (if is_zero (constant_value test)
    then skip_in other (IntoOther ∷ at) (bit (Behind ∷ at) rest ∷ bs) (skip_in rest (Behind ∷ at) bs end)
    else skip_in chosen (IntoChosen ∷ at) (bit (Behind ∷ at) rest ∷ bs) (skip_in rest (Behind ∷ at) bs end))
    else spot at (IfThen site test chosen other rest) bs
skip_in (LoopThen site test_first test answer body rest) at bs end =
    spot at (LoopThen site test_first test answer body rest) bs
skip_in (BarrierThen site rest) at bs end = spot at (BarrierThen site rest) bs

-- where pieces begin
abbrev pub begins : List Bit → Spot
begins [] = spot [] NoLine []
begins (b ∷ bs) = skip_in b.lines b.at bs (begins bs)

abbrev pub skip : Place → Lines → List Bit → Spot
skip at lines bs = skip_in lines at bs (begins bs)

-- the line is no end with a piece behind it, and no choice of a constant
abbrev pub IsKept : Lines → List Bit → Type 0
IsKept NoLine [] = Unit {0}
IsKept NoLine (b ∷ bs) = ⊥
IsKept (IfThen site test chosen other rest) bs = is_decided test chosen other ≡ false
IsKept _ bs = Unit {0}

pub kept_skip : (at : Place) (lines : Lines) (bs : List Bit) → IsKept lines bs → skip at lines bs ≡ spot at lines bs
kept_skip at NoLine [] k = refl
kept_skip at NoLine (b ∷ bs) k = absurd k
kept_skip at (SetThen to work rest) bs k = refl
kept_skip at (LoadThen site to element root index rest) bs k = refl
kept_skip at (StoreThen site element root index from rest) bs k = refl
kept_skip at (ClearThen array rest) bs k = refl
kept_skip at (IfThen site test chosen other rest) bs k =
    ap (λ (t : Test). if t then (if is_zero (constant_value test)
    then skip (IntoOther ∷ at) other (bit (Behind ∷ at) rest ∷ bs)
    else skip (IntoChosen ∷ at) chosen (bit (Behind ∷ at) rest ∷ bs))
    else spot at (IfThen site test chosen other rest) bs) k
kept_skip at (LoopThen site test_first test answer body rest) bs k = refl
kept_skip at (BarrierThen site rest) bs k = refl

pub into_skip : (at : Place) (site : ℕ) (test : Atom) (chosen other rest : Lines) (bs : List Bit) →
    is_decided test chosen other ≡ true → skip at (IfThen site test chosen other rest) bs ≡
    (if is_zero (constant_value test) then skip (IntoOther ∷ at) other (bit (Behind ∷ at) rest ∷ bs)
    else skip (IntoChosen ∷ at) chosen (bit (Behind ∷ at) rest ∷ bs))
into_skip at site test chosen other rest bs e =
    ap (λ (t : Test). if t then (if is_zero (constant_value test)
    then skip (IntoOther ∷ at) other (bit (Behind ∷ at) rest ∷ bs)
    else skip (IntoChosen ∷ at) chosen (bit (Behind ∷ at) rest ∷ bs))
    else spot at (IfThen site test chosen other rest) bs) e

-- lines before lines before lines
pub join_assoc : (a b c : Lines) → joined_to (joined_to a b) c ≡ joined_to a (joined_to b c)
join_assoc NoLine b c = refl
join_assoc (SetThen to work rest) b c = ap (SetThen to work) (join_assoc rest b c)
join_assoc (LoadThen site to element root index rest) b c =
    ap (LoadThen site to element root index) (join_assoc rest b c)
join_assoc (StoreThen site element root index from rest) b c =
    ap (StoreThen site element root index from) (join_assoc rest b c)
join_assoc (ClearThen array rest) b c = ap (ClearThen array) (join_assoc rest b c)
join_assoc (IfThen site test chosen other rest) b c = ap (IfThen site test chosen other) (join_assoc rest b c)
join_assoc (LoopThen site test_first test answer body rest) b c =
    ap (LoopThen site test_first test answer body) (join_assoc rest b c)
join_assoc (BarrierThen site rest) b c = ap (BarrierThen site) (join_assoc rest b c)

-- ---- what is left to do

-- a part of what the given item has left: the end of a list of the simple text, or joined to the next part
pub data Mark : Type 0 where
  Own : (place : Place) → Mark
  More : (place : Place) → Mark

abbrev pub head_lines : Tasks → Lines
head_lines NoTask = NoLine
head_lines (LinesAt at lines k) = lines
head_lines (AnswerAt at test answer body n k) = NoLine

abbrev pub rest_tasks : Tasks → Tasks
rest_tasks NoTask = NoTask
rest_tasks (LinesAt at lines k) = k
rest_tasks (AnswerAt at test answer body n k) = NoTask

abbrev pub spliced_tasks : Tasks → List Mark → Tasks
spliced_tasks NoTask es = NoTask
spliced_tasks (LinesAt at lines k) [] = NoTask
spliced_tasks (LinesAt at lines k) (Own p ∷ es) = LinesAt p (spliced lines) (spliced_tasks k es)
spliced_tasks (LinesAt at lines k) (More p ∷ es) =
    LinesAt p (joined_to (spliced lines) (head_lines (spliced_tasks k es))) (rest_tasks (spliced_tasks k es))
spliced_tasks (AnswerAt at test answer body n k) [] = NoTask
spliced_tasks (AnswerAt at test answer body n k) (Own p ∷ es) =
    AnswerAt p (spliced test) answer (spliced body) n (spliced_tasks k es)
spliced_tasks (AnswerAt at test answer body n k) (More p ∷ es) = NoTask

-- the pieces behind a part that is joined to the next
abbrev pub bits : Tasks → List Mark → List Bit
bits (LinesAt at lines k) (Own p ∷ es) = bit at lines ∷ []
bits (LinesAt at lines k) (More p ∷ es) = bit at lines ∷ bits k es
bits _ es = []

-- the same place for the next part
abbrev pub moved_to : Place → List Mark → List Mark
moved_to p [] = []
moved_to p (Own q ∷ es) = Own p ∷ es
moved_to p (More q ∷ es) = More p ∷ es
