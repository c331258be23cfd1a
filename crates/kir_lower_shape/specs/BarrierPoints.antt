-- The barrier lines of a kernel with the ways of their marks, and when these tell them apart.
use Rattle.std.specs.Prelude.{◌≡◌, ℕ, zero, suc, ◌+◌, List, [], ◌∷◌, ◌++◌, length}
use Rattle.std.specs.Prelude.{Bool as Test}
use Rattle.wg_num.specs.declared.types.IntType.{IntType}
use Rattle.cl_model.specs.declared.program.Root.{Root}
use Rattle.cl_model.specs.Task.{Leg as ProgramLeg, Point as ProgramPoint}
use Rattle.kir.specs.declared.line.Atom.{Atom}
use Rattle.kir.specs.Tree.{Work, Lines, SetThen, LoadThen, StoreThen, ClearThen, IfThen, LoopThen, BarrierThen}
use Rattle.kir.specs.Places.{Leg, Behind, IntoChosen, IntoOther, IntoTest, ToAnswer, IntoBody, others_of}
use Rattle.kir_lower_shape.specs.Marks.{Way, Marks, MarkThen, FormThen}

-- a barrier line among lines, by the legs that lead to it, the first leg first, and the way of its mark
pub data Spot : Lines → Marks → List Leg → Way → Type 0 where
  at_barrier : {site : ℕ} {rest : Lines} {way : Way} {marks : Marks} →
      Spot (BarrierThen site rest) (MarkThen way marks) [] way
  past_barrier : {site : ℕ} {rest : Lines} {own way : Way} {marks : Marks} {legs : List Leg} →
      Spot rest marks legs way → Spot (BarrierThen site rest) (MarkThen own marks) (Behind ∷ legs) way
  past_set : {to : ℕ} {work : Work} {rest : Lines} {own way : Way} {marks : Marks} {legs : List Leg} →
      Spot rest marks legs way → Spot (SetThen to work rest) (MarkThen own marks) (Behind ∷ legs) way
  past_load : {site to : ℕ} {element : IntType} {root : Root} {index : Atom} {rest : Lines} {own way : Way}
      {marks : Marks} {legs : List Leg} → Spot rest marks legs way
      → Spot (LoadThen site to element root index rest) (MarkThen own marks) (Behind ∷ legs) way
  past_store : {site : ℕ} {element : IntType} {root : Root} {index from : Atom} {rest : Lines} {own way : Way}
      {marks : Marks} {legs : List Leg} → Spot rest marks legs way
      → Spot (StoreThen site element root index from rest) (MarkThen own marks) (Behind ∷ legs) way
  past_clear : {array : ℕ} {rest : Lines} {own way : Way} {marks : Marks} {legs : List Leg} →
      Spot rest marks legs way → Spot (ClearThen array rest) (MarkThen own marks) (Behind ∷ legs) way
  past_if : {site : ℕ} {test : Atom} {chosen other rest : Lines} {own way : Way} {one two marks : Marks}
      {legs : List Leg} → Spot rest marks legs way →
      Spot (IfThen site test chosen other rest) (FormThen own one two marks) (Behind ∷ legs) way
  in_chosen : {site : ℕ} {test : Atom} {chosen other rest : Lines} {own way : Way} {one two marks : Marks}
      {legs : List Leg} → Spot chosen one legs way →
      Spot (IfThen site test chosen other rest) (FormThen own one two marks) (IntoChosen ∷ legs) way
  in_other : {site : ℕ} {test : Atom} {chosen other rest : Lines} {own way : Way} {one two marks : Marks}
      {legs : List Leg} → Spot other two legs way →
      Spot (IfThen site test chosen other rest) (FormThen own one two marks) (IntoOther ∷ legs) way
  past_loop : {site : ℕ} {first : Test} {answer : Atom} {test body rest : Lines} {own way : Way}
      {one two marks : Marks} {legs : List Leg} → Spot rest marks legs way →
      Spot (LoopThen site first test answer body rest) (FormThen own one two marks) (Behind ∷ legs) way
  in_test : {site : ℕ} {first : Test} {answer : Atom} {test body rest : Lines} {own way : Way} {one two marks : Marks}
      {legs : List Leg} → Spot test one legs way →
      Spot (LoopThen site first test answer body rest) (FormThen own one two marks) (IntoTest ∷ legs) way
  in_body : {site : ℕ} {first : Test} {answer : Atom} {test body rest : Lines} {own way : Way} {one two marks : Marks}
      {legs : List Leg} → Spot body two legs way →
      Spot (LoopThen site first test answer body rest) (FormThen own one two marks) (IntoBody ∷ legs) way

-- how many loops the legs lead into
abbrev pub loops_in : List Leg → ℕ
loops_in [] = 0
loops_in (Behind ∷ legs) = loops_in legs
loops_in (IntoChosen ∷ legs) = loops_in legs
loops_in (IntoOther ∷ legs) = loops_in legs
loops_in (IntoTest ∷ legs) = suc (loops_in legs)
loops_in (ToAnswer ∷ legs) = suc (loops_in legs)
loops_in (IntoBody ∷ legs) = suc (loops_in legs)

-- the numbers behind the first so many
abbrev pub behind_first : ℕ → List ℕ → List ℕ
behind_first zero ns = ns
behind_first (suc n) ns = behind_first n (others_of ns)

-- the way, with what follows, determines the iterations begun of so many loops around and what follows
abbrev pub IsFair : Way → ℕ → Type 0
IsFair way d = (begun begun' : List ℕ) (xs ys : ProgramPoint) → length begun ≡ d → length begun' ≡ d →
    way begun ++ xs ≡ way begun' ++ ys → (begun ≡ begun') × (xs ≡ ys)

-- the points of barrier lines, with so many loops around the lines, stand below the way, at a leg of its own; and no
-- two are one
pub record AreTold (way : Way) (d : ℕ) (Own : ProgramLeg → Type 0) (lines : Lines) (marks : Marks) : Type 0 where
  pub under : (legs : List Leg) (w : Way) → Spot lines marks legs w → (begun : List ℕ) →
      length begun ≡ loops_in legs + d
      → (leg : ProgramLeg) × (tail : ProgramPoint) × Own leg ×
      (w begun ≡ way (behind_first (loops_in legs) begun) ++ leg ∷ tail)
  pub one : (legs legs' : List Leg) (w w' : Way) → Spot lines marks legs w → Spot lines marks legs' w' →
      (begun begun' : List ℕ) → length begun ≡ loops_in legs + d → length begun' ≡ loops_in legs' + d
      → w begun ≡ w' begun' → (legs ≡ legs') × (begun ≡ begun')

-- the same of what may stand at the way itself
pub record IsTold (way : Way) (d : ℕ) (lines : Lines) (marks : Marks) : Type 0 where
  pub under : (legs : List Leg) (w : Way) → Spot lines marks legs w → (begun : List ℕ) →
      length begun ≡ loops_in legs + d → (tail : ProgramPoint) ×
      (w begun ≡ way (behind_first (loops_in legs) begun) ++ tail)
  pub one : (legs legs' : List Leg) (w w' : Way) → Spot lines marks legs w → Spot lines marks legs' w' →
      (begun begun' : List ℕ) → length begun ≡ loops_in legs + d → length begun' ≡ loops_in legs' + d
      → w begun ≡ w' begun' → (legs ≡ legs') × (begun ≡ begun')
