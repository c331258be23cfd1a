-- What is proved of each typed unit of a source and of each refused one: its unit without vectors is what it should be.
-- No definition of `Typed` holds any of it.
use Rattle.std.specs.Prelude.{◌≡◌, ⊤, false, ℕ, List, []}
use Rattle.wg_num.specs.declared.types.Place.{Place}
use Rattle.cl_token.specs.declared.token.Token.{Token}
use Rattle.cl_prep.specs.declared.prep.Define.{Define}
use Rattle.cl_tree.specs.Syntax.{Syntax}
use Rattle.cl_meaning.specs.Typed.{Unit'}
use Rattle.cl_meaning.specs.Meant.{start_of}
use Rattle.cl_check_sound.specs.Erased.{program_of}
use Rattle.cl_check_sound.specs.Law.{DefinesFit}
use Rattle.cl_short_vec.specs.Kinds.{no_names}
use Rattle.cl_short_vec.specs.Marks.{marked}
use Rattle.cl_short_vec.specs.Unit.{scalarised_of}
use Rattle.cl_short_vec_faults.specs.SoundBut.{is_of_size}
use Rattle.cl_short_vec_faults.specs.UnitLaw.{PlainStands}
use Rattle.cl_short_vec_correct.specs.Each.{EachIsDone}
use Rattle.cl_short_vec_correct.specs.Law.{ReturnsRefused, BarriersRefused, NumbersScaled, OffsetsScaled, ContentsStand}
use Rattle.cl_short_vec_correct.specs.Law.{VectorsAre}
use Rattle.cl_front.specs.declared.condition.Condition.{Condition}
use Rattle.cl_front.specs.declared.front.SourceError.{SourceError}
use Rattle.cl_front.specs.declared.front.SourceError.TheVariants as errors
use Rattle.cl_front.specs.Front.{IsSource}
use Rattle.cl_front.specs.Typed.{HasTypedUnit, IsFaulty, places_of}
use Rattle.cl_front.specs.ScalarForm.{IsScalarFormOf}

-- The unit without vectors of an accepted source is what it should be, and in the typed program each vector statement
-- of the unit stands in its function and does its steps.
pub record TypedForm (source : List ℕ) (defines : List Define) (kernel : List ℕ) (typed : Unit')
    (h : HasTypedUnit source defines kernel typed) : Type 0 where
  pub form : IsScalarFormOf h.unit (scalarised_of h.unit)
  pub does : EachIsDone (program_of typed) (marked no_names h.unit)
      (start_of (places_of source h.expanded) (scalarised_of h.unit)) []

-- The unit without vectors of a refused source is what it should be. Where the fault is not the length of an array or a
-- limit of size, the unit with a number in the place of each vector is at fault too, or a leaf of a vector statement
-- that should be a number is none.
pub record FaultyForm (source : List ℕ) (defines : List Define) (kernel : List ℕ) (condition : Condition)
    (place : Place) (h : IsFaulty source defines kernel condition place) : Type 0 where
  pub form : IsScalarFormOf h.unit (scalarised_of h.unit)
  pub plain : is_of_size h.fault ≡ false → PlainStands (places_of source h.expanded) kernel h.unit → ⊥

-- of an error
abbrev pub ErrorForm : List ℕ → List Define → (kernel : List ℕ) → SourceError → Type 0
ErrorForm source defines kernel (errors.Refused condition place) =
    (h : IsFaulty source defines kernel condition place) → FaultyForm source defines kernel condition place h
ErrorForm source defines kernel errors.Memory = ⊤

-- So it is for every source, where each number that is given for a name fits a `long`.
abbrev pub SourcesFormed : Type 0
SourcesFormed = (source : List ℕ) (defines : List Define) (expanded : List Token) (unit : Syntax) →
    DefinesFit defines → IsSource source defines expanded unit → IsScalarFormOf unit (scalarised_of unit)

abbrev pub TypedFormed : Type 0
TypedFormed = (source : List ℕ) (defines : List Define) (kernel : List ℕ) (typed : Unit') → DefinesFit defines →
    (h : HasTypedUnit source defines kernel typed) → TypedForm source defines kernel typed h

abbrev pub FaultyFormed : Type 0
FaultyFormed = (source : List ℕ) (defines : List Define) (kernel : List ℕ) (condition : Condition) (place : Place) →
    DefinesFit defines → (h : IsFaulty source defines kernel condition place) →
    FaultyForm source defines kernel condition place h

-- What doing the steps of a vector statement means: an item that a `return` ends, or that stands at a barrier, does
-- none; a number that counts vectors is multiplied by the number of their components, so that `p[i]` stands that far
-- behind `p`, and `*p` where `p` points to; and what is set is the list of the components' values.
pub record StepsMean : Type 0 where
  pub returns : ReturnsRefused
  pub barriers : BarriersRefused
  pub scaled : NumbersScaled
  pub indexed : OffsetsScaled
  pub pointed : ContentsStand
  pub lists : VectorsAre

-- all in one
pub record FormsHold : Type 0 where
  pub sources : SourcesFormed
  pub typed : TypedFormed
  pub faulty : FaultyFormed
  pub steps : StepsMean
