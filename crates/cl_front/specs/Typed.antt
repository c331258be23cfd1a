-- What a source means for the name of a kernel: its typed unit, or the first fault of its unit.
use Rattle.std.specs.Prelude.{◌≡◌, ◌⊎◌, ⊤, ℕ, List, map}
use Rattle.wg_num.specs.declared.types.Place.{Place}
use Rattle.cl_token.specs.declared.token.Token.{Token}
use Rattle.cl_token.specs.Places.{place_at}
use Rattle.cl_prep.specs.declared.prep.Define.{Define}
use Rattle.cl_tree.specs.Syntax.{Syntax}
use Rattle.cl_meaning.specs.declared.fault.Fault.{Fault}
use Rattle.cl_meaning.specs.Typed.{Unit'}
use Rattle.cl_meaning.specs.Meant.{unit_meant}
use Rattle.cl_limits.specs.Judged.{IsAccepted}
use Rattle.cl_check.specs.Checked.{IsRefused}
use Rattle.cl_short_vec.specs.Unit.{scalarised_of}
use Rattle.cl_front.specs.declared.condition.Condition.{Condition}
use Rattle.cl_front.specs.declared.condition.Condition.TheVariants as conditions
use Rattle.cl_front.specs.declared.front.SourceError.{SourceError}
use Rattle.cl_front.specs.declared.front.SourceError.TheVariants as errors
use Rattle.cl_front.specs.Front.{IsSource, StandsAt, place_of_token}

-- the place of each token
abbrev pub places_of : List ℕ → List Token → List Place
places_of source tokens = map (λ t. place_at source t.start) tokens

-- No node of the unit without vectors is at fault, the kernel is within the limits, and this is the typed unit.
pub record HasTypedUnit (source : List ℕ) (defines : List Define) (kernel : List ℕ) (typed : Unit') : Type 0 where
  pub expanded : List Token
  pub unit : Syntax
  pub is_source : IsSource source defines expanded unit
  pub accepted : IsAccepted (places_of source expanded) kernel (scalarised_of unit)
  pub means : typed ≡ unit_meant (places_of source expanded) kernel (scalarised_of unit)

-- The condition is the first fault of the unit without vectors, and is reported at that place.
pub record IsFaulty (source : List ℕ) (defines : List Define) (kernel : List ℕ) (condition : Condition)
    (place : Place) : Type 0 where
  pub expanded : List Token
  pub unit : Syntax
  pub is_source : IsSource source defines expanded unit
  pub fault : Fault
  pub token : ℕ
  pub refused : IsRefused (places_of source expanded) kernel (scalarised_of unit) fault token
  pub condition_is : condition ≡ conditions.Unit fault
  pub place_is : place ≡ place_of_token source expanded token

-- the condition stands at that place: of the bytes, the macros, the grammar, the vectors, or the unit
abbrev pub HasNoTypedUnit : List ℕ → List Define → (kernel : List ℕ) → Condition → Place → Type 0
HasNoTypedUnit source defines kernel condition place =
    StandsAt source defines condition place ⊎ IsFaulty source defines kernel condition place

-- the source is refused with this error, or memory ran out
abbrev pub IsKernelRefusal : List ℕ → List Define → (kernel : List ℕ) → SourceError → Type 0
IsKernelRefusal source defines kernel (errors.Refused condition place) =
    HasNoTypedUnit source defines kernel condition place
IsKernelRefusal source defines kernel errors.Memory = ⊤

-- the same, once the unit is there
abbrev pub IsUnitRefusal : List ℕ → List Define → (kernel : List ℕ) → SourceError → Type 0
IsUnitRefusal source defines kernel (errors.Refused condition place) = IsFaulty source defines kernel condition place
IsUnitRefusal source defines kernel errors.Memory = ⊤
