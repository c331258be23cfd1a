-- A source is compiled or refused, and never both.
use Rattle.std.proofs.Common.{◌≡◌, ℕ, zero, suc, List, [], ◌∷◌, length, Some, None, inl, inr, subst}
use Rattle.std.specs.Prelude.{slice_get}
use Rattle.wg_num.specs.declared.types.Place.{Place}
use Rattle.cl_token.specs.declared.token.Token.{Token}
use Rattle.cl_token.specs.Places.{place_at}
use Rattle.cl_prep.specs.declared.prep.Define.{Define}
use Rattle.cl_tree.specs.Syntax.{Syntax}
use Rattle.cl_tree.specs.Grammar.{SpellsUnit}
use Rattle.cl_read.proofs.WholeUnit.{same_unit}
use Rattle.cl_meaning.specs.Typed.{Unit'}
use Rattle.cl_check.specs.Checked.{IsRefused}
use Rattle.cl_short_vec.specs.Unit.{scalarised_of}
use Rattle.cl_check.proofs.Deciding.{accepted_or_not}
use Rattle.cl_front.specs.declared.condition.Condition.{Condition}
use Rattle.cl_front.specs.declared.front.SourceError.{SourceError}
use Rattle.cl_front.specs.declared.front.SourceError.TheVariants as errors
use Rattle.cl_front.specs.Front.{HasUnit, IsSource, IsRefusal, place_of_token}
use Rattle.cl_front.specs.Typed.{places_of, HasTypedUnit, IsFaulty, HasNoTypedUnit, IsKernelRefusal}
use Rattle.cl_front.specs.Typed.{IsUnitRefusal}
use Rattle.cl_front.proofs.FrontLemmas.{one_reading, refused_or_unit}

-- the place of a token that is there, and of the end where there is none
pub place_there : (bytes : List ℕ) (tokens : List Token) (n : ℕ) (place : Place) →
    slice_get (places_of bytes tokens) n ≡ Some place → place ≡ place_of_token bytes tokens n
place_there bytes [] zero place is = let never : ⊥ = cc in absurd never
place_there bytes [] (suc n) place is = let never : ⊥ = cc in absurd never
place_there bytes (t ∷ ts) zero place is = cc
place_there bytes (t ∷ ts) (suc n) place is = place_there bytes ts n place is

pub place_not_there : (bytes : List ℕ) (tokens : List Token) (n : ℕ) (place : Place) →
    slice_get (places_of bytes tokens) n ≡ None → place ≡ place_at bytes (length bytes) →
    place ≡ place_of_token bytes tokens n
place_not_there bytes [] zero place is end = end
place_not_there bytes [] (suc n) place is end = end
place_not_there bytes (t ∷ ts) zero place is end = let never : ⊥ = cc in absurd never
place_not_there bytes (t ∷ ts) (suc n) place is end = place_not_there bytes ts n place is end

-- a source has one list of expanded tokens, and one unit
one_expanded : (bytes : List ℕ) (defines : List Define) (a b : List Token) (u v : Syntax) →
    IsSource bytes defines a u → IsSource bytes defines b v → a ≡ b
one_expanded bytes defines a b u v x y = one_reading bytes defines x.read.0 y.read.0 a b x.read.1 y.read.1

one_unit : (bytes : List ℕ) (defines : List Define) (a b : List Token) (u v : Syntax) → IsSource bytes defines a u →
    IsSource bytes defines b v → u ≡ v
one_unit bytes defines a b u v x y =
    same_unit b u v (subst (λ (ts : List Token). SpellsUnit u ts) (one_expanded bytes defines a b u v x y) x.spelled)
    y.spelled

-- a source with a unit
pub has_unit : (bytes : List ℕ) (defines : List Define) (expanded : List Token) (unit : Syntax) →
    IsSource bytes defines expanded unit → HasUnit bytes defines
has_unit bytes defines expanded unit is =
    (unit, expanded, is)

faulty_or_compiled : (bytes : List ℕ) (defines : List Define) (kernel : List ℕ) (condition : Condition)
    (place : Place) (typed : Unit') → IsFaulty bytes defines kernel condition place →
    HasTypedUnit bytes defines kernel typed → ⊥
faulty_or_compiled bytes defines kernel condition place typed bad good =
    let tokens =
    one_expanded bytes defines bad.expanded good.expanded bad.unit good.unit bad.is_source good.is_source in
    let unit = one_unit bytes defines bad.expanded good.expanded bad.unit good.unit bad.is_source good.is_source in
    let refused : IsRefused (places_of bytes good.expanded) kernel (scalarised_of good.unit) bad.fault bad.token =
    subst (λ (u : Syntax). IsRefused (places_of bytes good.expanded) kernel (scalarised_of u) bad.fault bad.token)
    unit (subst (λ (ts : List Token). IsRefused (places_of bytes ts) kernel (scalarised_of bad.unit) bad.fault
    bad.token) tokens bad.refused) in
    accepted_or_not (places_of bytes good.expanded) kernel (scalarised_of good.unit) bad.fault bad.token refused
    good.accepted

-- a source that is refused is not compiled
pub refused_or_compiled : (bytes : List ℕ) (defines : List Define) (kernel : List ℕ) (condition : Condition)
    (place : Place) (typed : Unit') → HasNoTypedUnit bytes defines kernel condition place →
    HasTypedUnit bytes defines kernel typed → ⊥
refused_or_compiled bytes defines kernel condition place typed refused good = elim refused [
  | inl stands ↦ refused_or_unit bytes defines condition place stands (has_unit bytes defines good.expanded good.unit
      good.is_source)
  | inr faulty ↦ faulty_or_compiled bytes defines kernel condition place typed faulty good
]

-- two typed units of a source are one
pub one_typed : (bytes : List ℕ) (defines : List Define) (kernel : List ℕ) (t u : Unit') →
    HasTypedUnit bytes defines kernel t → HasTypedUnit bytes defines kernel u → t ≡ u
one_typed bytes defines kernel t u x y =
    let tokens = one_expanded bytes defines x.expanded y.expanded x.unit y.unit x.is_source y.is_source in
    let unit = one_unit bytes defines x.expanded y.expanded x.unit y.unit x.is_source y.is_source in
    cc

-- what refuses a source refuses it for each kernel
pub source_refused : (bytes : List ℕ) (defines : List Define) (kernel : List ℕ) (e : SourceError) →
    IsRefusal bytes defines e → IsKernelRefusal bytes defines kernel e
source_refused bytes defines kernel (errors.Refused condition place) h = inl h
source_refused bytes defines kernel errors.Memory h = tt

pub unit_refused : (bytes : List ℕ) (defines : List Define) (kernel : List ℕ) (e : SourceError) →
    IsUnitRefusal bytes defines kernel e → IsKernelRefusal bytes defines kernel e
unit_refused bytes defines kernel (errors.Refused condition place) h = inr h
unit_refused bytes defines kernel errors.Memory h = tt
