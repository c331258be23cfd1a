-- Where the unit without vectors is refused, and not for the length of an array or its size, the unit with numbers in
-- the place of vectors does not stand.
use Rattle.std.proofs.Common.{◌≡◌, ℕ, List, [], ◌∷◌, length, None, Some, Err, Bool, true, false}
use Rattle.std.proofs.Common.{refl, sym, ◌∙◌, ap, subst, inl, inr, if◌then◌else◌}
use Rattle.std.proofs.lemmas.Bool.{false≢true}
use Rattle.std.proofs.lemmas.Option.{same_Some}
use Rattle.wg_num.specs.declared.types.Place.{Place}
use Rattle.cl_token.specs.declared.token.Token.{Token}
use Rattle.cl_prep.specs.declared.prep.Define.{Define}
use Rattle.cl_model.specs.Lists.{IsOneOf}
use Rattle.cl_tree.specs.Syntax.{Syntax}
use Rattle.cl_meaning.specs.declared.fault.Fault.{Fault}
use Rattle.cl_meaning.specs.declared.fault.Fault.TheVariants as faults
use Rattle.cl_meaning.specs.Visible.{Node}
use Rattle.cl_meaning.specs.Faults.{Asked, at_fault, looked, FirstFault}
use Rattle.cl_limits.specs.Kernel.{at_limit}
use Rattle.cl_limits.specs.Judged.{asked_in, sized_in, nodes_of}
use Rattle.cl_check.specs.declared.error.CheckError.{CheckError}
use Rattle.cl_check.specs.declared.error.CheckError.TheVariants as errors
use Rattle.cl_check.specs.Walk.{IfFault}
use Rattle.cl_check.specs.Checked.{IsRefused}
use Rattle.cl_check_sound.specs.Law.{DefinesFit}
use Rattle.cl_check_sound.proofs.Spelled.{spelled_wide}
use Rattle.cl_check_sound.proofs.Expanded.{expanded_read}
use Rattle.cl_short_vec.specs.Unit.{scalarised_of}
use Rattle.cl_short_vec_faults.specs.SoundBut.{is_of_size}
use Rattle.cl_short_vec_faults.specs.UnitLaw.{PlainStands, FormStands}
use Rattle.cl_short_vec_faults.proofs.UnitsStand.{units_stand}
use Rattle.cl_short_vec_correct.proofs.Returns.{returns_refused}
use Rattle.cl_short_vec_correct.proofs.Barriers.{barriers_refused}
use Rattle.cl_short_vec_correct.proofs.Offsets.{numbers_scaled, offsets_scaled, contents_stand}
use Rattle.cl_short_vec_correct.proofs.Lists.{vectors_are}
use Rattle.cl_front.proofs.DoesLemmas.{source_form, sources_formed, typed_formed}
use Rattle.cl_front.specs.declared.condition.Condition.TheVariants as conditions
use Rattle.cl_front.specs.declared.front.SourceError.{SourceError}
use Rattle.cl_front.specs.declared.front.SourceError.TheVariants as sources
use Rattle.cl_front.specs.Forms.{ErrorForm, FaultyFormed, FormsHold}
use Rattle.cl_front.specs.Front.{IsSource, IsScalarSource, place_of_token}
use Rattle.cl_front.specs.Typed.{places_of, IsFaulty}
use Rattle.cl_front.proofs.SourceNames.{source_names, source_few}

-- the first fault stands at one of the nodes
first_stands : (asked : Asked) (end : ℕ) (ns : List Node) (k : Fault) (token : ℕ) → FirstFault asked end ns k token →
    (n : Node) × IsOneOf ns n × (at_fault asked (looked n) k ≡ true)
first_stands asked end [] k token h = absurd h
first_stands asked end (n ∷ ns) k token (inl h) = (n, inl refl, h.at)
first_stands asked end (n ∷ ns) k token (inr h) = let x = first_stands asked end ns k token h.1 in (x.0, inr x.1, x.2)

size_of : (k j : Fault) → Some j ≡ Some k → is_of_size j ≡ true → is_of_size k ≡ true
size_of k j e h = sym (ap is_of_size (same_Some j k e)) ∙ h

-- the only limit that is none of size
limit_deep : (a b c d : Bool) (k : Fault) → (if a then Some faults.KernelTooLarge else
    (if b then Some faults.PrivateMemory else (if c then Some faults.BarriersTooDeep else
    (if d then Some faults.LocalMemory else None)))) ≡ Some k → is_of_size k ≡ false → c ≡ true
limit_deep true b c d k e s = absurd (false≢true (sym s ∙ size_of k faults.KernelTooLarge e refl))
limit_deep false true c d k e s = absurd (false≢true (sym s ∙ size_of k faults.PrivateMemory e refl))
limit_deep false false true d k e s = refl
limit_deep false false false true k e s = absurd (false≢true (sym s ∙ size_of k faults.LocalMemory e refl))
limit_deep false false false false k e s = absurd cc

form_refused : (places : List Place) (kernel : List ℕ) (unit : Syntax) (k : Fault) (token : ℕ) →
    FormStands places kernel unit → IsRefused places kernel (scalarised_of unit) k token → is_of_size k ≡ false → ⊥
form_refused places kernel unit k token h (inl r) s =
    let form = scalarised_of unit in
    let x = first_stands (asked_in places kernel form) (length places) (nodes_of places form) k token r in
    false≢true (sym (h.sound x.0 x.1 k s) ∙ x.2)
form_refused places kernel unit k token h (inr r) s =
    let u = sized_in places kernel (scalarised_of unit) in
    false≢true (sym h.shallow ∙ limit_deep (at_limit u faults.KernelTooLarge) (at_limit u faults.PrivateMemory)
    (at_limit u faults.BarriersTooDeep) (at_limit u faults.LocalMemory) k r.limit s)

pub source_plain : (source : List ℕ) (defines : List Define) (kernel : List ℕ) (expanded : List Token) (unit : Syntax)
    (k : Fault) (token : ℕ) → IsSource source defines expanded unit →
    IsRefused (places_of source expanded) kernel (scalarised_of unit) k token → DefinesFit defines →
    is_of_size k ≡ false → PlainStands (places_of source expanded) kernel unit → ⊥
source_plain source defines kernel expanded unit k token s r fit size plain =
    let names = source_names source s.read.0 expanded defines unit s.read.1.cuts s.read.1.expands s.spelled in
    form_refused (places_of source expanded) kernel unit k token
    (units_stand (places_of source expanded) kernel expanded unit s.spelled
    (source_few source s.read.0 expanded defines unit s.read.1.short s.read.1.cuts s.read.1.expands s.spelled)
    (spelled_wide unit expanded s.spelled (expanded_read source s.read.0 expanded defines s.read.1.cuts fit
    s.read.1.expands)) names.0 names.1 s.vectors plain) r size

-- what a check tells of its fault
pub fault_told : (A : Type 0) (e : CheckError) (k : Fault) (token : ℕ) (P : Fault → ℕ → Type 0) →
    e ≡ errors.Fault k token → IfFault {A = A} (Err e) P → P k token
fault_told A e k token P is h = subst (λ z. IfFault {A = A} (Err z) P) is h

pub is_faulty : (source : List ℕ) (defines : List Define) (kernel : List ℕ) (expanded : List Token) (form : Syntax)
    (places : List Place) (k : Fault) (token : ℕ) (place : Place) → IsScalarSource source defines expanded form →
    places ≡ places_of source expanded → IsRefused places kernel form k token →
    place ≡ place_of_token source expanded token → IsFaulty source defines kernel (conditions.Unit k) place
is_faulty source defines kernel expanded form places k token place s p refused at =
    let refused' = subst (λ (ps : List Place). IsRefused ps kernel (scalarised_of s.unit) k token) p
    (subst (λ (t : Syntax). IsRefused places kernel t k token) s.form_is refused) in
    record {
      expanded = expanded;
      unit = s.unit;
      is_source = s.is_source;
      fault = k;
      token = token;
      refused = refused';
      condition_is = refl;
      place_is = at;
    }

pub faulty_formed : FaultyFormed
faulty_formed source defines kernel condition place fit h =
    record {
      form = source_form source defines h.expanded h.unit h.is_source fit;
      plain = source_plain source defines kernel h.expanded h.unit h.fault h.token h.is_source h.refused fit;
    }

pub error_formed : (source : List ℕ) (defines : List Define) (kernel : List ℕ) (e : SourceError) →
    DefinesFit defines → ErrorForm source defines kernel e
error_formed source defines kernel (sources.Refused condition place) fit =
    faulty_formed source defines kernel condition place fit
error_formed source defines kernel sources.Memory fit = tt

pub forms_hold : FormsHold
forms_hold = record {
  sources = sources_formed;
  typed = typed_formed;
  faulty = faulty_formed;
  steps = record {
    returns = returns_refused;
    barriers = barriers_refused;
    scaled = numbers_scaled;
    indexed = offsets_scaled;
    pointed = contents_stand;
    lists = vectors_are;
  };
}
