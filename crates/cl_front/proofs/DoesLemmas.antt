-- A source whose unit without vectors is accepted has a typed unit; the unit without vectors is what it should be, and
-- in its program each vector statement stands in its function and does its steps.
use Rattle.std.proofs.Common.{◌≡◌, ℕ, List, [], Result, Ok, Err, IfOk, sym, subst}
use Rattle.wg_num.specs.declared.types.Place.{Place}
use Rattle.cl_token.specs.declared.token.Token.{Token}
use Rattle.cl_prep.specs.declared.prep.Define.{Define}
use Rattle.cl_tree.specs.Syntax.{Syntax, view}
use Rattle.cl_meaning.specs.Typed.{Unit'}
use Rattle.cl_meaning.specs.Meant.{start_of, unit_meant}
use Rattle.cl_limits.specs.Judged.{IsAccepted}
use Rattle.cl_check_sound.specs.Erased.{program_of}
use Rattle.cl_check_sound.specs.Law.{DefinesFit}
use Rattle.cl_check_sound.proofs.Spelled.{spelled_wide}
use Rattle.cl_check_sound.proofs.Expanded.{expanded_read}
use Rattle.cl_short_vec.specs.Kinds.{no_names}
use Rattle.cl_short_vec.specs.Marks.{marked}
use Rattle.cl_short_vec.specs.Unit.{scalarised_of}
use Rattle.cl_short_vec_form.proofs.Forms.{forms_are}
use Rattle.cl_short_vec_form.proofs.StatementCounts.{forms_small}
use Rattle.cl_short_vec_form.proofs.Long.{forms_long}
use Rattle.cl_short_vec_faults.proofs.KeptUnits.{forms_keep}
use Rattle.cl_short_vec_correct.specs.Each.{EachIsDone}
use Rattle.cl_short_vec_correct.proofs.Statements.{statements_do}
use Rattle.cl_front.specs.declared.front.SourceError.{SourceError}
use Rattle.cl_front.specs.declared.typing.Source.{Source}
use Rattle.cl_front.specs.Front.{IsSource, IsScalarSource}
use Rattle.cl_front.specs.ScalarForm.{IsScalarFormOf}
use Rattle.cl_front.specs.Forms.{SourcesFormed, TypedFormed}
use Rattle.cl_front.specs.Typed.{places_of, HasTypedUnit}

source_does : (source : List ℕ) (defines : List Define) (kernel : List ℕ) (expanded : List Token) (unit : Syntax)
    (typed : Unit') → IsSource source defines expanded unit →
    IsAccepted (places_of source expanded) kernel (scalarised_of unit) →
    typed ≡ unit_meant (places_of source expanded) kernel (scalarised_of unit) → DefinesFit defines →
    EachIsDone (program_of typed) (marked no_names unit) (start_of (places_of source expanded) (scalarised_of unit)) []
source_does source defines kernel expanded unit typed s accepted means fit =
    subst (λ (t : Unit'). EachIsDone (program_of t) (marked no_names unit)
    (start_of (places_of source expanded) (scalarised_of unit)) []) (sym means)
    (statements_do source s.read.0 expanded defines unit (places_of source expanded) kernel s.read.1.cuts fit
    s.read.1.expands s.spelled s.vectors accepted)

pub source_form : (source : List ℕ) (defines : List Define) (expanded : List Token) (unit : Syntax) →
    IsSource source defines expanded unit → DefinesFit defines → IsScalarFormOf unit (scalarised_of unit)
source_form source defines expanded unit s fit =
    let shape = spelled_wide unit expanded s.spelled
    (expanded_read source s.read.0 expanded defines s.read.1.cuts fit s.read.1.expands) in
    record {
      plain = forms_are unit shape s.vectors;
      kept = (forms_keep unit shape s.vectors).1;
      small = forms_small;
      long = forms_long;
    }

pub has_typed : (source : List ℕ) (defines : List Define) (kernel : List ℕ) (expanded : List Token) (form : Syntax)
    (places : List Place) (typed : Unit') → IsScalarSource source defines expanded form →
    places ≡ places_of source expanded → IsAccepted places kernel form → typed ≡ unit_meant places kernel form →
    HasTypedUnit source defines kernel typed
has_typed source defines kernel expanded form places typed s p accepted means =
    let accepted' = subst (λ (ps : List Place). IsAccepted ps kernel (scalarised_of s.unit)) p
    (subst (IsAccepted places kernel) s.form_is accepted) in
    let means' = subst (λ (ps : List Place). typed ≡ unit_meant ps kernel (scalarised_of s.unit)) p
    (subst (λ (t : Syntax). typed ≡ unit_meant places kernel t) s.form_is means) in
    record {
      expanded = expanded;
      unit = s.unit;
      is_source = s.is_source;
      accepted = accepted';
      means = means';
    }

pub sources_formed : SourcesFormed
sources_formed source defines expanded unit fit s = source_form source defines expanded unit s fit

pub typed_formed : TypedFormed
typed_formed source defines kernel typed fit h =
    record {
      form = source_form source defines h.expanded h.unit h.is_source fit;
      does = source_does source defines kernel h.expanded h.unit typed h.is_source h.accepted h.means fit;
    }

pub scalar_formed : (source : List ℕ) (defines : List Define) (expanded : List Token) (form : Syntax) →
    DefinesFit defines → (h : IsScalarSource source defines expanded form) → IsScalarFormOf h.unit form
scalar_formed source defines expanded form fit h =
    subst (IsScalarFormOf h.unit) (sym h.form_is) (source_form source defines expanded h.unit h.is_source fit)

pub read_formed : (source : List ℕ) (defines : List Define) (r : Result Source SourceError) →
    IfOk r (λ s. DefinesFit defines → (h : IsScalarSource source defines s.tokens.items (view s.unit)) →
    IsScalarFormOf h.unit (view s.unit))
read_formed source defines (Ok s) = λ fit h. scalar_formed source defines s.tokens.items (view s.unit) fit h
read_formed source defines (Err e) = tt
