-- The typed units of a launch file's launches.
use Rattle.std.proofs.Common.{◌≡◌, ℕ, suc, ◌+◌, ◌<◌, List, [], ◌∷◌, ◌++◌, length, map, take, drop, get_or, inl, inr}
use Rattle.std.proofs.Common.{refl, sym, ◌∙◌, ap, ap₂, subst, arith}
use Rattle.std.proofs.Math.Seq.{take-suc, drop-cons}
use Rattle.std.proofs.lemmas.List.{take-append-drop, map-append}
use Rattle.wg_num.specs.declared.types.Place.{Place}
use Rattle.cl_prep.specs.declared.prep.Define.{Define}
use Rattle.cl_meaning.specs.Typed.{Unit'}
use Rattle.launch_file.specs.declared.text.LaunchPart.{LaunchPart}
use Rattle.launch_file.specs.Texts.{Text, Part, part_of}
use Rattle.cl_front.specs.declared.condition.Condition.{Condition}
use Rattle.cl_front.specs.Typed.{HasTypedUnit, IsFaulty}
use Rattle.cl_check_sound.specs.Law.{DefinesFit}
use Rattle.cl_front.proofs.CompileLemmas.{refused_or_compiled, one_typed}
use Rattle.cl_front.proofs.ValidLemmas.{accepted_valid}
use Rattle.wg_compile.specs.Correct.{KeepsOnceIn}
use Rattle.wg_compile.proofs.Plans.{kept_in}
use Rattle.wg_top.specs.declared.RunError.{RunError}
use Rattle.wg_top.specs.declared.RunError.TheVariants.{Source, Memory}
use Rattle.wg_top.specs.Stages.{ProgramCause, KernelCause, KernelsCause}
use Rattle.wg_top.specs.Units.{HaveTypedUnits, IsFirstRefused}

-- ---- a source has one list of typed units, and no refusal beside it

pub one_units : (bytes : List ℕ) (defines : List Define) (parts : List Part) (us vs : List Unit') →
    HaveTypedUnits bytes defines parts us → HaveTypedUnits bytes defines parts vs → us ≡ vs
one_units bytes defines [] [] [] x y = refl
one_units bytes defines (part ∷ parts) (u ∷ us) (v ∷ vs) x y =
    ap₂ (λ a as'. a ∷ as') (one_typed bytes defines part.kernel u v x.0 y.0)
    (one_units bytes defines parts us vs x.1 y.1)
one_units bytes defines [] (u ∷ us) vs x y = absurd x
one_units bytes defines [] [] (v ∷ vs) x y = absurd y
one_units bytes defines (part ∷ parts) [] vs x y = absurd x
one_units bytes defines (part ∷ parts) (u ∷ us) [] x y = absurd y

pub no_refused : (bytes : List ℕ) (defines : List Define) (parts : List Part) (us : List Unit')
    (condition : Condition) (place : Place) → IsFirstRefused bytes defines parts condition place →
    HaveTypedUnits bytes defines parts us → ⊥
no_refused bytes defines [] us condition place refused are = refused
no_refused bytes defines (part ∷ parts) [] condition place refused are = are
no_refused bytes defines (part ∷ parts) (u ∷ us) condition place refused are = elim refused [
  | inl faulty ↦ refused_or_compiled bytes defines part.kernel condition place u (inr faulty) are.0
  | inr later ↦ no_refused bytes defines parts us condition place later.2 are.1
]

-- ---- what is kept once of the unit of an accepted source has equal values

pub kept_once_in_each : (source : List ℕ) (defines : List Define) (kernel : List ℕ) (unit : Unit') →
    DefinesFit defines → HasTypedUnit source defines kernel unit → KeepsOnceIn unit
kept_once_in_each source defines kernel unit fit typed =
    kept_in unit (accepted_valid source defines kernel unit fit typed)

-- ---- one launch more

compiled_behind : (bytes : List ℕ) (defines : List Define) (parts : List Part) (us : List Unit') (part : Part)
    (u : Unit') → HaveTypedUnits bytes defines parts us → HasTypedUnit bytes defines part.kernel u →
    HaveTypedUnits bytes defines (parts ++ part ∷ []) (us ++ u ∷ [])
compiled_behind bytes defines [] [] part u are one = (one, tt)
compiled_behind bytes defines (p ∷ parts) (v ∷ us) part u are one =
    (are.0, compiled_behind bytes defines parts us part u are.1 one)
compiled_behind bytes defines [] (v ∷ us) part u are one = absurd are
compiled_behind bytes defines (p ∷ parts) [] part u are one = absurd are

pub refused_behind : (bytes : List ℕ) (defines : List Define) (parts : List Part) (us : List Unit') (part : Part)
    (rest : List Part) (condition : Condition) (place : Place) → HaveTypedUnits bytes defines parts us →
    IsFaulty bytes defines part.kernel condition place →
    IsFirstRefused bytes defines (parts ++ (part ∷ rest)) condition place
refused_behind bytes defines [] [] part rest condition place are one = inl one
refused_behind bytes defines (p ∷ parts) (v ∷ us) part rest condition place are one =
    inr (
      v,
      are.0,
      refused_behind bytes defines parts us part rest condition place are.1 one,
    )
refused_behind bytes defines [] (v ∷ us) part rest condition place are one = absurd are
refused_behind bytes defines (p ∷ parts) [] part rest condition place are one = absurd are

-- the first of some things, by what is seen of them, and one more
module _ {X P : Type 0} (view : X → P) (xs : List X) (k : ℕ) (x : X) (lt : k < length xs) (is : x ≡ get_or xs k x) where
  pub more_of : map view (take (k + 1) xs) ≡ map view (take k xs) ++ view x ∷ []
  more_of =
      let next : k + 1 ≡ suc k = omega arith in
      ap (λ n. map view (take n xs)) next ∙
      (ap (map view) (take-suc xs k x lt ∙ ap (λ y. take k xs ++ y ∷ []) (sym is)) ∙
      map-append view (take k xs) (x ∷ []))

  pub split_of : map view xs ≡ map view (take k xs) ++ (view x ∷ map view (drop (suc k) xs))
  split_of = ap (map view) (sym (take-append-drop k xs)) ∙
      (map-append view (take k xs) (drop k xs) ∙ ap (λ ys. map view (take k xs) ++ map view ys) (drop-cons xs k x lt ∙
      ap (λ y. y ∷ drop (suc k) xs) (sym is)))

-- some things and one more, by what is seen of them
pub pushed_of : {X P : Type 0} (view : X → P) (xs new : List X) (x : X) → new ≡ xs ++ x ∷ [] →
    map view new ≡ map view xs ++ view x ∷ []
pushed_of view xs new x pushed = ap (map view) pushed ∙ map-append view xs (x ∷ [])

-- ---- the loop over the launches

-- one more launch is compiled
pub one_compiled : {X : Type 0} (unit : X → Unit') (bytes : List ℕ) (defines : List Define) (list : List LaunchPart)
    (k : ℕ) (part : LaunchPart) (kernels new : List X) (x : X) → k < length list → part ≡ get_or list k part →
    new ≡ kernels ++ x ∷ []
    → HaveTypedUnits bytes defines (map part_of (take k list)) (map unit kernels) →
    HasTypedUnit bytes defines (part_of part).kernel (unit x) →
    HaveTypedUnits bytes defines (map part_of (take (k + 1) list)) (map unit new)
one_compiled unit bytes defines list k part kernels new x lt is pushed are one =
    subst (λ (us : List Unit'). HaveTypedUnits bytes defines (map part_of (take (k + 1) list)) us)
    (sym (pushed_of unit kernels new x pushed))
    (subst (λ (ps : List Part). HaveTypedUnits bytes defines ps (map unit kernels ++ unit x ∷ []))
    (sym (more_of part_of list k part lt is)) (compiled_behind bytes defines (map part_of (take k list))
    (map unit kernels) (part_of part) (unit x) are one))

-- the launch at a place is refused
pub one_refused : {X : Type 0} (unit : X → Unit') (bytes : List ℕ) (defines : List Define) (list : List LaunchPart)
    (k : ℕ) (part : LaunchPart) (kernels : List X) (e : RunError) → k < length list → part ≡ get_or list k part
    → HaveTypedUnits bytes defines (map part_of (take k list)) (map unit kernels) →
    KernelCause bytes defines (part_of part).kernel e → KernelsCause bytes defines (map part_of list) e
one_refused unit bytes defines list k part kernels (Source condition place) lt is are cause =
    subst (λ (ps : List Part). IsFirstRefused bytes defines ps condition place)
    (sym (split_of part_of list k part lt is)) (refused_behind bytes defines (map part_of (take k list))
    (map unit kernels) (part_of part) (map part_of (drop (suc k) list)) condition place are cause)
one_refused unit bytes defines list k part kernels Memory lt is are cause = tt
one_refused unit bytes defines list k part kernels _ lt is are cause = absurd cause

-- the launches' refusal is one of the source
pub kernels_cause : (bytes : List ℕ) (text : Text) (parts : List Part) (e : RunError) → parts ≡ text.list →
    KernelsCause bytes text.defines parts e → ProgramCause bytes text e
kernels_cause bytes text parts (Source condition place) same cause =
    inr (subst (λ (ps : List Part). IsFirstRefused bytes text.defines ps condition place) same cause)
kernels_cause bytes text parts Memory same cause = tt
kernels_cause bytes text parts _ same cause = absurd cause

-- the names of the launches' kernels
pub names_of_parts : (list : List LaunchPart) →
    map (λ (p : LaunchPart). p.kernel) list ≡ map (λ (p : Part). p.kernel) (map part_of list)
names_of_parts [] = refl
names_of_parts (p ∷ list) = ap (λ ns. p.kernel ∷ ns) (names_of_parts list)
