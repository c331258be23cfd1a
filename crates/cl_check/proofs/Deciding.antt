-- A unit is accepted, or it is refused with one fault at one token.
use Rattle.std.proofs.Common.{◌≡◌, ◌<◌, ◌-◌, ℕ, Bool, true, false, List, [], ◌∷◌, length, get_or, Option, None, Some}
use Rattle.std.proofs.Common.{◌⊎◌, inl, inr, refl, ap, sym, ◌∙◌, subst, slice_index}
use Rattle.std.proofs.lemmas.Bool.{cases_order, false≢true}
use Rattle.std.proofs.lemmas.Option.{none-some}
use Rattle.wg_num.specs.declared.types.Place.{Place}
use Rattle.cl_model.specs.declared.program.Program as rust_program
use Rattle.cl_tree.specs.Syntax.{Syntax, Forest, first_of}
use Rattle.cl_meaning.specs.Declarations.{parts_of}
use Rattle.cl_meaning.specs.declared.fault.Fault.{Fault}
use Rattle.cl_meaning.specs.declared.fault.Fault.TheVariants as faults
use Rattle.cl_meaning.specs.Numbers.{number_of}
use Rattle.cl_meaning.specs.Visible.{Node}
use Rattle.cl_meaning.specs.Faults.{Asked, at_fault, looked, Stands, AllSound, FirstFault, token_of}
use Rattle.cl_meaning.specs.Typed.{Unit'}
use Rattle.cl_meaning.specs.Meant.{unit_meant}
use Rattle.cl_meaning.specs.View.{unit_of}
use Rattle.cl_limits.specs.Heights.{functions_in}
use Rattle.cl_limits.specs.Kernel.{weights_of, limit_of, sized_of}
use Rattle.cl_limits.specs.Judged.{nodes_of, asked_in, limit_in, IsAccepted}
use Rattle.cl_check.specs.Checked.{starts_in, IsRefused}

clash : {A : Type 0} (b : Bool) → b ≡ true → b ≡ false → A
clash b t f = absurd (false≢true (sym f ∙ t))

-- ---- a number has one fault

in_turn : List Fault
in_turn = faults.UnknownName ∷ faults.DeclaredTwice ∷ faults.OperandTypes ∷ faults.ArgumentCount ∷
    faults.ArgumentType ∷ faults.NotAssignable ∷ faults.ConstantWritten ∷ faults.OutsideType
    ∷ faults.LocalMisplaced ∷ faults.ProgramVariable ∷ faults.KernelSignature ∷ faults.Recursion ∷
    faults.PointerRoot ∷ faults.ArrayLength ∷ faults.Misplaced ∷ faults.CaseValue
    ∷ faults.ReturnFit ∷ faults.BarrierFlags ∷ faults.KernelTooLarge ∷ faults.PrivateMemory ∷ faults.BarriersTooDeep ∷
    faults.NoSuchKernel ∷ faults.LocalMemory ∷ faults.PrototypeMatch ∷ []

fault_of : ℕ → Fault
fault_of n = get_or in_turn (n - 401) faults.UnknownName

numbered : (k : Fault) → fault_of (number_of k) ≡ k
unfolding fault_of in_turn
numbered faults.UnknownName = refl
numbered faults.DeclaredTwice = refl
numbered faults.OperandTypes = refl
numbered faults.ArgumentCount = refl
numbered faults.ArgumentType = refl
numbered faults.NotAssignable = refl
numbered faults.ConstantWritten = refl
numbered faults.OutsideType = refl
numbered faults.LocalMisplaced = refl
numbered faults.ProgramVariable = refl
numbered faults.KernelSignature = refl
numbered faults.Recursion = refl
numbered faults.PointerRoot = refl
numbered faults.ArrayLength = refl
numbered faults.Misplaced = refl
numbered faults.CaseValue = refl
numbered faults.ReturnFit = refl
numbered faults.BarrierFlags = refl
numbered faults.KernelTooLarge = refl
numbered faults.PrivateMemory = refl
numbered faults.BarriersTooDeep = refl
numbered faults.NoSuchKernel = refl
numbered faults.LocalMemory = refl
numbered faults.PrototypeMatch = refl

one_number : (j k : Fault) → number_of j ≡ number_of k → j ≡ k
one_number j k e = sym (numbered j) ∙ ap fault_of e ∙ numbered k

-- ---- a node has one least fault

one_least : (test : Fault → Bool) (k j : Fault) → test k ≡ true →
    ((i : Fault) → number_of i < number_of k → test i ≡ false) → test j ≡ true →
    ((i : Fault) → number_of i < number_of j → test i ≡ false) →
    (number_of j ≡ number_of k) ⊎ ((number_of j < number_of k) ⊎ (number_of k < number_of j)) → j ≡ k
one_least test k j tk lk tj lj (inl e) = one_number j k e
one_least test k j tk lk tj lj (inr (inl h)) = clash (test j) tj (lk j h)
one_least test k j tk lk tj lj (inr (inr h)) = clash (test k) tk (lj k h)

stands_once : (asked : Asked) (end : ℕ) (n : Node) (k : Fault) (token : ℕ) (j : Fault) (other : ℕ) →
    Stands asked end n k token → Stands asked end n j other → (j ≡ k) × (other ≡ token)
stands_once asked end n k token j other x y =
    let e : j ≡ k =
    one_least (at_fault asked (looked n)) k j x.at x.least y.at y.least (cases_order (number_of j) (number_of k)) in
    (e, y.place ∙ (ap (λ i. token_of end i (first_of n.tree)) e ∙ sym x.place))

-- ---- nodes in order

sound_or_not : (asked : Asked) (end : ℕ) (ns : List Node) (k : Fault) (token : ℕ) → AllSound asked ns →
    FirstFault asked end ns k token → ⊥
sound_or_not asked end [] k token s f = f
sound_or_not asked end (n ∷ ns) k token s (inl x) = clash (at_fault asked (looked n) k) x.at (s.0 k)
sound_or_not asked end (n ∷ ns) k token s (inr f) = sound_or_not asked end ns k token s.1 f.1

first_once : (asked : Asked) (end : ℕ) (ns : List Node) (k : Fault) (token : ℕ) (j : Fault) (other : ℕ) →
    FirstFault asked end ns k token → FirstFault asked end ns j other → (j ≡ k) × (other ≡ token)
first_once asked end [] k token j other f g = absurd f
first_once asked end (n ∷ ns) k token j other (inl x) (inl y) = stands_once asked end n k token j other x y
first_once asked end (n ∷ ns) k token j other (inl x) (inr g) = clash (at_fault asked (looked n) k) x.at (g.0 k)
first_once asked end (n ∷ ns) k token j other (inr f) (inl y) = clash (at_fault asked (looked n) j) y.at (f.0 j)
first_once asked end (n ∷ ns) k token j other (inr f) (inr g) = first_once asked end ns k token j other f.1 g.1

-- ---- a unit

pub accepted_or_not : (places : List Place) (kernel : List ℕ) (unit : Syntax) (k : Fault) (token : ℕ) →
    IsRefused places kernel unit k token → ¬ IsAccepted places kernel unit
accepted_or_not places kernel unit k token (inl f) =
    λ a. sound_or_not (asked_in places kernel unit) (length places) (nodes_of places unit) k token a.sound f
accepted_or_not places kernel unit k token (inr x) = λ a. none-some k (sym a.within ∙ x.limit)

abbrev some_or : Fault → Option Fault → Fault
some_or d None = d
some_or d (Some k) = k

pub refused_once : (places : List Place) (kernel : List ℕ) (unit : Syntax) (k : Fault) (token : ℕ) (j : Fault)
    (other : ℕ) → IsRefused places kernel unit k token → IsRefused places kernel unit j other →
    (j ≡ k) × (other ≡ token)
refused_once places kernel unit k token j other (inl f) (inl g) =
    first_once (asked_in places kernel unit) (length places) (nodes_of places unit) k token j other f g
refused_once places kernel unit k token j other (inl f) (inr y) =
    absurd (sound_or_not (asked_in places kernel unit) (length places) (nodes_of places unit) k token y.sound f)
refused_once places kernel unit k token j other (inr x) (inl g) =
    absurd (sound_or_not (asked_in places kernel unit) (length places) (nodes_of places unit) j other x.sound g)
refused_once places kernel unit k token j other (inr x) (inr y) =
    (ap (some_or k) (sym y.limit ∙ x.limit), y.place ∙ sym x.place)

-- ---- in the words of the code's steps

-- the first node at fault refuses the unit
pub first_refused : (places : List Place) (kernel : List ℕ) (unit : Syntax) (asked : Asked) (k : Fault) (token : ℕ) →
    asked ≡ asked_in places kernel unit →
    FirstFault asked (length places) (nodes_of places unit) k token → IsRefused places kernel unit k token
first_refused places kernel unit asked k token h f =
    inl (subst (λ z. FirstFault z (length places) (nodes_of places unit) k token) h f)

-- what the limits look at in the typed program
sized_is : (places : List Place) (kernel : List ℕ) (unit : Syntax) (asked : Asked) (p : rust_program.Program) →
    asked ≡ asked_in places kernel unit → unit_of p ≡ unit_meant places kernel unit →
    limit_of (sized_of unit asked.calls p) ≡ limit_in places kernel unit
sized_is places kernel unit asked p h e =
    ap (λ (a : Asked). limit_of (record {
      weights = weights_of unit;
      trees = functions_in unit;
      calls = a.calls;
      functions = (unit_of p).functions;
      kernel = (unit_of p).kernel;
    })) h
    ∙ ap (λ (u : Unit'). limit_of (record {
      weights = weights_of unit;
      trees = functions_in unit;
      calls = (asked_in places kernel unit).calls;
      functions = u.functions;
      kernel = u.kernel;
    })) e

-- and so does a limit, where no node is at fault
pub over_refused : (places : List Place) (kernel word : List ℕ) (unit : Syntax) (asked : Asked)
    (p : rust_program.Program) (o : Option Fault) (k : Fault) (token : ℕ) (parts : Forest) →
    asked ≡ asked_in places kernel unit → word ≡ kernel →
    AllSound asked (nodes_of places unit) → unit_of p ≡ unit_meant places word unit →
    o ≡ limit_of (sized_of unit asked.calls p) → o ≡ Some k → parts ≡ parts_of unit →
    token ≡ slice_index (starts_in parts) p.kernel →
    IsRefused places kernel unit k token
over_refused places kernel word unit asked p o k token parts h w s e l q r t =
    let e' : unit_of p ≡ unit_meant places kernel unit = e ∙ ap (λ z. unit_meant places z unit) w in
    inr (record {
      sound = subst (λ z. AllSound z (nodes_of places unit)) h s;
      limit = sym (sized_is places kernel unit asked p h e') ∙ (sym l ∙ q);
      place = t ∙ (ap (λ z. slice_index (starts_in z) p.kernel) r ∙
          ap (λ (u : Unit'). slice_index (starts_in (parts_of unit)) u.kernel) e');
    })
