-- No fault depends on the places of tokens.
use Rattle.std.proofs.Common.{ℕ, List, Option, Bool, not, ◌&&◌, ◌||◌, ◌≡◌, refl, ap, ◌∙◌}
use Rattle.wg_num.specs.declared.types.Place.{Place}
use Rattle.cl_tree.specs.declared.tree.Form.{Form}
use Rattle.cl_tree.specs.declared.tree.Form.TheVariants as forms
use Rattle.cl_tree.specs.Syntax.{Syntax, node, Forest}
use Rattle.cl_meaning.specs.declared.fault.Fault.{Fault}
use Rattle.cl_meaning.specs.declared.fault.Fault.TheVariants as faults
use Rattle.cl_meaning.specs.declared.kind.Kind.{Kind}
use Rattle.cl_meaning.specs.declared.kind.Role.{Role}
use Rattle.cl_meaning.specs.Kinds.{kind_step, is_number}
use Rattle.cl_meaning.specs.Kinds as kinds_spec
use Rattle.cl_meaning.specs.Faults as spec
use Rattle.cl_meaning.specs.Faults.{Asked, Looked, at_fault, given}
use Rattle.cl_scope.specs.declared.environment.Environment as rust
use Rattle.cl_scope.specs.View.{env_of, visible_in}
use Rattle.cl_faults.specs.View.{looked_in}

module _ (asked : Asked) (places : List Place) (e : rust.Environment) (role : Role) (w : List ℕ) (f l : ℕ)
    (parts : Forest) (ks : List (Option Kind)) where
  abbrev placed : Form → Looked
  placed form = looked_in (env_of places e) role (node form w f l parts) ks

  abbrev bare : Form → Looked
  bare form = looked_in (visible_in e) role (node form w f l parts) ks

  same_unknown_name : (form : Form) → spec.unknown_name (placed form) form ≡ spec.unknown_name (bare form) form
  same_unknown_name forms.UnitNode = refl
  same_unknown_name form = refl

  same_declared_twice : (form : Form) → spec.declared_twice (placed form) form ≡ spec.declared_twice (bare form) form
  same_declared_twice forms.UnitNode = refl
  same_declared_twice form = refl

  same_misfits : (form : Form) → spec.misfits (placed form) form ≡ spec.misfits (bare form) form
  unfolding spec.misfits
  same_misfits forms.UnitNode = refl
  same_misfits form = refl

  same_miscounted : (form : Form) → spec.miscounted (placed form) form ≡ spec.miscounted (bare form) form
  same_miscounted forms.UnitNode = refl
  same_miscounted form = refl

  same_mispassed : (form : Form) → spec.mispassed (placed form) form ≡ spec.mispassed (bare form) form
  same_mispassed forms.UnitNode = refl
  same_mispassed form = refl

  same_outside_type : (form : Form) → spec.outside_type (placed form) form ≡ spec.outside_type (bare form) form
  same_outside_type forms.UnitNode = refl
  same_outside_type form = refl

  same_local_misplaced : (form : Form) → spec.local_misplaced (placed form) form ≡ spec.local_misplaced (bare form) form
  same_local_misplaced forms.UnitNode = refl
  same_local_misplaced form = refl

  same_program_variable : (form : Form) →
      spec.program_variable (placed form) form ≡ spec.program_variable (bare form) form
  same_program_variable forms.UnitNode = refl
  same_program_variable form = refl

  same_kernel_signature : (form : Form) →
      spec.kernel_signature (placed form) form ≡ spec.kernel_signature (bare form) form
  same_kernel_signature forms.UnitNode = refl
  same_kernel_signature form = refl

  same_recursion : (form : Form) → spec.recursion asked (placed form) form ≡ spec.recursion asked (bare form) form
  same_recursion forms.UnitNode = refl
  same_recursion form = refl

  same_pointer_root : (form : Form) → spec.pointer_root (placed form) form ≡ spec.pointer_root (bare form) form
  same_pointer_root forms.UnitNode = refl
  same_pointer_root form = refl

  same_array_length : (form : Form) → spec.array_length (placed form) form ≡ spec.array_length (bare form) form
  same_array_length forms.UnitNode = refl
  same_array_length form = refl

  same_misplaced : (form : Form) → spec.misplaced (placed form) form ≡ spec.misplaced (bare form) form
  same_misplaced forms.UnitNode = refl
  same_misplaced form = refl

  same_case_value : (form : Form) → spec.case_value (placed form) form ≡ spec.case_value (bare form) form
  same_case_value forms.UnitNode = refl
  same_case_value form = refl

  same_return_fit : (form : Form) → spec.return_fit (placed form) form ≡ spec.return_fit (bare form) form
  same_return_fit forms.UnitNode = refl
  same_return_fit form = refl

  same_barrier_flags : (form : Form) → spec.barrier_flags (placed form) form ≡ spec.barrier_flags (bare form) form
  same_barrier_flags forms.UnitNode = refl
  same_barrier_flags form = refl

  same_no_such_kernel : (form : Form) →
      spec.no_such_kernel asked (placed form) form ≡ spec.no_such_kernel asked (bare form) form
  same_no_such_kernel forms.UnitNode = refl
  same_no_such_kernel form = refl

  same_prototype_match : (form : Form) →
      spec.prototype_match asked (placed form) form ≡ spec.prototype_match asked (bare form) form
  same_prototype_match forms.UnitNode = refl
  same_prototype_match form = refl

  same_unassignable : (form : Form) → spec.of_target (placed form) spec.unassignable form ≡
      spec.of_target (bare form) spec.unassignable form
  same_unassignable forms.UnitNode = refl
  same_unassignable form = refl

  same_is_constant_memory : (form : Form) → spec.of_target (placed form) kinds_spec.is_constant_memory form ≡
      spec.of_target (bare form) kinds_spec.is_constant_memory form
  same_is_constant_memory forms.UnitNode = refl
  same_is_constant_memory form = refl

  same_kind : (form : Form) → kind_step (env_of places e) form w parts ks ≡ kind_step (visible_in e) form w parts ks
  unfolding kind_step
  same_kind forms.UnitNode = refl
  same_kind form = refl

  same_tested : (form : Form) → spec.tested_misfits (placed form) ≡ spec.tested_misfits (bare form)
  same_tested form = ap (λ (o : Option Kind). spec.is_tested role && given o (λ a. not (is_number a))) (same_kind form)

  same_fault : (form : Form) (k : Fault) → at_fault asked (placed form) k ≡ at_fault asked (bare form) k
  same_fault form faults.UnknownName = same_unknown_name form
  same_fault form faults.DeclaredTwice = same_declared_twice form
  same_fault form faults.OperandTypes =
      ap (λ (b : Bool). b || spec.tested_misfits (placed form)) (same_misfits form) ∙
      ap (λ (b : Bool). spec.misfits (bare form) form || b) (same_tested form)
  same_fault form faults.ArgumentCount = same_miscounted form
  same_fault form faults.ArgumentType = same_mispassed form
  same_fault form faults.NotAssignable = same_unassignable form
  same_fault form faults.ConstantWritten = same_is_constant_memory form
  same_fault form faults.OutsideType = same_outside_type form
  same_fault form faults.LocalMisplaced = same_local_misplaced form
  same_fault form faults.ProgramVariable = same_program_variable form
  same_fault form faults.KernelSignature = same_kernel_signature form
  same_fault form faults.Recursion = same_recursion form
  same_fault form faults.PointerRoot = same_pointer_root form
  same_fault form faults.ArrayLength = same_array_length form
  same_fault form faults.Misplaced = same_misplaced form
  same_fault form faults.CaseValue = same_case_value form
  same_fault form faults.ReturnFit = same_return_fit form
  same_fault form faults.BarrierFlags = same_barrier_flags form
  same_fault form faults.KernelTooLarge = refl
  same_fault form faults.PrivateMemory = refl
  same_fault form faults.BarriersTooDeep = refl
  same_fault form faults.NoSuchKernel = same_no_such_kernel form
  same_fault form faults.LocalMemory = refl
  same_fault form faults.PrototypeMatch = same_prototype_match form

-- a fault stands at a node exactly where it does when the places of tokens are not looked at
pub places_aside : (asked : Asked) (places : List Place) (e : rust.Environment) (role : Role) (t : Syntax)
    (ks : List (Option Kind)) (k : Fault)
    → at_fault asked (looked_in (env_of places e) role t ks) k ≡ at_fault asked (looked_in (visible_in e) role t ks) k
places_aside asked places e role (node form w f l parts) ks k = same_fault asked places e role w f l parts ks form k
