-- The least fault that stands at a node.
use Rattle.std.specs.Prelude.{◌≡◌, ◌<◌, Bool, true, false, List, [], ◌∷◌, Option, None, Some}
use Rattle.cl_meaning.specs.declared.fault.Fault.{Fault}
use Rattle.cl_meaning.specs.declared.fault.Fault.TheVariants as faults
use Rattle.cl_meaning.specs.Numbers.{number_of}
use Rattle.cl_meaning.specs.Faults.{Asked, Looked, at_fault}

-- the faults in rising order, in three groups
abbrev pub expression_faults : List Fault
expression_faults = faults.UnknownName ∷ faults.DeclaredTwice ∷ faults.OperandTypes ∷ faults.ArgumentCount ∷
    faults.ArgumentType ∷ faults.NotAssignable ∷ faults.ConstantWritten ∷ []

abbrev pub declaration_faults : List Fault
declaration_faults = faults.OutsideType ∷ faults.LocalMisplaced ∷ faults.ProgramVariable ∷ faults.KernelSignature ∷
    faults.Recursion ∷ faults.PointerRoot ∷ faults.ArrayLength ∷ []

abbrev pub statement_faults : List Fault
statement_faults = faults.Misplaced ∷ faults.CaseValue ∷ faults.ReturnFit ∷ faults.BarrierFlags ∷
    faults.KernelTooLarge ∷ faults.PrivateMemory ∷ faults.BarriersTooDeep ∷ faults.NoSuchKernel ∷ faults.LocalMemory ∷
    faults.PrototypeMatch ∷ []

-- the fault passes, and none of a smaller number does
pub record LeastOf (test : Fault → Bool) (k : Fault) : Type 0 where
  pub at : test k ≡ true
  pub least : (j : Fault) → number_of j < number_of k → test j ≡ false

abbrev pub IsLeastOf : (Fault → Bool) → Option Fault → Type 0
IsLeastOf test None = (k : Fault) → test k ≡ false
IsLeastOf test (Some k) = LeastOf test k

-- no fault stands at the node, or this one and none of a smaller number
abbrev pub IsLeast : Asked → Looked → Option Fault → Type 0
IsLeast asked n o = IsLeastOf (at_fault asked n) o
