-- The number and the text of each condition that refuses a source.
use Rattle.std.specs.Prelude.{ℕ, List, codes}
use Rattle.cl_meaning.specs.declared.fault.Fault.{Fault}
use Rattle.cl_meaning.specs.declared.fault.Fault.TheVariants as faults
use Rattle.cl_meaning.specs.Numbers.{number_of as number_of_fault}
use Rattle.cl_short_vec.specs.declared.refuse.VectorFault.{VectorFault}
use Rattle.cl_short_vec.specs.declared.refuse.VectorFault.TheVariants as vector_faults
use Rattle.cl_front.specs.declared.condition.Condition.{Condition}
use Rattle.cl_front.specs.declared.condition.Condition.TheVariants as conditions

abbrev pub number_of_vector : VectorFault → ℕ
number_of_vector vector_faults.Misplaced = 501
number_of_vector vector_faults.NoComponent = 502
number_of_vector vector_faults.TypesDiffer = 503

abbrev pub number_of : Condition → ℕ
number_of conditions.NoToken = 101
number_of conditions.OpenComment = 102
number_of conditions.BadNumber = 103
number_of conditions.LargeNumber = 104
number_of conditions.TooLong = 105
number_of conditions.BadDirective = 201
number_of conditions.NoName = 202
number_of conditions.Redefined = 203
number_of conditions.NoOpening = 204
number_of conditions.NotClosed = 205
number_of conditions.TooMany = 206
number_of conditions.Syntax = 301
number_of conditions.Nesting = 302
number_of (conditions.Vector fault) = number_of_vector fault
number_of (conditions.Unit fault) = number_of_fault fault

-- the text of a fault with vectors
abbrev pub text_of_vector : VectorFault → List ℕ
text_of_vector vector_faults.Misplaced = codes "vector misplaced"
text_of_vector vector_faults.NoComponent = codes "no such component"
text_of_vector vector_faults.TypesDiffer = codes "component types differ"

-- the text of a fault of the unit
abbrev pub text_of_unit : Fault → List ℕ
text_of_unit faults.UnknownName = codes "unknown name"
text_of_unit faults.DeclaredTwice = codes "declared twice"
text_of_unit faults.OperandTypes = codes "operand types do not fit"
text_of_unit faults.ArgumentCount = codes "argument count"
text_of_unit faults.ArgumentType = codes "argument type"
text_of_unit faults.NotAssignable = codes "not assignable"
text_of_unit faults.ConstantWritten = codes "constant memory written"
text_of_unit faults.OutsideType = codes "type outside the profile"
text_of_unit faults.LocalMisplaced = codes "local variable misplaced"
text_of_unit faults.ProgramVariable = codes "program variable"
text_of_unit faults.KernelSignature = codes "kernel signature"
text_of_unit faults.Recursion = codes "recursion"
text_of_unit faults.PointerRoot = codes "pointer root changes"
text_of_unit faults.ArrayLength = codes "array length"
text_of_unit faults.Misplaced = codes "misplaced statement"
text_of_unit faults.CaseValue = codes "case value"
text_of_unit faults.ReturnFit = codes "return does not fit"
text_of_unit faults.BarrierFlags = codes "barrier flags"
text_of_unit faults.KernelTooLarge = codes "kernel too large"
text_of_unit faults.PrivateMemory = codes "private memory"
text_of_unit faults.BarriersTooDeep = codes "barriers too deep"
text_of_unit faults.NoSuchKernel = codes "no such kernel"
text_of_unit faults.LocalMemory = codes "local memory"
text_of_unit faults.PrototypeMatch = codes "prototype does not match"

-- the text that is printed behind the number
abbrev pub text_of : Condition → List ℕ
text_of conditions.NoToken = codes "no token"
text_of conditions.OpenComment = codes "unfinished comment"
text_of conditions.BadNumber = codes "malformed number"
text_of conditions.LargeNumber = codes "number too large"
text_of conditions.TooLong = codes "source too long"
text_of conditions.BadDirective = codes "directive not in the profile"
text_of conditions.NoName = codes "name missing"
text_of conditions.Redefined = codes "defined twice"
text_of conditions.NoOpening = codes "no opening"
text_of conditions.NotClosed = codes "conditional not closed"
text_of conditions.TooMany = codes "too many tokens"
text_of conditions.Syntax = codes "syntax"
text_of conditions.Nesting = codes "nested too deep"
text_of (conditions.Vector fault) = text_of_vector fault
text_of (conditions.Unit fault) = text_of_unit fault
