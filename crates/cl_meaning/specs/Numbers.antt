-- The number of each fault.
use Rattle.std.specs.Prelude.{ℕ}
use Rattle.cl_meaning.specs.declared.fault.Fault.{Fault}
use Rattle.cl_meaning.specs.declared.fault.Fault.TheVariants as faults

abbrev pub number_of : Fault → ℕ
number_of faults.UnknownName = 401
number_of faults.DeclaredTwice = 402
number_of faults.OperandTypes = 403
number_of faults.ArgumentCount = 404
number_of faults.ArgumentType = 405
number_of faults.NotAssignable = 406
number_of faults.ConstantWritten = 407
number_of faults.OutsideType = 408
number_of faults.LocalMisplaced = 409
number_of faults.ProgramVariable = 410
number_of faults.KernelSignature = 411
number_of faults.Recursion = 412
number_of faults.PointerRoot = 413
number_of faults.ArrayLength = 414
number_of faults.Misplaced = 415
number_of faults.CaseValue = 416
number_of faults.ReturnFit = 417
number_of faults.BarrierFlags = 418
number_of faults.KernelTooLarge = 419
number_of faults.PrivateMemory = 420
number_of faults.BarriersTooDeep = 421
number_of faults.NoSuchKernel = 422
number_of faults.LocalMemory = 423
number_of faults.PrototypeMatch = 424
