-- Where no limit is found, each is kept.
use Rattle.std.proofs.Common.{◌≡◌, Bool, true, false, None, Some, if◌then◌else◌, refl}
use Rattle.cl_limits.specs.Kernel.{Sized, at_limit, limit_of}
use Rattle.cl_meaning.specs.declared.fault.Fault.{Fault}
use Rattle.cl_meaning.specs.declared.fault.Fault.TheVariants as faults

-- of four tests none holds, where no fault is chosen
none_stands : (a b c d : Bool) (j k l m : Fault) →
    (if a then Some j else (if b then Some k else (if c then Some l else (if d then Some m else None)))) ≡ None
    → (a ≡ false) × ((b ≡ false) × ((c ≡ false) × (d ≡ false)))
none_stands true b c d j k l m h = let never : ⊥ = cc in absurd never
none_stands false true c d j k l m h = let never : ⊥ = cc in absurd never
none_stands false false true d j k l m h = let never : ⊥ = cc in absurd never
none_stands false false false true j k l m h = let never : ⊥ = cc in absurd never
none_stands false false false false j k l m h = (refl, (refl, (refl, refl)))

kept : (u : Sized) → limit_of u ≡ None
    → (at_limit u faults.KernelTooLarge ≡ false) ×
    ((at_limit u faults.PrivateMemory ≡ false) × ((at_limit u faults.BarriersTooDeep ≡ false) ×
    (at_limit u faults.LocalMemory ≡ false)))
kept u h = none_stands (at_limit u faults.KernelTooLarge) (at_limit u faults.PrivateMemory)
    (at_limit u faults.BarriersTooDeep) (at_limit u faults.LocalMemory)
    faults.KernelTooLarge faults.PrivateMemory faults.BarriersTooDeep faults.LocalMemory h

-- each limit is kept
pub each_kept : (u : Sized) → limit_of u ≡ None → (k : Fault) → at_limit u k ≡ false
each_kept u h faults.UnknownName = refl
each_kept u h faults.DeclaredTwice = refl
each_kept u h faults.OperandTypes = refl
each_kept u h faults.ArgumentCount = refl
each_kept u h faults.ArgumentType = refl
each_kept u h faults.NotAssignable = refl
each_kept u h faults.ConstantWritten = refl
each_kept u h faults.OutsideType = refl
each_kept u h faults.LocalMisplaced = refl
each_kept u h faults.ProgramVariable = refl
each_kept u h faults.KernelSignature = refl
each_kept u h faults.Recursion = refl
each_kept u h faults.PointerRoot = refl
each_kept u h faults.ArrayLength = refl
each_kept u h faults.Misplaced = refl
each_kept u h faults.CaseValue = refl
each_kept u h faults.ReturnFit = refl
each_kept u h faults.BarrierFlags = refl
each_kept u h faults.KernelTooLarge = (kept u h).0
each_kept u h faults.PrivateMemory = (kept u h).1.0
each_kept u h faults.BarriersTooDeep = (kept u h).1.1.0
each_kept u h faults.NoSuchKernel = refl
each_kept u h faults.LocalMemory = (kept u h).1.1.1
each_kept u h faults.PrototypeMatch = refl
