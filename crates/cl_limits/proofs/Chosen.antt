-- The first limit that stands.
use Rattle.std.proofs.Common.{◌≡◌, ℕ, Bool, true, false, nat_lt, List, map, Option, Some, None, ap, ◌∙◌, if◌then◌else◌}
use Rattle.std.specs.Prelude.{slice_get}
use Rattle.cl_model.specs.declared.program.Function as rust_function
use Rattle.cl_meaning.specs.declared.fault.Fault.{Fault}
use Rattle.cl_meaning.specs.declared.fault.Fault.TheVariants as faults
use Rattle.cl_meaning.specs.Faults.{Call}
use Rattle.cl_meaning.specs.View.{function_of}
use Rattle.cl_limits.specs.Limits.{whole, private_bytes}
use Rattle.cl_limits.specs.Kernel.{Sized, at_limit, limit_of, local_bytes_at}

abbrev by_tests : Bool → Bool → Bool → Bool → Option Fault
by_tests large private deep local =
    if large then Some faults.KernelTooLarge
    else (if private then Some faults.PrivateMemory
    else (if deep then Some faults.BarriersTooDeep
    else (if local then Some faults.LocalMemory
    else None)))

module _ (u : Sized) where
  abbrev large : Bool
  large = at_limit u faults.KernelTooLarge

  abbrev private : Bool
  private = at_limit u faults.PrivateMemory

  abbrev deep : Bool
  deep = at_limit u faults.BarriersTooDeep

  abbrev local : Bool
  local = at_limit u faults.LocalMemory

  pub chosen_first : true ≡ at_limit u faults.KernelTooLarge → Some faults.KernelTooLarge ≡ limit_of u
  chosen_first h = ap (λ z. by_tests z private deep local) h

  pub chosen_second : false ≡ at_limit u faults.KernelTooLarge → true ≡ at_limit u faults.PrivateMemory →
      Some faults.PrivateMemory ≡ limit_of u
  chosen_second h k = ap (λ z. by_tests false z deep local) k ∙ ap (λ z. by_tests z private deep local) h

  pub chosen_third : false ≡ at_limit u faults.KernelTooLarge → false ≡ at_limit u faults.PrivateMemory →
      true ≡ at_limit u faults.BarriersTooDeep → Some faults.BarriersTooDeep ≡ limit_of u
  chosen_third h k l = ap (λ z. by_tests false false z local) l ∙
      (ap (λ z. by_tests false z deep local) k ∙ ap (λ z. by_tests z private deep local) h)

  pub chosen_fourth : (b : Bool) → false ≡ at_limit u faults.KernelTooLarge →
      false ≡ at_limit u faults.PrivateMemory → false ≡ at_limit u faults.BarriersTooDeep →
      b ≡ at_limit u faults.LocalMemory
      → (if b then Some faults.LocalMemory else None) ≡ limit_of u
  chosen_fourth b h k l m = ap (λ z. by_tests false false false z) m ∙
      (ap (λ z. by_tests false false z local) l ∙
      (ap (λ z. by_tests false z deep local) k ∙ ap (λ z. by_tests z private deep local) h))

pub private_test : (b : Bool) (fs gs : List rust_function.Function) (calls : List Call) (kernel : ℕ) → fs ≡ gs →
    b ≡ nat_lt 16384 (whole (map private_bytes (map function_of fs)) calls kernel)
    → b ≡ nat_lt 16384 (whole (map private_bytes (map function_of gs)) calls kernel)
private_test b fs gs calls kernel e h =
    h ∙ ap (λ l. nat_lt 16384 (whole (map private_bytes (map function_of l)) calls kernel)) e

pub local_test : (b : Bool) (fs gs : List rust_function.Function) (kernel : ℕ) → fs ≡ gs →
    b ≡ nat_lt 65536 (local_bytes_at (slice_get (map function_of fs) kernel))
    → b ≡ nat_lt 65536 (local_bytes_at (slice_get (map function_of gs) kernel))
local_test b fs gs kernel e h = h ∙ ap (λ l. nat_lt 65536 (local_bytes_at (slice_get (map function_of l) kernel))) e
