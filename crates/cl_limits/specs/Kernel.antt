-- The limits of a kernel with all that it calls.
use Rattle.std.specs.Prelude.{ℕ, nat_lt, Bool, false, List, [], ◌∷◌, map, Option, None, Some, slice_get, if◌then◌else◌}
use Rattle.cl_model.specs.declared.program.Program as rust_program
use Rattle.cl_tree.specs.Syntax.{Syntax, node, Forest, none, more}
use Rattle.cl_meaning.specs.declared.fault.Fault.{Fault}
use Rattle.cl_meaning.specs.declared.fault.Fault.TheVariants as faults
use Rattle.cl_meaning.specs.Faults.{Call}
use Rattle.cl_meaning.specs.Typed.{Function}
use Rattle.cl_meaning.specs.View.{function_of}
use Rattle.cl_limits.specs.Limits.{count_nodes, whole, private_bytes, local_bytes}
use Rattle.cl_limits.specs.Heights.{is_function, functions_in, full_height}

-- the nodes of a function's block, its last part
abbrev pub block_nodes : Forest → ℕ
block_nodes none = 0
block_nodes (more t none) = count_nodes t
block_nodes (more t (more u ts)) = block_nodes (more u ts)

-- the nodes of the block of each function that some trees define, in order
abbrev pub blocks_in : Forest → List ℕ
blocks_in none = []
blocks_in (more (node form word first last parts) ts) =
    if is_function form then block_nodes parts ∷ blocks_in ts else blocks_in ts

abbrev pub weights_of : Syntax → List ℕ
weights_of (node form word first last parts) = blocks_in parts

-- what the limits look at: the nodes of the block of each function, the trees of the functions, the calls, the typed
-- functions, and the number of the kernel
pub record Sized : Type 0 where
  pub weights : List ℕ
  pub trees : List Syntax
  pub calls : List Call
  pub functions : List Function
  pub kernel : ℕ

abbrev pub local_bytes_at : Option Function → ℕ
local_bytes_at None = 0
local_bytes_at (Some g) = local_bytes g

-- whether that fault stands for the kernel
abbrev pub at_limit : Sized → Fault → Bool
at_limit u faults.KernelTooLarge = nat_lt 16384 (whole u.weights u.calls u.kernel)
at_limit u faults.PrivateMemory = nat_lt 16384 (whole (map private_bytes u.functions) u.calls u.kernel)
at_limit u faults.BarriersTooDeep = nat_lt 17 (full_height u.trees u.kernel)
at_limit u faults.LocalMemory = nat_lt 65536 (local_bytes_at (slice_get u.functions u.kernel))
at_limit u fault = false

-- the one of the least number that stands
abbrev pub limit_of : Sized → Option Fault
limit_of u =
    if at_limit u faults.KernelTooLarge then Some faults.KernelTooLarge
    else (if at_limit u faults.PrivateMemory then Some faults.PrivateMemory
    else (if at_limit u faults.BarriersTooDeep then Some faults.BarriersTooDeep
    else (if at_limit u faults.LocalMemory then Some faults.LocalMemory
    else None)))

-- what they look at in a unit
abbrev pub sized_of : Syntax → List Call → rust_program.Program → Sized
sized_of unit calls p = record {
  weights = weights_of unit;
  trees = functions_in unit;
  calls = calls;
  functions = map function_of p.functions.items;
  kernel = p.kernel;
}
