-- What a unit is judged by: no node of it is at fault, and the kernel with all that it calls is within the limits.
use Rattle.std.specs.Prelude.{◌≡◌, ℕ, List, [], Option, None}
use Rattle.wg_num.specs.declared.types.Place.{Place}
use Rattle.cl_tree.specs.Syntax.{Syntax}
use Rattle.cl_meaning.specs.declared.fault.Fault.{Fault}
use Rattle.cl_meaning.specs.declared.kind.Role.TheVariants as roles
use Rattle.cl_meaning.specs.Visible.{Node, in_order}
use Rattle.cl_meaning.specs.Faults.{Asked, AllSound, calls_of, missing_of}
use Rattle.cl_meaning.specs.Meant.{start_of, unit_meant}
use Rattle.cl_limits.specs.Heights.{functions_in}
use Rattle.cl_limits.specs.Kernel.{Sized, weights_of, limit_of}

-- the nodes of a unit in order, parts before the whole
abbrev pub nodes_of : List Place → Syntax → List Node
nodes_of places unit = in_order (start_of places unit) roles.Other unit []

-- what they are judged by: the kernel that is asked for, and the calls of the unit itself
abbrev pub asked_in : List Place → (kernel : List ℕ) → Syntax → Asked
asked_in places kernel unit =
    record { kernel = kernel; calls = calls_of (nodes_of places unit); missing = missing_of (nodes_of places unit) }

-- no node is at fault
abbrev pub IsSound : List Place → (kernel : List ℕ) → Syntax → Type 0
IsSound places kernel unit = AllSound (asked_in places kernel unit) (nodes_of places unit)

-- what the limits look at
abbrev pub sized_in : List Place → (kernel : List ℕ) → Syntax → Sized
sized_in places kernel unit = record {
  weights = weights_of unit;
  trees = functions_in unit;
  calls = calls_of (nodes_of places unit);
  functions = (unit_meant places kernel unit).functions;
  kernel = (unit_meant places kernel unit).kernel;
}

-- the first limit that the kernel is above, with all that it calls
abbrev pub limit_in : List Place → (kernel : List ℕ) → Syntax → Option Fault
limit_in places kernel unit = limit_of (sized_in places kernel unit)

-- no node is at fault, and the kernel is within the limits
pub record IsAccepted (places : List Place) (kernel : List ℕ) (unit : Syntax) : Type 0 where
  pub sound : IsSound places kernel unit
  pub within : limit_in places kernel unit ≡ None
