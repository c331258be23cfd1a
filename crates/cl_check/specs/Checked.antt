-- What the check of a unit answers: its typed program exactly where no node is at fault and the kernel is within the
-- limits, and else the first fault.
use Rattle.std.specs.Prelude.{◌≡◌, ℕ, List, [], ◌∷◌, length, slice_index, Some, ◌⊎◌, if◌then◌else◌}
use Rattle.wg_num.specs.declared.types.Place.{Place}
use Rattle.cl_tree.specs.Syntax.{Syntax, node, Forest, none, more}
use Rattle.cl_meaning.specs.declared.fault.Fault.{Fault}
use Rattle.cl_meaning.specs.Declarations.{parts_of}
use Rattle.cl_meaning.specs.Faults.{FirstFault}
use Rattle.cl_meaning.specs.Meant.{unit_meant}
use Rattle.cl_limits.specs.Heights.{is_function}
use Rattle.cl_limits.specs.Judged.{nodes_of, asked_in, IsSound, limit_in}

-- the first token of each function that some trees define, in order
abbrev pub starts_in : Forest → List ℕ
starts_in none = []
starts_in (more (node form word first last parts) ts) = if is_function form then first ∷ starts_in ts else starts_in ts

-- no node is at fault, and this is the first limit that the kernel is above; the token is the first of the kernel
pub record IsOver (places : List Place) (kernel : List ℕ) (unit : Syntax) (k : Fault) (token : ℕ) : Type 0 where
  pub sound : IsSound places kernel unit
  pub limit : limit_in places kernel unit ≡ Some k
  pub place : token ≡ slice_index (starts_in (parts_of unit)) (unit_meant places kernel unit).kernel

-- the first node at fault, with the least number there; or, where no node is, the first limit that the kernel is above
abbrev pub IsRefused : List Place → (kernel : List ℕ) → Syntax → Fault → ℕ → Type 0
IsRefused places kernel unit k token =
    FirstFault (asked_in places kernel unit) (length places) (nodes_of places unit) k token ⊎
    IsOver places kernel unit k token
