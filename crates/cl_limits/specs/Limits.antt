-- What a function counts with all that it calls: nodes of its block, or bytes.
use Rattle.std.specs.Prelude.{ℕ, zero, suc, ◌+◌, ◌*◌, nat_eq, List, [], ◌∷◌, length, Option, None, Some, slice_get}
use Rattle.std.specs.Prelude.{if◌then◌else◌}
use Rattle.wg_num.specs.Bytes.{size_of}
use Rattle.cl_model.specs.declared.program.Space.{Space}
use Rattle.cl_model.specs.declared.program.Space.TheVariants as spaces
use Rattle.cl_tree.specs.Syntax.{Syntax, node, Forest, none, more}
use Rattle.cl_meaning.specs.Environment.{Array}
use Rattle.cl_model.specs.Sizes.{product}
use Rattle.cl_meaning.specs.Faults.{Call}
use Rattle.cl_meaning.specs.Typed.{Function}

-- how many nodes a tree has, its root included
abbrev mutual
  pub count_nodes : Syntax → ℕ
  count_nodes (node form word first last parts) = suc (count_forest parts)

  pub count_forest : Forest → ℕ
  count_forest none = 0
  count_forest (more t ts) = count_nodes t + count_forest ts

-- the sum, over the calls of a function, of what each called function counts
abbrev pub called_sum : (ℕ → ℕ) → List Call → ℕ → ℕ
called_sum count [] f = 0
called_sum count (c ∷ cs) f = (if nat_eq c.caller f then count c.called else 0) + called_sum count cs f

-- what a function has itself and what it calls; a function that is not there counts nothing
abbrev pub with_called : Option ℕ → ℕ → ℕ
with_called None called = 0
with_called (Some own) called = own + called

-- what a function counts with all that it calls, once for each call, where calls nest less deep than the first number
unfoldable pub total : ℕ → (own : List ℕ) → List Call → ℕ → ℕ
total zero own calls f = 0
total (suc n) own calls f = with_called (slice_get own f) (called_sum (total n own calls) calls f)

-- in a unit without recursion calls nest less deep than there are functions
abbrev pub whole : (own : List ℕ) → List Call → ℕ → ℕ
whole own calls f = total (length own) own calls f

-- ---- memory

abbrev pub array_bytes : Array → ℕ
array_bytes a = size_of a.element * product a.dims

abbrev pub in_private : Space → ℕ → ℕ
in_private spaces.Private n = n
in_private space n = 0

abbrev pub in_local : Space → ℕ → ℕ
in_local spaces.Local n = n
in_local space n = 0

abbrev pub private_arrays : List Array → ℕ
private_arrays [] = 0
private_arrays (a ∷ as') = in_private a.space (array_bytes a) + private_arrays as'

abbrev pub local_arrays : List Array → ℕ
local_arrays [] = 0
local_arrays (a ∷ as') = in_local a.space (array_bytes a) + local_arrays as'

-- the private bytes of a function without those of the functions that it calls: 8 for each variable and parameter,
-- and its private arrays
abbrev pub private_bytes : Function → ℕ
private_bytes g = 8 * length g.variables + private_arrays g.arrays

-- the bytes of its local arrays and scalars
abbrev pub local_bytes : Function → ℕ
local_bytes g = local_arrays g.arrays
