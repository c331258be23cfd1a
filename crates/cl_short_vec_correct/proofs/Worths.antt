-- What a statement sets, component by component.
use Rattle.std.specs.Prelude.{slice_index, Option, None, Some}
use Rattle.wg_num.specs.declared.types.Bin.{Bin}
use Rattle.cl_short_vec.specs.Parts.{Assigned}
use Rattle.cl_short_vec_correct.specs.Values.{Leaves, Worth, joined_value, worth_of}

-- behind an operator, the old components of the target, which are those of a leaf, are joined with the value
abbrev pub set_by : Option Bin → Assigned → Leaves → Worth
set_by None a leaves j = worth_of leaves a.value j
set_by (Some op) a leaves j =
    joined_value op a.of (leaves.component a.target.first (slice_index a.components j)) (worth_of leaves a.value j)

-- the value of that number
abbrev pub set_worth : Assigned → Leaves → Worth
set_worth a leaves j = set_by a.operator a leaves j
