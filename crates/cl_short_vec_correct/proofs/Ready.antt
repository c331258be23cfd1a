-- When the helping variables of leaves are ready: they are visible with their types, and known to hold what the leaves
-- gave.
use Rattle.std.proofs.Common.{◌≡◌, ℕ, ℤ, false, List, Some}
use Rattle.wg_num.specs.declared.types.IntType.{IntType}
use Rattle.cl_meaning.specs.declared.kind.Meaning.TheVariants as meanings
use Rattle.cl_meaning.specs.Environment.{Env, meaning_of}
use Rattle.cl_short_vec.specs.Marks.{tree_at, kind_at}
use Rattle.cl_short_vec.specs.Nodes.{span_of, helper, component_name}
use Rattle.cl_short_vec.specs.Order.{Step, Number, Copy, Load, type_in}
use Rattle.cl_short_vec_correct.specs.Values.{Leaves}
use Rattle.cl_short_vec_correct.specs.Doing.{first_at}
use Rattle.cl_short_vec_correct.specs.Emits.{Known, IsIn}

-- a helping variable of that name and type holds the value
abbrev pub Helping : Env → List Known → List ℕ → IntType → ℤ → Type 0
Helping env known name of v =
    (y : ℕ) × (meaning_of env name ≡ Some (meanings.Scalar of false y)) × IsIn known y v

-- the helping variable of a step that takes a value
abbrev pub Ready : Env → List Known → Leaves → Step → Type 0
Ready env known leaves (Number of m) =
    Helping env known (helper (span_of (tree_at m))) of (leaves.number (first_at m))
Ready env known leaves (Copy of x c) =
    Helping env known (component_name (helper x.span) c) of (leaves.component x.span.first c)
Ready env known leaves (Load m c) =
    Helping env known (component_name (helper (span_of (tree_at m))) c) (type_in (kind_at m))
    (leaves.component (first_at m) c)
Ready env known leaves step = Unit {0}
