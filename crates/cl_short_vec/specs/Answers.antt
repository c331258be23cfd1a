-- What the answers for a unit say.
use Rattle.std.specs.Prelude.{◌≡◌, ⊤, None, Some, Result, Ok, Err}
use Rattle.cl_tree.specs.declared.tree.Tree.{Tree}
use Rattle.cl_tree.specs.Syntax.{Syntax, view}
use Rattle.cl_short_vec.specs.declared.refuse.VectorRefusal.{VectorRefusal}
use Rattle.cl_short_vec.specs.declared.form.VectorError.{VectorError}
use Rattle.cl_short_vec.specs.declared.form.VectorError.TheVariants as errors
use Rattle.cl_short_vec.specs.Faults.{refusal_of}
use Rattle.cl_short_vec.specs.Unit.{scalarised_of}

-- the condition is the one that is told of the unit, or memory ran out
abbrev pub IsVectorRefusal : Syntax → VectorError → Type 0
IsVectorRefusal unit (errors.Refused r) = refusal_of unit ≡ Some r
IsVectorRefusal unit errors.Memory = ⊤

-- none is told of the unit, and this is the unit without vectors; or this one is told
abbrev pub IsForm : Syntax → Result Tree VectorRefusal → Type 0
IsForm unit (Ok t) = (refusal_of unit ≡ None) × (view t ≡ scalarised_of unit)
IsForm unit (Err r) = refusal_of unit ≡ Some r
