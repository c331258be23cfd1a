-- The laws: of how many nodes the unit without vectors is, which arrays and variables of a work-group it has and how
-- many elements, and that it has no vectors.
use Rattle.std.specs.Prelude.{◌≡◌, ◌*◌, ◌≤◌, ◌⊎◌, None, Some, true, false}
use Rattle.cl_tree.specs.Syntax.{Syntax}
use Rattle.cl_limits.specs.Limits.{count_nodes, count_forest}
use Rattle.cl_meaning.specs.Spelling.{dimensions_in, is_set}
use Rattle.cl_meaning.specs.Declarations.{word_of}
use Rattle.cl_check_sound.specs.Shape.{IsStatementOf, IsDeclarationOf, IsDeclaratorOf, IsParam, IsUnitOf}
use Rattle.cl_short_vec.specs.declared.types.Vector.{Vector}
use Rattle.cl_short_vec.specs.Types.{vector_type}
use Rattle.cl_short_vec.specs.Kinds.{Names}
use Rattle.cl_short_vec.specs.Plain.{has_vectors}
use Rattle.cl_short_vec.specs.Marks.{Mark, mark, Marks, marked}
use Rattle.cl_short_vec.specs.Faults.{refusal_of}
use Rattle.cl_short_vec.specs.Nodes.{with_parts}
use Rattle.cl_short_vec.specs.Scalar.{scalars}
use Rattle.cl_short_vec.specs.Unit.{lengths_at, block_line, scalarised, scalarised_of}
use Rattle.cl_short_vec_form.specs.Form.{IsScalarForm}
use Rattle.cl_short_vec_form.specs.Sizes.{widest}
use Rattle.cl_short_vec_form.specs.Stored.{stored, multiplied, elements_of}

-- a statement, a declaration, a parameter or a whole unit, as they are parsed
abbrev pub IsPart : Syntax → Type 0
IsPart t = IsStatementOf true t ⊎ (IsDeclarationOf true t ⊎ (IsParam t ⊎ IsUnitOf true t))

-- What stands for the unit, for a part of it and for a line of a block has at most 64 nodes for each of its nodes and
-- each component of its widest vector.
abbrev pub FormsSmall : Type 0
FormsSmall = (names : Names) (part : Syntax) → IsPart part →
    (count_nodes (scalarised (marked names part)) ≤ 64 * count_nodes part * widest (marked names part)) ×
    (count_forest (block_line (marked names part) (scalarised (marked names part))) ≤
    64 * count_nodes part * widest (marked names part))

-- The unit without vectors has the arrays and the variables of a work-group that the unit has, and no others.
abbrev pub FormsStore : Type 0
FormsStore = (unit : Syntax) → IsUnitOf true unit → refusal_of unit ≡ None →
    stored (scalarised_of unit) ≡ stored unit

abbrev pub marks_of : Mark → Marks
marks_of (mark t k parts) = parts

-- An array of vectors has as many elements there as its vectors have components together.
abbrev pub FormsLong : Type 0
FormsLong = (names : Names) (type d : Syntax) (v : Vector) → vector_type type ≡ Some v → IsDeclaratorOf true d →
    dimensions_in (word_of d) ≡ 1 → is_set (word_of d) ≡ false →
    elements_of (with_parts d (lengths_at v (marks_of (marked names d)))) ≡
    multiplied v.count (elements_of (with_parts d (scalars (marks_of (marked names d)))))

-- It has no vectors: no type names one, and nothing is selected.
abbrev pub FormsPlain : Type 0
FormsPlain = (unit : Syntax) → IsUnitOf true unit → has_vectors (scalarised_of unit) ≡ false

-- All that is true of the unit without vectors, where no condition on vectors is told of the unit.
abbrev pub FormsAre : Type 0
FormsAre = (unit : Syntax) → IsUnitOf true unit → refusal_of unit ≡ None → IsScalarForm unit (scalarised_of unit)
