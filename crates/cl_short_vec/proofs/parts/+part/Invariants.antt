use Rattle.std.proofs.Common.{◌≡◌, drop}
use Rattle.cl_tree.specs.Syntax.{joined, view, views}
use Rattle.cl_short_vec.specs.Parts as spec
use Rattle.cl_short_vec.specs.View.{marks_of}
use Rattle.cl_short_vec.proofs.parts.+part.Given as goal

abbrev pub invariant-all_parts-loop-part : goal.invariant-all_parts-loop-part
invariant-all_parts-loop-part l =
    joined (views l.list.items) (spec.all_parts (marks_of (drop l.part-index l.parts)) l.component) ≡
    spec.all_parts (marks_of l.parts) l.component

abbrev pub invariant-list_part-loop-part : goal.invariant-list_part-loop-part
invariant-list_part-loop-part l =
    spec.list_part (marks_of (drop l.part-index l.parts)) (view l.tree) l.component ≡
    spec.list_part (marks_of l.parts) (view l.tree) l.component
