use Rattle.std.proofs.Common.{◌≡◌, drop}
use Rattle.cl_tree.specs.Syntax.{joined, views}
use Rattle.cl_short_vec.specs.Unit as spec
use Rattle.cl_short_vec.specs.View.{marks_of}
use Rattle.cl_short_vec.proofs.Units.{loop_from}
use Rattle.cl_short_vec.proofs.unit.+unit.Given as goal

abbrev pub invariant-put_scalarised-loop-part : goal.invariant-put_scalarised-loop-part
invariant-put_scalarised-loop-part l =
    joined (views l.list.items) (spec.all_scalarised (marks_of (drop l.part-index l.parts))) ≡
    joined (views l.fn.list.items) (spec.all_scalarised (marks_of l.parts))

abbrev pub invariant-block_lines-loop-part : goal.invariant-block_lines-loop-part
invariant-block_lines-loop-part l =
    joined (views l.lines.items) (spec.block_lines (marks_of (drop l.part-index l.parts))) ≡
    spec.block_lines (marks_of l.parts)

abbrev pub invariant-loop_parts-loop-part : goal.invariant-loop_parts-loop-part
invariant-loop_parts-loop-part l =
    joined (views l.list.items) (loop_from l.front (marks_of (drop l.part-index l.parts))) ≡
    spec.loop_parts (marks_of l.parts)
