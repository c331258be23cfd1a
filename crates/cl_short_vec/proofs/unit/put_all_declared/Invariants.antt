use Rattle.std.proofs.Common.{◌≡◌, drop}
use Rattle.cl_tree.specs.Syntax.{joined, views}
use Rattle.cl_short_vec.specs.Unit as spec
use Rattle.cl_short_vec.specs.View.{mark_of, marks_of}
use Rattle.cl_short_vec.proofs.unit.put_all_declared.Given as goal

abbrev pub invariant-loop-declarator : goal.invariant-loop-declarator
invariant-loop-declarator l =
    joined (views l.lines.items) (spec.vector_lines l.vector (mark_of l.base)
    (marks_of (drop l.declarator-index l.declarators))) ≡ joined (views l.fn.lines.items)
    (spec.vector_lines l.vector (mark_of l.base) (marks_of l.declarators))
