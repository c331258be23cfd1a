use Rattle.std.proofs.Common.{◌≡◌, drop}
use Rattle.cl_tree.specs.Syntax.{joined, views}
use Rattle.cl_short_vec.specs.Unit as spec
use Rattle.cl_short_vec.specs.View.{marks_of}
use Rattle.cl_short_vec.proofs.unit.put_declarators.Given as goal

abbrev pub invariant-loop-declarator : goal.invariant-loop-declarator
invariant-loop-declarator l =
    joined (views l.list.items) (spec.all_declarators l.vector
    (marks_of (drop l.declarator-index l.declarators))) ≡ joined (views l.fn.list.items)
    (spec.all_declarators l.vector (marks_of l.declarators))
