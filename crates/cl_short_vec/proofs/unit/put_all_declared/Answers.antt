use Rattle.cl_tree.specs.Syntax.{joined, views}
use Rattle.cl_short_vec.specs.Unit.{vector_lines}
use Rattle.cl_short_vec.specs.View.{mark_of, marks_of}
use Rattle.cl_short_vec.proofs.Units.{vectors_more, vectors_done}
use Rattle.cl_short_vec.proofs.unit.put_all_declared.Goals as goal

pub loop-declarator-preserved : goal.loop-declarator-preserved
loop-declarator-preserved c =
    vectors_more c.args.vector (mark_of c.args.base.now) c.args.declarators.now c.loop-declarator.declarator-index
    c.loop-declarator.lines.items (joined (views c.args.lines.now.items)
    (vector_lines c.args.vector (mark_of c.args.base.now) (marks_of c.args.declarators.now)))
    c.loop-declarator.invariant c.declarator-item.result c.put_declared.new.lines.items c.loop-declarator-test.true
    c.declarator-item.is c.in_ok-put_declared.ensures

pub returns : goal.returns
returns c =
    vectors_done c.args.vector (mark_of c.args.base.now) c.args.declarators.now c.loop-declarator.declarator-index
    c.loop-declarator.lines.items (joined (views c.args.lines.now.items)
    (vector_lines c.args.vector (mark_of c.args.base.now) (marks_of c.args.declarators.now)))
    c.loop-declarator.invariant c.loop-declarator-test.false
