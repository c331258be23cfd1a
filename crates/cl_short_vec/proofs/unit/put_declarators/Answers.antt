use Rattle.cl_tree.specs.Syntax.{joined, views}
use Rattle.cl_short_vec.specs.Unit.{all_declarators}
use Rattle.cl_short_vec.specs.View.{marks_of}
use Rattle.cl_short_vec.proofs.Units.{declarators_more, declarators_done}
use Rattle.cl_short_vec.proofs.unit.put_declarators.Goals as goal

pub loop-declarator-preserved : goal.loop-declarator-preserved
loop-declarator-preserved c =
    declarators_more c.args.vector c.args.declarators.now c.loop-declarator.declarator-index
    c.loop-declarator.list.items (joined (views c.args.list.now.items)
    (all_declarators c.args.vector (marks_of c.args.declarators.now))) c.loop-declarator.invariant
    c.declarator-item.result c.put_declarator.new.list.items c.loop-declarator-test.true c.declarator-item.is
    c.in_ok-put_declarator.ensures

pub returns : goal.returns
returns c =
    declarators_done c.args.vector c.args.declarators.now c.loop-declarator.declarator-index
    c.loop-declarator.list.items (joined (views c.args.list.now.items)
    (all_declarators c.args.vector (marks_of c.args.declarators.now))) c.loop-declarator.invariant
    c.loop-declarator-test.false
