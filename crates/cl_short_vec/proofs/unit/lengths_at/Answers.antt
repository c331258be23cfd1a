use Rattle.cl_short_vec.specs.Unit.{lengths_at}
use Rattle.cl_short_vec.specs.View.{marks_of}
use Rattle.cl_short_vec.proofs.Units.{lengths_more, lengths_done}
use Rattle.cl_short_vec.proofs.unit.lengths_at.Goals as goal

pub loop-part-preserved : goal.loop-part-preserved
loop-part-preserved c =
    lengths_more c.args.vector c.args.parts.now c.loop-part.part-index c.loop-part.list.items
    (lengths_at c.args.vector (marks_of c.args.parts.now)) c.loop-part.invariant c.part-item.result c.in_ok-tree.tree
    c.push.new.list.items c.loop-part-test.true c.part-item.is c.in_ok-tree.ensures c.in_ok-push.ensures

pub returns : goal.returns
returns c =
    lengths_done c.args.vector c.args.parts.now c.loop-part.part-index c.loop-part.list.items
    (lengths_at c.args.vector (marks_of c.args.parts.now)) c.loop-part.invariant c.loop-part-test.false
