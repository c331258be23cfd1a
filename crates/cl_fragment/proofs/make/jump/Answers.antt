use Rattle.std.proofs.Common.{map}
use Rattle.cl_fragment.specs.View.{piece_of}
use Rattle.cl_fragment.proofs.Making.{case_row}
use Rattle.cl_fragment.proofs.make.jump.Goals as goal

pub returns-in-CaseNode : goal.returns-in-CaseNode
returns-in-CaseNode c = case_row c.case_at.result c.args.node c.args.sites.now.items
    (map piece_of c.args.pieces.items) c.deref.result.now c.in-CaseNode.is c.deref.ensures.value c.case_at.ensures
