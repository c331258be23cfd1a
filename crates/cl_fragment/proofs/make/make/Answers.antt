use Rattle.std.proofs.Common.{map}
use Rattle.cl_fragment.specs.View.{piece_of}
use Rattle.cl_fragment.proofs.Making.{function_row}
use Rattle.cl_fragment.proofs.make.make.Goals as goal

pub returns-in-FunctionNode : goal.returns-in-FunctionNode
returns-in-FunctionNode c =
    function_row c.function_at.result c.args.node.places.now c.args.node.environment.now c.args.node.tree.now
    c.args.body c.args.sizes c.args.sites.now.items (map piece_of c.args.pieces.items) c.bytes.result.now
    c.deref.result.now c.in-FunctionNode.is c.bytes.ensures c.deref.ensures.value c.function_at.ensures
