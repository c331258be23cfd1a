use Rattle.std.proofs.Common.{map}
use Rattle.cl_scope.specs.Declarators.{declarator_view}
use Rattle.cl_fragment.specs.View.{piece_of}
use Rattle.cl_fragment.proofs.Making.{declarator_row}
use Rattle.cl_fragment.proofs.make.line.Goals as goal

pub returns-in_ok-declarator-in-DeclaratorNode : goal.returns-in_ok-declarator-in-DeclaratorNode
returns-in_ok-declarator-in-DeclaratorNode c =
    declarator_row c.declarator_at.result c.args.node c.args.sites.now.items c.declarator_at.new.sites.items
    (map piece_of c.args.pieces.items) c.place_at-place.result c.bytes.result.now c.deref.result.now
    (declarator_view c.in_ok-declarator-in-DeclaratorNode.declarator)
    c.in-DeclaratorNode.is c.place_at-place.ensures c.in_ok-declarator-in-DeclaratorNode.ensures c.bytes.ensures
    c.deref.ensures.value c.declarator_at.ensures
