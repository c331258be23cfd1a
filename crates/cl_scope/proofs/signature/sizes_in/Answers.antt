use Rattle.std.proofs.Common.{◌∙◌, map, ap, sym}
use Rattle.cl_tree.specs.Syntax.{view}
use Rattle.cl_meaning.specs.Spelling.{requires_size}
use Rattle.cl_meaning.specs.Declarations.{size_in}
use Rattle.cl_scope.proofs.Signatures.{sizes_are}
use Rattle.cl_scope.proofs.signature.sizes_in.Goals as goal

pub returns-then-requires_size : goal.returns-then-requires_size
returns-then-requires_size c =
    sizes_are c.args.tree.now c.in_ok-three_sizes-in-AttributeNode.field-0 c.in-AttributeNode.is
    (ap requires_size (sym c.bytes.ensures) ∙ sym c.if-requires_size.ensures)
    (c.in_ok-three_sizes-in-AttributeNode.ensures ∙ ap (λ ts. map size_in (map view ts)) c.deref.ensures.value)
