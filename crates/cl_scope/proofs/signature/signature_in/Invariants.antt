use Rattle.std.proofs.Common.{◌≡◌, drop}
use Rattle.cl_tree.specs.Syntax.{views}
use Rattle.cl_meaning.specs.Declarations.{signature_in, with_parts}
use Rattle.cl_scope.specs.View.{signature_of}
use Rattle.cl_scope.proofs.signature.signature_in.Given as goal

abbrev pub invariant-loop-part : goal.invariant-loop-part
invariant-loop-part l =
    signature_in l.fn.word (views l.parts) ≡ with_parts (signature_of l.signature) (views (drop l.part-index l.parts))
