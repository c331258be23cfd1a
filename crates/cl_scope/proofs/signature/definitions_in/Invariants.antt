use Rattle.std.proofs.Common.{◌≡◌, ◌++◌, map, drop}
use Rattle.cl_tree.specs.Syntax.{views}
use Rattle.cl_meaning.specs.Declarations.{definitions_in}
use Rattle.cl_scope.specs.View.{signature_of}
use Rattle.cl_scope.proofs.signature.definitions_in.Given as goal

abbrev pub invariant-loop-part : goal.invariant-loop-part
invariant-loop-part l = definitions_in (views l.parts) ≡ map signature_of l.definitions.items ++
    definitions_in (views (drop l.part-index l.parts))
