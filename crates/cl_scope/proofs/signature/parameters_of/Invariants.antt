use Rattle.std.proofs.Common.{◌≡◌, ◌++◌, drop}
use Rattle.cl_tree.specs.Syntax.{views}
use Rattle.cl_meaning.specs.Declarations.{parameters_of}
use Rattle.cl_scope.proofs.signature.parameters_of.Given as goal

abbrev pub invariant-loop-part : goal.invariant-loop-part
invariant-loop-part l =
    parameters_of (views l.parts) ≡ l.parameters.items ++ parameters_of (views (drop l.part-index l.parts))
