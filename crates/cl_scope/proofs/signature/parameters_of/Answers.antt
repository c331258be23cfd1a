use Rattle.std.proofs.Common.{◌∙◌, ap}
use Rattle.cl_tree.specs.Syntax.{views}
use Rattle.cl_meaning.specs.Declarations.{parameter_of}
use Rattle.cl_scope.proofs.Signatures.{parameters_more}
use Rattle.cl_scope.proofs.signature.parameters_of.Goals as goal

pub loop-part-preserved : goal.loop-part-preserved
loop-part-preserved c = parameters_more c.args.parts.now c.loop-part.part-index c.part-item.result _
    c.loop-part.parameters.items c.push.new.list.items c.parameter_of.result c.loop-part-test.true
    c.part-item.is
    c.loop-part.invariant
    (c.parameter_of.ensures ∙ ap (λ ts. parameter_of (views ts)) c.deref.ensures.value)
    c.in_ok-push.ensures
