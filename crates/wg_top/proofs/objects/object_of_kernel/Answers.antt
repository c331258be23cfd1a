use Rattle.wg_num.specs.Operators.{lanes_of}
use Rattle.wg_top.proofs.ObjectLemmas.{compiles}
use Rattle.wg_top.proofs.objects.object_of_kernel.Goals as goal

pub returns-in-Ok-object_for-clause-ok : goal.returns-in-Ok-object_for-clause-ok
returns-in-Ok-object_for-clause-ok c =
    λ bytes defines numbers is placed. compiles bytes defines c.args.kernel.now (lanes_of c.args.width)
    c.in-Ok.compiled c.in-Ok-object_for.object numbers c.in-Ok.ensures.passes
    (c.in-Ok.ensures.compiled bytes defines is placed) c.in-Ok.ensures.name c.in-Ok-object_for.ensures.group
    c.in-Ok-object_for.ensures.sizes c.in-Ok-object_for.ensures.bytes
