use Rattle.std.proofs.Common.{◌≡◌}
use Rattle.launch_file.specs.declared.text.LaunchPart.{LaunchPart}
use Rattle.wg_top.proofs.ObjectLemmas.{one_more, one_other, said_true, said_false}
use Rattle.wg_top.proofs.objects.all_name.Goals as goal

pub returns-then-not-is_named : goal.returns-then-not-is_named
returns-then-not-is_named c = (
  λ h. (let never : ⊥ = cc h in absurd never),
  λ all. absurd (one_other (λ (p : LaunchPart). p.kernel ≡ c.args.kernel.now) c.args.list.now c.loop-part.part-index
      c.part-item.result c.loop-part-test.true c.part-item.is c.loop-part.invariant
      (said_false c.is_named.result _ c.if-not-is_named.true c.is_named.ensures) all),
)

pub loop-part-preserved : goal.loop-part-preserved
loop-part-preserved c =
    one_more (λ (p : LaunchPart). p.kernel ≡ c.args.kernel.now) c.args.list.now c.loop-part.part-index
    c.part-item.result c.loop-part-test.true c.part-item.is c.loop-part.invariant
    (said_true c.is_named.result _ c.if-not-is_named.false c.is_named.ensures)
