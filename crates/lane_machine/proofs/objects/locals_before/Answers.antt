use Rattle.std.proofs.Common.{◌<◌, ◌∙◌, ◌+◌, sym, ap₂, arith, length, rules}
use Rattle.lane_machine.proofs.ObjectLaws.{locals_next}
use Rattle.lane_machine.proofs.objects.locals_before.Goals as goal

pub loop-i-preserved : goal.loop-i-preserved
loop-i-preserved c =
    let i = c.loop-i.i in
    let within : i < length c.args.args.now = search rules in
    record {
      value = ap₂ (λ a b. a + b) c.loop-i.invariant.value c.one_if_local-one.ensures.value ∙
          sym (locals_next c.args.args.now i _ within);
      few = omega (arith, c.loop-i.invariant.few, c.one_if_local-one.ensures.few);
    }
