use Rattle.std.proofs.Common.{arith}
use Rattle.std.specs.Prelude.{false}
use Rattle.std.proofs.lemmas.List.{ext_get_or}
use Rattle.ctx_plan.proofs.holding.same_entries.Goals as goal

pub returns : goal.returns
returns c = λ _.
    let same = c.if-a-b.false in
    let done = c.loop-i-test.false in
    ext_get_or false c.args.a.now c.args.b.now same (λ i lt. c.loop-i.invariant i (omega (arith, lt, done)))
