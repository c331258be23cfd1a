use Rattle.std.proofs.Common.{arith}
use Rattle.diverge.specs.Known.{state_of}
use Rattle.diverge.proofs.Blocks.{closing_back}
use Rattle.diverge.proofs.statements.close_all.Goals as goal

pub loop-number-preserved : goal.loop-number-preserved
loop-number-preserved c =
    closing_back c.args.at c.args.list.now c.loop-number.number c.index-list-number.result
    (state_of c.loop-number.known) (state_of c.close.new.known) _ (omega (arith, c.loop-number-test.true))
    (omega (arith, c.loop-number.auto.number)) c.index-list-number.is c.close.ensures c.loop-number.invariant
