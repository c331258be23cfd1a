use Rattle.std.proofs.Common.{◌+◌, ◌*◌, ◌≤◌, arith}
use Rattle.cl_short_vec.specs.Types.{numbers}
use Rattle.cl_short_vec.proofs.Numbers.{step_more, numbers_more}
use Rattle.cl_short_vec.proofs.selections.numbers.Goals as goal

pub loop-left-preserved : goal.loop-left-preserved
loop-left-preserved c =
    let some : 1 ≤ c.loop-left.left = omega (arith, c.loop-left-test.true) in
    record {
      listed = numbers_more c.loop-left.list.items c.push.new.list.items c.loop-left.next c.args.by c.loop-left.left
          (numbers c.args.first c.args.by c.args.count) c.loop-left.invariant.listed some c.in_ok-push.ensures;
      room = step_more c.loop-left.next c.args.by c.loop-left.left (c.args.first + c.args.by * c.args.count)
          c.loop-left.invariant.room some;
    }
