use Rattle.std.proofs.Common.{◌<◌, length, rules}
use Rattle.lane_machine.proofs.ObjectLaws.{arguments_more}
use Rattle.lane_machine.proofs.group_start.add_arguments.Goals as goal

pub loop-i-preserved : goal.loop-i-preserved
loop-i-preserved c =
    let within : c.loop-i.i < length c.args.args.now = search rules in
    record {
      made = arguments_more _ _ _ c.args.args.now c.loop-i.i _ within c.loop-i.invariant.made
          c.in_ok-list.ensures;
    }
