use Rattle.cl_model.specs.View.{launch_of}
use Rattle.lane_code.specs.View.{plain_of}
use Rattle.lane_machine.proofs.ZeroLaws.{started}
use Rattle.lane_machine.proofs.group_state.Group.new.Goals as goal

pub returns-clause-made : goal.returns-clause-made
returns-clause-made c = started (plain_of c.args.program.now) (launch_of c.args.launch.now) _ c.at_start.ensures.kept
