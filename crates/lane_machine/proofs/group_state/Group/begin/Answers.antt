use Rattle.lane_machine.proofs.ZeroLaws.{begun_zeroed}
use Rattle.lane_machine.proofs.group_state.Group.begin.Goals as goal

pub returns-clause-zeroed : goal.returns-clause-zeroed
returns-clause-zeroed c =
    begun_zeroed _ c.args.self.now c.copy_over.new.to.items c.self.view_is c.requires c.copy_over.ensures
