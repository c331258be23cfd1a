use Rattle.lane_machine.proofs.ZeroLaws.{finished_zeroed}
use Rattle.lane_machine.proofs.group_state.Group.finish.Goals as goal

pub returns-clause-zeroed : goal.returns-clause-zeroed
returns-clause-zeroed c =
    finished_zeroed _ c.args.self.now c.copy_over.new.to.items c.self.view_is c.requires c.copy_over.ensures
