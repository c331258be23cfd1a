use Rattle.lane_machine.proofs.ClearLaws.{cleared_zeroed}
use Rattle.lane_machine.proofs.group_state.Group.clear.Goals as goal

pub returns-clause-zeroed : goal.returns-clause-zeroed
returns-clause-zeroed c = cleared_zeroed _ c.args.self.now _ c.self.view_is c.clear_objects.ensures
    c.clear_arrays.ensures c.clear_columns.ensures c.clear_numbers.ensures c.clear_numbers-2.ensures
    c.clear_votes.ensures
