use Rattle.std.proofs.Common.{◌∙◌}
use Rattle.lane_machine.proofs.ZeroLaws.{answered_zeroed}
use Rattle.lane_machine.proofs.group_state.Group.answer.Goals as goal

pub returns-clause-zeroed : goal.returns-clause-zeroed
returns-clause-zeroed c =
    answered_zeroed _ c.begin.new.self c.vote_all.new.votes.items c.answer-answer.result c.self-2.view_is
    c.vote_all.ensures ∙ c.begin.ensures.zeroed
