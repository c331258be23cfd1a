use Rattle.examples_kir.proofs.Meeting.{meeting_is_lowered}
use Rattle.examples_kir.proofs.Holding.{holding_matches}
use Rattle.examples_kir.proofs.lowered.Goals as goal

pub returns-clause-meeting : goal.returns-clause-meeting
returns-clause-meeting c = meeting_is_lowered

pub returns-clause-holding : goal.returns-clause-holding
returns-clause-holding c = holding_matches
