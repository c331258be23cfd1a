use Rattle.examples_kir.proofs.Computed as computed
use Rattle.examples_kir.proofs.rounds.Goals as goal

pub returns-clause-fit : goal.returns-clause-fit
returns-clause-fit c = computed.is_round_fit

pub returns-clause-ends : goal.returns-clause-ends
returns-clause-ends c = computed.round_ends

pub returns-clause-traces_agree : goal.returns-clause-traces_agree
returns-clause-traces_agree c = computed.round_traces_agree

pub returns-clause-points : goal.returns-clause-points
returns-clause-points c = computed.points_differ

pub returns-clause-cuts : goal.returns-clause-cuts
returns-clause-cuts c = computed.cuts_at_round

pub returns-clause-lives : goal.returns-clause-lives
returns-clause-lives c = computed.lives_in_round

pub returns-clause-keeps : goal.returns-clause-keeps
returns-clause-keeps c = computed.keeps_no_answer

pub returns-clause-places : goal.returns-clause-places
returns-clause-places c = computed.same_place_same_tasks
