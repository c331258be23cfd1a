use Rattle.examples_kir.proofs.Computed as computed
use Rattle.examples_kir.proofs.straight_lines.Goals as goal

pub returns-clause-fit : goal.returns-clause-fit
returns-clause-fit c = computed.is_fit

pub returns-clause-ends : goal.returns-clause-ends
returns-clause-ends c = computed.ends

pub returns-clause-traces_agree : goal.returns-clause-traces_agree
returns-clause-traces_agree c = computed.traces_agree

pub returns-clause-lives_between : goal.returns-clause-lives_between
returns-clause-lives_between c = computed.lives_between

pub returns-clause-few_lines : goal.returns-clause-few_lines
returns-clause-few_lines c = computed.few_lines
