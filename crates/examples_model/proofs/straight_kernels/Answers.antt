use Rattle.examples_model.proofs.Computed as computed
use Rattle.examples_model.proofs.straight_kernels.Goals as goal

pub returns-clause-increments : goal.returns-clause-increments
returns-clause-increments c = computed.increments

pub returns-clause-wraps : goal.returns-clause-wraps
returns-clause-wraps c = computed.wraps

pub returns-clause-faults : goal.returns-clause-faults
returns-clause-faults c = computed.faults

pub returns-clause-faults_before : goal.returns-clause-faults_before
returns-clause-faults_before c = computed.faults_before

pub returns-clause-squares : goal.returns-clause-squares
returns-clause-squares c = computed.squares

pub returns-clause-switches : goal.returns-clause-switches
returns-clause-switches c = computed.switches

pub returns-clause-shares : goal.returns-clause-shares
returns-clause-shares c = computed.shares

pub returns-clause-some_cleared : goal.returns-clause-some_cleared
returns-clause-some_cleared c = computed.some_cleared

pub returns-clause-calls : goal.returns-clause-calls
returns-clause-calls c = computed.calls

pub returns-clause-table_sum : goal.returns-clause-table_sum
returns-clause-table_sum c = computed.table_sum
