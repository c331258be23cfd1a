use Rattle.examples_model.proofs.Computed as computed
use Rattle.examples_model.proofs.planes.Goals as goal

pub returns-clause-indices : goal.returns-clause-indices
returns-clause-indices c = computed.indices

pub returns-clause-column_wide : goal.returns-clause-column_wide
returns-clause-column_wide c = computed.column_wide

pub returns-clause-column_high : goal.returns-clause-column_high
returns-clause-column_high c = computed.column_high
