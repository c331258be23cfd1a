use Rattle.examples_model.proofs.Computed as computed
use Rattle.examples_model.proofs.orders.Goals as goal

pub returns-clause-scans : goal.returns-clause-scans
returns-clause-scans c = computed.scans_back

pub returns-clause-meets : goal.returns-clause-meets
returns-clause-meets c = computed.meets_back

pub returns-clause-race_one_way : goal.returns-clause-race_one_way
returns-clause-race_one_way c = computed.race_one_way

pub returns-clause-race_other_way : goal.returns-clause-race_other_way
returns-clause-race_other_way c = computed.race_other_way
