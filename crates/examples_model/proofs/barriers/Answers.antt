use Rattle.examples_model.proofs.Computed as computed
use Rattle.examples_model.proofs.barriers.Goals as goal

pub returns-clause-reverses : goal.returns-clause-reverses
returns-clause-reverses c = computed.reverses

pub returns-clause-fresh : goal.returns-clause-fresh
returns-clause-fresh c = computed.is_fresh

pub returns-clause-passed : goal.returns-clause-passed
returns-clause-passed c = computed.is_passed

pub returns-clause-parts : goal.returns-clause-parts
returns-clause-parts c = computed.parts

pub returns-clause-iterations_part : goal.returns-clause-iterations_part
returns-clause-iterations_part c = computed.iterations_part

pub returns-clause-lengths : goal.returns-clause-lengths
returns-clause-lengths c = computed.lengths

pub returns-clause-meets : goal.returns-clause-meets
returns-clause-meets c = computed.meets

pub returns-clause-scans : goal.returns-clause-scans
returns-clause-scans c = computed.scans

pub returns-clause-falls_through : goal.returns-clause-falls_through
returns-clause-falls_through c = computed.falls_through
