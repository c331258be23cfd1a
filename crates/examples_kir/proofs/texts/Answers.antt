use Rattle.examples_kir.proofs.Computed as computed
use Rattle.examples_kir.proofs.texts.Goals as goal

pub returns-clause-scan : goal.returns-clause-scan
returns-clause-scan c = computed.scan_crosses

pub returns-clause-exit : goal.returns-clause-exit
returns-clause-exit c = computed.exit_crosses

pub returns-clause-blocks : goal.returns-clause-blocks
returns-clause-blocks c = computed.blocks_apart

pub returns-clause-callee_first : goal.returns-clause-callee_first
returns-clause-callee_first c = computed.callee_first

pub returns-clause-callee_within : goal.returns-clause-callee_within
returns-clause-callee_within c = computed.callee_within

pub returns-clause-do_body_first : goal.returns-clause-do_body_first
returns-clause-do_body_first c = computed.do_body_first
