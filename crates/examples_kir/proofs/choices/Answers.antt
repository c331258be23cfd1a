use Rattle.examples_kir.proofs.Computed as computed
use Rattle.examples_kir.proofs.choices.Goals as goal

pub returns-clause-fit : goal.returns-clause-fit
returns-clause-fit c = computed.is_choice_fit

pub returns-clause-stuck : goal.returns-clause-stuck
returns-clause-stuck c = computed.is_stuck

pub returns-clause-traces_agree : goal.returns-clause-traces_agree
returns-clause-traces_agree c = computed.choice_traces_agree

pub returns-clause-stands : goal.returns-clause-stands
returns-clause-stands c = computed.stands_at_barrier

pub returns-clause-cuts : goal.returns-clause-cuts
returns-clause-cuts c = computed.cuts_at_choice

pub returns-clause-keeps : goal.returns-clause-keeps
returns-clause-keeps c = computed.keeps_test

pub returns-clause-counts : goal.returns-clause-counts
returns-clause-counts c = computed.counts_keeps
