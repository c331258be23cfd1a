use Rattle.examples_model.proofs.OutcomesShown as shown
use Rattle.examples_model.proofs.refusals.Goals as goal

pub returns-clause-parted : goal.returns-clause-parted
returns-clause-parted c = shown.is_parting

pub returns-clause-never_released : goal.returns-clause-never_released
returns-clause-never_released c = shown.is_never_released

pub returns-clause-both_wait : goal.returns-clause-both_wait
returns-clause-both_wait c = shown.both_wait

pub returns-clause-iterations_apart : goal.returns-clause-iterations_apart
returns-clause-iterations_apart c = shown.iterations_are_apart

pub returns-clause-over : goal.returns-clause-over
returns-clause-over c = shown.nothing_follows_a_fault

pub returns-clause-not_clean : goal.returns-clause-not_clean
returns-clause-not_clean c = shown.race_is_not_clean
