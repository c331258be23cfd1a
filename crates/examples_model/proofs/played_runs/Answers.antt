use Rattle.examples_model.proofs.OutcomesShown as shown
use Rattle.examples_model.proofs.played_runs.Goals as goal

pub returns-clause-finished : goal.returns-clause-finished
returns-clause-finished c = shown.finished_is_done

pub returns-clause-faulted : goal.returns-clause-faulted
returns-clause-faulted c = shown.faulted_is_range
