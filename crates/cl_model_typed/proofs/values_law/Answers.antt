use Rattle.cl_model.specs.Meaning.{lengths_of, MayBeTold}
use Rattle.cl_model_typed.proofs.Histories.{stays, start_fits, evaluation}
use Rattle.cl_model_typed.proofs.values_law.Goals as goal

pub returns-clause-starts : goal.returns-clause-starts
returns-clause-starts c program launch typed item = start_fits program launch typed item

pub returns-clause-stays : goal.returns-clause-stays
returns-clause-stays c program launch typed buffers from to deeds fits does =
    stays program launch typed does fits

pub returns-clause-evaluations : goal.returns-clause-evaluations
returns-clause-evaluations c program launch typed buffers =
    evaluation program launch typed (lengths_of program launch buffers) (MayBeTold program launch buffers)
