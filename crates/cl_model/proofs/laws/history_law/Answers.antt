use Rattle.cl_model.specs.View.{program_of, launch_of, buffers_of}
use Rattle.cl_model.proofs.ItemHistories.{item_histories}
use Rattle.cl_model.proofs.laws.history_law.Goals as goal

pub returns : goal.returns
returns c = λ moves run. item_histories (program_of c.args.program.now) (launch_of c.args.launch.now)
    (buffers_of c.args.buffers.now) c.requires.valid c.requires.fits moves run
