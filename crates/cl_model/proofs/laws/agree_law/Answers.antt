use Rattle.cl_model.specs.View.{program_of, launch_of, buffers_of}
use Rattle.cl_model.proofs.CleanLaunches.{all_agree}
use Rattle.cl_model.proofs.laws.agree_law.Goals as goal

pub returns : goal.returns
returns c =
    all_agree (program_of c.args.program.now) (launch_of c.args.launch.now) (buffers_of c.args.buffers.now) c.requires
