use Rattle.cl_model.specs.View.{program_of, launch_of, buffers_of}
use Rattle.diverge_sound.proofs.Carried.{carries}
use Rattle.diverge_sound.proofs.runs_law.Goals as goal

pub returns : goal.returns
returns c = carries (program_of c.args.program.now) (launch_of c.args.launch.now) (buffers_of c.args.buffers.now)
    c.requires.valid c.requires.fits
