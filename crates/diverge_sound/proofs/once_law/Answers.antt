use Rattle.cl_model.specs.View.{program_of, launch_of, buffers_of}
use Rattle.diverge_sound.proofs.Carried.{carries}
use Rattle.diverge_sound.proofs.Once.{once}
use Rattle.diverge_sound.proofs.Tested.{tests_once}
use Rattle.diverge_sound.proofs.once_law.Goals as goal

pub returns-clause-histories : goal.returns-clause-histories
returns-clause-histories c = once (program_of c.args.program.now) (launch_of c.args.launch.now)
    (buffers_of c.args.buffers.now) c.requires.valid c.requires.fits

pub returns-clause-runs : goal.returns-clause-runs
returns-clause-runs c v nv =
    carries (program_of c.args.program.now) (launch_of c.args.launch.now) (buffers_of c.args.buffers.now)
    c.requires.valid c.requires.fits v
    (once (program_of c.args.program.now) (launch_of c.args.launch.now) (buffers_of c.args.buffers.now)
    c.requires.valid c.requires.fits v nv)

pub returns-clause-tests : goal.returns-clause-tests
returns-clause-tests c = tests_once (program_of c.args.program.now) (launch_of c.args.launch.now)
    (buffers_of c.args.buffers.now) c.requires.valid c.requires.fits
