use Rattle.std.proofs.Common.{List, subst}
use Rattle.wg_num.specs.Operators.{lanes_of}
use Rattle.cl_model.specs.View.{launch_of}
use Rattle.cl_model.specs.declared.program.VarKind.{VarKind}
use Rattle.lane_code.specs.Fits.{LaunchFits}
use Rattle.cl_meaning.specs.View.{unit_of}
use Rattle.launch_file.specs.Binding.{part_at}
use Rattle.launch_file.specs.Texts.{text_of}
use Rattle.wg_top.specs.Units.{needs_in}
use Rattle.wg_top.proofs.BoundLemmas.{is_fit, part_has}
use Rattle.wg_top.proofs.MiddleLemmas.{params_in}
use Rattle.examples_compiled.proofs.ready.first_launch.Goals as goal

pub returns-in-Ok : goal.returns-in-Ok
returns-in-Ok c =
    subst (λ (ks : List VarKind). LaunchFits ks 0 (launch_of c.in-Ok.launch))
    (params_in (lanes_of c.args.width) c.args.kernel.now c.requires.passes)
    (is_fit (needs_in (unit_of c.args.kernel.now.program)) (text_of c.args.text.now)
    (part_at (text_of c.args.text.now) 0) c.in-Ok.launch
    (part_has c.args.text.now.list.items 0 _ c.requires.some c.requires.lengths) c.in-Ok.ensures.bound
    c.in-Ok.ensures.offsets)
