use Rattle.std.proofs.Common.{◌≤◌, ap, sym, ◌∙◌, arith}
use Rattle.wg_num.specs.declared.types.Width.{Width}
use Rattle.wg_num.specs.declared.types.Width.TheVariants.{W1, W4, W8, W16}
use Rattle.wg_num.specs.Operators.{lanes_of}
use Rattle.cl_model.specs.View.{buffers_of, launch_of}
use Rattle.lane_code.specs.View.{plain_of}
use Rattle.lane_code.specs.declared.end.RunEnd.TheVariants as run
use Rattle.lane_machine.specs.Ends.{ended}
use Rattle.lane_machine.specs.Held.{Held}
use Rattle.lane_machine.proofs.ZeroLaws.{has_votes}
use Rattle.lane_machine.proofs.machine.Machine.items.Goals as goal

some_lane : (width : Width) → 1 ≤ lanes_of width
some_lane W1 = omega arith
some_lane W4 = omega arith
some_lane W8 = omega arith
some_lane W16 = omega arith

pub returns-in-Some-clause-end : goal.returns-in-Some-clause-end
returns-in-Some-clause-end c =
    let p = plain_of c.args.program.now in
    let l = launch_of c.args.launch.now in
    let g = c.args.group.now in
    let t = c.args.turns.now in
    let b = buffers_of c.args.buffers.now in
    c.in-Some.ensures.alike p l g.number t g.kept b (some_lane c.args.program.now.width)
    (has_votes p l g.kept c.requires.stands.made) ∙
    ap (λ (h : Held). ended run.Done t h.kept b) (sym c.answer.ensures.answered)
