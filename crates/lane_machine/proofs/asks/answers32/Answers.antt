use Rattle.std.proofs.Common.{◌∙◌, sym, arith}
use Rattle.std.proofs.lemmas.List.{length-set}
use Rattle.cl_model.specs.View.{launch_of}
use Rattle.lane_code.specs.Acts.{answers}
use Rattle.lane_kernels.proofs.ListLaws.{written_next, written_all}
use Rattle.lane_machine.proofs.AskLaws.{get_or-answers, length-answers}
use Rattle.lane_machine.proofs.asks.answers32.Goals as goal

pub loop-i-preserved : goal.loop-i-preserved
loop-i-preserved g c =
    let launch = launch_of c.args.launch.now in
    let all = answers 32 launch c.args.item c.args.what c.args.dims in
    let i = c.loop-i.i in
    let inv = c.loop-i.invariant in
    record {
      long = length-set _ _ _ ∙ inv.long;
      written = written_next c.loop-i.lanes all i c.answer32.result 0 inv.written (omega (arith, inv.long))
          (omega (arith, length-answers 32 launch c.args.item c.args.what c.args.dims, c.fits-dims.0))
          (c.answer32.ensures ∙ sym (get_or-answers 32 launch c.args.item c.args.what c.args.dims i (omega (
            arith,
            c.fits-dims.0,
          ))));
    }

pub returns : goal.returns
returns g c =
    let launch = launch_of c.args.launch.now in
    written_all c.loop-i.lanes (answers 32 launch c.args.item c.args.what c.args.dims) c.loop-i.i
    c.loop-i.invariant.written (omega (arith, c.loop-i.invariant.long))
    (omega (arith, length-answers 32 launch c.args.item c.args.what c.args.dims, c.fits-dims.0))
