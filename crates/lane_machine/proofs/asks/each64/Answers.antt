use Rattle.std.proofs.Common.{◌≡◌, ◌∙◌, sym, length, arith, rules}
use Rattle.std.proofs.lemmas.List.{length-set}
use Rattle.cl_model.specs.View.{launch_of}
use Rattle.lane_code.specs.Acts.{answers}
use Rattle.lane_kernels.proofs.ListLaws.{written_next, written_all}
use Rattle.lane_machine.proofs.AskLaws.{get_or-answers, length-answers}
use Rattle.lane_machine.proofs.asks.each64.Goals as goal

pub loop-i-preserved : goal.loop-i-preserved
loop-i-preserved g c =
    let launch = launch_of c.args.launch.now in
    let long : length c.args.places ≡ g.row.W = search rules in
    let all = answers 64 launch c.args.item c.args.what c.args.places in
    let i = c.loop-i.i in
    let inv = c.loop-i.invariant in
    record {
      long = length-set _ _ _ ∙ inv.long;
      written = written_next c.loop-i.lanes all i c.answer64.result 0 inv.written (omega (arith, inv.long))
          (omega (arith, length-answers 64 launch c.args.item c.args.what c.args.places, long))
          (c.answer64.ensures ∙ sym (get_or-answers 64 launch c.args.item c.args.what c.args.places i (omega (
            arith,
            long,
          ))));
    }

pub returns : goal.returns
returns g c =
    let launch = launch_of c.args.launch.now in
    let long : length c.args.places ≡ g.row.W = search rules in
    written_all c.loop-i.lanes (answers 64 launch c.args.item c.args.what c.args.places) c.loop-i.i
    c.loop-i.invariant.written (omega (arith, c.loop-i.invariant.long))
    (omega (arith, length-answers 64 launch c.args.item c.args.what c.args.places, long))
