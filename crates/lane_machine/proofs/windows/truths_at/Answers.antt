use Rattle.std.proofs.Common.{◌∙◌, ◌<◌, sym, false, arith}
use Rattle.std.proofs.lemmas.List.{length-set, get_or-set_other}
use Rattle.lane_code.specs.Groups.{window}
use Rattle.lane_kernels.proofs.ListLaws.{written_next, written_all}
use Rattle.lane_machine.proofs.WindowLaws.{length-window, get_or-window, window_filled}
use Rattle.lane_machine.proofs.windows.truths_at.Goals as goal

pub loop-k-preserved : goal.loop-k-preserved
loop-k-preserved g c =
    let list = c.args.list.now in
    let all = window false list c.args.first g.row.W in
    let k = c.loop-k.k in
    let inv = c.loop-k.invariant in
    record {
      long = length-set _ _ _ ∙ inv.long;
      written = written_next c.loop-k.lanes all k _ false inv.written (omega (arith, inv.long))
          (omega (arith, length-window false list c.args.first g.row.W))
          (sym (get_or-window false list c.args.first g.row.W k c.loop-k-test.true));
    }

pub returns-then-first-list : goal.returns-then-first-list
returns-then-first-list g c =
    let list = c.args.list.now in
    written_all c.loop-k.lanes (window false list c.args.first g.row.W) c.loop-k.k c.loop-k.invariant.written
    (omega (arith, c.loop-k.invariant.long))
    (omega (arith, length-window false list c.args.first g.row.W))

pub loop-k-2-preserved : goal.loop-k-2-preserved
loop-k-2-preserved g c =
    let list = c.args.list.now in
    let all = window false list c.args.first g.row.W in
    let k = c.loop-k-2.k in
    let inv = c.loop-k-2.invariant in
    let below : k < g.row.W = omega arith in
    record {
      long = length-set _ _ _ ∙ inv.long;
      written = written_next c.loop-k-2.lanes all k _ false inv.written (omega (arith, inv.long))
          (omega (arith, length-window false list c.args.first g.row.W))
          (sym (get_or-window false list c.args.first g.row.W k below));
      unwritten = λ j h. get_or-set_other c.loop-k-2.lanes k j _ false (omega arith) ∙ inv.unwritten j (omega arith);
    }

pub returns : goal.returns
returns g c =
    let inv = c.loop-k-2.invariant in
    window_filled false c.args.list.now c.loop-k-2.lanes c.args.first g.row.W c.loop-k-2.k inv.long inv.written inv.unwritten
    (omega arith)
