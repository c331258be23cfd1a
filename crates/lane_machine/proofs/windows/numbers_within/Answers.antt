use Rattle.std.proofs.Common.{◌∙◌, ◌<◌, sym, arith}
use Rattle.std.proofs.lemmas.List.{length-set, get_or-set_other}
use Rattle.lane_code.specs.Groups.{window}
use Rattle.lane_kernels.proofs.ListLaws.{written_next}
use Rattle.lane_machine.proofs.WindowLaws.{length-window, get_or-window, window_filled}
use Rattle.lane_machine.proofs.windows.numbers_within.Goals as goal

pub loop-k-preserved : goal.loop-k-preserved
loop-k-preserved g c =
    let list = c.args.list.now in
    let all = window 0 list c.args.first g.row.W in
    let k = c.loop-k.k in
    let inv = c.loop-k.invariant in
    let below : k < g.row.W = omega arith in
    record {
      long = length-set _ _ _ ∙ inv.long;
      written = written_next c.loop-k.lanes all k _ 0 inv.written (omega (arith, inv.long))
          (omega (arith, length-window 0 list c.args.first g.row.W))
          (sym (get_or-window 0 list c.args.first g.row.W k below));
      unwritten = λ j h. get_or-set_other c.loop-k.lanes k j _ 0 (omega arith) ∙ inv.unwritten j (omega arith);
    }

pub returns : goal.returns
returns g c =
    let inv = c.loop-k.invariant in
    window_filled 0 c.args.list.now c.loop-k.lanes c.args.first g.row.W c.loop-k.k inv.long inv.written inv.unwritten
    (omega arith)
