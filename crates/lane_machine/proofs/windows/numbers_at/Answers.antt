use Rattle.std.proofs.Common.{◌∙◌, sym, arith}
use Rattle.std.proofs.lemmas.List.{length-set}
use Rattle.lane_code.specs.Groups.{window}
use Rattle.lane_kernels.proofs.ListLaws.{written_next, written_all}
use Rattle.lane_machine.proofs.WindowLaws.{length-window, get_or-window}
use Rattle.lane_machine.proofs.windows.numbers_at.Goals as goal

pub loop-k-preserved : goal.loop-k-preserved
loop-k-preserved g c =
    let list = c.args.list.now in
    let all = window 0 list c.args.first g.row.W in
    let k = c.loop-k.k in
    let inv = c.loop-k.invariant in
    record {
      long = length-set _ _ _ ∙ inv.long;
      written = written_next c.loop-k.lanes all k _ 0 inv.written (omega (arith, inv.long))
          (omega (arith, length-window 0 list c.args.first g.row.W))
          (sym (get_or-window 0 list c.args.first g.row.W k c.loop-k-test.true));
    }

pub returns-then-first-list : goal.returns-then-first-list
returns-then-first-list g c =
    let list = c.args.list.now in
    written_all c.loop-k.lanes (window 0 list c.args.first g.row.W) c.loop-k.k c.loop-k.invariant.written
    (omega (arith, c.loop-k.invariant.long))
    (omega (arith, length-window 0 list c.args.first g.row.W))
