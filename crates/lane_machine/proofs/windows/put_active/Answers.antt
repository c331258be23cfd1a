use Rattle.std.proofs.Common.{◌≡◌, ◌∙◌, ◌+◌, sym, length, get_or, set, arith, rules}
use Rattle.lane_machine.proofs.WindowLaws.{kept_lanes, active_written, idle_kept}
use Rattle.lane_machine.proofs.WindowLaws.{lane_completes, lane_leaves, lanes_end}
use Rattle.lane_machine.proofs.windows.put_active.Goals.{then-mask-k, else-mask-k}
use Rattle.lane_machine.proofs.windows.put_active.Goals as goal

pub loop-k-preserved : goal.loop-k-preserved
loop-k-preserved g c =
    let mask = c.args.mask in
    let lanes = c.args.lanes in
    let m : length mask ≡ g.row.W = search rules in
    let l : length lanes ≡ g.row.W = search rules in
    let old = c.args.list.now in
    let first = c.args.first in
    let list = c.loop-k.list in
    let new = c.if-mask-k.list in
    let k = c.loop-k.k in
    let inv = c.loop-k.invariant in
    let e : set list (first + k) (get_or (kept_lanes mask lanes old first g.row.W) k 0) ≡ new =
    elim c.if-mask-k.branch [
      | then-mask-k w ↦ active_written mask lanes old first g.row.W m l list k (omega arith) w.if-mask-k.true
          ∙ sym w.list-is
      | else-mask-k w ↦ idle_kept mask lanes old first g.row.W m l list k (omega arith) w.if-mask-k.false inv.same
          ∙ sym w.list-is
    ] in
    record {
      completes = lane_completes mask lanes old first g.row.W m l list new k (omega arith) e inv.completes;
      same = lane_leaves mask lanes old first g.row.W m l list new k e inv.same;
    }

pub returns : goal.returns
returns g c =
    let m : length c.args.mask ≡ g.row.W = search rules in
    let l : length c.args.lanes ≡ g.row.W = search rules in
    lanes_end c.args.mask c.args.lanes c.args.list.now c.args.first g.row.W m l c.loop-k.list c.loop-k.k (omega arith)
    c.loop-k.invariant.completes
