use Rattle.std.proofs.Common.{◌≡◌, ◌∙◌, sym, ap₂, length, arith, rules}
use Rattle.std.proofs.lemmas.List.{with_items_is}
use Rattle.lane_code.specs.Groups.{window, with_window}
use Rattle.lane_kernels.proofs.ListLaws.{full_select}
use Rattle.lane_machine.proofs.WindowLaws.{length-window}
use Rattle.lane_machine.proofs.group_steps.store_column.Goals as goal

-- with a full mask each lane is written, so no old value is kept
pub returns-then-is_full : goal.returns-then-is_full
returns-then-is_full g c =
    let v = c.args.column.now in
    let old = window 0 v.items c.args.first g.row.W in
    let m : length c.args.active ≡ g.row.W = search rules in
    let l : length c.args.lanes ≡ g.row.W = search rules in
    let e = full_select c.args.active c.args.lanes old g.row.W m l (length-window 0 v.items c.args.first g.row.W)
    (sym c.if-is_full.ensures) in
    with_items_is v c.put_numbers.new.list (omega (arith, c.deref_mut.ensures.len)) ∙ c.put_numbers.ensures
    ∙ ap₂ (λ xs ys. with_window xs c.args.first ys) c.deref_mut.ensures.value e
