use Rattle.std.proofs.Common.{List, ℕ}
use Rattle.std.specs.Simd.Lanes.{sel_l}
use Rattle.lane_code.specs.Groups.{window, with_window}
use Rattle.lane_machine.proofs.NestedLaws.{set_one}
use Rattle.lane_machine.proofs.group_steps.store_in.Goals as goal

pub returns : goal.returns
returns g c =
    let f : List ℕ → List ℕ =
    λ old. with_window old c.args.first (sel_l c.args.active c.args.lanes (window 0 old c.args.first g.row.W)) in
    set_one c.args.columns.now.items c.args.column c.index_mut.result.now c.store_column.new.column f
    c.requires.column c.index_mut.ensures.value c.store_column.ensures
