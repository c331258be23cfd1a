use Rattle.std.proofs.Common.{◌≡◌, ◌∙◌, sym, length, arith, rules}
use Rattle.lane_machine.proofs.WindowLaws.{window_ends}
use Rattle.lane_machine.proofs.windows.put_numbers.Goals as goal

pub returns : goal.returns
returns g c =
    let ys = c.args.lanes in
    let long : length ys ≡ g.row.W = search rules in
    sym (window_ends c.loop-k-2.list ys c.args.first c.loop-k-2.k (omega (arith, long))) ∙ c.loop-k-2.invariant
