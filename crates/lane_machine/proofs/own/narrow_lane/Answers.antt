use Rattle.std.proofs.Common.{◌≡◌, sym, subst, length, true, false, MatchOption}
use Rattle.wg_num.specs.Bytes.{size_of}
use Rattle.lane_values.specs.Access.{is_fault, lane_from}
use Rattle.lane_machine.proofs.own.narrow_lane.Goals as goal

pub returns-then-on : goal.returns-then-on
returns-then-on c =
    let a = c.args in
    subst (λ b. MatchOption c.active_lane.result
    (is_fault (size_of a.t) (length a.bytes.now) b a.at ≡ true)
    (λ x. (is_fault (size_of a.t) (length a.bytes.now) b a.at ≡ false) × (x ≡ lane_from 32 a.t a.bytes.now b a.at)))
    (sym c.if-on.true) c.active_lane.ensures
