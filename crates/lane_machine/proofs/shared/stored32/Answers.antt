use Rattle.std.proofs.Common.{◌∙◌, sym, ap, refl, cond, nat_eq}
use Rattle.wg_num.specs.Wrap.{is_bool}
use Rattle.wg_num.proofs.WrapLaws.{not_bool}
use Rattle.lane_values.specs.Access.{stored_lane}
use Rattle.lane_kernels.proofs.ListLaws.{map_id, same_map}
use Rattle.lane_kernels.proofs.ListLaws as L
use Rattle.lane_machine.proofs.shared.stored32.Goals as goal

pub returns-in-Bool : goal.returns-in-Bool
returns-in-Bool g c =
    L.chosen_by 32 31 4294967295 refl refl (λ x y. nat_eq x y) 0 0 1 g.row.W c.args.lanes c.fits-lanes.0
    ∙ same_map (λ u. cond (nat_eq u 0) 0 1) (stored_lane c.args.t)
    (λ u. sym (ap (λ b. cond (is_bool b) (cond (nat_eq u 0) 0 1) u) c.in-Bool.is)) c.args.lanes

pub returns : goal.returns
returns g c =
    sym (map_id c.args.lanes)
    ∙ same_map (λ x. x) (stored_lane c.args.t)
    (λ u. sym (ap (λ b. cond b (cond (nat_eq u 0) 0 1) u) (not_bool c.args.t c.in_default.not-Bool))) c.args.lanes
