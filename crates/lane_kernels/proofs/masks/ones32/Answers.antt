use Rattle.std.proofs.Common.{◌∙◌, sym, subst, refl, not, nat_eq, Fits, w8}
use Rattle.std.specs.Int.{from_bool}
use Rattle.std.specs.Simd.Lanes.{Each1}
use Rattle.lane_kernels.proofs.ListLaws.{each_map, map_id, bit_fits}
use Rattle.lane_kernels.proofs.ListLaws as L
use Rattle.lane_kernels.proofs.masks.ones32.Goals as goal

pub overflow_cast-result : goal.overflow_cast-result
overflow_cast-result g c =
    subst (Each1 (Fits w8)) (sym (L.ones_of 32 31 4294967295 refl refl g.row.W c.args.a c.fits-a.0))
    (each_map (Fits w8) (λ x. from_bool (not (nat_eq x 0))) (λ x. bit_fits w8 (not (nat_eq x 0))) c.args.a)

pub returns : goal.returns
returns g c = map_id _ ∙ L.ones_of 32 31 4294967295 refl refl g.row.W c.args.a c.fits-a.0
