use Rattle.std.proofs.Common.{◌∙◌, ap, refl, not, nat_eq, ◌&&◌}
use Rattle.std.specs.Simd.Lanes.{zip2}
use Rattle.lane_kernels.proofs.ListLaws as L
use Rattle.lane_machine.proofs.masking.active32.Goals as goal

pub returns : goal.returns
returns g c =
    c.both.ensures ∙ ap (zip2 (λ x y. x && y) c.args.mask) c.nonzero32-2.ensures
    ∙ L.zip2-map_right 32 31 4294967295 refl refl (λ x y. x && y) (λ x. not (nat_eq x 0)) c.args.mask c.args.a

pub returns-then-this-le8 : goal.returns-then-this-le8
returns-then-this-le8 g c =
    c.both_apart.ensures ∙ ap (zip2 (λ x y. x && y) c.args.mask) c.nonzero32.ensures
    ∙ L.zip2-map_right 32 31 4294967295 refl refl (λ x y. x && y) (λ x. not (nat_eq x 0)) c.args.mask c.args.a
