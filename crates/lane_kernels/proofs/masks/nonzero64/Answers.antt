use Rattle.std.proofs.Common.{◌∙◌, ap, map, not, nat_eq}
use Rattle.lane_kernels.proofs.ListLaws.{bits_read}
use Rattle.lane_kernels.proofs.masks.nonzero64.Goals as goal

pub returns : goal.returns
returns g c = c.truths_of.ensures ∙ ap (map (λ x. not (nat_eq x 0))) c.ones64.ensures ∙
    bits_read (λ x. not (nat_eq x 0)) c.args.a
