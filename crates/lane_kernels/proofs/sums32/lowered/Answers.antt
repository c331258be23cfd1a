use Rattle.std.proofs.Common.{◌∙◌, ap, map}
use Rattle.std.proofs.lemmas.Simd.{zip2_splat}
use Rattle.lane_kernels.proofs.ListLaws.{sub_in}
use Rattle.lane_kernels.proofs.sums32.lowered.Goals as goal

pub returns : goal.returns
returns g c =
    zip2_splat (sub_in 32) c.args.a g.row.W c.bias.result c.fits-a.0
    ∙ ap (λ k. map (λ x. sub_in 32 x k) c.args.a) c.bias.ensures
