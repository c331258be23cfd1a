use Rattle.std.proofs.Common.{◌%◌, ◌^◌, ◌∙◌, bit_and}
use Rattle.std.proofs.lemmas.Nat.{and_mask}
use Rattle.std.proofs.lemmas.Simd.{zip2_splat}
use Rattle.lane_kernels.proofs.ListLaws.{same_map}
use Rattle.lane_kernels.proofs.products64.low.Goals as goal

pub returns : goal.returns
returns g c =
    zip2_splat bit_and c.args.a g.row.W 4294967295 c.fits-a.0 ∙
    same_map (λ x. bit_and x 4294967295) (λ x. x % 2 ^ 32) (λ x. and_mask x 32) c.args.a
