use Rattle.std.proofs.Common.{◌/◌, ◌^◌, arith}
use Rattle.std.proofs.lemmas.Simd.{shifts_fit_splat, zip2_splat}
use Rattle.lane_kernels.proofs.products64.high.Goals as goal

pub overflow_shr-result : goal.overflow_shr-result
overflow_shr-result g c = shifts_fit_splat 64 c.args.a g.row.W 32 (omega arith)

pub returns : goal.returns
returns g c = zip2_splat (λ x k. x / 2 ^ k) c.args.a g.row.W 32 c.fits-a.0
