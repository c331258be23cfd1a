use Rattle.std.proofs.Common.{◌∙◌, ◌≡◌, ◌*◌, min, ap}
use Rattle.std.specs.Prelude.{nat_lt}
use Rattle.launch_file.proofs.Limits.{product_below_end}
use Rattle.launch_file.proofs.sizes.are_above.Goals as goal

pub returns : goal.returns
returns c =
    let plane : c.saturating_mul-2.result ≡ min (min (c.args.x * c.args.y) 18446744073709551615 * c.args.z)
    18446744073709551615 = c.saturating_mul-2.ensures ∙
    ap (λ t. min (t * c.args.z) 18446744073709551615) c.saturating_mul.ensures in
    ap (nat_lt c.args.limit) plane ∙
    product_below_end c.args.x c.args.y c.args.z c.args.limit 18446744073709551615 c.requires.limit c.requires.some
