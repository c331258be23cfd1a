use Rattle.std.proofs.Common.{◌≡◌, ◌+◌, ◌*◌, ap, ap₂, sym, ◌∙◌, arith}
use Rattle.std.specs.Simd.Lanes.{number_l, chunk}
use Rattle.lane_kernels.proofs.AccessLaws.{number_8}
use Rattle.lane_kernels.proofs.access.number_at.Goals as goal

pub returns-in_default : goal.returns-in_default
returns-in_default c =
    let eight : c.args.size ≡ 8 = grind (arith, c.requires.size.small, c.in_default) in
    let from = c.args.at * c.args.size in
    ap₂ (λ l h. l + 4294967296 * h) c.four_bytes-in_default.ensures c.four_bytes-in_default-2.ensures
    ∙ number_8 from c.args.bytes.now (omega (arith, c.requires.room, eight))
    ∙ ap (λ s. number_l 256 (chunk from s c.args.bytes.now)) (sym eight)
