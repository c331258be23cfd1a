use Rattle.std.proofs.Common.{◌≡◌, ◌+◌, ◌*◌, ◌/◌, ◌^◌, ap, sym, ◌∙◌, arith}
use Rattle.std.specs.Simd.Lanes.{put_chunk, digits_l}
use Rattle.lane_kernels.proofs.AccessLaws.{put_1, put_8}
use Rattle.lane_kernels.proofs.access.put_number.Goals as goal

pub returns-in-1 : goal.returns-in-1
returns-in-1 c =
    let from = c.args.at * c.args.size in
    let bytes = c.args.bytes.now in
    let one : c.args.size ≡ 1 = grind (arith, c.in-1) in
    sym (ap (λ s. put_chunk from bytes (digits_l 256 s c.args.x)) one ∙ put_1 from c.args.x bytes)

pub returns-in_default : goal.returns-in_default
returns-in_default c =
    let from = c.args.at * c.args.size in
    let bytes = c.args.bytes.now in
    let x = c.args.x in
    let eight : c.args.size ≡ 8 = grind (arith, c.requires.size.small, c.in_default) in
    c.put_four-in_default-2.ensures ∙
    ap (λ ys. put_chunk (from + 4) ys (digits_l 256 4 (x / 2 ^ 32))) c.put_four-in_default.ensures
    ∙ put_8 from x bytes ∙ ap (λ s. put_chunk from bytes (digits_l 256 s x)) (sym eight)
