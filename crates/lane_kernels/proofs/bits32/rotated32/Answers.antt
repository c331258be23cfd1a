use Rattle.std.proofs.Common.{ℕ, ◌%◌, ◌^◌, ◌<◌, ◌∙◌, ap, ap₂, sym, subst, mod-lt, replicate, map, length, bit_and}
use Rattle.std.proofs.Common.{refl, arith}
use Rattle.std.proofs.lemmas.List.{length-map}
use Rattle.std.proofs.lemmas.Simd.{zip2_splat}
use Rattle.std.specs.Simd.Lanes.{zip2}
use Rattle.wg_num.specs.Wrap.{width_bits}
use Rattle.lane_values.specs.Lanes.{extended}
use Rattle.lane_kernels.specs.Vectors.{turned_lane}
use Rattle.lane_kernels.proofs.BitLaws as B
use Rattle.lane_kernels.proofs.LaneLaws as K
use Rattle.lane_kernels.proofs.ListLaws.{each_replicate}
use Rattle.lane_kernels.proofs.bits32.rotated32.Goals as goal

pub turned-requires : goal.turned-requires
turned-requires g c =
    let t = c.args.t in
    let w = width_bits t in
    let k = c.in-Some.k in
    let is = ap (bit_and k) c.amount_bits.ensures ∙
    K.amount_masked 32 (2 ^ 31) refl refl (omega arith) (omega arith) t k c.requires in (
      omega arith,
      (
        c.requires,
        each_replicate (λ k. k < w) g.row.W (bit_and k c.amount_bits.result) (subst (λ k. k < w) (sym is)
            (mod-lt k (K.some_width 32 (2 ^ 31) refl refl (omega arith) (omega arith) t))),
      ),
    )

pub returns-in-Some : goal.returns-in-Some
returns-in-Some g c =
    let t = c.args.t in
    let a = c.args.a in
    let b = c.args.b in
    let k = c.in-Some.k in
    let x = c.extend32-held.result in
    let turn = λ (p q : ℕ). turned_lane 32 t p (q % width_bits t) in
    let long = ap length c.extend32-held.ensures ∙ length-map a (extended 32 t) ∙ c.fits-a.0 in
    c.extend32.ensures
    ∙ ap (map (extended 32 t)) (c.turned.ensures
    ∙ ap (λ k. zip2 (turned_lane 32 t) x (replicate g.row.W k)) (ap (bit_and k) c.amount_bits.ensures ∙
    K.amount_masked 32 (2 ^ 31) refl refl (omega arith) (omega arith) t k c.requires)
    ∙ zip2_splat (turned_lane 32 t) x g.row.W (k % width_bits t) long
    ∙ sym (zip2_splat turn x g.row.W k long)
    ∙ ap (zip2 turn x) (sym c.in-Some.ensures)
    ∙ ap₂ (zip2 turn) c.extend32-held.ensures c.extend32-amount.ensures)
    ∙ B.rotated_lanes 32 (2 ^ 31) refl refl (omega arith) (omega arith) t c.requires a b

pub returns : goal.returns
returns g c =
    let t = c.args.t in
    let turn = λ (p q : ℕ). turned_lane 32 t p (q % width_bits t) in
    c.extend32-2.ensures
    ∙ ap (map (extended 32 t)) (c.turned_each.ensures ∙ ap₂ (zip2 turn) c.extend32-held.ensures
    c.extend32-amount.ensures)
    ∙ B.rotated_lanes 32 (2 ^ 31) refl refl (omega arith) (omega arith) t c.requires c.args.a c.args.b
