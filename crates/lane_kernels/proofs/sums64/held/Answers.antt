use Rattle.std.proofs.Common.{◌+◌, ◌-◌, ◌^◌, ◌∙◌, ap, ap₂, map, max, min, replicate, refl, arith}
use Rattle.std.proofs.lemmas.List.{length-map}
use Rattle.std.proofs.lemmas.Simd.{zip2_splat}
use Rattle.std.specs.Simd.Lanes.{zip2}
use Rattle.wg_num.specs.Wrap.{half}
use Rattle.lane_kernels.specs.Vectors.{bias_of, held_raised, lowered_lane}
use Rattle.lane_kernels.proofs.ListLaws.{map_of_map}
use Rattle.lane_kernels.proofs.SumLaws as S
use Rattle.lane_kernels.proofs.sums64.held.Goals as goal

pub overflow_add-high : goal.overflow_add-high
overflow_add-high g c = omega (
  arith,
  S.high_room 64 (2 ^ 63) refl refl (omega arith) (omega arith) c.args.t c.args.top c.requires.fits c.requires.top,
  c.bias-raise.ensures,
)

pub overflow_sub-raise : goal.overflow_sub-raise
overflow_sub-raise g c = omega (
  arith,
  S.low_room 64 (2 ^ 63) refl refl (omega arith) (omega arith) c.args.t c.requires.fits,
  c.bias-raise.ensures,
  c.half_of.ensures,
)

pub returns : goal.returns
returns g c =
    let t = c.args.t in
    let a = c.args.a in
    let high = bias_of 64 t + c.args.top in
    let low = bias_of 64 t - half t in
    c.lowered.ensures
    ∙ ap (map (lowered_lane 64 t)) (c.most.ensures
    ∙ ap₂ (λ xs k. zip2 max xs (replicate g.row.W k))
    (c.least.ensures ∙ ap (λ k. zip2 min a (replicate g.row.W (k + c.args.top))) c.bias-raise.ensures ∙
    zip2_splat min a g.row.W high c.fits-a.0)
    (ap₂ (λ k h. k - h) c.bias-raise.ensures c.half_of.ensures)
    ∙ zip2_splat max (map (λ m. min m high) a) g.row.W low (length-map a (λ m. min m high) ∙ c.fits-a.0)
    ∙ map_of_map (λ m. max m low) (λ m. min m high) a)
    ∙ map_of_map (lowered_lane 64 t) (held_raised 64 t c.args.top) a
