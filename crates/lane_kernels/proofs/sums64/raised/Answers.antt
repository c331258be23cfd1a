use Rattle.std.proofs.Common.{◌∙◌, ap, ap₂, map, length}
use Rattle.std.proofs.lemmas.List.{length-map}
use Rattle.std.proofs.lemmas.Simd.{zip2_splat}
use Rattle.lane_values.specs.Lanes.{extended}
use Rattle.lane_kernels.specs.Vectors.{bias_of, raised}
use Rattle.lane_kernels.proofs.ListLaws.{add_in, map_of_map}
use Rattle.lane_kernels.proofs.sums64.raised.Goals as goal

pub returns : goal.returns
returns g c =
    let t = c.args.t in
    let long = ap length c.extend64.ensures ∙ length-map c.args.a (extended 64 t) ∙ c.fits-a.0 in
    zip2_splat (add_in 64) c.extend64.result g.row.W c.bias.result long
    ∙ ap₂ (λ k xs. map (λ x. add_in 64 x k) xs) c.bias.ensures c.extend64.ensures
    ∙ map_of_map (raised 64 (bias_of 64 t)) (extended 64 t) c.args.a
