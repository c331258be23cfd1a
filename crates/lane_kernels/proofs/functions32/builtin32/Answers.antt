use Rattle.std.proofs.Common.{◌∙◌, ap, sym}
use Rattle.wg_num.specs.declared.types.Fun.TheVariants.{Max, Min}
use Rattle.lane_values.specs.Lanes.{builtin_lane, zip3}
use Rattle.lane_kernels.specs.Vectors.{pair_lane}
use Rattle.lane_kernels.proofs.FunctionLaws as F
use Rattle.lane_kernels.proofs.ListLaws.{zip2_as_zip3}
use Rattle.lane_kernels.proofs.functions32.builtin32.Goals as goal

pub returns-in-Min-clause-lanes : goal.returns-in-Min-clause-lanes
returns-in-Min-clause-lanes g c =
    let t = c.args.t in
    c.least32.ensures ∙
    zip2_as_zip3 (pair_lane 32 Min t) (builtin_lane 32 Min t) (F.min_takes_two 32 t) g.row.W c.args.a c.args.b c.args.c
    c.fits-a.0 c.fits-b.0 c.fits-c.0
    ∙ ap (λ f. zip3 (builtin_lane 32 f t) c.args.a c.args.b c.args.c) (sym c.in-Min.is)

pub returns-in-Max-clause-lanes : goal.returns-in-Max-clause-lanes
returns-in-Max-clause-lanes g c =
    let t = c.args.t in
    c.greatest32.ensures ∙
    zip2_as_zip3 (pair_lane 32 Max t) (builtin_lane 32 Max t) (F.max_takes_two 32 t) g.row.W c.args.a c.args.b c.args.c
    c.fits-a.0 c.fits-b.0 c.fits-c.0
    ∙ ap (λ f. zip3 (builtin_lane 32 f t) c.args.a c.args.b c.args.c) (sym c.in-Max.is)
