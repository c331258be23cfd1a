use Rattle.std.proofs.Common.{◌∙◌, ap, sym}
use Rattle.wg_num.specs.declared.types.Fun.TheVariants.{Abs, AbsDiff, AddSat, Clz, Hadd, Max, Min, MulHi, Popcount}
use Rattle.wg_num.specs.declared.types.Fun.TheVariants.{Rhadd, Rotate, SubSat}
use Rattle.lane_values.specs.Lanes.{builtin_lane, zip3}
use Rattle.lane_kernels.specs.Vectors.{one_lane, pair_lane}
use Rattle.lane_kernels.proofs.FunctionLaws as F
use Rattle.lane_kernels.proofs.ListLaws.{zip2_as_zip3}
use Rattle.lane_kernels.proofs.functions64.lanes_of64.Goals as goal

pub returns-in-Min : goal.returns-in-Min
returns-in-Min g c =
    let t = c.args.t in
    c.least64.ensures ∙
    zip2_as_zip3 (pair_lane 64 Min t) (builtin_lane 64 Min t) (F.min_takes_two 64 t) g.row.W
    c.args.a c.args.b c.args.c c.fits-a.0 c.fits-b.0 c.fits-c.0 ∙
    ap (λ f. zip3 (builtin_lane 64 f t) c.args.a c.args.b c.args.c) (sym c.in-Min.is)

pub returns-in-Max : goal.returns-in-Max
returns-in-Max g c =
    let t = c.args.t in
    c.greatest64.ensures ∙
    zip2_as_zip3 (pair_lane 64 Max t) (builtin_lane 64 Max t) (F.max_takes_two 64 t) g.row.W
    c.args.a c.args.b c.args.c c.fits-a.0 c.fits-b.0 c.fits-c.0 ∙
    ap (λ f. zip3 (builtin_lane 64 f t) c.args.a c.args.b c.args.c) (sym c.in-Max.is)

pub returns-in-Clamp : goal.returns-in-Clamp
returns-in-Clamp g c =
    let t = c.args.t in
    c.clamped64.ensures ∙ ap (λ f. zip3 (builtin_lane 64 f t) c.args.a c.args.b c.args.c) (sym c.in-Clamp.is)

pub returns-in-Rotate : goal.returns-in-Rotate
returns-in-Rotate g c =
    let t = c.args.t in
    c.rotated64.ensures ∙
    zip2_as_zip3 (pair_lane 64 Rotate t) (builtin_lane 64 Rotate t) (F.rotate_takes_two 64 t) g.row.W
    c.args.a c.args.b c.args.c c.fits-a.0 c.fits-b.0 c.fits-c.0 ∙
    ap (λ f. zip3 (builtin_lane 64 f t) c.args.a c.args.b c.args.c) (sym c.in-Rotate.is)

pub returns-in-Abs : goal.returns-in-Abs
returns-in-Abs g c =
    let t = c.args.t in
    c.sizes64.ensures ∙
    F.map_as_zip3 (one_lane 64 Abs t) (builtin_lane 64 Abs t) (F.abs_takes_one 64 t) g.row.W
    c.args.a c.args.b c.args.c c.fits-a.0 c.fits-b.0 c.fits-c.0 ∙
    ap (λ f. zip3 (builtin_lane 64 f t) c.args.a c.args.b c.args.c) (sym c.in-Abs.is)

pub returns-in-AbsDiff : goal.returns-in-AbsDiff
returns-in-AbsDiff g c =
    let t = c.args.t in
    c.distances64.ensures ∙
    zip2_as_zip3 (pair_lane 64 AbsDiff t) (builtin_lane 64 AbsDiff t) (F.abs_diff_takes_two 64 t) g.row.W
    c.args.a c.args.b c.args.c c.fits-a.0 c.fits-b.0 c.fits-c.0 ∙
    ap (λ f. zip3 (builtin_lane 64 f t) c.args.a c.args.b c.args.c) (sym c.in-AbsDiff.is)

pub returns-in-AddSat : goal.returns-in-AddSat
returns-in-AddSat g c =
    let t = c.args.t in
    c.held_sums64.ensures ∙
    zip2_as_zip3 (pair_lane 64 AddSat t) (builtin_lane 64 AddSat t) (F.add_sat_takes_two 64 t) g.row.W
    c.args.a c.args.b c.args.c c.fits-a.0 c.fits-b.0 c.fits-c.0 ∙
    ap (λ f. zip3 (builtin_lane 64 f t) c.args.a c.args.b c.args.c) (sym c.in-AddSat.is)

pub returns-in-SubSat : goal.returns-in-SubSat
returns-in-SubSat g c =
    let t = c.args.t in
    c.held_rests64.ensures ∙
    zip2_as_zip3 (pair_lane 64 SubSat t) (builtin_lane 64 SubSat t) (F.sub_sat_takes_two 64 t) g.row.W
    c.args.a c.args.b c.args.c c.fits-a.0 c.fits-b.0 c.fits-c.0 ∙
    ap (λ f. zip3 (builtin_lane 64 f t) c.args.a c.args.b c.args.c) (sym c.in-SubSat.is)

pub returns-in-Hadd : goal.returns-in-Hadd
returns-in-Hadd g c =
    let t = c.args.t in
    c.halves_down64.ensures ∙
    zip2_as_zip3 (pair_lane 64 Hadd t) (builtin_lane 64 Hadd t) (F.hadd_takes_two 64 t) g.row.W
    c.args.a c.args.b c.args.c c.fits-a.0 c.fits-b.0 c.fits-c.0 ∙
    ap (λ f. zip3 (builtin_lane 64 f t) c.args.a c.args.b c.args.c) (sym c.in-Hadd.is)

pub returns-in-Rhadd : goal.returns-in-Rhadd
returns-in-Rhadd g c =
    let t = c.args.t in
    c.halves_up64.ensures ∙
    zip2_as_zip3 (pair_lane 64 Rhadd t) (builtin_lane 64 Rhadd t) (F.rhadd_takes_two 64 t) g.row.W
    c.args.a c.args.b c.args.c c.fits-a.0 c.fits-b.0 c.fits-c.0 ∙
    ap (λ f. zip3 (builtin_lane 64 f t) c.args.a c.args.b c.args.c) (sym c.in-Rhadd.is)

pub returns-in-MulHi : goal.returns-in-MulHi
returns-in-MulHi g c =
    let t = c.args.t in
    c.high_halves64.ensures ∙
    zip2_as_zip3 (pair_lane 64 MulHi t) (builtin_lane 64 MulHi t) (F.mul_hi_takes_two 64 t) g.row.W
    c.args.a c.args.b c.args.c c.fits-a.0 c.fits-b.0 c.fits-c.0 ∙
    ap (λ f. zip3 (builtin_lane 64 f t) c.args.a c.args.b c.args.c) (sym c.in-MulHi.is)

pub returns-in-Clz : goal.returns-in-Clz
returns-in-Clz g c =
    let t = c.args.t in
    c.zeros_above64.ensures ∙
    F.map_as_zip3 (one_lane 64 Clz t) (builtin_lane 64 Clz t) (F.clz_takes_one 64 t) g.row.W
    c.args.a c.args.b c.args.c c.fits-a.0 c.fits-b.0 c.fits-c.0 ∙
    ap (λ f. zip3 (builtin_lane 64 f t) c.args.a c.args.b c.args.c) (sym c.in-Clz.is)

pub returns-in-Popcount : goal.returns-in-Popcount
returns-in-Popcount g c =
    let t = c.args.t in
    c.ones_in64.ensures ∙
    F.map_as_zip3 (one_lane 64 Popcount t) (builtin_lane 64 Popcount t) (F.popcount_takes_one 64 t) g.row.W
    c.args.a c.args.b c.args.c c.fits-a.0 c.fits-b.0 c.fits-c.0 ∙
    ap (λ f. zip3 (builtin_lane 64 f t) c.args.a c.args.b c.args.c) (sym c.in-Popcount.is)
