use Rattle.std.proofs.Common.{◌≡◌, ◌∙◌, ◌+◌, ◌≤◌, sym, ap, refl, map, not, eqb, ltb, cond, Bool, true, false}
use Rattle.std.proofs.Common.{arith, rules}
use Rattle.std.proofs.lemmas.List.{length-set}
use Rattle.std.proofs.lemmas.List.FromFn.{length-range_with_len, get_or-range_with_len}
use Rattle.std.specs.List.{range_with_len}
use Rattle.lane_kernels.proofs.ListLaws.{written_next, written_all, map_of_map, same_map}
use Rattle.lane_kernels.proofs.ListLaws as L
use Rattle.lane_machine.proofs.MaskLaws.{counted_existing}
use Rattle.lane_machine.proofs.restart.lanes_below.Goals as goal

-- 1 or 0, read again
told : (b : Bool) → not (eqb (cond b 1 0) 0) ≡ b
told true = refl
told false = refl

pub loop-i-preserved : goal.loop-i-preserved
loop-i-preserved g c =
    let i = c.loop-i.i in
    let inv = c.loop-i.invariant in
    let same : i ≡ 0 + i = omega arith in
    record {
      long = length-set _ _ _ ∙ inv.long;
      written = written_next c.loop-i.places (range_with_len 0 g.row.W) i i 0 inv.written (omega (
        arith,
        inv.long,
        c.loop-i-test.true,
      )) (omega (arith, length-range_with_len 0 g.row.W, c.loop-i-test.true))
          (same ∙ sym (get_or-range_with_len 0 g.row.W i 0 c.loop-i-test.true));
    }

pub returns : goal.returns
returns g c =
    let count = c.args.count in
    let places = c.loop-i.places in
    let inv = c.loop-i.invariant in
    let past : g.row.W ≤ c.loop-i.i = search rules in
    let all : places ≡ range_with_len 0 g.row.W =
    written_all places (range_with_len 0 g.row.W) c.loop-i.i inv.written (omega (arith, inv.long, past))
    (omega (arith, length-range_with_len 0 g.row.W, past)) in
    c.truths_of.ensures ∙
    ap (map (λ x. not (eqb x 0))) (L.chosen_by 8 7 255 refl refl ltb count 1 0 g.row.W places inv.long) ∙
    map_of_map (λ x. not (eqb x 0)) (λ n. cond (ltb n count) 1 0) places ∙
    same_map (λ n. not (eqb (cond (ltb n count) 1 0) 0)) (λ n. ltb n count) (λ n. told (ltb n count)) places ∙
    ap (map (λ n. ltb n count)) all ∙ counted_existing count g.row.W 0
