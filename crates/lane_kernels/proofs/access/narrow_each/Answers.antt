use Rattle.std.proofs.Common.{◌≡◌, ◌∙◌, sym, ap, length, get_or, true, false, arith, rules, below_more}
use Rattle.std.specs.Simd.Lanes.{zip2}
use Rattle.std.proofs.lemmas.List.{length-set}
use Rattle.std.proofs.lemmas.Simd.{get_or-zip2, length-zip2}
use Rattle.lane_values.specs.Access.{is_fault, faults}
use Rattle.lane_kernels.specs.Vectors.{number_from}
use Rattle.lane_kernels.proofs.ListLaws.{written_next, written_all, none_anywhere}
use Rattle.lane_kernels.proofs.AccessLaws.{all_at}
use Rattle.lane_kernels.proofs.access.narrow_each.Goals as goal

pub loop-i-preserved : goal.loop-i-preserved
loop-i-preserved g c =
    let size = g.row.S in
    let bytes = c.args.bytes.now in
    let m = c.args.mask in
    let places = c.args.places in
    let long : length m ≡ g.row.W = search rules in
    let wide : length places ≡ g.row.W = search rules in
    let same = long ∙ sym wide in
    let i = c.loop-i.i in
    let inv = c.loop-i.invariant in
    let fault = is_fault size (length bytes) in
    let at = get_or places i 0 in
    let on : get_or m i false ≡ true = all_at (λ b. b) m i false (omega (arith, long)) c.requires.full in
    record {
      long = length-set _ _ _ ∙ inv.long;
      written = written_next c.loop-i.lanes (zip2 (number_from size bytes) m places) i c.narrow_below.result 0
          inv.written (omega (arith, inv.long))
          (omega (arith, length-zip2 (number_from size bytes) m places same, long))
          (c.narrow_below.ensures.value ∙ ap (λ b. number_from size bytes b at) (sym on) ∙
          sym (get_or-zip2 (number_from size bytes) m places i false 0 0 (omega (arith, long)) (omega (arith, wide))));
      clear = below_more (λ k. get_or (faults size (length bytes) m places) k false ≡ false) i inv.clear
          (get_or-zip2 fault m places i false 0 false (omega (arith, long)) (omega (arith, wide)) ∙
          ap (λ b. fault b at) on ∙ c.narrow_below.ensures.clear);
    }

pub returns : goal.returns
returns g c =
    let size = g.row.S in
    let bytes = c.args.bytes.now in
    let m = c.args.mask in
    let places = c.args.places in
    let long : length m ≡ g.row.W = search rules in
    let wide : length places ≡ g.row.W = search rules in
    let same = long ∙ sym wide in
    let inv = c.loop-i.invariant in record {
      clear = none_anywhere (faults size (length bytes) m places) c.loop-i.i (omega (
        arith,
        length-zip2 (is_fault size (length bytes)) m places same,
        long,
      )) inv.clear;
      values = written_all c.loop-i.lanes (zip2 (number_from size bytes) m places) c.loop-i.i inv.written (omega (
        arith,
        inv.long,
      )) (omega (arith, length-zip2 (number_from size bytes) m places same, long));
    }
