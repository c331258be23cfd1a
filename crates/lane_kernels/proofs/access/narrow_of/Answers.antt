use Rattle.std.proofs.Common.{◌≡◌, ◌∙◌, sym, length, get_or, false, arith, rules, below_more}
use Rattle.std.specs.Simd.Lanes.{zip2}
use Rattle.std.proofs.lemmas.List.{length-set}
use Rattle.std.proofs.lemmas.Simd.{get_or-zip2, length-zip2}
use Rattle.lane_values.specs.Access.{is_fault, faults}
use Rattle.lane_kernels.specs.Vectors.{number_from}
use Rattle.lane_kernels.proofs.ListLaws.{written_next, written_all, none_anywhere}
use Rattle.lane_kernels.proofs.access.narrow_of.Goals as goal

pub loop-i-preserved : goal.loop-i-preserved
loop-i-preserved g c =
    let size = g.row.S in
    let bytes = c.args.bytes.now in
    let m = c.args.mask in
    let places = c.args.places in
    let long : length m ≡ g.row.W = search rules in
    let wide : length places ≡ g.row.W = search rules in
    let same = long ∙ sym wide in
    let i = c.loop-i.i in
    let inv = c.loop-i.invariant in
    let fault = is_fault size (length bytes) in
    record {
      long = length-set _ _ _ ∙ inv.long;
      written = written_next c.loop-i.lanes (zip2 (number_from size bytes) m places) i c.in-Some.lane 0 inv.written
          (omega (arith, inv.long)) (omega (arith, length-zip2 (number_from size bytes) m places same, long))
          (c.in-Some.ensures.1 ∙ sym (get_or-zip2 (number_from size bytes) m places i false 0 0 (omega (arith, long))
          (omega (arith, wide))));
      clear = below_more (λ k. get_or (faults size (length bytes) m places) k false ≡ false) i inv.clear
          (get_or-zip2 fault m places i false 0 false (omega (arith, long)) (omega (arith, wide)) ∙
          c.in-Some.ensures.0);
    }

pub returns : goal.returns
returns g c =
    let size = g.row.S in
    let bytes = c.args.bytes.now in
    let m = c.args.mask in
    let places = c.args.places in
    let long : length m ≡ g.row.W = search rules in
    let wide : length places ≡ g.row.W = search rules in
    let same = long ∙ sym wide in
    let inv = c.loop-i.invariant in (
      none_anywhere (faults size (length bytes) m places) c.loop-i.i (omega (
        arith,
        length-zip2 (is_fault size (length bytes)) m places same,
        long,
      )) inv.clear,
      written_all c.loop-i.lanes (zip2 (number_from size bytes) m places) c.loop-i.i inv.written (omega (
        arith,
        inv.long,
      )) (omega (arith, length-zip2 (number_from size bytes) m places same, long)),
    )
