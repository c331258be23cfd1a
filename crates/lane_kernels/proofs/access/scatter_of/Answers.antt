use Rattle.std.proofs.Common.{◌≡◌, ◌∙◌, sym, ap, length, get_or, false, arith, rules, below_more}
use Rattle.std.proofs.lemmas.Simd.{get_or-zip2, length-zip2}
use Rattle.lane_values.specs.Access.{is_fault, faults, lane_put}
use Rattle.lane_kernels.proofs.ListLaws.{none_anywhere, not_true}
use Rattle.lane_kernels.proofs.AccessLaws.{scattered_next}
use Rattle.lane_kernels.proofs.access.scatter_of.Goals as goal

pub loop-i-preserved : goal.loop-i-preserved
loop-i-preserved g c =
    let size = g.row.S in
    let bytes = c.args.bytes.now in
    let m = c.args.mask in
    let places = c.args.places in
    let long : length m ≡ g.row.W = search rules in
    let wide : length places ≡ g.row.W = search rules in
    let given : length c.args.lanes ≡ g.row.W = search rules in
    let i = c.loop-i.i in
    let inv = c.loop-i.invariant in
    record {
      long = c.put_lane.auto.bytes ∙ inv.long;
      written = c.if-not-put_lane.ensures.stored ∙
          ap (λ b. lane_put size b (get_or m i false) (get_or places i 0) (get_or c.args.lanes i 0)) inv.written
          ∙ sym (scattered_next size bytes m places c.args.lanes i (omega (arith, long)) (omega (arith, wide))
          (omega (arith, given)));
      clear = below_more (λ k. get_or (faults size (length bytes) m places) k false ≡ false) i inv.clear
          (get_or-zip2 (is_fault size (length bytes)) m places i false 0 false (omega (arith, long)) (omega (
            arith,
            wide,
          )) ∙ ap (λ n. is_fault size n (get_or m i false) (get_or places i 0)) (sym inv.long) ∙
          not_true _ c.if-not-put_lane.ensures.done);
    }

pub returns-clause-cases : goal.returns-clause-cases
returns-clause-cases g c =
    let m = c.args.mask in
    let places = c.args.places in
    let long : length m ≡ g.row.W = search rules in
    let wide : length places ≡ g.row.W = search rules in
    let same = long ∙ sym wide in
    none_anywhere (faults g.row.S (length c.args.bytes.now) m places) c.loop-i.i
    (omega (arith, length-zip2 (is_fault g.row.S (length c.args.bytes.now)) m places same, long))
    c.loop-i.invariant.clear
