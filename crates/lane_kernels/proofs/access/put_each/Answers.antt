use Rattle.std.proofs.Common.{◌≡◌, ◌∙◌, sym, ap, length, get_or, take, true, false, arith, rules, below_more}
use Rattle.std.proofs.lemmas.Simd.{get_or-zip2, length-zip2}
use Rattle.lane_values.specs.Access.{is_fault, faults, lane_put, scattered}
use Rattle.lane_kernels.proofs.ListLaws.{none_anywhere}
use Rattle.lane_kernels.proofs.AccessLaws.{all_at, scattered_next}
use Rattle.lane_kernels.proofs.access.put_each.Goals as goal

pub loop-i-preserved : goal.loop-i-preserved
loop-i-preserved g c =
    let size = g.row.S in
    let bytes = c.args.bytes.now in
    let m = c.args.mask in
    let places = c.args.places in
    let long : length m ≡ g.row.W = search rules in
    let wide : length places ≡ g.row.W = search rules in
    let given : length c.args.lanes ≡ g.row.W = search rules in
    let i = c.loop-i.i in
    let inv = c.loop-i.invariant in
    let at = get_or places i 0 in
    let x = get_or c.args.lanes i 0 in
    let on : get_or m i false ≡ true = all_at (λ b. b) m i false (omega (arith, long)) c.requires.full in
    record {
      long = c.put_below.auto.bytes ∙ inv.long;
      written = c.put_below.ensures.stored ∙ ap (λ b. lane_put size b true at x) inv.written
          ∙ ap (λ b. lane_put size (scattered size bytes (take i m) (take i places) (take i c.args.lanes)) b at x)
          (sym on)
          ∙ sym (scattered_next size bytes m places c.args.lanes i (omega (arith, long)) (omega (arith, wide))
          (omega (arith, given)));
      clear = below_more (λ k. get_or (faults size (length bytes) m places) k false ≡ false) i inv.clear
          (get_or-zip2 (is_fault size (length bytes)) m places i false 0 false (omega (arith, long)) (omega (
            arith,
            wide,
          )) ∙ ap (λ b. is_fault size (length bytes) b at) on ∙ ap (λ n. is_fault size n true at) (sym inv.long) ∙
          c.put_below.ensures.clear);
    }

pub returns-clause-clear : goal.returns-clause-clear
returns-clause-clear g c =
    let m = c.args.mask in
    let places = c.args.places in
    let long : length m ≡ g.row.W = search rules in
    let wide : length places ≡ g.row.W = search rules in
    let same = long ∙ sym wide in
    none_anywhere (faults g.row.S (length c.args.bytes.now) m places) c.loop-i.i
    (omega (arith, length-zip2 (is_fault g.row.S (length c.args.bytes.now)) m places same, long))
    c.loop-i.invariant.clear
