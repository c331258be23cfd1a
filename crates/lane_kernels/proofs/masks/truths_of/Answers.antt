use Rattle.std.proofs.Common.{◌≡◌, ◌∙◌, sym, ap, refl, map, not, nat_eq, length, get_or, false, arith}
use Rattle.std.specs.Int.{from_bool}
use Rattle.std.proofs.lemmas.List.{get_or-map, length-map, length-set}
use Rattle.lane_kernels.proofs.ListLaws.{written_next, written_all, bit_read}
use Rattle.lane_kernels.proofs.ListLaws as L
use Rattle.lane_kernels.proofs.masks.truths_of.Goals as goal

pub loop-i-preserved : goal.loop-i-preserved
loop-i-preserved g c =
    let i = c.loop-i.i in
    let lt = c.loop-i-test.true in
    let numbers = c.args.numbers in
    let long : length numbers ≡ g.row.W = c.fits-numbers.0 in
    let bits = ap (λ xs. get_or xs i 0) (L.ones_of 8 7 255 refl refl g.row.W numbers long) ∙
    get_or-map (λ x. from_bool (not (nat_eq x 0))) numbers i 0 0 (omega arith) in (
      length-set _ _ _ ∙ c.loop-i.invariant.0,
      written_next c.loop-i.set (map (λ x. not (nat_eq x 0)) numbers) i _ false c.loop-i.invariant.1
          (omega (arith, c.loop-i.invariant.0)) (omega (arith, length-map numbers (λ x. not (nat_eq x 0))))
          (ap (λ x. not (nat_eq x 0)) bits ∙ bit_read (not (nat_eq (get_or numbers i 0) 0)) ∙
          sym (get_or-map (λ x. not (nat_eq x 0)) numbers i 0 false (omega arith))),
    )

pub returns : goal.returns
returns g c =
    let end = c.loop-i-test.false in
    let long : length c.args.numbers ≡ g.row.W = c.fits-numbers.0 in
    written_all c.loop-i.set (map (λ x. not (nat_eq x 0)) c.args.numbers) c.loop-i.i c.loop-i.invariant.1
    (omega (arith, c.loop-i.invariant.0)) (omega (arith, length-map c.args.numbers (λ x. not (nat_eq x 0))))
