use Rattle.std.proofs.Common.{◌≡◌, ◌∙◌, ◌&&◌, sym, ap, length, get_or, nat_lt, arith, rules}
use Rattle.std.specs.List.{list_all}
use Rattle.std.proofs.lemmas.List.{take_all}
use Rattle.std.proofs.lemmas.List.Folds.{list_all_more}
use Rattle.lane_kernels.proofs.access.are_below.Goals as goal

pub loop-i-preserved : goal.loop-i-preserved
loop-i-preserved g c =
    let long : length c.args.places ≡ g.row.W = search rules in
    let i = c.loop-i.i in
    let lt = c.loop-i-test.true in
    ap (λ b. c.loop-i.below && b) c.is_below-below.ensures ∙
    ap (λ b. b && nat_lt (get_or c.args.places i 0) c.args.count) c.loop-i.invariant ∙
    sym (list_all_more (λ at. nat_lt at c.args.count) c.args.places i 0 (omega (arith, long, lt)))

pub returns : goal.returns
returns g c =
    let long : length c.args.places ≡ g.row.W = search rules in
    let end = c.loop-i-test.false in
    c.loop-i.invariant ∙ ap (list_all (λ at. nat_lt at c.args.count)) (take_all c.loop-i.i c.args.places (omega (
      arith,
      long,
      end,
    )))
