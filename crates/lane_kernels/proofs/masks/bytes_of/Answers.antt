use Rattle.std.proofs.Common.{◌≡◌, ◌∙◌, sym, map, length, false, arith, rules}
use Rattle.std.specs.Int.{from_bool}
use Rattle.std.proofs.lemmas.List.{get_or-map, length-map, length-set}
use Rattle.lane_kernels.proofs.ListLaws.{written_next, written_all}
use Rattle.lane_kernels.proofs.masks.bytes_of.Goals as goal

pub loop-i-preserved : goal.loop-i-preserved
loop-i-preserved g c =
    let long : length c.args.mask ≡ g.row.W = search rules in
    let i = c.loop-i.i in
    let lt = c.loop-i-test.true in (
      length-set _ _ _ ∙ c.loop-i.invariant.0,
      written_next c.loop-i.lanes (map from_bool c.args.mask) i _ 0 c.loop-i.invariant.1 (omega (
        arith,
        c.loop-i.invariant.0,
      )) (omega (arith, length-map c.args.mask from_bool, long))
          (sym (get_or-map from_bool c.args.mask i false 0 (omega (arith, long)))),
    )

pub returns : goal.returns
returns g c =
    let long : length c.args.mask ≡ g.row.W = search rules in
    written_all c.loop-i.lanes (map from_bool c.args.mask) c.loop-i.i c.loop-i.invariant.1 (omega (
      arith,
      c.loop-i.invariant.0,
    )) (omega (arith, length-map c.args.mask from_bool, long))
