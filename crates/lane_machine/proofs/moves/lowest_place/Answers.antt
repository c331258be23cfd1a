use Rattle.std.proofs.Common.{◌≡◌, length, rules}
use Rattle.lane_machine.proofs.MaskLaws.{lowest_is, lowest_below}
use Rattle.lane_machine.proofs.moves.lowest_place.Goals as goal

pub returns-clause-same : goal.returns-clause-same
returns-clause-same g c = lowest_is c.args.mask c.lowest.result c.lowest.ensures

pub returns-clause-below : goal.returns-clause-below
returns-clause-below g c =
    let long : length c.args.mask ≡ g.row.W = search rules in
    lowest_below c.args.mask g.row.W c.lowest.result long (lowest_is c.args.mask c.lowest.result c.lowest.ensures)
