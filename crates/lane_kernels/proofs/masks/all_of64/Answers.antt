use Rattle.std.proofs.Common.{◌≡◌, length, rules}
use Rattle.lane_kernels.proofs.ListLaws.{full_select}
use Rattle.lane_kernels.proofs.masks.all_of64.Goals as goal

pub returns : goal.returns
returns g c =
    let long : length c.args.mask ≡ g.row.W = search rules in
    full_select c.args.mask c.args.new c.args.old g.row.W long c.fits-new.0 c.fits-old.0 c.requires
