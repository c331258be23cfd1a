use Rattle.std.proofs.Common.{[], take, map}
use Rattle.wg_num.specs.Bytes.{size_of}
use Rattle.lane_values.specs.Access.{stored_lanes}
use Rattle.lane_code.specs.Registers.{lowest, mask_of, lanes_of}
use Rattle.lane_code.specs.Groups.{window, with_window, own_faults, own_stored}
use Rattle.lane_machine.proofs.NestedLaws.{map-set, store_moves, read_array, objects_in}
use Rattle.lane_machine.proofs.own.store_own.Goals as goal

pub returns : goal.returns
returns g c =
    let m = mask_of c.args.r.now.plain c.args.access.mask in
    let index = lanes_of c.args.r.now.plain c.args.access.index in
    let lanes = stored_lanes c.args.access.of (lanes_of c.args.r.now.plain c.args.access.value) in
    let size = size_of c.args.access.of in
    let first = c.args.first in
    let W = g.row.W in
    let xs = c.args.privates.now.items in
    store_moves [] c.store_objects.result (map objects_in xs) c.args.array (objects_in c.index_mut.result.now)
    (objects_in c.store_objects.new.objects) _ (λ b. lowest (own_faults size m index (window [] b first W)))
    (λ b. with_window b first (own_stored size m index lanes (window [] b first W)))
    (λ k b. with_window b first (own_stored size (take k m) (take k index) (take k lanes) (window [] b first W)))
    (read_array xs c.args.array c.index_mut.result.now c.requires.array c.index_mut.ensures.value)
    (map-set objects_in xs c.args.array _) c.store_objects.ensures
