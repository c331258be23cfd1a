use Rattle.std.proofs.Common.{ℕ, length, [], take, map, Vec, Global}
use Rattle.wg_num.specs.Bytes.{size_of}
use Rattle.lane_values.specs.Access.{faults, stored_lanes, scattered}
use Rattle.lane_code.specs.Registers.{lowest, mask_of, lanes_of}
use Rattle.lane_machine.proofs.NestedLaws.{map-set, store_moves, read_one}
use Rattle.lane_machine.proofs.shared.store_one.Goals as goal

pub returns : goal.returns
returns g c =
    let m = mask_of c.args.r.now.plain c.args.access.mask in
    let index = lanes_of c.args.r.now.plain c.args.access.index in
    let lanes = stored_lanes c.args.access.of (lanes_of c.args.r.now.plain c.args.access.value) in
    let size = size_of c.args.access.of in
    let xs = c.args.objects.now.items in
    store_moves [] c.store_shared.result (map (λ (v : Vec ℕ Global). v.items) xs) c.args.object
    c.index_mut.result.now.items c.store_shared.new.bytes.items _ (λ b. lowest (faults size (length b) m index))
    (λ b. scattered size b m index lanes) (λ k b. scattered size b (take k m) (take k index) (take k lanes))
    (read_one xs c.args.object c.index_mut.result.now c.requires.object c.index_mut.ensures.value)
    (map-set (λ (v : Vec ℕ Global). v.items) xs c.args.object _) c.store_shared.ensures
