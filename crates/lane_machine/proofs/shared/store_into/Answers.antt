use Rattle.std.proofs.Common.{◌≤◌, ℕ, length, [], take, map, rules, Vec, Global}
use Rattle.wg_num.specs.Bytes.{size_of}
use Rattle.lane_values.specs.Access.{faults, stored_lanes, scattered}
use Rattle.lane_code.specs.Registers.{lowest, mask_of, lanes_of}
use Rattle.lane_machine.proofs.NestedLaws.{store_past, length_mapped}
use Rattle.lane_machine.proofs.shared.store_into.Goals as goal

pub returns : goal.returns
returns g c =
    let m = mask_of c.args.r.now.plain c.args.access.mask in
    let index = lanes_of c.args.r.now.plain c.args.access.index in
    let lanes = stored_lanes c.args.access.of (lanes_of c.args.r.now.plain c.args.access.value) in
    let size = size_of c.args.access.of in
    let lists = map (λ (v : Vec ℕ Global). v.items) c.args.objects.now.items in
    let long = length_mapped (λ (v : Vec ℕ Global). v.items) c.args.objects.now.items in
    let l : length c.args.objects.now.items ≤ c.args.object = search rules in
    store_past [] c.store_slice.result lists c.args.object _ (λ b. lowest (faults size (length b) m index))
    (λ b. scattered size b m index lanes) (λ k b. scattered size b (take k m) (take k index) (take k lanes))
    (rw long l) c.store_slice.ensures
