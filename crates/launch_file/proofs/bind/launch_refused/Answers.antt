use Rattle.std.proofs.Common.{rules, ◌≡◌, true, false, refl}
use Rattle.launch_file.specs.Binding as spec
use Rattle.launch_file.specs.NeedsView.{needs_of}
use Rattle.launch_file.specs.Texts.{part_of}
use Rattle.launch_file.proofs.Order.{local_stands, buffers_stand, none_stands}
use Rattle.launch_file.proofs.bind.launch_refused.Goals as goal

pub returns-then-local_wrong-clause-some : goal.returns-then-local_wrong-clause-some
returns-then-local_wrong-clause-some c =
    let sizes : spec.sizes_wrong (part_of c.args.part.now) ≡ false = search rules in
    let size : spec.is_another_size (spec.three_sizes (part_of c.args.part.now).local) c.args.needs.now.required ≡
    false = search rules in
    let local : spec.local_wrong (needs_of c.args.needs.now) (part_of c.args.part.now) ≡ true =
    search (rules, c.local_wrong.ensures (needs_of c.args.needs.now) (part_of c.args.part.now) refl) in
    local_stands (needs_of c.args.needs.now) c.args.buffers.now (part_of c.args.part.now) sizes
    c.in_default.ensures.none size local

pub returns-then-buffers_wrong-clause-some : goal.returns-then-buffers_wrong-clause-some
returns-then-buffers_wrong-clause-some c =
    let sizes : spec.sizes_wrong (part_of c.args.part.now) ≡ false = search rules in
    let size : spec.is_another_size (spec.three_sizes (part_of c.args.part.now).local) c.args.needs.now.required ≡
    false = search rules in
    let local : spec.local_wrong (needs_of c.args.needs.now) (part_of c.args.part.now) ≡ false =
    search (rules, c.local_wrong.ensures (needs_of c.args.needs.now) (part_of c.args.part.now) refl) in
    let buffers : spec.buffers_wrong c.args.buffers.now ≡ true = search rules in
    buffers_stand (needs_of c.args.needs.now) c.args.buffers.now (part_of c.args.part.now) sizes
    c.in_default.ensures.none size local buffers

pub returns-clause-none : goal.returns-clause-none
returns-clause-none c =
    let sizes : spec.sizes_wrong (part_of c.args.part.now) ≡ false = search rules in
    let size : spec.is_another_size (spec.three_sizes (part_of c.args.part.now).local) c.args.needs.now.required ≡
    false = search rules in
    let local : spec.local_wrong (needs_of c.args.needs.now) (part_of c.args.part.now) ≡ false =
    search (rules, c.local_wrong.ensures (needs_of c.args.needs.now) (part_of c.args.part.now) refl) in
    let buffers : spec.buffers_wrong c.args.buffers.now ≡ false = search rules in
    none_stands (needs_of c.args.needs.now) c.args.buffers.now (part_of c.args.part.now) sizes
    c.in_default.ensures.none size local buffers
