use Rattle.std.proofs.Common.{◌∙◌, map, rules, Vec, Global, ℕ, List, []}
use Rattle.wg_num.specs.Bytes.{size_of}
use Rattle.lane_values.specs.Access.{lane_put}
use Rattle.lane_machine.proofs.NestedLaws.{set_one}
use Rattle.lane_machine.proofs.OwnLaws.{on_true, on_false, set_same}
use Rattle.lane_machine.proofs.own.store_item.Goals as goal

pub returns-then-item-len-clause-stored : goal.returns-then-item-len-clause-stored
returns-then-item-len-clause-stored c =
    let f : List ℕ → List ℕ = λ bytes. lane_put (size_of c.args.t) bytes c.args.on c.args.at c.args.x in
    on_true c.store_bytes.result (λ e. set_one c.args.objects.now.items c.args.item c.index_mut.result.now
    c.store_bytes.new.bytes f (search rules) c.index_mut.ensures.value e) c.store_bytes.ensures.stored

pub returns-then-item-len-clause-kept : goal.returns-then-item-len-clause-kept
returns-then-item-len-clause-kept c =
    let f : List ℕ → List ℕ = λ bytes. bytes in
    let lists = map (λ (v : Vec ℕ Global). v.items) c.args.objects.now.items in
    on_false c.store_bytes.result (λ e. set_one c.args.objects.now.items c.args.item c.index_mut.result.now
    c.store_bytes.new.bytes f (search rules) c.index_mut.ensures.value e ∙
    set_same lists c.args.item []) c.store_bytes.ensures.kept
