use Rattle.std.proofs.Common.{◌≡◌, ◌∙◌, map, cond, rules, ℕ, List, refl}
use Rattle.lane_machine.proofs.NestedLaws.{set_one}
use Rattle.lane_machine.proofs.own.clear_item.Goals as goal

pub returns-then-item-len : goal.returns-then-item-len
returns-then-item-len c =
    let f : List ℕ → List ℕ = λ bytes. cond c.args.on (map (λ (b : ℕ). 0) bytes) bytes in
    let is : c.zero_vec.new.bytes.items ≡ f c.index_mut.result.now.items = c.zero_vec.ensures ∙ rw c.if-on.true refl in
    set_one c.args.objects.now.items c.args.item c.index_mut.result.now c.zero_vec.new.bytes f (search rules)
    c.index_mut.ensures.value is
