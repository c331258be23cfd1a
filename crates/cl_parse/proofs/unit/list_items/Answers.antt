use Rattle.std.proofs.Common.{◌<◌, length, rules, sym, ◌∙◌}
use Rattle.cl_read.specs.Gives.{Fails}
use Rattle.cl_read.specs.Members.{members}
use Rattle.std.proofs.Common.{true}
use Rattle.cl_read.specs.Reading.{readers, all_of, each, item_of}
use Rattle.cl_read.proofs.SoundUnit.{items_shrink}
use Rattle.cl_read.proofs.SoundStatements.{all_good}
use Rattle.cl_read.proofs.Loops.{list_fails, list_keeps}
use Rattle.cl_parse.proofs.unit.list_items.Goals as goal

pub returns-in_err-member : goal.returns-in_err-member
returns-in_err-member c =
    let f : Fails c.in_err-member.field-0.0
    (all_of (λ j. true) (each (item_of (readers 252) (readers 253) (readers 254))) c.args.items.now) =
    list_fails (λ j. true) (each (item_of (readers 252) (readers 253) (readers 254)))
    (items_shrink (readers 252) (readers 253) (readers 254) (all_good 252) (all_good 253) (all_good 254))
    (members c.members.list) c.members.rest.now c.in_err-member.field-0.0 _ (sym c.is_any_left.ensures ∙
    c.members-test.true) c.in_err-member.ensures c.members.invariant in
    search rules

pub members-smaller : goal.members-smaller
members-smaller c = let s : length c.in_ok-member.behind.now < length c.members.rest.now =
    (items_shrink (readers 252) (readers 253) (readers 254) (all_good 252) (all_good 253) (all_good 254))
    c.members.rest.now c.in_ok-member.behind.now _ c.in_ok-member.ensures in s

pub members-preserved : goal.members-preserved
members-preserved c =
    list_keeps (λ j. true) (each (item_of (readers 252) (readers 253) (readers 254)))
    (items_shrink (readers 252) (readers 253) (readers 254) (all_good 252) (all_good 253) (all_good 254))
    (members c.members.list) (members c.in_ok-list.list) (members c.in_ok-member.member) c.members.rest.now
    c.in_ok-member.behind.now _ (sym c.is_any_left.ensures ∙ c.members-test.true) c.in_ok-member.ensures
    c.in_ok-list.ensures c.members.invariant
