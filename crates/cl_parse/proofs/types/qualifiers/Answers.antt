use Rattle.std.proofs.Common.{◌<◌, length, rules, sym, ◌∙◌}
use Rattle.cl_read.specs.Gives.{Fails}
use Rattle.cl_read.specs.Members.{members}
use Rattle.cl_tree.specs.Precedence.{qualifies}
use Rattle.cl_read.specs.Reading.{qualifiers, qualifier_of}
use Rattle.cl_read.proofs.Sound.{qualifiers_shrink}
use Rattle.cl_read.proofs.Loops.{list_fails, list_keeps}
use Rattle.cl_parse.proofs.types.qualifiers.Goals as goal

pub returns-in_err-member : goal.returns-in_err-member
returns-in_err-member c =
    let f : Fails c.in_err-member.field-0.0 (qualifiers c.args.behind_star c.args.items.now) =
    list_fails (qualifies c.args.behind_star) (qualifier_of c.args.behind_star) (qualifiers_shrink c.args.behind_star)
    (members c.members.list) c.members.rest.now c.in_err-member.field-0.0 _ (sym c.next_in.ensures ∙
    c.members-test.true) c.in_err-member.ensures c.members.invariant in
    search rules

pub members-smaller : goal.members-smaller
members-smaller c = let s : length c.in_ok-member.behind.now < length c.members.rest.now =
    (qualifiers_shrink c.args.behind_star) c.members.rest.now c.in_ok-member.behind.now _ c.in_ok-member.ensures in s

pub members-preserved : goal.members-preserved
members-preserved c =
    list_keeps (qualifies c.args.behind_star) (qualifier_of c.args.behind_star) (qualifiers_shrink c.args.behind_star)
    (members c.members.list) (members c.in_ok-list.list) (members c.in_ok-member.member) c.members.rest.now
    c.in_ok-member.behind.now _ (sym c.next_in.ensures ∙ c.members-test.true) c.in_ok-member.ensures
    c.in_ok-list.ensures c.members.invariant
