use Rattle.std.proofs.Common.{◌<◌, length, rules, sym, ◌∙◌}
use Rattle.cl_tree.specs.declared.terminal.Terminal.TheVariants as terminals
use Rattle.cl_read.specs.Gives.{Fails}
use Rattle.cl_read.specs.Members.{members}
use Rattle.cl_read.specs.Reading.{is, readers, all_of, dimension_of}
use Rattle.cl_read.proofs.Sound.{dimensions_shrink}
use Rattle.cl_read.proofs.SoundStatements.{all_good}
use Rattle.cl_read.proofs.Loops.{list_fails, list_keeps}
use Rattle.cl_parse.proofs.declaration.dimensions.Goals as goal

pub returns-in_err-member : goal.returns-in_err-member
returns-in_err-member c =
    let f : Fails c.in_err-member.field-0.0 (all_of (is terminals.OpenBracket) (dimension_of (readers c.args.room))
    c.args.items.now) =
    list_fails (is terminals.OpenBracket) (dimension_of (readers c.args.room))
    (dimensions_shrink (readers c.args.room) (all_good c.args.room)) (members c.members.list) c.members.rest.now
    c.in_err-member.field-0.0 _ (sym c.next_is.ensures ∙ c.members-test.true) c.in_err-member.ensures
    c.members.invariant in
    search rules

pub members-smaller : goal.members-smaller
members-smaller c = let s : length c.in_ok-member.behind.now < length c.members.rest.now =
    (dimensions_shrink (readers c.args.room) (all_good c.args.room)) c.members.rest.now c.in_ok-member.behind.now _
    c.in_ok-member.ensures in s

pub members-preserved : goal.members-preserved
members-preserved c =
    list_keeps (is terminals.OpenBracket) (dimension_of (readers c.args.room))
    (dimensions_shrink (readers c.args.room) (all_good c.args.room)) (members c.members.list)
    (members c.in_ok-list.list) (members c.in_ok-member.member) c.members.rest.now c.in_ok-member.behind.now _
    (sym c.next_is.ensures ∙ c.members-test.true) c.in_ok-member.ensures c.in_ok-list.ensures c.members.invariant
