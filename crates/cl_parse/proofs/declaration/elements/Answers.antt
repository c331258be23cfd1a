use Rattle.std.proofs.Common.{◌<◌, Bool, length, rules, sym, ap, ◌∙◌}
use Rattle.cl_tree.specs.declared.terminal.Terminal.TheVariants as terminals
use Rattle.cl_read.specs.Gives.{Fails}
use Rattle.cl_read.specs.Members.{members}
use Rattle.cl_read.specs.Reading.{Got, is, readers, all_of, element_of}
use Rattle.cl_read.proofs.Sound.{elements_shrink}
use Rattle.cl_read.proofs.SoundStatements.{all_good}
use Rattle.cl_read.proofs.Loops.{list_fails, list_keeps, list_ends}
use Rattle.cl_parse.proofs.declaration.elements.Goals as goal

pub returns-in_err-goes_on : goal.returns-in_err-goes_on
returns-in_err-goes_on c =
    let f : Fails c.in_err-goes_on.field-0.0 (all_of (is terminals.Comma) (element_of (readers c.args.room))
    c.args.items.now) =
    list_fails (is terminals.Comma) (element_of (readers c.args.room))
    (elements_shrink (readers c.args.room) (all_good c.args.room)) (members c.members.list) c.members.rest.now
    c.in_err-goes_on.field-0.0 _ (sym c.next_is.ensures ∙ c.members-test.true) c.in_err-goes_on.ensures
    c.members.invariant in
    search rules

pub returns-then-not-goes_on : goal.returns-then-not-goes_on
returns-then-not-goes_on c =
    list_ends (is terminals.Comma) (element_of (readers c.args.room))
    (elements_shrink (readers c.args.room) (all_good c.args.room)) (members c.members.list)
    (members c.in_ok-list.list) (members c.in_ok-goes_on.member) c.members.rest.now c.in_ok-goes_on.behind.now _
    (sym c.next_is.ensures ∙ c.members-test.true)
    (c.in_ok-goes_on.ensures ∙ ap (λ (b : Bool). Got (b, members c.in_ok-goes_on.member) c.in_ok-goes_on.behind.now)
    c.if-not-goes_on.true) c.in_ok-list.ensures c.members.invariant

pub members-smaller : goal.members-smaller
members-smaller c = let s : length c.in_ok-goes_on.behind.now < length c.members.rest.now =
    elements_shrink (readers c.args.room) (all_good c.args.room) c.members.rest.now c.in_ok-goes_on.behind.now _
    c.in_ok-goes_on.ensures in s

pub members-preserved : goal.members-preserved
members-preserved c =
    list_keeps (is terminals.Comma) (element_of (readers c.args.room))
    (elements_shrink (readers c.args.room) (all_good c.args.room)) (members c.members.list)
    (members c.in_ok-list.list) (members c.in_ok-goes_on.member) c.members.rest.now c.in_ok-goes_on.behind.now _
    (sym c.next_is.ensures ∙ c.members-test.true)
    (c.in_ok-goes_on.ensures ∙ ap (λ (b : Bool). Got (b, members c.in_ok-goes_on.member) c.in_ok-goes_on.behind.now)
    c.if-not-goes_on.false) c.in_ok-list.ensures c.members.invariant
