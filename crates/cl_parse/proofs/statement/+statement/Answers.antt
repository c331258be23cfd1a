use Rattle.std.proofs.Common.{◌<◌, length, rules, sym, ◌∙◌}
use Rattle.cl_tree.specs.declared.terminal.Terminal.TheVariants as terminals
use Rattle.cl_read.specs.Gives.{Fails}
use Rattle.cl_read.specs.Members.{members}
use Rattle.std.specs.Prelude.{not}
use Rattle.cl_read.specs.Starts.{same}
use Rattle.cl_read.specs.Reading.{readers, all_of, each, line_of}
use Rattle.cl_read.proofs.SoundStatements.{all_good, lines_shrink, statements_shrink}
use Rattle.cl_read.proofs.Loops.{list_fails, list_keeps}
use Rattle.cl_parse.proofs.statement.+statement.Goals as goal

pub lines-returns-in_err-member : goal.lines-returns-in_err-member
lines-returns-in_err-member t c =
    let f : Fails c.in_err-member.field-0.0 (all_of (λ k. not (same k terminals.CloseBrace))
    (each (line_of (readers c.args.room))) c.args.items.now) =
    list_fails (λ k. not (same k terminals.CloseBrace)) (each (line_of (readers c.args.room)))
    (lines_shrink (readers c.args.room) (all_good c.args.room)) (members c.members.list) c.members.rest.now
    c.in_err-member.field-0.0 _ (sym c.next_differs.ensures ∙ c.members-test.true) c.in_err-member.ensures
    c.members.invariant in
    search rules

pub lines-members-smaller : goal.lines-members-smaller
lines-members-smaller t c = let s : length c.in_ok-member.behind.now < length c.members.rest.now =
    (lines_shrink (readers c.args.room) (all_good c.args.room)) c.members.rest.now c.in_ok-member.behind.now _
    c.in_ok-member.ensures in s

pub lines-members-preserved : goal.lines-members-preserved
lines-members-preserved t c =
    list_keeps (λ k. not (same k terminals.CloseBrace)) (each (line_of (readers c.args.room)))
    (lines_shrink (readers c.args.room) (all_good c.args.room)) (members c.members.list)
    (members c.in_ok-list.list) (members c.in_ok-member.member) c.members.rest.now c.in_ok-member.behind.now _
    (sym c.next_differs.ensures ∙ c.members-test.true) c.in_ok-member.ensures c.in_ok-list.ensures
    c.members.invariant

pub statements-returns-in_err-member : goal.statements-returns-in_err-member
statements-returns-in_err-member t c =
    let f : Fails c.in_err-member.field-0.0 (all_of (λ k. not (same k terminals.CloseBrace))
    (each (readers c.args.room).statement) c.args.items.now) =
    list_fails (λ k. not (same k terminals.CloseBrace)) (each (readers c.args.room).statement)
    (statements_shrink (readers c.args.room) (all_good c.args.room)) (members c.members.list) c.members.rest.now
    c.in_err-member.field-0.0 _ (sym c.next_differs.ensures ∙ c.members-test.true) c.in_err-member.ensures
    c.members.invariant in
    search rules

pub statements-members-smaller : goal.statements-members-smaller
statements-members-smaller t c = let s : length c.in_ok-member.behind.now < length c.members.rest.now =
    (statements_shrink (readers c.args.room) (all_good c.args.room)) c.members.rest.now c.in_ok-member.behind.now _
    c.in_ok-member.ensures in s

pub statements-members-preserved : goal.statements-members-preserved
statements-members-preserved t c =
    list_keeps (λ k. not (same k terminals.CloseBrace)) (each (readers c.args.room).statement)
    (statements_shrink (readers c.args.room) (all_good c.args.room)) (members c.members.list)
    (members c.in_ok-list.list) (members c.in_ok-member.member) c.members.rest.now c.in_ok-member.behind.now _
    (sym c.next_differs.ensures ∙ c.members-test.true) c.in_ok-member.ensures c.in_ok-list.ensures
    c.members.invariant
