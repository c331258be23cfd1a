use Rattle.std.proofs.Common.{◌≡◌, ◌+◌, ◌*◌, length}
use Rattle.std.specs.Prelude.{not}
use Rattle.cl_tree.specs.declared.terminal.Terminal.TheVariants as terminals
use Rattle.cl_read.specs.Starts.{same}
use Rattle.cl_read.specs.Gives.{with_front}
use Rattle.cl_read.specs.Members.{members}
use Rattle.cl_read.specs.Reading.{readers, all_of, each, line_of}
use Rattle.cl_parse.proofs.statement.+statement.Given as goal

abbrev pub decreases-statement : goal.decreases-statement
decreases-statement l = 16 * l.budget

abbrev pub decreases-braces : goal.decreases-braces
decreases-braces l = 16 * l.room + 15

abbrev pub decreases-lines : goal.decreases-lines
decreases-lines l = 16 * l.room + 14

abbrev pub decreases-line : goal.decreases-line
decreases-line l = 16 * l.room + 13

abbrev pub decreases-if_statement : goal.decreases-if_statement
decreases-if_statement l = 16 * l.room + 15

abbrev pub decreases-while_statement : goal.decreases-while_statement
decreases-while_statement l = 16 * l.room + 15

abbrev pub decreases-do_statement : goal.decreases-do_statement
decreases-do_statement l = 16 * l.room + 15

abbrev pub decreases-for_statement : goal.decreases-for_statement
decreases-for_statement l = 16 * l.room + 15

abbrev pub decreases-labelled_statement : goal.decreases-labelled_statement
decreases-labelled_statement l = 16 * l.room + 15

abbrev pub decreases-switch_statement : goal.decreases-switch_statement
decreases-switch_statement l = 16 * l.room + 14

abbrev pub decreases-statements : goal.decreases-statements
decreases-statements l = 16 * l.room + 13

abbrev pub decreases-further_statement : goal.decreases-further_statement
decreases-further_statement l = 16 * l.room + 12

abbrev pub decreases-case_statement : goal.decreases-case_statement
decreases-case_statement l = 16 * l.room + 14

abbrev pub decreases-default_statement : goal.decreases-default_statement
decreases-default_statement l = 16 * l.room + 14

abbrev pub invariant-lines-members : goal.invariant-lines-members
invariant-lines-members l = with_front (members l.list) (all_of (λ k. not (same k terminals.CloseBrace))
    (each (line_of (readers l.room))) l.rest) ≡ all_of (λ k. not (same k terminals.CloseBrace))
    (each (line_of (readers l.room))) l.items

abbrev pub decreases-lines-members : goal.decreases-lines-members
decreases-lines-members l = length l.rest

abbrev pub invariant-statements-members : goal.invariant-statements-members
invariant-statements-members l =
    with_front (members l.list) (all_of (λ k. not (same k terminals.CloseBrace)) (each (readers l.room).statement)
    l.rest) ≡ all_of (λ k. not (same k terminals.CloseBrace)) (each (readers l.room).statement) l.items

abbrev pub decreases-statements-members : goal.decreases-statements-members
decreases-statements-members l = length l.rest
