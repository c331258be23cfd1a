use Rattle.std.proofs.Common.{◌≡◌, ◌+◌, ◌*◌, length}
use Rattle.cl_tree.specs.declared.terminal.Terminal.TheVariants as terminals
use Rattle.cl_tree.specs.Precedence.{joins}
use Rattle.cl_tree.specs.Syntax.{view}
use Rattle.cl_read.specs.Starts.{postfixes}
use Rattle.cl_read.specs.Gives.{with_front}
use Rattle.cl_read.specs.Members.{members}
use Rattle.cl_read.specs.Reading.{is, readers, chain, all_of, behind_comma, level_step, expr_step, postfix_step}
use Rattle.cl_parse.proofs.expression.+expression.Given as goal

abbrev pub decreases-expression : goal.decreases-expression
decreases-expression l = 64 * l.budget + 22

abbrev pub decreases-assignment : goal.decreases-assignment
decreases-assignment l = 64 * l.budget + 21

abbrev pub decreases-conditional : goal.decreases-conditional
decreases-conditional l = 64 * l.budget + 20

abbrev pub decreases-cast : goal.decreases-cast
decreases-cast l = 64 * l.budget + 7

abbrev pub decreases-unary : goal.decreases-unary
decreases-unary l = 64 * l.budget + 7

abbrev pub decreases-cast_behind_open : goal.decreases-cast_behind_open
decreases-cast_behind_open l = 64 * l.room + 63

abbrev pub decreases-parenthesis : goal.decreases-parenthesis
decreases-parenthesis l = 64 * l.room + 62

abbrev pub decreases-operand : goal.decreases-operand
decreases-operand l = 64 * l.room + 63

abbrev pub decreases-primary : goal.decreases-primary
decreases-primary l = 64 * l.room + 62

abbrev pub decreases-call : goal.decreases-call
decreases-call l = 64 * l.room + 61

abbrev pub decreases-arguments : goal.decreases-arguments
decreases-arguments l = 64 * l.room + 60

abbrev pub decreases-further_argument : goal.decreases-further_argument
decreases-further_argument l = 64 * l.room + 59

abbrev pub decreases-postfix_parts : goal.decreases-postfix_parts
decreases-postfix_parts l = 64 * l.room + 60

abbrev pub decreases-postfix_part : goal.decreases-postfix_part
decreases-postfix_part l = 64 * l.room + 59

abbrev pub decreases-level_chain : goal.decreases-level_chain
decreases-level_chain l = 64 * l.room + 63

abbrev pub decreases-expression_chain : goal.decreases-expression_chain
decreases-expression_chain l = 64 * l.room + 63

abbrev pub decreases-level : goal.decreases-level
decreases-level l = 64 * l.budget + 8 + l.number

abbrev pub invariant-expression_chain-operators : goal.invariant-expression_chain-operators
invariant-expression_chain-operators l =
    chain l.room (is terminals.Comma) (expr_step l.room (readers l.room)) l.count (view l.left.tree) l.rest ≡
    chain l.room (is terminals.Comma) (expr_step l.room (readers l.room)) l.room (view l.fn.head.tree) l.items

abbrev pub decreases-expression_chain-operators : goal.decreases-expression_chain-operators
decreases-expression_chain-operators l = l.count

abbrev pub invariant-level_chain-operators : goal.invariant-level_chain-operators
invariant-level_chain-operators l =
    chain l.room (joins l.number) (level_step l.room (readers l.room) l.number) l.count (view l.left.tree) l.rest ≡
    chain l.room (joins l.number) (level_step l.room (readers l.room) l.number) l.room (view l.fn.head.tree) l.items

abbrev pub decreases-level_chain-operators : goal.decreases-level_chain-operators
decreases-level_chain-operators l = l.count

abbrev pub invariant-postfix_parts-operators : goal.invariant-postfix_parts-operators
invariant-postfix_parts-operators l =
    chain l.room postfixes (postfix_step l.room (readers l.room)) l.count (view l.left.tree) l.rest ≡
    chain l.room postfixes (postfix_step l.room (readers l.room)) l.room (view l.fn.head.tree) l.items

abbrev pub decreases-postfix_parts-operators : goal.decreases-postfix_parts-operators
decreases-postfix_parts-operators l = l.count

abbrev pub invariant-arguments-members : goal.invariant-arguments-members
invariant-arguments-members l =
    with_front (members l.list) (all_of (is terminals.Comma) (behind_comma (readers l.room).assign) l.rest) ≡
    all_of (is terminals.Comma) (behind_comma (readers l.room).assign) l.items

abbrev pub decreases-arguments-members : goal.decreases-arguments-members
decreases-arguments-members l = length l.rest
