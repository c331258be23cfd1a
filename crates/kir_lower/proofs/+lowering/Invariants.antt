use Rattle.std.proofs.Common.{◌≡◌, ◌+◌, ◌*◌, ◌≤◌, ◌++◌, false, is_some, length}
use Rattle.kir.specs.Listed.{lines_of}
use Rattle.kir.specs.Tree.{joined_to}
use Rattle.cl_model.specs.View.{program_of, function_of, expression_of, argument_of, assigned, optional_expression}
use Rattle.cl_model.specs.View.{listed_expressions, statement_of, listed_statements}
use Rattle.cl_model.specs.Listed.{listed_arguments, listed_arms}
use Rattle.kir_lower.specs.Actions.{closed}
use Rattle.kir_lower.specs.Code.{operands_code, list_code, in_order, arms_code}
use Rattle.kir_lower.specs.View.{made_of, instance_of, calls_in, optional_listed}
use Rattle.kir_lower.proofs.Weights.{room, weight_in, weight_among, weight_in_optional, weight_of, weight_of_all}
use Rattle.kir_lower.proofs.Weights.{weight_of_arms}
use Rattle.kir_lower.proofs.+lowering.Given as goal

abbrev pub decreases-expressions::put_expression : goal.decreases-expressions::put_expression
decreases-expressions::put_expression l =
    room (program_of l.here.now.program.now) l.here.now.depth + (2 * weight_in (expression_of l.e.now) + 1)

abbrev pub decreases-expressions::put_operation : goal.decreases-expressions::put_operation
decreases-expressions::put_operation l =
    room (program_of l.here.now.program.now) l.here.now.depth + (2 * weight_in (expression_of l.e.now))

abbrev pub decreases-expressions::put_pair : goal.decreases-expressions::put_pair
decreases-expressions::put_pair l =
    room (program_of l.here.now.program.now) l.here.now.depth + (2 * weight_in (expression_of l.e.now))

abbrev pub decreases-expressions::put_load : goal.decreases-expressions::put_load
decreases-expressions::put_load l =
    room (program_of l.here.now.program.now) l.here.now.depth + (2 * weight_in (expression_of l.e.now))

abbrev pub decreases-expressions::put_application : goal.decreases-expressions::put_application
decreases-expressions::put_application l =
    room (program_of l.here.now.program.now) l.here.now.depth + (2 * weight_in (expression_of l.e.now))

abbrev pub decreases-expressions::put_decision : goal.decreases-expressions::put_decision
decreases-expressions::put_decision l =
    room (program_of l.here.now.program.now) l.here.now.depth + (2 * weight_in (expression_of l.e.now))

abbrev pub decreases-expressions::put_alternative : goal.decreases-expressions::put_alternative
decreases-expressions::put_alternative l =
    room (program_of l.here.now.program.now) l.here.now.depth + (2 * weight_in (expression_of l.e.now))

abbrev pub decreases-expressions::put_update : goal.decreases-expressions::put_update
decreases-expressions::put_update l =
    room (program_of l.here.now.program.now) l.here.now.depth + (2 * weight_in (expression_of l.e.now))

abbrev pub decreases-expressions::put_element_update : goal.decreases-expressions::put_element_update
decreases-expressions::put_element_update l =
    room (program_of l.here.now.program.now) l.here.now.depth + (2 * weight_in (expression_of l.e.now))

abbrev pub decreases-expressions::put_call : goal.decreases-expressions::put_call
decreases-expressions::put_call l =
    room (program_of l.here.now.program.now) l.here.now.depth + (2 * weight_in (expression_of l.e.now))

abbrev pub decreases-expressions::put_truth_of : goal.decreases-expressions::put_truth_of
decreases-expressions::put_truth_of l =
    room (program_of l.here.now.program.now) l.here.now.depth + (2 * weight_in (expression_of l.e.now) + 2)

abbrev pub decreases-expressions::put_assignment : goal.decreases-expressions::put_assignment
decreases-expressions::put_assignment l =
    room (program_of l.here.now.program.now) l.here.now.depth +
    (2 * weight_in (assigned l.target.now (expression_of l.from.now)))

abbrev pub decreases-expressions::put_expressions : goal.decreases-expressions::put_expressions
decreases-expressions::put_expressions l =
    room (program_of l.here.now.program.now) l.here.now.depth + (2 * weight_among (listed_expressions l.list.now) + 2)

abbrev pub decreases-expressions::put_argument : goal.decreases-expressions::put_argument
decreases-expressions::put_argument l =
    room (program_of l.here.now.program.now) l.here.now.depth + (2 * weight_in (argument_of l.argument.now) + 2)

abbrev pub decreases-expressions::put_arguments : goal.decreases-expressions::put_arguments
decreases-expressions::put_arguments l =
    room (program_of l.here.now.program.now) l.here.now.depth + (2 * weight_among (listed_arguments l.list.now) + 3)

abbrev pub decreases-statements::put_body : goal.decreases-statements::put_body
decreases-statements::put_body l =
    room (program_of l.here.now.program.now) l.here.now.depth + (2 * weight_of_all (function_of l.function.now).body +
    4)

abbrev pub decreases-statements::put_optional : goal.decreases-statements::put_optional
decreases-statements::put_optional l =
    room (program_of l.here.now.program.now) l.here.now.depth +
    (2 * weight_in_optional (optional_expression l.e.now) + 3)

abbrev pub decreases-statements::put_statement : goal.decreases-statements::put_statement
decreases-statements::put_statement l =
    room (program_of l.here.now.program.now) l.here.now.depth + (2 * weight_of (statement_of l.s.now) + 1)

abbrev pub decreases-statements::put_declared : goal.decreases-statements::put_declared
decreases-statements::put_declared l =
    room (program_of l.here.now.program.now) l.here.now.depth +
    (2 * weight_in_optional (optional_expression l.from.now) + 2)

abbrev pub decreases-statements::put_returned : goal.decreases-statements::put_returned
decreases-statements::put_returned l =
    room (program_of l.here.now.program.now) l.here.now.depth +
    (2 * weight_in_optional (optional_expression l.from.now) + 2)

abbrev pub decreases-statements::put_array : goal.decreases-statements::put_array
decreases-statements::put_array l =
    room (program_of l.here.now.program.now) l.here.now.depth + (2 * weight_of (statement_of l.s.now))

abbrev pub decreases-statements::put_branches : goal.decreases-statements::put_branches
decreases-statements::put_branches l =
    room (program_of l.here.now.program.now) l.here.now.depth + (2 * weight_of (statement_of l.s.now))

abbrev pub decreases-statements::put_loop : goal.decreases-statements::put_loop
decreases-statements::put_loop l =
    room (program_of l.here.now.program.now) l.here.now.depth + (2 * weight_of (statement_of l.s.now))

abbrev pub decreases-statements::put_switch : goal.decreases-statements::put_switch
decreases-statements::put_switch l =
    room (program_of l.here.now.program.now) l.here.now.depth + (2 * weight_of (statement_of l.s.now))

abbrev pub decreases-statements::put_other : goal.decreases-statements::put_other
decreases-statements::put_other l =
    room (program_of l.here.now.program.now) l.here.now.depth + (2 * weight_of_all (optional_listed l.s.now) + 2)

abbrev pub decreases-statements::put_arm : goal.decreases-statements::put_arm
decreases-statements::put_arm l =
    room (program_of l.here.now.program.now) l.here.now.depth + (2 * weight_of_all (listed_statements l.body.now) + 3)

abbrev pub decreases-statements::put_arms : goal.decreases-statements::put_arms
decreases-statements::put_arms l =
    room (program_of l.here.now.program.now) l.here.now.depth + (2 * weight_of_arms (listed_arms l.arms.now) + 3)

abbrev pub decreases-statements::put_cases : goal.decreases-statements::put_cases
decreases-statements::put_cases l =
    room (program_of l.here.now.program.now) l.here.now.depth + (2 * weight_of_arms (listed_arms l.arms.now) + 4)

abbrev pub decreases-statements::put_statements : goal.decreases-statements::put_statements
decreases-statements::put_statements l =
    room (program_of l.here.now.program.now) l.here.now.depth + (2 * weight_of_all (listed_statements l.list.now) + 2)

-- loops

abbrev pub invariant-expressions::put_expressions-loop-e : goal.invariant-expressions::put_expressions-loop-e
invariant-expressions::put_expressions-loop-e l =
    let all = operands_code (calls_in l.here) (instance_of l.here) (listed_expressions l.list) (made_of l.fn.made) in
    let left = operands_code (calls_in l.here) (instance_of l.here) (listed_expressions l.rest) (made_of l.made) in
    (joined_to (lines_of l.fn.lines.items) all.lines ≡ joined_to (lines_of l.lines.items) left.lines) ×
    (all.values ≡ l.values.items ++ left.values) × (all.made ≡ left.made)
    × (weight_among (listed_expressions l.rest) ≤ weight_among (listed_expressions l.list))

abbrev pub decreases-expressions::put_expressions-loop-e : goal.decreases-expressions::put_expressions-loop-e
decreases-expressions::put_expressions-loop-e l = length l.rest

abbrev pub invariant-expressions::put_arguments-loop-argument : goal.invariant-expressions::put_arguments-loop-argument
invariant-expressions::put_arguments-loop-argument l =
    let all = operands_code (calls_in l.here) (instance_of l.here) (listed_arguments l.list) (made_of l.fn.made) in
    let left = operands_code (calls_in l.here) (instance_of l.here) (listed_arguments l.rest) (made_of l.made) in
    (joined_to (lines_of l.fn.lines.items) all.lines ≡ joined_to (lines_of l.lines.items) left.lines) ×
    (all.values ≡ l.values.items ++ left.values) × (all.made ≡ left.made)
    × (weight_among (listed_arguments l.rest) ≤ weight_among (listed_arguments l.list))

abbrev pub decreases-expressions::put_arguments-loop-argument : goal.decreases-expressions::put_arguments-loop-argument
decreases-expressions::put_arguments-loop-argument l = length l.rest

abbrev pub invariant-statements::put_arms-loop-arm : goal.invariant-statements::put_arms-loop-arm
invariant-statements::put_arms-loop-arm l =
    let all = arms_code (calls_in l.here) (instance_of l.here) l.fn.entered.exit l.fn.entered.site l.fn.entered.chosen
    l.fn.entered.fallen l.fn.entered.number (listed_arms l.arms) (made_of l.fn.made) in
    let left = arms_code (calls_in l.here) (instance_of l.here) l.entered.exit l.entered.site l.entered.chosen
    l.entered.fallen l.entered.number (listed_arms l.rest) (made_of l.made) in
    (joined_to (lines_of l.fn.lines.items) all.lines ≡ joined_to (lines_of l.lines.items) left.lines) ×
    (all.made ≡ left.made)
    × (weight_of_arms (listed_arms l.rest) ≤ weight_of_arms (listed_arms l.arms))

abbrev pub decreases-statements::put_arms-loop-arm : goal.decreases-statements::put_arms-loop-arm
decreases-statements::put_arms-loop-arm l = length l.rest

abbrev pub invariant-statements::put_statements-loop-s : goal.invariant-statements::put_statements-loop-s
invariant-statements::put_statements-loop-s l =
    let all = in_order (list_code (calls_in l.here) (instance_of l.here) l.exit false (listed_statements l.list)
    (made_of l.fn.made)) in
    let left = list_code (calls_in l.here) (instance_of l.here) l.exit (is_some l.guard) (listed_statements l.rest)
    (made_of l.made) in
    (joined_to (lines_of l.fn.lines.items) all.lines ≡ joined_to (lines_of l.lines.items)
    (closed l.guard l.exit (joined_to (lines_of l.inside.items) left.inside) left.rest)) × (all.made ≡ left.made)
    × (weight_of_all (listed_statements l.rest) ≤ weight_of_all (listed_statements l.list))

abbrev pub decreases-statements::put_statements-loop-s : goal.decreases-statements::put_statements-loop-s
decreases-statements::put_statements-loop-s l = length l.rest
