use Rattle.std.proofs.Common.{◌≡◌, List, is_some, ◌+◌, ◌*◌, ◌<◌, OnOk, sym, ap, ◌∙◌, subst, arith}
use Rattle.cl_model.specs.declared.program.Stmt.{Stmt}
use Rattle.cl_model.specs.Tree as tree
use Rattle.cl_model.specs.View.{expression_of, argument_of, listed_expressions, statement_of, listed_statements}
use Rattle.kir.specs.Listed.{lines_of}
use Rattle.kir.specs.Tree.{NoLine, joined_to}
use Rattle.cl_model.specs.Listed.{listed_roots, listed_arguments, listed_arms}
use Rattle.kir_lower.specs.Actions.{closed}
use Rattle.kir_lower.specs.Code.{expression_code, Guarded, operands_code, statement_code, list_code, arms_code}
use Rattle.kir_lower.specs.View.{made_of, instance_of, calls_in}
use Rattle.kir_lower.proofs.Lists.{empty_list, join_none}
use Rattle.kir_lower.proofs.Parts.{builtin_parts, call_parts, block_parts, switch_parts, operand_lines}
use Rattle.kir_lower.proofs.Parts.{operand_values, operand_made}
use Rattle.kir_lower.proofs.Weights.{weight_in, weight_of, behind_first}
use Rattle.wg_num.specs.Builtins.{result_type}
use Rattle.cl_model.specs.Calls.{function_at}
use Rattle.cl_model.specs.View.{program_of, function_of}
use Rattle.kir.specs.Lowering.{names_of}
use Rattle.kir.specs.Tree.{Builtin}
use Rattle.kir_lower.specs.declared.places.Value.{Value}
use Rattle.kir_lower.specs.declared.places.Instance.{Instance as Placed}
use Rattle.kir_lower.specs.Made.{Made, Instance, argument_roots}
use Rattle.kir_lower.specs.Actions.{Code, Steps, behind, computed, atoms_of}
use Rattle.kir_lower.specs.Code.{cases_code, body_code}
use Rattle.kir_lower.specs.Whole.{call_code, parameter_lines}
use Rattle.kir_lower.specs.View.{names_in}
use Rattle.kir_lower.proofs.Parts.{behind_lines, call_entered, after}
use Rattle.kir_lower.proofs.Weights.{room, deeper, weight_among, weight_of_all, weight_of_arms}
use Rattle.kir_lower.proofs.+lowering.Goals as goal

pub expressions::put_expressions-loop-e-preserved : goal.expressions::put_expressions-loop-e-preserved
expressions::put_expressions-loop-e-preserved t c =
    let rest = ap listed_expressions c.in-Some.ensures.cases.0 in
    let first = expression_of c.in-Some.e.now in
    let others = listed_expressions c.in-Some.others.now in
    let made = made_of c.loop-e.made in (
      operand_lines (calls_in c.args.here.now) (instance_of c.args.here.now) (listed_expressions c.loop-e.rest.now)
          first others _ (lines_of c.loop-e.lines.items) (lines_of c.put_expression.new.lines.items) made
          (made_of c.put_expression.new.made)
          rest c.loop-e.invariant.0 c.in_ok-put_expression.ensures.lines c.in_ok-put_expression.ensures.made,
      operand_values (calls_in c.args.here.now) (instance_of c.args.here.now) (listed_expressions c.loop-e.rest.now)
          first others _ c.loop-e.values.items c.push.new.list.items c.put_expression.new.value made
          (made_of c.put_expression.new.made)
          rest c.loop-e.invariant.1 c.in_ok-push.ensures c.in_ok-put_expression.ensures.value
          c.in_ok-put_expression.ensures.made,
      operand_made (calls_in c.args.here.now) (instance_of c.args.here.now) (listed_expressions c.loop-e.rest.now)
          first others _ made (made_of c.put_expression.new.made) rest c.loop-e.invariant.2
          c.in_ok-put_expression.ensures.made,
      behind_first (listed_expressions c.loop-e.rest.now) first others _ rest c.loop-e.invariant.3,
    )

pub expressions::put_expressions-returns-clause-lines : goal.expressions::put_expressions-returns-clause-lines
unfolding expression_code
expressions::put_expressions-returns-clause-lines t c =
    let lines = lines_of c.loop-e.lines.items in
    sym (c.loop-e.invariant.0 ∙ ap
    (λ z. joined_to lines (operands_code (calls_in c.args.here.now) (instance_of c.args.here.now)
    (listed_expressions z) (made_of c.loop-e.made)).lines)
    (empty_list c.loop-e.rest.now c.in_default.ensures.cases) ∙ join_none lines)

pub expressions::put_arguments-loop-argument-preserved : goal.expressions::put_arguments-loop-argument-preserved
expressions::put_arguments-loop-argument-preserved t c =
    let rest = ap listed_arguments c.in-Some.ensures.cases.0 in
    let first = argument_of c.in-Some.argument.now in
    let others = listed_arguments c.in-Some.others.now in
    let made = made_of c.loop-argument.made in (
      operand_lines (calls_in c.args.here.now) (instance_of c.args.here.now)
          (listed_arguments c.loop-argument.rest.now) first others _ (lines_of c.loop-argument.lines.items)
          (lines_of c.put_argument.new.lines.items) made (made_of c.put_argument.new.made)
          rest c.loop-argument.invariant.0 c.in_ok-put_argument.ensures.lines c.in_ok-put_argument.ensures.made,
      operand_values (calls_in c.args.here.now) (instance_of c.args.here.now)
          (listed_arguments c.loop-argument.rest.now) first others _ c.loop-argument.values.items c.push.new.list.items
          c.put_argument.new.value made (made_of c.put_argument.new.made)
          rest c.loop-argument.invariant.1 c.in_ok-push.ensures c.in_ok-put_argument.ensures.value
          c.in_ok-put_argument.ensures.made,
      operand_made (calls_in c.args.here.now) (instance_of c.args.here.now)
          (listed_arguments c.loop-argument.rest.now) first others _ made (made_of c.put_argument.new.made) rest
          c.loop-argument.invariant.2 c.in_ok-put_argument.ensures.made,
      behind_first (listed_arguments c.loop-argument.rest.now) first others _ rest c.loop-argument.invariant.3,
    )

pub expressions::put_arguments-returns-clause-lines : goal.expressions::put_arguments-returns-clause-lines
unfolding expression_code
expressions::put_arguments-returns-clause-lines t c =
    let lines = lines_of c.loop-argument.lines.items in
    sym (c.loop-argument.invariant.0 ∙
    ap (λ z. joined_to lines (operands_code (calls_in c.args.here.now) (instance_of c.args.here.now)
    (listed_arguments z) (made_of c.loop-argument.made)).lines)
    (empty_list c.loop-argument.rest.now c.in_default.ensures.cases) ∙ join_none lines)

pub statements::put_arms-returns-clause-lines : goal.statements::put_arms-returns-clause-lines
unfolding statement_code
statements::put_arms-returns-clause-lines t c =
    let lines = lines_of c.loop-arm.lines.items in
    let at = c.loop-arm.entered in
    sym (c.loop-arm.invariant.0 ∙ ap
    (λ z. joined_to lines (arms_code (calls_in c.args.here.now) (instance_of c.args.here.now) at.exit at.site
    at.chosen at.fallen at.number (listed_arms z) (made_of c.loop-arm.made)).lines)
    (empty_list c.loop-arm.rest.now c.in_default.ensures.cases) ∙ join_none lines)

pub statements::put_statements-returns-clause-lines : goal.statements::put_statements-returns-clause-lines
unfolding statement_code
statements::put_statements-returns-clause-lines t c =
    let lines = lines_of c.loop-s.lines.items in
    let inside = lines_of c.loop-s.inside.items in
    let left : List Stmt → Guarded =
    λ z. list_code (calls_in c.args.here.now) (instance_of c.args.here.now) c.args.exit (is_some c.loop-s.guard)
    (listed_statements z) (made_of c.loop-s.made) in
    subst (λ z. OnOk c.step_closed-2.result (lines_of c.step_closed-2.new.lines.items ≡ z))
    (sym (c.loop-s.invariant.0
    ∙ ap (λ z. joined_to lines (closed c.loop-s.guard c.args.exit (joined_to inside (left z).inside) (left z).rest))
    (empty_list c.loop-s.rest.now c.in_default.ensures.cases)
    ∙ ap (λ z. joined_to lines (closed c.loop-s.guard c.args.exit z NoLine)) (join_none inside)))
    c.step_closed-2.ensures.lines

pub statements::put_statement-returns-in-Block-clause-lines :
    goal.statements::put_statement-returns-in-Block-clause-lines
unfolding statement_code
statements::put_statement-returns-in-Block-clause-lines t c =
    subst (λ z. OnOk c.put_statements.result (lines_of c.put_statements.new.lines.items ≡
    joined_to (lines_of c.args.lines.now.items)
    (statement_code (calls_in c.args.here.now) (instance_of c.args.here.now) c.args.exit z
    (made_of c.args.made.now)).lines))
    (block_parts c.args.s.now c.in-Block.list c.deref.result.now c.in-Block.is c.deref.ensures.value)
    c.put_statements.ensures.lines

pub statements::put_statement-returns-in-Block-clause-made : goal.statements::put_statement-returns-in-Block-clause-made
unfolding statement_code
statements::put_statement-returns-in-Block-clause-made t c =
    subst (λ z. OnOk c.put_statements.result (made_of c.put_statements.new.made ≡
    (statement_code (calls_in c.args.here.now) (instance_of c.args.here.now) c.args.exit z
    (made_of c.args.made.now)).made))
    (block_parts c.args.s.now c.in-Block.list c.deref.result.now c.in-Block.is c.deref.ensures.value)
    c.put_statements.ensures.made

pub expressions::put_application-put_expressions-requires : goal.expressions::put_application-put_expressions-requires
expressions::put_application-put_expressions-requires t c =
    let d : room (program_of c.args.here.now.program.now) c.args.here.now.depth +
    (2 * weight_in (expression_of c.args.e.now)) ≡ t = c.decreases in
    let e = ap weight_in (builtin_parts c.args.e.now c.in-Builtin.f c.in-Builtin.of c.in-Builtin.args
    c.deref.result.now c.in-Builtin.is c.deref.ensures.value) in
    let less : room (program_of c.args.here.now.program.now) c.args.here.now.depth +
    (2 * weight_among (listed_expressions c.deref.result.now) + 2) < t = omega (arith, d, e) in
    (less, tt {0})

pub statements::put_statement-put_statements-requires : goal.statements::put_statement-put_statements-requires
statements::put_statement-put_statements-requires t c =
    let d : room (program_of c.args.here.now.program.now) c.args.here.now.depth +
    (2 * weight_of (statement_of c.args.s.now) + 1) ≡ t = c.decreases in
    let e = ap weight_of (block_parts c.args.s.now c.in-Block.list c.deref.result.now c.in-Block.is
    c.deref.ensures.value) in
    let less : room (program_of c.args.here.now.program.now) c.args.here.now.depth +
    (2 * weight_of_all (listed_statements c.deref.result.now) + 2) < t = omega (arith, d, e) in
    (less, tt {0})

pub statements::put_switch-put_cases-requires : goal.statements::put_switch-put_cases-requires
statements::put_switch-put_cases-requires t c =
    let d : room (program_of c.args.here.now.program.now) c.args.here.now.depth +
    (2 * weight_of (statement_of c.args.s.now)) ≡ t = c.decreases in
    let e = ap weight_of (switch_parts c.args.s.now c.in-Switch.site c.in-Switch.of c.in-Switch.arms
    c.deref.result.now c.in-Switch.is c.deref.ensures.value) in
    let less : room (program_of c.args.here.now.program.now) c.args.here.now.depth +
    (2 * weight_of_arms (listed_arms c.deref.result.now) + 4) < t = omega (arith, d, e) in
    (less, tt {0})

pub expressions::put_application-returns-clause-lines :
    goal.expressions::put_application-returns-clause-lines
unfolding expression_code
expressions::put_application-returns-clause-lines t c =
    let lines = lines_of c.args.lines.now.items in
    let own = made_of c.args.made.now in
    let co = operands_code (calls_in c.args.here.now) (instance_of c.args.here.now)
    (listed_expressions c.deref.result.now) own in
    let step : List Value → Made → Code =
    λ v m. computed (Builtin c.in-Builtin.f c.in-Builtin.of (atoms_of v))
    (result_type c.in-Builtin.f c.in-Builtin.of) m in
    let more = lines_of c.put_expressions.new.lines.items in
    let values = c.deref-in-Builtin.result.now in
    let made = made_of c.put_expressions.new.made in
    let known = c.in_ok-values-in-Builtin.ensures in
    let same : step values made ≡ step co.values co.made =
    ap (λ z. step z made) (c.deref-in-Builtin.ensures.value ∙ known.values) ∙
    ap (λ z. step co.values z) known.made in
    subst (λ z. OnOk c.step_builtin.result (lines_of c.step_builtin.new.lines.items ≡ z))
    (behind_lines lines more co.lines (step values made).lines known.lines ∙
    ap (λ (z : Code). joined_to lines (joined_to co.lines z.lines)) same ∙
    ap (λ z. joined_to lines (expression_code (calls_in c.args.here.now) (instance_of c.args.here.now) z
    own).lines) (builtin_parts c.args.e.now c.in-Builtin.f c.in-Builtin.of c.in-Builtin.args
    c.deref.result.now c.in-Builtin.is c.deref.ensures.value))
    c.step_builtin.ensures.lines

pub expressions::put_application-returns-clause-value :
    goal.expressions::put_application-returns-clause-value
unfolding expression_code
expressions::put_application-returns-clause-value t c =
    let lines = lines_of c.args.lines.now.items in
    let own = made_of c.args.made.now in
    let co = operands_code (calls_in c.args.here.now) (instance_of c.args.here.now)
    (listed_expressions c.deref.result.now) own in
    let step : List Value → Made → Code =
    λ v m. computed (Builtin c.in-Builtin.f c.in-Builtin.of (atoms_of v))
    (result_type c.in-Builtin.f c.in-Builtin.of) m in
    let more = lines_of c.put_expressions.new.lines.items in
    let values = c.deref-in-Builtin.result.now in
    let made = made_of c.put_expressions.new.made in
    let known = c.in_ok-values-in-Builtin.ensures in
    let same : step values made ≡ step co.values co.made =
    ap (λ z. step z made) (c.deref-in-Builtin.ensures.value ∙ known.values) ∙
    ap (λ z. step co.values z) known.made in
    subst (λ (z : Code). OnOk c.step_builtin.result (c.step_builtin.new.value ≡ z.value))
    (ap (behind co.lines) same ∙ ap (λ z. expression_code (calls_in c.args.here.now) (instance_of c.args.here.now) z
    own) (builtin_parts c.args.e.now c.in-Builtin.f c.in-Builtin.of c.in-Builtin.args c.deref.result.now
    c.in-Builtin.is c.deref.ensures.value))
    c.step_builtin.ensures.value

pub expressions::put_application-returns-clause-made :
    goal.expressions::put_application-returns-clause-made
unfolding expression_code
expressions::put_application-returns-clause-made t c =
    let lines = lines_of c.args.lines.now.items in
    let own = made_of c.args.made.now in
    let co = operands_code (calls_in c.args.here.now) (instance_of c.args.here.now)
    (listed_expressions c.deref.result.now) own in
    let step : List Value → Made → Code =
    λ v m. computed (Builtin c.in-Builtin.f c.in-Builtin.of (atoms_of v))
    (result_type c.in-Builtin.f c.in-Builtin.of) m in
    let more = lines_of c.put_expressions.new.lines.items in
    let values = c.deref-in-Builtin.result.now in
    let made = made_of c.put_expressions.new.made in
    let known = c.in_ok-values-in-Builtin.ensures in
    let same : step values made ≡ step co.values co.made =
    ap (λ z. step z made) (c.deref-in-Builtin.ensures.value ∙ known.values) ∙
    ap (λ z. step co.values z) known.made in
    subst (λ (z : Code). OnOk c.step_builtin.result (made_of c.step_builtin.new.made ≡ z.made))
    (ap (behind co.lines) same ∙ ap (λ z. expression_code (calls_in c.args.here.now) (instance_of c.args.here.now) z
    own) (builtin_parts c.args.e.now c.in-Builtin.f c.in-Builtin.of c.in-Builtin.args c.deref.result.now
    c.in-Builtin.is c.deref.ensures.value))
    c.step_builtin.ensures.made

pub statements::put_switch-returns-clause-lines :
    goal.statements::put_switch-returns-clause-lines
unfolding statement_code
statements::put_switch-returns-clause-lines t c =
    let lines = lines_of c.args.lines.now.items in
    let own = made_of c.args.made.now in
    let cv =
    expression_code (calls_in c.args.here.now) (instance_of c.args.here.now) (expression_of c.in-Switch.of) own in
    let step : Value → Made → Steps =
    λ v m. cases_code (calls_in c.args.here.now) (instance_of c.args.here.now) c.args.exit c.in-Switch.site v
    (listed_arms c.deref.result.now) m in
    let more = lines_of c.put_expression.new.lines.items in
    let value = c.put_expression.new.value in
    let made = made_of c.put_expression.new.made in
    let known = c.in_ok-put_expression-in-Switch.ensures in
    let same : step value made ≡ step cv.value cv.made =
    ap (λ z. step z made) known.value ∙ ap (λ z. step cv.value z) known.made in
    subst (λ z. OnOk c.put_cases.result (lines_of c.put_cases.new.lines.items ≡ z))
    (behind_lines lines more cv.lines (step value made).lines known.lines ∙
    ap (λ (z : Steps). joined_to lines (joined_to cv.lines z.lines)) same ∙
    ap (λ z. joined_to lines (statement_code (calls_in c.args.here.now) (instance_of c.args.here.now)
    c.args.exit z own).lines) (switch_parts c.args.s.now c.in-Switch.site c.in-Switch.of c.in-Switch.arms
    c.deref.result.now c.in-Switch.is c.deref.ensures.value))
    c.put_cases.ensures.lines

pub statements::put_switch-returns-clause-made :
    goal.statements::put_switch-returns-clause-made
unfolding statement_code
statements::put_switch-returns-clause-made t c =
    let lines = lines_of c.args.lines.now.items in
    let own = made_of c.args.made.now in
    let cv =
    expression_code (calls_in c.args.here.now) (instance_of c.args.here.now) (expression_of c.in-Switch.of) own in
    let step : Value → Made → Steps =
    λ v m. cases_code (calls_in c.args.here.now) (instance_of c.args.here.now) c.args.exit c.in-Switch.site v
    (listed_arms c.deref.result.now) m in
    let more = lines_of c.put_expression.new.lines.items in
    let value = c.put_expression.new.value in
    let made = made_of c.put_expression.new.made in
    let known = c.in_ok-put_expression-in-Switch.ensures in
    let same : step value made ≡ step cv.value cv.made =
    ap (λ z. step z made) known.value ∙ ap (λ z. step cv.value z) known.made in
    subst (λ (z : Steps). OnOk c.put_cases.result (made_of c.put_cases.new.made ≡ z.made))
    (ap (λ (z : Steps). after cv.lines z) same ∙
    ap (λ z. statement_code (calls_in c.args.here.now) (instance_of c.args.here.now) c.args.exit z own)
    (switch_parts c.args.s.now c.in-Switch.site c.in-Switch.of c.in-Switch.arms c.deref.result.now
    c.in-Switch.is c.deref.ensures.value))
    c.put_cases.ensures.made

pub expressions::put_call-put_arguments-requires : goal.expressions::put_call-put_arguments-requires
expressions::put_call-put_arguments-requires t c =
    let d : room (program_of c.args.here.now.program.now) c.args.here.now.depth +
    (2 * weight_in (expression_of c.args.e.now)) ≡ t = c.decreases in
    let e = ap weight_in (call_parts c.args.e.now c.in-Call.site c.in-Call.function c.in-Call.args
    c.deref-in-Call.result.now c.in-Call.is c.deref-in-Call.ensures.value) in
    let less : room (program_of c.args.here.now.program.now) c.args.here.now.depth +
    (2 * weight_among (listed_arguments c.deref-in-Call.result.now) + 3) < t = omega (arith, d, e) in
    (less, tt {0})

pub expressions::put_call-put_body-requires : goal.expressions::put_call-put_body-requires
expressions::put_call-put_body-requires t c =
    let there = c.in_ok-there-in-Call.there.value in
    let inner = c.deref-in-Call-4.result.now in
    let program = program_of c.args.here.now.program.now in
    let d : room (program_of c.args.here.now.program.now) c.args.here.now.depth +
    (2 * weight_in (expression_of c.args.e.now)) ≡ t = c.decreases in
    let h = deeper program c.in-Call.function c.args.here.now.depth there.depth c.in_ok-there-in-Call.ensures.depth in
    let k : room (program_of there.program.now) there.depth ≡ room program there.depth =
    ap (λ p. room (program_of p) there.depth) c.in_ok-there-in-Call.ensures.program in
    let q : room (program_of inner.program.now) inner.depth ≡ room (program_of there.program.now) there.depth =
    ap (λ (z : Placed). room (program_of z.program.now) z.depth) c.deref-in-Call-4.ensures in
    let w : weight_of_all (function_of c.in_ok-called-in-Call.called.now).body ≡
    weight_of_all (function_at program c.in-Call.function).body =
    ap (λ (z : tree.Function). weight_of_all z.body) c.in_ok-called-in-Call.ensures.plain in
    let less : room (program_of inner.program.now) inner.depth +
    (2 * weight_of_all (function_of c.in_ok-called-in-Call.called.now).body + 4) < t =
    omega (arith, d, h, k, q, w) in
    (less, tt {0})

pub expressions::put_call-returns-clause-lines :
    goal.expressions::put_call-returns-clause-lines
unfolding expression_code
expressions::put_call-returns-clause-lines t c =
    let lines = lines_of c.args.lines.now.items in
    let own = made_of c.args.made.now in
    let calls = calls_in c.args.here.now in
    let here = instance_of c.args.here.now in
    let list = c.deref-in-Call.result.now in
    let ca = operands_code calls here (listed_arguments list) own in
    let there = c.in_ok-there-in-Call.there.value in
    let inner = c.deref-in-Call-4.result.now in
    let at : Instance = instance_of there in
    let f = function_of c.in_ok-called-in-Call.called.now in
    let inside = lines_of c.put_arguments.new.lines.items in
    let more = lines_of c.put_parameters.new.lines.items in
    let values = c.deref-in-Call-3.result.now in
    let made = made_of c.put_arguments.new.made in
    let behind_made = made_of c.enter.new.made in
    let body = body_code (calls_in inner) (instance_of inner) f behind_made in
    let program = program_of c.args.here.now.program.now in
    let names = names_of c.args.here.now.program.now in
    let set = parameter_lines c.deref-in-Call-2.result.now.base values in
    let known = c.in_ok-values-in-Call.ensures in
    let entered = c.in_ok-there-in-Call.ensures in
    let called = c.in_ok-called-in-Call.ensures in
    let same : behind set body ≡ calls here c.in-Call.site c.in-Call.function
    (argument_roots here (listed_roots list)) ca.values ca.made =
    ap (λ (z : Placed). behind (parameter_lines z.base values) body) c.deref-in-Call-2.ensures
    ∙ ap (λ (z : Placed). behind (parameter_lines there.base values)
    (body_code (calls_in z) (instance_of z) f behind_made)) c.deref-in-Call-4.ensures
    ∙ ap (λ p. behind (parameter_lines there.base values)
    (body_code (call_code (program_of p) (names_of p) there.depth) at f behind_made)) entered.program
    ∙ call_entered program names c.args.here.now.depth there.depth here at c.in-Call.site c.in-Call.function f
    (names_in c.in_ok-called-in-Call.called.now) c.in_ok-roots-in-Call.roots.items values made behind_made
    entered.depth called.plain called.names entered.here entered.made
    ∙ ap (λ z. calls here c.in-Call.site c.in-Call.function z values made) c.in_ok-roots-in-Call.ensures
    ∙ ap (λ z. calls here c.in-Call.site c.in-Call.function (argument_roots here (listed_roots z)) values made)
    (c.deref.ensures.value ∙ sym c.deref-in-Call.ensures.value)
    ∙ ap (λ z. calls here c.in-Call.site c.in-Call.function (argument_roots here (listed_roots list)) z made)
    (c.deref-in-Call-3.ensures.value ∙ known.values)
    ∙ ap (λ z. calls here c.in-Call.site c.in-Call.function (argument_roots here (listed_roots list)) ca.values z)
    known.made in
    subst (λ z. OnOk c.put_body.result (lines_of c.put_body.new.lines.items ≡ z))
    (behind_lines inside more set body.lines c.in_ok-put_parameters-in-Call.ensures ∙
    behind_lines lines inside ca.lines (joined_to set body.lines) known.lines ∙
    ap (λ (z : Code). joined_to lines (joined_to ca.lines z.lines)) same ∙
    ap (λ z. joined_to lines (expression_code calls here z own).lines)
    (call_parts c.args.e.now c.in-Call.site c.in-Call.function c.in-Call.args c.deref-in-Call.result.now
    c.in-Call.is c.deref-in-Call.ensures.value))
    c.put_body.ensures.lines

pub expressions::put_call-returns-clause-value :
    goal.expressions::put_call-returns-clause-value
unfolding expression_code
expressions::put_call-returns-clause-value t c =
    let lines = lines_of c.args.lines.now.items in
    let own = made_of c.args.made.now in
    let calls = calls_in c.args.here.now in
    let here = instance_of c.args.here.now in
    let list = c.deref-in-Call.result.now in
    let ca = operands_code calls here (listed_arguments list) own in
    let there = c.in_ok-there-in-Call.there.value in
    let inner = c.deref-in-Call-4.result.now in
    let at : Instance = instance_of there in
    let f = function_of c.in_ok-called-in-Call.called.now in
    let inside = lines_of c.put_arguments.new.lines.items in
    let more = lines_of c.put_parameters.new.lines.items in
    let values = c.deref-in-Call-3.result.now in
    let made = made_of c.put_arguments.new.made in
    let behind_made = made_of c.enter.new.made in
    let body = body_code (calls_in inner) (instance_of inner) f behind_made in
    let program = program_of c.args.here.now.program.now in
    let names = names_of c.args.here.now.program.now in
    let set = parameter_lines c.deref-in-Call-2.result.now.base values in
    let known = c.in_ok-values-in-Call.ensures in
    let entered = c.in_ok-there-in-Call.ensures in
    let called = c.in_ok-called-in-Call.ensures in
    let same : behind set body ≡ calls here c.in-Call.site c.in-Call.function
    (argument_roots here (listed_roots list)) ca.values ca.made =
    ap (λ (z : Placed). behind (parameter_lines z.base values) body) c.deref-in-Call-2.ensures
    ∙ ap (λ (z : Placed). behind (parameter_lines there.base values)
    (body_code (calls_in z) (instance_of z) f behind_made)) c.deref-in-Call-4.ensures
    ∙ ap (λ p. behind (parameter_lines there.base values)
    (body_code (call_code (program_of p) (names_of p) there.depth) at f behind_made)) entered.program
    ∙ call_entered program names c.args.here.now.depth there.depth here at c.in-Call.site c.in-Call.function f
    (names_in c.in_ok-called-in-Call.called.now) c.in_ok-roots-in-Call.roots.items values made behind_made
    entered.depth called.plain called.names entered.here entered.made
    ∙ ap (λ z. calls here c.in-Call.site c.in-Call.function z values made) c.in_ok-roots-in-Call.ensures
    ∙ ap (λ z. calls here c.in-Call.site c.in-Call.function (argument_roots here (listed_roots z)) values made)
    (c.deref.ensures.value ∙ sym c.deref-in-Call.ensures.value)
    ∙ ap (λ z. calls here c.in-Call.site c.in-Call.function (argument_roots here (listed_roots list)) z made)
    (c.deref-in-Call-3.ensures.value ∙ known.values)
    ∙ ap (λ z. calls here c.in-Call.site c.in-Call.function (argument_roots here (listed_roots list)) ca.values z)
    known.made in
    subst (λ (z : Code). OnOk c.put_body.result (c.put_body.new.value ≡ z.value))
    (ap (behind ca.lines) same ∙ ap (λ z. expression_code calls here z own)
    (call_parts c.args.e.now c.in-Call.site c.in-Call.function c.in-Call.args c.deref-in-Call.result.now
    c.in-Call.is c.deref-in-Call.ensures.value))
    c.put_body.ensures.value

pub expressions::put_call-returns-clause-made :
    goal.expressions::put_call-returns-clause-made
unfolding expression_code
expressions::put_call-returns-clause-made t c =
    let lines = lines_of c.args.lines.now.items in
    let own = made_of c.args.made.now in
    let calls = calls_in c.args.here.now in
    let here = instance_of c.args.here.now in
    let list = c.deref-in-Call.result.now in
    let ca = operands_code calls here (listed_arguments list) own in
    let there = c.in_ok-there-in-Call.there.value in
    let inner = c.deref-in-Call-4.result.now in
    let at : Instance = instance_of there in
    let f = function_of c.in_ok-called-in-Call.called.now in
    let inside = lines_of c.put_arguments.new.lines.items in
    let more = lines_of c.put_parameters.new.lines.items in
    let values = c.deref-in-Call-3.result.now in
    let made = made_of c.put_arguments.new.made in
    let behind_made = made_of c.enter.new.made in
    let body = body_code (calls_in inner) (instance_of inner) f behind_made in
    let program = program_of c.args.here.now.program.now in
    let names = names_of c.args.here.now.program.now in
    let set = parameter_lines c.deref-in-Call-2.result.now.base values in
    let known = c.in_ok-values-in-Call.ensures in
    let entered = c.in_ok-there-in-Call.ensures in
    let called = c.in_ok-called-in-Call.ensures in
    let same : behind set body ≡ calls here c.in-Call.site c.in-Call.function
    (argument_roots here (listed_roots list)) ca.values ca.made =
    ap (λ (z : Placed). behind (parameter_lines z.base values) body) c.deref-in-Call-2.ensures
    ∙ ap (λ (z : Placed). behind (parameter_lines there.base values)
    (body_code (calls_in z) (instance_of z) f behind_made)) c.deref-in-Call-4.ensures
    ∙ ap (λ p. behind (parameter_lines there.base values)
    (body_code (call_code (program_of p) (names_of p) there.depth) at f behind_made)) entered.program
    ∙ call_entered program names c.args.here.now.depth there.depth here at c.in-Call.site c.in-Call.function f
    (names_in c.in_ok-called-in-Call.called.now) c.in_ok-roots-in-Call.roots.items values made behind_made
    entered.depth called.plain called.names entered.here entered.made
    ∙ ap (λ z. calls here c.in-Call.site c.in-Call.function z values made) c.in_ok-roots-in-Call.ensures
    ∙ ap (λ z. calls here c.in-Call.site c.in-Call.function (argument_roots here (listed_roots z)) values made)
    (c.deref.ensures.value ∙ sym c.deref-in-Call.ensures.value)
    ∙ ap (λ z. calls here c.in-Call.site c.in-Call.function (argument_roots here (listed_roots list)) z made)
    (c.deref-in-Call-3.ensures.value ∙ known.values)
    ∙ ap (λ z. calls here c.in-Call.site c.in-Call.function (argument_roots here (listed_roots list)) ca.values z)
    known.made in
    subst (λ (z : Code). OnOk c.put_body.result (made_of c.put_body.new.made ≡ z.made))
    (ap (behind ca.lines) same ∙ ap (λ z. expression_code calls here z own)
    (call_parts c.args.e.now c.in-Call.site c.in-Call.function c.in-Call.args c.deref-in-Call.result.now
    c.in-Call.is c.deref-in-Call.ensures.value))
    c.put_body.ensures.made
