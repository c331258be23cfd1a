use Rattle.std.proofs.Common.{map, sym, ◌∙◌}
use Rattle.cl_tree.specs.Syntax.{view}
use Rattle.cl_limits.specs.Kernel.{sized_of}
use Rattle.cl_meaning.specs.Calls.{call_of}
use Rattle.cl_limits.proofs.Chosen.{chosen_third, chosen_fourth, private_test, local_test}
use Rattle.cl_limits.proofs.limit.limit_of.Goals as goal

pub returns-then-branch-3 : goal.returns-then-branch-3
returns-then-branch-3 c =
    chosen_third (sized_of (view c.args.unit.now) (map call_of c.args.calls.now) c.args.program.now)
    (sym c.if-branch.false ∙ c.in_ok-is_too_large.ensures)
    (sym c.if-branch-2.false ∙ private_test c.in_ok-is_private_over.field-0 c.deref.result.now
    c.args.program.now.functions.items (map call_of c.args.calls.now) c.args.program.now.kernel
    c.deref.ensures.value c.in_ok-is_private_over.ensures)
    (sym c.if-branch-3.true ∙ c.in_ok-is_too_deep.ensures)

pub returns-then-is_local_over : goal.returns-then-is_local_over
returns-then-is_local_over c =
    chosen_fourth (sized_of (view c.args.unit.now) (map call_of c.args.calls.now) c.args.program.now) _
    (sym c.if-branch.false ∙ c.in_ok-is_too_large.ensures)
    (sym c.if-branch-2.false ∙ private_test c.in_ok-is_private_over.field-0 c.deref.result.now
    c.args.program.now.functions.items (map call_of c.args.calls.now) c.args.program.now.kernel
    c.deref.ensures.value c.in_ok-is_private_over.ensures)
    (sym c.if-branch-3.false ∙ c.in_ok-is_too_deep.ensures)
    (sym c.if-is_local_over.true ∙
    local_test c.is_local_over.result c.deref-2.result.now c.args.program.now.functions.items
    c.args.program.now.kernel c.deref-2.ensures.value c.is_local_over.ensures)

pub returns : goal.returns
returns c =
    chosen_fourth (sized_of (view c.args.unit.now) (map call_of c.args.calls.now) c.args.program.now) _
    (sym c.if-branch.false ∙ c.in_ok-is_too_large.ensures)
    (sym c.if-branch-2.false ∙ private_test c.in_ok-is_private_over.field-0 c.deref.result.now
    c.args.program.now.functions.items (map call_of c.args.calls.now) c.args.program.now.kernel
    c.deref.ensures.value c.in_ok-is_private_over.ensures)
    (sym c.if-branch-3.false ∙ c.in_ok-is_too_deep.ensures)
    (sym c.if-is_local_over.false ∙
    local_test c.is_local_over.result c.deref-2.result.now c.args.program.now.functions.items
    c.args.program.now.kernel c.deref-2.ensures.value c.is_local_over.ensures)
