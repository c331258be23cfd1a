use Rattle.std.proofs.Common.{◌++◌, ◌-◌, map, sym, ◌∙◌, append-nil}
use Rattle.std.proofs.lemmas.List.{at_drop_all}
use Rattle.std.specs.List.{flat_map}
use Rattle.cl_model.specs.View.{program_of}
use Rattle.ctx_plan_text.specs.Entries.{variable_of}
use Rattle.ctx_plan_text.proofs.Inlines.{entry_variables, function_behind}
use Rattle.ctx_plan_text.proofs.variables.+put_function.Goals as goal

pub returns : goal.returns
returns t c =
    let program = program_of c.args.program.now in
    let E = entry_variables program (c.args.depth - 1) c.args.calls.now c.args.function in
    let new = map variable_of c.loop-entry.list.items in
    let items = c.deref-entry-items.result.now in
    function_behind program c.args.depth c.args.calls.now c.args.function items
    (map variable_of c.args.list.now.items) new c.if-depth-eq0.false (c.deref-entry-items.ensures.value ∙
    c.in_ok-entries.ensures)
    (sym (append-nil new) ∙
    (sym (at_drop_all (λ l. new ++ flat_map E l) items c.loop-entry.entry-index c.loop-entry-test.false) ∙
    c.loop-entry.invariant))
