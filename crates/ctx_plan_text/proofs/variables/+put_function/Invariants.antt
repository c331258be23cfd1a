use Rattle.std.proofs.Common.{◌≡◌, ◌++◌, ◌-◌, drop, map}
use Rattle.std.specs.List.{flat_map}
use Rattle.cl_model.specs.View.{program_of}
use Rattle.ctx_plan_text.specs.Entries.{variable_of}
use Rattle.ctx_plan_text.proofs.Inlines.{entry_variables}
use Rattle.ctx_plan_text.proofs.variables.+put_function.Given as goal

abbrev pub decreases-put_function : goal.decreases-put_function
decreases-put_function l = l.depth

-- what is still to be put completes the variables
abbrev pub invariant-loop-entry : goal.invariant-loop-entry
invariant-loop-entry l =
    map variable_of l.list.items ++ flat_map (entry_variables (program_of l.program) (l.depth - 1) l.calls l.function)
    (drop l.entry-index l.entry-items)
    ≡ map variable_of l.fn.list.items ++
    flat_map (entry_variables (program_of l.program) (l.depth - 1) l.calls l.function) l.entry-items
