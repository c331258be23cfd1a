use Rattle.std.proofs.Common.{◌≡◌, ◌++◌, drop}
use Rattle.cl_model.specs.Calls.{calls_among}
use Rattle.cl_model.specs.View.{listed_expressions}
use Rattle.cl_model.specs.Listed.{listed_arguments}
use Rattle.ctx_plan_text.specs.Entries.{call_entries}
use Rattle.ctx_plan_text.proofs.outline.+calls.Given as goal

-- what is still to be put completes the entries
abbrev pub invariant-put_expressions-loop-e : goal.invariant-put_expressions-loop-e
invariant-put_expressions-loop-e l =
    l.entries.items ++ call_entries (calls_among (listed_expressions (drop l.e-index l.list))) ≡ l.fn.entries.items ++
    call_entries (calls_among (listed_expressions l.list))

abbrev pub invariant-put_arguments-loop-argument : goal.invariant-put_arguments-loop-argument
invariant-put_arguments-loop-argument l =
    l.entries.items ++ call_entries (calls_among (listed_arguments (drop l.argument-index l.list))) ≡
    l.fn.entries.items ++ call_entries (calls_among (listed_arguments l.list))
