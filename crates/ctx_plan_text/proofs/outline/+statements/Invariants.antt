use Rattle.std.proofs.Common.{◌≡◌, ◌++◌, drop}
use Rattle.cl_model.specs.View.{listed_statements}
use Rattle.cl_model.specs.Listed.{listed_arms}
use Rattle.ctx_plan_text.specs.Entries.{all_entries, arm_entries}
use Rattle.ctx_plan_text.proofs.outline.+statements.Given as goal

-- what is still to be put completes the entries
abbrev pub invariant-put_statements-loop-s : goal.invariant-put_statements-loop-s
invariant-put_statements-loop-s l = l.entries.items ++ all_entries (listed_statements (drop l.s-index l.list)) ≡
    l.fn.entries.items ++ all_entries (listed_statements l.list)

abbrev pub invariant-put_arms-loop-arm : goal.invariant-put_arms-loop-arm
invariant-put_arms-loop-arm l = l.entries.items ++ arm_entries (listed_arms (drop l.arm-index l.arms)) ≡
    l.fn.entries.items ++ arm_entries (listed_arms l.arms)
