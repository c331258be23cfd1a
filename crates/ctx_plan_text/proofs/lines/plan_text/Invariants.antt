use Rattle.std.proofs.Common.{◌≡◌, ◌++◌, drop, map}
use Rattle.std.specs.List.{flat_map}
use Rattle.kir.specs.Listed.{cell_of}
use Rattle.ctx_plan_text.specs.Entries.{variable_of}
use Rattle.ctx_plan_text.specs.Lines.{line_among}
use Rattle.ctx_plan_text.proofs.lines.plan_text.Given as goal

-- what is still to be put completes the lines
abbrev pub invariant-loop-variable : goal.invariant-loop-variable
invariant-loop-variable l =
    l.text.items ++ flat_map (λ v. line_among l.plan.homes.items v 0 (map cell_of l.kernel.cells.items))
    (map variable_of (drop l.variable-index l.variable-items)) ≡
    flat_map (λ v. line_among l.plan.homes.items v 0 (map cell_of l.kernel.cells.items))
    (map variable_of l.variable-items)
