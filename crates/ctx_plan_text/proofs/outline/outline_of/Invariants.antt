use Rattle.std.proofs.Common.{◌≡◌}
use Rattle.ctx_plan_text.specs.Entries.{parameter_entries}
use Rattle.ctx_plan_text.proofs.outline.outline_of.Given as goal

abbrev pub invariant-loop-parameter : goal.invariant-loop-parameter
invariant-loop-parameter l = l.entries.items ≡ parameter_entries l.parameter
