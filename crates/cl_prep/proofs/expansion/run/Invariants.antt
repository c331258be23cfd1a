use Rattle.std.proofs.Common.{length, drop, ◌-◌, ◌≤◌}
use Rattle.cl_prep.specs.Expands.{start_state, Leads, token_limit, replacement_limit}
use Rattle.cl_prep.specs.Frames.{AreClear}
use Rattle.cl_prep.specs.Progress.{state}
use Rattle.cl_prep.specs.ScopeViews.{scope_of}
use Rattle.cl_prep.proofs.expansion.run.Given as goal

abbrev pub invariant-loop-at : goal.invariant-loop-at
invariant-loop-at l = record {
  within : l.at ≤ length l.tokens;
  led : Leads (start_state l.tokens (scope_of l.fn.scope).names) (state l.at (drop l.at l.tokens) (scope_of l.scope)
      l.out.items l.replaced);
  clear : AreClear l.marks.items;
  few : length l.out.items ≤ token_limit;
  seldom : l.replaced ≤ replacement_limit;
}

abbrev pub decreases-loop-at : goal.decreases-loop-at
decreases-loop-at l = length l.tokens - l.at
