use Rattle.std.proofs.Common.{length, drop, ◌-◌, ◌≤◌}
use Rattle.cl_token.specs.Cuts.{CutsTo}
use Rattle.cl_token.proofs.lexer.cut.Given as goal

abbrev pub invariant-loop-at : goal.invariant-loop-at
invariant-loop-at l = record {
  within : l.at ≤ length l.source;
  cut : CutsTo l.source l.at l.first (drop l.at l.source) l.tokens.items;
}

abbrev pub decreases-loop-at : goal.decreases-loop-at
decreases-loop-at l = length l.source - l.at
