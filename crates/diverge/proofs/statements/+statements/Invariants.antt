use Rattle.std.proofs.Common.{◌≡◌, ◌≤◌, drop}
use Rattle.cl_model.specs.View.{function_of}
use Rattle.diverge.specs.Known.{state_of, joined, no_way}
use Rattle.cl_model.specs.Listed.{listed_arms}
use Rattle.diverge.specs.Rounds.{gone_over_arms}
use Rattle.diverge.proofs.Blocks.{forward}
use Rattle.diverge.proofs.statements.+statements.Given as goal

abbrev pub invariant-statements-loop-number : goal.invariant-statements-loop-number
invariant-statements-loop-number l = record {
  steps : forward (function_of l.own) l.at l.number l.ways l.open (drop l.number l.list) (state_of l.known) ≡
      forward (function_of l.own) l.at 0 no_way 0 l.list (state_of l.fn.known);
  within : l.open ≤ l.number;
}

abbrev pub invariant-arms-loop-arm : goal.invariant-arms-loop-arm
invariant-arms-loop-arm l = record {
  ways : joined (gone_over_arms (function_of l.own) l.at (listed_arms (drop l.arm-index l.list))
      (state_of l.known)).ways l.ways ≡
      (gone_over_arms (function_of l.own) l.at (listed_arms l.list) (state_of l.fn.known)).ways;
  state : (gone_over_arms (function_of l.own) l.at (listed_arms (drop l.arm-index l.list)) (state_of l.known)).state ≡
      (gone_over_arms (function_of l.own) l.at (listed_arms l.list) (state_of l.fn.known)).state;
}
