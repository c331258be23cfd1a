use Rattle.std.proofs.Common.{◌≡◌, drop, not, cond, true}
use Rattle.std.specs.List.{list_any}
use Rattle.lane_machine.proofs.group_state.some_yes.Given as goal

-- what was found, with the votes still to be looked at, decides
abbrev pub invariant-loop-vote : goal.invariant-loop-vote
invariant-loop-vote l =
    cond l.found true (list_any (λ v. v) (drop l.vote-index l.votes)) ≡ list_any (λ v. v) l.votes
