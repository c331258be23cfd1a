use Rattle.std.proofs.Common.{◌≡◌, ◌++◌, drop}
use Rattle.lane_code.specs.Listing.{steps_text}
use Rattle.lane_code.proofs.listings.put_code.Given as goal

-- what is still to be put completes the text
abbrev pub invariant-loop-i : goal.invariant-loop-i
invariant-loop-i l = l.out.items ++ steps_text l.indent l.i (drop l.i l.code.steps.items) ≡ l.fn.out.items ++
    steps_text l.indent 0 l.code.steps.items
