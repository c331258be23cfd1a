use Rattle.std.proofs.Common.{◌≤◌, length, drop}
use Rattle.kir.specs.Listed.{lines_of}
use Rattle.regions.specs.Living.{IsPassing}
use Rattle.regions.proofs.living.+live.Given as goal

abbrev pub invariant-pass_lines-loop-i : goal.invariant-pass_lines-loop-i
invariant-pass_lines-loop-i l =
    record {
      within : l.i ≤ length l.lines;
      passing : IsPassing l.cells (lines_of (drop l.i l.lines)) l.passing.dead.items l.passing.live.items;
    }

abbrev pub decreases-pass_lines-loop-i : goal.decreases-pass_lines-loop-i
decreases-pass_lines-loop-i l = l.i
