use Rattle.regions.proofs.Walk.{Walked}
use Rattle.regions.proofs.splitting.+cut.Given as goal

abbrev pub invariant-cut_lines-loop-i : goal.invariant-cut_lines-loop-i
invariant-cut_lines-loop-i l =
    Walked l.cells l.fn.ends l.now.items l.behind.items l.lines l.i l.ending l.passing.dead.items l.passing.live.items

abbrev pub decreases-cut_lines-loop-i : goal.decreases-cut_lines-loop-i
decreases-cut_lines-loop-i l = l.i
