use Rattle.regions.specs.Living.{through}
use Rattle.regions.proofs.Sets.{Halfway}
use Rattle.regions.proofs.living.pass.Given as goal

abbrev pub invariant-loop-i : goal.invariant-loop-i
invariant-loop-i l = Halfway l.fn.set l.set (through l.lines.dead.items l.lines.live.items) l.i
