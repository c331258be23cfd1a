use Rattle.std.proofs.Common.{arith}
use Rattle.lane_machine.proofs.queries.size_in.Goals as goal

pub returns-in-0-clause-some : goal.returns-in-0-clause-some
returns-in-0-clause-some c = let s = c.requires.sizes.some 0 in omega (arith, s)

pub returns-in-1-clause-some : goal.returns-in-1-clause-some
returns-in-1-clause-some c = let s = c.requires.sizes.some 1 in omega (arith, s)

pub returns-in_default-clause-some : goal.returns-in_default-clause-some
returns-in_default-clause-some c = let s = c.requires.sizes.some 2 in omega (arith, s)
