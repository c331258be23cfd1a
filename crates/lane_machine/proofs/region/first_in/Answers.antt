use Rattle.std.proofs.Common.{arith}
use Rattle.lane_machine.proofs.SizeLaws.{chunk_starts}
use Rattle.lane_machine.proofs.region.first_in.Goals as goal

pub overflow_mul-result : goal.overflow_mul-result
overflow_mul-result g c = let e =
    chunk_starts c.args.size g.row.W c.args.chunk c.requires.lanes c.requires.chunk in omega (arith, e, c.requires.few)

pub returns-clause-below : goal.returns-clause-below
returns-clause-below g c = chunk_starts c.args.size g.row.W c.args.chunk c.requires.lanes c.requires.chunk
