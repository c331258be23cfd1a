use Rattle.std.proofs.Common.{◌≡◌, length}
use Rattle.cl_read.specs.Gives.{with_front}
use Rattle.cl_read.specs.Members.{members}
use Rattle.cl_read.specs.Starts.{starts_head}
use Rattle.cl_read.specs.Reading.{readers, all_of, each, head_of}
use Rattle.cl_parse.proofs.unit.heads.Given as goal

abbrev pub invariant-members : goal.invariant-members
invariant-members l = with_front (members l.list)
    (all_of starts_head (each (head_of (readers 252) (readers 253) (readers 254))) l.rest) ≡
    all_of starts_head (each (head_of (readers 252) (readers 253) (readers 254))) l.items

abbrev pub decreases-members : goal.decreases-members
decreases-members l = length l.rest
