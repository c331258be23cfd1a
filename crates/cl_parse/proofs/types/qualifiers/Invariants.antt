use Rattle.std.proofs.Common.{◌≡◌, length}
use Rattle.cl_read.specs.Gives.{with_front}
use Rattle.cl_read.specs.Members.{members}
use Rattle.cl_read.specs.Reading.{qualifiers}
use Rattle.cl_parse.proofs.types.qualifiers.Given as goal

abbrev pub invariant-members : goal.invariant-members
invariant-members l = with_front (members l.list) (qualifiers l.behind_star l.rest) ≡ qualifiers l.behind_star l.items

abbrev pub decreases-members : goal.decreases-members
decreases-members l = length l.rest
