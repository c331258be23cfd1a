use Rattle.std.proofs.Common.{◌≡◌, length}
use Rattle.cl_read.specs.Gives.{with_front}
use Rattle.cl_read.specs.Members.{members}
use Rattle.std.proofs.Common.{true}
use Rattle.cl_read.specs.Reading.{readers, all_of, each, item_of}
use Rattle.cl_parse.proofs.unit.list_items.Given as goal

abbrev pub invariant-members : goal.invariant-members
invariant-members l = with_front (members l.list)
    (all_of (λ j. true) (each (item_of (readers 252) (readers 253) (readers 254))) l.rest) ≡
    all_of (λ j. true) (each (item_of (readers 252) (readers 253) (readers 254))) l.items

abbrev pub decreases-members : goal.decreases-members
decreases-members l = length l.rest
