use Rattle.std.proofs.Common.{◌≡◌, length}
use Rattle.cl_tree.specs.declared.terminal.Terminal.TheVariants as terminals
use Rattle.cl_read.specs.Gives.{with_front}
use Rattle.cl_read.specs.Members.{members}
use Rattle.cl_read.specs.Reading.{is, readers, all_of, element_of}
use Rattle.cl_parse.proofs.declaration.elements.Given as goal

abbrev pub invariant-members : goal.invariant-members
invariant-members l = with_front (members l.list) (all_of (is terminals.Comma) (element_of (readers l.room)) l.rest) ≡
    all_of (is terminals.Comma) (element_of (readers l.room)) l.items

abbrev pub decreases-members : goal.decreases-members
decreases-members l = length l.rest
