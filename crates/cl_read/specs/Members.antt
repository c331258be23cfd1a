-- Lists of parts that are being read, as reading sees them.
use Rattle.cl_tree.specs.Syntax.{views}
use Rattle.cl_read.specs.declared.members.Members.{Members}
use Rattle.cl_read.specs.Gives.{spots}
use Rattle.cl_read.specs.Reading.{Listing}

abbrev pub members : Members → Listing
members m = record { own = spots m.own.items; parts = views m.parts.trees.items }
