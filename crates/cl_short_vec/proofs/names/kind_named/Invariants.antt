use Rattle.std.proofs.Common.{◌≡◌, ◌≤◌, take, length}
use Rattle.cl_short_vec.specs.View.{names_of}
use Rattle.cl_short_vec.proofs.names.kind_named.Given as goal

abbrev pub invariant-loop-index : goal.invariant-loop-index
invariant-loop-index l =
    record {
      within : l.index ≤ length l.names;
      front : names_of (take l.index l.names) l.name ≡ names_of l.names l.name;
    }

abbrev pub decreases-loop-index : goal.decreases-loop-index
decreases-loop-index l = l.index
