use Rattle.std.specs.Prelude.{◌||◌, false, slice_index_or}
use Rattle.regions.proofs.Sets.{Halfway}
use Rattle.regions.proofs.living.unite.Given as goal

abbrev pub invariant-loop-i : goal.invariant-loop-i
invariant-loop-i l = Halfway l.fn.set l.set (λ c live. live || slice_index_or l.other c false) l.i
