use Rattle.std.proofs.Common.{◌≡◌}
use Rattle.cl_token.specs.Places.{place_at}
use Rattle.cl_token.proofs.place.advance.Given as goal

abbrev pub invariant-loop-index : goal.invariant-loop-index
invariant-loop-index l = l.place ≡ place_at l.source l.index
