use Rattle.std.proofs.Common.{◌≡◌, ◌≤◌, length, take, map}
use Rattle.cl_token.specs.Places.{place_at}
use Rattle.cl_token.proofs.place.places.Given as goal

abbrev pub invariant-loop-token : goal.invariant-loop-token
invariant-loop-token l = record {
  within : l.at ≤ length l.source;
  here : l.place ≡ place_at l.source l.at;
  so_far : l.places.items ≡ map (λ t. place_at l.source t.start) (take l.token-index l.tokens);
}
