use Rattle.std.proofs.Common.{◌≡◌, drop}
use Rattle.cl_scope.proofs.Trees.{in_front}
use Rattle.cl_short_vec.specs.Types as spec
use Rattle.cl_short_vec.proofs.selections.named.Given as goal

abbrev pub invariant-loop-byte : goal.invariant-loop-byte
invariant-loop-byte l =
    spec.named l.digits l.bytes ≡ in_front l.list.items (spec.named l.digits (drop l.byte-index l.bytes))
