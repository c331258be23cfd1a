use Rattle.std.proofs.Common.{◌≡◌, ◌+◌, take, min}
use Rattle.std.specs.Prelude.{sum}
use Rattle.cl_model.specs.Objects.{local_arguments}
use Rattle.wg_top.proofs.launches.has_room.Given as goal

abbrev pub invariant-loop-own : goal.invariant-loop-own
invariant-loop-own l = l.bytes ≡ min (sum (take l.own-index l.locals)) 65537

abbrev pub invariant-loop-k : goal.invariant-loop-k
invariant-loop-k l = l.bytes ≡ min (sum l.fn.locals + sum (local_arguments (take l.k l.args))) 65537
