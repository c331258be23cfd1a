use Rattle.std.proofs.Common.{◌≡◌, map, take}
use Rattle.cl_model.proofs.launch.Buffers.copy.Given as goal

abbrev pub invariant-loop-bytes : goal.invariant-loop-bytes
invariant-loop-bytes l = map (λ v. v.items) l.list.items ≡ map (λ v. v.items) (take l.bytes-index l.bytes-items)
