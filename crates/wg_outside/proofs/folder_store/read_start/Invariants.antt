use Rattle.std.proofs.Common.{◌≡◌, ◌+◌, vec_len}
use Rattle.wg_outside.proofs.folder_store.read_start.Given as goal

abbrev pub invariant-loop : goal.invariant-loop
invariant-loop g l = vec_len l.bytes + l.left ≡ l.most
