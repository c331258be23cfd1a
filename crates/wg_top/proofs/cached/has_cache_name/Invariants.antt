use Rattle.std.proofs.Common.{take}
use Rattle.wg_top.specs.Causes.{NoCacheName}
use Rattle.wg_top.proofs.cached.has_cache_name.Given as goal

abbrev pub invariant-loop-buffer : goal.invariant-loop-buffer
invariant-loop-buffer l = NoCacheName (take l.buffer-index l.buffers)
