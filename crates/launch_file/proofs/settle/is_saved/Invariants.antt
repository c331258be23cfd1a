use Rattle.std.proofs.Common.{◌≡◌, drop}
use Rattle.std.specs.List.{list_any}
use Rattle.launch_file.specs.Refusals.{is_this}
use Rattle.launch_file.proofs.settle.is_saved.Given as goal

abbrev pub invariant-loop-buffer : goal.invariant-loop-buffer
invariant-loop-buffer l = list_any (λ b. is_this l.name b.save) l.buffers ≡ list_any (λ b. is_this l.name b.save)
    (drop l.buffer-index l.buffers)
