use Rattle.std.proofs.Common.{◌≡◌, drop}
use Rattle.std.specs.List.{list_any}
use Rattle.launch_file.specs.Refusals.{is_named}
use Rattle.launch_file.proofs.settle.has_name.Given as goal

abbrev pub invariant-loop-buffer : goal.invariant-loop-buffer
invariant-loop-buffer l =
    list_any (is_named l.name) l.buffers ≡ list_any (is_named l.name) (drop l.buffer-index l.buffers)
