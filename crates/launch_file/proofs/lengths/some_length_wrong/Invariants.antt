use Rattle.std.proofs.Common.{◌≡◌, drop}
use Rattle.std.specs.List.{list_any}
use Rattle.launch_file.specs.Binding as spec
use Rattle.launch_file.proofs.lengths.some_length_wrong.Given as goal

abbrev pub invariant-loop-buffer : goal.invariant-loop-buffer
invariant-loop-buffer l =
    list_any spec.length_wrong l.buffers ≡ list_any spec.length_wrong (drop l.buffer-index l.buffers)
