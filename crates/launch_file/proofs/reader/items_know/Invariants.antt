use Rattle.std.proofs.Common.{◌≡◌, drop}
use Rattle.toml.specs.View.{items_view}
use Rattle.launch_file.specs.Keys.{each_passes}
use Rattle.launch_file.specs.Refusals.{knows_launch}
use Rattle.launch_file.proofs.reader.items_know.Given as goal

abbrev pub invariant-loop-value : goal.invariant-loop-value
invariant-loop-value l =
    each_passes knows_launch (items_view l.items) ≡ each_passes knows_launch (items_view (drop l.value-index l.items))
