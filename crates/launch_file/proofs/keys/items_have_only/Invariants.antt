use Rattle.std.proofs.Common.{◌≡◌, map, drop}
use Rattle.toml.specs.View.{items_view}
use Rattle.launch_file.specs.Keys.{has_only, each_passes}
use Rattle.launch_file.proofs.keys.items_have_only.Given as goal

abbrev pub invariant-loop-value : goal.invariant-loop-value
invariant-loop-value l = each_passes (has_only (map (λ name. name.now) l.names)) (items_view l.items) ≡
    each_passes (has_only (map (λ name. name.now) l.names)) (items_view (drop l.value-index l.items))
