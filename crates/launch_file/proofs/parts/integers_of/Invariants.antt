use Rattle.std.proofs.Common.{◌≡◌, ◌++◌, option_map, drop}
use Rattle.toml.specs.View.{items_view}
use Rattle.launch_file.specs.Values.{integers_of}
use Rattle.launch_file.proofs.parts.integers_of.Given as goal

abbrev pub invariant-loop-value : goal.invariant-loop-value
invariant-loop-value l = integers_of (items_view l.items) ≡ option_map (λ more. l.list.items ++ more)
    (integers_of (items_view (drop l.value-index l.items)))
