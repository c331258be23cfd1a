use Rattle.std.proofs.Common.{◌≡◌, ◌++◌, option_map, drop}
use Rattle.toml.specs.View.{items_view}
use Rattle.launch_file.specs.Values.{args_of}
use Rattle.launch_file.proofs.values.args_of.Given as goal

abbrev pub invariant-loop-value : goal.invariant-loop-value
invariant-loop-value l = args_of (items_view l.items) ≡ option_map (λ more. l.list.items ++ more)
    (args_of (items_view (drop l.value-index l.items)))
