use Rattle.std.proofs.Common.{◌≡◌, ◌++◌, option_map, drop, All}
use Rattle.toml.specs.View.{items_view}
use Rattle.launch_file.specs.Values.{buffers_of, HasTexts}
use Rattle.launch_file.proofs.values.buffers_of.Given as goal

abbrev pub invariant-loop-value : goal.invariant-loop-value
invariant-loop-value l = record {
  same : buffers_of (items_view l.items) ≡ option_map (λ more. l.list.items ++ more)
      (buffers_of (items_view (drop l.value-index l.items)));
  texts : All HasTexts l.list.items;
}
