use Rattle.std.proofs.Common.{◌≡◌, ◌++◌, option_map, drop, map, All}
use Rattle.toml.specs.View.{items_view}
use Rattle.launch_file.specs.Texts.{part_of}
use Rattle.launch_file.specs.Values.{parts_of, HasOneLength}
use Rattle.launch_file.proofs.parts.parts_of.Given as goal

abbrev pub invariant-loop-value : goal.invariant-loop-value
invariant-loop-value l = record {
  same : parts_of (items_view l.items) ≡ option_map (λ more. map part_of l.list.items ++ more)
      (parts_of (items_view (drop l.value-index l.items)));
  lengths : All (λ p. HasOneLength (part_of p)) l.list.items;
}
