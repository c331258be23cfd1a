use Rattle.std.proofs.Common.{◌≡◌, ◌++◌, option_map, All}
use Rattle.toml.specs.View.{members_view}
use Rattle.launch_file.specs.Values.{defines_of, HasNumber}
use Rattle.launch_file.proofs.values.defines_of.Given as goal

abbrev pub invariant-loop-key : goal.invariant-loop-key
invariant-loop-key l = record {
  same : defines_of (members_view l.table.entries) ≡ option_map (λ more. l.list.items ++ more)
      (defines_of (members_view l.key-iterator));
  numbers : All HasNumber l.list.items;
}
