use Rattle.std.proofs.Common.{◌≡◌, map}
use Rattle.toml.specs.View.{members_view}
use Rattle.launch_file.specs.Keys.{has_only}
use Rattle.launch_file.proofs.keys.has_only.Given as goal

abbrev pub invariant-loop-key : goal.invariant-loop-key
invariant-loop-key l = has_only (map (λ name. name.now) l.names) (members_view l.table.entries) ≡
    has_only (map (λ name. name.now) l.names) (members_view l.key-iterator)
