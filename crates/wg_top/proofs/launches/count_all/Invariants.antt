use Rattle.std.proofs.Common.{◌≡◌, ◌≤◌, ◌*◌, map, take}
use Rattle.cl_model.specs.View.{launch_of}
use Rattle.wg_top.specs.Launches.{all_groups, all_items}
use Rattle.wg_top.proofs.launches.count_all.Given as goal

abbrev pub invariant-loop-k : goal.invariant-loop-k
invariant-loop-k l = record {
  groups : l.groups ≡ all_groups (map launch_of (take l.k l.launches));
  items : l.items ≡ all_items (map launch_of (take l.k l.launches));
  few_groups : l.groups ≤ l.k * 16777216;
  few_items : l.items ≤ l.k * 16777216;
}
