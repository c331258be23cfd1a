use Rattle.std.proofs.Common.{◌≡◌, ◌++◌, drop, map}
use Rattle.kir.specs.View.{kernel_of}
use Rattle.lane_code.specs.Program.{work_of}
use Rattle.mask_lower.specs.Lowered.{region_code}
use Rattle.item_loops.specs.Built.{built_work}
use Rattle.item_loops.proofs.building.+node.Given as goal

-- with the trees still to come they are the nodes of all
abbrev pub invariant-build_nodes-loop-tree : goal.invariant-build_nodes-loop-tree
invariant-build_nodes-loop-tree l =
    map work_of l.nodes.items ++ map (built_work (region_code (kernel_of l.kernel) l.plan.homes.items))
    (drop l.tree-index l.tree-items)
    ≡ map (built_work (region_code (kernel_of l.kernel) l.plan.homes.items)) l.tree-items
