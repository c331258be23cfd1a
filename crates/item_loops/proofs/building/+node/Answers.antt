use Rattle.std.proofs.Common.{◌∙◌, sym, ap}
use Rattle.kir.specs.View.{kernel_of}
use Rattle.lane_code.specs.Program.{Work, Seq}
use Rattle.mask_lower.specs.Lowered.{region_code}
use Rattle.item_loops.specs.Built.{in_order}
use Rattle.item_loops.proofs.BuiltLaws.{seq_works, seq_built}
use Rattle.std.proofs.Common.{List}
use Rattle.item_loops.proofs.building.+node.Goals as goal

pub build_node-returns-in_ok-nodes-in-Seq : goal.build_node-returns-in_ok-nodes-in-Seq
build_node-returns-in_ok-nodes-in-Seq t c =
    let code = region_code (kernel_of c.args.kernel.now) c.args.plan.now.homes.items in
    seq_works c.in_ok-nodes-in-Seq.nodes
    ∙ ap (λ (ws : List Work). Seq (in_order ws)) c.in_ok-nodes-in-Seq.ensures
    ∙ sym (seq_built code c.args.tree.now c.in-Seq.trees c.in-Seq.is)
