-- An example stays ready where its group keeps as much as it did.
use Rattle.std.proofs.Common.{◌≡◌, ◌∙◌}
use Rattle.cl_model.specs.declared.launch.Launch.{Launch}
use Rattle.lane_code.specs.declared.program.GroupProgram.{GroupProgram}
use Rattle.lane_flat.specs.declared.tree.FlatNode.{FlatNode}
use Rattle.lane_machine.specs.Held.{Held}
use Rattle.lane_machine.specs.Machinery.{Machinery}
use Rattle.lane_machine.specs.Zeroed.{zeroed}
use Rattle.examples_machine.specs.Examples.{IsReady}

pub ready_again : (p : GroupProgram) (f : FlatNode) (l : Launch) (m : Machinery) (before after : Held) →
    IsReady p f l m before → zeroed after.kept ≡ zeroed before.kept → after.number ≡ 0 → IsReady p f l m after
ready_again p f l m before after ready same number = record {
  launched = ready.launched;
  parameters = ready.parameters;
  arrays = ready.arrays;
  made = same ∙ ready.made;
  first = number;
  room = ready.room;
  flat = ready.flat;
}
