use Rattle.std.proofs.Common.{◌≡◌, true, drop, ◌+◌, ◌*◌}
use Rattle.cl_model.specs.View.{buffers_of, launch_of}
use Rattle.lane_code.specs.View.{plain_of}
use Rattle.lane_code.specs.Program.{work_of, code_of, names_of}
use Rattle.lane_code.specs.Parts.{nodes_fit}
use Rattle.lane_code.specs.Run.{items_end, work_end, rounds}
use Rattle.lane_flat.specs.Trees.{AreFlatNodes}
use Rattle.lane_machine.specs.Room.{HasRoomForEach, IsNoLess}
use Rattle.lane_machine.specs.Machinery.{room_at}
use Rattle.lane_machine.specs.Ends.{IsHeldFor}
use Rattle.group_run.specs.Nodes.{nodes_end}
use Rattle.group_run.proofs.NodeLaws.{node_weight, list_weight}
use Rattle.group_run.proofs.worker.Worker.+node.Given as goal

-- the nodes still to be done lead to the end of all
abbrev pub invariant-nodes-loop-i : goal.invariant-nodes-loop-i
invariant-nodes-loop-i l = record {
  same : nodes_end (plain_of l.program) (launch_of l.launch) l.number (drop l.i l.nodes.items) l.self.turns
      l.self.group.kept (buffers_of l.buffers)
      ≡ nodes_end (plain_of l.program) (launch_of l.launch) l.number l.nodes.items l.fn.self.turns l.fn.self.group.kept
      (buffers_of l.fn.buffers);
  fits : nodes_fit (names_of (plain_of l.program)) (drop l.i l.nodes.items) ≡ true;
  each : HasRoomForEach (room_at l.program.width l.fn.self.machine) (drop l.i l.nodes.items);
  stands : IsHeldFor (plain_of l.program) (launch_of l.launch) l.number l.self.group;
  room : IsNoLess (room_at l.program.width l.fn.self.machine) (room_at l.program.width l.self.machine);
  flat : AreFlatNodes (drop l.i l.nodes.items) (drop l.i l.flats.items);
}

-- the rounds from here on lead to the end of the loop
abbrev pub invariant-rounds-loop-test : goal.invariant-rounds-loop-test
invariant-rounds-loop-test l = record {
  same : rounds (work_end (plain_of l.program) (launch_of l.launch) l.number (work_of l.test.value))
      (work_end (plain_of l.program) (launch_of l.launch) l.number (work_of l.body.value))
      (items_end (plain_of l.program) (launch_of l.launch) l.number (code_of l.rest)) l.most l.self.turns
      l.self.group.kept (buffers_of l.buffers)
      ≡ work_end (plain_of l.program) (launch_of l.launch) l.number (work_of l.node) l.fn.self.turns
      l.fn.self.group.kept (buffers_of l.fn.buffers);
  stands : IsHeldFor (plain_of l.program) (launch_of l.launch) l.number l.self.group;
  room : IsNoLess (room_at l.program.width l.fn.self.machine) (room_at l.program.width l.self.machine);
}

abbrev pub decreases-rounds-loop-test : goal.decreases-rounds-loop-test
decreases-rounds-loop-test l = l.most

-- the work, and which function does it
abbrev pub decreases-node : goal.decreases-node
decreases-node l = 4 * node_weight l.node.now + 2

abbrev pub decreases-part : goal.decreases-part
decreases-part l = 4 * node_weight l.node.now + 3

abbrev pub decreases-rounds : goal.decreases-rounds
decreases-rounds l = 4 * node_weight l.node.now + 1

abbrev pub decreases-iteration : goal.decreases-iteration
decreases-iteration l = 4 * node_weight l.body.now + 4

abbrev pub decreases-nodes : goal.decreases-nodes
decreases-nodes l = 4 * list_weight l.nodes.now.items + 4
