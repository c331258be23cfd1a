use Rattle.std.proofs.Common.{◌≡◌, ◌-◌}
use Rattle.cl_model.specs.View.{buffers_of, launch_of}
use Rattle.lane_code.specs.View.{plain_of}
use Rattle.lane_code.specs.Run.{groups_end}
use Rattle.lane_machine.specs.Zeroed.{IsGroupOf}
use Rattle.lane_machine.specs.Room.{HasRoomFor}
use Rattle.lane_machine.specs.Machinery.{room_at}
use Rattle.group_run.proofs.worker.Worker.groups.Given as goal

-- the groups still to be run lead to the end of all
abbrev pub invariant-loop-number : goal.invariant-loop-number
invariant-loop-number l = record {
  same : groups_end (plain_of l.program) (launch_of l.launch) l.number (l.count - l.number) l.self.turns
      (buffers_of l.buffers)
      ≡ groups_end (plain_of l.program) (launch_of l.launch) 0 l.count l.fn.self.turns (buffers_of l.fn.buffers);
  made : IsGroupOf (plain_of l.program) (launch_of l.launch) l.self.group.kept;
  room : HasRoomFor (room_at l.program.width l.self.machine) (plain_of l.program).top;
}
