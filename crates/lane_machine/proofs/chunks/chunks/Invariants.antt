use Rattle.std.proofs.Common.{◌≡◌, ◌-◌}
use Rattle.cl_model.specs.View.{buffers_of, launch_of}
use Rattle.lane_code.specs.View.{plain_of}
use Rattle.lane_code.specs.Program.{code_of}
use Rattle.lane_code.specs.Run.{chunks_end}
use Rattle.lane_machine.specs.Room.{IsNoLess}
use Rattle.lane_machine.specs.Ends.{IsHeldFor}
use Rattle.lane_machine.proofs.chunks.chunks.Given as goal

-- the chunks still to be done lead to the end of all
abbrev pub invariant-loop-number : goal.invariant-loop-number
invariant-loop-number g l =
    let p = plain_of l.fn.task.program.now in
    let launch = launch_of l.fn.task.launch.now in
    let code = code_of l.fn.task.code.now in record {
      same : chunks_end p launch l.fn.group.number code l.number (l.count - l.number) l.turns l.group.kept
          (buffers_of l.buffers)
          ≡ chunks_end p launch l.fn.group.number code 0 l.count l.fn.turns l.fn.group.kept (buffers_of l.fn.buffers);
      stands : IsHeldFor p launch l.fn.group.number l.group;
      room : IsNoLess l.fn.r.room l.r.room;
    }
