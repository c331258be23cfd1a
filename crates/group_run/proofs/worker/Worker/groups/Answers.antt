use Rattle.std.proofs.Common.{◌≡◌, ◌∙◌, ◌+◌, ◌-◌, sym, ap, true, false}
use Rattle.cl_model.specs.View.{buffers_of, launch_of}
use Rattle.lane_code.specs.View.{plain_of}
use Rattle.lane_code.specs.Groups.{Group}
use Rattle.lane_code.specs.Run.{work_end, start_group, groups_end}
use Rattle.lane_machine.specs.Held.{Held}
use Rattle.lane_machine.specs.Machinery.{room_at}
use Rattle.lane_machine.proofs.RoomLaws.{still_for}
use Rattle.lane_machine.specs.Ends.{is_done}
use Rattle.group_run.proofs.Laws.{groups_step, run_stops, run_goes_on}
use Rattle.group_run.proofs.worker.Worker.groups.Goals as goal

pub returns-then-not-has_done-clause-end : goal.returns-then-not-has_done-clause-end
returns-then-not-has_done-clause-end c =
    let p = plain_of c.args.program.now in
    let l = launch_of c.args.launch.now in
    let count = c.groups_in_launch-count.result in
    let i = c.loop-number.number in
    let first = c.args.self.now in
    let now = c.loop-number.self in
    let old = c.loop-number.buffers in
    let new = c.node-end.new in
    let fresh : c.clear.new.self.kept ≡ start_group p l =
    ap (λ (h : Held). h.kept) c.clear.ensures.cleared ∙ c.loop-number.invariant.made in
    let ran =
    ap (λ (g : Group). work_end p l i p.top now.turns g (buffers_of old)) (sym fresh) ∙ c.node-end.ensures.end in
    let stopped : is_done c.node-end.result ≡ false = cc (c.has_done.ensures) in
    sym (ap (λ k. groups_end p l 0 k first.turns (buffers_of c.args.buffers.now)) c.groups_in_launch-count.ensures)
    ∙ sym c.loop-number.invariant.same
    ∙ groups_step p l i count now.turns (buffers_of old) c.loop-number-test.true
    ∙ run_stops (work_end p l i p.top now.turns (start_group p l) (buffers_of old)) c.node-end.result new.self.turns
    new.self.group.kept (buffers_of new.buffers) (groups_end p l (i + 1) (count - (i + 1))) ran stopped

pub returns-then-not-has_done-clause-room : goal.returns-then-not-has_done-clause-room
returns-then-not-has_done-clause-room c =
    let width = c.args.program.now.width in
    still_for (room_at width c.loop-number.self.machine) (room_at width c.node-end.new.self.machine)
    c.node-end.ensures.room (plain_of c.args.program.now).top c.loop-number.invariant.room

pub loop-number-preserved : goal.loop-number-preserved
loop-number-preserved c =
    let p = plain_of c.args.program.now in
    let l = launch_of c.args.launch.now in
    let width = c.args.program.now.width in
    let count = c.groups_in_launch-count.result in
    let i = c.loop-number.number in
    let now = c.loop-number.self in
    let old = c.loop-number.buffers in
    let new = c.node-end.new in
    let fresh : c.clear.new.self.kept ≡ start_group p l =
    ap (λ (h : Held). h.kept) c.clear.ensures.cleared ∙ c.loop-number.invariant.made in
    let ran =
    ap (λ (g : Group). work_end p l i p.top now.turns g (buffers_of old)) (sym fresh) ∙ c.node-end.ensures.end in
    let done : is_done c.node-end.result ≡ true = cc (c.has_done.ensures) in
    record {
      same =
          sym (run_goes_on (work_end p l i p.top now.turns (start_group p l) (buffers_of old)) c.node-end.result
          new.self.turns new.self.group.kept (buffers_of new.buffers) (groups_end p l (i + 1) (count - (i + 1)))
          ran done)
          ∙ sym (groups_step p l i count now.turns (buffers_of old) c.loop-number-test.true)
          ∙ c.loop-number.invariant.same;
      made = c.node-end.ensures.stands.made;
      room = still_for (room_at width now.machine) (room_at width new.self.machine) c.node-end.ensures.room p.top
          c.loop-number.invariant.room;
    }
