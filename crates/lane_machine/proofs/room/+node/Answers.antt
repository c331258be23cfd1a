use Rattle.std.proofs.Common.{sym, subst}
use Rattle.lane_code.specs.declared.code.Node.{Node}
use Rattle.lane_code.specs.Program.{work_of}
use Rattle.lane_machine.specs.Room.{HasRoomFor, HasRoomForEach}
use Rattle.lane_machine.proofs.RoomLaws.{node_room, each_next, each_gone}
use Rattle.lane_machine.proofs.room.+node.Goals as goal

pub most_in-returns-in-Seq : goal.most_in-returns-in-Seq
most_in-returns-in-Seq t c = λ room h.
    let all = c.most_in_each.ensures room h in
    (all.0, node_room room c.args.node.now c.in-Seq.nodes c.in-Seq.is all.1)

pub most_in-returns-in-Vote : goal.most_in-returns-in-Vote
most_in-returns-in-Vote t c = λ room h.
    let refused = c.most_in-in-Vote.ensures room h in
    let agreed = c.most_in.ensures room refused.0 in
    let mixed = c.most-codes.ensures room agreed.0 in
    let test = c.most-in-Vote.ensures room mixed.0 in
    let yes = subst (λ (n : Node). HasRoomFor room (work_of n)) c.deref-in-Vote.ensures agreed.1 in
    let no = subst (λ (n : Node). HasRoomFor room (work_of n)) c.deref.ensures refused.1 in
    (test.0, subst (λ (n : Node). HasRoomFor room (work_of n)) (sym c.in-Vote.is) (test.1, yes, no, mixed.1))

pub most_in_each-loop-one-preserved : goal.most_in_each-loop-one-preserved
most_in_each-loop-one-preserved t c = λ room h.
    let one = c.most_in-so_far.ensures room h in
    let before = c.loop-one.invariant room one.0 in
    let nodes = c.deref-one-items.result.now in (
      before.0,
      λ rest. before.1 (each_next room nodes c.loop-one.one-index c.one-item.result c.loop-one-test.true
          c.one-item.is one.1 rest),
    )

pub most_in_each-returns : goal.most_in_each-returns
most_in_each-returns t c = λ room h.
    let all = c.loop-one.invariant room h in
    let nodes = c.deref-one-items.result.now in (
      all.0,
      subst (HasRoomForEach room) c.deref-one-items.ensures.value
          (all.1 (each_gone room nodes c.loop-one.one-index c.loop-one-test.false)),
    )
