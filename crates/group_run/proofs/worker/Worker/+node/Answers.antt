use Rattle.std.proofs.Common.{◌≡◌, ◌∙◌, ◌+◌, ◌-◌, ◌<◌, refl, sym, ap, subst, subst₂, arith, true, false, drop, List, length}
use Rattle.cl_model.specs.View.{buffers_of, launch_of}
use Rattle.lane_code.specs.declared.code.Node.{Node}
use Rattle.lane_code.specs.View.{plain_of}
use Rattle.lane_code.specs.Parts.{nodes_fit}
use Rattle.lane_code.specs.Program.{work_of, code_of, names_of, work_fits}
use Rattle.lane_code.specs.Run.{Doing, Agreed, Refused, Mixed, verdict, work_end, items_end, rounds}
use Rattle.lane_code.proofs.NodeRows.{node_seq_fits}
use Rattle.lane_flat.specs.declared.tree.FlatNode.{FlatNode}
use Rattle.lane_flat.specs.Trees.{flats_of, IsFlatWork}
use Rattle.lane_flat.proofs.Nodes.{seq_to}
use Rattle.lane_machine.specs.Machinery.{room_at}
use Rattle.lane_machine.specs.Room.{HasRoomFor, HasRoomForEach, IsNoLess}
use Rattle.lane_machine.specs.Votes.{said}
use Rattle.lane_machine.specs.Ends.{is_done, IsHeldFor}
use Rattle.group_run.specs.Nodes.{nodes_end, turn_end}
use Rattle.lane_machine.proofs.ChunkLaws.{stops, goes_on, no_less_then}
use Rattle.group_run.proofs.Laws.{no_less_same}
use Rattle.group_run.proofs.NodeLaws.{vote_fits, loop_fits, fits_here, room_here, flat_here, drop_one}
use Rattle.group_run.proofs.NodeLaws.{each_room, seq_does, both_here}
use Rattle.group_run.proofs.NodeLaws.{first_fits, rest_fits, asked, rounds_ask, asked_no, asked_mixed}
use Rattle.group_run.proofs.NodeLaws.{asked_yes, loop_first, loop_later, node_weight, seq_weight, weight_at}
use Rattle.cl_model.specs.declared.launch.Buffers.{Buffers}
use Rattle.group_run.specs.declared.worker.Worker.{Worker}
use Rattle.group_run.proofs.worker.Worker.+node.Goals.{rounds-then-not-test_first+else-not-has_done}
use Rattle.group_run.proofs.worker.Worker.+node.Goals.{rounds-else-not-test_first}
use Rattle.group_run.proofs.worker.Worker.+node.Goals as goal

pub node-nodes-requires : goal.node-nodes-requires
node-nodes-requires t c =
    let names = names_of (plain_of c.args.program.now) in
    let room = room_at c.args.program.now.width c.args.self.now.machine in (
      omega (arith, seq_weight c.args.node.now c.in-Seq.nodes c.in-Seq.is),
      (
        c.requires.stands,
        (
          sym (node_seq_fits names c.args.node.now c.in-Seq.nodes c.in-Seq.is) ∙ c.requires.fits,
          (
            each_room room c.args.node.now c.in-Seq.nodes c.in-Seq.is c.requires.room,
            seq_to c.args.node.now c.in-Seq.nodes c.args.flat.now c.in-Seq-flat.flats c.in-Seq.is c.in-Seq-flat.is
                c.requires.flat,
          ),
        ),
      ),
    )

pub node-returns-in-Seq-flat-clause-end : goal.node-returns-in-Seq-flat-clause-end
node-returns-in-Seq-flat-clause-end t c =
    let a = c.args in
    seq_does (plain_of a.program.now) (launch_of a.launch.now) a.number a.node.now c.in-Seq.nodes a.self.now.turns
    a.self.now.group.kept (buffers_of a.buffers.now) c.in-Seq.is
    ∙ c.nodes.ensures.end

pub node-node-requires : goal.node-node-requires
node-node-requires t c =
    let names = names_of (plain_of c.args.program.now) in
    let v = c.in-Vote in
    let before = room_at c.args.program.now.width c.args.self.now.machine in
    let after = room_at c.args.program.now.width c.items-end.new.self.machine in
    let fits = vote_fits names (code_of v.test) (work_of v.yes.value) (work_of v.no.value) (code_of v.mixed)
    (subst (λ (n : Node). work_fits names (work_of n) ≡ true) v.is c.requires.fits) in
    let room = subst (λ (n : Node). HasRoomFor before (work_of n)) v.is c.requires.room in
    let w = c.in-Vote-flat in
    let flat = subst₂ (λ (n : Node) (f : FlatNode). IsFlatWork (work_of n) (flats_of f)) v.is w.is c.requires.flat in (
      omega (arith, ap node_weight v.is, ap node_weight c.deref.ensures),
      (
        c.items-end.ensures.stands,
        (
          fits_here names v.yes.value c.deref.result.now c.deref.ensures fits.0,
          (
            room_here before after v.yes.value c.deref.result.now c.deref.ensures
                c.items-end.ensures.room room.1,
            flat_here v.yes.value c.deref.result.now w.flat_yes.value c.deref-in-Yes.result.now
                c.deref.ensures c.deref-in-Yes.ensures flat.1,
          ),
        ),
      ),
    )

pub node-node-requires-in-No : goal.node-node-requires-in-No
node-node-requires-in-No t c =
    let names = names_of (plain_of c.args.program.now) in
    let v = c.in-Vote in
    let before = room_at c.args.program.now.width c.args.self.now.machine in
    let after = room_at c.args.program.now.width c.items-end.new.self.machine in
    let fits = vote_fits names (code_of v.test) (work_of v.yes.value) (work_of v.no.value) (code_of v.mixed)
    (subst (λ (n : Node). work_fits names (work_of n) ≡ true) v.is c.requires.fits) in
    let room = subst (λ (n : Node). HasRoomFor before (work_of n)) v.is c.requires.room in
    let w = c.in-Vote-flat in
    let flat = subst₂ (λ (n : Node) (f : FlatNode). IsFlatWork (work_of n) (flats_of f)) v.is w.is c.requires.flat in (
      omega (arith, ap node_weight v.is, ap node_weight c.deref-in-No.ensures),
      (
        c.items-end.ensures.stands,
        (
          fits_here names v.no.value c.deref-in-No.result.now c.deref-in-No.ensures fits.1,
          (
            room_here before after v.no.value c.deref-in-No.result.now c.deref-in-No.ensures c.items-end.ensures.room
                room.2,
            flat_here v.no.value c.deref-in-No.result.now w.flat_no.value c.deref-in-No-2.result.now
                c.deref-in-No.ensures c.deref-in-No-2.ensures flat.2,
          ),
        ),
      ),
    )

pub nodes-part-end-requires : goal.nodes-part-end-requires
nodes-part-end-requires t c =
    let names = names_of (plain_of c.args.program.now) in
    let nodes = c.args.nodes.now.items in
    let i = c.loop-i.i in
    let one = c.index.result.now in
    let before = room_at c.args.program.now.width c.args.self.now.machine in
    let after = room_at c.args.program.now.width c.loop-i.self.machine in
    let within : i < length nodes = omega (arith, c.loop-i-test.true, c.len-i-end.ensures) in
    let here = drop_one nodes i one within c.index.ensures in
    let fits = subst (λ (ns : List Node). nodes_fit names ns ≡ true) here c.loop-i.invariant.fits in
    let each = subst (λ (ns : List Node). HasRoomForEach before ns) here c.loop-i.invariant.each in
    let flat = both_here nodes c.args.flats.now.items i one c.index-in-loop-i.result.now within c.index.ensures
    c.index-in-loop-i.ensures c.loop-i.invariant.flat in (
      omega (arith, weight_at nodes i one within c.index.ensures),
      (
        c.loop-i.invariant.stands,
        (
          first_fits names one (drop (i + 1) nodes) fits,
          (room_here before after one one refl c.loop-i.invariant.room each.0, flat.0),
        ),
      ),
    )

pub nodes-loop-i-preserved : goal.nodes-loop-i-preserved
nodes-loop-i-preserved t c =
    let p = plain_of c.args.program.now in
    let l = launch_of c.args.launch.now in
    let n = c.args.number in
    let width = c.args.program.now.width in
    let nodes = c.args.nodes.now.items in
    let i = c.loop-i.i in
    let one = c.index.result.now in
    let now = c.loop-i.self in
    let new = c.part-end.new in
    let first = room_at width c.args.self.now.machine in
    let within : i < length nodes = omega (arith, c.loop-i-test.true, c.len-i-end.ensures) in
    let here = drop_one nodes i one within c.index.ensures in
    let done : is_done c.part-end.result ≡ true = cc (c.has_done.ensures) in
    let flat = both_here nodes c.args.flats.now.items i one c.index-in-loop-i.result.now within c.index.ensures
    c.index-in-loop-i.ensures c.loop-i.invariant.flat in
    record {
      same =
          sym (goes_on (work_end p l n (work_of one) now.turns now.group.kept (buffers_of c.loop-i.buffers))
          c.part-end.result new.self.turns new.self.group.kept (buffers_of new.buffers)
          (nodes_end p l n (drop (i + 1) nodes)) c.part-end.ensures.end done)
          ∙ sym (ap (λ (ns : List Node). nodes_end p l n ns now.turns now.group.kept (buffers_of c.loop-i.buffers))
          here)
          ∙ c.loop-i.invariant.same;
      fits = rest_fits (names_of p) one (drop (i + 1) nodes)
          (subst (λ (ns : List Node). nodes_fit (names_of p) ns ≡ true) here c.loop-i.invariant.fits);
      each = let each = subst (λ (ns : List Node). HasRoomForEach first ns) here c.loop-i.invariant.each in each.1;
      stands = c.part-end.ensures.stands;
      room = no_less_then first (room_at width now.machine) (room_at width new.self.machine) c.loop-i.invariant.room
          c.part-end.ensures.room;
      flat = flat.1;
    }

pub rounds-loop-test-init : goal.rounds-loop-test-init
rounds-loop-test-init t c =
    let p = plain_of c.args.program.now in
    let l = launch_of c.args.launch.now in
    let n = c.args.number in
    let v = c.in-Loop in
    let test : Doing = work_end p l n (work_of v.test.value) in
    let body : Doing = work_end p l n (work_of v.body.value) in
    let rest : Doing = items_end p l n (code_of v.rest) in
    let width = c.args.program.now.width in
    let first = c.args.self.now in
    let b0 = c.args.buffers.now in
    let b1 = c.if-not-test_first.buffers in
    let whole = ap (λ (m : Node). work_end p l n (work_of m) first.turns first.group.kept (buffers_of b0)) v.is in
    elim c.if-not-test_first.branch [
      | rounds-then-not-test_first+else-not-has_done w ↦
          let new = w.iteration-end.new in
          let ran = ap (λ (m : Node). turn_end (work_end p l n (work_of m)) first.turns first.group.kept
          (buffers_of b0)) (sym w.deref.ensures) ∙ w.iteration-end.ensures.end in
          let done : is_done w.iteration-end.result ≡ true = cc (w.has_done.ensures) in
          record {
            same =
                ap (λ (s : Worker). rounds test body rest first.turns s.turns s.group.kept (buffers_of b1)) w.self-is
                ∙ ap (λ (b : Buffers). rounds test body rest first.turns new.self.turns new.self.group.kept
                (buffers_of b)) w.buffers-is
                ∙ sym (goes_on (turn_end body first.turns first.group.kept (buffers_of b0)) w.iteration-end.result
                new.self.turns new.self.group.kept (buffers_of new.buffers) (rounds test body rest first.turns)
                ran done)
                ∙ sym (loop_later v.test_first test body rest first.turns first.group.kept (buffers_of b0)
                w.if-not-test_first.true)
                ∙ sym whole;
            stands = subst (λ (s : Worker). IsHeldFor p l n s.group) (sym w.self-is) w.iteration-end.ensures.stands;
            room = subst (λ (s : Worker). IsNoLess (room_at width first.machine) (room_at width s.machine))
                (sym w.self-is) w.iteration-end.ensures.room;
          }
      | rounds-else-not-test_first w ↦
          record {
            same =
                ap (λ (s : Worker). rounds test body rest first.turns s.turns s.group.kept (buffers_of b1)) w.self-is
                ∙ ap (λ (b : Buffers). rounds test body rest first.turns first.turns first.group.kept (buffers_of b))
                w.buffers-is
                ∙ sym (loop_first v.test_first test body rest first.turns first.group.kept (buffers_of b0)
                w.if-not-test_first.false)
                ∙ sym whole;
            stands = subst (λ (s : Worker). IsHeldFor p l n s.group) (sym w.self-is) c.requires.stands;
            room = subst (λ (s : Worker). IsNoLess (room_at width first.machine) (room_at width s.machine))
                (sym w.self-is) (no_less_same (room_at width first.machine));
          }
    ]

pub rounds-part-end-requires : goal.rounds-part-end-requires
rounds-part-end-requires t c =
    let names = names_of (plain_of c.args.program.now) in
    let v = c.in-Loop in
    let before = room_at c.args.program.now.width c.args.self.now.machine in
    let after = room_at c.args.program.now.width c.loop-test.self.machine in
    let fits = loop_fits names v.test_first (work_of v.test.value) (work_of v.body.value) (code_of v.rest)
    (subst (λ (n : Node). work_fits names (work_of n) ≡ true) v.is c.requires.fits) in
    let room = subst (λ (n : Node). HasRoomFor before (work_of n)) v.is c.requires.room in
    let here = c.deref-in-loop-test in
    let there = c.deref-in-loop-test-2 in
    let w = c.in-Loop-flat in
    let flat = subst₂ (λ (n : Node) (f : FlatNode). IsFlatWork (work_of n) (flats_of f)) v.is w.is c.requires.flat in (
      omega (arith, ap node_weight v.is, ap node_weight here.ensures),
      (
        c.loop-test.invariant.stands,
        (
          fits_here names v.test.value here.result.now here.ensures fits.0,
          (
            room_here before after v.test.value here.result.now here.ensures c.loop-test.invariant.room room.0,
            flat_here v.test.value here.result.now w.flat_test.value there.result.now here.ensures there.ensures
                flat.0,
          ),
        ),
      ),
    )

pub rounds-returns-then-not-has_done-2-clause-end : goal.rounds-returns-then-not-has_done-2-clause-end
rounds-returns-then-not-has_done-2-clause-end t c =
    let p = plain_of c.args.program.now in
    let l = launch_of c.args.launch.now in
    let n = c.args.number in
    let v = c.in-Loop in
    let test : Doing = work_end p l n (work_of v.test.value) in
    let body : Doing = work_end p l n (work_of v.body.value) in
    let rest : Doing = items_end p l n (code_of v.rest) in
    let now = c.loop-test.self in
    let most = c.loop-test.most in
    let old = c.loop-test.buffers in
    let tested = c.part-end.new in
    let asks : Doing = asked test body rest most in
    let ran = ap (λ (m : Node). work_end p l n (work_of m) now.turns now.group.kept (buffers_of old))
    (sym c.deref-in-loop-test.ensures) ∙ c.part-end.ensures.end in
    let from =
    sym c.loop-test.invariant.same ∙ rounds_ask test body rest most now.turns now.group.kept (buffers_of old) in
    let stopped : is_done c.part-end.result ≡ false = cc (c.has_done-in-loop-test.ensures) in
    from ∙ stops (test now.turns now.group.kept (buffers_of old)) c.part-end.result tested.self.turns
    tested.self.group.kept (buffers_of tested.buffers) asks ran stopped

pub rounds-returns-in-No-clause-end : goal.rounds-returns-in-No-clause-end
rounds-returns-in-No-clause-end t c =
    let p = plain_of c.args.program.now in
    let l = launch_of c.args.launch.now in
    let n = c.args.number in
    let v = c.in-Loop in
    let test : Doing = work_end p l n (work_of v.test.value) in
    let body : Doing = work_end p l n (work_of v.body.value) in
    let rest : Doing = items_end p l n (code_of v.rest) in
    let now = c.loop-test.self in
    let most = c.loop-test.most in
    let old = c.loop-test.buffers in
    let tested = c.part-end.new in
    let asks : Doing = asked test body rest most in
    let ran = ap (λ (m : Node). work_end p l n (work_of m) now.turns now.group.kept (buffers_of old))
    (sym c.deref-in-loop-test.ensures) ∙ c.part-end.ensures.end in
    let from =
    sym c.loop-test.invariant.same ∙ rounds_ask test body rest most now.turns now.group.kept (buffers_of old) in
    let done : is_done c.part-end.result ≡ true = cc (c.has_done-in-loop-test.ensures) in
    let went = from ∙ goes_on (test now.turns now.group.kept (buffers_of old)) c.part-end.result tested.self.turns
    tested.self.group.kept (buffers_of tested.buffers) asks ran done in
    let said_no : verdict tested.self.group.kept.votes ≡ Refused = sym c.answers.ensures ∙ ap said c.in-No.is in
    went ∙ asked_no test body rest most tested.self.turns tested.self.group.kept (buffers_of tested.buffers) said_no

pub rounds-returns-in-Mixed-clause-end : goal.rounds-returns-in-Mixed-clause-end
rounds-returns-in-Mixed-clause-end t c =
    let p = plain_of c.args.program.now in
    let l = launch_of c.args.launch.now in
    let n = c.args.number in
    let v = c.in-Loop in
    let test : Doing = work_end p l n (work_of v.test.value) in
    let body : Doing = work_end p l n (work_of v.body.value) in
    let rest : Doing = items_end p l n (code_of v.rest) in
    let now = c.loop-test.self in
    let most = c.loop-test.most in
    let old = c.loop-test.buffers in
    let tested = c.part-end.new in
    let asks : Doing = asked test body rest most in
    let ran = ap (λ (m : Node). work_end p l n (work_of m) now.turns now.group.kept (buffers_of old))
    (sym c.deref-in-loop-test.ensures) ∙ c.part-end.ensures.end in
    let from =
    sym c.loop-test.invariant.same ∙ rounds_ask test body rest most now.turns now.group.kept (buffers_of old) in
    let done : is_done c.part-end.result ≡ true = cc (c.has_done-in-loop-test.ensures) in
    let went = from ∙ goes_on (test now.turns now.group.kept (buffers_of old)) c.part-end.result tested.self.turns
    tested.self.group.kept (buffers_of tested.buffers) asks ran done in
    let said_both : verdict tested.self.group.kept.votes ≡ Mixed = sym c.answers.ensures ∙ ap said c.in-Mixed.is in
    went ∙ asked_mixed test body rest most tested.self.turns tested.self.group.kept (buffers_of tested.buffers)
    said_both ∙ c.items.ensures.end

pub rounds-iteration-end-requires-in-loop-test : goal.rounds-iteration-end-requires-in-loop-test
rounds-iteration-end-requires-in-loop-test t c =
    let names = names_of (plain_of c.args.program.now) in
    let v = c.in-Loop in
    let before = room_at c.args.program.now.width c.args.self.now.machine in
    let between = room_at c.args.program.now.width c.loop-test.self.machine in
    let after = room_at c.args.program.now.width c.part-end.new.self.machine in
    let fits = loop_fits names v.test_first (work_of v.test.value) (work_of v.body.value) (code_of v.rest)
    (subst (λ (n : Node). work_fits names (work_of n) ≡ true) v.is c.requires.fits) in
    let room = subst (λ (n : Node). HasRoomFor before (work_of n)) v.is c.requires.room in
    let here = c.deref-in-loop-test-3 in
    let there = c.deref-in-loop-test-4 in
    let w = c.in-Loop-flat in
    let flat = subst₂ (λ (n : Node) (f : FlatNode). IsFlatWork (work_of n) (flats_of f)) v.is w.is c.requires.flat in (
      omega (arith, ap node_weight v.is, ap node_weight here.ensures),
      (
        c.part-end.ensures.stands,
        (
          fits_here names v.body.value here.result.now here.ensures fits.1,
          (
            room_here before after v.body.value here.result.now here.ensures
                (no_less_then before between after c.loop-test.invariant.room c.part-end.ensures.room) room.1,
            flat_here v.body.value here.result.now w.flat_body.value there.result.now here.ensures there.ensures
                flat.1,
          ),
        ),
      ),
    )

pub rounds-returns-then-not-has_done-3-clause-end : goal.rounds-returns-then-not-has_done-3-clause-end
rounds-returns-then-not-has_done-3-clause-end t c =
    let p = plain_of c.args.program.now in
    let l = launch_of c.args.launch.now in
    let n = c.args.number in
    let v = c.in-Loop in
    let test : Doing = work_end p l n (work_of v.test.value) in
    let body : Doing = work_end p l n (work_of v.body.value) in
    let rest : Doing = items_end p l n (code_of v.rest) in
    let now = c.loop-test.self in
    let most = c.loop-test.most in
    let old = c.loop-test.buffers in
    let tested = c.part-end.new in
    let asks : Doing = asked test body rest most in
    let ran = ap (λ (m : Node). work_end p l n (work_of m) now.turns now.group.kept (buffers_of old))
    (sym c.deref-in-loop-test.ensures) ∙ c.part-end.ensures.end in
    let from =
    sym c.loop-test.invariant.same ∙ rounds_ask test body rest most now.turns now.group.kept (buffers_of old) in
    let done : is_done c.part-end.result ≡ true = cc (c.has_done-in-loop-test.ensures) in
    let went = from ∙ goes_on (test now.turns now.group.kept (buffers_of old)) c.part-end.result tested.self.turns
    tested.self.group.kept (buffers_of tested.buffers) asks ran done in
    let said_yes : verdict tested.self.group.kept.votes ≡ Agreed = sym c.answers.ensures ∙ ap said c.in-Yes.is in
    let some : 0 < most = omega arith in
    let begun = went ∙ asked_yes test body rest most tested.self.turns tested.self.group.kept
    (buffers_of tested.buffers) said_yes some in
    let new = c.iteration-end-in-loop-test.new in
    let turned = ap (λ (m : Node). turn_end (work_end p l n (work_of m)) tested.self.turns tested.self.group.kept
    (buffers_of tested.buffers)) (sym c.deref-in-loop-test-3.ensures) ∙
    c.iteration-end-in-loop-test.ensures.end in
    let next : Doing = rounds test body rest (most - 1) in
    let stopped : is_done c.iteration-end-in-loop-test.result ≡ false = cc (c.has_done-in-loop-test-2.ensures) in
    begun ∙ stops (turn_end body tested.self.turns tested.self.group.kept (buffers_of tested.buffers))
    c.iteration-end-in-loop-test.result new.self.turns new.self.group.kept (buffers_of new.buffers) next turned
    stopped

pub rounds-loop-test-preserved : goal.rounds-loop-test-preserved
rounds-loop-test-preserved t c =
    let p = plain_of c.args.program.now in
    let l = launch_of c.args.launch.now in
    let n = c.args.number in
    let v = c.in-Loop in
    let test : Doing = work_end p l n (work_of v.test.value) in
    let body : Doing = work_end p l n (work_of v.body.value) in
    let rest : Doing = items_end p l n (code_of v.rest) in
    let now = c.loop-test.self in
    let most = c.loop-test.most in
    let old = c.loop-test.buffers in
    let tested = c.part-end.new in
    let asks : Doing = asked test body rest most in
    let ran = ap (λ (m : Node). work_end p l n (work_of m) now.turns now.group.kept (buffers_of old))
    (sym c.deref-in-loop-test.ensures) ∙ c.part-end.ensures.end in
    let from =
    sym c.loop-test.invariant.same ∙ rounds_ask test body rest most now.turns now.group.kept (buffers_of old) in
    let done : is_done c.part-end.result ≡ true = cc (c.has_done-in-loop-test.ensures) in
    let went = from ∙ goes_on (test now.turns now.group.kept (buffers_of old)) c.part-end.result tested.self.turns
    tested.self.group.kept (buffers_of tested.buffers) asks ran done in
    let said_yes : verdict tested.self.group.kept.votes ≡ Agreed = sym c.answers.ensures ∙ ap said c.in-Yes.is in
    let some : 0 < most = omega arith in
    let begun = went ∙ asked_yes test body rest most tested.self.turns tested.self.group.kept
    (buffers_of tested.buffers) said_yes some in
    let new = c.iteration-end-in-loop-test.new in
    let turned = ap (λ (m : Node). turn_end (work_end p l n (work_of m)) tested.self.turns tested.self.group.kept
    (buffers_of tested.buffers)) (sym c.deref-in-loop-test-3.ensures) ∙
    c.iteration-end-in-loop-test.ensures.end in
    let next : Doing = rounds test body rest (most - 1) in
    let width = c.args.program.now.width in
    let first = room_at width c.args.self.now.machine in
    let again : is_done c.iteration-end-in-loop-test.result ≡ true = cc (c.has_done-in-loop-test-2.ensures) in
    let led = begun ∙ goes_on (turn_end body tested.self.turns tested.self.group.kept (buffers_of tested.buffers))
    c.iteration-end-in-loop-test.result new.self.turns new.self.group.kept (buffers_of new.buffers) next turned
    again in
    record {
      same = sym led;
      stands = c.iteration-end-in-loop-test.ensures.stands;
      room = no_less_then first (room_at width tested.self.machine) (room_at width new.self.machine)
          (no_less_then first (room_at width now.machine) (room_at width tested.self.machine)
          c.loop-test.invariant.room c.part-end.ensures.room) c.iteration-end-in-loop-test.ensures.room;
    }
