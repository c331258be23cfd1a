use Rattle.std.proofs.Common.{◌≡◌, ◌∙◌, sym, ap, true, false, ◌+◌, ◌-◌}
use Rattle.std.specs.Prelude.{ℕ}
use Rattle.cl_model.specs.View.{buffers_of, launch_of}
use Rattle.lane_code.specs.View.{plain_of}
use Rattle.lane_code.specs.Program.{code_of}
use Rattle.lane_code.specs.Run.{chunk_count, chunks_end}
use Rattle.lane_machine.specs.Ends.{is_done}
use Rattle.lane_machine.proofs.ChunkLaws.{chunks_step, stops, goes_on, no_less_then, count_is, ended_there, held_there}
use Rattle.lane_machine.proofs.chunks.chunks.Goals as goal

pub returns-then-not-has_done-clause-end : goal.returns-then-not-has_done-clause-end
returns-then-not-has_done-clause-end g c =
    let p = plain_of c.args.task.program.now in
    let l = launch_of c.args.task.launch.now in
    let n = c.args.group.now.number in
    let code = code_of c.args.task.code.now in
    let count = c.chunks_of-count.result in
    let i = c.loop-number.number in
    let now = c.loop-number in
    let new = c.chunk-end.new in
    let all : count ≡ chunk_count p l =
    count_is p l g.row.W c.whole.result count c.requires.width c.whole.ensures.value c.chunks_of-count.ensures in
    let stopped : is_done c.chunk-end.result ≡ false = cc (c.has_done.ensures) in
    sym (ap (λ (k : ℕ). chunks_end p l n code 0 k c.args.turns.now c.args.group.now.kept
    (buffers_of c.args.buffers.now)) all)
    ∙ sym now.invariant.same
    ∙ chunks_step p l n code i count now.turns now.group.kept (buffers_of now.buffers) c.loop-number-test.true
    ∙ stops _ c.chunk-end.result new.turns new.group.kept (buffers_of new.buffers)
    (chunks_end p l n code (i + 1) (count - (i + 1))) (ended_there p l now.group.number n code i now.turns
    now.group.kept (buffers_of now.buffers) _ now.invariant.stands.numbered c.chunk-end.ensures.end) stopped

pub loop-number-preserved : goal.loop-number-preserved
loop-number-preserved g c =
    let p = plain_of c.args.task.program.now in
    let l = launch_of c.args.task.launch.now in
    let n = c.args.group.now.number in
    let code = code_of c.args.task.code.now in
    let count = c.chunks_of-count.result in
    let i = c.loop-number.number in
    let now = c.loop-number in
    let new = c.chunk-end.new in
    let done : is_done c.chunk-end.result ≡ true = cc (c.has_done.ensures) in
    let here = ended_there p l now.group.number n code i now.turns now.group.kept (buffers_of now.buffers) _
    now.invariant.stands.numbered c.chunk-end.ensures.end in
    record {
      same =
          sym (goes_on _ c.chunk-end.result new.turns new.group.kept (buffers_of new.buffers)
          (chunks_end p l n code (i + 1) (count - (i + 1))) here done)
          ∙ sym (chunks_step p l n code i count now.turns now.group.kept (buffers_of now.buffers)
          c.loop-number-test.true)
          ∙ now.invariant.same;
      stands = held_there p l now.group.number n new.group now.invariant.stands.numbered c.chunk-end.ensures.stands;
      room = no_less_then c.args.r.now.room now.r.room new.r.room now.invariant.room c.chunk-end.ensures.room;
    }
