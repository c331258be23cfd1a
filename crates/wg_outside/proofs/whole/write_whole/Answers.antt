use Rattle.std.proofs.Common.{List, ℕ, ap, ◌∙◌, Bor}
use Rattle.std.proofs.lemmas.List.{take_rest}
use Rattle.wg_outside.proofs.WriteLemmas.{Wrote, wrote_more, wrote_none}
use Rattle.wg_outside.proofs.whole.write_whole.Goals as goal
use Rattle.wg_outside.proofs.whole.write_whole.Goals.{in-Ok, in-Err+else-ne}

pub loop-preserved : goal.loop-preserved
loop-preserved g c =
    let so_far : Wrote (g.W.Write.contents c.args.to.now) (g.W.Write.contents c.loop.to) c.args.bytes.now
    c.loop.rest.now = record { wrote = c.loop.invariant.wrote; left = c.loop.invariant.left } in
    elim c.match-write.branch [
      | in-Ok w ↦
          let all : Wrote (g.W.Write.contents c.args.to.now) (g.W.Write.contents c.write.new.self) c.args.bytes.now
          c.match-write.rest.now = wrote_more _ (g.W.Write.contents c.loop.to) _ c.args.bytes.now c.loop.rest.now
          c.match-write.rest.now w.in-Ok.count so_far w.in-Ok.ensures.bound w.in-Ok.ensures.bytes
          (ap (λ (b : Bor (List ℕ)). b.now) w.rest-is ∙ take_rest c.loop.rest.now w.in-Ok.count) in
          record { wrote = all.wrote; left = all.left }
      | in-Err+else-ne w ↦
          let all : Wrote (g.W.Write.contents c.args.to.now) (g.W.Write.contents c.write.new.self) c.args.bytes.now
          c.match-write.rest.now = wrote_none _ (g.W.Write.contents c.loop.to) _ c.args.bytes.now c.loop.rest.now
          c.match-write.rest.now so_far w.in-Err.ensures.bytes (ap (λ (b : Bor (List ℕ)). b.now) w.rest-is) in
          record { wrote = all.wrote; left = all.left }
    ]
