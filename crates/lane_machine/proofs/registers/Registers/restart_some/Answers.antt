use Rattle.std.proofs.Common.{◌≡◌, ◌∙◌, ℕ, List, subst, replicate}
use Rattle.std.specs.Prelude.{slice_set}
use Rattle.lane_machine.specs.Blanked.{AreAt}
use Rattle.lane_machine.proofs.StartLaws.{same_lengths, same_at}
use Rattle.lane_machine.proofs.registers.Registers.restart_some.Goals as goal

pub returns-clause-alike : goal.returns-clause-alike
returns-clause-alike g c =
    let narrow = c.put_at.ensures.long ∙ c.resize_to.ensures.long in
    let wide = c.put_at-2.ensures.long ∙ c.resize_to-2.ensures.long in
    record {
      narrow_lengths = same_lengths c.put_at.new.list.items c.args.counts.narrow g.row.W narrow c.all_lanes32.ensures;
      wide_lengths = same_lengths c.put_at-2.new.list.items c.args.counts.wide g.row.W wide c.all_lanes64.ensures;
      narrow = same_at c.put_at.new.list.items c.args.counts.narrow g.row.W narrow c.args.cleared.now.narrow.items
          (subst (λ (l : List ℕ). AreAt l c.put_at.new.list.items (replicate g.row.W 0)) c.deref.ensures.value
          c.put_at.ensures.put);
      wide = same_at c.put_at-2.new.list.items c.args.counts.wide g.row.W wide c.args.cleared.now.wide.items
          (subst (λ (l : List ℕ). AreAt l c.put_at-2.new.list.items (replicate g.row.W 0)) c.deref-2.ensures.value
          c.put_at-2.ensures.put);
      masks = λ i. slice_set (c.refill_few.ensures.items i) 0 (c.existing_lanes.ensures i);
      scalars = c.refill_few-2.ensures.items;
    }
