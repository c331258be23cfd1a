use Rattle.std.proofs.Common.{◌<◌, length, ◌∙◌, ap₂, ◌+◌, ℕ, sym, arith}
use Rattle.cl_model.specs.View.{launch_of}
use Rattle.wg_top.specs.Launches.{HasLimits}
use Rattle.wg_top.proofs.LaunchLemmas.{holds_at, more_groups, more_items}
use Rattle.wg_top.proofs.launches.count_all.Goals as goal

pub counts-own-requires : goal.counts-own-requires
counts-own-requires c = holds_at (λ l. HasLimits (launch_of l)) c.args.launches.now c.loop-k.k
    c.index-launches-k.result (omega arith) c.index-launches-k.is c.requires.limits

pub loop-k-preserved : goal.loop-k-preserved
loop-k-preserved c =
    let there : c.loop-k.k < length c.args.launches.now = omega arith in
    record {
      groups = ap₂ (λ (x y : ℕ). x + y) c.loop-k.invariant.groups c.counts-own.ensures.groups ∙
          sym (more_groups c.args.launches.now c.loop-k.k c.index-launches-k.result there c.index-launches-k.is
          launch_of);
      items = ap₂ (λ (x y : ℕ). x + y) c.loop-k.invariant.items c.counts-own.ensures.items ∙
          sym (more_items c.args.launches.now c.loop-k.k c.index-launches-k.result there c.index-launches-k.is
          launch_of);
      few_groups = omega (arith, c.loop-k.invariant.few_groups, c.counts-own.ensures.few_groups);
      few_items = omega (arith, c.loop-k.invariant.few_items, c.counts-own.ensures.few_items);
    }
