use Rattle.std.proofs.Common.{sym, subst, ◌∙◌}
use Rattle.kir.specs.Listed.{lines_of}
use Rattle.kir.specs.View.{kernel_of}
use Rattle.regions.specs.View.{region_of}
use Rattle.mask_lower.specs.Counts.{SameAccesses}
use Rattle.mask_lower.proofs.Tallies.{same_accesses}
use Rattle.mask_lower.proofs.region.lower_region.Goals as goal

pub returns-in-Some-clause-accesses : goal.returns-in-Some-clause-accesses
returns-in-Some-clause-accesses c =
    subst (SameAccesses (lines_of c.args.region.now.lines.items)) (sym (c.in-Some.ensures.steps ∙
    c.in_ok-steps.ensures)) (same_accesses (kernel_of c.args.kernel.now) c.args.plan.now.homes.items
    (region_of c.args.region.now))
