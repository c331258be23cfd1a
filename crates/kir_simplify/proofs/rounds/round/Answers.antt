use Rattle.std.proofs.Common.{ap, ◌∙◌}
use Rattle.kir.specs.View.{kernel_of}
use Rattle.kir_simplify.specs.Passes.{spliced_of, swept_of}
use Rattle.kir_simplify.proofs.Chained.{chained}
use Rattle.kir_simplify.proofs.rounds.round.Goals as goal

pub returns-clause-exact : goal.returns-clause-exact
returns-clause-exact c =
    c.in_ok-swept.ensures.exact ∙
    ap swept_of (c.in_ok-spliced.ensures.exact ∙ ap spliced_of c.in_ok-folded.ensures.exact)

pub returns-clause-faithful : goal.returns-clause-faithful
returns-clause-faithful c =
    chained (kernel_of c.args.kernel) (kernel_of c.in_ok-spliced.spliced) (kernel_of c.in_ok-swept.swept)
    (chained (kernel_of c.args.kernel) (kernel_of c.in_ok-folded.folded) (kernel_of c.in_ok-spliced.spliced)
    c.in_ok-folded.ensures.faithful c.in_ok-spliced.ensures.faithful) c.in_ok-swept.ensures.faithful
