use Rattle.std.proofs.Common.{sym, ap, ◌∙◌, subst, inr}
use Rattle.kir.specs.View.{kernel_of}
use Rattle.kir.specs.Listed.{lines_of}
use Rattle.kir_simplify.specs.Passes.{size_of}
use Rattle.kir_simplify.specs.Simple.{IsSimple}
use Rattle.kir_simplify.proofs.RoundsEnd.{does_shrink, does_not_shrink, finished, goes_on, faithful_on}
use Rattle.kir_simplify.proofs.RoundsEnd.{simplified_simple}
use Rattle.kir_simplify.proofs.rounds.simplify.Goals as goal

pub returns-then-after-before-clause-exact : goal.returns-then-after-before-clause-exact
returns-then-after-before-clause-exact c =
    finished (kernel_of c.args.kernel) (kernel_of c.loop-simpler.simpler) (kernel_of c.in_ok-simpler.simpler)
    c.in_ok-simpler.ensures.exact
    (does_not_shrink (kernel_of c.loop-simpler.simpler) (kernel_of c.in_ok-simpler.simpler) c.in_ok-before.before
    c.in_ok-after.after (c.in_ok-before.ensures ∙ ap (λ xs. size_of (lines_of xs)) c.deref.ensures.value)
    c.in_ok-simpler.ensures.exact
    (c.in_ok-after.ensures ∙ ap (λ xs. size_of (lines_of xs)) c.deref-in-loop-simpler.ensures.value)
    c.if-after-before.true)
    c.loop-simpler.invariant.exact

pub returns-then-after-before-clause-simple : goal.returns-then-after-before-clause-simple
returns-then-after-before-clause-simple c =
    subst IsSimple (sym (returns-then-after-before-clause-exact c)) (simplified_simple (kernel_of c.args.kernel))

pub returns-then-after-before-clause-faithful : goal.returns-then-after-before-clause-faithful
returns-then-after-before-clause-faithful c =
    faithful_on (kernel_of c.args.kernel) (kernel_of c.loop-simpler.simpler) (kernel_of c.in_ok-simpler.simpler)
    c.loop-simpler.invariant.faithful c.in_ok-simpler.ensures.faithful

pub loop-simpler-preserved : goal.loop-simpler-preserved
loop-simpler-preserved c = record {
  exact = goes_on (kernel_of c.args.kernel) (kernel_of c.loop-simpler.simpler) (kernel_of c.in_ok-simpler.simpler)
      c.in_ok-simpler.ensures.exact
      (does_shrink (kernel_of c.loop-simpler.simpler) (kernel_of c.in_ok-simpler.simpler) c.in_ok-before.before
      c.in_ok-after.after (c.in_ok-before.ensures ∙ ap (λ xs. size_of (lines_of xs)) c.deref.ensures.value)
      c.in_ok-simpler.ensures.exact
      (c.in_ok-after.ensures ∙ ap (λ xs. size_of (lines_of xs)) c.deref-in-loop-simpler.ensures.value)
      c.if-after-before.false)
      c.loop-simpler.invariant.exact;
  faithful = inr (faithful_on (kernel_of c.args.kernel) (kernel_of c.loop-simpler.simpler)
      (kernel_of c.in_ok-simpler.simpler) c.loop-simpler.invariant.faithful c.in_ok-simpler.ensures.faithful);
}
