use Rattle.std.proofs.Common.{◌≡◌, true, subst, sym, ap}
use Rattle.kir.specs.Tree.{Kernel}
use Rattle.kir.specs.View.{kernel_of}
use Rattle.kir.specs.Fits.{is_kernel}
use Rattle.kir_simplify.specs.Faithful.{IsFaithful, with_body}
use Rattle.kir_simplify.proofs.Folded.{folded_faithful}
use Rattle.kir_simplify.proofs.Validity.{folded_valid}
use Rattle.kir_simplify.proofs.folding.fold.Goals as goal

pub returns-clause-faithful : goal.returns-clause-faithful
returns-clause-faithful c =
    subst (λ (k : Kernel). IsFaithful (kernel_of c.args.kernel) k)
    (sym (ap (with_body (kernel_of c.args.kernel)) c.in_ok-body.ensures))
    (folded_faithful (kernel_of c.args.kernel) c.args.kernel.valid
    (folded_valid (kernel_of c.args.kernel) c.args.kernel.valid))

pub invariant_of-result : goal.invariant_of-result
invariant_of-result c = record {
  valid = subst (λ (k : Kernel). is_kernel k ≡ true)
      (sym (ap (with_body (kernel_of c.args.kernel)) c.in_ok-body.ensures))
      (folded_valid (kernel_of c.args.kernel) c.args.kernel.valid);
}
