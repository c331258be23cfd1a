use Rattle.std.proofs.Common.{subst, sym, ◌≡◌, true}
use Rattle.kir.specs.Tree.{Kernel}
use Rattle.kir.specs.View.{kernel_of}
use Rattle.kir.specs.Fits.{is_kernel}
use Rattle.kir_simplify.specs.Faithful.{IsFaithful}
use Rattle.kir_simplify.proofs.Spliced.{spliced_faithful}
use Rattle.kir_simplify.proofs.SplicedParting.{comes_too}
use Rattle.kir_simplify.proofs.splicing_law.Goals as goal

pub returns : goal.returns
returns c =
    subst (λ (k : Kernel). IsFaithful (kernel_of c.args.kernel.now) k) (sym c.requires)
    (spliced_faithful (kernel_of c.args.kernel.now) (comes_too (kernel_of c.args.kernel.now)) c.args.kernel.now.valid
    (subst (λ (k : Kernel). is_kernel k ≡ true) c.requires c.args.spliced.now.valid))
