use Rattle.std.proofs.Common.{sym, subst}
use Rattle.kir.specs.View.{kernel_of}
use Rattle.regions.specs.Tree.{NoRegion}
use Rattle.regions.specs.View.{tree_before}
use Rattle.regions.specs.Fragments.{EachRegion, IsPiece}
use Rattle.regions.proofs.Fragments.{split_pieces}
use Rattle.regions.proofs.Interleaving.{runs_interleave}
use Rattle.regions.proofs.splitting.split.Goals as goal

pub returns-clause-pieces : goal.returns-clause-pieces
returns-clause-pieces c = subst (EachRegion (IsPiece (kernel_of c.args.kernel.now))) (sym c.in_ok-tree.ensures.cut)
    (split_pieces (kernel_of c.args.kernel.now))

pub returns-clause-interleaves : goal.returns-clause-interleaves
returns-clause-interleaves c = runs_interleave (kernel_of c.args.kernel.now) (tree_before c.in_ok-tree.tree NoRegion)
