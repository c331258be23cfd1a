use Rattle.std.proofs.Common.{ap, ◌∙◌, sym}
use Rattle.kir.specs.Tree.{joined_to}
use Rattle.kir.specs.Listed.{lines_of}
use Rattle.kir_simplify.specs.Passes.{spliced}
use Rattle.kir_simplify.proofs.Walks.{spliced_plain}
use Rattle.kir_simplify.proofs.splicing.splice_plain.Goals as goal

pub returns : goal.returns
returns c = λ rest.
    c.in_ok-add_line.ensures (spliced rest) ∙
    ap (joined_to (lines_of c.args.kept.now.items)) (c.in_ok-line.ensures (spliced rest) ∙
    sym (spliced_plain c.args.line.now c.requires rest))
