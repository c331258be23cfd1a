use Rattle.std.proofs.Common.{ap, ◌∙◌}
use Rattle.kir.specs.Tree.{joined_to}
use Rattle.kir.specs.Listed.{lines_of}
use Rattle.regions.proofs.Copies.{added}
use Rattle.regions.proofs.copying.add_plain.Goals as goal

pub returns : goal.returns
returns c = λ rest.
    added c.args.copied.now.items c.push.new.list.items c.in_ok-line.line c.in_ok-push.ensures rest ∙
    ap (joined_to (lines_of c.args.copied.now.items)) (c.in_ok-line.ensures rest)
