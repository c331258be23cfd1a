use Rattle.std.proofs.Common.{ap, ◌∙◌}
use Rattle.kir.specs.declared.line.Line.TheVariants as line
use Rattle.kir.specs.Tree.{joined_to}
use Rattle.kir.specs.Listed.{lines_of}
use Rattle.kir.proofs.Rows.{loop_listed}
use Rattle.kir_simplify.proofs.Walks.{added}
use Rattle.kir_simplify.proofs.adding.add_loop.Goals as goal

pub returns : goal.returns
returns c = λ rest.
    added c.args.lines.now.items c.push.new.list.items (line.Loop c.args.site c.args.test_first c.args.test
    c.args.answer c.args.body) c.in_ok-push.ensures rest ∙
    ap (joined_to (lines_of c.args.lines.now.items)) (loop_listed c.args.site c.args.test_first c.args.test
    c.args.answer c.args.body rest)
