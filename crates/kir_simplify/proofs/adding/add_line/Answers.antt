use Rattle.kir_simplify.proofs.Walks.{added}
use Rattle.kir_simplify.proofs.adding.add_line.Goals as goal

pub returns : goal.returns
returns c = λ rest. added c.args.lines.now.items c.push.new.list.items c.args.line c.in_ok-push.ensures rest
