use Rattle.std.proofs.Common.{◌≡◌, OnOk, subst}
use Rattle.kir.specs.Tree.{NoLine, joined_to}
use Rattle.kir.specs.Listed.{lines_of}
use Rattle.kir.proofs.Rows.{loop_listed}
use Rattle.kir_lower.proofs.ways.put_loop.Goals as goal

pub returns : goal.returns
returns c =
    subst (λ z. OnOk c.put.result (lines_of c.put.new.lines.items ≡ joined_to (lines_of c.args.lines.now.items) z))
    (loop_listed c.args.round.site c.args.round.test_first c.args.test c.args.answer c.args.body NoLine) c.put.ensures
