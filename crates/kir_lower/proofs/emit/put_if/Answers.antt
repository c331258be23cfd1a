use Rattle.std.proofs.Common.{◌≡◌, OnOk, subst}
use Rattle.kir.specs.Tree.{NoLine, joined_to}
use Rattle.kir.specs.Listed.{lines_of}
use Rattle.kir.proofs.Rows.{if_listed}
use Rattle.kir_lower.proofs.emit.put_if.Goals as goal

pub returns : goal.returns
returns c =
    subst (λ z. OnOk c.put.result (lines_of c.put.new.lines.items ≡ joined_to (lines_of c.args.lines.now.items) z))
    (if_listed c.args.site c.args.test c.args.yes c.args.no NoLine) c.put.ensures
