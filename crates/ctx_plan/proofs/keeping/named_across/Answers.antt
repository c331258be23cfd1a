use Rattle.std.proofs.Common.{refl}
use Rattle.kir.specs.Listed.{lines_of}
use Rattle.kir.specs.Keeps.{pieces_of}
use Rattle.ctx_plan.specs.declared.keeping.Naming.{Naming}
use Rattle.ctx_plan.proofs.Names.{named_whole}
use Rattle.ctx_plan.proofs.keeping.named_across.Goals as goal

pub returns : goal.returns
returns c =
    let start : Naming =
    record { first = c.in_ok-first.first; across = c.in_ok-across.across; count = 0; before = 0 } in
    named_whole c.args.cells start c.name_lines.new.naming (pieces_of (lines_of c.args.lines.now))
    c.in_ok-first.ensures c.in_ok-across.ensures refl refl c.name_lines.ensures
