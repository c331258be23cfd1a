use Rattle.std.proofs.Common.{◌≡◌, OnOk, sym, ap, ◌∙◌, subst}
use Rattle.kir.specs.declared.line.Atom.TheVariants.{Cell}
use Rattle.kir.specs.Tree.{NoLine, IfThen, joined_to}
use Rattle.kir.specs.Listed.{lines_of}
use Rattle.kir_lower.proofs.Lists.{none_guarded, some_guarded, join_none}
use Rattle.kir_lower.proofs.emit.put_guarded.Goals as goal

pub returns-then-len-eq0 : goal.returns-then-len-eq0
returns-then-len-eq0 c =
    let lines = lines_of c.args.lines.now.items in
    sym (ap (λ z. joined_to lines z) (none_guarded c.args.site c.args.exit c.args.inside.items c.len.result
    (c.len.ensures ∙ c.args.inside.ok.0) c.if-len-eq0.true) ∙ join_none lines)

pub returns-else-len-eq0 : goal.returns-else-len-eq0
returns-else-len-eq0 c =
    subst (λ z. OnOk c.put_if.result (lines_of c.put_if.new.lines.items ≡ joined_to (lines_of c.args.lines.now.items)
    z))
    (ap (λ z. IfThen c.args.site (Cell c.args.exit) (lines_of z) (lines_of c.args.inside.items) NoLine)
    c.new.ensures.items
    ∙ sym (some_guarded c.args.site c.args.exit c.args.inside.items c.len.result (c.len.ensures ∙
    c.args.inside.ok.0) c.if-len-eq0.false))
    c.put_if.ensures
