use Rattle.std.proofs.Common.{◌<◌, length, refl, ap, ◌∙◌, arith, Some}
use Rattle.std.proofs.lemmas.Option.{slice_get_read}
use Rattle.ctx_plan.proofs.Names.{name_first, name_again, name_across}
use Rattle.ctx_plan.proofs.keeping.name_cell.Goals as goal

pub returns-in-None : goal.returns-in-None
returns-in-None c =
    let n = c.args.naming.now in
    let a = c.if-cell-len.true in
    let ae = c.len.ensures in
    let ok = n.first.ok in
    let lt : c.args.cell < length n.first.items = omega (arith, a, ae, ok) in
    let b = c.if-cell-len-2.true in
    let be = c.len-then-cell-len.ensures in
    let ok' = n.across.ok in
    let lt' : c.args.cell < length n.across.items = omega (arith, b, be, ok') in
    name_first n _ c.args.cell lt lt' refl (slice_get_read n.first.items (length n.first.items) c.args.cell
    c.index-first.result.now refl lt c.index-first.ensures ∙ ap Some c.in-None.is) refl refl
    (λ less. let g = c.saturating_add-naming.ensures in omega (arith, less, g, ok))

pub returns-then-number-naming : goal.returns-then-number-naming
returns-then-number-naming c =
    let n = c.args.naming.now in
    let a = c.if-cell-len.true in
    let ae = c.len.ensures in
    let ok = n.first.ok in
    let lt : c.args.cell < length n.first.items = omega (arith, a, ae, ok) in
    let b = c.if-cell-len-2.true in
    let be = c.len-then-cell-len.ensures in
    let ok' = n.across.ok in
    let lt' : c.args.cell < length n.across.items = omega (arith, b, be, ok') in
    name_across n _ c.args.cell lt lt' refl c.in-Some.number (slice_get_read n.first.items (length n.first.items)
    c.args.cell c.index-first.result.now refl lt c.index-first.ensures ∙
    ap Some c.in-Some.is) c.if-number-naming.true refl refl refl

pub returns-else-number-naming : goal.returns-else-number-naming
returns-else-number-naming c =
    let n = c.args.naming.now in
    let a = c.if-cell-len.true in
    let ae = c.len.ensures in
    let ok = n.first.ok in
    let lt : c.args.cell < length n.first.items = omega (arith, a, ae, ok) in
    let b = c.if-cell-len-2.true in
    let be = c.len-then-cell-len.ensures in
    let ok' = n.across.ok in
    let lt' : c.args.cell < length n.across.items = omega (arith, b, be, ok') in
    name_again n _ c.args.cell lt lt' refl c.in-Some.number (slice_get_read n.first.items (length n.first.items)
    c.args.cell c.index-first.result.now refl lt c.index-first.ensures ∙
    ap Some c.in-Some.is) c.if-number-naming.false refl refl refl
