use Rattle.std.proofs.Common.{refl}
use Rattle.kir.specs.Fits.{is_site, has_some_type, atom_type}
use Rattle.kir.specs.Parts.{parts_of}
use Rattle.kir.proofs.FirstLines.{lines_stop, lines_go, if_fits, loop_fits}
use Rattle.kir.proofs.fitting.+fitting.Goals as goal

pub line_fits-returns-in-If : goal.line_fits-returns-in-If
line_fits-returns-in-If t c =
    if_fits (parts_of c.args.parts.now) c.args.line.now c.in-If.site c.in-If.test c.in-If.yes c.in-If.no
    c.deref.result.now c.deref-in-If.result.now
    (is_site (parts_of c.args.parts.now) c.in-If.site)
    (has_some_type (atom_type (parts_of c.args.parts.now) c.in-If.test))
    c.lines_fit-yes.result c.lines_fit-no.result c.if_fits.result
    c.in-If.is c.deref.ensures.value c.deref-in-If.ensures.value
    refl refl c.lines_fit-yes.ensures c.lines_fit-no.ensures c.if_fits.ensures

pub line_fits-returns-in-Loop : goal.line_fits-returns-in-Loop
line_fits-returns-in-Loop t c =
    loop_fits (parts_of c.args.parts.now) c.args.line.now c.in-Loop.site c.in-Loop.test_first c.in-Loop.test
    c.in-Loop.answer c.in-Loop.body c.deref-in-Loop.result.now c.deref-in-Loop-2.result.now
    (is_site (parts_of c.args.parts.now) c.in-Loop.site) c.lines_fit-test.result
    (has_some_type (atom_type (parts_of c.args.parts.now) c.in-Loop.answer)) c.lines_fit-body.result
    c.loop_fits.result c.in-Loop.is c.deref-in-Loop.ensures.value c.deref-in-Loop-2.ensures.value
    refl c.lines_fit-test.ensures refl c.lines_fit-body.ensures c.loop_fits.ensures

pub lines_fit-returns-then-not-line_fits : goal.lines_fit-returns-then-not-line_fits
lines_fit-returns-then-not-line_fits t c =
    lines_stop (parts_of c.args.parts.now) c.args.lines.now c.loop-line.line-index c.line-item.result
    c.line_fits.result c.loop-line-test.true c.line-item.is c.line_fits.ensures c.if-not-line_fits.true
    c.loop-line.invariant

pub lines_fit-loop-line-preserved : goal.lines_fit-loop-line-preserved
lines_fit-loop-line-preserved t c =
    lines_go (parts_of c.args.parts.now) c.args.lines.now c.loop-line.line-index c.line-item.result c.line_fits.result
    c.loop-line-test.true c.line-item.is c.line_fits.ensures c.if-not-line_fits.false c.loop-line.invariant
