use Rattle.std.proofs.Common.{◌≡◌, subst, arith, length}
use Rattle.kir.specs.Listed.{lines_of}
use Rattle.regions.specs.Living.{IsPassing, Becomes, before_if, before_loop}
use Rattle.regions.proofs.Passings.{passing_if, passing_loop, passing_step}
use Rattle.regions.proofs.living.+live.Goals as goal

pub pass_lines-loop-i-preserved : goal.pass_lines-loop-i-preserved
pass_lines-loop-i-preserved t c = record {
  within = let w = c.loop-i.invariant.within in omega (arith, w);
  passing =
      passing_step c.args.cells c.args.lines.now c.loop-i.i c.index-lines-i.result _ _ _ _ c.loop-i-test.true
      (let w = c.loop-i.invariant.within in let p = c.loop-i-test.true in
      omega (arith, w, p)) c.index-lines-i.is c.in_ok-pass_line.ensures c.loop-i.invariant.passing;
}

pub pass_line-returns-in_ok-live-in-If : goal.pass_line-returns-in_ok-live-in-If
pass_line-returns-in_ok-live-in-If t c = λ rest p.
    let yes = c.in_ok-yes-in-If.yes in
    let no = c.in_ok-no-in-If.no in
    let f = before_if c.in-If.test yes.dead.items yes.live.items no.dead.items no.live.items in
    passing_if c.args.cells c.args.line.now c.in-If.site c.in-If.test c.in-If.yes c.in-If.no rest _ _ _ _ _ _ _ _
    c.in-If.is
    (subst (λ xs. IsPassing c.args.cells (lines_of xs) yes.dead.items yes.live.items) c.deref.ensures.value
    c.in_ok-yes-in-If.ensures)
    (subst (λ xs. IsPassing c.args.cells (lines_of xs) no.dead.items no.live.items) c.deref-in-If.ensures.value
    c.in_ok-no-in-If.ensures)
    p
    (subst (λ xs. Becomes xs c.in_ok-dead-in-If.dead.items f) c.deref-in-If-2.ensures.value c.in_ok-dead-in-If.ensures)
    (subst (λ xs. Becomes xs c.in_ok-live-in-If.live.items f) c.deref-in-If-3.ensures.value c.in_ok-live-in-If.ensures)

pub pass_line-returns-in_ok-live-in-Loop : goal.pass_line-returns-in_ok-live-in-Loop
pass_line-returns-in_ok-live-in-Loop t c = λ rest p.
    let test = c.in_ok-test-in-Loop.test in
    let body = c.in_ok-body-in-Loop.body in
    let f = before_loop c.in-Loop.test_first test.dead.items test.live.items c.in-Loop.answer body.dead.items
    body.live.items in
    passing_loop c.args.cells c.args.line.now c.in-Loop.site c.in-Loop.test_first c.in-Loop.test c.in-Loop.answer
    c.in-Loop.body rest _ _ _ _ _ _ _ _ c.in-Loop.is
    (subst (λ xs. IsPassing c.args.cells (lines_of xs) test.dead.items test.live.items) c.deref-in-Loop.ensures.value
    c.in_ok-test-in-Loop.ensures)
    (subst (λ xs. IsPassing c.args.cells (lines_of xs) body.dead.items body.live.items)
    c.deref-in-Loop-2.ensures.value c.in_ok-body-in-Loop.ensures)
    p
    (subst (λ xs. length test.dead.items ≡ length xs → Becomes xs c.in_ok-dead-in-Loop.dead.items f)
    c.deref-in-Loop-3.ensures.value c.in_ok-dead-in-Loop.ensures)
    (subst (λ xs. length test.dead.items ≡ length xs → Becomes xs c.in_ok-live-in-Loop.live.items f)
    c.deref-in-Loop-4.ensures.value c.in_ok-live-in-Loop.ensures)
