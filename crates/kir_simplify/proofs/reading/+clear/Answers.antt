use Rattle.std.proofs.Common.{ℕ, List, refl, subst}
use Rattle.std.specs.Prelude.{Bool as Test}
use Rattle.kir.specs.declared.line.Line.{Line}
use Rattle.std.specs.Prelude.{◌&&◌, ◌||◌, not}
use Rattle.kir.specs.Live.{reads}
use Rattle.kir.specs.Tree.{NoLine}
use Rattle.kir.specs.Listed.{line_before, lines_of}
use Rattle.kir_simplify.specs.Reading.{reads_in}
use Rattle.kir_simplify.specs.Tables.{Becomes}
use Rattle.kir_simplify.proofs.Tables.{clear_then, if_reads, loop_reads, lines_step}
use Rattle.kir_simplify.proofs.reading.+clear.Goals as goal

pub clear_line-returns-in-If : goal.clear_line-returns-in-If
clear_line-returns-in-If t c =
    let chosen = λ (n : ℕ). reads_in n (lines_of c.in-If.yes.items) in
    let other = λ (n : ℕ). reads_in n (lines_of c.in-If.no.items) in
    clear_then c.args.set.now c.clear_lines-in-If.new.set _ (λ (n : ℕ). reads n c.in-If.test)
    (λ (n : ℕ). chosen n || other n)
    (λ (n : ℕ). reads_in n (line_before c.args.line.now NoLine))
    (if_reads c.args.line.now c.in-If.site c.in-If.test c.in-If.yes c.in-If.no c.in-If.is)
    (clear_then c.args.set.now c.clear_lines.new.set c.clear_lines-in-If.new.set chosen other
    (λ (n : ℕ). chosen n || other n) (λ (n : ℕ). refl)
    (subst (λ (xs : List Line). Becomes c.args.set.now c.clear_lines.new.set
    (λ (n : ℕ) (entry : Test). not (reads_in n (lines_of xs)) && entry))
    c.deref.ensures.value c.clear_lines.ensures)
    (subst (λ (xs : List Line). Becomes c.clear_lines.new.set c.clear_lines-in-If.new.set
    (λ (n : ℕ) (entry : Test). not (reads_in n (lines_of xs)) && entry)) c.deref-in-If.ensures.value
    c.clear_lines-in-If.ensures))
    c.clear_atom-in-If.ensures

pub clear_line-returns-in-Loop : goal.clear_line-returns-in-Loop
clear_line-returns-in-Loop t c =
    let test = λ (n : ℕ). reads_in n (lines_of c.in-Loop.test.items) in
    let body = λ (n : ℕ). reads_in n (lines_of c.in-Loop.body.items) in
    clear_then c.args.set.now c.clear_atom-in-Loop.new.set _ test (λ (n : ℕ). reads n c.in-Loop.answer || body n)
    (λ (n : ℕ). reads_in n (line_before c.args.line.now NoLine))
    (loop_reads c.args.line.now c.in-Loop.site c.in-Loop.test_first c.in-Loop.test c.in-Loop.answer c.in-Loop.body
    c.in-Loop.is)
    (clear_then c.args.set.now c.clear_lines-in-Loop.new.set c.clear_atom-in-Loop.new.set
    (λ (n : ℕ). reads n c.in-Loop.answer) body (λ (n : ℕ). reads n c.in-Loop.answer || body n) (λ (n : ℕ). refl)
    (subst (λ (xs : List Line). Becomes c.args.set.now c.clear_lines-in-Loop.new.set
    (λ (n : ℕ) (entry : Test). not (reads_in n (lines_of xs)) && entry)) c.deref-in-Loop.ensures.value
    c.clear_lines-in-Loop.ensures)
    c.clear_atom-in-Loop.ensures)
    (subst (λ (xs : List Line). Becomes c.clear_atom-in-Loop.new.set c.clear_lines-in-Loop-2.new.set
    (λ (n : ℕ) (entry : Test). not (reads_in n (lines_of xs)) && entry)) c.deref-in-Loop-2.ensures.value
    c.clear_lines-in-Loop-2.ensures)

pub clear_lines-loop-line-preserved : goal.clear_lines-loop-line-preserved
clear_lines-loop-line-preserved t c =
    lines_step c.args.set.now c.loop-line.set c.clear_line.new.set c.args.lines.now c.loop-line.line-index
    c.line-item.result c.loop-line-test.true c.line-item.is c.loop-line.invariant c.clear_line.ensures
