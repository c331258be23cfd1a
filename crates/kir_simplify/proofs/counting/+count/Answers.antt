use Rattle.std.proofs.Common.{◌≡◌, ℕ, ◌+◌, List, get_or, ap, ◌∙◌}
use Rattle.std.proofs.lemmas.Result.{on_ok_weaker}
use Rattle.kir.specs.declared.line.Line.{Line}
use Rattle.kir.specs.Tree.{NoLine}
use Rattle.kir.specs.Listed.{line_before, lines_of}
use Rattle.kir_simplify.specs.Reading.{sets_in, up_to_two}
use Rattle.kir_simplify.proofs.Folds.{count_step, if_counted, loop_counted}
use Rattle.kir_simplify.proofs.counting.+count.Goals as goal

pub count_line-returns-in_ok-count_lines-in-If : goal.count_line-returns-in_ok-count_lines-in-If
count_line-returns-in_ok-count_lines-in-If t c =
    let one : (n : ℕ) → up_to_two (get_or c.count_lines.new.sets.items n 0) ≡
    up_to_two (sets_in n (lines_of c.in-If.yes.items) + get_or c.args.sets.now.items n 0) =
    λ n. c.in_ok-count_lines-in-If.ensures n ∙
    ap (λ (xs : List Line). up_to_two (sets_in n (lines_of xs) + get_or c.args.sets.now.items n 0))
    c.deref.ensures.value in
    let both : ((n : ℕ) → up_to_two (get_or c.count_lines-in-If.new.sets.items n 0) ≡
    up_to_two (sets_in n (lines_of c.deref-in-If.result.now) + get_or c.count_lines.new.sets.items n 0)) →
    (n : ℕ) → up_to_two (get_or c.count_lines-in-If.new.sets.items n 0) ≡
    up_to_two (sets_in n (line_before c.args.line.now NoLine) + get_or c.args.sets.now.items n 0) =
    λ two. if_counted c.args.line.now c.in-If.site c.in-If.test c.in-If.yes c.in-If.no c.args.sets.now.items
    c.count_lines.new.sets.items c.count_lines-in-If.new.sets.items c.in-If.is one
    (λ n. two n ∙ ap (λ (xs : List Line). up_to_two (sets_in n (lines_of xs) +
    get_or c.count_lines.new.sets.items n 0))
    c.deref-in-If.ensures.value) in
    on_ok_weaker c.count_lines-in-If.result both c.count_lines-in-If.ensures

pub count_line-returns-in_ok-count_lines-in-Loop : goal.count_line-returns-in_ok-count_lines-in-Loop
count_line-returns-in_ok-count_lines-in-Loop t c =
    let one : (n : ℕ) → up_to_two (get_or c.count_lines-in-Loop.new.sets.items n 0) ≡
    up_to_two (sets_in n (lines_of c.in-Loop.test.items) + get_or c.args.sets.now.items n 0) =
    λ n. c.in_ok-count_lines-in-Loop.ensures n ∙
    ap (λ (xs : List Line). up_to_two (sets_in n (lines_of xs) + get_or c.args.sets.now.items n 0))
    c.deref-in-Loop.ensures.value in
    let both : ((n : ℕ) → up_to_two (get_or c.count_lines-in-Loop-2.new.sets.items n 0) ≡
    up_to_two (sets_in n (lines_of c.deref-in-Loop-2.result.now) + get_or c.count_lines-in-Loop.new.sets.items n 0)) →
    (n : ℕ) → up_to_two (get_or c.count_lines-in-Loop-2.new.sets.items n 0) ≡
    up_to_two (sets_in n (line_before c.args.line.now NoLine) + get_or c.args.sets.now.items n 0) =
    λ two. loop_counted c.args.line.now c.in-Loop.site c.in-Loop.test_first c.in-Loop.test c.in-Loop.answer
    c.in-Loop.body c.args.sets.now.items c.count_lines-in-Loop.new.sets.items c.count_lines-in-Loop-2.new.sets.items
    c.in-Loop.is one
    (λ n. two n ∙ ap (λ (xs : List Line). up_to_two (sets_in n (lines_of xs) +
    get_or c.count_lines-in-Loop.new.sets.items n 0))
    c.deref-in-Loop-2.ensures.value) in
    on_ok_weaker c.count_lines-in-Loop-2.result both c.count_lines-in-Loop-2.ensures

pub count_lines-loop-line-preserved : goal.count_lines-loop-line-preserved
count_lines-loop-line-preserved t c =
    count_step c.args.sets.now.items c.loop-line.sets.items c.count_line.new.sets.items c.args.lines.now
    c.loop-line.line-index
    c.line-item.result c.loop-line-test.true c.line-item.is c.in_ok-count_line.ensures c.loop-line.invariant
