use Rattle.std.proofs.Common.{◌+◌, List, Option, ap, ◌∙◌, sym, subst, refl, drop, arith}
use Rattle.std.specs.Prelude.{true}
use Rattle.kir.specs.declared.line.Atom.{Atom}
use Rattle.kir.specs.declared.line.Line.{Line}
use Rattle.kir.specs.Tree.{NoLine}
use Rattle.kir.specs.Listed.{lines_of}
use Rattle.kir_simplify.specs.Computable.{AreComputable}
use Rattle.kir_simplify.specs.Passes.{folded, known_atom, size_of, with_offsets}
use Rattle.kir_simplify.specs.Tables.{known_by, known_in, offsets_by, once_by}
use Rattle.kir_simplify.proofs.Walks.{walk_end}
use Rattle.kir_simplify.proofs.Folds.{if_folded_on, loop_folded_on, same_where, inside_where}
use Rattle.kir_simplify.proofs.Computed.{first_asked, next_asked, same_asked, if_asked, loop_asked}
use Rattle.kir_simplify.proofs.Sizes.{one_within, if_larger, loop_larger}
use Rattle.kir_simplify.proofs.folding.+fold.Goals as goal

pub fold_lines-returns-clause-made : goal.fold_lines-returns-clause-made
fold_lines-returns-clause-made t c =
    walk_end (folded (once_by c.args.facts.now) (offsets_by c.args.facts.now)
    (known_in c.args.facts.now c.args.in_loop c.loop-line.known.items)) (lines_of c.loop-line.made.items)
    _ c.args.lines.now c.loop-line.line-index c.loop-line-test.false refl c.loop-line.invariant.made

pub fold_onto-returns-in_ok-add_if-in-If-clause-made : goal.fold_onto-returns-in_ok-add_if-in-If-clause-made
fold_onto-returns-in_ok-add_if-in-If-clause-made t c = λ rest.
    let facts = c.args.facts.now in
    let once = once_by facts in
    let os = offsets_by facts in
    let at = known_in facts c.args.in_loop in
    let old = c.args.known.now.items in
    let mid = c.fold_lines.new.known.items in
    let new = c.fold_lines-in-If.new.known.items in
    c.in_ok-add_if-in-If.ensures (folded once os (at new) rest) ∙
    if_folded_on once os (at old) (at mid) (at new) c.args.line.now c.in-If.site c.in-If.test
    c.known_atom-test.result c.in-If.yes c.in-If.no (lines_of c.args.made.now.items) _ _
    (same_where os c.args.in_loop (known_by old) (known_by mid) c.in_ok-yes-in-If.ensures.forgotten)
    (same_where os c.args.in_loop (known_by mid) (known_by new) c.in_ok-no-in-If.ensures.forgotten) c.in-If.is
    (c.known_atom-test.ensures ∙ ap (λ (x : List (Option Atom)). known_atom (at x) c.in-If.test) c.deref.ensures.value)
    (c.in_ok-yes-in-If.ensures.made ∙ ap (λ (y : List Line). folded once os (at old) (lines_of y))
    c.deref-in-If.ensures.value)
    (c.in_ok-no-in-If.ensures.made ∙ ap (λ (y : List Line). folded once os (at mid) (lines_of y))
    c.deref-in-If-2.ensures.value) rest

pub fold_onto-returns-in_ok-add_loop-in-Loop-clause-made : goal.fold_onto-returns-in_ok-add_loop-in-Loop-clause-made
fold_onto-returns-in_ok-add_loop-in-Loop-clause-made t c = λ rest.
    let facts = c.args.facts.now in
    let once = once_by facts in
    let os = offsets_by facts in
    let at = known_in facts c.args.in_loop in
    let inside = known_in facts true in
    let old = c.args.known.now.items in
    let mid = c.fold_lines-in-Loop.new.known.items in
    let new = c.fold_lines-in-Loop-2.new.known.items in
    c.in_ok-add_loop-in-Loop.ensures (folded once os (at new) rest) ∙
    loop_folded_on once os (at old) (inside old) (inside mid) (at new) c.args.line.now c.in-Loop.site
    c.in-Loop.test_first c.in-Loop.test c.in-Loop.answer c.known_atom-answer.result c.in-Loop.body
    (lines_of c.args.made.now.items) _ _ (inside_where os c.args.in_loop (known_by old))
    (same_where os true (known_by old) (known_by mid) c.in_ok-test-in-Loop.ensures.forgotten)
    (same_where os c.args.in_loop (known_by old) (known_by new)
    (λ n. c.in_ok-body-in-Loop.ensures.forgotten n ∙ c.in_ok-test-in-Loop.ensures.forgotten n))
    c.in-Loop.is
    (c.known_atom-answer.ensures ∙ ap (λ (x : List (Option Atom)). known_atom (inside x) c.in-Loop.answer)
    c.deref-in-Loop.ensures.value)
    (c.in_ok-test-in-Loop.ensures.made ∙ ap (λ (y : List Line). folded once os (inside old) (lines_of y))
    c.deref-in-Loop-2.ensures.value)
    (c.in_ok-body-in-Loop.ensures.made ∙ ap (λ (y : List Line). folded once os (inside mid) (lines_of y))
    c.deref-in-Loop-3.ensures.value) rest

pub fold_lines-fold_onto-requires : goal.fold_lines-fold_onto-requires
fold_lines-fold_onto-requires t c =
    let once = once_by c.args.facts.now in
    let os = offsets_by c.args.facts.now in
    let known = known_in c.args.facts.now c.args.in_loop c.loop-line.known.items in
    let i = c.loop-line.line-index in (
      omega (arith, one_within c.args.lines.now i c.line-item.result c.loop-line-test.true c.line-item.is),
      first_asked once os known c.line-item.result (lines_of (drop (i + 1) c.args.lines.now))
          (next_asked once os known c.args.lines.now i c.line-item.result c.loop-line-test.true c.line-item.is
          c.loop-line.invariant.computable),
    )

pub fold_onto-fold_lines-requires : goal.fold_onto-fold_lines-requires
fold_onto-fold_lines-requires t c =
    let once = once_by c.args.facts.now in
    let os = offsets_by c.args.facts.now in
    let known = known_in c.args.facts.now c.args.in_loop c.args.known.now.items in (
      omega (
        arith,
        if_larger c.args.line.now c.in-If.site c.in-If.test c.in-If.yes c.in-If.no c.in-If.is,
        ap (λ (ls : List Line). size_of (lines_of ls)) c.deref-in-If.ensures.value,
      ),
      subst (λ (ls : List Line). AreComputable once os known (lines_of ls)) (sym c.deref-in-If.ensures.value)
          (if_asked once os known c.args.line.now c.in-If.site c.in-If.test c.in-If.yes c.in-If.no c.in-If.is NoLine
          c.requires).0,
    )

pub fold_onto-fold_lines-requires-in-If : goal.fold_onto-fold_lines-requires-in-If
fold_onto-fold_lines-requires-in-If t c =
    let once = once_by c.args.facts.now in
    let os = offsets_by c.args.facts.now in
    let old = c.args.known.now.items in
    let mid = c.fold_lines.new.known.items in
    let at = known_in c.args.facts.now c.args.in_loop in (
      omega (
        arith,
        if_larger c.args.line.now c.in-If.site c.in-If.test c.in-If.yes c.in-If.no c.in-If.is,
        ap (λ (ls : List Line). size_of (lines_of ls)) c.deref-in-If-2.ensures.value,
      ),
      subst (λ (ls : List Line). AreComputable once os (at mid) (lines_of ls)) (sym c.deref-in-If-2.ensures.value)
          (same_asked once os (at old) (at mid) (lines_of c.in-If.no.items)
          (same_where os c.args.in_loop (known_by old) (known_by mid) c.in_ok-yes-in-If.ensures.forgotten)
          (if_asked once os (at old) c.args.line.now c.in-If.site c.in-If.test c.in-If.yes c.in-If.no c.in-If.is NoLine
          c.requires).1),
    )

pub fold_onto-fold_lines-requires-in-Loop : goal.fold_onto-fold_lines-requires-in-Loop
fold_onto-fold_lines-requires-in-Loop t c =
    let once = once_by c.args.facts.now in
    let os = offsets_by c.args.facts.now in
    let old = c.args.known.now.items in
    let known = known_in c.args.facts.now c.args.in_loop old in
    let inside = known_in c.args.facts.now true old in (
      omega (
        arith,
        loop_larger c.args.line.now c.in-Loop.site c.in-Loop.test_first c.in-Loop.test c.in-Loop.answer
            c.in-Loop.body c.in-Loop.is,
        ap (λ (ls : List Line). size_of (lines_of ls)) c.deref-in-Loop-2.ensures.value,
      ),
      subst (λ (ls : List Line). AreComputable once os inside (lines_of ls)) (sym c.deref-in-Loop-2.ensures.value)
          (same_asked once os (with_offsets os known) inside (lines_of c.in-Loop.test.items)
          (inside_where os c.args.in_loop (known_by old))
          (loop_asked once os known c.args.line.now c.in-Loop.site c.in-Loop.test_first c.in-Loop.test
          c.in-Loop.answer c.in-Loop.body c.in-Loop.is NoLine c.requires).0),
    )

pub fold_onto-fold_lines-requires-in-Loop-2 : goal.fold_onto-fold_lines-requires-in-Loop-2
fold_onto-fold_lines-requires-in-Loop-2 t c =
    let once = once_by c.args.facts.now in
    let os = offsets_by c.args.facts.now in
    let old = c.args.known.now.items in
    let mid = c.fold_lines-in-Loop.new.known.items in
    let known = known_in c.args.facts.now c.args.in_loop old in
    let inside = known_in c.args.facts.now true in (
      omega (
        arith,
        loop_larger c.args.line.now c.in-Loop.site c.in-Loop.test_first c.in-Loop.test c.in-Loop.answer
            c.in-Loop.body c.in-Loop.is,
        ap (λ (ls : List Line). size_of (lines_of ls)) c.deref-in-Loop-3.ensures.value,
      ),
      subst (λ (ls : List Line). AreComputable once os (inside mid) (lines_of ls)) (sym c.deref-in-Loop-3.ensures.value)
          (same_asked once os (with_offsets os known) (inside mid) (lines_of c.in-Loop.body.items)
          (λ n. same_where os true (known_by old) (known_by mid) c.in_ok-test-in-Loop.ensures.forgotten n ∙
          inside_where os c.args.in_loop (known_by old) n)
          (loop_asked once os known c.args.line.now c.in-Loop.site c.in-Loop.test_first c.in-Loop.test
          c.in-Loop.answer c.in-Loop.body c.in-Loop.is NoLine c.requires).1),
    )
