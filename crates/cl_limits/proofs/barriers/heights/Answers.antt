use Rattle.std.proofs.Common.{◌≡◌, ℕ, ◌≤◌, List, ap, sym, ◌∙◌, arith, rules}
use Rattle.cl_tree.specs.Syntax.{views}
use Rattle.cl_limits.specs.Heights.{functions_among}
use Rattle.cl_limits.specs.declared.points.Point.{Point}
use Rattle.cl_limits.specs.Rounds.{next_heights, heights_after}
use Rattle.cl_limits.proofs.Climbing.{steady, heights_are, heights_size}
use Rattle.cl_limits.proofs.barriers.heights.Goals as goal

settled : (n cap wide count : ℕ) (points seen : List Point) (heights these next left right : List ℕ) → n ≤ count →
    heights ≡ heights_after n cap count points → wide ≡ cap → seen ≡ points → these ≡ heights
    → next ≡ next_heights wide count seen these → left ≡ next → right ≡ heights → left ≡ right →
    heights ≡ heights_after count cap count points
settled n cap wide count points seen heights these next left right h e w s t k l r q =
    steady count n cap count points heights h e
    (sym (ap (λ c. next_heights c count points heights) w) ∙ (sym (ap (λ ps. next_heights wide count ps heights) s) ∙
    (sym (ap (next_heights wide count seen) t) ∙ (sym k ∙ (sym l ∙ (q ∙ r))))))

last_round : (n cap count : ℕ) (points : List Point) (heights : List ℕ) → n ≤ count → count ≤ n →
    heights ≡ heights_after n cap count points → heights ≡ heights_after count cap count points
last_round n cap count points heights h k e = let z : n ≡ count =
    omega arith in e ∙ ap (λ i. heights_after i cap count points) z

pub returns-then-same_values-clause-size : goal.returns-then-same_values-clause-size
returns-then-same_values-clause-size c =
    heights_size c.args.cap c.count_functions-count.result c.in_ok-points.points.items c.loop-round.heights.items
    (settled c.loop-round._round c.args.cap c.from.result c.count_functions-count.result c.in_ok-points.points.items
    c.deref.result.now c.loop-round.heights.items c.deref-in-loop-round.result.now c.in_ok-next.next.items
    c.deref-in-loop-round-2.result.now c.deref-in-loop-round-3.result.now
    c.loop-round.auto._round-end c.loop-round.invariant (search rules) c.deref.ensures.value
    c.deref-in-loop-round.ensures.value c.in_ok-next.ensures c.deref-in-loop-round-2.ensures.value
    c.deref-in-loop-round-3.ensures.value (c.same_values.ensures.0 (search rules)))
    ∙ c.count_functions-count.ensures

pub returns-then-same_values-clause-each : goal.returns-then-same_values-clause-each
returns-then-same_values-clause-each c =
    heights_are c.args.cap c.count_functions-count.result (functions_among (views c.args.trees.now))
    c.in_ok-points.points.items c.loop-round.heights.items c.count_functions-count.ensures c.in_ok-points.ensures
    (settled c.loop-round._round c.args.cap c.from.result c.count_functions-count.result c.in_ok-points.points.items
    c.deref.result.now c.loop-round.heights.items c.deref-in-loop-round.result.now c.in_ok-next.next.items
    c.deref-in-loop-round-2.result.now c.deref-in-loop-round-3.result.now
    c.loop-round.auto._round-end c.loop-round.invariant (search rules) c.deref.ensures.value
    c.deref-in-loop-round.ensures.value c.in_ok-next.ensures c.deref-in-loop-round-2.ensures.value
    c.deref-in-loop-round-3.ensures.value (c.same_values.ensures.0 (search rules)))

pub returns-clause-size : goal.returns-clause-size
returns-clause-size c =
    heights_size c.args.cap c.count_functions-count.result c.in_ok-points.points.items c.loop-round.heights.items
    (last_round c.loop-round._round c.args.cap c.count_functions-count.result c.in_ok-points.points.items
    c.loop-round.heights.items c.loop-round.auto._round-end c.loop-round-test.false c.loop-round.invariant)
    ∙ c.count_functions-count.ensures

pub returns-clause-each : goal.returns-clause-each
returns-clause-each c =
    heights_are c.args.cap c.count_functions-count.result (functions_among (views c.args.trees.now))
    c.in_ok-points.points.items c.loop-round.heights.items c.count_functions-count.ensures c.in_ok-points.ensures
    (last_round c.loop-round._round c.args.cap c.count_functions-count.result c.in_ok-points.points.items
    c.loop-round.heights.items c.loop-round.auto._round-end c.loop-round-test.false c.loop-round.invariant)
