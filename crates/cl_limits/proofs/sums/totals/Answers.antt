use Rattle.std.proofs.Common.{◌≡◌, ℕ, ◌≤◌, List, length, map, ap, sym, ◌∙◌, arith, rules}
use Rattle.cl_meaning.specs.Faults.{Call}
use Rattle.cl_meaning.specs.Calls.{call_of}
use Rattle.cl_limits.specs.Rounds.{next_totals, totals_after}
use Rattle.cl_limits.proofs.Summing.{steady, totals_are, totals_size}
use Rattle.cl_limits.proofs.sums.totals.Goals as goal

settled : (n cap : ℕ) (own : List ℕ) (calls : List Call) (counts seen next left right : List ℕ) → n ≤ length own →
    counts ≡ totals_after n cap own calls → seen ≡ counts → next ≡ next_totals cap own calls seen
    → left ≡ next → right ≡ counts → left ≡ right → counts ≡ totals_after (length own) cap own calls
settled n cap own calls counts seen next left right h e s k l r q =
    steady (length own) n cap own calls counts h e (sym (ap (next_totals cap own calls) s) ∙
    (sym k ∙ (sym l ∙ (q ∙ r))))

last_round : (n cap : ℕ) (own : List ℕ) (calls : List Call) (counts : List ℕ) → n ≤ length own → length own ≤ n →
    counts ≡ totals_after n cap own calls → counts ≡ totals_after (length own) cap own calls
last_round n cap own calls counts h k e = let z : n ≡ length own =
    omega arith in e ∙ ap (λ i. totals_after i cap own calls) z

pub returns-then-same_values-clause-size : goal.returns-then-same_values-clause-size
returns-then-same_values-clause-size c =
    totals_size c.args.cap c.args.own.now (map call_of c.args.calls.now) c.loop-round.counts.items
    (settled c.loop-round._round c.args.cap c.args.own.now (map call_of c.args.calls.now) c.loop-round.counts.items
    c.deref.result.now c.in_ok-next.next.items c.deref-in-loop-round.result.now c.deref-in-loop-round-2.result.now
    c.loop-round.auto._round-end c.loop-round.invariant c.deref.ensures.value c.in_ok-next.ensures
    c.deref-in-loop-round.ensures.value c.deref-in-loop-round-2.ensures.value
    (c.same_values.ensures.0 (search rules)))

pub returns-then-same_values-clause-each : goal.returns-then-same_values-clause-each
returns-then-same_values-clause-each c =
    totals_are c.args.cap c.args.own.now (map call_of c.args.calls.now) c.loop-round.counts.items
    (settled c.loop-round._round c.args.cap c.args.own.now (map call_of c.args.calls.now) c.loop-round.counts.items
    c.deref.result.now c.in_ok-next.next.items c.deref-in-loop-round.result.now c.deref-in-loop-round-2.result.now
    c.loop-round.auto._round-end c.loop-round.invariant c.deref.ensures.value c.in_ok-next.ensures
    c.deref-in-loop-round.ensures.value c.deref-in-loop-round-2.ensures.value
    (c.same_values.ensures.0 (search rules)))

pub returns-clause-size : goal.returns-clause-size
returns-clause-size c =
    totals_size c.args.cap c.args.own.now (map call_of c.args.calls.now) c.loop-round.counts.items
    (last_round c.loop-round._round c.args.cap c.args.own.now (map call_of c.args.calls.now) c.loop-round.counts.items
    c.loop-round.auto._round-end c.loop-round-test.false c.loop-round.invariant)

pub returns-clause-each : goal.returns-clause-each
returns-clause-each c =
    totals_are c.args.cap c.args.own.now (map call_of c.args.calls.now) c.loop-round.counts.items
    (last_round c.loop-round._round c.args.cap c.args.own.now (map call_of c.args.calls.now) c.loop-round.counts.items
    c.loop-round.auto._round-end c.loop-round-test.false c.loop-round.invariant)
