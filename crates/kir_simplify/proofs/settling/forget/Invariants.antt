use Rattle.std.proofs.Common.{◌≡◌, ℕ, vec_len}
use Rattle.kir_simplify.specs.Tables.{known_by, unlearned}
use Rattle.kir_simplify.proofs.settling.forget.Given as goal

abbrev pub invariant-loop-learned : goal.invariant-loop-learned
invariant-loop-learned l =
    (c : ℕ) → unlearned l.trail.items (known_by l.known.items) c ≡
    unlearned l.fn.trail.items (known_by l.fn.known.items) c

abbrev pub decreases-loop-learned : goal.decreases-loop-learned
decreases-loop-learned l = vec_len l.trail
