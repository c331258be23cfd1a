use Rattle.std.proofs.Common.{ℕ, ◌<◌}
use Rattle.cl_token.specs.Spelling.{ClosesAt}
use Rattle.cl_token.proofs.lexeme.close_of.Given as goal

abbrev pub invariant-loop-place : goal.invariant-loop-place
invariant-loop-place l = (k : ℕ) → k < l.place → ClosesAt l.text k → ⊥
