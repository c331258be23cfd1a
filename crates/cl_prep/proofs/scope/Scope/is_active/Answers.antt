use Rattle.std.proofs.Common.{ℕ, ◌==◌, ap, ◌∙◌}
use Rattle.cl_prep.proofs.ScopeLaws.{active_is}
use Rattle.cl_prep.proofs.scope.Scope.is_active.Goals as goal

pub returns : goal.returns
returns c = ap (λ (n : ℕ). n == 0) c.args.self.now.counted ∙ active_is c.args.self.now.conditionals.items
