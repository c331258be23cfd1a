use Rattle.std.proofs.Common.{arith}
use Rattle.cl_prep.proofs.ScopeLaws.{idle_within}
use Rattle.cl_prep.proofs.scope.Scope.open.Goals as goal

pub overflow_add-self : goal.overflow_add-self
overflow_add-self c =
    omega (
      arith,
      c.args.self.now.counted,
      idle_within c.args.self.now.conditionals.items,
      c.args.self.now.conditionals.ok,
      c.args.self.now.conditionals.small,
    )
