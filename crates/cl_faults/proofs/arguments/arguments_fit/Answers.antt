use Rattle.std.proofs.Common.{◌≡◌, drop, true, sym, ◌∙◌}
use Rattle.std.proofs.lemmas.List.{drop_all}
use Rattle.cl_meaning.specs.Kinds.{arguments_fit}
use Rattle.cl_faults.specs.Known.{known}
use Rattle.cl_faults.proofs.Known.{no_argument}
use Rattle.cl_faults.proofs.arguments.arguments_fit.Goals as goal

pub returns : goal.returns
returns c =
    let all : arguments_fit c.loop-kind.left.now (known (drop c.loop-kind.kind-index c.args.kinds.now)) ≡ true =
    rw (drop_all c.loop-kind.kind-index c.args.kinds.now c.loop-kind-test.false)
    (no_argument c.loop-kind.left.now) in
    sym all ∙ c.loop-kind.invariant
