use Rattle.std.proofs.Common.{◌≡◌, ◌-◌, ◌+◌, sym, arith}
use Rattle.cl_scope.proofs.ScopeLaws.{found_here}
use Rattle.cl_scope.proofs.lookup.found_in.Goals as goal

pub returns-in-Some : goal.returns-in-Some
returns-in-Some c =
    let e : c.loop-index.index - 1 + 1 ≡ c.loop-index.index = omega arith in
    sym (found_here c.args.scopes.now (c.loop-index.index - 1) c.index-scopes-index.result c.args.name.now
    c.in-Some.entry (omega arith) c.index-scopes-index.is (rw e c.loop-index.invariant.inner)
    (sym c.in-Some.ensures))
