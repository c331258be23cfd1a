use Rattle.std.proofs.Common.{ℕ, List, ap, ◌∙◌}
use Rattle.cl_meaning.specs.Environment.{with_entry}
use Rattle.cl_scope.specs.View.{scope_of}
use Rattle.cl_scope.proofs.ScopeLaws.{inserted}
use Rattle.cl_scope.proofs.scopes.insert.Goals as goal
use Rattle.cl_scope.proofs.scopes.insert.Goals.{in-Ok, in-Err}

pub returns : goal.returns
returns c = elim c.match-insert.branch [
  | in-Ok w ↦ rw w.result-is
      (inserted c.args.scope.now c.insert.new.self c.in_ok-key.key.items c.args.entry w.in-Ok.ensures.updates
      ∙ ap (λ (name : List ℕ). with_entry (scope_of c.args.scope.now) name c.args.entry) c.in_ok-key.ensures)
  | in-Err w ↦ rw w.result-is tt
]
