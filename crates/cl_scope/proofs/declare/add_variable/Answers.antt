use Rattle.std.proofs.Common.{ℕ, List, ◌∙◌, ap}
use Rattle.std.proofs.lemmas.Result.{on_ok_weaker}
use Rattle.wg_num.specs.declared.types.Place.{Place}
use Rattle.cl_meaning.specs.Environment.{Env, declare}
use Rattle.cl_meaning.specs.Declarations.{firm}
use Rattle.cl_scope.specs.View.{env_of}
use Rattle.cl_scope.specs.Declarators.{kept_variable}
use Rattle.cl_scope.proofs.declare.add_variable.Goals as goal

pub returns : goal.returns
returns c = on_ok_weaker c.declare.result
    (λ h (places : List Place).
    h places
    ∙ ap (λ (e : Env). declare e c.args.name.now (firm c.args.meaning)) (c.in_ok-push_variable.ensures places)
    ∙ ap (λ (n : List ℕ). declare (kept_variable (env_of places c.args.environment.now) (record {
      name = n;
      kind = c.args.kind;
      place = c.args.place;
    })) c.args.name.now (firm c.args.meaning)) c.in_ok-new.ensures)
    c.declare.ensures
