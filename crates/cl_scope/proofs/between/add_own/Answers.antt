use Rattle.std.proofs.Common.{List, [], ◌∷◌, ◌++◌, ◌∙◌, ap}
use Rattle.std.proofs.lemmas.Result.{on_ok_weaker}
use Rattle.wg_num.specs.declared.types.Place.{Place}
use Rattle.cl_meaning.specs.Environment.{Scope}
use Rattle.cl_scope.specs.View.{env_of}
use Rattle.cl_scope.proofs.between.add_own.Goals as goal

pub returns : goal.returns
returns c = on_ok_weaker c.push_scope.result
    (λ h (places : List Place). h places ∙
    ap (λ (s : Scope). record (env_of places c.args.environment.now) {
      scopes = (env_of places c.args.environment.now).scopes ++ s ∷ [];
    }) c.in_ok-scope.ensures)
    c.push_scope.ensures
