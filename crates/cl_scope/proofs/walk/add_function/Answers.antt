use Rattle.std.proofs.Common.{List, ◌∙◌, ap}
use Rattle.std.proofs.lemmas.Result.{on_ok_weaker}
use Rattle.wg_num.specs.declared.types.Place.{Place}
use Rattle.cl_meaning.specs.declared.kind.Meaning.{Meaning}
use Rattle.cl_meaning.specs.Environment.{declare}
use Rattle.cl_meaning.specs.Declarations.{firm}
use Rattle.cl_scope.specs.View.{env_of}
use Rattle.cl_scope.proofs.walk.add_function.Goals as goal

pub returns : goal.returns
returns c = on_ok_weaker c.declare.result
    (λ h (places : List Place). h places ∙
    ap (λ (m : Meaning). declare (env_of places c.args.environment.now) c.args.name.now (firm m))
    c.in_ok-meaning.ensures)
    c.declare.ensures
