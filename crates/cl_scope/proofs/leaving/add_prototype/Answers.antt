use Rattle.std.proofs.Common.{List, false, ◌∙◌, ap, sym}
use Rattle.std.proofs.lemmas.Result.{on_ok_weaker}
use Rattle.wg_num.specs.declared.types.Place.{Place}
use Rattle.cl_meaning.specs.declared.kind.Meaning.{Meaning}
use Rattle.cl_meaning.specs.Environment.{declare}
use Rattle.cl_scope.specs.View.{env_of}
use Rattle.cl_scope.proofs.Departures.{prototype_is}
use Rattle.cl_scope.proofs.leaving.add_prototype.Goals as goal

pub returns : goal.returns
returns c = on_ok_weaker c.declare.result
    (λ h (places : List Place).
    h places
    ∙ ap (λ (m : Meaning). declare (env_of places c.args.environment.now) c.args.name.now (record {
      meaning = m;
      firm = false;
    })) c.in_ok-meaning.ensures
    ∙ prototype_is (env_of places c.args.environment.now) c.args.name.now (sym c.is_announced.ensures ∙
    c.if-not-is_announced.false))
    c.declare.ensures
