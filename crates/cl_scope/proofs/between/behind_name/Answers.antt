use Rattle.std.proofs.Common.{List, ◌∙◌, ap}
use Rattle.std.proofs.lemmas.Result.{on_ok_weaker}
use Rattle.wg_num.specs.declared.types.Place.{Place}
use Rattle.cl_meaning.specs.Environment.{Env}
use Rattle.cl_meaning.specs.Visible.{opened}
use Rattle.cl_scope.proofs.between.behind_name.Goals as goal

pub returns : goal.returns
returns c = on_ok_weaker c.open.result
    (λ h (places : List Place). h places ∙ ap (λ (e : Env). opened e) (c.in_ok-add_own.ensures places))
    c.open.ensures
