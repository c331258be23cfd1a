use Rattle.std.proofs.Common.{List, ◌∙◌, ap, sym}
use Rattle.std.proofs.lemmas.Result.{on_ok_weaker}
use Rattle.wg_num.specs.declared.types.Place.{Place}
use Rattle.cl_tree.specs.declared.tree.Form.{Form}
use Rattle.cl_tree.specs.Syntax.{view}
use Rattle.cl_meaning.specs.Environment.{Env}
use Rattle.cl_meaning.specs.Visible.{behind_prototype_part, opened}
use Rattle.cl_scope.specs.View.{env_of}
use Rattle.cl_scope.proofs.Departures.{form_view}
use Rattle.cl_scope.proofs.between.behind_prototype_part.Goals as goal

pub returns-in-HeadNode : goal.returns-in-HeadNode
returns-in-HeadNode c = on_ok_weaker c.behind_head.result
    (λ h (places : List Place). h places ∙
    ap (λ (f : Form). behind_prototype_part (env_of places c.args.environment.now) f (view c.args.part.now))
    (sym (form_view c.args.part.now ∙ c.in-HeadNode.is)))
    c.behind_head.ensures

pub returns-in-ResultNode : goal.returns-in-ResultNode
returns-in-ResultNode c = on_ok_weaker c.open.result
    (λ h (places : List Place). h places
    ∙ ap (λ (e : Env). opened e) (c.behind_result.ensures places)
    ∙ ap (λ (f : Form). behind_prototype_part (env_of places c.args.environment.now) f (view c.args.part.now))
    (sym (form_view c.args.part.now ∙ c.in-ResultNode.is)))
    c.open.ensures
