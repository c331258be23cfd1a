use Rattle.std.proofs.Common.{List}
use Rattle.std.proofs.lemmas.Result.{on_ok_weaker}
use Rattle.wg_num.specs.declared.types.Place.{Place}
use Rattle.cl_tree.specs.Syntax.{view}
use Rattle.cl_meaning.specs.Visible.{later}
use Rattle.cl_scope.specs.View.{env_of}
use Rattle.cl_scope.proofs.Departures.{later_elsewhere}
use Rattle.cl_scope.proofs.between.later.Goals as goal

pub returns-in-FunctionNode : goal.returns-in-FunctionNode
unfolding later
returns-in-FunctionNode c = on_ok_weaker c.behind_part.result
    (λ h (places : List Place). rw c.in-FunctionNode.is (h places))
    c.behind_part.ensures

pub returns-in-PrototypeNode : goal.returns-in-PrototypeNode
unfolding later
returns-in-PrototypeNode c = on_ok_weaker c.behind_prototype_part.result
    (λ h (places : List Place). rw c.in-PrototypeNode.is (h places))
    c.behind_prototype_part.ensures

pub returns-in-DeclareNode : goal.returns-in-DeclareNode
unfolding later
returns-in-DeclareNode c = λ places. rw c.in-DeclareNode.is (c.behind_type.ensures places)

pub returns-in-SwitchNode : goal.returns-in-SwitchNode
unfolding later
returns-in-SwitchNode c = λ places. rw c.in-SwitchNode.is (c.behind_value.ensures places)

pub returns-in-CaseNode : goal.returns-in-CaseNode
unfolding later
returns-in-CaseNode c = on_ok_weaker c.behind_label.result
    (λ h (places : List Place). rw c.in-CaseNode.is (h places))
    c.behind_label.ensures

pub returns-in_default : goal.returns-in_default
returns-in_default c = λ places. later_elsewhere (env_of places c.args.environment.now) c.args.form c.args.front
    (view c.args.part.now) c.args.kind c.in_default.not-FunctionNode c.in_default.not-PrototypeNode
    c.in_default.not-DeclareNode c.in_default.not-SwitchNode c.in_default.not-CaseNode
