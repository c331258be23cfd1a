use Rattle.std.proofs.Common.{◌∙◌, ap, inl, inr}
use Rattle.std.proofs.lemmas.Result.{on_ok_weaker}
use Rattle.cl_meaning.specs.Spelling.{name_in}
use Rattle.cl_meaning.specs.Environment.{Env}
use Rattle.cl_scope.specs.View.{env_of}
use Rattle.cl_scope.proofs.Departures.{function_left, prototype_left, parameter_left, declarator_left, case_left}
use Rattle.cl_scope.proofs.Departures.{default_left, others_left}
use Rattle.cl_scope.proofs.leaving.leave.Goals as goal

pub returns-in-FunctionNode : goal.returns-in-FunctionNode
returns-in-FunctionNode c = on_ok_weaker c.add_function.result
    (λ h (inner : Env) e. h c.args.places.now ∙
    function_left (env_of c.args.places.now c.args.environment.now) inner c.args.tree.now c.args.kinds.now _
    c.in-FunctionNode.is (c.name_of.ensures ∙ ap name_in c.bytes.ensures))
    c.add_function.ensures

pub returns-in-PrototypeNode : goal.returns-in-PrototypeNode
returns-in-PrototypeNode c = on_ok_weaker c.add_prototype.result
    (λ h (inner : Env) e. h c.args.places.now ∙
    prototype_left (env_of c.args.places.now c.args.environment.now) inner c.args.tree.now c.args.kinds.now _
    c.in-PrototypeNode.is (c.name_of-in-PrototypeNode.ensures ∙ ap name_in c.bytes-in-PrototypeNode.ensures))
    c.add_prototype.ensures

pub returns-in-ParamNode : goal.returns-in-ParamNode
returns-in-ParamNode c = on_ok_weaker c.leave_parameter.result
    (λ h (inner : Env) e. h ∙ parameter_left (env_of c.args.places.now c.args.environment.now) inner c.args.tree.now
    c.args.kinds.now c.in-ParamNode.is)
    c.leave_parameter.ensures

pub returns-in-DeclaratorNode : goal.returns-in-DeclaratorNode
returns-in-DeclaratorNode c = on_ok_weaker c.leave_declarator.result
    (λ h (inner : Env) e. h ∙ declarator_left (env_of c.args.places.now c.args.environment.now) inner c.args.tree.now
    c.args.kinds.now c.in-DeclaratorNode.is)
    c.leave_declarator.ensures

pub returns-in-CaseNode : goal.returns-in-CaseNode
returns-in-CaseNode c = λ inner e. elim c.in-CaseNode.is [
  | inl f ↦ case_left (env_of c.args.places.now c.args.environment.now) inner c.args.tree.now c.args.kinds.now _ f e
  | inr f ↦ default_left (env_of c.args.places.now c.args.environment.now) inner c.args.tree.now c.args.kinds.now _ f e
]

pub returns-in_default : goal.returns-in_default
returns-in_default c = λ inner e. others_left (env_of c.args.places.now c.args.environment.now) inner c.args.tree.now
    c.args.kinds.now c.in_default.not-FunctionNode c.in_default.not-PrototypeNode c.in_default.not-ParamNode
    c.in_default.not-DeclaratorNode c.in_default.not-CaseNode c.in_default.not-DefaultNode
