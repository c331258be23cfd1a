use Rattle.std.proofs.Common.{inl, inr}
use Rattle.cl_scope.proofs.walk.enter_form.Goals as goal

pub returns-in_ok-enter_definition-in-FunctionNode-clause-inside :
    goal.returns-in_ok-enter_definition-in-FunctionNode-clause-inside
returns-in_ok-enter_definition-in-FunctionNode-clause-inside c =
    λ places. rw c.in-FunctionNode.is (c.in_ok-enter_definition-in-FunctionNode.ensures.inside places)

pub returns-in_ok-enter_prototype-in-PrototypeNode-clause-inside :
    goal.returns-in_ok-enter_prototype-in-PrototypeNode-clause-inside
returns-in_ok-enter_prototype-in-PrototypeNode-clause-inside c =
    λ places. rw c.in-PrototypeNode.is (c.in_ok-enter_prototype-in-PrototypeNode.ensures.inside places)

pub returns-in-WhileNode-clause-inside : goal.returns-in-WhileNode-clause-inside
returns-in-WhileNode-clause-inside c =
    λ places. elim c.in-WhileNode.is [
      | inl e ↦ rw e (c.enter_loop.ensures.inside places)
      | inr e ↦
          rw e (c.enter_loop.ensures.inside places)
    ]

pub returns-in_ok-enter_for-in-ForNode-clause-inside : goal.returns-in_ok-enter_for-in-ForNode-clause-inside
returns-in_ok-enter_for-in-ForNode-clause-inside c =
    λ places. rw c.in-ForNode.is (c.in_ok-enter_for-in-ForNode.ensures.inside places)

pub returns-in-SwitchNode-clause-inside : goal.returns-in-SwitchNode-clause-inside
returns-in-SwitchNode-clause-inside c = λ places. rw c.in-SwitchNode.is (c.enter_switch.ensures.inside places)

pub returns-in_ok-enter_default-in-DefaultNode-clause-inside :
    goal.returns-in_ok-enter_default-in-DefaultNode-clause-inside
returns-in_ok-enter_default-in-DefaultNode-clause-inside c =
    λ places. rw c.in-DefaultNode.is (c.in_ok-enter_default-in-DefaultNode.ensures.inside places)
