use Rattle.cl_tree.specs.Syntax.{joined, views}
use Rattle.cl_short_vec.specs.Unit.{component_declarators}
use Rattle.cl_short_vec.specs.View.{named_of}
use Rattle.cl_short_vec.proofs.Units.{components_more, components_done}
use Rattle.cl_short_vec.proofs.unit.put_components.Goals as goal

pub loop-component-preserved : goal.loop-component-preserved
loop-component-preserved c =
    components_more (named_of c.args.variable) c.args.components.now c.loop-component.component-index
    c.loop-component.list.items (joined (views c.args.list.now.items)
    (component_declarators (named_of c.args.variable) c.args.components.now)) c.loop-component.invariant
    c.in_ok-declarator.declarator c.push.new.list.items c.loop-component-test.true c.in_ok-declarator.ensures
    c.in_ok-push.ensures

pub returns : goal.returns
returns c =
    components_done (named_of c.args.variable) c.args.components.now c.loop-component.component-index
    c.loop-component.list.items (joined (views c.args.list.now.items)
    (component_declarators (named_of c.args.variable) c.args.components.now)) c.loop-component.invariant
    c.loop-component-test.false
