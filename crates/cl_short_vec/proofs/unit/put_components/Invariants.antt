use Rattle.std.proofs.Common.{◌≡◌, drop}
use Rattle.cl_tree.specs.Syntax.{joined, views}
use Rattle.cl_short_vec.specs.Unit as spec
use Rattle.cl_short_vec.specs.View.{named_of}
use Rattle.cl_short_vec.proofs.unit.put_components.Given as goal

abbrev pub invariant-loop-component : goal.invariant-loop-component
invariant-loop-component l =
    joined (views l.list.items) (spec.component_declarators (named_of l.variable)
    (drop l.component-index l.components)) ≡ joined (views l.fn.list.items)
    (spec.component_declarators (named_of l.variable) l.components)
