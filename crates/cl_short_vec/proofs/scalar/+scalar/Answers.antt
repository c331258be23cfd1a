use Rattle.std.proofs.Common.{◌∙◌, sym, arith}
use Rattle.cl_tree.specs.Syntax.{view, views}
use Rattle.cl_short_vec.specs.Scalar.{scalars}
use Rattle.cl_short_vec.specs.View.{marks_of}
use Rattle.cl_short_vec.proofs.Marking.{ok_onto}
use Rattle.cl_short_vec.proofs.Scalars.{scalars_more, scalars_done, content_found, element_found, component_many}
use Rattle.cl_short_vec.proofs.Scalars.{one_found, two_found, scalar_many}
use Rattle.cl_short_vec.proofs.scalar.+scalar.Goals as goal

pub component_at-returns-in_ok-part-in-len1 : goal.component_at-returns-in_ok-part-in-len1
component_at-returns-in_ok-part-in-len1 t c =
    ok_onto c.content_component.result _ _ c.content_component.ensures
    (λ a h. h ∙ content_found c.args.node.now c.as_slice.result.now c.as_slice.ensures.value c.args.component
    c.args.span c.a-item.result (view c.in_ok-part-in-len1.part)
    (omega (arith, c.in-len1.len_at_least, c.in-len1.len_below)) c.a-item.is
    (sym c.is_through.ensures ∙ c.if-is_through.false) c.in_ok-part-in-len1.ensures)

pub component_at-returns-in_ok-back-in-len2 : goal.component_at-returns-in_ok-back-in-len2
component_at-returns-in_ok-back-in-len2 t c =
    ok_onto c.element_component.result _ _ c.element_component.ensures
    (λ a h. h ∙ element_found c.args.node.now c.as_slice.result.now c.as_slice.ensures.value c.args.component
    c.args.span c.a-item-then-this-lt3.result c.b-item.result (view c.in_ok-front-in-len2.front)
    (view c.in_ok-back-in-len2.back) (omega (arith, c.in-len2.len_at_least, c.in-len2.len_below))
    c.a-item-then-this-lt3.is c.b-item.is c.in_ok-front-in-len2.ensures c.in_ok-back-in-len2.ensures)

pub component_at-returns-in_ok-parts-in-len3-up : goal.component_at-returns-in_ok-parts-in-len3-up
component_at-returns-in_ok-parts-in-len3-up t c =
    ok_onto c.with_parts.result _ _ c.with_parts.ensures
    (λ a h. h ∙ component_many c.args.node.now c.as_slice.result.now c.as_slice.ensures.value c.args.component
    c.args.span c.deref.result.now (views c.in_ok-parts-in-len3-up.parts.items) c.deref.ensures.value
    c.in-len3-up.len_at_least c.in_ok-parts-in-len3-up.ensures)

pub scalar-returns-in_ok-part-in-None : goal.scalar-returns-in_ok-part-in-None
scalar-returns-in_ok-part-in-None t c =
    ok_onto c.one_by.result _ _ c.one_by.ensures
    (λ a h. h ∙ one_found c.args.node.now c.as_slice.result.now c.as_slice.ensures.value c.a-item.result
    (view c.in_ok-part-in-None.part) (omega (arith, c.in-len1.len_at_least, c.in-len1.len_below)) c.a-item.is
    (sym c.in-None.is ∙ c.in_ok-component-in-len1.ensures) c.in_ok-part-in-None.ensures)

pub scalar-returns-in_ok-back-in-len2 : goal.scalar-returns-in_ok-back-in-len2
scalar-returns-in_ok-back-in-len2 t c =
    ok_onto c.two_by.result _ _ c.two_by.ensures
    (λ a h. h ∙ two_found c.args.node.now c.as_slice.result.now c.as_slice.ensures.value
    c.a-item-then-this-lt3.result c.b-item.result (view c.in_ok-front-in-len2.front) (view c.in_ok-back-in-len2.back)
    (omega (arith, c.in-len2.len_at_least, c.in-len2.len_below)) c.a-item-then-this-lt3.is c.b-item.is
    c.in_ok-front-in-len2.ensures c.in_ok-back-in-len2.ensures)

pub scalar-returns-in_ok-parts-in-len3-up : goal.scalar-returns-in_ok-parts-in-len3-up
scalar-returns-in_ok-parts-in-len3-up t c =
    ok_onto c.with_parts.result _ _ c.with_parts.ensures
    (λ a h. h ∙ scalar_many c.args.node.now c.as_slice.result.now c.as_slice.ensures.value c.deref.result.now
    (views c.in_ok-parts-in-len3-up.parts.items) c.deref.ensures.value c.in-len3-up.len_at_least
    c.in_ok-parts-in-len3-up.ensures)

pub scalars-loop-node-preserved : goal.scalars-loop-node-preserved
scalars-loop-node-preserved t c =
    scalars_more c.args.nodes.now c.loop-node.node-index c.loop-node.trees.items
    (scalars (marks_of c.args.nodes.now)) c.loop-node.invariant c.node-item.result c.in_ok-tree.tree
    c.push.new.list.items c.loop-node-test.true c.node-item.is c.in_ok-tree.ensures c.in_ok-push.ensures

pub scalars-returns : goal.scalars-returns
scalars-returns t c =
    scalars_done c.args.nodes.now c.loop-node.node-index c.loop-node.trees.items
    (scalars (marks_of c.args.nodes.now)) c.loop-node.invariant c.loop-node-test.false
