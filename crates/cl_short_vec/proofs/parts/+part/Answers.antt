use Rattle.std.proofs.Common.{◌∙◌, ap, sym, arith}
use Rattle.cl_tree.specs.Syntax.{view}
use Rattle.cl_short_vec.specs.Parts.{front_part, second_part, all_parts}
use Rattle.cl_short_vec.specs.declared.marks.Marked.TheViews.{out-Marked}
use Rattle.cl_short_vec.specs.View.{marks_of}
use Rattle.cl_short_vec.proofs.Marking.{ok_onto}
use Rattle.cl_short_vec.proofs.Slices.{second_none, second_some, item_front, item_last, parts_more, parts_done}
use Rattle.cl_short_vec.proofs.Slices.{joined_found}
use Rattle.cl_short_vec.proofs.parts.+part.Goals as goal

pub all_parts-loop-part-preserved : goal.all_parts-loop-part-preserved
all_parts-loop-part-preserved t c =
    parts_more c.args.parts.now c.loop-part.part-index c.part-item.result c.args.component c.loop-part.list.items
    c.push.new.list.items c.in_ok-tree.tree (all_parts (marks_of c.args.parts.now) c.args.component)
    c.loop-part-test.true c.part-item.is c.in_ok-tree.ensures c.in_ok-push.ensures c.loop-part.invariant

pub all_parts-returns : goal.all_parts-returns
all_parts-returns t c =
    parts_done c.args.parts.now c.loop-part.part-index c.args.component c.loop-part.list.items
    (all_parts (marks_of c.args.parts.now) c.args.component) c.loop-part-test.false c.loop-part.invariant

pub item_part-returns-then-component-width : goal.item_part-returns-then-component-width
item_part-returns-then-component-width t c =
    ok_onto c.part_in-then-component-width.result _ _ c.part_in-then-component-width.ensures
    (λ a h. h ∙ item_front c.args.parts.now c.items-item-2.result (view c.args.tree.now) c.args.component
    c.in_ok-width-in-len2-up.width c.in-len2-up.len_at_least c.items-item-2.is c.in_ok-width-in-len2-up.ensures
    c.if-component-width.true)

pub item_part-returns-else-component-width : goal.item_part-returns-else-component-width
item_part-returns-else-component-width t c =
    ok_onto c.part_in-in-len2-up.result _ _ c.part_in-in-len2-up.ensures
    (λ a h. h ∙ item_last c.args.parts.now c.items-item-2.result c.last-item.result (view c.args.tree.now)
    c.args.component c.in_ok-width-in-len2-up.width c.in-len2-up.len_at_least c.items-item-2.is c.last-item.is
    c.in_ok-width-in-len2-up.ensures c.if-component-width.false)

pub part_in-returns-in_ok-right-in-Joined : goal.part_in-returns-in_ok-right-in-Joined
part_in-returns-in_ok-right-in-Joined t c =
    ok_onto c.component_joined.result _ _ c.component_joined.ensures
    (λ a h. h ∙ joined_found c.args.listed c.args.operand.now c.in-Joined.op c.args.component c.type_in-of.result
    c.span_of-span.result (view c.in_ok-left-in-Joined.left) (view c.in_ok-right-in-Joined.right)
    (sym c.in-Joined.is ∙ c.made_of.ensures) c.type_in-of.ensures c.span_of-span.ensures
    (c.in_ok-left-in-Joined.ensures ∙ ap (λ ps. front_part (marks_of ps)
    (view (out-Marked c.args.operand.now).tree.now) c.args.component) c.as_slice-parts.ensures.value)
    (c.in_ok-right-in-Joined.ensures ∙ ap (λ ps. second_part (marks_of ps)
    (view (out-Marked c.args.operand.now).tree.now) c.args.component) c.as_slice-parts.ensures.value))

pub second_part-returns-in-len1 : goal.second_part-returns-in-len1
second_part-returns-in-len1 t c =
    ok_onto c.number_part-in-len1.result _ _ c.number_part-in-len1.ensures
    (λ a h. h ∙ second_none c.args.parts.now (view c.args.tree.now) c.args.component
    (omega (arith, c.in-len1.len_at_least, c.in-len1.len_below)))

pub second_part-returns-in-len2-up : goal.second_part-returns-in-len2-up
second_part-returns-in-len2-up t c =
    ok_onto c.part_in.result _ _ c.part_in.ensures
    (λ a h. h ∙ second_some c.args.parts.now c.second-item.result (view c.args.tree.now) c.args.component
    c.in-len2-up.len_at_least c.second-item.is)
