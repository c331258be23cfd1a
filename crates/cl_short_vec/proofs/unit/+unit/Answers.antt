use Rattle.std.proofs.Common.{ap}
use Rattle.cl_tree.specs.declared.tree.Tree.{Tree}
use Rattle.cl_tree.specs.Syntax.{joined, view, views}
use Rattle.cl_short_vec.specs.Unit.{all_scalarised, block_lines, loop_parts}
use Rattle.cl_short_vec.specs.View.{mark_of, marks_of}
use Rattle.cl_short_vec.proofs.Units.{scalarised_more, scalarised_done, block_declared, block_plain, block_done}
use Rattle.cl_short_vec.proofs.Units.{loop_more, loop_done, plain_part, whole_part}
use Rattle.cl_short_vec.proofs.unit.+unit.Goals as goal
use Rattle.cl_short_vec.proofs.unit.+unit.Goals.{block_lines-then-is_declaration+in_ok-put_declaration}
use Rattle.cl_short_vec.proofs.unit.+unit.Goals.{block_lines-else-is_declaration+in_ok-line+in_ok-push}
use Rattle.cl_short_vec.proofs.unit.+unit.Goals.{loop_parts-then-plain+in_ok-tree, loop_parts-else-plain+in_ok-tree-2}

pub put_scalarised-loop-part-preserved : goal.put_scalarised-loop-part-preserved
put_scalarised-loop-part-preserved t c =
    scalarised_more c.args.parts.now c.loop-part.part-index c.loop-part.list.items
    (joined (views c.args.list.now.items) (all_scalarised (marks_of c.args.parts.now))) c.loop-part.invariant
    c.part-item.result c.in_ok-tree.tree c.push.new.list.items c.loop-part-test.true c.part-item.is
    c.in_ok-tree.ensures c.in_ok-push.ensures

pub put_scalarised-returns : goal.put_scalarised-returns
put_scalarised-returns t c =
    scalarised_done c.args.parts.now c.loop-part.part-index c.loop-part.list.items
    (joined (views c.args.list.now.items) (all_scalarised (marks_of c.args.parts.now))) c.loop-part.invariant
    c.loop-part-test.false

pub block_lines-loop-part-preserved : goal.block_lines-loop-part-preserved
block_lines-loop-part-preserved t c =
    elim c.if-is_declaration.branch [
      | block_lines-then-is_declaration+in_ok-put_declaration w ↦
          rw w.lines-is (block_declared c.args.parts.now c.loop-part.part-index c.loop-part.lines.items
          (block_lines (marks_of c.args.parts.now)) c.loop-part.invariant c.part-item.result
          w.put_declaration.new.lines.items c.is_declaration.result c.loop-part-test.true c.part-item.is
          c.is_declaration.ensures w.if-is_declaration.true w.in_ok-put_declaration.ensures)
      | block_lines-else-is_declaration+in_ok-line+in_ok-push w ↦
          rw w.lines-is (block_plain c.args.parts.now c.loop-part.part-index c.loop-part.lines.items
          (block_lines (marks_of c.args.parts.now)) c.loop-part.invariant c.part-item.result w.in_ok-line.line
          w.push.new.list.items c.is_declaration.result c.loop-part-test.true c.part-item.is
          c.is_declaration.ensures w.if-is_declaration.false w.in_ok-line.ensures w.in_ok-push.ensures)
    ]

pub block_lines-returns : goal.block_lines-returns
block_lines-returns t c =
    block_done c.args.parts.now c.loop-part.part-index c.loop-part.lines.items
    (block_lines (marks_of c.args.parts.now)) c.loop-part.invariant c.loop-part-test.false

pub loop_parts-loop-part-preserved : goal.loop_parts-loop-part-preserved
loop_parts-loop-part-preserved t c =
    elim c.if-plain.branch [
      | loop_parts-then-plain+in_ok-tree w ↦
          loop_more c.args.parts.now c.loop-part.part-index c.loop-part.front c.loop-part.list.items
          (loop_parts (marks_of c.args.parts.now)) c.loop-part.invariant c.part-item.result c.if-plain.tree
          c.push.new.list.items c.is_plain_head-plain.result c.loop-part-test.true c.part-item.is
          c.is_plain_head-plain.ensures (plain_part c.is_plain_head-plain.result (mark_of c.part-item.result)
          (view c.if-plain.tree) (view w.in_ok-tree.tree) w.if-plain.true (ap (λ (x : Tree). view x) w.tree-is)
          w.in_ok-tree.ensures) c.in_ok-push.ensures
      | loop_parts-else-plain+in_ok-tree-2 w ↦
          loop_more c.args.parts.now c.loop-part.part-index c.loop-part.front c.loop-part.list.items
          (loop_parts (marks_of c.args.parts.now)) c.loop-part.invariant c.part-item.result c.if-plain.tree
          c.push.new.list.items c.is_plain_head-plain.result c.loop-part-test.true c.part-item.is
          c.is_plain_head-plain.ensures (whole_part c.is_plain_head-plain.result (mark_of c.part-item.result)
          (view c.if-plain.tree) (view w.in_ok-tree-2.tree) w.if-plain.false (ap (λ (x : Tree). view x) w.tree-is)
          w.in_ok-tree-2.ensures) c.in_ok-push.ensures
    ]

pub loop_parts-returns : goal.loop_parts-returns
loop_parts-returns t c =
    loop_done c.args.parts.now c.loop-part.part-index c.loop-part.front c.loop-part.list.items
    (loop_parts (marks_of c.args.parts.now)) c.loop-part.invariant c.loop-part-test.false
