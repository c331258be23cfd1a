use Rattle.std.proofs.Common.{option_map}
use Rattle.cl_tree.specs.Syntax.{joined, views}
use Rattle.cl_short_vec.specs.Unit.{lines_of}
use Rattle.cl_short_vec.specs.View.{mark_of, assigned_from, steps_from}
use Rattle.cl_short_vec.proofs.Units.{lines_more, lines_done}
use Rattle.cl_short_vec.proofs.unit.put_lines.Goals as goal

pub loop-step-preserved : goal.loop-step-preserved
loop-step-preserved c =
    lines_more (option_map (λ m. mark_of m.now) c.args.base) (assigned_from c.args.assigned.now) c.args.steps.now
    c.loop-step.step-index c.loop-step.lines.items
    (joined (views c.args.lines.now.items) (lines_of (option_map (λ m. mark_of m.now) c.args.base)
    (assigned_from c.args.assigned.now) (steps_from c.args.steps.now)))
    c.loop-step.invariant c.step-item.result c.in_ok-line.line c.push.new.list.items c.loop-step-test.true
    c.step-item.is c.in_ok-line.ensures c.in_ok-push.ensures

pub returns : goal.returns
returns c =
    lines_done (option_map (λ m. mark_of m.now) c.args.base) (assigned_from c.args.assigned.now) c.args.steps.now
    c.loop-step.step-index c.loop-step.lines.items
    (joined (views c.args.lines.now.items) (lines_of (option_map (λ m. mark_of m.now) c.args.base)
    (assigned_from c.args.assigned.now) (steps_from c.args.steps.now)))
    c.loop-step.invariant c.loop-step-test.false
