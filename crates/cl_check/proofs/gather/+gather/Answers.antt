use Rattle.std.proofs.Common.{map, false, refl, ap, ◌∙◌}
use Rattle.cl_tree.specs.declared.tree.Tree.TheViews.{out-Tree}
use Rattle.cl_tree.specs.Syntax.{view, views}
use Rattle.cl_meaning.specs.declared.kind.Role.TheVariants as roles
use Rattle.cl_meaning.specs.Declarations.{form_of}
use Rattle.cl_scope.specs.View.{env_of}
use Rattle.cl_scope.specs.Walk.{departed}
use Rattle.cl_meaning.specs.Calls.{call_of}
use Rattle.cl_faults.specs.View.{looked_in}
use Rattle.cl_check.specs.Walk.{kind_at}
use Rattle.cl_check.proofs.Judging.{form_is, parts_is}
use Rattle.cl_check.proofs.Gathering.{gather_more, tree_gathered}
use Rattle.cl_check.proofs.gather.+gather.Goals as goal

pub gather_parts-loop-part-preserved : goal.gather_parts-loop-part-preserved
gather_parts-loop-part-preserved t c =
    gather_more c.args.form (env_of c.args.places.now c.args.environment.now) c.args.trees.now
    (env_of c.args.places.now c.loop-part.environment) c.loop-part.front c.loop-part.kinds.items
    (map call_of c.args.found.now.calls.items) (map call_of c.loop-part.found.calls.items)
    c.args.found.now.missing.items c.loop-part.found.missing.items c.loop-part.part-index c.part-item.result
    (env_of c.args.places.now c.gather_tree.new.environment) c.in_ok-kind.kind
    (map call_of c.gather_tree.new.found.calls.items) c.gather_tree.new.found.missing.items
    (env_of c.args.places.now c.later.new.environment) false c.push.new.list.items c.loop-part.invariant
    c.loop-part-test.true c.part-item.is c.in_ok-kind.ensures (c.in_ok-later.ensures c.args.places.now) refl
    c.in_ok-push.ensures

pub gather_tree-returns : goal.gather_tree-returns
gather_tree-returns t c =
    let form = form_of (view c.args.tree.now) in
    let before = env_of c.args.places.now c.args.environment.now in
    let at = env_of c.args.places.now c.restore-inner.new.environment in
    let end = env_of c.args.places.now c.gather_parts.new.environment in
    tree_gathered (view c.args.tree.now) (out-Tree c.args.tree.now).form c.args.places.now
    c.restore-inner.new.environment before (env_of c.args.places.now c.enter.new.environment)
    (views c.as_slice.result.now)
    (map call_of c.args.found.now.calls.items) (map call_of c.gather_parts.new.found.calls.items)
    (map call_of c.add_call.new.found.calls.items) c.args.found.now.missing.items
    c.gather_parts.new.found.missing.items c.add_call.new.found.missing.items
    end c.in_ok-kinds.ensures.0 c.in_ok-kinds.kinds.items (env_of c.args.places.now c.leave.new.environment)
    c.kind_here-kind.result
    (form_is c.args.tree.now) (c.in_ok-saved.ensures.inside c.args.places.now) (ap views c.as_slice.ensures.value ∙
    parts_is c.args.tree.now) c.in_ok-kinds.ensures.1
    (c.restore-inner.ensures.restored c.args.places.now form before (c.in_ok-saved.ensures.saved c.args.places.now))
    (c.in_ok-leave.ensures end (ap (λ i. i.labels) (c.restore-inner.ensures.inner c.args.places.now form before
    (c.in_ok-saved.ensures.saved c.args.places.now))) ∙
    ap (λ z. departed at end (view c.args.tree.now) z) c.as_slice-3.ensures.value)
    (c.kind_here-kind.ensures c.args.places.now ∙
    ap (λ z. kind_at (looked_in at roles.Other (view c.args.tree.now) z)) c.as_slice-2.ensures.value)
    c.in_ok-add_call.ensures.calls c.in_ok-add_call.ensures.missing
