use Rattle.cl_fragment.specs.declared.fragment.Piece.{Piece}
use Rattle.cl_check.specs.declared.walk.Parts.{Parts}
use Rattle.std.proofs.Common.{map, length, ◌∙◌, ap}
use Rattle.cl_tree.specs.declared.tree.Tree.TheViews.{out-Tree}
use Rattle.cl_tree.specs.Syntax.{view, views}
use Rattle.cl_meaning.specs.Declarations.{form_of}
use Rattle.cl_scope.specs.View.{env_of}
use Rattle.cl_scope.specs.Walk.{inner_of}
use Rattle.cl_faults.specs.View.{asked_of}
use Rattle.cl_fragment.specs.View.{piece_of}
use Rattle.cl_check.proofs.Judging.{fault_then, fault_onto, ok_onto, form_is, parts_is, along_more, along_stopped}
use Rattle.cl_check.proofs.Judging.{tree_done, tree_at_fault, tree_in_parts}
use Rattle.cl_check.proofs.walk.+tree.Goals as goal

pub check_parts-returns-in-Err-clause-faulted : goal.check_parts-returns-in-Err-clause-faulted
check_parts-returns-in-Err-clause-faulted t c =
    fault_then Piece Parts c.in-Err.e _ _ c.in-Err.ensures.faulted
    (λ k token x. along_stopped (asked_of c.args.walk.asked.now) (length c.args.walk.places.now) c.args.form
    (env_of c.args.walk.places.now c.args.environment.now) c.args.sites.now.items c.args.trees.now
    (env_of c.args.walk.places.now c.loop-part.environment) c.loop-part.sites.items c.loop-part.parts.last
    (map piece_of c.loop-part.parts.pieces.items) c.loop-part.parts.kinds.items c.loop-part.part-index
    c.part-item.result c.role_of-role.result k token
    c.loop-part.invariant c.loop-part-test.true c.part-item.is c.role_of-role.ensures x)

pub check_parts-loop-part-preserved : goal.check_parts-loop-part-preserved
check_parts-loop-part-preserved t c =
    along_more (asked_of c.args.walk.asked.now) (length c.args.walk.places.now) c.args.form
    (env_of c.args.walk.places.now c.args.environment.now) c.args.sites.now.items c.args.trees.now
    (env_of c.args.walk.places.now c.loop-part.environment) c.loop-part.sites.items c.loop-part.parts.last
    (map piece_of c.loop-part.parts.pieces.items) c.loop-part.parts.kinds.items c.loop-part.part-index
    c.part-item.result
    (env_of c.args.walk.places.now c.check_tree.new.environment) c.check_tree.new.sites.items (piece_of c.in-Ok.piece)
    (env_of c.args.walk.places.now c.go_behind.new.environment) c.go_behind.new.parts.last
    (map piece_of c.go_behind.new.parts.pieces.items) c.go_behind.new.parts.kinds.items c.role_of-role.result
    c.loop-part.invariant c.loop-part-test.true c.part-item.is c.role_of-role.ensures c.in-Ok.ensures.walked
    (c.in_ok-go_behind-in-Ok.ensures.environment c.args.walk.places.now) c.in_ok-go_behind-in-Ok.ensures.last
    c.in_ok-go_behind-in-Ok.ensures.pieces c.in_ok-go_behind-in-Ok.ensures.kinds

pub check_tree-returns-in-Err-clause-faulted : goal.check_tree-returns-in-Err-clause-faulted
check_tree-returns-in-Err-clause-faulted t c =
    fault_then Parts Piece c.in-Err.e _ _ c.in-Err.ensures.faulted
    (λ k token x. tree_in_parts (asked_of c.args.walk.asked.now) (length c.args.walk.places.now)
    (env_of c.args.walk.places.now c.args.environment.now) c.args.role (view c.args.tree.now)
    (out-Tree c.args.tree.now).form
    (env_of c.args.walk.places.now c.enter.new.environment) (views c.as_slice.result.now) k token
    (form_is c.args.tree.now) (c.in_ok-saved.ensures.inside c.args.walk.places.now) (ap views c.as_slice.ensures.value ∙
    parts_is c.args.tree.now) x)

pub check_tree-returns-in-Ok-clause-walked : goal.check_tree-returns-in-Ok-clause-walked
check_tree-returns-in-Ok-clause-walked t c =
    let form = form_of (view c.args.tree.now) in
    let before = env_of c.args.walk.places.now c.args.environment.now in
    ok_onto c.judge.result _ _ c.judge.ensures.made
    (λ p j. tree_done (asked_of c.args.walk.asked.now) (length c.args.walk.places.now) before c.args.sites.now.items
    c.args.role
    (view c.args.tree.now) (out-Tree c.args.tree.now).form
    (env_of c.args.walk.places.now c.enter.new.environment) (views c.as_slice.result.now)
    (env_of c.args.walk.places.now c.check_parts.new.environment) c.check_parts.new.sites.items
    c.in-Ok.parts.last (map piece_of c.in-Ok.parts.pieces.items)
    c.in-Ok.parts.kinds.items
    (env_of c.args.walk.places.now c.restore-inner.new.environment) (inner_of c.restore-inner.result)
    (env_of c.args.walk.places.now c.judge.new.environment) c.judge.new.sites.items (piece_of p)
    (form_is c.args.tree.now) (c.in_ok-saved.ensures.inside c.args.walk.places.now) (ap views c.as_slice.ensures.value ∙
    parts_is c.args.tree.now) c.in-Ok.ensures.done
    (c.restore-inner.ensures.restored c.args.walk.places.now form before
    (c.in_ok-saved.ensures.saved c.args.walk.places.now))
    (c.restore-inner.ensures.inner c.args.walk.places.now form before
    (c.in_ok-saved.ensures.saved c.args.walk.places.now)) j)

pub check_tree-returns-in-Ok-clause-faulted : goal.check_tree-returns-in-Ok-clause-faulted
check_tree-returns-in-Ok-clause-faulted t c =
    let form = form_of (view c.args.tree.now) in
    let before = env_of c.args.walk.places.now c.args.environment.now in
    fault_onto c.judge.result _ _ c.judge.ensures.faulted
    (λ k token x. tree_at_fault (asked_of c.args.walk.asked.now) (length c.args.walk.places.now) before
    c.args.sites.now.items
    c.args.role (view c.args.tree.now) (out-Tree c.args.tree.now).form
    (env_of c.args.walk.places.now c.enter.new.environment) (views c.as_slice.result.now)
    (env_of c.args.walk.places.now c.check_parts.new.environment) c.check_parts.new.sites.items
    c.in-Ok.parts.last (map piece_of c.in-Ok.parts.pieces.items)
    c.in-Ok.parts.kinds.items
    (env_of c.args.walk.places.now c.restore-inner.new.environment) k token
    (form_is c.args.tree.now) (c.in_ok-saved.ensures.inside c.args.walk.places.now) (ap views c.as_slice.ensures.value ∙
    parts_is c.args.tree.now) c.in-Ok.ensures.done
    (c.restore-inner.ensures.restored c.args.walk.places.now form before
    (c.in_ok-saved.ensures.saved c.args.walk.places.now)) x)
