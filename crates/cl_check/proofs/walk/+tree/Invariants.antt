use Rattle.std.proofs.Common.{map, length, drop}
use Rattle.cl_tree.specs.Syntax.{views}
use Rattle.cl_scope.specs.View.{env_of}
use Rattle.cl_faults.specs.View.{asked_of}
use Rattle.cl_fragment.specs.View.{piece_of}
use Rattle.cl_check.specs.Walk.{PartsAlong}
use Rattle.cl_check.proofs.walk.+tree.Given as goal

abbrev pub invariant-check_parts-loop-part : goal.invariant-check_parts-loop-part
invariant-check_parts-loop-part l =
    PartsAlong (asked_of l.walk.asked.now) (length l.walk.places.now) l.form
    (env_of l.walk.places.now l.fn.environment) l.fn.sites.items
    (views l.trees) (env_of l.walk.places.now l.environment) l.sites.items l.parts.last
    (map piece_of l.parts.pieces.items)
    l.parts.kinds.items (views (drop l.part-index l.trees))
