use Rattle.std.proofs.Common.{◌≡◌, [], map, sym, ap, ◌∙◌, arith}
use Rattle.std.proofs.lemmas.Grind.{common_steps}
use Rattle.std.specs.Vec.Iter.{into_iter_items}
use Rattle.cl_model.specs.Listed.{listed_arms}
use Rattle.cl_meaning.specs.Statements.{arms_from}
use Rattle.cl_fragment.specs.View.{piece_of}
use Rattle.cl_fragment.specs.Arms.{arms_with}
use Rattle.cl_fragment.proofs.Lists.{arms_alone}
use Rattle.cl_fragment.proofs.switches.arms.Goals as goal

pub returns : goal.returns
unfolding arms_from
returns c =
    let done : into_iter_items c.loop-piece.piece-iterator ≡ [] = grind (arith, common_steps) in
    ap listed_arms c.in_ok-push.ensures
    ∙ arms_alone c.loop-piece.all.items c.loop-piece.last
    ∙ ap (λ xs. arms_with c.loop-piece.all.items c.loop-piece.last (map piece_of xs)) (sym done)
    ∙ c.loop-piece.invariant
