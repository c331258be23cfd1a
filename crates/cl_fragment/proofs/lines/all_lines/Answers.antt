use Rattle.std.proofs.Common.{◌≡◌, [], map, sym, ap, ◌∙◌, arith}
use Rattle.std.proofs.lemmas.Grind.{common_steps}
use Rattle.std.specs.Vec.Iter.{into_iter_items}
use Rattle.cl_model.specs.View.{listed_statements}
use Rattle.cl_meaning.specs.Statements.{followed, all_lines}
use Rattle.cl_fragment.specs.View.{piece_of}
use Rattle.cl_fragment.proofs.Lists.{followed_none}
use Rattle.cl_fragment.proofs.lines.all_lines.Goals as goal

pub returns : goal.returns
returns c =
    let done : into_iter_items c.loop-piece.piece-iterator ≡ [] = grind (arith, common_steps) in
    sym (followed_none (listed_statements c.loop-piece.lines.items))
    ∙ ap (λ xs. followed (listed_statements c.loop-piece.lines.items) (all_lines (map piece_of xs))) (sym done)
    ∙ c.loop-piece.invariant
