use Rattle.std.proofs.Common.{◌≡◌, [], ◌++◌, map, sym, ap, ◌∙◌, append-nil, arith}
use Rattle.std.proofs.lemmas.Grind.{common_steps}
use Rattle.std.specs.Vec.Iter.{into_iter_items}
use Rattle.cl_meaning.specs.Statements.{functions_in}
use Rattle.cl_meaning.specs.View.{function_of}
use Rattle.cl_fragment.specs.View.{piece_of}
use Rattle.cl_fragment.proofs.functions.functions.Goals as goal

pub returns : goal.returns
returns c =
    let done : into_iter_items c.loop-piece.piece-iterator ≡ [] = grind (arith, common_steps) in
    sym (append-nil (map function_of c.loop-piece.all.items))
    ∙ ap (λ xs. map function_of c.loop-piece.all.items ++ functions_in (map piece_of xs)) (sym done)
    ∙ c.loop-piece.invariant
