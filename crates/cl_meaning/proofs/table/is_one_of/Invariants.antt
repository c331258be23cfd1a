use Rattle.std.proofs.Common.{◌≡◌, drop, map}
use Rattle.cl_tree.specs.Words.{is_among}
use Rattle.cl_meaning.proofs.table.is_one_of.Given as goal

abbrev pub invariant-loop-text : goal.invariant-loop-text
invariant-loop-text l =
    is_among l.word (map (λ w. w.now) (drop l.text-index l.words)) ≡ is_among l.word (map (λ w. w.now) l.words)
