use Rattle.std.proofs.Common.{◌≡◌, drop, map}
use Rattle.std.specs.List.{list_any}
use Rattle.cl_meaning.specs.Types.{spells}
use Rattle.cl_meaning.proofs.types.is_one_spelled.Given as goal

abbrev pub invariant-loop-text : goal.invariant-loop-text
invariant-loop-text l = list_any (spells l.word) (map (λ w. w.now) (drop l.text-index l.texts)) ≡
    list_any (spells l.word) (map (λ w. w.now) l.texts)
