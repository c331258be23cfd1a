use Rattle.std.proofs.Common.{◌≡◌, drop, map}
use Rattle.cl_meaning.specs.OwnWords.{first_row}
use Rattle.cl_meaning.specs.Types.{spells}
use Rattle.cl_meaning.proofs.types.look_up_base.Given as goal

abbrev pub invariant-loop-text : goal.invariant-loop-text
invariant-loop-text l = first_row (spells l.word) (map (λ r. record { word = r.0.now; value = r.1 })
    (drop l.text-index l.table)) ≡
    first_row (spells l.word) (map (λ r. record { word = r.0.now; value = r.1 }) l.table)
