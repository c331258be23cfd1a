use Rattle.std.proofs.Common.{◌≡◌, drop, map}
use Rattle.cl_meaning.specs.OwnWords.{looked_up}
use Rattle.cl_short_vec.proofs.types.look_up.Given as goal

abbrev pub invariant-loop-text : goal.invariant-loop-text
invariant-loop-text l = looked_up l.word (map (λ r. record { word = r.0.now; value = r.1 })
    (drop l.text-index l.table)) ≡ looked_up l.word (map (λ r. record { word = r.0.now; value = r.1 }) l.table)
