-- Loops that put lines, one item further.
use Rattle.std.proofs.Common.{◌≡◌, ap, sym, ◌∙◌}
use Rattle.kir.specs.Tree.{Lines, joined_to}
use Rattle.kir_lower.proofs.Lists.{join_assoc}

-- lines behind others are put in two goes
pub joined_step : (all lines more first rest : Lines) → all ≡ joined_to lines (joined_to first rest) →
    more ≡ joined_to lines first → all ≡ joined_to more rest
joined_step all lines more first rest h e = h ∙ sym (join_assoc lines first rest) ∙ ap (λ z. joined_to z rest) (sym e)
