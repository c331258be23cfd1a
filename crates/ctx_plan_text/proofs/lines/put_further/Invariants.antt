use Rattle.std.proofs.Common.{◌≡◌, ◌++◌, codes, drop}
use Rattle.std.specs.List.{flat_map}
use Rattle.ctx_plan_text.specs.Lines.{place_text}
use Rattle.ctx_plan_text.proofs.lines.put_further.Given as goal

-- what is still to be put completes the places
abbrev pub invariant-loop-place : goal.invariant-loop-place
invariant-loop-place l = l.text.items ++ flat_map (λ p. codes "/" ++ place_text p) (drop l.place-index l.path) ≡
    l.fn.text.items ++ flat_map (λ p. codes "/" ++ place_text p) l.path
