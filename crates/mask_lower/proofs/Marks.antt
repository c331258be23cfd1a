-- What a table of cells marks behind a line, where two lists of lines stand in it.
use Rattle.std.proofs.Common.{◌≡◌, refl, sym, ap, ◌∙◌}
use Rattle.std.specs.Prelude.{◌||◌}
use Rattle.std.specs.Prelude.{Bool as Test, true, false}

-- what a line sets and what was marked before it, with what those behind it set
marks_line : (a s old new : Test) → new ≡ (a || old) → ((a || s) || old) ≡ (s || new)
marks_line true true old new e = refl
marks_line true false old new e = sym e
marks_line false true old new e = refl
marks_line false false old new e = sym e

pub marks_both : (a b s old mid new : Test) → mid ≡ (a || old) → new ≡ (b || mid) →
    (((a || b) || s) || old) ≡ (s || new)
marks_both a b s old mid new e f = marks_line (a || b) s old new (f ∙ ap (λ x. b || x) e ∙ turned_or a b old)
  where
    turned_or : (a b x : Test) → (b || (a || x)) ≡ ((a || b) || x)
    turned_or true true x = refl
    turned_or true false x = refl
    turned_or false true x = refl
    turned_or false false x = refl
