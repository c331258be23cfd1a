use Rattle.std.proofs.Common.{List, Option, refl, ap, ◌∙◌}
use Rattle.kir.specs.declared.line.Atom.{Atom}
use Rattle.kir_simplify.specs.Tables.{known_by}
use Rattle.kir_simplify.proofs.Folds.{noted}
use Rattle.kir_simplify.proofs.settling.note.Goals as goal

pub returns-clause-before : goal.returns-clause-before
returns-clause-before c =
    noted c.args.trail.now.items c.push.new.list.items _ (known_by c.args.known.now.items)
    (known_by c.put_known.new.known.items) c.args.to c.args.atom c.in_ok-push.ensures refl
    (c.learned_of-before.ensures ∙ ap (λ (x : List (Option Atom)). known_by x c.args.to) c.deref.ensures.value)
    c.in_ok-put_known.ensures
