use Rattle.std.proofs.Common.{◌≡◌, [], ◌∷◌, ◌++◌, rules}
use Rattle.kir_simplify.specs.Tables.{known_by, unlearned}
use Rattle.kir_simplify.proofs.Folds.{forgets_last}
use Rattle.kir_simplify.proofs.settling.forget.Goals as goal

pub loop-learned-preserved : goal.loop-learned-preserved
loop-learned-preserved c =
    let shorter : c.loop-learned.trail.items ≡ c.pop.new.self.items ++ c.in-Some.learned ∷ [] = search rules in
    forgets_last c.loop-learned.trail.items c.pop.new.self.items c.in-Some.learned
    (known_by c.loop-learned.known.items) (known_by c.put_known.new.known.items)
    (unlearned c.args.trail.now.items (known_by c.args.known.now.items)) shorter c.in_ok-put_known.ensures
    c.loop-learned.invariant
