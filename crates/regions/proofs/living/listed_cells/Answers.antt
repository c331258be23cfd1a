use Rattle.std.proofs.Common.{ℕ, ap, ◌∙◌, Global}
use Rattle.std.specs.declared.vec.Vec.{Vec}
use Rattle.regions.proofs.Sets.{those_found, those_passed}
use Rattle.regions.proofs.living.listed_cells.Goals as goal
use Rattle.regions.proofs.living.listed_cells.Goals.{then-entry+in_ok-push, else-entry}

pub loop-cell-preserved : goal.loop-cell-preserved
loop-cell-preserved c =
    let set = c.args.set.now in
    let cell = c.loop-cell.cell in
    let list = c.loop-cell.list.items in
    elim c.if-entry.branch [
      | then-entry+in_ok-push w ↦ those_found set list c.if-entry.list.items cell c.entry.result c.entry.ensures
          w.if-entry.true (ap (λ (v : Vec ℕ Global). v.items) w.list-is ∙ w.in_ok-push.ensures) c.loop-cell.invariant
      | else-entry w ↦ ap (λ (v : Vec ℕ Global). v.items) w.list-is ∙
          those_passed set list cell c.entry.result c.entry.ensures w.if-entry.false c.loop-cell.invariant
    ]
