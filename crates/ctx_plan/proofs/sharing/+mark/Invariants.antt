use Rattle.std.proofs.Common.{◌≡◌, ◌≤◌, drop, length}
use Rattle.ctx_plan.specs.Outline.{NoPiece, pieces_then}
use Rattle.ctx_plan.specs.Points.{entry}
use Rattle.ctx_plan.specs.Sharing.{has_cut, mark_crossing}
use Rattle.ctx_plan.proofs.sharing.+mark.Given as goal

abbrev pub invariant-mark_crossing-loop-i : goal.invariant-mark_crossing-loop-i
invariant-mark_crossing-loop-i l = record {
  within : l.i ≤ length l.block;
  cut : l.cut ≡ has_cut (entry l.inside) (pieces_then (drop l.i l.block) NoPiece);
  marks : l.crossing.items ≡ mark_crossing (entry l.inside) (pieces_then (drop l.i l.block) NoPiece)
      l.fn.crossing.items;
}

abbrev pub decreases-mark_crossing-loop-i : goal.decreases-mark_crossing-loop-i
decreases-mark_crossing-loop-i l = l.i
