use Rattle.std.proofs.Common.{◌≡◌, ◌++◌, drop, map, Bool, Global}
use Rattle.std.specs.declared.vec.Vec.{Vec}
use Rattle.diverge.specs.Known.{row_of, state_of}
use Rattle.diverge.specs.Rounds.{marks_of}
use Rattle.diverge.proofs.rounds.listed.Given as goal

abbrev pub invariant-loop-row : goal.invariant-loop-row
invariant-loop-row l = map (λ (v : Vec Bool Global). v.items) l.list.items ++
    map marks_of (map row_of (drop l.row-index l.row-items)) ≡ map marks_of (state_of l.known).rows
