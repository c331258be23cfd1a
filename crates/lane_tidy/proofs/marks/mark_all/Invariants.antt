use Rattle.std.proofs.Common.{◌≡◌, ◌<◌, length, get_or, drop, ◌||◌, false}
use Rattle.lane_code.specs.declared.step.Reg.{Reg}
use Rattle.lane_tidy.specs.Reads.{is_among}
use Rattle.lane_tidy.specs.Marks.{place_of}
use Rattle.lane_tidy.proofs.marks.mark_all.Given as goal

-- a register is marked or still to be marked, where it was marked or is among those to be marked
abbrev pub invariant-loop-x : goal.invariant-loop-x
invariant-loop-x l = (y : Reg) → place_of y < length l.fn.marks →
    (get_or l.marks (place_of y) false || is_among (drop l.x-index l.registers) y)
    ≡ (get_or l.fn.marks (place_of y) false || is_among l.registers y)
