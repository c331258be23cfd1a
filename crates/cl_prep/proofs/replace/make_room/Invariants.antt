use Rattle.std.proofs.Common.{◌-◌, length}
use Rattle.cl_prep.specs.Frames.{AreClear}
use Rattle.cl_prep.proofs.replace.make_room.Given as goal

abbrev pub invariant-loop-marks : goal.invariant-loop-marks
invariant-loop-marks l = AreClear l.marks.items

abbrev pub decreases-loop-marks : goal.decreases-loop-marks
decreases-loop-marks l = l.count - length l.marks.items
