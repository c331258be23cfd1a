-- The kernel's item stands at the line of a barrier, or may come there.
use Rattle.std.specs.Prelude.{◌≡◌}
use Rattle.cl_model.specs.Task.{Point as ProgramPoint}
use Rattle.kir.specs.Tree.{BarrierThen}
use Rattle.kir.specs.Places.{Tasks, LinesAt, begun_in}
use Rattle.kir_moves.specs.Leads.{ComesTo}
use Rattle.kir_lower_shape.specs.Marks.{Marks, point_marked}

-- a barrier line is first, and its mark with the iterations begun says this point of the program
abbrev pub StandsAtLine : Marks → ProgramPoint → Tasks → Type 0
StandsAtLine marks point (LinesAt at (BarrierThen site rest) k) =
    point_marked marks (record { at = at; begun = begun_in k }) ≡ point
StandsAtLine marks point _ = ⊥

-- what the kernel's item has left to do may lead to a line of the point
pub record ComesToLine (marks : Marks) (point : ProgramPoint) (k : Tasks) : Type 0 where
  pub there : Tasks
  pub stands : StandsAtLine marks point there
  pub comes : ComesTo there k
