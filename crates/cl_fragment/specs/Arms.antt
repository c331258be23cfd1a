-- The arms of a switch, as they are put together from its statements.
use Rattle.std.specs.Prelude.{ℤ, Bool, false, List, []}
use Rattle.cl_model.specs.declared.program.SwitchArm as rust
use Rattle.cl_model.specs.Tree.{Statements, Arms, no_arm, arm}
use Rattle.cl_model.specs.View.{listed_statements}
use Rattle.cl_model.specs.Listed.{listed_arms}
use Rattle.cl_meaning.specs.Typed.{What, labelled, Piece}
use Rattle.cl_meaning.specs.Statements.{alone, body_of, arms_from}

-- an arm with its first statements
pub record Begun : Type 0 where
  pub labels : List ℤ
  pub other : Bool
  pub body : Statements

abbrev pub begun_of : rust.SwitchArm → Begun
begun_of a = record { labels = a.labels.items; other = a.other; body = listed_statements a.body.items }

-- the arm that a statement begins
abbrev pub begun_by : What → Begun
begun_by (labelled ls other s) = record { labels = ls; other = other; body = alone s }
begun_by w = record { labels = []; other = false; body = alone (body_of w) }

-- arms behind others
abbrev pub arms_then : Arms → Arms → Arms
arms_then no_arm later = later
arms_then (arm ls other body rest) later = arm ls other body (arms_then rest later)

abbrev pub arms_behind : Begun → List Piece → Arms
arms_behind b ps = arms_from b.labels b.other b.body ps

-- the arms that stand already, the last one, and what stands behind it
abbrev pub arms_with : List rust.SwitchArm → rust.SwitchArm → List Piece → Arms
arms_with done last ps = arms_then (listed_arms done) (arms_behind (begun_of last) ps)
