-- A round at parts of a program that the plain tree does not have by themselves: those that stand in a Vec, and
-- targets.
use Rattle.std.specs.Prelude.{List, [], ◌∷◌, Option, true}
use Rattle.std.specs.Prelude.{Bool as Test}
use Rattle.cl_model.specs.declared.program.Arg.{Arg}
use Rattle.cl_model.specs.declared.program.Root.{Root}
use Rattle.cl_model.specs.declared.program.Stmt.{Stmt}
use Rattle.cl_model.specs.declared.program.Target.{Target}
use Rattle.cl_model.specs.declared.program.Target.TheVariants as target
use Rattle.cl_model.specs.declared.program.SwitchArm as rust_arm
use Rattle.cl_model.specs.Tree.{Function, Expressions, none, more, Arms, no_arm, arm}
use Rattle.cl_model.specs.View.{expression_of, root_of, argument_of, statement_of, listed_statements}
use Rattle.diverge.specs.declared.known.Spot.{Spot}
use Rattle.diverge.specs.Known.{State, variable_at, assign}
use Rattle.diverge.specs.Rounds.{Seen, seen_in, closed}

-- behind a scope that holds a way out under a condition that varies, of each declaration among the statements, the
-- last first
abbrev pub all_closed : Spot → List Stmt → State → State
all_closed at [] s = s
all_closed at (first ∷ rest) s = closed at (statement_of first) true (all_closed at rest s)

-- whether the old value of a target varies: an element is loaded
abbrev pub seen_target : Function → Spot → Target → State → Seen
seen_target own at (target.Var x) s = record { varies = (variable_at s at.function x).varies; state = s }
seen_target own at (target.Element' site element root p i) s =
    record { varies = true; state = (seen_in own at (expression_of i) s).state }

-- behind an assignment to a target: a variable is noted
abbrev pub set_target : Spot → Target → Test → State → State
set_target at (target.Var x) varies s = assign at x varies s
set_target at (target.Element' site element root p i) varies s = s
