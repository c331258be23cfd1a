-- The plain lists for which the parts of a program that are kept in a Vec stand.
use Rattle.std.specs.Prelude.{List, [], ◌∷◌, Option, Some, None}
use Rattle.cl_model.specs.declared.program.Root.{Root}
use Rattle.cl_model.specs.declared.program.Arg.{Arg}
use Rattle.cl_model.specs.declared.program.Stmt.{Stmt}
use Rattle.cl_model.specs.declared.program.SwitchArm as arm
use Rattle.cl_model.specs.Tree.{Expressions, none, more, Statement, Statements, empty, also, Arms, no_arm}
use Rattle.cl_model.specs.Tree as tree
use Rattle.cl_model.specs.View.{root_of, argument_of, statement_of, listed_statements}

-- the root of each argument that is a pointer
abbrev pub listed_roots : List Arg → List (Option Root)
listed_roots [] = []
listed_roots (a ∷ as') = root_of a ∷ listed_roots as'

-- the number or offset that each argument is
abbrev pub listed_arguments : List Arg → Expressions
listed_arguments [] = none
listed_arguments (a ∷ as') = more (argument_of a) (listed_arguments as')

abbrev pub alone : Statement → Statements
alone s = also s empty

abbrev pub optional_statement : Option Stmt → Statements
optional_statement None = empty
optional_statement (Some s) = alone (statement_of s)

abbrev pub listed_arms : List arm.SwitchArm → Arms
listed_arms [] = no_arm
listed_arms (a ∷ as') = tree.arm a.labels.items a.other (listed_statements a.body.items) (listed_arms as')
