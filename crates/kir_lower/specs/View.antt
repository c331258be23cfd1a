-- The plain view of what the code keeps.
use Rattle.std.specs.Prelude.{List, map, Option, Some, None}
use Rattle.std.specs.Global.{Global}
use Rattle.std.specs.declared.boxed.Box.{Box}
use Rattle.cl_model.specs.declared.program.Function.{Function}
use Rattle.cl_model.specs.declared.program.Var.{Var}
use Rattle.cl_model.specs.declared.program.Stmt.{Stmt}
use Rattle.cl_model.specs.Tree as tree
use Rattle.cl_model.specs.View.{array_of, program_of, statement_of}
use Rattle.kir.specs.Listed.{cell_of}
use Rattle.kir.specs.Lowering.{Named, names_of}
use Rattle.kir_lower.specs.declared.places.Made.{Made}
use Rattle.kir_lower.specs.declared.places.Instance.{Instance}
use Rattle.kir_lower.specs.Made as plain
use Rattle.kir_lower.specs.Code.{Calls}
use Rattle.kir_lower.specs.declared.entering.Way.{Way}
use Rattle.kir_lower.specs.Whole as whole
use Rattle.kir_lower.specs.Whole.{call_code}

-- what is made
abbrev pub made_of : Made → plain.Made
made_of made = record { cells = map cell_of made.cells.items; arrays = map array_of made.arrays.items }

-- an instance
abbrev pub instance_of : Instance → plain.Instance
instance_of here = record {
  calls = here.calls.items;
  places = here.places.items;
  roots = here.roots.items;
  types = here.types.items;
  elements = here.elements.items;
  base = here.base;
  arrays = here.arrays;
  answer = here.answer;
}

-- the lines of the calls in an instance of a function of this program
abbrev pub calls_in : Instance → Calls
calls_in here = call_code (program_of here.program.now) (names_of here.program.now) here.depth

-- the names of variables
abbrev pub names_listed : List Var → List Named
names_listed vars = map (λ v. record { name = v.name; place = v.place }) vars

-- the names of a function's variables
abbrev pub names_in : Function → List Named
names_in f = names_listed f.vars.items

-- where a function stands
abbrev pub way_of : Way → whole.Way
way_of w = record { calls = w.calls.items; places = w.places.items; roots = w.roots.items; function = w.function }

-- the statement behind `else`, if it is there
abbrev pub optional_listed : Option (Box Stmt Global) → tree.Statements
optional_listed None = tree.empty
optional_listed (Some s) = tree.also (statement_of s.value) tree.empty
