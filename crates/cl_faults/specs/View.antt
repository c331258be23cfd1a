-- What a contract sees of what a node is judged by.
use Rattle.std.specs.Prelude.{List, map, Option}
use Rattle.cl_tree.specs.Syntax.{Syntax, node, view}
use Rattle.cl_meaning.specs.declared.kind.Kind.{Kind}
use Rattle.cl_meaning.specs.declared.kind.Role.{Role}
use Rattle.cl_meaning.specs.Environment.{Env}
use Rattle.cl_meaning.specs.Calls.{call_of}
use Rattle.cl_meaning.specs.Faults.{Looked, Asked}
use Rattle.cl_scope.specs.View.{visible_in}
use Rattle.cl_faults.specs.declared.looked.Asked as rust_asked
use Rattle.cl_faults.specs.declared.looked.Looked as rust_looked

abbrev pub asked_of : rust_asked.Asked → Asked
asked_of a = record { kernel = a.kernel; calls = map call_of a.calls.items; missing = a.missing.items }

-- a node with what is visible there, its place in its parent, and the kinds of its parts
abbrev pub looked_in : Env → Role → Syntax → List (Option Kind) → Looked
looked_in env role (node form w f l parts) ks =
    record { env = env; role = role; form = form; word = w; first = f; parts = parts; kinds' = ks }

-- places aside, which no fault depends on
abbrev pub looked_of : rust_looked.Looked → Looked
looked_of n = looked_in (visible_in n.environment.now) n.role (view n.tree.now) n.kinds.now
