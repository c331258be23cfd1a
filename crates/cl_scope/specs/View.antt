-- What a contract sees of an environment.
use Rattle.std.specs.Prelude.{ℕ, List, [], map, option_map, Vec}
use Rattle.std.specs.declared.alloc.Global.{Global}
use Rattle.std.specs.Str.{bytes_eq}
use Rattle.indexmap.specs.IndexMap.{IndexMap, get_by}
use Rattle.wg_num.specs.declared.types.Place.{Place}
use Rattle.cl_meaning.specs.declared.kind.Entry.{Entry}
use Rattle.cl_scope.specs.declared.environment.Environment as rust
use Rattle.cl_scope.specs.declared.environment.Signature as rust_signature
use Rattle.cl_scope.specs.declared.environment.Owner as rust_owner
use Rattle.cl_scope.specs.declared.environment.Labels as rust_labels
use Rattle.cl_meaning.specs.Environment.{Env, Scope, Signature, Owner, Labels}
use Rattle.cl_meaning.specs.View.{variable_of, array_of, table_of}

-- the names of a map
abbrev pub scope_of : {S : Type 0} → IndexMap (Vec ℕ Global) Entry S → Scope
scope_of m name = get_by (λ k. bytes_eq name k.items) m

abbrev pub signature_of : rust_signature.Signature → Signature
signature_of g = record { name = g.name; kernel = g.kernel; result = g.result; parameters = g.parameters.items }

abbrev pub owner_of : rust_owner.Owner → Owner
owner_of o = record { number = o.number; kernel = o.kernel; defining = o.defining; result = o.result; sizes = o.sizes }

abbrev pub labels_of : rust_labels.Labels → Labels
labels_of l = record { of = l.of; values = l.values.items; other = l.other }

-- what is visible, where the tokens of the unit have these places
abbrev pub env_of : List Place → rust.Environment → Env
env_of places e = record {
  places = places;
  functions = map signature_of e.functions.items;
  scopes = map scope_of e.scopes.items;
  tables = map table_of e.tables.items;
  variables = map variable_of e.variables.items;
  arrays = map array_of e.arrays.items;
  owner = owner_of e.owner;
  declared = e.declared;
  flags = e.flags;
  in_body = e.in_body;
  in_loop = e.in_loop;
  in_switch = e.in_switch;
  labels = option_map labels_of e.labels;
}

-- what is visible, places aside
abbrev pub visible_in : rust.Environment → Env
visible_in e = env_of [] e
