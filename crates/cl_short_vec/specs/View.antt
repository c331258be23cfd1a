-- What contracts see of marked trees, of visible names and of steps.
use Rattle.std.specs.Prelude.{List, [], ◌∷◌, map}
use Rattle.cl_tree.specs.Syntax.{view}
use Rattle.cl_short_vec.specs.declared.marks.Marked as rust_marked
use Rattle.cl_short_vec.specs.declared.marks.Marked.TheOpen.{Marked-F}
use Rattle.cl_short_vec.specs.declared.marks.Marked.TheFolds.{fold-Marked}
use Rattle.cl_short_vec.specs.declared.names.Entry as rust_entry
use Rattle.cl_short_vec.specs.Kinds.{Names, no_names, with_name}
use Rattle.cl_short_vec.specs.Marks.{Mark, mark, Marks, unmarked, marking}
use Rattle.cl_short_vec.specs.declared.steps.Variable as rust_variable
use Rattle.cl_short_vec.specs.declared.steps.Step as rust_step
use Rattle.cl_short_vec.specs.declared.steps.Step.TheVariants as steps
use Rattle.cl_short_vec.specs.declared.parts.Assigned as rust_assigned
use Rattle.cl_short_vec.specs.Order.{Named, Step, Offset, Number, Copy, Load, Set, Store}
use Rattle.cl_short_vec.specs.Parts.{Assigned}

abbrev pub row : List Mark → Marks
row [] = unmarked
row (m ∷ ms) = marking m (row ms)

-- one node, with the plain value of each part in its place
abbrev pub mark_step : Marked-F Mark → Mark
mark_step x = mark (view x.tree.now) x.kind (row x.parts.items)

-- the plain value of a marked tree
abbrev pub mark_of : rust_marked.Marked → Mark
mark_of = fold-Marked Mark mark_step

abbrev pub marks_of : List rust_marked.Marked → Marks
marks_of ms = row (map mark_of ms)

-- names that are declared one behind the other: the last of a name hides those before
abbrev pub names_from : Names → List rust_entry.Entry → Names
names_from names [] = names
names_from names (e ∷ es) = names_from (with_name names e.name.now e.kind) es

abbrev pub names_of : List rust_entry.Entry → Names
names_of es = names_from no_names es

-- ---- steps

abbrev pub named_of : rust_variable.Variable → Named
named_of x = record { name = x.name.now; span = x.span }

abbrev pub step_of : rust_step.Step → Step
step_of (steps.Offset m) = Offset (mark_of m.now)
step_of (steps.Number of m) = Number of (mark_of m.now)
step_of (steps.Copy of x c) = Copy of (named_of x) c
step_of (steps.Load m c) = Load (mark_of m.now) c
step_of (steps.Set x c j) = Set (named_of x) c j
step_of (steps.Store m c j) = Store (mark_of m.now) c j

abbrev pub steps_from : List rust_step.Step → List Step
steps_from ss = map step_of ss

abbrev pub assigned_from : rust_assigned.Assigned → Assigned
assigned_from a = record {
  operator = a.operator;
  of = a.of;
  target = a.target;
  components = a.components.items;
  value = mark_of a.value.now;
}
