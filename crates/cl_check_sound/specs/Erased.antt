-- The typed unit as a program: without the names and places of what it declares.
use Rattle.std.specs.Prelude.{map}
use Rattle.cl_model.specs.Tree as tree
use Rattle.cl_meaning.specs.Environment.{Array, Table}
use Rattle.cl_model.specs.Sizes.{product}
use Rattle.cl_meaning.specs.Typed.{Function, Unit'}

abbrev pub array_of : Array → tree.Array
array_of a = record { space = a.space; element = a.element; count = product a.dims }

abbrev pub table_of : Table → tree.Table
table_of t = record { array = array_of t.array; bytes = t.bytes }

abbrev pub function_of : Function → tree.Function
function_of g = record {
  parameters = g.parameters;
  result = g.result;
  variables = map (λ v. v.kind) g.variables;
  arrays = map array_of g.arrays;
  body = g.body;
}

abbrev pub program_of : Unit' → tree.Program
program_of u = record {
  tables = map table_of u.tables;
  functions = map function_of u.functions;
  kernel = u.kernel;
  sites = u.sites;
}
