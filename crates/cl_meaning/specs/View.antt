-- What a contract sees of a typed program with its names.
use Rattle.std.specs.Prelude.{map}
use Rattle.cl_model.specs.declared.program.Program as rust_program
use Rattle.cl_model.specs.declared.program.Function as rust_function
use Rattle.cl_model.specs.declared.program.Table as rust_table
use Rattle.cl_model.specs.declared.program.Array as rust_array
use Rattle.cl_model.specs.declared.program.Var as rust_var
use Rattle.cl_model.specs.View.{listed_statements}
use Rattle.cl_meaning.specs.Environment.{Variable, Array, Table}
use Rattle.cl_meaning.specs.Typed.{Function, Unit'}

abbrev pub variable_of : rust_var.Var → Variable
variable_of v = record { name = v.name; kind = v.kind; place = v.place }

abbrev pub array_of : rust_array.Array → Array
array_of a = record { name = a.name; space = a.space; element = a.element; dims = a.dims.items; place = a.place }

abbrev pub table_of : rust_table.Table → Table
table_of t = record { array = array_of t.array; bytes = t.bytes.items }

abbrev pub function_of : rust_function.Function → Function
function_of g = record {
  name = g.name;
  parameters = g.params;
  result = g.result;
  variables = map variable_of g.vars.items;
  arrays = map array_of g.arrays.items;
  body = listed_statements g.body.items;
  sizes = g.sizes;
}

abbrev pub unit_of : rust_program.Program → Unit'
unit_of p = record {
  tables = map table_of p.tables.items;
  functions = map function_of p.functions.items;
  kernel = p.kernel;
  sites = p.sites.items;
}
