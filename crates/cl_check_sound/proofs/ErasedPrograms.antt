-- The typed program of the model is the typed unit without names and places.
use Rattle.std.proofs.Common.{◌≡◌, List, [], ◌∷◌, map, refl, ap, ap₂}
use Rattle.cl_model.specs.declared.program.Program as rust_program
use Rattle.cl_model.specs.declared.program.Function as rust_function
use Rattle.cl_model.specs.declared.program.Table as rust_table
use Rattle.cl_model.specs.declared.program.Array as rust_array
use Rattle.cl_model.specs.declared.program.Var as rust_var
use Rattle.cl_model.specs.Tree as tree
use Rattle.cl_model.specs.View as model
use Rattle.cl_meaning.specs.View as named
use Rattle.cl_check_sound.specs.Erased as erased

array_same : (a : rust_array.Array) → erased.array_of (named.array_of a) ≡ model.array_of a
array_same a = refl

arrays_same : (arrays : List rust_array.Array) → map erased.array_of (map named.array_of arrays) ≡
    map model.array_of arrays
arrays_same [] = refl
arrays_same (a ∷ arrays) = ap₂ (λ x xs. x ∷ xs) (array_same a) (arrays_same arrays)

tables_same : (tables : List rust_table.Table) → map erased.table_of (map named.table_of tables) ≡
    map model.table_of tables
tables_same [] = refl
tables_same (t ∷ tables) = ap₂ (λ x xs. x ∷ xs) (ap (λ (a : tree.Array). record { array = a; bytes = t.bytes.items })
    (array_same t.array)) (tables_same tables)

kinds_same : (vars : List rust_var.Var) → map (λ v. v.kind) (map named.variable_of vars) ≡ map (λ v. v.kind) vars
kinds_same [] = refl
kinds_same (v ∷ vars) = ap (λ xs. v.kind ∷ xs) (kinds_same vars)

function_same : (g : rust_function.Function) → erased.function_of (named.function_of g) ≡ model.function_of g
function_same g =
    ap₂ (λ kinds arrays. record {
      parameters = g.params;
      result = g.result;
      variables = kinds;
      arrays = arrays;
      body = model.listed_statements g.body.items;
    }) (kinds_same g.vars.items) (arrays_same g.arrays.items)

functions_same : (functions : List rust_function.Function) →
    map erased.function_of (map named.function_of functions) ≡ map model.function_of functions
functions_same [] = refl
functions_same (g ∷ functions) = ap₂ (λ x xs. x ∷ xs) (function_same g) (functions_same functions)

pub program_same : (p : rust_program.Program) → erased.program_of (named.unit_of p) ≡ model.program_of p
program_same p =
    ap₂ (λ tables functions. record {
      tables = tables;
      functions = functions;
      kernel = p.kernel;
      sites = p.sites.items;
    }) (tables_same p.tables.items) (functions_same p.functions.items)
