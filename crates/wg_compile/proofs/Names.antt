-- The names of the typed program of the model are those of the typed unit.
use Rattle.std.proofs.Common.{◌≡◌, List, [], ◌∷◌, map, refl, ap, ap₂}
use Rattle.cl_model.specs.declared.program.Program as rust_program
use Rattle.cl_model.specs.declared.program.Function as rust_function
use Rattle.cl_model.specs.declared.program.Var as rust_var
use Rattle.cl_meaning.specs.Environment.{Variable}
use Rattle.cl_meaning.specs.Typed.{Function}
use Rattle.cl_meaning.specs.View.{variable_of, function_of, unit_of}
use Rattle.kir.specs.Lowering.{Named, names_of}
use Rattle.wg_compile.specs.Passes.{names_in}

abbrev unit_name : Variable → Named
unit_name v = record { name = v.name; place = v.place }

abbrev declared_name : rust_var.Var → Named
declared_name v = record { name = v.name; place = v.place }

named_same : (vars : List rust_var.Var) → map unit_name (map variable_of vars) ≡ map declared_name vars
named_same [] = refl
named_same (v ∷ vars) = ap (λ (xs : List Named). declared_name v ∷ xs) (named_same vars)

abbrev unit_names : Function → List Named
unit_names g = map unit_name g.variables

abbrev declared_names : rust_function.Function → List Named
declared_names f = map declared_name f.vars.items

all_named : (functions : List rust_function.Function) → map unit_names (map function_of functions) ≡
    map declared_names functions
all_named [] = refl
all_named (g ∷ functions) =
    ap₂ (λ (x : List Named) (xs : List (List Named)). x ∷ xs) (named_same g.vars.items) (all_named functions)

pub names_same : (p : rust_program.Program) → names_in (unit_of p) ≡ names_of p
names_same p = all_named p.functions.items
