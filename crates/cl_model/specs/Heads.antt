-- The heads of a program's functions: names and places, which what a program means does not see.
use Rattle.std.specs.Prelude.{ℕ, List, Option, map}
use Rattle.wg_num.specs.declared.types.Place.{Place}
use Rattle.cl_model.specs.declared.program.Array as rust_array
use Rattle.cl_model.specs.declared.program.Function as rust_function
use Rattle.cl_model.specs.declared.program.Program as rust_program

-- a name, and its place
pub record Named : Type 0 where
  pub name : List ℕ
  pub place : Place

-- an array, with its lengths, outermost first
pub record NamedArray : Type 0 where
  pub name : List ℕ
  pub lengths : List ℕ
  pub place : Place

-- a function: its name, its parameters and variables, its arrays, and the work-group size that it requires
pub record Head : Type 0 where
  pub name : List ℕ
  pub variables : List Named
  pub arrays : List NamedArray
  pub sizes : Option (List ℕ)

-- an array's
abbrev pub named_array : rust_array.Array → NamedArray
named_array a = record { name = a.name; lengths = a.dims.items; place = a.place }

-- a function's
abbrev pub head_of : rust_function.Function → Head
head_of f = record {
  name = f.name;
  variables = map (λ v. record { name = v.name; place = v.place }) f.vars.items;
  arrays = map named_array f.arrays.items;
  sizes = f.sizes;
}

-- the heads of a program's functions
abbrev pub heads_of : rust_program.Program → List Head
heads_of p = map head_of p.functions.items
