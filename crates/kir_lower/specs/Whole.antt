-- The kernel that a program is lowered to.
use Rattle.std.specs.Prelude.{ℕ, zero, suc, ◌+◌, pos, List, [], ◌∷◌, ◌++◌, length, map, slice_get, unwrap_or}
use Rattle.wg_num.specs.declared.types.IntType.TheVariants.{Int}
use Rattle.wg_num.specs.declared.types.Place.{Place}
use Rattle.cl_model.specs.declared.program.Root.{Root}
use Rattle.cl_model.specs.declared.program.Root.TheVariants.{Param}
use Rattle.cl_model.specs.declared.program.VarKind.{VarKind}
use Rattle.cl_model.specs.Tree.{Array, Function, Program}
use Rattle.cl_model.specs.Calls.{function_at}
use Rattle.cl_model.specs.Calls as called
use Rattle.cl_model.specs.Valid.{kind_type, parameter_kinds}
use Rattle.kir.specs.Tree.{Lines, NoLine, SetThen, Argument, Copy, Kernel}
use Rattle.kir.specs.Lowering.{Named}
use Rattle.kir_lower.specs.declared.places.Value.{Value}
use Rattle.kir_lower.specs.Made.{Made, next_cell, Instance, constant, variable_cells}
use Rattle.kir_lower.specs.Actions.{Code, given, behind}
use Rattle.kir_lower.specs.Code.{Calls, body_code}

-- the names of a function's variables
abbrev pub names_at : List (List Named) → ℕ → List Named
names_at names function = unwrap_or (slice_get names function) []

-- what stands for a place that is not there
abbrev pub no_place : Place
no_place = record { line = 0; column = 0 }

-- the place of a site
abbrev pub place_at : Program → ℕ → Place
place_at program site = unwrap_or (slice_get program.sites site) no_place

-- where a function stands that is called by these calls, at these places, with the kernel's roots of its parameters
pub record Way : Type 0 where
  pub calls : List ℕ
  pub places : List Place
  pub roots : List Root
  pub function : ℕ

-- the function with new cells and arrays, behind those that are made
abbrev pub instance_at : Way → Function → Made → Instance
instance_at way f made = record {
  calls = way.calls;
  places = way.places;
  roots = way.roots;
  types = map kind_type f.variables;
  elements = map (λ (a : Array). a.element) f.arrays;
  base = next_cell made;
  arrays = length made.arrays;
  answer = next_cell made + length f.variables;
}

-- the new cells and arrays
abbrev pub with_instance : Way → List Named → Function → Made → Made
with_instance way names f made = record {
  cells = made.cells ++ variable_cells way.calls way.places way.function 0 names f.variables;
  arrays = made.arrays ++ f.arrays;
}

-- the cells from one on are set to these values
abbrev pub parameter_lines : ℕ → List Value → Lines
parameter_lines cell [] = NoLine
parameter_lines cell (v ∷ values) = SetThen cell (Copy v.atom) (parameter_lines (cell + 1) values)

-- a function that is called: its parameters are set to the arguments, then its body
abbrev pub entered_code : Calls → Way → List Named → Function → List Value → Made → Code
entered_code calls way names f values made =
    behind (parameter_lines (next_cell made) values)
    (body_code calls (instance_at way f made) f (with_instance way names f made))

-- the function behind one more call
abbrev pub way_behind : Program → Instance → (site function : ℕ) → List Root → Way
way_behind program here site function roots = record {
  calls = here.calls ++ site ∷ [];
  places = here.places ++ place_at program site ∷ [];
  roots = roots;
  function = function;
}

-- the lines of a call, where calls nest less deep than the depth
unfoldable pub call_code : Program → List (List Named) → ℕ → Calls
call_code program names zero here site function roots values made = given (constant (pos 0) Int) made
call_code program names (suc depth) here site function roots values made =
    entered_code (call_code program names depth) (way_behind program here site function roots)
    (names_at names function) (function_at program function) values made

-- the kernel's own parameters as roots, the first with this number
abbrev pub own_roots : ℕ → List VarKind → List Root
own_roots n [] = []
own_roots n (kind ∷ kinds) = Param n ∷ own_roots (n + 1) kinds

-- the cells from one on are set to what the launch binds to the parameters, the first with this number
abbrev pub bound_lines : (cell n : ℕ) → List VarKind → Lines
bound_lines cell n [] = NoLine
bound_lines cell n (kind ∷ kinds) = SetThen cell (Argument n) (bound_lines (cell + 1) (n + 1) kinds)

-- nothing is made
abbrev pub nothing_made : Made
nothing_made = record { cells = []; arrays = [] }

-- the kernel as no call leads to it
abbrev pub kernel_way : Program → Way
kernel_way program = record {
  calls = [];
  places = [];
  roots = own_roots 0 (parameter_kinds (called.kernel_of program));
  function = program.kernel;
}

-- the lines of the kernel, with what is made
abbrev pub kernel_code : Program → List (List Named) → Code
kernel_code program names =
    let f = called.kernel_of program in
    let way = kernel_way program in
    behind (bound_lines 0 0 (parameter_kinds f)) (body_code (call_code program names (length program.functions))
    (instance_at way f nothing_made) f (with_instance way (names_at names program.kernel) f nothing_made))

-- the kernel that the program, whose variables have these names, is lowered to
unfoldable pub lowered_of : Program → List (List Named) → Kernel
lowered_of program names =
    let code = kernel_code program names in
    record {
      params = parameter_kinds (called.kernel_of program);
      cells = code.made.cells;
      arrays = code.made.arrays;
      tables = program.tables;
      body = code.lines;
      sites = program.sites;
    }
