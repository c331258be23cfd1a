-- A clean launch at each size: every item adds 1 to its own element.
use Rattle.std.specs.Prelude.{◌≡◌, ℕ, ◌%◌, ◌^◌, ◌≤◌, pos, [], ◌∷◌, None, codes}
use Rattle.wg_num.specs.declared.types.IntType.TheVariants.{Int, Uint, Long}
use Rattle.wg_num.specs.declared.types.Bin.TheVariants.{Add}
use Rattle.cl_model.specs.declared.program.Space.TheVariants as space
use Rattle.cl_model.specs.declared.program.Root.TheVariants.{Param}
use Rattle.cl_model.specs.declared.program.VarKind.TheVariants.{Pointer}
use Rattle.cl_model.specs.declared.program.Query.TheVariants.{GlobalId}
use Rattle.cl_model.specs.declared.launch.Bound.TheVariants.{Buffer}
use Rattle.cl_model.specs.Tree.{Literal, Variable, Binary, Convert, Ask, Load, Store, Expression, Apply, none, single}
use Rattle.cl_model.specs.Tree.{pair, Do, empty, also, Function, Program}
use Rattle.cl_model.specs.Heads.{Named, Head}
use Rattle.cl_model.specs.Sizes.{Launch}

-- the element offset of `a[get_global_id(0)]`
abbrev pub own_offset : Expression
own_offset =
    Apply (Binary Add Long) (pair (Apply (Variable 0) none)
    (Apply (Convert Long) (single (Apply (Ask GlobalId)
    (single (Apply (Convert Uint) (single (Apply (Literal (pos 0) Int) none))))))))

-- `a[get_global_id(0)] = a[get_global_id(0)] + 1`
abbrev pub increment_assignment : Expression
increment_assignment = Apply (Store 0 Int (Param 0))
    (pair own_offset (Apply (Binary Add Int) (pair (Apply (Load 1 Int (Param 0)) (single own_offset))
    (Apply (Literal (pos 1) Int) none))))

-- __kernel void inc(__global int *a) { a[get_global_id(0)] = a[get_global_id(0)] + 1; }
abbrev pub increment_kernel : Function
increment_kernel = record {
  parameters = 1;
  result = None;
  variables = Pointer space.Global Int (Param 0) ∷ [];
  arrays = [];
  body = also (Do increment_assignment) empty;
}

-- its names, with that of the parameter in column 33
abbrev pub increment_parameter : Named
increment_parameter = record { name = codes "a"; place = record { line = 1; column = 33 } }

abbrev pub increment_head : Head
increment_head = record { name = codes "inc"; variables = increment_parameter ∷ []; arrays = []; sizes = None }

-- the program of this kernel; the two elements stand in line 1, columns 38 and 60
abbrev pub increment_program : Program
increment_program = record {
  tables = [];
  functions = increment_kernel ∷ [];
  kernel = 0;
  sites = record { line = 1; column = 38 } ∷ record { line = 1; column = 60 } ∷ [];
}

-- so many items in groups of so many, in one dimension, with no turn, on one buffer of this length
abbrev pub flat_launch : ℕ → ℕ → ℕ → Launch
flat_launch global local bytes = record {
  dims = 1;
  global = global ∷ 1 ∷ 1 ∷ [];
  local = local ∷ 1 ∷ 1 ∷ [];
  offset = 0 ∷ 0 ∷ 0 ∷ [];
  turns = 0;
  args = Buffer 0 ∷ [];
  lengths = bytes ∷ [];
  load_count = 1;
  save_count = 1;
}

-- sizes in one dimension: at least 1, within the limits, and the local one divides the global one
abbrev pub IsFlat : ℕ → ℕ → Type 0
IsFlat global local = (1 ≤ local) × (local ≤ 1024) × (1 ≤ global) × (global ≤ 2 ^ 24) × (global % local ≡ 0)
