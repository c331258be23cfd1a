-- A clean launch with a barrier: two items exchange their elements through local memory.
use Rattle.std.specs.Prelude.{pos, List, [], ◌∷◌, Some, None, codes}
use Rattle.wg_num.specs.declared.types.IntType.TheVariants.{Int, Uint, Long}
use Rattle.wg_num.specs.declared.types.Bin.TheVariants.{Add, Sub}
use Rattle.cl_model.specs.declared.program.Space.TheVariants as space
use Rattle.cl_model.specs.declared.program.Root.TheVariants as root
use Rattle.cl_model.specs.declared.program.VarKind.TheVariants.{Scalar, Pointer}
use Rattle.cl_model.specs.declared.program.Query.TheVariants.{LocalId}
use Rattle.cl_model.specs.Tree.{Literal, Variable, Binary, Convert, Ask, Load, Store, Expression, Apply, none, single}
use Rattle.cl_model.specs.Tree.{pair, Do, Declare, Barrier, Statements, empty, also, Array, Function, Program}
use Rattle.cl_model.specs.Heads.{Named, NamedArray, Head}
use Rattle.cl_model.specs.Sizes.{Launch}
use Rattle.cl_model.specs.Increment.{flat_launch}

-- `l` as an element number, and the element offset of `a[l]`
abbrev pub own_number : Expression
own_number = Apply (Convert Long) (single (Apply (Variable 1) none))

abbrev pub own_element : Expression
own_element = Apply (Binary Add Long) (pair (Apply (Variable 0) none) own_number)

-- `1 - l`
abbrev pub other_number : Expression
other_number = Apply (Convert Long)
    (single (Apply (Binary Sub Int) (pair (Apply (Literal (pos 1) Int) none) (Apply (Variable 1) none))))

-- `get_local_id(0)` as an int
abbrev pub local_number : Expression
local_number = Apply (Convert Int)
    (single (Apply (Ask LocalId) (single (Apply (Convert Uint) (single (Apply (Literal (pos 0) Int) none))))))

-- `t[l] = a[l]`, and `a[l] = t[1 - l]`
abbrev pub first_assignment : Expression
first_assignment =
    Apply (Store 0 Int (root.Local 0)) (pair own_number (Apply (Load 1 Int (root.Param 0)) (single own_element)))

abbrev pub last_assignment : Expression
last_assignment =
    Apply (Store 3 Int (root.Param 0)) (pair own_element (Apply (Load 4 Int (root.Local 0)) (single other_number)))

-- the statements of the exchange, and its local array
abbrev pub exchange_body : Statements
exchange_body = also (Declare 1 (Some local_number))
    (also (Do first_assignment) (also (Barrier 2) (also (Do last_assignment) empty)))

abbrev pub pair_of_ints : Array
pair_of_ints = record { space = space.Local; element = Int; count = 2 }

-- __kernel void ex(__global int *a) { __local int t[2]; int l = get_local_id(0); t[l] = a[l];
-- barrier(CLK_LOCAL_MEM_FENCE); a[l] = t[1 - l]; }
abbrev pub exchange_kernel : Function
exchange_kernel = record {
  parameters = 1;
  result = None;
  variables = Pointer space.Global Int (root.Param 0) ∷ Scalar Int ∷ [];
  arrays = pair_of_ints ∷ [];
  body = exchange_body;
}

-- its names, with those of the parameter, of `l` and of `t` in columns 32, 59 and 49
abbrev pub exchange_variables : List Named
exchange_variables = record { name = codes "a"; place = record { line = 1; column = 32 } } ∷
    record { name = codes "l"; place = record { line = 1; column = 59 } } ∷ []

abbrev pub exchange_array : NamedArray
exchange_array = record { name = codes "t"; lengths = 2 ∷ []; place = record { line = 1; column = 49 } }

abbrev pub exchange_head : Head
exchange_head = record { name = codes "ex"; variables = exchange_variables; arrays = exchange_array ∷ []; sizes = None }

-- the program of this kernel, with the places of its elements and of its barrier
abbrev pub exchange_program : Program
exchange_program = record {
  tables = [];
  functions = exchange_kernel ∷ [];
  kernel = 0;
  sites = record { line = 1; column = 80 } ∷ record { line = 1; column = 87 } ∷ record {
    line = 1;
    column = 93;
  } ∷ record { line = 1; column = 123 } ∷ record { line = 1; column = 130 } ∷ [];
}

-- two items in one group, on a buffer of two ints
abbrev pub exchange_launch : Launch
exchange_launch = flat_launch 2 2 8
