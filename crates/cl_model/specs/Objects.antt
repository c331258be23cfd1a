-- The objects of a launch: each buffer; each constant table; per group, one for each local array and each argument of
-- local memory; per item and path of calls, one for each private array (OpenCL 1.2, section 3.3).
use Rattle.std.specs.Prelude.{◌≡◌, ℕ, zero, suc, ◌+◌, ◌*◌, List, [], ◌∷◌, ◌++◌, Option, Some, None, length, map}
use Rattle.std.specs.Prelude.{filter, flat_map, replicate, take, slice_get, nat_eq, nat_lt, ◌&&◌, if◌then◌else◌}
use Rattle.std.specs.Prelude.{Bool as Test, true, false}
use Rattle.work_items.specs.Memory.{Memory}
use Rattle.cl_model.specs.declared.program.Space.{Space}
use Rattle.cl_model.specs.declared.program.Space.TheVariants as space
use Rattle.cl_model.specs.declared.program.Root.{Root}
use Rattle.cl_model.specs.declared.program.Root.TheVariants.{Param, Constant, Local, Private}
use Rattle.cl_model.specs.declared.program.VarKind.{VarKind}
use Rattle.cl_model.specs.declared.program.VarKind.TheVariants.{Scalar, Pointer}
use Rattle.cl_model.specs.declared.launch.Bound.{Bound}
use Rattle.cl_model.specs.declared.launch.Bound.TheVariants as bound
use Rattle.cl_model.specs.Tree.{Array, Table, Program}
use Rattle.wg_num.specs.Bytes.{size_of}
use Rattle.cl_model.specs.Sizes.{Launch, group_count, item_count, group_of}
use Rattle.cl_model.specs.Calls.{Instance, instances, function_at, kernel_of}

-- the space is local memory
abbrev pub is_local : Space → Test
is_local space.Global = false
is_local space.Constant = false
is_local space.Local = true
is_local space.Private = false

-- the space is private memory
abbrev pub is_private : Space → Test
is_private space.Global = false
is_private space.Constant = false
is_private space.Local = false
is_private space.Private = true

-- how many bytes an array has
abbrev pub array_bytes : Array → ℕ
array_bytes a = a.count * size_of a.element

-- an array of an instance: the calls that lead there, and its number in the function
pub record PlacedArray : Type 0 where
  pub path : List ℕ
  pub number : ℕ
  pub array : Array

-- the arrays of a function behind these calls, the first of them with this number
abbrev pub placed_from : List ℕ → ℕ → List Array → List PlacedArray
placed_from path number [] = []
placed_from path number (a ∷ rest) =
    record { path = path; number = number; array = a } ∷ placed_from path (suc number) rest

-- the arrays of all instances
abbrev pub placed_arrays : Program → List PlacedArray
placed_arrays program =
    flat_map (λ (i : Instance). placed_from i.path 0 (function_at program i.function).arrays) (instances program)

-- those in local memory
abbrev pub local_arrays : Program → List PlacedArray
local_arrays program = filter (λ (a : PlacedArray). is_local a.array.space) (placed_arrays program)

-- those in private memory
abbrev pub private_arrays : Program → List PlacedArray
private_arrays program = filter (λ (a : PlacedArray). is_private a.array.space) (placed_arrays program)

-- the lists are equal
abbrev pub same_path : List ℕ → List ℕ → Test
same_path [] [] = true
same_path [] (y ∷ ys) = false
same_path (x ∷ xs) [] = false
same_path (x ∷ xs) (y ∷ ys) = nat_eq x y && same_path xs ys

-- the place of an array in a list of arrays, which is the list's length where it isn't there
abbrev pub place_among : List PlacedArray → List ℕ → ℕ → ℕ
place_among [] path number = 0
place_among (a ∷ rest) path number =
    if same_path a.path path && nat_eq a.number number then 0 else suc (place_among rest path number)

-- the bytes of each argument of local memory
abbrev pub local_arguments : List Bound → List ℕ
local_arguments [] = []
local_arguments (bound.Buffer b ∷ args) = local_arguments args
local_arguments (bound.Value v ∷ args) = local_arguments args
local_arguments (bound.Local n ∷ args) = n ∷ local_arguments args

-- the bytes of each local object of a group, and of each private object of an item
abbrev pub local_sizes : Program → Launch → List ℕ
local_sizes program launch =
    map (λ (a : PlacedArray). array_bytes a.array) (local_arrays program) ++ local_arguments launch.args

-- and of each private object of an item
abbrev pub private_sizes : Program → List ℕ
private_sizes program = map (λ (a : PlacedArray). array_bytes a.array) (private_arrays program)

-- so many zero bytes
abbrev pub zeros : ℕ → List ℕ
zeros n = replicate n 0

-- so many copies of a list, one behind the other
abbrev pub copies : ℕ → Memory → Memory
copies zero objects = []
copies (suc n) objects = objects ++ copies n objects

-- the memory in which a launch starts on these buffers
abbrev pub start_memory : Program → Launch → List (List ℕ) → Memory
start_memory program launch buffers =
    buffers ++ (map (λ (t : Table). t.bytes) program.tables
    ++ (copies (group_count launch) (map zeros (local_sizes program launch))
    ++ copies (item_count launch) (map zeros (private_sizes program))))

-- the number of the first object of each kind: tables, local objects of a group, private objects of an item
abbrev pub first_table : Launch → ℕ
first_table launch = length launch.lengths

-- the number of the first local object of a group
abbrev pub first_local : Program → Launch → ℕ → ℕ
first_local program launch group =
    first_table launch + length program.tables + group * length (local_sizes program launch)

-- the number of the first private object of an item
abbrev pub first_private : Program → Launch → ℕ → ℕ
first_private program launch item =
    first_local program launch (group_count launch) + item * length (private_sizes program)

-- the object that an argument of the kernel names, where the item is of this group
abbrev pub argument_object : Program → Launch → ℕ → ℕ → Option Bound → ℕ
argument_object program launch group parameter (Some (bound.Buffer b)) = b
argument_object program launch group parameter (Some (bound.Local n)) =
    first_local program launch group + length (local_arrays program) +
    length (local_arguments (take parameter launch.args))
argument_object program launch group parameter (Some (bound.Value v)) = 0
argument_object program launch group parameter None = 0

-- the object that each parameter of the kernel names
abbrev pub kernel_objects : Program → Launch → ℕ → ℕ → ℕ
kernel_objects program launch item parameter =
    argument_object program launch (group_of launch item) parameter (slice_get launch.args parameter)

-- the object that a root names, to an item in an instance behind these calls whose parameters name these objects
abbrev pub object_of : Program → Launch → ℕ → List ℕ → (ℕ → ℕ) → Root → ℕ
object_of program launch item path objects (Param n) = objects n
object_of program launch item path objects (Constant n) = first_table launch + n
object_of program launch item path objects (Local n) =
    first_local program launch (group_of launch item) + place_among (local_arrays program) path n
object_of program launch item path objects (Private n) =
    first_private program launch item + place_among (private_arrays program) path n

-- the kind of a parameter is a pointer to constant memory
abbrev pub is_constant_pointer : Option VarKind → Test
is_constant_pointer None = false
is_constant_pointer (Some (Scalar t)) = false
is_constant_pointer (Some (Pointer space.Global element root)) = false
is_constant_pointer (Some (Pointer space.Constant element root)) = true
is_constant_pointer (Some (Pointer space.Local element root)) = false
is_constant_pointer (Some (Pointer space.Private element root)) = false

-- what is bound is the buffer with this number
abbrev pub is_buffer : Option Bound → ℕ → Test
is_buffer None object = false
is_buffer (Some (bound.Buffer b)) object = nat_eq b object
is_buffer (Some (bound.Value v)) object = false
is_buffer (Some (bound.Local n)) object = false

-- the object is constant memory: a table, or a buffer that a parameter names which points to constant memory
pub data IsConstant (program : Program) (launch : Launch) (object : ℕ) : Type 0 where
  a_table : (n : ℕ) → nat_lt n (length program.tables) ≡ true → object ≡ first_table launch + n →
      IsConstant program launch object
  a_buffer : (parameter : ℕ) → is_constant_pointer
      (slice_get (take (kernel_of program).parameters (kernel_of program).variables) parameter) ≡ true →
      is_buffer (slice_get launch.args parameter) object ≡ true → IsConstant program launch object
