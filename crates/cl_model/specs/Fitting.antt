-- When a launch fits a program, and buffers fit a launch.
use Rattle.std.specs.Prelude.{◌≡◌, ℕ, ◌%◌, ◌^◌, ◌<◌, ◌≤◌, List, [], ◌∷◌, Some, length, map, sum, slice_get}
use Rattle.wg_num.specs.Wrap.{IsValue}
use Rattle.wg_num.specs.declared.types.IntType.{IntType}
use Rattle.cl_model.specs.declared.launch.Bound.{Bound}
use Rattle.cl_model.specs.declared.launch.Bound.TheVariants as bound
use Rattle.cl_model.specs.declared.program.Space.TheVariants as space
use Rattle.cl_model.specs.declared.program.Root.{Root}
use Rattle.cl_model.specs.declared.program.VarKind.{VarKind}
use Rattle.cl_model.specs.declared.program.VarKind.TheVariants.{Scalar, Pointer}
use Rattle.cl_model.specs.Tree.{Program}
use Rattle.cl_model.specs.Sizes.{Launch, product, size_at, offset_at}
use Rattle.cl_model.specs.Calls.{kernel_of}
use Rattle.cl_model.specs.Objects.{local_sizes}
use Rattle.cl_model.specs.Valid.{parameter_kinds}

-- what is bound to a parameter is of its kind and type: a value for a number, a buffer for a pointer to global or
-- constant memory, bytes for one to local memory
abbrev pub ArgumentFits : Launch → VarKind → Bound → Type 0
ArgumentFits launch (Scalar t) (bound.Value v) = IsValue t v
ArgumentFits launch (Pointer space.Global element root) (bound.Buffer b) = b < length launch.lengths
ArgumentFits launch (Pointer space.Constant element root) (bound.Buffer b) = b < length launch.lengths
ArgumentFits launch (Pointer space.Local element root) (bound.Local n) = Unit {0}
ArgumentFits launch _ _ = ⊥

-- the same of each parameter, with none left over on either side
abbrev pub ArgumentsFit : Launch → List VarKind → List Bound → Type 0
ArgumentsFit launch [] [] = Unit {0}
ArgumentsFit launch (kind ∷ kinds) (b ∷ args) = ArgumentFits launch kind b × ArgumentsFit launch kinds args
ArgumentsFit launch _ _ = ⊥

-- the sizes and the offset of a launch in a dimension
pub record DimensionFits (launch : Launch) (d : ℕ) : Type 0 where
  pub some_local : 1 ≤ size_at launch.local d
  pub some_global : 1 ≤ size_at launch.global d
  pub divides : size_at launch.global d % size_at launch.local d ≡ 0
  pub offset : offset_at launch.offset d ≤ 9223372036854775807
  -- a dimension that the launch does not have
  pub absent : launch.dims ≤ d → (size_at launch.global d ≡ 1) × (size_at launch.local d ≡ 1) ×
      (offset_at launch.offset d ≡ 0)

-- the launch fits the program
pub record FitsProgram (program : Program) (launch : Launch) : Type 0 where
  pub arguments : ArgumentsFit launch (parameter_kinds (kernel_of program)) launch.args
  -- no buffer is bound both to a constant and to a global parameter
  pub apart : (n m b : ℕ) (element element' : IntType) (root root' : Root)
      → slice_get (parameter_kinds (kernel_of program)) n ≡ Some (Pointer space.Constant element root) →
      slice_get launch.args n ≡ Some (bound.Buffer b)
      → slice_get (parameter_kinds (kernel_of program)) m ≡ Some (Pointer space.Global element' root') →
      slice_get launch.args m ≡ Some (bound.Buffer b) → ⊥
  pub few_dims : (1 ≤ launch.dims) × (launch.dims ≤ 3)
  pub dimensions : (d : ℕ) → d < 3 → DimensionFits launch d
  pub group_limit : product launch.local ≤ 1024
  pub item_limit : product launch.global ≤ 2 ^ 24
  pub loads : launch.load_count ≡ length launch.lengths
  pub saves : launch.save_count ≡ length launch.lengths
  pub local_limit : sum (local_sizes program launch) ≤ 65536

-- the buffers have the lengths that the launch gives them
abbrev pub FitBuffers : Launch → List (List ℕ) → Type 0
FitBuffers launch buffers = map (λ (b : List ℕ). length b) buffers ≡ launch.lengths
