-- Each cell holds a value of its type.
use Rattle.std.specs.Prelude.{◌≡◌, ℕ, ℤ, Option, Some, slice_get, option_map}
use Rattle.wg_num.specs.declared.types.IntType.{IntType}
use Rattle.wg_num.specs.Wrap.{IsValue}
use Rattle.kir.specs.Tree.{Cell, Kernel}

-- the type of a cell
abbrev pub type_of : Kernel → ℕ → Option IntType
type_of kernel c = option_map (λ (cell : Cell). cell.of) (slice_get kernel.cells c)

-- what each cell of the kernel holds is a value of the cell's type
abbrev pub HoldTypes : Kernel → (ℕ → ℤ) → Type 0
HoldTypes kernel cells = (c : ℕ) (of : IntType) → type_of kernel c ≡ Some of → IsValue of (cells c)
