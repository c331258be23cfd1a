-- What is asked of a region.
use Rattle.std.specs.Prelude.{◌≡◌, Some, true}
use Rattle.wg_num.specs.declared.types.IntType.{IntType}
use Rattle.kir.specs.declared.line.Atom.{Atom}
use Rattle.kir.specs.Tree.{Kernel}
use Rattle.kir.specs.Fits.{atom_type, lines_fit}
use Rattle.regions.specs.Tree.{RegionOf}

-- its lines fit the kernel, and so does the atom on which its items vote
pub record RegionFits (kernel : Kernel) (region : RegionOf) : Type 0 where
  pub lines : lines_fit kernel region.lines ≡ true
  pub answer : (a : Atom) → region.answer ≡ Some a → (ty : IntType) × (atom_type kernel a ≡ Some ty)
