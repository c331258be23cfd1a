-- Which variables of a function cross, and where calls stand, said of its outline.
use Rattle.std.specs.Prelude.{◌≡◌, ◌⊎◌, ℕ, true}
use Rattle.std.specs.Prelude.{Bool as Test}
use Rattle.ctx_plan.specs.Outline.{Outline, NoPiece, DeclaresThen, CutThen, CallsThen, BlockThen}
use Rattle.ctx_plan.specs.Sharing.{has_cut}

-- a declaration of the variable stands in the outline, and a cut in its scope behind it
abbrev pub CrossesIn : (inside : ℕ → Test) → Outline → ℕ → Type 0
CrossesIn inside NoPiece x = ⊥
CrossesIn inside (DeclaresThen y rest) x = ((y ≡ x) × (has_cut inside rest ≡ true)) ⊎ CrossesIn inside rest x
CrossesIn inside (CutThen rest) x = CrossesIn inside rest x
CrossesIn inside (CallsThen site g rest) x = CrossesIn inside rest x
CrossesIn inside (BlockThen inner rest) x = CrossesIn inside inner x ⊎ CrossesIn inside rest x

-- a declaration of the variable stands in the outline
abbrev pub DeclaredIn : Outline → ℕ → Type 0
DeclaredIn NoPiece x = ⊥
DeclaredIn (DeclaresThen y rest) x = (y ≡ x) ⊎ DeclaredIn rest x
DeclaredIn (CutThen rest) x = DeclaredIn rest x
DeclaredIn (CallsThen site g rest) x = DeclaredIn rest x
DeclaredIn (BlockThen inner rest) x = DeclaredIn inner x ⊎ DeclaredIn rest x

-- something holds of the site and the function of each call
abbrev pub EachCall : (ℕ → ℕ → Type 0) → Outline → Type 0
EachCall P NoPiece = Unit {0}
EachCall P (DeclaresThen y rest) = EachCall P rest
EachCall P (CutThen rest) = EachCall P rest
EachCall P (CallsThen site g rest) = P site g × EachCall P rest
EachCall P (BlockThen inner rest) = EachCall P inner × EachCall P rest
