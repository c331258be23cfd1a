-- Launches whose sizes a machine can count.
use Rattle.std.specs.Prelude.{ℕ, List, ◌≡◌, ◌≤◌, ◌<◌, ◌^◌, ◌%◌}
use Rattle.cl_model.specs.Sizes.{Launch, product, size_at, offset_at}

-- sizes of at least 1, which are few together
pub record AreSizes (sizes : List ℕ) : Type 0 where
  pub some : (d : ℕ) → 1 ≤ size_at sizes d
  pub few : product sizes ≤ 2 ^ 24

-- the sizes of a launch that fits a program
pub record HasSizes (launch : Launch) : Type 0 where
  pub local : AreSizes launch.local
  pub global : AreSizes launch.global
  pub divides : (d : ℕ) → size_at launch.global d % size_at launch.local d ≡ 0
  pub offset : (d : ℕ) → offset_at launch.offset d < 2 ^ 63
