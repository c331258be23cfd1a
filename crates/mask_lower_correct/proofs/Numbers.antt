-- Objects of different kinds, groups and items have different numbers.
use Rattle.std.proofs.Common.{◌≢◌, ℕ, suc, ◌+◌, ◌*◌, ◌<◌, ◌≤◌, length, ⊎_elim, arith, suc-mul, mul-le-mul_right}
use Rattle.std.proofs.lemmas.Bool.{cases_lt}
use Rattle.cl_model.specs.Sizes.{Launch, group_count}
use Rattle.cl_model.specs.Objects.{local_sizes, private_sizes, first_local, first_private}
use Rattle.kir.specs.Tree.{Kernel}
use Rattle.kir.specs.Steps.{shell_of}

-- rows before a later one end before it
row_before : (g h w a : ℕ) → g < h → a < w → g * w + a < h * w
row_before g h w a lt in_row =
    let more : suc g * w ≤ h * w = mul-le-mul_right w lt in
    let one = suc-mul g w in
    omega (arith, more, one, in_row)

-- places of different rows
pub rows_apart : (g h w a b : ℕ) → g ≢ h → a < w → b < w → g * w + a ≢ h * w + b
rows_apart g h w a b ne p q e =
    ⊎_elim
    (λ lt. let before = row_before g h w a lt p in omega (arith, before, e))
    (λ ge. let lt : h < g = omega arith in let before = row_before h g w b lt q in omega (arith, before, e))
    (cases_lt g h)

module _ (kernel : Kernel) (launch : Launch) where
  abbrev LS : ℕ
  LS = length (local_sizes (shell_of kernel) launch)

  abbrev PS : ℕ
  PS = length (private_sizes (shell_of kernel))

  -- a local object of a group is no private object
  pub local_private : (group n item k : ℕ) → group < group_count launch → n < LS →
      first_local (shell_of kernel) launch group + n ≢ first_private (shell_of kernel) launch item + k
  local_private group n item k lt in_row e =
      let before = row_before group (group_count launch) LS n lt in_row in
      omega (arith, before, e)

  -- local objects of different groups
  pub locals_differ : (group other n k : ℕ) → group ≢ other → n < LS → k < LS →
      first_local (shell_of kernel) launch group + n ≢ first_local (shell_of kernel) launch other + k
  locals_differ group other n k ne p q e = rows_apart group other LS n k ne p q (omega (arith, e))

  -- private objects of different items
  pub privates_differ : (item other n k : ℕ) → item ≢ other → n < PS → k < PS →
      first_private (shell_of kernel) launch item + n ≢ first_private (shell_of kernel) launch other + k
  privates_differ item other n k ne p q e = rows_apart item other PS n k ne p q (omega (arith, e))
