-- A launch that fits has a chunk, and a group.
use Rattle.std.proofs.Common.{◌≡◌, ℕ, ◌+◌, ◌-◌, ◌*◌, ◌/◌, ◌<◌, ◌≤◌, arith, mul-pos}
use Rattle.wg_num.specs.declared.types.Width.{Width}
use Rattle.wg_num.specs.declared.types.Width.TheVariants.{W1, W4, W8, W16}
use Rattle.wg_num.specs.Operators.{lanes_of}
use Rattle.cl_model.specs.declared.program.VarKind.{VarKind}
use Rattle.cl_model.specs.declared.launch.Launch.{Launch}
use Rattle.std.specs.Prelude.{List}
use Rattle.cl_model.specs.Sizes.{group_count, group_size}
use Rattle.cl_model.specs.View.{launch_of}
use Rattle.lane_code.specs.Fits.{LaunchFits}
use Rattle.lane_machine.proofs.SizeLaws.{sizes_fit, some_groups}

some_chunk : (w : Width) (s : ℕ) → 0 < s → 0 < (s + (lanes_of w - 1)) / lanes_of w
some_chunk W1 s h = omega (arith, h)
some_chunk W4 s h = omega (arith, h)
some_chunk W8 s h = omega (arith, h)
some_chunk W16 s h = omega (arith, h)

module _ (kinds : List VarKind) (bytes : ℕ) (l : Launch) (f : LaunchFits kinds bytes (launch_of l)) where
  pub chunk_there : (w : Width) → 0 < (group_size (launch_of l) + (lanes_of w - 1)) / lanes_of w
  chunk_there w =
      let sizes = (sizes_fit kinds bytes l f).local in
      some_chunk w (group_size (launch_of l))
      (mul-pos (sizes.some 0) (mul-pos (sizes.some 1) (mul-pos (sizes.some 2) (omega arith))))

  pub group_there : 0 < group_count (launch_of l)
  group_there =
      let sizes = sizes_fit kinds bytes l f in
      mul-pos (some_groups _ _ (sizes.global.some 0) (sizes.local.some 0) (sizes.divides 0))
      (mul-pos (some_groups _ _ (sizes.global.some 1) (sizes.local.some 1) (sizes.divides 1))
      (mul-pos (some_groups _ _ (sizes.global.some 2) (sizes.local.some 2) (sizes.divides 2)) (omega arith)))
