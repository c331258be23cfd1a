-- The kernel that a program is lowered to has matching histories and runs in each launch that fits and has sizes.
use Rattle.std.proofs.Common.{◌≡◌, ℕ, zero, suc, ◌<◌, List, length, refl, arith}
use Rattle.std.proofs.Common.{true}
use Rattle.std.proofs.lemmas.Bool.{and_parts}
use Rattle.cl_model.specs.Fitting.{FitsProgram}
use Rattle.cl_model.specs.Meaning.{start_item as program_start_item}
use Rattle.cl_model.specs.Sizes.{Launch}
use Rattle.cl_model.specs.Tree.{Program}
use Rattle.cl_model.specs.Valid.{IsValid}
use Rattle.kir.specs.Fits.{is_kernel, lines_fit, roots_are_own}
use Rattle.kir.specs.Lowering.{Named, HasArrays, HasParts, HasGlobalSizes, HasMatching}
use Rattle.kir.specs.Meaning.{start_item}
use Rattle.kir.specs.Steps.{shell_of}
use Rattle.kir.specs.Tree.{Kernel}
use Rattle.kir.proofs.Shells.{shares_launches}
use Rattle.kir.proofs.FromSteps.{from_steps}
use Rattle.kir_lower.specs.Whole.{lowered_of}
use Rattle.kir_lower_shape.specs.CodeMarks.{kernel_marks}
use Rattle.kir_lower_shape.specs.Marks.{point_marked}
use Rattle.kir_lower_shape.specs.Names.{AreNamed}
use Rattle.kir_lower_shape.proofs.Arrays.{has_arrays}
use Rattle.kir_lower_shape.proofs.Parts.{has_parts}
use Rattle.kir_lower_shape.proofs.FollowsOn.{Follows_on, has_steps}
use Rattle.kir_lower_simulation.specs.Setting.{Setting}
use Rattle.kir_lower_simulation.proofs.Calls.{AllHeads, calls_all}
use Rattle.kir_lower_simulation.proofs.Followed.{G_follow, followed, standing_start}
use Rattle.kir_lower_simulation.proofs.Kernels.{kernel_follows}
use Rattle.kir_lower_simulation.proofs.Stood.{G_stood, stood, stood_heads, followed_heads}

-- there is a function, the kernel
some_function : (count kernel : ℕ) → kernel < count → (depth : ℕ) × (count ≡ suc depth)
some_function zero kernel h = absurd (omega (arith, h))
some_function (suc depth) kernel h = (depth, refl)

-- the lines of a kernel that fits fit
body_fits : (kernel : Kernel) → is_kernel kernel ≡ true → lines_fit kernel kernel.body ≡ true
body_fits kernel fit = (and_parts (roots_are_own 0 kernel.params) (lines_fit kernel kernel.body)
    (and_parts _ _ (and_parts _ _ (and_parts _ _ (and_parts _ _ (and_parts _ _ fit).0).0).0).0).0).1

module _ (program : Program) (names : List (List Named)) (valid : IsValid program) (named : AreNamed program names)
    (fit : is_kernel (lowered_of program names) ≡ true) where
  arrays : HasArrays program (lowered_of program names)
  arrays = has_arrays program names valid

  parts : HasParts program (lowered_of program names)
  parts = has_parts program names

  module _ (launch : Launch) (fits : FitsProgram program launch) (sizes : HasGlobalSizes launch)
      (buffers : List (List ℕ)) where
    fits_shell : FitsProgram (shell_of (lowered_of program names)) launch
    fits_shell = shares_launches program (lowered_of program names) arrays parts launch fits

    abbrev at_item : ℕ → Setting
    at_item item = record {
      program = program;
      kernel = lowered_of program names;
      marks = kernel_marks program names;
      launch = launch;
      buffers = buffers;
      item = item;
    }

    -- the heads of loops are covered
    heads_stood : (item : ℕ) → AllHeads (at_item item) (G_stood (at_item item) names refl refl fits_shell sizes)
        (stood (at_item item) names refl refl fits_shell sizes) valid names named arrays parts
    heads_stood item C under is_body all =
        stood_heads (at_item item) names refl refl fits_shell sizes C _ _ under is_body all

    -- so they are followed
    heads_followed : (item : ℕ) → AllHeads (at_item item) (G_follow (at_item item) names refl refl fits_shell sizes)
        (followed (at_item item) names refl refl fits_shell sizes) valid names named arrays parts
    heads_followed item C under is_body all =
        followed_heads (at_item item) names refl refl fits_shell sizes C _ _ under is_body
        (calls_all (at_item item) (G_stood (at_item item) names refl refl fits_shell sizes)
        (stood (at_item item) names refl refl fits_shell sizes) valid names named arrays parts
        (heads_stood item) C under) all

    -- and so is the whole kernel, from the start of each item
    pub item_follows : (n item : ℕ) →
        Follows_on program (lowered_of program names) (point_marked (kernel_marks program names)) launch buffers n
        (start_item (lowered_of program names) item) (program_start_item program launch item)
    item_follows n item =
        let d = some_function (length program.functions) program.kernel valid.kernel in
        (kernel_follows (at_item item) (G_follow (at_item item) names refl refl fits_shell sizes)
        (followed (at_item item) names refl refl fits_shell sizes) valid names named arrays parts refl refl
        (heads_followed item) d.0 d.1 n
        (standing_start (at_item item) names refl refl fits_shell sizes (body_fits (lowered_of program names) fit)
        item)).follows

  -- histories and runs match
  pub has_matching : HasMatching program (lowered_of program names)
  has_matching =
      from_steps program (lowered_of program names) valid fit arrays parts (point_marked (kernel_marks program names))
      (λ launch fits sizes buffers there. has_steps program (lowered_of program names)
      (point_marked (kernel_marks program names)) launch buffers (item_follows launch fits sizes buffers))
