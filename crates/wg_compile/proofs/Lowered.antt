-- The kernel without calls comes from its program, and so does the simple one that is made of it: the whole record of
-- a lowering, for the unit of a valid program.
use Rattle.std.proofs.Common.{◌≡◌, true, ap}
use Rattle.cl_model.specs.Calls.{kernel_of}
use Rattle.cl_model.specs.Valid.{IsValid, parameter_kinds}
use Rattle.cl_meaning.specs.Typed.{Unit'}
use Rattle.cl_check_sound.specs.Erased.{program_of}
use Rattle.kir.specs.Fits.{is_kernel}
use Rattle.kir.specs.Tree.{Kernel}
use Rattle.kir.specs.Lowering.{IsLoweringOf, BeginsWithArguments}
use Rattle.kir_lower.specs.Whole.{lowered_of}
use Rattle.kir_lower_shape.proofs.Cells.{has_cells}
use Rattle.kir_lower_shape.proofs.Arguments.{begins_with_arguments}
use Rattle.kir_lower_shape.proofs.Arrays.{has_arrays}
use Rattle.kir_lower_shape.proofs.Parts.{has_parts}
use Rattle.kir_lower_shape.proofs.Starts.{starts_anew}
use Rattle.kir_lower_shape.proofs.Keeps.{has_few_keeps}
use Rattle.kir_lower_shape.proofs.FewLines.{has_few_lines}
use Rattle.kir_lower_simulation.proofs.Wholes.{has_matching}
use Rattle.kir_lower_uniform.proofs.FineWhole.{has_cuts}
use Rattle.kir_lower_uniform.proofs.Wholes.{is_even_where_steady}
use Rattle.kir_simplify.specs.Faithful.{Simplifies}
use Rattle.kir_simplify.proofs.Composed.{composed}
use Rattle.kir_simplify.proofs.RoundsEnd.{simplified_kept}
use Rattle.wg_compile.specs.Passes.{names_in, kernel_in}
use Rattle.wg_compile.proofs.Plans.{named_as}

-- the kernel that is lowered from a valid program, which is a kernel since it was made
pub lowered_first : (u : Unit') → IsValid (program_of u) → is_kernel (lowered_of (program_of u) (names_in u)) ≡ true →
    IsLoweringOf (program_of u) (names_in u) (lowered_of (program_of u) (names_in u))
lowered_first u valid fits = record {
  cells = has_cells (program_of u) (names_in u) valid (named_as u.functions);
  arrays = has_arrays (program_of u) (names_in u) valid;
  parts = has_parts (program_of u) (names_in u);
  start = starts_anew (program_of u) (names_in u) valid;
  cuts = has_cuts (program_of u) (names_in u) valid (named_as u.functions);
  evenness = is_even_where_steady (program_of u) (names_in u) valid (named_as u.functions);
  few_keeps = has_few_keeps (program_of u) (names_in u) valid (named_as u.functions);
  matching = has_matching (program_of u) (names_in u) valid (named_as u.functions) fits;
  few_lines = has_few_lines (program_of u) (names_in u) valid;
}

-- so does the simple one
pub lowered_in : (u : Unit') → IsValid (program_of u) → is_kernel (lowered_of (program_of u) (names_in u)) ≡ true →
    Simplifies (lowered_of (program_of u) (names_in u)) (kernel_in u) →
    IsLoweringOf (program_of u) (names_in u) (kernel_in u)
lowered_in u valid fits simple =
    composed (program_of u) (names_in u) (lowered_of (program_of u) (names_in u)) (kernel_in u)
    (lowered_first u valid fits) simple.faithful

-- it has the program's parameters
pub params_are : (u : Unit') → (kernel_in u).params ≡ parameter_kinds (kernel_of (program_of u))
unfolding kernel_in lowered_of
params_are u = ap (λ (k : Kernel). k.params) (simplified_kept (lowered_of (program_of u) (names_in u)))

-- the lowered body begins with the arguments
pub begins_in : (u : Unit') → IsValid (program_of u) →
    BeginsWithArguments (program_of u) (lowered_of (program_of u) (names_in u))
begins_in u valid = begins_with_arguments (program_of u) (names_in u) valid (named_as u.functions)
