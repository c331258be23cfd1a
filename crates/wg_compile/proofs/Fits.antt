-- A launch that fits a group program fits the program.
use Rattle.std.proofs.Common.{◌≡◌, ℕ, ◌+◌, List, ◌++◌, Some, sym, ◌∙◌, ap, subst, arith}
use Rattle.std.specs.Prelude.{sum, slice_get}
use Rattle.wg_num.specs.declared.types.IntType.{IntType}
use Rattle.wg_num.specs.declared.types.Width.{Width}
use Rattle.cl_model.specs.declared.launch.Bound.TheVariants as bound
use Rattle.cl_model.specs.declared.program.Root.{Root}
use Rattle.cl_model.specs.declared.program.Space.TheVariants as space
use Rattle.cl_model.specs.declared.program.VarKind.{VarKind}
use Rattle.cl_model.specs.declared.program.VarKind.TheVariants.{Pointer}
use Rattle.cl_model.specs.Tree.{Program}
use Rattle.cl_model.specs.Sizes.{Launch}
use Rattle.cl_model.specs.Calls.{kernel_of}
use Rattle.cl_model.specs.Valid.{parameter_kinds}
use Rattle.cl_model.specs.Objects.{local_arguments, local_sizes}
use Rattle.cl_model.specs.Fitting.{ArgumentsFit, FitsProgram}
use Rattle.item_loops.specs.Program.{HasPartsOf}
use Rattle.kir.specs.Tree.{Kernel}
use Rattle.kir.specs.Lowering.{Named, IsLoweringOf}
use Rattle.kir.proofs.Shells.{same_locals}
use Rattle.ctx_plan.specs.Planned.{Planned}
use Rattle.lane_code.specs.Fits.{LaunchFits}
use Rattle.lane_code.specs.Program.{Plain}
use Rattle.wg_compile.proofs.Sums.{sum-append}

-- no buffer is bound both to a constant and to a global parameter
abbrev AreApart : List VarKind → Launch → Type 0
AreApart kinds launch = (n m b : ℕ) (element element' : IntType) (root root' : Root)
    → slice_get kinds n ≡ Some (Pointer space.Constant element root) → slice_get launch.args n ≡ Some (bound.Buffer b)
    → slice_get kinds m ≡ Some (Pointer space.Global element' root') →
    slice_get launch.args m ≡ Some (bound.Buffer b) → ⊥

-- the local objects of a group are those of the group program and of the arguments
locals_are : (program : Program) (names : List (List Named)) (kernel : Kernel) (plan : Planned) (width : Width)
    (p : Plain) → IsLoweringOf program names kernel → HasPartsOf kernel plan width p → (launch : Launch) →
    local_sizes program launch ≡ p.locals ++ local_arguments launch.args
locals_are program names kernel plan width p lowered parts launch =
    sym (same_locals program kernel lowered.arrays lowered.parts launch) ∙
    ap (λ (ns : List ℕ). ns ++ local_arguments launch.args) (sym parts.locals)

pub fits_program : (program : Program) (names : List (List Named)) (kernel : Kernel) (plan : Planned) (width : Width)
    (p : Plain) → IsLoweringOf program names kernel → HasPartsOf kernel plan width p
    → (launch : Launch) → LaunchFits p.params (sum p.locals) launch → FitsProgram program launch
fits_program program names kernel plan width p lowered parts launch fits =
    let kinds : p.params ≡ parameter_kinds (kernel_of program) = parts.params ∙ lowered.parts.parameters in
    let bytes : sum (local_sizes program launch) ≡ sum p.locals + sum (local_arguments launch.args) =
    ap sum (locals_are program names kernel plan width p lowered parts launch) ∙
    sum-append p.locals (local_arguments launch.args) in
    record {
      arguments = subst (λ (ks : List VarKind). ArgumentsFit launch ks launch.args) kinds fits.arguments;
      apart = subst (λ (ks : List VarKind). AreApart ks launch) kinds fits.apart;
      few_dims = fits.few_dims;
      dimensions = fits.dimensions;
      group_limit = fits.group_limit;
      item_limit = fits.item_limit;
      loads = fits.loads;
      saves = fits.saves;
      local_limit = omega (arith, bytes, fits.local_limit);
    }
