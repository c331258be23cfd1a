-- The passes, one after the other, leave what their functions say.
use Rattle.std.proofs.Common.{◌≡◌, ℕ, List, sym, ◌∙◌, ap, ap₂, subst}
use Rattle.std.specs.Prelude.{Bool as Test}
use Rattle.wg_num.specs.declared.types.Width.{Width}
use Rattle.wg_num.specs.Operators.{lanes_of}
use Rattle.cl_model.specs.declared.program.Program.{Program}
use Rattle.cl_model.specs.View.{program_of}
use Rattle.kir.specs.Tree.{Kernel}
use Rattle.kir.specs.Lowering.{names_of}
use Rattle.kir_lower.specs.Whole.{lowered_of}
use Rattle.kir_simplify.specs.Passes.{simplified_of}
use Rattle.diverge.specs.Rounds.{varying_of}
use Rattle.ctx_plan.specs.Planned.{Planned}
use Rattle.ctx_plan.specs.Made.{plan_of}
use Rattle.regions.specs.declared.region.RegionTree.{RegionTree}
use Rattle.regions.specs.Tree.{Tree, NoRegion}
use Rattle.regions.specs.View.{tree_before}
use Rattle.regions.specs.Split.{split_of}
use Rattle.mask_lower.specs.Lowered.{region_code}
use Rattle.lane_code.specs.Program.{Plain}
use Rattle.lane_laws.specs.Chain.{NoWork, work_before}
use Rattle.item_loops.specs.Program.{IsBuilt}
use Rattle.lane_tidy.specs.Tidied.{tidied_work}
use Rattle.item_loops.specs.Built.{built_of}
use Rattle.wg_compile.specs.Passes.{names_in, kernel_in, plan_in, code_in, group_with, group_in, IsLike}
use Rattle.wg_compile.proofs.Alike.{one_chain}
use Rattle.wg_compile.proofs.Tidied.{tidied_chain}
use Rattle.cl_check_sound.specs.Erased as erased
use Rattle.cl_check_sound.proofs.ErasedPrograms.{program_same}
use Rattle.wg_compile.proofs.Names.{names_same}
use Rattle.cl_meaning.specs.View.{unit_of}

-- a built program, with its codes tidied, is like that of its kernel and plan
pub like_built : (kernel : Kernel) (plan : Planned) (width : Width) (tree : RegionTree) (built p : Plain) →
    built ≡ built_of kernel plan width tree → p ≡ record built { top = tidied_work built.top } →
    tree_before tree NoRegion ≡ split_of kernel
    → IsBuilt (λ region code. code ≡ region_code kernel plan.homes region) (tree_before tree NoRegion)
    (work_before built.top NoWork) → IsLike (group_with (lanes_of width) kernel plan) p
like_built kernel plan width tree built p is tidy cut codes =
    subst (λ (x : Plain). IsLike (group_with (lanes_of width) kernel plan) x) (sym tidy) (record {
      parts = ap (λ (x : Plain). record x { top = tidied_work built.top }) is;
      chain = one_chain (code_in kernel plan.homes) (split_of kernel)
          (work_before (tidied_work built.top) NoWork)
          (tidied_chain kernel plan.homes built.top (subst (λ (t : Tree).
          IsBuilt (λ region code. code ≡ region_code kernel plan.homes region) t (work_before built.top NoWork)) cut
          codes));
    })

-- the kernel and the plan of a unit
pub lowered_is : (p : Program) (k : Kernel) → k ≡ lowered_of (program_of p) (names_of p) →
    k ≡ lowered_of (erased.program_of (unit_of p)) (names_in (unit_of p))
lowered_is p k is = is ∙ sym (ap₂ lowered_of (program_same p) (names_same p))

pub kernel_is : (p : Program) (lowered k : Kernel) →
    lowered ≡ lowered_of (erased.program_of (unit_of p)) (names_in (unit_of p)) → k ≡ simplified_of lowered →
    k ≡ kernel_in (unit_of p)
unfolding kernel_in
kernel_is p lowered k is simple = simple ∙ ap simplified_of is

-- what varies of it
pub varying_is : (p : Program) (varying : List (List Test)) → varying ≡ varying_of (program_of p) →
    varying ≡ varying_of (erased.program_of (unit_of p))
varying_is p varying is = is ∙ ap varying_of (sym (program_same p))

-- its regions
pub regions_are : (p : Program) (k : Kernel) (tree : Tree) → k ≡ kernel_in (unit_of p) → tree ≡ split_of k →
    tree ≡ split_of (kernel_in (unit_of p))
regions_are p k tree kernel is = is ∙ ap split_of kernel

pub plan_is : (p : Program) (k : Kernel) (varying : List (List Test)) (plan : Planned) → k ≡ kernel_in (unit_of p) →
    varying ≡ varying_of (program_of p) → plan ≡ plan_of (program_of p) k varying → plan ≡ plan_in (unit_of p)
unfolding plan_in
plan_is p k varying plan kernel varies is =
    is ∙ (ap (λ v. plan_of (program_of p) k v) varies ∙
    (ap (λ x. plan_of (program_of p) x (varying_of (program_of p))) kernel ∙
    ap (λ q. plan_of q (kernel_in (unit_of p)) (varying_of q)) (sym (program_same p))))

-- so the program of a group is that of the unit
pub group_is : (width : ℕ) (p : Program) (k : Kernel) (plan : Planned) (g : Plain) → k ≡ kernel_in (unit_of p) →
    plan ≡ plan_in (unit_of p) → IsLike (group_with width k plan) g → IsLike (group_in width (unit_of p)) g
unfolding group_in
group_is width p k plan g kernel planned like =
    subst (λ (x : Kernel). IsLike (group_with width x (plan_in (unit_of p))) g) kernel
    (subst (λ (x : Planned). IsLike (group_with width k x) g) planned like)
