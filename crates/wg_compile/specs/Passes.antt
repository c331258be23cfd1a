-- A typed unit through the passes: the kernel without calls, made simple, which variables vary, where its cells are
-- kept, its
-- regions, and the program of a group.
use Rattle.std.specs.Prelude.{◌≡◌, ℕ, true, false, List, map}
use Rattle.cl_model.specs.Tree.{Table}
use Rattle.cl_check_sound.specs.Erased.{program_of}
use Rattle.cl_meaning.specs.Typed.{Unit'}
use Rattle.kir.specs.Tree.{Kernel}
use Rattle.kir.specs.Lowering.{Named}
use Rattle.lane_code.specs.Program.{PlainCode, Items, Seq, Vote, Loop, Works, idle, then_work, Plain}
use Rattle.lane_laws.specs.Chain.{NoWork, work_before}
use Rattle.lane_tidy.specs.Tidied.{tidied_of}
use Rattle.ctx_plan.specs.declared.plan.Home.{Home}
use Rattle.ctx_plan.specs.Planned.{Planned}
use Rattle.regions.specs.Tree.{RegionOf, Tree, NoRegion, RegionThen, VoteThen, LoopThen}
use Rattle.regions.specs.Split.{split_of}
use Rattle.mask_lower.specs.Lowered.{region_code}
use Rattle.item_loops.specs.Built.{array_sizes}
use Rattle.kir_lower.specs.Whole.{lowered_of}
use Rattle.kir_simplify.specs.Passes.{simplified_of}
use Rattle.diverge.specs.Rounds.{varying_of}
use Rattle.ctx_plan.specs.Made.{plan_of}

-- the names and places of each function's variables
abbrev pub names_in : Unit' → List (List Named)
names_in u = map (λ g. map (λ v. record { name = v.name; place = v.place }) g.variables) u.functions

-- the kernel without calls, made simple
unfoldable pub kernel_in : Unit' → Kernel
kernel_in u = simplified_of (lowered_of (program_of u) (names_in u))

-- where its cells are kept
unfoldable pub plan_in : Unit' → Planned
plan_in u = plan_of (program_of u) (kernel_in u) (varying_of (program_of u))

-- the codes of regions in order, with the branches and loops of the group
abbrev pub works_of : (RegionOf → PlainCode) → Tree → Works
works_of code NoRegion = idle
works_of code (RegionThen region rest) = then_work (Items (code region)) (works_of code rest)
works_of code (VoteThen test agreed refused mixed rest) =
    then_work (Vote (code test) (Seq (works_of code agreed)) (Seq (works_of code refused)) (code mixed))
    (works_of code rest)
works_of code (LoopThen test_first test body others rest) =
    then_work (Loop test_first (Seq (works_of code test)) (Seq (works_of code body)) (code others)) (works_of code rest)

-- the code of a region, tidied
abbrev pub code_in : Kernel → List Home → RegionOf → PlainCode
code_in kernel homes region = tidied_of (region_code kernel homes region)

-- the program of a group with a kernel and its plan, at a lane width
abbrev pub group_with : ℕ → Kernel → Planned → Plain
group_with width kernel plan = record {
  width = width;
  params = kernel.params;
  tables = map (λ (t : Table). t.bytes) kernel.tables;
  locals = array_sizes false kernel.arrays;
  privates = array_sizes true kernel.arrays;
  columns = plan.columns;
  slots = plan.slots;
  sites = kernel.sites;
  top = Seq (works_of (code_in kernel plan.homes) (split_of kernel));
}

-- the program of a group, at a lane width
unfoldable pub group_in : ℕ → Unit' → Plain
group_in width u = group_with width (kernel_in u) (plan_in u)

-- a program does what another does, in the same order; what it does may be nested otherwise
pub record IsLike (q p : Plain) : Type 0 where
  pub parts : p ≡ record q { top = p.top }
  pub chain : work_before p.top NoWork ≡ work_before q.top NoWork
