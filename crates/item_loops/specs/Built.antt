-- The program of a group that is built of regions.
use Rattle.std.specs.Prelude.{ℕ, List, [], ◌∷◌, map, if◌then◌else◌}
use Rattle.std.specs.Prelude.{Bool as Test, true, false}
use Rattle.wg_num.specs.declared.types.Width.{Width}
use Rattle.wg_num.specs.Operators.{lanes_of}
use Rattle.cl_model.specs.declared.program.Space.{Space}
use Rattle.cl_model.specs.Tree.{Array, Table}
use Rattle.cl_model.specs.Objects.{array_bytes, is_local, is_private}
use Rattle.kir.specs.Tree.{Kernel}
use Rattle.lane_code.specs.Program.{PlainCode, Work, Items, Seq, Vote, Loop, Works, idle, then_work, Plain}
use Rattle.ctx_plan.specs.Planned.{Planned}
use Rattle.regions.specs.declared.region.RegionTree.{RegionTree, Row_of-RegionTree, end_of-RegionTree}
use Rattle.regions.specs.declared.region.RegionTree.{more_of-RegionTree}
use Rattle.regions.specs.declared.region.RegionTree.TheVariants as rows
use Rattle.regions.specs.Tree.{RegionOf}
use Rattle.regions.specs.View.{region_of}
use Rattle.mask_lower.specs.Lowered.{region_code}

-- a space of private memory, or of local memory
abbrev pub is_space : (private : Test) → Space → Test
is_space true space = is_private space
is_space false space = is_local space

-- the bytes of each of the arrays that is in private memory, or of each that is in local memory
abbrev pub array_sizes : (private : Test) → List Array → List ℕ
array_sizes private [] = []
array_sizes private (a ∷ arrays) =
    if is_space private a.space then array_bytes a ∷ array_sizes private arrays else array_sizes private arrays

-- one thing after the other
abbrev pub in_order : List Work → Works
in_order [] = idle
in_order (work ∷ works) = then_work work (in_order works)

-- node for node what the tree says, with the code of each region
abbrev mutual
  pub built_work : (RegionOf → PlainCode) → RegionTree → Work
  built_work code (rows.Items region) = Items (code (region_of region))
  built_work code (rows.Seq' m row) = Seq (built_works code row)
  built_work code (rows.Vote' test p agreed q refused mixed) =
      Vote (code (region_of test)) (built_work code agreed) (built_work code refused) (code (region_of mixed))
  built_work code (rows.Loop' test_first p test q body others) =
      Loop test_first (built_work code test) (built_work code body) (code (region_of others))

  pub built_works : (RegionOf → PlainCode) → {m : _} → Row_of-RegionTree m → Works
  built_works code end_of-RegionTree = idle
  built_works code (more_of-RegionTree t row) = then_work (built_work code t) (built_works code row)

-- the program: its parameters, tables and sites are the kernel's, its columns and slots the plan's, and what it does
-- is the tree
abbrev pub built_of : Kernel → Planned → Width → RegionTree → Plain
built_of kernel plan width tree = record {
  width = lanes_of width;
  params = kernel.params;
  tables = map (λ (t : Table). t.bytes) kernel.tables;
  locals = array_sizes false kernel.arrays;
  privates = array_sizes true kernel.arrays;
  columns = plan.columns;
  slots = plan.slots;
  sites = kernel.sites;
  top = built_work (region_code kernel plan.homes) tree;
}
