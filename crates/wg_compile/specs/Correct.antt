-- What it means that a kernel is compiled: each pass leaves what its function says, and of a valid program each means
-- what the program means.
use Rattle.std.specs.Prelude.{◌≡◌, ℕ, List, Some, slice_get, sum}
use Rattle.std.specs.Prelude.{Bool as Test}
use Rattle.wg_num.specs.declared.types.Width.{Width}
use Rattle.wg_num.specs.Operators.{lanes_of}
use Rattle.cl_model.specs.Tree.{Program}
use Rattle.cl_model.specs.Sizes.{Launch}
use Rattle.cl_model.specs.Fitting.{FitsProgram}
use Rattle.cl_model.specs.Agreement.{Agrees, AgreesInRuns}
use Rattle.cl_model.specs.Valid.{IsValid}
use Rattle.cl_model.specs.View as model
use Rattle.cl_meaning.specs.Typed.{Unit'}
use Rattle.cl_meaning.specs.View.{unit_of}
use Rattle.cl_check_sound.specs.Erased.{program_of}
use Rattle.kir.specs.Tree.{Variable, Kernel}
use Rattle.kir.specs.Homes.{IsCellOf}
use Rattle.kir.specs.Lowering.{Named, IsLoweringOf, BeginsWithArguments}
use Rattle.kir.specs.View.{kernel_of}
use Rattle.kir_lower.specs.Whole.{lowered_of}
use Rattle.kir_simplify.specs.Faithful.{Simplifies}
use Rattle.diverge.specs.Marks.{marks}
use Rattle.diverge.specs.Rounds.{varying_of}
use Rattle.ctx_plan.specs.declared.plan.Home.TheVariants as home
use Rattle.ctx_plan.specs.Planned.{Planned, IsPlan, AreVarying}
use Rattle.ctx_plan.specs.View.{planned_of}
use Rattle.regions.specs.Tree.{NoRegion}
use Rattle.regions.specs.Fragments.{EachRegion}
use Rattle.regions.specs.Split.{split_of}
use Rattle.regions.specs.View.{tree_before}
use Rattle.mask_lower.specs.Following.{Follows}
use Rattle.mask_lower.specs.Lowered.{region_code}
use Rattle.lane_code.specs.Fits.{LaunchFits}
use Rattle.lane_code.specs.Program.{Plain}
use Rattle.lane_code.specs.Run.{program_end}
use Rattle.lane_code.specs.View.{plain_of}
use Rattle.lane_tidy.specs.Same.{DoesTheSame}
use Rattle.item_loops.specs.Program.{HasPartsOf}
use Rattle.item_loops.specs.Regions.{RegionFollows}
use Rattle.item_loops.specs.Grouped.{GroupsFollow}
use Rattle.wg_compile.specs.declared.Compiled.{Compiled}
use Rattle.wg_compile.specs.Passes.{names_in, kernel_in, plan_in, code_in, group_in, IsLike}
use Rattle.wg_compile.specs.Ends.{EndsInOutcomes}
use Rattle.wg_compile.specs.Shape.{IsShaped}

-- two work-items of one group that stand at one point, in two histories or at two moments of a run, hold equal values
-- of the variable, in each launch that fits
abbrev pub HoldsEqual : Program → Variable → Type 0
HoldsEqual program v =
    (launch : Launch) → FitsProgram program launch → (buffers : List (List ℕ))
    → Agrees program launch buffers (record { function = v.function; variable = v.number }) ×
    AgreesInRuns program launch buffers (record { function = v.function; variable = v.number })

-- each cell that is kept once for a group is that of a variable with equal values in all work-items of the group
abbrev pub KeepsOnceWhatIsEqual : Program → Kernel → Planned → Type 0
KeepsOnceWhatIsEqual program kernel plan =
    (c s : ℕ) → slice_get plan.homes c ≡ Some (home.Once s) → (v : Variable) × IsCellOf kernel v c ×
    HoldsEqual program v

-- the same of the kernel and the plan that the passes make of a unit, whatever a call of them answers
abbrev pub KeepsOnceIn : Unit' → Type 0
KeepsOnceIn u = KeepsOnceWhatIsEqual (program_of u) (kernel_in u) (plan_in u)

-- what each pass means, one field a pass in the order of the calls:
-- `lower`: the kernel without calls comes from the program, and its histories and runs are matched by the program's;
-- it begins with one `Set` from its argument for each parameter;
-- `simplify`: the kernel that is made of it is simple, and whatever an item of it does an item of the given one does;
-- so
-- it comes from the program, and its histories and runs are matched by the program's;
-- `analyse`: exactly the variables are marked that vary;
-- `plan`: each cell has its home, and what is kept once for a group has equal values in all its work-items;
-- `split` and `lower_region`: the code of each region does on a chunk what the chunk's items do in some order of their
-- moves;
-- `tidy`: the tidied code does on each chunk the same; so it does on all chunks of a group what the group's items do,
-- and behind it the column or slot of each cell that is live there has its value for each item of the group;
-- `build`: the group program has the plan's columns and slots and the bytes of the kernel's arrays; on a group it does
-- what the group's items do in some order, each barrier a release; it accesses no more than is written;
-- together: a launch that fits the group program fits the program, and the end of the group program is an outcome of
-- the program's launch
pub record IsCorrect (program : Program) (names : List (List Named)) (varying : List (List Test)) (kernel : Kernel)
    (plan : Planned) (width : Width) (p : Plain) : Type 0 where
  pub first : IsLoweringOf program names (lowered_of program names)
  pub lowered : IsLoweringOf program names kernel
  pub begins : BeginsWithArguments program (lowered_of program names)
  pub simplified : Simplifies (lowered_of program names) kernel
  pub varies : AreVarying program varying
  pub homes : IsPlan program kernel plan
  pub once : KeepsOnceWhatIsEqual program kernel plan
  pub codes : EachRegion (λ region. Follows kernel plan width region (region_code kernel plan.homes region))
      (split_of kernel)
  pub tidied : EachRegion (λ region. DoesTheSame (region_code kernel plan.homes region)
      (code_in kernel plan.homes region)) (split_of kernel)
  pub regions : EachRegion (λ region. RegionFollows kernel plan p region (code_in kernel plan.homes region))
      (split_of kernel)
  pub parts : HasPartsOf kernel plan width p
  pub groups : GroupsFollow kernel p
  pub shaped : IsShaped program p
  pub fits : (launch : Launch) → LaunchFits p.params (sum p.locals) launch → FitsProgram program launch
  pub outcomes : EndsInOutcomes program p

-- a group program of a unit, at a lane width
abbrev pub IsCorrectFor : Unit' → Width → Plain → Type 0
IsCorrectFor u width p =
    IsCorrect (program_of u) (names_in u) (varying_of (program_of u)) (kernel_in u) (plan_in u) width p

-- a kernel as the passes leave it, at so many lanes: the unit's program, of which all is said here, is the typed
-- program as the model sees it; what each pass answers is its function of the unit, the group program up to how its
-- parts are nested, so that it ends as that of the unit does; and where the unit's program is valid, all of them are
-- correct
pub record IsCompilation (width : ℕ) (c : Compiled) : Type 0 where
  pub program : program_of (unit_of c.program) ≡ model.program_of c.program
  pub kernel : kernel_of c.kernel ≡ kernel_in (unit_of c.program)
  pub varying : marks c.varying ≡ varying_of (program_of (unit_of c.program))
  pub plan : planned_of c.plan ≡ plan_in (unit_of c.program)
  pub regions : tree_before c.regions NoRegion ≡ split_of (kernel_in (unit_of c.program))
  pub group : IsLike (group_in width (unit_of c.program)) (plain_of c.group)
  pub same_end : (launch : Launch) (buffers : List (List ℕ)) →
      program_end (plain_of c.group) launch buffers ≡ program_end (group_in width (unit_of c.program)) launch buffers
  pub lanes : Width
  pub lanes_are : lanes_of lanes ≡ width
  pub correct : IsValid (program_of (unit_of c.program)) → IsCorrectFor (unit_of c.program) lanes (plain_of c.group)
