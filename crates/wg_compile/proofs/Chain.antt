-- What the group program does is an outcome of the kernel's items, and so of the program's.
use Rattle.std.proofs.Common.{◌≡◌, ℕ, true, List}
use Rattle.work_items.specs.Simulation.{HasOutcomesOf}
use Rattle.cl_model.specs.Tree.{Program}
use Rattle.cl_model.specs.Sizes.{Launch}
use Rattle.cl_model.specs.Fitting.{FitsProgram}
use Rattle.cl_model.specs.Meaning.{machine_of as program_machine, start_world as program_start}
use Rattle.cl_model.specs.Meaning.{ItemCanCome as ProgramCanCome}
use Rattle.kir.specs.Tree.{Kernel}
use Rattle.kir.specs.Meaning.{machine_of, start_world, ItemCanCome}
use Rattle.kir.specs.Laws.{SharesOutcomes, SharesLaunches}
use Rattle.lane_code.specs.declared.end.RunEnd.{RunEnd}
use Rattle.lane_code.specs.declared.end.RunEnd.TheVariants as run
use Rattle.lane_code.specs.Program.{Plain}
use Rattle.lane_code.specs.Run.{program_end}
use Rattle.item_loops.specs.Launched.{IsKernelOutcome, EndsAsItems}
use Rattle.wg_num.specs.declared.types.Width.{Width}
use Rattle.kir.specs.Fits.{lines_fit}
use Rattle.kir.specs.Uniformity.{IsEven}
use Rattle.ctx_plan.specs.Homes.{IsOnce}
use Rattle.ctx_plan.specs.Planned.{Planned}
use Rattle.lane_laws.specs.Chain.{NoWork, work_before}
use Rattle.regions.specs.Split.{split_of}
use Rattle.mask_lower.specs.Following.{Follows}
use Rattle.item_loops.specs.Program.{HasPartsOf, IsBuilt}
use Rattle.item_loops.proofs.Launch.{ends_as_items}
use Rattle.item_loops.proofs.Whole.{groups_follow}
use Rattle.item_loops.proofs.Ends.{even_at_ends}
use Rattle.wg_compile.specs.Ends.{IsOutcome, EndsInOutcomes, EndHasPlace}

outcome_of : (program : Program) (kernel : Kernel) (launch : Launch) (buffers : List (List ℕ)) →
    HasOutcomesOf (machine_of kernel launch) (ItemCanCome kernel launch) (start_world kernel launch buffers)
    (program_machine program launch) (ProgramCanCome program launch buffers) (program_start program launch buffers)
    → (e : RunEnd) (left : List (List ℕ)) → EndHasPlace program e → IsKernelOutcome kernel launch buffers e left →
    IsOutcome program launch buffers e left
outcome_of program kernel launch buffers h run.Done left place o =
    record { memory = o.0; is_done = h.done o.0 o.1; same_buffers = o.2 }
outcome_of program kernel launch buffers h (run.Range group item site) left place o = (
  place.0,
  place.1,
  record {
    site = site;
    at_place = place.1;
    in_group = o.0;
    is_range = h.range (record { item = item; site = site }) o.1;
  },
)
outcome_of program kernel launch buffers h (run.Parted group item site) left place o =
    (place.0, place.1, record { site = site; at_place = place.1; in_group = o.0; is_parted = h.parted item site o.1 })
outcome_of program kernel launch buffers h run.Turns left place o = h.turns launch.turns o

-- a group program that ends as the kernel's items do ends in outcomes of the program from which the kernel comes
pub ends_in_outcomes : (program : Program) (kernel : Kernel) (p : Plain) → SharesOutcomes program kernel →
    SharesLaunches program kernel → ((launch : Launch) (buffers : List (List ℕ)) → FitsProgram program launch →
    EndHasPlace program (program_end p launch buffers).end)
    → EndsAsItems kernel p → EndsInOutcomes program p
ends_in_outcomes program kernel p shares launches places ends launch fits some buffers fit =
    outcome_of program kernel launch buffers (shares launch fits some.global buffers fit)
    (program_end p launch buffers).end (program_end p launch buffers).buffers (places launch buffers fits)
    (ends launch (launches launch fits) some buffers fit)

-- the whole chain: where each code does what the items of its region do, the group program ends in outcomes of the
-- program
pub built_in_outcomes : (program : Program) (kernel : Kernel) (plan : Planned) (width : Width) (p : Plain) →
    SharesOutcomes program kernel → SharesLaunches program kernel
    → ((launch : Launch) (buffers : List (List ℕ)) → FitsProgram program launch →
    EndHasPlace program (program_end p launch buffers).end)
    → lines_fit kernel kernel.body ≡ true → IsEven kernel (IsOnce plan.homes) → HasPartsOf kernel plan width p →
    IsBuilt (Follows kernel plan width) (split_of kernel) (work_before p.top NoWork) → EndsInOutcomes program p
built_in_outcomes program kernel plan width p shares launches places valid even parts built =
    ends_in_outcomes program kernel p shares launches places
    (ends_as_items kernel plan width p parts (groups_follow kernel plan width p parts built
    (even_at_ends kernel plan valid even)))
