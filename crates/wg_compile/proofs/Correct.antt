-- All passes are correct, from what they answer.
use Rattle.std.proofs.Common.{◌≡◌, List, ◌∙◌, subst, true, false}
use Rattle.std.specs.Prelude.{Bool as Test}
use Rattle.wg_num.specs.declared.types.Width.{Width}
use Rattle.wg_num.specs.Operators.{lanes_of}
use Rattle.cl_model.specs.Tree.{Program}
use Rattle.cl_model.specs.Valid.{IsValid}
use Rattle.cl_meaning.specs.Typed.{Unit'}
use Rattle.cl_check_sound.specs.Erased.{program_of}
use Rattle.kir.specs.Tree.{Kernel}
use Rattle.kir.specs.Cuts.{holds_barrier}
use Rattle.kir.specs.Fits.{is_kernel, lines_fit}
use Rattle.kir_lower.specs.Whole.{lowered_of}
use Rattle.kir_simplify.specs.Faithful.{Simplifies}
use Rattle.kir.specs.Lowering.{Named, IsLoweringOf, BeginsWithArguments}
use Rattle.ctx_plan.specs.Planned.{Planned, IsPlan, IsCounted, AreVarying}
use Rattle.lane_code.specs.Program.{Work, Plain, is_group_program}
use Rattle.lane_laws.specs.Chain.{NoWork, work_before}
use Rattle.regions.specs.Fragments.{EachRegion}
use Rattle.regions.specs.Split.{split_of}
use Rattle.mask_lower.specs.Following.{Follows}
use Rattle.mask_lower.specs.Lowered.{region_code}
use Rattle.mask_lower_correct.proofs.Among.{body_fits}
use Rattle.diverge.specs.Rounds.{varying_of}
use Rattle.lane_tidy.specs.Same.{DoesTheSame}
use Rattle.item_loops.specs.Program.{HasPartsOf, IsBuilt, IsOneCode, EachCode}
use Rattle.item_loops.specs.Regions.{RegionFollows}
use Rattle.item_loops.proofs.Codes.{IsWell}
use Rattle.item_loops.proofs.Ends.{even_at_ends}
use Rattle.item_loops.proofs.Whole.{EvenAtEnds, region_of_group, groups_follow}
use Rattle.wg_compile.specs.Correct.{IsCorrect, IsCorrectFor}
use Rattle.wg_compile.specs.Passes.{names_in, kernel_in, plan_in, code_in, group_in, IsLike}
use Rattle.wg_compile.proofs.Plans.{built_in, homes_in, parts_in, kept_once}
use Rattle.wg_compile.proofs.Lowered.{lowered_first, lowered_in, begins_in}
use Rattle.wg_compile.proofs.Fits.{fits_program}
use Rattle.wg_compile.proofs.Follow.{each_with, each_follows}
use Rattle.wg_compile.proofs.Outcomes.{built_by, suits, passes_in_outcomes}
use Rattle.wg_compile.proofs.Shape.{codes_have_few, holds_none}
use Rattle.wg_compile.proofs.Sites.{ends_have_places}
use Rattle.wg_compile.proofs.Tidied.{follows_same}
use Rattle.lane_tidy.proofs.Tidying.{tidied_same}

-- what the passes answer: a valid kernel, which variables vary, the plan, valid codes that are those of the kernel's
-- regions, and a valid program of a group with these codes tidied
pub record ArePasses (program : Program) (varying : List (List Test)) (kernel : Kernel) (plan : Planned)
    (width : Width) (p : Plain) : Type 0 where
  pub fits : is_kernel kernel ≡ true
  pub varies : AreVarying program varying
  pub planned : IsPlan program kernel plan
  pub parts : HasPartsOf kernel plan width p
  pub top : Work
  pub codes : IsBuilt (λ region code. code ≡ region_code kernel plan.homes region) (split_of kernel)
      (work_before top NoWork)
  pub well : EachCode IsWell top
  pub built : IsBuilt (λ region code. code ≡ code_in kernel plan.homes region) (split_of kernel)
      (work_before p.top NoWork)
  pub one : holds_barrier kernel.body ≡ false → IsOneCode p.top
  pub valid : is_group_program p ≡ true

-- where the kernel comes from a valid program, all that the passes answer is correct
pub correct_from : (program : Program) (names : List (List Named)) (varying : List (List Test)) (kernel : Kernel)
    (plan : Planned) (width : Width) (p : Plain) → IsValid program →
    IsLoweringOf program names (lowered_of program names) → IsLoweringOf program names kernel →
    BeginsWithArguments program (lowered_of program names) → Simplifies (lowered_of program names) kernel →
    ArePasses program varying kernel plan width p → IsCorrect program names varying kernel plan width p
correct_from program names varying kernel plan width p valid first lowered begins simple passes = record {
  first = first;
  lowered = lowered;
  begins = begins;
  simplified = simple;
  varies = passes.varies;
  homes = passes.planned;
  once = kept_once program kernel plan valid passes.planned;
  codes = codes_follow;
  tidied = each_with (λ region. Follows kernel plan width region (region_code kernel plan.homes region))
      (λ region. DoesTheSame (region_code kernel plan.homes region) (code_in kernel plan.homes region))
      (split_of kernel) (λ region among f. tidied_same (region_code kernel plan.homes region)) codes_follow;
  regions = each_with (λ region. Follows kernel plan width region (code_in kernel plan.homes region))
      (λ region. RegionFollows kernel plan p region (code_in kernel plan.homes region)) (split_of kernel)
      (λ region among. region_of_group kernel plan width p passes.parts even region (code_in kernel plan.homes region))
      follows;
  parts = passes.parts;
  groups = groups_follow kernel plan width p passes.parts
      (built_by (Follows kernel plan width) (code_in kernel plan.homes) (split_of kernel)
      (work_before p.top NoWork) follows passes.built)
      even;
  shaped = record {
    params = passes.parts.params ∙ lowered.parts.parameters;
    one = λ quiet. passes.one (holds_none program kernel lowered.few_lines quiet);
    few = codes_have_few program kernel plan.homes p.top lowered.few_lines passes.built;
  };
  fits = fits_program program names kernel plan width p lowered passes.parts;
  outcomes = passes_in_outcomes program names kernel plan width p lowered body passes.planned passes.parts
      passes.built
      (λ launch buffers fits. ends_have_places program p passes.valid (passes.parts.sites ∙
      lowered.parts.sites) launch buffers)
      follows;
}
  where
    body : lines_fit kernel kernel.body ≡ true
    body = body_fits kernel passes.fits

    even : EvenAtEnds kernel plan
    even = even_at_ends kernel plan body (suits program names kernel plan lowered passes.planned).even

    codes_follow : EachRegion (λ region. Follows kernel plan width region (region_code kernel plan.homes region))
        (split_of kernel)
    codes_follow = each_follows kernel plan width passes.top passes.fits
        (suits program names kernel plan lowered passes.planned) passes.well passes.codes

    follows : EachRegion (λ region. Follows kernel plan width region (code_in kernel plan.homes region))
        (split_of kernel)
    follows = each_with (λ region. Follows kernel plan width region (region_code kernel plan.homes region))
        (λ region. Follows kernel plan width region (code_in kernel plan.homes region)) (split_of kernel)
        (λ region among. follows_same kernel plan width region (region_code kernel plan.homes region)
        (code_in kernel plan.homes region) (tidied_same (region_code kernel plan.homes region))) codes_follow

-- the same of the kernel and the plan of a unit
pub correct_in : (u : Unit') (width : Width) (first kernel : Kernel) (plan : Planned) (top : Work) (p : Plain) →
    first ≡ lowered_of (program_of u) (names_in u) → kernel ≡ kernel_in u → plan ≡ plan_in u →
    is_kernel first ≡ true → Simplifies first kernel → is_kernel kernel ≡ true → IsCounted kernel plan →
    HasPartsOf kernel plan width p →
    IsBuilt (λ region code. code ≡ region_code kernel plan.homes region) (split_of kernel) (work_before top NoWork) →
    EachCode IsWell top →
    IsLike (group_in (lanes_of width) u) p → (holds_barrier kernel.body ≡ false → IsOneCode p.top)
    → is_group_program p ≡ true → IsValid (program_of u) →
    AreVarying (program_of u) (varying_of (program_of u)) → IsCorrectFor u width p
correct_in u width first kernel plan top p first_is kernel_is plan_is first_fits simple fits counted parts codes well
    like one valid typed varies =
    let simpler = subst (λ (k : Kernel). Simplifies (lowered_of (program_of u) (names_in u)) k) kernel_is
    (subst (λ (k : Kernel). Simplifies k kernel) first_is simple) in
    let kernel_first = subst (λ (k : Kernel). is_kernel k ≡ true) first_is first_fits in
    let lowered = lowered_in u typed kernel_first simpler in
    correct_from (program_of u) (names_in u) (varying_of (program_of u)) (kernel_in u) (plan_in u) width p typed
    (lowered_first u typed kernel_first) lowered (begins_in u typed) simpler
    (record {
      fits = subst (λ (k : Kernel). is_kernel k ≡ true) kernel_is fits;
      varies = varies;
      planned = homes_in u typed lowered.cells varies (subst (λ (x : Planned). IsCounted (kernel_in u) x) plan_is
          (subst (λ (k : Kernel). IsCounted k plan) kernel_is counted));
      parts = parts_in u width kernel plan p kernel_is plan_is parts;
      top = top;
      codes = subst (λ (k : Kernel). IsBuilt (λ region code. code ≡ region_code k (plan_in u).homes region) (split_of k)
          (work_before top NoWork)) kernel_is (subst (λ (q : Planned).
          IsBuilt (λ region code. code ≡ region_code kernel q.homes region) (split_of kernel) (work_before top NoWork))
          plan_is codes);
      well = well;
      built = built_in u width p like;
      one = subst (λ (k : Kernel). holds_barrier k.body ≡ false → IsOneCode p.top) kernel_is one;
      valid = valid;
    })
