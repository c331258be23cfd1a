-- The texts that `plan` and `code` print, by the passes that make them.
use Rattle.std.specs.Prelude.{◌≡◌, ℕ, List}
use Rattle.cl_meaning.specs.Typed.{Unit'}
use Rattle.cl_model.specs.Lists.{AllDiffer}
use Rattle.cl_check_sound.specs.Erased.{program_of}
use Rattle.kir.specs.Inlined.{crossing_of}
use Rattle.ctx_plan_text.specs.Lines.{plan_lines_of}
use Rattle.ctx_plan_text.specs.Meaning.{AreLinesOf}
use Rattle.lane_code.specs.Listing.{listing_text}
use Rattle.wg_top.specs.declared.texts.Shown.{Shown}
use Rattle.wg_top.specs.declared.texts.Shown.TheVariants.{Plan, Code}
use Rattle.wg_compile.specs.Passes.{names_in, kernel_in, plan_in}
use Rattle.wg_top.specs.CompiledOutcomes.{HasGroupProgram}
use Rattle.wg_top.specs.Shown.{Showing}

-- the text of a kernel's plan: a line for each variable that crosses, none twice, in the order in which declarations
-- stand in the inlined text
pub record IsPlanText (u : Unit') (text : List ℕ) : Type 0 where
  pub lines : text ≡ plan_lines_of (program_of u) (kernel_in u) (plan_in u)
  pub meaning : AreLinesOf (program_of u) (names_in u) (crossing_of (program_of u)) text
  pub once : AllDiffer (crossing_of (program_of u))

-- the text of the kernel's plan
abbrev pub plan_shown : Showing
plan_shown width name u text = IsPlanText u text

-- the listing of the group program that the unit is compiled to
abbrev pub code_shown : Showing
code_shown width name u text = (compiled : HasGroupProgram width u) × (text ≡ listing_text name compiled.group)

-- the text that is asked for
abbrev pub showing : Shown → Showing
showing Plan = plan_shown
showing Code = code_shown
