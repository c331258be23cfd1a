-- The text of a plan, of the unit of a compiled kernel.
use Rattle.std.proofs.Common.{◌≡◌, ℕ, List, sym, ap, ◌∙◌, subst}
use Rattle.cl_model.specs.Valid.{IsValid}
use Rattle.cl_model.specs.View as model
use Rattle.cl_meaning.specs.Typed.{Unit'}
use Rattle.cl_meaning.specs.View.{unit_of}
use Rattle.cl_check_sound.specs.Erased.{program_of}
use Rattle.wg_num.specs.declared.types.Width.{Width}
use Rattle.kir.specs.View.{kernel_of}
use Rattle.kir.specs.Inlined.{crossing_of}
use Rattle.ctx_plan_text.specs.Meaning.{AreLinesOf}
use Rattle.ctx_plan_text.specs.Lines.{plan_lines_of}
use Rattle.ctx_plan_text.proofs.Meant.{lines_meant, crossing_differ}
use Rattle.ctx_plan.specs.View.{planned_of}
use Rattle.lane_code.specs.Program.{Plain}
use Rattle.lane_code.specs.View.{plain_of}
use Rattle.wg_compile.specs.declared.Compiled.{Compiled}
use Rattle.wg_compile.specs.Passes.{names_in, kernel_in, plan_in}
use Rattle.wg_compile.specs.Correct.{IsCorrectFor, IsCompilation}
use Rattle.wg_top.specs.CompiledShown.{IsPlanText}
use Rattle.cl_check_sound.proofs.ErasedPrograms.{program_same}

-- the lines of a valid unit's plan are its text
plan_text_in : (u : Unit') (width : Width) (p : Plain) (text : List ℕ) → IsValid (program_of u) →
    IsCorrectFor u width p → text ≡ plan_lines_of (program_of u) (kernel_in u) (plan_in u) → IsPlanText u text
plan_text_in u width p text valid correct is = record {
  lines = is;
  meaning = subst (AreLinesOf (program_of u) (names_in u) (crossing_of (program_of u))) (sym is)
      (lines_meant (program_of u) (names_in u) (kernel_in u) (plan_in u) correct.homes correct.lowered.cells valid);
  once = crossing_differ (program_of u) (names_in u) (kernel_in u) (plan_in u) correct.homes correct.lowered.cells
      valid;
}

-- and so are those of a compiled kernel
pub plan_text_of : (lanes : ℕ) (c : Compiled) (text : List ℕ) → IsCompilation lanes c →
    IsValid (program_of (unit_of c.program)) →
    text ≡ plan_lines_of (model.program_of c.program) (kernel_of c.kernel) (planned_of c.plan) →
    IsPlanText (unit_of c.program) text
plan_text_of lanes c text passed valid is =
    let u = unit_of c.program in
    plan_text_in u passed.lanes (plain_of c.group) text valid (passed.correct valid)
    (is
    ∙ (ap (λ k. plan_lines_of (model.program_of c.program) k (planned_of c.plan)) passed.kernel
    ∙ (ap (plan_lines_of (model.program_of c.program) (kernel_in u)) passed.plan ∙
    ap (λ q. plan_lines_of q (kernel_in u) (plan_in u)) (sym (program_same c.program)))))
