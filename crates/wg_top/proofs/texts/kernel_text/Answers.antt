use Rattle.std.proofs.Common.{sym, subst}
use Rattle.std.proofs.lemmas.Result.{IfOk-weaker}
use Rattle.wg_top.specs.declared.texts.Shown.{Shown}
use Rattle.wg_top.specs.CompiledShown.{showing}
use Rattle.wg_top.proofs.OutcomeLemmas.{code_text_of}
use Rattle.wg_top.proofs.PlanLemmas.{plan_text_of}
use Rattle.wg_top.proofs.texts.kernel_text.Goals as goal
use Rattle.cl_meaning.specs.View.{unit_of}

pub returns-in-Plan : goal.returns-in-Plan
returns-in-Plan c =
    let k = c.args.kernel.now in
    IfOk-weaker c.plan_text.result _ _
    (λ t e width passed valid.
    subst (λ (s : Shown). showing s width k.group.kernel (unit_of k.program) t.items) (sym c.in-Plan.is)
    (plan_text_of width k t.items passed valid e))
    c.plan_text.ensures.lines

pub returns-in-Code : goal.returns-in-Code
returns-in-Code c =
    let k = c.args.kernel.now in
    IfOk-weaker c.listing.result _ _
    (λ t e width passed valid.
    subst (λ (s : Shown). showing s width k.group.kernel (unit_of k.program) t.items) (sym c.in-Code.is)
    (code_text_of width k t.items passed valid e))
    c.listing.ensures
