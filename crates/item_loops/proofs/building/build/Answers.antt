use Rattle.std.proofs.Common.{◌≡◌, ◌∙◌, sym, subst}
use Rattle.kir.specs.View.{kernel_of}
use Rattle.lane_code.specs.Program.{Plain}
use Rattle.lane_laws.specs.Chain.{NoWork, work_before}
use Rattle.mask_lower.specs.Lowered.{region_code}
use Rattle.regions.specs.Tree.{NoRegion}
use Rattle.regions.specs.View.{tree_before}
use Rattle.item_loops.specs.Program.{IsBuilt, IsOneCode, HasPartsOf}
use Rattle.item_loops.proofs.BuiltLaws.{has_parts, one_code, built_before}
use Rattle.item_loops.proofs.building.build.Goals as goal
use Rattle.ctx_plan.specs.View.{planned_of}

pub returns-in-Some-clause-parts : goal.returns-in-Some-clause-parts
returns-in-Some-clause-parts c =
    let kernel = kernel_of c.args.kernel.now in
    let plan = planned_of c.args.plan.now in
    let same = c.in-Some.ensures.same ∙ c.in_ok-parts.ensures.plain in
    subst (λ (p : Plain). HasPartsOf kernel plan c.args.width p) (sym same)
    (has_parts kernel plan c.args.width c.args.tree.now)

pub returns-in-Some-clause-one : goal.returns-in-Some-clause-one
returns-in-Some-clause-one c = λ h.
    let code = region_code (kernel_of c.args.kernel.now) c.args.plan.now.homes.items in
    let same = c.in-Some.ensures.same ∙ c.in_ok-parts.ensures.plain in
    subst (λ (p : Plain). IsOneCode p.top) (sym same) (one_code code c.args.tree.now h)

pub returns-in-Some-clause-built : goal.returns-in-Some-clause-built
returns-in-Some-clause-built c =
    let code = region_code (kernel_of c.args.kernel.now) c.args.plan.now.homes.items in
    let same = c.in-Some.ensures.same ∙ c.in_ok-parts.ensures.plain in
    subst (λ (p : Plain). IsBuilt (λ r k. k ≡ code r) (tree_before c.args.tree.now NoRegion)
    (work_before p.top NoWork)) (sym same) (built_before code c.args.tree.now NoRegion NoWork tt)
