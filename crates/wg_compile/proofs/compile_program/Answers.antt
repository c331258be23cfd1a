use Rattle.std.proofs.Common.{◌≡◌, refl, subst}
use Rattle.kir.specs.View.{kernel_of}
use Rattle.ctx_plan.specs.View.{planned_of}
use Rattle.diverge.specs.Marks.{marks}
use Rattle.lane_code.specs.View.{plain_of}
use Rattle.wg_num.specs.Operators.{lanes_of}
use Rattle.cl_meaning.specs.View.{unit_of}
use Rattle.cl_check_sound.specs.Erased.{program_of}
use Rattle.cl_check_sound.proofs.ErasedPrograms.{program_same}
use Rattle.diverge_exact.proofs.Answers.{varying_exact}
use Rattle.regions.specs.Tree.{Tree, NoRegion}
use Rattle.mask_lower.specs.Lowered.{region_code}
use Rattle.lane_laws.specs.Chain.{NoWork, work_before}
use Rattle.item_loops.specs.Program.{IsBuilt}
use Rattle.regions.specs.View.{tree_before}
use Rattle.item_loops.proofs.Codes.{codes_well}
use Rattle.wg_compile.specs.Passes.{group_in}
use Rattle.wg_compile.proofs.Alike.{ends_alike}
use Rattle.wg_compile.proofs.Exact.{lowered_is, kernel_is, varying_is, plan_is, regions_are, like_built, group_is}
use Rattle.wg_compile.proofs.Correct.{correct_in}
use Rattle.wg_compile.proofs.Plans.{kept_in}
use Rattle.wg_compile.proofs.Tidied.{parts_tidied, one_tidied}
use Rattle.wg_compile.proofs.compile_program.Goals as goal

pub returns-clause-passes : goal.returns-clause-passes
returns-clause-passes c =
    let u = unit_of c.args.program in
    let k = kernel_of c.in_ok-kernel.kernel in
    let q = planned_of c.in_ok-plan.plan in
    let built = plain_of c.in_ok-built.built in
    let p = plain_of c.in_ok-group.group in
    let first = kernel_of c.in_ok-lowered.lowered in
    let first_is = lowered_is c.args.program first c.in_ok-lowered.ensures in
    let kernel = kernel_is c.args.program first k first_is c.in_ok-kernel.ensures.exact in
    let plan = plan_is c.args.program k (marks c.in_ok-varying.varying) q kernel c.in_ok-varying.ensures.exact
    c.in_ok-plan.ensures.made in
    let codes = subst (λ (t : Tree). IsBuilt (λ region code. code ≡ region_code k q.homes region) t
    (work_before built.top NoWork)) c.in_ok-regions.ensures.cut c.in_ok-built.ensures.built in
    let like = group_is (lanes_of c.args.width) c.args.program k q p kernel plan
    (like_built k q c.args.width c.in_ok-regions.regions built p c.in_ok-built.ensures.plain
    c.in_ok-group.ensures.exact c.in_ok-regions.ensures.cut c.in_ok-built.ensures.built) in
    record {
      program = program_same c.args.program;
      kernel = kernel;
      varying = varying_is c.args.program (marks c.in_ok-varying.varying) c.in_ok-varying.ensures.exact;
      plan = plan;
      regions = regions_are c.args.program k (tree_before c.in_ok-regions.regions NoRegion) kernel
          c.in_ok-regions.ensures.cut;
      group = like;
      same_end = ends_alike (group_in (lanes_of c.args.width) u) p like;
      lanes = c.args.width;
      lanes_are = refl;
      correct = λ valid.
          correct_in u c.args.width first k q built.top p first_is kernel plan c.in_ok-lowered.lowered.valid
          (record {
            simple_now = c.in_ok-kernel.ensures.simple;
            faithful = c.in_ok-kernel.ensures.faithful;
          }) c.in_ok-kernel.kernel.valid c.in_ok-plan.ensures.counted
          (parts_tidied k q c.args.width built p c.in_ok-group.ensures.exact c.in_ok-built.ensures.parts) codes
          (codes_well c.in_ok-built.built.top) like
          (λ quiet. one_tidied built p c.in_ok-group.ensures.exact
          (c.in_ok-built.ensures.one (c.in_ok-regions.ensures.one quiet)))
          c.in_ok-group.group.valid valid
          (λ v. varying_exact (program_of u) valid v.function v.number);
    }

pub returns-clause-once : goal.returns-clause-once
returns-clause-once c = kept_in (unit_of c.args.program)

pub returns-in_err-lowered-clause-once : goal.returns-in_err-lowered-clause-once
returns-in_err-lowered-clause-once c = kept_in (unit_of c.args.program)

pub returns-in_err-kernel-clause-once : goal.returns-in_err-kernel-clause-once
returns-in_err-kernel-clause-once c = kept_in (unit_of c.args.program)

pub returns-in_err-varying-clause-once : goal.returns-in_err-varying-clause-once
returns-in_err-varying-clause-once c = kept_in (unit_of c.args.program)

pub returns-in_err-plan-clause-once : goal.returns-in_err-plan-clause-once
returns-in_err-plan-clause-once c = kept_in (unit_of c.args.program)

pub returns-in_err-regions-clause-once : goal.returns-in_err-regions-clause-once
returns-in_err-regions-clause-once c = kept_in (unit_of c.args.program)

pub returns-in_err-built-clause-once : goal.returns-in_err-built-clause-once
returns-in_err-built-clause-once c = kept_in (unit_of c.args.program)

pub returns-in_err-group-clause-once : goal.returns-in_err-group-clause-once
returns-in_err-group-clause-once c = kept_in (unit_of c.args.program)
