use Rattle.std.proofs.Common.{◌≡◌, ◌∙◌, ◌<◌, ◌++◌, [], ◌∷◌, List, length, map, get_or, ap, subst, arith, rules}
use Rattle.std.specs.Prelude.{Err}
use Rattle.std.proofs.lemmas.List.{length-map, get_or_default}
use Rattle.cl_model.specs.View.{launch_of}
use Rattle.cl_model.specs.declared.program.VarKind.{VarKind}
use Rattle.lane_code.specs.Fits.{LaunchFits}
use Rattle.launch_file.specs.Binding.{part_at}
use Rattle.launch_file.specs.Texts.{Part, part_of, text_of}
use Rattle.launch_file.specs.Values.{HasOneLength}
use Rattle.wg_top.specs.declared.runnable.Runnable.{Runnable}
use Rattle.wg_top.specs.Programs.{HasKinds, Runs, programs_of, runs_of}
use Rattle.wg_top.proofs.BoundLemmas.{one_bound, all_ready, is_ready, is_fit, more_fit, part_has, refused_later}
use Rattle.wg_top.proofs.BoundLemmas.{refused_here, at_place}
use Rattle.wg_top.proofs.LaunchLemmas.{holds_at}
use Rattle.wg_top.proofs.launches.bind_each.Goals as goal

pub loop-which-preserved : goal.loop-which-preserved
loop-which-preserved c =
    let parts = map part_of c.args.text.now.list.items in
    let all : List Runs = map runs_of c.args.runnables.now in
    let x : Runnable = get_or c.args.runnables.now c.loop-which.which c.index-runnables-which.result in
    let r : Runs = runs_of x in
    let part : Part = part_at (text_of c.args.text.now) c.loop-which.which in
    let in_list : c.loop-which.which < length c.args.text.now.list.items =
    omega (arith, c.loop-which-test.true, c.len-which-end.ensures) in
    let there : c.loop-which.which < length parts =
    omega (arith, in_list, length-map c.args.text.now.list.items part_of) in
    let in_runnables : c.loop-which.which < length c.args.runnables.now =
    omega (arith, in_list, c.requires.as_many) in
    let is : x ≡ get_or c.args.runnables.now c.loop-which.which x =
    get_or_default c.args.runnables.now c.loop-which.which c.index-runnables-which.result x in_runnables in
    let there_too : c.loop-which.which < length all =
    omega (arith, in_runnables, length-map c.args.runnables.now runs_of) in
    let placed : r ≡ get_or all c.loop-which.which r =
    at_place runs_of c.args.runnables.now c.loop-which.which x in_runnables is in
    let pushed : c.push.new.self.items ≡ c.loop-which.list.items ++ c.in-Ok.launch ∷ [] = search rules in
    let one : HasOneLength part =
    part_has c.args.text.now.list.items c.loop-which.which _ in_list c.requires.text.lengths in
    let kinds : HasKinds x =
    holds_at HasKinds c.args.runnables.now c.loop-which.which x in_runnables is c.requires.kinds in
    record {
      launches = one_bound c.args.text.now.turns c.args.text.now.buffers.items parts c.loop-which.which _
          c.loop-which.list.items c.push.new.self.items c.in-Ok.launch pushed there c.loop-which.invariant.launches
          c.in-Ok.ensures.bound.is_its.is_its;
      ready = all_ready c.args.text.now.buffers.items c.loop-which.list.items c.push.new.self.items c.in-Ok.launch
          pushed c.loop-which.invariant.ready (is_ready r.needs (text_of c.args.text.now) part c.in-Ok.launch one
          c.in-Ok.ensures.bound c.in-Ok.ensures.offsets);
      fit = more_fit (programs_of all) c.loop-which.which r.program c.loop-which.list.items c.push.new.self.items
          c.in-Ok.launch (omega (arith, there_too, length-map all (λ (y : Runs). y.program)))
          (at_place (λ (y : Runs). y.program) all c.loop-which.which r there_too placed) pushed
          c.loop-which.invariant.fit
          (subst (λ (ks : List VarKind). LaunchFits ks 0 (launch_of c.in-Ok.launch)) kinds
          (is_fit r.needs (text_of c.args.text.now) part c.in-Ok.launch one c.in-Ok.ensures.bound
          c.in-Ok.ensures.offsets));
      accepted = c.loop-which.invariant.accepted ∙
          refused_later c.args.text.now.buffers.items parts all c.loop-which.which part r there there_too
          (get_or_default parts c.loop-which.which _ part there) placed c.in-Ok.ensures.bound.accepted;
    }

pub returns-in-Err-Refused-clause-err : goal.returns-in-Err-Refused-clause-err
returns-in-Err-Refused-clause-err c =
    let parts = map part_of c.args.text.now.list.items in
    let all : List Runs = map runs_of c.args.runnables.now in
    let x : Runnable = get_or c.args.runnables.now c.loop-which.which c.index-runnables-which.result in
    let r : Runs = runs_of x in
    let part : Part = part_at (text_of c.args.text.now) c.loop-which.which in
    let there : c.loop-which.which < length parts =
    omega (arith, c.loop-which-test.true, c.len-which-end.ensures, length-map c.args.text.now.list.items part_of) in
    let in_runnables : c.loop-which.which < length c.args.runnables.now =
    omega (arith, c.loop-which-test.true, c.len-which-end.ensures, c.requires.as_many) in
    let there_too : c.loop-which.which < length all =
    omega (arith, in_runnables, length-map c.args.runnables.now runs_of) in
    c.loop-which.invariant.accepted ∙
    (refused_here c.args.text.now.buffers.items parts all c.loop-which.which part r _ there there_too
    (get_or_default parts c.loop-which.which _ part there)
    (at_place runs_of c.args.runnables.now c.loop-which.which x in_runnables
    (get_or_default c.args.runnables.now c.loop-which.which c.index-runnables-which.result x in_runnables))
    (c.in-Err-Refused.ensures.refused c.in-Err-Refused.refusal (ap Err c.in-Err-Refused.field-0-is)) ∙
    cc c.in-Err-Refused.refusal-is)
