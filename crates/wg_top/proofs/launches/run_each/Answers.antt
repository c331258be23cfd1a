use Rattle.std.proofs.Common.{◌≡◌, ◌<◌, ◌+◌, ◌∙◌, List, ℕ, Vec, Global, length, get_or, set, sym, ap, subst, arith}
use Rattle.std.specs.Prelude.{Some, None}
use Rattle.std.proofs.lemmas.List.{set-get_or}
use Rattle.cl_model.specs.View.{launch_of, buffers_of}
use Rattle.cl_model.specs.Fitting.{FitBuffers}
use Rattle.cl_model.specs.Sizes.{Launch}
use Rattle.group_run.specs.declared.launcher.Launcher.{Launcher}
use Rattle.lane_code.specs.Program.{Plain}
use Rattle.lane_code.specs.View.{plain_of}
use Rattle.wg_top.specs.CompiledLaunches.{LaunchRan, refusal_of}
use Rattle.wg_top.proofs.LaunchLemmas.{holds_at, end_is, leaves_is, more_ran, ends_so, done_is, lengths_twice}
use Rattle.wg_top.proofs.launches.run_each.Goals as goal

pub run-end-requires : goal.run-end-requires
run-end-requires c =
    let all : List Launcher = c.args.launchers.now.items in
    let x : Launcher = c.index_mut-launcher.result.now in
    let there : c.loop-k.k < length all = omega (arith, c.loop-k-test.true, c.len-k-end.ensures) in
    let is : x ≡ get_or all c.loop-k.k x =
    subst (λ (ls : List Launcher). x ≡ get_or ls c.loop-k.k x) c.loop-k.invariant.launchers
    c.index_mut-launcher.ensures.value in
    let before = holds_at (λ (l : Launcher). FitBuffers (launch_of l.launch) (buffers_of c.args.buffers.now)) all
    c.loop-k.k x there is c.requires.fit in
    let items : Vec ℕ Global → List ℕ = λ v. v.items in
    lengths_twice items c.loop-k.buffers.list.items ∙
    (c.loop-k.invariant.lengths ∙ (sym (lengths_twice items c.args.buffers.now.list.items) ∙ before))

pub returns-in-Some-clause-stops : goal.returns-in-Some-clause-stops
returns-in-Some-clause-stops c =
    let all : List Launcher = c.args.launchers.now.items in
    let x : Launcher = c.index_mut-launcher.result.now in
    let there : c.loop-k.k < length all = omega (arith, c.loop-k-test.true, c.len-k-end.ensures) in
    let is : x ≡ get_or all c.loop-k.k x =
    subst (λ (ls : List Launcher). x ≡ get_or ls c.loop-k.k x) c.loop-k.invariant.launchers
    c.index_mut-launcher.ensures.value in
    let program : Launcher → Plain = λ q. plain_of q.program in
    let launch : Launcher → Launch = λ q. launch_of q.launch in
    let sites : c.deref.result.now ≡ x.program.sites.items = c.deref.ensures.value ∙
    (ap (λ p. p.sites.items) c.program.ensures ∙
    ap (λ (l : Launcher). l.program.sites.items) c.run-end.ensures.stays) in
    let refused : refusal_of c.run-end.result (c.loop-k.k + 1) c.args.several (program x).sites ≡
    Some c.in-Some.error = ap (refusal_of c.run-end.result (c.loop-k.k + 1) c.args.several) (sym sites) ∙
    (sym c.refusal.ensures ∙ c.in-Some.is) in
    ends_so all c.loop-k.k x there is program launch c.args.several (buffers_of c.args.buffers.now)
    (buffers_of c.loop-k.buffers) c.run-end.result c.in-Some.error c.loop-k.invariant.ran
    (end_is (program x) (launch x) (buffers_of c.loop-k.buffers) c.run-end.result c.run-end.ensures.end) refused

pub returns-in-Some-clause-lengths : goal.returns-in-Some-clause-lengths
returns-in-Some-clause-lengths c =
    let all : List Launcher = c.args.launchers.now.items in
    let x : Launcher = c.index_mut-launcher.result.now in
    let there : c.loop-k.k < length all = omega (arith, c.loop-k-test.true, c.len-k-end.ensures) in
    let is : x ≡ get_or all c.loop-k.k x =
    subst (λ (ls : List Launcher). x ≡ get_or ls c.loop-k.k x) c.loop-k.invariant.launchers
    c.index_mut-launcher.ensures.value in
    let before = holds_at (λ (l : Launcher). FitBuffers (launch_of l.launch) (buffers_of c.args.buffers.now)) all
    c.loop-k.k x there is c.requires.fit in
    let items : Vec ℕ Global → List ℕ = λ v. v.items in
    sym (lengths_twice items c.run-end.new.buffers.list.items) ∙
    (c.run-end.ensures.lengths ∙ (sym before ∙ lengths_twice items c.args.buffers.now.list.items))

pub loop-k-preserved : goal.loop-k-preserved
loop-k-preserved c =
    let all : List Launcher = c.args.launchers.now.items in
    let x : Launcher = c.index_mut-launcher.result.now in
    let there : c.loop-k.k < length all = omega (arith, c.loop-k-test.true, c.len-k-end.ensures) in
    let is : x ≡ get_or all c.loop-k.k x =
    subst (λ (ls : List Launcher). x ≡ get_or ls c.loop-k.k x) c.loop-k.invariant.launchers
    c.index_mut-launcher.ensures.value in
    let before = holds_at (λ (l : Launcher). FitBuffers (launch_of l.launch) (buffers_of c.args.buffers.now)) all
    c.loop-k.k x there is c.requires.fit in
    let items : Vec ℕ Global → List ℕ = λ v. v.items in
    let program : Launcher → Plain = λ q. plain_of q.program in
    let launch : Launcher → Launch = λ q. launch_of q.launch in
    let none : refusal_of c.run-end.result (c.loop-k.k + 1) c.args.several c.deref.result.now ≡ None =
    sym c.refusal.ensures ∙ c.in_default.is in
    let done = done_is c.run-end.result (c.loop-k.k + 1) c.args.several c.deref.result.now none in
    let ran : LaunchRan (program x) (launch x) (buffers_of c.loop-k.buffers) (buffers_of c.run-end.new.buffers) =
    record {
      done = end_is (program x) (launch x) (buffers_of c.loop-k.buffers) c.run-end.result c.run-end.ensures.end ∙ done;
      leaves = leaves_is (program x) (launch x) (buffers_of c.loop-k.buffers) (buffers_of c.run-end.new.buffers)
          c.run-end.ensures.buffers;
    } in
    record {
      launchers = ap (λ (l : Launcher). set c.loop-k.launchers.items c.loop-k.k l) (c.run-end.ensures.stays ∙
          c.index_mut-launcher.ensures.value) ∙ (set-get_or c.loop-k.launchers.items c.loop-k.k x ∙
          c.loop-k.invariant.launchers);
      lengths = sym (lengths_twice items c.run-end.new.buffers.list.items) ∙
          (c.run-end.ensures.lengths ∙ (sym before ∙ lengths_twice items c.args.buffers.now.list.items));
      ran = more_ran all c.loop-k.k x there is program launch (buffers_of c.args.buffers.now)
          (buffers_of c.loop-k.buffers) (buffers_of c.run-end.new.buffers) c.loop-k.invariant.ran ran;
    }
