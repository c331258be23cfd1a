use Rattle.std.proofs.Common.{◌≡◌, ◌∙◌, ◌<◌, ◌++◌, [], ◌∷◌, ℕ, List, length, sym, ap, ap₂, subst, arith, rules}
use Rattle.std.specs.Prelude.{All}
use Rattle.std.proofs.lemmas.List.Elements.{All-push}
use Rattle.wg_num.specs.Operators.{lanes_of}
use Rattle.launch_file.specs.declared.text.LaunchPart.{LaunchPart}
use Rattle.launch_file.specs.Texts.{part_of}
use Rattle.cl_front.specs.Typed.{HasTypedUnit}
use Rattle.wg_compile.specs.declared.Compiled.{Compiled}
use Rattle.wg_compile.specs.Correct.{IsCompilation}
use Rattle.wg_top.specs.Stages.{KernelCause}
use Rattle.wg_top.proofs.ProgramLemmas.{one_compiled, one_refused, more_of, pushed_of}
use Rattle.wg_top.proofs.programs.compile_each.Goals as goal
use Rattle.cl_meaning.specs.View.{unit_of}

pub kernel_for-requires-clause-compiled : goal.kernel_for-requires-clause-compiled
kernel_for-requires-clause-compiled c = λ bytes defines is placed.
    subst (λ (ks : List Compiled). All (λ (k : Compiled). HasTypedUnit bytes defines k.group.kernel (unit_of k.program))
    ks) (sym c.deref.ensures.value) (c.loop-which.invariant.each bytes defines is placed)

pub loop-which-preserved : goal.loop-which-preserved
loop-which-preserved c =
    let there : c.loop-which.which < length c.args.list.now = omega (arith, c.loop-which-test.true) in
    let pushed : c.push.new.self.items ≡ c.loop-which.kernels.items ++ c.in-Ok.compiled ∷ [] = search rules in
    let name : c.in-Ok.compiled.group.kernel ≡ c.index-list-which.result.kernel =
    c.in-Ok.ensures.name ∙ ap (λ (p : LaunchPart). p.kernel) (sym c.index-list-which.is) in
    record {
      compiled = λ bytes defines is placed. one_compiled (λ (k : Compiled). unit_of k.program) bytes defines
          c.args.list.now c.loop-which.which c.index-list-which.result c.loop-which.kernels.items
          c.push.new.self.items c.in-Ok.compiled there c.index-list-which.is pushed
          (c.loop-which.invariant.compiled bytes defines is placed)
          (subst (λ (k : List ℕ). HasTypedUnit bytes defines k (unit_of c.in-Ok.compiled.program))
          (ap (λ (p : LaunchPart). (part_of p).kernel) (sym c.index-list-which.is))
          (c.in-Ok.ensures.compiled bytes defines is placed));
      each = λ bytes defines is placed.
          let P : Compiled → Type 0 = λ k. HasTypedUnit bytes defines k.group.kernel (unit_of k.program) in
          let one : P c.in-Ok.compiled =
          subst (λ (n : List ℕ). HasTypedUnit bytes defines n (unit_of c.in-Ok.compiled.program))
          (sym c.in-Ok.ensures.name) (c.in-Ok.ensures.compiled bytes defines is placed) in
          subst (λ (ks : List Compiled). All P ks) (sym pushed)
          (All-push P c.loop-which.kernels.items c.in-Ok.compiled
          (c.loop-which.invariant.each bytes defines is placed) one);
      passes = subst (λ (ks : List Compiled). All (IsCompilation (lanes_of c.args.width)) ks) (sym pushed)
          (All-push (IsCompilation (lanes_of c.args.width)) c.loop-which.kernels.items c.in-Ok.compiled
          c.loop-which.invariant.passes c.in-Ok.ensures.passes);
      names = pushed_of (λ (k : Compiled). k.group.kernel) c.loop-which.kernels.items c.push.new.self.items
          c.in-Ok.compiled pushed
          ∙ (ap₂ (λ (ns : List (List ℕ)) (n : List ℕ). ns ++ n ∷ []) c.loop-which.invariant.names name ∙
          sym (more_of (λ (p : LaunchPart). p.kernel) c.args.list.now c.loop-which.which
          c.index-list-which.result there c.index-list-which.is));
    }

pub returns-in-Err-clause-err : goal.returns-in-Err-clause-err
returns-in-Err-clause-err c = λ bytes defines is placed end.
    let there : c.loop-which.which < length c.args.list.now = omega (arith, c.loop-which-test.true) in
    one_refused (λ (k : Compiled). unit_of k.program) bytes defines c.args.list.now c.loop-which.which
    c.index-list-which.result c.loop-which.kernels.items c.in-Err.error there c.index-list-which.is
    (c.loop-which.invariant.compiled bytes defines is placed)
    (subst (λ (k : List ℕ). KernelCause bytes defines k c.in-Err.error)
    (ap (λ (p : LaunchPart). (part_of p).kernel) (sym c.index-list-which.is))
    (c.in-Err.ensures.err bytes defines is placed end))
