use Rattle.std.proofs.Common.{◌≡◌, ◌<◌, ◌∙◌, ℕ, List, length, sym, ap, subst, arith}
use Rattle.std.specs.Cmp.Lexicographic.{same_text}
use Rattle.cl_front.specs.Typed.{HasTypedUnit}
use Rattle.wg_compile.specs.declared.Compiled.{Compiled}
use Rattle.wg_top.proofs.LaunchLemmas.{holds_at}
use Rattle.wg_top.proofs.programs.kernel_for.Goals as goal
use Rattle.cl_meaning.specs.View.{unit_of}

pub returns-in-Ok-clause-compiled : goal.returns-in-Ok-clause-compiled
returns-in-Ok-clause-compiled c = λ bytes defines is placed.
    let x : Compiled = c.other-item.result in
    let there : c.loop-other.other-index < length c.args.earlier.now = omega (arith, c.loop-other-test.true) in
    let one : HasTypedUnit bytes defines x.group.kernel (unit_of x.program) =
    holds_at (λ (k : Compiled). HasTypedUnit bytes defines k.group.kernel (unit_of k.program)) c.args.earlier.now
    c.loop-other.other-index x there c.other-item.is (c.requires.compiled bytes defines is placed) in
    let name : x.group.kernel ≡ c.args.kernel.now =
    ap (λ (k : Compiled). k.group.kernel) (sym c.compiled.ensures) ∙
    (sym c.bytes.ensures ∙ (same_text c.bytes.result.now c.bytes-in-loop-other.result.now c.if-eq.ensures ∙
    c.bytes-in-loop-other.ensures)) in
    subst (λ (k : Compiled). HasTypedUnit bytes defines c.args.kernel.now (unit_of k.program)) (sym c.in-Ok.ensures)
    (subst (λ (n : List ℕ). HasTypedUnit bytes defines n (unit_of x.program)) name one)
