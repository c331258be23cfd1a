use Rattle.std.proofs.Common.{◌≡◌, List, ℕ, map, ap, subst, ◌∙◌}
use Rattle.std.proofs.lemmas.Result.{IfErr-weaker}
use Rattle.launch_file.specs.declared.text.LaunchPart.{LaunchPart}
use Rattle.launch_file.specs.Texts.{Part, part_of, text_of}
use Rattle.std.specs.Prelude.{IfOk}
use Rattle.wg_compile.specs.declared.Compiled.{Compiled}
use Rattle.wg_top.proofs.ProgramLemmas.{kernels_cause, names_of_parts}
use Rattle.wg_top.proofs.programs.compile_all.Goals as goal

pub returns-in-Ok-clause-err : goal.returns-in-Ok-clause-err
returns-in-Ok-clause-err c = IfErr-weaker _ _ _ (λ e cause. kernels_cause c.args.bytes.now (text_of c.args.text.now)
    (map part_of c.deref.result.now) e (ap (map part_of) c.deref.ensures.value)
    (cause c.args.bytes.now (text_of c.args.text.now).defines c.in-Ok.ensures.is c.in-Ok.ensures.places
    c.in-Ok.ensures.end)) c.compile_each.ensures.err

pub returns-in-Err-clause-err : goal.returns-in-Err-clause-err
returns-in-Err-clause-err c = c.refused.ensures.source c.args.bytes.now (text_of c.args.text.now) c.in-Err.ensures.err

pub returns-in-Ok-clause-names : goal.returns-in-Ok-clause-names
returns-in-Ok-clause-names c =
    let e : map (λ (p : LaunchPart). p.kernel) c.deref.result.now ≡
    map (λ (p : Part). p.kernel) (map part_of c.args.text.now.list.items) =
    ap (map (λ (p : LaunchPart). p.kernel)) c.deref.ensures.value ∙ names_of_parts c.args.text.now.list.items in
    subst (λ (ns : List (List ℕ)). IfOk c.compile_each.result (λ v. map (λ (k : Compiled). k.group.kernel) v.items ≡
    ns)) e c.compile_each.ensures.names
