use Rattle.std.proofs.Common.{◌≡◌, ◌+◌, ◌++◌, [], ◌∷◌, List, take, sym, ◌∙◌, ap, subst}
use Rattle.std.proofs.lemmas.List.{take_more}
use Rattle.launch_file.specs.declared.text.LaunchPart.{LaunchPart}
use Rattle.wg_top.specs.declared.runnable.Runnable.{Runnable}
use Rattle.wg_top.specs.Holding.{AreRunnables}
use Rattle.wg_top.proofs.CachedCauseLemmas.{runnables_more}
use Rattle.wg_top.proofs.cached.runnables_of.Goals as goal

pub loop-part-preserved : goal.loop-part-preserved
loop-part-preserved c =
    let held = c.args.held.now in
    let i = c.loop-part.part-index in
    let more : take (i + 1) c.args.list.now ≡ take i c.args.list.now ++ c.part-item.result ∷ [] =
    take_more c.args.list.now i c.part-item.result c.loop-part-test.true ∙
    ap (λ (x : LaunchPart). take i c.args.list.now ++ x ∷ []) (sym c.part-item.is) in
    subst (λ (rs : List Runnable). AreRunnables held (take (i + 1) c.args.list.now) rs)
    (sym c.in_ok-push-in-Some.ensures)
    (subst (λ (ps : List LaunchPart). AreRunnables held ps (c.loop-part.runnables.items ++ c.runnable_of.result ∷ []))
    (sym more)
    (runnables_more held (take i c.args.list.now) c.loop-part.runnables.items c.part-item.result
    c.runnable_of.result c.loop-part.invariant (record {
      one = c.in-Some.one.now;
      among = c.in-Some.ensures.0;
      named = c.in-Some.ensures.1;
      program = c.runnable_of.ensures.program;
      group = c.runnable_of.ensures.group;
    })))
