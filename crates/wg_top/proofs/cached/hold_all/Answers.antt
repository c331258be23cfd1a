use Rattle.std.proofs.Common.{◌≡◌, ◌<◌, ◌∙◌, List, length, get_or, Option, refl, rules, subst}
use Rattle.launch_file.specs.declared.text.LaunchPart.{LaunchPart}
use Rattle.launch_file.specs.Texts.{text_of, part_of}
use Rattle.wg_outside.specs.Files.{FileMap}
use Rattle.wg_top.specs.Causes.{Standing, standing}
use Rattle.wg_top.specs.Holding.{IsHeldOnce}
use Rattle.wg_top.proofs.CachedLemmas.{held_all, each_more, launch_at}
use Rattle.wg_top.proofs.CachedCauseLemmas.{holding}
use Rattle.wg_top.proofs.cached.hold_all.Goals as goal

pub returns-in-Err-clause-err : goal.returns-in-Err-clause-err
returns-in-Err-clause-err g c =
    let old : Standing = standing g.S.Store.files g.S.Store.faults g.S.Store.misses c.args.store.now in
    let mid : Standing = standing g.S.Store.files g.S.Store.faults g.S.Store.misses c.loop-part.store in
    let list = c.args.text.now.list.items in
    let i = c.loop-part.part-index in
    let part = c.part-item.result in
    let lt : i < length list =
    subst (λ (ps : List LaunchPart). i < length ps) c.deref-part-items.ensures.value c.loop-part-test.true in
    let is : part ≡ get_or list i part =
    subst (λ (ps : List LaunchPart). part ≡ get_or ps i part) c.deref-part-items.ensures.value c.part-item.is in
    holding old mid (standing g.S.Store.files g.S.Store.faults g.S.Store.misses c.hold_once.new.store)
    c.args.bytes.now (text_of c.args.text.now) c.loop-part.held.items
    list i part c.in-Err.error c.loop-part.invariant.files
    c.loop-part.invariant.stands c.in-Err.ensures.stands refl lt is
    c.loop-part.invariant.held c.loop-part.invariant.named c.in-Err.ensures.err

pub loop-part-preserved : goal.loop-part-preserved
loop-part-preserved g c =
    let text = text_of c.args.text.now in
    let list = c.args.text.now.list.items in
    let i = c.loop-part.part-index in
    let part = c.part-item.result in
    let lt : i < length list =
    subst (λ (ps : List LaunchPart). i < length ps) c.deref-part-items.ensures.value c.loop-part-test.true in
    let is : part ≡ get_or list i part =
    subst (λ (ps : List LaunchPart). part ≡ get_or ps i part) c.deref-part-items.ensures.value c.part-item.is in
    let once : IsHeldOnce (g.S.Store.files c.args.store.now) c.args.bytes.now text c.part-item.result.kernel
    c.loop-part.held.items c.hold_once.new.held.items =
    subst (λ (f : Option FileMap). IsHeldOnce f c.args.bytes.now text c.part-item.result.kernel
    c.loop-part.held.items c.hold_once.new.held.items) c.loop-part.invariant.files c.in-Ok.ensures.held in
    record {
      files = c.in-Ok.ensures.files_stay ∙ c.loop-part.invariant.files;
      stands = search rules;
      held = held_all (g.S.Store.files c.args.store.now) c.args.bytes.now text c.part-item.result.kernel
          (part_of c.part-item.result) c.loop-part.held.items c.hold_once.new.held.items
          (launch_at list i part lt is) refl once
          c.loop-part.invariant.held;
      named = each_more (g.S.Store.files c.args.store.now) c.args.bytes.now text c.loop-part.held.items
          c.hold_once.new.held.items list i part lt is once c.loop-part.invariant.named;
      read = c.in-Ok.ensures.read;
    }
