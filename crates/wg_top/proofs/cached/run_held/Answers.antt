use Rattle.std.proofs.Common.{refl}
use Rattle.std.proofs.Common.{List, sym, subst}
use Rattle.launch_file.specs.declared.text.BufferText.{BufferText}
use Rattle.launch_file.specs.Texts.{text_of}
use Rattle.wg_top.specs.Causes.{Standing, standing, NoCacheName}
use Rattle.wg_top.specs.Holding.{AreRunnables}
use Rattle.wg_top.proofs.CachedLemmas.{runnables_of}
use Rattle.wg_top.proofs.CachedCauseLemmas.{runnables_many, runnables_kinds, bind_refused, named_refused, run_refused}
use Rattle.wg_top.proofs.CachedCauseLemmas.{run_leaves, held_kept, held_stopped}
use Rattle.wg_top.proofs.cached.run_held.Goals as goal

pub bind_each-requires-clause-as_many : goal.bind_each-requires-clause-as_many
bind_each-requires-clause-as_many g c =
    runnables_many c.args.held.now c.args.text.now.list.items c.deref-2.result.now
    (runnables_of c.args.held.now c.args.text.now.list.items c.deref.result.now c.in-Ok.runnables.items
    c.deref-2.result.now c.deref.ensures.value c.deref-2.ensures.value c.in-Ok.ensures)

pub bind_each-requires-clause-kinds : goal.bind_each-requires-clause-kinds
bind_each-requires-clause-kinds g c =
    runnables_kinds c.args.held.now c.args.text.now.list.items c.deref-2.result.now c.requires.shells
    (runnables_of c.args.held.now c.args.text.now.list.items c.deref.result.now c.in-Ok.runnables.items
    c.deref-2.result.now c.deref.ensures.value c.deref-2.ensures.value c.in-Ok.ensures)

pub returns-in-Err-bind_each-clause-err : goal.returns-in-Err-bind_each-clause-err
returns-in-Err-bind_each-clause-err g c =
    let old : Standing = standing g.S.Store.files g.S.Store.faults g.S.Store.misses c.args.store.now in
    bind_refused (text_of c.args.text.now) c.args.held.now c.args.text.now.list.items c.deref-2.result.now refl
    (runnables_of c.args.held.now c.args.text.now.list.items c.deref.result.now c.in-Ok.runnables.items
    c.deref-2.result.now c.deref.ensures.value c.deref-2.ensures.value c.in-Ok.ensures) old old
    c.in-Err-bind_each.error c.in-Err-bind_each.ensures.err

pub returns-then-has_cache_name-clause-err : goal.returns-then-has_cache_name-clause-err
returns-then-has_cache_name-clause-err g c =
    let old : Standing = standing g.S.Store.files g.S.Store.faults g.S.Store.misses c.args.store.now in
    named_refused (text_of c.args.text.now) c.args.held.now c.args.text.now.list.items c.deref-2.result.now refl
    (runnables_of c.args.held.now c.args.text.now.list.items c.deref.result.now c.in-Ok.runnables.items
    c.deref-2.result.now c.deref.ensures.value c.deref-2.ensures.value c.in-Ok.ensures) old old
    c.in-Ok-bind_each.ensures.accepted
    (λ plain. c.has_cache_name.ensures.named c.if-has_cache_name.true (subst (λ (bs : List BufferText). NoCacheName bs)
    (sym c.deref-3.ensures.value) plain))

pub returns-in-Err-run_programs-clause-err : goal.returns-in-Err-run_programs-clause-err
returns-in-Err-run_programs-clause-err g c =
    let old : Standing = standing g.S.Store.files g.S.Store.faults g.S.Store.misses c.args.store.now in
    let mid : Standing = standing g.S.Store.files g.S.Store.faults g.S.Store.misses c.run_programs.new.store in
    let are : AreRunnables c.args.held.now c.args.text.now.list.items c.deref-4.result.now =
    runnables_of c.args.held.now c.args.text.now.list.items c.deref.result.now c.in-Ok.runnables.items
    c.deref-4.result.now c.deref.ensures.value c.deref-4.ensures.value c.in-Ok.ensures in
    let plain : NoCacheName (text_of c.args.text.now).buffers =
    subst (λ (bs : List BufferText). NoCacheName bs) c.deref-3.ensures.value
    (c.has_cache_name.ensures.plain c.if-has_cache_name.false) in
    run_refused (text_of c.args.text.now) c.args.held.now c.args.text.now.list.items c.deref-4.result.now refl are plain
    old mid c.in-Err-run_programs.error c.in-Err-run_programs.ensures.err

pub returns-in-Err-run_programs-clause-left : goal.returns-in-Err-run_programs-clause-left
returns-in-Err-run_programs-clause-left g c =
    let old : Standing = standing g.S.Store.files g.S.Store.faults g.S.Store.misses c.args.store.now in
    let mid : Standing = standing g.S.Store.files g.S.Store.faults g.S.Store.misses c.run_programs.new.store in
    let are : AreRunnables c.args.held.now c.args.text.now.list.items c.deref-4.result.now =
    runnables_of c.args.held.now c.args.text.now.list.items c.deref.result.now c.in-Ok.runnables.items
    c.deref-4.result.now c.deref.ensures.value c.deref-4.ensures.value c.in-Ok.ensures in
    let plain : NoCacheName (text_of c.args.text.now).buffers =
    subst (λ (bs : List BufferText). NoCacheName bs) c.deref-3.ensures.value
    (c.has_cache_name.ensures.plain c.if-has_cache_name.false) in
    run_leaves (text_of c.args.text.now) c.args.held.now c.args.text.now.list.items c.deref-4.result.now refl are plain
    old mid c.in-Err-run_programs.error c.in-Err-run_programs.ensures.left

pub returns-in-Ok-keep_all-clause-ok : goal.returns-in-Ok-keep_all-clause-ok
returns-in-Ok-keep_all-clause-ok g c =
    let old : Standing = standing g.S.Store.files g.S.Store.faults g.S.Store.misses c.args.store.now in
    let mid : Standing = standing g.S.Store.files g.S.Store.faults g.S.Store.misses c.run_programs.new.store in
    let are : AreRunnables c.args.held.now c.args.text.now.list.items c.deref-4.result.now =
    runnables_of c.args.held.now c.args.text.now.list.items c.deref.result.now c.in-Ok.runnables.items
    c.deref-4.result.now c.deref.ensures.value c.deref-4.ensures.value c.in-Ok.ensures in
    let plain : NoCacheName (text_of c.args.text.now).buffers =
    subst (λ (bs : List BufferText). NoCacheName bs) c.deref-3.ensures.value
    (c.has_cache_name.ensures.plain c.if-has_cache_name.false) in
    held_kept (text_of c.args.text.now) c.args.held.now c.args.text.now.list.items c.deref-4.result.now refl are plain
    c.requires.named old.files mid.files (g.S.Store.files c.keep_all.new.store) c.in-Ok-run_programs.summary
    c.in-Ok-run_programs.ensures.ok c.in-Ok-keep_all.ensures.saved

pub returns-clause-left : goal.returns-clause-left
returns-clause-left g c =
    let old : Standing = standing g.S.Store.files g.S.Store.faults g.S.Store.misses c.args.store.now in
    let mid : Standing = standing g.S.Store.files g.S.Store.faults g.S.Store.misses c.run_programs.new.store in
    let are : AreRunnables c.args.held.now c.args.text.now.list.items c.deref-4.result.now =
    runnables_of c.args.held.now c.args.text.now.list.items c.deref.result.now c.in-Ok.runnables.items
    c.deref-4.result.now c.deref.ensures.value c.deref-4.ensures.value c.in-Ok.ensures in
    let plain : NoCacheName (text_of c.args.text.now).buffers =
    subst (λ (bs : List BufferText). NoCacheName bs) c.deref-3.ensures.value
    (c.has_cache_name.ensures.plain c.if-has_cache_name.false) in
    held_stopped (text_of c.args.text.now) c.args.held.now c.args.text.now.list.items c.deref-4.result.now refl are
    plain c.requires.named old mid (standing g.S.Store.files g.S.Store.faults g.S.Store.misses c.keep_all.new.store)
    c.in-Ok-run_programs.summary c.in-Ok-run_programs.ensures.ok c.in-Err-keep_all.ensures.stopped
