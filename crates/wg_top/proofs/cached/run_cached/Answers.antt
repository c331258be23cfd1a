use Rattle.std.proofs.Common.{◌≡◌, ◌∙◌, ℕ, List, Option, sym, subst}
use Rattle.std.specs.Prelude.{All}
use Rattle.std.proofs.lemmas.Result.{IfOk-weaker, IfErr-weaker}
use Rattle.cl_model.specs.Lists.{Each}
use Rattle.wg_outside.specs.Files.{FileMap}
use Rattle.command_words.specs.Command.{Files, files_of}
use Rattle.launch_file.specs.Texts.{Text, text_of}
use Rattle.wg_top.specs.declared.cached.Held.{Held}
use Rattle.wg_top.specs.Causes.{Standing, standing, HasNoFewer}
use Rattle.wg_top.specs.Cached.{CachedRead}
use Rattle.wg_top.specs.Holding.{IsHeld, IsNamedIn}
use Rattle.wg_top.proofs.CachedCauseLemmas.{cached_launch, cached_read, cached_holding, stands_over, held_shells, held_names}
use Rattle.wg_top.proofs.CachedCauseLemmas.{held_done, held_cause, held_leaves}
use Rattle.wg_top.proofs.cached.run_cached.Goals as goal

pub returns-in-Err-load_launch-clause-err : goal.returns-in-Err-load_launch-clause-err
returns-in-Err-load_launch-clause-err g c =
    let old : Standing = standing g.S.Store.files g.S.Store.faults g.S.Store.misses c.args.store.now in
    let first : Standing = standing g.S.Store.files g.S.Store.faults g.S.Store.misses c.load_source.new.store in
    let second : Standing = standing g.S.Store.files g.S.Store.faults g.S.Store.misses c.load_launch.new.store in
    let ask : Files = files_of c.args.files in
    cached_launch old first second ask c.in-Ok.bytes.items c.in-Err-load_launch.error c.in-Ok.ensures.ok
    c.in-Ok.ensures.files_stay c.in-Ok.ensures.stands c.in-Err-load_launch.ensures.stands
    c.in-Err-load_launch.ensures.err

pub run_held-requires-clause-named : goal.run_held-requires-clause-named
run_held-requires-clause-named g c =
    subst (λ (hs : List Held). Each (λ p. IsNamedIn hs p.kernel) c.in-Ok-load_launch.text.list.items)
    (sym c.deref-in-Ok-hold_all.ensures.value) c.in-Ok-hold_all.ensures.named

pub run_held-requires-clause-shells : goal.run_held-requires-clause-shells
run_held-requires-clause-shells g c =
    let old : Standing = standing g.S.Store.files g.S.Store.faults g.S.Store.misses c.args.store.now in
    let first : Standing = standing g.S.Store.files g.S.Store.faults g.S.Store.misses c.load_source.new.store in
    let second : Standing = standing g.S.Store.files g.S.Store.faults g.S.Store.misses c.load_launch.new.store in
    let ask : Files = files_of c.args.files in
    let text : Text = text_of c.in-Ok-load_launch.text in
    let source : List ℕ = c.deref.result.now in
    let read : CachedRead old.files ask source text =
    cached_read old.files first.files ask c.in-Ok.bytes.items c.deref.result.now c.in-Ok-load_launch.text
    c.in-Ok.ensures.ok c.deref.ensures.value c.in-Ok.ensures.files_stay c.in-Ok-load_launch.ensures.is
    c.in-Ok-load_launch.ensures.ok in
    let same : second.files ≡ old.files = c.in-Ok-load_launch.ensures.files_stay ∙ c.in-Ok.ensures.files_stay in
    let before : HasNoFewer old second =
    stands_over old first second c.in-Ok.ensures.stands c.in-Ok-load_launch.ensures.stands in
    let held : List Held = c.deref-in-Ok-hold_all.result.now in
    let all : All (IsHeld old.files source text) held =
    subst (λ (hs : List Held). All (IsHeld old.files source text) hs) (sym c.deref-in-Ok-hold_all.ensures.value)
    (subst (λ (f : Option FileMap). All (IsHeld f source text) c.in-Ok-hold_all.held.items) same
    c.in-Ok-hold_all.ensures.ok) in
    held_shells old.files source text held all

pub run_held-requires-clause-names : goal.run_held-requires-clause-names
run_held-requires-clause-names g c =
    let old : Standing = standing g.S.Store.files g.S.Store.faults g.S.Store.misses c.args.store.now in
    let first : Standing = standing g.S.Store.files g.S.Store.faults g.S.Store.misses c.load_source.new.store in
    let second : Standing = standing g.S.Store.files g.S.Store.faults g.S.Store.misses c.load_launch.new.store in
    let ask : Files = files_of c.args.files in
    let text : Text = text_of c.in-Ok-load_launch.text in
    let source : List ℕ = c.deref.result.now in
    let read : CachedRead old.files ask source text =
    cached_read old.files first.files ask c.in-Ok.bytes.items c.deref.result.now c.in-Ok-load_launch.text
    c.in-Ok.ensures.ok c.deref.ensures.value c.in-Ok.ensures.files_stay c.in-Ok-load_launch.ensures.is
    c.in-Ok-load_launch.ensures.ok in
    let same : second.files ≡ old.files = c.in-Ok-load_launch.ensures.files_stay ∙ c.in-Ok.ensures.files_stay in
    let before : HasNoFewer old second =
    stands_over old first second c.in-Ok.ensures.stands c.in-Ok-load_launch.ensures.stands in
    let held : List Held = c.deref-in-Ok-hold_all.result.now in
    let all : All (IsHeld old.files source text) held =
    subst (λ (hs : List Held). All (IsHeld old.files source text) hs) (sym c.deref-in-Ok-hold_all.ensures.value)
    (subst (λ (f : Option FileMap). All (IsHeld f source text) c.in-Ok-hold_all.held.items) same
    c.in-Ok-hold_all.ensures.ok) in
    held_names old.files source text held all

pub returns-in-Ok-hold_all-clause-ok : goal.returns-in-Ok-hold_all-clause-ok
returns-in-Ok-hold_all-clause-ok g c =
    let old : Standing = standing g.S.Store.files g.S.Store.faults g.S.Store.misses c.args.store.now in
    let first : Standing = standing g.S.Store.files g.S.Store.faults g.S.Store.misses c.load_source.new.store in
    let second : Standing = standing g.S.Store.files g.S.Store.faults g.S.Store.misses c.load_launch.new.store in
    let ask : Files = files_of c.args.files in
    let text : Text = text_of c.in-Ok-load_launch.text in
    let source : List ℕ = c.deref.result.now in
    let read : CachedRead old.files ask source text =
    cached_read old.files first.files ask c.in-Ok.bytes.items c.deref.result.now c.in-Ok-load_launch.text
    c.in-Ok.ensures.ok c.deref.ensures.value c.in-Ok.ensures.files_stay c.in-Ok-load_launch.ensures.is
    c.in-Ok-load_launch.ensures.ok in
    let same : second.files ≡ old.files = c.in-Ok-load_launch.ensures.files_stay ∙ c.in-Ok.ensures.files_stay in
    let before : HasNoFewer old second =
    stands_over old first second c.in-Ok.ensures.stands c.in-Ok-load_launch.ensures.stands in
    let third : Standing = standing g.S.Store.files g.S.Store.faults g.S.Store.misses c.hold_all.new.store in
    let new : Standing = standing g.S.Store.files g.S.Store.faults g.S.Store.misses c.run_held.new.store in
    let held : List Held = c.deref-in-Ok-hold_all.result.now in
    let all : All (IsHeld old.files source text) held =
    subst (λ (hs : List Held). All (IsHeld old.files source text) hs) (sym c.deref-in-Ok-hold_all.ensures.value)
    (subst (λ (f : Option FileMap). All (IsHeld f source text) c.in-Ok-hold_all.held.items) same
    c.in-Ok-hold_all.ensures.ok) in
    let stays : third.files ≡ old.files = c.in-Ok-hold_all.ensures.files_stay ∙ same in
    IfOk-weaker _ _ _ (λ summary done. held_done old.files third.files new.files ask source text held summary stays read
    all done) c.run_held.ensures.ok

pub returns-in-Ok-hold_all-clause-err : goal.returns-in-Ok-hold_all-clause-err
returns-in-Ok-hold_all-clause-err g c =
    let old : Standing = standing g.S.Store.files g.S.Store.faults g.S.Store.misses c.args.store.now in
    let first : Standing = standing g.S.Store.files g.S.Store.faults g.S.Store.misses c.load_source.new.store in
    let second : Standing = standing g.S.Store.files g.S.Store.faults g.S.Store.misses c.load_launch.new.store in
    let ask : Files = files_of c.args.files in
    let text : Text = text_of c.in-Ok-load_launch.text in
    let source : List ℕ = c.deref.result.now in
    let read : CachedRead old.files ask source text =
    cached_read old.files first.files ask c.in-Ok.bytes.items c.deref.result.now c.in-Ok-load_launch.text
    c.in-Ok.ensures.ok c.deref.ensures.value c.in-Ok.ensures.files_stay c.in-Ok-load_launch.ensures.is
    c.in-Ok-load_launch.ensures.ok in
    let same : second.files ≡ old.files = c.in-Ok-load_launch.ensures.files_stay ∙ c.in-Ok.ensures.files_stay in
    let before : HasNoFewer old second =
    stands_over old first second c.in-Ok.ensures.stands c.in-Ok-load_launch.ensures.stands in
    let third : Standing = standing g.S.Store.files g.S.Store.faults g.S.Store.misses c.hold_all.new.store in
    let new : Standing = standing g.S.Store.files g.S.Store.faults g.S.Store.misses c.run_held.new.store in
    let held : List Held = c.deref-in-Ok-hold_all.result.now in
    let all : All (IsHeld old.files source text) held =
    subst (λ (hs : List Held). All (IsHeld old.files source text) hs) (sym c.deref-in-Ok-hold_all.ensures.value)
    (subst (λ (f : Option FileMap). All (IsHeld f source text) c.in-Ok-hold_all.held.items) same
    c.in-Ok-hold_all.ensures.ok) in
    let stays : third.files ≡ old.files = c.in-Ok-hold_all.ensures.files_stay ∙ same in
    IfErr-weaker _ _ _ (λ e cause. held_cause old third new ask source text held e stays
    (stands_over old second third before c.in-Ok-hold_all.ensures.stands) c.run_held.ensures.stands read all cause)
    c.run_held.ensures.err

pub returns-in-Ok-hold_all-clause-left : goal.returns-in-Ok-hold_all-clause-left
returns-in-Ok-hold_all-clause-left g c =
    let old : Standing = standing g.S.Store.files g.S.Store.faults g.S.Store.misses c.args.store.now in
    let first : Standing = standing g.S.Store.files g.S.Store.faults g.S.Store.misses c.load_source.new.store in
    let second : Standing = standing g.S.Store.files g.S.Store.faults g.S.Store.misses c.load_launch.new.store in
    let ask : Files = files_of c.args.files in
    let text : Text = text_of c.in-Ok-load_launch.text in
    let source : List ℕ = c.deref.result.now in
    let read : CachedRead old.files ask source text =
    cached_read old.files first.files ask c.in-Ok.bytes.items c.deref.result.now c.in-Ok-load_launch.text
    c.in-Ok.ensures.ok c.deref.ensures.value c.in-Ok.ensures.files_stay c.in-Ok-load_launch.ensures.is
    c.in-Ok-load_launch.ensures.ok in
    let same : second.files ≡ old.files = c.in-Ok-load_launch.ensures.files_stay ∙ c.in-Ok.ensures.files_stay in
    let before : HasNoFewer old second =
    stands_over old first second c.in-Ok.ensures.stands c.in-Ok-load_launch.ensures.stands in
    let third : Standing = standing g.S.Store.files g.S.Store.faults g.S.Store.misses c.hold_all.new.store in
    let new : Standing = standing g.S.Store.files g.S.Store.faults g.S.Store.misses c.run_held.new.store in
    let held : List Held = c.deref-in-Ok-hold_all.result.now in
    let all : All (IsHeld old.files source text) held =
    subst (λ (hs : List Held). All (IsHeld old.files source text) hs) (sym c.deref-in-Ok-hold_all.ensures.value)
    (subst (λ (f : Option FileMap). All (IsHeld f source text) c.in-Ok-hold_all.held.items) same
    c.in-Ok-hold_all.ensures.ok) in
    let stays : third.files ≡ old.files = c.in-Ok-hold_all.ensures.files_stay ∙ same in
    IfErr-weaker _ _ _ (λ e left. held_leaves old third new ask source text held e stays read all left)
    c.run_held.ensures.left

pub returns-clause-err : goal.returns-clause-err
returns-clause-err g c =
    let old : Standing = standing g.S.Store.files g.S.Store.faults g.S.Store.misses c.args.store.now in
    let first : Standing = standing g.S.Store.files g.S.Store.faults g.S.Store.misses c.load_source.new.store in
    let second : Standing = standing g.S.Store.files g.S.Store.faults g.S.Store.misses c.load_launch.new.store in
    let ask : Files = files_of c.args.files in
    let text : Text = text_of c.in-Ok-load_launch.text in
    let source : List ℕ = c.deref.result.now in
    let read : CachedRead old.files ask source text =
    cached_read old.files first.files ask c.in-Ok.bytes.items c.deref.result.now c.in-Ok-load_launch.text
    c.in-Ok.ensures.ok c.deref.ensures.value c.in-Ok.ensures.files_stay c.in-Ok-load_launch.ensures.is
    c.in-Ok-load_launch.ensures.ok in
    let same : second.files ≡ old.files = c.in-Ok-load_launch.ensures.files_stay ∙ c.in-Ok.ensures.files_stay in
    let before : HasNoFewer old second =
    stands_over old first second c.in-Ok.ensures.stands c.in-Ok-load_launch.ensures.stands in
    cached_holding old second (standing g.S.Store.files g.S.Store.faults g.S.Store.misses c.hold_all.new.store) ask
    source text c.in-Err-hold_all.error read same before
    c.in-Err-hold_all.ensures.stands c.in-Err-hold_all.ensures.err
