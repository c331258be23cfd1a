-- How a run with the cache over honest files ends.
use Rattle.std.proofs.Common.{◌≡◌, ℕ, List, Option, Some, None, inl, inr, refl, sym, ◌∙◌, ap, subst, arith}
use Rattle.std.specs.Prelude.{◌⊎◌, is_some, true}
use Rattle.wg_outside.specs.Counts.{Rose}
use Rattle.wg_outside.specs.Files.{FileMap, told_file}
use Rattle.cl_meaning.specs.Typed.{Unit'}
use Rattle.command_words.specs.Command.{Files}
use Rattle.launch_file.specs.Texts.{Text}
use Rattle.wg_top.specs.declared.RunError.{RunError}
use Rattle.wg_top.specs.declared.RunError.TheVariants.{Failed, Absent, Source, Launch, Range, Parted, Turns, Memory}
use Rattle.wg_top.specs.declared.RunError.TheVariants.{NotObject}
use Rattle.wg_top.specs.declared.Summary.{Summary}
use Rattle.wg_top.specs.Causes.{Standing, BuffersLoaded, RunRead, IsReadable, AcceptedClean, HasLoops, LacksText}
use Rattle.wg_top.specs.Causes.{SourceRefused, NoCacheName}
use Rattle.wg_top.specs.CompiledCauses.{Finds, Accepted, HasRun}
use Rattle.wg_top.specs.Launches.{launches_in}
use Rattle.wg_top.specs.Outcomes.{models_in, AreClean}
use Rattle.wg_top.specs.CompiledLaunches.{programs_in}
use Rattle.wg_top.specs.Lines.{status_of}
use Rattle.wg_top.specs.Cached.{Honest, CachedRead, CachedDone, CachedCause, CachedLeaves, CachedFinds}
use Rattle.wg_top.specs.Cached.{CachedAccepted, SavesUnderCacheName}
use Rattle.wg_top.specs.Outside.{Outside}
use Rattle.wg_top.specs.Ends.{EndsCached}
use Rattle.wg_top.specs.Honest.{HonestRun, HonestLeaves, EndsHonest, CachedLeavesClean, EndsCachedClean}
use Rattle.wg_top.specs.Honest.{WithHonestFiles}
use Rattle.wg_top.proofs.ChainLemmas.{are_done}
use Rattle.wg_top.proofs.CleanLemmas.{leaves_clean}
use Rattle.wg_top.proofs.CompleteLemmas.{not_failed, run_complete, same_read, memory_clean, refused_loops, same_text}
use Rattle.wg_top.proofs.ExactLemmas.{no_status_ran, refusal, lacks_loaded, source_differs, same_start}
use Rattle.wg_top.proofs.HonestLemmas.{honest_cause, honest_leaves, honest_done, stays_honest, fault_for}

-- ---- what was read twice

same_cached : (fs : FileMap) (ask : Files) (source : List ℕ) (text other : Text) (units : List Unit') →
    CachedRead (Some fs) ask source text → RunRead (Some fs) ask other units → text ≡ other
same_cached fs ask source text other units a b =
    same_text a.launch_bytes b.launch_bytes ask text other (same_start fs ask.launch 1048577 a.launch_bytes
    b.launch_bytes a.launch_loaded b.launch_loaded) a.reads b.reads

-- L19 stands, so what has no such name was not read
named_differs : (fs : FileMap) (ask : Files) (source : List ℕ) (text : Text) → SavesUnderCacheName (Some fs) ask →
    CachedRead (Some fs) ask source text → NoCacheName text.buffers → ⊥
named_differs fs ask source text named read plain =
    named.stands (subst (λ (t : Text). NoCacheName t.buffers)
    (same_cached fs ask source text named.text named.units read named.bound.read) plain)

lacks_named : (fs : FileMap) (ask : Files) → SavesUnderCacheName (Some fs) ask → LacksText (Some fs) ask → ⊥
lacks_named fs ask named (inl first) =
    lacks_loaded fs ask.source 262145 named.bound.read.source_bytes first named.bound.read.source_loaded
lacks_named fs ask named (inr second) =
    lacks_loaded fs ask.launch 1048577 named.bound.read.launch_bytes second.2 named.bound.read.launch_loaded

-- a refusal where L19 stands
named_refusal : (fs : FileMap) (old new : Standing) (ask : Files) (e : RunError) (n : ℕ) → old.files ≡ Some fs →
    is_some old.files ≡ true → Honest old.files → SavesUnderCacheName old.files ask →
    (Rose old.faults new.faults → ⊥) → n ≡ status_of e → CachedCause old new ask e → (n ≡ 4) ⊎ (n ≡ 8)
named_refusal fs old new ask Failed n same told honest named quiet is c = absurd (quiet c)
named_refusal fs old new ask Absent n same told honest named quiet is c = absurd (elim (c.1) [
  | inl lacks ↦ lacks_named fs ask (subst (λ (f : Option FileMap). SavesUnderCacheName f ask) same named)
      (subst (λ (f : Option FileMap). LacksText f ask) same lacks)
  | inr x ↦ named_differs fs ask x.source x.text (subst (λ (f : Option FileMap). SavesUnderCacheName f ask) same named)
      (subst (λ (f : Option FileMap). CachedRead f ask x.source x.text) same x.taken.read) x.plain
])
named_refusal fs old new ask (Source condition place) n same told honest named quiet is c =
    let x = subst (λ (f : Option FileMap). SavesUnderCacheName f ask) same named in
    absurd (source_differs fs ask condition place x.text x.units
    (subst (λ (f : Option FileMap). SourceRefused f ask condition place) same
    ((fault_for old new ask told honest condition place c).refused)) x.bound.read)
named_refusal fs old new ask (Launch first) n same told honest named quiet is c = inl is
named_refusal fs old new ask (Range number several group item place) n same told honest named quiet is c =
    absurd (named_differs fs ask c.source c.text (subst (λ (f : Option FileMap). SavesUnderCacheName f ask) same named)
    (subst (λ (f : Option FileMap). CachedRead f ask c.source c.text) same c.taken.read) c.plain)
named_refusal fs old new ask (Parted number several group item place) n same told honest named quiet is c =
    absurd (named_differs fs ask c.source c.text (subst (λ (f : Option FileMap). SavesUnderCacheName f ask) same named)
    (subst (λ (f : Option FileMap). CachedRead f ask c.source c.text) same c.taken.read) c.plain)
named_refusal fs old new ask (Turns number several) n same told honest named quiet is c =
    absurd (named_differs fs ask c.source c.text (subst (λ (f : Option FileMap). SavesUnderCacheName f ask) same named)
    (subst (λ (f : Option FileMap). CachedRead f ask c.source c.text) same c.taken.read) c.plain)
named_refusal fs old new ask Memory n same told honest named quiet is c = inr is
named_refusal fs old new ask NotObject n same told honest named quiet is c = absurd c

-- ---- what must come

done_differs : (fs : FileMap) (old new : Standing) (ask : Files) (summary : Summary) (e : RunError) →
    old.files ≡ Some fs → is_some old.files ≡ true → Honest old.files → CachedDone old.files new.files ask summary →
    Finds (Some fs) ask e → ⊥
done_differs fs old new ask summary e same told honest done finds =
    let d = honest_done old new ask told honest summary done in
    no_status_ran fs ask d.text d.units d.run.after e
    (subst (λ (f : Option FileMap). RunRead f ask d.text d.units) same d.read) d.run.accepted
    (subst (λ (f : Option FileMap). HasRun f d.text d.units d.run.after) same d.run.run) finds

found_refusal : (fs : FileMap) (old new : Standing) (ask : Files) (e d : RunError) (n : ℕ) → old.files ≡ Some fs →
    is_some old.files ≡ true → Honest old.files → (SavesUnderCacheName old.files ask → ⊥) → Finds (Some fs) ask e →
    (Rose old.faults new.faults → ⊥) → n ≡ status_of d → CachedCause old new ask d → (n ≡ status_of e) ⊎ (n ≡ 8)
found_refusal fs old new ask e d n same told honest plain finds quiet is c = elim (honest_cause old new ask told honest
    d c) [
      | inl cause ↦ refusal fs old new ask e d n same finds (not_failed old new ask d quiet cause) is cause
      | inr named ↦ absurd (plain named.1)
    ]

exact_told : (fs : FileMap) (old new : Outside) (ask : Files) (e : RunError) (n : ℕ) → old.store.files ≡ Some fs →
    is_some old.store.files ≡ true → EndsCached old new ask n → CachedFinds old.store.files ask e →
    (Rose old.store.faults new.store.faults → ⊥) → (n ≡ status_of e) ⊎ (n ≡ 8)
exact_told fs old new ask e n same told ends (honest, inl found) quiet =
    let finds : Finds (Some fs) ask e = subst (λ (f : Option FileMap). Finds f ask e) same found.1 in
    elim ends [
      | inl done ↦ absurd (done_differs fs old.store new.store ask done.summary e same told honest done.done finds)
      | inr more ↦ elim more [
        | inl unsaid ↦
            absurd (done_differs fs old.store new.store ask unsaid.summary e same told honest unsaid.done finds)
        | inr refused ↦ found_refusal fs old.store new.store ask e refused.error n same told honest found.0 finds quiet
            refused.status_is refused.cause
      ]
    ]
exact_told fs old new ask e n same told ends (honest, inr named) quiet =
    let mine : SavesUnderCacheName (Some fs) ask =
    subst (λ (f : Option FileMap). SavesUnderCacheName f ask) same named.1 in
    let four : 4 ≡ status_of e = ap status_of (sym named.0) in
    elim ends [
      | inl d ↦ absurd (named_differs fs ask d.done.source d.done.text mine
          (subst (λ (f : Option FileMap). CachedRead f ask d.done.source d.done.text) same d.done.taken.read)
          d.done.plain)
      | inr more ↦ elim more [
        | inl d ↦ absurd (named_differs fs ask d.done.source d.done.text mine
            (subst (λ (f : Option FileMap). CachedRead f ask d.done.source d.done.text) same d.done.taken.read)
            d.done.plain)
        | inr refused ↦ elim (named_refusal fs old.store new.store ask refused.error n same told honest named.1 quiet
            refused.status_is refused.cause) [ inl is ↦ inl (is ∙ four) | inr eight ↦ inr eight ]
      ]
    ]

pub cached_exact : (old new : Outside) (files : Option FileMap) (ask : Files) (e : RunError) (n : ℕ) →
    old.store.files ≡ files → is_some files ≡ true → EndsCached old new ask n → CachedFinds old.store.files ask e →
    (Rose old.store.faults new.store.faults → ⊥) → (n ≡ status_of e) ⊎ (n ≡ 8)
cached_exact old new None ask e n same told ends finds quiet = absurd (let never : ⊥ = cc told in never)
cached_exact old new (Some fs) ask e n same told ends finds quiet =
    exact_told fs old new ask e n same (ap is_some same) ends finds quiet

-- what is accepted is told
told_some : {X : Type 0} (files : Option FileMap) (name : List ℕ) (found : X) (seen : X → Option (List ℕ)) →
    told_file files name ≡ Some (seen found) → is_some files ≡ true
told_some None name found seen is = absurd (let never : ⊥ = cc is in never)
told_some (Some fs) name found seen is = refl

readable_told : (files : Option FileMap) (ask : Files) (text : Text) (units : List Unit') →
    IsReadable files ask text units → is_some files ≡ true
readable_told files ask text units all =
    told_some files ask.source all.source_bytes (λ (bs : List ℕ). Some bs) all.source_told

readable_of : (files : Option FileMap) (ask : Files) (text : Text) (units : List Unit') →
    Accepted files ask text units ⊎ AcceptedClean files ask text units → IsReadable files ask text units
readable_of files ask text units (inl done) = done.taken.readable
readable_of files ask text units (inr clean) = clean.taken.readable

-- L19 does not stand of what is accepted with no such name
plain_differs : (files : Option FileMap) (ask : Files) (text : Text) (units : List Unit') →
    IsReadable files ask text units → NoCacheName text.buffers → SavesUnderCacheName files ask → ⊥
plain_differs files ask text units all plain named =
    named.stands (subst (λ (t : Text). NoCacheName t.buffers)
    (sym (same_read files ask text named.text units named.units all named.bound.read).0) plain)

pub cached_complete : (old new : Outside) (ask : Files) (n : ℕ) → EndsCached old new ask n →
    CachedAccepted old.store.files ask → (Rose old.store.faults new.store.faults → ⊥) →
    (Rose old.out.faults new.out.faults → ⊥) → (n ≡ 0) ⊎ (n ≡ 8)
cached_complete old new ask n ends all quiet out_quiet =
    let readable = readable_of old.store.files ask all.text all.units all.run in
    let told = readable_told old.store.files ask all.text all.units readable in
    elim ends [
      | inl done ↦ inl done.status_is
      | inr more ↦ elim more [
        | inl unsaid ↦ absurd (out_quiet unsaid.failed)
        | inr refused ↦ elim (honest_cause old.store new.store ask told all.honest refused.error refused.cause) [
          | inl cause ↦ inr (run_complete old.store new.store ask refused.error n (all.text, all.units, all.run)
              (not_failed old.store new.store ask refused.error quiet cause) refused.status_is cause)
          | inr named ↦
              absurd (plain_differs old.store.files ask all.text all.units readable all.plain named.1)
        ]
      ]
    ]

-- ---- with honest files

module _ (old new : Outside) (ask : Files) (n : ℕ) (told : is_some old.store.files ≡ true)
    (honest : Honest old.store.files) where
  ends_honest : EndsCached old new ask n → EndsHonest old new ask n
  ends_honest (inl d) =
      inl (record {
        summary = d.summary;
        status_is = d.status_is;
        done = honest_done old.store new.store ask told honest d.summary d.done;
        said = d.said;
        err_stays = d.err_stays;
      })
  ends_honest (inr (inl d)) =
      inr (inl (record {
        summary = d.summary;
        status_is = d.status_is;
        done = honest_done old.store new.store ask told honest d.summary d.done;
        failed = d.failed;
        part = d.part;
        said = d.said;
      }))
  ends_honest (inr (inr r)) =
      inr (inr (record {
        error = r.error;
        status_is = r.status_is;
        cause = honest_cause old.store new.store ask told honest r.error r.cause;
        leaves = honest_leaves old.store new.store ask told honest r.error r.leaves;
        said = r.said;
        out_stays = r.out_stays;
      }))

  honest_loops : EndsHonest old new ask n → n ≡ 7 → HasLoops old.store.files ask
  honest_loops (inl d) seven = absurd (omega (arith, d.status_is, seven))
  honest_loops (inr (inl d)) seven = absurd (omega (arith, d.status_is, seven))
  honest_loops (inr (inr r)) seven = elim (r.cause) [
    | inl cause ↦ refused_loops old.store new.store ask r.error n r.status_is cause seven
    | inr named ↦
        let four : n ≡ 4 = r.status_is ∙ ap status_of named.0 in absurd (omega (arith, four, seven))
  ]

  clean_run : (text : Text) (units : List Unit') (source : List ℕ) (summary : Summary) →
      ((before : List (List ℕ)) → BuffersLoaded old.store.files text before →
      AreClean (models_in units) (launches_in text) before) →
      HonestRun old.store.files new.store.files source text units summary →
      CachedLeavesClean old.store.files new.store.files source text units
  clean_run text units source summary clean r = record {
    before = r.run.before;
    loaded = r.run.loaded;
    after = r.after;
    leaves = leaves_clean units (launches_in text) r.run.before r.after r.run.made (clean r.run.before r.run.loaded)
        (are_done (programs_in text units) (models_in units) (launches_in text) r.run.before r.after r.run.ran);
    saved = r.saved;
    kept = r.kept;
    are_kept = r.are_kept;
    others = r.others;
  }

  -- which files a refusal for want of memory leaves
  memory_leaves : (e : RunError) → e ≡ Memory → HonestLeaves old.store new.store ask e →
      new.store.files ≡ old.store.files
  memory_leaves e is left = subst (λ (x : RunError). HonestLeaves old.store new.store ask x) is left

  ends_clean : (text : Text) (units : List Unit') → AcceptedClean old.store.files ask text units →
      NoCacheName text.buffers → (Rose old.store.faults new.store.faults → ⊥) →
      (Rose old.out.faults new.out.faults → ⊥) → EndsHonest old new ask n →
      EndsCachedClean old.store.files new.store.files text units n
  ends_clean text units all plain quiet out_quiet (inl d) =
      let same = same_read old.store.files ask text d.done.text units d.done.units all.taken.readable d.done.read in
      inl (
        d.status_is,
        (
          d.done.source,
          clean_run text units d.done.source d.summary all.clean
              (subst (λ (us : List Unit'). HonestRun old.store.files new.store.files d.done.source text us
              d.summary) same.1 (subst (λ (t : Text). HonestRun old.store.files new.store.files d.done.source t
              d.done.units d.summary) same.0 d.done.run)),
        ),
      )
  ends_clean text units all plain quiet out_quiet (inr (inl d)) = absurd (out_quiet d.failed)
  ends_clean text units all plain quiet out_quiet (inr (inr r)) = elim (r.cause) [
    | inl cause ↦
        let is = memory_clean old.store new.store ask text units r.error all quiet cause in
        inr (r.status_is ∙ ap status_of is, memory_leaves r.error is r.leaves)
    | inr named ↦ absurd (plain_differs old.store.files ask text units all.taken.readable plain named.1)
  ]

  -- files as they were
  same_honest : new.store.files ≡ old.store.files → Honest new.store.files
  same_honest same = subst Honest (sym same) honest

  refused_honest : (e : RunError) → CachedCause old.store new.store ask e →
      CachedLeaves old.store new.store ask e → (Rose old.store.faults new.store.faults → ⊥) → Honest new.store.files
  refused_honest Failed cause left quiet = absurd (quiet cause)
  refused_honest Absent cause left quiet = same_honest left
  refused_honest (Source condition place) cause left quiet = same_honest left
  refused_honest (Launch first) cause left quiet = same_honest left
  refused_honest (Range number several group item place) cause left quiet = same_honest left
  refused_honest (Parted number several group item place) cause left quiet = same_honest left
  refused_honest (Turns number several) cause left quiet = same_honest left
  refused_honest Memory cause left quiet = same_honest left
  refused_honest NotObject cause left quiet = same_honest left

  still_honest : EndsCached old new ask n → (Rose old.store.faults new.store.faults → ⊥) → Honest new.store.files
  still_honest (inl d) quiet = stays_honest old.store.files new.store.files ask d.summary honest d.done
  still_honest (inr (inl d)) quiet = stays_honest old.store.files new.store.files ask d.summary honest d.done
  still_honest (inr (inr r)) quiet = refused_honest r.error r.cause r.leaves quiet

  pub with_honest : EndsCached old new ask n → WithHonestFiles old new ask n
  with_honest ends = record {
    ends = ends_honest ends;
    looped = honest_loops (ends_honest ends);
    clean = λ text units all plain quiet out_quiet. ends_clean text units all plain quiet out_quiet (ends_honest ends);
    honest = still_honest ends;
  }
