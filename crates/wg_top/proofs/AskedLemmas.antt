-- What must come of each command, want of memory aside.
use Rattle.std.proofs.Common.{◌≡◌, ℕ, List, Option, Some, None, inl, inr, refl, sym, ◌∙◌, ap, subst}
use Rattle.std.specs.Prelude.{◌⊎◌, is_some, true}
use Rattle.wg_outside.specs.Counts.{Rose}
use Rattle.wg_outside.specs.Files.{FileMap}
use Rattle.command_words.specs.Command.{Files, Request, run, cached, plan, code, sample, build, exec}
use Rattle.launch_file.specs.Texts.{Text}
use Rattle.cl_meaning.specs.Typed.{Unit'}
use Rattle.wg_top.specs.declared.RunError.{RunError}
use Rattle.wg_top.specs.declared.RunError.TheVariants.{Failed, Absent, Source, Launch, Memory}
use Rattle.wg_top.specs.Causes.{Standing, RunRead, ReadingFinds, ReadingCause, IsReadable}
use Rattle.wg_top.specs.CompiledCauses.{Finds, Cause, AcceptedRun}
use Rattle.wg_top.specs.Lines.{status_of}
use Rattle.wg_top.specs.Shown.{Showing}
use Rattle.wg_top.specs.CompiledShown.{plan_shown, code_shown}
use Rattle.wg_top.specs.Sample.{sample_files, sample_ask}
use Rattle.wg_top.specs.CompiledSample.{SampleCause}
use Rattle.wg_top.specs.Outside.{SinkStanding, Outside}
use Rattle.wg_top.specs.Ends.{ShownRead, EndsShowing, EndsSample, EndsAsked, AcceptedFor, FindsFor, NoStoreFault}
use Rattle.wg_top.proofs.CauseLemmas.{reading_cause}
use Rattle.wg_top.proofs.BuildLemmas.{build_complete, build_exact}
use Rattle.wg_top.proofs.ExecLemmas.{exec_complete, exec_exact}
use Rattle.wg_top.proofs.HonestEndLemmas.{cached_complete, cached_exact}
use Rattle.wg_top.proofs.CompleteLemmas.{none_found, not_failed, run_complete, ends_complete}
use Rattle.wg_top.proofs.ExactLemmas.{lacks_loaded, launch_differs, source_differs, no_status, refusal, ends_exact}

-- ---- a command that runs nothing, of what is there and accepted

unread_memory : (old new : Standing) (ask : Files) (text : Text) (s : List Unit') (e : RunError) (n : ℕ) →
    IsReadable old.files ask text s → (Rose old.faults new.faults → ⊥) → n ≡ status_of e →
    ReadingCause old new ask e → n ≡ 8
unread_memory old new ask text s Failed n all quiet is cause = absurd (quiet cause)
unread_memory old new ask text s Absent n all quiet is cause =
    absurd (none_found old.files ask text s Absent all cause.1)
unread_memory old new ask text s (Source condition place) n all quiet is cause =
    absurd (none_found old.files ask text s (Source condition place) all cause.refused)
unread_memory old new ask text s (Launch first) n all quiet is cause =
    absurd (none_found old.files ask text s (Launch first) all cause)
unread_memory old new ask text s Memory n all quiet is cause = is
unread_memory old new ask text s _ n all quiet is cause = absurd cause

shown_complete : (old new : Outside) (ask : Files) (show : Showing) (text : Text) (s : List Unit') (n : ℕ) →
    EndsShowing old new ask show n → IsReadable old.store.files ask text s →
    (Rose old.store.faults new.store.faults → ⊥) → (Rose old.out.faults new.out.faults → ⊥) → (n ≡ 0) ⊎ (n ≡ 8)
shown_complete old new ask show text s n ends all quiet out_quiet = elim ends [
  | inl done ↦ inl done.status_is
  | inr more ↦ elim more [
    | inl unsaid ↦ absurd (out_quiet unsaid.failed)
    | inr refused ↦ inr (unread_memory old.store new.store ask text s refused.error n all quiet refused.status_is
        refused.cause)
  ]
]

-- ---- the sample, accepted

sample_refusal : (k : ℕ) (e : RunError) (n : ℕ) → AcceptedRun (Some (sample_files k)) sample_ask → SampleCause k e →
    (e ≡ Failed → ⊥) → n ≡ status_of e → n ≡ 8
sample_refusal k e n all cause other is = elim cause [
  | inl memory ↦ is ∙ ap status_of memory
  | inr x ↦ run_complete x.old x.new sample_ask e n (subst (λ (f : Option FileMap). AcceptedRun f sample_ask)
      (sym x.files) all) other is x.cause
]

sample_complete : (old_out new_out old_err new_err : SinkStanding) (k n : ℕ) →
    EndsSample old_out new_out old_err new_err k n → AcceptedRun (Some (sample_files k)) sample_ask →
    (Rose old_out.faults new_out.faults → ⊥) → (n ≡ 0) ⊎ (n ≡ 8)
sample_complete old_out new_out old_err new_err k n ends all out_quiet = elim ends [
  | inl done ↦ inl done.status_is
  | inr more ↦ elim more [
    | inl unsaid ↦ absurd (out_quiet unsaid.failed)
    | inr refused ↦ inr (sample_refusal k refused.error n all refused.cause refused.no_fault.0 refused.status_is)
  ]
]

-- ---- what is found while all is read

-- is found of a run
reading_finds : (files : Option FileMap) (ask : Files) (e : RunError) → ReadingFinds files ask e → Finds files ask e
reading_finds files ask Absent finds = inl finds
reading_finds files ask (Source condition place) finds = finds
reading_finds files ask (Launch first) finds = inl finds
reading_finds files ask _ finds = absurd finds

-- and of nothing that was read
pub not_read : (fs : FileMap) (ask : Files) (text : Text) (s : List Unit') (e : RunError) →
    RunRead (Some fs) ask text s → ReadingFinds (Some fs) ask e → ⊥
not_read fs ask text s Absent read finds = elim finds [
  | inl first ↦ lacks_loaded fs ask.source 262145 read.source_bytes first read.source_loaded
  | inr second ↦ lacks_loaded fs ask.launch 1048577 read.launch_bytes second.2 read.launch_loaded
]
not_read fs ask text s (Source condition place) read finds = source_differs fs ask condition place text s finds read
not_read fs ask text s (Launch first) read finds =
    launch_differs fs ask first read.launch_bytes text finds read.launch_loaded read.reads
not_read fs ask text s _ read finds = finds

not_shown : (fs : FileMap) (files : Option FileMap) (ask : Files) (show : Showing) (shown : List ℕ) (e : RunError) →
    files ≡ Some fs → ShownRead files ask show shown → ReadingFinds (Some fs) ask e → ⊥
not_shown fs files ask show shown e told read finds =
    not_read fs ask read.text read.units e (subst (λ (f : Option FileMap). RunRead f ask read.text read.units) told
    read.read) finds

shown_told : (fs : FileMap) (old new : Outside) (ask : Files) (show : Showing) (e : RunError) (n : ℕ) →
    old.store.files ≡ Some fs → EndsShowing old new ask show n → ReadingFinds (Some fs) ask e →
    (Rose old.store.faults new.store.faults → ⊥) → (n ≡ status_of e) ⊎ (n ≡ 8)
shown_told fs old new ask show e n told ends finds quiet = elim ends [
  | inl done ↦ absurd (not_shown fs old.store.files ask show done.shown e told done.read finds)
  | inr more ↦ elim more [
    | inl unsaid ↦ absurd (not_shown fs old.store.files ask show unsaid.shown e told unsaid.read finds)
    | inr refused ↦
        let cause : Cause old.store new.store ask refused.error =
        reading_cause old.store new.store ask refused.error refused.cause in
        refusal fs old.store new.store ask e refused.error n told (reading_finds (Some fs) ask e finds)
        (not_failed old.store new.store ask refused.error quiet cause) refused.status_is cause
  ]
]

shown_exact : (old new : Outside) (files : Option FileMap) (ask : Files) (show : Showing) (e : RunError) (n : ℕ) →
    old.store.files ≡ files → is_some files ≡ true → EndsShowing old new ask show n → ReadingFinds files ask e →
    (Rose old.store.faults new.store.faults → ⊥) → (n ≡ status_of e) ⊎ (n ≡ 8)
shown_exact old new None ask show e n is told ends finds quiet = absurd (let never : ⊥ = cc in never)
shown_exact old new (Some fs) ask show e n is told ends finds quiet =
    shown_told fs old new ask show e n is ends finds quiet

-- ---- what is found of the sample

sample_refused : (k : ℕ) (e d : RunError) (n : ℕ) → Finds (Some (sample_files k)) sample_ask e → SampleCause k d →
    (d ≡ Failed → ⊥) → n ≡ status_of d → (n ≡ status_of e) ⊎ (n ≡ 8)
sample_refused k e d n finds cause other is = elim cause [
  | inl memory ↦ inr (is ∙ ap status_of memory)
  | inr x ↦ refusal (sample_files k) x.old x.new sample_ask e d n x.files finds other is x.cause
]

sample_exact : (old_out new_out old_err new_err : SinkStanding) (k : ℕ) (e : RunError) (n : ℕ) →
    EndsSample old_out new_out old_err new_err k n → Finds (Some (sample_files k)) sample_ask e → (n ≡ status_of e) ⊎
    (n ≡ 8)
sample_exact old_out new_out old_err new_err k e n ends finds = elim ends [
  | inl done ↦ absurd (no_status (sample_files k) (Some done.sample.files) sample_ask done.sample.summary e
      done.sample.done finds)
  | inr more ↦ elim more [
    | inl unsaid ↦ absurd (no_status (sample_files k) (Some unsaid.sample.files) sample_ask unsaid.sample.summary e
        unsaid.sample.done finds)
    | inr refused ↦ sample_refused k e refused.error n finds refused.cause refused.no_fault.0 refused.status_is
  ]
]

-- ---- what is asked for

pub asked_complete : (old new : Outside) (request : Request) (n : ℕ) → EndsAsked old new request n →
    AcceptedFor old.store.files request → NoStoreFault request old.store.faults new.store.faults →
    (Rose old.out.faults new.out.faults → ⊥) → (n ≡ 0) ⊎ (n ≡ 8)
asked_complete old new (run ask) n ends all quiet out_quiet = ends_complete old new ask n ends all quiet out_quiet
asked_complete old new (cached ask) n ends all quiet out_quiet = cached_complete old new ask n ends all quiet out_quiet
asked_complete old new (plan ask) n ends all quiet out_quiet =
    shown_complete old new ask plan_shown all.0 all.1 n ends all.2 quiet out_quiet
asked_complete old new (code ask) n ends all quiet out_quiet =
    shown_complete old new ask code_shown all.0 all.1 n ends all.2 quiet out_quiet
asked_complete old new (sample k) n ends all quiet out_quiet =
    sample_complete old.out new.out old.err new.err k n ends.1 all out_quiet
asked_complete old new (build ask) n ends all quiet out_quiet =
    build_complete old new ask all.0 all.1 n ends all.2 quiet out_quiet
asked_complete old new (exec ask) n ends all quiet out_quiet =
    exec_complete old new ask all.0 all.1 n ends all.2 quiet out_quiet

pub asked_exact : (old new : Outside) (request : Request) (e : RunError) (n : ℕ) → EndsAsked old new request n →
    FindsFor old.store.files request e → NoStoreFault request old.store.faults new.store.faults → (n ≡ status_of e) ⊎
    (n ≡ 8)
asked_exact old new (run ask) e n ends finds quiet =
    ends_exact old new old.store.files ask e n refl finds.0 ends finds.1 quiet
asked_exact old new (cached ask) e n ends finds quiet =
    cached_exact old new old.store.files ask e n refl finds.0 ends finds.1 quiet
asked_exact old new (plan ask) e n ends finds quiet =
    shown_exact old new old.store.files ask plan_shown e n refl finds.0 ends finds.1 quiet
asked_exact old new (code ask) e n ends finds quiet =
    shown_exact old new old.store.files ask code_shown e n refl finds.0 ends finds.1 quiet
asked_exact old new (sample k) e n ends finds quiet = sample_exact old.out new.out old.err new.err k e n ends.1 finds
asked_exact old new (build ask) e n ends finds quiet =
    build_exact old new old.store.files ask e n refl finds.0 ends finds.1 quiet
asked_exact old new (exec ask) e n ends finds quiet =
    exec_exact old new old.store.files ask e n refl finds.0 ends finds.1 quiet
