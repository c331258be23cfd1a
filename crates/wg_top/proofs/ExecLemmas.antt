-- What must come of `exec`, want of memory aside.
use Rattle.std.proofs.Common.{◌≡◌, ℕ, List, Option, Some, None, inl, inr, refl, sym, ◌∙◌, subst}
use Rattle.std.specs.Prelude.{◌⊎◌, is_some, true}
use Rattle.wg_outside.specs.Counts.{Rose}
use Rattle.wg_outside.specs.Files.{FileMap}
use Rattle.buffer_io.specs.Loads.{LacksOneFile}
use Rattle.command_words.specs.Command.{ObjectFiles}
use Rattle.launch_file.specs.Binding.{loads_of}
use Rattle.launch_file.specs.Texts.{Text}
use Rattle.launch_file.specs.Refusals.{Reads}
use Rattle.launch_file.specs.declared.refusal.Refusal.{Refusal}
use Rattle.launch_file.proofs.Unique.{one_text, read_or_refused}
use Rattle.wg_object.specs.Plain.{PlainObject}
use Rattle.wg_object.specs.Valid.{IsObjectOf}
use Rattle.wg_object.proofs.DeepEnough.{one_object}
use Rattle.wg_top.specs.declared.RunError.{RunError}
use Rattle.wg_top.specs.declared.RunError.TheVariants.{Failed, Absent, Source, Launch, Range, Parted, Turns, Memory}
use Rattle.wg_top.specs.declared.RunError.TheVariants.{NotObject}
use Rattle.wg_top.specs.declared.Summary.{Summary}
use Rattle.wg_top.specs.Causes.{Standing, BuffersLoaded}
use Rattle.wg_top.specs.Lines.{status_of}
use Rattle.wg_top.specs.Launches.{launches_in}
use Rattle.wg_top.specs.CompiledLaunches.{LaunchesRan}
use Rattle.wg_top.specs.Programs.{runs_refusal, programs_of, AreStopped}
use Rattle.wg_top.specs.CompiledObjects.{runs_each, NameKernel, ExecTaken, IsNoObject, NamesOther, ExecStopped}
use Rattle.wg_top.specs.CompiledObjects.{TakingFinds, TakenFinds, ExecFinds, ExecCause, ExecDone, ExecAccepted}
use Rattle.wg_top.specs.Objects.{ExecRead, ExecUnread, LacksExec}
use Rattle.wg_top.specs.Outside.{Outside}
use Rattle.wg_top.specs.Ends.{EndsExec}
use Rattle.wg_top.proofs.CompleteLemmas.{not_lacked, none_refused}
use Rattle.wg_top.proofs.ExactLemmas.{lacks_loaded, same_start}
use Rattle.wg_top.proofs.EndLemmas.{status_above}
use Rattle.wg_top.proofs.FoundLemmas.{Found, unbound, no_buffer, stopped, fits, status_at, found_agree}

two_texts : (bytes others : List ℕ) (turns : Option ℕ) (a b : Text) → bytes ≡ others → Reads bytes None turns a →
    Reads others None turns b → a ≡ b
two_texts bytes others turns a b same x y =
    one_text bytes None turns a b x (subst (λ (bs : List ℕ). Reads bs None turns b) (sym same) y)

module _ (fs : FileMap) (ask : ObjectFiles) where
  read_twice : (bytes other : List ℕ) (a b : Text) → ExecRead (Some fs) ask bytes a → ExecRead (Some fs) ask other b →
      (bytes ≡ other) × (a ≡ b)
  read_twice bytes other a b x y = (
    same_start fs ask.object 18446744073709551615 bytes other x.object_loaded y.object_loaded,
    two_texts x.launch_bytes y.launch_bytes ask.turns a b
        (same_start fs ask.launch 1048577 x.launch_bytes y.launch_bytes x.launch_loaded y.launch_loaded) x.reads
        y.reads,
  )

  pub taken_twice : (a b : Text) (o p : PlainObject) → ExecTaken (Some fs) ask a o → ExecTaken (Some fs) ask b p →
      (a ≡ b) × (o ≡ p)
  taken_twice a b o p x y =
      let same = read_twice x.bytes y.bytes a b x.read y.read in
      (same.1, one_object y.bytes o p (subst (λ (bs : List ℕ). IsObjectOf bs o) same.0 x.is_text) y.is_text)

  lacks_read : (bytes : List ℕ) (text : Text) → LacksExec (Some fs) ask → ExecRead (Some fs) ask bytes text → ⊥
  lacks_read bytes text (inl first) read =
      lacks_loaded fs ask.object 18446744073709551615 bytes first read.object_loaded
  lacks_read bytes text (inr second) read =
      lacks_loaded fs ask.launch 1048577 read.launch_bytes second.2 read.launch_loaded

  lacks_unread : (first : Refusal) → LacksExec (Some fs) ask → ExecUnread (Some fs) ask first → ⊥
  lacks_unread first (inl absent) x =
      lacks_loaded fs ask.object 18446744073709551615 x.bytes absent x.object_loaded
  lacks_unread first (inr second) x = lacks_loaded fs ask.launch 1048577 x.launch_bytes second.2 x.launch_loaded

  unread_read : (first : Refusal) (bytes : List ℕ) (text : Text) → ExecUnread (Some fs) ask first →
      ExecRead (Some fs) ask bytes text → ⊥
  unread_read first bytes text x read =
      let same : read.launch_bytes ≡ x.launch_bytes =
      same_start fs ask.launch 1048577 read.launch_bytes x.launch_bytes read.launch_loaded x.launch_loaded in
      read_or_refused x.launch_bytes None ask.turns text first
      (subst (λ (b : List ℕ). Reads b None ask.turns text) same read.reads) x.refused

  none_text : (bytes : List ℕ) (text : Text) (o : PlainObject) → IsNoObject (Some fs) ask →
      ExecRead (Some fs) ask bytes text → IsObjectOf bytes o → ⊥
  none_text bytes text o x read is =
      x.none o (subst (λ (bs : List ℕ). IsObjectOf bs o) (sym (read_twice x.bytes bytes x.text text x.read read).0) is)

  other_taken : (text : Text) (o : PlainObject) → NamesOther (Some fs) ask → ExecTaken (Some fs) ask text o → ⊥
  other_taken text o x taken =
      let same = read_twice x.bytes taken.bytes x.text text x.read taken.read in
      let one : x.object ≡ o =
      one_object taken.bytes x.object o (subst (λ (bs : List ℕ). IsObjectOf bs x.object) same.0 x.is_text)
      taken.is_text in
      x.other (subst (λ (p : PlainObject). NameKernel x.text p) (sym one)
      (subst (λ (t : Text). NameKernel t o) (sym same.1) taken.names))

  -- what is found before the launches are bound is not found of what was taken
  pub early : (e : RunError) (text : Text) (o : PlainObject) → TakingFinds (Some fs) ask e →
      ExecTaken (Some fs) ask text o → ⊥
  early Absent text o finds taken = lacks_read taken.bytes text finds taken.read
  early NotObject text o finds taken = none_text taken.bytes text o finds taken.read taken.is_text
  early (Launch first) text o (inl unread) taken = unread_read first taken.bytes text unread taken.read
  early (Launch first) text o (inr other) taken = other_taken text o other.1 taken
  early _ text o finds taken = finds

  -- two such have one status
  lacks_launch : (first : Refusal) → LacksExec (Some fs) ask → TakingFinds (Some fs) ask (Launch first) → ⊥
  lacks_launch first lacks (inl unread) = lacks_unread first lacks unread
  lacks_launch first lacks (inr other) = lacks_read other.1.bytes other.1.text lacks other.1.read

  none_launch : (first : Refusal) → IsNoObject (Some fs) ask → TakingFinds (Some fs) ask (Launch first) → ⊥
  none_launch first x (inl unread) = unread_read first x.bytes x.text unread x.read
  none_launch first x (inr other) = none_text other.1.bytes other.1.text other.1.object x other.1.read other.1.is_text

  early_agree : (e d : RunError) → TakingFinds (Some fs) ask e → TakingFinds (Some fs) ask d →
      status_of e ≡ status_of d
  early_agree Absent Absent a b = refl
  early_agree Absent NotObject a b = absurd (lacks_read b.bytes b.text a b.read)
  early_agree Absent (Launch first) a b = absurd (lacks_launch first a b)
  early_agree Absent _ a b = absurd b
  early_agree NotObject Absent a b = absurd (lacks_read a.bytes a.text b a.read)
  early_agree NotObject NotObject a b = refl
  early_agree NotObject (Launch first) a b = absurd (none_launch first a b)
  early_agree NotObject _ a b = absurd b
  early_agree (Launch first) Absent a b = absurd (lacks_launch first b a)
  early_agree (Launch first) NotObject a b = absurd (none_launch first b a)
  early_agree (Launch first) (Launch second) a b = refl
  early_agree (Launch first) _ a b = absurd b
  early_agree _ d a b = absurd a

  -- what was taken
  module _ (text : Text) (o : PlainObject) (taken : ExecTaken (Some fs) ask text o) where
    abbrev Late : Type 0
    Late = Found fs text (runs_refusal text (runs_each o text.list)) (programs_of (runs_each o text.list))

    abbrev status_late : Late → ℕ
    status_late x =
        status_at fs text (runs_refusal text (runs_each o text.list)) (programs_of (runs_each o text.list)) x

    late_agree : (x y : Late) → status_late x ≡ status_late y
    late_agree x y =
        found_agree fs text (runs_refusal text (runs_each o text.list)) (programs_of (runs_each o text.list)) x y

    stopped_so : (e : RunError) → AreStopped (Some fs) text (runs_each o text.list) e → Late
    stopped_so e s = stopped e s.before s.accepted s.loaded s.ends

    at : (e : RunError) → ExecStopped (Some fs) ask e → AreStopped (Some fs) text (runs_each o text.list) e
    at e finds =
        let same = taken_twice finds.text text finds.object o finds.taken taken in
        subst (λ (p : PlainObject). AreStopped (Some fs) text (runs_each p text.list) e) same.1
        (subst (λ (t : Text). AreStopped (Some fs) t (runs_each finds.object t.list) e) same.0 finds.stopped)

    -- what is found behind that
    late : (e : RunError) → TakenFinds (Some fs) ask e → (x : Late) × (status_late x ≡ status_of e)
    unfolding status_at stopped_so
    late Absent finds =
        let same = taken_twice finds.text text finds.object o finds.taken taken in (
          no_buffer
              (subst (λ (p : PlainObject). runs_refusal text (runs_each p text.list) ≡ None) same.1
              (subst (λ (t : Text). runs_refusal t (runs_each finds.object t.list) ≡ None) same.0 finds.accepted))
              (subst (λ (t : Text). LacksOneFile (Some fs) (loads_of t.buffers)) same.0 finds.lacks),
          refl,
        )
    late (Launch first) finds =
        let same = taken_twice finds.text text finds.object o finds.taken taken in (
          unbound first
              (subst (λ (p : PlainObject). runs_refusal text (runs_each p text.list) ≡ Some first) same.1
              (subst (λ (t : Text). runs_refusal t (runs_each finds.object t.list) ≡ Some first) same.0
              finds.refused)),
          refl,
        )
    late (Range number several group item place) finds =
        (stopped_so (Range number several group item place) (at (Range number several group item place) finds), refl)
    late (Parted number several group item place) finds =
        (stopped_so (Parted number several group item place) (at (Parted number several group item place) finds), refl)
    late (Turns number several) finds =
        (stopped_so (Turns number several) (at (Turns number several) finds), refl)
    late _ finds = absurd finds

    -- the run is done
    done : (new : Option FileMap) (summary : Summary) → ExecDone (Some fs) new ask summary → (x : Late) ×
        (status_late x ≡ 0)
    unfolding status_at
    done new summary d =
        let same = taken_twice d.text text d.object o d.taken taken in (
          fits d.run.before d.run.after
              (subst (λ (p : PlainObject). runs_refusal text (runs_each p text.list) ≡ None) same.1
              (subst (λ (t : Text). runs_refusal t (runs_each d.object t.list) ≡ None) same.0 d.run.run.accepted))
              (subst (λ (t : Text). BuffersLoaded (Some fs) t d.run.before) same.0 d.run.run.loaded)
              (subst (λ (p : PlainObject). LaunchesRan (programs_of (runs_each p text.list)) (launches_in text)
              d.run.before d.run.after) same.1
              (subst (λ (t : Text). LaunchesRan (programs_of (runs_each d.object t.list)) (launches_in t) d.run.before
              d.run.after) same.0 d.run.run.ran)),
          refl,
        )

    late_status : (e d : RunError) → TakenFinds (Some fs) ask e → TakenFinds (Some fs) ask d →
        status_of e ≡ status_of d
    late_status e d a b =
        let x = late e a in
        let y = late d b in
        sym x.1 ∙ (late_agree x.0 y.0 ∙ y.1)

    not_done : (new : Option FileMap) (summary : Summary) (e : RunError) → ExecDone (Some fs) new ask summary →
        TakenFinds (Some fs) ask e → ⊥
    not_done new summary e d a =
        let x = done new summary d in
        let y = late e a in
        let zero : 0 ≡ status_of e = sym x.1 ∙ (late_agree x.0 y.0 ∙ y.1) in
        (status_above e (status_of e) refl).0 (sym zero)

  -- whatever is found behind that was taken
  was_taken : (e : RunError) → TakenFinds (Some fs) ask e → (text : Text) × (o : PlainObject) ×
      ExecTaken (Some fs) ask text o
  was_taken Absent finds = (finds.text, finds.object, finds.taken)
  was_taken (Launch first) finds = (finds.text, finds.object, finds.taken)
  was_taken (Range number several group item place) finds = (finds.text, finds.object, finds.taken)
  was_taken (Parted number several group item place) finds = (finds.text, finds.object, finds.taken)
  was_taken (Turns number several) finds = (finds.text, finds.object, finds.taken)
  was_taken _ finds = absurd finds

  agree : (e d : RunError) → ExecFinds (Some fs) ask e → ExecFinds (Some fs) ask d → status_of e ≡ status_of d
  agree e d (inl a) (inl b) = early_agree e d a b
  agree e d (inl a) (inr b) = let t = was_taken d b in absurd (early e t.0 t.1 a t.2)
  agree e d (inr a) (inl b) = let t = was_taken e a in absurd (early d t.0 t.1 b t.2)
  agree e d (inr a) (inr b) = let t = was_taken e a in late_status t.0 t.1 t.2 e d a b

  never_done : (new : Option FileMap) (summary : Summary) (e : RunError) → ExecDone (Some fs) new ask summary →
      ExecFinds (Some fs) ask e → ⊥
  never_done new summary e d (inl a) = early e d.text d.object a d.taken
  never_done new summary e d (inr a) = not_done d.text d.object d.taken new summary e d a

  told : (old new : Standing) (e d : RunError) (n : ℕ) → old.files ≡ Some fs → (Rose old.faults new.faults → ⊥) →
      n ≡ status_of d → ExecCause old new ask d → ExecFinds (Some fs) ask e → (n ≡ status_of e) ⊎ (n ≡ 8)
  told old new e Failed n same quiet is cause finds = absurd (quiet cause)
  told old new e Absent n same quiet is cause finds =
      inl (is ∙ agree Absent e (subst (λ (f : Option FileMap). ExecFinds f ask Absent) same cause.1) finds)
  told old new e (Source condition place) n same quiet is cause finds =
      inl (is ∙ agree (Source condition place) e (subst (λ (f : Option FileMap). ExecFinds f ask
      (Source condition place)) same cause) finds)
  told old new e (Launch first) n same quiet is cause finds =
      inl (is ∙ agree (Launch first) e (subst (λ (f : Option FileMap). ExecFinds f ask (Launch first)) same cause)
      finds)
  told old new e (Range number several group item place) n same quiet is cause finds =
      inl (is ∙ agree (Range number several group item place) e (subst (λ (f : Option FileMap). ExecFinds f ask
      (Range number several group item place)) same cause) finds)
  told old new e (Parted number several group item place) n same quiet is cause finds =
      inl (is ∙ agree (Parted number several group item place) e (subst (λ (f : Option FileMap). ExecFinds f ask
      (Parted number several group item place)) same cause) finds)
  told old new e (Turns number several) n same quiet is cause finds =
      inl (is ∙ agree (Turns number several) e (subst (λ (f : Option FileMap). ExecFinds f ask (Turns number several))
      same cause) finds)
  told old new e Memory n same quiet is cause finds = inr is
  told old new e NotObject n same quiet is cause finds =
      inl (is ∙ agree NotObject e (subst (λ (f : Option FileMap). ExecFinds f ask NotObject) same cause) finds)

  pub ends_told : (old new : Outside) (e : RunError) (n : ℕ) → old.store.files ≡ Some fs → EndsExec old new ask n →
      ExecFinds (Some fs) ask e → (Rose old.store.faults new.store.faults → ⊥) → (n ≡ status_of e) ⊎ (n ≡ 8)
  ends_told old new e n same ends finds quiet = elim ends [
    | inl done ↦ absurd (never_done new.store.files done.summary e
        (subst (λ (f : Option FileMap). ExecDone f new.store.files ask done.summary) same done.done) finds)
    | inr more ↦ elim more [
      | inl unsaid ↦ absurd (never_done new.store.files unsaid.summary e
          (subst (λ (f : Option FileMap). ExecDone f new.store.files ask unsaid.summary) same unsaid.done) finds)
      | inr refused ↦ told old.store new.store e refused.error n same quiet refused.status_is refused.cause finds
    ]
  ]

  -- of what is accepted
  module _ (text : Text) (o : PlainObject) (all : ExecAccepted (Some fs) ask text o) where
    none_stopped : (e : RunError) → ExecStopped (Some fs) ask e → ⊥
    none_stopped e x =
        let s = at text o all.taken e x in
        let d = all.done s.before s.loaded in
        none_refused text.several (programs_of (runs_each o text.list)) (launches_in text) s.before d.0 e d.1 s.ends

    none_found : (e : RunError) → ExecFinds (Some fs) ask e → ⊥
    none_found e (inl a) = early e text o a all.taken
    none_found Absent (inr a) =
        let same = taken_twice a.text text a.object o a.taken all.taken in
        let one : LacksOneFile (Some fs) (loads_of text.buffers) =
        subst (λ (t : Text). LacksOneFile (Some fs) (loads_of t.buffers)) same.0 a.lacks in
        let known = all.buffers_told one.name one.is_load in
        not_lacked (Some fs) one.name known.0 known.1 one.lacks
    none_found (Launch first) (inr a) =
        let same = taken_twice a.text text a.object o a.taken all.taken in
        let e : Some first ≡ None = sym (subst (λ (p : PlainObject). runs_refusal text (runs_each p text.list) ≡
        Some first) same.1 (subst (λ (t : Text). runs_refusal t (runs_each a.object t.list) ≡ Some first) same.0
        a.refused)) ∙ all.accepted in
        let never : ⊥ = cc e in never
    none_found (Range number several group item place) (inr a) =
        none_stopped (Range number several group item place) a
    none_found (Parted number several group item place) (inr a) =
        none_stopped (Parted number several group item place) a
    none_found (Turns number several) (inr a) = none_stopped (Turns number several) a
    none_found _ (inr a) = a

    pub is_memory : (old new : Standing) (e : RunError) (n : ℕ) → old.files ≡ Some fs →
        (Rose old.faults new.faults → ⊥) → n ≡ status_of e → ExecCause old new ask e → n ≡ 8
    is_memory old new Failed n same quiet is cause = absurd (quiet cause)
    is_memory old new Absent n same quiet is cause =
        absurd (none_found Absent (subst (λ (f : Option FileMap). ExecFinds f ask Absent) same cause.1))
    is_memory old new (Source condition place) n same quiet is cause =
        absurd (none_found (Source condition place) (subst (λ (f : Option FileMap). ExecFinds f ask
        (Source condition place)) same cause))
    is_memory old new (Launch first) n same quiet is cause =
        absurd (none_found (Launch first) (subst (λ (f : Option FileMap). ExecFinds f ask (Launch first)) same cause))
    is_memory old new (Range number several group item place) n same quiet is cause =
        absurd (none_found (Range number several group item place) (subst (λ (f : Option FileMap). ExecFinds f ask
        (Range number several group item place)) same cause))
    is_memory old new (Parted number several group item place) n same quiet is cause =
        absurd (none_found (Parted number several group item place) (subst (λ (f : Option FileMap). ExecFinds f ask
        (Parted number several group item place)) same cause))
    is_memory old new (Turns number several) n same quiet is cause =
        absurd (none_found (Turns number several) (subst (λ (f : Option FileMap). ExecFinds f ask
        (Turns number several)) same cause))
    is_memory old new Memory n same quiet is cause = is
    is_memory old new NotObject n same quiet is cause =
        absurd (none_found NotObject (subst (λ (f : Option FileMap). ExecFinds f ask NotObject) same cause))

pub exec_exact : (old new : Outside) (files : Option FileMap) (ask : ObjectFiles) (e : RunError) (n : ℕ) →
    old.store.files ≡ files → is_some files ≡ true → EndsExec old new ask n → ExecFinds files ask e →
    (Rose old.store.faults new.store.faults → ⊥) → (n ≡ status_of e) ⊎ (n ≡ 8)
exec_exact old new None ask e n same told ends finds quiet = absurd (let never : ⊥ = cc in never)
exec_exact old new (Some fs) ask e n same told ends finds quiet = ends_told fs ask old new e n same ends finds quiet

-- a run of an object that is accepted
exec_accepted : (old new : Outside) (files : Option FileMap) (ask : ObjectFiles) (text : Text) (o : PlainObject)
    (n : ℕ) → old.store.files ≡ files → EndsExec old new ask n → ExecAccepted files ask text o →
    (Rose old.store.faults new.store.faults → ⊥) → (Rose old.out.faults new.out.faults → ⊥) → (n ≡ 0) ⊎ (n ≡ 8)
exec_accepted old new None ask text o n same ends all quiet out_quiet =
    let told = all.told in absurd (let never : ⊥ = cc told in never)
exec_accepted old new (Some fs) ask text o n same ends all quiet out_quiet = elim ends [
  | inl done ↦ inl done.status_is
  | inr more ↦ elim more [
    | inl unsaid ↦ absurd (out_quiet unsaid.failed)
    | inr refused ↦ inr (is_memory fs ask text o all old.store new.store refused.error n same quiet refused.status_is
        refused.cause)
  ]
]

pub exec_complete : (old new : Outside) (ask : ObjectFiles) (text : Text) (o : PlainObject) (n : ℕ) →
    EndsExec old new ask n → ExecAccepted old.store.files ask text o → (Rose old.store.faults new.store.faults → ⊥) →
    (Rose old.out.faults new.out.faults → ⊥) → (n ≡ 0) ⊎ (n ≡ 8)
exec_complete old new ask text o n ends all quiet out_quiet =
    exec_accepted old new old.store.files ask text o n refl ends all quiet out_quiet
