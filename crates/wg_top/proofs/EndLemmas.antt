-- The words of a run, and how it ends.
use Rattle.std.proofs.Common.{◌≡◌, ℕ, [], codes, inl, inr, refl, ap, arith}
use Rattle.std.specs.Prelude.{◌⊎◌}
use Rattle.wg_top.specs.declared.RunError.{RunError}
use Rattle.wg_outside.specs.Counts.{Rose}
use Rattle.wg_top.specs.declared.RunError.TheVariants.{Failed, Absent, Source, Launch, Range, Parted, Turns, Memory}
use Rattle.wg_top.specs.declared.RunError.TheVariants.{NotObject}
use Rattle.wg_top.specs.Causes.{Standing}
use Rattle.wg_top.specs.CompiledCauses.{Cause, LeavesFiles}
use Rattle.wg_top.specs.Lines.{error_line, done_line, sample_line, status_of}
use Rattle.command_words.specs.Command.{Files, Request, run, cached, plan, code, sample, build, exec}
use Rattle.wg_top.specs.Shown.{Showing}
use Rattle.wg_top.specs.CompiledShown.{plan_shown, code_shown}
use Rattle.wg_top.specs.Outside.{SinkStanding, Outside, EndsSaying}
use Rattle.wg_top.specs.Ends.{Ends, EndsShowing, EndsSample, EndsAsked, SaysLine, KeepsOut}
use Rattle.wg_top.proofs.CauseLemmas.{reading_cause}
use Rattle.wg_top.proofs.ObjectEndLemmas.{build_failed, build_absent, build_no_save, build_quiet, build_line, build_out}
use Rattle.wg_top.proofs.ObjectEndLemmas.{build_no_usage, build_memory, exec_failed, exec_absent, exec_no_save}
use Rattle.wg_top.proofs.ObjectEndLemmas.{exec_quiet, exec_line, exec_out, exec_no_usage, exec_memory}
use Rattle.wg_top.proofs.CachedEndLemmas.{cached_failed, cached_absent, cached_no_save, cached_quiet, cached_line}
use Rattle.wg_top.proofs.CachedEndLemmas.{cached_out, cached_no_usage, cached_memory}

-- what a refusal's status says of its cause
pub status_failed : (old new : Standing) (ask : Files) (e : RunError) (n : ℕ) → n ≡ status_of e →
    Cause old new ask e → n ≡ 1 → Rose old.faults new.faults
status_failed old new ask Failed n is cause one = cause
status_failed old new ask Absent n is cause one = absurd (omega arith)
status_failed old new ask (Source condition place) n is cause one = absurd (omega arith)
status_failed old new ask (Launch first) n is cause one = absurd (omega arith)
status_failed old new ask (Range number several group item place) n is cause one = absurd (omega arith)
status_failed old new ask (Parted number several group item place) n is cause one = absurd (omega arith)
status_failed old new ask (Turns number several) n is cause one = absurd (omega arith)
status_failed old new ask Memory n is cause one = absurd (omega arith)
status_failed old new ask NotObject n is cause one = absurd (omega arith)

pub status_absent : (old new : Standing) (ask : Files) (e : RunError) (n : ℕ) → n ≡ status_of e →
    Cause old new ask e → n ≡ 9 → Rose old.misses new.misses
status_absent old new ask Failed n is cause nine = absurd (omega arith)
status_absent old new ask Absent n is cause nine = cause.0
status_absent old new ask (Source condition place) n is cause nine = absurd (omega arith)
status_absent old new ask (Launch first) n is cause nine = absurd (omega arith)
status_absent old new ask (Range number several group item place) n is cause nine = absurd (omega arith)
status_absent old new ask (Parted number several group item place) n is cause nine = absurd (omega arith)
status_absent old new ask (Turns number several) n is cause nine = absurd (omega arith)
status_absent old new ask Memory n is cause nine = absurd (omega arith)
status_absent old new ask NotObject n is cause nine = absurd (omega arith)

-- a refusal that is no failure leaves the files
pub leaves_all : (old new : Standing) (ask : Files) (e : RunError) (n : ℕ) → n ≡ status_of e →
    LeavesFiles old new ask e → (n ≡ 1 → ⊥) → new.files ≡ old.files
leaves_all old new ask Failed n is leaves other = absurd (other is)
leaves_all old new ask Absent n is leaves other = leaves
leaves_all old new ask (Source condition place) n is leaves other = leaves
leaves_all old new ask (Launch first) n is leaves other = leaves
leaves_all old new ask (Range number several group item place) n is leaves other = leaves
leaves_all old new ask (Parted number several group item place) n is leaves other = leaves
leaves_all old new ask (Turns number several) n is leaves other = leaves
leaves_all old new ask Memory n is leaves other = leaves
leaves_all old new ask NotObject n is leaves other = leaves

-- a refusal is no success, and no fault of the words
pub status_above : (e : RunError) (n : ℕ) → n ≡ status_of e → (n ≡ 0 → ⊥) × (n ≡ 2 → ⊥)
status_above Failed n is = (λ h. omega arith, λ h. omega arith)
status_above Absent n is = (λ h. omega arith, λ h. omega arith)
status_above (Source condition place) n is = (λ h. omega arith, λ h. omega arith)
status_above (Launch first) n is = (λ h. omega arith, λ h. omega arith)
status_above (Range number several group item place) n is = (λ h. omega arith, λ h. omega arith)
status_above (Parted number several group item place) n is = (λ h. omega arith, λ h. omega arith)
status_above (Turns number several) n is = (λ h. omega arith, λ h. omega arith)
status_above Memory n is = (λ h. omega arith, λ h. omega arith)
status_above NotObject n is = (λ h. omega arith, λ h. omega arith)

pub ends_failed : (old new : Outside) (ask : Files) (n : ℕ) → Ends old new ask n → n ≡ 1 →
    Rose old.store.faults new.store.faults ⊎ Rose old.out.faults new.out.faults
ends_failed old new ask n ends one = elim ends [
  | inl done ↦ absurd (omega (arith, done.status_is))
  | inr more ↦ elim more [
    | inl unsaid ↦ inr unsaid.failed
    | inr refused ↦ inl (status_failed old.store new.store ask refused.error n refused.status_is refused.cause one)
  ]
]

pub ends_absent : (old new : Outside) (ask : Files) (n : ℕ) → Ends old new ask n → n ≡ 9 →
    Rose old.store.misses new.store.misses
ends_absent old new ask n ends nine = elim ends [
  | inl done ↦ absurd (omega (arith, done.status_is))
  | inr more ↦ elim more [
    | inl unsaid ↦ absurd (omega (arith, unsaid.status_is))
    | inr refused ↦ status_absent old.store new.store ask refused.error n refused.status_is refused.cause nine
  ]
]

pub ends_no_save : (old new : Outside) (ask : Files) (n : ℕ) → Ends old new ask n → (n ≡ 0 → ⊥) → (n ≡ 1 → ⊥) →
    new.store.files ≡ old.store.files
ends_no_save old new ask n ends not_done not_failed = elim ends [
  | inl done ↦ absurd (not_done done.status_is)
  | inr more ↦ elim more [
    | inl unsaid ↦ absurd (not_failed unsaid.status_is)
    | inr refused ↦ leaves_all old.store new.store ask refused.error n refused.status_is refused.leaves not_failed
  ]
]

pub ends_quiet : (old new : Outside) (ask : Files) (n : ℕ) → Ends old new ask n → n ≡ 0 → new.err ≡ old.err
ends_quiet old new ask n ends zero = elim ends [
  | inl done ↦ done.err_stays
  | inr more ↦ elim more [
    | inl unsaid ↦ absurd (omega (arith, unsaid.status_is))
    | inr refused ↦ absurd ((status_above refused.error n refused.status_is).0 zero)
  ]
]

pub ends_line : (old new : Outside) (ask : Files) (n : ℕ) → Ends old new ask n → (n ≡ 0 → ⊥) → SaysLine old.err new.err
ends_line old new ask n ends not_done = elim ends [
  | inl done ↦ absurd (not_done done.status_is)
  | inr more ↦ elim more [
    | inl unsaid ↦ (error_line ask.source Failed, unsaid.said)
    | inr refused ↦ (error_line ask.source refused.error, refused.said)
  ]
]

pub ends_out : (old new : Outside) (ask : Files) (n : ℕ) → Ends old new ask n → (n ≡ 0 → ⊥) → KeepsOut old.out new.out
ends_out old new ask n ends not_done = elim ends [
  | inl done ↦ absurd (not_done done.status_is)
  | inr more ↦ elim more [
    | inl unsaid ↦ inr (done_line unsaid.summary.groups unsaid.summary.items, unsaid.part, unsaid.failed)
    | inr refused ↦ inl refused.out_stays
  ]
]

pub ends_no_usage : (old new : Outside) (ask : Files) (n : ℕ) → Ends old new ask n → n ≡ 2 → ⊥
ends_no_usage old new ask n ends two = elim ends [
  | inl done ↦ omega (arith, done.status_is)
  | inr more ↦ elim more [
    | inl unsaid ↦ omega (arith, unsaid.status_is)
    | inr refused ↦ (status_above refused.error n refused.status_is).1 two
  ]
]

-- ---- the same of a command that runs nothing

showing_failed : (old new : Outside) (ask : Files) (show : Showing) (n : ℕ) → EndsShowing old new ask show n → n ≡ 1 →
    Rose old.store.faults new.store.faults ⊎ Rose old.out.faults new.out.faults
showing_failed old new ask show n ends one = elim ends [
  | inl done ↦ absurd (omega (arith, done.status_is))
  | inr more ↦ elim more [
    | inl unsaid ↦ inr unsaid.failed
    | inr refused ↦ inl (status_failed old.store new.store ask refused.error n refused.status_is
        (reading_cause old.store new.store ask refused.error refused.cause) one)
  ]
]

showing_absent : (old new : Outside) (ask : Files) (show : Showing) (n : ℕ) → EndsShowing old new ask show n → n ≡ 9 →
    Rose old.store.misses new.store.misses
showing_absent old new ask show n ends nine = elim ends [
  | inl done ↦ absurd (omega (arith, done.status_is))
  | inr more ↦ elim more [
    | inl unsaid ↦ absurd (omega (arith, unsaid.status_is))
    | inr refused ↦ status_absent old.store new.store ask refused.error n refused.status_is
        (reading_cause old.store new.store ask refused.error refused.cause) nine
  ]
]

showing_stays : (old new : Outside) (ask : Files) (show : Showing) (n : ℕ) → EndsShowing old new ask show n →
    new.store.files ≡ old.store.files
showing_stays old new ask show n ends = elim ends [
  | inl done ↦ done.files_stay
  | inr more ↦ elim more [ inl unsaid ↦ unsaid.files_stay | inr refused ↦ refused.files_stay ]
]

showing_quiet : (old new : Outside) (ask : Files) (show : Showing) (n : ℕ) → EndsShowing old new ask show n → n ≡ 0 →
    new.err ≡ old.err
showing_quiet old new ask show n ends zero = elim ends [
  | inl done ↦ done.err_stays
  | inr more ↦ elim more [
    | inl unsaid ↦ absurd (omega (arith, unsaid.status_is))
    | inr refused ↦ absurd ((status_above refused.error n refused.status_is).0 zero)
  ]
]

showing_line : (old new : Outside) (ask : Files) (show : Showing) (n : ℕ) → EndsShowing old new ask show n →
    (n ≡ 0 → ⊥) → SaysLine old.err new.err
showing_line old new ask show n ends not_done = elim ends [
  | inl done ↦ absurd (not_done done.status_is)
  | inr more ↦ elim more [
    | inl unsaid ↦ (error_line ask.source Failed, unsaid.said)
    | inr refused ↦ (error_line ask.source refused.error, refused.said)
  ]
]

showing_out : (old new : Outside) (ask : Files) (show : Showing) (n : ℕ) → EndsShowing old new ask show n →
    (n ≡ 0 → ⊥) → KeepsOut old.out new.out
showing_out old new ask show n ends not_done = elim ends [
  | inl done ↦ absurd (not_done done.status_is)
  | inr more ↦ elim more [
    | inl unsaid ↦ inr (unsaid.shown, unsaid.part, unsaid.failed)
    | inr refused ↦ inl refused.out_stays
  ]
]

showing_no_usage : (old new : Outside) (ask : Files) (show : Showing) (n : ℕ) → EndsShowing old new ask show n →
    n ≡ 2 → ⊥
showing_no_usage old new ask show n ends two = elim ends [
  | inl done ↦ omega (arith, done.status_is)
  | inr more ↦ elim more [
    | inl unsaid ↦ omega (arith, unsaid.status_is)
    | inr refused ↦ (status_above refused.error n refused.status_is).1 two
  ]
]

-- ---- and of the sample

-- a refusal that is no fault of a store has neither status
no_fault_status : (e : RunError) (n : ℕ) → n ≡ status_of e → (e ≡ Failed → ⊥) × (e ≡ Absent → ⊥) →
    (n ≡ 1 → ⊥) × (n ≡ 9 → ⊥)
no_fault_status Failed n is none = absurd (none.0 refl)
no_fault_status Absent n is none = absurd (none.1 refl)
no_fault_status (Source condition place) n is none = (λ h. omega arith, λ h. omega arith)
no_fault_status (Launch first) n is none = (λ h. omega arith, λ h. omega arith)
no_fault_status (Range number several group item place) n is none = (λ h. omega arith, λ h. omega arith)
no_fault_status (Parted number several group item place) n is none = (λ h. omega arith, λ h. omega arith)
no_fault_status (Turns number several) n is none = (λ h. omega arith, λ h. omega arith)
no_fault_status Memory n is none = (λ h. omega arith, λ h. omega arith)
no_fault_status NotObject n is none = (λ h. omega arith, λ h. omega arith)

sample_failed : (old_out new_out old_err new_err : SinkStanding) (k n : ℕ) →
    EndsSample old_out new_out old_err new_err k n → n ≡ 1 → Rose old_out.faults new_out.faults
sample_failed old_out new_out old_err new_err k n ends one = elim ends [
  | inl done ↦ absurd (omega (arith, done.status_is))
  | inr more ↦ elim more [
    | inl unsaid ↦ unsaid.failed
    | inr refused ↦ absurd ((no_fault_status refused.error n refused.status_is refused.no_fault).0 one)
  ]
]

sample_absent : (old_out new_out old_err new_err : SinkStanding) (k n : ℕ) →
    EndsSample old_out new_out old_err new_err k n → n ≡ 9 → ⊥
sample_absent old_out new_out old_err new_err k n ends nine = elim ends [
  | inl done ↦ omega (arith, done.status_is)
  | inr more ↦ elim more [
    | inl unsaid ↦ omega (arith, unsaid.status_is)
    | inr refused ↦ (no_fault_status refused.error n refused.status_is refused.no_fault).1 nine
  ]
]

sample_quiet : (old_out new_out old_err new_err : SinkStanding) (k n : ℕ) →
    EndsSample old_out new_out old_err new_err k n → n ≡ 0 → new_err ≡ old_err
sample_quiet old_out new_out old_err new_err k n ends zero = elim ends [
  | inl done ↦ done.err_stays
  | inr more ↦ elim more [
    | inl unsaid ↦ absurd (omega (arith, unsaid.status_is))
    | inr refused ↦ absurd ((status_above refused.error n refused.status_is).0 zero)
  ]
]

sample_line_said : (old_out new_out old_err new_err : SinkStanding) (k n : ℕ) →
    EndsSample old_out new_out old_err new_err k n → (n ≡ 0 → ⊥) → SaysLine old_err new_err
sample_line_said old_out new_out old_err new_err k n ends not_done = elim ends [
  | inl done ↦ absurd (not_done done.status_is)
  | inr more ↦ elim more [
    | inl unsaid ↦ (error_line (codes "sample.cl") Failed, unsaid.said)
    | inr refused ↦ (error_line (codes "sample.cl") refused.error, refused.said)
  ]
]

sample_out : (old_out new_out old_err new_err : SinkStanding) (k n : ℕ) →
    EndsSample old_out new_out old_err new_err k n → (n ≡ 0 → ⊥) → KeepsOut old_out new_out
sample_out old_out new_out old_err new_err k n ends not_done = elim ends [
  | inl done ↦ absurd (not_done done.status_is)
  | inr more ↦ elim more [
    | inl unsaid ↦ inr (sample_line k unsaid.sum, unsaid.part, unsaid.failed)
    | inr refused ↦ inl refused.out_stays
  ]
]

sample_no_usage : (old_out new_out old_err new_err : SinkStanding) (k n : ℕ) →
    EndsSample old_out new_out old_err new_err k n → n ≡ 2 → ⊥
sample_no_usage old_out new_out old_err new_err k n ends two = elim ends [
  | inl done ↦ omega (arith, done.status_is)
  | inr more ↦ elim more [
    | inl unsaid ↦ omega (arith, unsaid.status_is)
    | inr refused ↦ (status_above refused.error n refused.status_is).1 two
  ]
]

-- ---- and of what is asked for

pub asked_failed : (old new : Outside) (request : Request) (n : ℕ) → EndsAsked old new request n → n ≡ 1 →
    Rose old.store.faults new.store.faults ⊎ Rose old.out.faults new.out.faults
asked_failed old new (run ask) n ends one = ends_failed old new ask n ends one
asked_failed old new (cached ask) n ends one = cached_failed old new ask n ends one
asked_failed old new (plan ask) n ends one = showing_failed old new ask plan_shown n ends one
asked_failed old new (code ask) n ends one = showing_failed old new ask code_shown n ends one
asked_failed old new (sample k) n ends one = inr (sample_failed old.out new.out old.err new.err k n ends.1 one)
asked_failed old new (build ask) n ends one = build_failed old new ask n ends one
asked_failed old new (exec ask) n ends one = exec_failed old new ask n ends one

pub asked_absent : (old new : Outside) (request : Request) (n : ℕ) → EndsAsked old new request n → n ≡ 9 →
    Rose old.store.misses new.store.misses
asked_absent old new (run ask) n ends nine = ends_absent old new ask n ends nine
asked_absent old new (cached ask) n ends nine = cached_absent old new ask n ends nine
asked_absent old new (plan ask) n ends nine = showing_absent old new ask plan_shown n ends nine
asked_absent old new (code ask) n ends nine = showing_absent old new ask code_shown n ends nine
asked_absent old new (sample k) n ends nine = absurd (sample_absent old.out new.out old.err new.err k n ends.1 nine)
asked_absent old new (build ask) n ends nine = build_absent old new ask n ends nine
asked_absent old new (exec ask) n ends nine = exec_absent old new ask n ends nine

pub asked_no_save : (old new : Outside) (request : Request) (n : ℕ) → EndsAsked old new request n → (n ≡ 0 → ⊥) →
    (n ≡ 1 → ⊥) → new.store.files ≡ old.store.files
asked_no_save old new (run ask) n ends a b = ends_no_save old new ask n ends a b
asked_no_save old new (cached ask) n ends a b = cached_no_save old new ask n ends a b
asked_no_save old new (plan ask) n ends a b = showing_stays old new ask plan_shown n ends
asked_no_save old new (code ask) n ends a b = showing_stays old new ask code_shown n ends
asked_no_save old new (sample k) n ends a b = ap (λ s. s.files) ends.0
asked_no_save old new (build ask) n ends a b = build_no_save old new ask n ends a b
asked_no_save old new (exec ask) n ends a b = exec_no_save old new ask n ends a b

pub asked_quiet : (old new : Outside) (request : Request) (n : ℕ) → EndsAsked old new request n → n ≡ 0 →
    new.err ≡ old.err
asked_quiet old new (run ask) n ends zero = ends_quiet old new ask n ends zero
asked_quiet old new (cached ask) n ends zero = cached_quiet old new ask n ends zero
asked_quiet old new (plan ask) n ends zero = showing_quiet old new ask plan_shown n ends zero
asked_quiet old new (code ask) n ends zero = showing_quiet old new ask code_shown n ends zero
asked_quiet old new (sample k) n ends zero = sample_quiet old.out new.out old.err new.err k n ends.1 zero
asked_quiet old new (build ask) n ends zero = build_quiet old new ask n ends zero
asked_quiet old new (exec ask) n ends zero = exec_quiet old new ask n ends zero

pub asked_line : (old new : Outside) (request : Request) (n : ℕ) → EndsAsked old new request n → (n ≡ 0 → ⊥) →
    SaysLine old.err new.err
asked_line old new (run ask) n ends not_done = ends_line old new ask n ends not_done
asked_line old new (cached ask) n ends not_done = cached_line old new ask n ends not_done
asked_line old new (plan ask) n ends not_done = showing_line old new ask plan_shown n ends not_done
asked_line old new (code ask) n ends not_done = showing_line old new ask code_shown n ends not_done
asked_line old new (sample k) n ends not_done = sample_line_said old.out new.out old.err new.err k n ends.1 not_done
asked_line old new (build ask) n ends not_done = build_line old new ask n ends not_done
asked_line old new (exec ask) n ends not_done = exec_line old new ask n ends not_done

pub asked_out : (old new : Outside) (request : Request) (n : ℕ) → EndsAsked old new request n → (n ≡ 0 → ⊥) →
    KeepsOut old.out new.out
asked_out old new (run ask) n ends not_done = ends_out old new ask n ends not_done
asked_out old new (cached ask) n ends not_done = cached_out old new ask n ends not_done
asked_out old new (plan ask) n ends not_done = showing_out old new ask plan_shown n ends not_done
asked_out old new (code ask) n ends not_done = showing_out old new ask code_shown n ends not_done
asked_out old new (sample k) n ends not_done = sample_out old.out new.out old.err new.err k n ends.1 not_done
asked_out old new (build ask) n ends not_done = build_out old new ask n ends not_done
asked_out old new (exec ask) n ends not_done = exec_out old new ask n ends not_done

pub asked_no_usage : (old new : Outside) (request : Request) (n : ℕ) → EndsAsked old new request n → n ≡ 2 → ⊥
asked_no_usage old new (run ask) n ends two = ends_no_usage old new ask n ends two
asked_no_usage old new (cached ask) n ends two = cached_no_usage old new ask n ends two
asked_no_usage old new (plan ask) n ends two = showing_no_usage old new ask plan_shown n ends two
asked_no_usage old new (code ask) n ends two = showing_no_usage old new ask code_shown n ends two
asked_no_usage old new (sample k) n ends two = sample_no_usage old.out new.out old.err new.err k n ends.1 two
asked_no_usage old new (build ask) n ends two = build_no_usage old new ask n ends two
asked_no_usage old new (exec ask) n ends two = exec_no_usage old new ask n ends two

-- where memory ran out before the words were read, that is how any command ends
memory_failed : Memory ≡ Failed → ⊥
memory_failed e = let never : ⊥ = cc e in never

memory_absent : Memory ≡ Absent → ⊥
memory_absent e = let never : ⊥ = cc e in never

pub asked_memory : (old new : Outside) (request : Request) → EndsSaying old new (error_line [] Memory) →
    EndsAsked old new request 8
asked_memory old new (run ask) saying =
    inr (inr (record {
      error = Memory;
      status_is = refl;
      cause = tt;
      leaves = ap (λ s. s.files) saying.store_stays;
      said = saying.said;
      out_stays = saying.out_stays;
    }))
asked_memory old new (plan ask) saying =
    inr (inr (record {
      error = Memory;
      status_is = refl;
      cause = tt;
      files_stay = ap (λ s. s.files) saying.store_stays;
      said = saying.said;
      out_stays = saying.out_stays;
    }))
asked_memory old new (code ask) saying =
    inr (inr (record {
      error = Memory;
      status_is = refl;
      cause = tt;
      files_stay = ap (λ s. s.files) saying.store_stays;
      said = saying.said;
      out_stays = saying.out_stays;
    }))
asked_memory old new (sample k) saying = (
  saying.store_stays,
  inr (inr (record {
    error = Memory;
    status_is = refl;
    cause = inl refl;
    no_fault = (λ e. memory_failed e, λ e. memory_absent e);
    said = saying.said;
    out_stays = saying.out_stays;
  })),
)
asked_memory old new (cached ask) saying = cached_memory old new ask saying
asked_memory old new (build ask) saying = build_memory old new ask saying
asked_memory old new (exec ask) saying = exec_memory old new ask saying
