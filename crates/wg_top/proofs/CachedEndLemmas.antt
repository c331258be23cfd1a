-- How a run with the cache ends.
use Rattle.std.proofs.Common.{◌≡◌, ℕ, [], inl, inr, refl, ap, subst, arith}
use Rattle.std.specs.Prelude.{◌⊎◌}
use Rattle.wg_outside.specs.Counts.{Rose}
use Rattle.command_words.specs.Command.{Files}
use Rattle.wg_top.specs.declared.RunError.{RunError}
use Rattle.wg_top.specs.declared.RunError.TheVariants.{Failed, Absent, Source, Launch, Range, Parted, Turns, Memory}
use Rattle.wg_top.specs.declared.RunError.TheVariants.{NotObject}
use Rattle.wg_top.specs.Causes.{Standing}
use Rattle.wg_top.specs.Lines.{error_line, done_line}
use Rattle.wg_top.specs.Cached.{CachedCause, CachedLeaves}
use Rattle.wg_top.specs.Outside.{Outside, EndsSaying}
use Rattle.wg_top.specs.Ends.{EndsCached, SaysLine, KeepsOut}
use Rattle.wg_top.proofs.ObjectEndLemmas.{above, one_is, nine_is, not_one}

cached_rose : (old new : Standing) (ask : Files) (e : RunError) → CachedCause old new ask e → e ≡ Failed →
    Rose old.faults new.faults
cached_rose old new ask e cause is = subst (λ (x : RunError). CachedCause old new ask x) is cause

cached_missed : (old new : Standing) (ask : Files) (e : RunError) → CachedCause old new ask e → e ≡ Absent →
    Rose old.misses new.misses
cached_missed old new ask e cause is =
    let both = subst (λ (x : RunError). CachedCause old new ask x) is cause in both.0

cached_stays : (old new : Standing) (ask : Files) (e : RunError) → CachedLeaves old new ask e →
    (e ≡ Failed → ⊥) → new.files ≡ old.files
cached_stays old new ask Failed leaves other = absurd (other refl)
cached_stays old new ask Absent leaves other = leaves
cached_stays old new ask (Source condition place) leaves other = leaves
cached_stays old new ask (Launch first) leaves other = leaves
cached_stays old new ask (Range number several group item place) leaves other = leaves
cached_stays old new ask (Parted number several group item place) leaves other = leaves
cached_stays old new ask (Turns number several) leaves other = leaves
cached_stays old new ask Memory leaves other = leaves
cached_stays old new ask NotObject leaves other = leaves

pub cached_failed : (old new : Outside) (ask : Files) (n : ℕ) → EndsCached old new ask n → n ≡ 1 →
    Rose old.store.faults new.store.faults ⊎ Rose old.out.faults new.out.faults
cached_failed old new ask n ends one = elim ends [
  | inl done ↦ absurd (omega (arith, done.status_is))
  | inr more ↦ elim more [
    | inl unsaid ↦ inr unsaid.failed
    | inr refused ↦ inl (cached_rose old.store new.store ask refused.error refused.cause
        (one_is refused.error n refused.status_is one))
  ]
]

pub cached_absent : (old new : Outside) (ask : Files) (n : ℕ) → EndsCached old new ask n → n ≡ 9 →
    Rose old.store.misses new.store.misses
cached_absent old new ask n ends nine = elim ends [
  | inl done ↦ absurd (omega (arith, done.status_is))
  | inr more ↦ elim more [
    | inl unsaid ↦ absurd (omega (arith, unsaid.status_is))
    | inr refused ↦ cached_missed old.store new.store ask refused.error refused.cause
        (nine_is refused.error n refused.status_is nine)
  ]
]

pub cached_no_save : (old new : Outside) (ask : Files) (n : ℕ) → EndsCached old new ask n → (n ≡ 0 → ⊥) →
    (n ≡ 1 → ⊥) → new.store.files ≡ old.store.files
cached_no_save old new ask n ends not_done not_failed = elim ends [
  | inl done ↦ absurd (not_done done.status_is)
  | inr more ↦ elim more [
    | inl unsaid ↦ absurd (not_failed unsaid.status_is)
    | inr refused ↦ cached_stays old.store new.store ask refused.error refused.leaves
        (not_one refused.error n refused.status_is not_failed)
  ]
]

pub cached_quiet : (old new : Outside) (ask : Files) (n : ℕ) → EndsCached old new ask n → n ≡ 0 →
    new.err ≡ old.err
cached_quiet old new ask n ends zero = elim ends [
  | inl done ↦ done.err_stays
  | inr more ↦ elim more [
    | inl unsaid ↦ absurd (omega (arith, unsaid.status_is))
    | inr refused ↦ absurd ((above refused.error n refused.status_is).0 zero)
  ]
]

pub cached_line : (old new : Outside) (ask : Files) (n : ℕ) → EndsCached old new ask n → (n ≡ 0 → ⊥) →
    SaysLine old.err new.err
cached_line old new ask n ends not_done = elim ends [
  | inl done ↦ absurd (not_done done.status_is)
  | inr more ↦ elim more [
    | inl unsaid ↦ (error_line ask.source Failed, unsaid.said)
    | inr refused ↦ (error_line ask.source refused.error, refused.said)
  ]
]

pub cached_out : (old new : Outside) (ask : Files) (n : ℕ) → EndsCached old new ask n → (n ≡ 0 → ⊥) →
    KeepsOut old.out new.out
cached_out old new ask n ends not_done = elim ends [
  | inl done ↦ absurd (not_done done.status_is)
  | inr more ↦ elim more [
    | inl unsaid ↦ inr (done_line unsaid.summary.groups unsaid.summary.items, unsaid.part, unsaid.failed)
    | inr refused ↦ inl refused.out_stays
  ]
]

pub cached_no_usage : (old new : Outside) (ask : Files) (n : ℕ) → EndsCached old new ask n → n ≡ 2 → ⊥
cached_no_usage old new ask n ends two = elim ends [
  | inl done ↦ omega (arith, done.status_is)
  | inr more ↦ elim more [
    | inl unsaid ↦ omega (arith, unsaid.status_is)
    | inr refused ↦ (above refused.error n refused.status_is).1 two
  ]
]

-- memory ran out before the words were read
pub cached_memory : (old new : Outside) (ask : Files) → EndsSaying old new (error_line [] Memory) →
    EndsCached old new ask 8
cached_memory old new ask saying =
    inr (inr (record {
      error = Memory;
      status_is = refl;
      cause = tt;
      leaves = ap (λ s. s.files) saying.store_stays;
      said = saying.said;
      out_stays = saying.out_stays;
    }))
