-- How `build` and `exec` end.
use Rattle.std.proofs.Common.{◌≡◌, ℕ, [], inl, inr, refl, ◌∙◌, ap, subst, arith}
use Rattle.std.specs.Prelude.{◌⊎◌}
use Rattle.wg_outside.specs.Counts.{Rose}
use Rattle.command_words.specs.Command.{BuildFiles, ObjectFiles}
use Rattle.wg_top.specs.declared.RunError.{RunError}
use Rattle.wg_top.specs.declared.RunError.TheVariants.{Failed, Absent, Source, Launch, Range, Parted, Turns, Memory}
use Rattle.wg_top.specs.declared.RunError.TheVariants.{NotObject}
use Rattle.wg_top.specs.Causes.{Standing}
use Rattle.wg_top.specs.Lines.{error_line, built_line, done_line, status_of}
use Rattle.wg_top.specs.Objects.{BuildCause}
use Rattle.wg_top.specs.CompiledObjects.{ExecCause, ExecLeaves, BuildLeaves}
use Rattle.wg_top.specs.Outside.{Outside, EndsSaying}
use Rattle.wg_top.specs.Ends.{EndsBuilding, EndsExec, SaysLine, KeepsOut}

-- a refusal is no success, and no fault of the words
pub above : (e : RunError) (n : ℕ) → n ≡ status_of e → (n ≡ 0 → ⊥) × (n ≡ 2 → ⊥)
above Failed n is = (λ h. omega arith, λ h. omega arith)
above Absent n is = (λ h. omega arith, λ h. omega arith)
above (Source condition place) n is = (λ h. omega arith, λ h. omega arith)
above (Launch first) n is = (λ h. omega arith, λ h. omega arith)
above (Range number several group item place) n is = (λ h. omega arith, λ h. omega arith)
above (Parted number several group item place) n is = (λ h. omega arith, λ h. omega arith)
above (Turns number several) n is = (λ h. omega arith, λ h. omega arith)
above Memory n is = (λ h. omega arith, λ h. omega arith)
above NotObject n is = (λ h. omega arith, λ h. omega arith)

-- what a status says
pub one_is : (e : RunError) (n : ℕ) → n ≡ status_of e → n ≡ 1 → e ≡ Failed
one_is Failed n is one = refl
one_is Absent n is one = absurd (omega arith)
one_is (Source condition place) n is one = absurd (omega arith)
one_is (Launch first) n is one = absurd (omega arith)
one_is (Range number several group item place) n is one = absurd (omega arith)
one_is (Parted number several group item place) n is one = absurd (omega arith)
one_is (Turns number several) n is one = absurd (omega arith)
one_is Memory n is one = absurd (omega arith)
one_is NotObject n is one = absurd (omega arith)

pub nine_is : (e : RunError) (n : ℕ) → n ≡ status_of e → n ≡ 9 → e ≡ Absent
nine_is Failed n is nine = absurd (omega arith)
nine_is Absent n is nine = refl
nine_is (Source condition place) n is nine = absurd (omega arith)
nine_is (Launch first) n is nine = absurd (omega arith)
nine_is (Range number several group item place) n is nine = absurd (omega arith)
nine_is (Parted number several group item place) n is nine = absurd (omega arith)
nine_is (Turns number several) n is nine = absurd (omega arith)
nine_is Memory n is nine = absurd (omega arith)
nine_is NotObject n is nine = absurd (omega arith)

pub not_one : (e : RunError) (n : ℕ) → n ≡ status_of e → (n ≡ 1 → ⊥) → e ≡ Failed → ⊥
not_one e n is other same = other (is ∙ ap status_of same)

-- ---- build

build_rose : (old new : Standing) (ask : BuildFiles) (e : RunError) → BuildCause old new ask e → e ≡ Failed →
    Rose old.faults new.faults
build_rose old new ask e cause is = subst (λ (x : RunError). BuildCause old new ask x) is cause

build_missed : (old new : Standing) (ask : BuildFiles) (e : RunError) → BuildCause old new ask e → e ≡ Absent →
    Rose old.misses new.misses
build_missed old new ask e cause is =
    let both = subst (λ (x : RunError). BuildCause old new ask x) is cause in both.0

build_stays : (old new : Standing) (ask : BuildFiles) (e : RunError) → BuildLeaves old new ask e →
    (e ≡ Failed → ⊥) → new.files ≡ old.files
build_stays old new ask Failed leaves other = absurd (other refl)
build_stays old new ask Absent leaves other = leaves
build_stays old new ask (Source condition place) leaves other = leaves
build_stays old new ask (Launch first) leaves other = leaves
build_stays old new ask (Range number several group item place) leaves other = leaves
build_stays old new ask (Parted number several group item place) leaves other = leaves
build_stays old new ask (Turns number several) leaves other = leaves
build_stays old new ask Memory leaves other = leaves
build_stays old new ask NotObject leaves other = leaves

pub build_failed : (old new : Outside) (ask : BuildFiles) (n : ℕ) → EndsBuilding old new ask n → n ≡ 1 →
    Rose old.store.faults new.store.faults ⊎ Rose old.out.faults new.out.faults
build_failed old new ask n ends one = elim ends [
  | inl done ↦ absurd (omega (arith, done.status_is))
  | inr more ↦ elim more [
    | inl unsaid ↦ inr unsaid.failed
    | inr refused ↦ inl (build_rose old.store new.store ask refused.error refused.cause
        (one_is refused.error n refused.status_is one))
  ]
]

pub build_absent : (old new : Outside) (ask : BuildFiles) (n : ℕ) → EndsBuilding old new ask n → n ≡ 9 →
    Rose old.store.misses new.store.misses
build_absent old new ask n ends nine = elim ends [
  | inl done ↦ absurd (omega (arith, done.status_is))
  | inr more ↦ elim more [
    | inl unsaid ↦ absurd (omega (arith, unsaid.status_is))
    | inr refused ↦ build_missed old.store new.store ask refused.error refused.cause
        (nine_is refused.error n refused.status_is nine)
  ]
]

pub build_no_save : (old new : Outside) (ask : BuildFiles) (n : ℕ) → EndsBuilding old new ask n → (n ≡ 0 → ⊥) →
    (n ≡ 1 → ⊥) → new.store.files ≡ old.store.files
build_no_save old new ask n ends not_done not_failed = elim ends [
  | inl done ↦ absurd (not_done done.status_is)
  | inr more ↦ elim more [
    | inl unsaid ↦ absurd (not_failed unsaid.status_is)
    | inr refused ↦ build_stays old.store new.store ask refused.error refused.leaves
        (not_one refused.error n refused.status_is not_failed)
  ]
]

pub build_quiet : (old new : Outside) (ask : BuildFiles) (n : ℕ) → EndsBuilding old new ask n → n ≡ 0 →
    new.err ≡ old.err
build_quiet old new ask n ends zero = elim ends [
  | inl done ↦ done.err_stays
  | inr more ↦ elim more [
    | inl unsaid ↦ absurd (omega (arith, unsaid.status_is))
    | inr refused ↦ absurd ((above refused.error n refused.status_is).0 zero)
  ]
]

pub build_line : (old new : Outside) (ask : BuildFiles) (n : ℕ) → EndsBuilding old new ask n → (n ≡ 0 → ⊥) →
    SaysLine old.err new.err
build_line old new ask n ends not_done = elim ends [
  | inl done ↦ absurd (not_done done.status_is)
  | inr more ↦ elim more [
    | inl unsaid ↦ (error_line ask.source Failed, unsaid.said)
    | inr refused ↦ (error_line ask.source refused.error, refused.said)
  ]
]

pub build_out : (old new : Outside) (ask : BuildFiles) (n : ℕ) → EndsBuilding old new ask n → (n ≡ 0 → ⊥) →
    KeepsOut old.out new.out
build_out old new ask n ends not_done = elim ends [
  | inl done ↦ absurd (not_done done.status_is)
  | inr more ↦ elim more [
    | inl unsaid ↦ inr (built_line, unsaid.part, unsaid.failed)
    | inr refused ↦ inl refused.out_stays
  ]
]

pub build_no_usage : (old new : Outside) (ask : BuildFiles) (n : ℕ) → EndsBuilding old new ask n → n ≡ 2 → ⊥
build_no_usage old new ask n ends two = elim ends [
  | inl done ↦ omega (arith, done.status_is)
  | inr more ↦ elim more [
    | inl unsaid ↦ omega (arith, unsaid.status_is)
    | inr refused ↦ (above refused.error n refused.status_is).1 two
  ]
]

-- ---- exec

exec_rose : (old new : Standing) (ask : ObjectFiles) (e : RunError) → ExecCause old new ask e → e ≡ Failed →
    Rose old.faults new.faults
exec_rose old new ask e cause is = subst (λ (x : RunError). ExecCause old new ask x) is cause

exec_missed : (old new : Standing) (ask : ObjectFiles) (e : RunError) → ExecCause old new ask e → e ≡ Absent →
    Rose old.misses new.misses
exec_missed old new ask e cause is =
    let both = subst (λ (x : RunError). ExecCause old new ask x) is cause in both.0

exec_stays : (old new : Standing) (ask : ObjectFiles) (e : RunError) → ExecLeaves old new ask e →
    (e ≡ Failed → ⊥) → new.files ≡ old.files
exec_stays old new ask Failed leaves other = absurd (other refl)
exec_stays old new ask Absent leaves other = leaves
exec_stays old new ask (Source condition place) leaves other = leaves
exec_stays old new ask (Launch first) leaves other = leaves
exec_stays old new ask (Range number several group item place) leaves other = leaves
exec_stays old new ask (Parted number several group item place) leaves other = leaves
exec_stays old new ask (Turns number several) leaves other = leaves
exec_stays old new ask Memory leaves other = leaves
exec_stays old new ask NotObject leaves other = leaves

pub exec_failed : (old new : Outside) (ask : ObjectFiles) (n : ℕ) → EndsExec old new ask n → n ≡ 1 →
    Rose old.store.faults new.store.faults ⊎ Rose old.out.faults new.out.faults
exec_failed old new ask n ends one = elim ends [
  | inl done ↦ absurd (omega (arith, done.status_is))
  | inr more ↦ elim more [
    | inl unsaid ↦ inr unsaid.failed
    | inr refused ↦ inl (exec_rose old.store new.store ask refused.error refused.cause
        (one_is refused.error n refused.status_is one))
  ]
]

pub exec_absent : (old new : Outside) (ask : ObjectFiles) (n : ℕ) → EndsExec old new ask n → n ≡ 9 →
    Rose old.store.misses new.store.misses
exec_absent old new ask n ends nine = elim ends [
  | inl done ↦ absurd (omega (arith, done.status_is))
  | inr more ↦ elim more [
    | inl unsaid ↦ absurd (omega (arith, unsaid.status_is))
    | inr refused ↦ exec_missed old.store new.store ask refused.error refused.cause
        (nine_is refused.error n refused.status_is nine)
  ]
]

pub exec_no_save : (old new : Outside) (ask : ObjectFiles) (n : ℕ) → EndsExec old new ask n → (n ≡ 0 → ⊥) →
    (n ≡ 1 → ⊥) → new.store.files ≡ old.store.files
exec_no_save old new ask n ends not_done not_failed = elim ends [
  | inl done ↦ absurd (not_done done.status_is)
  | inr more ↦ elim more [
    | inl unsaid ↦ absurd (not_failed unsaid.status_is)
    | inr refused ↦ exec_stays old.store new.store ask refused.error refused.leaves
        (not_one refused.error n refused.status_is not_failed)
  ]
]

pub exec_quiet : (old new : Outside) (ask : ObjectFiles) (n : ℕ) → EndsExec old new ask n → n ≡ 0 →
    new.err ≡ old.err
exec_quiet old new ask n ends zero = elim ends [
  | inl done ↦ done.err_stays
  | inr more ↦ elim more [
    | inl unsaid ↦ absurd (omega (arith, unsaid.status_is))
    | inr refused ↦ absurd ((above refused.error n refused.status_is).0 zero)
  ]
]

pub exec_line : (old new : Outside) (ask : ObjectFiles) (n : ℕ) → EndsExec old new ask n → (n ≡ 0 → ⊥) →
    SaysLine old.err new.err
exec_line old new ask n ends not_done = elim ends [
  | inl done ↦ absurd (not_done done.status_is)
  | inr more ↦ elim more [
    | inl unsaid ↦ (error_line ask.object Failed, unsaid.said)
    | inr refused ↦ (error_line ask.object refused.error, refused.said)
  ]
]

pub exec_out : (old new : Outside) (ask : ObjectFiles) (n : ℕ) → EndsExec old new ask n → (n ≡ 0 → ⊥) →
    KeepsOut old.out new.out
exec_out old new ask n ends not_done = elim ends [
  | inl done ↦ absurd (not_done done.status_is)
  | inr more ↦ elim more [
    | inl unsaid ↦ inr (done_line unsaid.summary.groups unsaid.summary.items, unsaid.part, unsaid.failed)
    | inr refused ↦ inl refused.out_stays
  ]
]

pub exec_no_usage : (old new : Outside) (ask : ObjectFiles) (n : ℕ) → EndsExec old new ask n → n ≡ 2 → ⊥
exec_no_usage old new ask n ends two = elim ends [
  | inl done ↦ omega (arith, done.status_is)
  | inr more ↦ elim more [
    | inl unsaid ↦ omega (arith, unsaid.status_is)
    | inr refused ↦ (above refused.error n refused.status_is).1 two
  ]
]

-- ---- memory ran out before the words were read

memory_failed : Memory ≡ Failed → ⊥
memory_failed e = let never : ⊥ = cc e in never

pub build_memory : (old new : Outside) (ask : BuildFiles) → EndsSaying old new (error_line [] Memory) →
    EndsBuilding old new ask 8
build_memory old new ask saying =
    inr (inr (record {
      error = Memory;
      status_is = refl;
      cause = tt;
      leaves = ap (λ s. s.files) saying.store_stays;
      said = saying.said;
      out_stays = saying.out_stays;
    }))

pub exec_memory : (old new : Outside) (ask : ObjectFiles) → EndsSaying old new (error_line [] Memory) →
    EndsExec old new ask 8
exec_memory old new ask saying =
    inr (inr (record {
      error = Memory;
      status_is = refl;
      cause = tt;
      leaves = ap (λ s. s.files) saying.store_stays;
      said = saying.said;
      out_stays = saying.out_stays;
    }))
