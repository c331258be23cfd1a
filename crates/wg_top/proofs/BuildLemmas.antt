-- What must come of `build`, want of memory aside.
use Rattle.std.proofs.Common.{◌≡◌, ℕ, List, take, Option, Some, None, inl, inr, refl, sym, ◌∙◌, subst}
use Rattle.std.specs.Prelude.{◌⊎◌, is_some, true}
use Rattle.wg_num.specs.declared.types.Place.{Place}
use Rattle.wg_outside.specs.Counts.{Rose}
use Rattle.wg_outside.specs.Files.{FileMap}
use Rattle.cl_front.specs.declared.condition.Condition.{Condition}
use Rattle.cl_front.specs.Typed.{HasTypedUnit}
use Rattle.cl_front.proofs.CompileLemmas.{refused_or_compiled}
use Rattle.cl_meaning.specs.Typed.{Unit'}
use Rattle.command_words.specs.Command.{BuildFiles}
use Rattle.launch_file.specs.Texts.{Text}
use Rattle.launch_file.specs.Refusals.{Reads}
use Rattle.launch_file.specs.declared.refusal.Refusal.{Refusal}
use Rattle.launch_file.proofs.Unique.{one_text, read_or_refused}
use Rattle.wg_top.specs.declared.RunError.{RunError}
use Rattle.wg_top.specs.declared.RunError.TheVariants.{Failed, Absent, Source, Launch, Memory}
use Rattle.wg_top.specs.Causes.{Standing}
use Rattle.wg_top.specs.Lines.{status_of}
use Rattle.wg_top.specs.Objects.{first_kernel, IsFirstFault, BuildRead, BuildRefused, BuildUnread, BuildFinds}
use Rattle.wg_top.specs.Objects.{BuildCause, BuildAccepted, LacksBuild}
use Rattle.wg_top.specs.CompiledObjects.{IsMadeText, IsBuilt}
use Rattle.wg_top.specs.Outside.{Outside}
use Rattle.wg_top.specs.Ends.{EndsBuilding}
use Rattle.wg_top.proofs.CompleteLemmas.{start_is, not_lacked}
use Rattle.wg_top.proofs.ExactLemmas.{lacks_loaded, same_start}

-- two readings of one launch file
two_texts : (bytes others : List ℕ) (lanes : Option ℕ) (a b : Text) → bytes ≡ others → Reads bytes lanes None a →
    Reads others lanes None b → a ≡ b
two_texts bytes others lanes a b same x y =
    one_text bytes lanes None a b x (subst (λ (bs : List ℕ). Reads bs lanes None b) (sym same) y)

-- a kernel at fault has no typed unit
fault_differs : (source other : List ℕ) (text : Text) (kernel : List ℕ) (condition : Condition) (place : Place)
    (u : Unit') → source ≡ other → first_kernel text.list ≡ Some kernel →
    IsFirstFault source text condition place → HasTypedUnit other text.defines kernel u → ⊥
fault_differs source other text kernel condition place u same first x compiled =
    let one : x.kernel ≡ kernel = (let e : Some x.kernel ≡ Some kernel = sym x.first ∙ first in cc) in
    refused_or_compiled source text.defines x.kernel condition place u x.fault
    (subst (λ (k : List ℕ). HasTypedUnit source text.defines k u) (sym one)
    (subst (λ (b : List ℕ). HasTypedUnit b text.defines kernel u) (sym same) compiled))

-- ---- of what is there and accepted

module _ (files : Option FileMap) (ask : BuildFiles) (text : Text) (u : Unit') (all : BuildAccepted files ask text u)
  where
    not_absent : LacksBuild files ask → ⊥
    not_absent (inl first) = not_lacked files ask.source all.source_bytes all.source_told first
    not_absent (inr second) = not_lacked files ask.launch all.launch_bytes all.launch_told second.2

    not_unread : (first : Refusal) → BuildUnread files ask first → ⊥
    not_unread first x =
        let bytes : take 1048577 all.launch_bytes ≡ x.launch_bytes =
        sym (start_is files ask.launch 1048577 x.launch_bytes all.launch_bytes all.launch_told x.launch_loaded) in
        read_or_refused x.launch_bytes ask.lanes None text first
        (subst (λ (b : List ℕ). Reads b ask.lanes None text) bytes all.reads) x.refused

    not_refused : (condition : Condition) (place : Place) → BuildRefused files ask condition place → ⊥
    not_refused condition place x =
        let launch : x.read.launch_bytes ≡ take 1048577 all.launch_bytes =
        start_is files ask.launch 1048577 x.read.launch_bytes all.launch_bytes all.launch_told x.read.launch_loaded in
        let same : x.text ≡ text =
        two_texts x.read.launch_bytes (take 1048577 all.launch_bytes) ask.lanes x.text text launch x.read.reads
        all.reads in
        let source : x.source ≡ take 262145 all.source_bytes =
        start_is files ask.source 262145 x.source all.source_bytes all.source_told x.read.source_loaded in
        fault_differs x.source (take 262145 all.source_bytes) text all.kernel condition place u source all.first
        (subst (λ (t : Text). IsFirstFault x.source t condition place) same x.fault) all.compiled

    pub is_memory : (old new : Standing) (e : RunError) (n : ℕ) → old.files ≡ files → (Rose old.faults new.faults → ⊥) →
        n ≡ status_of e → BuildCause old new ask e → n ≡ 8
    is_memory old new Failed n same quiet is cause = absurd (quiet cause)
    is_memory old new Absent n same quiet is cause =
        absurd (not_absent (subst (λ (f : Option FileMap). LacksBuild f ask) same cause.1))
    is_memory old new (Source condition place) n same quiet is cause =
        absurd (not_refused condition place (subst (λ (f : Option FileMap). BuildRefused f ask condition place) same
        cause.refused))
    is_memory old new (Launch first) n same quiet is cause =
        absurd (not_unread first (subst (λ (f : Option FileMap). BuildUnread f ask first) same cause))
    is_memory old new Memory n same quiet is cause = is
    is_memory old new _ n same quiet is cause = absurd cause

pub build_complete : (old new : Outside) (ask : BuildFiles) (text : Text) (u : Unit') (n : ℕ) →
    EndsBuilding old new ask n → BuildAccepted old.store.files ask text u →
    (Rose old.store.faults new.store.faults → ⊥) → (Rose old.out.faults new.out.faults → ⊥) → (n ≡ 0) ⊎ (n ≡ 8)
build_complete old new ask text u n ends all quiet out_quiet = elim ends [
  | inl done ↦ inl done.status_is
  | inr more ↦ elim more [
    | inl unsaid ↦ absurd (out_quiet unsaid.failed)
    | inr refused ↦ inr (is_memory old.store.files ask text u all old.store new.store refused.error n refl quiet
        refused.status_is refused.cause)
  ]
]

-- ---- of files that are told

-- what was read twice is the same
module _ (fs : FileMap) (ask : BuildFiles) where
  read_twice : (source other : List ℕ) (a b : Text) → BuildRead (Some fs) ask source a →
      BuildRead (Some fs) ask other b → (source ≡ other) × (a ≡ b)
  read_twice source other a b x y = (
    same_start fs ask.source 262145 source other x.source_loaded y.source_loaded,
    two_texts x.launch_bytes y.launch_bytes ask.lanes a b
        (same_start fs ask.launch 1048577 x.launch_bytes y.launch_bytes x.launch_loaded y.launch_loaded) x.reads
        y.reads,
  )

  lacks_read : (source : List ℕ) (text : Text) → LacksBuild (Some fs) ask → BuildRead (Some fs) ask source text → ⊥
  lacks_read source text (inl first) read = lacks_loaded fs ask.source 262145 source first read.source_loaded
  lacks_read source text (inr second) read =
      lacks_loaded fs ask.launch 1048577 read.launch_bytes second.2 read.launch_loaded

  lacks_unread : (first : Refusal) → LacksBuild (Some fs) ask → BuildUnread (Some fs) ask first → ⊥
  lacks_unread first (inl absent) x = lacks_loaded fs ask.source 262145 x.source absent x.source_loaded
  lacks_unread first (inr second) x =
      lacks_loaded fs ask.launch 1048577 x.launch_bytes second.2 x.launch_loaded

  unread_read : (first : Refusal) (source : List ℕ) (text : Text) → BuildUnread (Some fs) ask first →
      BuildRead (Some fs) ask source text → ⊥
  unread_read first source text x read =
      let same : read.launch_bytes ≡ x.launch_bytes =
      same_start fs ask.launch 1048577 read.launch_bytes x.launch_bytes read.launch_loaded x.launch_loaded in
      read_or_refused x.launch_bytes ask.lanes None text first
      (subst (λ (b : List ℕ). Reads b ask.lanes None text) same read.reads) x.refused

  refused_made : (condition : Condition) (place : Place) (bytes : List ℕ) → BuildRefused (Some fs) ask condition place →
      IsMadeText (Some fs) ask bytes → ⊥
  refused_made condition place bytes x made =
      let same = read_twice x.source made.source x.text made.text x.read made.read in
      fault_differs x.source made.source made.text made.is.kernel condition place made.is.is.compiles.typed same.0
      made.is.first (subst (λ (t : Text). IsFirstFault x.source t condition place) same.1 x.fault)
      made.is.is.compiles.compiled

  finds_made : (e : RunError) (bytes : List ℕ) → BuildFinds (Some fs) ask e → IsMadeText (Some fs) ask bytes → ⊥
  finds_made Absent bytes finds made = lacks_read made.source made.text finds made.read
  finds_made (Source condition place) bytes finds made = refused_made condition place bytes finds made
  finds_made (Launch first) bytes finds made = unread_read first made.source made.text finds made.read
  finds_made _ bytes finds made = finds

  agree : (e d : RunError) → BuildFinds (Some fs) ask e → BuildFinds (Some fs) ask d → status_of e ≡ status_of d
  agree Absent Absent a b = refl
  agree Absent (Source condition place) a b = absurd (lacks_read b.source b.text a b.read)
  agree Absent (Launch first) a b = absurd (lacks_unread first a b)
  agree Absent _ a b = absurd b
  agree (Source condition place) Absent a b = absurd (lacks_read a.source a.text b a.read)
  agree (Source condition place) (Source other at) a b = refl
  agree (Source condition place) (Launch first) a b = absurd (unread_read first a.source a.text b a.read)
  agree (Source condition place) _ a b = absurd b
  agree (Launch first) Absent a b = absurd (lacks_unread first b a)
  agree (Launch first) (Source condition place) a b = absurd (unread_read first b.source b.text a b.read)
  agree (Launch first) (Launch second) a b = refl
  agree (Launch first) _ a b = absurd b
  agree _ d a b = absurd a

  told : (old new : Standing) (e d : RunError) (n : ℕ) → old.files ≡ Some fs → (Rose old.faults new.faults → ⊥) →
      n ≡ status_of d → BuildCause old new ask d → BuildFinds (Some fs) ask e → (n ≡ status_of e) ⊎ (n ≡ 8)
  told old new e Failed n same quiet is cause finds = absurd (quiet cause)
  told old new e Absent n same quiet is cause finds =
      inl (is ∙ agree Absent e (subst (λ (f : Option FileMap). LacksBuild f ask) same cause.1) finds)
  told old new e (Source condition place) n same quiet is cause finds =
      inl (is ∙ agree (Source condition place) e (subst (λ (f : Option FileMap). BuildRefused f ask condition place)
      same cause.refused) finds)
  told old new e (Launch first) n same quiet is cause finds =
      inl (is ∙ agree (Launch first) e (subst (λ (f : Option FileMap). BuildUnread f ask first) same cause) finds)
  told old new e Memory n same quiet is cause finds = inr is
  told old new e _ n same quiet is cause finds = absurd cause

  not_built : (old new : Option FileMap) (e : RunError) → old ≡ Some fs → IsBuilt old new ask →
      BuildFinds (Some fs) ask e → ⊥
  not_built old new e same built finds =
      finds_made e built.bytes finds (subst (λ (f : Option FileMap). IsMadeText f ask built.bytes) same built.made)

  pub ends_told : (old new : Outside) (e : RunError) (n : ℕ) → old.store.files ≡ Some fs → EndsBuilding old new ask n →
      BuildFinds (Some fs) ask e → (Rose old.store.faults new.store.faults → ⊥) → (n ≡ status_of e) ⊎ (n ≡ 8)
  ends_told old new e n same ends finds quiet = elim ends [
    | inl done ↦ absurd (not_built old.store.files new.store.files e same done.built finds)
    | inr more ↦ elim more [
      | inl unsaid ↦ absurd (not_built old.store.files new.store.files e same unsaid.built finds)
      | inr refused ↦ told old.store new.store e refused.error n same quiet refused.status_is refused.cause finds
    ]
  ]

pub build_exact : (old new : Outside) (files : Option FileMap) (ask : BuildFiles) (e : RunError) (n : ℕ) →
    old.store.files ≡ files → is_some files ≡ true → EndsBuilding old new ask n → BuildFinds files ask e →
    (Rose old.store.faults new.store.faults → ⊥) → (n ≡ status_of e) ⊎ (n ≡ 8)
build_exact old new None ask e n same told ends finds quiet = absurd (let never : ⊥ = cc in never)
build_exact old new (Some fs) ask e n same told ends finds quiet = ends_told fs ask old new e n same ends finds quiet
