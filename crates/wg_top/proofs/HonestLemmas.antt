-- A run with the cache over honest files is one of its source.
use Rattle.std.proofs.Common.{◌≡◌, ◌≤◌, ◌++◌, ℕ, List, [], ◌∷◌, length, Option, Some, None, inl, inr}
use Rattle.std.proofs.Common.{sym, ◌∙◌, ap, subst, arith}
use Rattle.std.specs.Prelude.{◌⊎◌, is_some, true, IfSome}
use Rattle.std.proofs.lemmas.List.Elements.{Contains-append_cases}
use Rattle.wg_num.specs.declared.types.Place.{Place}
use Rattle.wg_num.specs.declared.types.Width.{Width}
use Rattle.wg_num.specs.Operators.{lanes_of}
use Rattle.wg_outside.specs.Files.{FileMap, told_file}
use Rattle.cl_prep.specs.declared.prep.Define.{Define}
use Rattle.cl_meaning.specs.Typed.{Unit'}
use Rattle.cl_front.specs.declared.condition.Condition.{Condition}
use Rattle.cl_front.specs.Front.{HasUnit}
use Rattle.cl_front.specs.Typed.{HasTypedUnit, HasNoTypedUnit}
use Rattle.command_words.specs.Command.{Files}
use Rattle.launch_file.specs.Binding.{saves_of}
use Rattle.launch_file.specs.Texts.{Text, Part}
use Rattle.wg_cache.specs.Keys.{key_bytes, key_name}
use Rattle.wg_cache.specs.Entries.{IsEntryOf}
use Rattle.wg_cache.specs.Laws.{AreDefines}
use Rattle.wg_cache.proofs.Apart.{one_key, one_entry, names_begin, word_long}
use Rattle.wg_object.specs.Plain.{PlainObject}
use Rattle.wg_object.specs.Text.{object_text}
use Rattle.wg_object.specs.Valid.{IsEight}
use Rattle.wg_top.specs.declared.RunError.{RunError}
use Rattle.wg_top.specs.declared.RunError.TheVariants.{Failed, Absent, Source, Launch, Range, Parted, Turns, Memory}
use Rattle.wg_top.specs.declared.RunError.TheVariants.{NotObject}
use Rattle.wg_top.specs.declared.Summary.{Summary}
use Rattle.wg_top.specs.Units.{HaveTypedUnits, IsFirstRefused, bind_refusal}
use Rattle.wg_top.specs.Causes.{Standing, RunRead, IsSourceFault, SourceReported}
use Rattle.wg_top.specs.Programs.{Runs, runs_refusal}
use Rattle.wg_top.specs.CompiledObjects.{CompilesTo}
use Rattle.wg_top.specs.Cached.{Honest, IsFound, IsFresh, RunsKernel, RunKernels, IsKept, kernel_key, CachedTaken}
use Rattle.wg_top.specs.Cached.{CachedDone, CachedFault, CachedCause, CachedLeaves, kept_names}
use Rattle.wg_top.specs.Honest.{HonestDone, HonestCause, HonestLeaves}
use Rattle.wg_top.proofs.ExecOfSourceLemmas.{one_run}
use Rattle.wg_top.proofs.OutcomeLemmas.{IsRunFor, AreRunsFor, same_refusal}
use Rattle.wg_top.proofs.ProgramLemmas.{refused_behind}
use Rattle.wg_top.proofs.ProgramsLemmas.{back_for, ran_for}
use Rattle.wg_top.proofs.CachedLemmas.{among_or_not, among_names, names_among, not_there}

-- ---- the unit of a kernel that is run

-- an entry that was found is of an object that the source is compiled to
entry_honest : (files : Option FileMap) (source : List ℕ) (text : Text) (kernel : List ℕ) (o : PlainObject)
    (width : Width) → text.lanes ≡ lanes_of width → is_some files ≡ true → Honest files → AreDefines text.defines →
    IsFound files source text kernel o → CompilesTo source text.defines kernel text.lanes o
entry_honest None source text kernel o width are told honest fit found = absurd (let never : ⊥ = cc told in never)
entry_honest (Some fs) source text kernel o width are told honest fit found =
    let there : told_file (Some fs) (key_name (key_bytes source text.defines kernel text.lanes)) ≡
    Some (Some found.0) = ap Some found.1 in
    subst (λ (n : ℕ). CompilesTo source text.defines kernel n o) (sym are)
    (honest source text.defines kernel width found.0 o fit
    (subst (λ (n : ℕ). told_file (Some fs) (key_name (key_bytes source text.defines kernel n)) ≡
    Some (Some found.0)) are there)
    (subst (λ (n : ℕ). IsEntryOf found.0 (key_bytes source text.defines kernel n) o) are found.2))

-- the typed unit of a kernel, whose program is run
record HasUnitFor (source : List ℕ) (text : Text) (kernel : List ℕ) (r : Runs) : Type 0 where
  typed : Unit'
  compiled : HasTypedUnit source text.defines kernel typed
  runs : IsRunFor text.lanes typed r

module _ (files : Option FileMap) (source : List ℕ) (text : Text) (told : is_some files ≡ true)
    (honest : Honest files) (fit : AreDefines text.defines) (width : Width)
    (are : text.lanes ≡ lanes_of width) where
  compiles : (kernel : List ℕ) (o : PlainObject) → IsFound files source text kernel o ⊎
      IsFresh files source text kernel o → CompilesTo source text.defines kernel text.lanes o
  compiles kernel o (inl found) = entry_honest files source text kernel o width are told honest fit found
  compiles kernel o (inr fresh) = fresh.compiles

  unit_for : (kernel : List ℕ) (r : Runs) → RunsKernel files source text kernel r →
      HasUnitFor source text kernel r
  unit_for kernel r is =
      let c = compiles kernel is.object is.chosen in
      record {
        typed = c.typed;
        compiled = c.compiled;
        runs = subst (λ (x : Runs). IsRunFor text.lanes c.typed x) (sym is.runs)
            (one_run source text.defines kernel text.lanes is.object c);
      }

  -- those of all launches
  units_for : (parts : List Part) (rs : List Runs) → RunKernels files source text parts rs → (units : List Unit') ×
      HaveTypedUnits source text.defines parts units × AreRunsFor text.lanes parts units rs
  units_for [] [] chosen = ([], tt, tt)
  units_for (part ∷ parts) (r ∷ rs) chosen =
      let one = unit_for part.kernel r chosen.0 in
      let rest = units_for parts rs chosen.1 in
      (one.typed ∷ rest.0, (one.compiled, rest.1), (one.runs, rest.2))
  units_for [] (r ∷ rs) chosen = absurd chosen
  units_for (part ∷ parts) [] chosen = absurd chosen

has_unit : (source : List ℕ) (defines : List Define) (parts : List Part) (units : List Unit') → 1 ≤ length parts →
    HaveTypedUnits source defines parts units → HasUnit source defines
has_unit source defines [] units some are = absurd (omega arith)
has_unit source defines (part ∷ parts) [] some are = absurd are
has_unit source defines (part ∷ parts) (u ∷ units) some are =
    let one = are.0 in (one.unit, one.expanded, one.is_source)

-- what was taken was read as a run reads it
record IsTakenFor (files : Option FileMap) (ask : Files) (text : Text) (rs : List Runs) : Type 0 where
  units : List Unit'
  read : RunRead files ask text units
  runs : AreRunsFor text.lanes text.list units rs

taken_for : (files : Option FileMap) (ask : Files) (source : List ℕ) (text : Text) (rs : List Runs) →
    is_some files ≡ true → Honest files → CachedTaken files ask source text rs → IsTakenFor files ask text rs
taken_for files ask source text rs told honest taken =
    let x = units_for files source text told honest taken.read.numbers taken.read.width taken.read.lanes_are
    text.list rs taken.chosen in
    record {
      units = x.0;
      read = record {
        source_bytes = source;
        source_loaded = taken.read.source_loaded;
        launch_bytes = taken.read.launch_bytes;
        launch_loaded = taken.read.launch_loaded;
        reads = taken.read.reads;
        unit = has_unit source text.defines text.list x.0 taken.read.some x.1;
        compiled = x.1;
      };
      runs = x.2;
    }

-- ---- how it ends

module _ (old new : Standing) (ask : Files) (told : is_some old.files ≡ true) (honest : Honest old.files) where
  refusal_for : (text : Text) (rs : List Runs) (x : IsTakenFor old.files ask text rs) →
      runs_refusal text rs ≡ bind_refusal text x.units
  refusal_for text rs x = same_refusal text.lanes text.buffers text.list x.units rs x.runs

  -- a kernel that is not there
  pub fault_for : (condition : Condition) (place : Place) → CachedFault old.files ask condition place →
      SourceReported old.files ask condition place
  fault_for condition place x =
      let f = x.fault in
      let earlier = units_for old.files x.source x.text told honest x.read.numbers x.read.width x.read.lanes_are
      f.earlier f.kernels f.chosen in
      record {
        refused = record {
          text = x.text;
          source_bytes = x.source;
          source_loaded = x.read.source_loaded;
          launch_bytes = x.read.launch_bytes;
          launch_loaded = x.read.launch_loaded;
          reads = x.read.reads;
          fault = fault_of x.source x.text condition place f.earlier f.part f.later earlier.0 f.list_is earlier.1
              f.fault;
        };
        fit = x.read.fit;
      }
    where
      fault_of : (source : List ℕ) (text : Text) (condition : Condition) (place : Place) (earlier : List Part)
          (part : Part) (later : List Part) (units : List Unit') → text.list ≡ earlier ++ part ∷ later →
          HaveTypedUnits source text.defines earlier units →
          HasNoTypedUnit source text.defines part.kernel condition place → IsSourceFault source text condition place
      fault_of source text condition place earlier part later units is are (inl stands) = inl stands
      fault_of source text condition place earlier part later units is are (inr faulty) =
          inr (subst (λ (ps : List Part). IsFirstRefused source text.defines ps condition place) (sym is)
          (refused_behind source text.defines earlier units part later condition place are faulty))

  pub honest_cause : (e : RunError) → CachedCause old new ask e → HonestCause old new ask e
  honest_cause Failed c = inl c
  honest_cause Absent c = inl (
    c.0,
    elim (c.1) [
      | inl lacks ↦ inl lacks
      | inr x ↦
          let t = taken_for old.files ask x.source x.text x.kernels told honest x.taken in
          inr (
            x.text,
            t.units,
            record { read = t.read; accepted = sym (refusal_for x.text x.kernels t) ∙ x.accepted },
            x.lacks,
          )
    ],
  )
  honest_cause (Source condition place) c = inl (fault_for condition place c)
  honest_cause (Launch first) c = elim c [
    | inl unread ↦ inl (inl unread)
    | inr more ↦ elim more [
      | inl x ↦
          let t = taken_for old.files ask x.source x.text x.kernels told honest x.taken in
          inl (inr (record {
            text = x.text;
            units = t.units;
            read = t.read;
            refused = sym (refusal_for x.text x.kernels t) ∙ x.refused;
          }))
      | inr named ↦
          let x = named.1 in
          let t = taken_for old.files ask x.source x.text x.kernels told honest x.taken in
          inr (
            ap Launch named.0,
            record {
              text = x.text;
              units = t.units;
              bound = record { read = t.read; accepted = sym (refusal_for x.text x.kernels t) ∙ x.accepted };
              stands = x.stands;
            },
          )
    ]
  ]
  honest_cause (Range number several group item place) c =
      let t = taken_for old.files ask c.source c.text c.kernels told honest c.taken in
      inl (record {
        text = c.text;
        units = t.units;
        read = t.read;
        fit = c.taken.read.fit;
        stops = back_for old new c.text t.units c.kernels t.runs (Range number several group item place) c.stopped;
      })
  honest_cause (Parted number several group item place) c =
      let t = taken_for old.files ask c.source c.text c.kernels told honest c.taken in
      inl (record {
        text = c.text;
        units = t.units;
        read = t.read;
        fit = c.taken.read.fit;
        stops = back_for old new c.text t.units c.kernels t.runs (Parted number several group item place) c.stopped;
      })
  honest_cause (Turns number several) c =
      let t = taken_for old.files ask c.source c.text c.kernels told honest c.taken in
      inl (record {
        text = c.text;
        units = t.units;
        read = t.read;
        fit = c.taken.read.fit;
        stops = back_for old new c.text t.units c.kernels t.runs (Turns number several) c.stopped;
      })
  honest_cause Memory c = inl tt
  honest_cause NotObject c = absurd c

  pub honest_leaves : (e : RunError) → CachedLeaves old new ask e → HonestLeaves old new ask e
  honest_leaves Failed (inl same) = inl same
  honest_leaves Failed (inr x) =
      let t = taken_for old.files ask x.source x.text x.kernels told honest x.taken in
      inr (record {
        source = x.source;
        source_loaded = x.taken.read.source_loaded;
        text = x.text;
        units = t.units;
        read = t.read;
        accepted = sym (refusal_for x.text x.kernels t) ∙ x.run.accepted;
        plain = x.plain;
        after = x.after;
        run = ran_for old new x.text t.units x.kernels t.runs x.before x.after x.run;
        stops = x.stops;
      })
  honest_leaves Absent left = left
  honest_leaves (Source condition place) left = left
  honest_leaves (Launch first) left = left
  honest_leaves (Range number several group item place) left = left
  honest_leaves (Parted number several group item place) left = left
  honest_leaves (Turns number several) left = left
  honest_leaves Memory left = left
  honest_leaves NotObject left = left

  pub honest_done : (summary : Summary) → CachedDone old.files new.files ask summary →
      HonestDone old.files new.files ask summary
  honest_done summary d =
      let t = taken_for old.files ask d.source d.text d.kernels told honest d.taken in
      record {
        source = d.source;
        source_loaded = d.taken.read.source_loaded;
        text = d.text;
        units = t.units;
        read = t.read;
        run = record {
          accepted = sym (refusal_for d.text d.kernels t) ∙ d.run.accepted;
          plain = d.plain;
          after = d.after;
          run = ran_for old new d.text t.units d.kernels t.runs d.before d.after d.run;
          saved = d.saved;
          kept = d.kept;
          are_kept = d.are_kept;
          others = d.others;
          groups = d.groups;
          items = d.items;
        };
      }

-- ---- honest files stay honest

-- an entry that was kept is of an object that its key is compiled to
kept_honest : (files : Option FileMap) (source : List ℕ) (text : Text) (name kept : List ℕ)
    (other : List ℕ) (defines : List Define) (kernel : List ℕ) (lanes : ℕ) (o : PlainObject) →
    AreDefines text.defines → AreDefines defines → IsKept files source text name kept →
    IsEntryOf kept (key_bytes other defines kernel lanes) o → CompilesTo other defines kernel lanes o
kept_honest files source text name kept other defines kernel lanes o fit fits x is =
    let one = one_entry kept (kernel_key source text x.part.kernel) (key_bytes other defines kernel lanes) x.object o
    x.short x.entry is in
    let long = word_long (kernel_key source text x.part.kernel) (object_text x.object) in
    let all = ap (λ (bs : List ℕ). length bs) x.entry.is in
    let short : IsEight (length (kernel_key source text x.part.kernel)) = omega (arith, long, all, x.short) in
    let same = one_key source other text.defines defines x.part.kernel kernel text.lanes lanes fit fits short
    one.key_is in
    subst (λ (p : PlainObject). CompilesTo other defines kernel lanes p) one.object_is
    (subst (λ (n : ℕ). CompilesTo other defines kernel n x.object) same.lanes_are
    (subst (λ (k : List ℕ). CompilesTo other defines k text.lanes x.object) same.kernel_is
    (subst (λ (ds : List Define). CompilesTo other ds x.part.kernel text.lanes x.object) same.defines_are
    (subst (λ (s : List ℕ). CompilesTo s text.defines x.part.kernel text.lanes x.object) same.source_is
    x.fresh.compiles))))

-- the bytes of a file that is told
told_bytes : (found : Option (Option (List ℕ))) (kept bytes : List ℕ) → IfSome found (λ f. f ≡ Some kept) →
    found ≡ Some (Some bytes) → kept ≡ bytes
told_bytes None kept bytes holds is = absurd (let never : ⊥ = cc is in never)
told_bytes (Some f) kept bytes holds is =
    let e : Some kept ≡ Some bytes = sym holds ∙ (let inner : f ≡ Some bytes = cc is in inner) in cc e

pub stays_honest : (old new : Option FileMap) (ask : Files) (summary : Summary) → Honest old →
    CachedDone old new ask summary → Honest new
stays_honest old new ask summary honest d = λ source defines kernel width bytes o fits told is.
    let name = key_name (key_bytes source defines kernel (lanes_of width)) in
    elim (among_or_not d.kept name) [
      | inl among ↦
          let x = d.kept_there name (among_names d.kept name among) in
          let same : x.bytes ≡ bytes = told_bytes (told_file new name) x.bytes bytes x.holds told in
          kept_honest old d.source d.text name x.bytes source defines kernel (lanes_of width) o
          d.taken.read.numbers fits x.is_kept (subst (λ (bs : List ℕ). IsEntryOf bs (key_bytes source defines kernel (lanes_of width)) o) (sym same) is)
      | inr none ↦
          honest source defines kernel width bytes o fits
          (sym (d.others name (λ among. elim (Contains-append_cases (saves_of d.text.buffers) (kept_names d.kept)
          (Some name) among) [
            | inl saved ↦ d.plain name saved (names_begin (key_bytes source defines kernel (lanes_of width)))
            | inr kept ↦ not_there d.kept name none (names_among d.kept name kept)
          ])) ∙ told) is
    ]
