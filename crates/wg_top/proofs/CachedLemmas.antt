-- Files that are saved one behind the other, and which entries of a run with the cache stand in them.
use Rattle.std.proofs.Common.{◌≡◌, ◌+◌, ◌++◌, ℕ, zero, suc, ◌<◌, Bool, true, false, List, [], ◌∷◌, length, map, take}
use Rattle.std.proofs.Common.{drop, get_or, Option, Some}
use Rattle.std.proofs.lemmas.List.{take_more, take-append-drop}
use Rattle.std.proofs.Common.{None, option_map, cond, append_assoc, inl, inr, refl, sym, ◌∙◌, ap, subst, arith}
use Rattle.std.specs.Prelude.{◌⊎◌, All, Contains, IfSome, bytes_eq, if◌then◌else◌, slice_index_or, is_some}
use Rattle.std.proofs.lemmas.List.Elements.{Contains-push_cases, All-push}
use Rattle.cl_prep.proofs.Tables.{same_bytes, bytes_same}
use Rattle.wg_outside.specs.Files.{FileMap, file_in, or_else_file, told_file, HasSaved, KeepsOthers}
use Rattle.wg_outside.proofs.FileLemmas.{file_in-push}
use Rattle.buffer_io.specs.Saves.{AllSavedAs, IsSavedAs, KeepsAllBut}
use Rattle.launch_file.specs.declared.text.BufferText.{BufferText}
use Rattle.launch_file.specs.declared.text.LaunchPart.{LaunchPart}
use Rattle.launch_file.specs.Binding.{saves_of}
use Rattle.launch_file.specs.Texts.{Text, Part, part_of}
use Rattle.cl_model.specs.Lists.{Each}
use Rattle.wg_cache.specs.Entries.{IsEntryOf}
use Rattle.wg_cache.specs.Keys.{IsCacheName}
use Rattle.wg_cache.proofs.Apart.{names_begin}
use Rattle.wg_cache.specs.declared.types.Entry.{Entry}
use Rattle.wg_object.specs.Plain.{PlainObject}
use Rattle.wg_object.specs.View.{object_of}
use Rattle.wg_top.specs.declared.cached.Held.{Held}
use Rattle.wg_top.specs.declared.runnable.Runnable.{Runnable}
use Rattle.wg_top.specs.Cached.{kernel_key, cache_name, IsFound, IsFresh, IsKept, AreKept, kept_names, HoldsKept}
use Rattle.wg_top.specs.Cached.{HoldsEntry}
use Rattle.wg_top.specs.Causes.{NoCacheName}
use Rattle.wg_top.specs.Holding.{HasObject, IsHeld, IsNamedIn, IsEntryFor, AreRunnables, IsHeldOnce, IsSavedSo}
use Rattle.wg_top.specs.Holding.{kept_with, kept_of, AreSaved, AreSavedUpTo}
use Rattle.wg_top.proofs.ProgramLemmas.{more_of}

-- ---- files behind others

-- what is found later counts
latest : Option (List ℕ) → Option (List ℕ) → Option (List ℕ)
latest None found = found
latest (Some bytes) found = Some bytes

latest_none : (found : Option (List ℕ)) → found ≡ latest found None
unfolding latest
latest_none None = refl
latest_none (Some bytes) = refl

looked_on : (f : List ℕ × List ℕ) (name : List ℕ) (later found : Option (List ℕ)) →
    or_else_file f name (latest later found) ≡ latest later (or_else_file f name found)
unfolding latest
looked_on f name None found = refl
looked_on f name (Some bytes) found = refl

in_both : (fs kept : FileMap) (name : List ℕ) → file_in (fs ++ kept) name ≡ latest (file_in kept name) (file_in fs name)
in_both [] kept name = latest_none (file_in kept name)
in_both (f ∷ fs) kept name =
    ap (or_else_file f name) (in_both fs kept name) ∙ looked_on f name (file_in kept name) (file_in fs name)

-- files with others behind them
abbrev pub with_files : Option FileMap → FileMap → Option FileMap
with_files files kept = option_map (λ fs. fs ++ kept) files

-- a name of none of them is as before
pub told_before : (files : Option FileMap) (kept : FileMap) (name : List ℕ) → file_in kept name ≡ None →
    told_file (with_files files kept) name ≡ told_file files name
unfolding latest
told_before None kept name none = refl
told_before (Some fs) kept name none =
    ap Some (in_both fs kept name ∙ ap (λ later. latest later (file_in fs name)) none)

-- a name of one of them has its bytes
pub told_kept : (files : Option FileMap) (kept : FileMap) (name bytes : List ℕ) → file_in kept name ≡ Some bytes →
    IfSome (told_file (with_files files kept) name) (λ found. found ≡ Some bytes)
unfolding latest
told_kept None kept name bytes is = tt
told_kept (Some fs) kept name bytes is =
    in_both fs kept name ∙ ap (λ later. latest later (file_in fs name)) is

-- what is told of a name with others behind the files
told_with : (files : Option FileMap) (kept : FileMap) (name : List ℕ) →
    told_file (with_files files kept) name ≡ option_map (latest (file_in kept name)) (told_file files name)
told_with None kept name = refl
told_with (Some fs) kept name = ap Some (in_both fs kept name)

with_twice : (files : Option FileMap) (kept more : FileMap) →
    with_files (with_files files kept) more ≡ with_files files (kept ++ more)
with_twice None kept more = refl
with_twice (Some fs) kept more = ap Some (append_assoc fs kept more)

-- a name after two steps
pub told_twice : (old mid new : Option FileMap) (kept more : FileMap) (name : List ℕ) →
    told_file mid name ≡ told_file (with_files old kept) name →
    told_file new name ≡ told_file (with_files mid more) name →
    told_file new name ≡ told_file (with_files old (kept ++ more)) name
told_twice old mid new kept more name a b =
    b ∙ (told_with mid more name ∙ (ap (option_map (latest (file_in more name))) a ∙
    (sym (told_with (with_files old kept) more name) ∙ ap (λ f. told_file f name) (with_twice old kept more))))

-- one file was saved
pushed : (files : Option FileMap) (f : List ℕ × List ℕ) (name : List ℕ) (b : Bool) → bytes_eq f.0 name ≡ b →
    told_file (with_files files (f ∷ [])) name ≡
    (if b then (if is_some files then Some (Some f.1) else None) else told_file files name)
pushed None f name true is = refl
pushed None f name false is = refl
pushed (Some fs) f name true is =
    ap Some (file_in-push fs f name ∙ ap (λ c. cond c (Some f.1) (file_in fs name)) is)
pushed (Some fs) f name false is =
    ap Some (file_in-push fs f name ∙ ap (λ c. cond c (Some f.1) (file_in fs name)) is)

one_at : (old new : Option FileMap) (name bytes other : List ℕ) (b : Bool) → bytes_eq name other ≡ b →
    HasSaved old new name bytes → KeepsOthers old new name →
    told_file new other ≡ told_file (with_files old ((name, bytes) ∷ [])) other
one_at old new name bytes other true is saved others =
    ap (told_file new) (sym (same_bytes name other is)) ∙ (saved ∙ sym (pushed old (name, bytes) other true is))
one_at old new name bytes other false is saved others =
    others other (λ same. unlike (bytes_same name other (sym same))) ∙ sym (pushed old (name, bytes) other false is)
  where
    unlike : bytes_eq name other ≡ true → ⊥
    unlike there = let e : false ≡ true = sym is ∙ there in let never : ⊥ = cc e in never

pub one_saved : (old new : Option FileMap) (name bytes : List ℕ) → HasSaved old new name bytes →
    KeepsOthers old new name → AreSaved old new ((name, bytes) ∷ [])
one_saved old new name bytes saved others other =
    one_at old new name bytes other (bytes_eq name other) refl saved others

pub one_unsaved : (old new : Option FileMap) (name bytes : List ℕ) → KeepsOthers old new name →
    AreSavedUpTo old new ((name, bytes) ∷ [])
one_unsaved old new name bytes others = record {
  earlier = [];
  failing = (name, bytes);
  later = [];
  is = refl;
  others = λ other apart. others other apart ∙ sym (told_before old [] other refl);
}

pub none_saved : (files : Option FileMap) → AreSaved files files []
none_saved files name = sym (told_before files [] name refl)

-- those behind the ones that were saved
pub saved_more : (old mid new : Option FileMap) (kept more : FileMap) → AreSaved old mid kept →
    AreSaved mid new more → AreSaved old new (kept ++ more)
saved_more old mid new kept more a b name = told_twice old mid new kept more name (a name) (b name)

pub saved_up_to : (old mid new : Option FileMap) (kept more rest : FileMap) → AreSaved old mid kept →
    AreSavedUpTo mid new more → AreSavedUpTo old new (kept ++ (more ++ rest))
saved_up_to old mid new kept more rest a x = record {
  earlier = kept ++ x.earlier;
  failing = x.failing;
  later = x.later ++ rest;
  is = ap (λ m. kept ++ (m ++ rest)) x.is ∙
      (ap (λ m. kept ++ m) (append_assoc x.earlier (x.failing ∷ x.later) rest) ∙
      sym (append_assoc kept x.earlier (x.failing ∷ (x.later ++ rest))));
  others = λ name apart. told_twice old mid new kept x.earlier name (a name) (x.others name apart);
}

-- ---- among the files that are kept

-- one of them has that name
abbrev pub IsAmong : FileMap → List ℕ → Type 0
IsAmong [] name = ⊥
IsAmong (f ∷ kept) name = (f.0 ≡ name) ⊎ IsAmong kept name

first_found : (f : List ℕ × List ℕ) (name : List ℕ) (found : Option (List ℕ)) → bytes_eq f.0 name ≡ true →
    (bytes : List ℕ) × (or_else_file f name found ≡ Some bytes)
first_found f name None is = (f.1, ap (λ b. if b then Some f.1 else None) is)
first_found f name (Some bytes) is = (bytes, refl)

pub present : (kept : FileMap) (name : List ℕ) → IsAmong kept name → (bytes : List ℕ) × (file_in kept name ≡ Some bytes)
present [] name among = absurd among
present (f ∷ kept) name (inl same) = first_found f name (file_in kept name) (bytes_same f.0 name same)
present (f ∷ kept) name (inr later) =
    let rest = present kept name later in (rest.0, ap (or_else_file f name) rest.1)

-- what a name has among them is the last file of that name
module _ (P : List ℕ → List ℕ → Type 0) where
  -- each of them meets it
  abbrev pub AllFiles : FileMap → Type 0
  AllFiles [] = Unit {0}
  AllFiles (f ∷ kept) = P f.0 f.1 × AllFiles kept

  at_first : (f : List ℕ × List ℕ) (name bytes : List ℕ) (b : Bool) → bytes_eq f.0 name ≡ b → P f.0 f.1 →
      (if b then Some f.1 else None) ≡ Some bytes → P name bytes
  at_first f name bytes true same here is =
      let it : f.1 ≡ bytes = cc is in
      subst (λ (n : List ℕ). P n bytes) (same_bytes f.0 name same) (subst (λ (bs : List ℕ). P f.0 bs) it here)
  at_first f name bytes false same here is = absurd (let never : ⊥ = cc is in never)

  at_either : (f : List ℕ × List ℕ) (name bytes : List ℕ) (found : Option (List ℕ)) →
      (found ≡ Some bytes → P name bytes) → P f.0 f.1 → or_else_file f name found ≡ Some bytes → P name bytes
  at_either f name bytes None later here is = at_first f name bytes (bytes_eq f.0 name) refl here is
  at_either f name bytes (Some other) later here is = later is

  pub file_at : (kept : FileMap) (name bytes : List ℕ) → AllFiles kept → file_in kept name ≡ Some bytes → P name bytes
  file_at [] name bytes all is = absurd (let never : ⊥ = cc is in never)
  file_at (f ∷ kept) name bytes all is =
      at_either f name bytes (file_in kept name) (λ e. file_at kept name bytes all.1 e) all.0 is

-- a name is among them or has nothing there
found_or_not : (f : List ℕ × List ℕ) (kept : FileMap) (name : List ℕ) (b : Bool) → bytes_eq f.0 name ≡ b →
    IsAmong kept name ⊎ (file_in kept name ≡ None) → IsAmong (f ∷ kept) name ⊎ (file_in (f ∷ kept) name ≡ None)
found_or_not f kept name b is (inl among) = inl (inr among)
found_or_not f kept name true is (inr none) = inl (inl (same_bytes f.0 name is))
found_or_not f kept name false is (inr none) =
    inr (ap (or_else_file f name) none ∙ ap (λ c. if c then Some f.1 else None) is)

pub among_or_not : (kept : FileMap) (name : List ℕ) → IsAmong kept name ⊎ (file_in kept name ≡ None)
among_or_not [] name = inr refl
among_or_not (f ∷ kept) name = found_or_not f kept name (bytes_eq f.0 name) refl (among_or_not kept name)

pub not_there : (kept : FileMap) (name : List ℕ) → file_in kept name ≡ None → IsAmong kept name → ⊥
not_there kept name none among =
    let here = present kept name among in
    let e : None ≡ Some here.0 = sym none ∙ here.1 in
    let never : ⊥ = cc e in never

-- an element of a longer list
pub contains_more : {X : Type 0} (y x : X) (xs : List X) → Contains xs x → Contains (y ∷ xs) x
contains_more y x xs among = (suc among.0, omega (arith, among.1), among.2)

pub contains_first : {X : Type 0} (y x : X) (xs : List X) → y ≡ x → Contains (y ∷ xs) x
contains_first y x xs same = (0, omega arith, same)

-- among the files is among their names
pub among_names : (kept : FileMap) (name : List ℕ) → IsAmong kept name → Contains (kept_names kept) (Some name)
among_names [] name among = absurd among
among_names (f ∷ kept) name (inl same) = contains_first (Some f.0) (Some name) (kept_names kept) (ap Some same)
among_names (f ∷ kept) name (inr later) =
    contains_more (Some f.0) (Some name) (kept_names kept) (among_names kept name later)

names_at : (kept : FileMap) (name : List ℕ) (k : ℕ) → k < length (kept_names kept) →
    slice_index_or (kept_names kept) k (Some name) ≡ Some name → IsAmong kept name
names_at [] name k lt is = absurd (omega arith)
names_at (f ∷ kept) name zero lt is = inl (let same : f.0 ≡ name = cc is in same)
names_at (f ∷ kept) name (suc k) lt is = inr (names_at kept name k (omega arith) is)

pub names_among : (kept : FileMap) (name : List ℕ) → Contains (kept_names kept) (Some name) → IsAmong kept name
names_among kept name among = names_at kept name among.0 among.1 among.2

-- ---- what is kept of the kernels that are held

module _ (files : Option FileMap) (source : List ℕ) (text : Text) where
  -- what is kept, as a fact of each file
  pub kept_files : (kept : FileMap) → AreKept files source text kept → AllFiles (IsKept files source text) kept
  kept_files [] are = tt
  kept_files (f ∷ kept) are = (are.0, kept_files kept are.1)

  one_kept : (part : Part) (kernel : List ℕ) (o : PlainObject) (entry : Entry) → Contains text.list part →
      kernel ≡ part.kernel → IsFresh files source text kernel o → IsEntryFor source text kernel o entry →
      IsKept files source text entry.name entry.bytes.items
  one_kept part kernel o entry among named fresh is = record {
    part = part;
    is_launch = among;
    object = o;
    fresh = subst (λ (k : List ℕ). IsFresh files source text k o) named fresh;
    name_is = is.name_is ∙ ap (cache_name source text) named;
    entry = subst (λ (k : List ℕ). IsEntryOf entry.bytes.items (kernel_key source text k) o) named is.is;
    short = is.short;
  }

  with_one : (part : Part) (kernel : List ℕ) (o : PlainObject) (entry : Option Entry) (kept : FileMap) →
      Contains text.list part → kernel ≡ part.kernel → HasObject files source text kernel o entry →
      AreKept files source text kept → AreKept files source text (kept_with entry kept)
  with_one part kernel o None kept among named has are = are
  with_one part kernel o (Some entry) kept among named has are =
      (one_kept part kernel o entry among named has.0 has.1, are)

  pub all_kept : (held : List Held) → All (IsHeld files source text) held → AreKept files source text (kept_of held)
  all_kept [] all = tt
  all_kept (h ∷ held) all =
      let one = all 0 h (omega arith) in
      with_one one.part h.kernel.now (object_of h.object) h.entry (kept_of held) one.is_launch one.named one.has
      (all_kept held (λ k d lt. all (suc k) d (omega arith)))

  -- a kernel that is held was found, or its entry is among them
  found_or_kept : (kernel : List ℕ) (o : PlainObject) (entry : Option Entry) (kept : FileMap) →
      HasObject files source text kernel o entry → ((p : PlainObject) × IsFound files source text kernel p) ⊎
      IsAmong (kept_with entry kept) (cache_name source text kernel)
  found_or_kept kernel o None kept has = inl (o, has)
  found_or_kept kernel o (Some entry) kept has = inr (inl has.1.name_is)

  among_more : (entry : Option Entry) (kept : FileMap) (name : List ℕ) → IsAmong kept name →
      IsAmong (kept_with entry kept) name
  among_more None kept name among = among
  among_more (Some entry) kept name among = inr among

  pub launch_there : (kernel : List ℕ) (held : List Held) → All (IsHeld files source text) held →
      IsNamedIn held kernel → ((p : PlainObject) × IsFound files source text kernel p) ⊎
      IsAmong (kept_of held) (cache_name source text kernel)
  launch_there kernel [] all named = absurd named
  launch_there kernel (h ∷ held) all (inl same) =
      found_or_kept kernel (object_of h.object) h.entry (kept_of held)
      (subst (λ (k : List ℕ). HasObject files source text k (object_of h.object) h.entry) same
      (all 0 h (omega arith)).has)
  launch_there kernel (h ∷ held) all (inr later) = elim (launch_there kernel held (λ k d lt. all (suc k) d (omega
      arith)) later) [
        | inl found ↦ inl found
        | inr among ↦ inr (among_more h.entry (kept_of held) (cache_name source text kernel) among)
      ]

  -- the name of a cache file is no name of a buffer
  pub no_save : (kernel : List ℕ) → NoCacheName text.buffers →
      Contains (saves_of text.buffers) (Some (cache_name source text kernel)) → ⊥
  no_save kernel plain among = plain (cache_name source text kernel) among (names_begin (kernel_key source text kernel))

  pub kept_name : (kept : FileMap) (name : List ℕ) → AreKept files source text kept → IsAmong kept name →
      IsCacheName name
  kept_name kept name are among =
      let here = present kept name among in
      let one = file_at (IsKept files source text) kept name here.0 (kept_files kept are) here.1 in
      subst IsCacheName (sym one.name_is) (names_begin (kernel_key source text one.part.kernel))

-- ---- the files of a run with the cache, when the buffers are saved

-- a name that is saved is so where it is as it was
saved_too : (old mid new : Option FileMap) (save : Option (List ℕ)) (bytes : List ℕ) →
    ((name : List ℕ) → save ≡ Some name → told_file new name ≡ told_file mid name) → IsSavedAs old mid save bytes →
    IsSavedAs old new save bytes
saved_too old mid new None bytes same saved = tt
saved_too old mid new (Some name) bytes same saved = same name refl ∙ saved

all_saved : (old mid new : Option FileMap) (saves : List (Option (List ℕ))) (buffers : List (List ℕ)) →
    ((name : List ℕ) → Contains saves (Some name) → told_file new name ≡ told_file mid name) →
    AllSavedAs old mid saves buffers → AllSavedAs old new saves buffers
all_saved old mid new [] [] same saved = tt
all_saved old mid new (save ∷ saves) (bytes ∷ buffers) same saved = (
  saved_too old mid new save bytes (λ name is. same name (contains_first save (Some name) saves is)) saved.0,
  all_saved old mid new saves buffers (λ name among. same name (contains_more save (Some name) saves among)) saved.1,
)
all_saved old mid new [] (bytes ∷ buffers) same saved = absurd saved
all_saved old mid new (save ∷ saves) [] same saved = absurd saved

-- the entry of a file that is told
entry_told : (found : Option (Option (List ℕ))) (bytes key : List ℕ) (o : PlainObject) →
    IfSome found (λ f. f ≡ Some bytes) → IsEntryOf bytes key o →
    IfSome found (λ f. (b : List ℕ) × (f ≡ Some b) × IsEntryOf b key o)
entry_told None bytes key o told is = tt
entry_told (Some f) bytes key o told is = (bytes, told, is)

module _ (old mid new : Option FileMap) (source : List ℕ) (text : Text) (kept : FileMap)
    (are : AreKept old source text kept) (plain : NoCacheName text.buffers)
    (others : KeepsAllBut old mid (saves_of text.buffers)) where
  -- a name of one of them has its bytes
  pub there : (name : List ℕ) → IsAmong kept name → told_file new name ≡ told_file (with_files mid kept) name →
      HoldsKept old new source text name
  there name among same =
      let here = present kept name among in
      record {
        bytes = here.0;
        is_kept = file_at (IsKept old source text) kept name here.0 (kept_files old source text kept are) here.1;
        holds = subst (λ (f : Option (Option (List ℕ))). IfSome f (λ found. found ≡ Some here.0)) (sym same)
            (told_kept mid kept name here.0 here.1);
      }

  -- which is an entry of this run
  pub holds_kept : (name : List ℕ) → IsAmong kept name → told_file new name ≡ told_file (with_files mid kept) name →
      HoldsEntry new source text name
  holds_kept name among same =
      let x = there name among same in
      record {
        part = x.is_kept.part;
        is_launch = x.is_kept.is_launch;
        object = x.is_kept.object;
        holds = entry_told (told_file new name) x.bytes (kernel_key source text x.is_kept.part.kernel)
            x.is_kept.object x.holds x.is_kept.entry;
      }

  -- a name of none of them is as it was before
  as_before : (name : List ℕ) → file_in kept name ≡ None →
      told_file new name ≡ told_file (with_files mid kept) name → told_file new name ≡ told_file mid name
  as_before name none same = same ∙ told_before mid kept name none

  -- the buffers are still saved
  pub buffers_saved : (after : List (List ℕ)) → AllSavedAs old mid (saves_of text.buffers) after →
      ((name : List ℕ) → (IsCacheName name → ⊥) → told_file new name ≡ told_file (with_files mid kept) name) →
      AllSavedAs old new (saves_of text.buffers) after
  buffers_saved after saved same = all_saved old mid new (saves_of text.buffers) after (λ name among.
      let other : IsCacheName name → ⊥ = plain name among in
      as_before name (none_there name other (among_or_not kept name)) (same name other)) saved
    where
      none_there : (name : List ℕ) → (IsCacheName name → ⊥) → IsAmong kept name ⊎ (file_in kept name ≡ None) →
          file_in kept name ≡ None
      none_there name other (inl among) = absurd (other (kept_name old source text kept name are among))
      none_there name other (inr none) = none

  -- every other name is as before
  pub not_kept : (name : List ℕ) → (Contains (saves_of text.buffers) (Some name) → ⊥) → (IsAmong kept name → ⊥) →
      told_file new name ≡ told_file (with_files mid kept) name → told_file new name ≡ told_file old name
  not_kept name unsaved other same =
      as_before name (none_there (among_or_not kept name)) same ∙ others name unsaved
    where
      none_there : IsAmong kept name ⊎ (file_in kept name ≡ None) → file_in kept name ≡ None
      none_there (inl among) = absurd (other among)
      none_there (inr none) = none

  -- an entry that was found is there, or one of this run in its place
  pub holds_found : (part : Part) (o : PlainObject) → Contains text.list part →
      IsFound old source text part.kernel o →
      told_file new (cache_name source text part.kernel) ≡
      told_file (with_files mid kept) (cache_name source text part.kernel) →
      HoldsEntry new source text (cache_name source text part.kernel)
  holds_found part o among found same = elim (among_or_not kept (cache_name source text part.kernel)) [
    | inl here ↦ holds_kept (cache_name source text part.kernel) here same
    | inr none ↦
        let name = cache_name source text part.kernel in
        let stays : told_file new name ≡ told_file old name =
        as_before name none same ∙ others name (no_save old source text part.kernel plain) in
        record {
          part = part;
          is_launch = among;
          object = o;
          holds = subst (λ (f : Option (Option (List ℕ))). IfSome f (λ x. (b : List ℕ) × (x ≡ Some b) ×
              IsEntryOf b (kernel_key source text part.kernel) o)) (sym stays) found;
        }
  ]

-- ---- what is to be kept, one kernel behind the other

with_behind : (entry : Option Entry) (kept more : FileMap) →
    kept_with entry (kept ++ more) ≡ kept_with entry kept ++ more
with_behind None kept more = refl
with_behind (Some entry) kept more = refl

of_both : (xs ys : List Held) → kept_of (xs ++ ys) ≡ kept_of xs ++ kept_of ys
of_both [] ys = refl
of_both (x ∷ xs) ys = ap (kept_with x.entry) (of_both xs ys) ∙ with_behind x.entry (kept_of xs) (kept_of ys)

module _ (held : List Held) (i : ℕ) (one : Held) (lt : i < length held) (is : one ≡ get_or held i one) where
  pub kept_more : kept_of (take (i + 1) held) ≡ kept_of (take i held) ++ kept_with one.entry []
  kept_more =
      ap kept_of (take_more held i one lt ∙ ap (λ x. take i held ++ x ∷ []) (sym is)) ∙
      of_both (take i held) (one ∷ [])

  pub kept_split : kept_of held ≡
      kept_of (take i held) ++ (kept_with one.entry [] ++ kept_of (drop (i + 1) held))
  kept_split =
      ap kept_of (sym (take-append-drop (i + 1) held)) ∙
      (of_both (take (i + 1) held) (drop (i + 1) held) ∙
      (ap (λ kept. kept ++ kept_of (drop (i + 1) held)) kept_more ∙
      append_assoc (kept_of (take i held)) (kept_with one.entry []) (kept_of (drop (i + 1) held))))

-- ---- the kernels by name

pub among_held : (held : List Held) (one : Held) (kernel : List ℕ) (k : ℕ) → k < length held →
    slice_index_or held k one ≡ one → one.kernel.now ≡ kernel → IsNamedIn held kernel
among_held [] one kernel k lt is named = absurd (omega arith)
among_held (h ∷ held) one kernel zero lt is named = inl (ap (λ (x : Held). x.kernel.now) is ∙ named)
among_held (h ∷ held) one kernel (suc k) lt is named = inr (among_held held one kernel k (omega arith) is named)

pub named_more : (held : List Held) (one : Held) (kernel : List ℕ) → IsNamedIn held kernel →
    IsNamedIn (held ++ one ∷ []) kernel
named_more [] one kernel named = absurd named
named_more (h ∷ held) one kernel (inl same) = inl same
named_more (h ∷ held) one kernel (inr later) = inr (named_more held one kernel later)

pub named_last : (held : List Held) (one : Held) (kernel : List ℕ) → one.kernel.now ≡ kernel →
    IsNamedIn (held ++ one ∷ []) kernel
named_last [] one kernel same = inl same
named_last (h ∷ held) one kernel same = inr (named_last held one kernel same)

module _ (files : Option FileMap) (source : List ℕ) (text : Text) where
  pub held_all : (kernel : List ℕ) (part : Part) (old new : List Held) → Contains text.list part →
      kernel ≡ part.kernel → IsHeldOnce files source text kernel old new → All (IsHeld files source text) old →
      All (IsHeld files source text) new
  held_all kernel part old new among same (inl stays) all =
      subst (λ (hs : List Held). All (IsHeld files source text) hs) (sym stays.0) all
  held_all kernel part old new among same (inr x) all =
      subst (λ (hs : List Held). All (IsHeld files source text) hs) (sym x.new_is)
      (All-push (IsHeld files source text) old x.one all (record {
        part = part;
        is_launch = among;
        named = x.named ∙ same;
        has = subst (λ (k : List ℕ). HasObject files source text k (object_of x.one.object) x.one.entry) (sym x.named)
            x.has;
        shell = x.shell;
      }))

  pub held_names : (kernel other : List ℕ) (old new : List Held) → IsHeldOnce files source text kernel old new →
      IsNamedIn old other → IsNamedIn new other
  held_names kernel other old new (inl stays) named =
      subst (λ (hs : List Held). IsNamedIn hs other) (sym stays.0) named
  held_names kernel other old new (inr x) named =
      subst (λ (hs : List Held). IsNamedIn hs other) (sym x.new_is) (named_more old x.one other named)

  pub held_name : (kernel : List ℕ) (old new : List Held) → IsHeldOnce files source text kernel old new →
      IsNamedIn new kernel
  held_name kernel old new (inl stays) =
      subst (λ (hs : List Held). IsNamedIn hs kernel) (sym stays.0) stays.1
  held_name kernel old new (inr x) =
      subst (λ (hs : List Held). IsNamedIn hs kernel) (sym x.new_is) (named_last old x.one kernel x.named)

-- each launch so far names one, and so does one more
each_names : (files : Option FileMap) (source : List ℕ) (text : Text) (kernel : List ℕ) (old new : List Held)
    (list : List LaunchPart) → IsHeldOnce files source text kernel old new → Each (λ p. IsNamedIn old p.kernel) list →
    Each (λ p. IsNamedIn new p.kernel) list
each_names files source text kernel old new [] more all = tt
each_names files source text kernel old new (p ∷ list) more all = (
  held_names files source text kernel p.kernel old new more all.0,
  each_names files source text kernel old new list more all.1,
)

each_push : (held : List Held) (list : List LaunchPart) (part : LaunchPart) → Each (λ p. IsNamedIn held p.kernel) list →
    IsNamedIn held part.kernel → Each (λ p. IsNamedIn held p.kernel) (list ++ part ∷ [])
each_push held [] part all one = (one, tt)
each_push held (p ∷ list) part all one = (all.0, each_push held list part all.1 one)

pub each_more : (files : Option FileMap) (source : List ℕ) (text : Text) (old new : List Held)
    (list : List LaunchPart) (k : ℕ) (part : LaunchPart) → k < length list → part ≡ get_or list k part →
    IsHeldOnce files source text part.kernel old new → Each (λ p. IsNamedIn old p.kernel) (take k list) →
    Each (λ p. IsNamedIn new p.kernel) (take (k + 1) list)
each_more files source text old new list k part lt is more all =
    subst (λ (ps : List LaunchPart). Each (λ p. IsNamedIn new p.kernel) ps)
    (sym (take_more list k part lt ∙ ap (λ (x : LaunchPart). take k list ++ x ∷ []) (sym is)))
    (each_push new (take k list) part (each_names files source text part.kernel old new (take k list) more all)
    (held_name files source text part.kernel old new more))

-- a launch is one of the file's
pub launch_at : (list : List LaunchPart) (k : ℕ) (part : LaunchPart) → k < length list → part ≡ get_or list k part →
    Contains (map part_of list) (part_of part)
launch_at [] k part lt is = absurd (omega arith)
launch_at (p ∷ list) zero part lt is =
    contains_first (part_of p) (part_of part) (map part_of list) (ap part_of (sym is))
launch_at (p ∷ list) (suc k) part lt is =
    contains_more (part_of p) (part_of part) (map part_of list) (launch_at list k part (omega arith) is)

-- ---- saves under names of cache files

saves_at : (buffers : List BufferText) (k : ℕ) (b : BufferText) (name : List ℕ) → k < length buffers →
    b ≡ get_or buffers k b → b.save ≡ Some name → Contains (saves_of buffers) (Some name)
saves_at [] k b name lt is same = absurd (omega arith)
saves_at (x ∷ buffers) zero b name lt is same =
    contains_first x.save (Some name) (saves_of buffers) (ap (λ (y : BufferText). y.save) (sym is) ∙ same)
saves_at (x ∷ buffers) (suc k) b name lt is same =
    contains_more x.save (Some name) (saves_of buffers) (saves_at buffers k b name (omega arith) is same)

saved_by : (buffers : List BufferText) (k : ℕ) (b : BufferText) (save : Option (List ℕ)) → k < length buffers →
    b ≡ get_or buffers k b → b.save ≡ save → IsSavedSo save → NoCacheName buffers → ⊥
saved_by buffers k b None lt is same has plain = has
saved_by buffers k b (Some name) lt is same has plain = plain name (saves_at buffers k b name lt is same) has

pub saved_so : (buffers : List BufferText) (k : ℕ) (b : BufferText) → k < length buffers → b ≡ get_or buffers k b →
    IsSavedSo b.save → NoCacheName buffers → ⊥
saved_so buffers k b lt is has plain = saved_by buffers k b b.save lt is refl has plain

not_so : (save : Option (List ℕ)) (name : List ℕ) → (IsSavedSo save → ⊥) → save ≡ Some name → IsCacheName name → ⊥
not_so None name other is has = let never : ⊥ = cc is in never
not_so (Some n) name other is has =
    let same : n ≡ name = cc is in other (subst IsCacheName (sym same) has)

pub plain_more : (buffers : List BufferText) (k : ℕ) (b : BufferText) → k < length buffers → b ≡ get_or buffers k b →
    (IsSavedSo b.save → ⊥) → NoCacheName (take k buffers) → NoCacheName (take (k + 1) buffers)
plain_more buffers k b lt is other plain name among has = elim (Contains-push_cases (saves_of (take k buffers)) b.save
    (Some name) (subst (λ (ss : List (Option (List ℕ))). Contains ss (Some name))
    (more_of (λ (x : BufferText). x.save) buffers k b lt is) among)) [
      | inl earlier ↦ plain name earlier has
      | inr this ↦ not_so b.save name other this has
    ]

-- ---- what is bound and run, one launch more

pub runnables_of : (held : List Held) (list other : List LaunchPart) (rs qs : List Runnable) → other ≡ list → qs ≡ rs →
    AreRunnables held other rs → AreRunnables held list qs
runnables_of held list other rs qs same is are =
    subst (λ (ps : List LaunchPart). AreRunnables held ps qs) same
    (subst (λ (xs : List Runnable). AreRunnables held other xs) (sym is) are)
