-- The bytes of a file, and what stands behind a key in them.
use Rattle.std.proofs.Common.{◌≡◌, ◌≢◌, ◌<◌, ℕ, List, [], ◌++◌, length, take, drop, Option, Some, None, Result, Err}
use Rattle.std.proofs.Common.{refl, sym, ap, subst, ◌∙◌, append_assoc, arith, unwrap_or, Bor}
use Rattle.std.specs.Prelude.{IfSome, MatchOption, IsUtf8, option_map}
use Rattle.std.proofs.lemmas.List.{drop_at, length-take, take_all}
use Rattle.std.proofs.lemmas.Str.{IsUtf8-append}
use Rattle.wg_outside.specs.Files.{FileMap, told_file, HasFileStart}
use Rattle.wg_object.specs.declared.object.Object.{Object}
use Rattle.wg_object.specs.declared.coding.DecodeError.{DecodeError}
use Rattle.wg_object.specs.declared.coding.DecodeError.TheVariants.{NotObject}
use Rattle.wg_object.specs.Text.{word_text, object_text}
use Rattle.wg_object.specs.Plain.{PlainObject}
use Rattle.wg_object.specs.Valid.{IsObjectOf}
use Rattle.wg_object.specs.Views.{Answers}
use Rattle.wg_cache.specs.Entries.{IsEntryOf, IsFile}

-- ---- what is behind other bytes

cancel : (front a b : List ℕ) → front ++ a ≡ front ++ b → a ≡ b
cancel front a b e =
    sym (drop_at front a (length front) refl) ∙ ap (drop (length front)) e ∙ drop_at front b (length front) refl

pub behind_two : (front key bytes rest : List ℕ) (r : Option (Bor (List ℕ))) → bytes ≡ front ++ rest →
    MatchOption r ((x : List ℕ) → rest ≢ key ++ x) (λ x. rest ≡ key ++ x.now) →
    MatchOption r ((x : List ℕ) → bytes ≢ (front ++ key) ++ x) (λ x. bytes ≡ (front ++ key) ++ x.now)
behind_two front key bytes rest (Some x) e h =
    e ∙ ap (λ (t : List ℕ). front ++ t) h ∙ sym (append_assoc front key x.now)
behind_two front key bytes rest None e h = λ x same.
    h x (cancel front rest (key ++ x) (sym e ∙ same ∙ append_assoc front key x))

-- what is behind a key is no text, so the bytes are no entry
pub no_entry : (key bytes rest : List ℕ) (r : Result Object DecodeError) → bytes ≡ word_text key ++ rest →
    ((o : PlainObject) → IsObjectOf rest o → Answers o r) → r ≡ Err NotObject → (o : PlainObject) →
    IsEntryOf bytes key o → ⊥
no_entry key bytes rest r e only is o h =
    let text : rest ≡ object_text o = cancel (word_text key) rest (object_text o) (sym e ∙ h.is) in
    subst (Answers o) is (only o (record { object = h.object; text = text }))

-- ---- files

some_of : (a b : List ℕ) → Some a ≡ Some b → a ≡ b
some_of a b e = ap (λ (o : Option (List ℕ)). unwrap_or o []) e

-- fewer bytes than were asked for are the whole file
pub whole_file : (files : Option FileMap) (name text bytes : List ℕ) (most : ℕ) → text ≡ name →
    HasFileStart files text most bytes → length bytes < most → IsFile files name bytes
whole_file files name text bytes most same h lt =
    go (told_file files name) (subst (λ (t : List ℕ). HasFileStart files t most bytes) same h)
  where
    go : (told : Option (Option (List ℕ))) → IfSome told (λ found. option_map (take most) found ≡ Some bytes) →
        IfSome told (λ found. found ≡ Some bytes)
    go None h = tt
    go (Some None) h = absurd cc
    go (Some (Some file)) h =
        let e = some_of (take most file) bytes h in
        let all : take most file ≡ file =
        take_all most file (omega (arith, length-take most file, ap (λ (t : List ℕ). length t) e, lt)) in
        ap Some (sym all ∙ e)

-- ---- names

pub name_utf8 : (front digits name : List ℕ) → IsUtf8 front → IsUtf8 digits → name ≡ front ++ digits → IsUtf8 name
name_utf8 front digits name f h e = subst IsUtf8 (sym e) (IsUtf8-append front digits f h)
