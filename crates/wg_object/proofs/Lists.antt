-- What was written is read again, whatever follows it: lists and words.
use Rattle.std.proofs.Common.{◌≡◌, ℕ, suc, List, [], ◌∷◌, ◌++◌, length}
use Rattle.std.proofs.Common.{refl, sym, ap, ◌∙◌, append_assoc}
use Rattle.std.proofs.lemmas.List.{take_at, drop_at}
use Rattle.wg_object.specs.Text.{eight, flat_texts, list_text, word_text}
use Rattle.wg_object.specs.Valid.{AllFit, IsList, IsByte}
use Rattle.wg_object.specs.Reading.{items_at, list_at, word_at}
use Rattle.wg_object.proofs.Again.{eight_again}

-- a text has a first byte
pub record HasFirst (bytes : List ℕ) : Type 0 where
  pub byte : ℕ
  pub others : List ℕ
  pub is : bytes ≡ byte ∷ others

-- what is read of a text, whatever follows it
pub record IsReadAgain {X : Type 0} (read : List ℕ → X × List ℕ) (text : X → List ℕ) (P : X → Type 0) : Type 0 where
  pub again : (x : X) (rest : List ℕ) → P x → read (text x ++ rest) ≡ (x, rest)
  pub first : (x : X) → HasFirst (text x)

pub items_again : {X : Type 0} (read : List ℕ → X × List ℕ) (text : X → List ℕ) (P : X → Type 0) →
    IsReadAgain read text P → (xs : List X) (rest : List ℕ) → AllFit P xs →
    items_at read (length xs) (flat_texts text xs ++ rest) ≡ (xs, rest)
unfolding items_at
items_again read text P law [] rest h = refl
items_again read text P law (x ∷ xs) rest h =
    let f = law.first x in
    let more = flat_texts text xs ++ rest in
    let whole : text x ++ more ≡ f.byte ∷ (f.others ++ more) = ap (λ (t : List ℕ). t ++ more) f.is in
    let regroup : flat_texts text (x ∷ xs) ++ rest ≡ f.byte ∷ (f.others ++ more) =
    append_assoc (text x) (flat_texts text xs) rest ∙ whole in
    let one : read (f.byte ∷ (f.others ++ more)) ≡ (x, more) = sym (ap read whole) ∙ law.again x more h.0 in
    ap (items_at read (suc (length xs))) regroup ∙ rw (one, items_again read text P law xs rest h.1) refl

pub list_again : {X : Type 0} (read : List ℕ → X × List ℕ) (text : X → List ℕ) (P : X → Type 0) →
    IsReadAgain read text P → (xs : List X) (rest : List ℕ) → IsList P xs →
    list_at read (list_text text xs ++ rest) ≡ (xs, rest)
unfolding list_at
list_again read text P law xs rest h =
    ap (list_at read) (append_assoc (eight (length xs)) (flat_texts text xs) rest) ∙ rw (
      eight_again (length xs) (flat_texts text xs ++ rest) h.few,
      items_again read text P law xs rest h.each,
    ) refl

pub word_again : (word rest : List ℕ) → IsList IsByte word → word_at (word_text word ++ rest) ≡ (word, rest)
unfolding word_at
word_again word rest h =
    ap word_at (append_assoc (eight (length word)) word rest) ∙ rw (
      eight_again (length word) (word ++ rest) h.few,
      take_at word rest (length word) refl,
      drop_at word rest (length word) refl,
    ) refl
