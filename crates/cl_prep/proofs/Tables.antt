-- The names that a table keeps, after a change.
use Rattle.std.proofs.Common.{ℕ, suc, [], ◌∷◌, ◌+◌, ◌<◌, ◌≤◌, ◌&&◌, get_or, drop, List, Bool, true, false, Option}
use Rattle.std.proofs.Common.{Some, Vec, Global, ◌≡◌, ◌⊎◌, inl, inr, refl, sym, ap, ◌∙◌}
use Rattle.std.specs.Prelude.{option_map, length}
use Rattle.std.specs.Str.{bytes_eq}
use Rattle.std.specs.Map.{KeepsOthers}
use Rattle.std.proofs.lemmas.List.{drop_more, drop_all}
use Rattle.std.proofs.lemmas.Slice.Eq.{bytes_eq-Decides}
use Rattle.indexmap.specs.IndexMap.{IndexMap, get_by, UpdatesBy}
use Rattle.cl_token.specs.Lexeme.{Lexeme, lexemes_of}
use Rattle.cl_token.specs.declared.token.Token.{Token}
use Rattle.cl_prep.specs.Names.{Names, with_name, words_of, same_words, replacement}
use Rattle.cl_token.specs.declared.token.Kind.TheVariants.{Name}
use Rattle.cl_prep.specs.Table.{names_of}

pub test_is : (b : Bool) → (b ≡ true) ⊎ (b ≡ false)
test_is true = inl refl
test_is false = inr refl

pub same_bytes : (xs ys : List ℕ) → bytes_eq xs ys ≡ true → xs ≡ ys
same_bytes xs ys h = (bytes_eq-Decides xs ys).0 h

pub bytes_same : (xs ys : List ℕ) → xs ≡ ys → bytes_eq xs ys ≡ true
bytes_same xs ys h = (bytes_eq-Decides xs ys).1 h

abbrev key_eq : Vec ℕ Global → Vec ℕ Global → Bool
key_eq x y = bytes_eq x.items y.items

key_test : (q : List ℕ) (x y : Vec ℕ Global) → bytes_eq q x.items ≡ true → bytes_eq q y.items ≡ key_eq x y
key_test q x y h = ap (λ (w : List ℕ). bytes_eq w y.items) (same_bytes q x.items h)

apart : (name q : List ℕ) → bytes_eq name q ≡ false → (k : Vec ℕ Global) → bytes_eq name k.items ≡ true →
    bytes_eq q k.items ≡ false
apart name q other k h = elim (test_is (bytes_eq q k.items)) [
  | inl t ↦ (let same : bytes_eq name q ≡ true = bytes_same name q (same_bytes name k.items h ∙
      sym (same_bytes q k.items t)) in absurd (cc))
  | inr f ↦ f
]

abbrev pub body_lexemes : Option (Vec Token Global) → Option (List Lexeme)
body_lexemes o = option_map (λ b. lexemes_of b.items) o

module _ {S : Type 0} where
  -- after a change at one name, the names are those before with that one changed
  pub updated : (m n : IndexMap (Vec ℕ Global) (Vec Token Global) S) (name : List ℕ) (w : Option (Vec Token Global))
      → UpdatesBy key_eq (λ k. bytes_eq name k.items) m n w → names_of n ≡ with_name (names_of m) name (body_lexemes w)
  unfolding KeepsOthers
  updated m n name w u = λ i q. at q i
    where
      at : (q : List ℕ) → names_of n q ≡ with_name (names_of m) name (body_lexemes w) q
      at q = elim (test_is (bytes_eq name q)) [
        | inl t ↦ rw t (ap (λ (x : List ℕ). body_lexemes (get_by (λ k. bytes_eq x k.items) n))
            (sym (same_bytes name q t)) ∙ ap body_lexemes u.1)
        | inr f ↦ rw f (ap body_lexemes (u.3 (λ k. bytes_eq q k.items) (key_test q) (apart name q f)))
      ]

-- ---- the words of two lists

abbrev words : List Token → List (List ℕ)
words ts = words_of (lexemes_of ts)

both : (a b : Bool) → (a && b) ≡ true → (a ≡ true) × (b ≡ true)
both true true h = (refl, refl)
both true false h = absurd (cc)
both false b h = absurd (cc)

pub same_lengths : (xs ys : List (List ℕ)) → same_words xs ys ≡ true → length xs ≡ length ys
same_lengths [] [] h = refl
same_lengths [] (y ∷ ys) h = absurd (cc)
same_lengths (x ∷ xs) [] h = absurd (cc)
same_lengths (x ∷ xs) (y ∷ ys) h = ap suc (same_lengths xs ys (both (bytes_eq x y) (same_words xs ys) h).1)

length_words : (ts : List Token) → length (words ts) ≡ length ts
length_words [] = refl
length_words (t ∷ ts) = ap suc (length_words ts)

pub other_lengths : (xs ys : List Token) → (length xs ≡ length ys → ⊥) → same_words (words xs) (words ys) ≡ false
other_lengths xs ys h = elim (test_is (same_words (words xs) (words ys))) [
  | inl t ↦ absurd (h (sym (length_words xs) ∙ same_lengths (words xs) (words ys) t ∙ length_words ys))
  | inr f ↦ f
]

pub same_from : (xs ys : List Token) (i : ℕ) (x y : Token) → i < length xs → i < length ys → x ≡ get_or xs i x →
    y ≡ get_or ys i y
    → same_words (words (drop i xs)) (words (drop i ys)) ≡
    (bytes_eq x.word y.word && same_words (words (drop (i + 1) xs)) (words (drop (i + 1) ys)))
same_from xs ys i x y h k e f =
    let a : drop i xs ≡ x ∷ drop (i + 1) xs = drop_more xs i x h ∙ ap (λ (t : Token). t ∷ drop (i + 1) xs) (sym e) in
    let b : drop i ys ≡ y ∷ drop (i + 1) ys = drop_more ys i y k ∙ ap (λ (t : Token). t ∷ drop (i + 1) ys) (sym f) in
    rw (a, b) refl

pub same_end : (xs ys : List Token) (i : ℕ) → length xs ≤ i → length ys ≤ i →
    same_words (words (drop i xs)) (words (drop i ys)) ≡ true
same_end xs ys i h k = rw (drop_all i xs h, drop_all i ys k) refl

-- a name is replaced by what the names have at it
pub name_replaced : (names : Names) (x : Lexeme) → x.kind ≡ Name → replacement names x ≡ names x.word
name_replaced names x h = rw h refl

-- one name more, over names that are known
pub more : (n k : Names) (name : List ℕ) (body : List Lexeme) (m : Names) → m ≡ with_name n name (Some body) → n ≡ k →
    m ≡ with_name k name (Some body)
more n k name body m e f = e ∙ ap (λ (x : Names). with_name x name (Some body)) f
