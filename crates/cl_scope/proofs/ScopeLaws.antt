-- Scopes, outermost first.
use Rattle.std.proofs.Common.{ℕ, suc, zero, [], ◌∷◌, ◌<◌, ◌+◌, length, map, get_or, drop, List, Option, Some, None}
use Rattle.std.proofs.Common.{Vec, Global, ◌≡◌, refl, sym, ap, ◌∙◌, arith}
use Rattle.std.proofs.lemmas.List.{drop_more}
use Rattle.std.proofs.lemmas.Slice.Eq.{bytes_eq-Decides}
use Rattle.std.specs.Str.{bytes_eq}
use Rattle.std.specs.Map.{KeepsOthers}
use Rattle.std.specs.Prelude.{Bool, true, false}
use Rattle.std.proofs.Common.{◌⊎◌, inl, inr, set}
use Rattle.indexmap.specs.IndexMap.{IndexMap, get_by, UpdatesBy}
use Rattle.cl_meaning.specs.declared.kind.Entry.{Entry}
use Rattle.cl_meaning.specs.Environment.{Scope, found_in, in_last, or_else, with_entry, into_last}
use Rattle.cl_scope.specs.View.{scope_of}

-- what inner scopes have hides the outer ones
pub found_within : (ss : List Scope) (q : List ℕ) (i : ℕ) (e : Entry) → found_in (drop i ss) q ≡ Some e →
    found_in ss q ≡ Some e
found_within ss q zero e h = h
found_within [] q (suc i) e h = absurd (cc)
found_within (s ∷ ss) q (suc i) e h = ap (λ (o : Option Entry). or_else o (s q)) (found_within ss q i e h)

abbrev Table : Type 0 → Type 0
Table S = IndexMap (Vec ℕ Global) Entry S

module _ {S : Type 0} where
  pub scopes_from : (ms : List (Table S)) (i : ℕ) (m : Table S) (q : List ℕ) → i < length ms → m ≡ get_or ms i m
      → found_in (map scope_of (drop i ms)) q ≡ or_else (found_in (map scope_of (drop (i + 1) ms)) q) (scope_of m q)
  scopes_from ms i m q h e =
      let a : drop i ms ≡ m ∷ drop (i + 1) ms =
      drop_more ms i m h ∙ ap (λ (t : Table S). t ∷ drop (i + 1) ms) (sym e) in
      ap (λ (x : List (Table S)). found_in (map scope_of x) q) a

  drop_map : (ms : List (Table S)) (i : ℕ) → map scope_of (drop i ms) ≡ drop i (map scope_of ms)
  drop_map ms zero = refl
  drop_map [] (suc i) = refl
  drop_map (m ∷ ms) (suc i) = drop_map ms i

  -- the first scope from the innermost outwards that has the name decides
  pub found_here : (ms : List (Table S)) (i : ℕ) (m : Table S) (q : List ℕ) (e : Entry) → i < length ms →
      m ≡ get_or ms i m
      → found_in (map scope_of (drop (i + 1) ms)) q ≡ None → scope_of m q ≡ Some e →
      found_in (map scope_of ms) q ≡ Some e
  found_here ms i m q e h g n f =
      found_within (map scope_of ms) q i e (ap (λ (x : List Scope). found_in x q) (sym (drop_map ms i)) ∙
      scopes_from ms i m q h g ∙ rw (n, f) refl)

  pub found_further : (ms : List (Table S)) (i : ℕ) (m : Table S) (q : List ℕ) → i < length ms → m ≡ get_or ms i m
      → found_in (map scope_of (drop (i + 1) ms)) q ≡ None → scope_of m q ≡ None →
      found_in (map scope_of (drop i ms)) q ≡ None
  found_further ms i m q h g n f = scopes_from ms i m q h g ∙ rw (n, f) refl

  pub last_scope : (ms : List (Table S)) (i : ℕ) (m : Table S) (q : List ℕ) → suc i ≡ length ms → m ≡ get_or ms i m →
      in_last (map scope_of ms) q ≡ scope_of m q
  last_scope [] i m q h e = absurd (cc)
  last_scope (a ∷ []) zero m q h e = ap (λ (x : Table S). scope_of x q) (sym e)
  last_scope (a ∷ []) (suc i) m q h e = absurd (omega arith)
  last_scope (a ∷ b ∷ bs) zero m q h e = absurd (omega arith)
  last_scope (a ∷ b ∷ bs) (suc i) m q h e = last_scope (b ∷ bs) i m q (omega arith) e

-- ---- one name more

test_is : (b : Bool) → (b ≡ true) ⊎ (b ≡ false)
test_is true = inl refl
test_is false = inr refl

same_bytes : (xs ys : List ℕ) → bytes_eq xs ys ≡ true → xs ≡ ys
same_bytes xs ys h = (bytes_eq-Decides xs ys).0 h

bytes_same : (xs ys : List ℕ) → xs ≡ ys → bytes_eq xs ys ≡ true
bytes_same xs ys h = (bytes_eq-Decides xs ys).1 h

abbrev key_eq : Vec ℕ Global → Vec ℕ Global → Bool
key_eq x y = bytes_eq x.items y.items

key_test : (q : List ℕ) (x y : Vec ℕ Global) → bytes_eq q x.items ≡ true → bytes_eq q y.items ≡ key_eq x y
key_test q x y h = ap (λ (w : List ℕ). bytes_eq w y.items) (same_bytes q x.items h)

apart : (name q : List ℕ) → bytes_eq name q ≡ false → (k : Vec ℕ Global) → bytes_eq name k.items ≡ true →
    bytes_eq q k.items ≡ false
apart name q other k h = elim (test_is (bytes_eq q k.items)) [
  | inl t ↦ (let same : bytes_eq name q ≡ true = bytes_same name q (same_bytes name k.items h ∙
      sym (same_bytes q k.items t)) in absurd (cc))
  | inr f ↦ f
]

module _ {S : Type 0} where
  -- after an insertion the scope has one name more
  pub inserted : (m n : Table S) (name : List ℕ) (e : Entry) →
      UpdatesBy key_eq (λ k. bytes_eq name k.items) m n (Some e) → scope_of n ≡ with_entry (scope_of m) name e
  unfolding KeepsOthers
  inserted m n name e u = λ i q. at q i
    where
      at : (q : List ℕ) → scope_of n q ≡ with_entry (scope_of m) name e q
      at q = elim (test_is (bytes_eq name q)) [
        | inl t ↦ rw t (ap (λ (x : List ℕ). get_by (λ k. bytes_eq x k.items) n) (sym (same_bytes name q t)) ∙ u.1)
        | inr f ↦ rw f (u.3 (λ k. bytes_eq q k.items) (key_test q) (apart name q f))
      ]

  pub inserted_last : (ms : List (Table S)) (i : ℕ) (m n : Table S) (name : List ℕ) (e : Entry) → suc i ≡ length ms →
      m ≡ get_or ms i m
      → scope_of n ≡ with_entry (scope_of m) name e → map scope_of (set ms i n) ≡ into_last (map scope_of ms) name e
  inserted_last [] i m n name e h g k = absurd (cc)
  inserted_last (a ∷ []) zero m n name e h g k =
      ap (λ (s : Scope). s ∷ []) (k ∙ ap (λ (x : Table S). with_entry (scope_of x) name e) g)
  inserted_last (a ∷ []) (suc i) m n name e h g k = absurd (omega arith)
  inserted_last (a ∷ b ∷ bs) zero m n name e h g k = absurd (omega arith)
  inserted_last (a ∷ b ∷ bs) (suc i) m n name e h g k =
      inserted_next (b ∷ bs) i n name e (scope_of a) (omega arith) (inserted_last (b ∷ bs) i m n name e (omega arith)
      g k)
    where
      inserted_next : (xs : List (Table S)) (i : ℕ) (n : Table S) (name : List ℕ) (e : Entry) (s : Scope) →
          suc i ≡ length xs
          → map scope_of (set xs i n) ≡ into_last (map scope_of xs) name e →
          s ∷ map scope_of (set xs i n) ≡ into_last (s ∷ map scope_of xs) name e
      inserted_next [] i n name e s h k = absurd (cc)
      inserted_next (x ∷ xs) i n name e s h k = ap (λ (y : List Scope). s ∷ y) k
