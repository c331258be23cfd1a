-- A declarator that declares no vectors, and what stands for it: the same star, dimensions, lengths and initialiser.
use Rattle.std.proofs.Common.{◌≡◌, ℕ, suc, List, [], ◌∷◌, length, Option, None, Some, Bool, true, false, ◌&&◌, nat_eq}
use Rattle.std.proofs.Common.{refl}
use Rattle.std.proofs.Common.{if◌then◌else◌, ap, sym, ◌∙◌}
use Rattle.cl_tree.specs.Syntax.{Syntax, Forest, none, more}
use Rattle.cl_meaning.specs.Spelling.{dimensions_in, is_set}
use Rattle.cl_meaning.specs.Constants.{constant_of}
use Rattle.cl_meaning.specs.Environment.{Env}
use Rattle.cl_meaning.specs.Kinds.{is_some}
use Rattle.cl_meaning.specs.Declarations.{is_list, listed, parts_of, star_in, behind_star, but_last}
use Rattle.cl_meaning.specs.Declarations.{last_one, declarator_in, initialisers, initial_values}
use Rattle.cl_meaning.specs.Declarations.{length_in, length_of_constant, with_length, lengths_in, allowed, is_length}
use Rattle.cl_meaning.specs.Declarations.{dims_of, or_none, each_of}
use Rattle.cl_meaning.specs.Faults.{Asked, all_constant}
use Rattle.cl_short_vec_faults.proofs.HolderParts.{PartSame, Pairs, SameConstants}
use Rattle.cl_short_vec_faults.proofs.SameDeclarators.{SameDeclarator}

-- ---- lists of parts

module _ (asked : Asked) (plain form : Env) where
  abbrev ListPairs : List Syntax → List Syntax → Type 0
  ListPairs [] [] = Unit {0}
  ListPairs (p ∷ ps) (s ∷ ss) = PartSame asked plain form p s × ListPairs ps ss
  ListPairs ps ss = ⊥

  abbrev PairOr : Option Syntax → Option Syntax → Type 0
  PairOr None None = Unit {0}
  PairOr (Some p) (Some s) = PartSame asked plain form p s
  PairOr p s = ⊥

  pairs_list : (P S : Forest) → Pairs asked plain form P S → ListPairs (listed P) (listed S)
  pairs_list none none x = tt
  pairs_list none (more s ss) x = absurd x
  pairs_list (more p ps) none x = absurd x
  pairs_list (more p ps) (more s ss) x = (x.0, pairs_list ps ss x.1)

  but_last_pairs : (xs ys : List Syntax) → ListPairs xs ys → ListPairs (but_last xs) (but_last ys)
  but_last_pairs [] [] h = tt
  but_last_pairs [] (s ∷ ss) h = absurd h
  but_last_pairs (p ∷ ps) [] h = absurd h
  but_last_pairs (p ∷ []) (s ∷ []) h = tt
  but_last_pairs (p ∷ []) (s ∷ (t ∷ ts)) h = absurd h.1
  but_last_pairs (p ∷ (q ∷ qs)) (s ∷ []) h = absurd h.1
  but_last_pairs (p ∷ (q ∷ qs)) (s ∷ (t ∷ ts)) h = (h.0, but_last_pairs (q ∷ qs) (t ∷ ts) h.1)

  last_pairs : (xs ys : List Syntax) → ListPairs xs ys → PairOr (last_one xs) (last_one ys)
  last_pairs [] [] h = tt
  last_pairs [] (s ∷ ss) h = absurd h
  last_pairs (p ∷ ps) [] h = absurd h
  last_pairs (p ∷ []) (s ∷ []) h = h.0
  last_pairs (p ∷ []) (s ∷ (t ∷ ts)) h = absurd h.1
  last_pairs (p ∷ (q ∷ qs)) (s ∷ []) h = absurd h.1
  last_pairs (p ∷ (q ∷ qs)) (s ∷ (t ∷ ts)) h = last_pairs (q ∷ qs) (t ∷ ts) h.1

  many_same : (xs ys : List Syntax) → ListPairs xs ys → length ys ≡ length xs
  many_same [] [] h = refl
  many_same [] (s ∷ ss) h = absurd h
  many_same (p ∷ ps) [] h = absurd h
  many_same (p ∷ ps) (s ∷ ss) h = ap suc (many_same ps ss h.1)

  lengths_same : (xs ys : List Syntax) → ListPairs xs ys → lengths_in ys ≡ lengths_in xs
  lengths_same [] [] h = refl
  lengths_same [] (s ∷ ss) h = absurd h
  lengths_same (p ∷ ps) [] h = absurd h
  lengths_same (p ∷ ps) (s ∷ ss) h =
      ap (λ z. with_length (length_of_constant z) (lengths_in ss)) h.0.constant ∙
      ap (λ z. with_length (length_in p) z) (lengths_same ps ss h.1)

  some_same : (x y : Option Syntax) → PairOr x y → (is_some y ≡ is_some x) × (is_list y ≡ is_list x)
  some_same None None h = (refl, refl)
  some_same None (Some s) h = absurd h
  some_same (Some p) None h = absurd h
  some_same (Some p) (Some s) h = (refl, h.list)

  count_same : (xs ys : List Syntax) → SameConstants xs ys → length ys ≡ length xs
  count_same [] [] h = refl
  count_same [] (s ∷ ss) h = absurd h
  count_same (p ∷ ps) [] h = absurd h
  count_same (p ∷ ps) (s ∷ ss) h = ap suc (count_same ps ss h.1)

  constants_all : (xs ys : List Syntax) → SameConstants xs ys → all_constant ys ≡ all_constant xs
  constants_all [] [] h = refl
  constants_all [] (s ∷ ss) h = absurd h
  constants_all (p ∷ ps) [] h = absurd h
  constants_all (p ∷ ps) (s ∷ ss) h = ap (λ z. is_some z && all_constant ss) h.0 ∙
      ap (λ z. is_some (constant_of p) && z) (constants_all ps ss h.1)

  values_same : (x y : Option Syntax) → PairOr x y → all_constant (initial_values y) ≡ all_constant (initial_values x)
  values_same None None h = refl
  values_same None (Some s) h = absurd h
  values_same (Some p) None h = absurd h
  values_same (Some p) (Some s) h =
      ap (λ b. all_constant (if b then listed (parts_of s) else s ∷ [])) h.list ∙ by (is_list (Some p)) refl
    where
      by : (b : Bool) → is_list (Some p) ≡ b → all_constant (if b then listed (parts_of s) else s ∷ []) ≡
          all_constant (if b then listed (parts_of p) else p ∷ [])
      by true e = constants_all (listed (parts_of p)) (listed (parts_of s)) (h.items e)
      by false e = ap (λ z. is_some z && true) h.constant

  -- the number of initialisers, where they are a list
  abbrev counted_by : ℕ → (list : Bool) → ℕ → Option (List ℕ)
  counted_by n list count = if nat_eq n 1 && list && is_length count then Some (count ∷ []) else None

  counted_none : (n count : ℕ) → counted_by n false count ≡ None
  counted_none n count = by (nat_eq n 1)
    where
      by : (b : Bool) → (if b && false && is_length count then Some (count ∷ []) else None) ≡ None
      by true = refl
      by false = refl

  counted_same : (n : ℕ) (x y : Option Syntax) → PairOr x y →
      counted_by n (is_list y) (length (initialisers y)) ≡ counted_by n (is_list x) (length (initialisers x))
  counted_same n None None h = refl
  counted_same n None (Some s) h = absurd h
  counted_same n (Some p) None h = absurd h
  counted_same n (Some p) (Some s) h =
      ap (λ b. counted_by n b (length (listed (parts_of s)))) h.list ∙ by (is_list (Some p)) refl
    where
      by : (b : Bool) → is_list (Some p) ≡ b → counted_by n b (length (listed (parts_of s))) ≡
          counted_by n b (length (listed (parts_of p)))
      by true e = ap (counted_by n true) (count_same (listed (parts_of p)) (listed (parts_of s)) (h.items e))
      by false e = counted_none n (length (listed (parts_of s))) ∙ sym (counted_none n (length (listed (parts_of p))))

  -- ---- the declarator

  pub same_declarator : (w : List ℕ) (f : ℕ) (P S : Forest) → star_in S ≡ star_in P →
      Pairs asked plain form (behind_star P) (behind_star S) → SameDeclarator (declarator_in w f P) (declarator_in w f
      S)
  same_declarator w f P S st x = record {
    star = st;
    dimensions = refl;
    each' = ap (λ z. each_of (or_none z)) dims;
    some = (some_same initP initS init).0;
    list = (some_same initP initS init).1;
    constants = values_same initP initS init;
  }
    where
      all : ListPairs (listed (behind_star P)) (listed (behind_star S))
      all = pairs_list (behind_star P) (behind_star S) x

      initP : Option Syntax
      initP = if is_set w then last_one (listed (behind_star P)) else None

      initS : Option Syntax
      initS = if is_set w then last_one (listed (behind_star S)) else None

      lenP : List Syntax
      lenP = if is_set w then but_last (listed (behind_star P)) else listed (behind_star P)

      lenS : List Syntax
      lenS = if is_set w then but_last (listed (behind_star S)) else listed (behind_star S)

      init : PairOr initP initS
      init = by (is_set w)
        where
          by : (b : Bool) → PairOr (if b then last_one (listed (behind_star P)) else None)
              (if b then last_one (listed (behind_star S)) else None)
          by true = last_pairs (listed (behind_star P)) (listed (behind_star S)) all
          by false = tt

      len : ListPairs lenP lenS
      len = by (is_set w)
        where
          by : (b : Bool) → ListPairs (if b then but_last (listed (behind_star P)) else listed (behind_star P))
              (if b then but_last (listed (behind_star S)) else listed (behind_star S))
          by true = but_last_pairs (listed (behind_star P)) (listed (behind_star S)) all
          by false = all

      dims : dims_of (declarator_in w f S) ≡ dims_of (declarator_in w f P)
      dims =
          ap (λ n. if nat_eq n (dimensions_in w) then allowed (lengths_in lenS) else counted_by (dimensions_in w)
          (is_list initS) (length (initialisers initS))) (many_same lenP lenS len) ∙
          (ap (λ z. if nat_eq (length lenP) (dimensions_in w) then allowed z else counted_by (dimensions_in w)
          (is_list initS) (length (initialisers initS))) (lengths_same lenP lenS len) ∙
          ap (λ z. if nat_eq (length lenP) (dimensions_in w) then allowed (lengths_in lenP) else z)
          (counted_same (dimensions_in w) initP initS init))
