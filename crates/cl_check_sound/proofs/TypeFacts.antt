-- The words of a type that the grammar spells name a base type.
use Rattle.std.proofs.Common.{◌≡◌, ℕ, List, [], ◌∷◌, ◌++◌, map, Bool, true, false, not, ◌||◌, if◌then◌else◌, refl, ap}
use Rattle.std.proofs.Common.{sym, ◌∙◌, subst}
use Rattle.std.proofs.lemmas.Bool.{false≢true}
use Rattle.std.proofs.lemmas.List.Splits.{slice_split-cons_yes, slice_split-cons_no}
use Rattle.std.specs.List.{list_any, filter, slice_split, onto_first}
use Rattle.cl_model.specs.Lists.{Each}
use Rattle.cl_tree.specs.Nodes.{Spot, spelled}
use Rattle.cl_meaning.specs.OwnWords.{is_blank, has_bytes, pieces}
use Rattle.cl_meaning.specs.Types.{is_qualifier, bare, names_outside, base_in}
use Rattle.cl_meaning.specs.Kinds.{is_some}
use Rattle.cl_check_sound.proofs.Assigning.{both_true, is_not}
use Rattle.cl_check_sound.proofs.WordFacts.{is_solid, base_by}

-- ---- the pieces of words with blanks between them

split_solid : (w rest : List ℕ) → list_any is_blank w ≡ false →
    slice_split is_blank (w ++ (32 ∷ rest)) ≡ w ∷ slice_split is_blank rest
split_solid [] rest h = slice_split-cons_yes is_blank 32 rest refl
split_solid (b ∷ bs) rest h =
    let p = neither (is_blank b) (list_any is_blank bs) h in
    slice_split-cons_no is_blank b (bs ++ (32 ∷ rest)) p.0 ∙ ap (onto_first b) (split_solid bs rest p.1)
  where
    neither : (x y : Bool) → (x || y) ≡ false → (x ≡ false) × (y ≡ false)
    neither true y h = absurd (false≢true (sym h))
    neither false y h = (refl, h)

split_last : (w : List ℕ) → list_any is_blank w ≡ false → slice_split is_blank w ≡ w ∷ []
split_last [] h = refl
split_last (b ∷ bs) h =
    let p = neither (is_blank b) (list_any is_blank bs) h in
    slice_split-cons_no is_blank b bs p.0 ∙ ap (onto_first b) (split_last bs p.1)
  where
    neither : (x y : Bool) → (x || y) ≡ false → (x ≡ false) × (y ≡ false)
    neither true y h = absurd (false≢true (sym h))
    neither false y h = (refl, h)

abbrev pub words : List Spot → List (List ℕ)
words ms = map (λ (m : Spot). m.word) ms

abbrev pub AllSolid : List (List ℕ) → Type 0
AllSolid ws = Each (λ w. is_solid w ≡ true) ws

solid_parts : (w : List ℕ) → is_solid w ≡ true → (has_bytes w ≡ true) × (list_any is_blank w ≡ false)
solid_parts w h = let p =
    both_true (has_bytes w) (not (list_any is_blank w)) h in (p.0, is_not (list_any is_blank w) p.1)

kept_first : (w : List ℕ) (ws : List (List ℕ)) → has_bytes w ≡ true →
    filter has_bytes (w ∷ ws) ≡ w ∷ filter has_bytes ws
kept_first [] ws h = absurd (false≢true h)
kept_first (b ∷ bs) ws h = refl

pub pieces_are : (ms : List Spot) → AllSolid (words ms) → pieces (spelled ms) ≡ words ms
pieces_are [] h = refl
pieces_are (m ∷ []) h =
    let p = solid_parts m.word h.0 in
    ap (filter has_bytes) (split_last m.word p.1) ∙ kept_first m.word [] p.0
pieces_are (m ∷ (n ∷ ms)) h =
    let p = solid_parts m.word h.0 in
    ap (filter has_bytes) (split_solid m.word (spelled (n ∷ ms)) p.1) ∙
    (kept_first m.word (slice_split is_blank (spelled (n ∷ ms))) p.0 ∙
    ap (λ z. m.word ∷ z) (pieces_are (n ∷ ms) h.1))

-- ---- without qualifiers

abbrev unqualified : List (List ℕ) → List (List ℕ)
unqualified ws = filter (λ p. not (is_qualifier p)) ws

-- qualifiers alone, and other words alone
abbrev pub Qualifiers : List (List ℕ) → Type 0
Qualifiers ws = Each (λ w. (is_solid w ≡ true) × (is_qualifier w ≡ true)) ws

abbrev pub Bases : List (List ℕ) → Type 0
Bases ws = Each (λ w. (is_solid w ≡ true) × (is_qualifier w ≡ false)) ws

filter_step : (w : List ℕ) (ws : List (List ℕ)) (b : Bool) → is_qualifier w ≡ b →
    unqualified (w ∷ ws) ≡ (if not b then w ∷ unqualified ws else unqualified ws)
filter_step w ws b e = ap (λ z. if not z then w ∷ unqualified ws else unqualified ws) e

drop_qualifiers : (ws vs : List (List ℕ)) → Qualifiers ws → unqualified (ws ++ vs) ≡ unqualified vs
drop_qualifiers [] vs h = refl
drop_qualifiers (w ∷ ws) vs h = filter_step w (ws ++ vs) true h.0.1 ∙ drop_qualifiers ws vs h.1

keep_bases : (ws vs : List (List ℕ)) → Bases ws → unqualified (ws ++ vs) ≡ ws ++ unqualified vs
keep_bases [] vs h = refl
keep_bases (w ∷ ws) vs h = filter_step w (ws ++ vs) false h.0.1 ∙ ap (λ z. w ∷ z) (keep_bases ws vs h.1)

append_nothing : {A : Type 0} (xs : List A) → xs ++ [] ≡ xs
append_nothing [] = refl
append_nothing (x ∷ xs) = ap (λ z. x ∷ z) (append_nothing xs)

no_qualifiers : (ws : List (List ℕ)) → Qualifiers ws → unqualified ws ≡ []
no_qualifiers ws h = ap unqualified (sym (append_nothing ws)) ∙ drop_qualifiers ws [] h

words_append : (a b : List Spot) → words (a ++ b) ≡ words a ++ words b
words_append [] b = refl
words_append (m ∷ a) b = ap (λ z. m.word ∷ z) (words_append a b)

solid_append : (ws vs : List (List ℕ)) → AllSolid ws → AllSolid vs → AllSolid (ws ++ vs)
solid_append [] vs h k = k
solid_append (w ∷ ws) vs h k = (h.0, solid_append ws vs h.1 k)

solid_qualifiers : (ws : List (List ℕ)) → Qualifiers ws → AllSolid ws
solid_qualifiers [] h = tt
solid_qualifiers (w ∷ ws) h = (h.0.0, solid_qualifiers ws h.1)

solid_bases : (ws : List (List ℕ)) → Bases ws → AllSolid ws
solid_bases [] h = tt
solid_bases (w ∷ ws) h = (h.0.0, solid_bases ws h.1)

-- the words of a base type
pub record BaseOk (ws : List (List ℕ)) : Type 0 where
  pub base : is_some (base_by ws) ≡ true
  pub bases : Bases ws

base_bare : (w : List ℕ) → base_in w ≡ base_by (bare w)
unfolding base_in names_outside
base_bare w = refl

-- own words of a type: qualifiers, a base and qualifiers
pub type_spelled : (a d c : List Spot) → Qualifiers (words a) → BaseOk (words d) → Qualifiers (words c) →
    is_some (base_in (spelled (a ++ (d ++ c)))) ≡ true
type_spelled a d c ha hd hc =
    let w : words (a ++ (d ++ c)) ≡ words a ++ (words d ++ words c) =
    words_append a (d ++ c) ∙ ap (λ z. words a ++ z) (words_append d c) in
    let s : AllSolid (words (a ++ (d ++ c))) =
    subst AllSolid (sym w) (solid_append (words a) (words d ++ words c) (solid_qualifiers (words a) ha)
    (solid_append (words d) (words c) (solid_bases (words d) hd.bases) (solid_qualifiers (words c) hc))) in
    let b : bare (spelled (a ++ (d ++ c))) ≡ words d =
    ap unqualified (pieces_are (a ++ (d ++ c)) s ∙ w) ∙ (drop_qualifiers (words a) (words d ++ words c) ha ∙
    (keep_bases (words d) (words c) hd.bases ∙ (ap (λ z. words d ++ z) (no_qualifiers (words c) hc) ∙
    append_nothing (words d)))) in
    ap is_some (base_bare (spelled (a ++ (d ++ c))) ∙ ap base_by b) ∙ hd.base

pub qualifiers_append : (a b : List Spot) → Qualifiers (words a) → Qualifiers (words b) → Qualifiers (words (a ++ b))
qualifiers_append [] b h k = k
qualifiers_append (m ∷ a) b h k = (h.0, qualifiers_append a b h.1 k)
