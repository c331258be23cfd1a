-- Trees, and their views.
use Rattle.std.proofs.Common.{ℕ, suc, zero, [], ◌∷◌, ◌++◌, ◌-◌, ◌≤◌, length, map, take, drop, get_or, List, Option}
use Rattle.std.proofs.Common.{Some, None, true, false, ◌≡◌, refl, sym, ap, ◌∙◌, arith}
use Rattle.cl_tree.specs.declared.tree.Form.{Form}
use Rattle.cl_tree.specs.declared.tree.Form.TheVariants as forms
use Rattle.cl_tree.specs.declared.tree.Tree.{Tree}
use Rattle.cl_tree.specs.declared.tree.Tree.TheViews.{out-Tree}
use Rattle.cl_tree.specs.Syntax.{Syntax, node, Forest, view, views, forest}
use Rattle.cl_meaning.proofs.Views.{view_out}
use Rattle.cl_meaning.specs.Declarations.{listed, behind_star, but_last, last_one, is_star, parts_of, is_list}
use Rattle.cl_meaning.specs.Declarations.{initial_values}

pub listed_forest : (ts : List Syntax) → listed (forest ts) ≡ ts
listed_forest [] = refl
listed_forest (t ∷ ts) = ap (λ us. t ∷ us) (listed_forest ts)

pub listed_views : (ts : List Tree) → listed (views ts) ≡ map view ts
listed_views ts = listed_forest (map view ts)

pub parts_counted : (t : Tree) → length (listed (parts_of (view t))) ≡ length (out-Tree t).parts.items
parts_counted t = ap (λ (s : Syntax). length (listed (parts_of s))) (view_out t) ∙
    ap (λ (xs : List Syntax). length xs) (listed_views (out-Tree t).parts.items) ∙ lengths_same (out-Tree t).parts.items
  where
    lengths_same : (ts : List Tree) → length (map view ts) ≡ length ts
    lengths_same [] = refl
    lengths_same (t ∷ ts) = ap suc (lengths_same ts)

no_star : (form : Form) (w : List ℕ) (f l : ℕ) (ps : Forest) → (form ≡ forms.StarNode → ⊥) →
    is_star (node form w f l ps) ≡ false
no_star forms.StarNode w f l ps h = absurd (h refl)
no_star form w f l ps h = refl

a_star : (t : Tree) → (out-Tree t).form ≡ forms.StarNode → is_star (view t) ≡ true
a_star t h = rw (view_out t, h) refl

not_star : (t : Tree) → ((out-Tree t).form ≡ forms.StarNode → ⊥) → is_star (view t) ≡ false
not_star t h = ap is_star (view_out t) ∙
    no_star (out-Tree t).form (out-Tree t).word (out-Tree t).first (out-Tree t).last (views (out-Tree t).parts.items) h

-- the parts behind the first one, where it is a star
pub star_gone : (ts : List Tree) (t : Tree) → 1 ≤ length ts → t ≡ get_or ts 0 t → (out-Tree t).form ≡ forms.StarNode
    → map view (take (length ts - 1) (drop 1 ts)) ≡ listed (behind_star (views ts))
star_gone [] t n e h = absurd (omega arith)
star_gone (u ∷ us) t n e h =
    let s : is_star (view u) ≡ true = ap (λ (x : Tree). is_star (view x)) (sym e) ∙ a_star t h in
    let k : suc (length us) - 1 ≡ length us = omega arith in
    rw (s, k) (ap (λ (x : List Tree). map view x) (take_all us) ∙ sym (listed_views us))
  where
    take_all : (xs : List Tree) → take (length xs) xs ≡ xs
    take_all [] = refl
    take_all (x ∷ xs) = ap (λ ys. x ∷ ys) (take_all xs)

-- all parts, where the first one is no star
pub no_star_gone : (ts : List Tree) (t : Tree) → 1 ≤ length ts → t ≡ get_or ts 0 t →
    ((out-Tree t).form ≡ forms.StarNode → ⊥)
    → map view ts ≡ listed (behind_star (views ts))
no_star_gone [] t n e h = absurd (omega arith)
no_star_gone (u ∷ us) t n e h =
    let s : is_star (view u) ≡ false = ap (λ (x : Tree). is_star (view x)) (sym e) ∙ not_star t h in
    rw s (ap (λ ys. view u ∷ ys) (sym (listed_views us)))

pub front_of : (ts : List Tree) (n : ℕ) → suc n ≡ length ts → map view (take n ts) ≡ but_last (map view ts)
front_of [] n h = absurd (omega arith)
front_of (t ∷ []) zero h = refl
front_of (t ∷ []) (suc n) h = absurd (omega arith)
front_of (t ∷ u ∷ us) zero h = absurd (omega arith)
front_of (t ∷ u ∷ us) (suc n) h = ap (λ ys. view t ∷ ys) (front_of (u ∷ us) n (omega arith))

pub end_of : (ts : List Tree) (n : ℕ) (t : Tree) → suc n ≡ length ts → t ≡ get_or ts n t →
    Some (view t) ≡ last_one (map view ts)
end_of [] n t h e = absurd (omega arith)
end_of (u ∷ []) zero t h e = ap (λ (x : Tree). Some (view x)) e
end_of (u ∷ []) (suc n) t h e = absurd (omega arith)
end_of (u ∷ v ∷ us) zero t h e = absurd (omega arith)
end_of (u ∷ v ∷ us) (suc n) t h e = end_of (v ∷ us) n t (omega arith) e

-- ---- lengths

-- lengths that were read, in front of others
abbrev pub in_front : List ℕ → Option (List ℕ) → Option (List ℕ)
in_front done None = None
in_front done (Some ns) = Some (done ++ ns)

pub parts_listed : (t : Tree) → listed (parts_of (view t)) ≡ map view (out-Tree t).parts.items
parts_listed t = ap (λ (s : Syntax). listed (parts_of s)) (view_out t) ∙ listed_views (out-Tree t).parts.items

-- the values of a list in braces are its parts
pub listed_values : (o : Option Syntax) (t : Tree) → o ≡ Some (view t) → is_list o ≡ true →
    initial_values o ≡ map view (out-Tree t).parts.items
listed_values o t e h =
    let k : is_list (Some (view t)) ≡ true = ap is_list (sym e) ∙ h in
    ap initial_values e ∙ rw k (parts_listed t)
