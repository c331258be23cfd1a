-- A selection is a postfix node of one part, and a unit without vectors has none.
use Rattle.std.proofs.Common.{◌≡◌, ℕ, ◌<◌, ◌≤◌, Bool, true, false, ◌||◌, List, [], ◌∷◌, length}
use Rattle.std.proofs.Common.{refl, sym, ap, ◌∙◌, arith}
use Rattle.std.proofs.lemmas.Bool.{false≢true}
use Rattle.cl_tree.specs.declared.tree.Tree.{Tree}
use Rattle.cl_tree.specs.declared.tree.Form.TheVariants as forms
use Rattle.cl_tree.specs.Syntax.{Syntax, node, Forest, none, more, views}
use Rattle.cl_tree.specs.Selections.{is_selection, has_selection, have_selection}
use Rattle.cl_meaning.specs.Kinds.{is_some}
use Rattle.cl_short_vec.specs.Types.{vector_type}
use Rattle.cl_short_vec.specs.Plain.{is_pointed, is_about_vectors, has_vectors, have_vectors}

module _ (f l : ℕ) where
  pub one_part : (w : List ℕ) (ts : List Tree) → 1 ≤ length ts → length ts < 2 →
      is_selection (node forms.PostfixNode w f l (views ts)) ≡ is_pointed w
  one_part w [] h k = absurd (omega arith)
  one_part [] (t ∷ []) h k = refl
  one_part (byte ∷ w) (t ∷ []) h k = refl
  one_part w (t ∷ (u ∷ ts)) h k = absurd (omega arith)

  pub no_parts : (w : List ℕ) (ts : List Tree) → length ts < 1 →
      is_selection (node forms.PostfixNode w f l (views ts)) ≡ false
  no_parts [] [] h = refl
  no_parts (byte ∷ w) [] h = refl
  no_parts w (t ∷ ts) h = absurd (omega arith)

  pub two_parts : (w : List ℕ) (ts : List Tree) → 2 ≤ length ts →
      is_selection (node forms.PostfixNode w f l (views ts)) ≡ false
  two_parts w [] h = absurd (omega arith)
  two_parts w (t ∷ []) h = absurd (omega arith)
  two_parts [] (t ∷ (u ∷ ts)) h = refl
  two_parts (byte ∷ w) (t ∷ (u ∷ ts)) h = refl

pub ruleset selection_parts = (one_part, no_parts, two_parts)

-- ---- a unit without vectors has no selection

either_false : (a b : Bool) → (a || b) ≡ false → (a ≡ false) × (b ≡ false)
either_false true b h = absurd (false≢true (sym h))
either_false false b h = (refl, h)

mutual
  pub none_selected : (t : Syntax) → has_vectors t ≡ false → has_selection t ≡ false
  none_selected (node form w f l ps) h =
      let here = either_false (is_about_vectors (node form w f l ps)) (have_vectors ps) h in
      let not_here = either_false (is_some (vector_type (node form w f l ps))) (is_selection (node form w f l ps))
      here.0 in
      ap (λ (z : Bool). z || have_selection ps) not_here.1 ∙ none_selected_in ps here.1

  none_selected_in : (ts : Forest) → have_vectors ts ≡ false → have_selection ts ≡ false
  none_selected_in none h = refl
  none_selected_in (more t ts) h =
      let both = either_false (has_vectors t) (have_vectors ts) h in
      ap (λ (z : Bool). z || have_selection ts) (none_selected t both.0) ∙ none_selected_in ts both.1
