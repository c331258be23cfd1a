-- The plain form of a tree that names no vector type and selects nothing is the tree.
use Rattle.std.proofs.Common.{◌≡◌, ℕ, List, [], ◌∷◌, Option, None, Some, Bool, true, false, ◌||◌, refl, ap, sym}
use Rattle.std.proofs.Common.{◌∙◌, if◌then◌else◌}
use Rattle.std.proofs.lemmas.Bool.{false≢true}
use Rattle.cl_tree.specs.declared.tree.Form.{Form}
use Rattle.cl_tree.specs.declared.tree.Form.TheVariants as forms
use Rattle.cl_tree.specs.Syntax.{Syntax, node, Forest, none, more}
use Rattle.cl_tree.specs.Nodes.{forest1}
use Rattle.cl_tree.specs.Selections.{is_selection}
use Rattle.cl_meaning.specs.Kinds.{is_some}
use Rattle.cl_short_vec.specs.declared.types.Vector.{Vector}
use Rattle.cl_short_vec.specs.Types.{vector_in}
use Rattle.cl_short_vec.specs.Plain.{is_about_vectors, has_vectors, have_vectors}
use Rattle.cl_short_vec.specs.Scalar.{component_words}
use Rattle.cl_short_vec_faults.specs.PlainForm.{plain_by, plain_of, plains_of}

neither : (a b : Bool) → (a || b) ≡ false → (a ≡ false) × (b ≡ false)
neither true b h = absurd (false≢true (sym h))
neither false b h = (refl, h)

words_same : (w : List ℕ) (o : Option Vector) → is_some o ≡ false → component_words o w ≡ w
words_same w None h = refl
words_same w (Some v) h = absurd (false≢true (sym h))

unselected : (w : List ℕ) (f l : ℕ) (a : Syntax) →
    is_selection (node forms.PostfixNode w f l (more a none)) ≡ false →
    plain_by forms.PostfixNode (node forms.PostfixNode w f l (more a none)) (more a none) ≡
    node forms.PostfixNode w f l (more a none)
unselected [] f l a h = refl
unselected (b ∷ w) f l a h = ap (λ z. if z then a else node forms.PostfixNode (b ∷ w) f l (forest1 a)) h

node_same : (form : Form) (w : List ℕ) (f l : ℕ) (parts : Forest) → is_about_vectors (node form w f l parts) ≡ false →
    plain_by form (node form w f l parts) parts ≡ node form w f l parts
node_same forms.TypeNode w f l parts h =
    ap (λ z. node forms.TypeNode z f l parts) (words_same w (vector_in w)
    (neither (is_some (vector_in w)) (is_selection (node forms.TypeNode w f l parts)) h).0)
node_same forms.PostfixNode w f l none h = refl
node_same forms.PostfixNode w f l (more a none) h = unselected w f l a h
node_same forms.PostfixNode w f l (more a (more b bs)) h = refl
node_same _ w f l parts h = refl

mutual
  unfolding plain_of plains_of

  pub plain_same : (t : Syntax) → has_vectors t ≡ false → plain_of t ≡ t
  plain_same (node form w f l parts) h =
      let d = neither (is_about_vectors (node form w f l parts)) (have_vectors parts) h in
      ap (plain_by form (node form w f l parts)) (plains_same parts d.1) ∙ node_same form w f l parts d.0

  pub plains_same : (parts : Forest) → have_vectors parts ≡ false → plains_of parts ≡ parts
  plains_same none h = refl
  plains_same (more p ps) h =
      let d = neither (has_vectors p) (have_vectors ps) h in
      ap (λ z. more z (plains_of ps)) (plain_same p d.0) ∙ ap (λ z. more p z) (plains_same ps d.1)
