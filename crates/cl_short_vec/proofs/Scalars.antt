-- Expressions without vectors, in order, and nodes of three parts and more.
use Rattle.std.proofs.Common.{ℕ, List, [], ◌∷◌, ◌++◌, ◌+◌, ◌<◌, ◌≤◌, length, drop, get_or, ◌≡◌, refl, sym, ap, ◌∙◌}
use Rattle.std.proofs.Common.{arith, None, false, subst}
use Rattle.cl_tree.specs.declared.tree.Tree.{Tree}
use Rattle.cl_tree.specs.Syntax.{Syntax, Forest, joined, view, views}
use Rattle.cl_short_vec.specs.declared.marks.Marked.{Marked}
use Rattle.cl_short_vec.specs.declared.marks.Marked.TheViews.{out-Marked}
use Rattle.cl_short_vec.specs.declared.nodes.Span.{Span}
use Rattle.cl_short_vec.specs.declared.kinds.Kind.{Kind}
use Rattle.cl_meaning.specs.Declarations.{form_of, word_of}
use Rattle.cl_meaning.specs.Spelling.{prefix_in}
use Rattle.cl_short_vec.specs.Marks.{Mark, mark, unmarked, marking, kind_at}
use Rattle.cl_short_vec.specs.Nodes as nodes
use Rattle.cl_short_vec.specs.Order.{is_through}
use Rattle.cl_short_vec.specs.Scalar.{scalar, scalars, component_at, one_by, two_by, one_component, element_component}
use Rattle.cl_short_vec.specs.Scalar.{content_component}
use Rattle.cl_short_vec.specs.View.{mark_of, marks_of}
use Rattle.cl_short_vec.proofs.Views.{mark_out, kind_seen, one_part, two_parts}
use Rattle.cl_short_vec.proofs.Growing.{grown_one, grown_all}

module _ (ms : List Marked) (i : ℕ) (ts : List Tree) (goal : Forest)
    (inner : joined (views ts) (scalars (marks_of (drop i ms))) ≡ goal) where
  pub scalars_more : (m : Marked) (t : Tree) (us : List Tree) → i < length ms → m ≡ get_or ms i m →
      view t ≡ scalar (mark_of m) → us ≡ ts ++ t ∷ [] →
      joined (views us) (scalars (marks_of (drop (i + 1) ms))) ≡ goal
  unfolding scalars
  scalars_more = grown_one (λ (xs : List Marked). scalars (marks_of xs)) (λ (x : Marked). scalar (mark_of x)) refl
      (λ x xs. refl) ms i ts goal inner

  pub scalars_done : length ms ≤ i → views ts ≡ goal
  unfolding scalars
  scalars_done = grown_all (λ (xs : List Marked). scalars (marks_of xs)) (λ (x : Marked). scalar (mark_of x)) refl
      (λ x xs. refl) ms i ts goal inner

-- ---- nodes, by their parts

module _ (n : ℕ) (s : Span) (t : Syntax) (k : Kind) where
  content_of : (x : Mark) (j : Kind) (a : Syntax) → is_through t ≡ false → kind_at x ≡ j → a ≡ scalar x →
      content_component (form_of t) (prefix_in (word_of t)) j n s t a ≡ component_at n s (mark t k (marking x unmarked))
  unfolding component_at
  content_of x j a h e d =
      ap (λ z. content_component (form_of t) (prefix_in (word_of t)) z n s t a) (sym e) ∙
      (ap (λ z. content_component (form_of t) (prefix_in (word_of t)) (kind_at x) n s t z) d ∙ sym (rw h refl))

  element_of : (x y : Mark) (j : Kind) (a b : Syntax) → kind_at x ≡ j → a ≡ scalar x → b ≡ scalar y →
      element_component (form_of t) j n s t a b ≡ component_at n s (mark t k (marking x (marking y unmarked)))
  unfolding component_at
  element_of x y j a b e d f =
      ap (λ z. element_component (form_of t) z n s t a b) (sym e) ∙
      (ap (λ z. element_component (form_of t) (kind_at x) n s t z b) d ∙
      ap (λ z. element_component (form_of t) (kind_at x) n s t (scalar x) z) f)

  component_of_many : (ms : List Marked) → 3 ≤ length ms →
      component_at n s (mark t k (marks_of ms)) ≡ nodes.with_parts t (scalars (marks_of ms))
  unfolding component_at
  component_of_many [] h = absurd (omega (arith, h))
  component_of_many (a ∷ []) h = absurd (omega (arith, h))
  component_of_many (a ∷ b ∷ []) h = absurd (omega (arith, h))
  component_of_many (a ∷ b ∷ c ∷ ms) h = refl

module _ (t : Syntax) (k : Kind) where
  one_of : (x : Mark) (j : Kind) (a : Syntax) → None ≡ one_component (mark t k (marking x unmarked)) →
      kind_at x ≡ j → a ≡ scalar x → one_by (form_of t) j t a ≡ scalar (mark t k (marking x unmarked))
  unfolding scalar
  one_of x j a h e d =
      ap (λ z. one_by (form_of t) z t a) (sym e) ∙
      (ap (λ z. one_by (form_of t) (kind_at x) t z) d ∙ sym (rw (sym h) refl))

  two_of : (x y : Mark) (i j : Kind) (a b : Syntax) → kind_at x ≡ i → kind_at y ≡ j → a ≡ scalar x → b ≡ scalar y →
      two_by (form_of t) i j t a b ≡ scalar (mark t k (marking x (marking y unmarked)))
  unfolding scalar
  two_of x y i j a b e f c d =
      ap (λ z. two_by (form_of t) z j t a b) (sym e) ∙
      (ap (λ z. two_by (form_of t) (kind_at x) z t a b) (sym f) ∙
      (ap (λ z. two_by (form_of t) (kind_at x) (kind_at y) t z b) c ∙
      ap (λ z. two_by (form_of t) (kind_at x) (kind_at y) t (scalar x) z) d))

  scalar_of_many : (ms : List Marked) → 3 ≤ length ms →
      scalar (mark t k (marks_of ms)) ≡ nodes.with_parts t (scalars (marks_of ms))
  unfolding scalar
  scalar_of_many [] h = absurd (omega (arith, h))
  scalar_of_many (a ∷ []) h = absurd (omega (arith, h))
  scalar_of_many (a ∷ b ∷ []) h = absurd (omega (arith, h))
  scalar_of_many (a ∷ b ∷ c ∷ ms) h = refl

module _ (m : Marked) (ps : List Marked) (is : ps ≡ (out-Marked m).parts.items) where
  -- a component of a node of one part, of two, and of more
  pub content_found : (n : ℕ) (s : Span) (p : Marked) (a : Syntax) → length ps ≡ 1 → p ≡ get_or ps 0 p →
      is_through (view (out-Marked m).tree.now) ≡ false → a ≡ scalar (mark_of p) →
      content_component (form_of (view (out-Marked m).tree.now)) (prefix_in (word_of (view (out-Marked m).tree.now)))
      (out-Marked p).kind n s (view (out-Marked m).tree.now) a ≡ component_at n s (mark_of m)
  content_found n s p a h e g d =
      content_of n s (view (out-Marked m).tree.now) (out-Marked m).kind (mark_of p) (out-Marked p).kind a g
      (kind_seen p) d ∙ sym (ap (λ z. component_at n s z) (one_part m p ps is h e))

  pub element_found : (n : ℕ) (s : Span) (p q : Marked) (a b : Syntax) → length ps ≡ 2 → p ≡ get_or ps 0 p →
      q ≡ get_or ps 1 q → a ≡ scalar (mark_of p) → b ≡ scalar (mark_of q) →
      element_component (form_of (view (out-Marked m).tree.now)) (out-Marked p).kind n s
      (view (out-Marked m).tree.now) a b ≡ component_at n s (mark_of m)
  element_found n s p q a b h e f c d =
      element_of n s (view (out-Marked m).tree.now) (out-Marked m).kind (mark_of p) (mark_of q) (out-Marked p).kind a b
      (kind_seen p) c d ∙ sym (ap (λ z. component_at n s z) (two_parts m p q ps is h e f))

  pub component_many : (n : ℕ) (s : Span) (qs : List Marked) (f : Forest) → qs ≡ (out-Marked m).parts.items →
      3 ≤ length ps → f ≡ scalars (marks_of qs) →
      nodes.with_parts (view (out-Marked m).tree.now) f ≡ component_at n s (mark_of m)
  component_many n s qs f e h d =
      ap (λ z. nodes.with_parts (view (out-Marked m).tree.now) z) (d ∙ ap (λ z. scalars (marks_of z)) e) ∙
      (sym (component_of_many n s (view (out-Marked m).tree.now) (out-Marked m).kind (out-Marked m).parts.items
      (subst (λ (z : List Marked). 3 ≤ length z) is h)) ∙ sym (ap (λ z. component_at n s z) (mark_out m)))

  -- a node of one part, of two, and of more
  pub one_found : (p : Marked) (a : Syntax) → length ps ≡ 1 → p ≡ get_or ps 0 p → None ≡ one_component (mark_of m) →
      a ≡ scalar (mark_of p) → one_by (form_of (view (out-Marked m).tree.now)) (out-Marked p).kind
      (view (out-Marked m).tree.now) a ≡ scalar (mark_of m)
  one_found p a h e g d =
      one_of (view (out-Marked m).tree.now) (out-Marked m).kind (mark_of p) (out-Marked p).kind a
      (g ∙ ap (λ z. one_component z) (one_part m p ps is h e)) (kind_seen p) d ∙
      sym (ap (λ z. scalar z) (one_part m p ps is h e))

  pub two_found : (p q : Marked) (a b : Syntax) → length ps ≡ 2 → p ≡ get_or ps 0 p → q ≡ get_or ps 1 q →
      a ≡ scalar (mark_of p) → b ≡ scalar (mark_of q) →
      two_by (form_of (view (out-Marked m).tree.now)) (out-Marked p).kind (out-Marked q).kind
      (view (out-Marked m).tree.now) a b ≡ scalar (mark_of m)
  two_found p q a b h e f c d =
      two_of (view (out-Marked m).tree.now) (out-Marked m).kind (mark_of p) (mark_of q) (out-Marked p).kind
      (out-Marked q).kind a b (kind_seen p) (kind_seen q) c d ∙
      sym (ap (λ z. scalar z) (two_parts m p q ps is h e f))

  pub scalar_many : (qs : List Marked) (f : Forest) → qs ≡ (out-Marked m).parts.items → 3 ≤ length ps →
      f ≡ scalars (marks_of qs) → nodes.with_parts (view (out-Marked m).tree.now) f ≡ scalar (mark_of m)
  scalar_many qs f e h d =
      ap (λ z. nodes.with_parts (view (out-Marked m).tree.now) z) (d ∙ ap (λ z. scalars (marks_of z)) e) ∙
      (sym (scalar_of_many (view (out-Marked m).tree.now) (out-Marked m).kind (out-Marked m).parts.items
      (subst (λ (z : List Marked). 3 ≤ length z) is h)) ∙ sym (ap (λ z. scalar z) (mark_out m)))
