-- What stands for an expression has at most 8 nodes for each of its nodes, and so has each component of a place.
use Rattle.std.proofs.Common.{ℕ, suc, ◌+◌, ◌*◌, ◌≤◌, Option, Some, None, arith}
use Rattle.cl_tree.specs.declared.tree.Form.{Form}
use Rattle.cl_tree.specs.declared.tree.Form.TheVariants as forms
use Rattle.cl_tree.specs.Syntax.{Syntax, node, Forest}
use Rattle.cl_tree.specs.Nodes.{forest1, forest2}
use Rattle.cl_meaning.specs.Spelling.{setting_in, prefix_in, postfix_in}
use Rattle.cl_meaning.specs.Declarations.{form_of, word_of}
use Rattle.cl_meaning.specs.declared.operators.Prefix.{Prefix}
use Rattle.cl_meaning.specs.declared.operators.Prefix.TheVariants as prefixes
use Rattle.cl_meaning.specs.declared.operators.Postfix.{Postfix}
use Rattle.cl_meaning.specs.declared.operators.Postfix.TheVariants as postfixes
use Rattle.cl_meaning.specs.declared.operators.Setting.{Setting}
use Rattle.cl_meaning.specs.declared.operators.Setting.TheVariants as settings
use Rattle.cl_limits.specs.Limits.{count_nodes, count_forest}
use Rattle.cl_short_vec.specs.declared.nodes.Span.{Span}
use Rattle.cl_short_vec.specs.declared.types.Vector.{Vector}
use Rattle.cl_short_vec.specs.declared.kinds.Kind.{Kind}
use Rattle.cl_short_vec.specs.declared.kinds.Kind.TheVariants.{Pointer, Other}
use Rattle.cl_short_vec.specs.Plain.{is_pointed}
use Rattle.cl_short_vec.specs.Marks.{Mark, mark, Marks, unmarked, marking, kind_at}
use Rattle.cl_short_vec.specs.Order.{is_through}
use Rattle.cl_short_vec.specs.Nodes.{span_of, with_parts, scaled, further}
use Rattle.cl_short_vec.specs.Scalar.{leaf_by, prefixed, postfixed, one_by, moved_by, two_by}
use Rattle.cl_short_vec.specs.Scalar.{one_component, element_component, content_component, chosen_or, scalar, scalars}
use Rattle.cl_short_vec.specs.Scalar.{component_at}
use Rattle.cl_short_vec_form.proofs.Counting.{either_count, size, sizes}

-- ---- nodes

pub scaled_count : (v : Vector) (i : Syntax) → count_nodes (scaled v i) ≤ count_nodes i + 5
scaled_count v i = omega arith

pub further_count : (c : ℕ) (i : Syntax) → count_nodes (further c i) ≤ count_nodes i + 2
further_count c i = omega arith

leaf_count : (form : Form) (t : Syntax) → count_nodes (leaf_by form t) ≤ 1
leaf_count forms.TypeNode (node form w f l ps) = omega arith
leaf_count g (node form w f l ps) = omega arith

one_part : (t p : Syntax) → count_nodes (with_parts t (forest1 p)) ≤ count_nodes p + 6
one_part (node form w f l ps) p = omega arith

two_parts : (t a b : Syntax) → count_nodes (with_parts t (forest2 a b)) ≤ count_nodes a + (count_nodes b + 8)
two_parts (node form w f l ps) a b = omega arith

prefixed_count : (o : Option Prefix) (k : Kind) (t p : Syntax) → count_nodes (prefixed o k t p) ≤ count_nodes p + 6
prefixed_count (Some prefixes.Content) (Pointer space c v) t p = omega arith
prefixed_count (Some (prefixes.Step op)) (Pointer space c v) t p = omega arith
prefixed_count o k t p = one_part t p

postfixed_count : (o : Option Postfix) (k : Kind) (t p : Syntax) → count_nodes (postfixed o k t p) ≤ count_nodes p + 6
postfixed_count (Some (postfixes.Step op)) (Pointer space c v) t p = omega arith
postfixed_count o k t p = one_part t p

selected_count : (p : Syntax) → count_nodes p ≤ count_nodes p + 6
selected_count p = omega arith

one_count : (form : Form) (k : Kind) (t p : Syntax) → count_nodes (one_by form k t p) ≤ count_nodes p + 6
one_count forms.TypeNode k (node form w f l ps) p = omega arith
one_count forms.UnaryNode k t p = prefixed_count (prefix_in (word_of t)) k t p
one_count forms.PostfixNode k t p =
    either_count (is_pointed (word_of t)) p (postfixed (postfix_in (word_of t)) k t p) (count_nodes p + 6)
    (selected_count p) (postfixed_count (postfix_in (word_of t)) k t p)
one_count form k t p = one_part t p

moved_count : (o : Option Setting) (v : Vector) (b : Syntax) → count_nodes (moved_by o v b) ≤ count_nodes b + 5
moved_count (Some (settings.With op)) v b = scaled_count v b
moved_count o v b = omega arith

-- parts that are a little larger
two_larger : (t a b x y : Syntax) → count_nodes x + count_nodes y ≤ count_nodes a + (count_nodes b + 5) →
    count_nodes (with_parts t (forest2 x y)) ≤ count_nodes a + (count_nodes b + 8)
two_larger (node form w f l ps) a b x y h = omega arith

two_count : (form : Form) (j k : Kind) (t a b : Syntax) →
    count_nodes (two_by form j k t a b) ≤ count_nodes a + (count_nodes b + 8)
two_count forms.PostfixNode (Pointer space c v) k t a b = omega arith
two_count forms.AssignNode (Pointer space c v) (Other y) t a b =
    let h = moved_count (setting_in (word_of t)) v b in
    two_larger t a b a (moved_by (setting_in (word_of t)) v b) (omega arith)
two_count forms.SumNode (Pointer space c v) (Other y) t a b = two_larger t a b a (scaled v b) (omega arith)
two_count forms.SumNode (Other y) (Pointer space c v) t a b = two_larger t a b (scaled v a) b (omega arith)
two_count form j k t a b = two_parts t a b

element_count : (form : Form) (k : Kind) (c : ℕ) (s : Span) (t a b : Syntax) →
    count_nodes (element_component form k c s t a b) ≤ count_nodes a + (count_nodes b + 8)
element_count forms.PostfixNode (Pointer space d v) c s t a b = omega arith
element_count form k c s t a b = two_parts t a b

content_count : (form : Form) (o : Option Prefix) (k : Kind) (c : ℕ) (s : Span) (t p : Syntax) →
    count_nodes (content_component form o k c s t p) ≤ count_nodes p + 6
content_count forms.UnaryNode (Some prefixes.Content) (Pointer space d v) c s t p = omega arith
content_count forms.PostfixNode o k c s t p = omega arith
content_count form o k c s t p = one_part t p

chosen_count : (o : Option ℕ) (g : ℕ → Syntax) (t : Syntax) (n : ℕ) → ((c : ℕ) → count_nodes (g c) ≤ n) →
    count_nodes t ≤ n → count_nodes (chosen_or o g t) ≤ n
chosen_count (Some c) g t n h k = h c
chosen_count None g t n h k = k

-- ---- 8 nodes for each node

leaf_fits : (x : ℕ) → x ≤ 1 → x ≤ 8 * 1
leaf_fits x h = omega arith

inner_fits : (x n : ℕ) → x ≤ 8 * n → x ≤ 8 * suc (n + 0)
inner_fits x n h = omega arith

one_fits : (x y n : ℕ) → x ≤ y + 6 → y ≤ 8 * n → x ≤ 8 * suc (n + 0)
one_fits x y n h k = omega arith

two_fits : (x y z m n : ℕ) → x ≤ y + (z + 8) → y ≤ 8 * m → z ≤ 8 * n → x ≤ 8 * suc (m + (n + 0))
two_fits x y z m n h k i = omega arith

sum_fits : (x y m n : ℕ) → x ≤ 8 * m → y ≤ 8 * n → x + y ≤ 8 * (m + n)
sum_fits x y m n h k = omega arith

with_fits : (t : Syntax) (ps : Forest) (n : ℕ) → count_forest ps ≤ 8 * n →
    count_nodes (with_parts t ps) ≤ 8 * suc n
with_fits (node form w f l qs) ps n h = fits (count_forest ps) n h
  where
    fits : (x n : ℕ) → x ≤ 8 * n → suc x ≤ 8 * suc n
    fits x n h = omega arith

-- ---- expressions

mutual
  unfolding scalar scalars component_at

  pub scalar_count : (m : Mark) → count_nodes (scalar m) ≤ 8 * size m
  scalar_count (mark t k unmarked) = leaf_fits (count_nodes (leaf_by (form_of t) t)) (leaf_count (form_of t) t)
  scalar_count (mark t k (marking a unmarked)) =
      chosen_count (one_component (mark t k (marking a unmarked))) (λ c. component_at c (span_of t) a)
      (one_by (form_of t) (kind_at a) t (scalar a)) (8 * suc (size a + 0))
      (λ c. inner_fits (count_nodes (component_at c (span_of t) a)) (size a) (component_count c (span_of t) a))
      (one_fits (count_nodes (one_by (form_of t) (kind_at a) t (scalar a))) (count_nodes (scalar a)) (size a)
      (one_count (form_of t) (kind_at a) t (scalar a)) (scalar_count a))
  scalar_count (mark t k (marking a (marking b unmarked))) =
      two_fits (count_nodes (two_by (form_of t) (kind_at a) (kind_at b) t (scalar a) (scalar b)))
      (count_nodes (scalar a)) (count_nodes (scalar b)) (size a) (size b)
      (two_count (form_of t) (kind_at a) (kind_at b) t (scalar a) (scalar b)) (scalar_count a) (scalar_count b)
  scalar_count (mark t k (marking a (marking b (marking c others)))) =
      with_fits t (scalars (marking a (marking b (marking c others))))
      (sizes (marking a (marking b (marking c others)))) (scalars_count (marking a (marking b (marking c others))))

  pub scalars_count : (ms : Marks) → count_forest (scalars ms) ≤ 8 * sizes ms
  scalars_count unmarked = omega arith
  scalars_count (marking m ms) =
      sum_fits (count_nodes (scalar m)) (count_forest (scalars ms)) (size m) (sizes ms) (scalar_count m)
      (scalars_count ms)

  component_count : (c : ℕ) (s : Span) (m : Mark) → count_nodes (component_at c s m) ≤ 8 * size m
  component_count c s (mark t k unmarked) = omega arith
  component_count c s (mark t k (marking a unmarked)) =
      either_count (is_through t) (component_at c s a)
      (content_component (form_of t) (prefix_in (word_of t)) (kind_at a) c s t (scalar a)) (8 * suc (size a + 0))
      (inner_fits (count_nodes (component_at c s a)) (size a) (component_count c s a))
      (one_fits (count_nodes (content_component (form_of t) (prefix_in (word_of t)) (kind_at a) c s t (scalar a)))
      (count_nodes (scalar a)) (size a)
      (content_count (form_of t) (prefix_in (word_of t)) (kind_at a) c s t (scalar a)) (scalar_count a))
  component_count c s (mark t k (marking a (marking b unmarked))) =
      two_fits (count_nodes (element_component (form_of t) (kind_at a) c s t (scalar a) (scalar b)))
      (count_nodes (scalar a)) (count_nodes (scalar b)) (size a) (size b)
      (element_count (form_of t) (kind_at a) c s t (scalar a) (scalar b)) (scalar_count a) (scalar_count b)
  component_count c s (mark t k (marking a (marking b (marking d others)))) =
      with_fits t (scalars (marking a (marking b (marking d others))))
      (sizes (marking a (marking b (marking d others)))) (scalars_count (marking a (marking b (marking d others))))
