-- Barriers stand no deeper in an expression without vectors than in the expression.
use Rattle.std.proofs.Common.{ℕ, ◌≤◌, List, Option, Some, None, Bool, true, false, if◌then◌else◌}
use Rattle.wg_num.specs.declared.types.Bin.{Bin}
use Rattle.cl_tree.specs.declared.tree.Form.{Form}
use Rattle.cl_tree.specs.declared.tree.Form.TheVariants as forms
use Rattle.cl_tree.specs.Syntax.{Syntax, node, Forest, none}
use Rattle.cl_tree.specs.Nodes.{forest1, forest2}
use Rattle.cl_limits.specs.Heights.{height_of, height_of_all}
use Rattle.cl_meaning.specs.Spelling.{setting_in, prefix_in, postfix_in}
use Rattle.cl_meaning.specs.Declarations.{form_of, word_of}
use Rattle.cl_meaning.specs.declared.operators.Prefix.{Prefix}
use Rattle.cl_meaning.specs.declared.operators.Prefix.TheVariants as prefixes
use Rattle.cl_meaning.specs.declared.operators.Postfix.{Postfix}
use Rattle.cl_meaning.specs.declared.operators.Postfix.TheVariants as postfixes
use Rattle.cl_meaning.specs.declared.operators.Setting.{Setting}
use Rattle.cl_meaning.specs.declared.operators.Setting.TheVariants as settings
use Rattle.cl_short_vec.specs.declared.nodes.Span.{Span}
use Rattle.cl_short_vec.specs.declared.types.Vector.{Vector}
use Rattle.cl_short_vec.specs.declared.kinds.Kind.{Kind}
use Rattle.cl_short_vec.specs.declared.kinds.Kind.TheVariants.{Pointer, Other}
use Rattle.cl_short_vec.specs.Types.{vector_in}
use Rattle.cl_short_vec.specs.Plain.{is_pointed}
use Rattle.cl_short_vec.specs.Marks.{Mark, mark, Marks, unmarked, marking, kind_at}
use Rattle.cl_short_vec.specs.Order.{is_through}
use Rattle.cl_short_vec.specs.Nodes.{span_of, with_parts, long_at, paren_at, joined_at, element_at, assigned_at}
use Rattle.cl_short_vec.specs.Nodes.{setting_word, scaled, further}
use Rattle.cl_short_vec.specs.Scalar.{component_words, leaf_by, counted, opposite, counted_behind}
use Rattle.cl_short_vec.specs.Scalar.{prefixed, postfixed, one_by, moved_by, two_by, one_component}
use Rattle.cl_short_vec.specs.Scalar.{element_component, content_component, chosen_or, scalar, scalars, component_at}
use Rattle.cl_short_vec_faults.proofs.HeightsNodes.{through, same, node_height, mark_height, marks_height, parts_below}
use Rattle.cl_short_vec_faults.proofs.HeightsNodes.{with_low, one_low, two_low, none_low, more_low, leaf_low}
use Rattle.cl_short_vec_faults.proofs.HeightsNodes.{paren_low, assigned_low, operator_low, element_low, scaled_low}
use Rattle.cl_short_vec_faults.proofs.HeightsNodes.{further_low}
use Rattle.cl_short_vec_faults.proofs.HeightsParts.{first_low, others_low}

-- ---- nodes of parts that are low

module _ (g : List ℕ → ℕ) (h : ℕ) where
  -- below the node with those parts
  up : (form : Form) (w : List ℕ) (n : ℕ) → n ≤ h → n ≤ node_height g form w h
  up form w n e = through n h (node_height g form w h) e (parts_below g form w h)

  leaf_by_low : (form : Form) (w : List ℕ) (f l : ℕ) (ps : Forest) →
      height_of g (leaf_by form (node form w f l ps)) ≤ node_height g form w h
  leaf_by_low forms.TypeNode w f l ps = with_low g (node forms.TypeNode (component_words (vector_in w) w) f l ps) none h
      (none_low g h)
  leaf_by_low form w f l ps = with_low g (node form w f l ps) none h (none_low g h)

  counted_low : (op : Bin) (v : Vector) (s : Span) (p : Syntax) → height_of g p ≤ h →
      height_of g (counted op v s p) ≤ h
  counted_low op v s p e = paren_low g h s (assigned_at (setting_word op) s p (long_at v.count s))
      (assigned_low g h (setting_word op) s p (long_at v.count s) e (leaf_low g h))

  behind_low : (op : Bin) (v : Vector) (s : Span) (p : Syntax) → height_of g p ≤ h →
      height_of g (counted_behind op v s p) ≤ h
  behind_low op v s p e =
      let x = joined_at (opposite op) s (counted op v s p) (long_at v.count s) in
      paren_low g h s x (operator_low g h (opposite op) s (counted op v s p) (long_at v.count s)
      (counted_low op v s p e) (leaf_low g h))

  with_one : (t : Syntax) (p : Syntax) → height_of g p ≤ h →
      height_of g (with_parts t (forest1 p)) ≤ node_height g (form_of t) (word_of t) h
  with_one t p e = with_low g t (forest1 p) h (one_low g h p e)

  with_two : (t : Syntax) (a b : Syntax) → height_of g a ≤ h → height_of g b ≤ h →
      height_of g (with_parts t (forest2 a b)) ≤ node_height g (form_of t) (word_of t) h
  with_two t a b p q = with_low g t (forest2 a b) h (two_low g h a b p q)

  prefixed_low : (o : Option Prefix) (k : Kind) (t p : Syntax) → height_of g p ≤ h →
      height_of g (prefixed o k t p) ≤ node_height g (form_of t) (word_of t) h
  prefixed_low (Some prefixes.Content) (Pointer space c v) t p e =
      up (form_of t) (word_of t) (height_of g (prefixed (Some prefixes.Content) (Pointer space c v) t p))
      (element_low g h (span_of t) (paren_at (span_of t) p) (long_at 0 (span_of t)) (paren_low g h (span_of t) p e)
      (leaf_low g h))
  prefixed_low (Some (prefixes.Step op)) (Pointer space c v) t p e =
      up (form_of t) (word_of t) (height_of g (counted op v (span_of t) p)) (counted_low op v (span_of t) p e)
  prefixed_low o k t p e = with_one t p e

  postfixed_low : (o : Option Postfix) (k : Kind) (t p : Syntax) → height_of g p ≤ h →
      height_of g (postfixed o k t p) ≤ node_height g (form_of t) (word_of t) h
  postfixed_low (Some (postfixes.Step op)) (Pointer space c v) t p e =
      up (form_of t) (word_of t) (height_of g (counted_behind op v (span_of t) p)) (behind_low op v (span_of t) p e)
  postfixed_low o k t p e = with_one t p e

  either_low : (b : Bool) (s t : Syntax) (n : ℕ) → height_of g s ≤ n → height_of g t ≤ n →
      height_of g (if b then s else t) ≤ n
  either_low true s t n p q = p
  either_low false s t n p q = q

  one_by_low : (form : Form) (w : List ℕ) (f l : ℕ) (ps : Forest) (k : Kind) (p : Syntax) → height_of g p ≤ h →
      height_of g (one_by form k (node form w f l ps) p) ≤ node_height g form w h
  one_by_low forms.TypeNode w f l ps k p e =
      with_one (node forms.TypeNode (component_words (vector_in w) w) f l ps) p e
  one_by_low forms.UnaryNode w f l ps k p e = prefixed_low (prefix_in w) k (node forms.UnaryNode w f l ps) p e
  one_by_low forms.PostfixNode w f l ps k p e =
      let t = node forms.PostfixNode w f l ps in
      either_low (is_pointed w) p (postfixed (postfix_in w) k t p) (node_height g forms.PostfixNode w h)
      (up forms.PostfixNode w (height_of g p) e) (postfixed_low (postfix_in w) k t p e)
  one_by_low form w f l ps k p e = with_one (node form w f l ps) p e

  moved_low : (o : Option Setting) (v : Vector) (b : Syntax) → height_of g b ≤ h → height_of g (moved_by o v b) ≤ h
  moved_low (Some (settings.With op)) v b e = scaled_low g h v b e
  moved_low o v b e = e

  two_by_low : (form : Form) (w : List ℕ) (f l : ℕ) (ps : Forest) (j k : Kind) (a b : Syntax) → height_of g a ≤ h →
      height_of g b ≤ h → height_of g (two_by form j k (node form w f l ps) a b) ≤ node_height g form w h
  two_by_low forms.PostfixNode w f l ps (Pointer space c v) k a b p q =
      let s : Span = record { first = f; last = l } in
      up forms.PostfixNode w (height_of g (element_at s a (scaled v b)))
      (element_low g h s a (scaled v b) p (scaled_low g h v b q))
  two_by_low forms.AssignNode w f l ps (Pointer space c v) (Other y) a b p q =
      with_two (node forms.AssignNode w f l ps) a (moved_by (setting_in w) v b) p (moved_low (setting_in w) v b q)
  two_by_low forms.SumNode w f l ps (Pointer space c v) (Other y) a b p q =
      with_two (node forms.SumNode w f l ps) a (scaled v b) p (scaled_low g h v b q)
  two_by_low forms.SumNode w f l ps (Other y) (Pointer space c v) a b p q =
      with_two (node forms.SumNode w f l ps) (scaled v a) b (scaled_low g h v a p) q
  two_by_low form w f l ps j k a b p q = with_two (node form w f l ps) a b p q

  element_part_low : (form : Form) (w : List ℕ) (f l : ℕ) (ps : Forest) (k : Kind) (c : ℕ) (s : Span) (a b : Syntax) →
      height_of g a ≤ h → height_of g b ≤ h →
      height_of g (element_component form k c s (node form w f l ps) a b) ≤ node_height g form w h
  element_part_low forms.PostfixNode w f l ps (Pointer space d v) c s a b p q =
      up forms.PostfixNode w (height_of g (element_at s a (further c (scaled v b))))
      (element_low g h s a (further c (scaled v b)) p (further_low g h c (scaled v b) (scaled_low g h v b q)))
  element_part_low form w f l ps k c s a b p q = with_two (node form w f l ps) a b p q

  content_low : (form : Form) (w : List ℕ) (f l : ℕ) (ps : Forest) (o : Option Prefix) (k : Kind) (c : ℕ) (s : Span)
      (p : Syntax) → height_of g p ≤ h →
      height_of g (content_component form o k c s (node form w f l ps) p) ≤ node_height g form w h
  content_low forms.UnaryNode w f l ps (Some prefixes.Content) (Pointer space d v) c s p e =
      let r : Span = record { first = f; last = l } in
      up forms.UnaryNode w (height_of g (element_at s (paren_at r p) (further c (long_at 0 r))))
      (element_low g h s (paren_at r p) (further c (long_at 0 r)) (paren_low g h r p e)
      (further_low g h c (long_at 0 r) (leaf_low g h)))
  content_low forms.PostfixNode w f l ps o k c s p e =
      let r : Span = record { first = f; last = l } in
      up forms.PostfixNode w (height_of g (paren_at r p)) (paren_low g h r p e)
  content_low form w f l ps o k c s p e = with_one (node form w f l ps) p e

  chosen_low : (o : Option ℕ) (x : ℕ → Syntax) (t : Syntax) (n : ℕ) → ((c : ℕ) → height_of g (x c) ≤ n) →
      height_of g t ≤ n → height_of g (chosen_or o x t) ≤ n
  chosen_low None x t n p q = q
  chosen_low (Some c) x t n p q = p c

-- ---- expressions

mutual
  unfolding scalar scalars component_at

  pub scalar_low : (g : List ℕ → ℕ) (m : Mark) → height_of g (scalar m) ≤ mark_height g m
  scalar_low g (mark (node form w f l ps) k unmarked) = leaf_by_low g 0 form w f l ps
  scalar_low g (mark (node form w f l ps) k (marking a unmarked)) =
      let n = marks_height g (marking a unmarked) in
      let t = node form w f l ps in
      let e = first_low g n a unmarked (same n) in
      let s : Span = record { first = f; last = l } in
      chosen_low g n (one_component (mark t k (marking a unmarked))) (λ c. component_at c s a)
      (one_by form (kind_at a) t (scalar a)) (node_height g form w n)
      (λ c. up g n form w (height_of g (component_at c s a))
      (through (height_of g (component_at c s a)) (mark_height g a) n (component_at_low g c s a) e))
      (one_by_low g n form w f l ps (kind_at a) (scalar a)
      (through (height_of g (scalar a)) (mark_height g a) n (scalar_low g a) e))
  scalar_low g (mark (node form w f l ps) k (marking a (marking b unmarked))) =
      let n = marks_height g (marking a (marking b unmarked)) in
      let x = first_low g n a (marking b unmarked) (same n) in
      let y = first_low g n b unmarked (others_low g n a (marking b unmarked) (same n)) in
      two_by_low g n form w f l ps (kind_at a) (kind_at b) (scalar a) (scalar b)
      (through (height_of g (scalar a)) (mark_height g a) n (scalar_low g a) x)
      (through (height_of g (scalar b)) (mark_height g b) n (scalar_low g b) y)
  scalar_low g (mark t k (marking a (marking b (marking c others)))) =
      let ms = marking a (marking b (marking c others)) in
      with_low g t (scalars ms) (marks_height g ms) (scalars_low g (marking a (marking b (marking c others))))

  pub scalars_low : (g : List ℕ → ℕ) (ms : Marks) → height_of_all g (scalars ms) ≤ marks_height g ms
  scalars_low g unmarked = none_low g 0
  scalars_low g (marking m ms) =
      let n = marks_height g (marking m ms) in
      more_low g n (scalar m) (scalars ms)
      (through (height_of g (scalar m)) (mark_height g m) n (scalar_low g m) (first_low g n m ms (same n)))
      (through (height_of_all g (scalars ms)) (marks_height g ms) n (scalars_low g ms)
      (others_low g n m ms (same n)))

  pub component_at_low : (g : List ℕ → ℕ) (c : ℕ) (s : Span) (m : Mark) →
      height_of g (component_at c s m) ≤ mark_height g m
  component_at_low g c s (mark t k unmarked) = leaf_low g (node_height g (form_of t) (word_of t) 0)
  component_at_low g c s (mark (node form w f l ps) k (marking a unmarked)) =
      let n = marks_height g (marking a unmarked) in
      let t = node form w f l ps in
      let e = first_low g n a unmarked (same n) in
      either_low g n (is_through t) (component_at c s a)
      (content_component form (prefix_in w) (kind_at a) c s t (scalar a)) (node_height g form w n)
      (up g n form w (height_of g (component_at c s a))
      (through (height_of g (component_at c s a)) (mark_height g a) n (component_at_low g c s a) e))
      (content_low g n form w f l ps (prefix_in w) (kind_at a) c s (scalar a)
      (through (height_of g (scalar a)) (mark_height g a) n (scalar_low g a) e))
  component_at_low g c s (mark (node form w f l ps) k (marking a (marking b unmarked))) =
      let n = marks_height g (marking a (marking b unmarked)) in
      let x = first_low g n a (marking b unmarked) (same n) in
      let y = first_low g n b unmarked (others_low g n a (marking b unmarked) (same n)) in
      element_part_low g n form w f l ps (kind_at a) c s (scalar a) (scalar b)
      (through (height_of g (scalar a)) (mark_height g a) n (scalar_low g a) x)
      (through (height_of g (scalar b)) (mark_height g b) n (scalar_low g b) y)
  component_at_low g c s (mark t k (marking a (marking b (marking d others)))) =
      let ms = marking a (marking b (marking d others)) in
      with_low g t (scalars ms) (marks_height g ms) (scalars_low g (marking a (marking b (marking d others))))
