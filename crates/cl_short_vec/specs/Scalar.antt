-- Expressions and types without vectors: a component is a variable or an element of its own, and what is added to a
-- pointer to vectors is counted in components.
use Rattle.std.specs.Prelude.{ℕ, List, [], ◌∷◌, Option, None, Some, if◌then◌else◌}
use Rattle.wg_num.specs.declared.types.Bin.{Bin}
use Rattle.wg_num.specs.declared.types.Bin.TheVariants as bins
use Rattle.cl_tree.specs.declared.tree.Form.{Form}
use Rattle.cl_tree.specs.declared.tree.Form.TheVariants as forms
use Rattle.cl_tree.specs.Syntax.{Syntax, node, Forest, none, more}
use Rattle.cl_tree.specs.Nodes.{forest1, forest2}
use Rattle.cl_meaning.specs.Spelling.{name_in, setting_in, prefix_in, postfix_in, is_const}
use Rattle.cl_meaning.specs.Declarations.{form_of, word_of}
use Rattle.cl_meaning.specs.declared.operators.Prefix.{Prefix}
use Rattle.cl_meaning.specs.declared.operators.Prefix.TheVariants as prefixes
use Rattle.cl_meaning.specs.declared.operators.Postfix.{Postfix}
use Rattle.cl_meaning.specs.declared.operators.Postfix.TheVariants as postfixes
use Rattle.cl_meaning.specs.declared.operators.Setting.{Setting}
use Rattle.cl_meaning.specs.declared.operators.Setting.TheVariants as settings
use Rattle.cl_short_vec.specs.declared.nodes.Span.{Span}
use Rattle.cl_short_vec.specs.declared.types.Vector.{Vector}
use Rattle.cl_short_vec.specs.declared.kinds.Kind.{Kind}
use Rattle.cl_short_vec.specs.declared.kinds.Kind.TheVariants.{Pointer, Other}
use Rattle.cl_short_vec.specs.Types.{vector_in, selection_in}
use Rattle.cl_short_vec.specs.Plain.{is_pointed}
use Rattle.cl_short_vec.specs.Marks.{Mark, mark, Marks, unmarked, marking, kind_at}
use Rattle.cl_short_vec.specs.Faults.{components_of}
use Rattle.cl_short_vec.specs.Order.{is_through}
use Rattle.cl_short_vec.specs.Nodes.{span_of, with_parts, variable_at, long_at, paren_at, constant_word}
use Rattle.cl_short_vec.specs.Nodes.{joined_at, element_at, scaled, further, assigned_at, setting_word, component_name}

-- ---- types

-- a type's words, with the type of the components in the vector's place
abbrev pub component_words : Option Vector → List ℕ → List ℕ
component_words None w = w
component_words (Some v) w = constant_word (is_const w) v.of

abbrev pub component_typed : Syntax → Forest → Syntax
component_typed (node form w f l ps) parts = node form (component_words (vector_in w) w) f l parts

-- ---- nodes, by what their parts were and what they are now

abbrev pub leaf_by : Form → Syntax → Syntax
leaf_by forms.TypeNode t = component_typed t none
leaf_by form t = with_parts t none

-- a pointer to vectors counted up or down, in front of its operand and behind it
abbrev pub counted : Bin → Vector → Span → Syntax → Syntax
counted op v s p = paren_at s (assigned_at (setting_word op) s p (long_at v.count s))

abbrev pub opposite : Bin → Bin
opposite bins.Add = bins.Sub
opposite op = bins.Add

abbrev pub counted_behind : Bin → Vector → Span → Syntax → Syntax
counted_behind op v s p = paren_at s (joined_at (opposite op) s (counted op v s p) (long_at v.count s))

abbrev pub prefixed : Option Prefix → Kind → Syntax → Syntax → Syntax
prefixed (Some prefixes.Content) (Pointer space c v) t p =
    element_at (span_of t) (paren_at (span_of t) p) (long_at 0 (span_of t))
prefixed (Some (prefixes.Step op)) (Pointer space c v) t p = counted op v (span_of t) p
prefixed o k t p = with_parts t (forest1 p)

abbrev pub postfixed : Option Postfix → Kind → Syntax → Syntax → Syntax
postfixed (Some (postfixes.Step op)) (Pointer space c v) t p = counted_behind op v (span_of t) p
postfixed o k t p = with_parts t (forest1 p)

-- of one part; a selection of several components is the place of which they are
abbrev pub one_by : Form → Kind → Syntax → Syntax → Syntax
one_by forms.TypeNode k t p = component_typed t (forest1 p)
one_by forms.UnaryNode k t p = prefixed (prefix_in (word_of t)) k t p
one_by forms.PostfixNode k t p =
    if is_pointed (word_of t) then p else postfixed (postfix_in (word_of t)) k t p
one_by form k t p = with_parts t (forest1 p)

-- what is behind `+=` and `-=`
abbrev pub moved_by : Option Setting → Vector → Syntax → Syntax
moved_by (Some (settings.With op)) v b = scaled v b
moved_by o v b = b

-- of two parts: an element, and a number beside a pointer
abbrev pub two_by : Form → (front back : Kind) → Syntax → Syntax → Syntax → Syntax
two_by forms.PostfixNode (Pointer space c v) k t a b = element_at (span_of t) a (scaled v b)
two_by forms.AssignNode (Pointer space c v) (Other y) t a b =
    with_parts t (forest2 a (moved_by (setting_in (word_of t)) v b))
two_by forms.SumNode (Pointer space c v) (Other y) t a b = with_parts t (forest2 a (scaled v b))
two_by forms.SumNode (Other y) (Pointer space c v) t a b = with_parts t (forest2 (scaled v a) b)
two_by form j k t a b = with_parts t (forest2 a b)

-- ---- components

-- the component that a selection of one component selects
abbrev pub alone_in : List ℕ → Option ℕ
alone_in (c ∷ []) = Some c
alone_in cs = None

abbrev pub one_selected : Form → (selection : Option (List ℕ)) → List ℕ → Option ℕ
one_selected forms.PostfixNode (Some name) cs = alone_in cs
one_selected form selection cs = None

abbrev pub one_component : Mark → Option ℕ
one_component (mark t k parts) = one_selected (form_of t) (selection_in (word_of t)) (components_of (mark t k parts))

-- of an element whose pointer and index are these, or of one at the start of a pointer
abbrev pub element_component : Form → Kind → ℕ → Span → Syntax → Syntax → Syntax → Syntax
element_component forms.PostfixNode (Pointer space d v) c s t a b = element_at s a (further c (scaled v b))
element_component form k c s t a b = with_parts t (forest2 a b)

abbrev pub content_component : Form → Option Prefix → Kind → ℕ → Span → Syntax → Syntax → Syntax
content_component forms.UnaryNode (Some prefixes.Content) (Pointer space d v) c s t p =
    element_at s (paren_at (span_of t) p) (further c (long_at 0 (span_of t)))
content_component forms.PostfixNode o k c s t p = paren_at (span_of t) p
content_component form o k c s t p = with_parts t (forest1 p)

-- ---- expressions

-- a node of one part, of which a component is selected or none
abbrev pub chosen_or : Option ℕ → (component : ℕ → Syntax) → (whole : Syntax) → Syntax
chosen_or (Some c) g t = g c
chosen_or None g t = t

unfoldable mutual
  -- an expression or a type without vectors
  pub scalar : Mark → Syntax
  scalar (mark t k unmarked) = leaf_by (form_of t) t
  scalar (mark t k (marking a unmarked)) = chosen_or (one_component (mark t k (marking a unmarked)))
      (λ c. component_at c (span_of t) a) (one_by (form_of t) (kind_at a) t (scalar a))
  scalar (mark t k (marking a (marking b unmarked))) =
      two_by (form_of t) (kind_at a) (kind_at b) t (scalar a) (scalar b)
  scalar (mark t k (marking a (marking b (marking c others)))) =
      with_parts t (scalars (marking a (marking b (marking c others))))

  pub scalars : Marks → Forest
  scalars unmarked = none
  scalars (marking m ms) = more (scalar m) (scalars ms)

  -- a component of a variable or an element, for what has that span
  pub component_at : ℕ → Span → Mark → Syntax
  component_at c s (mark t k unmarked) = variable_at (component_name (name_in (word_of t)) c) s
  component_at c s (mark t k (marking a unmarked)) = if is_through t then component_at c s a else
      content_component (form_of t) (prefix_in (word_of t)) (kind_at a) c s t (scalar a)
  component_at c s (mark t k (marking a (marking b unmarked))) =
      element_component (form_of t) (kind_at a) c s t (scalar a) (scalar b)
  component_at c s (mark t k (marking a (marking b (marking d others)))) =
      with_parts t (scalars (marking a (marking b (marking d others))))
