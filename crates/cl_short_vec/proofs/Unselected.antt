-- What stands for a tree selects nothing, whatever the tree is.
use Rattle.std.proofs.Common.{◌≡◌, ℕ, ◌-◌, List, [], ◌∷◌, ◌++◌, Option, Some, None, Bool, true, false, ◌||◌, nat_eq, nat_lt}
use Rattle.std.proofs.Common.{if◌then◌else◌, refl, sym, ap, ◌∙◌}
use Rattle.std.proofs.lemmas.Bool.{false≢true}
use Rattle.std.specs.Prelude.{codes, slice_index}
use Rattle.wg_num.specs.declared.types.IntType.{IntType}
use Rattle.wg_num.specs.declared.types.IntType.TheVariants as types
use Rattle.wg_num.specs.Wrap.{width_bits}
use Rattle.wg_num.specs.declared.types.Bin.{Bin}
use Rattle.wg_num.specs.declared.types.Bin.TheVariants as bins
use Rattle.wg_num.specs.declared.types.Un.TheVariants as uns
use Rattle.wg_num.specs.Operators.{is_shift}
use Rattle.cl_tree.specs.declared.tree.Form.{Form}
use Rattle.cl_tree.specs.declared.tree.Form.TheVariants as forms
use Rattle.cl_tree.specs.Syntax.{Syntax, node, Forest, none, more, joined}
use Rattle.cl_tree.specs.Nodes.{forest1}
use Rattle.cl_tree.specs.Selections.{is_selection, has_selection, have_selection}
use Rattle.cl_meaning.specs.declared.operators.Prefix.{Prefix}
use Rattle.cl_meaning.specs.declared.operators.Prefix.TheVariants as prefixes
use Rattle.cl_meaning.specs.declared.operators.Postfix.{Postfix}
use Rattle.cl_meaning.specs.declared.operators.Postfix.TheVariants as postfixes
use Rattle.cl_meaning.specs.declared.operators.Setting.{Setting}
use Rattle.cl_meaning.specs.declared.operators.Setting.TheVariants as settings
use Rattle.cl_meaning.specs.Conversions.{is_comparison}
use Rattle.cl_meaning.specs.Spelling.{setting_in, prefix_in, postfix_in, is_set, dimensions_in}
use Rattle.cl_meaning.specs.Declarations.{form_of, word_of}
use Rattle.cl_short_vec.specs.declared.nodes.Span.{Span}
use Rattle.cl_short_vec.specs.declared.types.Vector.{Vector}
use Rattle.cl_short_vec.specs.declared.kinds.Reach.TheVariants.{Element}
use Rattle.cl_short_vec.specs.declared.kinds.Kind.{Kind}
use Rattle.cl_short_vec.specs.declared.kinds.Kind.TheVariants.{Vectors, Pointer, Other}
use Rattle.cl_short_vec.specs.declared.made.Made.{Made}
use Rattle.cl_short_vec.specs.declared.made.Made.TheVariants as made
use Rattle.cl_short_vec.specs.Types.{numbers, vector_in, vector_type}
use Rattle.cl_short_vec.specs.Kinds.{no_names, is_vector}
use Rattle.cl_short_vec.specs.Plain.{is_pointed, has_vectors}
use Rattle.cl_short_vec.specs.Marks.{Mark, mark, Marks, unmarked, marking, tree_at, kind_at, back, marked}
use Rattle.cl_short_vec.specs.Roles.{is_paren}
use Rattle.cl_short_vec.specs.Made.{made_of}
use Rattle.cl_short_vec.specs.Order.{is_through, Named, Step, Offset, Number, Copy, Load, Set, Store, operator_in}
use Rattle.cl_short_vec.specs.Order.{setting_steps, initial_steps, type_in}
use Rattle.cl_short_vec.specs.Parts.{Given, part_by, part_in, item_part, front_part, second_part, all_parts, list_part}
use Rattle.cl_short_vec.specs.Parts.{inside_part, filled_part, filled_at, selected_at, width_of, Assigned, assigned_by}
use Rattle.cl_short_vec.specs.Parts.{assigned_part, part_of}
use Rattle.cl_short_vec.specs.Nodes.{span_of, at, with_parts, paren_at, cast_at, joined_at, signed_at}
use Rattle.cl_short_vec.specs.Nodes.{amount_at, component_joined, helping_component, declared_at, further, scaled}
use Rattle.cl_short_vec.specs.Nodes.{variable_at, long_at, int_at, typed_at, star_at, assigned_at, setting_word}
use Rattle.cl_short_vec.specs.Nodes.{statement_at, component_name, helper}
use Rattle.cl_short_vec.specs.Scalar.{component_words, counted, opposite, leaf_by, prefixed, postfixed, one_by, moved_by, two_by, chosen_or}
use Rattle.cl_short_vec.specs.Scalar.{one_component, element_component, content_component, scalar, scalars, component_at}
use Rattle.cl_short_vec.specs.Unit.{pointed_at, address_at, helped_element, beside, test_at, set_line, line_of, lines_of, assigned_of, set_block, whole_by, simple_at}
use Rattle.cl_short_vec.specs.Unit.{declared_name, name_span, component_declarators, length_at, is_length_form}
use Rattle.cl_short_vec.specs.Unit.{length_or_part, lengths_at, declarators_by, declarators_of, all_declarators}
use Rattle.cl_short_vec.specs.Unit.{declaration_by, declaration, initialiser, declarator_lines, vector_lines, lines_by}
use Rattle.cl_short_vec.specs.Unit.{declaration_lines, is_declaration, block_line, rebuilt, scalarised, all_scalarised}
use Rattle.cl_short_vec.specs.Unit.{block_lines, loop_parts, scalarised_of}
use Rattle.cl_short_vec.proofs.Plainness.{none_selected}

-- nothing in a tree is a selection, and nothing in some trees
abbrev pub Free : Syntax → Type 0
Free t = has_selection t ≡ false

abbrev pub AreFree : Forest → Type 0
AreFree ps = have_selection ps ≡ false

-- ---- nodes

neither : (a b : Bool) → a ≡ false → b ≡ false → a || b ≡ false
neither false b h k = k
neither true b h k = absurd (false≢true (sym h))

first_not : (a b : Bool) → a || b ≡ false → a ≡ false
first_not false b h = refl
first_not true b h = absurd (false≢true (sym h))

others_not : (a b : Bool) → a || b ≡ false → b ≡ false
others_not false b h = h
others_not true b h = absurd (false≢true (sym h))

either_free : (b : Bool) (s t : Syntax) → Free s → Free t → Free (if b then s else t)
either_free true s t h k = h
either_free false s t h k = k

front_free : (p : Syntax) (ps : Forest) → Free p → AreFree ps → AreFree (more p ps)
front_free p ps h k = neither (has_selection p) (have_selection ps) h k

one_free : (p : Syntax) → Free p → AreFree (more p none)
one_free p h = front_free p none h refl

node_free : (form : Form) (w : List ℕ) (f l : ℕ) (ps : Forest) → is_selection (node form w f l ps) ≡ false →
    AreFree ps → Free (node form w f l ps)
node_free form w f l ps h k = neither (is_selection (node form w f l ps)) (have_selection ps) h k

bare_not : (form : Form) (w : List ℕ) (f l : ℕ) → is_selection (node form w f l none) ≡ false
bare_not forms.PostfixNode [] f l = refl
bare_not forms.PostfixNode (b ∷ w) f l = refl
bare_not form w f l = refl

many_not : (form : Form) (w : List ℕ) (f l : ℕ) (a b : Syntax) (ps : Forest) →
    is_selection (node form w f l (more a (more b ps))) ≡ false
many_not forms.PostfixNode [] f l a b ps = refl
many_not forms.PostfixNode (c ∷ w) f l a b ps = refl
many_not form w f l a b ps = refl

-- a node of no part, of two parts, and of more
bare_free : (t : Syntax) → Free (with_parts t none)
bare_free (node form w f l ps) = node_free form w f l none (bare_not form w f l) refl

many_free : (t a b : Syntax) (ps : Forest) → AreFree (more a (more b ps)) → Free (with_parts t (more a (more b ps)))
many_free (node form w f l qs) a b ps h = node_free form w f l (more a (more b ps)) (many_not form w f l a b ps) h

two_free : (t a b : Syntax) → Free a → Free b → Free (with_parts t (more a (more b none)))
two_free t a b h k = many_free t a b none (front_free a (more b none) h (one_free b k))

pair_free : (form : Form) (w : List ℕ) (s : Span) (a b : Syntax) → Free a → Free b →
    Free (at form w s (more a (more b none)))
pair_free form w s a b h k = two_free (at form w s none) a b h k

-- a step behind an operand is no selection
step_not : (w : List ℕ) (f l : ℕ) (a : Syntax) → is_pointed w ≡ false →
    is_selection (node forms.PostfixNode w f l (more a none)) ≡ false
step_not [] f l a h = refl
step_not (b ∷ w) f l a h = h

-- ---- new nodes

paren_free : (s : Span) (t : Syntax) → Free t → Free (paren_at s t)
paren_free s t h = one_free t h

cast_free : (of : IntType) (s : Span) (t : Syntax) → Free t → Free (cast_at of s t)
cast_free of s t h = front_free (paren_at s t) none (paren_free s t h) refl

joined_free : (op : Bin) (s : Span) (a b : Syntax) → Free a → Free b → Free (joined_at op s a b)
joined_free op s a b h k = two_free (joined_at op s a b) a b h k

component_free : (op : Bin) (of : IntType) (s : Span) (a b : Syntax) → Free a → Free b →
    Free (component_joined op of s a b)
component_free op of s a b h k = by (is_comparison op) (is_shift op)
  where
    by : (c d : Bool) → Free (if c then cast_at of s (signed_at uns.Minus s (paren_at s (joined_at op s a b)))
        else (if d then cast_at of s (joined_at op s a (amount_at of s b)) else cast_at of s (joined_at op s a b)))
    by true d = cast_free of s (signed_at uns.Minus s (paren_at s (joined_at op s a b)))
        (one_free (paren_at s (joined_at op s a b)) (paren_free s (joined_at op s a b) (joined_free op s a b h k)))
    by false true =
        let n = int_at (width_bits of - 1) s in
        cast_free of s (joined_at op s a (amount_at of s b))
        (joined_free op s a (amount_at of s b) h
        (paren_free s (joined_at bins.And s b n) (joined_free bins.And s b n k refl)))
    by false false = cast_free of s (joined_at op s a b) (joined_free op s a b h k)

scaled_free : (v : Vector) (i : Syntax) → Free i → Free (scaled v i)
scaled_free v i h = joined_free bins.Mul (span_of i) (cast_at types.Long (span_of i) i) (long_at v.count (span_of i))
    (cast_free types.Long (span_of i) i h) refl

further_free : (c : ℕ) (i : Syntax) → Free i → Free (further c i)
further_free c i h = joined_free bins.Add (span_of i) i (long_at c (span_of i)) h refl

-- ---- expressions

leaf_free : (form : Form) (t : Syntax) → Free (leaf_by form t)
leaf_free forms.TypeNode (node form w f l ps) =
    node_free form (component_words (vector_in w) w) f l none (bare_not form (component_words (vector_in w) w) f l) refl
leaf_free form t = bare_free t

counted_free : (op : Bin) (v : Vector) (s : Span) (p : Syntax) → Free p → Free (counted op v s p)
counted_free op v s p h = one_free (assigned_at (setting_word op) s p (long_at v.count s))
    (front_free p (more (long_at v.count s) none) h refl)

prefixed_free : (w : List ℕ) (f l : ℕ) (ps : Forest) (o : Option Prefix) (k : Kind) (p : Syntax) → Free p →
    Free (prefixed o k (node forms.UnaryNode w f l ps) p)
prefixed_free w f l ps (Some prefixes.Content) (Pointer space c v) p h =
    let s : Span = record { first = f; last = l } in front_free (paren_at s p) (more (long_at 0 s) none)
    (paren_free s p h) refl
prefixed_free w f l ps (Some (prefixes.Step op)) (Pointer space c v) p h =
    counted_free op v (record { first = f; last = l }) p h
prefixed_free w f l ps o k p h = one_free p h

postfixed_free : (w : List ℕ) (f l : ℕ) (ps : Forest) (o : Option Postfix) (k : Kind) (p : Syntax) →
    is_pointed w ≡ false → Free p → Free (postfixed o k (node forms.PostfixNode w f l ps) p)
postfixed_free w f l ps (Some (postfixes.Step op)) (Pointer space c v) p e h =
    let s : Span = record { first = f; last = l } in
    one_free (joined_at (opposite op) s (counted op v s p) (long_at v.count s))
    (joined_free (opposite op) s (counted op v s p) (long_at v.count s) (counted_free op v s p h) refl)
postfixed_free w f l ps o k p e h =
    node_free forms.PostfixNode w f l (more p none) (step_not w f l p e) (one_free p h)

one_by_free : (form : Form) (w : List ℕ) (f l : ℕ) (ps : Forest) (k : Kind) (p : Syntax) → Free p →
    Free (one_by form k (node form w f l ps) p)
one_by_free forms.TypeNode w f l ps k p h = one_free p h
one_by_free forms.UnaryNode w f l ps k p h = prefixed_free w f l ps (prefix_in w) k p h
one_by_free forms.PostfixNode w f l ps k p h = by (is_pointed w) refl
  where
    by : (b : Bool) → is_pointed w ≡ b →
        Free (if b then p else postfixed (postfix_in w) k (node forms.PostfixNode w f l ps) p)
    by true e = h
    by false e = postfixed_free w f l ps (postfix_in w) k p e h
one_by_free form w f l ps k p h = one_free p h

moved_free : (o : Option Setting) (v : Vector) (b : Syntax) → Free b → Free (moved_by o v b)
moved_free (Some (settings.With op)) v b h = scaled_free v b h
moved_free o v b h = h

two_by_free : (form : Form) (j k : Kind) (t a b : Syntax) → Free a → Free b → Free (two_by form j k t a b)
two_by_free forms.PostfixNode (Pointer space c v) k t a b h i = front_free a (more (scaled v b) none) h
    (one_free (scaled v b) (scaled_free v b i))
two_by_free forms.AssignNode (Pointer space c v) (Other y) t a b h i =
    two_free t a (moved_by (setting_in (word_of t)) v b) h (moved_free (setting_in (word_of t)) v b i)
two_by_free forms.SumNode (Pointer space c v) (Other y) t a b h i = two_free t a (scaled v b) h (scaled_free v b i)
two_by_free forms.SumNode (Other y) (Pointer space c v) t a b h i = two_free t (scaled v a) b (scaled_free v a h) i
two_by_free form j k t a b h i = two_free t a b h i

element_free : (form : Form) (k : Kind) (c : ℕ) (s : Span) (t a b : Syntax) → Free a → Free b →
    Free (element_component form k c s t a b)
element_free forms.PostfixNode (Pointer space d v) c s t a b h i = front_free a (more (further c (scaled v b)) none) h
    (one_free (further c (scaled v b)) (further_free c (scaled v b) (scaled_free v b i)))
element_free form k c s t a b h i = two_free t a b h i

content_free : (form : Form) (w : List ℕ) (f l : ℕ) (ps : Forest) (o : Option Prefix) (k : Kind) (c : ℕ) (s : Span)
    (p : Syntax) → Free p → Free (content_component form o k c s (node form w f l ps) p)
content_free forms.UnaryNode w f l ps (Some prefixes.Content) (Pointer space d v) c s p h =
    let at : Span = record { first = f; last = l } in
    front_free (paren_at at p) (more (further c (long_at 0 at)) none) (paren_free at p h)
    (one_free (further c (long_at 0 at)) (further_free c (long_at 0 at) refl))
content_free forms.UnaryNode w f l ps o k c s p h = one_free p h
content_free forms.PostfixNode w f l ps o k c s p h = one_free p h
content_free form w f l ps o k c s p h = one_free p h

chosen_free : (o : Option ℕ) (g : ℕ → Syntax) (t : Syntax) → ((c : ℕ) → Free (g c)) → Free t → Free (chosen_or o g t)
chosen_free (Some c) g t h i = h c
chosen_free None g t h i = i

mutual
  unfolding scalar scalars component_at

  scalar_free : (m : Mark) → Free (scalar m)
  scalar_free (mark t k unmarked) = leaf_free (form_of t) t
  scalar_free (mark (node form w f l ps) k (marking a unmarked)) =
      let t = node form w f l ps in
      chosen_free (one_component (mark t k (marking a unmarked))) (λ c. component_at c (span_of t) a)
      (one_by form (kind_at a) t (scalar a)) (λ c. place_free c (span_of t) a)
      (one_by_free form w f l ps (kind_at a) (scalar a) (scalar_free a))
  scalar_free (mark t k (marking a (marking b unmarked))) =
      two_by_free (form_of t) (kind_at a) (kind_at b) t (scalar a) (scalar b) (scalar_free a) (scalar_free b)
  scalar_free (mark t k (marking a (marking b (marking c others)))) =
      many_free t (scalar a) (scalar b) (scalars (marking c others))
      (scalars_free (marking a (marking b (marking c others))))

  scalars_free : (ms : Marks) → AreFree (scalars ms)
  scalars_free unmarked = refl
  scalars_free (marking m ms) = front_free (scalar m) (scalars ms) (scalar_free m) (scalars_free ms)

  place_free : (c : ℕ) (s : Span) (m : Mark) → Free (component_at c s m)
  place_free c s (mark t k unmarked) = refl
  place_free c s (mark (node form w f l ps) k (marking a unmarked)) =
      let t = node form w f l ps in
      either_free (is_through t) (component_at c s a)
      (content_component form (prefix_in w) (kind_at a) c s t (scalar a)) (place_free c s a)
      (content_free form w f l ps (prefix_in w) (kind_at a) c s (scalar a) (scalar_free a))
  place_free c s (mark t k (marking a (marking b unmarked))) =
      element_free (form_of t) (kind_at a) c s t (scalar a) (scalar b) (scalar_free a) (scalar_free b)
  place_free c s (mark t k (marking a (marking b (marking d others)))) =
      many_free t (scalar a) (scalar b) (scalars (marking d others))
      (scalars_free (marking a (marking b (marking d others))))

-- ---- components of values

-- what the parts of a node give selects nothing
record GivenFree (g : Given) : Type 0 where
  items : (c : ℕ) → Free (g.items c)
  front : (c : ℕ) → Free (g.front c)
  second : (c : ℕ) → Free (g.second c)
  all : (c : ℕ) → AreFree (g.all c)
  list : (c : ℕ) → Free (g.list c)

by_free : (how : Made) (t : Syntax) (k : Kind) (parts : Marks) (g : Given) (c : ℕ) → GivenFree g →
    Free (part_by how t k parts g c)
by_free made.Number t k parts g c h = refl
by_free made.Items t k parts g c h = h.items c
by_free made.Inside t k parts g c h = h.front c
by_free (made.Signed op) t k parts g c h = cast_free (type_in k) (span_of t) (signed_at op (span_of t) (g.front c))
    (one_free (g.front c) (h.front c))
by_free made.Selected t k parts g c h = h.front (selected_at t parts c)
by_free (made.Joined op) t k parts g c h =
    component_free op (type_in k) (span_of t) (g.front c) (g.second c) (h.front c) (h.second c)
by_free made.Called t k parts g c h = h.all c
by_free made.Listed t k parts g c h = h.list c
by_free made.Variable t k parts g c h = refl
by_free made.Element t k parts g c h = refl

mutual
  unfolding part_in item_part front_part second_part all_parts list_part inside_part filled_part

  part_free : (listed : Bool) (m : Mark) (c : ℕ) → Free (part_in listed m c)
  part_free listed (mark t k parts) c = by_free (made_of listed t k) t k parts (record {
    items = λ d. item_part parts t d;
    front = λ d. front_part parts t d;
    second = λ d. second_part parts t d;
    all = λ d. all_parts parts d;
    list = λ d. list_part parts t d;
  }) c (record {
    items = λ d. item_free parts t d;
    front = λ d. front_part_free parts t d;
    second = λ d. second_free parts t d;
    all = λ d. all_parts_free parts d;
    list = λ d. list_free parts t d;
  })

  item_free : (ms : Marks) (t : Syntax) (c : ℕ) → Free (item_part ms t c)
  item_free unmarked t c = refl
  item_free (marking m unmarked) t c = part_free true m c
  item_free (marking m (marking n ns)) t c = either_free (nat_lt c (width_of m)) (part_in true m c)
      (part_in false n (c - width_of m)) (part_free true m c) (part_free false n (c - width_of m))

  front_part_free : (ms : Marks) (t : Syntax) (c : ℕ) → Free (front_part ms t c)
  front_part_free unmarked t c = refl
  front_part_free (marking m ms) t c = part_free false m c

  second_free : (ms : Marks) (t : Syntax) (c : ℕ) → Free (second_part ms t c)
  second_free unmarked t c = refl
  second_free (marking m unmarked) t c = refl
  second_free (marking m (marking n ns)) t c = part_free false n c

  all_parts_free : (ms : Marks) (c : ℕ) → AreFree (all_parts ms c)
  all_parts_free unmarked c = refl
  all_parts_free (marking m ms) c =
      front_free (part_in false m c) (all_parts ms c) (part_free false m c) (all_parts_free ms c)

  list_free : (ms : Marks) (t : Syntax) (c : ℕ) → Free (list_part ms t c)
  list_free unmarked t c = refl
  list_free (marking m ms) t c = either_free (is_paren (form_of (tree_at m))) (inside_part m c) (list_part ms t c)
      (inside_free m c) (list_free ms t c)

  inside_free : (m : Mark) (c : ℕ) → Free (inside_part m c)
  inside_free (mark t k parts) c = filled_free parts t c

  filled_free : (ms : Marks) (t : Syntax) (c : ℕ) → Free (filled_part ms t c)
  filled_free unmarked t c = refl
  filled_free (marking m ms) t c = part_free true m (filled_at (width_of m) c)

assigned_free : (a : Assigned) (j : ℕ) → Free (assigned_part a j)
assigned_free a j = by a.operator
  where
    by : (o : Option Bin) → Free (assigned_by o a j)
    by None = part_free false a.value j
    by (Some op) = component_free op a.of a.target (helping_component a.target (slice_index a.components j))
        (part_of a.value j) refl (part_free false a.value j)

-- ---- lines

declared_free : (s : Span) (type : Syntax) (name : List ℕ) (ps : Forest) → Free type → AreFree ps →
    Free (declared_at s type name ps)
declared_free s type name ps h k =
    let d = at forms.DeclaratorNode (name ++ codes " =") s ps in front_free type (more d none) h (one_free d k)

pointed_free : (k : Kind) (s : Span) → Free (pointed_at k s)
pointed_free (Vectors v (Element space constant)) s = refl
pointed_free k s = refl

statement_free : (s : Span) (target value : Syntax) → Free target → Free value → Free (statement_at s target value)
statement_free s target value h k = one_free (assigned_at (codes "=") s target value)
    (front_free target (more value none) h (one_free value k))

set_free : (type : Option Mark) (x : Named) (c : ℕ) (value : Syntax) → Free value → Free (set_line type x c value)
set_free None x c value h = statement_free x.span (variable_at (component_name x.name c) x.span) value refl h
set_free (Some type) x c value h = declared_free x.span (scalar type) (component_name x.name c) (more value none)
    (scalar_free type) (one_free value h)

line_free : (type : Option Mark) (a : Assigned) (s : Step) → Free (line_of type a s)
line_free type a (Offset m) =
    let s = span_of (tree_at m) in
    declared_free s (pointed_at (kind_at m) s) (helper s) (more (star_at s) (more (address_at m) none))
    (pointed_free (kind_at m) s) (one_free (address_at m) (one_free (scalar m) (scalar_free m)))
line_free type a (Number of m) =
    let s = span_of (tree_at m) in
    declared_free s (typed_at of s) (helper s) (more (scalar m) none) refl (one_free (scalar m) (scalar_free m))
line_free type a (Copy of x c) = refl
line_free type a (Load m c) = refl
line_free type a (Set x c j) = set_free type x c (assigned_part a j) (assigned_free a j)
line_free type a (Store m c j) =
    let s = span_of (tree_at m) in
    statement_free s (helped_element s c) (assigned_part a j) refl (assigned_free a j)

lines_free : (type : Option Mark) (a : Assigned) (ss : List Step) → AreFree (lines_of type a ss)
lines_free type a [] = refl
lines_free type a (s ∷ ss) = front_free (line_of type a s) (lines_of type a ss) (line_free type a s) (lines_free type a ss)

-- ---- statements

whole_free : (form : Form) (s : Span) (m : Mark) (plain : Syntax) → Free plain → Free (whole_by form s m plain)
whole_free forms.AssignNode s (mark t k (marking a (marking b unmarked))) plain h =
    let o = operator_in (setting_in (word_of t)) in
    either_free (is_vector (kind_at a)) (set_block s o a b) plain
    (lines_free None (assigned_of o a b) (setting_steps o a b)) h
whole_free form s m plain h = h

simple_free : (t : Syntax) (ms : Marks) (plain : Syntax) → Free plain → Free (simple_at t ms plain)
simple_free t (marking m unmarked) plain h = whole_free (form_of (tree_at m)) (span_of t) m plain h
simple_free t ms plain h = h

-- ---- declarations

joined_in : (a b : Forest) → AreFree a → AreFree b → AreFree (joined a b)
joined_in none b h k = k
joined_in (more p ps) b h k = front_free p (joined ps b) (first_not (has_selection p) (have_selection ps) h)
    (joined_in ps b (others_not (has_selection p) (have_selection ps) h) k)

components_free : (x : Named) (cs : List ℕ) → AreFree (component_declarators x cs)
components_free x [] = refl
components_free x (c ∷ cs) = components_free x cs

beside_free : (op : Bin) (s : Span) (e : Syntax) (n : ℕ) → Free e → Free (beside op s e n)
beside_free op s e n h = joined_free op s (paren_at s e) (int_at n s) (paren_free s e h) refl

length_free : (v : Vector) (e : Syntax) → Free e → Free (length_at v e)
length_free v e h =
    let s = span_of e in
    front_free (test_at s e) (more (beside bins.Mul s e v.count) (more (int_at 0 s) none))
    (front_free (beside bins.Gt s e 0) (more (beside bins.Lt s e 1048577) none) (beside_free bins.Gt s e 0 h)
    (one_free (beside bins.Lt s e 1048577) (beside_free bins.Lt s e 1048577 h)))
    (front_free (beside bins.Mul s e v.count) (more (int_at 0 s) none) (beside_free bins.Mul s e v.count h) refl)

lengths_free : (v : Vector) (ms : Marks) → AreFree (lengths_at v ms)
lengths_free v unmarked = refl
lengths_free v (marking m ms) = front_free (length_or_part v m) (lengths_at v ms)
    (either_free (is_length_form (form_of (tree_at m))) (length_at v (scalar m)) (scalar m)
    (length_free v (scalar m) (scalar_free m)) (scalar_free m)) (lengths_free v ms)

declarators_free : (v : Vector) (m : Mark) → AreFree (declarators_of v m)
declarators_free v (mark d k parts) = by (nat_eq (dimensions_in (word_of d)) 0)
  where
    by : (b : Bool) → AreFree (if b then component_declarators (declared_name d) (numbers 0 1 v.count) else
        forest1 (at forms.DeclaratorNode (word_of d) (span_of d) (lengths_at v parts)))
    by true = components_free (declared_name d) (numbers 0 1 v.count)
    by false = one_free (at forms.DeclaratorNode (word_of d) (span_of d) (lengths_at v parts)) (lengths_free v parts)

all_declarators_free : (v : Vector) (ms : Marks) → AreFree (all_declarators v ms)
all_declarators_free v unmarked = refl
all_declarators_free v (marking m ms) =
    joined_in (declarators_of v m) (all_declarators v ms) (declarators_free v m) (all_declarators_free v ms)

declaration_free : (ms : Marks) → AreFree (declaration ms)
declaration_free unmarked = refl
declaration_free (marking type ms) = by (vector_type (tree_at type))
  where
    by : (o : Option Vector) → AreFree (declaration_by o type ms)
    by None = scalars_free (marking type ms)
    by (Some v) = front_free (scalar type) (all_declarators v ms) (scalar_free type) (all_declarators_free v ms)

declarator_lines_free : (v : Vector) (type d : Mark) (o : Option Mark) → AreFree (declarator_lines v type d o)
declarator_lines_free v type d None =
    let ps = more (scalar type) (declarators_of v d) in
    one_free (at forms.DeclareNode (codes ";") (span_of (tree_at d)) ps)
    (front_free (scalar type) (declarators_of v d) (scalar_free type) (declarators_free v d))
declarator_lines_free v type d (Some e) = lines_free (Some type) (record {
  operator = None;
  of = v.of;
  target = name_span (tree_at d);
  components = [];
  value = e;
}) (initial_steps v (declared_name (tree_at d)) e)

vector_lines_free : (v : Vector) (type : Mark) (ms : Marks) → AreFree (vector_lines v type ms)
vector_lines_free v type unmarked = refl
vector_lines_free v type (marking m ms) =
    joined_in (declarator_lines v type m (initialiser m)) (vector_lines v type ms)
    (declarator_lines_free v type m (initialiser m)) (vector_lines_free v type ms)

declaration_lines_free : (w : List ℕ) (f l : ℕ) (ps : Forest) (k : Kind) (ms : Marks) →
    AreFree (declaration_lines (mark (node forms.DeclareNode w f l ps) k ms))
declaration_lines_free w f l ps k unmarked = refl
declaration_lines_free w f l ps k (marking type ms) = by (vector_type (tree_at type))
  where
    by : (o : Option Vector) → AreFree (lines_by o (node forms.DeclareNode w f l ps) type ms)
    by None = one_free (node forms.DeclareNode w f l (scalars (marking type ms))) (scalars_free (marking type ms))
    by (Some v) = vector_lines_free v type ms

line_or_lines_free : (m : Mark) (statement : Syntax) → Free statement → AreFree (block_line m statement)
line_or_lines_free (mark (node forms.DeclareNode w f l ps) k ms) s h = declaration_lines_free w f l ps k ms
line_or_lines_free (mark (node form w f l ps) k ms) s h = one_free s h

-- ---- the unit

rebuilt_free : (form : Form) (w : List ℕ) (f l : ℕ) (ps : Forest) (ms : Marks) (parts lines looped : Forest)
    (e : Syntax) → AreFree parts → AreFree lines → AreFree looped → Free e →
    Free (rebuilt form (node form w f l ps) ms parts lines looped e)
rebuilt_free forms.UnitNode w f l ps ms parts lines looped e h i j k = h
rebuilt_free forms.FunctionNode w f l ps ms parts lines looped e h i j k = h
rebuilt_free forms.BlockNode w f l ps ms parts lines looped e h i j k = i
rebuilt_free forms.IfNode w f l ps ms parts lines looped e h i j k = h
rebuilt_free forms.WhileNode w f l ps ms parts lines looped e h i j k = h
rebuilt_free forms.DoNode w f l ps ms parts lines looped e h i j k = h
rebuilt_free forms.ForNode w f l ps ms parts lines looped e h i j k = j
rebuilt_free forms.SwitchNode w f l ps ms parts lines looped e h i j k = h
rebuilt_free forms.CaseNode w f l ps ms parts lines looped e h i j k = h
rebuilt_free forms.DefaultNode w f l ps ms parts lines looped e h i j k = h
rebuilt_free forms.SimpleNode w f l ps ms parts lines looped e h i j k =
    simple_free (node forms.SimpleNode w f l ps) ms e k
rebuilt_free forms.DeclareNode w f l ps ms parts lines looped e h i j k = declaration_free ms
rebuilt_free form w f l ps ms parts lines looped e h i j k = k

mutual
  unfolding scalarised all_scalarised block_lines loop_parts

  tree_free : (m : Mark) → Free (scalarised m)
  tree_free (mark (node form w f l ps) k ms) =
      rebuilt_free form w f l ps ms (all_scalarised ms) (block_lines ms) (loop_parts ms)
      (scalar (mark (node form w f l ps) k ms)) (all_free ms) (block_free ms) (loop_free ms)
      (scalar_free (mark (node form w f l ps) k ms))

  all_free : (ms : Marks) → AreFree (all_scalarised ms)
  all_free unmarked = refl
  all_free (marking m ms) = front_free (scalarised m) (all_scalarised ms) (tree_free m) (all_free ms)

  block_free : (ms : Marks) → AreFree (block_lines ms)
  block_free unmarked = refl
  block_free (marking m ms) = joined_in (block_line m (scalarised m)) (block_lines ms)
      (line_or_lines_free m (scalarised m) (tree_free m)) (block_free ms)

  loop_free : (ms : Marks) → AreFree (loop_parts ms)
  loop_free unmarked = refl
  loop_free (marking m ms) =
      front_free (if is_declaration m then scalarised m else scalar m) (all_scalarised ms)
      (either_free (is_declaration m) (scalarised m) (scalar m) (tree_free m) (scalar_free m)) (all_free ms)

-- The unit without vectors selects nothing.
pub unselected : (unit form : Syntax) → form ≡ scalarised_of unit → has_selection form ≡ false
unselected unit form e = ap (λ t. has_selection t) e ∙ by (has_vectors unit) refl
  where
    by : (b : Bool) → has_vectors unit ≡ b →
        has_selection (if b then scalarised (marked no_names unit) else unit) ≡ false
    by true h = tree_free (marked no_names unit)
    by false h = none_selected unit h
