-- Barriers stand no deeper in a component of a vector value than in the value.
use Rattle.std.proofs.Common.{ℕ, ◌≤◌, ◌-◌, max, nat_lt, List, Option, Some, None, Bool, true, false, ◌&&◌}
use Rattle.std.proofs.Common.{if◌then◌else◌}
use Rattle.std.specs.Prelude.{slice_index}
use Rattle.wg_num.specs.declared.types.Bin.{Bin}
use Rattle.cl_tree.specs.declared.tree.Form.{Form}
use Rattle.cl_tree.specs.declared.tree.Form.TheVariants as forms
use Rattle.cl_tree.specs.Syntax.{Syntax}
use Rattle.cl_limits.specs.Heights.{own_height, height_of, height_of_all}
use Rattle.cl_meaning.specs.Spelling.{name_in, binary_in, prefix_in}
use Rattle.cl_meaning.specs.Declarations.{form_of, word_of}
use Rattle.cl_meaning.specs.declared.operators.Prefix.{Prefix}
use Rattle.cl_meaning.specs.declared.operators.Prefix.TheVariants as prefixes
use Rattle.cl_short_vec.specs.declared.kinds.Kind.{Kind}
use Rattle.cl_short_vec.specs.declared.made.Made.{Made}
use Rattle.cl_short_vec.specs.declared.made.Made.TheVariants as made
use Rattle.cl_short_vec.specs.Types.{selection_in}
use Rattle.cl_short_vec.specs.Kinds.{is_vector}
use Rattle.cl_short_vec.specs.Marks.{Mark, mark, Marks, unmarked, marking, tree_at}
use Rattle.cl_short_vec.specs.Roles.{is_paren}
use Rattle.cl_short_vec.specs.Made.{made_by_prefix, made_by_selection, made_by_operator, made_in, made_of, is_comma}
use Rattle.cl_short_vec.specs.Order.{type_in}
use Rattle.cl_short_vec.specs.Nodes.{span_of, signed_at, helping_component}
use Rattle.cl_short_vec.specs.Parts.{Given, part_by, part_in, item_part, front_part, second_part, all_parts, list_part}
use Rattle.cl_short_vec.specs.Parts.{inside_part, filled_part, width_of, filled_at, selected_at, part_of, Assigned}
use Rattle.cl_short_vec.specs.Parts.{assigned_by, assigned_part}
use Rattle.cl_short_vec_faults.proofs.HeightsNodes.{through, both, front, behind, mark_height, marks_height}
use Rattle.cl_short_vec_faults.proofs.HeightsNodes.{parts_below}
use Rattle.cl_short_vec_faults.proofs.HeightsNodes.{own_below, none_low, more_low, leaf_low, cast_low, signed_low}
use Rattle.cl_short_vec_faults.proofs.HeightsNodes.{component_low}

module _ (g : List ℕ → ℕ) (h : ℕ) where
  -- ---- the call of a vector that is called

  abbrev CallLow : List ℕ → Made → Type 0
  CallLow w made.Called = g (name_in w) ≤ h
  CallLow w how = Unit {0}

  by_prefix : (w : List ℕ) (o : Option Prefix) → CallLow w (made_by_prefix o)
  by_prefix w None = tt
  by_prefix w (Some (prefixes.Operator op)) = tt
  by_prefix w (Some p) = tt

  by_selection : (w : List ℕ) (o : Option (List ℕ)) → CallLow w (made_by_selection o)
  by_selection w None = tt
  by_selection w (Some name) = tt

  by_operator : (w : List ℕ) (o : Option Bin) → CallLow w (made_by_operator o)
  by_operator w None = tt
  by_operator w (Some op) = tt

  in_low : (form : Form) (w : List ℕ) → own_height g form w ≤ h → CallLow w (made_in form w)
  unfolding made_in
  in_low forms.VariableNode w e = tt
  in_low forms.ParenNode w e = tt
  in_low forms.UnaryNode w e = by_prefix w (prefix_in w)
  in_low forms.PostfixNode w e = by_selection w (selection_in w)
  in_low forms.CallNode w e = e
  in_low forms.CastNode w e = tt
  in_low form w e = by_operator w (binary_in w)

  call_low : (listed : Bool) (t : Syntax) (k : Kind) → own_height g (form_of t) (word_of t) ≤ h →
      CallLow (word_of t) (made_of listed t k)
  call_low listed t k e = by (listed && is_comma (form_of t)) (is_vector k)
    where
      by : (b c : Bool) → CallLow (word_of t) (if b then made.Items else
          (if c then made_in (form_of t) (word_of t) else made.Number))
      by true c = tt
      by false true = in_low (form_of t) (word_of t) e
      by false false = tt

  -- ---- components

  -- what the parts of a node give is low
  record GivenLow (x : Given) : Type 0 where
    items : (c : ℕ) → height_of g (x.items c) ≤ h
    front : (c : ℕ) → height_of g (x.front c) ≤ h
    second : (c : ℕ) → height_of g (x.second c) ≤ h
    all : (c : ℕ) → height_of_all g (x.all c) ≤ h
    list : (c : ℕ) → height_of g (x.list c) ≤ h

  by_low : (how : Made) (t : Syntax) (k : Kind) (parts : Marks) (x : Given) (c : ℕ) → GivenLow x →
      CallLow (word_of t) how → height_of g (part_by how t k parts x c) ≤ h
  by_low made.Number t k parts x c z e = leaf_low g h
  by_low made.Items t k parts x c z e = z.items c
  by_low made.Inside t k parts x c z e = z.front c
  by_low (made.Signed op) t k parts x c z e =
      cast_low g h (type_in k) (span_of t) (signed_at op (span_of t) (x.front c))
      (signed_low g h op (span_of t) (x.front c) (z.front c))
  by_low made.Selected t k parts x c z e = z.front (selected_at t parts c)
  by_low (made.Joined op) t k parts x c z e =
      component_low g h op (type_in k) (span_of t) (x.front c) (x.second c) (z.front c) (z.second c)
  by_low made.Called t k parts x c z e = both (g (name_in (word_of t))) (height_of_all g (x.all c)) h e (z.all c)
  by_low made.Listed t k parts x c z e = z.list c
  by_low made.Variable t k parts x c z e = leaf_low g h
  by_low made.Element t k parts x c z e = leaf_low g h

  either_low : (b : Bool) (s t : Syntax) → height_of g s ≤ h → height_of g t ≤ h →
      height_of g (if b then s else t) ≤ h
  either_low true s t p q = p
  either_low false s t p q = q

  -- the first of some low parts, and the others
  pub first_low : (m : Mark) (ms : Marks) → marks_height g (marking m ms) ≤ h → mark_height g m ≤ h
  first_low m ms e = through (mark_height g m) (max (mark_height g m) (marks_height g ms)) h
      (front (mark_height g m) (marks_height g ms)) e

  pub others_low : (m : Mark) (ms : Marks) → marks_height g (marking m ms) ≤ h → marks_height g ms ≤ h
  others_low m ms e = through (marks_height g ms) (max (mark_height g m) (marks_height g ms)) h
      (behind (mark_height g m) (marks_height g ms)) e

  -- the parts of a low node, and its call
  pub inner_low : (t : Syntax) (k : Kind) (parts : Marks) → mark_height g (mark t k parts) ≤ h →
      marks_height g parts ≤ h
  inner_low t k parts e = through (marks_height g parts) (mark_height g (mark t k parts)) h
      (parts_below g (form_of t) (word_of t) (marks_height g parts)) e

  pub call_below : (t : Syntax) (k : Kind) (parts : Marks) → mark_height g (mark t k parts) ≤ h →
      own_height g (form_of t) (word_of t) ≤ h
  call_below t k parts e = through (own_height g (form_of t) (word_of t)) (mark_height g (mark t k parts)) h
      (own_below g (form_of t) (word_of t) (marks_height g parts)) e

  mutual
    unfolding part_in item_part front_part second_part all_parts list_part inside_part filled_part

    pub part_low : (listed : Bool) (m : Mark) (c : ℕ) → mark_height g m ≤ h → height_of g (part_in listed m c) ≤ h
    part_low listed (mark t k parts) c e =
        let i = inner_low t k parts e in
        by_low (made_of listed t k) t k parts (record {
          items = λ d. item_part parts t d;
          front = λ d. front_part parts t d;
          second = λ d. second_part parts t d;
          all = λ d. all_parts parts d;
          list = λ d. list_part parts t d;
        }) c (record {
          items = λ d. item_low parts t d i;
          front = λ d. front_low parts t d i;
          second = λ d. second_low parts t d i;
          all = λ d. all_low parts d i;
          list = λ d. list_low parts t d i;
        }) (call_low listed t k (call_below t k parts e))

    item_low : (ms : Marks) (t : Syntax) (c : ℕ) → marks_height g ms ≤ h → height_of g (item_part ms t c) ≤ h
    item_low unmarked t c e = leaf_low g h
    item_low (marking m unmarked) t c e = part_low true m c (first_low m unmarked e)
    item_low (marking m (marking n ns)) t c e =
        either_low (nat_lt c (width_of m)) (part_in true m c) (part_in false n (c - width_of m))
        (part_low true m c (first_low m (marking n ns) e))
        (part_low false n (c - width_of m) (first_low n ns (others_low m (marking n ns) e)))

    front_low : (ms : Marks) (t : Syntax) (c : ℕ) → marks_height g ms ≤ h → height_of g (front_part ms t c) ≤ h
    front_low unmarked t c e = leaf_low g h
    front_low (marking m ms) t c e = part_low false m c (first_low m ms e)

    second_low : (ms : Marks) (t : Syntax) (c : ℕ) → marks_height g ms ≤ h → height_of g (second_part ms t c) ≤ h
    second_low unmarked t c e = leaf_low g h
    second_low (marking m unmarked) t c e = leaf_low g h
    second_low (marking m (marking n ns)) t c e = part_low false n c (first_low n ns (others_low m (marking n ns) e))

    all_low : (ms : Marks) (c : ℕ) → marks_height g ms ≤ h → height_of_all g (all_parts ms c) ≤ h
    all_low unmarked c e = none_low g h
    all_low (marking m ms) c e = more_low g h (part_in false m c) (all_parts ms c)
        (part_low false m c (first_low m ms e)) (all_low ms c (others_low m ms e))

    list_low : (ms : Marks) (t : Syntax) (c : ℕ) → marks_height g ms ≤ h → height_of g (list_part ms t c) ≤ h
    list_low unmarked t c e = leaf_low g h
    list_low (marking m ms) t c e =
        either_low (is_paren (form_of (tree_at m))) (inside_part m c) (list_part ms t c)
        (inside_low m c (first_low m ms e)) (list_low ms t c (others_low m ms e))

    inside_low : (m : Mark) (c : ℕ) → mark_height g m ≤ h → height_of g (inside_part m c) ≤ h
    inside_low (mark t k parts) c e = filled_low parts t c (inner_low t k parts e)

    filled_low : (ms : Marks) (t : Syntax) (c : ℕ) → marks_height g ms ≤ h → height_of g (filled_part ms t c) ≤ h
    filled_low unmarked t c e = leaf_low g h
    filled_low (marking m ms) t c e = part_low true m (filled_at (width_of m) c) (first_low m ms e)

  -- what is set, too
  pub assigned_part_low : (a : Assigned) (j : ℕ) → mark_height g a.value ≤ h → height_of g (assigned_part a j) ≤ h
  assigned_part_low a j e = by a.operator
    where
      by : (o : Option Bin) → height_of g (assigned_by o a j) ≤ h
      by None = part_low false a.value j e
      by (Some op) = component_low g h op a.of a.target (helping_component a.target (slice_index a.components j))
          (part_of a.value j) (leaf_low g h) (part_low false a.value j e)
