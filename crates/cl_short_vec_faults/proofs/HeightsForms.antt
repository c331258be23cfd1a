-- Barriers stand no deeper in a unit without vectors than in the unit.
use Rattle.std.proofs.Common.{ℕ, ◌≤◌, List, [], ◌∷◌, Option, Some, None, Bool, true, false, nat_eq}
use Rattle.std.proofs.Common.{if◌then◌else◌}
use Rattle.std.specs.Prelude.{codes}
use Rattle.wg_num.specs.declared.types.Bin.{Bin}
use Rattle.wg_num.specs.declared.types.Bin.TheVariants as bins
use Rattle.cl_tree.specs.declared.tree.Form.{Form}
use Rattle.cl_tree.specs.declared.tree.Form.TheVariants as forms
use Rattle.cl_tree.specs.Syntax.{Syntax, node, Forest, none, more}
use Rattle.cl_tree.specs.Nodes.{forest1, forest2, forest3}
use Rattle.cl_limits.specs.Heights.{height_of, height_of_all}
use Rattle.cl_meaning.specs.Spelling.{setting_in, dimensions_in, is_set}
use Rattle.cl_meaning.specs.Declarations.{form_of, word_of}
use Rattle.cl_short_vec.specs.declared.nodes.Span.{Span}
use Rattle.cl_short_vec.specs.declared.types.Vector.{Vector}
use Rattle.cl_short_vec.specs.declared.kinds.Kind.{Kind}
use Rattle.cl_short_vec.specs.Types.{numbers, vector_type}
use Rattle.cl_short_vec.specs.Kinds.{is_vector}
use Rattle.cl_short_vec.specs.Marks.{Mark, mark, Marks, unmarked, marking, tree_at, kind_at, back}
use Rattle.cl_short_vec.specs.Order.{Named, operator_in, initial_steps}
use Rattle.cl_short_vec.specs.Parts.{Assigned}
use Rattle.cl_short_vec.specs.Nodes.{span_of, at, with_parts, int_at, paren_at}
use Rattle.cl_short_vec.specs.Scalar.{scalar, scalars}
use Rattle.cl_short_vec.specs.Unit.{set_block, whole_by, simple_at, name_span, declared_name, component_declarator}
use Rattle.cl_short_vec.specs.Unit.{component_declarators, beside, test_at, length_at, is_length_form, length_or_part}
use Rattle.cl_short_vec.specs.Unit.{lengths_at, declarators_of, all_declarators, declaration_by}
use Rattle.cl_short_vec.specs.Unit.{declaration, initialiser_by, initialiser, declarator_lines, vector_lines, lines_by}
use Rattle.cl_short_vec.specs.Unit.{declaration_lines, rebuilt, is_declaration, block_line, scalarised, all_scalarised}
use Rattle.cl_short_vec.specs.Unit.{block_lines, loop_parts}
use Rattle.cl_short_vec_faults.proofs.HeightsNodes.{through, same, node_height, mark_height, marks_height, parts_below}
use Rattle.cl_short_vec_faults.proofs.HeightsNodes.{with_low, quiet, one_low, two_low, three_low, none_low, more_low}
use Rattle.cl_short_vec_faults.proofs.HeightsNodes.{leaf_low, joined_low, paren_low, operator_low}
use Rattle.cl_short_vec_faults.proofs.HeightsParts.{first_low, others_low, inner_low}
use Rattle.cl_short_vec_faults.proofs.HeightsScalars.{scalar_low, scalars_low}
use Rattle.cl_short_vec_faults.proofs.HeightsSteps.{TypeLow, low_scalar, lines_low, set_block_low, initial_low}

module _ (g : List ℕ → ℕ) (h : ℕ) where
  either_low : (b : Bool) (s t : Syntax) → height_of g s ≤ h → height_of g t ≤ h →
      height_of g (if b then s else t) ≤ h
  either_low true s t p q = p
  either_low false s t p q = q

  either_lines : (b : Bool) (ss ts : Forest) → height_of_all g ss ≤ h → height_of_all g ts ≤ h →
      height_of_all g (if b then ss else ts) ≤ h
  either_lines true ss ts p q = p
  either_lines false ss ts p q = q

  -- ---- statements

  whole_low : (form : Form) (s : Span) (m : Mark) (plain : Syntax) → mark_height g m ≤ h → height_of g plain ≤ h →
      height_of g (whole_by form s m plain) ≤ h
  whole_low forms.AssignNode s (mark t k (marking a (marking b unmarked))) plain p q =
      let o = operator_in (setting_in (word_of t)) in
      let i = inner_low g h t k (marking a (marking b unmarked)) p in
      either_low (is_vector (kind_at a)) (set_block s o a b) plain
      (set_block_low g h s o a b (first_low g h a (marking b unmarked) i)
      (first_low g h b unmarked (others_low g h a (marking b unmarked) i))) q
  whole_low form s m plain p q = q

  simple_low : (t : Syntax) (ms : Marks) (plain : Syntax) → marks_height g ms ≤ h → height_of g plain ≤ h →
      height_of g (simple_at t ms plain) ≤ h
  simple_low t (marking m unmarked) plain p q =
      whole_low (form_of (tree_at m)) (span_of t) m plain (first_low g h m unmarked p) q
  simple_low t ms plain p q = q

  -- ---- declarations

  components_low : (x : Named) (cs : List ℕ) → height_of_all g (component_declarators x cs) ≤ h
  components_low x [] = none_low g h
  components_low x (c ∷ cs) = more_low g h (component_declarator x c) (component_declarators x cs) (leaf_low g h)
      (components_low x cs)

  beside_low : (op : Bin) (s : Span) (e : Syntax) (n : ℕ) → height_of g e ≤ h → height_of g (beside op s e n) ≤ h
  beside_low op s e n p = operator_low g h op s (paren_at s e) (int_at n s) (paren_low g h s e p) (leaf_low g h)

  test_low : (s : Span) (e : Syntax) → height_of g e ≤ h → height_of g (test_at s e) ≤ h
  test_low s e p =
      let x = beside bins.Gt s e 0 in
      let y = beside bins.Lt s e 1048577 in
      quiet g h (height_of_all g (forest2 x y)) (two_low g h x y (beside_low bins.Gt s e 0 p)
      (beside_low bins.Lt s e 1048577 p))

  length_low : (v : Vector) (e : Syntax) → height_of g e ≤ h → height_of g (length_at v e) ≤ h
  length_low v e p =
      let s = span_of e in
      let x = test_at s e in
      let y = beside bins.Mul s e v.count in
      let z = int_at 0 s in
      quiet g h (height_of_all g (forest3 x y z)) (three_low g h x y z (test_low s e p)
      (beside_low bins.Mul s e v.count p) (leaf_low g h))

  length_part_low : (v : Vector) (m : Mark) → mark_height g m ≤ h → height_of g (length_or_part v m) ≤ h
  length_part_low v m e = either_low (is_length_form (form_of (tree_at m))) (length_at v (scalar m)) (scalar m)
      (length_low v (scalar m) (low_scalar g h m e)) (low_scalar g h m e)

lengths_low : (g : List ℕ → ℕ) (v : Vector) (ms : Marks) → height_of_all g (lengths_at v ms) ≤ marks_height g ms
lengths_low g v unmarked = none_low g 0
lengths_low g v (marking m ms) =
    let n = marks_height g (marking m ms) in
    more_low g n (length_or_part v m) (lengths_at v ms) (length_part_low g n v m (first_low g n m ms (same n)))
    (through (height_of_all g (lengths_at v ms)) (marks_height g ms) n (lengths_low g v ms)
    (others_low g n m ms (same n)))

declarators_low : (g : List ℕ → ℕ) (v : Vector) (m : Mark) → height_of_all g (declarators_of v m) ≤ mark_height g m
declarators_low g v (mark d k parts) =
    let n = mark_height g (mark d k parts) in
    let cs = component_declarators (declared_name d) (numbers 0 1 v.count) in
    let ls = lengths_at v parts in
    let x = at forms.DeclaratorNode (word_of d) (span_of d) ls in
    let m = marks_height g parts in
    either_lines g n (nat_eq (dimensions_in (word_of d)) 0) cs (forest1 x)
    (components_low g n (declared_name d) (numbers 0 1 v.count))
    (one_low g n x (through (height_of g x) m n (quiet g m (height_of_all g ls) (lengths_low g v parts))
    (parts_below g (form_of d) (word_of d) m)))

all_declarators_low : (g : List ℕ → ℕ) (v : Vector) (ms : Marks) →
    height_of_all g (all_declarators v ms) ≤ marks_height g ms
all_declarators_low g v unmarked = none_low g 0
all_declarators_low g v (marking m ms) =
    let n = marks_height g (marking m ms) in
    joined_low g n (declarators_of v m) (all_declarators v ms)
    (through (height_of_all g (declarators_of v m)) (mark_height g m) n (declarators_low g v m)
    (first_low g n m ms (same n)))
    (through (height_of_all g (all_declarators v ms)) (marks_height g ms) n (all_declarators_low g v ms)
    (others_low g n m ms (same n)))

declaration_by_low : (g : List ℕ → ℕ) (o : Option Vector) (type : Mark) (ms : Marks) →
    height_of_all g (declaration_by o type ms) ≤ marks_height g (marking type ms)
declaration_by_low g None type ms = scalars_low g (marking type ms)
declaration_by_low g (Some v) type ms =
    let n = marks_height g (marking type ms) in
    more_low g n (scalar type) (all_declarators v ms) (low_scalar g n type (first_low g n type ms (same n)))
    (through (height_of_all g (all_declarators v ms)) (marks_height g ms) n (all_declarators_low g v ms)
    (others_low g n type ms (same n)))

declaration_low : (g : List ℕ → ℕ) (ms : Marks) → height_of_all g (declaration ms) ≤ marks_height g ms
declaration_low g unmarked = none_low g 0
declaration_low g (marking type ms) = declaration_by_low g (vector_type (tree_at type)) type ms

module _ (g : List ℕ → ℕ) (h : ℕ) where
  back_low : (ms : Marks) → marks_height g ms ≤ h → TypeLow g h (back ms)
  back_low unmarked e = tt
  back_low (marking m unmarked) e = first_low g h m unmarked e
  back_low (marking m (marking n ns)) e = back_low (marking n ns) (others_low g h m (marking n ns) e)

  initialiser_by_low : (b : Bool) (o : Option Mark) → TypeLow g h o → TypeLow g h (initialiser_by b o)
  initialiser_by_low true o e = e
  initialiser_by_low false o e = tt

  initialiser_low : (m : Mark) → mark_height g m ≤ h → TypeLow g h (initialiser m)
  initialiser_low (mark d k parts) e = initialiser_by_low (is_set (word_of d)) (back parts)
      (back_low parts (inner_low g h d k parts e))

  declarator_lines_low : (v : Vector) (type d : Mark) (o : Option Mark) → mark_height g type ≤ h →
      mark_height g d ≤ h → TypeLow g h o → height_of_all g (declarator_lines v type d o) ≤ h
  declarator_lines_low v type d None p q e =
      let ts = more (scalar type) (declarators_of v d) in
      let t = at forms.DeclareNode (codes ";") (span_of (tree_at d)) ts in
      one_low g h t (quiet g h (height_of_all g ts) (more_low g h (scalar type) (declarators_of v d)
      (low_scalar g h type p)
      (through (height_of_all g (declarators_of v d)) (mark_height g d) h (declarators_low g v d) q)))
  declarator_lines_low v type d (Some x) p q e =
      let a : Assigned = record {
        operator = None;
        of = v.of;
        target = name_span (tree_at d);
        components = [];
        value = x;
      } in
      let y = declared_name (tree_at d) in
      lines_low g h (Some type) a (initial_steps v y x) p e (initial_low g h v y x e)

  vector_lines_low : (v : Vector) (type : Mark) (ms : Marks) → mark_height g type ≤ h → marks_height g ms ≤ h →
      height_of_all g (vector_lines v type ms) ≤ h
  vector_lines_low v type unmarked p q = none_low g h
  vector_lines_low v type (marking m ms) p q =
      joined_low g h (declarator_lines v type m (initialiser m)) (vector_lines v type ms)
      (declarator_lines_low v type m (initialiser m) p (first_low g h m ms q)
      (initialiser_low m (first_low g h m ms q)))
      (vector_lines_low v type ms p (others_low g h m ms q))

lines_by_low : (g : List ℕ → ℕ) (o : Option Vector) (t : Syntax) (k : Kind) (type : Mark) (ms : Marks) →
    height_of_all g (lines_by o t type ms) ≤ mark_height g (mark t k (marking type ms))
lines_by_low g None t k type ms =
    let n = mark_height g (mark t k (marking type ms)) in
    let x = with_parts t (scalars (marking type ms)) in
    one_low g n x (with_low g t (scalars (marking type ms)) (marks_height g (marking type ms))
    (scalars_low g (marking type ms)))
lines_by_low g (Some v) t k type ms =
    let n = mark_height g (mark t k (marking type ms)) in
    let i = inner_low g n t k (marking type ms) (same n) in
    vector_lines_low g n v type ms (first_low g n type ms i) (others_low g n type ms i)

declaration_lines_low : (g : List ℕ → ℕ) (m : Mark) → height_of_all g (declaration_lines m) ≤ mark_height g m
declaration_lines_low g (mark t k unmarked) =
    one_low g (mark_height g (mark t k unmarked)) (with_parts t none) (with_low g t none 0 (none_low g 0))
declaration_lines_low g (mark t k (marking type ms)) = lines_by_low g (vector_type (tree_at type)) t k type ms

-- ---- all nodes

rebuilt_low : (g : List ℕ → ℕ) (form : Form) (w : List ℕ) (f l : ℕ) (ps : Forest) (ms : Marks)
    (parts lines looped : Forest) (e : Syntax) → height_of_all g parts ≤ marks_height g ms →
    height_of_all g lines ≤ marks_height g ms → height_of_all g looped ≤ marks_height g ms →
    height_of g e ≤ node_height g form w (marks_height g ms) →
    height_of g (rebuilt form (node form w f l ps) ms parts lines looped e) ≤ node_height g form w (marks_height g ms)
rebuilt_low g forms.UnitNode w f l ps ms parts lines looped e x y z d =
    with_low g (node forms.UnitNode w f l ps) parts (marks_height g ms) x
rebuilt_low g forms.FunctionNode w f l ps ms parts lines looped e x y z d =
    with_low g (node forms.FunctionNode w f l ps) parts (marks_height g ms) x
rebuilt_low g forms.BlockNode w f l ps ms parts lines looped e x y z d =
    with_low g (node forms.BlockNode w f l ps) lines (marks_height g ms) y
rebuilt_low g forms.IfNode w f l ps ms parts lines looped e x y z d =
    with_low g (node forms.IfNode w f l ps) parts (marks_height g ms) x
rebuilt_low g forms.WhileNode w f l ps ms parts lines looped e x y z d =
    with_low g (node forms.WhileNode w f l ps) parts (marks_height g ms) x
rebuilt_low g forms.DoNode w f l ps ms parts lines looped e x y z d =
    with_low g (node forms.DoNode w f l ps) parts (marks_height g ms) x
rebuilt_low g forms.ForNode w f l ps ms parts lines looped e x y z d =
    with_low g (node forms.ForNode w f l ps) looped (marks_height g ms) z
rebuilt_low g forms.SwitchNode w f l ps ms parts lines looped e x y z d =
    with_low g (node forms.SwitchNode w f l ps) parts (marks_height g ms) x
rebuilt_low g forms.CaseNode w f l ps ms parts lines looped e x y z d =
    with_low g (node forms.CaseNode w f l ps) parts (marks_height g ms) x
rebuilt_low g forms.DefaultNode w f l ps ms parts lines looped e x y z d =
    with_low g (node forms.DefaultNode w f l ps) parts (marks_height g ms) x
rebuilt_low g forms.SimpleNode w f l ps ms parts lines looped e x y z d =
    simple_low g (node_height g forms.SimpleNode w (marks_height g ms)) (node forms.SimpleNode w f l ps) ms e
    (parts_below g forms.SimpleNode w (marks_height g ms)) d
rebuilt_low g forms.DeclareNode w f l ps ms parts lines looped e x y z d =
    with_low g (node forms.DeclareNode w f l ps) (declaration ms) (marks_height g ms) (declaration_low g ms)
rebuilt_low g form w f l ps ms parts lines looped e x y z d = d

mutual
  unfolding scalarised all_scalarised block_lines loop_parts

  pub scalarised_low : (g : List ℕ → ℕ) (m : Mark) → height_of g (scalarised m) ≤ mark_height g m
  scalarised_low g (mark (node form w f l ps) k parts) =
      rebuilt_low g form w f l ps parts (all_scalarised parts) (block_lines parts) (loop_parts parts)
      (scalar (mark (node form w f l ps) k parts)) (all_scalarised_low g parts) (block_lines_low g parts)
      (loop_parts_low g parts) (scalar_low g (mark (node form w f l ps) k parts))

  all_scalarised_low : (g : List ℕ → ℕ) (ms : Marks) → height_of_all g (all_scalarised ms) ≤ marks_height g ms
  all_scalarised_low g unmarked = none_low g 0
  all_scalarised_low g (marking m ms) =
      let n = marks_height g (marking m ms) in
      more_low g n (scalarised m) (all_scalarised ms)
      (through (height_of g (scalarised m)) (mark_height g m) n (scalarised_low g m) (first_low g n m ms (same n)))
      (through (height_of_all g (all_scalarised ms)) (marks_height g ms) n (all_scalarised_low g ms)
      (others_low g n m ms (same n)))

  block_lines_low : (g : List ℕ → ℕ) (ms : Marks) → height_of_all g (block_lines ms) ≤ marks_height g ms
  block_lines_low g unmarked = none_low g 0
  block_lines_low g (marking m ms) =
      let n = marks_height g (marking m ms) in
      joined_low g n (block_line m (scalarised m)) (block_lines ms)
      (either_lines g n (is_declaration m) (declaration_lines m) (forest1 (scalarised m))
      (through (height_of_all g (declaration_lines m)) (mark_height g m) n (declaration_lines_low g m)
      (first_low g n m ms (same n)))
      (one_low g n (scalarised m) (through (height_of g (scalarised m)) (mark_height g m) n (scalarised_low g m)
      (first_low g n m ms (same n)))))
      (through (height_of_all g (block_lines ms)) (marks_height g ms) n (block_lines_low g ms)
      (others_low g n m ms (same n)))

  loop_parts_low : (g : List ℕ → ℕ) (ms : Marks) → height_of_all g (loop_parts ms) ≤ marks_height g ms
  loop_parts_low g unmarked = none_low g 0
  loop_parts_low g (marking m ms) =
      let n = marks_height g (marking m ms) in
      more_low g n (if is_declaration m then scalarised m else scalar m) (all_scalarised ms)
      (either_low g n (is_declaration m) (scalarised m) (scalar m)
      (through (height_of g (scalarised m)) (mark_height g m) n (scalarised_low g m) (first_low g n m ms (same n)))
      (low_scalar g n m (first_low g n m ms (same n))))
      (through (height_of_all g (all_scalarised ms)) (marks_height g ms) n (all_scalarised_low g ms)
      (others_low g n m ms (same n)))
