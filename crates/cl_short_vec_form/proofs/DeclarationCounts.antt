-- What stands for a declaration has at most 64 nodes for each node and each component of its widest vector, in one
-- node and as the lines of a block.
use Rattle.std.proofs.Common.{◌≡◌, ℕ, suc, ◌+◌, ◌*◌, ◌≤◌, nat_eq, List, [], ◌∷◌, length, Option, Some, None}
use Rattle.std.proofs.Common.{Bool, true, false, if◌then◌else◌, refl, arith}
use Rattle.cl_tree.specs.declared.tree.Form.TheVariants as forms
use Rattle.cl_tree.specs.Syntax.{Syntax, none, more, joined}
use Rattle.cl_tree.specs.Nodes.{forest1}
use Rattle.cl_meaning.specs.Spelling.{dimensions_in, is_set}
use Rattle.cl_meaning.specs.Declarations.{form_of, word_of}
use Rattle.cl_limits.specs.Limits.{count_nodes, count_forest}
use Rattle.cl_short_vec.specs.declared.types.Vector.{Vector}
use Rattle.cl_short_vec.specs.declared.kinds.Kind.{Kind}
use Rattle.cl_short_vec.specs.Types.{vector_type, numbers}
use Rattle.cl_short_vec.specs.Marks.{Mark, mark, Marks, unmarked, marking, tree_at, back}
use Rattle.cl_short_vec.specs.Order.{Named}
use Rattle.cl_short_vec.specs.Nodes.{at, span_of, with_parts}
use Rattle.cl_short_vec.specs.Scalar.{scalar, scalars}
use Rattle.cl_short_vec.specs.Unit.{name_span, declared_name, component_declarators, length_at, is_length_form}
use Rattle.cl_short_vec.specs.Unit.{length_or_part, lengths_at, declarators_of, all_declarators, declaration_by}
use Rattle.cl_short_vec.specs.Unit.{declaration, initialiser_by, initialiser, declarator_lines, vector_lines, lines_by}
use Rattle.cl_short_vec.specs.Unit.{declaration_lines}
use Rattle.cl_short_vec_form.specs.Sizes.{named_width, widest, widest_among}
use Rattle.cl_short_vec_form.proofs.Counting.{grows, with_count, joined_count, either_count, numbers_length}
use Rattle.cl_short_vec_form.proofs.Counting.{size, sizes}
use Rattle.cl_short_vec_form.proofs.ScalarCounts.{scalar_count, scalars_count}
use Rattle.cl_short_vec_form.proofs.Widths.{one_wide, among_wide, parts_wide, type_wide, first_wide, others_wide}
use Rattle.cl_short_vec_form.proofs.LineCounts.{IsShort}
use Rattle.cl_short_vec_form.proofs.StepCounts.{initial_count}

-- ---- declarators

-- a length is written three times
length_nodes : (v : Vector) (e : Syntax) → count_nodes (length_at v e) ≤ 12 + 3 * count_nodes e
length_nodes v e = omega arith

length_fits : (x y n : ℕ) → x ≤ 12 + 3 * y → y ≤ 8 * suc n → x ≤ 36 * suc n
length_fits x y n h k = omega arith

part_fits : (x n : ℕ) → x ≤ 8 * n → x ≤ 36 * n
part_fits x n h = omega arith

length_count : (v : Vector) (m : Mark) → count_nodes (length_or_part v m) ≤ 36 * size m
length_count v (mark t k parts) =
    let e = scalar (mark t k parts) in
    let h = scalar_count (mark t k parts) in
    either_count (is_length_form (form_of t)) (length_at v e) e (36 * suc (sizes parts))
    (length_fits (count_nodes (length_at v e)) (count_nodes e) (sizes parts) (length_nodes v e) h)
    (part_fits (count_nodes e) (suc (sizes parts)) h)

lengths_sum : (x y m n : ℕ) → x ≤ 36 * m → y ≤ 36 * n → x + y ≤ 36 * (m + n)
lengths_sum x y m n h k = omega arith

lengths_count : (v : Vector) (ms : Marks) → count_forest (lengths_at v ms) ≤ 36 * sizes ms
lengths_count v unmarked = omega arith
lengths_count v (marking m ms) =
    lengths_sum (count_nodes (length_or_part v m)) (count_forest (lengths_at v ms)) (size m) (sizes ms)
    (length_count v m) (lengths_count v ms)

components_count : (x : Named) (cs : List ℕ) → count_forest (component_declarators x cs) ≡ length cs
components_count x [] = omega arith
components_count x (c ∷ cs) =
    let h = components_count x cs in
    omega arith

-- a variable becomes one declarator for each component, and an array one with other lengths
components_fit : (x n c : ℕ) → x ≤ c → x ≤ 36 * suc n * c
components_fit x n c h = omega arith

array_fits : (x y n c : ℕ) → 1 ≤ c → x ≡ suc y → y ≤ 36 * n → x + 0 ≤ 36 * suc n * c
array_fits x y n c o e h = omega (arith, grows n c o)

declarators_count : (v : Vector) (m : Mark) (c : ℕ) → 1 ≤ c → v.count ≤ c →
    count_forest (declarators_of v m) ≤ 36 * size m * c
declarators_count v (mark d k parts) c o h = by (nat_eq (dimensions_in (word_of d)) 0)
  where
    by : (z : Bool) → count_forest (if z then component_declarators (declared_name d) (numbers 0 1 v.count) else
        forest1 (at forms.DeclaratorNode (word_of d) (span_of d) (lengths_at v parts))) ≤ 36 * suc (sizes parts) * c
    by true =
        let i = components_count (declared_name d) (numbers 0 1 v.count) in
        let n = numbers_length 0 1 v.count in
        components_fit (count_forest (component_declarators (declared_name d) (numbers 0 1 v.count))) (sizes parts) c
        (omega arith)
    by false =
        let ls = lengths_at v parts in
        array_fits (suc (count_forest ls)) (count_forest ls) (sizes parts) c o refl (lengths_count v parts)

declarators_sum : (x y z m n c : ℕ) → z ≡ x + y → x ≤ 36 * m * c → y ≤ 36 * n * c → z ≤ 36 * (m + n) * c
declarators_sum x y z m n c e h k = omega arith

all_declarators_count : (v : Vector) (ms : Marks) (c : ℕ) → 1 ≤ c → v.count ≤ c →
    count_forest (all_declarators v ms) ≤ 36 * sizes ms * c
all_declarators_count v unmarked c o h = omega arith
all_declarators_count v (marking m ms) c o h =
    let ds = declarators_of v m in
    let es = all_declarators v ms in
    declarators_sum (count_forest ds) (count_forest es) (count_forest (joined ds es)) (size m) (sizes ms) c
    (joined_count ds es) (declarators_count v m c o h) (all_declarators_count v ms c o h)

-- ---- declarations in one node

named_wide : (m : Mark) (c : ℕ) → widest m ≤ c → named_width (vector_type (tree_at m)) ≤ c
named_wide (mark t k parts) c h = type_wide t k parts c h

-- a declaration of no vectors
plain_fits : (x y n c : ℕ) → 1 ≤ c → x ≡ suc y → y ≤ 8 * n → x ≤ 64 * suc n * c
plain_fits x y n c o e h = omega (arith, grows n c o)

-- the type, and the declarators behind it
behind_type : (x y m n c : ℕ) → 1 ≤ c → x ≤ 8 * m → y ≤ 36 * n * c → suc (x + y) ≤ 64 * suc (m + n) * c
behind_type x y m n c o h k = omega (arith, grows m c o)

one_node : (x y n : ℕ) → x ≡ suc y → suc y ≤ n → x ≤ n
one_node x y n e h = omega arith

pub declaration_count : (t : Syntax) (ms : Marks) (c : ℕ) → widest_among ms ≤ c →
    count_nodes (with_parts t (declaration ms)) ≤ 64 * suc (sizes ms) * c
declaration_count t unmarked c h =
    let o = among_wide unmarked in
    plain_fits (count_nodes (with_parts t none)) 0 0 c (omega arith) (with_count t none) (omega arith)
declaration_count t (marking type ms) c h =
    by (vector_type (tree_at type)) (named_wide type c (first_wide type ms c h)) (omega (
      arith,
      among_wide
          (marking type ms),
    ))
  where
    by : (o : Option Vector) → named_width o ≤ c → 1 ≤ c →
        count_nodes (with_parts t (declaration_by o type ms)) ≤ 64 * suc (size type + sizes ms) * c
    by None w o =
        plain_fits (count_nodes (with_parts t (scalars (marking type ms)))) (count_forest (scalars (marking type ms)))
        (size type + sizes ms) c o (with_count t (scalars (marking type ms))) (scalars_count (marking type ms))
    by (Some v) w o =
        one_node (count_nodes (with_parts t (more (scalar type) (all_declarators v ms))))
        (count_nodes (scalar type) + count_forest (all_declarators v ms)) (64 * suc (size type + sizes ms) * c)
        (with_count t (more (scalar type) (all_declarators v ms)))
        (behind_type (count_nodes (scalar type)) (count_forest (all_declarators v ms)) (size type) (sizes ms) c o
        (scalar_count type) (all_declarators_count v ms c o w))

-- ---- declarations in lines

-- a value among parts of that many nodes, which is no wider
abbrev FitsIn : ℕ → ℕ → Option Mark → Type 0
FitsIn n c None = Unit {0}
FitsIn n c (Some m) = (size m ≤ n) × (widest m ≤ c)

further_in : (o : Option Mark) (n k c : ℕ) → FitsIn n c o → FitsIn (k + n) c o
further_in None n k c h = tt
further_in (Some m) n k c h = (larger (size m) n k h.0, h.1)
  where
    larger : (x n k : ℕ) → x ≤ n → x ≤ k + n
    larger x n k h = omega arith

last_fits : (ms : Marks) (c : ℕ) → widest_among ms ≤ c → FitsIn (sizes ms) c (back ms)
last_fits unmarked c h = tt
last_fits (marking m unmarked) c h = (omega arith, first_wide m unmarked c h)
last_fits (marking m (marking n ns)) c h =
    further_in (back (marking n ns)) (sizes (marking n ns)) (size m) c
    (last_fits (marking n ns) c (others_wide m (marking n ns) c h))

set_fits : (z : Bool) (o : Option Mark) (n c : ℕ) → FitsIn n c o → FitsIn n c (initialiser_by z o)
set_fits true o n c h = h
set_fits false o n c h = tt

-- a declarator without an initialiser is a declaration of its own
unset_fits : (x y n c : ℕ) → 1 ≤ c → x ≤ 2 → y ≤ 36 * suc n * c → suc (x + y) + 0 ≤ 64 * suc n * c
unset_fits x y n c o h k = omega arith

-- and one with an initialiser the lines of its steps
value_fits : (x m n c : ℕ) → x ≤ 64 * suc m * c → m ≤ n → x ≤ 64 * suc n * c
value_fits x m n c h k =
    let i = times m n c k in
    omega arith
  where
    times : (m n c : ℕ) → m ≤ n → m * c ≤ n * c
    times m n c h = grind arith

value_lines : (v : Vector) (type : Mark) (t : Syntax) (k : Kind) (parts : Marks) (o : Option Mark) (c : ℕ) →
    IsShort (Some type) → 1 ≤ c → v.count ≤ c → FitsIn (sizes parts) c o →
    count_forest (declarator_lines v type (mark t k parts) o) ≤ 64 * suc (sizes parts) * c
value_lines v type t k parts None c s o w h =
    unset_fits (count_nodes (scalar type)) (count_forest (declarators_of v (mark t k parts))) (sizes parts) c o s
    (declarators_count v (mark t k parts) c o w)
value_lines v type t k parts (Some e) c s o w h =
    value_fits (count_forest (declarator_lines v type (mark t k parts) (Some e))) (size e) (sizes parts) c
    (initial_count (Some type) (record {
      operator = None;
      of = v.of;
      target = name_span t;
      components = [];
      value = e;
    }) v (declared_name t) c s o w h.1) h.0

declarator_count : (v : Vector) (type m : Mark) (c : ℕ) → IsShort (Some type) → 1 ≤ c → v.count ≤ c → widest m ≤ c →
    count_forest (declarator_lines v type m (initialiser m)) ≤ 64 * size m * c
declarator_count v type (mark t k parts) c s o w h =
    value_lines v type t k parts (initialiser_by (is_set (word_of t)) (back parts)) c s o w
    (set_fits (is_set (word_of t)) (back parts) (sizes parts) c (last_fits parts c (parts_wide t k parts c h)))

pub lines_sum : (x y z m n c : ℕ) → z ≡ x + y → x ≤ 64 * m * c → y ≤ 64 * n * c → z ≤ 64 * (m + n) * c
lines_sum x y z m n c e h k = omega arith

vector_count : (v : Vector) (type : Mark) (ms : Marks) (c : ℕ) → IsShort (Some type) → 1 ≤ c → v.count ≤ c →
    widest_among ms ≤ c → count_forest (vector_lines v type ms) ≤ 64 * sizes ms * c
vector_count v type unmarked c s o w h = omega arith
vector_count v type (marking m ms) c s o w h =
    let ds = declarator_lines v type m (initialiser m) in
    let es = vector_lines v type ms in
    lines_sum (count_forest ds) (count_forest es) (count_forest (joined ds es)) (size m) (sizes ms) c
    (joined_count ds es) (declarator_count v type m c s o w (first_wide m ms c h))
    (vector_count v type ms c s o w (others_wide m ms c h))

without_type : (x m n c : ℕ) → x ≤ 64 * n * c → x ≤ 64 * suc (m + n) * c
without_type x m n c h = omega arith

with_none : (x y : ℕ) → x ≤ y → x + 0 ≤ y
with_none x y h = omega arith

-- the first of some parts is a type of a word, with an address space or without one
abbrev pub IsShortFirst : Marks → Type 0
IsShortFirst unmarked = Unit {0}
IsShortFirst (marking type ms) = IsShort (Some type)

pub declaration_lines_count : (t : Syntax) (k : Kind) (parts : Marks) (c : ℕ) → widest (mark t k parts) ≤ c →
    IsShortFirst parts → count_forest (declaration_lines (mark t k parts)) ≤ 64 * suc (sizes parts) * c
declaration_lines_count t k unmarked c h s =
    let x = count_nodes (with_parts t none) in
    with_none x (64 * 1 * c) (plain_fits x 0 0 c (omega (arith, one_wide (mark t k unmarked))) (with_count t none)
    (omega arith))
declaration_lines_count t k (marking type ms) c h s =
    let w = parts_wide t k (marking type ms) c h in
    by (vector_type (tree_at type)) (named_wide type c (first_wide type ms c w)) (others_wide type ms c w)
    (omega (arith, one_wide (mark t k (marking type ms))))
  where
    by : (o : Option Vector) → named_width o ≤ c → widest_among ms ≤ c → 1 ≤ c →
        count_forest (lines_by o t type ms) ≤ 64 * suc (size type + sizes ms) * c
    by None w i o =
        let x = count_nodes (with_parts t (scalars (marking type ms))) in
        with_none x (64 * suc (size type + sizes ms) * c)
        (plain_fits x (count_forest (scalars (marking type ms))) (size type + sizes ms) c o
        (with_count t (scalars (marking type ms))) (scalars_count (marking type ms)))
    by (Some v) w i o =
        without_type (count_forest (vector_lines v type ms)) (size type) (sizes ms) c
        (vector_count v type ms c s o w i)
