-- The vectors of a marked tree have at most 16 components each.
use Rattle.std.proofs.Common.{◌≡◌, ℕ, zero, suc, ◌+◌, ◌≤◌, nat_eq, nat_le, List, [], ◌∷◌, length, Option, Some, None}
use Rattle.std.proofs.Common.{Bool, true, false, ◌&&◌, if◌then◌else◌, refl, arith}
use Rattle.std.proofs.lemmas.Bool.{false≢true}
use Rattle.std.proofs.lemmas.Bool.Decides.{nat_tests}
use Rattle.std.specs.Str.{bytes_eq}
use Rattle.std.specs.Prelude.{slice_index, codes}
use lib.Pointwise.{pointwise}
use Rattle.wg_num.specs.declared.types.Bin.{Bin}
use Rattle.wg_num.specs.declared.types.Bin.TheVariants as bins
use Rattle.wg_num.specs.declared.types.Un.TheVariants as uns
use Rattle.cl_tree.specs.declared.tree.Form.{Form}
use Rattle.cl_tree.specs.declared.tree.Form.TheVariants as forms
use Rattle.cl_tree.specs.Syntax.{Syntax, node, Forest, none, more}
use Rattle.cl_meaning.specs.declared.operators.Prefix.{Prefix}
use Rattle.cl_meaning.specs.declared.operators.Prefix.TheVariants as prefixes
use Rattle.cl_meaning.specs.declared.operators.Postfix.{Postfix}
use Rattle.cl_meaning.specs.declared.operators.Postfix.TheVariants as postfixes
use Rattle.cl_meaning.specs.declared.names.Intrinsic.{Intrinsic}
use Rattle.cl_meaning.specs.declared.names.Intrinsic.TheVariants as intrinsics
use Rattle.cl_meaning.specs.Spelling.{name_in, binary_in, prefix_in, postfix_in, intrinsic_in}
use Rattle.cl_meaning.specs.Types.{bare, declared_in}
use Rattle.cl_meaning.specs.Conversions.{is_comparison}
use Rattle.cl_meaning.specs.Declarations.{word_of, parts_of, form_of, second_star}
use Rattle.cl_meaning.specs.Kinds.{is_some}
use Rattle.cl_short_vec.specs.declared.types.Vector.{Vector}
use Rattle.cl_short_vec.specs.declared.kinds.Reach.{Reach}
use Rattle.cl_short_vec.specs.declared.kinds.Reach.TheVariants.{Variable, Element}
use Rattle.cl_short_vec.specs.declared.kinds.Kind.{Kind}
use Rattle.cl_short_vec.specs.declared.kinds.Kind.TheVariants.{Vectors, Pointer, Other}
use Rattle.cl_short_vec.specs.Types.{alone, named_vector, vectors, vector, vector_in, vector_type, selected}
use Rattle.cl_short_vec.specs.Types.{selection_in, named_in, allowed, all_below, is_width, numbers, picked, signed_of}
use Rattle.cl_short_vec.specs.Kinds.{Names, no_names, with_name, is_variable, declared_kind, behind_declared}
use Rattle.cl_short_vec.specs.Kinds.{behind_declarator, behind_declarators, pointed_by, parameter_kind, pointer_to}
use Rattle.cl_short_vec.specs.Kinds.{behind_parameter, behind_parameters, behind, behind_part, later}
use Rattle.cl_short_vec.specs.Kinds.{calls_fence, with_fences, within}
use Rattle.cl_short_vec.specs.Kinds.{is_vector, value_of, first_vector, pointer_alone, element_of, address_of, several}
use Rattle.cl_short_vec.specs.Kinds.{selection_of, compared, pointer_moved, joined_kind, prefix_kind, postfix_kind}
use Rattle.cl_short_vec.specs.Kinds.{called_kind, cast_kind, is_operator}
use Rattle.cl_short_vec.specs.Marks.{Mark, mark, Marks, unmarked, marking, tree_at, kind_at, front_kind, back_kind}
use Rattle.cl_short_vec.specs.Marks.{vector_among, front_type, kind_by, marked, marked_parts}
use Rattle.cl_short_vec.specs.Faults.{all_of, selected_in, chosen, picked_by, components_by, components_of}
use Rattle.cl_short_vec.proofs.Rows.{found, rows_pass}

abbrev pub SmallVector : Option Vector → Type 0
SmallVector None = Unit {0}
SmallVector (Some v) = v.count ≤ 16

abbrev pub SmallKind : Kind → Type 0
SmallKind (Vectors v r) = v.count ≤ 16
SmallKind (Pointer s c v) = v.count ≤ 16
SmallKind (Other b) = Unit {0}

abbrev mutual
  pub SmallMark : Mark → Type 0
  SmallMark (mark t k ms) = SmallKind k × SmallMarks ms

  pub SmallMarks : Marks → Type 0
  SmallMarks unmarked = Unit {0}
  SmallMarks (marking m ms) = SmallMark m × SmallMarks ms

abbrev pub SmallNames : Names → Type 0
SmallNames names = (q : List ℕ) → SmallKind (names q)

-- ---- types and selections

abbrev Passes : Option Vector → Type 0
Passes None = Unit {0}
Passes (Some v) = nat_le v.count 16 ≡ true

passing_small : (o : Option Vector) → Passes o → SmallVector o
passing_small None h = tt
passing_small (Some v) h = grind (arith, nat_tests)

pub vector_small : (w : List ℕ) → SmallVector (vector_in w)
unfolding vector_in
vector_small w = passing_small (named_vector (alone (bare w))) (by (alone (bare w)))
  where
    by : (o : Option (List ℕ)) → Passes (named_vector o)
    by None = tt
    by (Some p) =
        found Passes (pointwise nat_eq p) vectors tt (rows_pass (λ (v : Vector). nat_le v.count 16) vectors refl)

pub type_small : (t : Syntax) → SmallVector (vector_type t)
type_small (node forms.TypeNode w f l parts) = vector_small w
type_small t = tt

abbrev SmallWidth : Option (List ℕ) → Type 0
SmallWidth None = Unit {0}
SmallWidth (Some ks) = length ks ≤ 16

both : (a b : Bool) → a && b ≡ true → (a ≡ true) × (b ≡ true)
both true b e = (refl, e)
both false b e = absurd (false≢true e)

width_small : (n : ℕ) → is_width n ≡ true → n ≤ 16
width_small n h = grind (arith, nat_tests)

selected_small : (n : ℕ) (name : List ℕ) → SmallWidth (selected n name)
unfolding selected
selected_small n name = by (named_in n name)
  where
    tested : (ks : List ℕ) (b : Bool) → all_below n ks && is_width (length ks) ≡ b →
        SmallWidth (if b then Some ks else None)
    tested ks false e = tt
    tested ks true e = width_small (length ks) (both (all_below n ks) (is_width (length ks)) e).1

    by : (o : Option (List ℕ)) → SmallWidth (allowed n o)
    by None = tt
    by (Some ks) = tested ks (all_below n ks && is_width (length ks)) refl

-- ---- kinds

pub either_small : (b : Bool) (j k : Kind) → SmallKind j → SmallKind k → SmallKind (if b then j else k)
either_small true j k h i = h
either_small false j k h i = i

value_small : (k : Kind) → SmallKind k → SmallKind (value_of k)
value_small (Vectors v r) h = h
value_small (Pointer s c v) h = tt
value_small (Other b) h = tt

alone_small : (k : Kind) → SmallKind k → SmallKind (pointer_alone k)
alone_small (Vectors v r) h = tt
alone_small (Pointer s c v) h = h
alone_small (Other b) h = tt

element_small : (k : Kind) → SmallKind k → SmallKind (element_of k)
element_small (Vectors v r) h = tt
element_small (Pointer s c v) h = h
element_small (Other b) h = tt

address_small : (k : Kind) → SmallKind k → SmallKind (address_of k)
address_small (Vectors v (Element s c)) h = h
address_small k h = tt

several_small : (v : Vector) (r : Reach) (o : Option (List ℕ)) → SmallWidth o → SmallKind (several v r o)
several_small v r None h = tt
several_small v r (Some ks) h = either_small (nat_eq (length ks) 1) (Other true) (Vectors (vector v.of (length ks)) r) tt h

selection_small : (k : Kind) (name : List ℕ) → SmallKind (selection_of k name)
selection_small (Vectors v r) name = several_small v r (selected v.count name) (selected_small v.count name)
selection_small (Pointer s c v) name = tt
selection_small (Other b) name = tt

first_small : (j k : Kind) → SmallKind j → SmallKind k → SmallKind (first_vector j k)
first_small j k h i = either_small (is_vector j) (value_of j) (value_of k) (value_small j h) (value_small k i)

compared_small : (op : Bin) (k : Kind) → SmallKind k → SmallKind (compared op k)
compared_small op (Vectors v r) h =
    either_small (is_comparison op) (Vectors (vector (signed_of v.of) v.count) r) (Vectors v r) h h
compared_small op (Pointer s c v) h = h
compared_small op (Other b) h = tt

moved_small : (op : Bin) (j k : Kind) → SmallKind j → SmallKind k → SmallKind (pointer_moved op j k)
moved_small bins.Add (Pointer s c v) (Other b) h i = h
moved_small bins.Add (Other b) (Pointer s c v) h i = i
moved_small bins.Sub (Pointer s c v) (Other b) h i = h
moved_small op j k h i = tt

joined_small : (o : Option Bin) (j k : Kind) → SmallKind j → SmallKind k → SmallKind (joined_kind o j k)
joined_small None j k h i = tt
joined_small (Some op) j k h i =
    either_small (is_vector (first_vector j k)) (compared op (first_vector j k)) (pointer_moved op j k)
    (compared_small op (first_vector j k) (first_small j k h i)) (moved_small op j k h i)

prefix_small : (o : Option Prefix) (k : Kind) → SmallKind k → SmallKind (prefix_kind o k)
prefix_small (Some (prefixes.Operator uns.Not)) k h = tt
prefix_small (Some (prefixes.Operator op)) k h = value_small k h
prefix_small (Some prefixes.Content) k h = element_small k h
prefix_small (Some prefixes.Address) k h = address_small k h
prefix_small (Some (prefixes.Step op)) k h = alone_small k h
prefix_small o k h = tt

postfix_small : (name : Option (List ℕ)) (o : Option Postfix) (k : Kind) → SmallKind k →
    SmallKind (postfix_kind name o k)
postfix_small (Some name) o k h = selection_small k name
postfix_small None (Some postfixes.Index) k h = element_small k h
postfix_small None (Some (postfixes.Step op)) k h = alone_small k h
postfix_small None None k h = tt

called_small : (i : Option Intrinsic) (k : Kind) → SmallKind k → SmallKind (called_kind i k)
called_small (Some (intrinsics.Function g)) (Vectors v r) h = h
called_small i k h = tt

cast_small : (o : Option Vector) → SmallVector o → SmallKind (cast_kind o)
cast_small None h = tt
cast_small (Some v) h = h

-- ---- parts

pub mark_small : (m : Mark) → SmallMark m → SmallKind (kind_at m)
mark_small (mark t k ms) h = h.0

front_small : (ms : Marks) → SmallMarks ms → SmallKind (front_kind ms)
front_small unmarked h = tt
front_small (marking m ms) h = mark_small m h.0

back_small : (ms : Marks) → SmallMarks ms → SmallKind (back_kind ms)
back_small unmarked h = tt
back_small (marking m unmarked) h = mark_small m h.0
back_small (marking m (marking n ns)) h = back_small (marking n ns) h.1

among_small : (ms : Marks) → SmallMarks ms → SmallKind (vector_among ms)
among_small unmarked h = tt
among_small (marking m ms) h = either_small (is_vector (kind_at m)) (value_of (kind_at m)) (vector_among ms)
    (value_small (kind_at m) (mark_small m h.0)) (among_small ms h.1)

front_type_small : (ms : Marks) → SmallVector (front_type ms)
front_type_small unmarked = tt
front_type_small (marking m ms) = type_small (tree_at m)

pub kind_small : (names : Names) (form : Form) (w : List ℕ) (ms : Marks) → SmallNames names → SmallMarks ms →
    SmallKind (kind_by names form w ms)
unfolding kind_by
kind_small names forms.VariableNode w ms n h = n (name_in w)
kind_small names forms.ParenNode w ms n h = front_small ms h
kind_small names forms.UnaryNode w ms n h = prefix_small (prefix_in w) (front_kind ms) (front_small ms h)
kind_small names forms.PostfixNode w ms n h =
    postfix_small (selection_in w) (postfix_in w) (front_kind ms) (front_small ms h)
kind_small names forms.CallNode w ms n h =
    called_small (intrinsic_in (name_in w)) (vector_among ms) (among_small ms h)
kind_small names forms.CastNode w ms n h = cast_small (front_type ms) (front_type_small ms)
kind_small names forms.ExprNode w ms n h = alone_small (back_kind ms) (back_small ms h)
kind_small names forms.AssignNode w ms n h = alone_small (front_kind ms) (front_small ms h)
kind_small names form w ms n h = either_small (is_operator form) (joined_kind (binary_in w) (front_kind ms)
    (back_kind ms)) (Other true) (joined_small (binary_in w) (front_kind ms) (back_kind ms) (front_small ms h)
    (back_small ms h)) tt

-- ---- names

pub nothing_small : SmallNames no_names
nothing_small q = tt

pub with_small : (names : Names) (name : List ℕ) (k : Kind) → SmallNames names → SmallKind k →
    SmallNames (with_name names name k)
with_small names name k n h q = either_small (bytes_eq name q) k (names q) h (n q)

declared_small : (v : Vector) (type d : Syntax) → v.count ≤ 16 → SmallKind (declared_kind v type d)
declared_small v type d h =
    either_small (is_variable (word_of d) (parts_of d)) (Vectors v Variable) (pointer_to v type) h h

behind_declared_small : (o : Option Vector) (names : Names) (type d : Syntax) → SmallVector o → SmallNames names →
    SmallNames (behind_declared o names type d)
behind_declared_small (Some v) names type d h n =
    with_small names (name_in (word_of d)) (declared_kind v type d) n (declared_small v type d h)
behind_declared_small None names type d h n = by (is_some (declared_in type))
  where
    by : (b : Bool) → SmallNames (if b then with_name names (name_in (word_of d)) (Other true) else names)
    by true = with_small names (name_in (word_of d)) (Other true) n tt
    by false = n

pub behind_declarator_small : (names : Names) (type d : Syntax) → SmallNames names →
    SmallNames (behind_declarator names type d)
behind_declarator_small names type d n =
    behind_declared_small (vector_type type) names type d (type_small type) n

pub behind_declarators_small : (names : Names) (type : Syntax) (ds : Forest) → SmallNames names →
    SmallNames (behind_declarators names type ds)
behind_declarators_small names type none n = n
behind_declarators_small names type (more d ds) n =
    behind_declarators_small (behind_declarator names type d) type ds (behind_declarator_small names type d n)

pointed_small : (o : Option Vector) (star : Option Bool) (type : Syntax) → SmallVector o →
    SmallKind (pointed_by o star type)
pointed_small (Some v) (Some fixed) type h = h
pointed_small o star type h = tt

parameter_small : (ps : Forest) → SmallKind (parameter_kind ps)
parameter_small none = tt
parameter_small (more type others) =
    pointed_small (vector_type type) (second_star (more type others)) type (type_small type)

behind_parameters_small : (names : Names) (ps : Forest) → SmallNames names → SmallNames (behind_parameters names ps)
behind_parameters_small names none n = n
behind_parameters_small names (more p ps) n = behind_parameters_small (behind_parameter names p) ps
    (with_small names (name_in (word_of p)) (parameter_kind (parts_of p)) n (parameter_small (parts_of p)))

pub behind_small : (names : Names) (t : Syntax) → SmallNames names → SmallNames (behind names t)
behind_small names (node forms.DeclareNode w f l none) n = n
behind_small names (node forms.DeclareNode w f l (more type ds)) n = behind_declarators_small names type ds n
behind_small names (node forms.ParamsNode w f l parts) n = behind_parameters_small names parts n
behind_small names (node forms.FunctionNode w f l parts) n = with_small names (name_in w) (Other false) n tt
behind_small names t n = n

behind_part_small : (names : Names) (parts : Forest) (front : Bool) (p : Syntax) → SmallNames names →
    SmallNames (behind_part names parts front p)
behind_part_small names (more type ds) false p n = behind_declarator_small names type p n
behind_part_small names parts front p n = n

pub later_small : (form : Form) (parts : Forest) (names : Names) (front : Bool) (p : Syntax) → SmallNames names →
    SmallNames (later form parts names front p)
later_small forms.DeclareNode parts names front p n = behind_part_small names parts front p n
later_small form parts names front p n = behind_small names p n

-- ---- trees

fences_small : (names : Names) → SmallNames names → SmallNames (with_fences names)
fences_small names n q =
    let inner = with_name names (codes "CLK_LOCAL_MEM_FENCE") (Other true) in
    either_small (bytes_eq (codes "CLK_GLOBAL_MEM_FENCE") q) (Other true) (inner q) tt
    (either_small (bytes_eq (codes "CLK_LOCAL_MEM_FENCE") q) (Other true) (names q) tt (n q))

pub within_small : (form : Form) (w : List ℕ) (names : Names) → SmallNames names → SmallNames (within form w names)
within_small forms.CallNode w names n = by (calls_fence (intrinsic_in (name_in w)))
  where
    by : (b : Bool) → SmallNames (if b then with_fences names else names)
    by true = fences_small names n
    by false = n
within_small form w names n = n

mutual
  unfolding marked marked_parts

  pub marked_small : (t : Syntax) (names : Names) → SmallNames names → SmallMark (marked names t)
  marked_small (node form w f l parts) names n =
      let inner = within form w names in
      let h = parts_small form parts inner true parts (within_small form w names n) in
      (kind_small names form w (marked_parts form parts inner true parts) n h, h)

  parts_small : (form : Form) (all : Forest) (names : Names) (front : Bool) (ps : Forest) → SmallNames names →
      SmallMarks (marked_parts form all names front ps)
  parts_small form all names front none n = tt
  parts_small form all names front (more p ps) n = (
    marked_small p names n,
    parts_small form all (later form all names front p) false ps
        (later_small form all names front p n),
  )

-- ---- components

abbrev pub AllSmall : List ℕ → Type 0
AllSmall [] = Unit {0}
AllSmall (c ∷ cs) = (c ≤ 16) × AllSmall cs

pub numbers_small : (first n : ℕ) → first + n ≤ 16 → AllSmall (numbers first 1 n)
numbers_small first zero h = tt
numbers_small first (suc n) h = (omega arith, numbers_small (first + 1) n (omega arith))

all_small : (k : Kind) → SmallKind k → AllSmall (all_of k)
all_small (Vectors v r) h = numbers_small 0 v.count (omega arith)
all_small (Pointer s c v) h = tt
all_small (Other b) h = tt

index_small : (ks : List ℕ) (j : ℕ) → AllSmall ks → slice_index ks j ≤ 16
index_small [] j h = omega arith
index_small (k ∷ ks) zero h = h.0
index_small (k ∷ ks) (suc j) h = index_small ks j h.1

picked_small : (ks js : List ℕ) → AllSmall ks → AllSmall (picked ks js)
picked_small ks [] h = tt
picked_small ks (j ∷ js) h = (index_small ks j h, picked_small ks js h)

chosen_small : (o : Option (List ℕ)) (ks : List ℕ) → AllSmall ks → AllSmall (chosen o ks)
chosen_small None ks h = h
chosen_small (Some js) ks h = picked_small ks js h

picked_by_small : (name : Option (List ℕ)) (k j : Kind) (ks : List ℕ) → SmallKind k → AllSmall ks →
    AllSmall (picked_by name k j ks)
picked_by_small None k j ks h i = all_small k h
picked_by_small (Some name) k j ks h i = chosen_small (selected_in j name) ks i

by_small : (form : Form) (w : List ℕ) (k j : Kind) (ks : List ℕ) → SmallKind k → AllSmall ks →
    AllSmall (components_by form w k j ks)
by_small forms.ParenNode w k j ks h i = i
by_small forms.PostfixNode w k j ks h i = picked_by_small (selection_in w) k j ks h i
by_small form w k j ks h i = all_small k h

pub components_small : (m : Mark) → SmallMark m → AllSmall (components_of m)
unfolding components_of
components_small (mark t k unmarked) h = all_small k h.0
components_small (mark t k (marking a others)) h =
    by_small (form_of t) (word_of t) k (kind_at a) (components_of a) h.0 (components_small a h.1.0)
