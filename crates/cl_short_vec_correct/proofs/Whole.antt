-- The components of the vectors of a marked tree are no bools.
use Rattle.std.proofs.Common.{◌≡◌, ℕ, nat_eq, List, length, Option, Some, None}
use Rattle.std.proofs.Common.{Bool, true, false, not, if◌then◌else◌, refl, sym}
use Rattle.std.specs.Prelude.{codes}
use Rattle.std.proofs.lemmas.Bool.{false≢true}
use Rattle.std.specs.Str.{bytes_eq}
use lib.Pointwise.{pointwise}
use Rattle.wg_num.specs.declared.types.IntType.{IntType}
use Rattle.wg_num.specs.declared.types.IntType.TheVariants as types
use Rattle.wg_num.specs.declared.types.Fun.{Fun}
use Rattle.wg_num.specs.declared.types.Fun.TheVariants as funs
use Rattle.wg_num.specs.Wrap.{is_bool}
use Rattle.wg_num.specs.Builtins.{result_type, unsigned_of}
use Rattle.wg_num.specs.declared.types.Bin.{Bin}
use Rattle.wg_num.specs.declared.types.Bin.TheVariants as bins
use Rattle.wg_num.specs.declared.types.Un.TheVariants as uns
use Rattle.cl_tree.specs.declared.tree.Form.{Form}
use Rattle.cl_tree.specs.declared.tree.Form.TheVariants as forms
use Rattle.cl_tree.specs.Syntax.{Syntax, node, Forest, none, more}
use Rattle.cl_meaning.specs.declared.operators.Prefix.{Prefix}
use Rattle.cl_meaning.specs.declared.operators.Prefix.TheVariants as prefixes
use Rattle.cl_meaning.specs.declared.operators.Postfix.{Postfix}
use Rattle.cl_meaning.specs.declared.operators.Postfix.TheVariants as postfixes
use Rattle.cl_meaning.specs.declared.names.Intrinsic.{Intrinsic}
use Rattle.cl_meaning.specs.declared.names.Intrinsic.TheVariants as intrinsics
use Rattle.cl_meaning.specs.Spelling.{name_in, binary_in, prefix_in, postfix_in, intrinsic_in}
use Rattle.cl_meaning.specs.Types.{bare, declared_in}
use Rattle.cl_meaning.specs.Conversions.{is_comparison}
use Rattle.cl_meaning.specs.Declarations.{word_of, parts_of, second_star}
use Rattle.cl_meaning.specs.Kinds.{is_some}
use Rattle.cl_short_vec.specs.declared.types.Vector.{Vector}
use Rattle.cl_short_vec.specs.declared.kinds.Reach.{Reach}
use Rattle.cl_short_vec.specs.declared.kinds.Reach.TheVariants.{Variable, Element}
use Rattle.cl_short_vec.specs.declared.kinds.Kind.{Kind}
use Rattle.cl_short_vec.specs.declared.kinds.Kind.TheVariants.{Vectors, Pointer, Other}
use Rattle.cl_short_vec.specs.Types.{alone, named_vector, vectors, vector, vector_in, vector_type, selected}
use Rattle.cl_short_vec.specs.Types.{selection_in, signed_of}
use Rattle.cl_short_vec.specs.Kinds.{Names, no_names, with_name, is_variable, declared_kind, behind_declared}
use Rattle.cl_short_vec.specs.Kinds.{behind_declarator, behind_declarators, pointed_by, parameter_kind, pointer_to}
use Rattle.cl_short_vec.specs.Kinds.{behind_parameter, behind_parameters, behind, behind_part, later}
use Rattle.cl_short_vec.specs.Kinds.{is_vector, value_of, first_vector, pointer_alone, element_of, address_of, several}
use Rattle.cl_short_vec.specs.Kinds.{selection_of, compared, pointer_moved, joined_kind, prefix_kind, postfix_kind}
use Rattle.cl_short_vec.specs.Kinds.{called_kind, cast_kind, is_operator}
use Rattle.cl_short_vec.specs.Kinds.{calls_fence, with_fences, within}
use Rattle.cl_short_vec.specs.Marks.{Mark, mark, Marks, unmarked, marking, tree_at, kind_at, front_kind, back_kind}
use Rattle.cl_short_vec.specs.Marks.{vector_among, front_type, kind_by, marked, marked_parts}
use Rattle.cl_short_vec.proofs.Rows.{found, rows_pass}

abbrev pub WholeVector : Option Vector → Type 0
WholeVector None = Unit {0}
WholeVector (Some v) = is_bool v.of ≡ false

abbrev pub WholeKind : Kind → Type 0
WholeKind (Vectors v r) = is_bool v.of ≡ false
WholeKind (Pointer s c v) = is_bool v.of ≡ false
WholeKind (Other b) = Unit {0}

abbrev mutual
  pub WholeMark : Mark → Type 0
  WholeMark (mark t k ms) = WholeKind k × WholeMarks ms

  pub WholeMarks : Marks → Type 0
  WholeMarks unmarked = Unit {0}
  WholeMarks (marking m ms) = WholeMark m × WholeMarks ms

abbrev pub WholeNames : Names → Type 0
WholeNames names = (q : List ℕ) → WholeKind (names q)

-- ---- types and selections

abbrev Passes : Option Vector → Type 0
Passes None = Unit {0}
Passes (Some v) = not (is_bool v.of) ≡ true

no_bool : (b : Bool) → not b ≡ true → b ≡ false
no_bool true h = absurd (false≢true h)
no_bool false h = refl

passing_whole : (o : Option Vector) → Passes o → WholeVector o
passing_whole None h = tt
passing_whole (Some v) h = no_bool (is_bool v.of) h

pub vector_whole : (w : List ℕ) → WholeVector (vector_in w)
unfolding vector_in
vector_whole w = passing_whole (named_vector (alone (bare w))) (by (alone (bare w)))
  where
    by : (o : Option (List ℕ)) → Passes (named_vector o)
    by None = tt
    by (Some p) =
        found Passes (pointwise nat_eq p) vectors tt (rows_pass (λ (v : Vector). not (is_bool v.of)) vectors refl)

pub type_whole : (t : Syntax) → WholeVector (vector_type t)
type_whole (node forms.TypeNode w f l parts) = vector_whole w
type_whole t = tt

-- ---- kinds

pub either_whole : (b : Bool) (j k : Kind) → WholeKind j → WholeKind k → WholeKind (if b then j else k)
either_whole true j k h i = h
either_whole false j k h i = i

value_whole : (k : Kind) → WholeKind k → WholeKind (value_of k)
value_whole (Vectors v r) h = h
value_whole (Pointer s c v) h = tt
value_whole (Other b) h = tt

alone_whole : (k : Kind) → WholeKind k → WholeKind (pointer_alone k)
alone_whole (Vectors v r) h = tt
alone_whole (Pointer s c v) h = h
alone_whole (Other b) h = tt

element_whole : (k : Kind) → WholeKind k → WholeKind (element_of k)
element_whole (Vectors v r) h = tt
element_whole (Pointer s c v) h = h
element_whole (Other b) h = tt

address_whole : (k : Kind) → WholeKind k → WholeKind (address_of k)
address_whole (Vectors v (Element s c)) h = h
address_whole k h = tt

several_whole : (v : Vector) (r : Reach) (o : Option (List ℕ)) → is_bool v.of ≡ false → WholeKind (several v r o)
several_whole v r None h = tt
several_whole v r (Some ks) h =
    either_whole (nat_eq (length ks) 1) (Other true) (Vectors (vector v.of (length ks)) r) tt h

selection_whole : (k : Kind) (name : List ℕ) → WholeKind k → WholeKind (selection_of k name)
selection_whole (Vectors v r) name h = several_whole v r (selected v.count name) h
selection_whole (Pointer s c v) name h = tt
selection_whole (Other b) name h = tt

first_whole : (j k : Kind) → WholeKind j → WholeKind k → WholeKind (first_vector j k)
first_whole j k h i = either_whole (is_vector j) (value_of j) (value_of k) (value_whole j h) (value_whole k i)

pub signed_whole : (of : IntType) → is_bool of ≡ false → is_bool (signed_of of) ≡ false
signed_whole types.Bool h = absurd (false≢true (sym h))
signed_whole types.Char h = refl
signed_whole types.Uchar h = refl
signed_whole types.Short h = refl
signed_whole types.Ushort h = refl
signed_whole types.Int h = refl
signed_whole types.Uint h = refl
signed_whole types.Long h = refl
signed_whole types.Ulong h = refl

unsigned_whole : (of : IntType) → is_bool of ≡ false → is_bool (unsigned_of of) ≡ false
unsigned_whole types.Bool h = absurd (false≢true (sym h))
unsigned_whole types.Char h = refl
unsigned_whole types.Uchar h = refl
unsigned_whole types.Short h = refl
unsigned_whole types.Ushort h = refl
unsigned_whole types.Int h = refl
unsigned_whole types.Uint h = refl
unsigned_whole types.Long h = refl
unsigned_whole types.Ulong h = refl

result_whole : (f : Fun) (of : IntType) → is_bool of ≡ false → is_bool (result_type f of) ≡ false
result_whole funs.Abs of h = unsigned_whole of h
result_whole funs.AbsDiff of h = unsigned_whole of h
result_whole _ of h = h

compared_whole : (op : Bin) (k : Kind) → WholeKind k → WholeKind (compared op k)
compared_whole op (Vectors v r) h =
    either_whole (is_comparison op) (Vectors (vector (signed_of v.of) v.count) r) (Vectors v r)
    (signed_whole v.of h) h
compared_whole op (Pointer s c v) h = h
compared_whole op (Other b) h = tt

moved_whole : (op : Bin) (j k : Kind) → WholeKind j → WholeKind k → WholeKind (pointer_moved op j k)
moved_whole bins.Add (Pointer s c v) (Other b) h i = h
moved_whole bins.Add (Other b) (Pointer s c v) h i = i
moved_whole bins.Sub (Pointer s c v) (Other b) h i = h
moved_whole op j k h i = tt

joined_whole : (o : Option Bin) (j k : Kind) → WholeKind j → WholeKind k → WholeKind (joined_kind o j k)
joined_whole None j k h i = tt
joined_whole (Some op) j k h i =
    either_whole (is_vector (first_vector j k)) (compared op (first_vector j k)) (pointer_moved op j k)
    (compared_whole op (first_vector j k) (first_whole j k h i)) (moved_whole op j k h i)

prefix_whole : (o : Option Prefix) (k : Kind) → WholeKind k → WholeKind (prefix_kind o k)
prefix_whole (Some (prefixes.Operator uns.Not)) k h = tt
prefix_whole (Some (prefixes.Operator op)) k h = value_whole k h
prefix_whole (Some prefixes.Content) k h = element_whole k h
prefix_whole (Some prefixes.Address) k h = address_whole k h
prefix_whole (Some (prefixes.Step op)) k h = alone_whole k h
prefix_whole o k h = tt

postfix_whole : (name : Option (List ℕ)) (o : Option Postfix) (k : Kind) → WholeKind k →
    WholeKind (postfix_kind name o k)
postfix_whole (Some name) o k h = selection_whole k name h
postfix_whole None (Some postfixes.Index) k h = element_whole k h
postfix_whole None (Some (postfixes.Step op)) k h = alone_whole k h
postfix_whole None None k h = tt

called_whole : (i : Option Intrinsic) (k : Kind) → WholeKind k → WholeKind (called_kind i k)
called_whole (Some (intrinsics.Function g)) (Vectors v r) h = result_whole g v.of h
called_whole i k h = tt

cast_whole : (o : Option Vector) → WholeVector o → WholeKind (cast_kind o)
cast_whole None h = tt
cast_whole (Some v) h = h

-- ---- parts

pub mark_whole : (m : Mark) → WholeMark m → WholeKind (kind_at m)
mark_whole (mark t k ms) h = h.0

pub front_whole : (ms : Marks) → WholeMarks ms → WholeKind (front_kind ms)
front_whole unmarked h = tt
front_whole (marking m ms) h = mark_whole m h.0

pub back_whole : (ms : Marks) → WholeMarks ms → WholeKind (back_kind ms)
back_whole unmarked h = tt
back_whole (marking m unmarked) h = mark_whole m h.0
back_whole (marking m (marking n ns)) h = back_whole (marking n ns) h.1

pub among_whole : (ms : Marks) → WholeMarks ms → WholeKind (vector_among ms)
among_whole unmarked h = tt
among_whole (marking m ms) h = either_whole (is_vector (kind_at m)) (value_of (kind_at m)) (vector_among ms)
    (value_whole (kind_at m) (mark_whole m h.0)) (among_whole ms h.1)

front_type_whole : (ms : Marks) → WholeVector (front_type ms)
front_type_whole unmarked = tt
front_type_whole (marking m ms) = type_whole (tree_at m)

pub kind_whole : (names : Names) (form : Form) (w : List ℕ) (ms : Marks) → WholeNames names → WholeMarks ms →
    WholeKind (kind_by names form w ms)
unfolding kind_by
kind_whole names forms.VariableNode w ms n h = n (name_in w)
kind_whole names forms.ParenNode w ms n h = front_whole ms h
kind_whole names forms.UnaryNode w ms n h = prefix_whole (prefix_in w) (front_kind ms) (front_whole ms h)
kind_whole names forms.PostfixNode w ms n h =
    postfix_whole (selection_in w) (postfix_in w) (front_kind ms) (front_whole ms h)
kind_whole names forms.CallNode w ms n h =
    called_whole (intrinsic_in (name_in w)) (vector_among ms) (among_whole ms h)
kind_whole names forms.CastNode w ms n h = cast_whole (front_type ms) (front_type_whole ms)
kind_whole names forms.ExprNode w ms n h = alone_whole (back_kind ms) (back_whole ms h)
kind_whole names forms.AssignNode w ms n h = alone_whole (front_kind ms) (front_whole ms h)
kind_whole names form w ms n h = either_whole (is_operator form) (joined_kind (binary_in w) (front_kind ms)
    (back_kind ms)) (Other true) (joined_whole (binary_in w) (front_kind ms) (back_kind ms) (front_whole ms h)
    (back_whole ms h)) tt

-- ---- names

pub nothing_whole : WholeNames no_names
nothing_whole q = tt

with_whole : (names : Names) (name : List ℕ) (k : Kind) → WholeNames names → WholeKind k →
    WholeNames (with_name names name k)
with_whole names name k n h q = either_whole (bytes_eq name q) k (names q) h (n q)

declared_whole : (v : Vector) (type d : Syntax) → is_bool v.of ≡ false → WholeKind (declared_kind v type d)
declared_whole v type d h =
    either_whole (is_variable (word_of d) (parts_of d)) (Vectors v Variable) (pointer_to v type) h h

behind_declared_whole : (o : Option Vector) (names : Names) (type d : Syntax) → WholeVector o → WholeNames names →
    WholeNames (behind_declared o names type d)
behind_declared_whole (Some v) names type d h n =
    with_whole names (name_in (word_of d)) (declared_kind v type d) n (declared_whole v type d h)
behind_declared_whole None names type d h n = by (is_some (declared_in type))
  where
    by : (b : Bool) → WholeNames (if b then with_name names (name_in (word_of d)) (Other true) else names)
    by true = with_whole names (name_in (word_of d)) (Other true) n tt
    by false = n

pub behind_declarator_whole : (names : Names) (type d : Syntax) → WholeNames names →
    WholeNames (behind_declarator names type d)
behind_declarator_whole names type d n =
    behind_declared_whole (vector_type type) names type d (type_whole type) n

pub behind_declarators_whole : (names : Names) (type : Syntax) (ds : Forest) → WholeNames names →
    WholeNames (behind_declarators names type ds)
behind_declarators_whole names type none n = n
behind_declarators_whole names type (more d ds) n =
    behind_declarators_whole (behind_declarator names type d) type ds (behind_declarator_whole names type d n)

pointed_whole : (o : Option Vector) (star : Option Bool) (type : Syntax) → WholeVector o →
    WholeKind (pointed_by o star type)
pointed_whole (Some v) (Some fixed) type h = h
pointed_whole o star type h = tt

parameter_whole : (ps : Forest) → WholeKind (parameter_kind ps)
parameter_whole none = tt
parameter_whole (more type others) =
    pointed_whole (vector_type type) (second_star (more type others)) type (type_whole type)

behind_parameters_whole : (names : Names) (ps : Forest) → WholeNames names → WholeNames (behind_parameters names ps)
behind_parameters_whole names none n = n
behind_parameters_whole names (more p ps) n = behind_parameters_whole (behind_parameter names p) ps
    (with_whole names (name_in (word_of p)) (parameter_kind (parts_of p)) n (parameter_whole (parts_of p)))

pub behind_whole : (names : Names) (t : Syntax) → WholeNames names → WholeNames (behind names t)
behind_whole names (node forms.DeclareNode w f l none) n = n
behind_whole names (node forms.DeclareNode w f l (more type ds)) n = behind_declarators_whole names type ds n
behind_whole names (node forms.ParamsNode w f l parts) n = behind_parameters_whole names parts n
behind_whole names (node forms.FunctionNode w f l parts) n = with_whole names (name_in w) (Other false) n tt
behind_whole names t n = n

behind_part_whole : (names : Names) (parts : Forest) (front : Bool) (p : Syntax) → WholeNames names →
    WholeNames (behind_part names parts front p)
behind_part_whole names (more type ds) false p n = behind_declarator_whole names type p n
behind_part_whole names parts front p n = n

pub later_whole : (form : Form) (parts : Forest) (names : Names) (front : Bool) (p : Syntax) → WholeNames names →
    WholeNames (later form parts names front p)
later_whole forms.DeclareNode parts names front p n = behind_part_whole names parts front p n
later_whole form parts names front p n = behind_whole names p n

pub within_whole : (form : Form) (w : List ℕ) (names : Names) → WholeNames names → WholeNames (within form w names)
within_whole forms.CallNode w names n = by (calls_fence (intrinsic_in (name_in w)))
  where
    inner : Names
    inner = with_name names (codes "CLK_LOCAL_MEM_FENCE") (Other true)

    by : (b : Bool) → WholeNames (if b then with_fences names else names)
    by true = with_whole inner (codes "CLK_GLOBAL_MEM_FENCE") (Other true)
        (with_whole names (codes "CLK_LOCAL_MEM_FENCE") (Other true) n tt) tt
    by false = n
within_whole form w names n = n

-- ---- trees

mutual
  unfolding marked marked_parts

  pub marked_whole : (t : Syntax) (names : Names) → WholeNames names → WholeMark (marked names t)
  marked_whole (node form w f l parts) names n =
      let h = parts_whole form parts (within form w names) true parts (within_whole form w names n) in
      (kind_whole names form w (marked_parts form parts (within form w names) true parts) n h, h)

  pub parts_whole : (form : Form) (all : Forest) (names : Names) (front : Bool) (ps : Forest) → WholeNames names →
      WholeMarks (marked_parts form all names front ps)
  parts_whole form all names front none n = tt
  parts_whole form all names front (more p ps) n = (
    marked_whole p names n,
    parts_whole form all (later form all names front p) false ps
        (later_whole form all names front p n),
  )
