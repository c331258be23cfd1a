-- What stands for a declaration is one, and the lines that stand for it are declarations and statements.
use Rattle.std.proofs.Common.{◌≡◌, ℕ, ◌≤◌, nat_eq, List, [], ◌∷◌, Option, Some, None, Bool, true, false}
use Rattle.std.proofs.Common.{if◌then◌else◌, refl, sym, subst, inl, inr, ◌⊎◌, arith}
use Rattle.wg_num.specs.declared.types.Bin.TheVariants as bins
use Rattle.cl_tree.specs.declared.tree.Form.{Form}
use Rattle.cl_tree.specs.declared.tree.Form.TheVariants as forms
use Rattle.cl_tree.specs.Syntax.{Syntax, node, Forest, none, more, joined}
use Rattle.cl_tree.specs.Nodes.{forest1}
use Rattle.cl_meaning.specs.Spelling.{dimensions_in, is_set}
use Rattle.cl_meaning.specs.Declarations.{form_of}
use Rattle.cl_check_sound.specs.Shape.{IsType, IsExpressionOf, IsListOf, AreLengthsOf, IsDeclaratorOf}
use Rattle.cl_check_sound.specs.Shape.{AreDeclaratorsOf, IsDeclarationOf, IsExpression, IsList, AreLengths}
use Rattle.cl_check_sound.specs.Shape.{IsDeclarator}
use Rattle.cl_check_sound.specs.Shape.{AreDeclarators, IsDeclaration, AreLines}
use Rattle.cl_short_vec.specs.declared.nodes.Span.{Span}
use Rattle.cl_short_vec.specs.declared.types.Vector.{Vector}
use Rattle.cl_short_vec.specs.declared.kinds.Kind.{Kind}
use Rattle.cl_short_vec.specs.Types.{numbers, vector_type}
use Rattle.cl_short_vec.specs.Kinds.{Names, later}
use Rattle.cl_short_vec.specs.Marks.{Mark, mark, Marks, unmarked, marking, tree_at, kind_at, back, marked}
use Rattle.cl_short_vec.specs.Marks.{marked_parts}
use Rattle.cl_short_vec.specs.Order.{Named, initial_steps}
use Rattle.cl_short_vec.specs.Nodes.{span_of, int_at, paren_at, with_parts}
use Rattle.cl_short_vec.specs.Scalar.{scalar, scalars}
use Rattle.cl_short_vec.specs.Unit.{declared_name, name_span, component_declarators, test_at, length_at, is_length_form}
use Rattle.cl_short_vec.specs.Unit.{length_or_part, lengths_at, declarators_of, all_declarators, declaration_by}
use Rattle.cl_short_vec.specs.Unit.{declaration, initialiser_by, initialiser, declarator_lines, vector_lines, lines_by}
use Rattle.cl_short_vec.specs.Unit.{declaration_lines}
use Rattle.cl_short_vec_correct.proofs.Words.{int_word}
use Rattle.cl_short_vec.proofs.Small.{SmallVector, SmallMark, SmallMarks, type_small}
use Rattle.cl_short_vec_correct.proofs.Nodes.{joined_is}
use Rattle.cl_short_vec_correct.proofs.Scalars.{type_is, expression_is, list_is}
use Rattle.cl_short_vec_correct.proofs.Steps.{StepsAre, IsValue, initial_are, lines_are}

-- ---- declarators

-- a declarator has the parts that its parts became
pub kept : (w : List ℕ) (f l : ℕ) (ps : Forest) (k : Kind) (ms : Marks) →
    scalar (mark (node forms.DeclaratorNode w f l ps) k ms) ≡ node forms.DeclaratorNode w f l (scalars ms)
unfolding scalar scalars
kept w f l ps k unmarked = refl
kept w f l ps k (marking a unmarked) = refl
kept w f l ps k (marking a (marking b unmarked)) = refl
kept w f l ps k (marking a (marking b (marking c ms))) = refl

-- lengths and initialisers do not begin with a star
headed : (w : List ℕ) (f l : ℕ) (x : Syntax) (xs : Forest) → AreLengths (more x xs) →
    IsDeclarator (node forms.DeclaratorNode w f l (more x xs))
headed w f l (node forms.StarNode w' f' l' ps) none (inl h) = absurd h
headed w f l (node forms.StarNode w' f' l' ps) none (inr h) = absurd h
headed w f l (node forms.StarNode w' f' l' ps) (more y ys) h = absurd h.0
headed w f l (node form w' f' l' ps) xs h = h

initialiser_is : (t : Syntax) (names : Names) → SmallMark (marked names t) →
    IsExpressionOf true t ⊎ IsListOf true t → IsExpression (scalar (marked names t)) ⊎ IsList (scalar (marked names t))
initialiser_is t names s (inl h) = inl (expression_is t names s h)
initialiser_is t names s (inr h) = inr (list_is t names s h)

lengths_are : (form : Form) (all : Forest) (names : Names) (front : Bool) (ps : Forest) →
    SmallMarks (marked_parts form all names front ps) → AreLengthsOf true ps →
    AreLengths (scalars (marked_parts form all names front ps))
unfolding scalars marked_parts
lengths_are form all names front none s h = tt
lengths_are form all names front (more p none) s h = initialiser_is p names s.0 h
lengths_are form all names front (more p (more q qs)) s h =
    (expression_is p names s.0 h.0, lengths_are form all (later form all names front p) false (more q qs) s.1 h.1)

pub declarator_is : (t : Syntax) (names : Names) → SmallMark (marked names t) → IsDeclaratorOf true t →
    IsDeclarator (scalar (marked names t))
unfolding scalar scalars marked marked_parts
declarator_is (node forms.DeclaratorNode w f l ps) names s h =
    subst IsDeclarator (sym (kept w f l ps (kind_at (marked names (node forms.DeclaratorNode w f l ps)))
    (marked_parts forms.DeclaratorNode ps names true ps))) (by ps s.1 h)
  where
    by : (qs : Forest) → SmallMarks (marked_parts forms.DeclaratorNode ps names true qs) →
        IsDeclaratorOf true (node forms.DeclaratorNode w f l qs) →
        IsDeclarator (node forms.DeclaratorNode w f l (scalars (marked_parts forms.DeclaratorNode ps names true qs)))
    by none s h = tt
    by (more (node forms.StarNode w' f' l' none) qs) s h = lengths_are forms.DeclaratorNode ps
        (later forms.DeclaratorNode ps names true (node forms.StarNode w' f' l' none)) false qs s.1 h
    by (more q qs) s h =
        headed w f l (scalar (marked names q))
        (scalars (marked_parts forms.DeclaratorNode ps (later forms.DeclaratorNode ps names true q) false qs))
        (lengths_are forms.DeclaratorNode ps names true (more q qs) s h)
declarator_is t names s h = absurd h

pub declarators_are : (form : Form) (all : Forest) (names : Names) (front : Bool) (ps : Forest) →
    SmallMarks (marked_parts form all names front ps) → AreDeclaratorsOf true ps →
    AreDeclarators (scalars (marked_parts form all names front ps))
unfolding scalars marked_parts
declarators_are form all names front none s h = tt
declarators_are form all names front (more p ps) s h =
    (declarator_is p names s.0 h.0, declarators_are form all (later form all names front p) false ps s.1 h.1)

-- ---- behind a vector type

pub joined_declarators : (a b : Forest) → AreDeclarators a → AreDeclarators b → AreDeclarators (joined a b)
joined_declarators none b h k = k
joined_declarators (more d ds) b h k = (h.0, joined_declarators ds b h.1 k)

pub joined_lines : (a b : Forest) → AreLines a → AreLines b → AreLines (joined a b)
joined_lines none b h k = k
joined_lines (more d ds) b h k = (h.0, joined_lines ds b h.1 k)

pub components_are : (x : Named) (cs : List ℕ) → AreDeclarators (component_declarators x cs)
components_are x [] = tt
components_are x (c ∷ cs) = (tt, components_are x cs)

test_is : (s : Span) (e : Syntax) → IsExpression e → IsExpression (test_at s e)
test_is s e h = (
  joined_is bins.Gt s (paren_at s e) (int_at 0 s) h (int_word 0 (omega arith)),
  joined_is bins.Lt s (paren_at s e) (int_at 1048577 s) h (int_word 1048577 (omega arith)),
)

length_is : (v : Vector) (e : Syntax) → v.count ≤ 16 → IsExpression e → IsExpression (length_at v e)
length_is v e b h =
    let s = span_of e in (
      test_is s e h,
      joined_is bins.Mul s (paren_at s e) (int_at v.count s) h (int_word v.count (omega arith)),
      int_word 0 (omega arith),
    )

either_length : (z : Bool) (v : Vector) (e : Syntax) → v.count ≤ 16 → IsExpression e →
    IsExpression (if z then length_at v e else e)
either_length true v e b h = length_is v e b h
either_length false v e b h = h

last_length : (v : Vector) (t : Syntax) (names : Names) → v.count ≤ 16 → SmallMark (marked names t) →
    IsExpressionOf true t ⊎ IsListOf true t →
    IsExpression (length_or_part v (marked names t)) ⊎ IsList (length_or_part v (marked names t))
unfolding marked
last_length v t names b s (inl h) = inl (either_length (is_length_form (form_of (tree_at (marked names t)))) v
    (scalar (marked names t)) b (expression_is t names s h))
last_length v (node forms.ListNode w f l ps) names b s (inr h) = inr (list_is (node forms.ListNode w f l ps) names s h)
last_length v t names b s (inr h) = absurd h

array_lengths : (v : Vector) (form : Form) (all : Forest) (names : Names) (front : Bool) (ps : Forest) →
    v.count ≤ 16 → SmallMarks (marked_parts form all names front ps) → AreLengthsOf true ps →
    AreLengths (lengths_at v (marked_parts form all names front ps))
unfolding marked_parts
array_lengths v form all names front none b s h = tt
array_lengths v form all names front (more p none) b s h = last_length v p names b s.0 h
array_lengths v form all names front (more p (more q qs)) b s h = (
  either_length (is_length_form (form_of (tree_at (marked names p)))) v (scalar (marked names p)) b
      (expression_is p names s.0 h.0),
  array_lengths v form all (later form all names front p) false (more q qs) b s.1 h.1,
)

array_is : (v : Vector) (w : List ℕ) (f l : ℕ) (all : Forest) (names : Names) (qs : Forest) → v.count ≤ 16 →
    SmallMarks (marked_parts forms.DeclaratorNode all names true qs) →
    IsDeclaratorOf true (node forms.DeclaratorNode w f l qs) →
    IsDeclarator (node forms.DeclaratorNode w f l
    (lengths_at v (marked_parts forms.DeclaratorNode all names true qs)))
unfolding scalar marked marked_parts
array_is v w f l all names none b s h = tt
array_is v w f l all names (more (node forms.StarNode w' f' l' none) qs) b s h =
    array_lengths v forms.DeclaratorNode all
    (later forms.DeclaratorNode all names true (node forms.StarNode w' f' l' none)) false qs b s.1 h
array_is v w f l all names (more q qs) b s h =
    let n = later forms.DeclaratorNode all names true q in
    let m = marked names q in
    headed w f l (length_or_part v m) (lengths_at v (marked_parts forms.DeclaratorNode all n false qs))
    (array_lengths v forms.DeclaratorNode all names true (more q qs) b s h)

by_type : (v : Vector) (t : Syntax) (ms : Marks) (w : List ℕ) → v.count ≤ 16 →
    IsDeclarator (with_parts t (lengths_at v ms)) →
    AreDeclarators (if nat_eq (dimensions_in w) 0 then component_declarators (declared_name t) (numbers 0 1 v.count)
    else forest1 (with_parts t (lengths_at v ms)))
by_type v t ms w b h = by (nat_eq (dimensions_in w) 0)
  where
    by : (z : Bool) → AreDeclarators (if z then component_declarators (declared_name t) (numbers 0 1 v.count) else
        forest1 (with_parts t (lengths_at v ms)))
    by true = components_are (declared_name t) (numbers 0 1 v.count)
    by false = (h, tt)

pub vector_declarator : (v : Vector) (t : Syntax) (names : Names) → v.count ≤ 16 → SmallMark (marked names t) →
    IsDeclaratorOf true t → AreDeclarators (declarators_of v (marked names t))
unfolding marked
vector_declarator v (node forms.DeclaratorNode w f l ps) names b s h =
    by_type v (node forms.DeclaratorNode w f l ps) (marked_parts forms.DeclaratorNode ps names true ps) w b
    (array_is v w f l ps names ps b s.1 h)
vector_declarator v t names b s h = absurd h

pub vector_declarators : (v : Vector) (form : Form) (all : Forest) (names : Names) (front : Bool) (ps : Forest) →
    v.count ≤ 16 → SmallMarks (marked_parts form all names front ps) → AreDeclaratorsOf true ps →
    AreDeclarators (all_declarators v (marked_parts form all names front ps))
unfolding marked_parts
vector_declarators v form all names front none b s h = tt
vector_declarators v form all names front (more p ps) b s h =
    let n = later form all names front p in
    joined_declarators (declarators_of v (marked names p)) (all_declarators v (marked_parts form all n false ps))
    (vector_declarator v p names b s.0 h.0) (vector_declarators v form all n false ps b s.1 h.1)

-- ---- declarations in one node

declaration_of : (w : List ℕ) (f l : ℕ) (t : Syntax) (ds : Forest) (names after : Names) (o : Option Vector) →
    SmallVector o → SmallMarks (marked_parts forms.DeclareNode (more t ds) after false ds) → IsType t →
    AreDeclaratorsOf true ds → IsDeclaration (node forms.DeclareNode w f l
    (declaration_by o (marked names t) (marked_parts forms.DeclareNode (more t ds) after false ds)))
unfolding scalars
declaration_of w f l t ds names after None b s h k =
    (type_is t names h, declarators_are forms.DeclareNode (more t ds) after false ds s k)
declaration_of w f l t ds names after (Some v) b s h k =
    (type_is t names h, vector_declarators v forms.DeclareNode (more t ds) after false ds b s k)

pub declaration_is : (w : List ℕ) (f l : ℕ) (t : Syntax) (ds : Forest) (names : Names) →
    SmallMarks (marked_parts forms.DeclareNode (more t ds) names true (more t ds)) → IsType t →
    AreDeclaratorsOf true ds → IsDeclaration (node forms.DeclareNode w f l
    (declaration (marked_parts forms.DeclareNode (more t ds) names true (more t ds))))
unfolding marked_parts
declaration_is w f l t ds names s h k =
    declaration_of w f l t ds names (later forms.DeclareNode (more t ds) names true t)
    (vector_type (tree_at (marked names t))) (type_small (tree_at (marked names t))) s.1 h k

-- ---- declarations in lines

abbrev ValueIs : Option Mark → Type 0
ValueIs None = Unit {0}
ValueIs (Some m) = (v : Vector) (x : Named) → StepsAre (initial_steps v x m)

value_of_one : (t : Syntax) → IsExpressionOf true t ⊎ IsListOf true t → IsValue t
value_of_one (node forms.StarNode w f l none) h = tt
value_of_one t h = h

last_value : (form : Form) (all : Forest) (names : Names) (front : Bool) (ps : Forest) →
    SmallMarks (marked_parts form all names front ps) → AreLengthsOf true ps →
    ValueIs (back (marked_parts form all names front ps))
unfolding marked_parts
last_value form all names front none s h = tt
last_value form all names front (more p none) s h = λ v x. initial_are v x p names s.0 (value_of_one p h)
last_value form all names front (more p (more q qs)) s h =
    last_value form all (later form all names front p) false (more q qs) s.1 h.1

declarator_value : (w : List ℕ) (f l : ℕ) (all : Forest) (names : Names) (qs : Forest) →
    SmallMarks (marked_parts forms.DeclaratorNode all names true qs) →
    IsDeclaratorOf true (node forms.DeclaratorNode w f l qs) →
    ValueIs (back (marked_parts forms.DeclaratorNode all names true qs))
unfolding marked_parts
declarator_value w f l all names none s h = tt
declarator_value w f l all names (more (node forms.StarNode w' f' l' none) none) s h = λ v x.
    initial_are v x (node forms.StarNode w' f' l' none) names s.0 tt
declarator_value w f l all names (more (node forms.StarNode w' f' l' none) (more q qs)) s h =
    last_value forms.DeclaratorNode all
    (later forms.DeclaratorNode all names true (node forms.StarNode w' f' l' none)) false (more q qs) s.1 h
declarator_value w f l all names (more q qs) s h =
    last_value forms.DeclaratorNode all names true (more q qs) s h

set_value : (z : Bool) (o : Option Mark) → ValueIs o → ValueIs (initialiser_by z o)
set_value true o h = h
set_value false o h = tt

value_lines : (v : Vector) (type d : Mark) (o : Option Mark) → IsType (scalar type) →
    AreDeclarators (declarators_of v d) → ValueIs o → AreLines (declarator_lines v type d o)
value_lines v type d None t h k = (inl (t, h), tt)
value_lines v type d (Some e) t h k = lines_are (Some type) (record {
  operator = None;
  of = v.of;
  target = name_span (tree_at d);
  components = [];
  value = e;
}) (initial_steps v (declared_name (tree_at d)) e) t (k v (declared_name (tree_at d)))

pub declarator_lines_are : (v : Vector) (type : Mark) (t : Syntax) (names : Names) → v.count ≤ 16 →
    IsType (scalar type) → SmallMark (marked names t) → IsDeclaratorOf true t →
    AreLines (declarator_lines v type (marked names t) (initialiser (marked names t)))
unfolding marked
declarator_lines_are v type (node forms.DeclaratorNode w f l ps) names b k s h =
    let m = marked names (node forms.DeclaratorNode w f l ps) in
    let ms = marked_parts forms.DeclaratorNode ps names true ps in
    value_lines v type m (initialiser_by (is_set w) (back ms)) k
    (vector_declarator v (node forms.DeclaratorNode w f l ps) names b s h)
    (set_value (is_set w) (back ms) (declarator_value w f l ps names ps s.1 h))
declarator_lines_are v type t names b k s h = absurd h

pub vector_lines_are : (v : Vector) (type : Mark) (form : Form) (all : Forest) (names : Names) (front : Bool)
    (ps : Forest) → v.count ≤ 16 → IsType (scalar type) → SmallMarks (marked_parts form all names front ps) →
    AreDeclaratorsOf true ps → AreLines (vector_lines v type (marked_parts form all names front ps))
unfolding marked_parts
vector_lines_are v type form all names front none b k s h = tt
vector_lines_are v type form all names front (more p ps) b k s h =
    let n = later form all names front p in
    joined_lines (declarator_lines v type (marked names p) (initialiser (marked names p)))
    (vector_lines v type (marked_parts form all n false ps)) (declarator_lines_are v type p names b k s.0 h.0)
    (vector_lines_are v type form all n false ps b k s.1 h.1)

declared_lines : (w : List ℕ) (f l : ℕ) (t : Syntax) (ds : Forest) (names after : Names) (o : Option Vector) →
    SmallVector o → SmallMarks (marked_parts forms.DeclareNode (more t ds) after false ds) → IsType t →
    AreDeclaratorsOf true ds → AreLines (lines_by o (node forms.DeclareNode w f l (more t ds)) (marked names t)
    (marked_parts forms.DeclareNode (more t ds) after false ds))
unfolding scalars
declared_lines w f l t ds names after None b s h k =
    (inl (type_is t names h, declarators_are forms.DeclareNode (more t ds) after false ds s k), tt)
declared_lines w f l t ds names after (Some v) b s h k =
    vector_lines_are v (marked names t) forms.DeclareNode (more t ds) after false ds b (type_is t names h) s k

-- the lines of a declaration in a block
pub declaration_lines_are : (t : Syntax) (names : Names) → SmallMark (marked names t) → IsDeclarationOf true t →
    AreLines (declaration_lines (marked names t))
unfolding marked marked_parts
declaration_lines_are (node forms.DeclareNode w f l (more t ds)) names s h =
    declared_lines w f l t ds names (later forms.DeclareNode (more t ds) names true t)
    (vector_type (tree_at (marked names t))) (type_small (tree_at (marked names t))) s.1.1 h.0 h.1
declaration_lines_are t names s h = absurd h
