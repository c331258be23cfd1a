-- Simple statements, declarations and lines stay, but for declarations of vectors and vector statements.
use Rattle.std.proofs.Common.{◌≡◌, List, [], ◌∷◌, Option, None, Some, Bool, true, false, if◌then◌else◌, refl, ap, ◌∙◌}
use Rattle.std.proofs.Common.{◌⊎◌, inl, inr}
use Rattle.cl_tree.specs.declared.tree.Form.{Form}
use Rattle.cl_tree.specs.declared.tree.Form.TheVariants as forms
use Rattle.cl_tree.specs.Syntax.{Syntax, node, Forest, none, more, joined}
use Rattle.cl_tree.specs.Nodes.{forest1}
use Rattle.cl_meaning.specs.Spelling.{setting_in}
use Rattle.cl_meaning.specs.Declarations.{form_of, word_of}
use Rattle.cl_meaning.specs.Kinds.{is_some}
use Rattle.cl_short_vec.specs.declared.types.Vector.{Vector}
use Rattle.cl_short_vec.specs.declared.kinds.Kind.{Kind}
use Rattle.cl_short_vec.specs.Types.{vector_type}
use Rattle.cl_short_vec.specs.Kinds.{is_vector}
use Rattle.cl_short_vec.specs.Marks.{Mark, mark, Marks, unmarked, marking, tree_at, kind_at}
use Rattle.cl_short_vec.specs.Order.{Step, Offset, Number, Copy, Load, Set, Store, operator_in}
use Rattle.cl_short_vec.specs.Order.{setting_steps, initial_steps}
use Rattle.cl_short_vec.specs.Parts.{Assigned}
use Rattle.cl_short_vec.specs.Nodes.{span_of, with_parts}
use Rattle.cl_short_vec.specs.Scalar.{scalar, scalars}
use Rattle.cl_short_vec.specs.Unit.{lines_of, assigned_of, set_block, whole_by, simple_at, all_declarators}
use Rattle.cl_short_vec.specs.Unit.{declaration, declaration_lines, block_line, scalarised}
use Rattle.cl_short_vec.specs.Unit.{lines_by, declaration_by, line_of, declarator_lines, vector_lines, initialiser}
use Rattle.cl_short_vec.specs.Unit.{declared_name, name_span}
use Rattle.cl_short_vec_faults.specs.Kept.{Stays, AllStay, sets_by, sets_whole, SimpleStays, DeclarationStays}
use Rattle.cl_short_vec_faults.specs.Kept.{StaysTree}
use Rattle.cl_short_vec_faults.specs.Kept.{typed_vectors, declares_vectors, DeclaresOrAssigns, AllDeclareOrAssign}

-- ---- the lines of steps

line_plain : (type : Option Mark) (a : Assigned) (s : Step) → DeclaresOrAssigns (line_of type a s)
line_plain type a (Offset m) = tt
line_plain type a (Number of m) = tt
line_plain type a (Copy of x c) = tt
line_plain type a (Load m c) = tt
line_plain None a (Set x c j) = tt
line_plain (Some type) a (Set x c j) = tt
line_plain type a (Store m c j) = tt

lines_plain : (type : Option Mark) (a : Assigned) (ss : List Step) → AllDeclareOrAssign (lines_of type a ss)
lines_plain type a [] = tt
lines_plain type a (s ∷ ss) = (line_plain type a s, lines_plain type a ss)

joined_plain : (us vs : Forest) → AllDeclareOrAssign us → AllDeclareOrAssign vs → AllDeclareOrAssign (joined us vs)
joined_plain none vs h k = k
joined_plain (more u us) vs h k = (h.0, joined_plain us vs h.1 k)

declarator_plain : (v : Vector) (type d : Mark) (e : Option Mark) → AllDeclareOrAssign (declarator_lines v type d e)
declarator_plain v type d None = (tt, tt)
declarator_plain v type d (Some e) =
    lines_plain (Some type) (record {
      operator = None;
      of = v.of;
      target = name_span (tree_at d);
      components = [];
      value = e;
    }) (initial_steps v (declared_name (tree_at d)) e)

vectors_plain : (v : Vector) (type : Mark) (ms : Marks) → AllDeclareOrAssign (vector_lines v type ms)
vectors_plain v type unmarked = tt
vectors_plain v type (marking m ms) =
    joined_plain (declarator_lines v type m (initialiser m)) (vector_lines v type ms)
    (declarator_plain v type m (initialiser m)) (vectors_plain v type ms)

-- ---- simple statements

whole_stays : (form : Form) (t s : Syntax) (k j : Kind) (parts : Marks) (e : Syntax) →
    (sets_by form parts ≡ false → Stays (mark t k (marking (mark s j parts) unmarked)) e) → form_of s ≡ form →
    SimpleStays t k (marking (mark s j parts) unmarked) (whole_by form (span_of t) (mark s j parts) e)
whole_stays forms.AssignNode t s k j (marking a (marking b unmarked)) e h f = by (is_vector (kind_at a)) refl
  where
    lines : Forest
    lines = lines_of None (assigned_of (operator_in (setting_in (word_of s))) a b)
        (setting_steps (operator_in (setting_in (word_of s))) a b)

    plain : AllDeclareOrAssign lines
    plain = lines_plain None (assigned_of (operator_in (setting_in (word_of s))) a b)
        (setting_steps (operator_in (setting_in (word_of s))) a b)

    by : (z : Bool) → is_vector (kind_at a) ≡ z →
        SimpleStays t k (marking (mark s j (marking a (marking b unmarked))) unmarked)
        (if z then set_block (span_of t) (operator_in (setting_in (word_of s))) a b else e)
    by true q = inl (ap (λ x. sets_by x (marking a (marking b unmarked))) f ∙ q, (lines, plain, refl))
    by false q = inr (ap (λ x. sets_by x (marking a (marking b unmarked))) f ∙ q, h q)
whole_stays form t s k j parts e h f = inr (ap (λ x. sets_by x parts) f, h refl)

pub simple_stays : (t : Syntax) (k : Kind) (ms : Marks) (e : Syntax) →
    (sets_whole ms ≡ false → Stays (mark t k ms) e) →
    SimpleStays t k ms (simple_at t ms e)
simple_stays t k unmarked e h = inr (refl, h refl)
simple_stays t k (marking (mark s j parts) unmarked) e h = whole_stays (form_of s) t s k j parts e h refl
simple_stays t k (marking (mark s j parts) (marking n ms)) e h = inr (refl, h refl)

-- ---- declarations

pub declaration_stays : (t : Syntax) (type : Mark) (ms : Marks) → Stays type (scalar type) →
    (vector_type (tree_at type) ≡ None → AllStay (marking type ms) (scalars (marking type ms))) →
    DeclarationStays t (marking type ms) (with_parts t (declaration (marking type ms)))
declaration_stays t type ms h g = by (vector_type (tree_at type)) refl
  where
    by : (o : Option Vector) → vector_type (tree_at type) ≡ o →
        DeclarationStays t (marking type ms) (with_parts t (declaration_by o type ms))
    by (Some v) e = inl (ap is_some e, (scalar type, all_declarators v ms, refl, h))
    by None e = inr (ap is_some e, (scalars (marking type ms), refl, g e))

-- ---- lines

-- a declaration of no vectors is one line
declared_line : (t : Syntax) (k : Kind) (ms : Marks) →
    ((typed_vectors ms ≡ true) × AllDeclareOrAssign (declaration_lines (mark t k ms))) ⊎
    (declaration_lines (mark t k ms) ≡ forest1 (with_parts t (declaration ms)))
declared_line t k unmarked = inr refl
declared_line t k (marking type ms) = by (vector_type (tree_at type)) refl
  where
    by : (o : Option Vector) → vector_type (tree_at type) ≡ o →
        ((typed_vectors (marking type ms) ≡ true) × AllDeclareOrAssign (lines_by o t type ms)) ⊎
        (lines_by o t type ms ≡ forest1 (with_parts t (declaration_by o type ms)))
    by (Some v) e = inl (ap is_some e, vectors_plain v type ms)
    by None e = inr refl

abbrev pub LineStays : Mark → Forest → Type 0
LineStays m xs = ((declares_vectors m ≡ true) × AllDeclareOrAssign xs) ⊎
    ((u : Syntax) × (xs ≡ forest1 u) × StaysTree m u)

pub line_stays : (m : Mark) → StaysTree m (scalarised m) → LineStays m (block_line m (scalarised m))
unfolding scalarised
line_stays (mark (node forms.DeclareNode w f l ps) k ms) h = by (declared_line (node forms.DeclareNode w f l ps) k ms)
  where
    t : Syntax
    t = node forms.DeclareNode w f l ps

    by : ((typed_vectors ms ≡ true) × AllDeclareOrAssign (declaration_lines (mark t k ms))) ⊎
        (declaration_lines (mark t k ms) ≡ forest1 (with_parts t (declaration ms))) →
        LineStays (mark t k ms) (declaration_lines (mark t k ms))
    by (inl e) = inl e
    by (inr e) = inr (with_parts t (declaration ms), e, h)
line_stays (mark (node form w f l ps) k ms) h = inr (scalarised (mark (node form w f l ps) k ms), refl, h)
