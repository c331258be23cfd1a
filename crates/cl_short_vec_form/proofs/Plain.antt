-- What stands for a unit has no vectors.
use Rattle.std.proofs.Common.{◌≡◌, ℕ, nat_eq, List, [], ◌∷◌, Option, Some, None, Bool, true, false, if◌then◌else◌, refl}
use Rattle.std.specs.Prelude.{codes}
use Rattle.wg_num.specs.declared.types.Bin.{Bin}
use Rattle.wg_num.specs.declared.types.Bin.TheVariants as bins
use Rattle.cl_tree.specs.declared.tree.Form.{Form}
use Rattle.cl_tree.specs.declared.tree.Form.TheVariants as forms
use Rattle.cl_tree.specs.Syntax.{Syntax, node, Forest, none, more, joined}
use Rattle.cl_tree.specs.Nodes.{forest1}
use Rattle.cl_meaning.specs.Spelling.{setting_in, dimensions_in, is_set}
use Rattle.cl_meaning.specs.Declarations.{form_of, word_of}
use Rattle.cl_check_sound.specs.Shape.{IsType, IsDeclaratorOf, AreDeclaratorsOf, IsDeclarationOf}
use Rattle.cl_short_vec.specs.declared.nodes.Span.{Span}
use Rattle.cl_short_vec.specs.declared.types.Vector.{Vector}
use Rattle.cl_short_vec.specs.Types.{numbers, vector_type}
use Rattle.cl_short_vec.specs.Kinds.{Names, no_names, later, is_vector}
use Rattle.cl_short_vec.specs.Plain.{has_vectors, have_vectors}
use Rattle.cl_short_vec.specs.Marks.{Mark, Marks, tree_at, kind_at, back, marked, marked_parts}
use Rattle.cl_short_vec.specs.Order.{Named, operator_in, setting_steps, initial_steps}
use Rattle.cl_short_vec.specs.Nodes.{span_of, at, with_parts, int_at, paren_at}
use Rattle.cl_short_vec.specs.Scalar.{scalar, scalars}
use Rattle.cl_short_vec.specs.Unit.{lines_of, assigned_of, set_block, whole_by, simple_at, declared_name, name_span}
use Rattle.cl_short_vec.specs.Unit.{component_declarators, beside, length_at, is_length_form, length_or_part}
use Rattle.cl_short_vec.specs.Unit.{lengths_at, declarators_of, all_declarators, declaration_by}
use Rattle.cl_short_vec.specs.Unit.{declaration, initialiser_by, initialiser, declarator_lines, vector_lines, lines_by}
use Rattle.cl_short_vec.specs.Unit.{is_declaration, block_line, scalarised, all_scalarised}
use Rattle.cl_short_vec.specs.Unit.{block_lines, loop_parts}
use Rattle.cl_short_vec.proofs.OwnNames.{HasNoBlank, front_blank}
use Rattle.cl_short_vec_form.specs.Law.{FormsPlain}
use Rattle.cl_short_vec_form.proofs.Neat.{Neat, AreNeat, Starts, Tidy, AreTidy, type_neat, declarator_neat}
use Rattle.cl_short_vec_form.proofs.Neat.{declarators_neat, unit_tidy}
use Rattle.cl_short_vec_form.proofs.Calm.{Calm, AreCalm, calm_plain, calm_parts_plain, neither, node_plain, both_plain}
use Rattle.cl_short_vec_form.proofs.Calm.{int_calm, paren_calm, joined_calm}
use Rattle.cl_short_vec_form.proofs.Scalars.{scalar_calm, scalars_calm}
use Rattle.cl_short_vec_form.proofs.Steps.{StepsCalm, setting_calm, initial_calm, lines_plain}

-- ---- behind a vector type

beside_calm : (op : Bin) (s : Span) (e : Syntax) (n : ℕ) → Calm e → Calm (beside op s e n)
beside_calm op s e n h = joined_calm op s (paren_at s e) (int_at n s) (paren_calm s e h) (int_calm n s)

length_calm : (v : Vector) (e : Syntax) → Calm e → Calm (length_at v e)
length_calm v e h =
    let s = span_of e in (
      refl,
      refl,
      (
        (refl, refl, (beside_calm bins.Gt s e 0 h, (beside_calm bins.Lt s e 1048577 h, tt))),
        (beside_calm bins.Mul s e v.count h, (int_calm 0 s, tt)),
      ),
    )

length_or_calm : (v : Vector) (m : Mark) → Calm (scalar m) → Calm (length_or_part v m)
length_or_calm v m h = by (is_length_form (form_of (tree_at m)))
  where
    by : (b : Bool) → Calm (if b then length_at v (scalar m) else scalar m)
    by true = length_calm v (scalar m) h
    by false = h

lengths_calm : (v : Vector) (form : Form) (all : Forest) (names : Names) (front : Bool) (ps : Forest) → AreNeat ps →
    AreCalm (lengths_at v (marked_parts form all names front ps))
unfolding marked_parts
lengths_calm v form all names front none h = tt
lengths_calm v form all names front (more p ps) h = (
  length_or_calm v (marked names p) (scalar_calm p names h.0),
  lengths_calm v form all (later form all names front p) false ps h.1,
)

joined_calm_parts : (a b : Forest) → AreCalm a → AreCalm b → AreCalm (joined a b)
joined_calm_parts none b h k = k
joined_calm_parts (more d ds) b h k = (h.0, joined_calm_parts ds b h.1 k)

components_calm : (x : Named) (cs : List ℕ) → AreCalm (component_declarators x cs)
components_calm x [] = tt
components_calm x (c ∷ cs) = ((refl, refl, tt), components_calm x cs)

declarator_calm : (v : Vector) (t : Syntax) (names : Names) → IsDeclaratorOf true t →
    AreCalm (declarators_of v (marked names t))
unfolding marked
declarator_calm v (node forms.DeclaratorNode w f l ps) names h =
    by (nat_eq (dimensions_in w) 0)
    (lengths_calm v forms.DeclaratorNode ps names true ps (declarator_neat (node forms.DeclaratorNode w f l ps) h))
  where
    t : Syntax
    t = node forms.DeclaratorNode w f l ps

    ms : Marks
    ms = marked_parts forms.DeclaratorNode ps names true ps

    by : (b : Bool) → AreCalm (lengths_at v ms) →
        AreCalm (if b then component_declarators (declared_name t) (numbers 0 1 v.count) else
        forest1 (with_parts t (lengths_at v ms)))
    by true k = components_calm (declared_name t) (numbers 0 1 v.count)
    by false k = ((refl, refl, k), tt)
declarator_calm v t names h = absurd h

declarators_calm : (v : Vector) (form : Form) (all : Forest) (names : Names) (front : Bool) (ps : Forest) →
    AreDeclaratorsOf true ps → AreCalm (all_declarators v (marked_parts form all names front ps))
unfolding marked_parts
declarators_calm v form all names front none h = tt
declarators_calm v form all names front (more p ps) h =
    let n = later form all names front p in
    joined_calm_parts (declarators_of v (marked names p)) (all_declarators v (marked_parts form all n false ps))
    (declarator_calm v p names h.0) (declarators_calm v form all n false ps h.1)

-- ---- declarations in one node

declaration_calm : (t : Syntax) (ds : Forest) (names after : Names) (o : Option Vector) → IsType t →
    AreDeclaratorsOf true ds →
    AreCalm (declaration_by o (marked names t) (marked_parts forms.DeclareNode (more t ds) after false ds))
unfolding scalars
declaration_calm t ds names after None h k = (
  scalar_calm t names (type_neat t h),
  scalars_calm forms.DeclareNode (more t ds) after false ds (declarators_neat ds k),
)
declaration_calm t ds names after (Some v) h k = (
  scalar_calm t names (type_neat t h),
  declarators_calm v forms.DeclareNode (more t ds) after false ds k,
)

declaration_plain : (w : List ℕ) (f l : ℕ) (ps : Forest) (names : Names) →
    IsDeclarationOf true (node forms.DeclareNode w f l ps) → has_vectors (node forms.DeclareNode w f l
    (declaration (marked_parts forms.DeclareNode ps names true ps))) ≡ false
unfolding marked_parts
declaration_plain w f l none names h = absurd h
declaration_plain w f l (more t ds) names h =
    let ms = marked_parts forms.DeclareNode (more t ds) names true (more t ds) in
    node_plain forms.DeclareNode w f l (declaration ms) refl (calm_parts_plain (declaration ms)
    (declaration_calm t ds names (later forms.DeclareNode (more t ds) names true t)
    (vector_type (tree_at (marked names t))) h.0 h.1))

-- ---- declarations in lines

joined_plain : (a b : Forest) → have_vectors a ≡ false → have_vectors b ≡ false → have_vectors (joined a b) ≡ false
joined_plain none b h k = k
joined_plain (more p ps) b h k =
    let x = neither (has_vectors p) (have_vectors ps) h in
    both_plain p (joined ps b) x.0 (joined_plain ps b x.1 k)

-- the initialiser of a declarator
abbrev pub ValueCalm : Option Mark → Type 0
ValueCalm None = Unit {0}
ValueCalm (Some m) = (v : Vector) (x : Named) → HasNoBlank x.name → StepsCalm (initial_steps v x m)

pub back_calm : (form : Form) (all : Forest) (names : Names) (front : Bool) (ps : Forest) → AreNeat ps →
    ValueCalm (back (marked_parts form all names front ps))
unfolding marked_parts
back_calm form all names front none h = tt
back_calm form all names front (more p none) h = λ v x b. initial_calm v x p names h.0 b
back_calm form all names front (more p (more q qs)) h =
    back_calm form all (later form all names front p) false (more q qs) h.1

pub set_calm : (z : Bool) (o : Option Mark) → ValueCalm o → ValueCalm (initialiser_by z o)
set_calm true o h = h
set_calm false o h = tt

value_lines : (v : Vector) (type d : Mark) (o : Option Mark) → Calm (scalar type) → AreCalm (declarators_of v d) →
    ValueCalm o → have_vectors (declarator_lines v type d o) ≡ false
value_lines v type d None t h k =
    let s = span_of (tree_at d) in
    let ps = more (scalar type) (declarators_of v d) in
    both_plain (at forms.DeclareNode (codes ";") s ps) none
    (node_plain forms.DeclareNode (codes ";") s.first s.last ps refl (calm_parts_plain ps (t, h))) refl
value_lines v type d (Some e) t h k = lines_plain (Some type) (record {
  operator = None;
  of = v.of;
  target = name_span (tree_at d);
  components = [];
  value = e;
}) (initial_steps v (declared_name (tree_at d)) e) t
    (k v (declared_name (tree_at d)) (front_blank (word_of (tree_at d))))

declarator_lines_plain : (v : Vector) (type : Mark) (t : Syntax) (names : Names) → Calm (scalar type) →
    IsDeclaratorOf true t →
    have_vectors (declarator_lines v type (marked names t) (initialiser (marked names t))) ≡ false
unfolding marked
declarator_lines_plain v type (node forms.DeclaratorNode w f l ps) names k h =
    let d = node forms.DeclaratorNode w f l ps in
    let ms = marked_parts forms.DeclaratorNode ps names true ps in
    value_lines v type (marked names d) (initialiser_by (is_set w) (back ms)) k (declarator_calm v d names h)
    (set_calm (is_set w) (back ms) (back_calm forms.DeclaratorNode ps names true ps (declarator_neat d h)))
declarator_lines_plain v type t names k h = absurd h

vector_lines_plain : (v : Vector) (type : Mark) (form : Form) (all : Forest) (names : Names) (front : Bool)
    (ps : Forest) → Calm (scalar type) → AreDeclaratorsOf true ps →
    have_vectors (vector_lines v type (marked_parts form all names front ps)) ≡ false
unfolding marked_parts
vector_lines_plain v type form all names front none k h = refl
vector_lines_plain v type form all names front (more p ps) k h =
    let n = later form all names front p in
    joined_plain (declarator_lines v type (marked names p) (initialiser (marked names p)))
    (vector_lines v type (marked_parts form all n false ps)) (declarator_lines_plain v type p names k h.0)
    (vector_lines_plain v type form all n false ps k h.1)

declared_lines : (w : List ℕ) (f l : ℕ) (t : Syntax) (ds : Forest) (names after : Names) (o : Option Vector) →
    IsType t → AreDeclaratorsOf true ds → have_vectors (lines_by o (node forms.DeclareNode w f l (more t ds))
    (marked names t) (marked_parts forms.DeclareNode (more t ds) after false ds)) ≡ false
unfolding scalars
declared_lines w f l t ds names after None h k =
    let ms = marked_parts forms.DeclareNode (more t ds) after false ds in
    let ps = more (scalar (marked names t)) (scalars ms) in
    both_plain (node forms.DeclareNode w f l ps) none (node_plain forms.DeclareNode w f l ps refl
    (calm_parts_plain ps (declaration_calm t ds names after None h k))) refl
declared_lines w f l t ds names after (Some v) h k =
    vector_lines_plain v (marked names t) forms.DeclareNode (more t ds) after false ds
    (scalar_calm t names (type_neat t h)) k

-- a declaration is some lines, and anything else a line by itself
line_plain : (t : Syntax) (names : Names) → Tidy t → has_vectors (scalarised (marked names t)) ≡ false →
    have_vectors (block_line (marked names t) (scalarised (marked names t))) ≡ false
unfolding marked marked_parts
line_plain (node forms.DeclareNode w f l none) names h k = absurd h
line_plain (node forms.DeclareNode w f l (more t ds)) names h k =
    declared_lines w f l t ds names (later forms.DeclareNode (more t ds) names true t)
    (vector_type (tree_at (marked names t))) h.0 h.1
line_plain (node form w f l ps) names h k = both_plain (scalarised (marked names (node form w f l ps))) none k refl

-- ---- simple statements

block_plain : (s : Span) (o : Option Bin) (a b : Syntax) (names after : Names) → Neat a → Neat b →
    has_vectors (set_block s o (marked names a) (marked after b)) ≡ false
block_plain s o a b names after h k =
    let x = assigned_of o (marked names a) (marked after b) in
    let ss = setting_steps o (marked names a) (marked after b) in
    node_plain forms.BlockNode (codes "{ }") s.first s.last (lines_of None x ss) refl
    (lines_plain None x ss tt (setting_calm o a b names after h k))

either_plain : (z : Bool) (s t : Syntax) → has_vectors s ≡ false → has_vectors t ≡ false →
    has_vectors (if z then s else t) ≡ false
either_plain true s t h k = h
either_plain false s t h k = k

whole_plain : (s : Span) (t : Syntax) (names : Names) (plain : Syntax) → Neat t → has_vectors plain ≡ false →
    has_vectors (whole_by (form_of (tree_at (marked names t))) s (marked names t) plain) ≡ false
unfolding marked marked_parts
whole_plain s (node forms.AssignNode w f l none) names plain h k = k
whole_plain s (node forms.AssignNode w f l (more a none)) names plain h k = k
whole_plain s (node forms.AssignNode w f l (more a (more b none))) names plain h k =
    let n = later forms.AssignNode (more a (more b none)) names true a in
    either_plain (is_vector (kind_at (marked names a)))
    (set_block s (operator_in (setting_in w)) (marked names a) (marked n b)) plain
    (block_plain s (operator_in (setting_in w)) a b names n h.0 h.1.0) k
whole_plain s (node forms.AssignNode w f l (more a (more b (more c cs)))) names plain h k = k
whole_plain s (node form w f l ps) names plain h k = k

simple_plain : (w : List ℕ) (f l : ℕ) (ps : Forest) (names : Names) → AreNeat ps →
    has_vectors (simple_at (node forms.SimpleNode w f l ps) (marked_parts forms.SimpleNode ps names true ps)
    (scalar (marked names (node forms.SimpleNode w f l ps)))) ≡ false
unfolding marked_parts
simple_plain w f l none names h = calm_plain (scalar (marked names (node forms.SimpleNode w f l none)))
    (scalar_calm (node forms.SimpleNode w f l none) names h)
simple_plain w f l (more a none) names h =
    let t = node forms.SimpleNode w f l (more a none) in
    whole_plain (span_of t) a names (scalar (marked names t)) h.0
    (calm_plain (scalar (marked names t)) (scalar_calm t names h))
simple_plain w f l (more a (more b bs)) names h =
    let t = node forms.SimpleNode w f l (more a (more b bs)) in
    calm_plain (scalar (marked names t)) (scalar_calm t names h)

-- ---- statements, functions and units

-- in front of a `for`
start_plain : (t : Syntax) (names : Names) → Starts t →
    has_vectors (if is_declaration (marked names t) then scalarised (marked names t) else scalar (marked names t)) ≡
    false
unfolding scalarised marked
start_plain (node forms.DeclareNode w f l ps) names h = declaration_plain w f l ps names h
start_plain (node form w f l ps) names h = calm_plain (scalar (marked names (node form w f l ps)))
    (scalar_calm (node form w f l ps) names h)

mutual
  unfolding scalarised all_scalarised block_lines loop_parts marked marked_parts

  tree_plain : (t : Syntax) (names : Names) → Tidy t → has_vectors (scalarised (marked names t)) ≡ false
  tree_plain (node forms.UnitNode w f l ps) names h = all_plain forms.UnitNode ps names true ps h
  tree_plain (node forms.FunctionNode w f l ps) names h = all_plain forms.FunctionNode ps names true ps h
  tree_plain (node forms.BlockNode w f l ps) names h = block_lines_plain forms.BlockNode ps names true ps h
  tree_plain (node forms.IfNode w f l ps) names h = all_plain forms.IfNode ps names true ps h
  tree_plain (node forms.WhileNode w f l ps) names h = all_plain forms.WhileNode ps names true ps h
  tree_plain (node forms.DoNode w f l ps) names h = all_plain forms.DoNode ps names true ps h
  tree_plain (node forms.ForNode w f l none) names h = refl
  tree_plain (node forms.ForNode w f l (more i ps)) names h =
      let n = later forms.ForNode (more i ps) names true i in
      both_plain (if is_declaration (marked names i) then scalarised (marked names i) else scalar (marked names i))
      (all_scalarised (marked_parts forms.ForNode (more i ps) n false ps)) (start_plain i names h.0)
      (all_plain forms.ForNode (more i ps) n false ps h.1)
  tree_plain (node forms.SwitchNode w f l ps) names h = all_plain forms.SwitchNode ps names true ps h
  tree_plain (node forms.CaseNode w f l ps) names h = all_plain forms.CaseNode ps names true ps h
  tree_plain (node forms.DefaultNode w f l ps) names h = all_plain forms.DefaultNode ps names true ps h
  tree_plain (node forms.SimpleNode w f l ps) names h = simple_plain w f l ps names h
  tree_plain (node forms.DeclareNode w f l ps) names h = declaration_plain w f l ps names h
  tree_plain (node form w f l ps) names h = calm_plain (scalar (marked names (node form w f l ps)))
      (scalar_calm (node form w f l ps) names h)

  all_plain : (form : Form) (all : Forest) (names : Names) (front : Bool) (ps : Forest) → AreTidy ps →
      have_vectors (all_scalarised (marked_parts form all names front ps)) ≡ false
  all_plain form all names front none h = refl
  all_plain form all names front (more p ps) h =
      let n = later form all names front p in
      both_plain (scalarised (marked names p)) (all_scalarised (marked_parts form all n false ps))
      (tree_plain p names h.0) (all_plain form all n false ps h.1)

  block_lines_plain : (form : Form) (all : Forest) (names : Names) (front : Bool) (ps : Forest) → AreTidy ps →
      have_vectors (block_lines (marked_parts form all names front ps)) ≡ false
  block_lines_plain form all names front none h = refl
  block_lines_plain form all names front (more p ps) h =
      let n = later form all names front p in
      joined_plain (block_line (marked names p) (scalarised (marked names p)))
      (block_lines (marked_parts form all n false ps)) (line_plain p names h.0 (tree_plain p names h.0))
      (block_lines_plain form all n false ps h.1)

pub forms_plain : FormsPlain
forms_plain unit h = by (has_vectors unit) refl
  where
    by : (b : Bool) → has_vectors unit ≡ b →
        has_vectors (if b then scalarised (marked no_names unit) else unit) ≡ false
    by true e = tree_plain unit no_names (unit_tidy unit h)
    by false e = e
