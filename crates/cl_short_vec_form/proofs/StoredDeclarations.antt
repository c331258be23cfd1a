-- What stands for a declaration declares the arrays and the variables of a work-group that the declaration declares.
use Rattle.std.proofs.Common.{◌≡◌, ℕ, nat_eq, List, [], ◌∷◌, ◌++◌, Option, Some, None, Bool, true, false, if◌then◌else◌}
use Rattle.std.proofs.Common.{refl, sym, ap, ◌∙◌, eqb-true}
use Rattle.std.proofs.lemmas.Bool.{false≢true}
use Rattle.cl_model.specs.declared.program.Space.{Space}
use Rattle.cl_tree.specs.declared.tree.Form.{Form}
use Rattle.cl_tree.specs.declared.tree.Form.TheVariants as forms
use Rattle.cl_tree.specs.Syntax.{Syntax, node, Forest, none, more, joined}
use Rattle.cl_tree.specs.Nodes.{forest1}
use Rattle.cl_meaning.specs.Spelling.{name_in, dimensions_in, is_set}
use Rattle.cl_meaning.specs.Types.{space_among}
use Rattle.cl_meaning.specs.Declarations.{parts_of}
use Rattle.cl_check_sound.specs.Shape.{IsType, IsDeclaratorOf, AreDeclaratorsOf, IsDeclarationOf}
use Rattle.cl_short_vec.specs.declared.types.Vector.{Vector}
use Rattle.cl_short_vec.specs.declared.kinds.Kind.{Kind}
use Rattle.cl_short_vec.specs.declared.roles.Around.{Around}
use Rattle.cl_short_vec.specs.declared.roles.Role.{Role}
use Rattle.cl_short_vec.specs.declared.roles.Role.TheVariants.{Declared}
use Rattle.cl_short_vec.specs.Types.{numbers, vector_type}
use Rattle.cl_short_vec.specs.Kinds.{Names, later}
use Rattle.cl_short_vec.specs.Marks.{Mark, mark, Marks, unmarked, marking, tree_at, kind_at, back, marked, marked_parts}
use Rattle.cl_short_vec.specs.Roles.{around_of}
use Rattle.cl_short_vec.specs.Faults.{refusals}
use Rattle.cl_short_vec.specs.Order.{initial_steps}
use Rattle.cl_short_vec.specs.Nodes.{with_parts}
use Rattle.cl_short_vec.specs.Scalar.{scalar, scalars}
use Rattle.cl_short_vec.specs.Unit.{declared_name, name_span, component_declarators, lengths_at, declarators_by}
use Rattle.cl_short_vec.specs.Unit.{declarators_of, all_declarators, declaration_by, declaration, initialiser_by}
use Rattle.cl_short_vec.specs.Unit.{initialiser, declarator_lines, vector_lines, lines_by, declaration_lines}
use Rattle.cl_short_vec.proofs.OwnNames.{front_blank}
use Rattle.cl_short_vec_form.specs.Stored.{is_local, stored_among, stored, all_stored}
use Rattle.cl_short_vec_form.proofs.Neat.{declarator_neat}
use Rattle.cl_short_vec_form.proofs.Roots.{star_kept, star_measured}
use Rattle.cl_short_vec_form.proofs.Plain.{ValueCalm, back_calm}
use Rattle.cl_short_vec_form.proofs.Unrefused.{NoneRefusedAs, behind_vector, declarators_unrefused, Placed}
use Rattle.cl_short_vec_form.proofs.Unrefused.{vector_placed}
use Rattle.cl_short_vec_form.proofs.Unstored.{not_stored, one_stored, first_stored, joined_among, same_stored}
use Rattle.cl_short_vec_form.proofs.Unstored.{components_stored, lines_stored}

pub append_nothing : (xs : List (List ℕ)) → xs ++ [] ≡ xs
append_nothing [] = refl
append_nothing (x ∷ xs) = ap (λ z. x ∷ z) (append_nothing xs)

pub all_joined : (a b : Forest) → all_stored (joined a b) ≡ all_stored a ++ all_stored b
unfolding all_stored
all_joined none b = refl
all_joined (more p ps) b =
    ap (λ z. stored p ++ z) (all_joined ps b) ∙ append_again (stored p) (all_stored ps) (all_stored b)
  where
    append_again : (xs ys zs : List (List ℕ)) → xs ++ (ys ++ zs) ≡ (xs ++ ys) ++ zs
    append_again [] ys zs = refl
    append_again (x ∷ xs) ys zs = ap (λ z. x ∷ z) (append_again xs ys zs)

one_alone : (space : Option Space) (d : Syntax) → stored_among space (forest1 d) ≡ one_stored space d
one_alone space d = refl

-- the space of a type stays
pub space_kept : (t : Syntax) (names : Names) → IsType t →
    space_among (parts_of (scalar (marked names t))) ≡ space_among (parts_of t)
unfolding scalar marked marked_parts
space_kept (node forms.TypeNode w f l none) names h = refl
space_kept (node forms.TypeNode w f l (more (node forms.SpaceNode w' f' l' none) none)) names h = refl
space_kept t names h = absurd h

-- ---- behind a type that is no vector

-- a declarator has the parts that its parts became
kept : (w : List ℕ) (f l : ℕ) (ps : Forest) (k : Kind) (ms : Marks) →
    scalar (mark (node forms.DeclaratorNode w f l ps) k ms) ≡ node forms.DeclaratorNode w f l (scalars ms)
unfolding scalar scalars
kept w f l ps k unmarked = refl
kept w f l ps k (marking a unmarked) = refl
kept w f l ps k (marking a (marking b unmarked)) = refl
kept w f l ps k (marking a (marking b (marking c ms))) = refl

plain_one : (space : Option Space) (d : Syntax) (names : Names) → IsDeclaratorOf true d →
    one_stored space (scalar (marked names d)) ≡ one_stored space d
unfolding marked
plain_one space (node forms.DeclaratorNode w f l ps) names h =
    let d = node forms.DeclaratorNode w f l ps in
    let ms = marked_parts forms.DeclaratorNode ps names true ps in
    ap (one_stored space) (kept w f l ps (kind_at (marked names d)) ms) ∙
    same_stored space w f l (scalars ms) ps (star_kept w f l ps names ps h)
plain_one space d names h = absurd h

plain_among : (space : Option Space) (form : Form) (all : Forest) (names : Names) (front : Bool) (ds : Forest) →
    AreDeclaratorsOf true ds → stored_among space (scalars (marked_parts form all names front ds)) ≡
    stored_among space ds
unfolding scalars marked_parts
plain_among space form all names front none h = refl
plain_among space form all names front (more d ds) h =
    let n = later form all names front d in
    let x = scalar (marked names d) in
    let xs = scalars (marked_parts form all n false ds) in
    first_stored space x xs ∙ (ap (λ z. z ++ stored_among space xs) (plain_one space d names h.0) ∙
    (ap (λ z. one_stored space d ++ z) (plain_among space form all n false ds h.1) ∙ sym (first_stored space d ds)))

-- ---- behind a vector type

-- a declarator without dimensions
unstored_one : (space : Option Space) (w : List ℕ) (f l : ℕ) (ps : Forest) → Placed space w →
    nat_eq (dimensions_in w) 0 ≡ true → one_stored space (node forms.DeclaratorNode w f l ps) ≡ []
unstored_one space w f l ps p z = ap (λ b. if b then name_in w ∷ [] else [])
    (not_stored space w f l ps (eqb-true (dimensions_in w) 0 z) (p.private z))

-- its components, or the array of their elements
vector_one : (v : Vector) (space : Option Space) (w : List ℕ) (f l : ℕ) (ps : Forest) (names : Names) →
    IsDeclaratorOf true (node forms.DeclaratorNode w f l ps) → Placed space w →
    stored_among space (declarators_by v (node forms.DeclaratorNode w f l ps)
    (marked_parts forms.DeclaratorNode ps names true ps)) ≡ one_stored space (node forms.DeclaratorNode w f l ps)
vector_one v space w f l ps names h p = by (nat_eq (dimensions_in w) 0) refl
  where
    d : Syntax
    d = node forms.DeclaratorNode w f l ps

    ms : Marks
    ms = marked_parts forms.DeclaratorNode ps names true ps

    by : (z : Bool) → nat_eq (dimensions_in w) 0 ≡ z → stored_among space (if z
        then component_declarators (declared_name d) (numbers 0 1 v.count)
        else forest1 (with_parts d (lengths_at v ms))) ≡ one_stored space d
    by true e = components_stored space (declared_name d) (numbers 0 1 v.count) (front_blank w) (p.private e) ∙
        sym (unstored_one space w f l ps p e)
    by false e = same_stored space w f l (lengths_at v ms) ps (star_measured v w f l ps names ps h)

vector_among : (a : Around) (v : Vector) (space : Option Space) (form : Form) (all : Forest) (names : Names)
    (front : Bool) (ds : Forest) → AreDeclaratorsOf true ds →
    NoneRefusedAs (behind_vector a v space) (marked_parts form all names front ds) →
    stored_among space (all_declarators v (marked_parts form all names front ds)) ≡ stored_among space ds
unfolding marked marked_parts
vector_among a v space form all names front none h r = refl
vector_among a v space form all names front (more (node forms.DeclaratorNode w f l ps) ds) h r =
    let d = node forms.DeclaratorNode w f l ps in
    let n = later form all names front d in
    let these = declarators_of v (marked names d) in
    let others = all_declarators v (marked_parts form all n false ds) in
    joined_among space these others ∙
    (ap (λ z. z ++ stored_among space others)
    (vector_one v space w f l ps names h.0 (vector_placed a v space names w f l ps r.0)) ∙
    (ap (λ z. one_stored space d ++ z) (vector_among a v space form all n false ds h.1 r.1) ∙
    sym (first_stored space d ds)))
vector_among a v space form all names front (more d ds) h r = absurd h.0

-- ---- declarations in one node

declared_among : (role : Role) (t : Syntax) (ds : Forest) (names after : Names) (o : Option Vector)
    (space : Option Space) → AreDeclaratorsOf true ds →
    NoneRefusedAs (Declared (record { around = around_of role; vector = o; space = space }))
    (marked_parts forms.DeclareNode (more t ds) after false ds) → (w : List ℕ) (f l : ℕ) →
    space_among (parts_of (scalar (marked names t))) ≡ space → stored (node forms.DeclareNode w f l
    (declaration_by o (marked names t) (marked_parts forms.DeclareNode (more t ds) after false ds))) ≡
    stored_among space ds
unfolding stored scalars
declared_among role t ds names after None space h r w f l e =
    ap (λ s. stored_among s (scalars (marked_parts forms.DeclareNode (more t ds) after false ds))) e ∙
    plain_among space forms.DeclareNode (more t ds) after false ds h
declared_among role t ds names after (Some v) space h r w f l e =
    ap (λ s. stored_among s (all_declarators v (marked_parts forms.DeclareNode (more t ds) after false ds))) e ∙
    vector_among (around_of role) v space forms.DeclareNode (more t ds) after false ds h r

pub declaration_stored : (role : Role) (w : List ℕ) (f l : ℕ) (ps : Forest) (names : Names) →
    IsDeclarationOf true (node forms.DeclareNode w f l ps) →
    refusals role (marked names (node forms.DeclareNode w f l ps)) ≡ [] →
    stored (node forms.DeclareNode w f l (declaration (marked_parts forms.DeclareNode ps names true ps))) ≡
    stored (node forms.DeclareNode w f l ps)
unfolding stored marked_parts
declaration_stored role w f l none names h r = absurd h
declaration_stored role w f l (more t ds) names h r =
    declared_among role t ds names (later forms.DeclareNode (more t ds) names true t)
    (vector_type (tree_at (marked names t))) (space_among (parts_of t)) h.1
    (declarators_unrefused role names w f l t ds r) w f l (space_kept t names h.0)

-- ---- declarations in lines

lines_one : (v : Vector) (type : Mark) (space : Option Space) (w : List ℕ) (f l : ℕ) (ps : Forest) (names : Names) →
    IsDeclaratorOf true (node forms.DeclaratorNode w f l ps) → Placed space w →
    space_among (parts_of (scalar type)) ≡ space →
    all_stored (declarator_lines v type (marked names (node forms.DeclaratorNode w f l ps))
    (initialiser (marked names (node forms.DeclaratorNode w f l ps)))) ≡
    one_stored space (node forms.DeclaratorNode w f l ps)
unfolding stored all_stored marked
lines_one v type space w f l ps names h p e = by (is_set w) refl
  where
    d : Syntax
    d = node forms.DeclaratorNode w f l ps

    m : Mark
    m = marked names d

    ms : Marks
    ms = marked_parts forms.DeclaratorNode ps names true ps

    declared : all_stored (declarator_lines v type m None) ≡ one_stored space d
    declared =
        append_nothing (stored_among (space_among (parts_of (scalar type))) (declarators_by v d ms)) ∙
        (ap (λ s. stored_among s (declarators_by v d ms)) e ∙ vector_one v space w f l ps names h p)

    set : (o : Option Mark) → ValueCalm o → nat_eq (dimensions_in w) 0 ≡ true →
        all_stored (declarator_lines v type m o) ≡ one_stored space d
    set None c z = declared
    set (Some x) c z = lines_stored (Some type) (record {
      operator = None;
      of = v.of;
      target = name_span d;
      components = [];
      value = x;
    }) (initial_steps v (declared_name d) x) (ap is_local e ∙ p.private z) (c v (declared_name d) (front_blank w)) ∙
        sym (unstored_one space w f l ps p z)

    no_array : is_set w ≡ true → (z : Bool) → nat_eq (dimensions_in w) 0 ≡ z → z ≡ true
    no_array i true z = refl
    no_array i false z = absurd (false≢true (sym (p.unset z) ∙ i))

    by : (b : Bool) → is_set w ≡ b →
        all_stored (declarator_lines v type m (initialiser_by b (back ms))) ≡ one_stored space d
    by false i = declared
    by true i =
        let zero : nat_eq (dimensions_in w) 0 ≡ true = no_array i (nat_eq (dimensions_in w) 0) refl in
        set (back ms) (back_calm forms.DeclaratorNode ps names true ps (declarator_neat d h)) zero

lines_among : (a : Around) (v : Vector) (type : Mark) (space : Option Space) (form : Form) (all : Forest)
    (names : Names) (front : Bool) (ds : Forest) → AreDeclaratorsOf true ds →
    NoneRefusedAs (behind_vector a v space) (marked_parts form all names front ds) →
    space_among (parts_of (scalar type)) ≡ space →
    all_stored (vector_lines v type (marked_parts form all names front ds)) ≡ stored_among space ds
unfolding marked_parts all_stored
lines_among a v type space form all names front none h r e = refl
lines_among a v type space form all names front (more (node forms.DeclaratorNode w f l ps) ds) h r e =
    let d = node forms.DeclaratorNode w f l ps in
    let n = later form all names front d in
    let these = declarator_lines v type (marked names d) (initialiser (marked names d)) in
    let others = vector_lines v type (marked_parts form all n false ds) in
    all_joined these others ∙
    (ap (λ z. z ++ all_stored others)
    (lines_one v type space w f l ps names h.0 (vector_placed a v space names w f l ps r.0) e) ∙
    (ap (λ z. one_stored space d ++ z) (lines_among a v type space form all n false ds h.1 r.1 e) ∙
    sym (first_stored space d ds)))
lines_among a v type space form all names front (more d ds) h r e = absurd h.0

lines_declared : (role : Role) (t : Syntax) (ds : Forest) (names after : Names) (o : Option Vector)
    (space : Option Space) → AreDeclaratorsOf true ds →
    NoneRefusedAs (Declared (record { around = around_of role; vector = o; space = space }))
    (marked_parts forms.DeclareNode (more t ds) after false ds) → (w : List ℕ) (f l : ℕ) →
    space_among (parts_of (scalar (marked names t))) ≡ space →
    all_stored (lines_by o (node forms.DeclareNode w f l (more t ds)) (marked names t)
    (marked_parts forms.DeclareNode (more t ds) after false ds)) ≡ stored_among space ds
unfolding stored all_stored scalars
lines_declared role t ds names after None space h r w f l e =
    let ms = marked_parts forms.DeclareNode (more t ds) after false ds in
    append_nothing (stored_among (space_among (parts_of (scalar (marked names t)))) (scalars ms)) ∙
    (ap (λ s. stored_among s (scalars ms)) e ∙ plain_among space forms.DeclareNode (more t ds) after false ds h)
lines_declared role t ds names after (Some v) space h r w f l e =
    lines_among (around_of role) v (marked names t) space forms.DeclareNode (more t ds) after false ds h r e

pub declaration_lines_stored : (role : Role) (w : List ℕ) (f l : ℕ) (ps : Forest) (names : Names) →
    IsDeclarationOf true (node forms.DeclareNode w f l ps) →
    refusals role (marked names (node forms.DeclareNode w f l ps)) ≡ [] →
    all_stored (declaration_lines (marked names (node forms.DeclareNode w f l ps))) ≡
    stored (node forms.DeclareNode w f l ps)
unfolding stored marked marked_parts
declaration_lines_stored role w f l none names h r = absurd h
declaration_lines_stored role w f l (more t ds) names h r =
    lines_declared role t ds names (later forms.DeclareNode (more t ds) names true t)
    (vector_type (tree_at (marked names t))) (space_among (parts_of t)) h.1
    (declarators_unrefused role names w f l t ds r) w f l (space_kept t names h.0)
