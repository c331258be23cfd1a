-- The lines of the steps of a vector statement, and components, are no arrays and no variables of a work-group.
use Rattle.std.proofs.Common.{◌≡◌, ℕ, nat_le, List, [], ◌∷◌, ◌++◌, Option, Some, None, Bool, true, false, not, ◌&&◌}
use Rattle.std.proofs.Common.{◌||◌, if◌then◌else◌, refl, ap, ◌∙◌}
use Rattle.std.specs.Prelude.{codes}
use Rattle.cl_model.specs.declared.program.Space.{Space}
use Rattle.cl_tree.specs.declared.tree.Form.TheVariants as forms
use Rattle.cl_tree.specs.Syntax.{Syntax, node, Forest, none, more, joined}
use Rattle.cl_tree.specs.Nodes.{forest1}
use Rattle.cl_meaning.specs.Spelling.{name_in, dimensions_in}
use Rattle.cl_meaning.specs.Types.{space_among}
use Rattle.cl_meaning.specs.Declarations.{word_of, parts_of, star_in}
use Rattle.cl_meaning.specs.Kinds.{is_some}
use Rattle.cl_short_vec.specs.declared.nodes.Span.{Span}
use Rattle.cl_short_vec.specs.Marks.{Mark, tree_at, kind_at}
use Rattle.cl_short_vec.specs.Order.{Named, Step, Offset, Number, Copy, Load, Set, Store, type_in}
use Rattle.cl_short_vec.specs.Parts.{Assigned, assigned_part}
use Rattle.cl_short_vec.specs.Nodes.{span_of, variable_at, typed_at, declared_at, helper, component_name, statement_at}
use Rattle.cl_short_vec.specs.Scalar.{scalar}
use Rattle.cl_short_vec.specs.Unit.{helped_element, set_line, line_of, lines_of, component_declarators}
use Rattle.cl_short_vec.proofs.OwnNames.{HasNoBlank, helper_name, component_is_name, set_dimensions, alone_dimensions}
use Rattle.cl_short_vec_form.specs.Stored.{is_local, is_stored, stored_among, stored, all_stored}
use Rattle.cl_short_vec_form.proofs.Calm.{Calm, calm_stored, variable_calm, statement_calm}
use Rattle.cl_short_vec_form.proofs.Parts.{assigned_calm}
use Rattle.cl_short_vec_form.proofs.Steps.{StepCalm, StepsCalm, helped_calm}

-- ---- declarators

and_false : (b : Bool) → (b && false) ≡ false
and_false true = refl
and_false false = refl

-- a declarator without dimensions, in another space than that of a work-group
pub not_stored : (space : Option Space) (w : List ℕ) (f l : ℕ) (ps : Forest) → dimensions_in w ≡ 0 →
    is_local space ≡ false → is_stored space (node forms.DeclaratorNode w f l ps) ≡ false
not_stored space w f l ps d p =
    let neither : nat_le 1 (dimensions_in w) || is_local space ≡ false =
    ap (λ n. nat_le 1 n || is_local space) d ∙ p in
    ap (λ b. not (is_some (star_in ps)) && b) neither ∙ and_false (not (is_some (star_in ps)))

-- the name of one declarator, where it is stored
abbrev pub one_stored : Option Space → Syntax → List (List ℕ)
one_stored space d = if is_stored space d then name_in (word_of d) ∷ [] else []

pub first_stored : (space : Option Space) (d : Syntax) (ds : Forest) →
    stored_among space (more d ds) ≡ one_stored space d ++ stored_among space ds
first_stored space d ds = by (is_stored space d)
  where
    by : (b : Bool) →
        (if b then name_in (word_of d) ∷ stored_among space ds else stored_among space ds) ≡
        (if b then name_in (word_of d) ∷ [] else []) ++ stored_among space ds
    by true = refl
    by false = refl

pub joined_among : (space : Option Space) (a b : Forest) →
    stored_among space (joined a b) ≡ stored_among space a ++ stored_among space b
joined_among space none b = refl
joined_among space (more d ds) b = by (is_stored space d) (joined_among space ds b)
  where
    by : (z : Bool) → stored_among space (joined ds b) ≡ stored_among space ds ++ stored_among space b →
        (if z then name_in (word_of d) ∷ stored_among space (joined ds b) else stored_among space (joined ds b)) ≡
        (if z then name_in (word_of d) ∷ stored_among space ds else stored_among space ds) ++ stored_among space b
    by true e = ap (λ x. name_in (word_of d) ∷ x) e
    by false e = e

-- what stands for a declarator, with its name and its star
pub same_stored : (space : Option Space) (w : List ℕ) (f l : ℕ) (qs ps : Forest) →
    is_some (star_in qs) ≡ is_some (star_in ps) →
    one_stored space (node forms.DeclaratorNode w f l qs) ≡ one_stored space (node forms.DeclaratorNode w f l ps)
same_stored space w f l qs ps e =
    ap (λ b. if not b && (nat_le 1 (dimensions_in w) || is_local space) then name_in w ∷ [] else []) e

pub components_stored : (space : Option Space) (x : Named) (cs : List ℕ) → HasNoBlank x.name →
    is_local space ≡ false → stored_among space (component_declarators x cs) ≡ []
components_stored space x [] b p = refl
components_stored space x (c ∷ cs) b p =
    let w = component_name x.name c in
    let others = stored_among space (component_declarators x cs) in
    ap (λ z. if z then name_in w ∷ others else others)
    (not_stored space w x.span.first x.span.last none (alone_dimensions w (component_is_name x.name c b)) p) ∙
    components_stored space x cs b p

-- ---- lines

declared_stored : (s : Span) (type : Syntax) (name : List ℕ) (ps : Forest) →
    dimensions_in (name ++ codes " =") ≡ 0 → is_local (space_among (parts_of type)) ≡ false →
    stored (declared_at s type name ps) ≡ []
unfolding stored
declared_stored s type name ps d p =
    let w = name ++ codes " =" in
    ap (λ z. if z then name_in w ∷ [] else []) (not_stored (space_among (parts_of type)) w s.first s.last ps d p)

-- the type behind which components are declared is not in the space of a work-group
abbrev pub IsPrivate : Option Mark → Type 0
IsPrivate None = Unit {0}
IsPrivate (Some m) = is_local (space_among (parts_of (scalar m))) ≡ false

set_stored : (type : Option Mark) (x : Named) (c : ℕ) (value : Syntax) → IsPrivate type → HasNoBlank x.name →
    Calm value → stored (set_line type x c value) ≡ []
set_stored None x c value p b h =
    let target = variable_at (component_name x.name c) x.span in
    calm_stored (statement_at x.span target value)
    (statement_calm x.span target value (variable_calm (component_name x.name c) x.span) h)
set_stored (Some type) x c value p b h =
    declared_stored x.span (scalar type) (component_name x.name c) (forest1 value)
    (set_dimensions (component_name x.name c) (component_is_name x.name c b)) p

line_stored : (type : Option Mark) (a : Assigned) (s : Step) → IsPrivate type → StepCalm s →
    stored (line_of type a s) ≡ []
unfolding stored
line_stored type a (Offset m) p h = refl
line_stored type a (Number of m) p h =
    let s = span_of (tree_at m) in
    declared_stored s (typed_at of s) (helper s) (forest1 (scalar m)) (set_dimensions (helper s) (helper_name s)) refl
line_stored type a (Copy of x c) p h =
    let name = component_name (helper x.span) c in
    declared_stored x.span (typed_at of x.span) name (forest1 (variable_at (component_name x.name c) x.span))
    (set_dimensions name (component_is_name (helper x.span) c (helper_name x.span).0)) refl
line_stored type a (Load m c) p h =
    let s = span_of (tree_at m) in
    let name = component_name (helper s) c in
    declared_stored s (typed_at (type_in (kind_at m)) s) name (forest1 (helped_element s c))
    (set_dimensions name (component_is_name (helper s) c (helper_name s).0)) refl
line_stored type a (Set x c j) p h = set_stored type x c (assigned_part a j) p h (assigned_calm a j)
line_stored type a (Store m c j) p h =
    let s = span_of (tree_at m) in
    calm_stored (statement_at s (helped_element s c) (assigned_part a j))
    (statement_calm s (helped_element s c) (assigned_part a j) (helped_calm s c) (assigned_calm a j))

pub lines_stored : (type : Option Mark) (a : Assigned) (ss : List Step) → IsPrivate type → StepsCalm ss →
    all_stored (lines_of type a ss) ≡ []
unfolding all_stored
lines_stored type a [] p h = refl
lines_stored type a (s ∷ ss) p h =
    ap (λ z. z ++ all_stored (lines_of type a ss)) (line_stored type a s p h.0) ∙ lines_stored type a ss p h.1
