-- Names behind declarators, and what they say behind a declaration whose type is no vector's.
use Rattle.std.proofs.Common.{◌≡◌, ℕ, List, Option, None, Some, Bool, true, false, if◌then◌else◌}
use Rattle.std.proofs.Common.{ap, sym, ◌∙◌}
use Rattle.std.proofs.lemmas.Bool.{false≢true}
use Rattle.std.specs.Str.{bytes_eq}
use Rattle.cl_tree.specs.declared.tree.Form.TheVariants as forms
use Rattle.cl_tree.specs.Syntax.{Syntax, node, Forest, none, more}
use Rattle.cl_meaning.specs.Spelling.{name_in, declared_in}
use Rattle.cl_meaning.specs.Kinds.{is_some}
use Rattle.cl_meaning.specs.Declarations.{word_of}
use Rattle.cl_meaning.specs.Environment.{Env}
use Rattle.cl_meaning.specs.Visible.{behind}
use Rattle.cl_check_sound.specs.Shape.{IsType, AreDeclaratorsOf}
use Rattle.cl_check_sound.proofs.Grown.{is_deep}
use Rattle.cl_short_vec.specs.declared.types.Vector.{Vector}
use Rattle.cl_short_vec.specs.declared.kinds.Kind.TheVariants.{Vectors, Other}
use Rattle.cl_short_vec.specs.declared.kinds.Reach.TheVariants.{Variable as VariableReach}
use Rattle.cl_short_vec.specs.Types.{vector_type}
use Rattle.cl_short_vec.specs.Kinds.{Names, with_name, is_variable, behind_declared, behind_declarator}
use Rattle.cl_short_vec.specs.Kinds.{behind_declarators, is_vector}
use Rattle.cl_short_vec.specs.Kinds as kinds
use Rattle.cl_short_vec.specs.Marks.{kind_at, marked, marked_parts}
use Rattle.cl_short_vec.specs.Nodes.{component_name}
use Rattle.cl_short_vec.specs.Scalar.{scalar, scalars}
use Rattle.cl_short_vec.proofs.Small.{SmallMarks}
use Rattle.cl_short_vec_correct.proofs.Scalars.{type_is}
use Rattle.cl_short_vec_correct.proofs.FormDeclarations.{kept, declarators_are}
use Rattle.cl_short_vec_correct.proofs.Says.{AllOwn, Says, OwnNames, plain_apart}
use Rattle.cl_short_vec_correct.proofs.Behind.{EachApart, declaration_other}
use Rattle.cl_short_vec_correct.proofs.Spoken.{says_kept, owns_named}

-- ---- names behind declarators

-- the names behind a declarator of vectors, and behind the declarators of a declaration
pub owns_declarators : (names : Names) (type : Syntax) (ds : Forest) → OwnNames names → AllOwn ds →
    AreDeclaratorsOf true ds → OwnNames (behind_declarators names type ds)
owns_declarators names type none o h k = o
owns_declarators names type (more (node forms.DeclaratorNode w f l ps) ds) o h k =
    owns_declarators (behind_declarator names type (node forms.DeclaratorNode w f l ps)) type ds
    (one (vector_type type)) h.1 k.1
  where
    one : (v : Option Vector) → OwnNames (behind_declared v names type (node forms.DeclaratorNode w f l ps))
    one (Some v) = owns_named names (name_in w) (kinds.declared_kind v type (node forms.DeclaratorNode w f l ps)) o
        h.0.0
    one None = by (is_some (declared_in type))
      where
        by : (b : Bool) → OwnNames (if b then with_name names (name_in w) (Other true) else names)
        by true = owns_named names (name_in w) (Other true) o h.0.0
        by false = o
owns_declarators names type (more d ds) o h k = absurd k.0

-- behind a type that is no vector's, fewer names are vectors
abbrev pub Fewer : Names → Names → Type 0
Fewer names after = (n : List ℕ) (v : Vector) → after n ≡ Vectors v VariableReach → names n ≡ Vectors v VariableReach

fewer_one : (names : Names) (type d : Syntax) → Fewer names (behind_declared None names type d)
fewer_one names type d n v e = by (is_some (declared_in type)) e
  where
    at : (b : Bool) → (if b then (Other true) else names n) ≡ Vectors v VariableReach →
        names n ≡ Vectors v VariableReach
    at true e = absurd (false≢true (ap is_vector e))
    at false e = e

    by : (b : Bool) →
        (if b then with_name names (name_in (word_of d)) (Other true) else names) n ≡ Vectors v VariableReach →
        names n ≡ Vectors v VariableReach
    by true e = at (bytes_eq (name_in (word_of d)) n) e
    by false e = e

fewer_all : (names : Names) (type : Syntax) (ds : Forest) → vector_type type ≡ None →
    Fewer names (behind_declarators names type ds)
fewer_all names type none e n v h = h
fewer_all names type (more d ds) e n v h =
    fewer_one names type d n v
    (ap (λ o. behind_declared o names type d n) (sym e) ∙
    fewer_all (behind_declarator names type d) type ds e n v h)

says_fewer : (names after : Names) (env : Env) → Fewer names after → Says names env → Says after env
says_fewer names after env g s name v e c l = s name v (g name v e) c l

-- the declarators of a type that is no vector's have the names that they had
scalars_apart : (all : Forest) (names : Names) (ds : Forest) (n : List ℕ) (c : ℕ) → AreDeclaratorsOf true ds →
    AllOwn ds → EachApart (component_name n c) (scalars (marked_parts forms.DeclareNode all names false ds))
unfolding scalars marked marked_parts
scalars_apart all names none n c h o = tt
scalars_apart all names (more (node forms.DeclaratorNode w f l ps) ds) n c h o =
    let d = node forms.DeclaratorNode w f l ps in
    let same = kept w f l ps (kind_at (marked names d)) (marked_parts forms.DeclaratorNode ps names true ps) in (
      ap (λ z. bytes_eq (name_in (word_of z)) (component_name n c)) same ∙ plain_apart (name_in w) n c o.0.0.1,
      scalars_apart all (kinds.later forms.DeclareNode all names false d) ds n c h.1 o.1,
    )
scalars_apart all names (more d ds) n c h o = absurd h.0

-- what names say behind a declaration in one node whose type is no vector's
pub plain_says : (names outer : Names) (env : Env) (w : List ℕ) (f l : ℕ) (type : Syntax) (ds all : Forest) →
    IsType type → AreDeclaratorsOf true ds → AllOwn ds →
    SmallMarks (marked_parts forms.DeclareNode all names false ds) →
    vector_type type ≡ None → is_deep env.scopes ≡ true → Says names env → OwnNames names →
    Says (behind_declarators names type ds) (behind env (node forms.DeclareNode w f l
    (more (scalar (marked outer type)) (scalars (marked_parts forms.DeclareNode all names false ds)))))
plain_says names outer env w f l type ds all t h o sm v d s own =
    let inner = scalars (marked_parts forms.DeclareNode all names false ds) in
    let tree = node forms.DeclareNode w f l (more (scalar (marked outer type)) inner) in
    says_fewer names (behind_declarators names type ds) (behind env tree) (fewer_all names type ds v)
    (says_kept names env (behind env tree) s own (λ n k c. (declaration_other env w f l (scalar (marked outer type))
    inner
    (component_name n c) (type_is type outer t)
    (declarators_are forms.DeclareNode all names false ds sm h) d
    (scalars_apart all names ds n c h o)).1))
