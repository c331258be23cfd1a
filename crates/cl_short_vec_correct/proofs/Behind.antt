-- What declarations leave in the scopes: names that they do not declare stand for what they stood for, and scalars that
-- they declare are visible.
use Rattle.std.proofs.Common.{◌≡◌, ℕ, nat_eq, List, [], ◌∷◌, ◌++◌, length, Option, None, Some, Bool, true, false}
use Rattle.std.proofs.Common.{if◌then◌else◌, refl, ap, sym, ◌∙◌, subst, inl, inr, ◌⊎◌}
use Rattle.std.proofs.lemmas.Bool.{false≢true}
use Rattle.std.specs.Str.{bytes_eq}
use Rattle.cl_model.specs.declared.program.Space.{Space}
use Rattle.cl_model.specs.declared.program.Space.TheVariants as spaces
use Rattle.cl_model.specs.declared.program.VarKind.TheVariants as var_kinds
use Rattle.cl_tree.specs.declared.tree.Form.TheVariants as forms
use Rattle.cl_tree.specs.Syntax.{Syntax, node, Forest, none, more}
use Rattle.cl_meaning.specs.Spelling.{name_in, declared_in, dimensions_in}
use Rattle.cl_meaning.specs.declared.types.Declared.{Declared}
use Rattle.cl_meaning.specs.declared.kind.Entry.{Entry}
use Rattle.cl_meaning.specs.declared.kind.Kind.{Kind}
use Rattle.cl_meaning.specs.declared.kind.Meaning.{Meaning}
use Rattle.cl_meaning.specs.declared.kind.Meaning.TheVariants as meanings
use Rattle.cl_meaning.specs.Environment.{Env, Scope, Array, at_unit, found_in, into_last}
use Rattle.cl_meaning.specs.Declarations.{Declarator, declarator_in, name_token, star_in, kept_in, firm, with_variable}
use Rattle.cl_meaning.specs.Declarations.{with_array, with_scalar, with_elements, with_declarator}
use Rattle.cl_meaning.specs.Declarations.{dims_of, or_none, last_kind, word_of}
use Rattle.cl_meaning.specs.Visible.{behind, behind_parts, closed, kinds_of}
use Rattle.cl_check_sound.specs.Shape.{IsType, IsDeclarator, AreDeclarators}
use Rattle.cl_check_sound.proofs.Grown.{SameOuter, outer_same, outer_then, outer_into, outer_whole, is_deep, deep_outer}
use Rattle.cl_check_sound.proofs.Grown.{deep_inside}
use Rattle.cl_check_sound.proofs.Growth.{declarator_leaves}
use Rattle.cl_check_sound.proofs.Parts.{typed_env, declare_behind}
use Rattle.cl_check_sound.proofs.Declarators.{declare_leaves}
use Rattle.cl_short_vec.specs.declared.roles.Around.TheVariants as around
use Rattle.cl_short_vec.specs.Faults.{is_private_at}
use Rattle.cl_short_vec_correct.proofs.Says.{Tells, deep_into, found_other, told_new, told_more}

-- ---- the scopes behind a declarator: the same, or with one name more

array_scopes : (Q : List Scope → Type 0) (env : Env) (a : Array) (bytes : List ℕ) (m : Meaning) →
    ((e : Entry) → Q (into_last env.scopes a.name e)) → Q (with_array env a bytes m).scopes
array_scopes Q env a bytes m g = by (at_unit env)
  where
    by : (b : Bool) → Q (if b
        then record env {
          tables = env.tables ++ record { array = a; bytes = bytes } ∷ [];
          scopes = into_last env.scopes a.name (firm m);
        }
        else record env { arrays = env.arrays ++ a ∷ []; scopes = into_last env.scopes a.name (firm m) }).scopes
    by true = g (firm m)
    by false = g (firm m)

scalar_scopes : (Q : List Scope → Type 0) (env : Env) (d : Declared) (x : Declarator) (s : Space) →
    ((e : Entry) → Q (into_last env.scopes x.name e)) → Q (with_scalar env d x s).scopes
scalar_scopes Q env d x spaces.Private g = g _
scalar_scopes Q env d x spaces.Global g = array_scopes Q env _ _ _ g
scalar_scopes Q env d x spaces.Constant g = array_scopes Q env _ _ _ g
scalar_scopes Q env d x spaces.Local g = array_scopes Q env _ _ _ g

declarator_scopes : (Q : List Scope → Type 0) (env : Env) (o : Option Declared) (x : Declarator) (k : Option Kind) →
    Q env.scopes → ((e : Entry) → Q (into_last env.scopes x.name e)) → Q (with_declarator env o x k).scopes
declarator_scopes Q env None x k same g = same
declarator_scopes Q env (Some d) x k same g = by x.star
  where
    plain : (b : Bool) → Q (if b then with_scalar env d (record x { star = None }) (kept_in env d) else
        with_elements env d (record x { star = None }) (kept_in env d) (or_none (dims_of x))).scopes
    plain true = scalar_scopes Q env d (record x { star = None }) (kept_in env d) g
    plain false = array_scopes Q env _ _ _ g

    by : (star : Option Bool) → Q (with_declarator env (Some d) (record x { star = star }) k).scopes
    by (Some fixed) = g _
    by None = plain (nat_eq x.dimensions 0)

-- ---- a name that is not declared

-- no declarator declares the name
abbrev pub EachApart : List ℕ → Forest → Type 0
EachApart q none = Unit {0}
EachApart q (more d ds) = (bytes_eq (name_in (word_of d)) q ≡ false) × EachApart q ds

-- the outer scopes are the same, and the name stands for the same
abbrev pub Leaves : List ℕ → List Scope → List Scope → Type 0
Leaves q ss ts = SameOuter ss ts × (found_in ts q ≡ found_in ss q)

pub leaves_same : (q : List ℕ) (ss : List Scope) → Leaves q ss ss
leaves_same q ss = (outer_same ss, refl)

pub leaves_then : (q : List ℕ) (ss ts us : List Scope) → Leaves q ss ts → Leaves q ts us → Leaves q ss us
leaves_then q ss ts us h k = (outer_then ss ts us h.0 k.0, k.1 ∙ h.1)

leaves_name : (ss : List Scope) (name : List ℕ) (e : Entry) (q : List ℕ) → is_deep ss ≡ true →
    bytes_eq name q ≡ false → Leaves q ss (into_last ss name e)
leaves_name ss name e q d h = (outer_into ss name e, found_other ss name e q d h)

declarator_other : (env : Env) (t : Syntax) (q : List ℕ) → IsDeclarator t → is_deep env.scopes ≡ true →
    bytes_eq (name_in (word_of t)) q ≡ false → Leaves q env.scopes (behind env t).scopes
declarator_other env (node forms.DeclaratorNode w f l parts) q h d a =
    subst (λ (z : Env). Leaves q env.scopes z.scopes) (sym (declarator_leaves env w f l parts h))
    (declarator_scopes (Leaves q env.scopes) env env.declared (declarator_in w f parts)
    (last_kind (kinds_of env forms.DeclaratorNode true parts)) (leaves_same q env.scopes)
    (λ e. leaves_name env.scopes (name_in w) e q d a))
declarator_other env t q h d a = absurd h

pub no_declarators : (env : Env) → behind_parts env forms.DeclareNode false none ≡ env
unfolding behind_parts
no_declarators env = refl

pub declarators_other : (env : Env) (ds : Forest) (q : List ℕ) → AreDeclarators ds → is_deep env.scopes ≡ true →
    EachApart q ds → Leaves q env.scopes (behind_parts env forms.DeclareNode false ds).scopes
declarators_other env none q h d a =
    subst (λ (z : Env). Leaves q env.scopes z.scopes) (sym (no_declarators env)) (leaves_same q env.scopes)
declarators_other env (more p ps) q h d a =
    let mid = behind env p in
    let x = declarator_other env p q h.0 d a.0 in
    subst (λ (z : Env). Leaves q env.scopes z.scopes) (sym (declare_leaves env false p ps h.0))
    (leaves_then q env.scopes mid.scopes (behind_parts mid forms.DeclareNode false ps).scopes x
    (declarators_other mid ps q h.1 (deep_outer env.scopes mid.scopes d x.0) a.1))

-- the outer scopes are the same behind any declarators
pub declarator_outer : (env : Env) (t : Syntax) → IsDeclarator t → SameOuter env.scopes (behind env t).scopes
declarator_outer env (node forms.DeclaratorNode w f l parts) h =
    subst (λ (z : Env). SameOuter env.scopes z.scopes) (sym (declarator_leaves env w f l parts h))
    (declarator_scopes (SameOuter env.scopes) env env.declared (declarator_in w f parts)
    (last_kind (kinds_of env forms.DeclaratorNode true parts)) (outer_same env.scopes)
    (λ e. outer_into env.scopes (name_in w) e))
declarator_outer env t h = absurd h

pub outer_of : (env : Env) (ds : Forest) → AreDeclarators ds →
    SameOuter env.scopes (behind_parts env forms.DeclareNode false ds).scopes
outer_of env none h =
    subst (λ (z : Env). SameOuter env.scopes z.scopes) (sym (no_declarators env)) (outer_same env.scopes)
outer_of env (more p ps) h =
    let mid = behind env p in
    subst (λ (z : Env). SameOuter env.scopes z.scopes) (sym (declare_leaves env false p ps h.0))
    (outer_then env.scopes mid.scopes (behind_parts mid forms.DeclareNode false ps).scopes (declarator_outer env p h.0)
    (outer_of mid ps h.1))

-- what is opened for a declaration is closed behind it
closed_scopes : (R : List Scope → Type 0) (env inner : Env) → SameOuter env.scopes inner.scopes → R inner.scopes →
    R (closed env inner).scopes
closed_scopes R env inner s r = subst R (sym (outer_whole env.scopes inner.scopes s)) r

pub declaration_other : (env : Env) (w : List ℕ) (f l : ℕ) (t : Syntax) (ds : Forest) (q : List ℕ) → IsType t →
    AreDeclarators ds → is_deep env.scopes ≡ true → EachApart q ds →
    Leaves q env.scopes (behind env (node forms.DeclareNode w f l (more t ds))).scopes
declaration_other env w f l t ds q h k d a =
    let inner = behind_parts (typed_env env t) forms.DeclareNode false ds in
    let x = declarators_other (typed_env env t) ds q k d a in
    subst (λ (z : Env). Leaves q env.scopes z.scopes) (sym (declare_behind env w f l t ds h))
    (closed_scopes (Leaves q env.scopes) env inner x.0 x)

pub declaration_outer : (env : Env) (w : List ℕ) (f l : ℕ) (t : Syntax) (ds : Forest) → IsType t →
    AreDeclarators ds → SameOuter env.scopes (behind env (node forms.DeclareNode w f l (more t ds))).scopes
declaration_outer env w f l t ds h k =
    let inner = behind_parts (typed_env env t) forms.DeclareNode false ds in
    let x = outer_of (typed_env env t) ds k in
    subst (λ (z : Env). SameOuter env.scopes z.scopes) (sym (declare_behind env w f l t ds h))
    (closed_scopes (SameOuter env.scopes) env inner x x)

-- ---- scalars that are declared

-- a scalar is kept as a variable of the function
kept_private : (env : Env) (d : Declared) → at_unit env ≡ false → is_private_at around.Block d.space ≡ true →
    kept_in env d ≡ spaces.Private
kept_private env d u h = by d.space h
  where
    at : (s : Option Space) → is_private_at around.Block s ≡ true → kept_in env (record d { space = s }) ≡
        (if at_unit env then spaces.Constant else spaces.Private)
    at None h = refl
    at (Some spaces.Private) h = refl
    at (Some spaces.Global) h = absurd (false≢true h)
    at (Some spaces.Constant) h = absurd (false≢true h)
    at (Some spaces.Local) h = absurd (false≢true h)

    by : (s : Option Space) → is_private_at around.Block s ≡ true → kept_in env (record d { space = s }) ≡
        spaces.Private
    by s h = at s h ∙ ap (λ (b : Bool). if b then spaces.Constant else spaces.Private) u

-- a declarator of a scalar
abbrev pub IsPlain : Syntax → Type 0
IsPlain (node forms.DeclaratorNode w f l parts) = IsDeclarator (node forms.DeclaratorNode w f l parts) ×
    ((star_in parts ≡ None) × (dimensions_in w ≡ 0))
IsPlain t = ⊥

abbrev pub ArePlain : Forest → Type 0
ArePlain none = Unit {0}
ArePlain (more d ds) = IsPlain d × ArePlain ds

-- the declarators declare the name
abbrev pub IsAmong : List ℕ → Forest → Type 0
IsAmong q none = ⊥
IsAmong q (more d ds) = (name_in (word_of d) ≡ q) ⊎ IsAmong q ds

abbrev scalar_behind : Env → Declared → List ℕ → ℕ → Env
scalar_behind env d name token =
    with_variable env name token (var_kinds.Scalar d.of) (meanings.Scalar d.of d.constant (length env.variables))

plain_with : (env : Env) (d : Declared) (x : Declarator) (k : Option Kind) → x.star ≡ None → x.dimensions ≡ 0 →
    kept_in env d ≡ spaces.Private → with_declarator env (Some d) x k ≡ scalar_behind env d x.name x.token
plain_with env d x k s z p = by x.star s
  where
    plain : (n : ℕ) → n ≡ 0 → (if nat_eq n 0 then with_scalar env d (record x { star = None }) (kept_in env d) else
        with_elements env d (record x { star = None }) (kept_in env d) (or_none (dims_of x))) ≡
        scalar_behind env d x.name x.token
    plain n e = ap (λ n. if nat_eq n 0 then with_scalar env d (record x { star = None }) (kept_in env d) else
        with_elements env d (record x { star = None }) (kept_in env d) (or_none (dims_of x))) e ∙
        ap (λ s. with_scalar env d (record x { star = None }) s) p

    by : (star : Option Bool) → star ≡ None → with_declarator env (Some d) (record x { star = star }) k ≡
        scalar_behind env d x.name x.token
    by None e = plain x.dimensions z
    by (Some fixed) e = absurd (false≢true (ap is_none e))
      where
        is_none : Option Bool → Bool
        is_none None = true
        is_none (Some b) = false

plain_behind : (env : Env) (d : Declared) (w : List ℕ) (f l : ℕ) (parts : Forest) →
    IsPlain (node forms.DeclaratorNode w f l parts) → env.declared ≡ Some d → is_deep env.scopes ≡ true →
    is_private_at around.Block d.space ≡ true →
    behind env (node forms.DeclaratorNode w f l parts) ≡ scalar_behind env d (name_in w) (name_token f parts)
plain_behind env d w f l parts h e dp p =
    declarator_leaves env w f l parts h.0 ∙
    (ap (λ o. with_declarator env o (declarator_in w f parts)
    (last_kind (kinds_of env forms.DeclaratorNode true parts))) e ∙
    plain_with env d (declarator_in w f parts) (last_kind (kinds_of env forms.DeclaratorNode true parts)) h.1.0 h.1.1
    (kept_private env d (deep_inside env dp) p))

-- behind declarators of scalars each of their names tells one, and what told one of that type before still does
pub declarators_tell : (env : Env) (d : Declared) (ds : Forest) (q : List ℕ) → ArePlain ds → env.declared ≡ Some d →
    is_deep env.scopes ≡ true → is_private_at around.Block d.space ≡ true →
    IsAmong q ds ⊎ Tells env.scopes d.of q →
    Tells (behind_parts env forms.DeclareNode false ds).scopes d.of q
declarators_tell env d none q h e dp p (inl k) = absurd k
declarators_tell env d none q h e dp p (inr k) =
    subst (λ (z : Env). Tells z.scopes d.of q) (sym (no_declarators env)) k
declarators_tell env d (more (node forms.DeclaratorNode w f l parts) ps) q h e dp p k =
    let t = node forms.DeclaratorNode w f l parts in
    let mid = scalar_behind env d (name_in w) (name_token f parts) in
    subst (λ (z : Env). Tells z.scopes d.of q) (sym (declare_leaves env false t ps h.0.0))
    (subst (λ (z : Env). Tells (behind_parts z forms.DeclareNode false ps).scopes d.of q)
    (sym (plain_behind env d w f l parts h.0 e dp p))
    (declarators_tell mid d ps q h.1 e (deep_into env.scopes (name_in w) _ dp) p (by k)))
  where
    by : (IsAmong q (more (node forms.DeclaratorNode w f l parts) ps) ⊎ Tells env.scopes d.of q) →
        IsAmong q ps ⊎ Tells (scalar_behind env d (name_in w) (name_token f parts)).scopes d.of q
    by (inl (inl same)) = inr (subst (λ z. Tells (scalar_behind env d (name_in w) (name_token f parts)).scopes d.of z)
        same (told_new env.scopes (name_in w) d.of d.constant (length env.variables) dp))
    by (inl (inr k)) = inl k
    by (inr k) = inr (told_more env.scopes (name_in w) d.of d.constant (length env.variables) q dp k)
declarators_tell env d (more t ps) q h e dp p k = absurd h.0

plain_are : (ds : Forest) → ArePlain ds → AreDeclarators ds
plain_are none h = tt
plain_are (more (node forms.DeclaratorNode w f l parts) ds) h = (h.0.0, plain_are ds h.1)
plain_are (more t ds) h = absurd h.0

pub declaration_tells : (env : Env) (d : Declared) (w : List ℕ) (f l : ℕ) (t : Syntax) (ds : Forest) (q : List ℕ) →
    IsType t → ArePlain ds → declared_in t ≡ Some d → is_deep env.scopes ≡ true →
    is_private_at around.Block d.space ≡ true → IsAmong q ds ⊎ Tells env.scopes d.of q →
    Tells (behind env (node forms.DeclareNode w f l (more t ds))).scopes d.of q
declaration_tells env d w f l t ds q h k e dp p a =
    let inner = behind_parts (typed_env env t) forms.DeclareNode false ds in
    subst (λ (z : Env). Tells z.scopes d.of q) (sym (declare_behind env w f l t ds h))
    (closed_scopes (λ ss. Tells ss d.of q) env inner (outer_of (typed_env env t) ds (plain_are ds k))
    (declarators_tell (typed_env env t) d ds q k e dp p a))
