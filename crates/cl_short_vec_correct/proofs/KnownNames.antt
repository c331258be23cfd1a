-- Declarations of variables and arrays let no name that is known without a declaration stand for a function.
use Rattle.std.proofs.Common.{◌≡◌, ℕ, nat_eq, List, [], ◌∷◌, ◌++◌, Option, None, Some, Bool, true, false}
use Rattle.std.proofs.Common.{if◌then◌else◌, refl, ap, sym, ◌∙◌, subst, inl, ◌⊎◌}
use Rattle.std.specs.Str.{bytes_eq}
use Rattle.cl_model.specs.declared.program.Space.{Space}
use Rattle.cl_model.specs.declared.program.Space.TheVariants as spaces
use Rattle.cl_tree.specs.declared.tree.Form.TheVariants as forms
use Rattle.cl_tree.specs.Syntax.{Syntax, node, Forest, none, more}
use Rattle.cl_meaning.specs.declared.types.Declared.{Declared}
use Rattle.cl_meaning.specs.declared.kind.Kind.{Kind}
use Rattle.cl_meaning.specs.declared.kind.Meaning.{Meaning}
use Rattle.cl_meaning.specs.declared.kind.Meaning.TheVariants as meanings
use Rattle.cl_meaning.specs.Environment.{Env, Array, at_unit, found_in, into_last, empty_scope, meaning_in, meaning_of}
use Rattle.cl_meaning.specs.Kinds.{callee_of, callee_by}
use Rattle.cl_meaning.specs.Kinds as callees
use Rattle.cl_meaning.specs.Declarations.{Declarator, declarator_in, kept_in, firm, with_array, with_scalar}
use Rattle.cl_meaning.specs.Declarations.{with_elements, with_declarator, dims_of, or_none, last_kind}
use Rattle.cl_meaning.specs.Visible.{behind, behind_parts, closed, kinds_of}
use Rattle.cl_check_sound.specs.Shape.{IsType, IsDeclarator, AreDeclarators, IsDeclaration}
use Rattle.cl_check_sound.proofs.Grown.{outer_whole, is_deep, deep_outer}
use Rattle.cl_check_sound.proofs.Growth.{declarator_leaves}
use Rattle.cl_check_sound.proofs.Facing.{found_declared, found_opened}
use Rattle.cl_check_sound.proofs.Parts.{typed_env, declare_behind}
use Rattle.cl_check_sound.proofs.Declarators.{declare_leaves}
use Rattle.cl_short_vec_correct.proofs.Seen.{Intrinsics, same_called, called_there}
use Rattle.cl_short_vec_correct.proofs.Behind.{declarator_outer, outer_of, no_declarators}

-- a variable or an array
abbrev pub IsObject : Meaning → Type 0
IsObject (meanings.Scalar t c x) = Unit {0}
IsObject (meanings.Pointer s e c r fixed x) = Unit {0}
IsObject (meanings.Object s e c r) = Unit {0}
IsObject (meanings.Array s e c r i) = Unit {0}
IsObject m = ⊥

pub not_called : (env : Env) (q : List ℕ) (m : Meaning) → IsObject m → callee_by env q (Some m) ≡ None
not_called env q (meanings.Scalar t c x) h = refl
not_called env q (meanings.Pointer s e c r fixed x) h = refl
not_called env q (meanings.Object s e c r) h = refl
not_called env q (meanings.Array s e c r i) h = refl
not_called env q (meanings.Function n) h = absurd h
not_called env q meanings.Undefined h = absurd h
not_called env q meanings.Kernel h = absurd h

-- ---- the same names, and one more

pub known_same : (env later : Env) → later.functions ≡ env.functions → later.scopes ≡ env.scopes → Intrinsics env →
    Intrinsics later
known_same env later f s h name i e =
    called_there env later name i (same_called env later name f (ap (λ z. meaning_in (found_in z name)) s)) (h name i e)

pub known_opened : (env later : Env) → later.functions ≡ env.functions →
    later.scopes ≡ env.scopes ++ empty_scope ∷ [] → Intrinsics env → Intrinsics later
known_opened env later f s h name i e =
    called_there env later name i (same_called env later name f
    (ap (λ z. meaning_in (found_in z name)) s ∙ ap meaning_in (found_opened env.scopes name))) (h name i e)

-- an object of that name is declared
pub known_object : (env later : Env) (name : List ℕ) (m : Meaning) → IsObject m → later.functions ≡ env.functions →
    later.scopes ≡ into_last env.scopes name (firm m) → is_deep env.scopes ≡ true → Intrinsics env → Intrinsics later
known_object env later name m o f s d h q i e =
    by (bytes_eq name q) (ap (λ z. meaning_in (found_in z q)) s ∙ ap meaning_in (found_declared env.scopes name (firm m)
    q d))
  where
    by : (b : Bool) → meaning_of later q ≡ meaning_in (if b then Some (firm m) else found_in env.scopes q) →
        (callee_of later q ≡ None) ⊎ (callee_of later q ≡ Some (callees.known i))
    by true k = inl (ap (callee_by later q) k ∙ not_called later q m o)
    by false k = called_there env later q i (same_called env later q f k) (h q i e)

-- ---- declarators

module _ (R : Env → Type 0) (env : Env) where
  abbrev pub Declaring : List ℕ → Type 0
  Declaring name = (later : Env) (m : Meaning) → IsObject m → later.functions ≡ env.functions →
      later.scopes ≡ into_last env.scopes name (firm m) → R later

  array_objects : (a : Array) (bytes : List ℕ) (m : Meaning) → IsObject m → Declaring a.name →
      R (with_array env a bytes m)
  array_objects a bytes m o g = by (at_unit env)
    where
      by : (b : Bool) → R (if b
          then record env {
            tables = env.tables ++ record { array = a; bytes = bytes } ∷ [];
            scopes = into_last env.scopes a.name (firm m);
          }
          else record env { arrays = env.arrays ++ a ∷ []; scopes = into_last env.scopes a.name (firm m) })
      by true = g _ m o refl refl
      by false = g _ m o refl refl

  scalar_objects : (d : Declared) (x : Declarator) (s : Space) → Declaring x.name → R (with_scalar env d x s)
  scalar_objects d x spaces.Private g = g _ _ tt refl refl
  scalar_objects d x spaces.Global g = array_objects _ _ _ tt g
  scalar_objects d x spaces.Constant g = array_objects _ _ _ tt g
  scalar_objects d x spaces.Local g = array_objects _ _ _ tt g

  pub declarator_objects : (o : Option Declared) (x : Declarator) (k : Option Kind) → R env → Declaring x.name →
      R (with_declarator env o x k)
  declarator_objects None x k same g = same
  declarator_objects (Some d) x k same g = by x.star
    where
      plain : (b : Bool) → R (if b then with_scalar env d (record x { star = None }) (kept_in env d) else
          with_elements env d (record x { star = None }) (kept_in env d) (or_none (dims_of x)))
      plain true = scalar_objects d (record x { star = None }) (kept_in env d) g
      plain false = array_objects _ _ _ tt g

      by : (star : Option Bool) → R (with_declarator env (Some d) (record x { star = star }) k)
      by (Some fixed) = g _ _ tt refl refl
      by None = plain (nat_eq x.dimensions 0)

pub declarator_known : (env : Env) (t : Syntax) → IsDeclarator t → is_deep env.scopes ≡ true → Intrinsics env →
    Intrinsics (behind env t)
declarator_known env (node forms.DeclaratorNode w f l parts) h d k =
    subst Intrinsics (sym (declarator_leaves env w f l parts h))
    (declarator_objects Intrinsics env env.declared (declarator_in w f parts)
    (last_kind (kinds_of env forms.DeclaratorNode true parts)) k
    (λ later m o e s. known_object env later (declarator_in w f parts).name m o e s d k))
declarator_known env t h d k = absurd h

declarators_known : (env : Env) (ds : Forest) → AreDeclarators ds → is_deep env.scopes ≡ true → Intrinsics env →
    Intrinsics (behind_parts env forms.DeclareNode false ds)
declarators_known env none h d k = subst Intrinsics (sym (no_declarators env)) k
declarators_known env (more p ps) h d k =
    subst Intrinsics (sym (declare_leaves env false p ps h.0))
    (declarators_known (behind env p) ps h.1 (deep_outer env.scopes (behind env p).scopes d
    (declarator_outer env p h.0))
    (declarator_known env p h.0 d k))

-- ---- declarations

pub declaration_known : (env : Env) (w : List ℕ) (f l : ℕ) (t : Syntax) (ds : Forest) → IsType t → AreDeclarators ds →
    is_deep env.scopes ≡ true → Intrinsics env → Intrinsics (behind env (node forms.DeclareNode w f l (more t ds)))
declaration_known env w f l t ds h k d i =
    let u = typed_env env t in
    let inner = behind_parts u forms.DeclareNode false ds in
    let x = declarators_known u ds k d (known_same env u refl refl i) in
    subst Intrinsics (sym (declare_behind env w f l t ds h))
    (known_same inner (closed env inner) refl (outer_whole env.scopes inner.scopes (outer_of u ds k)) x)

pub declared_known : (env : Env) (t : Syntax) → IsDeclaration t → is_deep env.scopes ≡ true → Intrinsics env →
    Intrinsics (behind env t)
declared_known env (node forms.DeclareNode w f l (more t ds)) h d i = declaration_known env w f l t ds h.0 h.1 d i
declared_known env t h d i = absurd h
