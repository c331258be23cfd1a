-- The components of vector variables are visible where their names stand for vectors, and stay so behind what declares
-- other names.
use Rattle.std.proofs.Common.{◌≡◌, ℕ, ◌<◌, nat_eq, List, [], ◌∷◌, ◌++◌, Some, Bool, true, false, ◌||◌}
use Rattle.std.proofs.Common.{if◌then◌else◌, refl, ap, sym, ◌∙◌, subst}
use Rattle.std.proofs.lemmas.Bool.{false≢true}
use Rattle.std.specs.Prelude.{codes, decimal}
use Rattle.std.specs.Str.{bytes_eq}
use Rattle.wg_num.specs.declared.types.IntType.{IntType}
use Rattle.cl_tree.specs.declared.tree.Form.{Form}
use Rattle.cl_tree.specs.declared.tree.Form.TheVariants as forms
use Rattle.cl_tree.specs.Syntax.{Syntax, node, Forest, none, more}
use Rattle.cl_meaning.specs.Spelling.{name_in, intrinsic_in}
use Rattle.cl_meaning.specs.declared.kind.Entry.{Entry}
use Rattle.cl_meaning.specs.declared.kind.Meaning.TheVariants as meanings
use Rattle.cl_meaning.specs.Environment.{Env, Scope, found_in, into_last, empty_scope, meaning_in, meaning_of}
use Rattle.cl_meaning.specs.Declarations.{firm}
use Rattle.cl_check_sound.proofs.Grown.{is_deep, deep_outer, outer_into}
use Rattle.cl_check_sound.proofs.Facing.{found_opened, found_declared}
use Rattle.cl_short_vec.specs.declared.types.Vector.{Vector}
use Rattle.cl_short_vec.specs.declared.kinds.Reach.{Reach}
use Rattle.cl_short_vec.specs.declared.kinds.Reach.TheVariants.{Variable}
use Rattle.cl_short_vec.specs.declared.kinds.Kind.{Kind}
use Rattle.cl_short_vec.specs.declared.kinds.Kind.TheVariants.{Vectors, Other}
use Rattle.cl_short_vec.specs.Kinds.{Names, no_names, calls_fence, with_fences, within, is_vector}
use Rattle.cl_short_vec.specs.Nodes.{component_name}
use Rattle.cl_short_vec_correct.specs.Sources.{is_sourced}
use Rattle.cl_short_vec_correct.proofs.LineWords.{has_point, component_point}
use Rattle.cl_short_vec_correct.proofs.Slots.{bytes_same, bytes_are}

-- ---- names that a source declares

-- it has bytes, and no point is among them
abbrev pub IsOwn : List ℕ → Type 0
IsOwn n = (is_sourced n ≡ true) × (has_point n ≡ false)

abbrev pub DeclaredBy : Form → List ℕ → Type 0
DeclaredBy forms.DeclaratorNode w = IsOwn (name_in w)
DeclaredBy form w = Unit {0}

-- the names that declarators in a tree declare
abbrev mutual
  pub Own : Syntax → Type 0
  Own (node form w f l parts) = DeclaredBy form w × AllOwn parts

  pub AllOwn : Forest → Type 0
  AllOwn none = Unit {0}
  AllOwn (more p ps) = Own p × AllOwn ps

-- ---- components of variables

-- the name stands for a scalar of that type
abbrev pub Tells : List Scope → IntType → List ℕ → Type 0
Tells ss of name =
    (constant : Bool) × (y : ℕ) × (meaning_in (found_in ss name) ≡ Some (meanings.Scalar of constant y))

-- each component of a vector variable is a scalar of the type of components
abbrev pub Says : Names → Env → Type 0
Says names env = (name : List ℕ) (v : Vector) → names name ≡ Vectors v Variable → (c : ℕ) → c < v.count →
    (constant : Bool) × (y : ℕ) × (meaning_of env (component_name name c) ≡ Some (meanings.Scalar v.of constant y))

-- vector variables have names of a source
abbrev pub OwnNames : Names → Type 0
OwnNames names = (name : List ℕ) (v : Vector) → names name ≡ Vectors v Variable → IsOwn name

-- no name stands for a vector
abbrev pub NoVectors : Names → Type 0
NoVectors names = (name : List ℕ) → is_vector (names name) ≡ false

pub no_vectors : NoVectors no_names
no_vectors name = refl

is_no_vector : (k : Kind) (v : Vector) (r : Reach) → k ≡ Vectors v r → is_vector k ≡ false → ⊥
is_no_vector k v r e h = false≢true (sym h ∙ ap is_vector e)

pub says_nothing : (names : Names) (env : Env) → NoVectors names → Says names env
says_nothing names env n name v e c l = absurd (is_no_vector (names name) v Variable e (n name))

-- and none stands for one that did not in the argument of a fence
pub within_says : (form : Form) (w : List ℕ) (names : Names) (env : Env) → Says names env →
    Says (within form w names) env
within_says forms.CallNode w names env h = by (calls_fence (intrinsic_in (name_in w)))
  where
    fences : Says (with_fences names) env
    fences name v e c l =
        hidden (bytes_eq (codes "CLK_GLOBAL_MEM_FENCE") name) (bytes_eq (codes "CLK_LOCAL_MEM_FENCE") name) e
      where
        hidden : (x y : Bool) →
            (if x then Other true else (if y then Other true else names name)) ≡ Vectors v Variable →
            (constant : Bool) × (y : ℕ) × (meaning_of env (component_name name c) ≡
            Some (meanings.Scalar v.of constant y))
        hidden true y i = absurd (is_no_vector (Other true) v Variable i refl)
        hidden false true i = absurd (is_no_vector (Other true) v Variable i refl)
        hidden false false i = h name v i c l

    by : (b : Bool) → Says (if b then with_fences names else names) env
    by true = fences
    by false = h
within_says form w names env h = h

pub owns_nothing : (names : Names) → NoVectors names → OwnNames names
owns_nothing names n name v e = absurd (is_no_vector (names name) v Variable e (n name))

pub no_vectors_said : (env : Env) → Says no_names env
no_vectors_said env = says_nothing no_names env no_vectors

-- ---- where the scopes are the same, and in a new one

pub says_same : (names : Names) (env later : Env) → later.scopes ≡ env.scopes → Says names env → Says names later
says_same names env later s h name v e c l =
    subst (λ z. Tells z v.of (component_name name c)) (sym s) (h name v e c l)

told_opened : (ss : List Scope) (of : IntType) (q : List ℕ) → Tells ss of q → Tells (ss ++ empty_scope ∷ []) of q
told_opened ss of q (k, y, e) = (k, y, ap meaning_in (found_opened ss q) ∙ e)

pub says_opened : (names : Names) (env later : Env) → later.scopes ≡ env.scopes ++ empty_scope ∷ [] →
    Says names env → Says names later
says_opened names env later s h name v e c l =
    subst (λ z. Tells z v.of (component_name name c)) (sym s)
    (told_opened env.scopes v.of (component_name name c) (h name v e c l))

-- ---- behind one more name

pub deep_into : (ss : List Scope) (name : List ℕ) (e : Entry) → is_deep ss ≡ true →
    is_deep (into_last ss name e) ≡ true
deep_into ss name e d = deep_outer ss (into_last ss name e) d (outer_into ss name e)

pub found_other : (ss : List Scope) (name : List ℕ) (e : Entry) (q : List ℕ) → is_deep ss ≡ true →
    bytes_eq name q ≡ false → found_in (into_last ss name e) q ≡ found_in ss q
found_other ss name e q d h =
    found_declared ss name e q d ∙ ap (λ (b : Bool). if b then Some e else found_in ss q) h

pub told_new : (ss : List Scope) (name : List ℕ) (of : IntType) (k : Bool) (y : ℕ) → is_deep ss ≡ true →
    Tells (into_last ss name (firm (meanings.Scalar of k y))) of name
told_new ss name of k y d = (
  k,
  y,
  ap meaning_in (found_declared ss name (firm (meanings.Scalar of k y)) name d ∙
      ap (λ (b : Bool). if b then Some (firm (meanings.Scalar of k y)) else found_in ss name) (bytes_same name)),
)

pub told_more : (ss : List Scope) (name : List ℕ) (of : IntType) (k : Bool) (y : ℕ) (q : List ℕ) →
    is_deep ss ≡ true → Tells ss of q → Tells (into_last ss name (firm (meanings.Scalar of k y))) of q
told_more ss name of k y q d (k', y', e) = by (bytes_eq name q) refl
  where
    entry : Entry
    entry = firm (meanings.Scalar of k y)

    by : (b : Bool) → bytes_eq name q ≡ b → Tells (into_last ss name entry) of q
    by true h = (
      k,
      y,
      ap meaning_in (found_declared ss name entry q d ∙
          ap (λ (b : Bool). if b then Some entry else found_in ss q) h),
    )
    by false h = (k', y', ap meaning_in (found_other ss name entry q d h) ∙ e)

-- ---- names that are apart

apart_by : (p q : List ℕ) → (p ≡ q → ⊥) → bytes_eq p q ≡ false
apart_by p q h = by (bytes_eq p q) refl
  where
    by : (b : Bool) → bytes_eq p q ≡ b → b ≡ false
    by true e = absurd (h (bytes_are p q e))
    by false e = refl

-- a name without a point is no component
pub plain_apart : (p n : List ℕ) (c : ℕ) → has_point p ≡ false → bytes_eq p (component_name n c) ≡ false
plain_apart p n c h =
    apart_by p (component_name n c) (λ e. false≢true (sym h ∙ (ap has_point e ∙ component_point n c)))

-- a name that begins with a point is no component of a variable of the source
pub pointed_apart : (p n : List ℕ) (c : ℕ) → is_sourced n ≡ true →
    bytes_eq (codes "." ++ p) (component_name n c) ≡ false
pointed_apart p [] c h = absurd (false≢true h)
pointed_apart p (b ∷ n) c h =
    apart_by (46 ∷ p) (component_name (b ∷ n) c) (λ e. false≢true (ap is_sourced e ∙ h))

-- components of two variables
head_or : ℕ → List ℕ → ℕ
head_or k [] = k
head_or k (b ∷ bs) = b

rest_of : List ℕ → List ℕ
rest_of [] = []
rest_of (b ∷ bs) = bs

no_point_first : (b : ℕ) (n : List ℕ) → 46 ≡ b → has_point (b ∷ n) ≡ false → ⊥
no_point_first b n e h = false≢true (sym (ap (λ z. has_point (z ∷ n)) e ∙ h))

no_point_behind : (b : ℕ) (n : List ℕ) → has_point (b ∷ n) ≡ false → has_point n ≡ false
no_point_behind b n h = by (nat_eq b 46) h
  where
    by : (z : Bool) → (z || has_point n) ≡ false → has_point n ≡ false
    by true e = absurd (false≢true (sym e))
    by false e = e

same_names : (n m x y : List ℕ) → has_point n ≡ false → has_point m ≡ false → n ++ 46 ∷ x ≡ m ++ 46 ∷ y → n ≡ m
unfolding head_or rest_of
same_names [] [] x y h k e = refl
same_names [] (b ∷ m) x y h k e = absurd (no_point_first b m (ap (head_or 0) e) k)
same_names (a ∷ n) [] x y h k e = absurd (no_point_first a n (sym (ap (head_or 0) e)) h)
same_names (a ∷ n) (b ∷ m) x y h k e = ap (λ z. z ∷ n) (ap (head_or 0) e) ∙
    ap (λ z. b ∷ z) (same_names n m x y (no_point_behind a n h) (no_point_behind b m k) (ap rest_of e))

pub components_apart : (n m : List ℕ) (c d : ℕ) → has_point n ≡ false → has_point m ≡ false →
    bytes_eq n m ≡ false → bytes_eq (component_name n c) (component_name m d) ≡ false
components_apart n m c d h k a = apart_by (component_name n c) (component_name m d)
    (λ e. false≢true (sym a ∙ (ap (λ z. bytes_eq n z) (sym (same_names n m (decimal c) (decimal d) h k e)) ∙
    bytes_same n)))
