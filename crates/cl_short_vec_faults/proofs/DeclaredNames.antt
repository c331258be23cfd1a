-- What a declarator declares: one name, with the same meaning in the plain form and in the form.
use Rattle.std.proofs.Common.{◌≡◌, ℕ, suc, List, [], ◌∷◌, ◌++◌, length, Option, None, Some, Bool, true, false, nat_eq}
use Rattle.std.proofs.Common.{if◌then◌else◌, refl, ap, sym, ◌∙◌, subst}
use Rattle.cl_model.specs.declared.program.Space.{Space}
use Rattle.cl_model.specs.declared.program.Space.TheVariants as spaces
use Rattle.cl_model.specs.declared.program.Root.TheVariants as roots
use Rattle.cl_model.specs.declared.program.VarKind.{VarKind}
use Rattle.cl_meaning.specs.declared.types.Declared.{Declared}
use Rattle.cl_meaning.specs.declared.kind.Kind.{Kind}
use Rattle.cl_meaning.specs.declared.kind.Each.{Each}
use Rattle.cl_meaning.specs.declared.kind.Meaning.{Meaning}
use Rattle.cl_meaning.specs.declared.kind.Meaning.TheVariants as meanings
use Rattle.cl_meaning.specs.Environment.{Env, Array, at_unit, into_last}
use Rattle.cl_meaning.specs.Declarations.{Declarator, dims_of, or_none, each_of, kept_in, pointed_space, firm}
use Rattle.cl_meaning.specs.Declarations.{next_root, root_of, with_variable, with_array, with_scalar}
use Rattle.cl_meaning.specs.Declarations.{with_elements, with_declarator}
use Rattle.cl_short_vec_faults.specs.Plainly.{numberless}
use Rattle.cl_short_vec_faults.proofs.BesideNames.{Declares, CallsNothing}
use Rattle.cl_short_vec_faults.proofs.SameDeclarators.{SameDeclarator, unit_same}

-- ---- a variable and an array

pub variable_declares : (env : Env) (name : List ℕ) (token : ℕ) (kind : VarKind) (m : Meaning) →
    Declares env (with_variable env name token kind m) name m
variable_declares env name token kind m = record {
  scopes = refl;
  functions = refl;
  owner = refl;
  declared' = refl;
  flags = refl;
  in_body = refl;
  in_loop' = refl;
  in_switch' = refl;
  labels = refl;
}

-- an array of the function, or a table of the unit
abbrev array_by : Env → Array → List ℕ → Meaning → Bool → Env
array_by env a bytes m b = if b
    then record env {
      tables = env.tables ++ record { array = a; bytes = bytes } ∷ [];
      scopes = into_last env.scopes a.name (firm m);
    }
    else record env { arrays = env.arrays ++ a ∷ []; scopes = into_last env.scopes a.name (firm m) }

array_declares : (env : Env) (a : Array) (bytes : List ℕ) (m : Meaning) →
    Declares env (with_array env a bytes m) a.name m
array_declares env a bytes m = by (at_unit env)
  where
    by : (b : Bool) → Declares env (array_by env a bytes m b) a.name m
    by true = record {
      scopes = refl;
      functions = refl;
      owner = refl;
      declared' = refl;
      flags = refl;
      in_body = refl;
      in_loop' = refl;
      in_switch' = refl;
      labels = refl;
    }
    by false = record {
      scopes = refl;
      functions = refl;
      owner = refl;
      declared' = refl;
      flags = refl;
      in_body = refl;
      in_loop' = refl;
      in_switch' = refl;
      labels = refl;
    }

-- as many tables and arrays
pub record SameStore (p s : Env) : Type 0 where
  pub arrays : length s.arrays ≡ length p.arrays
  pub tables : length s.tables ≡ length p.tables

length_more : {A : Type 0} (xs : List A) (x : A) → length (xs ++ x ∷ []) ≡ suc (length xs)
length_more [] x = refl
length_more (y ∷ xs) x = ap suc (length_more xs x)

more_same : {A : Type 0} (xs ys : List A) (x y : A) → length ys ≡ length xs →
    length (ys ++ y ∷ []) ≡ length (xs ++ x ∷ [])
more_same xs ys x y h = length_more ys y ∙ (ap suc h ∙ sym (length_more xs x))

array_store : (p s : Env) (a b : Array) (c d : List ℕ) (m n : Meaning) → at_unit s ≡ at_unit p → SameStore p s →
    SameStore (with_array p a c m) (with_array s b d n)
array_store p s a b c d m n u h = subst (λ z. SameStore (with_array p a c m) (array_by s b d n z)) (sym u)
    (by (at_unit p))
  where
    by : (z : Bool) → SameStore (array_by p a c m z) (array_by s b d n z)
    by true = record {
      arrays = h.arrays;
      tables = more_same p.tables s.tables (record { array = a; bytes = c }) (record { array = b; bytes = d }) h.tables;
    }
    by false = record { arrays = more_same p.arrays s.arrays a b h.arrays; tables = h.tables }

-- ---- what a declarator declares

abbrev pub scalar_meant : Env → Declared → Space → Meaning
scalar_meant env d spaces.Private = meanings.Scalar d.of d.constant (length env.variables)
scalar_meant env d s = meanings.Object s d.of d.constant (next_root env s)

abbrev pub declared_meant : Env → Declared → Option Bool → (scalar : Bool) → Each → Option Kind → Meaning
declared_meant env d (Some fixed) scalar e k =
    meanings.Pointer (pointed_space d) d.of d.constant (root_of k) fixed (length env.variables)
declared_meant env d None true e k = scalar_meant env d (kept_in env d)
declared_meant env d None false e k = meanings.Array (kept_in env d) d.of d.constant (next_root env (kept_in env d)) e

abbrev pub meant_as : Env → Declared → Declarator → Option Kind → Meaning
meant_as env d x k = declared_meant env d x.star (nat_eq x.dimensions 0) (each_of (or_none (dims_of x))) k

scalar_declares : (env : Env) (d : Declared) (x : Declarator) (s : Space) →
    Declares env (with_scalar env d x s) x.name (scalar_meant env d s)
scalar_declares env d x spaces.Private = variable_declares env x.name x.token _ _
scalar_declares env d x spaces.Global = array_declares env _ _ _
scalar_declares env d x spaces.Constant = array_declares env _ _ _
scalar_declares env d x spaces.Local = array_declares env _ _ _

pub declarator_declares : (env : Env) (d : Declared) (x : Declarator) (k : Option Kind) →
    Declares env (with_declarator env (Some d) x k) x.name (meant_as env d x k)
declarator_declares env d x k = by x.star
  where
    plain : (b : Bool) → Declares env (if b then with_scalar env d (record x { star = None }) (kept_in env d) else
        with_elements env d (record x { star = None }) (kept_in env d) (or_none (dims_of x))) x.name
        (declared_meant env d None b (each_of (or_none (dims_of x))) k)
    plain true = scalar_declares env d (record x { star = None }) (kept_in env d)
    plain false = array_declares env _ _ _

    by : (star : Option Bool) → Declares env (with_declarator env (Some d) (record x { star = star }) k) x.name
        (declared_meant env d star (nat_eq x.dimensions 0) (each_of (or_none (dims_of x))) k)
    by (Some fixed) = variable_declares env x.name x.token _ _
    by None = plain (nat_eq x.dimensions 0)

-- it is a variable
pub meant_nothing : (env : Env) (d : Declared) (x : Declarator) (k : Option Kind) → CallsNothing (meant_as env d x k)
meant_nothing env d x k = by x.star (nat_eq x.dimensions 0)
  where
    scalar : (s : Space) → CallsNothing (scalar_meant env d s)
    scalar spaces.Private e q = refl
    scalar spaces.Global e q = refl
    scalar spaces.Constant e q = refl
    scalar spaces.Local e q = refl

    by : (star : Option Bool) (b : Bool) →
        CallsNothing (declared_meant env d star b (each_of (or_none (dims_of x))) k)
    by (Some fixed) b e q = refl
    by None true e q = scalar (kept_in env d) e q
    by None false e q = refl

-- ---- on both sides

root_same : (p s : Env) → SameStore p s → (o : Space) → next_root s o ≡ next_root p o
root_same p s h spaces.Constant = ap roots.Constant h.tables
root_same p s h spaces.Local = ap roots.Local h.arrays
root_same p s h spaces.Private = ap roots.Private h.arrays
root_same p s h spaces.Global = ap roots.Private h.arrays

pub kept_same : (p s : Env) (d : Declared) → at_unit s ≡ at_unit p → kept_in s d ≡ kept_in p d
kept_same p s d u = by d.space
  where
    by : (o : Option Space) → kept_in s (record d { space = o }) ≡ kept_in p (record d { space = o })
    by None = ap (λ b. if b then spaces.Constant else spaces.Private) u
    by (Some spaces.Local) = ap (λ b. if b then spaces.Constant else spaces.Local) u
    by (Some spaces.Global) = ap (λ b. if b then spaces.Constant else spaces.Private) u
    by (Some spaces.Constant) = ap (λ b. if b then spaces.Constant else spaces.Private) u
    by (Some spaces.Private) = ap (λ b. if b then spaces.Constant else spaces.Private) u

module _ (p s : Env) (d : Declared) (x y : Declarator) (k : Option Kind) (same : SameDeclarator x y)
    (depth : length s.scopes ≡ length p.scopes) (store : SameStore p s) where
  unit : at_unit s ≡ at_unit p
  unit = unit_same p s depth

  scalar_same : (o : Space) → numberless (scalar_meant s d o) ≡ numberless (scalar_meant p d o)
  scalar_same spaces.Private = refl
  scalar_same spaces.Global = ap (meanings.Object spaces.Global d.of d.constant) (root_same p s store spaces.Global)
  scalar_same spaces.Constant =
      ap (meanings.Object spaces.Constant d.of d.constant) (root_same p s store spaces.Constant)
  scalar_same spaces.Local = ap (meanings.Object spaces.Local d.of d.constant) (root_same p s store spaces.Local)

  declared_same : (star : Option Bool) (b : Bool) (e : Each) →
      numberless (declared_meant s d star b e k) ≡ numberless (declared_meant p d star b e k)
  declared_same (Some fixed) b e = refl
  declared_same None true e =
      ap (λ z. numberless (scalar_meant s d z)) (kept_same p s d unit) ∙ scalar_same (kept_in p d)
  declared_same None false e =
      ap (λ z. meanings.Array z d.of d.constant (next_root s z) e) (kept_same p s d unit) ∙
      ap (λ z. meanings.Array (kept_in p d) d.of d.constant z e) (root_same p s store (kept_in p d))

  -- but for the number of a variable they mean the same
  pub meant_same : numberless (meant_as s d y k) ≡ numberless (meant_as p d x k)
  meant_same =
      ap (λ z. numberless (declared_meant s d z (nat_eq y.dimensions 0) (each_of (or_none (dims_of y))) k)) same.star ∙
      (ap (λ z. numberless (declared_meant s d x.star (nat_eq z 0) (each_of (or_none (dims_of y))) k))
      same.dimensions ∙
      (ap (λ z. numberless (declared_meant s d x.star (nat_eq x.dimensions 0) z k)) same.each' ∙
      declared_same x.star (nat_eq x.dimensions 0) (each_of (or_none (dims_of x)))))

  store_scalar : (u v : Declarator) (o : Space) → SameStore (with_scalar p d u o) (with_scalar s d v o)
  store_scalar u v spaces.Private = record { arrays = store.arrays; tables = store.tables }
  store_scalar u v spaces.Global = array_store p s _ _ _ _ _ _ unit store
  store_scalar u v spaces.Constant = array_store p s _ _ _ _ _ _ unit store
  store_scalar u v spaces.Local = array_store p s _ _ _ _ _ _ unit store

  store_by : (star : Option Bool) (b : Bool) → SameStore
      (with_declarator p (Some d) (record x { star = star }) k) (with_declarator s (Some d) (record y { star = star })
      k)
  store_by (Some fixed) b = record { arrays = store.arrays; tables = store.tables }
  store_by None b = subst (λ n. SameStore (plain_of p x x.dimensions) (plain_of s y n)) (sym same.dimensions)
      (by (nat_eq x.dimensions 0))
    where
      plain_of : Env → Declarator → ℕ → Env
      plain_of env z n = if nat_eq n 0 then with_scalar env d (record z { star = None }) (kept_in env d) else
          with_elements env d (record z { star = None }) (kept_in env d) (or_none (dims_of z))

      by : (b : Bool) → SameStore
          (if b then with_scalar p d (record x { star = None }) (kept_in p d) else
          with_elements p d (record x { star = None }) (kept_in p d) (or_none (dims_of x)))
          (if b then with_scalar s d (record y { star = None }) (kept_in s d) else
          with_elements s d (record y { star = None }) (kept_in s d) (or_none (dims_of y)))
      by true = subst (λ z. SameStore (with_scalar p d (record x { star = None }) (kept_in p d))
          (with_scalar s d (record y { star = None }) z)) (sym (kept_same p s d unit))
          (store_scalar (record x { star = None }) (record y { star = None }) (kept_in p d))
      by false = array_store p s _ _ _ _ _ _ unit store

  -- and there are as many tables and arrays behind them
  pub store_same : SameStore (with_declarator p (Some d) x k) (with_declarator s (Some d) y k)
  store_same = subst (λ z. SameStore (with_declarator p (Some d) x k)
      (with_declarator s (Some d) (record y { star = z }) k)) (sym same.star) (store_by x.star true)
