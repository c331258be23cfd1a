-- What declarators and parameters declare.
use Rattle.std.proofs.Common.{ℕ, suc, zero, [], ◌∷◌, length, map, get_or, List, Bool, true, false, Option, None, ◌≡◌}
use Rattle.std.proofs.Common.{refl, sym, ap, ◌∙◌, arith}
use Rattle.wg_num.specs.declared.types.Place.{Place}
use Rattle.cl_model.specs.declared.program.Space.{Space}
use Rattle.cl_model.specs.declared.program.Space.TheVariants as spaces
use Rattle.cl_model.specs.declared.program.Root.{Root}
use Rattle.cl_model.specs.declared.program.Root.TheVariants as roots
use Rattle.cl_model.specs.declared.program.VarKind.TheVariants as var_kinds
use Rattle.cl_meaning.specs.declared.types.Declared.{Declared}
use Rattle.cl_meaning.specs.declared.kind.Each.{Each}
use Rattle.cl_meaning.specs.declared.kind.Kind.{Kind}
use Rattle.cl_meaning.specs.declared.kind.Meaning.{Meaning}
use Rattle.cl_meaning.specs.declared.kind.Meaning.TheVariants as meanings
use Rattle.cl_meaning.specs.Environment.{Env, Array, declare, at_unit}
use Rattle.cl_meaning.specs.Declarations.{Declarator, firm, last_kind, pointed_space, with_array, array_in}
use Rattle.cl_meaning.specs.Declarations.{table_bytes, next_root, each_of, with_elements, with_scalar, with_parameter}
use Rattle.cl_scope.specs.declared.environment.Environment as rust
use Rattle.cl_scope.specs.View.{env_of, visible_in}
use Rattle.cl_scope.specs.Declarators.{with_variable_at, pointer_parameter_at, with_object, with_table_kept}
use Rattle.cl_scope.specs.Declarators.{with_array_kept, kept_array}

pub last_kind_at : (ks : List (Option Kind)) (n : ℕ) → suc n ≡ length ks → get_or ks n None ≡ last_kind ks
last_kind_at [] n h = absurd (omega arith)
last_kind_at (k ∷ []) zero h = refl
last_kind_at (k ∷ []) (suc n) h = absurd (omega arith)
last_kind_at (k ∷ j ∷ js) zero h = absurd (omega arith)
last_kind_at (k ∷ j ∷ js) (suc n) h = last_kind_at (j ∷ js) n (omega arith)

pub length_mapped : {A B : Type 0} (f : A → B) (ys : List A) → length (map f ys) ≡ length ys
length_mapped f [] = refl
length_mapped f (y ∷ ys) = ap suc (length_mapped f ys)

pub counted : {A B : Type 0} (f : A → B) (n : ℕ) (xs : List A) → n ≡ length xs → n ≡ length (map f xs)
counted f n xs h = h ∙ sym (length_mapped f xs)

-- ---- arrays

pub kept_at_unit : (env : Env) (a : Array) (bytes : List ℕ) → at_unit env ≡ true →
    with_table_kept env (record { array = a; bytes = bytes }) ≡ kept_array env a bytes
kept_at_unit env a bytes h = rw h refl

pub kept_in_function : (env : Env) (a : Array) (bytes : List ℕ) → at_unit env ≡ false →
    with_array_kept env a ≡ kept_array env a bytes
kept_in_function env a bytes h = rw h refl

pub with_array_is : (env : Env) (a : Array) (bytes : List ℕ) (m : Meaning) (b : Bool) → at_unit env ≡ b →
    declare (kept_array env a bytes) a.name (firm m) ≡ with_array env a bytes m
with_array_is env a bytes m true h = rw h refl
with_array_is env a bytes m false h = rw h refl

pub next_root_same : (places : List Place) (e : rust.Environment) (s : Space) →
    next_root (visible_in e) s ≡ next_root (env_of places e) s
next_root_same places e spaces.Constant = refl
next_root_same places e spaces.Local = refl
next_root_same places e s = refl

pub elements_are : (env : Env) (d : Declared) (x : Declarator) (s s' : Space) (dims dims' : List ℕ) (a : Array)
    (r : Root) (e : Each)
    → a ≡ array_in env s d x dims → r ≡ next_root env s → e ≡ each_of dims → s ≡ s' → dims ≡ dims'
    → with_array env a (table_bytes d a.dims x) (meanings.Array s d.of d.constant r e) ≡ with_elements env d x s' dims'
elements_are env d x s s' dims dims' a r e p q t u v =
    (λ i. with_array env (p i) (table_bytes d (p i).dims x) (meanings.Array s d.of d.constant (q i) (t i)))
    ∙ (λ i. with_elements env d x (u i) (v i))

pub object_is : (env : Env) (d : Declared) (x : Declarator) (s : Space) (dims : List ℕ) (a : Array) (r : Root)
    → a ≡ array_in env s d x dims → r ≡ next_root env s → dims ≡ 1 ∷ []
    → with_array env a (table_bytes d a.dims x) (meanings.Object s d.of d.constant r) ≡ with_object env d x s
object_is env d x s dims a r p q v =
    (λ i. with_array env (p i) (table_bytes d (p i).dims x) (meanings.Object s d.of d.constant (q i)))
    ∙ (λ i. with_array env (array_in env s d x (v i)) (table_bytes d (v i) x)
    (meanings.Object s d.of d.constant (next_root env s)))

pub scalar_elsewhere : (env : Env) (d : Declared) (x : Declarator) (s : Space) → (s ≡ spaces.Private → ⊥) →
    with_object env d x s ≡ with_scalar env d x s
scalar_elsewhere env d x spaces.Private h = absurd (h refl)
scalar_elsewhere env d x s h = refl

-- ---- variables

pub pointer_is : (env : Env) (d : Declared) (name : List ℕ) (s : Space) (p q : Place) (r : Root) (fixed : Bool)
    (n : ℕ) → s ≡ pointed_space d → p ≡ q → n ≡ length env.variables
    → with_variable_at env name p (var_kinds.Pointer s d.of r) (meanings.Pointer s d.of d.constant r fixed n)
    ≡ with_variable_at env name q (var_kinds.Pointer (pointed_space d) d.of r)
    (meanings.Pointer (pointed_space d) d.of d.constant r fixed (length env.variables))
pointer_is env d name s p q r fixed n es ep en =
    λ i. with_variable_at env name (ep i) (var_kinds.Pointer (es i) d.of r)
    (meanings.Pointer (es i) d.of d.constant r fixed (en i))

pub pointer_parameter_is : (env : Env) (d : Declared) (name : List ℕ) (s : Space) (p : Place) (fixed : Bool) (n : ℕ) →
    s ≡ pointed_space d → n ≡ length env.variables
    → with_variable_at env name p (var_kinds.Pointer s d.of (roots.Param n))
    (meanings.Pointer s d.of d.constant (roots.Param n) fixed n) ≡ pointer_parameter_at env d name p fixed
pointer_parameter_is env d name s p fixed n es en =
    λ i. with_variable_at env name p (var_kinds.Pointer (es i) d.of (roots.Param (en i)))
    (meanings.Pointer (es i) d.of d.constant (roots.Param (en i)) fixed (en i))

pub parameter_is : (env : Env) (name : List ℕ) (token : ℕ) (o o' : Option Declared) (q q' : Option Bool) → o ≡ o' →
    q ≡ q' → with_parameter env name token o q ≡ with_parameter env name token o' q'
parameter_is env name token o o' q q' e f = λ i. with_parameter env name token (e i) (f i)
