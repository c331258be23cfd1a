-- What is visible at a line of a function's block fits the program and is in scope, and stays so behind declarations.
use Rattle.std.proofs.Common.{◌≡◌, ℕ, suc, ◌<◌, ◌≤◌, List, [], ◌∷◌, ◌++◌, length, map, Option, None, Some, Bool, true}
use Rattle.std.proofs.Common.{false, if◌then◌else◌, refl, ap, sym, ◌∙◌, subst, inl, inr, arith, slice_get}
use Rattle.std.proofs.Common.{length-append}
use Rattle.std.proofs.lemmas.Bool.{false≢true}
use Rattle.std.proofs.lemmas.Option.{same_Some}
use Rattle.std.specs.Str.{bytes_eq}
use Rattle.cl_model.specs.declared.program.VarKind.{VarKind}
use Rattle.cl_model.specs.Lists.{Each}
use Rattle.cl_model.specs.Tree.{Function, Program}
use Rattle.cl_model.specs.Valid.{Scope, Has}
use Rattle.cl_meaning.specs.declared.kind.Entry.{Entry}
use Rattle.cl_meaning.specs.declared.kind.Meaning.{Meaning}
use Rattle.cl_meaning.specs.declared.kind.Meaning.TheVariants as meanings
use Rattle.cl_meaning.specs.Environment as environment
use Rattle.cl_meaning.specs.Environment.{Env, Variable, Array, found_in, or_else, into_last}
use Rattle.cl_meaning.specs.Environment.{empty_scope, meaning_in, meaning_of}
use Rattle.cl_meaning.specs.Declarations.{with_variable, firm}
use Rattle.cl_check_sound.specs.Erased.{array_of}
use Rattle.cl_check_sound.specs.Fits.{Holds, MeaningFits, Fits}
use Rattle.cl_check_sound.proofs.Grown.{Extends, is_deep}
use Rattle.cl_check_sound.proofs.Naming.{MeaningScoped, Scoped}

-- ---- what a name stands for, behind a declaration and in a new scope

pub found_opened : (ss : List environment.Scope) (q : List ℕ) → found_in (ss ++ empty_scope ∷ []) q ≡ found_in ss q
found_opened [] q = refl
found_opened (s ∷ ss) q = ap (λ z. or_else z (s q)) (found_opened ss q)

pub found_declared : (ss : List environment.Scope) (name : List ℕ) (e : Entry) (q : List ℕ) → is_deep ss ≡ true →
    found_in (into_last ss name e) q ≡ (if bytes_eq name q then Some e else found_in ss q)
found_declared ss name e q d = any ss (not_empty ss d)
  where
    Long : List environment.Scope → Type 0
    Long [] = ⊥
    Long (s ∷ ss) = Unit {0}

    not_empty : (ss : List environment.Scope) → is_deep ss ≡ true → Long ss
    not_empty (s ∷ ss) d = tt
    not_empty [] d = absurd (false≢true d)

    one : (s : environment.Scope) (b : Bool) →
        or_else None (if b then Some e else s q) ≡ (if b then Some e else or_else None (s q))
    one s true = refl
    one s false = refl

    two : (s : environment.Scope) (o : Option Entry) (b : Bool) →
        or_else (if b then Some e else o) (s q) ≡ (if b then Some e else or_else o (s q))
    two s o true = refl
    two s o false = refl

    any : (ss : List environment.Scope) → Long ss →
        found_in (into_last ss name e) q ≡ (if bytes_eq name q then Some e else found_in ss q)
    any [] l = absurd l
    any (s ∷ []) l = one s (bytes_eq name q)
    any (s ∷ (r ∷ rs)) l = ap (λ z. or_else z (s q)) (any (r ∷ rs) tt) ∙ two s (found_in (r ∷ rs) q) (bytes_eq name q)

-- ---- the variables and arrays of a function

-- those that a function has in the end
pub record Finals (f : Function) (vars : List Variable) (arrs : List Array) : Type 0 where
  pub variables : f.variables ≡ map (λ v. v.kind) vars
  pub arrays : f.arrays ≡ map array_of arrs

-- the element behind some others
pub element_behind : {A B : Type 0} (g : A → B) (xs : List A) (x : A) (ys : List A) →
    slice_get (map g ((xs ++ x ∷ []) ++ ys)) (length xs) ≡ Some (g x)
element_behind g [] x ys = refl
element_behind g (y ∷ xs) x ys = element_behind g xs x ys

pub next_variable : (f : Function) (vars : List Variable) (arrs : List Array) (env : Env) (v : Variable) →
    Finals f vars arrs → Extends (env.variables ++ v ∷ []) vars → Holds f (length env.variables) v.kind
next_variable f vars arrs env v n (zs, e) =
    ap (λ z. slice_get z (length env.variables)) (n.variables ∙ ap (map (λ (x : Variable). x.kind)) e) ∙
    element_behind (λ (x : Variable). x.kind) env.variables v zs

pub next_array : (f : Function) (vars : List Variable) (arrs : List Array) (env : Env) (a : Array) →
    Finals f vars arrs → Extends (env.arrays ++ a ∷ []) arrs →
    slice_get f.arrays (length env.arrays) ≡ Some (array_of a)
next_array f vars arrs env a n (zs, e) =
    ap (λ z. slice_get z (length env.arrays)) (n.arrays ∙ ap (map array_of) e) ∙ element_behind array_of env.arrays a zs

-- ---- what is visible

-- all that is visible fits the program and is in scope, and the scope has only variables that are declared
pub record At (P : Program) (f : Function) (ms : List (List ℕ)) (scope : Scope) (env : Env) : Type 0 where
  pub fits : Fits P f ms env
  pub seen : Scoped scope env
  pub below : Each (λ x. x < length env.variables) scope

each_below : (scope : Scope) (m n : ℕ) → m ≤ n → Each (λ x. x < m) scope → Each (λ x. x < n) scope
each_below [] m n l h = tt
each_below (x ∷ xs) m n l h = (let a = h.0 in omega arith, each_below xs m n l h.1)

-- a new variable is not in scope
pub not_yet : (scope : Scope) (n : ℕ) → Each (λ x. x < n) scope → Has scope n → ⊥
not_yet [] n h k = k
not_yet (x ∷ xs) n h (inl e) = let a = h.0 in absurd (omega arith)
not_yet (x ∷ xs) n h (inr k) = not_yet xs n h.1 k

pub extends_length : {A : Type 0} (xs ys : List A) → Extends xs ys → length xs ≤ length ys
extends_length xs ys (zs, e) = subst (λ z. length xs ≤ z) (sym (ap length e ∙ length-append xs zs)) (omega arith)

-- behind something that leaves the scopes as they were
pub at_later : (P : Program) (f : Function) (ms : List (List ℕ)) (scope : Scope) (env later : Env) →
    later.scopes ≡ env.scopes → later.functions ≡ env.functions → length env.variables ≤ length later.variables →
    At P f ms scope env → At P f ms scope later
at_later P f ms scope env later s g l a = record {
  fits = λ q m e. subst (λ z. MeaningFits P f ms z q m) (sym g)
      (a.fits q m (ap (λ z. meaning_in (found_in z q)) (sym s) ∙ e));
  seen = λ q m e. a.seen q m (ap (λ z. meaning_in (found_in z q)) (sym s) ∙ e);
  below = each_below scope (length env.variables) (length later.variables) l a.below;
}

-- in a new scope
pub at_opened : (P : Program) (f : Function) (ms : List (List ℕ)) (scope : Scope) (env later : Env) →
    later.scopes ≡ env.scopes ++ empty_scope ∷ [] → later.functions ≡ env.functions →
    later.variables ≡ env.variables → At P f ms scope env → At P f ms scope later
at_opened P f ms scope env later s g v a = record {
  fits = λ q m e. subst (λ z. MeaningFits P f ms z q m) (sym g) (a.fits q m (same q ∙ e));
  seen = λ q m e. a.seen q m (same q ∙ e);
  below = subst (λ z. Each (λ x. x < length z) scope) (sym v) a.below;
}
  where
    same : (q : List ℕ) → meaning_of env q ≡ meaning_of later q
    same q = ap meaning_in (sym (found_opened env.scopes q)) ∙ ap (λ z. meaning_in (found_in z q)) (sym s)

-- behind one more name
declared_meaning : (P : Program) (ss : List environment.Scope) (name : List ℕ) (m : Meaning) (Q : List ℕ → Meaning →
    Type 0) → is_deep ss ≡ true → ((q : List ℕ) → bytes_eq name q ≡ true → Q q m) →
    ((q : List ℕ) (n : Meaning) → meaning_in (found_in ss q) ≡ Some n → Q q n) →
    (q : List ℕ) (n : Meaning) → meaning_in (found_in (into_last ss name (firm m)) q) ≡ Some n → Q q n
declared_meaning P ss name m Q d new old q n e =
    by (bytes_eq name q) refl (ap meaning_in (sym (found_declared ss name (firm m) q d)) ∙ e)
  where
    by : (b : Bool) → bytes_eq name q ≡ b → meaning_in (if b then Some (firm m) else found_in ss q) ≡ Some n → Q q n
    by true h k = subst (Q q) (same_Some _ _ k) (new q h)
    by false h k = old q n k

scoped_more : (scope : Scope) (x : ℕ) (m : Meaning) → MeaningScoped scope m → MeaningScoped (x ∷ scope) m
scoped_more scope x (meanings.Scalar t c y) h = inr h
scoped_more scope x (meanings.Pointer s e c r fixed y) h = inr h
scoped_more scope x (meanings.Object s e c r) h = tt
scoped_more scope x (meanings.Array s e c r i) h = tt
scoped_more scope x (meanings.Function n) h = tt
scoped_more scope x meanings.Undefined h = tt
scoped_more scope x meanings.Kernel h = tt

length_more : {A : Type 0} (xs : List A) (x : A) → length (xs ++ x ∷ []) ≡ suc (length xs)
length_more [] x = refl
length_more (y ∷ xs) x = ap suc (length_more xs x)

-- a variable
pub at_variable : (P : Program) (f : Function) (ms : List (List ℕ)) (scope : Scope) (env : Env) (name : List ℕ)
    (token : ℕ) (kind : VarKind) (m : Meaning) → is_deep env.scopes ≡ true →
    ((q : List ℕ) → MeaningFits P f ms env.functions q m) → MeaningScoped (length env.variables ∷ scope) m →
    At P f ms scope env → At P f ms (length env.variables ∷ scope) (with_variable env name token kind m)
at_variable P f ms scope env name token kind m d h s a = record {
  fits = declared_meaning P env.scopes name m (λ q n. MeaningFits P f ms env.functions q n) d (λ q e. h q) a.fits;
  seen = declared_meaning P env.scopes name m (λ q n. MeaningScoped (length env.variables ∷ scope) n) d (λ q e. s)
      (λ q n e. scoped_more scope (length env.variables) n (a.seen q n e));
  below = subst (λ z. Each (λ x. x < z) (length env.variables ∷ scope)) (sym (length_more env.variables _))
      (omega arith, each_below scope (length env.variables) (suc (length env.variables)) (omega arith) a.below);
}

-- something that is no variable
pub at_named : (P : Program) (f : Function) (ms : List (List ℕ)) (scope : Scope) (env later : Env) (name : List ℕ)
    (m : Meaning) → is_deep env.scopes ≡ true → later.scopes ≡ into_last env.scopes name (firm m) →
    later.functions ≡ env.functions → later.variables ≡ env.variables →
    ((q : List ℕ) → bytes_eq name q ≡ true → MeaningFits P f ms env.functions q m) → MeaningScoped scope m →
    At P f ms scope env → At P f ms scope later
at_named P f ms scope env later name m d e g v h s a = record {
  fits = λ q n k. subst (λ z. MeaningFits P f ms z q n) (sym g)
      (declared_meaning P env.scopes name m (λ q n. MeaningFits P f ms env.functions q n) d h a.fits q n
      (ap (λ z. meaning_in (found_in z q)) (sym e) ∙ k));
  seen = λ q n k. declared_meaning P env.scopes name m (λ q n. MeaningScoped scope n) d (λ q e. s) a.seen q n
      (ap (λ z. meaning_in (found_in z q)) (sym e) ∙ k);
  below = subst (λ z. Each (λ x. x < length z) scope) (sym v) a.below;
}
