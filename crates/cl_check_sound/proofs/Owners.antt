-- The own name of a function, which is visible behind its result.
use Rattle.std.proofs.Common.{◌≡◌, ℕ, suc, ◌+◌, zero, List, [], ◌∷◌, ◌++◌, length, take, Option, None, Some, Bool}
use Rattle.std.proofs.Common.{true, false, if◌then◌else◌, refl, ap, sym, ◌∙◌, subst, arith, slice_get}
use Rattle.std.proofs.lemmas.Option.{none-some, same_Some, slice_get_within}
use Rattle.std.proofs.lemmas.Slice.Eq.{bytes_eq-Decides}
use Rattle.std.specs.Str.{bytes_eq}
use Rattle.cl_model.specs.Tree.{Function, Program}
use Rattle.cl_model.specs.Valid.{Scope}
use Rattle.cl_meaning.specs.declared.kind.Entry.{Entry}
use Rattle.cl_meaning.specs.Environment as environment
use Rattle.cl_meaning.specs.Environment.{Env, Signature, empty_scope, with_entry, into_last}
use Rattle.cl_meaning.specs.Declarations.{firm}
use Rattle.cl_meaning.specs.Visible.{opened, with_own, own_scope, announced, named, function_meaning, definition_from}
use Rattle.cl_meaning.specs.Visible.{defined_meaning, number_in}
use Rattle.cl_check_sound.specs.Fits.{MeaningFits}
use Rattle.cl_check_sound.proofs.Grown.{SameOuter, outer_closed, is_deep}
use Rattle.cl_check_sound.proofs.Naming.{MeaningScoped}
use Rattle.cl_check_sound.proofs.Facing.{At, at_named, at_opened}

-- ---- scopes

last_entry : (ss : List environment.Scope) (name : List ℕ) (e : Entry) →
    into_last (ss ++ empty_scope ∷ []) name e ≡ ss ++ with_entry empty_scope name e ∷ []
last_entry [] name e = refl
last_entry (s ∷ []) name e = refl
last_entry (s ∷ (r ∷ rs)) name e = ap (λ z. s ∷ z) (last_entry (r ∷ rs) name e)

pub deep_twice : (ss : List environment.Scope) (a b : environment.Scope) → is_deep ((ss ++ a ∷ []) ++ b ∷ []) ≡ true
deep_twice [] a b = refl
deep_twice (s ∷ []) a b = refl
deep_twice (s ∷ (r ∷ rs)) a b = refl

length_more : {A : Type 0} (xs : List A) (x : A) → length (xs ++ x ∷ []) ≡ suc (length xs)
length_more [] x = refl
length_more (y ∷ xs) x = ap suc (length_more xs x)

take_less : {A : Type 0} (m : ℕ) (xs : List A) → take m (take (suc m) xs) ≡ take m xs
take_less zero xs = refl
take_less (suc m) [] = refl
take_less (suc m) (x ∷ xs) = ap (λ z. x ∷ z) (take_less m xs)

take_front : {A : Type 0} (xs ys : List A) → take (length xs) (xs ++ ys) ≡ xs
take_front [] ys = refl
take_front (x ∷ xs) ys = ap (λ z. x ∷ z) (take_front xs ys)

-- without the two innermost scopes nothing has changed
pub outer_twice : (ss : List environment.Scope) (a b : environment.Scope) (ts : List environment.Scope) →
    SameOuter ((ss ++ a ∷ []) ++ b ∷ []) ts → take (length ss) ts ≡ ss
outer_twice ss a b ts h =
    let one : take (suc (length ss)) ts ≡ ss ++ a ∷ [] =
    ap (λ n. take n ts) (sym (length_more ss a)) ∙ outer_closed (ss ++ a ∷ []) b ts h in
    sym (take_less (length ss) ts) ∙ (ap (take (length ss)) one ∙ take_front ss (a ∷ []))

-- ---- names

same_bytes : (xs ys : List ℕ) → bytes_eq xs ys ≡ true → xs ≡ ys
same_bytes xs ys h = (bytes_eq-Decides xs ys).0 h

-- what is found is the function with that number
pub definition_at : (name : List ℕ) (n : ℕ) (gs : List Signature) (m : ℕ) (k : Bool) →
    definition_from name n gs ≡ Some (m, k) → (i : ℕ) × (m ≡ n + i) × ((g : Signature) → slice_get gs i ≡ Some g →
    (g.kernel ≡ k) × (bytes_eq g.name name ≡ true))
definition_at name n [] m k h = absurd (none-some (m, k) h)
definition_at name n (g ∷ gs) m k h = by (bytes_eq g.name name) refl h (λ e. definition_at name (suc n) gs m k e)
  where
    by : (b : Bool) → bytes_eq g.name name ≡ b → (if b then Some (n, g.kernel) else definition_from name (suc n) gs) ≡
        Some (m, k) → (definition_from name (suc n) gs ≡ Some (m, k) → (i : ℕ) × (m ≡ suc n + i) ×
        ((x : Signature) → slice_get gs i ≡ Some x → (x.kernel ≡ k) × (bytes_eq x.name name ≡ true))) →
        (i : ℕ) × (m ≡ n + i) × ((x : Signature) → slice_get (g ∷ gs) i ≡ Some x → (x.kernel ≡ k) ×
        (bytes_eq x.name name ≡ true))
    by true t h r =
        let e = same_Some _ _ h in (
          0,
          (let q : m ≡ n = sym (ap (λ z. z.0) e) in omega arith),
          λ x y. (let s = same_Some _ _ y in (
            ap (λ (z : Signature). z.kernel) (sym s) ∙ ap (λ z. z.1) e,
            subst (λ (z : Signature). bytes_eq z.name name ≡ true) s t,
          )),
        )
    by false t h r = let q = r h in let e = q.1 in (suc q.0, omega arith, λ x y. q.2 x y)

-- the function around, under its own name, fits a program
abbrev pub OwnFits : Program → Function → List (List ℕ) → Env → Type 0
OwnFits P f ms env = (g : Signature) → slice_get env.functions env.owner.number ≡ Some g → (q : List ℕ) →
    bytes_eq g.name q ≡ true → MeaningFits P f ms env.functions q (function_meaning g.kernel env.owner.number)

-- where what its name stands for does
pub own_fits : (P : Program) (f : Function) (ms : List (List ℕ)) (env : Env) (u : Env) (name : List ℕ) →
    env.functions ≡ u.functions → (o : Option (ℕ × Bool)) → definition_from name 0 u.functions ≡ o →
    env.owner.number ≡ number_in u o →
    ((q : List ℕ) → bytes_eq name q ≡ true → MeaningFits P f ms u.functions q (defined_meaning o)) → OwnFits P f ms env
own_fits P f ms env u name fs None e n h = λ g s q k.
    (let w = slice_get_within u.functions (length u.functions) g (subst (λ z. slice_get u.functions z ≡ Some g) n
    (subst (λ z. slice_get z env.owner.number ≡ Some g) fs s)) in
    absurd (omega arith))
own_fits P f ms env u name fs (Some (m, k)) e n h = λ g s q b.
    (let d = definition_at name 0 u.functions m k e in
    let i = d.0 in
    let mi = d.1 in
    let s' = subst (λ z. slice_get u.functions z ≡ Some g) (n ∙ (let x : m ≡ i = omega arith in
    x)) (subst (λ z. slice_get z env.owner.number ≡ Some g) fs s) in
    let found = d.2 g s' in
    let x = h q (ap (λ z. bytes_eq z q) (sym (same_bytes g.name name found.1)) ∙ b) in
    subst (λ z. MeaningFits P f ms z q (function_meaning g.kernel env.owner.number)) (sym fs)
    (subst (λ z. MeaningFits P f ms u.functions q (function_meaning g.kernel z)) (sym n)
    (subst (λ z. MeaningFits P f ms u.functions q (function_meaning z m)) (sym found.0) x)))

function_scoped : (scope : Scope) (kernel : Bool) (n : ℕ) → MeaningScoped scope (function_meaning kernel n)
function_scoped scope true n = tt
function_scoped scope false n = tt

-- behind its own name
pub at_own : (P : Program) (f : Function) (ms : List (List ℕ)) (scope : Scope) (env : Env) →
    is_deep (opened env).scopes ≡ true → OwnFits P f ms env → At P f ms scope env → At P f ms scope (named env)
at_own P f ms scope env d own a =
    at_opened P f ms scope (with_own env) (named env) refl refl refl (by (slice_get env.functions env.owner.number)
    refl)
  where
    nothing : At P f ms scope (record env { scopes = env.scopes ++ empty_scope ∷ [] })
    nothing = at_opened P f ms scope env (record env { scopes = env.scopes ++ empty_scope ∷ [] }) refl refl refl a

    -- where the name stands for nothing yet, and where it does
    by_free : (g : Signature) → slice_get env.functions env.owner.number ≡ Some g → (b : Bool) →
        At P f ms scope (record env {
          scopes = env.scopes ++
              (if b then with_entry empty_scope g.name (firm (function_meaning g.kernel env.owner.number)) else
              empty_scope) ∷ [];
        })
    by_free g e true =
        let m = function_meaning g.kernel env.owner.number in
        at_named P f ms scope (opened env)
        (record env { scopes = env.scopes ++ with_entry empty_scope g.name (firm m) ∷ [] }) g.name m d
        (sym (last_entry env.scopes g.name (firm m))) refl refl (own g e)
        (function_scoped scope g.kernel env.owner.number)
        (at_opened P f ms scope env (opened env) refl refl refl a)
    by_free g e false = nothing

    by : (o : Option Signature) → slice_get env.functions env.owner.number ≡ o →
        At P f ms scope (record env { scopes = env.scopes ++ own_scope env env.owner.number o ∷ [] })
    by None e = nothing
    by (Some g) e = by_free g e (announced env g.name)
