-- What a line of a block leaves: new variables and arrays behind the old ones, and names in the innermost scope alone.
use Rattle.std.proofs.Common.{◌≡◌, ℕ, List, [], ◌∷◌, ◌++◌, length, take, append_assoc, Option, None, Some, Bool, true}
use Rattle.std.proofs.Common.{false, not, ◌&&◌, ◌||◌, refl, ap, sym, ◌∙◌, subst, if◌then◌else◌}
use Rattle.std.proofs.lemmas.Bool.{false≢true}
use Rattle.std.specs.Prelude.{nat_eq}
use Rattle.cl_model.specs.declared.program.Space.{Space}
use Rattle.cl_model.specs.declared.program.Space.TheVariants as spaces
use Rattle.cl_model.specs.declared.program.VarKind.{VarKind}
use Rattle.cl_model.specs.Lists.{Each}
use Rattle.cl_model.specs.Objects.{is_local}
use Rattle.cl_meaning.specs.declared.types.Declared.{Declared}
use Rattle.cl_meaning.specs.declared.kind.Entry.{Entry}
use Rattle.cl_meaning.specs.declared.kind.Kind.{Kind}
use Rattle.cl_meaning.specs.declared.kind.Meaning.{Meaning}
use Rattle.cl_meaning.specs.declared.kind.Meaning.TheVariants as meanings
use Rattle.cl_meaning.specs.Kinds.{is_some}
use Rattle.cl_meaning.specs.Environment.{Env, Scope, Array, at_unit, into_last, empty_scope}
use Rattle.cl_meaning.specs.Declarations.{Declarator, kept_in, array_in, with_variable, with_array, with_scalar}
use Rattle.cl_meaning.specs.Declarations.{with_elements, with_declarator, table_bytes, next_root, each_of, dims_of}
use Rattle.cl_meaning.specs.Declarations.{or_none, firm}
use Rattle.cl_meaning.specs.Visible.{before_labels}
use Rattle.cl_meaning.specs.Faults.{Looked, is_misplaced}

-- ---- lists

-- the second list begins with the first one
abbrev pub Extends : {A : Type 0} → List A → List A → Type 0
Extends {A} xs ys = (zs : List A) × (ys ≡ xs ++ zs)

append_nothing : {A : Type 0} (xs : List A) → xs ++ [] ≡ xs
append_nothing [] = refl
append_nothing (x ∷ xs) = ap (λ z. x ∷ z) (append_nothing xs)

pub extends_same : {A : Type 0} (xs : List A) → Extends xs xs
extends_same xs = ([], sym (append_nothing xs))

pub extends_then : {A : Type 0} (xs ys zs : List A) → Extends xs ys → Extends ys zs → Extends xs zs
extends_then xs ys zs (a, e) (b, h) = (a ++ b, h ∙ ap (λ z. z ++ b) e ∙ append_assoc xs a b)

pub each_append : {A : Type 0} (P : A → Type 0) (xs ys : List A) → Each P xs → Each P ys → Each P (xs ++ ys)
each_append P [] ys h k = k
each_append P (x ∷ xs) ys h k = (h.0, each_append P xs ys h.1 k)

take_length : {A : Type 0} (xs : List A) → take (length xs) xs ≡ xs
take_length [] = refl
take_length (x ∷ xs) = ap (λ z. x ∷ z) (take_length xs)

-- ---- scopes

-- the same scopes but for the innermost one
abbrev pub SameOuter : List Scope → List Scope → Type 0
SameOuter [] [] = Unit {0}
SameOuter (s ∷ []) (t ∷ []) = Unit {0}
SameOuter (s ∷ (r ∷ rs)) (t ∷ (u ∷ us)) = (t ≡ s) × SameOuter (r ∷ rs) (u ∷ us)
SameOuter ss ts = ⊥

pub outer_same : (ss : List Scope) → SameOuter ss ss
outer_same [] = tt
outer_same (s ∷ []) = tt
outer_same (s ∷ (r ∷ rs)) = (refl, outer_same (r ∷ rs))

pub outer_then : (ss ts us : List Scope) → SameOuter ss ts → SameOuter ts us → SameOuter ss us
outer_then [] [] [] h k = tt
outer_then (s ∷ []) (t ∷ []) (u ∷ []) h k = tt
outer_then (s ∷ (r ∷ rs)) (t ∷ (t' ∷ ts)) (u ∷ (u' ∷ us)) h k =
    (k.0 ∙ h.0, outer_then (r ∷ rs) (t' ∷ ts) (u' ∷ us) h.1 k.1)
outer_then (s ∷ (r ∷ rs)) (t ∷ (t' ∷ ts)) (u ∷ []) h k = absurd k
outer_then (s ∷ (r ∷ rs)) (t ∷ (t' ∷ ts)) [] h k = absurd k
outer_then (s ∷ []) (t ∷ []) (u ∷ (u' ∷ us)) h k = absurd k
outer_then (s ∷ []) (t ∷ []) [] h k = absurd k
outer_then [] [] (u ∷ us) h k = absurd k
outer_then [] (t ∷ ts) us h k = absurd h
outer_then (s ∷ []) [] us h k = absurd h
outer_then (s ∷ []) (t ∷ (t' ∷ ts)) us h k = absurd h
outer_then (s ∷ (r ∷ rs)) [] us h k = absurd h
outer_then (s ∷ (r ∷ rs)) (t ∷ []) us h k = absurd h

pub outer_into : (ss : List Scope) (name : List ℕ) (e : Entry) → SameOuter ss (into_last ss name e)
outer_into [] name e = tt
outer_into (s ∷ []) name e = tt
outer_into (s ∷ (r ∷ [])) name e = (refl, tt)
outer_into (s ∷ (r ∷ (q ∷ qs))) name e = (refl, outer_into (r ∷ (q ∷ qs)) name e)

-- without the innermost scope nothing has changed
pub outer_closed : (ss : List Scope) (e : Scope) (ts : List Scope) → SameOuter (ss ++ e ∷ []) ts →
    take (length ss) ts ≡ ss
outer_closed [] e [] h = absurd h
outer_closed [] e (t ∷ ts) h = refl
outer_closed (s ∷ []) e (t ∷ (u ∷ us)) h = ap (λ z. z ∷ []) h.0
outer_closed (s ∷ []) e (t ∷ []) h = absurd h
outer_closed (s ∷ []) e [] h = absurd h
outer_closed (s ∷ (r ∷ rs)) e (t ∷ (u ∷ us)) h =
    ap (λ z. z ∷ take (length (r ∷ rs)) (u ∷ us)) h.0 ∙ ap (λ z. s ∷ z) (outer_closed (r ∷ rs) e (u ∷ us) h.1)
outer_closed (s ∷ (r ∷ rs)) e (t ∷ []) h = absurd h
outer_closed (s ∷ (r ∷ rs)) e [] h = absurd h

-- as many scopes
pub outer_whole : (ss ts : List Scope) → SameOuter ss ts → take (length ss) ts ≡ ts
outer_whole [] [] h = refl
outer_whole (s ∷ []) (t ∷ []) h = refl
outer_whole (s ∷ (r ∷ rs)) (t ∷ (u ∷ us)) h = ap (λ z. t ∷ z) (outer_whole (r ∷ rs) (u ∷ us) h.1)
outer_whole [] (t ∷ ts) h = absurd h
outer_whole (s ∷ []) [] h = absurd h
outer_whole (s ∷ []) (t ∷ (u ∷ us)) h = absurd h
outer_whole (s ∷ (r ∷ rs)) [] h = absurd h
outer_whole (s ∷ (r ∷ rs)) (t ∷ []) h = absurd h

-- at least two scopes: in a function
abbrev pub is_deep : List Scope → Bool
is_deep (s ∷ (r ∷ rs)) = true
is_deep ss = false

pub deep_outer : (ss ts : List Scope) → is_deep ss ≡ true → SameOuter ss ts → is_deep ts ≡ true
deep_outer (s ∷ (r ∷ rs)) (t ∷ (u ∷ us)) d h = refl
deep_outer (s ∷ (r ∷ rs)) (t ∷ []) d h = absurd h
deep_outer (s ∷ (r ∷ rs)) [] d h = absurd h
deep_outer [] ts d h = absurd (false≢true d)
deep_outer (s ∷ []) ts d h = absurd (false≢true d)

pub deep_opened : (ss : List Scope) (e : Scope) → is_deep ss ≡ true → is_deep (ss ++ e ∷ []) ≡ true
deep_opened (s ∷ (r ∷ rs)) e d = refl
deep_opened [] e d = absurd (false≢true d)
deep_opened (s ∷ []) e d = absurd (false≢true d)

pub deep_inside : (env : Env) → is_deep env.scopes ≡ true → at_unit env ≡ false
deep_inside env d = by env.scopes d
  where
    by : (ss : List Scope) → is_deep ss ≡ true → at_unit (record env { scopes = ss }) ≡ false
    by (s ∷ (r ∷ rs)) d = refl
    by [] d = absurd (false≢true d)
    by (s ∷ []) d = absurd (false≢true d)

-- ---- what a line leaves

-- the first with the scopes, variables, arrays and labels of the second
abbrev pub reframed : Env → Env → Env
reframed env later =
    record env { scopes = later.scopes; variables = later.variables; arrays = later.arrays; labels = later.labels }

-- a function that is no kernel has no local array
abbrev pub NoLocal : Env → Type 0
NoLocal env = env.owner.kernel ≡ false → Each (λ (a : Array). is_local a.space ≡ false) env.arrays

pub record Grown (env later : Env) : Type 0 where
  pub frame : later ≡ reframed env later
  pub scopes : SameOuter env.scopes later.scopes
  pub variables : Extends env.variables later.variables
  pub arrays : Extends env.arrays later.arrays
  pub locals : NoLocal env → NoLocal later

-- a statement leaves the scopes as they were
pub record Kept (env later : Env) : Type 0 where
  pub grown : Grown env later
  pub same : later.scopes ≡ env.scopes

pub grown_same : (env : Env) → Grown env env
grown_same env = record {
  frame = refl;
  scopes = outer_same env.scopes;
  variables = extends_same env.variables;
  arrays = extends_same env.arrays;
  locals = λ h. h;
}

pub kept_same : (env : Env) → Kept env env
kept_same env = record { grown = grown_same env; same = refl }

pub grown_then : (a b c : Env) → Grown a b → Grown b c → Grown a c
grown_then a b c g h = record {
  frame = h.frame ∙ ap (λ z. reframed z c) g.frame;
  scopes = outer_then a.scopes b.scopes c.scopes g.scopes h.scopes;
  variables = extends_then a.variables b.variables c.variables g.variables h.variables;
  arrays = extends_then a.arrays b.arrays c.arrays g.arrays h.arrays;
  locals = λ n. h.locals (g.locals n);
}

pub kept_then : (a b c : Env) → Kept a b → Kept b c → Kept a c
kept_then a b c g h = record { grown = grown_then a b c g.grown h.grown; same = h.same ∙ g.same }

-- in a function, in no block that it is about to begin
pub record Within (env : Env) : Type 0 where
  pub deep : is_deep env.scopes ≡ true
  pub in_block : env.in_body ≡ false

pub within_later : (env later : Env) → Within env → Grown env later → Within later
within_later env later w g = record {
  deep = deep_outer env.scopes later.scopes w.deep g.scopes;
  in_block = ap (λ z. z.in_body) g.frame ∙ w.in_block;
}

-- ---- on the way out

-- the parts of a statement are looked at with what is visible before it, but for some marks
pub record Like (env i : Env) : Type 0 where
  pub frame : (later : Env) → before_labels env (reframed i later) ≡ reframed env (before_labels env later)
  pub owner : i.owner ≡ env.owner
  pub variables : i.variables ≡ env.variables
  pub arrays : i.arrays ≡ env.arrays

locals_out : (env i later : Env) → Like env i → (NoLocal i → NoLocal later) → later ≡ reframed i later → NoLocal env →
    NoLocal (before_labels env later)
locals_out env i later l g f n = λ k.
    let at : i.owner.kernel ≡ false = ap (λ o. o.kernel) l.owner ∙ k in
    let x : NoLocal i = λ z. subst (λ as'. Each (λ (a : Array). is_local a.space ≡ false) as') (sym l.arrays) (n k) in
    g x (ap (λ z. z.owner.kernel) f ∙ at)

pub closing : (env i later : Env) → Like env i → Grown i later → take (length env.scopes) later.scopes ≡ env.scopes →
    Kept env (before_labels env later)
closing env i later l g t = record {
  grown = record {
    frame = ap (λ z. before_labels env z) g.frame ∙ l.frame later;
    scopes = subst (λ z. SameOuter env.scopes z) (sym t) (outer_same env.scopes);
    variables = subst (λ z. Extends z later.variables) l.variables g.variables;
    arrays = subst (λ z. Extends z later.arrays) l.arrays g.arrays;
    locals = locals_out env i later l g.locals g.frame;
  };
  same = t;
}

-- where the parts had the same scopes, and where they had one more
pub closing_plain : (env i later : Env) → Like env i → i.scopes ≡ env.scopes → Kept i later →
    Kept env (before_labels env later)
closing_plain env i later l e k =
    closing env i later l k.grown (ap (take (length env.scopes)) (k.same ∙ e) ∙ take_length env.scopes)

pub closing_opened : (env i later : Env) → Like env i → i.scopes ≡ env.scopes ++ empty_scope ∷ [] → Grown i later →
    Kept env (before_labels env later)
closing_opened env i later l e g =
    closing env i later l g (outer_closed env.scopes empty_scope later.scopes
    (subst (λ z. SameOuter z later.scopes) e g.scopes))

-- ---- declarators

variable_grows : (env : Env) (name : List ℕ) (token : ℕ) (kind : VarKind) (m : Meaning) →
    Grown env (with_variable env name token kind m)
variable_grows env name token kind m = record {
  frame = refl;
  scopes = outer_into env.scopes name (firm m);
  variables = (_, refl);
  arrays = extends_same env.arrays;
  locals = λ h. h;
}

array_grows : (env : Env) (a : Array) (bytes : List ℕ) (m : Meaning) → at_unit env ≡ false →
    (env.owner.kernel ≡ false → is_local a.space ≡ false) → Grown env (with_array env a bytes m)
array_grows env a bytes m u n = by (at_unit env) u
  where
    by : (b : Bool) → b ≡ false → Grown env (if b
        then record env {
          tables = env.tables ++ record { array = a; bytes = bytes } ∷ [];
          scopes = into_last env.scopes a.name (firm m);
        }
        else record env { arrays = env.arrays ++ a ∷ []; scopes = into_last env.scopes a.name (firm m) })
    by true u = absurd (false≢true (sym u))
    by false u = record {
      frame = refl;
      scopes = outer_into env.scopes a.name (firm m);
      variables = extends_same env.variables;
      arrays = (_, refl);
      locals = λ h k. each_append (λ (x : Array). is_local x.space ≡ false) env.arrays (a ∷ []) (h k) (n k, tt);
    }

pub scalar_grows : (env : Env) (d : Declared) (x : Declarator) (s : Space) → at_unit env ≡ false →
    (env.owner.kernel ≡ false → is_local s ≡ false) → Grown env (with_scalar env d x s)
scalar_grows env d x spaces.Private u n = variable_grows env x.name x.token _ _
scalar_grows env d x spaces.Global u n =
    array_grows env (array_in env spaces.Global d x (1 ∷ [])) (table_bytes d (1 ∷ []) x)
    (meanings.Object spaces.Global d.of d.constant (next_root env spaces.Global)) u n
scalar_grows env d x spaces.Constant u n =
    array_grows env (array_in env spaces.Constant d x (1 ∷ [])) (table_bytes d (1 ∷ []) x)
    (meanings.Object spaces.Constant d.of d.constant (next_root env spaces.Constant)) u n
scalar_grows env d x spaces.Local u n =
    array_grows env (array_in env spaces.Local d x (1 ∷ [])) (table_bytes d (1 ∷ []) x)
    (meanings.Object spaces.Local d.of d.constant (next_root env spaces.Local)) u n

-- a space that is not misplaced is local in a kernel alone
kept_local : (env : Env) (d : Declared) (n : Looked) (x : Declarator) (s : Option Space) → at_unit env ≡ false →
    n.env ≡ env → is_misplaced n x s ≡ false → env.owner.kernel ≡ false →
    is_local (kept_in env (record d { space = s })) ≡ false
kept_local env d n x s u e h k = by (at_unit env) s u h
  where
    in_kernel : (b c : Bool) (o : Bool) → b ≡ false → (not (b && c) || o) ≡ false → ⊥
    in_kernel true c o b h = false≢true (sym b)
    in_kernel false c o b h = false≢true (sym h)

    by : (b : Bool) (s : Option Space) → b ≡ false → is_misplaced n x s ≡ false →
        is_local (kept_in env (record d { space = s })) ≡ false
    by b (Some spaces.Local) u' h = absurd (in_kernel n.env.owner.kernel _ _ (ap (λ z. z.owner.kernel) e ∙ k) h)
    by b None u' h = at (at_unit env) u
      where
        at : (c : Bool) → c ≡ false → is_local (if c then spaces.Constant else spaces.Private) ≡ false
        at true u = refl
        at false u = refl
    by b (Some spaces.Global) u' h = at (at_unit env) u
      where
        at : (c : Bool) → c ≡ false → is_local (if c then spaces.Constant else spaces.Private) ≡ false
        at true u = refl
        at false u = refl
    by b (Some spaces.Constant) u' h = at (at_unit env) u
      where
        at : (c : Bool) → c ≡ false → is_local (if c then spaces.Constant else spaces.Private) ≡ false
        at true u = refl
        at false u = refl
    by b (Some spaces.Private) u' h = at (at_unit env) u
      where
        at : (c : Bool) → c ≡ false → is_local (if c then spaces.Constant else spaces.Private) ≡ false
        at true u = refl
        at false u = refl

-- where a declarator with a type is not misplaced
abbrev pub Placed : Looked → Declarator → Option Declared → Type 0
Placed n x None = Unit {0}
Placed n x (Some d) = (not (is_some x.star) && is_misplaced n x d.space) ≡ false

pub declarator_grows : (env : Env) (n : Looked) (o : Option Declared) (x : Declarator) (k : Option Kind) →
    at_unit env ≡ false → n.env ≡ env → Placed n x o → Grown env (with_declarator env o x k)
declarator_grows env n None x k u e p = grown_same env
declarator_grows env n (Some d) x k u e p = by x.star p
  where
    by : (star : Option Bool) → (not (is_some star) && is_misplaced n x d.space) ≡ false →
        Grown env (with_declarator env (Some d) (record x { star = star }) k)
    by (Some fixed) p = variable_grows env x.name x.token _ _
    by None p = plain (nat_eq x.dimensions 0)
      where
        plain : (b : Bool) → Grown env (if b then with_scalar env d (record x { star = None }) (kept_in env d) else
            with_elements env d (record x { star = None }) (kept_in env d) (or_none (dims_of x)))
        plain true =
            scalar_grows env d (record x { star = None }) (kept_in env d) u (λ k. kept_local env d n x d.space u e p k)
        plain false =
            array_grows env (array_in env (kept_in env d) d x (or_none (dims_of x)))
            (table_bytes d (or_none (dims_of x)) (record x { star = None }))
            (meanings.Array (kept_in env d) d.of d.constant (next_root env (kept_in env d))
            (each_of (or_none (dims_of x)))) u
            (λ k. kept_local env d n x d.space u e p k)
