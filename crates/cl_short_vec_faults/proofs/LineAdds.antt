-- What is visible behind a line that declares one variable: one name more in the innermost scope, and nothing else.
use Rattle.std.proofs.Common.{◌≡◌, ℕ, suc, ◌≤◌, Bool, true, false, List, [], ◌∷◌, ◌++◌, length, Option, Some}
use Rattle.std.proofs.Common.{None, if◌then◌else◌, refl, sym, ap, ◌∙◌, arith}
use Rattle.std.proofs.lemmas.Bool.{false≢true, or_right}
use Rattle.std.specs.Prelude.{◌||◌, take}
use Rattle.std.specs.Str.{bytes_eq}
use lib.Pointwise.{bytes_decides}
use Rattle.cl_model.specs.declared.program.Space.{Space}
use Rattle.cl_model.specs.declared.program.Space.TheVariants as spaces
use Rattle.cl_model.specs.declared.program.VarKind.{VarKind}
use Rattle.cl_meaning.specs.declared.types.Declared.{Declared}
use Rattle.cl_meaning.specs.declared.kind.Entry.{Entry}
use Rattle.cl_meaning.specs.declared.kind.Meaning.{Meaning}
use Rattle.cl_meaning.specs.Environment.{Env, Scope, with_entry, into_last, found_in, in_last, or_else, meaning_in}
use Rattle.cl_meaning.specs.Environment.{meaning_of}
use Rattle.cl_meaning.specs.Environment.{is_firm, is_declared, at_unit}
use Rattle.cl_meaning.specs.Declarations.{firm, with_variable, kept_in}

pub record Adds (env to : Env) (name : List ℕ) (m : Meaning) : Type 0 where
  pub meanings : (q : List ℕ) → meaning_of to q ≡ (if bytes_eq name q then Some m else meaning_of env q)
  pub declared : (q : List ℕ) → is_declared to q ≡ (bytes_eq name q || is_declared env q)
  pub variables : length to.variables ≡ suc (length env.variables)
  pub scopes : length to.scopes ≡ length env.scopes
  pub places : to.places ≡ env.places
  pub functions : to.functions ≡ env.functions
  pub tables : to.tables ≡ env.tables
  pub arrays : to.arrays ≡ env.arrays
  pub owner : to.owner ≡ env.owner
  pub before : to.declared ≡ env.declared
  pub flags : to.flags ≡ env.flags
  pub body : to.in_body ≡ env.in_body
  pub loops : to.in_loop ≡ env.in_loop
  pub switches : to.in_switch ≡ env.in_switch
  pub labels : to.labels ≡ env.labels
  pub outer : (xs : List Scope) (s : Scope) → env.scopes ≡ xs ++ s ∷ [] → (r : Scope) × (to.scopes ≡ xs ++ r ∷ [])

-- ---- scopes

-- as many are left as there were
pub take_same : {A : Type 0} (a b : List A) → length b ≡ length a → take (length a) b ≡ b
take_same [] [] h = refl
take_same [] (y ∷ b) h = absurd (omega arith)
take_same (x ∷ a) [] h = absurd (omega arith)
take_same (x ∷ a) (y ∷ b) h = let less : length b ≡ length a = omega arith in ap (λ z. y ∷ z) (take_same a b less)

pub into_length : (ss : List Scope) (name : List ℕ) (e : Entry) → length (into_last ss name e) ≡ length ss
into_length [] name e = refl
into_length (s ∷ []) name e = refl
into_length (s ∷ (r ∷ rs)) name e = ap suc (into_length (r ∷ rs) name e)

-- the scopes around the innermost one stay
into_append : (xs : List Scope) (s : Scope) (name : List ℕ) (e : Entry) →
    into_last (xs ++ s ∷ []) name e ≡ xs ++ with_entry s name e ∷ []
into_append [] s name e = refl
into_append (x ∷ []) s name e = refl
into_append (x ∷ (y ∷ ys)) s name e = ap (λ z. x ∷ z) (into_append (y ∷ ys) s name e)

or_else_by : (b : Bool) (e : Entry) (x y : Option Entry) →
    or_else (if b then Some e else x) y ≡ (if b then Some e else or_else x y)
or_else_by true e x y = refl
or_else_by false e x y = refl

found_into : (s : Scope) (ss : List Scope) (name q : List ℕ) (e : Entry) →
    found_in (into_last (s ∷ ss) name e) q ≡ (if bytes_eq name q then Some e else found_in (s ∷ ss) q)
found_into s [] name q e = refl
found_into s (r ∷ rs) name q e =
    ap (λ z. or_else z (s q)) (found_into r rs name q e) ∙
    or_else_by (bytes_eq name q) e (found_in (r ∷ rs) q) (s q)

last_into : (s : Scope) (ss : List Scope) (name q : List ℕ) (e : Entry) →
    in_last (into_last (s ∷ ss) name e) q ≡ (if bytes_eq name q then Some e else in_last (s ∷ ss) q)
last_into s [] name q e = refl
last_into s (r ∷ []) name q e = refl
last_into s (r ∷ (t ∷ ts)) name q e = last_into r (t ∷ ts) name q e

meaning_by : (b : Bool) (m : Meaning) (x : Option Entry) →
    meaning_in (if b then Some (firm m) else x) ≡ (if b then Some m else meaning_in x)
meaning_by true m x = refl
meaning_by false m x = refl

firm_by : (b : Bool) (m : Meaning) (x : Option Entry) →
    is_firm (if b then Some (firm m) else x) ≡ (b || is_firm x)
firm_by true m x = refl
firm_by false m x = refl

one_more : {A : Type 0} (xs : List A) (x : A) → length (xs ++ x ∷ []) ≡ suc (length xs)
one_more [] x = refl
one_more (y ∷ xs) x = ap suc (one_more xs x)

-- ---- one variable more

pub variable_adds : (env : Env) (name : List ℕ) (token : ℕ) (kind : VarKind) (m : Meaning) → 1 ≤ length env.scopes →
    Adds env (with_variable env name token kind m) name m
variable_adds env name token kind m h = record {
  meanings = λ q. by env.scopes h q;
  declared = λ q. firmly env.scopes h q;
  variables = one_more env.variables (record { name = name; kind = kind; place = _ });
  scopes = into_length env.scopes name (firm m);
  places = refl;
  functions = refl;
  tables = refl;
  arrays = refl;
  owner = refl;
  before = refl;
  flags = refl;
  body = refl;
  loops = refl;
  switches = refl;
  labels = refl;
  outer = λ xs s e. (
    with_entry s name (firm m),
    ap (λ z. into_last z name (firm m)) e ∙ into_append xs s name (firm m),
  );
}
  where
    by : (ss : List Scope) → 1 ≤ length ss → (q : List ℕ) →
        meaning_in (found_in (into_last ss name (firm m)) q) ≡
        (if bytes_eq name q then Some m else meaning_in (found_in ss q))
    by [] k q = absurd (omega arith)
    by (s ∷ ss) k q =
        ap meaning_in (found_into s ss name q (firm m)) ∙ meaning_by (bytes_eq name q) m (found_in (s ∷ ss) q)

    firmly : (ss : List Scope) → 1 ≤ length ss → (q : List ℕ) →
        is_firm (in_last (into_last ss name (firm m)) q) ≡ (bytes_eq name q || is_firm (in_last ss q))
    firmly [] k q = absurd (omega arith)
    firmly (s ∷ ss) k q =
        ap is_firm (last_into s ss name q (firm m)) ∙ firm_by (bytes_eq name q) m (in_last (s ∷ ss) q)

-- ---- what names stand for behind it

module _ (env to : Env) (name : List ℕ) (m : Meaning) (h : Adds env to name m) where
  pub adds_itself : meaning_of to name ≡ Some m
  adds_itself =
      h.meanings name ∙ ap (λ b. if b then Some m else meaning_of env name) ((bytes_decides name name).1 refl)

  pub adds_other : (q : List ℕ) → bytes_eq name q ≡ false → meaning_of to q ≡ meaning_of env q
  adds_other q e = h.meanings q ∙ ap (λ b. if b then Some m else meaning_of env q) e

  pub keeps_declared : (q : List ℕ) → is_declared env q ≡ true → is_declared to q ≡ true
  keeps_declared q e = h.declared q ∙ or_right (bytes_eq name q) (is_declared env q) e

  -- where its name was not declared, what was declared stands for what it stood for
  pub adds_behind : (q : List ℕ) → is_declared env name ≡ false → is_declared env q ≡ true →
      meaning_of to q ≡ meaning_of env q
  adds_behind q n e = by (bytes_eq name q) refl
    where
      by : (b : Bool) → bytes_eq name q ≡ b → meaning_of to q ≡ meaning_of env q
      by true k = absurd (false≢true (sym n ∙ (ap (is_declared env) ((bytes_decides name q).0 k) ∙ e)))
      by false k = adds_other q k

-- ---- in a function

-- a scope stands inside that of the unit
pub inner_scope : (env : Env) → 2 ≤ length env.scopes → at_unit env ≡ false
inner_scope env h = by env.scopes h
  where
    by : (ss : List Scope) → 2 ≤ length ss → at_unit (record env { scopes = ss }) ≡ false
    by [] k = refl
    by (s ∷ []) k = absurd (omega arith)
    by (s ∷ (r ∷ rs)) k = refl

-- a space word that leaves a variable to the item itself
abbrev pub IsOwn : Option Space → Type 0
IsOwn None = Unit {0}
IsOwn (Some spaces.Private) = Unit {0}
IsOwn s = ⊥

pub kept_own : (env : Env) (d : Declared) → at_unit env ≡ false → IsOwn d.space → kept_in env d ≡ spaces.Private
kept_own env d u o = by d.space o
  where
    by : (s : Option Space) → IsOwn s → kept_in env (record d { space = s }) ≡ spaces.Private
    by None k = rw u (refl)
    by (Some spaces.Private) k = rw u (refl)
    by (Some s) k = absurd k
