-- The variables that an expression names are visible where it stands.
use Rattle.std.proofs.Common.{◌≡◌, ℕ, zero, suc, ◌+◌, ◌≤◌, nat_eq, List, [], ◌∷◌, length, Some, Bool, true, false}
use Rattle.std.proofs.Common.{if◌then◌else◌, refl, ap, ◌∙◌, inl, inr, ◌⊎◌, arith, eqb-true}
use Rattle.std.proofs.lemmas.Bool.{false≢true}
use Rattle.wg_num.specs.declared.types.IntType.{IntType}
use Rattle.wg_num.specs.declared.types.Place.{Place}
use Rattle.wg_num.specs.Types.{same_type}
use Rattle.cl_model.specs.Tree as tree
use Rattle.cl_model.specs.Tree.{Action, Expression, Expressions, Apply, Update, Choose, Call, none, more, single}
use Rattle.cl_model.specs.Valid.{Scope, Has, ActionNames, NamesIn, NamesAmong}
use Rattle.cl_tree.specs.declared.tree.Form.{Form}
use Rattle.cl_tree.specs.Syntax.{Syntax, Forest, node}
use Rattle.cl_tree.specs.Syntax as trees
use Rattle.cl_limits.specs.Limits.{called_sum}
use Rattle.cl_meaning.specs.declared.kind.Meaning.{Meaning}
use Rattle.cl_meaning.specs.declared.kind.Meaning.TheVariants as meanings
use Rattle.cl_meaning.specs.Environment.{Env, meaning_of}
use Rattle.cl_meaning.specs.Visible.{inside, later, behind, kind_of, visible_at}
use Rattle.cl_meaning.specs.Faults as faults_specs
use Rattle.cl_meaning.specs.Typed.{Piece}
use Rattle.cl_meaning.specs.Expressions.{read, type_in, convert, operand}
use Rattle.cl_meaning.specs.Meant.{meant}
use Rattle.cl_check_sound.specs.Shape.{IsExpression}
use Rattle.cl_check_sound.proofs.Measure.{Weights, action_measure, measure, measures}
use Rattle.cl_check_sound.proofs.Small.{held, MeaningFree}
use Rattle.cl_check_sound.proofs.Holding.{node_calls, extra, extras, same_number, holds}

abbrev pub is_in : Scope → ℕ → Bool
is_in [] x = false
is_in (y ∷ ys) x = if nat_eq y x then true else is_in ys x

-- what is not in scope weighs one
abbrev pub outside : Scope → ℕ → ℕ
outside scope x = if is_in scope x then 0 else 1

-- the variables that are not in scope
abbrev pub strangers : Scope → Weights
strangers scope = record { plain = 0; own = λ s. 0; called = λ g. 0; named = outside scope }

in_scope : (scope : Scope) (x : ℕ) → is_in scope x ≡ true → Has scope x
in_scope [] x h = absurd (false≢true h)
in_scope (y ∷ ys) x h = by (nat_eq y x) refl h (λ z. in_scope ys x z)
  where
    by : (b : Bool) → nat_eq y x ≡ b → (if b then true else is_in ys x) ≡ true → (is_in ys x ≡ true → Has ys x) →
        (y ≡ x) ⊎ Has ys x
    by true e h g = inl (eqb-true y x e)
    by false e h g = inr (g h)

has_is_in : (scope : Scope) (x : ℕ) → Has scope x → is_in scope x ≡ true
has_is_in [] x h = absurd h
has_is_in (y ∷ ys) x (inl e) = by (nat_eq y x) (ap (λ z. nat_eq z x) e ∙ same_number x)
  where
    by : (b : Bool) → b ≡ true → (if b then true else is_in ys x) ≡ true
    by true h = refl
    by false h = absurd (false≢true h)
has_is_in (y ∷ ys) x (inr h) = by (nat_eq y x) (has_is_in ys x h)
  where
    by : (b : Bool) → is_in ys x ≡ true → (if b then true else is_in ys x) ≡ true
    by true e = refl
    by false e = e

pub has_weighs : (scope : Scope) (x : ℕ) → Has scope x → outside scope x ≡ 0
has_weighs scope x h = ap (λ b. if b then 0 else 1) (has_is_in scope x h)

weighs_has : (scope : Scope) (x : ℕ) → outside scope x ≤ 0 → Has scope x
weighs_has scope x h = in_scope scope x (by (is_in scope x) h)
  where
    by : (b : Bool) → (if b then 0 else 1) ≤ 0 → b ≡ true
    by true h = refl
    by false h = absurd (omega arith)

action_named : (scope : Scope) (a : Action) → action_measure (strangers scope) a ≤ 0 → ActionNames scope a
action_named scope (tree.Variable x) h = weighs_has scope x (omega arith)
action_named scope (tree.Set x) h = weighs_has scope x (omega arith)
action_named scope (tree.Change x op of back old) h = weighs_has scope x (omega arith)
action_named scope (tree.Load site t root) h = tt
action_named scope (tree.Store site t root) h = tt
action_named scope (tree.Literal v of) h = tt
action_named scope (tree.Unary op of) h = tt
action_named scope (tree.Binary op of) h = tt
action_named scope (tree.Builtin g of) h = tt
action_named scope (tree.Convert to) h = tt
action_named scope (tree.Ask what) h = tt
action_named scope tree.Second h = tt
action_named scope tree.Truth h = tt
action_named scope (tree.Decided answer) h = tt

mutual
  names_in : (scope : Scope) (e : Expression) → measure (strangers scope) e ≤ 0 → NamesIn scope e
  names_in scope (Apply a es) h = (action_named scope a (omega arith), names_among scope es (omega arith))
  names_in scope (Update site t root op of back old i v) h =
      (names_in scope i (omega arith), names_in scope v (omega arith))
  names_in scope (Choose site c a b) h =
      (names_in scope c (omega arith), names_in scope a (omega arith), names_in scope b (omega arith))
  names_in scope (Call site g roots es) h = names_among scope es (omega arith)

  names_among : (scope : Scope) (es : Expressions) → measures (strangers scope) es ≤ 0 → NamesAmong scope es
  names_among scope none h = tt
  names_among scope (more e es) h = (names_in scope e (omega arith), names_among scope es (omega arith))

-- ---- what is visible is in scope

abbrev pub MeaningScoped : Scope → Meaning → Type 0
MeaningScoped scope (meanings.Scalar t c x) = Has scope x
MeaningScoped scope (meanings.Pointer s e c r fixed x) = Has scope x
MeaningScoped scope m = Unit {0}

abbrev pub Scoped : Scope → Env → Type 0
Scoped scope env = (q : List ℕ) (m : Meaning) → meaning_of env q ≡ Some m → MeaningScoped scope m

meaning_free : (scope : Scope) (m : Meaning) → MeaningScoped scope m → MeaningFree (strangers scope) m
meaning_free scope (meanings.Scalar t c x) h = has_weighs scope x h
meaning_free scope (meanings.Pointer s e c r fixed x) h = has_weighs scope x h
meaning_free scope (meanings.Object s e c r) h = tt
meaning_free scope (meanings.Array s e c r i) h = tt
meaning_free scope (meanings.Function n) h = tt
meaning_free scope meanings.Undefined h = tt
meaning_free scope meanings.Kernel h = tt

held_nothing : (scope : Scope) (n : ℕ) → held (strangers scope) n ≡ 0
held_nothing scope zero = refl
held_nothing scope (suc n) = let e = held_nothing scope n in omega arith

pub calls_nothing : (cs : List faults_specs.Call) (k : ℕ) → called_sum (λ g. 0) cs k ≡ 0
calls_nothing [] k = refl
calls_nothing (c ∷ cs) k = let e = calls_nothing cs k in by (nat_eq c.caller k) e
  where
    by : (b : Bool) → called_sum (λ g. 0) cs k ≡ 0 → (if b then 0 else 0) + called_sum (λ g. 0) cs k ≡ 0
    by true e = omega arith
    by false e = omega arith

mutual
  extra_nothing : (scope : Scope) (k : ℕ) (env : Env) (t : Syntax) → extra (strangers scope) k env t ≡ 0
  extra_nothing scope k env (node form w f l parts) =
      let a = extras_nothing scope k (inside env form w) form true parts in
      let b = calls_nothing (node_calls (visible_at env (node form w f l parts)) form w) k in
      omega arith

  extras_nothing : (scope : Scope) (k : ℕ) (env : Env) (form : Form) (front : Bool) (parts : Forest) →
      extras (strangers scope) k env form front parts ≡ 0
  extras_nothing scope k env form front trees.none = refl
  extras_nothing scope k env form front (trees.more p ps) =
      let a = extra_nothing scope k env p in
      let b = extras_nothing scope k (later (behind env p) form front p (kind_of env p)) form false ps in
      omega arith

-- each variable of an expression is in scope where all visible ones are
pub expression_scoped : (scope : Scope) (env : Env) (sites : List Place) (t : Syntax) → IsExpression t →
    Scoped scope env → NamesIn scope (read (meant env sites t).piece.what)
expression_scoped scope env sites t h s =
    let x =
    (holds (strangers scope) env.owner.number env sites t h (λ q m e. meaning_free scope m (s q m e)) refl).bound in
    let a = held_nothing scope (length sites) in
    let b = held_nothing scope (length (meant env sites t).sites) in
    let c = extra_nothing scope env.owner.number env t in
    names_in scope (read (meant env sites t).piece.what) (omega arith)

pub convert_scoped : (scope : Scope) (to from : IntType) (e : Expression) → NamesIn scope e →
    NamesIn scope (convert to from e)
convert_scoped scope to from e h = by (same_type to from)
  where
    by : (b : Bool) → NamesIn scope (if b then e else Apply (tree.Convert to) (single e))
    by true = h
    by false = (tt, (h, tt))

pub operand_scoped : (scope : Scope) (to : IntType) (p : Piece) → NamesIn scope (read p.what) →
    NamesIn scope (operand to p)
operand_scoped scope to p h = convert_scoped scope to (type_in p.kind) (read p.what) h
